use Rattle.std.proofs.Common.{◌≡◌, ◌<◌, false, arith, ap, ◌∙◌, length}
use Rattle.std.proofs.lemmas.List.{length-set}
use Rattle.std.specs.Prelude.{is_some, slice_index_or, None, Some}
use Rattle.far_model.specs.Snapshots.{Job}
use Rattle.snapshot_core.specs.Parts.{parts_there}
use Rattle.snapshot_core.proofs.Counted.{there_set}
use Rattle.snapshot_core.proofs.job.Job.part.Goals as goal

pub invariant_of-self : goal.invariant_of-self
invariant_of-self c =
    let parts : c.self.inside.parts ≡ c.args.self.now.parts = ap (λ (j : Job). j.parts) c.self.view_is in
    let within : c.args.slot < length c.self.inside.parts = omega (arith, c.requires.slot, ap length parts) in
    let first : is_some (slice_index_or c.self.inside.parts c.args.slot None) ≡ false = ap (λ parts. is_some (slice_index_or parts c.args.slot None)) parts ∙ c.requires.first in
    record {
      come = omega (arith, ap parts_there c.put.ensures, there_set c.self.inside.parts c.args.slot c.args.view within first, c.self.invariant.come);
      few = omega (arith, ap length c.put.ensures, length-set c.self.inside.parts c.args.slot (Some c.args.view), c.self.invariant.few);
    }

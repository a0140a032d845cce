use Rattle.std.proofs.Common.{ap, sym, ◌∙◌}
use Rattle.std.specs.Prelude.{nat_eq}
use Rattle.std.specs.List.{list_all}
use Rattle.far_model.specs.Rounds.{Round, has_told}
use Rattle.recovery.proofs.Counted.{all_told}
use Rattle.recovery.proofs.round.Round.have_all_told.Goals as goal

pub returns : goal.returns
returns c =
    ap (λ n. nat_eq n 0) c.self.invariant.clients
    ∙ sym (all_told c.self.inside.tellings.items)
    ∙ ap (λ (r : Round). list_all has_told r.told) c.self.view_is

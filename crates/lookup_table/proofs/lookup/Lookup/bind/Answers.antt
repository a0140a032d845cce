use Rattle.std.proofs.Common.{ap, ◌∙◌, List, Option, None, Some, ℕ}
use Rattle.std.specs.Prelude.{slice_set}
use Rattle.std.proofs.lemmas.List.{set-set}
use Rattle.lookup_table.proofs.lookup.Lookup.bind.Goals as goal

pub returns-clause-bound : goal.returns-clause-bound
returns-clause-bound c =
    c.add.ensures.bound
    ∙ ap (λ (b : List (Option (List ℕ))). slice_set b c.args.slot (Some c.args.key)) (c.unbind_slot.ensures.bound ∙ ap (λ (b : List (Option (List ℕ))). slice_set b c.args.slot None) c.unbind.ensures.bound)
    ∙ set-set _ c.args.slot None (Some c.args.key)

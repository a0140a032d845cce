use Rattle.std.proofs.Common.{ap, sym, ◌∙◌}
use Rattle.std.specs.Prelude.{nat_eq, is_some}
use Rattle.std.specs.List.{list_all}
use Rattle.far_model.specs.Rounds.{Round}
use Rattle.recovery.proofs.Counted.{all_topped}
use Rattle.recovery.proofs.round.Round.have_all_topped.Goals as goal

pub returns : goal.returns
returns c =
    ap (λ n. nat_eq n 0) c.self.invariant.servers
    ∙ sym (all_topped c.self.inside.tops.items)
    ∙ ap (λ (r : Round). list_all is_some r.tops) c.self.view_is

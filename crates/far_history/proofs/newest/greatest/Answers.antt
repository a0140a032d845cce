use Rattle.std.proofs.Common.{sym, subst}
use Rattle.std.proofs.lemmas.Result.{IfOk-weaker}
use Rattle.far_model.specs.History.{IsNewestPerKey}
use Rattle.far_history.proofs.NewestLaws.{newest_per_key}
use Rattle.far_history.proofs.newest.greatest.Goals as goal

pub returns : goal.returns
returns c =
    let h = newest_per_key c.args.list.now c.in_ok-newest.newest c.in_ok-newest.ensures.ordered c.in_ok-newest.ensures.newest in
    IfOk-weaker c.records_of.result _ _ (λ records e. subst (IsNewestPerKey c.args.list.now) (sym e) h) c.records_of.ensures

use Rattle.std.proofs.Common.{◌++◌, ◌∷◌, [], List, take, sym, subst, arith}
use Rattle.std.proofs.lemmas.List.{take_all, take_more}
use Rattle.std.specs.Ordering.{nat_cmp}
use Rattle.std.specs.Cmp.Lexicographic.{slice_cmp}
use Rattle.std.specs.BTreeMap.{get}
use Rattle.far_base.specs.declared.record.Record.{Record as Held}
use Rattle.far_history.specs.Newest.{IsNewestOf}
use Rattle.far_history.proofs.newest.newest_of.Goals as goal

pub loop-rec-preserved : goal.loop-rec-preserved
loop-rec-preserved c = record {
  newest = λ key. subst (λ (records : List Held). IsNewestOf records key (get (slice_cmp nat_cmp) c.take_newer.new.newest key)) (sym (take_more c.args.list.now c.loop-rec.rec-index c.rec-item.result c.loop-rec-test.true)) (subst (λ (r : Held). IsNewestOf (take c.loop-rec.rec-index c.args.list.now ++ r ∷ []) key (get (slice_cmp nat_cmp) c.take_newer.new.newest key)) c.rec-item.is (c.in_ok-take_newer.ensures.newest (take c.loop-rec.rec-index c.args.list.now) key (c.loop-rec.invariant.newest key)));
  ordered = c.in_ok-take_newer.ensures.ordered c.loop-rec.invariant.ordered;
}

pub returns-clause-newest : goal.returns-clause-newest
returns-clause-newest c = λ key. subst (λ (records : List Held). IsNewestOf records key (get (slice_cmp nat_cmp) c.loop-rec.newest key)) (take_all c.loop-rec.rec-index c.args.list.now (omega (arith, c.loop-rec-test.false))) (c.loop-rec.invariant.newest key)

use Rattle.std.proofs.Common.{ℕ, List, take}
use Rattle.std.specs.Ordering.{nat_cmp}
use Rattle.std.specs.Cmp.Lexicographic.{slice_cmp}
use Rattle.std.specs.BTreeMap.{get, IsOrdered}
use Rattle.far_history.specs.Newest.{IsNewestOf}
use Rattle.far_history.proofs.newest.newest_of.Given as goal

-- the newest of the records so far
abbrev pub invariant-loop-rec : goal.invariant-loop-rec
invariant-loop-rec l = record {
  newest : (key : List ℕ) → IsNewestOf (take l.rec-index l.list) key (get (slice_cmp nat_cmp) l.newest key);
  ordered : IsOrdered (slice_cmp nat_cmp) l.newest;
}

use Rattle.std.proofs.Common.{◌≡◌, ◌≤◌, ◌++◌, drop}
use Rattle.workload.specs.Rows.{rest_text}
use Rattle.workload.specs.declared.printer.TheConstants.{PICKS_PER_LINE}
use Rattle.workload.proofs.printer.put_picks.Given as goal

-- what is written and what is still to be written are all
abbrev pub invariant-loop-pick : goal.invariant-loop-pick
invariant-loop-pick l = record {
  text : l.out.items ++ rest_text l.place (drop l.pick-index l.picks) ≡ l.fn.out.items ++ rest_text 0 l.picks;
  place : l.place ≤ PICKS_PER_LINE;
}

use Rattle.std.proofs.Common.{◌≡◌, suc, ◌+◌, ◌-◌, List, sym, ◌∙◌, subst, arith}
use Rattle.log_audit.proofs.Steps.{behind_lines, history_step, history_stops}
use Rattle.log_audit.specs.Reading.{◌andthen◌, history_of}
use Rattle.log_audit.specs.declared.line.HistLine.{HistLine}
use Rattle.log_audit.proofs.reader.read_history.Goals as goal

pub returns-in_default-clause-fault : goal.returns-in_default-clause-fault
returns-in_default-clause-fault c =
    let some : c.loop-left.left ≡ suc (c.loop-left.left - 1) = omega (arith, c.loop-left-test.true) in
    sym c.loop-left.invariant.reads ∙ history_stops c.loop-left.left (c.loop-left.left - 1) (c.loop-left.lines.read + 1) c.loop-left.lines.rest.now c.loop-left.history.items some c.in_default.ensures.line

pub loop-left-preserved : goal.loop-left-preserved
loop-left-preserved c =
    let i = c.loop-left.invariant in
    let some : c.loop-left.left ≡ suc (c.loop-left.left - 1) = omega (arith, c.loop-left-test.true) in
    let next : c.next_hist.new.lines.read + 1 ≡ c.loop-left.lines.read + 1 + 1 = omega (arith, c.in-Some.ensures.count) in
    let step = history_step c.loop-left.left (c.loop-left.left - 1) (c.loop-left.lines.read + 1) (c.next_hist.new.lines.read + 1) c.loop-left.lines.rest.now c.next_hist.new.lines.rest.now c.loop-left.history.items c.in-Some.line some next c.in-Some.ensures.line in
    record {
      reads = subst (λ (ls : List HistLine). (history_of (c.loop-left.left - 1) (c.next_hist.new.lines.read + 1) c.next_hist.new.lines.rest.now andthen behind_lines ls) ≡ history_of c.args.count (c.args.lines.now.read + 1) c.args.lines.now.rest.now)
          (sym c.in_ok-extend_from_slice.ensures.items) (sym step ∙ i.reads);
      count = omega (arith, c.in-Some.ensures.count, i.count, c.loop-left-test.true);
      shorter = omega (arith, c.in-Some.ensures.shorter, i.shorter);
    }

use Rattle.std.proofs.Common.{rules, ◌≡◌, ◌+◌, ◌≤◌, Bool, length, sym, ap, ◌∙◌, subst, arith}
use Rattle.std.specs.Prelude.{None, Some}
use Rattle.far_text.specs.Pieces.{pieces}
use Rattle.far_text.specs.declared.lines.Lines.{Lines}
use Rattle.log_audit.proofs.Ends.{end_open, end_step}
use Rattle.log_audit.specs.Reading.{end_fault}
use Rattle.log_audit.proofs.reader.end_fault.Goals as goal

pub loop-line-preserved : goal.loop-line-preserved
loop-line-preserved c =
    let step = end_step c.loop-line.lines.read c.next_line.new.self.read c.loop-line.last c.loop-line.lines.rest.now c.in-Some.line.now c.next_line.new.self.rest.now c.in-Some.ensures.line c.in-Some.ensures.count in
    record {
      fault = subst (λ (b : Bool). end_fault c.next_line.new.self.read (Some b) (pieces 10 c.next_line.new.self.rest.now) ≡ end_fault c.args.lines.now.read None (pieces 10 c.args.lines.now.rest.now)) (sym c.is_word.ensures) (sym step ∙ c.loop-line.invariant.fault);
      within = omega (arith, c.loop-line.invariant.within, c.in-Some.ensures.count, c.in-Some.ensures.shorter);
    }

pub returns-then-not-is_empty : goal.returns-then-not-is_empty
returns-then-not-is_empty c =
    let some : 1 ≤ length c.next_line.new.self.rest.now = search rules in
    let there : 1 ≤ length c.loop-line.lines.rest.now = subst (λ (l : Lines). 1 ≤ length l.rest.now) c.in_default.ensures.kept some in
    ap (λ (l : Lines). Some (l.read + 1)) c.in_default.ensures.kept ∙ sym (end_open c.loop-line.lines.read c.loop-line.last c.loop-line.lines.rest.now c.in_default.ensures.line there) ∙ c.loop-line.invariant.fault

use Rattle.std.proofs.Common.{sym, subst, ap, ◌∙◌, ◌++◌, ◌+◌, ◌≤◌}
use Rattle.std.specs.Prelude.{is_none}
use Rattle.switch_staged.specs.Overlap.{PipelineView, IsRun, standing, given, ticked}
use Rattle.switch_staged.proofs.OverlapLaws.{run_ticks}
use Rattle.switch_staged.proofs.PipeLaws.{standing_ticks, last_answers, counter_ticks}
use Rattle.switch_staged.proofs.pipeline.Pipeline.tick.Goals as goal

pub returns-clause-run : goal.returns-clause-run
returns-clause-run c = λ start entered answered h.
    subst (λ v. IsRun v start entered (answered ++ given c.advance.result)) (sym c.advance.ensures.value)
    (subst (λ r. IsRun (ticked c.args.self.now) start entered (answered ++ given r)) (sym c.advance.ensures.answer) (run_ticks c.args.self.now start entered answered h))

pub returns-clause-standing : goal.returns-clause-standing
returns-clause-standing c = ap standing c.advance.ensures.value ∙ standing_ticks c.args.self.now c.advance.ensures.arrays c.advance.ensures.bodies

pub returns-clause-none : goal.returns-clause-none
returns-clause-none c = ap is_none c.advance.ensures.answer ∙ last_answers c.args.self.now c.advance.ensures.arrays c.advance.ensures.bodies

pub returns-clause-counter : goal.returns-clause-counter
returns-clause-counter c = subst (λ (v : PipelineView). v.registers.gate.counter ≤ c.args.self.now.registers.gate.counter + 1) (sym c.advance.ensures.value) (counter_ticks c.args.self.now.registers.gate c.args.self.now.entering)

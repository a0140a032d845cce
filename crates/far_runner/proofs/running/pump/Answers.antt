use Rattle.std.proofs.Common.{◌≡◌, false, refl, sym, ◌∙◌, subst, arith}
use Rattle.far_model.specs.Runs.{is_quiet}
use Rattle.far_runner.proofs.Picking.{next_is, starts}
use Rattle.far_runner.proofs.Bounding.{on_err, pumped_bound}
use Rattle.far_runner.proofs.Pumping.{begins, ended, failed, steps}
use Rattle.far_runner.specs.Picked.{IsAt}
use Rattle.workload.specs.Picks.{Picking}
use Rattle.far_runner.proofs.running.pump.Goals as goal

pub loop-picker-init : goal.loop-picker-init
loop-picker-init g c =
    let first : IsAt c.args.load.now 0 c.new-picker.result = subst (λ (p : Picking). IsAt c.args.load.now 0 p) (sym c.new-picker.ensures) (starts c.args.load.now) in
    record {
      n = 0;
      pumping = begins c.args.load.now c.args.world.now;
      pick_is = c.next-pick.ensures.pick ∙ (next_is c.args.load.now 0 c.new-picker.result first).0;
      at = subst (λ (p : Picking). IsAt c.args.load.now 1 p) (sym c.next-pick.ensures.rest) (next_is c.args.load.now 0 c.new-picker.result first).1;
      later = omega arith;
      still = refl;
    }

pub loop-picker-preserved : goal.loop-picker-preserved
loop-picker-preserved g c =
    let i = c.loop-picker.invariant in
    let busy : is_quiet c.loop-picker.world.plan c.loop-picker.world.state ≡ false = sym c.quiet.ensures ∙ c.loop-picker-test.true in
    record {
      n = _;
      pumping = steps c.args.load.now c.args.world.now c.loop-picker.world c.step.new.self c.loop-picker.count i.n c.loop-picker.pick c.in_ok-event.event i.pumping busy i.pick_is c.in_ok-event.ensures.stepped;
      pick_is = c.pick_after-pick.ensures.pick i.n i.at i.pick_is;
      at = c.pick_after-pick.ensures.at i.n i.at;
      later = omega (arith, i.later, c.step.ensures.later);
      still = c.in_ok-event.ensures.unfailed ∙ i.still;
    }

pub returns-clause-pumped : goal.returns-clause-pumped
returns-clause-pumped g c =
    let i = c.loop-picker.invariant in
    ended c.args.load.now c.args.world.now c.loop-picker.world c.loop-picker.count i.n i.pumping (sym c.quiet.ensures ∙ c.loop-picker-test.false)

pub returns-clause-bound : goal.returns-clause-bound
returns-clause-bound g c =
    let i = c.loop-picker.invariant in
    pumped_bound c.args.load.now c.args.world.now c.loop-picker.world c.loop-picker.count (ended c.args.load.now c.args.world.now c.loop-picker.world c.loop-picker.count i.n i.pumping (sym c.quiet.ensures ∙ c.loop-picker-test.false)) c.note_bound.ensures

pub returns-in_err-event-clause-some : goal.returns-in_err-event-clause-some
returns-in_err-event-clause-some g c =
    let i = c.loop-picker.invariant in
    on_err c.from_residual.result _ (failed c.args.load.now c.args.world.now c.loop-picker.world c.step.new.self c.loop-picker.count i.n _ i.pumping c.in_err-event.ensures.err)

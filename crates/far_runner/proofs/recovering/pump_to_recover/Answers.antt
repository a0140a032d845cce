use Rattle.std.proofs.Common.{◌≡◌, true, false, refl, sym, ◌∙◌, subst, arith}
use Rattle.std.specs.List.{list_any}
use Rattle.far_base.specs.Limits.{is_stop}
use Rattle.far_base.specs.PlanView.{PlanView}
use Rattle.far_model.specs.Runs.{is_quiet}
use Rattle.far_runner.proofs.Picking.{next_is, starts}
use Rattle.far_runner.proofs.Pumping.{begins, steps}
use Rattle.far_runner.proofs.ToRecovery.{each_push, none_yet, not_finished, recovered}
use Rattle.far_runner.specs.Picked.{IsAt}
use Rattle.workload.specs.Picks.{Picking}
use Rattle.far_runner.proofs.recovering.pump_to_recover.Goals as goal

pub loop-picker-init : goal.loop-picker-init
loop-picker-init g c =
    let first : IsAt c.args.load.now 0 c.new-picker.result = subst (λ (p : Picking). IsAt c.args.load.now 0 p) (sym c.new-picker.ensures) (starts c.args.load.now) in
    record {
      pumping = record {
        n = 0;
        pumping = begins c.args.load.now c.args.world.now;
        pick_is = c.next-pick.ensures.pick ∙ (next_is c.args.load.now 0 c.new-picker.result first).0;
        at = subst (λ (p : Picking). IsAt c.args.load.now 1 p) (sym c.next-pick.ensures.rest) (next_is c.args.load.now 0 c.new-picker.result first).1;
        later = omega arith;
        still = refl;
      };
      plain = none_yet c.args.world.now.events c.requires.no_step;
    }

pub loop-picker-preserved : goal.loop-picker-preserved
loop-picker-preserved g c =
    let i = c.loop-picker.invariant.pumping in
    let busy : is_quiet c.loop-picker.world.plan c.loop-picker.world.state ≡ false = sym c.quiet.ensures ∙ c.loop-picker-test.true in
    record {
      pumping = record {
        n = _;
        pumping = steps c.args.load.now c.args.world.now c.loop-picker.world c.step.new.self c.loop-picker.count i.n c.loop-picker.pick c.in_ok-event.event i.pumping busy i.pick_is c.in_ok-event.ensures.stepped;
        pick_is = c.pick_after-pick.ensures.pick i.n i.at i.pick_is;
        at = c.pick_after-pick.ensures.at i.n i.at;
        later = omega (arith, i.later, c.step.ensures.later);
        still = c.in_ok-event.ensures.unfailed ∙ i.still;
      };
      plain = each_push c.loop-picker.world.events c.step.new.self.events c.in_ok-event.event c.in_ok-event.ensures.stepped.events c.loop-picker.invariant.plain (c.begins_recovery.ensures.no c.if-begins_recovery.false);
    }

pub returns-clause-pumped : goal.returns-clause-pumped
returns-clause-pumped g c =
    let i = c.loop-picker.invariant in
    let stop : list_any is_stop c.loop-picker.world.plan.orders ≡ true = subst (λ (p : PlanView). list_any is_stop p.orders ≡ true) (sym i.pumping.pumping.gone.plan) c.requires.stops in
    absurd (not_finished c.loop-picker.world c.recoveries_begin.ensures.begins c.note_reached.ensures.reached stop (c.note_reached.ensures.finished ∙ (sym c.quiet.ensures ∙ c.loop-picker-test.false)) i.plain)

pub returns-then-begins_recovery-clause-pumped : goal.returns-then-begins_recovery-clause-pumped
returns-then-begins_recovery-clause-pumped g c =
    let i = c.loop-picker.invariant.pumping in
    let busy : is_quiet c.loop-picker.world.plan c.loop-picker.world.state ≡ false = sym c.quiet.ensures ∙ c.loop-picker-test.true in
    recovered c.args.load.now c.args.world.now c.loop-picker.world c.step.new.self c.loop-picker.count i.n c.loop-picker.pick c.in_ok-event.event (λ plan s. refl) c.requires.no_step c.loop-picker.invariant.plain (c.begins_recovery.ensures.yes c.if-begins_recovery.true) i.pumping busy i.pick_is c.in_ok-event.ensures.stepped

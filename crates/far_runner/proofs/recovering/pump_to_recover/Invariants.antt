use Rattle.far_model.specs.Members.{Each}
use Rattle.far_model.specs.Work.{work_left}
use Rattle.far_runner.proofs.Pumping.{IsPumping}
use Rattle.far_runner.proofs.ToRecovery.{NoRecovery}
use Rattle.far_runner.proofs.recovering.pump_to_recover.Given as goal

abbrev pub invariant-loop-picker : goal.invariant-loop-picker
invariant-loop-picker g l = record {
  pumping : IsPumping l.load l.fn.world l.world l.count l.picker l.pick;
  plain : Each NoRecovery l.world.events;
}

abbrev pub decreases-loop-picker : goal.decreases-loop-picker
decreases-loop-picker g l = work_left l.world.plan l.world.state

use Rattle.far_model.specs.Work.{work_left}
use Rattle.far_runner.proofs.Pumping.{IsPumping}
use Rattle.far_runner.proofs.running.pump.Given as goal

abbrev pub invariant-loop-picker : goal.invariant-loop-picker
invariant-loop-picker g l = IsPumping l.load l.fn.world l.world l.count l.picker l.pick

abbrev pub decreases-loop-picker : goal.decreases-loop-picker
decreases-loop-picker g l = work_left l.world.plan l.world.state

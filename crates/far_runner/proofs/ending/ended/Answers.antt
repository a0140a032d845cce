use Rattle.std.proofs.Common.{rules, ◌≡◌, true}
use Rattle.far_model.specs.Runs.{is_finished}
use Rattle.far_world.specs.Scene.{Tells}
use Rattle.far_runner.proofs.ending.ended.Goals as goal

pub returns : goal.returns
returns g c =
    let finished : is_finished c.pump.new.world.plan c.pump.new.world.state ≡ true = search rules in
    let tells : Tells c.pump.new.world.keeper.records = search rules in
    record {
      plan_is = search rules;
      finished = finished;
      answered = c.log-log.ensures.answered finished;
      run = c.log-log.ensures.reached.told tells;
      reached = c.log-log.ensures.reached;
      tells = tells;
    }

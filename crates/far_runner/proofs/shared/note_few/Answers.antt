use Rattle.far_runner.proofs.Answering.{few_answers}
use Rattle.far_runner.proofs.shared.note_few.Goals as goal

pub returns-clause-few : goal.returns-clause-few
returns-clause-few g c = few_answers c.steps_counted.ensures.step c.runs_have_room.ensures.room c.args.world.now c.log-log.ensures.reached

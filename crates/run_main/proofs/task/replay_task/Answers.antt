use Rattle.run_main.proofs.Taskings.{replay_not_read, replay_read}
use Rattle.run_main.proofs.task.replay_task.Goals as goal

pub returns-in-Ok-clause-read : goal.returns-in-Ok-clause-read
returns-in-Ok-clause-read g c = replay_read _ _ _ c.in-Ok.load c.in-Ok.ensures.read c.in-Ok.ensures.plain c.in-Ok.ensures.whole c.in-Ok.ensures.end

pub returns-in-Err-clause-read : goal.returns-in-Err-clause-read
returns-in-Err-clause-read g c = replay_not_read _ _ _ c.in-Err.status c.in-Err.ensures.cause c.in-Err.ensures.first c.in-Err.ensures.calm

use Rattle.run_main.proofs.Taskings.{image_not_read, image_read}
use Rattle.run_main.proofs.task.image_task.Goals as goal

pub returns-in-Ok-clause-read : goal.returns-in-Ok-clause-read
returns-in-Ok-clause-read g c = image_read _ _ _ c.in-Ok.load c.in-Ok.ensures.read c.in-Ok.ensures.plain c.in-Ok.ensures.end

pub returns-in-Err-clause-read : goal.returns-in-Err-clause-read
returns-in-Err-clause-read g c = image_not_read _ _ _ c.in-Err.status c.in-Err.ensures.cause c.in-Err.ensures.first c.in-Err.ensures.calm

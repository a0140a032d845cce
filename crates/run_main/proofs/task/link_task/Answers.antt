use Rattle.run_main.proofs.Taskings.{link_not_read, link_read}
use Rattle.run_main.proofs.task.link_task.Goals as goal

pub returns-in-Ok-clause-read : goal.returns-in-Ok-clause-read
returns-in-Ok-clause-read g c = link_read _ _ _ c.in-Ok.script c.in-Ok.ensures.read c.in-Ok.ensures.events c.in-Ok.ensures.end

pub returns-in-Err-clause-read : goal.returns-in-Err-clause-read
returns-in-Err-clause-read g c = link_not_read _ _ _ c.in-Err.status c.in-Err.ensures.cause c.in-Err.ensures.first c.in-Err.ensures.calm

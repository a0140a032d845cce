use Rattle.run_main.proofs.Taskings.{recover_not_read, recover_read}
use Rattle.run_main.proofs.task.recover_task.Goals as goal

pub returns-in-Ok-clause-read : goal.returns-in-Ok-clause-read
returns-in-Ok-clause-read g c = recover_read _ _ _ c.in-Ok.image c.in-Ok.ensures.read c.in-Ok.ensures.end

pub returns-in-Err-clause-read : goal.returns-in-Err-clause-read
returns-in-Err-clause-read g c = recover_not_read _ _ _ c.in-Err.status c.in-Err.ensures.cause c.in-Err.ensures.first c.in-Err.ensures.calm

use Rattle.run_main.proofs.Taskings.{audit_not_read, audit_read}
use Rattle.run_main.proofs.task.audit_task.Goals as goal

pub returns-in-Ok-clause-read : goal.returns-in-Ok-clause-read
returns-in-Ok-clause-read g c = audit_read _ _ _ c.in-Ok.ensures.approved c.in-Ok.ensures.end

pub returns-in-Err-clause-read : goal.returns-in-Err-clause-read
returns-in-Err-clause-read g c = audit_not_read (Unit {0}) _ _ _ c.in-Err.status c.in-Err.ensures.cause c.in-Err.ensures.first c.in-Err.ensures.calm

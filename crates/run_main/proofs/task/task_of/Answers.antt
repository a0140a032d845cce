use Rattle.run_main.proofs.Taskings.{bulk_read}
use Rattle.run_main.proofs.task.task_of.Goals as goal

pub returns-in-Bulk-clause-read : goal.returns-in-Bulk-clause-read
returns-in-Bulk-clause-read g c = rw c.in-Bulk.is (bulk_read c.in-Bulk.start c.in-Bulk.ops _ _ c.bulk_task.result c.bulk_task.ensures.task c.bulk_task.ensures.plain c.bulk_task.ensures.few c.bulk_task.ensures.many c.bulk_task.ensures.memory)

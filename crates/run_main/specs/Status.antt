-- How a top call ended: the number of the program's exit, and the status of a faulty workload, image or report.
use Rattle.std.specs.Prelude.{ℕ}
use Rattle.kept_image.specs.declared.fault.ImageFault.{ImageFault}
use Rattle.kept_image.specs.declared.fault.ImageFault.TheVariants.{BadLine as BadImageFault, Conflict as ConflictFault}
use Rattle.kept_image.specs.declared.fault.ImageFault.TheVariants.{Memory as NoImageMemory}
use Rattle.log_audit.specs.declared.fault.AuditFault.{AuditFault}
use Rattle.log_audit.specs.declared.fault.AuditFault.TheVariants.{BadLine as BadReportFault, TooLarge as TooLargeReport}
use Rattle.log_audit.specs.declared.fault.AuditFault.TheVariants.{Memory as NoReportMemory}
use Rattle.workload.specs.declared.fault.Limit.TheVariants.{Ops}
use Rattle.workload.specs.declared.fault.WorkFault.{WorkFault}
use Rattle.workload.specs.declared.fault.WorkFault.TheVariants.{BadLine as BadLineFault, TooLarge as TooLargeFault}
use Rattle.workload.specs.declared.fault.WorkFault.TheVariants.{Memory as NoMemory}
use Rattle.run_main.specs.declared.status.Status.{Status}
use Rattle.run_main.specs.declared.status.Status.TheVariants.{Done, Usage, BadLine, ReadFault, WriteFault, KeeperFault}
use Rattle.run_main.specs.declared.status.Status.TheVariants.{Memory, TooLarge, BadImage, Conflict, Wrong}

-- the number with which the program ends
abbrev pub exit_number : Status → ℕ
exit_number Done = 0
exit_number Usage = 2
exit_number (BadLine line) = 3
exit_number ReadFault = 4
exit_number WriteFault = 5
exit_number KeeperFault = 6
exit_number Memory = 7
exit_number (TooLarge limit line) = 8
exit_number (BadImage line) = 9
exit_number (Conflict line) = 9
exit_number (Wrong line) = 11

abbrev pub status_of : WorkFault → Status
status_of (BadLineFault line) = BadLine line
status_of (TooLargeFault limit line) = TooLarge limit line
status_of NoMemory = Memory

abbrev pub image_status_of : ImageFault → Status
image_status_of (BadImageFault line) = BadImage line
image_status_of (ConflictFault line) = Conflict line
image_status_of NoImageMemory = Memory

abbrev pub audit_status_of : AuditFault → Status
audit_status_of (BadReportFault line) = BadLine line
audit_status_of (TooLargeReport line) = TooLarge Ops line
audit_status_of NoReportMemory = Memory

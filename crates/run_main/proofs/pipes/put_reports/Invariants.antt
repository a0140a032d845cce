use Rattle.std.proofs.Common.{take}
use Rattle.run_main.specs.PipeWorlds.{HasReports}
use Rattle.run_main.proofs.pipes.put_reports.Given as goal

abbrev pub invariant-loop-pipe : goal.invariant-loop-pipe
invariant-loop-pipe l = HasReports (take l.pipe l.worlds) l.fn.out.items l.out.items

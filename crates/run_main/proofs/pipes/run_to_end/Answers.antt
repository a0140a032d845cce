use Rattle.run_main.proofs.Piping.{pipes_report_is}
use Rattle.run_main.proofs.pipes.run_to_end.Goals as goal

pub returns : goal.returns
returns g c = pipes_report_is c.args.load.now.plan c.args.pipes c.in_ok-worlds.worlds.items _ c.in_ok-text.text.items c.in_ok-worlds.ensures
    (rw c.deref.ensures.value at c.in_ok-text.ensures) c.in_ok-events.ensures c.finished_runs_are_linearizable.ensures c.restarts_restore.ensures.blocks

use Rattle.std.proofs.Common.{Some, ◌∙◌}
use Rattle.run_main.proofs.Endings.{wrote_usage}
use Rattle.run_main.proofs.Telling.{tells_report}
use Rattle.run_main.proofs.top.top_calm.Goals as goal

pub returns-in-None-clause-written : goal.returns-in-None-clause-written
returns-in-None-clause-written g c = wrote_usage _ (g.S.Source.left c.args.source.now) (g.K.Keeper.records c.args.keeper) _ _ _ c.in-None.ensures.command c.refuse.ensures.said

pub returns-in-Some-clause-linearizable : goal.returns-in-Some-clause-linearizable
returns-in-Some-clause-linearizable g c = λ replay done. tells_report (Some c.in-Some.command) _ _ _ _ _ c.obey.ensures.written (c.in-Some.ensures.command ∙ replay) done

use Rattle.std.proofs.Common.{rules, refl}
use Rattle.far_outside.specs.Faults.{Rose}
use Rattle.run_main.proofs.Endings.{due_text, fault_kinds, settled_early, wrote}
use Rattle.run_main.proofs.FaultCountings.{refused, unfailed_fault}
use Rattle.run_main.specs.Texts.{IsTextOf, SeesTask}
use Rattle.run_main.specs.declared.status.Status.TheVariants.{Done}
use Rattle.run_main.proofs.top.obey.Goals as goal

pub returns-in-Ok-text-clause-written : goal.returns-in-Ok-text-clause-written
returns-in-Ok-text-clause-written g c =
    let made : SeesTask c.in-Ok.task (g.K.Keeper.records c.args.keeper) → IsTextOf c.in-Ok.task c.in-Ok-text.text.items (g.K.Keeper.records c.made_of-text.result.keeper) = λ sees. search rules in
    wrote _ _ _ _ _ c.in-Ok-text.text.items Done _ (due_text _ _ c.in-Ok.task c.in-Ok.ensures.read.asked c.in-Ok.ensures.read.kind _ _ c.in-Ok-text.text.items c.made_of-text.ensures.tells made)
    (rw c.deref.ensures.value at c.say.ensures.said)

pub returns-in-Err-clause-settled : goal.returns-in-Err-clause-settled
returns-in-Err-clause-settled g c = settled_early c.args.command _ _ _ _ c.in-Err.status _ c.in-Err.ensures.read.calm c.refuse.ensures.calm

pub returns-in-Err-clause-unfailed : goal.returns-in-Err-clause-unfailed
returns-in-Err-clause-unfailed g c = record {
  source = refused (g.S.Source.left c.args.source.now) _ c.in-Err.status c.refuse.result c.in-Err.ensures.unstopped c.refuse.ensures.answer (λ none. (c.refuse.ensures.silent none).1);
  sink = c.refuse.ensures.unfailed;
  keeper = λ kept remembered. refl;
}

pub returns-in-Err-text-clause-unfailed : goal.returns-in-Err-text-clause-unfailed
returns-in-Err-text-clause-unfailed g c =
    unfailed_fault _ _ _ _ c.in-Err-text.status c.in-Ok.ensures.unfailed refl
    (fault_kinds c.args.command (g.S.Source.left c.args.source.now) c.in-Ok.task c.in-Ok.ensures.read.asked c.in-Ok.ensures.read.kind (Rose (g.K.Keeper.fault_count c.args.keeper) (g.K.Keeper.fault_count c.made_of-text.result.keeper)) c.in-Err-text.status (search rules))

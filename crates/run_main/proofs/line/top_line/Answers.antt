use Rattle.std.proofs.Common.{◌≡◌, sym, ◌∙◌, refl, true≢false}
use Rattle.run_main.proofs.FaultCountings.{refused}
use Rattle.run_main.proofs.LineCalls.{line_due_output, line_settled_early, line_wrote}
use Rattle.run_main.specs.Lines.{usage_line}
use Rattle.run_main.specs.declared.status.Status.TheVariants.{Usage, Done}
use Rattle.run_main.proofs.line.top_line.Goals as goal

pub returns-then-not-is_line-clause-written : goal.returns-then-not-is_line-clause-written
returns-then-not-is_line-clause-written g c =
    line_wrote _ _ _ _ usage_line Usage _ ((λ line. true≢false (sym (c.is_line.ensures.1 line) ∙ c.if-not-is_line.true)), refl) c.refuse.ensures.said

pub returns-in-Err-clause-settled : goal.returns-in-Err-clause-settled
returns-in-Err-clause-settled g c =
    line_settled_early _ _ _ _ c.in-Err.status _ (c.is_line.ensures.0 c.if-not-is_line.false) c.in-Err.ensures.calm c.refuse-in-Err.ensures.calm

pub returns-in-Ok-passed-clause-written : goal.returns-in-Ok-passed-clause-written
returns-in-Ok-passed-clause-written g c =
    line_wrote _ _ _ _ c.in-Ok-passed.text.items Done _
    (line_due_output _ _ c.in-Ok.line _ (c.is_line.ensures.0 c.if-not-is_line.false) c.in-Ok.ensures.read c.in-Ok-passed.ensures)
    (rw c.deref.ensures.value at c.say.ensures.said)

pub returns-in-Err-clause-unfailed_source : goal.returns-in-Err-clause-unfailed_source
returns-in-Err-clause-unfailed_source g c =
    refused (g.S.Source.left c.args.source.now) _ c.in-Err.status c.refuse-in-Err.result c.in-Err.ensures.unstopped c.refuse-in-Err.ensures.answer (λ none. (c.refuse-in-Err.ensures.silent none).1)

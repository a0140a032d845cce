use Rattle.std.proofs.Common.{sym, ◌∙◌}
use Rattle.workload.proofs.Joined.{one_cut}
use Rattle.workload.proofs.parser.join_picks.Goals as goal

pub loop-word-preserved : goal.loop-word-preserved
loop-word-preserved c = sym (one_cut c.args.number c.loop-word.picks.items c.loop-word.rest.now c.in-Some.word.now c.in-Some.behind.now c.push_pick.new.picks.items c.in_ok-push_pick.field-0 c.in-Some.ensures.parts c.in_ok-push_pick.ensures) ∙ c.loop-word.invariant

use Rattle.std.proofs.Common.{refl, rules}
use Rattle.std.proofs.lemmas.Grind.{common_steps}
use Rattle.far_world.proofs.parties.Parties.server_handles.Goals as goal

pub returns-clause-ok : goal.returns-clause-ok
returns-clause-ok g c = rw (← c.self.view_is) (record {
  reply = c.in-Ok.reply;
  kind = rw c.in-Ok.is at c.server_step.ensures.kind;
  told = rw c.in-Ok.is at c.server_step.ensures.reply;
  within = rw c.in-Ok.is at c.server_step.ensures.bound;
  plan = refl;
  state = search (rules, common_steps);
  records = rw c.in-Ok.is at c.server_step.ensures.records;
  ceiling = rw c.in-Ok.is at c.server_step.ensures.ceiling;
  servers = c.server_step.ensures.same_servers;
})

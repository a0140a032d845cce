use Rattle.std.proofs.Common.{◌≡◌, ℕ, length, refl, sym, ap, ◌∙◌, subst, rules}
use Rattle.std.specs.Prelude.{IfSome}
use Rattle.std.proofs.lemmas.Grind.{common_steps}
use Rattle.far_base.specs.declared.plan.Config.{Config}
use Rattle.far_model.specs.Events.{all_listed}
use Rattle.far_world.proofs.parties.Parties.restart.Goals as goal

pub returns-clause-ok : goal.returns-clause-ok
returns-clause-ok g c =
    let count : c.config_of-servers.result.servers ≡ g.K.Keeper.server_count c.self.inside.keeper = ap (λ (k : Config). k.servers) c.config_of-servers.ensures ∙ sym (rw (← c.self.view_is) at c.requires.servers) in
    let config = rw (← c.self.view_is) at c.requires.config in
    rw (← c.self.view_is) (record {
      listed = c.in_ok-records.records.items;
      told = subst (λ (n : ℕ). IfSome (g.K.Keeper.records c.self.inside.keeper) (λ all. length all ≡ n → c.in_ok-records.records.items ≡ all_listed all)) count c.in_ok-records.ensures.told;
      within = c.in_ok-records.ensures.within;
      plan = refl;
      state = rw (c.restart-epoch.ensures.counter, ← config) (search (rules, common_steps));
      records = c.list_all.ensures.same_records;
      ceiling = c.list_all.ensures.same_ceiling;
      servers = c.list_all.ensures.same_servers;
    })

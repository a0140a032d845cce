use Rattle.std.proofs.Common.{◌≡◌, ℕ, refl, ◌∙◌, subst, arith}
use Rattle.far_world.proofs.Keeping.{ArePlaced, more_on, no_more, placed_all, placed_more, placed_none}
use Rattle.far_world.proofs.kept_list.place_servers.Goals as goal

pub loop-server-init : goal.loop-server-init
loop-server-init g c = record {
  told = placed_none (g.K.Keeper.records c.args.keeper.now) c.args.into.now.items;
  more = no_more c.args.into.now.items;
  records = refl;
  servers = refl;
  ceiling = refl;
  unfailed = refl;
  later = omega arith;
}

pub loop-server-preserved : goal.loop-server-preserved
loop-server-preserved g c =
    let h = c.loop-server.invariant in
    let told = rw h.records at c.in_ok-place_server.ensures.told in
    record {
      told = placed_more (g.K.Keeper.records c.args.keeper.now) c.loop-server.server c.args.into.now.items c.loop-server.into.items c.place_server.new.into.items h.told told;
      more = more_on c.args.into.now.items c.loop-server.into.items c.place_server.new.into.items h.more c.in_ok-place_server.ensures.more;
      records = c.place_server.ensures.same_records ∙ h.records;
      servers = c.place_server.ensures.same_servers ∙ h.servers;
      ceiling = c.place_server.ensures.same_ceiling ∙ h.ceiling;
      unfailed = c.in_ok-place_server.ensures.unfailed ∙ h.unfailed;
      later = omega (arith, h.later, c.place_server.ensures.later);
    }

pub returns-clause-told : goal.returns-clause-told
returns-clause-told g c =
    let end : c.loop-server.server ≡ c.args.servers = omega (arith, c.loop-server-test.false, c.loop-server.auto) in
    placed_all (g.K.Keeper.records c.args.keeper.now) c.args.servers c.args.into.now.items c.loop-server.into.items
    (subst (λ (n : ℕ). ArePlaced (g.K.Keeper.records c.args.keeper.now) n c.args.into.now.items c.loop-server.into.items) end c.loop-server.invariant.told)

pub returns-clause-more : goal.returns-clause-more
returns-clause-more g c = (c.loop-server.invariant.more.listed, c.loop-server.invariant.more.behind)

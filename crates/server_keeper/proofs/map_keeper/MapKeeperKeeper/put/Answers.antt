use Rattle.std.proofs.Common.{◌≡◌, OnOk, slice_set, arith, ap, ◌∙◌}
use Rattle.std.proofs.lemmas.Grind.{common_steps}
use Rattle.std.proofs.lemmas.Result.{on_ok_weaker}
use Rattle.far_outside.specs.Keeping.{put_at}
use Rattle.server_keeper.specs.Lists.{top_of_all}
use Rattle.server_keeper.proofs.Tops.{top_put_at}
use Rattle.server_keeper.proofs.map_keeper.MapKeeperKeeper.put.Goals as goal

pub returns-clause-ceiling : goal.returns-clause-ceiling
returns-clause-ceiling c =
    let ok : OnOk c.map_err.result (slice_set c.self.inside.servers.items c.args.server c.put.new.self ≡ put_at c.args.server c.args.rec.now c.args.self.now) = grind (arith, common_steps) in
    on_ok_weaker c.map_err.result (λ e. ap top_of_all e ∙ top_put_at c.args.self.now c.args.server c.args.rec.now c.requires) ok

use Rattle.std.proofs.Common.{◌≡◌, ◌≤◌}
use Rattle.far_world.proofs.Keeping.{ArePlaced, More}
use Rattle.far_world.proofs.kept_list.place_servers.Given as goal

abbrev pub invariant-loop-server : goal.invariant-loop-server
invariant-loop-server g l = record {
  told : ArePlaced (g.K.Keeper.records l.initial.keeper) l.server l.initial.into.items l.into.items;
  more : More l.initial.into.items l.into.items;
  records : g.K.Keeper.records l.keeper ≡ g.K.Keeper.records l.initial.keeper;
  servers : g.K.Keeper.server_count l.keeper ≡ g.K.Keeper.server_count l.initial.keeper;
  ceiling : g.K.Keeper.ceiling l.keeper ≡ g.K.Keeper.ceiling l.initial.keeper;
  unfailed : g.K.Keeper.fault_count l.keeper ≡ g.K.Keeper.fault_count l.initial.keeper;
  later : g.K.Keeper.fault_count l.initial.keeper ≤ g.K.Keeper.fault_count l.keeper;
}

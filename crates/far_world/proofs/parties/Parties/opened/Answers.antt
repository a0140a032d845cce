use Rattle.std.proofs.Common.{◌≡◌, length, refl, ap, ◌∙◌, arith}
use Rattle.std.specs.List.{count_by}
use Rattle.far_world.proofs.Opened.{opening_count, opening_seats_are, opens}
use Rattle.far_world.specs.Choices.{seat_can_send}
use Rattle.far_world.specs.Scene.{keeper_of}
use Rattle.far_world.proofs.parties.Parties.opened.Goals as goal

pub count_senders-senders-requires : goal.count_senders-senders-requires
count_senders-senders-requires g c =
    let seats : length c.deref.result.now ≡ c.args.plan.config.clients = ap length c.deref.ensures.value ∙ (ap length c.in-Ok.ensures ∙ opening_count c.args.plan.ops 0 c.args.plan.config.clients) in
    omega (arith, seats, c.requires.valid.config.clients.1)

pub invariant_of-result : goal.invariant_of-result
invariant_of-result g c = record {
  few = let clients : length c.in-Ok.clients.items ≡ c.args.plan.config.clients = ap length c.in-Ok.ensures ∙ opening_count c.args.plan.ops 0 c.args.plan.config.clients in omega (arith, clients, c.requires.valid.config.clients.1);
  sends = c.count_senders-senders.ensures.count ∙ ap (count_by seat_can_send) c.deref.ensures.value;
  seated = rw c.in-Ok.ensures (opening_seats_are c.args.plan.ops c.args.plan.config.clients);
  config = rw (c.in-Ok-new.ensures, c.config_of-config.ensures) refl;
  ticks = rw c.in-Ok-new.ensures refl;
  counts = refl;
}

pub returns-clause-ok : goal.returns-clause-ok
returns-clause-ok g c =
    opens c.args.plan (keeper_of (g.K.Keeper.records c.args.keeper) (g.K.Keeper.server_count c.args.keeper) (g.K.Keeper.ceiling c.args.keeper) (g.K.Keeper.fault_count c.args.keeper)) (g.S.Switch.seen c.args.switch) c.in-Ok.clients.items c.in-Ok-new.controller c.new-2.result.messages _ c.new-3.result
    (keeper_of (g.K.Keeper.records c.begin.new.keeper) (g.K.Keeper.server_count c.begin.new.keeper) (g.K.Keeper.ceiling c.begin.new.keeper) (g.K.Keeper.fault_count c.begin.new.keeper))
    c.requires.view c.in-Ok.ensures (rw (c.in-Ok-new.ensures, c.config_of-config.ensures) refl) c.new-2.ensures refl c.new-3.ensures.steps c.new-3.ensures.lines
    (rw c.config_of-config.ensures at c.in_default.ensures.records) (rw c.config_of-config.ensures at c.in_default.ensures.servers) c.in_default.ensures.ceiling c.begin.ensures.later

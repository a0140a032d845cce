use Rattle.std.proofs.Common.{◌≡◌, ℕ, ◌-◌, ◌<◌, List, length, subst}
use Rattle.far_base.specs.declared.plan.OpLine.{OpLine}
use Rattle.far_model.specs.Clients.{ClientState}
use Rattle.far_model.specs.Events.{next_sent, sends}
use Rattle.far_world.proofs.Turns.{fit_set, length_clients, own_seat, seat_goes, sender_there, sent_count, some_sends}
use Rattle.std.specs.Prelude.{slice_set}
use Rattle.far_world.specs.Scene.{Scene, keeper_of, scene_of}
use Rattle.far_world.specs.Seats.{TakesTurn, clients_of}
use Rattle.far_world.proofs.parties.Parties.send.Goals as goal

pub send_next-requires-clause-seated : goal.send_next-requires-clause-seated
send_next-requires-clause-seated g c =
    let there = sender_there (clients_of c.self.inside.clients.items) c.args.number (rw (← c.self.view_is) at c.requires.can) in
    let less : c.args.number < length c.self.inside.clients.items = rw length_clients at there in
    rw c.ops_of-ops.ensures (own_seat c.self.inside.plan.ops c.self.inside.clients.items c.args.number c.index_mut-seat.result.now c.index_mut-seat.ensures.value less c.self.invariant.seated)

pub overflow_sub-self : goal.overflow_sub-self
overflow_sub-self g c =
    let can = rw (← c.self.view_is) at c.requires.can in
    let there = sender_there (clients_of c.self.inside.clients.items) c.args.number can in
    let less : c.args.number < length c.self.inside.clients.items = rw length_clients at there in
    some_sends c.self.inside.clients.items c.self.inside.senders c.args.number c.index_mut-seat.result.now c.index_mut-seat.ensures.value less can c.self.invariant.sends

pub invariant_of-self-2 : goal.invariant_of-self-2
invariant_of-self-2 g c =
    let there = sender_there (clients_of c.self.inside.clients.items) c.args.number (rw (← c.self.view_is) at c.requires.can) in
    let less : c.args.number < length c.self.inside.clients.items = rw length_clients at there in
    fit_set c.self.inside.plan c.self.inside.clients.items c.self.inside.senders (c.self.inside.senders - 1) c.self.inside.controller c.self.inside.can_tick c.self.inside.passes c.args.number c.index_mut-seat.result.now c.send_next.new.self c.index_mut-seat.ensures.value less c.self.invariant
    (rw c.ops_of-ops.ensures at c.in_ok-send_next.ensures.ok.seated)
    (sent_count c.ops_of-ops.result.now c.self.inside.clients.items c.self.inside.senders c.args.number c.index_mut-seat.result.now c.send_next.new.self c.index_mut-seat.ensures.value less (rw (← c.self.view_is) at c.requires.can) c.self.invariant.sends c.in_ok-send_next.ensures.ok.state)

pub returns-clause-ok : goal.returns-clause-ok
returns-clause-ok g c =
    let there = sender_there (clients_of c.self.inside.clients.items) c.args.number (rw (← c.self.view_is) at c.requires.can) in
    let less : c.args.number < length c.self.inside.clients.items = rw length_clients at there in
    subst (λ (self : Scene). scene_of c.self.inside.plan (g.S.Switch.seen c.self.inside.switch) c.self.inside.running (slice_set c.self.inside.clients.items c.args.number c.send_next.new.self) c.self.inside.controller c.post.new.bag.messages c.self.inside.passes c.self.inside.done c.post.new.log
    (keeper_of (g.K.Keeper.records c.self.inside.keeper) (g.K.Keeper.server_count c.self.inside.keeper) (g.K.Keeper.ceiling c.self.inside.keeper) (g.K.Keeper.fault_count c.self.inside.keeper)) ≡ record self { state = sends self.plan self.state c.args.number }) c.self.view_is
    (seat_goes c.self.inside.plan (g.S.Switch.seen c.self.inside.switch) c.self.inside.running c.self.inside.clients.items c.self.inside.controller c.self.inside.bag.messages c.self.inside.passes c.self.inside.done c.self.inside.log (keeper_of (g.K.Keeper.records c.self.inside.keeper) (g.K.Keeper.server_count c.self.inside.keeper) (g.K.Keeper.ceiling c.self.inside.keeper) (g.K.Keeper.fault_count c.self.inside.keeper))
    c.args.number c.index_mut-seat.result.now c.send_next.new.self c.make_room.new.turn c.send_next.new.turn c.make_room.new.bag.messages c.post.new.bag.messages c.make_room.new.log c.post.new.log
    (λ (n : ℕ) (s : ClientState). next_sent c.self.inside.plan.ops n s s.left) c.index_mut-seat.ensures.value less c.self.invariant.seated
    (subst (λ (ops : List OpLine). TakesTurn ops c.index_mut-seat.result.now c.make_room.new.turn (next_sent ops c.index_mut-seat.result.now.number c.index_mut-seat.result.now.state c.index_mut-seat.result.now.state.left) c.send_next.new.self c.send_next.new.turn) c.ops_of-ops.ensures c.in_ok-send_next.ensures.ok) c.in_ok-make_room.ensures.turn c.in_ok-make_room.ensures.turn_notes
    c.make_room.ensures.messages c.make_room.ensures.steps c.make_room.ensures.lines c.post.ensures.bag c.post.ensures.log)

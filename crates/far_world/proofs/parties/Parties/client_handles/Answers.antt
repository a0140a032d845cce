use Rattle.std.proofs.Common.{◌≡◌, ℕ, Bool, ◌+◌, ◌-◌, ◌<◌, ◌≤◌, ◌^◌, max, cond, length, sym, ap, ◌∙◌, subst, arith}
use Rattle.far_model.specs.Clients.{ClientState, client_takes}
use Rattle.far_world.proofs.Lists.{get_or_any}
use Rattle.far_world.specs.Seats.{SeatView, client_of}
use Rattle.far_world.proofs.Turns.{client_there, count_stays, counted, counts_one, few_noted, few_told, fit_set, length_clients, own_seat, seat_goes, sends_one}
use Rattle.far_world.proofs.parties.Parties.client_handles.Goals as goal

pub post-requires-clause-bag_room : goal.post-requires-clause-bag_room
post-requires-clause-bag_room g c =
    let there : c.args.number < length c.self.inside.clients.items = let h = rw (← c.self.view_is) at c.requires.there in rw length_clients at h in
    let took = c.take.ensures c.self.inside.plan.ops (own_seat c.self.inside.plan.ops c.self.inside.clients.items c.args.number c.index_mut-seat.result.now c.index_mut-seat.ensures.value there c.self.invariant.seated) in
    let same : c.index.result.now ≡ c.index_mut-seat.result.now = c.index.ensures ∙ (get_or_any c.self.inside.clients.items c.args.number c.index.result.now c.index_mut-seat.result.now there ∙ sym c.index_mut-seat.ensures.value) in
    let most : c.most_sent-most.result ≡ max (length c.index_mut-seat.result.now.state.preserved) 1 = c.most_sent-most.ensures ∙ ap (λ (s : SeatView). max (length s.state.preserved) 1) same in
    let told : length c.take.new.turn.out.items ≤ max (length c.index_mut-seat.result.now.state.preserved) 1 =
    counted c.make_room.new.turn.out.items c.take.new.turn.out.items (client_takes c.self.inside.plan.ops c.index_mut-seat.result.now.number c.index_mut-seat.result.now.state c.args.packet.now).out (max (length c.index_mut-seat.result.now.state.preserved) 1) c.in_ok-make_room.ensures.turn took.out (few_told c.self.inside.plan.ops c.index_mut-seat.result.now.number c.index_mut-seat.result.now.state c.args.packet.now) in
    omega (arith, told, most, c.take.new.turn.out.ok.0, c.in_ok-make_room.ensures.bag_room)

pub post-requires-clause-few : goal.post-requires-clause-few
post-requires-clause-few g c =
    let there : c.args.number < length c.self.inside.clients.items = let h = rw (← c.self.view_is) at c.requires.there in rw length_clients at h in
    let took = c.take.ensures c.self.inside.plan.ops (own_seat c.self.inside.plan.ops c.self.inside.clients.items c.args.number c.index_mut-seat.result.now c.index_mut-seat.ensures.value there c.self.invariant.seated) in
    let told : length c.take.new.turn.out.items ≤ max (length c.index_mut-seat.result.now.state.preserved) 1 =
    counted c.make_room.new.turn.out.items c.take.new.turn.out.items (client_takes c.self.inside.plan.ops c.index_mut-seat.result.now.number c.index_mut-seat.result.now.state c.args.packet.now).out (max (length c.index_mut-seat.result.now.state.preserved) 1) c.in_ok-make_room.ensures.turn took.out (few_told c.self.inside.plan.ops c.index_mut-seat.result.now.number c.index_mut-seat.result.now.state c.args.packet.now) in
    let few : length c.index_mut-seat.result.now.state.preserved < 2 ^ 28 =
    subst (λ (s : ClientState). length s.preserved < 2 ^ 28) (client_there c.self.inside.clients.items c.args.number c.index_mut-seat.result.now there ∙ ap client_of (sym c.index_mut-seat.ensures.value)) (rw (← c.self.view_is) at c.requires.preserved) in
    let bag = rw (← c.self.view_is) at c.requires.few in
    omega (arith, told, few, bag, ap length c.make_room.ensures.messages, c.take.new.turn.out.ok.0)

pub post-requires-clause-log_room : goal.post-requires-clause-log_room
post-requires-clause-log_room g c =
    let there : c.args.number < length c.self.inside.clients.items = let h = rw (← c.self.view_is) at c.requires.there in rw length_clients at h in
    let took = c.take.ensures c.self.inside.plan.ops (own_seat c.self.inside.plan.ops c.self.inside.clients.items c.args.number c.index_mut-seat.result.now c.index_mut-seat.ensures.value there c.self.invariant.seated) in
    let noted = counted c.make_room.new.turn.notes.items c.take.new.turn.notes.items (client_takes c.self.inside.plan.ops c.index_mut-seat.result.now.number c.index_mut-seat.result.now.state c.args.packet.now).notes 1 c.in_ok-make_room.ensures.turn_notes took.notes (few_noted c.self.inside.plan.ops c.index_mut-seat.result.now.number c.index_mut-seat.result.now.state c.args.packet.now) in
    omega (arith, noted, c.take.new.turn.notes.ok.0, c.in_ok-make_room.ensures.log_room)

pub overflow_sub-self : goal.overflow_sub-self
overflow_sub-self g c =
    let there : c.args.number < length c.self.inside.clients.items = let h = rw (← c.self.view_is) at c.requires.there in rw length_clients at h in
    let before : c.one_if-before.result ≡ sends_one c.index_mut-seat.result.now = c.one_if-before.ensures.value ∙ ap (λ (b : Bool). cond {A = ℕ} b 1 0) c.can_send.ensures in
    let least = counts_one c.self.inside.clients.items c.args.number c.index_mut-seat.result.now c.index_mut-seat.ensures.value there in
    omega (arith, before, least, c.self.invariant.sends)

pub overflow_add-self : goal.overflow_add-self
overflow_add-self g c =
    let there : c.args.number < length c.self.inside.clients.items = let h = rw (← c.self.view_is) at c.requires.there in rw length_clients at h in
    let before : c.one_if-before.result ≡ sends_one c.index_mut-seat.result.now = c.one_if-before.ensures.value ∙ ap (λ (b : Bool). cond {A = ℕ} b 1 0) c.can_send.ensures in
    let after : c.one_if.result ≡ sends_one c.take.new.self = c.one_if.ensures.value ∙ ap (λ (b : Bool). cond {A = ℕ} b 1 0) c.can_send-2.ensures in
    let stays = count_stays c.self.inside.clients.items c.args.number c.index_mut-seat.result.now c.take.new.self c.index_mut-seat.ensures.value there in
    omega (arith, before, after, stays, c.self.invariant.sends, c.self.invariant.few)

pub invariant_of-self-2 : goal.invariant_of-self-2
invariant_of-self-2 g c =
    let there : c.args.number < length c.self.inside.clients.items = let h = rw (← c.self.view_is) at c.requires.there in rw length_clients at h in
    let took = c.take.ensures c.self.inside.plan.ops (own_seat c.self.inside.plan.ops c.self.inside.clients.items c.args.number c.index_mut-seat.result.now c.index_mut-seat.ensures.value there c.self.invariant.seated) in
    let before : c.one_if-before.result ≡ sends_one c.index_mut-seat.result.now = c.one_if-before.ensures.value ∙ ap (λ (b : Bool). cond {A = ℕ} b 1 0) c.can_send.ensures in
    let after : c.one_if.result ≡ sends_one c.take.new.self = c.one_if.ensures.value ∙ ap (λ (b : Bool). cond {A = ℕ} b 1 0) c.can_send-2.ensures in
    let least = counts_one c.self.inside.clients.items c.args.number c.index_mut-seat.result.now c.index_mut-seat.ensures.value there in
    fit_set c.self.inside.plan c.self.inside.clients.items c.self.inside.senders (c.self.inside.senders - c.one_if-before.result + c.one_if.result) c.self.inside.controller c.self.inside.can_tick c.self.inside.passes c.args.number c.index_mut-seat.result.now c.take.new.self c.index_mut-seat.ensures.value there c.self.invariant took.seated
    (omega (arith, before, after, least, c.self.invariant.sends))

pub returns-clause-ok : goal.returns-clause-ok
returns-clause-ok g c =
    let there : c.args.number < length c.self.inside.clients.items = let h = rw (← c.self.view_is) at c.requires.there in rw length_clients at h in
    let took = c.take.ensures c.self.inside.plan.ops (own_seat c.self.inside.plan.ops c.self.inside.clients.items c.args.number c.index_mut-seat.result.now c.index_mut-seat.ensures.value there c.self.invariant.seated) in
    rw (← c.self.view_is) (seat_goes c.self.inside.plan (g.S.Switch.seen c.self.inside.switch) c.self.inside.running c.self.inside.clients.items c.self.inside.controller c.self.inside.bag.messages c.self.inside.passes c.self.inside.done c.self.inside.log _
    c.args.number c.index_mut-seat.result.now c.take.new.self c.make_room.new.turn c.take.new.turn c.make_room.new.bag.messages c.post.new.bag.messages c.make_room.new.log c.post.new.log
    (λ (n : ℕ) (s : ClientState). client_takes c.self.inside.plan.ops n s c.args.packet.now) c.index_mut-seat.ensures.value there c.self.invariant.seated
    took c.in_ok-make_room.ensures.turn c.in_ok-make_room.ensures.turn_notes
    c.make_room.ensures.messages c.make_room.ensures.steps c.make_room.ensures.lines c.post.ensures.bag c.post.ensures.log)

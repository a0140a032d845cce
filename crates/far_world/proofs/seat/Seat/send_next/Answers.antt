use Rattle.std.proofs.Common.{◌+◌, ◌-◌, not, refl, subst, arith}
use Rattle.std.specs.Prelude.{is_some}
use Rattle.far_base.proofs.Taken.{got}
use Rattle.far_model.specs.Clients.{request}
use Rattle.far_model.specs.Events.{next_sent}
use Rattle.far_world.specs.Seats.{SeatView, TakesTurn, seat_of}
use Rattle.far_world.proofs.Scripts.{next_is, sends_next}
use Rattle.client_records.specs.ClientView.{open_op}
use Rattle.far_world.proofs.seat.Seat.send_next.Goals as goal

pub overflow_sub-op : goal.overflow_sub-op
overflow_sub-op c =
    let h = next_is c.args.ops.now c.self.inside.client.number c.self.inside.script.items c.self.inside.next c.requires.seated.sent c.index-op.result.now (not (is_some (open_op c.self.inside.client.waits)))
    c.index-op.ensures (rw (← c.self.view_is) at c.requires.can) (rw (← c.self.view_is) at c.requires.seated.left) in
    omega (arith, h.least)

pub line-line-requires : goal.line-line-requires
line-line-requires c =
    let h = next_is c.args.ops.now c.self.inside.client.number c.self.inside.script.items c.self.inside.next c.requires.seated.sent c.index-op.result.now (not (is_some (open_op c.self.inside.client.waits)))
    c.index-op.ensures (rw (← c.self.view_is) at c.requires.can) (rw (← c.self.view_is) at c.requires.seated.left) in
    omega (arith, h.least, h.most)

pub returns-clause-ok : goal.returns-clause-ok
returns-clause-ok c =
    subst (λ (self : SeatView). TakesTurn c.args.ops.now self c.args.turn.now (next_sent c.args.ops.now self.number self.state self.state.left) (seat_of c.send.new.self (c.self.inside.next + 1) c.self.inside.script.items) c.note.new.self) c.self.view_is
    (sends_next c.args.ops.now c.self.inside.client c.send.new.self c.self.inside.script.items c.self.inside.next c.requires.seated.sent c.index-op.result.now c.line-line.result (request c.self.inside.client.number c.index-op.result.now c.line-line.result) c.args.turn.now c.note.new.self
    c.index-op.ensures (rw (← c.self.view_is) at c.requires.can) (rw (← c.self.view_is) at c.requires.seated.left) (got c.args.ops.now (c.index-op.result.now - 1) c.line-line.result c.line-line.ensures)
    c.in_ok-send.ensures.waits refl (rw c.note.ensures.out c.in_ok-send.ensures.packet) c.note.ensures.notes)

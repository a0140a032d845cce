use Rattle.std.proofs.Common.{◌≡◌, sym, ◌∙◌, true, take, get_or, arith}
use Rattle.std.specs.List.{count_by}
use Rattle.far_world.proofs.Counting.{seat_sends}
use Rattle.far_world.specs.Choices.{seat_can_send}
use Rattle.far_world.proofs.choice.sender_at.Goals as goal

pub returns-then-left-eq0 : goal.returns-then-left-eq0
returns-then-left-eq0 c =
    let e : c.args.place ≡ count_by seat_can_send (take c.loop-i.i c.args.seats.now) = omega (arith, c.loop-i.invariant, c.if-left-eq0.true) in
    let able : seat_can_send (get_or c.args.seats.now c.loop-i.i c.index-seats-i.result) ≡ true = rw (← c.index-seats-i.is) (sym c.can_send.ensures ∙ c.if-can_send.true) in
    seat_sends c.args.seats.now c.loop-i.i c.args.place c.index-seats-i.result c.loop-i-test.true able e

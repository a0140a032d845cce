use Rattle.std.proofs.Common.{◌≡◌, ◌++◌, take, vec_capacity}
use Rattle.far_model.specs.Clients.{tells}
use Rattle.far_world.proofs.seat.Seat.take_ask.Given as goal

abbrev pub invariant-loop-i : goal.invariant-loop-i
invariant-loop-i l = record {
  out : l.turn.out.items ≡ l.initial.turn.out.items ++ take l.i (tells l.round l.self.number l.self.state.preserved);
  notes : l.turn.notes ≡ l.initial.turn.notes;
  room : vec_capacity l.turn.out ≡ vec_capacity l.initial.turn.out;
}

use Rattle.std.proofs.Common.{◌≡◌, ◌++◌, List, [], ◌∷◌, length, take, ap, ◌∙◌, subst, Some, append_assoc, arith}
use Rattle.std.proofs.Math.Seq.{take-length}
use Rattle.std.specs.Prelude.{slice_get}
use Rattle.far_base.specs.declared.packet.Out.{Out}
use Rattle.far_base.specs.declared.party.Party.TheVariants.{Controller}
use Rattle.far_model.specs.Clients.{tells}
use Rattle.far_model.specs.Parties.{to_party}
use Rattle.far_world.proofs.Scripts.{length_tells}
use Rattle.far_base.proofs.Taken.{taken}
use Rattle.far_world.specs.Seats.{SeatView}
use Rattle.far_world.proofs.seat.Seat.take_ask.Goals as goal

pub loop-i-preserved : goal.loop-i-preserved
loop-i-preserved c =
    let told = tells c.args.round c.args.self.now.number c.args.self.now.state.preserved in
    let there : slice_get told c.loop-i.i ≡ Some (to_party Controller c.tell-packet.result) =
    subst (λ (s : SeatView). slice_get (tells c.args.round s.number s.state.preserved) c.loop-i.i ≡ Some (to_party Controller c.tell-packet.result)) c.self.view_is c.tell-packet.ensures in
    record {
      out = rw (c.send.ensures.out, c.loop-i.invariant.out, taken told c.loop-i.i (to_party Controller c.tell-packet.result) there) (append_assoc c.args.turn.now.out.items (take c.loop-i.i told) (to_party Controller c.tell-packet.result ∷ []));
      notes = c.send.ensures.notes ∙ c.loop-i.invariant.notes;
      room = c.send.ensures.room ∙ c.loop-i.invariant.room;
    }

pub returns-clause-out : goal.returns-clause-out
returns-clause-out c =
    let told = tells c.args.round c.args.self.now.number c.args.self.now.state.preserved in
    let all : length told ≡ c.loop-i.i = omega (arith, length_tells c.args.round c.args.self.now.number c.args.self.now.state.preserved, c.most_sent-i-end.ensures, c.loop-i-test.false, c.loop-i.auto.i-end) in
    let whole : take c.loop-i.i told ≡ told = rw (← all) (take-length told) in
    c.loop-i.invariant.out ∙ ap (λ (outs : List Out). c.args.turn.now.out.items ++ outs) whole

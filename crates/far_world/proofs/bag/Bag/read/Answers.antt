use Rattle.far_model.proofs.Members.{among_at, each_among}
use Rattle.far_world.proofs.Bytes.{map_at, no_fault, what_is_read}
use Rattle.far_world.specs.Choices.{nothing_sent}
use Rattle.far_world.specs.RoomyBag.{IsSpelling, message_of}
use Rattle.far_world.proofs.bag.Bag.read.Goals as goal

pub unreachable-requires : goal.unreachable-requires
unreachable-requires c =
    let m = c.at.result.now in
    let all = c.self.inside.wires.messages in
    let s : IsSpelling m = each_among IsSpelling m all c.self.invariant (among_at m all c.args.place c.at.ensures) in
    let e = no_fault c.bytes.result.now s.0 c.decode_into.result (rw c.bytes.ensures.value s.1) c.decode_into.ensures.fault in
    absurd (cc (e, c.is_err.ensures.value, c.if-is_err.true))

pub returns : goal.returns
returns c =
    let m = c.at.result.now in
    let all = c.self.inside.wires.messages in
    let s : IsSpelling m = each_among IsSpelling m all c.self.invariant (among_at m all c.args.place c.at.ensures) in
    let e = what_is_read c.bytes.result.now s.0 c.decode_into.new.packet c.decode_into.result (rw c.bytes.ensures.value s.1) c.decode_into.ensures.read c.decode_into.ensures.fault in
    rw (← c.self.view_is, map_at message_of all c.args.place m nothing_sent c.at.ensures, ← c.bytes.ensures.value) e

use Rattle.std.proofs.Common.{◌+◌, ◌≤◌, length, ap, arith}
use Rattle.std.proofs.lemmas.List.{length-take}
use Rattle.packet_codec.proofs.Padding.{grown, grown_text}
use Rattle.retry_link.specs.declared.bytes.TheConstants.{FRAME_SIZE}
use Rattle.retry_link.proofs.bytes.FrameWire.push.Goals as goal

pub invariant_of-self : goal.invariant_of-self
invariant_of-self c =
    let fits : c.self.inside.len + length c.args.text.now ≤ FRAME_SIZE =
    omega (arith, c.requires, ap length c.self.view_is, length-take c.self.inside.len c.self.inside.bytes, c.self.invariant.whole, c.self.invariant.within) in
    rw c.put_at.ensures (grown FRAME_SIZE c.self.inside.len c.self.inside.bytes c.args.text.now c.self.invariant fits)

pub returns : goal.returns
returns c = rw (c.put_at.ensures, ← c.self.view_is) (grown_text FRAME_SIZE c.self.inside.len c.self.inside.bytes c.args.text.now c.self.invariant)

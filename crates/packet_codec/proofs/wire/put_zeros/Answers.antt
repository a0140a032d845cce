use Rattle.packet_codec.specs.declared.wire.TheConstants.{WIRE_SIZE}
use Rattle.packet_codec.proofs.Padding.{zeros_put}
use Rattle.packet_codec.proofs.wire.put_zeros.Goals as goal

pub returns : goal.returns
returns c = rw c.put_at.ensures (zeros_put WIRE_SIZE c.args.len c.args.out.now c.requires.len)

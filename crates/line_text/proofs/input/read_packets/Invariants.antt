use Rattle.std.proofs.Common.{◌≡◌, ◌+◌, ◌≤◌, length, []}
use Rattle.far_base.specs.declared.plan.TheConstants.{OP_LIMIT}
use Rattle.far_text.specs.Pieces.{pieces}
use Rattle.line_text.specs.Reading.{packets_from}
use Rattle.line_text.proofs.input.read_packets.Given as goal

-- the packets so far and those of the lines to come are all packets
abbrev pub invariant-loop-alloc : goal.invariant-loop-alloc
invariant-loop-alloc l = record {
  reads : packets_from l.fn.lines.read [] (pieces 10 l.fn.lines.rest.now) ≡ packets_from l.lines.read l.packets.items (pieces 10 l.lines.rest.now);
  within : l.lines.read + length l.lines.rest.now ≤ l.fn.lines.read + length l.fn.lines.rest.now;
  few : length l.packets.items ≤ OP_LIMIT;
}

abbrev pub decreases-loop-alloc : goal.decreases-loop-alloc
decreases-loop-alloc l = length l.lines.rest.now

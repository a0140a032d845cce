use Rattle.std.proofs.Common.{◌∙◌, arith}
use Rattle.controller_core.proofs.Sends.{clients_go}
use Rattle.controller_core.proofs.sending.send_to_clients.Goals as goal

pub loop-client-preserved : goal.loop-client-preserved
loop-client-preserved c = record {
  len = omega (arith, c.send.ensures.len, c.loop-client.invariant.len);
  capacity = c.send.ensures.capacity ∙ c.loop-client.invariant.capacity;
  all = clients_go c.loop-client.out.items c.send.new.out.items _ c.loop-client.client c.args.clients c.args.packet.now (omega arith) c.send.ensures.out c.loop-client.invariant.all;
}

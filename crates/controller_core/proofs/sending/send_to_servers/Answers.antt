use Rattle.std.proofs.Common.{◌∙◌, arith}
use Rattle.controller_core.proofs.Sends.{servers_go}
use Rattle.controller_core.proofs.sending.send_to_servers.Goals as goal

pub loop-server-preserved : goal.loop-server-preserved
loop-server-preserved c = record {
  len = omega (arith, c.send.ensures.len, c.loop-server.invariant.len);
  capacity = c.send.ensures.capacity ∙ c.loop-server.invariant.capacity;
  all = servers_go c.loop-server.out.items c.send.new.out.items _ c.loop-server.server c.args.servers c.args.packet.now (omega arith) c.send.ensures.out c.loop-server.invariant.all;
}

use Rattle.std.proofs.Common.{◌≡◌, ◌+◌, ◌-◌, ◌++◌, vec_len, vec_capacity}
use Rattle.far_model.specs.Controller.{to_servers}
use Rattle.controller_core.proofs.sending.send_to_servers.Given as goal

abbrev pub invariant-loop-server : goal.invariant-loop-server
invariant-loop-server l = record {
  len : vec_len l.out ≡ vec_len l.initial.out + l.server;
  capacity : vec_capacity l.out ≡ vec_capacity l.initial.out;
  all : l.out.items ++ to_servers l.server (l.servers - l.server) l.packet ≡ l.initial.out.items ++ to_servers 0 l.servers l.packet;
}

use Rattle.std.proofs.Common.{◌≡◌, ◌+◌, ◌-◌, ◌++◌, vec_len, vec_capacity}
use Rattle.far_model.specs.Controller.{to_clients}
use Rattle.controller_core.proofs.sending.send_to_clients.Given as goal

abbrev pub invariant-loop-client : goal.invariant-loop-client
invariant-loop-client l = record {
  len : vec_len l.out ≡ vec_len l.initial.out + l.client;
  capacity : vec_capacity l.out ≡ vec_capacity l.initial.out;
  all : l.out.items ++ to_clients l.client (l.clients - l.client) l.packet ≡ l.initial.out.items ++ to_clients 0 l.clients l.packet;
}

-- What a server does with a packet, over a keeper.
use Rattle.std.specs.Prelude.{◌≡◌, ℕ, ◌≤◌, max, length, List, None, Some, IfSome}
use Rattle.std.specs.Option.{option_map}
use Rattle.far_base.specs.declared.packet.Packet.{Packet}
use Rattle.far_base.specs.declared.record.Record.{Record}
use Rattle.far_model.specs.Events.{all_listed, restarts, server_turn}
use Rattle.far_model.specs.Controller.{ready}
use Rattle.far_model.specs.Members.{Each}
use Rattle.far_model.specs.Replies.{IsReplyTo}
use Rattle.far_model.specs.Servers.{server_reply}
use Rattle.far_outside.specs.Keeping.{records_of}
use Rattle.far_world.specs.Scene.{Scene, told_by}
use Rattle.server_keeper.specs.Step.{after_packet, number_in, number_of_reply}

-- the switch runs again, and what the keeper listed was logged: all records of all servers by key, where it tells them
pub record IsRestarted (old new : Scene) : Type 0 where
  pub listed : List Record
  pub told : IfSome old.keeper.records (λ all. length all ≡ old.keeper.servers → listed ≡ all_listed all)
  pub within : Each (λ (r : Record). r.num ≤ old.keeper.ceiling) listed
  pub plan : new.plan ≡ old.plan
  pub state : new.state ≡ restarts old.plan (record { reply = None; records = listed }) old.state
      (ready old.state.controller)
  pub records : new.keeper.records ≡ old.keeper.records
  pub ceiling : new.keeper.ceiling ≡ old.keeper.ceiling
  pub servers : new.keeper.servers ≡ old.keeper.servers

-- the keeper's records are those after the packet, and its reply went out
pub record IsServed (server : ℕ) (packet : Packet) (old new : Scene) : Type 0 where
  pub reply : Packet
  pub kind : IsReplyTo server packet (Some reply)
  pub told : IfSome old.keeper.records (λ all. Some reply ≡ server_reply server (records_of all server) packet)
  pub within : number_of_reply reply ≤ new.keeper.ceiling
  pub plan : new.plan ≡ old.plan
  pub state : new.state ≡ record (server_turn old.state server old.state.bag packet
      (Some reply)) { servers = told_by old.plan.config.servers new.keeper.records }
  pub records : new.keeper.records ≡ option_map (after_packet server packet) old.keeper.records
  pub ceiling : new.keeper.ceiling ≡ max old.keeper.ceiling (number_in packet)
  pub servers : new.keeper.servers ≡ old.keeper.servers

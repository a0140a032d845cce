-- Each event, each message that was taken, and the whole log of some runs in which keys are admitted to slots.
use Rattle.std.specs.Prelude.{true, false, [], ◌∷◌, None}
use Rattle.far_base.specs.declared.event.Event.TheVariants.{Deliver, Send, Tick}
use Rattle.far_base.specs.declared.log.LogEntry.TheVariants.{Admitted, Answered, Emitted, Sent}
use Rattle.far_base.specs.declared.packet.Packet.TheVariants.{Admit, AdmitAck, GetAns, GetFwd, GetRep, GetReq, Hot}
use Rattle.far_base.specs.declared.party.Party.TheVariants.{Client, Controller, Server, Switch}
use Rattle.model_examples.specs.Traffic.{Traffic}
use Rattle.model_examples.specs.Words.{key_a, get, at, message}

-- a key grows hot, and its absence is cached
abbrev pub absence_is_cached_traffic : Traffic
absence_is_cached_traffic = record {
  events = Send 0 ∷ Deliver 0 ∷ Deliver 0 ∷ Deliver 0 ∷ Deliver 0 ∷ Send 0 ∷ Deliver 0 ∷ Deliver 0 ∷ Deliver 0
      ∷ Deliver 0 ∷ Deliver 0 ∷ Tick ∷ Deliver 0 ∷ Deliver 0 ∷ Send 0 ∷ Deliver 0 ∷ Deliver 0 ∷ Deliver 0 ∷ Deliver 0
      ∷ Send 0 ∷ Deliver 0 ∷ Deliver 0 ∷ [];
  taken =
      message (Client 0) Switch (GetReq 0 1 key_a)
      ∷ message Switch (Server 0) (GetFwd 0 1 key_a 0)
      ∷ message (Server 0) Switch (GetRep 0 1 key_a 0 0 None)
      ∷ message Switch (Client 0) (GetAns 0 1 key_a 0 None false)
      ∷ message (Client 0) Switch (GetReq 0 2 key_a)
      ∷ message Switch (Server 0) (GetFwd 0 2 key_a 0)
      ∷ message Switch Controller (Hot key_a)
      ∷ message (Server 0) Switch (GetRep 0 2 key_a 0 0 None)
      ∷ message Switch (Client 0) (GetAns 0 2 key_a 0 None false)
      ∷ message Controller Switch (Admit 1 0 key_a 1)
      ∷ message Switch Controller (AdmitAck 0 1)
      ∷ message (Client 0) Switch (GetReq 0 3 key_a)
      ∷ message Switch (Server 0) (GetFwd 0 3 key_a 1)
      ∷ message (Server 0) Switch (GetRep 0 3 key_a 1 0 None)
      ∷ message Switch (Client 0) (GetAns 0 3 key_a 0 None false)
      ∷ message (Client 0) Switch (GetReq 0 4 key_a)
      ∷ message Switch (Client 0) (GetAns 0 4 key_a 0 None true)
      ∷ [];
  log =
      at 1 (Sent 1 (get 0 key_a))
      ∷ at 4 (Emitted 1 0 None false)
      ∷ at 5 (Answered 1)
      ∷ at 6 (Sent 2 (get 0 key_a))
      ∷ at 10 (Emitted 2 0 None false)
      ∷ at 11 (Answered 2)
      ∷ at 14 (Admitted 0 key_a 1)
      ∷ at 15 (Sent 3 (get 0 key_a))
      ∷ at 18 (Emitted 3 0 None false)
      ∷ at 19 (Answered 3)
      ∷ at 20 (Sent 4 (get 0 key_a))
      ∷ at 21 (Emitted 4 0 None true)
      ∷ at 22 (Answered 4)
      ∷ [];
}

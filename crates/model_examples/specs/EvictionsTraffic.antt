-- Each event, each message that was taken, and the whole log of some runs in which slots are freed.
use Rattle.std.specs.Prelude.{true, false, [], ◌∷◌, None}
use Rattle.far_base.specs.declared.event.Event.TheVariants.{Deliver, Order as OrderOf, Send, Tick}
use Rattle.far_base.specs.declared.log.LogEntry.TheVariants.{Admitted, Answered, Emitted, Evicted, Numbered, Sent}
use Rattle.far_base.specs.declared.packet.Packet.TheVariants.{
  Admit,
  AdmitAck,
  GetAns,
  GetFwd,
  GetRep,
  GetReq,
  Peek,
  PeekAns,
  Remove,
  RemoveAns,
  Store,
  Stored,
  WriteAns,
  WriteReq,
}
use Rattle.far_base.specs.declared.party.Party.TheVariants.{Client, Controller, Server, Switch}
use Rattle.model_examples.specs.Traffic.{Traffic}
use Rattle.model_examples.specs.Words.{key_a, body_x, body_y, get, put, at, item, message}

-- a write comes between the peek and the removal
abbrev pub write_between_traffic : Traffic
write_between_traffic = record {
  events = OrderOf 0 ∷ Tick ∷ Deliver 0 ∷ Deliver 0 ∷ Send 0 ∷ Deliver 0 ∷ Deliver 0 ∷ OrderOf 1 ∷ Deliver 0
      ∷ Send 0 ∷ Deliver 1 ∷ Deliver 0 ∷ Deliver 0 ∷ Deliver 0 ∷ Deliver 0 ∷ Deliver 0 ∷ Deliver 0 ∷ Deliver 0
      ∷ Deliver 0 ∷ Deliver 0 ∷ Deliver 0 ∷ Send 0 ∷ Deliver 0 ∷ Deliver 0 ∷ Deliver 0 ∷ Deliver 0 ∷ [];
  taken =
      message Controller Switch (Admit 1 0 key_a 1)
      ∷ message Switch Controller (AdmitAck 0 1)
      ∷ message (Client 0) Switch (WriteReq 0 1 key_a body_x)
      ∷ message Switch (Client 0) (WriteAns 0 1 key_a 1 true)
      ∷ message Controller Switch (Peek 1 0 1)
      ∷ message (Client 0) Switch (WriteReq 0 2 key_a body_y)
      ∷ message Switch Controller (PeekAns 0 1 true 1 body_x)
      ∷ message Switch (Client 0) (WriteAns 0 2 key_a 2 true)
      ∷ message Controller (Server 0) (Store 1 (item key_a 1 body_x))
      ∷ message (Server 0) Controller (Stored 1)
      ∷ message Controller Switch (Remove 1 0 1 true 1)
      ∷ message Switch Controller (RemoveAns 0 1 false true 2 body_y)
      ∷ message Controller (Server 0) (Store 2 (item key_a 2 body_y))
      ∷ message (Server 0) Controller (Stored 2)
      ∷ message Controller Switch (Remove 1 0 1 true 2)
      ∷ message Switch Controller (RemoveAns 0 1 true true 2 body_y)
      ∷ message (Client 0) Switch (GetReq 0 3 key_a)
      ∷ message Switch (Server 0) (GetFwd 0 3 key_a 0)
      ∷ message (Server 0) Switch (GetRep 0 3 key_a 0 2 body_y)
      ∷ message Switch (Client 0) (GetAns 0 3 key_a 2 body_y false)
      ∷ [];
  log =
      at 4 (Admitted 0 key_a 1)
      ∷ at 5 (Sent 1 (put 0 key_a body_x))
      ∷ at 6 (Numbered 1 1)
      ∷ at 6 (Emitted 1 1 None true)
      ∷ at 7 (Answered 1)
      ∷ at 10 (Sent 2 (put 0 key_a body_y))
      ∷ at 11 (Numbered 2 2)
      ∷ at 11 (Emitted 2 2 None true)
      ∷ at 13 (Answered 2)
      ∷ at 21 (Evicted 0 key_a 2)
      ∷ at 22 (Sent 3 (get 0 key_a))
      ∷ at 25 (Emitted 3 2 body_y false)
      ∷ at 26 (Answered 3)
      ∷ [];
}

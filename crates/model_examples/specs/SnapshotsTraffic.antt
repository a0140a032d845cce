-- Each event, each message that was taken, and the whole log of some runs in which snapshots are taken.
use Rattle.std.specs.Prelude.{true, [], ◌∷◌, None, Some}
use Rattle.far_base.specs.declared.event.Event.TheVariants.{Deliver, Order as OrderOf, Send, Tick}
use Rattle.far_base.specs.declared.log.LogEntry.TheVariants.{
  Admitted,
  Answered,
  Emitted,
  Evicted,
  Numbered,
  Sent,
  SnapItem,
  Snapped,
}
use Rattle.far_base.specs.declared.packet.Packet.TheVariants.{
  Admit,
  AdmitAck,
  Peek,
  PeekAns,
  Release,
  Remove,
  RemoveAns,
  SnapBegun,
  SnapFrom,
  SnapPart,
  SnapRead,
  SnapSame,
  SnapStart,
  Store,
  Stored,
  WriteAns,
  WriteReq,
}
use Rattle.far_base.specs.declared.party.Party.TheVariants.{Client, Controller, Server, Switch}
use Rattle.model_examples.specs.Traffic.{Traffic}
use Rattle.model_examples.specs.Words.{key_a, key_b, body_p, body_q, body_r, put, at, item, message}

-- the slot goes to another key before the snapshot reads it
abbrev pub slot_goes_on_traffic : Traffic
slot_goes_on_traffic = record {
  events = OrderOf 0 ∷ Tick ∷ Deliver 0 ∷ Deliver 0 ∷ Send 0 ∷ Deliver 0 ∷ Deliver 0 ∷ OrderOf 1 ∷ Deliver 0
      ∷ Deliver 0 ∷ OrderOf 2 ∷ Deliver 1 ∷ Deliver 1 ∷ Deliver 1 ∷ Deliver 1 ∷ Deliver 1 ∷ Deliver 1 ∷ OrderOf 3
      ∷ Tick ∷ Deliver 2 ∷ Deliver 2 ∷ Send 0 ∷ Deliver 2 ∷ Deliver 2 ∷ Deliver 0 ∷ Deliver 0 ∷ Deliver 0 ∷ [];
  taken =
      message Controller Switch (Admit 1 0 key_a 1)
      ∷ message Switch Controller (AdmitAck 0 1)
      ∷ message (Client 0) Switch (WriteReq 0 1 key_a body_p)
      ∷ message Switch (Client 0) (WriteAns 0 1 key_a 1 true)
      ∷ message Controller Switch (SnapStart 1 1)
      ∷ message Switch Controller (SnapBegun 1 1)
      ∷ message Controller Switch (Peek 1 0 1)
      ∷ message Switch Controller (PeekAns 0 1 true 1 body_p)
      ∷ message Controller (Server 0) (Store 1 (item key_a 1 body_p))
      ∷ message (Server 0) Controller (Stored 1)
      ∷ message Controller Switch (Remove 1 0 1 true 1)
      ∷ message Switch Controller (RemoveAns 0 1 true true 1 body_p)
      ∷ message Controller Switch (Admit 1 0 key_b 2)
      ∷ message Switch Controller (AdmitAck 0 2)
      ∷ message (Client 0) Switch (WriteReq 0 2 key_b body_q)
      ∷ message Switch (Client 0) (WriteAns 0 2 key_b 2 true)
      ∷ message Controller Switch (SnapRead 1 1 0)
      ∷ message Switch Controller (SnapPart 1 0 (Some (item key_a 1 body_p)))
      ∷ message Controller (Client 0) (Release 1)
      ∷ [];
  log =
      at 4 (Admitted 0 key_a 1)
      ∷ at 5 (Sent 1 (put 0 key_a body_p))
      ∷ at 6 (Numbered 1 1)
      ∷ at 6 (Emitted 1 1 None true)
      ∷ at 7 (Answered 1)
      ∷ at 17 (Evicted 0 key_a 1)
      ∷ at 21 (Admitted 0 key_b 2)
      ∷ at 22 (Sent 2 (put 0 key_b body_q))
      ∷ at 23 (Numbered 2 2)
      ∷ at 23 (Emitted 2 2 None true)
      ∷ at 24 (Answered 2)
      ∷ at 26 (Snapped 1 1 1 0)
      ∷ at 26 (SnapItem 0 (item key_a 1 body_p))
      ∷ [];
}

-- a second snapshot of an empty slot has the part of the first
abbrev pub empty_slot_again_traffic : Traffic
empty_slot_again_traffic = record {
  events = OrderOf 0 ∷ Deliver 0 ∷ Deliver 0 ∷ Deliver 0 ∷ Deliver 0 ∷ OrderOf 1 ∷ Deliver 0 ∷ Deliver 0 ∷ Deliver 0
      ∷ Deliver 0 ∷ Deliver 0 ∷ Deliver 0 ∷ [];
  taken =
      message Controller Switch (SnapStart 1 1)
      ∷ message Switch Controller (SnapBegun 1 0)
      ∷ message Controller Switch (SnapRead 1 1 0)
      ∷ message Switch Controller (SnapPart 1 0 None)
      ∷ message Controller (Client 0) (Release 0)
      ∷ message Controller Switch (SnapFrom 1 2 1)
      ∷ message Switch Controller (SnapBegun 2 0)
      ∷ message Controller Switch (SnapRead 1 2 0)
      ∷ message Switch Controller (SnapSame 2 0)
      ∷ message Controller (Client 0) (Release 0)
      ∷ [];
  log =
      at 5 (Snapped 1 0 0 0)
      ∷ at 11 (Snapped 2 0 0 1)
      ∷ [];
}

-- of two slots one changes between the snapshots: the part of the other is that of the first
abbrev pub one_slot_changed_traffic : Traffic
one_slot_changed_traffic = record {
  events = OrderOf 0 ∷ OrderOf 1 ∷ Tick ∷ Tick ∷ Deliver 0 ∷ Deliver 0 ∷ Deliver 0 ∷ Deliver 0 ∷ Send 0 ∷ Deliver 0
      ∷ Deliver 0 ∷ Send 0 ∷ Deliver 0 ∷ Deliver 0 ∷ OrderOf 2 ∷ Deliver 0 ∷ Deliver 0 ∷ Deliver 0 ∷ Deliver 0
      ∷ Deliver 0 ∷ Deliver 0 ∷ Send 0 ∷ Deliver 0 ∷ Deliver 0 ∷ Deliver 0 ∷ OrderOf 3 ∷ Deliver 0 ∷ Deliver 0
      ∷ Deliver 0 ∷ Deliver 0 ∷ Deliver 0 ∷ Deliver 0 ∷ Deliver 0 ∷ [];
  taken =
      message Controller Switch (Admit 1 0 key_a 1)
      ∷ message Controller Switch (Admit 1 1 key_b 2)
      ∷ message Switch Controller (AdmitAck 0 1)
      ∷ message Switch Controller (AdmitAck 1 2)
      ∷ message (Client 0) Switch (WriteReq 0 1 key_a body_p)
      ∷ message Switch (Client 0) (WriteAns 0 1 key_a 1 true)
      ∷ message (Client 0) Switch (WriteReq 0 2 key_b body_q)
      ∷ message Switch (Client 0) (WriteAns 0 2 key_b 2 true)
      ∷ message Controller Switch (SnapStart 1 1)
      ∷ message Switch Controller (SnapBegun 1 2)
      ∷ message Controller Switch (SnapRead 1 1 0)
      ∷ message Controller Switch (SnapRead 1 1 1)
      ∷ message Switch Controller (SnapPart 1 0 (Some (item key_a 1 body_p)))
      ∷ message Switch Controller (SnapPart 1 1 (Some (item key_b 2 body_q)))
      ∷ message Controller (Client 0) (Release 2)
      ∷ message (Client 0) Switch (WriteReq 0 3 key_a body_r)
      ∷ message Switch (Client 0) (WriteAns 0 3 key_a 3 true)
      ∷ message Controller Switch (SnapFrom 1 2 1)
      ∷ message Switch Controller (SnapBegun 2 3)
      ∷ message Controller Switch (SnapRead 1 2 0)
      ∷ message Controller Switch (SnapRead 1 2 1)
      ∷ message Switch Controller (SnapPart 2 0 (Some (item key_a 3 body_r)))
      ∷ message Switch Controller (SnapSame 2 1)
      ∷ message Controller (Client 0) (Release 3)
      ∷ [];
  log =
      at 7 (Admitted 0 key_a 1)
      ∷ at 8 (Admitted 1 key_b 2)
      ∷ at 9 (Sent 1 (put 0 key_a body_p))
      ∷ at 10 (Numbered 1 1)
      ∷ at 10 (Emitted 1 1 None true)
      ∷ at 11 (Answered 1)
      ∷ at 12 (Sent 2 (put 0 key_b body_q))
      ∷ at 13 (Numbered 2 2)
      ∷ at 13 (Emitted 2 2 None true)
      ∷ at 14 (Answered 2)
      ∷ at 21 (Snapped 1 2 2 0)
      ∷ at 21 (SnapItem 0 (item key_a 1 body_p))
      ∷ at 21 (SnapItem 1 (item key_b 2 body_q))
      ∷ at 22 (Sent 3 (put 0 key_a body_r))
      ∷ at 24 (Numbered 3 3)
      ∷ at 24 (Emitted 3 3 None true)
      ∷ at 25 (Answered 3)
      ∷ at 32 (Snapped 2 3 2 1)
      ∷ at 32 (SnapItem 0 (item key_a 3 body_r))
      ∷ at 32 (SnapItem 1 (item key_b 2 body_q))
      ∷ [];
}

-- Each event, each message that was taken, and the whole log of some runs without slots.
use Rattle.std.specs.Prelude.{false, [], ◌∷◌, None}
use Rattle.far_base.specs.declared.event.Event.TheVariants.{Deliver, Send}
use Rattle.far_base.specs.declared.log.LogEntry.TheVariants.{Answered, Emitted, Numbered, Sent}
use Rattle.far_base.specs.declared.packet.Packet.TheVariants.{
  GetAns,
  GetFwd,
  GetRep,
  GetReq,
  WriteAns,
  WriteFwd,
  WriteRep,
  WriteReq,
}
use Rattle.far_base.specs.declared.party.Party.TheVariants.{Client, Server, Switch}
use Rattle.model_examples.specs.Traffic.{Traffic}
use Rattle.model_examples.specs.Words.{key_a, body_x, body_y, get, put, at, message}

-- a put and a get of one key
abbrev pub put_and_get_traffic : Traffic
put_and_get_traffic = record {
  events = Send 0 ∷ Deliver 0 ∷ Deliver 0 ∷ Deliver 0 ∷ Deliver 0 ∷ Send 0 ∷ Deliver 0 ∷ Deliver 0 ∷ Deliver 0
      ∷ Deliver 0 ∷ [];
  taken =
      message (Client 0) Switch (WriteReq 0 1 key_a body_x)
      ∷ message Switch (Server 0) (WriteFwd 0 1 key_a 1 body_x)
      ∷ message (Server 0) Switch (WriteRep 0 1 key_a 1 body_x)
      ∷ message Switch (Client 0) (WriteAns 0 1 key_a 1 false)
      ∷ message (Client 0) Switch (GetReq 0 2 key_a)
      ∷ message Switch (Server 0) (GetFwd 0 2 key_a 0)
      ∷ message (Server 0) Switch (GetRep 0 2 key_a 0 1 body_x)
      ∷ message Switch (Client 0) (GetAns 0 2 key_a 1 body_x false)
      ∷ [];
  log =
      at 1 (Sent 1 (put 0 key_a body_x))
      ∷ at 2 (Numbered 1 1)
      ∷ at 4 (Emitted 1 1 None false)
      ∷ at 5 (Answered 1)
      ∷ at 6 (Sent 2 (get 0 key_a))
      ∷ at 9 (Emitted 2 1 body_x false)
      ∷ at 10 (Answered 2)
      ∷ [];
}

-- the second put reaches the server first
abbrev pub writes_overtake_traffic : Traffic
writes_overtake_traffic = record {
  events = Send 0 ∷ Send 1 ∷ Deliver 0 ∷ Deliver 0 ∷ Deliver 1 ∷ Deliver 1 ∷ Deliver 1 ∷ Deliver 0 ∷ Deliver 0
      ∷ Deliver 0 ∷ [];
  taken =
      message (Client 0) Switch (WriteReq 0 1 key_a body_x)
      ∷ message (Client 1) Switch (WriteReq 1 2 key_a body_y)
      ∷ message Switch (Server 0) (WriteFwd 1 2 key_a 2 body_y)
      ∷ message (Server 0) Switch (WriteRep 1 2 key_a 2 body_y)
      ∷ message Switch (Client 1) (WriteAns 1 2 key_a 2 false)
      ∷ message Switch (Server 0) (WriteFwd 0 1 key_a 1 body_x)
      ∷ message (Server 0) Switch (WriteRep 0 1 key_a 2 body_y)
      ∷ message Switch (Client 0) (WriteAns 0 1 key_a 2 false)
      ∷ [];
  log =
      at 1 (Sent 1 (put 0 key_a body_x))
      ∷ at 2 (Sent 2 (put 1 key_a body_y))
      ∷ at 3 (Numbered 1 1)
      ∷ at 4 (Numbered 2 2)
      ∷ at 6 (Emitted 2 2 None false)
      ∷ at 7 (Answered 2)
      ∷ at 9 (Emitted 1 2 None false)
      ∷ at 10 (Answered 1)
      ∷ [];
}

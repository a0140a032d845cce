-- Each event, each message that was taken, and the whole log of some runs in which the switch loses its memory.
use Rattle.std.specs.Prelude.{true, false, [], ◌∷◌, None, Some}
use Rattle.far_base.specs.declared.event.Event.TheVariants.{Deliver, Order as OrderOf, Recover, Restart, Send, Tick}
use Rattle.far_base.specs.declared.log.LogEntry.TheVariants.{
  Admitted,
  Answered,
  Emitted,
  Numbered,
  RecItem,
  Recovered,
  Sent,
  SnapItem,
  Snapped,
  Stopped,
}
use Rattle.far_base.specs.declared.packet.Packet.TheVariants.{
  Admit,
  AdmitAck,
  Ask,
  GetAns,
  GetFwd,
  GetRep,
  GetReq,
  Release,
  SnapBegun,
  SnapFrom,
  SnapPart,
  SnapRead,
  SnapSame,
  SnapStart,
  Store,
  Stored,
  Told,
  TopAsk,
  TopIs,
  WriteAns,
  WriteFwd,
  WriteRep,
  WriteReq,
}
use Rattle.far_base.specs.declared.party.Party.TheVariants.{Client, Controller, Server, Switch}
use Rattle.model_examples.specs.Traffic.{Traffic}
use Rattle.model_examples.specs.Words.{
  key_a,
  key_b,
  key_c,
  key_d,
  body_k,
  body_m,
  body_p,
  body_q,
  body_r,
  body_t,
  body_u,
  body_v,
  body_w,
  body_x,
  body_y,
  get,
  put,
  at,
  item,
  message,
}

-- the switch stops in the middle of the second snapshot
abbrev pub stop_in_snapshot_traffic : Traffic
stop_in_snapshot_traffic = record {
  events = OrderOf 0 ∷ Tick ∷ Deliver 0 ∷ Deliver 0 ∷ Send 0 ∷ Deliver 0 ∷ Deliver 0 ∷ OrderOf 1 ∷ Deliver 0
      ∷ Deliver 0 ∷ Deliver 0 ∷ Deliver 0 ∷ Deliver 0 ∷ Send 0 ∷ Deliver 0 ∷ Deliver 0 ∷ OrderOf 2 ∷ Deliver 0
      ∷ OrderOf 3 ∷ Deliver 0 ∷ Recover ∷ Deliver 1 ∷ Deliver 1 ∷ Deliver 1 ∷ Deliver 1 ∷ Deliver 1 ∷ Deliver 1
      ∷ Deliver 1 ∷ Deliver 1 ∷ Restart ∷ Send 0 ∷ Deliver 0 ∷ Deliver 0 ∷ Deliver 0 ∷ Deliver 0 ∷ Deliver 0 ∷ [];
  taken =
      message Controller Switch (Admit 1 0 key_a 1)
      ∷ message Switch Controller (AdmitAck 0 1)
      ∷ message (Client 0) Switch (WriteReq 0 1 key_a body_p)
      ∷ message Switch (Client 0) (WriteAns 0 1 key_a 1 true)
      ∷ message Controller Switch (SnapStart 1 1)
      ∷ message Switch Controller (SnapBegun 1 1)
      ∷ message Controller Switch (SnapRead 1 1 0)
      ∷ message Switch Controller (SnapPart 1 0 (Some (item key_a 1 body_p)))
      ∷ message Controller (Client 0) (Release 1)
      ∷ message (Client 0) Switch (WriteReq 0 2 key_a body_q)
      ∷ message Switch (Client 0) (WriteAns 0 2 key_a 2 true)
      ∷ message Controller Switch (SnapFrom 1 2 1)
      ∷ message Switch Controller (SnapBegun 2 2)
      ∷ message Controller (Client 0) (Ask 1)
      ∷ message Controller (Server 0) (Store 1 (item key_a 1 body_p))
      ∷ message (Client 0) Controller (Told 1 0 1 (Some (item key_a 2 body_q)))
      ∷ message (Server 0) Controller (Stored 1)
      ∷ message Controller (Server 0) (Store 2 (item key_a 2 body_q))
      ∷ message (Server 0) Controller (Stored 2)
      ∷ message Controller (Server 0) (TopAsk 1)
      ∷ message (Server 0) Controller (TopIs 1 0 2)
      ∷ message Controller Switch (SnapRead 1 2 0)
      ∷ message (Client 0) Switch (GetReq 0 3 key_a)
      ∷ message Switch (Server 0) (GetFwd 0 3 key_a 0)
      ∷ message (Server 0) Switch (GetRep 0 3 key_a 0 2 body_q)
      ∷ message Switch (Client 0) (GetAns 0 3 key_a 2 body_q false)
      ∷ [];
  log =
      at 4 (Admitted 0 key_a 1)
      ∷ at 5 (Sent 1 (put 0 key_a body_p))
      ∷ at 6 (Numbered 1 1)
      ∷ at 6 (Emitted 1 1 None true)
      ∷ at 7 (Answered 1)
      ∷ at 12 (Snapped 1 1 1 0)
      ∷ at 12 (SnapItem 0 (item key_a 1 body_p))
      ∷ at 14 (Sent 2 (put 0 key_a body_q))
      ∷ at 15 (Numbered 2 2)
      ∷ at 15 (Emitted 2 2 None true)
      ∷ at 16 (Answered 2)
      ∷ at 19 Stopped
      ∷ at 30 (Recovered 2 1)
      ∷ at 30 (RecItem (item key_a 2 body_q))
      ∷ at 31 (Sent 3 (get 0 key_a))
      ∷ at 35 (Emitted 3 2 body_q false)
      ∷ at 36 (Answered 3)
      ∷ [];
}

-- after a stop the next snapshot is not by difference, and the one after it is; the second round has the next number
abbrev pub stop_between_snapshots_traffic : Traffic
stop_between_snapshots_traffic = record {
  events = OrderOf 0 ∷ Deliver 0 ∷ Deliver 0 ∷ Deliver 0 ∷ Deliver 0 ∷ Deliver 0 ∷ OrderOf 1 ∷ Recover ∷ Deliver 0
      ∷ Deliver 0 ∷ Deliver 0 ∷ Deliver 0 ∷ Restart ∷ OrderOf 2 ∷ Deliver 0 ∷ Deliver 0 ∷ Deliver 0 ∷ Deliver 0
      ∷ Deliver 0 ∷ OrderOf 3 ∷ Deliver 0 ∷ Deliver 0 ∷ Deliver 0 ∷ Deliver 0 ∷ Deliver 0 ∷ OrderOf 4
      ∷ Recover ∷ Deliver 0 ∷ Deliver 0 ∷ Deliver 0 ∷ Deliver 0 ∷ Restart ∷ [];
  taken =
      message Controller Switch (SnapStart 1 1)
      ∷ message Switch Controller (SnapBegun 1 0)
      ∷ message Controller Switch (SnapRead 1 1 0)
      ∷ message Switch Controller (SnapPart 1 0 None)
      ∷ message Controller (Client 0) (Release 0)
      ∷ message Controller (Client 0) (Ask 1)
      ∷ message (Client 0) Controller (Told 1 0 0 None)
      ∷ message Controller (Server 0) (TopAsk 1)
      ∷ message (Server 0) Controller (TopIs 1 0 0)
      ∷ message Controller Switch (SnapStart 2 2)
      ∷ message Switch Controller (SnapBegun 2 0)
      ∷ message Controller Switch (SnapRead 2 2 0)
      ∷ message Switch Controller (SnapPart 2 0 None)
      ∷ message Controller (Client 0) (Release 0)
      ∷ message Controller Switch (SnapFrom 2 3 2)
      ∷ message Switch Controller (SnapBegun 3 0)
      ∷ message Controller Switch (SnapRead 2 3 0)
      ∷ message Switch Controller (SnapSame 3 0)
      ∷ message Controller (Client 0) (Release 0)
      ∷ message Controller (Client 0) (Ask 2)
      ∷ message (Client 0) Controller (Told 2 0 0 None)
      ∷ message Controller (Server 0) (TopAsk 2)
      ∷ message (Server 0) Controller (TopIs 2 0 0)
      ∷ [];
  log =
      at 5 (Snapped 1 0 0 0)
      ∷ at 7 Stopped
      ∷ at 13 (Recovered 0 0)
      ∷ at 18 (Snapped 2 0 0 0)
      ∷ at 24 (Snapped 3 0 0 1)
      ∷ at 26 Stopped
      ∷ at 32 (Recovered 0 0)
      ∷ [];
}

-- three clients tell several records each, in parts that overtake each other
abbrev pub records_told_in_parts_traffic : Traffic
records_told_in_parts_traffic = record {
  events = OrderOf 0 ∷ OrderOf 1 ∷ OrderOf 2 ∷ Tick ∷ Deliver 0 ∷ Deliver 0 ∷ Tick ∷ Deliver 0 ∷ Deliver 0 ∷ Tick
      ∷ Deliver 0 ∷ Deliver 0 ∷ Send 2 ∷ Deliver 0 ∷ Deliver 0 ∷ Deliver 0 ∷ Deliver 0 ∷ Send 1 ∷ Deliver 0
      ∷ Deliver 0 ∷ Send 0 ∷ Deliver 0 ∷ Deliver 0 ∷ Send 0 ∷ Deliver 0 ∷ Deliver 0 ∷ OrderOf 3 ∷ Deliver 0
      ∷ Deliver 0 ∷ Deliver 0 ∷ Deliver 0 ∷ Deliver 0 ∷ Deliver 0 ∷ Deliver 0 ∷ Deliver 0 ∷ Send 1 ∷ Deliver 3
      ∷ Send 0 ∷ Deliver 4 ∷ Deliver 4 ∷ OrderOf 4 ∷ Deliver 4 ∷ Send 0 ∷ Deliver 5 ∷ Deliver 6 ∷ Deliver 5
      ∷ Deliver 4 ∷ Deliver 4 ∷ Deliver 4 ∷ Deliver 4 ∷ Deliver 4 ∷ Deliver 4 ∷ Deliver 0 ∷ Deliver 3 ∷ Deliver 0
      ∷ Deliver 1 ∷ Send 0 ∷ Deliver 2 ∷ Deliver 2 ∷ Send 1 ∷ Deliver 2 ∷ Deliver 2 ∷ Send 2 ∷ Deliver 2 ∷ Deliver 2
      ∷ Send 1 ∷ Deliver 3 ∷ OrderOf 5 ∷ Deliver 3 ∷ Recover ∷ Deliver 3 ∷ Deliver 8 ∷ Deliver 3 ∷ Deliver 7
      ∷ Deliver 8 ∷ Deliver 3 ∷ Deliver 10 ∷ Deliver 3 ∷ Deliver 9 ∷ Deliver 3 ∷ Deliver 8 ∷ Deliver 3 ∷ Deliver 7
      ∷ Deliver 3 ∷ Deliver 6 ∷ Deliver 4 ∷ Deliver 5 ∷ Deliver 4 ∷ Deliver 4 ∷ Deliver 3 ∷ Deliver 3 ∷ Deliver 3
      ∷ Deliver 5 ∷ Deliver 5 ∷ Deliver 4 ∷ Deliver 4 ∷ Deliver 3 ∷ Deliver 3 ∷ Restart ∷ OrderOf 6 ∷ Tick ∷ Deliver 3
      ∷ Deliver 3 ∷ Deliver 2 ∷ Deliver 2 ∷ Deliver 1 ∷ Deliver 0 ∷ Send 2 ∷ Deliver 0 ∷ Deliver 0 ∷ Deliver 0
      ∷ Deliver 0 ∷ Send 2 ∷ Deliver 0 ∷ Deliver 0 ∷ Send 1 ∷ Deliver 0 ∷ Deliver 0 ∷ Deliver 0 ∷ Deliver 0 ∷ Send 1
      ∷ Deliver 0 ∷ Deliver 0 ∷ Deliver 0 ∷ Deliver 0 ∷ Send 0 ∷ Deliver 0 ∷ Deliver 0 ∷ Deliver 0 ∷ Deliver 0 ∷ [];
  taken =
      message Controller Switch (Admit 1 0 key_a 1)
      ∷ message Switch Controller (AdmitAck 0 1)
      ∷ message Controller Switch (Admit 1 1 key_b 2)
      ∷ message Switch Controller (AdmitAck 1 2)
      ∷ message Controller Switch (Admit 1 2 key_c 3)
      ∷ message Switch Controller (AdmitAck 2 3)
      ∷ message (Client 2) Switch (WriteReq 2 10 key_d body_m)
      ∷ message Switch (Server 1) (WriteFwd 2 10 key_d 1 body_m)
      ∷ message (Server 1) Switch (WriteRep 2 10 key_d 1 body_m)
      ∷ message Switch (Client 2) (WriteAns 2 10 key_d 1 false)
      ∷ message (Client 1) Switch (WriteReq 1 3 key_c body_r)
      ∷ message Switch (Client 1) (WriteAns 1 3 key_c 2 true)
      ∷ message (Client 0) Switch (WriteReq 0 1 key_a body_p)
      ∷ message Switch (Client 0) (WriteAns 0 1 key_a 3 true)
      ∷ message (Client 0) Switch (WriteReq 0 2 key_b body_q)
      ∷ message Switch (Client 0) (WriteAns 0 2 key_b 4 true)
      ∷ message Controller Switch (SnapStart 1 1)
      ∷ message Switch Controller (SnapBegun 1 4)
      ∷ message Controller Switch (SnapRead 1 1 0)
      ∷ message Controller Switch (SnapRead 1 1 1)
      ∷ message Controller Switch (SnapRead 1 1 2)
      ∷ message Switch Controller (SnapPart 1 0 (Some (item key_a 3 body_p)))
      ∷ message Switch Controller (SnapPart 1 1 (Some (item key_b 4 body_q)))
      ∷ message Switch Controller (SnapPart 1 2 (Some (item key_c 2 body_r)))
      ∷ message (Client 1) Switch (WriteReq 1 5 key_c body_u)
      ∷ message (Client 0) Switch (WriteReq 0 4 key_a body_t)
      ∷ message Switch (Client 0) (WriteAns 0 4 key_a 6 true)
      ∷ message Controller Switch (SnapFrom 1 2 1)
      ∷ message (Client 0) Switch (WriteReq 0 6 key_b body_v)
      ∷ message Switch Controller (SnapSame 2 1)
      ∷ message Switch (Client 0) (WriteAns 0 6 key_b 7 true)
      ∷ message Switch Controller (SnapBegun 2 6)
      ∷ message Controller Switch (SnapRead 1 2 0)
      ∷ message Controller Switch (SnapRead 1 2 2)
      ∷ message Switch Controller (SnapPart 2 0 (Some (item key_a 6 body_t)))
      ∷ message Switch Controller (SnapPart 2 2 (Some (item key_c 5 body_u)))
      ∷ message Controller (Client 0) (Release 6)
      ∷ message Controller (Client 0) (Release 4)
      ∷ message Controller (Client 1) (Release 6)
      ∷ message Controller (Client 1) (Release 4)
      ∷ message Switch (Client 1) (WriteAns 1 5 key_c 5 true)
      ∷ message (Client 0) Switch (WriteReq 0 7 key_a body_w)
      ∷ message Switch (Client 0) (WriteAns 0 7 key_a 8 true)
      ∷ message (Client 1) Switch (WriteReq 1 8 key_b body_x)
      ∷ message Switch (Client 1) (WriteAns 1 8 key_b 9 true)
      ∷ message (Client 2) Switch (WriteReq 2 11 key_d body_k)
      ∷ message Switch (Server 1) (WriteFwd 2 11 key_d 10 body_k)
      ∷ message (Client 1) Switch (WriteReq 1 9 key_a body_y)
      ∷ message Switch (Client 1) (WriteAns 1 9 key_a 11 true)
      ∷ message Controller (Client 0) (Ask 1)
      ∷ message (Client 0) Controller (Told 1 0 2 (Some (item key_b 7 body_v)))
      ∷ message Controller (Client 1) (Ask 1)
      ∷ message (Client 0) Controller (Told 1 0 2 (Some (item key_a 8 body_w)))
      ∷ message (Client 1) Controller (Told 1 1 2 (Some (item key_b 9 body_x)))
      ∷ message Controller (Client 2) (Ask 1)
      ∷ message (Client 2) Controller (Told 1 2 0 None)
      ∷ message Controller (Server 1) (Store 1 (item key_a 6 body_t))
      ∷ message (Server 1) Controller (Stored 1)
      ∷ message Controller (Server 2) (Store 2 (item key_b 4 body_q))
      ∷ message (Server 2) Controller (Stored 2)
      ∷ message Controller (Server 0) (Store 3 (item key_c 5 body_u))
      ∷ message (Server 0) Controller (Stored 3)
      ∷ message Controller (Server 2) (Store 4 (item key_b 7 body_v))
      ∷ message (Server 2) Controller (Stored 4)
      ∷ message Controller (Server 1) (Store 5 (item key_a 8 body_w))
      ∷ message (Server 1) Controller (Stored 5)
      ∷ message Controller (Server 2) (Store 6 (item key_b 9 body_x))
      ∷ message (Server 2) Controller (Stored 6)
      ∷ message (Client 1) Controller (Told 1 1 2 (Some (item key_a 11 body_y)))
      ∷ message Controller (Server 1) (Store 7 (item key_a 11 body_y))
      ∷ message (Server 1) Controller (Stored 7)
      ∷ message Controller (Server 2) (TopAsk 1)
      ∷ message (Server 2) Controller (TopIs 1 2 9)
      ∷ message Controller (Server 1) (TopAsk 1)
      ∷ message (Server 1) Controller (TopIs 1 1 11)
      ∷ message Controller (Server 0) (TopAsk 1)
      ∷ message (Server 0) Controller (TopIs 1 0 5)
      ∷ message Controller Switch (Admit 2 0 key_b 4)
      ∷ message Switch Controller (AdmitAck 0 4)
      ∷ message (Server 1) Switch (WriteRep 2 11 key_d 10 body_k)
      ∷ message Switch (Client 2) (WriteAns 2 11 key_d 10 false)
      ∷ message Controller (Client 2) (Release 6)
      ∷ message Controller (Client 2) (Release 4)
      ∷ message (Client 2) Switch (GetReq 2 12 key_b)
      ∷ message Switch (Server 2) (GetFwd 2 12 key_b 4)
      ∷ message (Server 2) Switch (GetRep 2 12 key_b 4 9 body_x)
      ∷ message Switch (Client 2) (GetAns 2 12 key_b 9 body_x false)
      ∷ message (Client 2) Switch (GetReq 2 15 key_b)
      ∷ message Switch (Client 2) (GetAns 2 15 key_b 9 body_x true)
      ∷ message (Client 1) Switch (GetReq 1 14 key_c)
      ∷ message Switch (Server 0) (GetFwd 1 14 key_c 0)
      ∷ message (Server 0) Switch (GetRep 1 14 key_c 0 5 body_u)
      ∷ message Switch (Client 1) (GetAns 1 14 key_c 5 body_u false)
      ∷ message (Client 1) Switch (GetReq 1 16 key_d)
      ∷ message Switch (Server 1) (GetFwd 1 16 key_d 0)
      ∷ message (Server 1) Switch (GetRep 1 16 key_d 0 10 body_k)
      ∷ message Switch (Client 1) (GetAns 1 16 key_d 10 body_k false)
      ∷ message (Client 0) Switch (GetReq 0 13 key_a)
      ∷ message Switch (Server 1) (GetFwd 0 13 key_a 0)
      ∷ message (Server 1) Switch (GetRep 0 13 key_a 0 11 body_y)
      ∷ message Switch (Client 0) (GetAns 0 13 key_a 11 body_y false)
      ∷ [];
  log =
      at 6 (Admitted 0 key_a 1)
      ∷ at 9 (Admitted 1 key_b 2)
      ∷ at 12 (Admitted 2 key_c 3)
      ∷ at 13 (Sent 10 (put 2 key_d body_m))
      ∷ at 14 (Numbered 10 1)
      ∷ at 16 (Emitted 10 1 None false)
      ∷ at 17 (Answered 10)
      ∷ at 18 (Sent 3 (put 1 key_c body_r))
      ∷ at 19 (Numbered 3 2)
      ∷ at 19 (Emitted 3 2 None true)
      ∷ at 20 (Answered 3)
      ∷ at 21 (Sent 1 (put 0 key_a body_p))
      ∷ at 22 (Numbered 1 3)
      ∷ at 22 (Emitted 1 3 None true)
      ∷ at 23 (Answered 1)
      ∷ at 24 (Sent 2 (put 0 key_b body_q))
      ∷ at 25 (Numbered 2 4)
      ∷ at 25 (Emitted 2 4 None true)
      ∷ at 26 (Answered 2)
      ∷ at 35 (Snapped 1 4 3 0)
      ∷ at 35 (SnapItem 0 (item key_a 3 body_p))
      ∷ at 35 (SnapItem 1 (item key_b 4 body_q))
      ∷ at 35 (SnapItem 2 (item key_c 2 body_r))
      ∷ at 36 (Sent 5 (put 1 key_c body_u))
      ∷ at 37 (Numbered 5 5)
      ∷ at 37 (Emitted 5 5 None true)
      ∷ at 38 (Sent 4 (put 0 key_a body_t))
      ∷ at 39 (Numbered 4 6)
      ∷ at 39 (Emitted 4 6 None true)
      ∷ at 40 (Answered 4)
      ∷ at 43 (Sent 6 (put 0 key_b body_v))
      ∷ at 44 (Numbered 6 7)
      ∷ at 44 (Emitted 6 7 None true)
      ∷ at 46 (Answered 6)
      ∷ at 51 (Snapped 2 6 3 1)
      ∷ at 51 (SnapItem 0 (item key_a 6 body_t))
      ∷ at 51 (SnapItem 1 (item key_b 4 body_q))
      ∷ at 51 (SnapItem 2 (item key_c 5 body_u))
      ∷ at 56 (Answered 5)
      ∷ at 57 (Sent 7 (put 0 key_a body_w))
      ∷ at 58 (Numbered 7 8)
      ∷ at 58 (Emitted 7 8 None true)
      ∷ at 59 (Answered 7)
      ∷ at 60 (Sent 8 (put 1 key_b body_x))
      ∷ at 61 (Numbered 8 9)
      ∷ at 61 (Emitted 8 9 None true)
      ∷ at 62 (Answered 8)
      ∷ at 63 (Sent 11 (put 2 key_d body_k))
      ∷ at 64 (Numbered 11 10)
      ∷ at 66 (Sent 9 (put 1 key_a body_y))
      ∷ at 67 (Numbered 9 11)
      ∷ at 67 (Emitted 9 11 None true)
      ∷ at 68 Stopped
      ∷ at 69 (Answered 9)
      ∷ at 99 (Recovered 11 4)
      ∷ at 99 (RecItem (item key_a 11 body_y))
      ∷ at 99 (RecItem (item key_b 9 body_x))
      ∷ at 99 (RecItem (item key_c 5 body_u))
      ∷ at 99 (RecItem (item key_d 10 body_k))
      ∷ at 103 (Admitted 0 key_b 4)
      ∷ at 104 (Emitted 11 10 None false)
      ∷ at 105 (Answered 11)
      ∷ at 108 (Sent 12 (get 2 key_b))
      ∷ at 111 (Emitted 12 9 body_x false)
      ∷ at 112 (Answered 12)
      ∷ at 113 (Sent 15 (get 2 key_b))
      ∷ at 114 (Emitted 15 9 body_x true)
      ∷ at 115 (Answered 15)
      ∷ at 116 (Sent 14 (get 1 key_c))
      ∷ at 119 (Emitted 14 5 body_u false)
      ∷ at 120 (Answered 14)
      ∷ at 121 (Sent 16 (get 1 key_d))
      ∷ at 124 (Emitted 16 10 body_k false)
      ∷ at 125 (Answered 16)
      ∷ at 126 (Sent 13 (get 0 key_a))
      ∷ at 129 (Emitted 13 11 body_y false)
      ∷ at 130 (Answered 13)
      ∷ [];
}

-- What a pass through the switch sends on.
use Rattle.std.proofs.Common.{◌≡◌, false, List, [], ◌∷◌, refl}
use Rattle.far_base.specs.declared.packet.Out.{Out}
use Rattle.far_base.specs.declared.packet.Packet.{Packet}
use Rattle.far_base.specs.declared.packet.Packet.TheVariants.{GetReq, WriteReq, GetFwd, WriteFwd, GetRep, WriteRep, GetAns, WriteAns}
use Rattle.far_base.specs.declared.party.Party.TheVariants.{Switch}
use Rattle.far_invariants.specs.Flights.{Subject, subject, is_operation, IsFor}
use Rattle.far_model.specs.Members.{Each}
use Rattle.far_model.specs.Parties.{messages_from}
use Rattle.far_model.specs.Pass.{Passed, numbered, outs_of, pass, passed_out}
use Rattle.far_model.specs.Steps.{IsDropped, PassRow, ReadHit, ReadOutdated, ReadMiss, WriteHit, WriteMiss, ReadReply, WriteReply, AdmitLate, RemoveLatest, PartRead, Drops}
use Rattle.far_model.specs.View.{SwitchView}
use Rattle.far_model.proofs.Rows.{change_sends, part_is, pass_leaves, reply_sends, touch_sends}
use Rattle.far_model.proofs.Steps.{pass_rows}
use Rattle.flight_laws.proofs.Sends.{Adds, IsControl, IsCarried, carried_adds, control_adds}

-- a pass keeps the sizes, and sends on what it handles, or nothing of an operation
pub record PassSends (v : SwitchView) (sub : Subject) (p : Passed) : Type 0 where
  pub config : p.view.config ≡ v.config
  pub adds : Adds v.config sub (messages_from Switch (passed_out p))

-- a packet that is dropped is of no operation
dropped_plain : (v : SwitchView) (p : Packet) → IsDropped v p → IsFor v.config p Switch → is_operation (subject p) ≡ false
dropped_plain v (GetReq caller op key) d goes = absurd d
dropped_plain v (WriteReq caller op key body) d goes = absurd d
dropped_plain v (GetRep caller op key tag num body) d goes = absurd d
dropped_plain v (WriteRep caller op key num body) d goes = absurd d
dropped_plain v (GetFwd caller op key tag) d goes = absurd cc
dropped_plain v (WriteFwd caller op key num body) d goes = absurd cc
dropped_plain v (GetAns caller op key num body near) d goes = absurd cc
dropped_plain v (WriteAns caller op key num kept) d goes = absurd cc
dropped_plain v _ d goes = refl

module _ (v : SwitchView) where
  abbrev Control : Out → Type 0
  Control o = IsControl v.config Switch o

  abbrev Sent : Packet → Passed → Type 0
  Sent p q = Adds v.config (subject p) (messages_from Switch (passed_out q))

  on : (sub : Subject) (o : Out) (outs : List Out) → IsCarried v.config Switch sub o → Each Control outs → Adds v.config sub (messages_from Switch (o ∷ outs))
  on sub o outs carried h = carried_adds v.config Switch sub o outs carried h

  row_sends : (p : Packet) (q : Passed) → PassRow v p q → IsFor v.config p Switch → Sent p q
  row_sends p q (ReadHit caller op key i e l) goes = on (subject p) _ [] (record { same = refl; travels = record { source = refl; target = refl } }) tt
  row_sends p q (ReadOutdated caller op key i e l) goes = on (subject p) _ [] (record { same = refl; travels = record { source = refl; target = refl } }) tt
  row_sends p q (ReadMiss caller op key hot e t) goes = on (subject p) _ (outs_of hot) (record { same = refl; travels = record { source = refl; target = refl } }) (touch_sends Control v key hot t (record { apart = refl; travels = record { source = refl; target = refl } }))
  row_sends p q (WriteHit caller op key body i w part e c) goes = on (subject p) _ (outs_of part) (record { same = refl; travels = record { source = refl; target = refl } }) (change_sends Control (numbered v) i _ w part c (λ r. record { apart = refl; travels = record { source = refl; target = refl } }) (record { apart = refl; travels = record { source = refl; target = refl } }))
  row_sends p q (WriteMiss caller op key body hot e t) goes = on (subject p) _ (outs_of hot) (record { same = refl; travels = record { source = refl; target = refl } }) (touch_sends Control (numbered v) key hot t (record { apart = refl; travels = record { source = refl; target = refl } }))
  row_sends p q (ReadReply caller op key tag num body w part r) goes = on (subject p) _ (outs_of part) (record { same = refl; travels = record { source = refl; target = refl } }) (reply_sends Control v _ key num body w part r (λ i x. record { apart = refl; travels = record { source = refl; target = refl } }) (λ i. record { apart = refl; travels = record { source = refl; target = refl } }))
  row_sends p q (WriteReply caller op key num body w part r) goes = on (subject p) _ (outs_of part) (record { same = refl; travels = record { source = refl; target = refl } }) (reply_sends Control v _ key num body w part r (λ i x. record { apart = refl; travels = record { source = refl; target = refl } }) (λ i. record { apart = refl; travels = record { source = refl; target = refl } }))
  row_sends p q (RemoveLatest epoch i tag latest num w part e m u l c) goes = control_adds v.config Switch (subject p) (passed_out q) refl (record { apart = refl; travels = record { source = refl; target = refl } }, change_sends Control v i _ w part c (λ r. record { apart = refl; travels = record { source = refl; target = refl } }) (record { apart = refl; travels = record { source = refl; target = refl } }))
  row_sends p q (PartRead epoch i part e t r) goes = control_adds v.config Switch (subject p) (passed_out q) refl (part_is Control v i part r (λ x. record { apart = refl; travels = record { source = refl; target = refl } }) (record { apart = refl; travels = record { source = refl; target = refl } }), tt)
  row_sends p q (AdmitLate epoch i key tag e f) goes = control_adds v.config Switch (subject p) [] refl tt
  row_sends p q (Drops p2 e) goes = control_adds v.config Switch (subject p) [] (dropped_plain v p e goes) tt
  row_sends p q _ goes = control_adds v.config Switch (subject p) (passed_out q) refl (record { apart = refl; travels = record { source = refl; target = refl } }, tt)

-- a packet that goes to the switch is sent on or answered
pub row_passes : (v : SwitchView) (p : Packet) (q : Passed) → PassRow v p q → IsFor v.config p Switch → PassSends v (subject p) q
row_passes v p q r goes = record { config = (pass_leaves v p q r).config; adds = row_sends v p q r goes }

pub pass_sends : (v : SwitchView) (p : Packet) → IsFor v.config p Switch → PassSends v (subject p) (pass v p)
pass_sends v p goes = row_passes v p (pass v p) (pass_rows v p) goes

-- What a pass changes: the slot that its packet concerns, the record that it sets or takes away; and the part that
-- leaves.
use Rattle.std.specs.Prelude.{
  ◌≡◌,
  ◌≢◌,
  ℕ,
  ◌+◌,
  Bool,
  true,
  false,
  ◌&&◌,
  nat_eq,
  if◌then◌else◌,
  List,
  [],
  ◌∷◌,
  Option,
  None,
  Some,
}
use Rattle.std.specs.List.{filter}
use Rattle.far_base.specs.declared.packet.Out.{Out}
use Rattle.far_base.specs.declared.packet.Packet.{Packet}
use Rattle.far_base.specs.declared.packet.Packet.TheVariants.{
  GetReq,
  WriteReq,
  GetRep,
  WriteRep,
  Admit,
  Remove,
  SnapStart,
  SnapRead,
  SnapPart,
  SnapSame,
  SnapFrom,
}
use Rattle.far_base.specs.declared.party.Party.TheVariants.{Controller}
use Rattle.far_model.specs.Parties.{to_party}
use Rattle.far_model.specs.Pass.{is_slot_there, may_go, part_packet, takes_reply}
use Rattle.far_model.specs.View.{SwitchView, entry_place, is_taken, shown_at, slot_at, taken_at}

-- ---- parts

-- the slot of a reply's entry, where it takes the record
abbrev pub taking_place : SwitchView → Option ℕ → ℕ → Option ℕ → Option ℕ
taking_place v tag num None = None
taking_place v tag num (Some i) = if takes_reply tag num (slot_at v i) then Some i else None

-- the slot whose record the pass sets or takes away: of a write at an entry, a reply that is taken, and a removal of a
-- latest slot that is done
abbrev pub changed_place : SwitchView → Packet → Option ℕ
changed_place v (WriteReq caller op key body) = entry_place key v
changed_place v (GetRep caller op key tag num body) = taking_place v (Some tag) num (entry_place key v)
changed_place v (WriteRep caller op key num body) = taking_place v None num (entry_place key v)
changed_place v (Remove epoch i tag latest num) =
    if is_slot_there v epoch i && (may_go tag latest num (slot_at v i) && (slot_at v i).latest) then Some i else None
changed_place v _ = None

-- the slot whose part is asked for: of a read of the present snapshot
abbrev pub asked_place : SwitchView → Packet → Option ℕ
asked_place v (SnapRead epoch id i) = if is_slot_there v epoch i && nat_eq id v.snap then Some i else None
asked_place v _ = None

abbrev pub is_part : Packet → Bool
is_part (SnapPart id i view) = true
is_part (SnapSame id i) = true
is_part _ = false

-- the parts among what leaves
abbrev pub parts_in : List Out → List Out
parts_in outs = filter (λ out. is_part out.packet) outs

-- the slot's part, where it was not taken
abbrev pub part_due : SwitchView → Option ℕ → List Out
part_due v None = []
part_due v (Some i) = if is_taken v i then [] else to_party Controller (part_packet v i) ∷ []

-- ---- what changes

-- the slot that a packet concerns
abbrev pub concerned_place : SwitchView → Packet → Option ℕ
concerned_place v (WriteReq caller op key body) = entry_place key v
concerned_place v (GetRep caller op key tag num body) = entry_place key v
concerned_place v (WriteRep caller op key num body) = entry_place key v
concerned_place v (Admit epoch i key tag) = Some i
concerned_place v (Remove epoch i tag latest num) = Some i
concerned_place v (SnapRead epoch id i) = Some i
concerned_place v _ = None

abbrev pub is_write : Packet → Bool
is_write (WriteReq caller op key body) = true
is_write _ = false

abbrev pub is_request : Packet → Bool
is_request (GetReq caller op key) = true
is_request (WriteReq caller op key body) = true
is_request _ = false

abbrev pub is_admission : Packet → Bool
is_admission (Admit epoch i key tag) = true
is_admission _ = false

abbrev pub is_start : Packet → Bool
is_start (SnapStart epoch id) = true
is_start (SnapFrom epoch id base) = true
is_start _ = false

-- the slot, the era in which its part was taken, and its mark
pub record SlotStays (v w : SwitchView) (i : ℕ) : Type 0 where
  pub slot : slot_at w i ≡ slot_at v i
  pub taken : taken_at w i ≡ taken_at v i
  pub shown : shown_at w i ≡ shown_at v i

-- a packet changes only what its row names: a write the counter, the start of a snapshot the snapshot, an admission the
-- binding of keys, a request the counts of hot keys, and of the slots each the one that it concerns
pub record ChangesItsOwn (v : SwitchView) (packet : Packet) (w : SwitchView) : Type 0 where
  pub config : w.config ≡ v.config
  pub epoch : w.epoch ≡ v.epoch
  pub counter : w.counter ≡ (if is_write packet then v.counter + 1 else v.counter)
  pub snap : is_start packet ≡ false → w.snap ≡ v.snap
  pub base : is_start packet ≡ false → w.base ≡ v.base
  pub bound : is_admission packet ≡ false → w.bound ≡ v.bound
  pub hot : is_request packet ≡ false → w.hot ≡ v.hot
  pub others : (other : ℕ) → concerned_place v packet ≢ Some other → SlotStays v w other

-- a slot that is not valid is outdated
abbrev pub FreeIsOutdated : SwitchView → Type 0
FreeIsOutdated v = (i : ℕ) → (slot_at v i).valid ≡ false → (slot_at v i).latest ≡ false

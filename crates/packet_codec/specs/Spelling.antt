-- The one spelling of each packet.
use Rattle.std.specs.Prelude.{◌≡◌, ℕ, ◌^◌, ◌<◌, ◌≤◌, List, [], ◌∷◌, ◌++◌, length, drop, Bool, true, false, Option}
use Rattle.std.specs.Prelude.{Some, None, IsTrue, is_some}
use Rattle.std.specs.Int.{w16, w32, w64, to_be_bytes}
use Rattle.far_base.specs.Key.{is_key}
use Rattle.far_base.specs.Padded.{is_there, length_of, text_of}
use Rattle.far_base.specs.declared.body.TheConstants.{BODY_LIMIT}
use Rattle.far_base.specs.declared.record.Record.{Record}
use Rattle.far_base.specs.declared.packet.Packet.{Packet}
use Rattle.far_base.specs.declared.packet.Packet.TheVariants as packet
use Rattle.packet_codec.specs.declared.kinds.TheConstants as kinds
use Rattle.packet_codec.specs.declared.wire.TheConstants.{VERSION}

-- what stands in a packet: its bytes, and that its value is within its range
pub record Part : Type 1 where
  pub bytes : List ℕ
  pub in_range : Type 0

-- one part, and then the other
infixl 10 ◌and◌
abbrev pub ◌and◌ : Part → Part → Part
a and b = record { bytes = a.bytes ++ b.bytes; in_range = a.in_range × b.in_range }

-- numbers, the highest byte first
unfoldable pub u16_part : ℕ → Part
u16_part n = record { bytes = to_be_bytes w16 n; in_range = n < 2 ^ 16 }

unfoldable pub u32_part : ℕ → Part
u32_part n = record { bytes = to_be_bytes w32 n; in_range = n < 2 ^ 32 }

unfoldable pub u64_part : ℕ → Part
u64_part n = record { bytes = to_be_bytes w64 n; in_range = n < 2 ^ 64 }

-- 1 where it is set
abbrev pub flag_byte : Bool → ℕ
flag_byte true = 1
flag_byte false = 0

-- one byte
unfoldable pub flag_part : Bool → Part
flag_part flag = record { bytes = flag_byte flag ∷ []; in_range = Unit {0} }

-- the sixteen bytes of a key
unfoldable pub key_part : List ℕ → Part
key_part key = record { bytes = key; in_range = IsTrue (is_key key) }

-- a caller, the number of its operation, and a key
unfoldable pub call_part : ℕ → ℕ → List ℕ → Part
call_part caller op key = u32_part caller and u32_part op and key_part key

-- the bytes of a body, none where it is absent
abbrev pub text_part : Option (List ℕ) → Part
text_part body = record { bytes = text_of body; in_range = length (text_of body) ≤ BODY_LIMIT }

-- whether it is there, its length, which is 0 where it is absent, and so many bytes
unfoldable pub body_part : Option (List ℕ) → Part
body_part body = flag_part (is_there body) and u16_part (length_of body) and text_part body

-- a key, the number of its write, and a body
unfoldable pub rec_part : Record → Part
rec_part rec = key_part rec.key and u64_part rec.num and body_part rec.body

-- the record, and nothing where there is none
abbrev pub inner_part : Option Record → Part
inner_part None = record { bytes = []; in_range = Unit {0} }
inner_part (Some rec) = rec_part rec

-- whether there is a record, and the record
unfoldable pub held_part : Option Record → Part
held_part held = flag_part (is_some held) and inner_part held

-- the part stands behind what was there
pub record Adds (old new : List ℕ) (part : Part) : Type 0 where
  pub added : new ≡ old ++ part.bytes
  pub in_range : part.in_range

-- the number of a kind, and its fields in their order
pub record Row : Type 1 where
  pub kind : ℕ
  pub fields : Part

-- a kind of this number
abbrev pub numbered : ℕ → Part → Row
numbered kind fields = record { kind = kind; fields = fields }

-- the format, a row for each kind
abbrev pub row : Packet → Row
row (packet.GetReq caller op key) = numbered kinds.GET_REQ (call_part caller op key)
row (packet.WriteReq caller op key body) = numbered kinds.WRITE_REQ (call_part caller op key and body_part body)
row (packet.GetFwd caller op key tag) = numbered kinds.GET_FWD (call_part caller op key and u64_part tag)
row (packet.WriteFwd caller op key num body) = numbered kinds.WRITE_FWD
    (call_part caller op key and u64_part num and body_part body)
row (packet.GetRep caller op key tag num body) = numbered kinds.GET_REP
    (call_part caller op key and u64_part tag and u64_part num and body_part body)
row (packet.WriteRep caller op key num body) = numbered kinds.WRITE_REP
    (call_part caller op key and u64_part num and body_part body)
row (packet.GetAns caller op key num body near) = numbered kinds.GET_ANS
    (call_part caller op key and u64_part num and body_part body and flag_part near)
row (packet.WriteAns caller op key num kept) = numbered kinds.WRITE_ANS
    (call_part caller op key and u64_part num and flag_part kept)
row (packet.Hot key) = numbered kinds.HOT (key_part key)
row (packet.Admit epoch slot key tag) = numbered kinds.ADMIT
    (u32_part epoch and u32_part slot and key_part key and u64_part tag)
row (packet.AdmitAck slot tag) = numbered kinds.ADMIT_ACK (u32_part slot and u64_part tag)
row (packet.Peek epoch slot tag) = numbered kinds.PEEK (u32_part epoch and u32_part slot and u64_part tag)
row (packet.PeekAns slot tag latest num body) = numbered kinds.PEEK_ANS
    (u32_part slot and u64_part tag and flag_part latest and u64_part num and body_part body)
row (packet.Remove epoch slot tag latest num) = numbered kinds.REMOVE
    (u32_part epoch and u32_part slot and u64_part tag and flag_part latest and u64_part num)
row (packet.RemoveAns slot tag done latest num body) = numbered kinds.REMOVE_ANS
    (u32_part slot and u64_part tag and flag_part done and flag_part latest and u64_part num and body_part body)
row (packet.SnapStart epoch id) = numbered kinds.SNAP_START (u32_part epoch and u32_part id)
row (packet.SnapBegun id point) = numbered kinds.SNAP_BEGUN (u32_part id and u64_part point)
row (packet.SnapRead epoch id slot) = numbered kinds.SNAP_READ (u32_part epoch and u32_part id and u32_part slot)
row (packet.SnapPart id slot view) = numbered kinds.SNAP_PART (u32_part id and u32_part slot and held_part view)
row (packet.Store job item) = numbered kinds.STORE (u64_part job and rec_part item)
row (packet.Stored job) = numbered kinds.STORED (u64_part job)
row (packet.Release point) = numbered kinds.RELEASE (u64_part point)
row (packet.Ask round) = numbered kinds.ASK (u32_part round)
row (packet.Told round caller total item) = numbered kinds.TOLD
    (u32_part round and u32_part caller and u32_part total and held_part item)
row (packet.TopAsk round) = numbered kinds.TOP_ASK (u32_part round)
row (packet.TopIs round server top) = numbered kinds.TOP_IS (u32_part round and u32_part server and u64_part top)
row (packet.SnapSame id slot) = numbered kinds.SNAP_SAME (u32_part id and u32_part slot)
row (packet.SnapFrom epoch id base) = numbered kinds.SNAP_FROM (u32_part epoch and u32_part id and u32_part base)

-- the version, the kind, the fields in their order and nothing else
abbrev pub spelled : Packet → Part
spelled packet = let r = row packet in record {
  bytes = VERSION ∷ r.kind ∷ r.fields.bytes;
  in_range =
      r.fields.in_range;
}

-- the bytes are the one spelling of the packet
pub record Spells (bytes : List ℕ) (packet : Packet) : Type 0 where
  pub same : bytes ≡ (spelled packet).bytes
  pub in_range : (spelled packet).in_range

-- the part begins at this byte, whatever follows it
pub record Stands (bytes : List ℕ) (at : ℕ) (part : Part) : Type 0 where
  pub rest : List ℕ
  pub same : drop at bytes ≡ part.bytes ++ rest
  pub in_range : part.in_range

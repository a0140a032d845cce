-- A packet that is read is what was spelled, and what was spelled is read.
use Rattle.std.proofs.Common.{◌≡◌, ℕ, suc, ◌<◌, ◌≤◌, ◌⊎◌, Bool, true, false, cond, eqb, List, [], ◌∷◌, ◌++◌, Ok, Err, inl, inr, refl, subst, ◌∙◌, arith}
use Rattle.std.proofs.lemmas.Bool.Decides.{nat_tests}
use Rattle.far_base.specs.declared.packet.Packet.{Packet}
use Rattle.far_base.specs.declared.packet.Packet.TheVariants.{GetReq, WriteReq, GetFwd, WriteFwd, GetRep, WriteRep, GetAns, WriteAns, Hot, Admit, AdmitAck, Peek, PeekAns, Remove, RemoveAns, SnapStart, SnapBegun, SnapRead, SnapPart, Store, Stored, Release, Ask, Told, TopAsk, TopIs, SnapSame, SnapFrom}
use Rattle.packet_codec.specs.declared.fault.BadPacket.{BadPacket}
use Rattle.packet_codec.specs.declared.fault.BadPacket.TheVariants as bad
use Rattle.packet_codec.specs.declared.kinds.TheConstants.{GET_REQ, WRITE_REQ, GET_FWD, WRITE_FWD, GET_REP, WRITE_REP, GET_ANS, WRITE_ANS, HOT, ADMIT, ADMIT_ACK, PEEK, PEEK_ANS, REMOVE, REMOVE_ANS, SNAP_START, SNAP_BEGUN, SNAP_READ, SNAP_PART, STORE, STORED, RELEASE, ASK, TOLD, TOP_ASK, TOP_IS, SNAP_SAME, SNAP_FROM, KIND_COUNT}
use Rattle.packet_codec.specs.declared.wire.TheConstants.{VERSION}
use Rattle.packet_codec.specs.Reading.{◌into◌, Field, made, byte_at, IsFieldFault}
use Rattle.packet_codec.specs.Packets.{fields_at, versioned, packet_at, get_req_at, write_req_at, get_fwd_at, write_fwd_at, get_rep_at, write_rep_at, get_ans_at, write_ans_at, hot_at, admit_at, admit_ack_at, peek_at, peek_ans_at, remove_at, remove_ans_at, snap_start_at, snap_begun_at, snap_read_at, snap_part_at, store_at, stored_at, release_at, ask_at, told_at, top_ask_at, top_is_at, snap_same_at, snap_from_at}
use Rattle.packet_codec.specs.Spelling.{Part, ◌and◌, row}
use Rattle.packet_codec.proofs.Steps.{ok_err, err_is, met, AreBytes, AreBytes-rest, IsMore, one_cut, err_of_met, ok_is}
use Rattle.packet_codec.proofs.Composition.{Takes, IsField, IsBehind, ◌&◌, headed, made_takes, made_again, made_cut, made_faults}
use Rattle.packet_codec.proofs.FieldLaws.{field_u32, field_u64, field_flag, field_key, field_call, field_body, field_rec, field_held}

-- the faults up to the last field
abbrev pub IsFaultWithin : BadPacket → Type 0
IsFaultWithin bad.Short = Unit {0}
IsFaultWithin bad.Version = Unit {0}
IsFaultWithin bad.Kind = Unit {0}
IsFaultWithin bad.Flag = Unit {0}
IsFaultWithin bad.Pad = Unit {0}
IsFaultWithin bad.Length = Unit {0}
IsFaultWithin bad.Rest = ⊥

-- those behind the version
abbrev pub IsFaultBehind : BadPacket → Type 0
IsFaultBehind bad.Short = Unit {0}
IsFaultBehind bad.Version = ⊥
IsFaultBehind bad.Kind = Unit {0}
IsFaultBehind bad.Flag = Unit {0}
IsFaultBehind bad.Pad = Unit {0}
IsFaultBehind bad.Length = Unit {0}
IsFaultBehind bad.Rest = ⊥

field-behind : (fault : BadPacket) → IsFieldFault fault → IsFaultBehind fault
field-behind bad.Short h = tt
field-behind bad.Version h = absurd h
field-behind bad.Kind h = absurd h
field-behind bad.Flag h = tt
field-behind bad.Pad h = tt
field-behind bad.Length h = tt
field-behind bad.Rest h = absurd h

behind-within : (fault : BadPacket) → IsFaultBehind fault → IsFaultWithin fault
behind-within bad.Short h = tt
behind-within bad.Version h = absurd h
behind-within bad.Kind h = tt
behind-within bad.Flag h = tt
behind-within bad.Pad h = tt
behind-within bad.Length h = tt
behind-within bad.Rest h = absurd h

-- ---- one kind

-- reads the fields of the kind of this number
record IsKind (n : ℕ) (read : Field Packet) : Type 0 where
  within : n ≤ KIND_COUNT
  takes : (bytes : List ℕ) (p : Packet) (rest : List ℕ) → AreBytes bytes → read bytes ≡ Ok (p, rest) → Takes bytes (row p).fields rest × ((row p).kind ≡ n)
  faults : (bytes : List ℕ) (fault : BadPacket) → read bytes ≡ Err fault → IsFieldFault fault

of_kind : {A : Type 0} {s : A → Part} {r : Field A} (n : ℕ) → n ≤ KIND_COUNT → (make : A → Packet) → IsField IsFieldFault s r
    → ((bytes : List ℕ) (x : A) (rest : List ℕ) → Takes bytes (s x) rest → Takes bytes (row (make x)).fields rest × ((row (make x)).kind ≡ n)) → IsKind n (made make r)
of_kind n within make f same = record {
  within = within;
  takes = made_takes f make (λ bytes p rest. Takes bytes (row p).fields rest × ((row p).kind ≡ n)) same;
  faults = made_faults f make;
}

-- ---- the kinds from this number on

pub record AreKinds (from n : ℕ) (read : Field Packet) : Type 0 where
  pub takes : (bytes : List ℕ) (p : Packet) (rest : List ℕ) → AreBytes bytes → read bytes ≡ Ok (p, rest) → Takes bytes (row p).fields rest × ((row p).kind ≡ n)
  pub faults : (bytes : List ℕ) (fault : BadPacket) → read bytes ≡ Err fault → IsFaultBehind fault
  pub unknown : (bytes : List ℕ) → read bytes ≡ Err bad.Kind → from ≤ n → KIND_COUNT < n
  pub other : (bytes : List ℕ) → (n < from) ⊎ (KIND_COUNT < n) → read bytes ≡ Err bad.Kind

module _ (n m : ℕ) (here there : Field Packet) (f : IsKind m here) (g : AreKinds (suc m) n there) where
  chosen_takes : (b : Bool) → eqb n m ≡ b → (bytes : List ℕ) (p : Packet) (rest : List ℕ) → AreBytes bytes → cond b (here bytes) (there bytes) ≡ Ok (p, rest) → Takes bytes (row p).fields rest × ((row p).kind ≡ n)
  chosen_takes true test bytes p rest h e =
      let same : m ≡ n = grind (arith, nat_tests) in
      let t = f.takes bytes p rest h e in
      (t.0, t.1 ∙ same)
  chosen_takes false test bytes p rest h e = g.takes bytes p rest h e

  chosen_faults : (b : Bool) (bytes : List ℕ) (fault : BadPacket) → cond b (here bytes) (there bytes) ≡ Err fault → IsFaultBehind fault
  chosen_faults true bytes fault e = field-behind fault (f.faults bytes fault e)
  chosen_faults false bytes fault e = g.faults bytes fault e

  chosen_unknown : (b : Bool) → eqb n m ≡ b → (bytes : List ℕ) → cond b (here bytes) (there bytes) ≡ Err bad.Kind → m ≤ n → KIND_COUNT < n
  chosen_unknown true test bytes e h = absurd (f.faults bytes bad.Kind e)
  chosen_unknown false test bytes e h =
      let next : suc m ≤ n = grind (arith, nat_tests) in
      g.unknown bytes e next

  chosen_other : (b : Bool) → eqb n m ≡ b → (bytes : List ℕ) → (n < m) ⊎ (KIND_COUNT < n) → cond b (here bytes) (there bytes) ≡ Err bad.Kind
  chosen_other true test bytes h =
      let same : n ≡ m = grind (arith, nat_tests) in
      let within : m ≤ KIND_COUNT = f.within in
      elim h [ inl lt ↦ absurd (omega arith) | inr lt ↦ absurd (omega arith) ]
  chosen_other false test bytes h = g.other bytes (elim h [ inl lt ↦ inl (omega arith) | inr lt ↦ inr lt ])

  choose : AreKinds m n (λ bytes. cond (eqb n m) (here bytes) (there bytes))
  choose = record {
    takes = chosen_takes (eqb n m) refl;
    faults = chosen_faults (eqb n m);
    unknown = chosen_unknown (eqb n m) refl;
    other = chosen_other (eqb n m) refl;
  }

-- this kind, or one of those from the next number on
infixr 5 ◌or_else◌
◌or_else◌ : {n m : ℕ} {here there : Field Packet} → IsKind m here → AreKinds (suc m) n there → AreKinds m n (λ bytes. cond (eqb n m) (here bytes) (there bytes))
◌or_else◌ {n} {m} {here} {there} f g = choose n m here there f g

no_kind : (n : ℕ) → AreKinds (suc KIND_COUNT) n (λ bytes. Err bad.Kind)
no_kind n = record {
  takes = λ bytes p rest h e. absurd cc;
  faults = λ bytes fault e. subst IsFaultBehind (err_is (Packet × List ℕ) bad.Kind fault e) tt;
  unknown = λ bytes e h. h;
  other = λ bytes h. refl;
}

-- the kinds, each by its fields
pub kinds : (n : ℕ) → AreKinds 1 n (fields_at n)
unfolding fields_at get_req_at write_req_at get_fwd_at write_fwd_at get_rep_at write_rep_at get_ans_at write_ans_at hot_at admit_at admit_ack_at peek_at peek_ans_at remove_at remove_ans_at snap_start_at snap_begun_at snap_read_at snap_part_at store_at stored_at release_at ask_at told_at top_ask_at top_is_at snap_same_at snap_from_at
kinds n =
    of_kind GET_REQ (omega arith) _ field_call (λ bytes x rest t. (t, refl)) or_else
    of_kind WRITE_REQ (omega arith) _ (field_call & field_body) (λ bytes x rest t. (t, refl)) or_else
    of_kind GET_FWD (omega arith) _ (field_call & field_u64) (λ bytes x rest t. (t, refl)) or_else
    of_kind WRITE_FWD (omega arith) _ (field_call & field_u64 & field_body) (λ bytes x rest t. (t, refl)) or_else
    of_kind GET_REP (omega arith) _ (field_call & field_u64 & field_u64 & field_body) (λ bytes x rest t. (t, refl)) or_else
    of_kind WRITE_REP (omega arith) _ (field_call & field_u64 & field_body) (λ bytes x rest t. (t, refl)) or_else
    of_kind GET_ANS (omega arith) _ (field_call & field_u64 & field_body & field_flag) (λ bytes x rest t. (t, refl)) or_else
    of_kind WRITE_ANS (omega arith) _ (field_call & field_u64 & field_flag) (λ bytes x rest t. (t, refl)) or_else
    of_kind HOT (omega arith) _ field_key (λ bytes x rest t. (t, refl)) or_else
    of_kind ADMIT (omega arith) _ (field_u32 & field_u32 & field_key & field_u64) (λ bytes x rest t. (t, refl)) or_else
    of_kind ADMIT_ACK (omega arith) _ (field_u32 & field_u64) (λ bytes x rest t. (t, refl)) or_else
    of_kind PEEK (omega arith) _ (field_u32 & field_u32 & field_u64) (λ bytes x rest t. (t, refl)) or_else
    of_kind PEEK_ANS (omega arith) _ (field_u32 & field_u64 & field_flag & field_u64 & field_body) (λ bytes x rest t. (t, refl)) or_else
    of_kind REMOVE (omega arith) _ (field_u32 & field_u32 & field_u64 & field_flag & field_u64) (λ bytes x rest t. (t, refl)) or_else
    of_kind REMOVE_ANS (omega arith) _ (field_u32 & field_u64 & field_flag & field_flag & field_u64 & field_body) (λ bytes x rest t. (t, refl)) or_else
    of_kind SNAP_START (omega arith) _ (field_u32 & field_u32) (λ bytes x rest t. (t, refl)) or_else
    of_kind SNAP_BEGUN (omega arith) _ (field_u32 & field_u64) (λ bytes x rest t. (t, refl)) or_else
    of_kind SNAP_READ (omega arith) _ (field_u32 & field_u32 & field_u32) (λ bytes x rest t. (t, refl)) or_else
    of_kind SNAP_PART (omega arith) _ (field_u32 & field_u32 & field_held) (λ bytes x rest t. (t, refl)) or_else
    of_kind STORE (omega arith) _ (field_u64 & field_rec) (λ bytes x rest t. (t, refl)) or_else
    of_kind STORED (omega arith) _ field_u64 (λ bytes x rest t. (t, refl)) or_else
    of_kind RELEASE (omega arith) _ field_u64 (λ bytes x rest t. (t, refl)) or_else
    of_kind ASK (omega arith) _ field_u32 (λ bytes x rest t. (t, refl)) or_else
    of_kind TOLD (omega arith) _ (field_u32 & field_u32 & field_u32 & field_held) (λ bytes x rest t. (t, refl)) or_else
    of_kind TOP_ASK (omega arith) _ field_u32 (λ bytes x rest t. (t, refl)) or_else
    of_kind TOP_IS (omega arith) _ (field_u32 & field_u32 & field_u64) (λ bytes x rest t. (t, refl)) or_else
    of_kind SNAP_SAME (omega arith) _ (field_u32 & field_u32) (λ bytes x rest t. (t, refl)) or_else
    of_kind SNAP_FROM (omega arith) _ (field_u32 & field_u32 & field_u32) (λ bytes x rest t. (t, refl)) or_else
    no_kind n

-- ---- one packet

record IsRead (read : Field Packet) (part : Part) (p : Packet) : Type 0 where
  again : (rest : List ℕ) → part.in_range → read (part.bytes ++ rest) ≡ Ok (p, rest)
  cut : (front back : List ℕ) → part.in_range → part.bytes ≡ front ++ back → IsMore back → read front ≡ Err bad.Short

well : {A : Type 0} {s : A → Part} {r : Field A} → IsField IsFieldFault s r → (make : A → Packet) (x : A) → IsRead (made make r) (s x) (make x)
well f make x = record { again = λ rest h. made_again f make x rest h; cut = λ front back h e more. made_cut f make x front back h e more }

-- each kind, by its fields
well_read : (p : Packet) → IsRead (fields_at (row p).kind) (row p).fields p
unfolding fields_at get_req_at write_req_at get_fwd_at write_fwd_at get_rep_at write_rep_at get_ans_at write_ans_at hot_at admit_at admit_ack_at peek_at peek_ans_at remove_at remove_ans_at snap_start_at snap_begun_at snap_read_at snap_part_at store_at stored_at release_at ask_at told_at top_ask_at top_is_at snap_same_at snap_from_at
well_read (GetReq caller op key) = well field_call _ (caller, op, key)
well_read (WriteReq caller op key body) = well (field_call & field_body) _ ((caller, op, key), body)
well_read (GetFwd caller op key tag) = well (field_call & field_u64) _ ((caller, op, key), tag)
well_read (WriteFwd caller op key num body) = well (field_call & field_u64 & field_body) _ (((caller, op, key), num), body)
well_read (GetRep caller op key tag num body) = well (field_call & field_u64 & field_u64 & field_body) _ ((((caller, op, key), tag), num), body)
well_read (WriteRep caller op key num body) = well (field_call & field_u64 & field_body) _ (((caller, op, key), num), body)
well_read (GetAns caller op key num body near) = well (field_call & field_u64 & field_body & field_flag) _ ((((caller, op, key), num), body), near)
well_read (WriteAns caller op key num kept) = well (field_call & field_u64 & field_flag) _ (((caller, op, key), num), kept)
well_read (Hot key) = well field_key _ key
well_read (Admit epoch slot key tag) = well (field_u32 & field_u32 & field_key & field_u64) _ (((epoch, slot), key), tag)
well_read (AdmitAck slot tag) = well (field_u32 & field_u64) _ (slot, tag)
well_read (Peek epoch slot tag) = well (field_u32 & field_u32 & field_u64) _ ((epoch, slot), tag)
well_read (PeekAns slot tag latest num body) = well (field_u32 & field_u64 & field_flag & field_u64 & field_body) _ ((((slot, tag), latest), num), body)
well_read (Remove epoch slot tag latest num) = well (field_u32 & field_u32 & field_u64 & field_flag & field_u64) _ ((((epoch, slot), tag), latest), num)
well_read (RemoveAns slot tag done latest num body) = well (field_u32 & field_u64 & field_flag & field_flag & field_u64 & field_body) _ (((((slot, tag), done), latest), num), body)
well_read (SnapStart epoch id) = well (field_u32 & field_u32) _ (epoch, id)
well_read (SnapBegun id point) = well (field_u32 & field_u64) _ (id, point)
well_read (SnapRead epoch id slot) = well (field_u32 & field_u32 & field_u32) _ ((epoch, id), slot)
well_read (SnapPart id slot view) = well (field_u32 & field_u32 & field_held) _ ((id, slot), view)
well_read (Store job item) = well (field_u64 & field_rec) _ (job, item)
well_read (Stored job) = well field_u64 _ job
well_read (Release point) = well field_u64 _ point
well_read (Ask round) = well field_u32 _ round
well_read (Told round caller total item) = well (field_u32 & field_u32 & field_u32 & field_held) _ (((round, caller), total), item)
well_read (TopAsk round) = well field_u32 _ round
well_read (TopIs round server top) = well (field_u32 & field_u32 & field_u64) _ ((round, server), top)
well_read (SnapSame id slot) = well (field_u32 & field_u32) _ (id, slot)
well_read (SnapFrom epoch id base) = well (field_u32 & field_u32 & field_u32) _ ((epoch, id), base)

behind_kind : IsBehind IsFaultBehind (λ (p : Packet). (row p).kind) (λ (p : Packet). (row p).fields) fields_at
behind_kind = record {
  takes = λ n. (kinds n).takes;
  again = λ p rest h. (well_read p).again rest h;
  cut = λ p front back h e more. (well_read p).cut front back h e more;
  faults = λ n. (kinds n).faults;
}

-- ---- one byte

abbrev pub byte_part : ℕ → Part
byte_part b = record { bytes = b ∷ []; in_range = Unit {0} }

byte_takes : (bytes : List ℕ) (b : ℕ) (rest : List ℕ) → AreBytes bytes → byte_at bytes ≡ Ok (b, rest) → Takes bytes (byte_part b) rest
byte_takes [] b rest h e = absurd cc
byte_takes (c ∷ bytes) b rest h e = subst (λ (z : ℕ × List ℕ). Takes (c ∷ bytes) (byte_part z.0) z.1) (ok_is (c, bytes) (b, rest) e) (record { same = refl; in_range = tt; rest_bytes = AreBytes-rest c bytes h })

byte_faults : (F : BadPacket → Type 0) → F bad.Short → (bytes : List ℕ) (fault : BadPacket) → byte_at bytes ≡ Err fault → F fault
byte_faults F h [] fault e = subst F (err_is (ℕ × List ℕ) bad.Short fault e) h
byte_faults F h (b ∷ bytes) fault e = ok_err (b, bytes) fault e

field_byte : (F : BadPacket → Type 0) → F bad.Short → IsField F byte_part byte_at
field_byte F h = record { takes = byte_takes; again = λ b rest k. refl; cut = λ b front back k e more. rw (one_cut b front back e more) refl; faults = byte_faults F h }

-- ---- the version

pub kind_field : IsField IsFaultBehind (λ (p : Packet). byte_part (row p).kind and (row p).fields) (byte_at into fields_at)
kind_field = headed (field_byte IsFaultBehind tt) behind_kind

versioned_takes : (version : ℕ) (bytes : List ℕ) (p : Packet) (rest : List ℕ) → AreBytes bytes → versioned version bytes ≡ Ok (p, rest) → Takes bytes (byte_part (row p).kind and (row p).fields) rest × (VERSION ≡ version)
versioned_takes version bytes p rest h e =
    let a = met (eqb version VERSION) bad.Version ((byte_at into fields_at) bytes) (p, rest) e in
    let test = a.0 in
    let same : VERSION ≡ version = grind (arith, nat_tests) in
    (kind_field.takes bytes p rest h a.1, same)

versioned_faults : (version : ℕ) (bytes : List ℕ) (fault : BadPacket) → versioned version bytes ≡ Err fault → IsFaultWithin fault
versioned_faults version bytes fault e =
    elim (err_of_met (eqb version VERSION) bad.Version ((byte_at into fields_at) bytes) fault e) [
      | inl same ↦ subst IsFaultWithin same tt
      | inr o ↦ behind-within fault (kind_field.faults bytes fault o)
    ]

behind_version : IsBehind IsFaultWithin (λ (p : Packet). VERSION) (λ (p : Packet). byte_part (row p).kind and (row p).fields) versioned
behind_version = record { takes = versioned_takes; again = λ p rest h. kind_field.again p rest h; cut = λ p front back h e more. kind_field.cut p front back h e more; faults = versioned_faults }

pub field_packet : IsField IsFaultWithin (λ (p : Packet). byte_part VERSION and (byte_part (row p).kind and (row p).fields)) packet_at
unfolding packet_at
field_packet = headed (field_byte IsFaultWithin tt) behind_version

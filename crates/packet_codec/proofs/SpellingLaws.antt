-- What reading a whole packet gives, in terms of spellings.
use Rattle.std.proofs.Common.{◌≡◌, ℕ, zero, suc, ◌<◌, ◌≤◌, ◌⊎◌, Bool, true, false, cond, eqb, List, [], ◌∷◌, ◌++◌, length, drop, Result, Ok, Err, inl, inr, refl, sym, ap, subst, ◌∙◌, append-nil, arith}
use Rattle.std.specs.Prelude.{◌↔◌, IfOk, IfErr}
use Rattle.std.proofs.lemmas.Bool.Decides.{nat_tests}
use Rattle.std.proofs.Math.ListN.{drop_of_length-le}
use Rattle.far_base.specs.declared.packet.Packet.{Packet}
use Rattle.packet_codec.specs.declared.fault.BadPacket.{BadPacket}
use Rattle.packet_codec.specs.declared.fault.BadPacket.TheVariants as bad
use Rattle.packet_codec.specs.declared.kinds.TheConstants.{KIND_COUNT}
use Rattle.packet_codec.specs.declared.wire.TheConstants.{VERSION}
use Rattle.packet_codec.specs.Reading.{◌into◌, Field, byte_at, Reads, IsFieldFault, begins_at}
use Rattle.packet_codec.specs.Packets.{fields_at, versioned, packet_at, whole, packet_of}
use Rattle.packet_codec.specs.Spelling.{Part, spelled, Spells, Stands}
use Rattle.packet_codec.specs.Faults.{HasOtherVersion, HasNoKind, IsLonger}
use Rattle.packet_codec.proofs.Steps.{bind_ok, bind_err, ok_is, ok_err, AreBytes, AreBytes-drop, IsMore, more_is, err_of_met}
use Rattle.packet_codec.proofs.Composition.{IsField}
use Rattle.packet_codec.proofs.PacketLaws.{kinds, kind_field, field_packet}

whole_ok : (x : Packet × List ℕ) (p : Packet) → whole x ≡ Ok p → (x.0 ≡ p) × (x.1 ≡ [])
whole_ok (q, []) p e = (ok_is q p e, refl)
whole_ok (q, b ∷ rest) p e = absurd cc

whole_err : (x : Packet × List ℕ) (d : BadPacket) → whole x ≡ Err d → (bad.Rest ≡ d) × IsMore x.1
whole_err (q, []) d e = absurd cc
whole_err (q, b ∷ rest) d e = (cc, more_is b rest)

more_whole : (p : Packet) (rest : List ℕ) → IsMore rest → whole (p, rest) ≡ Err bad.Rest
more_whole p [] more = absurd (more refl)
more_whole p (b ∷ rest) more = refl

-- what a packet reads, whatever follows it
packet_again : (bytes : List ℕ) (p : Packet) (rest : List ℕ) → Spells bytes p → packet_at (bytes ++ rest) ≡ Ok (p, rest)
packet_again bytes p rest s = rw s.same (field_packet.again p rest (tt, (tt, s.in_range)))

-- what is read is spelled so
pub packet_found : (bytes : List ℕ) (p : Packet) → AreBytes bytes → packet_of bytes ≡ Ok p → Spells bytes p
unfolding packet_of
packet_found bytes p h e =
    let a = bind_ok (packet_at bytes) whole p e in
    let end = whole_ok a.0 p a.2 in
    let t = field_packet.takes bytes a.0.0 a.0.1 h a.1 in
    let text : bytes ≡ (spelled a.0.0).bytes = t.same ∙ (ap (λ (v : List ℕ). (spelled a.0.0).bytes ++ v) end.1 ∙ append-nil (spelled a.0.0).bytes) in
    subst (λ (q : Packet). Spells bytes q) end.0 (record { same = text; in_range = t.in_range.1.1 })

-- what is spelled so is read
pub packet_only : (bytes : List ℕ) (p : Packet) → Spells bytes p → packet_of bytes ≡ Ok p
unfolding packet_of
packet_only bytes p s =
    let read : packet_at bytes ≡ Ok (p, []) = subst (λ (v : List ℕ). packet_at v ≡ Ok (p, [])) (append-nil bytes) (packet_again bytes p [] s) in
    rw read refl

-- a spelling that is cut off is Short
pub packet_cut : (front back : List ℕ) (p : Packet) → IsMore back → Spells (front ++ back) p → packet_of front ≡ Err bad.Short
unfolding packet_of
packet_cut front back p more s =
    let read : packet_at front ≡ Err bad.Short = field_packet.cut p front back (tt, (tt, s.in_range)) (sym s.same) more in
    rw read refl

-- ---- the faults of a whole packet

longer_read : (bytes : List ℕ) → AreBytes bytes → packet_of bytes ≡ Err bad.Rest → IsLonger bytes
unfolding packet_of
longer_read bytes h e =
    elim (bind_err (packet_at bytes) whole bad.Rest e) [
      | inl one ↦ absurd (field_packet.faults bytes bad.Rest one)
      | inr a ↦
          let t = field_packet.takes bytes a.0.0 a.0.1 h a.1 in
          record { text = (spelled a.0.0).bytes; packet = a.0.0; rest = a.0.1; same = t.same; spells = record { same = refl; in_range = t.in_range.1.1 }; more = (whole_err a.0 bad.Rest a.2).1 }
    ]

pub longer_rest : (bytes : List ℕ) → IsLonger bytes → packet_of bytes ≡ Err bad.Rest
unfolding packet_of
longer_rest bytes l =
    let read : packet_at bytes ≡ Ok (l.packet, l.rest) = rw l.same (packet_again l.text l.packet l.rest l.spells) in
    rw read (more_whole l.packet l.rest l.more)

pub rest_exactly : (bytes : List ℕ) → AreBytes bytes → (packet_of bytes ≡ Err bad.Rest) ↔ IsLonger bytes
rest_exactly bytes h = (longer_read bytes h, longer_rest bytes)

version_read : (bytes : List ℕ) → packet_of bytes ≡ Err bad.Version → HasOtherVersion bytes
unfolding packet_of packet_at
version_read [] e = absurd cc
version_read (version ∷ bytes) e =
    λ same. elim (bind_err (versioned version bytes) whole bad.Version e) [
      | inl one ↦
          let read : versioned VERSION bytes ≡ Err bad.Version = subst (λ (v : ℕ). versioned v bytes ≡ Err bad.Version) same one in
          kind_field.faults bytes bad.Version read
      | inr a ↦ let end = (whole_err a.0 bad.Version a.2).0 in absurd cc
    ]

other_version : (bytes : List ℕ) → HasOtherVersion bytes → packet_of bytes ≡ Err bad.Version
unfolding packet_of packet_at
other_version [] h = absurd h
other_version (version ∷ bytes) h =
    let test : eqb version VERSION ≡ false = grind (arith, nat_tests) in
    rw test refl

pub version_exactly : (bytes : List ℕ) → (packet_of bytes ≡ Err bad.Version) ↔ HasOtherVersion bytes
version_exactly bytes = (version_read bytes, other_version bytes)

kind_out : (kind : ℕ) (bytes : List ℕ) → fields_at kind bytes ≡ Err bad.Kind → (kind ≡ 0) ⊎ (KIND_COUNT < kind)
kind_out zero bytes e = inl refl
kind_out (suc kind) bytes e = inr ((kinds (suc kind)).unknown bytes e (omega arith))

kind_behind : (version : ℕ) (kind : ℕ) (bytes : List ℕ) (b : Bool) → eqb version VERSION ≡ b → cond b (fields_at kind bytes) (Err bad.Version) ≡ Err bad.Kind → (version ≡ VERSION) × ((kind ≡ 0) ⊎ (KIND_COUNT < kind))
kind_behind version kind bytes true test e = (grind (arith, nat_tests), kind_out kind bytes e)
kind_behind version kind bytes false test e = absurd cc

kind_read : (bytes : List ℕ) → packet_of bytes ≡ Err bad.Kind → HasNoKind bytes
unfolding packet_of packet_at
kind_read [] e = absurd cc
kind_read (version ∷ []) e =
    elim (bind_err (versioned version []) whole bad.Kind e) [
      | inl one ↦ elim (err_of_met (eqb version VERSION) bad.Version ((byte_at into fields_at) []) bad.Kind one) [
        | inl same ↦ absurd cc
        | inr o ↦ absurd cc
      ]
      | inr a ↦ let end = (whole_err a.0 bad.Kind a.2).0 in absurd cc
    ]
kind_read (version ∷ kind ∷ bytes) e =
    elim (bind_err (versioned version (kind ∷ bytes)) whole bad.Kind e) [
      | inl one ↦ kind_behind version kind bytes (eqb version VERSION) refl one
      | inr a ↦ let end = (whole_err a.0 bad.Kind a.2).0 in absurd cc
    ]

other_kind : (bytes : List ℕ) → HasNoKind bytes → packet_of bytes ≡ Err bad.Kind
unfolding packet_of packet_at
other_kind [] h = absurd h
other_kind (version ∷ []) h = absurd h
other_kind (version ∷ kind ∷ bytes) h =
    let out : (kind < 1) ⊎ (KIND_COUNT < kind) = elim h.1 [ inl z ↦ inl (omega (arith, z)) | inr lt ↦ inr lt ] in
    let read : fields_at kind bytes ≡ Err bad.Kind = (kinds kind).other bytes out in
    rw (h.0, read) refl

pub kind_exactly : (bytes : List ℕ) → (packet_of bytes ≡ Err bad.Kind) ↔ HasNoKind bytes
kind_exactly bytes = (kind_read bytes, other_kind bytes)

pub found_by : (bytes : List ℕ) → AreBytes bytes → (r : Result Packet BadPacket) → r ≡ packet_of bytes → IfOk r (λ p. Spells bytes p)
found_by bytes h (Ok p) e = packet_found bytes p h (sym e)
found_by bytes h (Err fault) e = tt

-- ---- one spelling, one packet

pub one_packet : (bytes : List ℕ) (p q : Packet) → Spells bytes p → Spells bytes q → p ≡ q
one_packet bytes p q s t = ok_is p q (sym (packet_only bytes p s) ∙ packet_only bytes q t)

pub one_spelling : (a b : List ℕ) (p : Packet) → Spells a p → Spells b p → a ≡ b
one_spelling a b p s t = s.same ∙ sym t.same

pub no_longer : (front back : List ℕ) (p q : Packet) → Spells front p → Spells (front ++ back) q → back ≡ []
no_longer front [] p q s t = refl
no_longer front (b ∷ back) p q s t =
    ok_err q bad.Rest (sym (packet_only (front ++ b ∷ back) q t) ∙ longer_rest (front ++ b ∷ back) (record { text = front; packet = p; rest = b ∷ back; same = refl; spells = s; more = more_is b back }))

-- ---- a field that begins at a byte

-- what is known of an answer
pub record Begun {A : Type 0} (part : A → Part) (read : Field A) (bytes : List ℕ) (at : ℕ) (r : Result A BadPacket) : Type 0 where
  pub found : IfOk r (λ x. Stands bytes at (part x))
  pub only : (x : A) → Stands bytes at (part x) → r ≡ Ok x
  pub exact : r ≡ begins_at read at bytes
  pub fault : IfErr r IsFieldFault
  pub past : length bytes ≤ at → r ≡ Err bad.Short

module _ {A : Type 0} {part : A → Part} {read : Field A} (f : IsField IsFieldFault part read) where
  -- what a reader answered that began there
  begins_is : (r : Result A BadPacket) (left from bytes : List ℕ) (at : ℕ) → Reads r left (read from) → from ≡ drop at bytes → r ≡ begins_at read at bytes
  begins_is (Ok x) left from bytes at e f = rw (← f, e) refl
  begins_is (Err fault) left from bytes at e f = rw (← f, e) refl

  begins_found : (bytes : List ℕ) (at : ℕ) → AreBytes bytes → (r : Result A BadPacket) → r ≡ begins_at read at bytes → IfOk r (λ x. Stands bytes at (part x))
  begins_found bytes at h (Err fault) e = tt
  begins_found bytes at h (Ok x) e =
      let a = bind_ok (read (drop at bytes)) (λ (a : A × List ℕ). Ok a.0) x (sym e) in
      let t = f.takes (drop at bytes) a.0.0 a.0.1 (AreBytes-drop at bytes h) a.1 in
      subst (λ (y : A). Stands bytes at (part y)) (ok_is a.0.0 x a.2) (record { rest = a.0.1; same = t.same; in_range = t.in_range })

  begins_fault : (bytes : List ℕ) (at : ℕ) (r : Result A BadPacket) → r ≡ begins_at read at bytes → IfErr r IsFieldFault
  begins_fault bytes at (Ok x) e = tt
  begins_fault bytes at (Err fault) e =
      elim (bind_err (read (drop at bytes)) (λ (a : A × List ℕ). Ok a.0) fault (sym e)) [
        | inl one ↦ f.faults (drop at bytes) fault one
        | inr a ↦ ok_err a.0.0 fault a.2
      ]

  pub begun : (r : Result A BadPacket) (left from bytes : List ℕ) (at : ℕ) → AreBytes bytes → Reads r left (read from) → from ≡ drop at bytes → read [] ≡ Err bad.Short → Begun part read bytes at r
  begun r left from bytes at h e g none =
      let is = begins_is r left from bytes at e g in
      record {
        found = begins_found bytes at h r is;
        only = λ x s. is ∙ rw (s.same, f.again x s.rest s.in_range) refl;
        exact = is;
        fault = begins_fault bytes at r is;
        past = λ past. is ∙ rw (drop_of_length-le bytes past, none) refl;
      }

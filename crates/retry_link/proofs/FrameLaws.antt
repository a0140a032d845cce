-- A frame that is read is what was spelled, and what was spelled is read.
use Rattle.std.proofs.Common.{◌≡◌, ◌≢◌, ℕ, ◌<◌, ◌≤◌, Bool, true, false, ◌||◌, cond, eqb, ltb, List, [], ◌∷◌, ◌++◌, length, take, drop, Result, Ok, Err, inl, inr, refl, sym, ap, subst, ◌∙◌, append-nil, length-append, length-take, take_at, drop_at, take-append-drop, arith}
use Rattle.std.specs.Prelude.{◌↔◌, ◌⊎◌, IfOk, IfErr}
use Rattle.std.specs.Int.{Width, w16, w64, from_be_bytes}
use Rattle.std.proofs.lemmas.Bool.{ltb-false, le-ltb, lt-ltb}
use Rattle.std.proofs.lemmas.Bool.Decides.{nat_tests}
use Rattle.packet_codec.specs.declared.fault.BadPacket.{BadPacket}
use Rattle.packet_codec.specs.declared.fault.BadPacket.TheVariants as bad
use Rattle.packet_codec.specs.declared.wire.TheConstants.{WIRE_SIZE}
use Rattle.packet_codec.specs.Reading.{◌>>=◌, ◌then◌, ◌into◌, Field, made, byte_at, taken_at, u16_at, u64_at}
use Rattle.packet_codec.specs.Spelling.{Part, ◌and◌, u16_part, u64_part}
use Rattle.packet_codec.proofs.Steps.{bind_ok, bind_err, ok_is, ok_err, err_is, passed, AreBytes, AreBytes-take, AreBytes-drop, AreBytes-rest, IsMore, more_is, more_length, one_cut, err_of_test}
use Rattle.packet_codec.proofs.Composition.{Takes, IsField, IsBehind, ◌&◌, headed, made_takes, made_again, made_cut, made_faults}
use Rattle.packet_codec.proofs.FieldLaws.{field_u16, field_u64}
use Rattle.retry_link.specs.declared.frame.Frame.{Frame}
use Rattle.retry_link.specs.declared.frame.Frame.TheVariants.{Data, Ack}
use Rattle.retry_link.specs.declared.frame.TheConstants.{DATA, ACK}
use Rattle.retry_link.specs.Frames.{IsMessage, message_part, sized_part, fields_part, kind_of, frame_bytes, SpellsFrame}
use Rattle.retry_link.specs.FrameReading.{message_behind, message_at, data_at, ack_at, fields_at, frame_at, whole, frame_of}
use Rattle.retry_link.specs.FrameFaults.{IsFrameFault, HasNoFrameKind, IsLongerFrame}

-- the faults of the fields behind the first byte
abbrev IsInner : BadPacket → Type 0
IsInner bad.Short = Unit {0}
IsInner bad.Length = Unit {0}
IsInner _ = ⊥

-- ---- the bytes of a message

fits_length : (len : ℕ) → (ltb len 1 || ltb WIRE_SIZE len) ≡ false → (1 ≤ len) × (len ≤ WIRE_SIZE)
fits_length len e = (grind (arith, nat_tests), grind (arith, nat_tests))

length_fits : (len : ℕ) → 1 ≤ len → len ≤ WIRE_SIZE → (ltb len 1 || ltb WIRE_SIZE len) ≡ false
length_fits len low high =
    let a : ltb len 1 ≡ false = le-ltb _ _ low in
    let b : ltb WIRE_SIZE len ≡ false = le-ltb _ _ high in
    rw (a, b) refl

message_takes : (len : ℕ) (bytes x rest : List ℕ) → AreBytes bytes → message_behind len bytes ≡ Ok (x, rest) → Takes bytes (message_part x) rest × (length x ≡ len)
message_takes len bytes x rest h e =
    let a = passed (ltb len 1 || ltb WIRE_SIZE len) bad.Length (taken_at len bytes) (x, rest) e in
    let b = passed (ltb (length bytes) len) bad.Short (Ok (take len bytes, drop len bytes)) (x, rest) a.1 in
    let fits = fits_length len a.0 in
    let long : len ≤ length bytes = ltb-false _ _ b.0 in
    let count : length (take len bytes) ≡ len = omega (arith, length-take len bytes) in
    subst (λ (z : List ℕ × List ℕ). Takes bytes (message_part z.0) z.1 × (length z.0 ≡ len)) (ok_is (take len bytes, drop len bytes) (x, rest) b.1)
    (record { same = sym (take-append-drop len bytes); in_range = (omega (arith, count, fits.0), omega (arith, count, fits.1)); rest_bytes = AreBytes-drop len bytes h }, count)

message_again : (x rest : List ℕ) → IsMessage x → message_behind (length x) (x ++ rest) ≡ Ok (x, rest)
message_again x rest h =
    let long : ltb (length (x ++ rest)) (length x) ≡ false = le-ltb _ _ (omega (arith, length-append x rest)) in
    rw (length_fits (length x) h.0 h.1, long, take_at x rest (length x) refl, drop_at x rest (length x) refl) refl

message_cut : (x front back : List ℕ) → IsMessage x → x ≡ front ++ back → IsMore back → message_behind (length x) front ≡ Err bad.Short
message_cut x front back h e more =
    let short : ltb (length front) (length x) ≡ true = lt-ltb _ _ (omega (arith, length-append front back, ap length e, more_length back more)) in
    rw (length_fits (length x) h.0 h.1, short) refl

message_faults : (len : ℕ) (bytes : List ℕ) (fault : BadPacket) → message_behind len bytes ≡ Err fault → IsInner fault
message_faults len bytes fault e =
    elim (err_of_test (ltb len 1 || ltb WIRE_SIZE len) bad.Length (taken_at len bytes) fault e) [
      | inl same ↦ subst IsInner same tt
      | inr o ↦ elim (err_of_test (ltb (length bytes) len) bad.Short (Ok (take len bytes, drop len bytes)) fault o) [
        | inl same ↦ subst IsInner same tt
        | inr p ↦ ok_err (take len bytes, drop len bytes) fault p
      ]
    ]

behind_length : IsBehind IsInner length message_part message_behind
behind_length = record { takes = message_takes; again = message_again; cut = message_cut; faults = message_faults }

-- ---- numbers, which are whole or Short

number_faults : (w : Width) (count : ℕ) (bytes : List ℕ) (fault : BadPacket) → made (from_be_bytes w) (taken_at count) bytes ≡ Err fault → IsInner fault
number_faults w count bytes fault e =
    elim (bind_err (taken_at count bytes) (λ (a : List ℕ × List ℕ). Ok (from_be_bytes w a.0, a.1)) fault e) [
      | inl one ↦ elim (err_of_test (ltb (length bytes) count) bad.Short (Ok (take count bytes, drop count bytes)) fault one) [
        | inl same ↦ subst IsInner same tt
        | inr o ↦ ok_err (take count bytes, drop count bytes) fault o
      ]
      | inr a ↦ ok_err (from_be_bytes w a.0.0, a.0.1) fault a.2
    ]

u16_faults : (bytes : List ℕ) (fault : BadPacket) → u16_at bytes ≡ Err fault → IsInner fault
unfolding u16_at
u16_faults bytes fault e = number_faults w16 2 bytes fault e

u64_faults : (bytes : List ℕ) (fault : BadPacket) → u64_at bytes ≡ Err fault → IsInner fault
unfolding u64_at
u64_faults bytes fault e = number_faults w64 8 bytes fault e

inner_u16 : IsField IsInner u16_part u16_at
inner_u16 = record { takes = field_u16.takes; again = field_u16.again; cut = field_u16.cut; faults = u16_faults }

inner_u64 : IsField IsInner u64_part u64_at
inner_u64 = record { takes = field_u64.takes; again = field_u64.again; cut = field_u64.cut; faults = u64_faults }

-- ---- the fields of each kind

field_message : IsField IsInner sized_part message_at
unfolding message_at
field_message = headed inner_u16 behind_length

field_data : IsField IsInner (λ (f : ℕ × List ℕ). u64_part f.0 and sized_part f.1) (u64_at then message_at)
field_data = inner_u64 & field_message

-- what is read behind a first byte, and that this is the frame's
abbrev IsRead : ℕ → List ℕ → Frame → List ℕ → Type 0
IsRead kind bytes f rest = Takes bytes (fields_part f) rest × (kind_of f ≡ kind)

data_takes : (bytes : List ℕ) (f : Frame) (rest : List ℕ) → AreBytes bytes → data_at bytes ≡ Ok (f, rest) → IsRead DATA bytes f rest
unfolding data_at
data_takes = made_takes field_data (λ (f : ℕ × List ℕ). Data f.0 f.1) (IsRead DATA) (λ bytes x rest t. (t, refl))

ack_takes : (bytes : List ℕ) (f : Frame) (rest : List ℕ) → AreBytes bytes → ack_at bytes ≡ Ok (f, rest) → IsRead ACK bytes f rest
unfolding ack_at
ack_takes = made_takes inner_u64 Ack (IsRead ACK) (λ bytes x rest t. (t, refl))

data_faults : (bytes : List ℕ) (fault : BadPacket) → data_at bytes ≡ Err fault → IsInner fault
unfolding data_at
data_faults = made_faults field_data (λ (f : ℕ × List ℕ). Data f.0 f.1)

ack_faults : (bytes : List ℕ) (fault : BadPacket) → ack_at bytes ≡ Err fault → IsInner fault
unfolding ack_at
ack_faults = made_faults inner_u64 Ack

fields_takes : (kind : ℕ) (bytes : List ℕ) (f : Frame) (rest : List ℕ) → AreBytes bytes → fields_at kind bytes ≡ Ok (f, rest) → IsRead kind bytes f rest
unfolding fields_at
fields_takes kind bytes f rest h e = first (eqb kind DATA) refl e
  where
    second : (b : Bool) → eqb kind ACK ≡ b → cond b (ack_at bytes) (Err bad.Kind) ≡ Ok (f, rest) → IsRead kind bytes f rest
    second true test e =
        let same : ACK ≡ kind = grind (arith, nat_tests) in
        let t = ack_takes bytes f rest h e in
        (t.0, t.1 ∙ same)
    second false test e = absurd cc

    first : (b : Bool) → eqb kind DATA ≡ b → cond b (data_at bytes) (cond (eqb kind ACK) (ack_at bytes) (Err bad.Kind)) ≡ Ok (f, rest) → IsRead kind bytes f rest
    first true test e =
        let same : DATA ≡ kind = grind (arith, nat_tests) in
        let t = data_takes bytes f rest h e in
        (t.0, t.1 ∙ same)
    first false test e = second (eqb kind ACK) refl e

fields_again : (f : Frame) (rest : List ℕ) → (fields_part f).in_range → fields_at (kind_of f) ((fields_part f).bytes ++ rest) ≡ Ok (f, rest)
unfolding fields_at data_at ack_at
fields_again (Data num wire) rest h = made_again field_data (λ (f : ℕ × List ℕ). Data f.0 f.1) (num, wire) rest h
fields_again (Ack num) rest h = made_again inner_u64 Ack num rest h

fields_cut : (f : Frame) (front back : List ℕ) → (fields_part f).in_range → (fields_part f).bytes ≡ front ++ back → IsMore back → fields_at (kind_of f) front ≡ Err bad.Short
unfolding fields_at data_at ack_at
fields_cut (Data num wire) front back h e more = made_cut field_data (λ (f : ℕ × List ℕ). Data f.0 f.1) (num, wire) front back h e more
fields_cut (Ack num) front back h e more = made_cut inner_u64 Ack num front back h e more

-- a fault behind a first byte is an inner one, or the first byte is that of no frame
fields_faults : (kind : ℕ) (bytes : List ℕ) (fault : BadPacket) → fields_at kind bytes ≡ Err fault → IsInner fault ⊎ ((bad.Kind ≡ fault) × HasNoFrameKind (kind ∷ bytes))
unfolding fields_at
fields_faults kind bytes fault e = first (eqb kind DATA) refl e
  where
    second : kind ≢ DATA → (b : Bool) → eqb kind ACK ≡ b → cond b (ack_at bytes) (Err bad.Kind) ≡ Err fault → IsInner fault ⊎ ((bad.Kind ≡ fault) × HasNoFrameKind (kind ∷ bytes))
    second other true test e = inl (ack_faults bytes fault e)
    second other false test e =
        let ne : kind ≢ ACK = grind (arith, nat_tests) in
        inr (err_is (Frame × List ℕ) bad.Kind fault e, (other, ne))

    first : (b : Bool) → eqb kind DATA ≡ b → cond b (data_at bytes) (cond (eqb kind ACK) (ack_at bytes) (Err bad.Kind)) ≡ Err fault → IsInner fault ⊎ ((bad.Kind ≡ fault) × HasNoFrameKind (kind ∷ bytes))
    first true test e = inl (data_faults bytes fault e)
    first false test e =
        let ne : kind ≢ DATA = grind (arith, nat_tests) in
        second ne (eqb kind ACK) refl e

-- ---- a frame

frame_again : (f : Frame) (rest : List ℕ) → (fields_part f).in_range → frame_at (frame_bytes f ++ rest) ≡ Ok (f, rest)
unfolding frame_at
frame_again f rest h = fields_again f rest h

frame_takes : (bytes : List ℕ) (f : Frame) (rest : List ℕ) → AreBytes bytes → frame_at bytes ≡ Ok (f, rest) → (bytes ≡ frame_bytes f ++ rest) × (fields_part f).in_range
unfolding frame_at
frame_takes [] f rest h e = absurd cc
frame_takes (kind ∷ bytes) f rest h e =
    let t = fields_takes kind bytes f rest (AreBytes-rest kind bytes h) e in
    (ap (λ (k : ℕ). k ∷ bytes) (sym t.1) ∙ ap (λ (l : List ℕ). kind_of f ∷ l) t.0.same, t.0.in_range)

whole_ok : (x : Frame × List ℕ) (f : Frame) → whole x ≡ Ok f → (x.0 ≡ f) × (x.1 ≡ [])
whole_ok (g, []) f e = (ok_is g f e, refl)
whole_ok (g, b ∷ rest) f e = absurd cc

whole_err : (x : Frame × List ℕ) (d : BadPacket) → whole x ≡ Err d → (bad.Rest ≡ d) × IsMore x.1
whole_err (g, []) d e = absurd cc
whole_err (g, b ∷ rest) d e = (cc, more_is b rest)

more_whole : (f : Frame) (rest : List ℕ) → IsMore rest → whole (f, rest) ≡ Err bad.Rest
more_whole f [] more = absurd (more refl)
more_whole f (b ∷ rest) more = refl

frame_found : (bytes : List ℕ) (f : Frame) → AreBytes bytes → frame_of bytes ≡ Ok f → SpellsFrame bytes f
unfolding frame_of
frame_found bytes f h e =
    let a = bind_ok (frame_at bytes) whole f e in
    let end = whole_ok a.0 f a.2 in
    let t = frame_takes bytes a.0.0 a.0.1 h a.1 in
    let text : bytes ≡ frame_bytes a.0.0 = t.0 ∙ (ap (λ (v : List ℕ). frame_bytes a.0.0 ++ v) end.1 ∙ append-nil (frame_bytes a.0.0)) in
    subst (λ (g : Frame). SpellsFrame bytes g) end.0 (record { same = text; in_range = t.1 })

tail_is : (x y : ℕ) (xs ys : List ℕ) → x ∷ xs ≡ y ∷ ys → (x ≡ y) × (xs ≡ ys)
tail_is x y xs ys e = (cc, cc)

-- what is spelled so is read
pub frame_only : (bytes : List ℕ) (f : Frame) → SpellsFrame bytes f → frame_of bytes ≡ Ok f
unfolding frame_of
frame_only bytes f s =
    let read : frame_at (frame_bytes f) ≡ Ok (f, []) = subst (λ (v : List ℕ). frame_at v ≡ Ok (f, [])) (append-nil (frame_bytes f)) (frame_again f [] s.in_range) in
    rw (s.same, read) refl

pub frame_cut : (front back : List ℕ) (f : Frame) → IsMore back → SpellsFrame (front ++ back) f → frame_of front ≡ Err bad.Short
unfolding frame_of frame_at
frame_cut [] back f more s = refl
frame_cut (kind ∷ front) back f more s =
    let t = tail_is kind (kind_of f) (front ++ back) (fields_part f).bytes s.same in
    let read : fields_at kind front ≡ Err bad.Short = rw t.0 (fields_cut f front back s.in_range (sym t.1) more) in
    rw read refl

-- ---- its faults

frame_faults : (bytes : List ℕ) (fault : BadPacket) → frame_at bytes ≡ Err fault → IsInner fault ⊎ ((bad.Kind ≡ fault) × HasNoFrameKind bytes)
unfolding frame_at
frame_faults [] fault e = inl (subst IsInner (err_is (Frame × List ℕ) bad.Short fault e) tt)
frame_faults (kind ∷ bytes) fault e = fields_faults kind bytes fault e

longer_read : (bytes : List ℕ) → AreBytes bytes → frame_of bytes ≡ Err bad.Rest → IsLongerFrame bytes
unfolding frame_of
longer_read bytes h e =
    elim (bind_err (frame_at bytes) whole bad.Rest e) [
      | inl one ↦ elim (frame_faults bytes bad.Rest one) [
        | inl inner ↦ absurd inner
        | inr kind ↦ let z = kind.0 in absurd cc
      ]
      | inr a ↦
          let t = frame_takes bytes a.0.0 a.0.1 h a.1 in
          record { text = frame_bytes a.0.0; frame = a.0.0; rest = a.0.1; same = t.0; spells = record { same = refl; in_range = t.1 }; more = (whole_err a.0 bad.Rest a.2).1 }
    ]

longer_rest : (bytes : List ℕ) → IsLongerFrame bytes → frame_of bytes ≡ Err bad.Rest
unfolding frame_of
longer_rest bytes l =
    let read : frame_at bytes ≡ Ok (l.frame, l.rest) = rw (l.same, l.spells.same) (frame_again l.frame l.rest l.spells.in_range) in
    rw read (more_whole l.frame l.rest l.more)

pub rest_exactly : (bytes : List ℕ) → AreBytes bytes → (frame_of bytes ≡ Err bad.Rest) ↔ IsLongerFrame bytes
rest_exactly bytes h = (longer_read bytes h, longer_rest bytes)

kind_read : (bytes : List ℕ) → frame_of bytes ≡ Err bad.Kind → HasNoFrameKind bytes
unfolding frame_of
kind_read bytes e =
    elim (bind_err (frame_at bytes) whole bad.Kind e) [
      | inl one ↦ elim (frame_faults bytes bad.Kind one) [
        | inl inner ↦ absurd inner
        | inr kind ↦ kind.1
      ]
      | inr a ↦ let z = (whole_err a.0 bad.Kind a.2).0 in absurd cc
    ]

other_kind : (bytes : List ℕ) → HasNoFrameKind bytes → frame_of bytes ≡ Err bad.Kind
unfolding frame_of frame_at fields_at
other_kind [] h = absurd h
other_kind (kind ∷ bytes) h =
    let a : kind ≢ DATA = h.0 in
    let b : kind ≢ ACK = h.1 in
    let first : eqb kind DATA ≡ false = grind (arith, nat_tests) in
    let second : eqb kind ACK ≡ false = grind (arith, nat_tests) in
    rw (first, second) refl

pub kind_exactly : (bytes : List ℕ) → (frame_of bytes ≡ Err bad.Kind) ↔ HasNoFrameKind bytes
kind_exactly bytes = (kind_read bytes, other_kind bytes)

inner_fault : (fault : BadPacket) → IsInner fault → IsFrameFault fault
inner_fault bad.Short h = tt
inner_fault bad.Length h = tt
inner_fault bad.Version h = absurd h
inner_fault bad.Kind h = absurd h
inner_fault bad.Flag h = absurd h
inner_fault bad.Pad h = absurd h
inner_fault bad.Rest h = absurd h

any_fault : (bytes : List ℕ) (fault : BadPacket) → frame_of bytes ≡ Err fault → IsFrameFault fault
unfolding frame_of
any_fault bytes fault e =
    elim (bind_err (frame_at bytes) whole fault e) [
      | inl one ↦ elim (frame_faults bytes fault one) [
        | inl inner ↦ inner_fault fault inner
        | inr kind ↦ subst IsFrameFault kind.0 tt
      ]
      | inr a ↦ subst IsFrameFault (whole_err a.0 fault a.2).0 tt
    ]

-- ---- what is known of an answer

pub found_by : (bytes : List ℕ) → AreBytes bytes → (r : Result Frame BadPacket) → r ≡ frame_of bytes → IfOk r (λ f. SpellsFrame bytes f)
found_by bytes h (Ok f) e = frame_found bytes f h (sym e)
found_by bytes h (Err fault) e = tt

pub fault_by : (bytes : List ℕ) (r : Result Frame BadPacket) → r ≡ frame_of bytes → IfErr r IsFrameFault
fault_by bytes (Ok f) e = tt
fault_by bytes (Err fault) e = any_fault bytes fault (sym e)

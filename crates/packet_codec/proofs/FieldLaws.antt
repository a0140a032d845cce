-- The laws of each field.
use Rattle.std.proofs.Common.{◌≡◌, ℕ, zero, suc, ◌^◌, ◌<◌, ◌≤◌, Bool, true, false, ◌&&◌, ltb, eqb, List, [], ◌∷◌, ◌++◌, length, take, drop, Option, Some, None, Ok, Err, inl, inr, refl, sym, ap, subst, ◌∙◌, arith}
use Rattle.std.specs.Prelude.{is_some}
use Rattle.std.specs.Int.{Width, w16, w32, w64, from_be_bytes, to_be_bytes}
use Rattle.std.proofs.lemmas.Bool.{ltb-false, le-ltb, lt-ltb}
use Rattle.std.proofs.lemmas.Bool.Decides.{nat_tests}
use Rattle.std.proofs.lemmas.List.{take_at, drop_at, take-append-drop, length-append, length-take}
use Rattle.std.proofs.lemmas.Nat.{be_bytes_2, be_bytes_4, be_bytes_8, from_be_bytes-to_be_bytes_2, from_be_bytes-to_be_bytes_4, from_be_bytes-to_be_bytes_8}
use Rattle.far_base.specs.Key.{is_key, starts_visible, visible_then_zeros}
use Rattle.far_base.specs.Padded.{is_there, length_of, text_of}
use Rattle.far_base.specs.declared.body.TheConstants.{BODY_LIMIT}
use Rattle.far_base.specs.declared.key.TheConstants.{KEY_LENGTH}
use Rattle.far_base.specs.declared.record.Record.{Record}
use Rattle.packet_codec.specs.declared.fault.BadPacket.{BadPacket}
use Rattle.packet_codec.specs.declared.fault.BadPacket.TheVariants.{Short, Flag, Pad, Length}
use Rattle.packet_codec.specs.Reading.{◌then◌, made, taken_at, u16_at, u32_at, u64_at, flag_at, key_of, key_at, call_at, limit_of, shown_at, text_behind, body_at, record_of, rec_at, rec_behind, held_at, IsFieldFault}
use Rattle.packet_codec.specs.Spelling.{Part, ◌and◌, u16_part, u32_part, u64_part, flag_part, key_part, call_part, text_part, body_part, rec_part, inner_part, held_part}
use Rattle.packet_codec.proofs.Steps.{bind_ok, bind_err, ok_is, ok_err, err_is, passed, met, AreBytes, AreBytes-take, AreBytes-drop, AreBytes-rest, IsMore, more_length, one_cut, err_of_test, err_of_met}
use Rattle.packet_codec.proofs.Composition.{Takes, IsField, IsBehind, ◌&◌, headed, made_takes, made_again, made_cut, made_faults}

-- ---- so many bytes

record Taken (n : ℕ) (bytes x rest : List ℕ) : Type 0 where
  same : bytes ≡ x ++ rest
  count : length x ≡ n
  bytes_are : AreBytes x
  rest_bytes : AreBytes rest

taken_takes : (n : ℕ) (bytes x rest : List ℕ) → AreBytes bytes → taken_at n bytes ≡ Ok (x, rest) → Taken n bytes x rest
taken_takes n bytes x rest h e =
    let a = passed (ltb (length bytes) n) Short (Ok (take n bytes, drop n bytes)) (x, rest) e in
    let long : n ≤ length bytes = ltb-false _ _ a.0 in
    subst (λ (z : List ℕ × List ℕ). Taken n bytes z.0 z.1) (ok_is (take n bytes, drop n bytes) (x, rest) a.1)
    (record { same = sym (take-append-drop n bytes); count = omega (arith, length-take n bytes); bytes_are = AreBytes-take n bytes h; rest_bytes = AreBytes-drop n bytes h })

taken_again : (n : ℕ) (x rest : List ℕ) → length x ≡ n → taken_at n (x ++ rest) ≡ Ok (x, rest)
taken_again n x rest h =
    let long : ltb (length (x ++ rest)) n ≡ false = le-ltb _ _ (omega (arith, length-append x rest)) in
    rw (long, take_at x rest n h, drop_at x rest n h) refl

taken_cut : (n : ℕ) (x front back : List ℕ) → length x ≡ n → x ≡ front ++ back → IsMore back → taken_at n front ≡ Err Short
taken_cut n x front back h e more =
    let short : ltb (length front) n ≡ true = lt-ltb _ _ (omega (arith, length-append front back, ap length e, more_length back more)) in
    rw short refl

taken_faults : (n : ℕ) (bytes : List ℕ) (fault : BadPacket) → taken_at n bytes ≡ Err fault → IsFieldFault fault
taken_faults n bytes fault e =
    elim (err_of_test (ltb (length bytes) n) Short (Ok (take n bytes, drop n bytes)) fault e) [
      | inl same ↦ subst IsFieldFault same tt
      | inr o ↦ ok_err (take n bytes, drop n bytes) fault o
    ]

-- ---- numbers

record IsWide (w : Width) (count limit : ℕ) : Type 0 where
  len : (n : ℕ) → length (to_be_bytes w n) ≡ count
  back : (bytes : List ℕ) → length bytes ≡ count → AreBytes bytes → to_be_bytes w (from_be_bytes w bytes) ≡ bytes
  again : (n : ℕ) → n < limit → from_be_bytes w (to_be_bytes w n) ≡ n
  below : (bytes : List ℕ) → AreBytes bytes → from_be_bytes w bytes < limit

wide16 : IsWide w16 2 (2 ^ 16)
wide16 = record { len = λ n. refl; back = λ bytes len fits. be_bytes_2 bytes _ len fits refl; again = λ n lt. from_be_bytes-to_be_bytes_2 n lt; below = λ bytes fits. omega (arith, fits 0, fits 1) }

wide32 : IsWide w32 4 (2 ^ 32)
wide32 = record { len = λ n. refl; back = λ bytes len fits. be_bytes_4 bytes _ len fits refl; again = λ n lt. from_be_bytes-to_be_bytes_4 n lt; below = λ bytes fits. omega (arith, fits 0, fits 1, fits 2, fits 3) }

wide64 : IsWide w64 8 (2 ^ 64)
wide64 = record { len = λ n. refl; back = λ bytes len fits. be_bytes_8 bytes _ len fits refl; again = λ n lt. from_be_bytes-to_be_bytes_8 n lt; below = λ bytes fits. omega (arith, fits 0, fits 1, fits 2, fits 3, fits 4, fits 5, fits 6, fits 7) }

abbrev number_part : Width → ℕ → ℕ → Part
number_part w limit n = record { bytes = to_be_bytes w n; in_range = n < limit }

module _ (w : Width) (count limit : ℕ) (wide : IsWide w count limit) where
  number_takes : (bytes : List ℕ) (n : ℕ) (rest : List ℕ) → AreBytes bytes → made (from_be_bytes w) (taken_at count) bytes ≡ Ok (n, rest) → Takes bytes (number_part w limit n) rest
  number_takes bytes n rest h e =
      let a = bind_ok (taken_at count bytes) (λ (a : List ℕ × List ℕ). Ok (from_be_bytes w a.0, a.1)) (n, rest) e in
      let t = taken_takes count bytes a.0.0 a.0.1 h a.1 in
      subst (λ (z : ℕ × List ℕ). Takes bytes (number_part w limit z.0) z.1) (ok_is (from_be_bytes w a.0.0, a.0.1) (n, rest) a.2)
      (record { same = t.same ∙ ap (λ (v : List ℕ). v ++ a.0.1) (sym (wide.back a.0.0 t.count t.bytes_are)); in_range = wide.below a.0.0 t.bytes_are; rest_bytes = t.rest_bytes })

  number_faults : (bytes : List ℕ) (fault : BadPacket) → made (from_be_bytes w) (taken_at count) bytes ≡ Err fault → IsFieldFault fault
  number_faults bytes fault e =
      elim (bind_err (taken_at count bytes) (λ (a : List ℕ × List ℕ). Ok (from_be_bytes w a.0, a.1)) fault e) [
        | inl one ↦ taken_faults count bytes fault one
        | inr a ↦ ok_err (from_be_bytes w a.0.0, a.0.1) fault a.2
      ]

  number : IsField IsFieldFault (number_part w limit) (made (from_be_bytes w) (taken_at count))
  number = record {
    takes = number_takes;
    again = λ n rest lt. rw (taken_again count (to_be_bytes w n) rest (wide.len n), wide.again n lt) refl;
    cut = λ n front back lt e more. rw (taken_cut count (to_be_bytes w n) front back (wide.len n) e more) refl;
    faults = number_faults;
  }

pub field_u16 : IsField IsFieldFault u16_part u16_at
unfolding u16_part u16_at
field_u16 = number w16 2 (2 ^ 16) wide16

pub field_u32 : IsField IsFieldFault u32_part u32_at
unfolding u32_part u32_at
field_u32 = number w32 4 (2 ^ 32) wide32

pub field_u64 : IsField IsFieldFault u64_part u64_at
unfolding u64_part u64_at
field_u64 = number w64 8 (2 ^ 64) wide64

-- ---- flags

flag_takes : (bytes : List ℕ) (x : Bool) (rest : List ℕ) → AreBytes bytes → flag_at bytes ≡ Ok (x, rest) → Takes bytes (flag_part x) rest
unfolding flag_at flag_part
flag_takes [] x rest h e = absurd cc
flag_takes (zero ∷ bytes) x rest h e = subst (λ (z : Bool × List ℕ). Takes (0 ∷ bytes) (flag_part z.0) z.1) (ok_is (false, bytes) (x, rest) e) (record { same = refl; in_range = tt; rest_bytes = AreBytes-rest 0 bytes h })
flag_takes (suc zero ∷ bytes) x rest h e = subst (λ (z : Bool × List ℕ). Takes (1 ∷ bytes) (flag_part z.0) z.1) (ok_is (true, bytes) (x, rest) e) (record { same = refl; in_range = tt; rest_bytes = AreBytes-rest 1 bytes h })
flag_takes (suc (suc b) ∷ bytes) x rest h e = absurd cc

flag_again : (x : Bool) (rest : List ℕ) → flag_at ((flag_part x).bytes ++ rest) ≡ Ok (x, rest)
unfolding flag_at flag_part
flag_again false rest = refl
flag_again true rest = refl

flag_cut : (x : Bool) (front back : List ℕ) → (flag_part x).bytes ≡ front ++ back → IsMore back → flag_at front ≡ Err Short
unfolding flag_at flag_part
flag_cut x front back e more = rw (one_cut _ front back e more) refl

flag_faults : (bytes : List ℕ) (fault : BadPacket) → flag_at bytes ≡ Err fault → IsFieldFault fault
unfolding flag_at
flag_faults [] fault e = subst IsFieldFault (err_is (Bool × List ℕ) Short fault e) tt
flag_faults (zero ∷ bytes) fault e = ok_err (false, bytes) fault e
flag_faults (suc zero ∷ bytes) fault e = ok_err (true, bytes) fault e
flag_faults (suc (suc b) ∷ bytes) fault e = subst IsFieldFault (err_is (Bool × List ℕ) Flag fault e) tt

pub field_flag : IsField IsFieldFault flag_part flag_at
field_flag = record { takes = flag_takes; again = λ x rest h. flag_again x rest; cut = λ x front back h e more. flag_cut x front back e more; faults = flag_faults }

-- ---- keys

key_takes : (bytes x rest : List ℕ) → AreBytes bytes → key_at bytes ≡ Ok (x, rest) → Takes bytes (key_part x) rest
unfolding key_at key_part
key_takes bytes x rest h e =
    let a = bind_ok (taken_at KEY_LENGTH bytes) (λ (a : List ℕ × List ℕ). key_of a.0 a.1) (x, rest) e in
    let t = taken_takes KEY_LENGTH bytes a.0.0 a.0.1 h a.1 in
    let b = met (is_key a.0.0) Pad (Ok (a.0.0, a.0.1)) (x, rest) a.2 in
    subst (λ (z : List ℕ × List ℕ). Takes bytes (key_part z.0) z.1) (ok_is (a.0.0, a.0.1) (x, rest) b.1)
    (record { same = t.same; in_range = b.0; rest_bytes = t.rest_bytes })

and_first : (a b : Bool) → (a && b) ≡ true → a ≡ true
and_first true b e = refl
and_first false b e = absurd cc

key_length : (x : List ℕ) → is_key x ≡ true → length x ≡ KEY_LENGTH
key_length x h = let e = and_first (eqb (length x) KEY_LENGTH) (starts_visible x && visible_then_zeros x) h in grind (arith, nat_tests)

key_again : (x rest : List ℕ) → is_key x ≡ true → key_at (x ++ rest) ≡ Ok (x, rest)
unfolding key_at
key_again x rest h = rw (taken_again KEY_LENGTH x rest (key_length x h), h) refl

key_cut : (x front back : List ℕ) → is_key x ≡ true → x ≡ front ++ back → IsMore back → key_at front ≡ Err Short
unfolding key_at
key_cut x front back h e more = rw (taken_cut KEY_LENGTH x front back (key_length x h) e more) refl

key_faults : (bytes : List ℕ) (fault : BadPacket) → key_at bytes ≡ Err fault → IsFieldFault fault
unfolding key_at
key_faults bytes fault e =
    elim (bind_err (taken_at KEY_LENGTH bytes) (λ (a : List ℕ × List ℕ). key_of a.0 a.1) fault e) [
      | inl one ↦ taken_faults KEY_LENGTH bytes fault one
      | inr a ↦ elim (err_of_met (is_key a.0.0) Pad (Ok (a.0.0, a.0.1)) fault a.2) [
        | inl same ↦ subst IsFieldFault same tt
        | inr o ↦ ok_err (a.0.0, a.0.1) fault o
      ]
    ]

pub field_key : IsField IsFieldFault key_part key_at
unfolding key_part
field_key = record { takes = key_takes; again = key_again; cut = key_cut; faults = key_faults }

-- ---- calls

field_triple : IsField IsFieldFault (λ f. u32_part f.0.0 and u32_part f.0.1 and key_part f.1) (u32_at then u32_at then key_at)
field_triple = field_u32 & field_u32 & field_key

abbrev call_of : (ℕ × ℕ) × List ℕ → ℕ × ℕ × List ℕ
call_of f = (f.0.0, f.0.1, f.1)

pub field_call : IsField IsFieldFault (λ c. call_part c.0 c.1 c.2) call_at
unfolding call_part call_at
field_call = record {
  takes = made_takes field_triple call_of (λ bytes c rest. Takes bytes (call_part c.0 c.1 c.2) rest) (λ bytes x rest t. t);
  again = λ c rest h. made_again field_triple call_of ((c.0, c.1), c.2) rest h;
  cut = λ c front back h e more. made_cut field_triple call_of ((c.0, c.1), c.2) front back h e more;
  faults = made_faults field_triple call_of;
}

-- ---- bodies

abbrev head_of : Option (List ℕ) → Bool × ℕ
head_of body = (is_there body, length_of body)

shown_takes : (present : Bool) (len : ℕ) (bytes : List ℕ) (x : Option (List ℕ)) (rest : List ℕ) → AreBytes bytes → len ≤ limit_of present → shown_at present len bytes ≡ Ok (x, rest)
    → Takes bytes (text_part x) rest × (head_of x ≡ (present, len))
shown_takes true len bytes x rest h short e =
    let a = bind_ok (taken_at len bytes) (λ (a : List ℕ × List ℕ). Ok (Some a.0, a.1)) (x, rest) e in
    let t = taken_takes len bytes a.0.0 a.0.1 h a.1 in
    subst (λ (z : Option (List ℕ) × List ℕ). Takes bytes (text_part z.0) z.1 × (head_of z.0 ≡ (true, len))) (ok_is (Some a.0.0, a.0.1) (x, rest) a.2)
    (record { same = t.same; in_range = omega (arith, t.count); rest_bytes = t.rest_bytes }, ap (λ (n : ℕ). (true, n)) t.count)
shown_takes false len bytes x rest h short e =
    let none : 0 ≡ len = omega arith in
    subst (λ (z : Option (List ℕ) × List ℕ). Takes bytes (text_part z.0) z.1 × (head_of z.0 ≡ (false, len))) (ok_is (None, bytes) (x, rest) e)
    (record { same = refl; in_range = omega arith; rest_bytes = h }, ap (λ (n : ℕ). (false, n)) none)

text_takes : (head : Bool × ℕ) (bytes : List ℕ) (x : Option (List ℕ)) (rest : List ℕ) → AreBytes bytes → text_behind head bytes ≡ Ok (x, rest) → Takes bytes (text_part x) rest × (head_of x ≡ head)
text_takes head bytes x rest h e =
    let a = passed (ltb (limit_of head.0) head.1) Length (shown_at head.0 head.1 bytes) (x, rest) e in
    shown_takes head.0 head.1 bytes x rest h (ltb-false _ _ a.0) a.1

text_again : (x : Option (List ℕ)) (rest : List ℕ) → length (text_of x) ≤ BODY_LIMIT → text_behind (head_of x) (text_of x ++ rest) ≡ Ok (x, rest)
text_again None rest h = refl
text_again (Some text) rest h =
    let short : ltb BODY_LIMIT (length text) ≡ false = le-ltb _ _ h in
    rw (short, taken_again (length text) text rest refl) refl

text_cut : (x : Option (List ℕ)) (front back : List ℕ) → length (text_of x) ≤ BODY_LIMIT → text_of x ≡ front ++ back → IsMore back → text_behind (head_of x) front ≡ Err Short
text_cut None front back h e more = absurd (omega (arith, length-append front back, ap length e, more_length back more))
text_cut (Some text) front back h e more =
    let short : ltb BODY_LIMIT (length text) ≡ false = le-ltb _ _ h in
    rw (short, taken_cut (length text) text front back refl e more) refl

shown_faults : (present : Bool) (len : ℕ) (bytes : List ℕ) (fault : BadPacket) → shown_at present len bytes ≡ Err fault → IsFieldFault fault
shown_faults true len bytes fault e =
    elim (bind_err (taken_at len bytes) (λ (a : List ℕ × List ℕ). Ok (Some a.0, a.1)) fault e) [
      | inl one ↦ taken_faults len bytes fault one
      | inr a ↦ ok_err (Some a.0.0, a.0.1) fault a.2
    ]
shown_faults false len bytes fault e = ok_err (None, bytes) fault e

text_faults : (head : Bool × ℕ) (bytes : List ℕ) (fault : BadPacket) → text_behind head bytes ≡ Err fault → IsFieldFault fault
text_faults head bytes fault e =
    elim (err_of_test (ltb (limit_of head.0) head.1) Length (shown_at head.0 head.1 bytes) fault e) [
      | inl same ↦ subst IsFieldFault same tt
      | inr o ↦ shown_faults head.0 head.1 bytes fault o
    ]

behind_text : IsBehind IsFieldFault head_of text_part text_behind
behind_text = record { takes = text_takes; again = text_again; cut = text_cut; faults = text_faults }

pub field_body : IsField IsFieldFault body_part body_at
unfolding body_part body_at
field_body = headed (field_flag & field_u16) behind_text

-- ---- records

field_parts : IsField IsFieldFault (λ f. key_part f.0.0 and u64_part f.0.1 and body_part f.1) (key_at then u64_at then body_at)
field_parts = field_key & field_u64 & field_body

pub field_rec : IsField IsFieldFault rec_part rec_at
unfolding rec_part rec_at
field_rec = record {
  takes = made_takes field_parts record_of (λ bytes r rest. Takes bytes (rec_part r) rest) (λ bytes x rest t. t);
  again = λ x rest h. made_again field_parts record_of ((x.key, x.num), x.body) rest h;
  cut = λ x front back h e more. made_cut field_parts record_of ((x.key, x.num), x.body) front back h e more;
  faults = made_faults field_parts record_of;
}

-- ---- what may be there

inner_takes : (present : Bool) (bytes : List ℕ) (x : Option Record) (rest : List ℕ) → AreBytes bytes → rec_behind present bytes ≡ Ok (x, rest) → Takes bytes (inner_part x) rest × (is_some x ≡ present)
inner_takes true bytes x rest h e = made_takes field_rec Some (λ bytes x rest. Takes bytes (inner_part x) rest × (is_some x ≡ true)) (λ bytes x rest t. (t, refl)) bytes x rest h e
inner_takes false bytes x rest h e =
    subst (λ (z : Option Record × List ℕ). Takes bytes (inner_part z.0) z.1 × (is_some z.0 ≡ false)) (ok_is (None, bytes) (x, rest) e)
    (record { same = refl; in_range = tt; rest_bytes = h }, refl)

inner_again : (x : Option Record) (rest : List ℕ) → (inner_part x).in_range → rec_behind (is_some x) ((inner_part x).bytes ++ rest) ≡ Ok (x, rest)
inner_again None rest h = refl
inner_again (Some r) rest h = made_again field_rec Some r rest h

inner_cut : (x : Option Record) (front back : List ℕ) → (inner_part x).in_range → (inner_part x).bytes ≡ front ++ back → IsMore back → rec_behind (is_some x) front ≡ Err Short
inner_cut None front back h e more = absurd (omega (arith, length-append front back, ap length e, more_length back more))
inner_cut (Some r) front back h e more = made_cut field_rec Some r front back h e more

inner_faults : (present : Bool) (bytes : List ℕ) (fault : BadPacket) → rec_behind present bytes ≡ Err fault → IsFieldFault fault
inner_faults true bytes fault e = made_faults field_rec Some bytes fault e
inner_faults false bytes fault e = ok_err (None, bytes) fault e

behind_flag : IsBehind IsFieldFault is_some inner_part rec_behind
behind_flag = record { takes = inner_takes; again = inner_again; cut = inner_cut; faults = inner_faults }

pub field_held : IsField IsFieldFault held_part held_at
unfolding held_part held_at
field_held = headed field_flag behind_flag

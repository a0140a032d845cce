-- A field that is read is what was spelled, and what was spelled is read.
use Rattle.std.proofs.Common.{◌≡◌, ℕ, inl, inr, List, ◌++◌, Ok, Err, refl, sym, ap, subst, ◌∙◌, append_assoc}
use Rattle.packet_codec.specs.declared.fault.BadPacket.{BadPacket}
use Rattle.packet_codec.specs.declared.fault.BadPacket.TheVariants.{Short}
use Rattle.packet_codec.specs.Reading.{◌>>=◌, ◌then◌, ◌into◌, Field, made}
use Rattle.packet_codec.specs.Spelling.{Part, ◌and◌}
use Rattle.packet_codec.proofs.Steps.{bind_ok, bind_err, ok_is, ok_err, AreBytes, IsMore, Cut, Behind, Before, cut_of}

-- a part was taken from the front
pub record Takes (bytes : List ℕ) (part : Part) (rest : List ℕ) : Type 0 where
  pub same : bytes ≡ part.bytes ++ rest
  pub in_range : part.in_range
  pub rest_bytes : AreBytes rest

pub Takes-and : (p q : Part) (a b c : List ℕ) → Takes a p b → Takes b q c → Takes a (p and q) c
Takes-and p q a b c t u = record {
  same = t.same ∙ ap (λ (v : List ℕ). p.bytes ++ v) u.same ∙ sym (append_assoc p.bytes q.bytes c);
  in_range = (t.in_range, u.in_range);
  rest_bytes = u.rest_bytes;
}

-- reading and spelling undo each other, and what is cut off is Short
pub record IsField (MayBe : BadPacket → Type 0) {A : Type 0} (part : A → Part) (read : Field A) : Type 0 where
  pub takes : (bytes : List ℕ) (x : A) (rest : List ℕ) → AreBytes bytes → read bytes ≡ Ok (x, rest) → Takes bytes (part x) rest
  pub again : (x : A) (rest : List ℕ) → (part x).in_range → read ((part x).bytes ++ rest) ≡ Ok (x, rest)
  pub cut : (x : A) (front back : List ℕ) → (part x).in_range → (part x).bytes ≡ front ++ back → IsMore back → read front ≡ Err Short
  pub faults : (bytes : List ℕ) (fault : BadPacket) → read bytes ≡ Err fault → MayBe fault

-- the same of what is read behind a head, where the value shows its head
pub record IsBehind (MayBe : BadPacket → Type 0) {A B : Type 0} (head : B → A) (part : B → Part) (read : A → Field B) : Type 0 where
  pub takes : (a : A) (bytes : List ℕ) (x : B) (rest : List ℕ) → AreBytes bytes → read a bytes ≡ Ok (x, rest) → Takes bytes (part x) rest × (head x ≡ a)
  pub again : (x : B) (rest : List ℕ) → (part x).in_range → read (head x) ((part x).bytes ++ rest) ≡ Ok (x, rest)
  pub cut : (x : B) (front back : List ℕ) → (part x).in_range → (part x).bytes ≡ front ++ back → IsMore back → read (head x) front ≡ Err Short
  pub faults : (a : A) (bytes : List ℕ) (fault : BadPacket) → read a bytes ≡ Err fault → MayBe fault

module _ {F : BadPacket → Type 0} {A B : Type 0} {s : A → Part} {r : Field A} {t : B → Part} {q : Field B} (f : IsField F s r) (g : IsField F t q) where
  both_takes : (bytes : List ℕ) (x : A × B) (rest : List ℕ) → AreBytes bytes → (r then q) bytes ≡ Ok (x, rest) → Takes bytes (s x.0 and t x.1) rest
  both_takes bytes x rest h e =
      let a = bind_ok (r bytes) (λ (a : A × List ℕ). q a.1 >>= λ (b : B × List ℕ). Ok ((a.0, b.0), b.1)) (x, rest) e in
      let b = bind_ok (q a.0.1) (λ (b : B × List ℕ). Ok ((a.0.0, b.0), b.1)) (x, rest) a.2 in
      let one = f.takes bytes a.0.0 a.0.1 h a.1 in
      let two = g.takes a.0.1 b.0.0 b.0.1 one.rest_bytes b.1 in
      subst (λ (z : (A × B) × List ℕ). Takes bytes (s z.0.0 and t z.0.1) z.1) (ok_is ((a.0.0, b.0.0), b.0.1) (x, rest) b.2)
      (Takes-and (s a.0.0) (t b.0.0) bytes a.0.1 b.0.1 one two)

  both_cut : (x : A × B) (front back : List ℕ) → (s x.0).in_range → (t x.1).in_range → Cut (s x.0).bytes (t x.1).bytes front back → IsMore back → (r then q) front ≡ Err Short
  both_cut x front back h k (Behind mid e o more) d = rw (f.cut x.0 front mid h e more) refl
  both_cut x front back h k (Before mid e o) d = rw (e, f.again x.0 mid h, g.cut x.1 mid back k o d) refl

  both_faults : (bytes : List ℕ) (fault : BadPacket) → (r then q) bytes ≡ Err fault → F fault
  both_faults bytes fault e =
      elim (bind_err (r bytes) (λ (a : A × List ℕ). q a.1 >>= λ (b : B × List ℕ). Ok ((a.0, b.0), b.1)) fault e) [
        | inl one ↦ f.faults bytes fault one
        | inr a ↦ elim (bind_err (q a.0.1) (λ (b : B × List ℕ). Ok ((a.0.0, b.0), b.1)) fault a.2) [
          | inl two ↦ g.faults a.0.1 fault two
          | inr b ↦ ok_err ((a.0.0, b.0.0), b.0.1) fault b.2
        ]
      ]

  pair : IsField F (λ (x : A × B). s x.0 and t x.1) (r then q)
  pair = record {
    takes = both_takes;
    again = λ x rest h. rw (append_assoc (s x.0).bytes (t x.1).bytes rest, f.again x.0 ((t x.1).bytes ++ rest) h.0, g.again x.1 rest h.1) refl;
    cut = λ x front back h e d. both_cut x front back h.0 h.1 (cut_of (s x.0).bytes (t x.1).bytes front back e) d;
    faults = both_faults;
  }

-- two fields, one after the other
infixl 12 ◌&◌
pub ◌&◌ : {F : BadPacket → Type 0} {A B : Type 0} {s : A → Part} {r : Field A} {t : B → Part} {q : Field B} → IsField F s r → IsField F t q → IsField F (λ (x : A × B). s x.0 and t x.1) (r then q)
f & g = pair f g

module _ {F : BadPacket → Type 0} {A B : Type 0} {s : A → Part} {r : Field A} {head : B → A} {t : B → Part} {q : A → Field B} (f : IsField F s r) (g : IsBehind F head t q) where
  into_takes : (bytes : List ℕ) (x : B) (rest : List ℕ) → AreBytes bytes → (r into q) bytes ≡ Ok (x, rest) → Takes bytes (s (head x) and t x) rest
  into_takes bytes x rest h e =
      let a = bind_ok (r bytes) (λ (a : A × List ℕ). q a.0 a.1) (x, rest) e in
      let one = f.takes bytes a.0.0 a.0.1 h a.1 in
      let two = g.takes a.0.0 a.0.1 x rest one.rest_bytes a.2 in
      subst (λ (z : A). Takes bytes (s z and t x) rest) (sym two.1) (Takes-and (s a.0.0) (t x) bytes a.0.1 rest one two.0)

  into_cut : (x : B) (front back : List ℕ) → (s (head x)).in_range → (t x).in_range → Cut (s (head x)).bytes (t x).bytes front back → IsMore back → (r into q) front ≡ Err Short
  into_cut x front back h k (Behind mid e o more) d = rw (f.cut (head x) front mid h e more) refl
  into_cut x front back h k (Before mid e o) d = rw (e, f.again (head x) mid h) (g.cut x mid back k o d)

  into_faults : (bytes : List ℕ) (fault : BadPacket) → (r into q) bytes ≡ Err fault → F fault
  into_faults bytes fault e =
      elim (bind_err (r bytes) (λ (a : A × List ℕ). q a.0 a.1) fault e) [
        | inl one ↦ f.faults bytes fault one
        | inr a ↦ g.faults a.0.0 a.0.1 fault a.2
      ]

  -- a head, and what is read behind it
  pub headed : IsField F (λ (x : B). s (head x) and t x) (r into q)
  headed = record {
    takes = into_takes;
    again = λ x rest h. rw (append_assoc (s (head x)).bytes (t x).bytes rest, f.again (head x) ((t x).bytes ++ rest) h.0) (g.again x rest h.1);
    cut = λ x front back h e d. into_cut x front back h.0 h.1 (cut_of (s (head x)).bytes (t x).bytes front back e) d;
    faults = into_faults;
  }

module _ {F : BadPacket → Type 0} {A B : Type 0} {s : A → Part} {r : Field A} (f : IsField F s r) (make : A → B) where
  pub made_takes : (G : List ℕ → B → List ℕ → Type 0) → ((bytes : List ℕ) (x : A) (rest : List ℕ) → Takes bytes (s x) rest → G bytes (make x) rest)
      → (bytes : List ℕ) (y : B) (rest : List ℕ) → AreBytes bytes → made make r bytes ≡ Ok (y, rest) → G bytes y rest
  made_takes G all bytes y rest h e =
      let a = bind_ok (r bytes) (λ (a : A × List ℕ). Ok (make a.0, a.1)) (y, rest) e in
      subst (λ (z : B × List ℕ). G bytes z.0 z.1) (ok_is (make a.0.0, a.0.1) (y, rest) a.2) (all bytes a.0.0 a.0.1 (f.takes bytes a.0.0 a.0.1 h a.1))

  pub made_again : (x : A) (rest : List ℕ) → (s x).in_range → made make r ((s x).bytes ++ rest) ≡ Ok (make x, rest)
  made_again x rest h = rw (f.again x rest h) refl

  pub made_cut : (x : A) (front back : List ℕ) → (s x).in_range → (s x).bytes ≡ front ++ back → IsMore back → made make r front ≡ Err Short
  made_cut x front back h e d = rw (f.cut x front back h e d) refl

  pub made_faults : (bytes : List ℕ) (fault : BadPacket) → made make r bytes ≡ Err fault → F fault
  made_faults bytes fault e =
      elim (bind_err (r bytes) (λ (a : A × List ℕ). Ok (make a.0, a.1)) fault e) [
        | inl one ↦ f.faults bytes fault one
        | inr a ↦ ok_err (make a.0.0, a.0.1) fault a.2
      ]

-- Steps that may fail, and lists that are cut in two.
use Rattle.std.proofs.Common.{◌≡◌, ℕ, suc, ◌+◌, ◌<◌, ◌≤◌, ◌⊎◌, inl, inr, Bool, true, false, cond, List, [], ◌∷◌, ◌++◌, length, get_or, take, drop, Result, Ok, Err, refl, sym, ap, arith}
use Rattle.std.proofs.lemmas.Bool.{cases_lt}
use Rattle.std.proofs.lemmas.List.{length-append, length-take, get_or-drop, get_or-take, get_or_past}
use Rattle.packet_codec.specs.declared.fault.BadPacket.{BadPacket}
use Rattle.packet_codec.specs.Reading.{◌>>=◌}

abbrev done : {A : Type 0} → A → Result A BadPacket
done x = Ok x

abbrev failed : (A : Type 0) → BadPacket → Result A BadPacket
failed A fault = Err fault

pub ok_is : {A : Type 0} (x y : A) → done x ≡ done y → x ≡ y
ok_is x y e = cc

-- a value is no fault
pub ok_err : {A B : Type 0} (x : A) (fault : BadPacket) → done x ≡ Err fault → B
ok_err x fault e = absurd cc

-- the value of two steps
pub bind_ok : {A B : Type 0} (r : Result A BadPacket) (f : A → Result B BadPacket) (y : B) → (r >>= f) ≡ Ok y → (x : A) × (r ≡ Ok x) × (f x ≡ Ok y)
bind_ok (Ok x) f y e = (x, refl, e)
bind_ok (Err fault) f y e = absurd cc

pub err_is : (A : Type 0) (c d : BadPacket) → failed A c ≡ failed A d → c ≡ d
err_is A c d e = cc

-- the fault of two steps is that of one of them
pub bind_err : {A B : Type 0} (r : Result A BadPacket) (f : A → Result B BadPacket) (d : BadPacket) → (r >>= f) ≡ Err d → (r ≡ Err d) ⊎ ((x : A) × (r ≡ Ok x) × (f x ≡ Err d))
bind_err (Ok x) f d e = inr (x, refl, e)
bind_err (Err c) f d e = inl cc

-- a test that ruled a fault out
pub passed : {A : Type 0} (b : Bool) (d : BadPacket) (r : Result A BadPacket) (y : A) → cond b (Err d) r ≡ Ok y → (b ≡ false) × (r ≡ Ok y)
passed true d r y e = absurd cc
passed false d r y e = (refl, e)

pub met : {A : Type 0} (b : Bool) (d : BadPacket) (r : Result A BadPacket) (y : A) → cond b r (Err d) ≡ Ok y → (b ≡ true) × (r ≡ Ok y)
met true d r y e = (refl, e)
met false d r y e = absurd cc

-- the fault is the test's, or that of what follows
pub err_of_test : {A : Type 0} (b : Bool) (d : BadPacket) (r : Result A BadPacket) (fault : BadPacket) → cond b (Err d) r ≡ Err fault → (d ≡ fault) ⊎ (r ≡ Err fault)
err_of_test true d r fault e = inl cc
err_of_test false d r fault e = inr e

pub err_of_met : {A : Type 0} (b : Bool) (d : BadPacket) (r : Result A BadPacket) (fault : BadPacket) → cond b r (Err d) ≡ Err fault → (d ≡ fault) ⊎ (r ≡ Err fault)
err_of_met true d r fault e = inr e
err_of_met false d r fault e = inl cc

-- each number is that of a byte
abbrev pub AreBytes : List ℕ → Type 0
AreBytes bytes = (i : ℕ) → get_or bytes i 0 < 256

pub AreBytes-drop : (n : ℕ) (bytes : List ℕ) → AreBytes bytes → AreBytes (drop n bytes)
AreBytes-drop n bytes h i = rw get_or-drop (h (n + i))

pub AreBytes-take : (n : ℕ) (bytes : List ℕ) → AreBytes bytes → AreBytes (take n bytes)
AreBytes-take n bytes h i =
    elim (cases_lt i n) [
      | inl lt ↦ rw (get_or-take n bytes i 0 lt) (h i)
      | inr le ↦ rw (get_or_past (take n bytes) i 0 (omega (arith, length-take n bytes))) (omega arith)
    ]

pub AreBytes-rest : (b : ℕ) (bytes : List ℕ) → AreBytes (b ∷ bytes) → AreBytes bytes
AreBytes-rest b bytes h i = h (suc i)

abbrev pub IsMore : List ℕ → Type 0
IsMore bytes = bytes ≡ [] → ⊥

pub more_is : (b : ℕ) (bytes : List ℕ) → IsMore (b ∷ bytes)
more_is b bytes e = absurd cc

pub more_length : (bytes : List ℕ) → IsMore bytes → 1 ≤ length bytes
more_length [] more = absurd (more refl)
more_length (b ∷ bytes) more = omega arith

-- the front of one byte that is not all of it
pub one_cut : (b : ℕ) (front back : List ℕ) → b ∷ [] ≡ front ++ back → IsMore back → front ≡ []
one_cut b [] back e more = refl
one_cut b (f ∷ front) back e more = absurd (omega (arith, length-append front back, ap length e, more_length back more))

-- two texts that are cut elsewhere: the first ends behind that cut, or before it
pub data Cut (a b front back : List ℕ) : Type 0 where
  Behind : (mid : List ℕ) → a ≡ front ++ mid → back ≡ mid ++ b → IsMore mid → Cut a b front back
  Before : (mid : List ℕ) → front ≡ a ++ mid → b ≡ mid ++ back → Cut a b front back

tail_is : (x y : ℕ) (xs ys : List ℕ) → x ∷ xs ≡ y ∷ ys → (x ≡ y) × (xs ≡ ys)
tail_is x y xs ys e = (cc, cc)

cons_is : (x y : ℕ) (xs ys : List ℕ) → x ≡ y → xs ≡ ys → x ∷ xs ≡ y ∷ ys
cons_is x y xs ys e f = cc

longer_cut : (x y : ℕ) (a b front back : List ℕ) → x ≡ y → Cut a b front back → Cut (x ∷ a) b (y ∷ front) back
longer_cut x y a b front back same (Behind mid e o h) = Behind mid (cons_is x y a (front ++ mid) same e) o h
longer_cut x y a b front back same (Before mid e o) = Before mid (cons_is y x front (a ++ mid) (sym same) e) o

pub cut_of : (a b front back : List ℕ) → a ++ b ≡ front ++ back → Cut a b front back
cut_of [] b front back e = Before front refl e
cut_of (x ∷ a) b [] back e = Behind (x ∷ a) refl (sym e) (more_is x a)
cut_of (x ∷ a) b (y ∷ front) back e =
    let t = tail_is x y (a ++ b) (front ++ back) e in
    longer_cut x y a b front back t.0 (cut_of a b front back t.1)

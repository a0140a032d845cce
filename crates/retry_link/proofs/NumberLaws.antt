-- Messages with the numbers 1, 2 and so on; members of filtered lists.
use Rattle.std.proofs.Common.{◌≡◌, ◌≢◌, ℕ, ◌+◌, ◌<◌, ◌≤◌, ◌⊎◌, inl, inr, Bool, true, false, cond, List, [], ◌∷◌, ◌++◌, length, filter, refl, sym, ap, ◌∙◌, subst, arith}
use Rattle.std.proofs.lemmas.Bool.{cases_eq}
use Rattle.far_model.specs.Members.{Among}
use Rattle.retry_link.specs.Sender.{Numbered}
use Rattle.retry_link.specs.Reliable.{AreNumbered, HasNumber}

pub numbered_low : (n : ℕ) (ms : List Numbered) (m : Numbered) → AreNumbered n ms → Among m ms → n ≤ m.0
numbered_low n [] m h a = absurd a
numbered_low n (x ∷ ms) m h (inl e) = let k : m.0 ≡ x.0 = ap (λ (y : Numbered). y.0) e in omega (arith, k, h.0)
numbered_low n (x ∷ ms) m h (inr a) = omega (arith, numbered_low (n + 1) ms m h.1 a)

pub numbered_high : (n : ℕ) (ms : List Numbered) (m : Numbered) → AreNumbered n ms → Among m ms → m.0 < n + length ms
numbered_high n [] m h a = absurd a
numbered_high n (x ∷ ms) m h (inl e) = let k : m.0 ≡ x.0 = ap (λ (y : Numbered). y.0) e in omega (arith, k, h.0)
numbered_high n (x ∷ ms) m h (inr a) = omega (arith, numbered_high (n + 1) ms m h.1 a)

-- one number, one message
pub numbered_one : (n : ℕ) (ms : List Numbered) (x y : Numbered) → AreNumbered n ms → Among x ms → Among y ms → x.0 ≡ y.0 → x ≡ y
numbered_one n [] x y h a b same = absurd a
numbered_one n (m ∷ ms) x y h (inl a) (inl b) same = a ∙ sym b
numbered_one n (m ∷ ms) x y h (inl a) (inr b) same =
    let k : x.0 ≡ m.0 = ap (λ (z : Numbered). z.0) a in
    absurd (omega (arith, k, same, h.0, numbered_low (n + 1) ms y h.1 b))
numbered_one n (m ∷ ms) x y h (inr a) (inl b) same =
    let k : y.0 ≡ m.0 = ap (λ (z : Numbered). z.0) b in
    absurd (omega (arith, k, same, h.0, numbered_low (n + 1) ms x h.1 a))
numbered_one n (m ∷ ms) x y h (inr a) (inr b) same = numbered_one (n + 1) ms x y h.1 a b same

pub numbered_more : (n k : ℕ) (ms : List Numbered) (wire : List ℕ) → AreNumbered n ms → k ≡ n + length ms → AreNumbered n (ms ++ (k, wire) ∷ [])
numbered_more n k [] wire h e = (omega (arith, e), tt)
numbered_more n k (m ∷ ms) wire h e = (h.0, numbered_more (n + 1) k ms wire h.1 (omega (arith, e)))

-- each number up to the last one is there
pub numbered_at : (n k : ℕ) (ms : List Numbered) → AreNumbered n ms → n ≤ k → k < n + length ms → HasNumber k ms
numbered_at n k [] h low high = absurd (omega (arith, low, high))
numbered_at n k (m ∷ ms) h low high =
    elim (cases_eq k n) [
      | inl e ↦ let same : k ≡ m.0 = e ∙ sym h.0 in (m.1, inl (λ i. (same i, m.1)))
      | inr ne ↦ let r = numbered_at (n + 1) k ms h.1 (omega (arith, low, ne)) (omega (arith, high)) in (r.0, inr r.1)
    ]

-- ---- members that pass a test

pub among_filter : {A : Type 0} (p : A → Bool) (x : A) (xs : List A) → Among x (filter p xs) → Among x xs
among_filter p x [] a = absurd a
among_filter p x (y ∷ ys) given =
    elim (p y) as (λ b. Among x (cond b (y ∷ filter p ys) (filter p ys)) → Among x (y ∷ ys)) [
      | true ↦ λ a. elim a [ inl e ↦ inl e | inr b ↦ inr (among_filter p x ys b) ]
      | false ↦ λ a. inr (among_filter p x ys a)
    ] given

pub filter_passes : {A : Type 0} (p : A → Bool) (x : A) (xs : List A) → Among x (filter p xs) → p x ≡ true
filter_passes p x [] a = absurd a
filter_passes p x (y ∷ ys) given =
    elim (p y) as (λ b. p y ≡ b → Among x (cond b (y ∷ filter p ys) (filter p ys)) → p x ≡ true) [
      | true ↦ λ t a. elim a [ inl e ↦ ap p e ∙ t | inr b ↦ filter_passes p x ys b ]
      | false ↦ λ t a. filter_passes p x ys a
    ] refl given

pub filter_keeps : {A : Type 0} (p : A → Bool) (x : A) (xs : List A) → p x ≡ true → Among x xs → Among x (filter p xs)
filter_keeps p x [] t a = absurd a
filter_keeps p x (y ∷ ys) t (inl e) =
    let s : p y ≡ true = sym (ap p e) ∙ t in
    rw s (inl e)
filter_keeps p x (y ∷ ys) t (inr a) =
    elim (p y) as (λ b. Among x (cond b (y ∷ filter p ys) (filter p ys))) [
      | true ↦ inr (filter_keeps p x ys t a)
      | false ↦ filter_keeps p x ys t a
    ]

pub all_gone : {A : Type 0} (xs : List A) → ((x : A) → Among x xs → ⊥) → xs ≡ []
all_gone [] h = refl
all_gone (x ∷ xs) h = absurd (h x (inl refl))

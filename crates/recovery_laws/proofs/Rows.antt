-- One message for each number of a row: of each number there is exactly one.
use Rattle.std.proofs.Common.{◌≡◌, ℕ, zero, suc, ◌+◌, ◌<◌, ◌≤◌, ◌⊎◌, inl, inr, Bool, true, false, cond, List, [], ◌∷◌, refl, ap, ◌∙◌, arith, eq-eqb, ne_eqb}
use Rattle.std.specs.Prelude.{◌&&◌, nat_eq}
use Rattle.std.specs.List.{count_by}
use Rattle.std.proofs.lemmas.Bool.{cases_eq}
use Rattle.std.proofs.lemmas.List.Sums.{sum_by-cons}
use Rattle.far_base.specs.declared.packet.Message.{Message}
use Rattle.record_laws.proofs.Seats.{counted}

-- from this number on, so many more
abbrev pub row : (ℕ → Message) → ℕ → ℕ → List Message
row one n zero = []
row one n (suc more) = one n ∷ row one (suc n) more

pub and_on : (a b : Bool) → b ≡ true → (a && b) ≡ a
and_on true b h = h
and_on false b h = refl

module _ (one : ℕ → Message) (p : Message → Bool) (c : ℕ) (of : (k : ℕ) → p (one k) ≡ nat_eq k c) where
  counts : (n more : ℕ) → count_by p (row one n (suc more)) ≡ counted p (one n) + count_by p (row one (suc n) more)
  counts n more = sum_by-cons (λ w. cond {A = ℕ} (p w) 1 0) (one n) (row one (suc n) more)

  off : (n : ℕ) → (n ≡ c → ⊥) → counted p (one n) ≡ 0
  off n ne = ap (λ b. cond {A = ℕ} b 1 0) (of n ∙ ne_eqb n c ne)

  none_of : (n more : ℕ) → c < n → count_by p (row one n more) ≡ 0
  none_of n zero low = refl
  none_of n (suc more) low = counts n more ∙ omega (arith, off n (λ e. omega (arith, e, low)), none_of (suc n) more (omega (arith, low)))

  pub one_of : (n more : ℕ) → n ≤ c → c < n + more → count_by p (row one n more) ≡ 1
  one_of n zero low high = absurd (omega (arith, low, high))
  one_of n (suc more) low high = go (λ l. one_of (suc n) more l (omega (arith, high))) (λ l. none_of (suc n) more l) (cases_eq n c)
    where
      go : (suc n ≤ c → count_by p (row one (suc n) more) ≡ 1) → (c < suc n → count_by p (row one (suc n) more) ≡ 0) → (n ≡ c) ⊎ (n ≡ c → ⊥) → count_by p (row one n (suc more)) ≡ 1
      go f g (inl e) = let on : counted p (one n) ≡ 1 = ap (λ b. cond {A = ℕ} b 1 0) (of n ∙ eq-eqb n c e) in counts n more ∙ omega (arith, on, g (omega (arith, e)))
      go f g (inr ne) = counts n more ∙ omega (arith, off n ne, f (omega (arith, low, ne)))

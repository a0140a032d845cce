-- Which numbers a receiver has seen, as its base moves up.
use Rattle.std.proofs.Common.{◌≡◌, ◌≢◌, ℕ, zero, suc, ◌+◌, ◌-◌, ◌<◌, ◌≤◌, ◌⊎◌, inl, inr, Bool, true, false, cond, ◌&&◌, nat_le, nat_lt, List, [], ◌∷◌, ◌++◌, length, get_or, drop, set, replicate, refl, sym, ap, ◌∙◌, length-append, length-drop, length-set, get_or-drop, get_or-set_same, get_or-set_other, arith}
use Rattle.std.proofs.lemmas.Bool.{cases_lt, cases_eq}
use Rattle.std.proofs.lemmas.Bool.Decides.{nat_tests}
use Rattle.std.proofs.lemmas.List.{length-replicate}
use Rattle.retry_link.specs.Receiver.{ReceiverView, IsOpen, has_seen, is_within, marked, moved_up, on_in_front, turned}
use Rattle.retry_link.specs.declared.frame.TheConstants.{WINDOW}

-- ---- marks at the front

front_on : (marks : List Bool) (i : ℕ) → i < on_in_front marks → get_or marks i false ≡ true
front_on [] i lt = absurd (omega arith)
front_on (true ∷ marks) zero lt = refl
front_on (true ∷ marks) (suc i) lt = front_on marks i (omega arith)
front_on (false ∷ marks) i lt = absurd (omega arith)

pub front_within : (marks : List Bool) → on_in_front marks ≤ length marks
front_within [] = omega arith
front_within (true ∷ marks) = omega (arith, front_within marks)
front_within (false ∷ marks) = omega arith

front_off : (marks : List Bool) → get_or (drop (on_in_front marks) marks) 0 false ≡ false
front_off [] = refl
front_off (true ∷ marks) = front_off marks
front_off (false ∷ marks) = refl

off : (k i : ℕ) → get_or (replicate k false) i false ≡ false
off zero zero = refl
off zero (suc i) = refl
off (suc k) zero = refl
off (suc k) (suc i) = off k i

off_behind : (xs : List Bool) (k i : ℕ) → get_or (xs ++ replicate k false) i false ≡ get_or xs i false
off_behind [] k zero = off k zero
off_behind [] k (suc i) = off k (suc i)
off_behind (x ∷ xs) k zero = refl
off_behind (x ∷ xs) k (suc i) = off_behind xs k i

turned_at : (marks : List Bool) (i : ℕ) → get_or (turned marks) i false ≡ get_or marks (on_in_front marks + i) false
turned_at marks i = off_behind (drop (on_in_front marks) marks) (on_in_front marks) i ∙ get_or-drop (on_in_front marks) marks i false

pub open_turned : (marks : List Bool) → length marks ≡ WINDOW → IsOpen (turned marks)
open_turned marks n =
    let k : ℕ = on_in_front marks in
    record {
      whole = omega (arith, n, front_within marks, length-append (drop (on_in_front marks) marks) (replicate (on_in_front marks) false), length-drop (on_in_front marks) marks, length-replicate {A = Bool} (on_in_front marks) false);
      first = off_behind (drop (on_in_front marks) marks) (on_in_front marks) 0 ∙ front_off marks;
    }

pub open_at_first : IsOpen (replicate WINDOW false)
open_at_first = record { whole = length-replicate {A = Bool} WINDOW false; first = off WINDOW 0 }

-- ---- numbers that were seen

abbrev seen_by : ℕ → List Bool → ℕ → Bool
seen_by base marks n = cond (nat_le n base) true (get_or marks (n - base - 1) false)

up_to : (base : ℕ) (marks : List Bool) (n : ℕ) → n ≤ base → seen_by base marks n ≡ true
up_to base marks n le = let a : nat_le n base ≡ true = grind (arith, nat_tests) in rw a refl

behind : (base : ℕ) (marks : List Bool) (n : ℕ) → base < n → seen_by base marks n ≡ get_or marks (n - base - 1) false
behind base marks n lt = let a : nat_le n base ≡ false = grind (arith, nat_tests) in rw a refl

moved_seen : (base : ℕ) (marks : List Bool) (n : ℕ) → seen_by (base + on_in_front marks) (turned marks) n ≡ seen_by base marks n
moved_seen base marks n = first (cases_lt base n)
  where
    second : base < n → (base + on_in_front marks < n) ⊎ (n ≤ base + on_in_front marks) → seen_by (base + on_in_front marks) (turned marks) n ≡ seen_by base marks n
    second low (inr le) = up_to (base + on_in_front marks) (turned marks) n le ∙ sym (behind base marks n low ∙ front_on marks (n - base - 1) (omega (arith, low, le)))
    second low (inl lt) =
        let place : on_in_front marks + (n - (base + on_in_front marks) - 1) ≡ n - base - 1 = omega (arith, lt) in
        behind (base + on_in_front marks) (turned marks) n lt
        ∙ (turned_at marks (n - (base + on_in_front marks) - 1) ∙ (ap (λ (i : ℕ). get_or marks i false) place ∙ sym (behind base marks n low)))

    first : (base < n) ⊎ (n ≤ base) → seen_by (base + on_in_front marks) (turned marks) n ≡ seen_by base marks n
    first (inl low) = second low (cases_lt (base + on_in_front marks) n)
    first (inr le) = up_to (base + on_in_front marks) (turned marks) n (omega (arith, le)) ∙ sym (up_to base marks n le)

module _ (r : ReceiverView) (num : ℕ) (low : r.base < num) (high : num ≤ r.base + length r.marks) where
  abbrev place : ℕ
  place = num - r.base - 1

  within : place < length r.marks
  within = omega (arith, low, high)

  now_seen : (n : ℕ) → has_seen (marked r num) n ≡ seen_by r.base (set r.marks place true) n
  now_seen n = moved_seen r.base (set r.marks place true) n

  -- the number itself was seen
  pub seen_new : has_seen (marked r num) num ≡ true
  seen_new = now_seen num ∙ (behind r.base (set r.marks place true) num low ∙ get_or-set_same r.marks place true false within)

  set_at : (n : ℕ) → r.base < n → (n ≡ num) ⊎ (seen_by r.base (set r.marks place true) n ≡ seen_by r.base r.marks n)
  set_at n lt = go (cases_eq (n - r.base - 1) place)
    where
      go : ((n - r.base - 1) ≡ place) ⊎ ((n - r.base - 1) ≢ place) → (n ≡ num) ⊎ (seen_by r.base (set r.marks place true) n ≡ seen_by r.base r.marks n)
      go (inl e) = inl (omega (arith, e, lt, low))
      go (inr ne) = inr (behind r.base (set r.marks place true) n lt ∙ (get_or-set_other r.marks place (n - r.base - 1) true false ne ∙ sym (behind r.base r.marks n lt)))

  -- each number that was seen stays so
  pub seen_stays : (n : ℕ) → has_seen r n ≡ true → has_seen (marked r num) n ≡ true
  seen_stays n h = now_seen n ∙ go (cases_lt r.base n)
    where
      on : r.base < n → (n ≡ num) ⊎ (seen_by r.base (set r.marks place true) n ≡ seen_by r.base r.marks n) → seen_by r.base (set r.marks place true) n ≡ true
      on lt (inl e) = rw e (behind r.base (set r.marks place true) num low ∙ get_or-set_same r.marks place true false within)
      on lt (inr e) = e ∙ h

      go : (r.base < n) ⊎ (n ≤ r.base) → seen_by r.base (set r.marks place true) n ≡ true
      go (inl lt) = on lt (set_at n lt)
      go (inr le) = up_to r.base (set r.marks place true) n le

  -- and no other was seen
  pub seen_only : (n : ℕ) → has_seen (marked r num) n ≡ true → (n ≡ num) ⊎ (has_seen r n ≡ true)
  seen_only n h = go (cases_lt r.base n)
    where
      on : (n ≡ num) ⊎ (seen_by r.base (set r.marks place true) n ≡ seen_by r.base r.marks n) → (n ≡ num) ⊎ (has_seen r n ≡ true)
      on (inl e) = inl e
      on (inr e) = inr (sym e ∙ (sym (now_seen n) ∙ h))

      go : (r.base < n) ⊎ (n ≤ r.base) → (n ≡ num) ⊎ (has_seen r n ≡ true)
      go (inl lt) = on (set_at n lt)
      go (inr le) = inr (up_to r.base r.marks n le)

  pub open_marked : length r.marks ≡ WINDOW → IsOpen (marked r num).marks
  open_marked n = open_turned (set r.marks place true) (length-set r.marks place true ∙ n)

-- the number behind the base was not seen
pub next_unseen : (r : ReceiverView) → IsOpen r.marks → has_seen r (r.base + 1) ≡ false
next_unseen r h =
    let place : r.base + 1 - r.base - 1 ≡ 0 = omega arith in
    behind r.base r.marks (r.base + 1) (omega arith) ∙ (ap (λ (i : ℕ). get_or r.marks i false) place ∙ h.first)

-- all up to it were
pub base_seen : (r : ReceiverView) → has_seen r r.base ≡ true
base_seen r = up_to r.base r.marks r.base (omega arith)

pub unseen_above : (r : ReceiverView) (n : ℕ) → has_seen r n ≡ false → r.base < n
unseen_above r n h = go (cases_lt r.base n)
  where
    go : (r.base < n) ⊎ (n ≤ r.base) → r.base < n
    go (inl lt) = lt
    go (inr le) = let z = sym h ∙ up_to r.base r.marks n le in absurd cc

-- at first nothing was
pub none_seen : (n : ℕ) → 1 ≤ n → has_seen (record { base = 0; marks = replicate WINDOW false }) n ≡ false
none_seen n low = behind 0 (replicate WINDOW false) n (omega (arith, low)) ∙ off WINDOW (n - 0 - 1)

pub is_in_window : (r : ReceiverView) (n : ℕ) → 1 ≤ n → n ≤ r.base + WINDOW → is_within r n ≡ true
is_in_window r n low high =
    let a : nat_lt 0 n ≡ true = grind (arith, nat_tests) in
    let b : nat_le n (r.base + WINDOW) ≡ true = grind (arith, nat_tests) in
    rw (a, b) refl

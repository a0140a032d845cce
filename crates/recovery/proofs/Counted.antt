-- What is counted of a round is what its lists have.
use Rattle.std.proofs.Common.{◌≡◌, ℕ, zero, suc, ◌<◌, max, Bool, true, false, cond, ◌&&◌, List, [], ◌∷◌, length, replicate, get_or, refl, sym, ap, arith}
use Rattle.std.proofs.Math.ListN.{set}
use Rattle.std.proofs.lemmas.Bool.Decides.{nat_tests}
use borrow.Author.Tests.{ltb-true}
use Rattle.std.specs.Prelude.{Option, None, Some, is_some, not, nat_eq, nat_lt}
use Rattle.std.specs.List.{list_all}
use Rattle.far_model.specs.Rounds.{Round, Telling, no_telling, has_told, greatest_top}
use Rattle.recovery.specs.Counts.{still_telling, still_topping}
use Rattle.recovery.specs.Waits.{waits_told, waits_top}

suc_is_some : (n : ℕ) → nat_eq (suc n) 0 ≡ false
suc_is_some n = grind (arith, nat_tests)

-- ---- clients

pub all_told : (ts : List Telling) → list_all has_told ts ≡ nat_eq (still_telling ts) 0
all_told [] = refl
all_told (t ∷ ts) = by (has_told t) (all_told ts)
  where
    by : (b : Bool) → list_all has_told ts ≡ nat_eq (still_telling ts) 0 → (b && list_all has_told ts) ≡ nat_eq (cond b (still_telling ts) (suc (still_telling ts))) 0
    by true rest = rest
    by false rest = sym (suc_is_some (still_telling ts))

pub telling_set_over : (ts : List Telling) (i : ℕ) (new : Telling) → i < length ts → has_told (get_or ts i no_telling) ≡ false → has_told new ≡ true
    → still_telling ts ≡ suc (still_telling (set ts i new))
telling_set_over [] i new h e over = absurd (omega arith)
telling_set_over (t ∷ ts) zero new h e over = rw (e, over) refl
telling_set_over (t ∷ ts) (suc i) new h e over = by (has_told t) (telling_set_over ts i new (omega arith) e over)
  where
    by : (b : Bool) → still_telling ts ≡ suc (still_telling (set ts i new)) → cond b (still_telling ts) (suc (still_telling ts)) ≡ suc (cond b (still_telling (set ts i new)) (suc (still_telling (set ts i new))))
    by true rest = rest
    by false rest = ap suc rest

pub telling_set_on : (ts : List Telling) (i : ℕ) (new : Telling) → i < length ts → has_told (get_or ts i no_telling) ≡ false → has_told new ≡ false
    → still_telling ts ≡ still_telling (set ts i new)
telling_set_on [] i new h e on = absurd (omega arith)
telling_set_on (t ∷ ts) zero new h e on = rw (e, on) refl
telling_set_on (t ∷ ts) (suc i) new h e on = ap (λ (n : ℕ). cond (has_told t) n (suc n)) (telling_set_on ts i new (omega arith) e on)

pub all_telling : (n : ℕ) → still_telling (replicate n no_telling) ≡ n
all_telling zero = refl
all_telling (suc n) = ap suc (all_telling n)

-- ---- servers

pub all_topped : (tops : List (Option ℕ)) → list_all is_some tops ≡ nat_eq (still_topping tops) 0
all_topped [] = refl
all_topped (None ∷ tops) = sym (suc_is_some (still_topping tops))
all_topped (Some top ∷ tops) = all_topped tops

pub topping_set : (tops : List (Option ℕ)) (i num : ℕ) → i < length tops → is_some (get_or tops i None) ≡ false → still_topping tops ≡ suc (still_topping (set tops i (Some num)))
topping_set [] i num h e = absurd (omega arith)
topping_set (None ∷ tops) zero num h e = refl
topping_set (Some top ∷ tops) zero num h e = absurd cc
topping_set (None ∷ tops) (suc i) num h e = ap suc (topping_set tops i num (omega arith) e)
topping_set (Some top ∷ tops) (suc i) num h e = topping_set tops i num (omega arith) e

pub greatest_set : (tops : List (Option ℕ)) (i num : ℕ) → i < length tops → is_some (get_or tops i None) ≡ false → greatest_top (set tops i (Some num)) ≡ max (greatest_top tops) num
greatest_set [] i num h e = absurd (omega arith)
greatest_set (None ∷ tops) zero num h e = omega arith
greatest_set (Some top ∷ tops) zero num h e = absurd cc
greatest_set (None ∷ tops) (suc i) num h e = greatest_set tops i num (omega arith) e
greatest_set (Some top ∷ tops) (suc i) num h e = let rest = greatest_set tops i num (omega arith) e in omega arith

pub all_topping : (n : ℕ) → still_topping (replicate n None) ≡ n
all_topping zero = refl
all_topping (suc n) = ap suc (all_topping n)

pub no_top : (n : ℕ) → greatest_top (replicate n None) ≡ 0
no_top zero = refl
no_top (suc n) = no_top n

-- ---- what a round waits for

and_both : (a b : Bool) → (a && b) ≡ true → (a ≡ true) × (b ≡ true)
and_both true b e = (refl, e)
and_both false b e = absurd cc

not_true : (b : Bool) → not b ≡ true → b ≡ false
not_true true e = absurd cc
not_true false e = refl

pub tells_in : (r : Round) (caller : ℕ) → waits_told r caller ≡ true → (caller < length r.told) × (has_told (get_or r.told caller no_telling) ≡ false)
tells_in r caller e =
    let both = and_both (nat_lt caller (length r.told)) (not (has_told (get_or r.told caller no_telling))) e in
    (ltb-true caller (length r.told) both.0, not_true (has_told (get_or r.told caller no_telling)) both.1)

pub waits_in : (r : Round) (server : ℕ) → waits_top r server ≡ true → (server < length r.tops) × (is_some (get_or r.tops server None) ≡ false)
waits_in r server e =
    let asked = and_both r.asked (nat_lt server (length r.tops) && not (is_some (get_or r.tops server None))) e in
    let both = and_both (nat_lt server (length r.tops)) (not (is_some (get_or r.tops server None))) asked.1 in
    (ltb-true server (length r.tops) both.0, not_true (is_some (get_or r.tops server None)) both.1)

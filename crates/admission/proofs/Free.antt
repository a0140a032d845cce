-- The number of free slots.
use Rattle.std.proofs.Common.{◌≡◌, ℕ, zero, suc, ◌+◌, ◌<◌, ◌≤◌, Bool, true, false, cond, not, List, [], ◌∷◌, length, get_or, replicate, refl, sym, ◌∙◌, arith}
use Rattle.std.specs.Prelude.{Option, None, Some, is_some, nat_eq, slice_set}
use Rattle.std.proofs.Math.Dec.{eqb-suc-zero}
use Rattle.far_base.specs.declared.slot_state.SlotState.{SlotState}
use Rattle.far_base.specs.declared.slot_state.SlotState.TheVariants.{Free}
use Rattle.far_model.specs.Evictions.{first_place, is_free}
use Rattle.far_model.specs.View.{next_place}
use Rattle.admission.specs.AdmissionView.{free_count, free_in}

-- a slot changes from one state to another
pub count_set : (slots : List SlotState) (i : ℕ) (before after : SlotState) → i < length slots → before ≡ get_or slots i before → free_count (slice_set slots i after) + free_in before ≡ free_count slots + free_in after
count_set [] i before after h e = absurd (omega arith)
count_set (s ∷ slots) zero before after h e = rw e (omega arith)
count_set (s ∷ slots) (suc i) before after h e = omega (arith, count_set slots i before after (omega (arith, h)) e)

pub count_all : (n : ℕ) → free_count (replicate n Free) ≡ n
count_all zero = refl
count_all (suc n) = omega (arith, count_all n)

pub count_bound : (slots : List SlotState) → free_count slots ≤ length slots
count_bound [] = omega arith
count_bound (s ∷ slots) = by (is_free s) (count_bound slots)
  where
    by : (b : Bool) → free_count slots ≤ length slots → cond {A = ℕ} b 1 0 + free_count slots ≤ suc (length slots)
    by true h = omega (arith, h)
    by false h = omega (arith, h)

pub tells_free : (free : ℕ) (slots : List SlotState) → free ≡ free_count slots → not (nat_eq free 0) ≡ is_some (first_place is_free slots)
tells_free free [] h = rw h refl
tells_free free (s ∷ slots) h = by (is_free s) (tells_free (free_count slots) slots refl) h
  where
    next : (o : Option ℕ) → is_some (next_place o) ≡ is_some o
    next None = refl
    next (Some i) = refl

    by : (b : Bool) → not (nat_eq (free_count slots) 0) ≡ is_some (first_place is_free slots) → free ≡ cond {A = ℕ} b 1 0 + free_count slots → not (nat_eq free 0) ≡ is_some (cond b (Some 0) (next_place (first_place is_free slots)))
    by true e k = let n : free ≡ suc (free_count slots) = omega (arith, k) in rw (n, eqb-suc-zero (free_count slots)) refl
    by false e k = let n : free ≡ free_count slots = omega (arith, k) in rw n (e ∙ sym (next (first_place is_free slots)))

-- A table that is bound anew, slot by slot.
use Rattle.std.proofs.Common.{◌≡◌, ℕ, zero, suc, ◌+◌, ◌<◌, List, [], ◌∷◌, length, map, replicate, sym, refl, ap, ◌∙◌, arith, Option, None, Some}
use Rattle.std.specs.Prelude.{slice_set, slice_index_or}
use Rattle.std.proofs.lemmas.List.{length-replicate}
use Rattle.std.proofs.lemmas.Option.{none-some}
use Rattle.far_model.specs.View.{bind_key, unbound}
use Rattle.lookup_table.specs.Sound.{IsAlone, Nowhere}
use Rattle.lookup_table.specs.Table.{key_at}
use Rattle.lookup_table.proofs.Bound.{unbound_none}
use Rattle.switch_staged.specs.Fronts.{first_bound}
use Rattle.switch_staged.proofs.RowLaws.{one_of_replicate}

one_more : (k : ℕ) → suc k ≡ k + 1
one_more k = omega arith

pub first_length : (k : ℕ) (bound : List (Option (List ℕ))) → length (first_bound k bound) ≡ length bound
first_length zero bound = length-replicate (length bound) None
first_length (suc k) [] = refl
first_length (suc k) (b ∷ bs) = ap suc (first_length k bs)

pub all_bound : (bound : List (Option (List ℕ))) → first_bound (length bound) bound ≡ bound
all_bound [] = refl
all_bound (b ∷ bs) = ap (λ r. b ∷ r) (all_bound bs)

next_same : (n m : ℕ) → suc n ≡ suc m → n ≡ m
next_same n m e = omega (arith, e)

not_first : (n : ℕ) → 0 ≡ suc n → ⊥
not_first n e = omega (arith, e)

nowhere_yet : (key : List ℕ) (k : ℕ) (bound : List (Option (List ℕ))) → IsAlone key k bound → Nowhere key (first_bound k bound)
nowhere_yet key zero bound h = λ slot e. none-some key (sym (one_of_replicate (length bound) slot None) ∙ e)
nowhere_yet key (suc k) [] h = λ slot e. none-some key e
nowhere_yet key (suc k) (b ∷ bs) h = by (nowhere_yet key k bs (λ other q. next_same other k (h (suc other) q)))
  where
    by : Nowhere key (first_bound k bs) → (slot : ℕ) → key_at (b ∷ first_bound k bs) slot ≡ Some key → ⊥
    by rest zero e = not_first k (h 0 e)
    by rest (suc slot) e = rest slot e

set_next : (k : ℕ) (bound : List (Option (List ℕ))) (o : Option (List ℕ)) → k < length bound → slice_index_or bound k None ≡ o → slice_set (first_bound k bound) k o ≡ first_bound (suc k) bound
set_next k [] o b e = absurd (omega (arith, b))
set_next zero (x ∷ bs) o b e = ap (λ y. y ∷ replicate (length bs) None) (sym e)
set_next (suc k) (x ∷ bs) o b e = ap (λ r. x ∷ r) (set_next k bs o (grind (arith, b)) e)

-- the key of one more slot is bound
pub bound_more : (bound : List (Option (List ℕ))) (k : ℕ) (key : List ℕ) → k < length bound → slice_index_or bound k None ≡ Some key → IsAlone key k bound → bind_key key k (first_bound k bound) ≡ first_bound (k + 1) bound
bound_more bound k key b e alone =
    ap (λ xs. slice_set xs k (Some key)) (unbound_none key (first_bound k bound) (nowhere_yet key k bound alone))
    ∙ set_next k bound (Some key) b e
    ∙ ap (λ n. first_bound n bound) (one_more k)

free_next : (k : ℕ) (bound : List (Option (List ℕ))) → k < length bound → slice_index_or bound k None ≡ None → first_bound k bound ≡ first_bound (suc k) bound
free_next k [] b e = absurd (omega (arith, b))
free_next zero (x ∷ bs) b e = ap (λ y. y ∷ replicate (length bs) None) (sym e)
free_next (suc k) (x ∷ bs) b e = ap (λ r. x ∷ r) (free_next k bs (grind (arith, b)) e)

-- one more slot has no key
pub free_more : (bound : List (Option (List ℕ))) (k : ℕ) → k < length bound → slice_index_or bound k None ≡ None → first_bound k bound ≡ first_bound (k + 1) bound
free_more bound k b e = free_next k bound b e ∙ ap (λ n. first_bound n bound) (one_more k)

-- A table with no pairs is sound.
use Rattle.std.proofs.Common.{◌≡◌, ℕ, zero, suc, ◌*◌, ◌^◌, ◌<◌, Bool, false, List, [], replicate, refl, sym, subst, ap, ◌∙◌, arith, Option, None, Some}
use Rattle.std.specs.Prelude.{is_some}
use Rattle.std.specs.List.{count_by}
use Rattle.std.proofs.lemmas.List.{length-replicate}
use Rattle.std.proofs.lemmas.List.Folds.{sum_by-replicate}
use Rattle.std.proofs.lemmas.Option.{none-some}
use Rattle.lookup_table.specs.Sound.{IsSound, is_slot, times}
use Rattle.lookup_table.specs.Table.{bucket_count, key_at, no_pairs}

-- no slot has a key
none_there : (n slot : ℕ) → key_at (replicate n None) slot ≡ None
none_there zero slot = refl
none_there (suc n) zero = refl
none_there (suc n) (suc slot) = none_there n slot

pub none_keyed : (n slot : ℕ) (key : List ℕ) → key_at (replicate n None) slot ≡ Some key → ⊥
none_keyed n slot key e = absurd (none-some key (sym (none_there n slot) ∙ e))

none_counted : {X : Type 0} (p : Option X → Bool) (n : ℕ) → p None ≡ false → count_by p (replicate n None) ≡ 0
none_counted p n e = grind (arith, e, sum_by-replicate)

pub none_sound : (n : ℕ) → n < 2 ^ 32 → IsSound (no_pairs n)
none_sound n l =
    let none : Option ℕ = None in
    let unbound : Option (List ℕ) = None in
    let wide = length-replicate n unbound in
    record {
      few = subst (λ m. m < 2 ^ 32) (sym wide) l;
      size = length-replicate (4 * bucket_count n) none ∙ sym (ap (λ m. 4 * bucket_count m) wide);
      apart = λ i j key e f. absurd (none_keyed n i key e);
      once = λ slot. let cells = none_counted (is_slot slot) (4 * bucket_count n) refl in let key = ap times (none_there n slot) in omega (arith, cells, key);
      housed = λ c slot key e f. absurd (none_keyed n slot key f);
      full = λ c slot key b e k f. absurd (none_keyed n slot key f);
      filled = let cells = none_counted {X = ℕ} is_some (4 * bucket_count n) refl in let keys = none_counted {X = List ℕ} is_some n refl in omega (arith, cells, keys);
    }

-- so is one whose parts are those of it
pub empty_sound : (n : ℕ) (keys : List (Option (List ℕ))) (cells : List (Option ℕ)) (overflow : List ℕ) → n < 2 ^ 32 → keys ≡ replicate n None
    → cells ≡ replicate (4 * bucket_count n) None → overflow ≡ [] → IsSound (record { bound = keys; cells = cells; overflow = overflow })
empty_sound n keys cells overflow l k e o =
    subst (λ (bound : List (Option (List ℕ))). IsSound (record { bound = bound; cells = cells; overflow = overflow })) (sym k)
    (subst (λ (places : List (Option ℕ)). IsSound (record { bound = replicate n None; cells = places; overflow = overflow })) (sym e)
    (subst (λ (spilled : List ℕ). IsSound (record { bound = replicate n None; cells = replicate (4 * bucket_count n) None; overflow = spilled })) (sym o) (none_sound n l)))

-- A key's pair stands at its place, and nowhere else.
use Rattle.std.proofs.Common.{◌≡◌, ℕ, zero, suc, ◌+◌, ◌*◌, ◌/◌, ◌%◌, ◌<◌, ◌≤◌, true, ◌⊎◌, List, [], ◌∷◌, length, map, set, get_or, sym, refl, ap, ◌∙◌, inl, inr, arith, subst, Option, None, Some}
use Rattle.std.specs.Prelude.{eqb, sum, IsSome, IfSome, IsNone}
use Rattle.std.specs.List.{count_by}
use Rattle.std.proofs.lemmas.Bool.{eq-eqb, eqb-true}
use Rattle.std.proofs.lemmas.Grind.{common_steps}
use Rattle.std.proofs.lemmas.List.Quantifiers.{position-Some}
use Rattle.std.proofs.lemmas.Nat.{div-mul-add}
use Rattle.std.proofs.lemmas.Option.{none-some, slice_get-get_or, slice_get_within, get_or_from_slice_get}
use Rattle.far_model.specs.View.{bound_place, is_key_there, unbound}
use Rattle.lookup_table.specs.declared.place.Place.{Place}
use Rattle.lookup_table.specs.declared.place.Place.TheVariants.{Cell, Overflow}
use Rattle.lookup_table.specs.Table.{LookupView, bucket_count, bucket_in, bucket_cells, key_at, has_key, cell_with, overflow_with, cell_or_overflow, place_of}
use Rattle.lookup_table.specs.Binding.{refilled, refilled_in, slot_at, closed_up, spilled_of, unkeyed, dropped_at}
use Rattle.lookup_table.specs.Sound.{IsSound, IsPairAt, IsFull, IsAlone, Nowhere, held_at, is_slot, copies, times}
use Rattle.lookup_table.proofs.Bound.{there_is, is_there, place_is, unbound_one}
use Rattle.lookup_table.proofs.Counts.{counted_there, there_counted, none_passes, bucket_cell, bucket_length, within_four, unset_key}
use Rattle.lookup_table.proofs.Drops.{DropsCell, drops_overflow, frees_cell, refills_cell}

pub record Holding (key : List ℕ) (bound : List (Option (List ℕ))) (o : Option ℕ) : Type 0 where
  pub slot : ℕ
  pub is : o ≡ Some slot
  pub keyed : key_at bound slot ≡ Some key

holding : (key : List ℕ) (bound : List (Option (List ℕ))) (o : Option ℕ) → has_key key bound o ≡ true → Holding key bound o
holding key bound None e = absurd cc
holding key bound (Some x) e = record { slot = x; is = refl; keyed = there_is key (key_at bound x) e }

slot_there : (bound : List (Option (List ℕ))) (x : ℕ) (key : List ℕ) → key_at bound x ≡ Some key → x < length bound
slot_there [] x key e = absurd (none-some key e)
slot_there (b ∷ bs) zero key e = omega arith
slot_there (b ∷ bs) (suc x) key e = let l = slot_there bs x key e in omega (arith, l)

is_slot_is : (x : ℕ) (o : Option ℕ) → is_slot x o ≡ true → o ≡ Some x
is_slot_is x None e = absurd cc
is_slot_is x (Some y) e = ap Some (sym (eqb-true x y e))

in_four : (bucket cell : ℕ) → cell < 4 → (4 * bucket + cell) / 4 ≡ bucket
in_four bucket cell b = ap (λ n. n / 4) (let e : 4 * bucket + cell ≡ bucket * 4 + cell = omega arith in e) ∙ div-mul-add bucket 4 cell b

-- a slot with a key stands in a table once
one_copy : (t : LookupView) (x : ℕ) (key : List ℕ) → IsSound t → key_at t.bound x ≡ Some key → copies x t ≡ 1
one_copy t x key h e = h.once x ∙ ap times e

-- the bucket of a key that is there
bucket_there : (t : LookupView) (x : ℕ) (key : List ℕ) → IsSound t → key_at t.bound x ≡ Some key → 4 * bucket_in (length t.bound) key + 4 ≤ length t.cells
bucket_there t x key h e =
    let l = slot_there t.bound x key e in
    let some : 0 < bucket_count (length t.bound) = omega (arith, l) in
    let below : sum key % bucket_count (length t.bound) < bucket_count (length t.bound) = grind (arith, common_steps) in
    omega (arith, below, h.size)

full_bucket : (t : LookupView) (x : ℕ) (key : List ℕ) → IsSound t → key_at t.bound x ≡ Some key → 0 < count_by (eqb x) t.overflow → IsFull (bucket_in (length t.bound) key) t
full_bucket t x key h e m cell b = go (get_or t.cells (4 * bucket_in (length t.bound) key + cell) None) refl
  where
    go : (o : Option ℕ) → get_or t.cells (4 * bucket_in (length t.bound) key + cell) None ≡ o → IsSome o
    go (Some y) q = refl
    go None q = let l = bucket_there t x key h e in
        absurd (h.full (4 * bucket_in (length t.bound) key + cell) x key (omega (arith, l, b)) q m e (sym (in_four (bucket_in (length t.bound) key) cell b)))

-- what is found is the key's pair
pub pair_at : (key : List ℕ) (t : LookupView) (place : Place) → IsSound t → place_of key t ≡ Some place → IsPairAt key place t
pair_at key t place h e = go (cell_with key t) (overflow_with key t) refl refl e
  where
    bucket : ℕ
    bucket = bucket_in (length t.bound) key

    go : (c o : Option ℕ) → cell_with key t ≡ c → overflow_with key t ≡ o → cell_or_overflow (bucket_in (length t.bound) key) c o ≡ Some place → IsPairAt key place t
    go (Some c) o e f p =
        let found = position-Some (has_key key t.bound) (bucket_cells (bucket_in (length t.bound) key) t.cells) c None e in
        let four = within_four (bucket_in (length t.bound) key) c t.cells found.0 in
        let held = holding key t.bound (get_or (bucket_cells (bucket_in (length t.bound) key) t.cells) c None) found.1 in
        let is : Cell (bucket_in (length t.bound) key) c ≡ place = cc in
        subst (λ q. IsPairAt key q t) is (record {
          slot = held.slot;
          there = sym (bucket_cell (bucket_in (length t.bound) key) c t.cells four) ∙ held.is;
          keyed = held.keyed;
          fits = (refl, four);
        })
    go None (Some at) e f p =
        let found = position-Some (λ s. is_key_there key (key_at t.bound s)) t.overflow at 0 f in
        let keyed = there_is key (key_at t.bound (get_or t.overflow at 0)) found.1 in
        let is : Overflow at ≡ place = cc in
        subst (λ q. IsPairAt key q t) is (record {
          slot = get_or t.overflow at 0;
          there = slice_get-get_or t.overflow at 0 found.0;
          keyed = keyed;
          fits = full_bucket t (get_or t.overflow at 0) key h keyed (there_counted (eqb (get_or t.overflow at 0)) t.overflow at 0 found.0 (eq-eqb (get_or t.overflow at 0) (get_or t.overflow at 0) refl));
        })
    go None None e f p = absurd cc

-- where nothing is found no slot has the key
pub no_pair : (key : List ℕ) (t : LookupView) → IsSound t → place_of key t ≡ None → Nowhere key t.bound
no_pair key t h e x keyed = go (cell_with key t) (overflow_with key t) refl refl e
  where
    in_cell : cell_with key t ≡ None → 0 < count_by (is_slot x) t.cells → ⊥
    in_cell e m =
        let p = counted_there (is_slot x) t.cells None m in
        let is = is_slot_is x (get_or t.cells p.at None) p.passes in
        let home = h.housed p.at x key is keyed in
        let split : 4 * (p.at / 4) + p.at % 4 ≡ p.at = grind (arith, common_steps) in
        let four : p.at % 4 < 4 = grind (arith, common_steps) in
        let at_is : 4 * bucket_in (length t.bound) key + p.at % 4 ≡ p.at = ap (λ b. 4 * b + p.at % 4) home ∙ split in
        let long = bucket_length (bucket_in (length t.bound) key) t.cells (bucket_there t x key h keyed) in
        let fails = none_passes (has_key key t.bound) (bucket_cells (bucket_in (length t.bound) key) t.cells) (p.at % 4) None e (omega (arith, long, four)) in
        let content : get_or (bucket_cells (bucket_in (length t.bound) key) t.cells) (p.at % 4) None ≡ Some x =
        bucket_cell (bucket_in (length t.bound) key) (p.at % 4) t.cells four ∙ ap (λ n. get_or t.cells n None) at_is ∙ is in
        let passes : has_key key t.bound (get_or (bucket_cells (bucket_in (length t.bound) key) t.cells) (p.at % 4) None) ≡ true = ap (has_key key t.bound) content ∙ is_there key (key_at t.bound x) keyed in
        absurd cc

    in_list : overflow_with key t ≡ None → 0 < count_by (eqb x) t.overflow → ⊥
    in_list e m =
        let p = counted_there (eqb x) t.overflow 0 m in
        let is = eqb-true x (get_or t.overflow p.at 0) p.passes in
        let fails = none_passes (λ s. is_key_there key (key_at t.bound s)) t.overflow p.at 0 e p.within in
        let passes : is_key_there key (key_at t.bound (get_or t.overflow p.at 0)) ≡ true = is_there key (key_at t.bound (get_or t.overflow p.at 0)) (subst (λ y. key_at t.bound y ≡ Some key) is keyed) in
        absurd cc

    either : (a b : ℕ) → a + b ≡ 1 → (0 < a) ⊎ (0 < b)
    either zero b e = inr (omega (arith, e))
    either (suc a) b e = inl (omega arith)

    go : (c o : Option ℕ) → cell_with key t ≡ c → overflow_with key t ≡ o → cell_or_overflow (bucket_in (length t.bound) key) c o ≡ None → ⊥
    go (Some c) o e f p = absurd cc
    go None (Some at) e f p = absurd cc
    go None None e f p = elim (either (count_by (is_slot x) t.cells) (count_by (eqb x) t.overflow) (one_copy t x key h keyed)) [
      | inl m ↦ in_cell e m
      | inr m ↦ in_list f m
    ]

-- the slot at the place is the one that the key is bound to
pub place_holds : (key : List ℕ) (t : LookupView) (place : Place) → IsSound t → IsPairAt key place t → held_at place t ≡ bound_place key t.bound
place_holds key t place h p = p.there ∙ sym (place_is key t.bound p.slot p.keyed (λ j e. h.apart j p.slot key e p.keyed))

-- ---- a drop

pub record IsDropped (key : List ℕ) (t u : LookupView) : Type 0 where
  pub sound : IsSound u
  pub bound : u.bound ≡ map (unbound key) t.bound
  pub gone : Nowhere key u.bound

gone_from : (key : List ℕ) (t : LookupView) (s : ℕ) → IsSound t → key_at t.bound s ≡ Some key → Nowhere key (set t.bound s None)
gone_from key t s h keyed j e = let other = unset_key t.bound s j key key keyed e in other.0 (h.apart j s key other.1 keyed)

bound_is : (key : List ℕ) (t : LookupView) (s : ℕ) → IsSound t → key_at t.bound s ≡ Some key → set t.bound s None ≡ map (unbound key) t.bound
bound_is key t s h keyed = sym (unbound_one key t.bound s keyed (λ j e. h.apart j s key e keyed))

pub drops : (key : List ℕ) (t : LookupView) (place : Place) → IsSound t → IsPairAt key place t → IsDropped key t (dropped_at (Some place) t)
drops key t (Overflow at) h p =
    let b = slice_get_within t.overflow at p.slot p.there in
    let is = get_or_from_slice_get t.overflow at p.slot 0 p.there in
    let keyed : key_at t.bound (get_or t.overflow at 0) ≡ Some key = subst (λ y. key_at t.bound y ≡ Some key) (sym is) p.keyed in
    record {
      sound = drops_overflow t at (get_or t.overflow at 0) key h b refl keyed;
      bound = bound_is key t (get_or t.overflow at 0) h keyed;
      gone = gone_from key t (get_or t.overflow at 0) h keyed;
    }
drops key t (Cell bucket cell) h p =
    subst (λ o. IsDropped key t (refilled_in bucket (4 * bucket + cell) (unkeyed o t))) (sym p.there) (go (spilled_of bucket (record t { bound = set t.bound p.slot None })) refl)
  where
    within : (cells : List (Option ℕ)) (i x : ℕ) → get_or cells i None ≡ Some x → i < length cells
    within [] i x e = absurd (none-some x e)
    within (c ∷ cs) zero x e = omega arith
    within (c ∷ cs) (suc i) x e = let b = within cs i x e in omega (arith, b)

    d : DropsCell t (4 * bucket + cell) p.slot key
    d = record { sound = h; within = within t.cells (4 * bucket + cell) p.slot p.there; there = p.there; keyed = p.keyed }

    home : (4 * bucket + cell) / 4 ≡ bucket
    home = in_four bucket cell p.fits.1

    go : (o : Option ℕ) → spilled_of bucket (record t { bound = set t.bound p.slot None }) ≡ o
        → IsDropped key t (refilled (4 * bucket + cell) (spilled_of bucket (record t { bound = set t.bound p.slot None })) (record t { bound = set t.bound p.slot None }))
    go None e = subst (λ o. IsDropped key t (refilled (4 * bucket + cell) o (record t { bound = set t.bound p.slot None }))) (sym e) (record {
      sound = frees_cell t (4 * bucket + cell) p.slot key d (ap (λ b. spilled_of b (record t { bound = set t.bound p.slot None })) home ∙ e);
      bound = bound_is key t p.slot h p.keyed;
      gone = gone_from key t p.slot h p.keyed;
    })
    go (Some q) e = subst (λ o. IsDropped key t (refilled (4 * bucket + cell) o (record t { bound = set t.bound p.slot None }))) (sym e) (record {
      sound = refills_cell t (4 * bucket + cell) p.slot q key d (ap (λ b. spilled_of b (record t { bound = set t.bound p.slot None })) home ∙ e);
      bound = bound_is key t p.slot h p.keyed;
      gone = gone_from key t p.slot h p.keyed;
    })

-- ---- what the calls answer

pub found_pair : (key : List ℕ) (t : LookupView) (o : Option Place) → IsSound t → o ≡ place_of key t → IfSome o (λ place. IsPairAt key place t)
found_pair key t None h e = tt
found_pair key t (Some place) h e = pair_at key t place h (sym e)

pub found_none : (key : List ℕ) (t : LookupView) (o : Option Place) → IsSound t → o ≡ place_of key t → IsNone o → Nowhere key t.bound
found_none key t None h e n = no_pair key t h (sym e)
found_none key t (Some place) h e n = absurd cc

pub found_held : (key : List ℕ) (t : LookupView) (o : Option Place) → IsSound t → o ≡ place_of key t → IfSome o (λ place. held_at place t ≡ bound_place key t.bound)
found_held key t None h e = tt
found_held key t (Some place) h e = place_holds key t place h (pair_at key t place h (sym e))

pub alone : (t : LookupView) (slot : ℕ) (o : Option (List ℕ)) → IsSound t → o ≡ key_at t.bound slot → IfSome o (λ key. IsAlone key slot t.bound)
alone t slot None h e = tt
alone t slot (Some key) h e = λ other f. h.apart other slot key f (sym e)

-- the fields after a drop from a cell
pub cell_dropped : (t : LookupView) (bucket cell s : ℕ) (spilled content : Option ℕ) (rest : List ℕ) → get_or t.cells (4 * bucket + cell) None ≡ Some s
    → spilled ≡ spilled_of bucket (record t { bound = set t.bound s None }) → content ≡ slot_at spilled t.overflow → rest ≡ closed_up spilled t.overflow
    → record t { bound = set t.bound s None; cells = set t.cells (4 * bucket + cell) content; overflow = rest } ≡ dropped_at (Some (Cell bucket cell)) t
cell_dropped t bucket cell s spilled content rest there e f g =
    subst (λ o. record t { bound = set t.bound s None; cells = set t.cells (4 * bucket + cell) content; overflow = rest } ≡ refilled_in bucket (4 * bucket + cell) (unkeyed o t)) (sym there)
    (subst (λ o. record t { bound = set t.bound s None; cells = set t.cells (4 * bucket + cell) content; overflow = rest } ≡ refilled (4 * bucket + cell) o (record t { bound = set t.bound s None })) e
    (ap (λ o. record t { bound = set t.bound s None; cells = set t.cells (4 * bucket + cell) o; overflow = rest }) f
    ∙ ap (λ xs. record t { bound = set t.bound s None; cells = set t.cells (4 * bucket + cell) (slot_at spilled t.overflow); overflow = xs }) g))

pub slot_inside : (key : List ℕ) (bound : List (Option (List ℕ))) (x : ℕ) → key_at bound x ≡ Some key → x < length bound
slot_inside key bound x e = slot_there bound x key e

-- a slot that has the key is the one that is bound to it
pub keyed_is_bound : (key : List ℕ) (t : LookupView) (slot : ℕ) → IsSound t → key_at t.bound slot ≡ Some key → Some slot ≡ bound_place key t.bound
keyed_is_bound key t slot h e = sym (place_is key t.bound slot e (λ other f. h.apart other slot key f e))

-- Places are of one key each, and those of the overflow list are without a gap.
use Rattle.std.proofs.Common.{◌≡◌, ℕ, zero, suc, ◌+◌, ◌<◌, true, List, [], ◌∷◌, length, get_or, sym, refl, ap, ◌∙◌, arith, Option, None, Some}
use Rattle.std.specs.Prelude.{eqb}
use Rattle.std.specs.List.{count_by}
use Rattle.std.proofs.lemmas.Bool.{eq-eqb}
use Rattle.std.proofs.lemmas.Option.{none-some, slice_get_within, get_or_from_slice_get}
use Rattle.lookup_table.specs.declared.place.Place.{Place}
use Rattle.lookup_table.specs.declared.place.Place.TheVariants.{Cell, Overflow}
use Rattle.lookup_table.specs.Table.{LookupView, key_at, place_of}
use Rattle.lookup_table.specs.Sound.{IsSound, IsPairAt, IsOwn, IsPacked, is_slot, times}
use Rattle.lookup_table.proofs.Counts.{there_counted, twice_counted}
use Rattle.lookup_table.proofs.Places.{pair_at, no_pair}

some_same : {A : Type 0} (x y : A) → Some x ≡ Some y → x ≡ y
some_same x y e = cc

pub own : (key : List ℕ) (t : LookupView) (o : Option Place) → IsSound t → o ≡ place_of key t → IsOwn key o t
own key t None h e = tt
own key t (Some place) h e = λ other f.
    let p = pair_at key t place h (sym e) in
    let q = pair_at other t place h f in
    let same : q.slot ≡ p.slot = some_same q.slot p.slot (sym q.there ∙ p.there) in
    some_same other key (sym q.keyed ∙ ap (key_at t.bound) same ∙ p.keyed)

cell_inside : (cells : List (Option ℕ)) (i x : ℕ) → get_or cells i None ≡ Some x → i < length cells
cell_inside [] i x e = absurd (none-some x e)
cell_inside (c ∷ cs) zero x e = omega arith
cell_inside (c ∷ cs) (suc i) x e = let b = cell_inside cs i x e in omega (arith, b)

place_at : (t : LookupView) (i : ℕ) (key : List ℕ) → IsSound t → i < length t.overflow → key_at t.bound (get_or t.overflow i 0) ≡ Some key → place_of key t ≡ Some (Overflow i)
place_at t i key h b keyed = go (place_of key t) refl
  where
    x : ℕ
    x = get_or t.overflow i 0

    counted : 0 < count_by (eqb x) t.overflow
    counted = there_counted (eqb x) t.overflow i 0 b (eq-eqb x x refl)

    once : count_by (is_slot x) t.cells + count_by (eqb x) t.overflow ≡ 1
    once = h.once x ∙ ap times keyed

    at : (place : Place) → IsPairAt key place t → Some place ≡ Some (Overflow i)
    at (Cell bucket cell) p =
        let there : get_or t.cells _ None ≡ Some x = p.there ∙ ap Some (h.apart p.slot x key p.keyed keyed) in
        let also = there_counted (is_slot x) t.cells _ None (cell_inside t.cells _ x there) (ap (is_slot x) there ∙ eq-eqb x x refl) in
        absurd (omega (arith, also, counted, once))
    at (Overflow j) p =
        let within = slice_get_within t.overflow j p.slot p.there in
        let is : get_or t.overflow j 0 ≡ x = get_or_from_slice_get t.overflow j p.slot 0 p.there ∙ h.apart p.slot x key p.keyed keyed in
        let passes : eqb x (get_or t.overflow j 0) ≡ true = eq-eqb x (get_or t.overflow j 0) (sym is) in
        let own_passes : eqb x (get_or t.overflow i 0) ≡ true = eq-eqb x x refl in
        let not_below : i < j → ⊥ = λ l. let two = twice_counted (eqb x) t.overflow i j 0 l within own_passes passes in absurd (omega (arith, two, once)) in
        let not_above : j < i → ⊥ = λ l. let two = twice_counted (eqb x) t.overflow j i 0 l b passes own_passes in absurd (omega (arith, two, once)) in
        ap (λ n. Some (Overflow n)) (grind (arith, not_below, not_above))

    go : (o : Option Place) → place_of key t ≡ o → o ≡ Some (Overflow i)
    go None e = absurd (no_pair key t h e x keyed)
    go (Some place) e = at place (pair_at key t place h e)

keyed_there : (t : LookupView) (i : ℕ) → IsSound t → i < length t.overflow → (key : List ℕ) × (key_at t.bound (get_or t.overflow i 0) ≡ Some key)
keyed_there t i h b = go (key_at t.bound (get_or t.overflow i 0)) refl
  where
    go : (o : Option (List ℕ)) → key_at t.bound (get_or t.overflow i 0) ≡ o → (key : List ℕ) × (key_at t.bound (get_or t.overflow i 0) ≡ Some key)
    go (Some key) e = (key, e)
    go None e =
        let counted = there_counted (eqb (get_or t.overflow i 0)) t.overflow i 0 b (eq-eqb (get_or t.overflow i 0) (get_or t.overflow i 0) refl) in
        let none = h.once (get_or t.overflow i 0) ∙ ap times e in
        absurd (omega (arith, counted, none))

pub packed : (key : List ℕ) (t : LookupView) (o : Option Place) → IsSound t → o ≡ place_of key t → IsPacked o t
packed key t None h e = tt
packed key t (Some (Cell bucket cell)) h e = tt
packed key t (Some (Overflow at)) h e = λ i b.
    let p = pair_at key t (Overflow at) h (sym e) in
    let l = slice_get_within t.overflow at p.slot p.there in
    let inside : i < length t.overflow = omega (arith, b, l) in
    let k = keyed_there t i h inside in
    (k.0, place_at t i k.0 h inside k.1)

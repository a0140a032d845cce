-- The loop over the arrays of the bodies, one array further.
use Rattle.std.proofs.Common.{◌≡◌, ℕ, zero, suc, ◌+◌, ◌*◌, ◌<◌, ◌≤◌, Bool, true, false, List, [], ◌∷◌, ◌++◌, length, map, take, drop, replicate, sym, refl, ap, ◌∙◌, subst, arith, rules, Option, None, Some}
use Rattle.std.specs.Prelude.{slice_set, slice_index_or, nat_lt}
use Rattle.std.proofs.lemmas.Bool.Decides.{nat_tests}
use Rattle.std.proofs.lemmas.List.{take_more, take_more_set, append_assoc, length-set, drop_more, map-set, length-map, map-append, replicate-append-replicate, take_all}
use Rattle.register_stages.specs.declared.array.RegArray.{RegArray}
use Rattle.register_stages.specs.Arrays.{cells_of, place_of}
use Rattle.switch_staged.specs.declared.flight.Course.{Course}
use Rattle.switch_staged.specs.Stages.{InReach, IsPart, PlaceBelow, all_cells, array_at, array_after, carry_at, carried, arrays_after, carried_all, cell_after, token_behind}
use Rattle.switch_staged.specs.Rows.{zero_cell}

one_more : (k : ℕ) → k + 1 ≡ suc k
one_more k = omega arith

suc_drop_set : {T : Type 0} (k : ℕ) (xs : List T) (y : T) → drop (suc k) (slice_set xs k y) ≡ drop (suc k) xs
suc_drop_set zero [] y = refl
suc_drop_set (suc k) [] y = refl
suc_drop_set zero (x ∷ xs) y = refl
suc_drop_set (suc k) (x ∷ xs) y = suc_drop_set k xs y

pub drop_set : {T : Type 0} (k : ℕ) (xs : List T) (y : T) → drop (k + 1) (slice_set xs k y) ≡ drop (k + 1) xs
drop_set k xs y = ap (λ n. drop n (slice_set xs k y)) (one_more k) ∙ suc_drop_set k xs y ∙ ap (λ n. drop n xs) (sym (one_more k))

pub part_place : (first slots : ℕ) (arrays : List (RegArray (List ℕ))) (k : ℕ) (d : RegArray (List ℕ)) → IsPart first slots arrays → k < length arrays → place_of (slice_index_or arrays k d) ≡ first + k
part_place first slots [] k d p b = absurd (omega (arith, b))
part_place first slots (a ∷ rest) zero d p b = omega (arith, p.0)
part_place first slots (a ∷ rest) (suc k) d p b = omega (arith, part_place (suc first) slots rest k d p.2 (grind (arith, b)))

pub behind_next : (first k token t place : ℕ) → place ≡ first + k → t ≡ place + 1 → t ≡ token_behind (k + 1) first token
behind_next first k token t place p e =
    let b : nat_lt 0 (k + 1) ≡ true = grind (arith, nat_tests) in
    let n : t ≡ first + (k + 1) = omega (arith, p, e) in
    rw b n

pub part_slots : (first slots : ℕ) (arrays : List (RegArray (List ℕ))) (k : ℕ) (d : RegArray (List ℕ)) → IsPart first slots arrays → k < length arrays → length (cells_of (slice_index_or arrays k d)) ≡ slots
part_slots first slots [] k d p b = absurd (omega (arith, b))
part_slots first slots (a ∷ rest) zero d p b = p.1
part_slots first slots (a ∷ rest) (suc k) d p b = part_slots (suc first) slots rest k d p.2 (grind (arith, b))

pub part_set : (first slots : ℕ) (arrays : List (RegArray (List ℕ))) (k : ℕ) (a : RegArray (List ℕ)) → IsPart first slots arrays → place_of a ≡ first + k → length (cells_of a) ≡ slots → IsPart first slots (slice_set arrays k a)
part_set first slots [] k a p e l = p
part_set first slots (b ∷ rest) zero a p e l = (omega (arith, e), l, p.2)
part_set first slots (b ∷ rest) (suc k) a p e l = (p.0, p.1, part_set (suc first) slots rest k a p.2 (omega (arith, e)) l)

pub in_reach : (place : Option ℕ) (slots : ℕ) (cells : List (List ℕ)) → PlaceBelow place slots → length cells ≡ slots → InReach place cells
in_reach None slots cells p l = tt
in_reach (Some i) slots cells p l = subst (λ n. i < n) (sym l) p

pub array_length : (place : Option ℕ) (at : ℕ) (array : List (List ℕ)) (f : Course) → length (array_at place at array f) ≡ length array
array_length None at array f = refl
array_length (Some i) at array f = length-set _ _ _

pub carry_place : (place : Option ℕ) (at : ℕ) (array : List (List ℕ)) (f : Course) → (carry_at place at array f).place ≡ f.place
carry_place None at array f = refl
carry_place (Some i) at array f = refl

pub carry_act : (place : Option ℕ) (at : ℕ) (array : List (List ℕ)) (f : Course) → (carry_at place at array f).act ≡ f.act
carry_act None at array f = refl
carry_act (Some i) at array f = refl

pub get_map : (arrays : List (RegArray (List ℕ))) (k : ℕ) (d : RegArray (List ℕ)) → k < length arrays → slice_index_or (all_cells arrays) k [] ≡ cells_of (slice_index_or arrays k d)
get_map [] k d b = absurd (omega (arith, b))
get_map (a ∷ rest) zero d b = refl
get_map (a ∷ rest) (suc k) d b = get_map rest k d (grind (arith, b))

pub all_length : (arrays : List (RegArray (List ℕ))) → length (all_cells arrays) ≡ length arrays
all_length [] = refl
all_length (a ∷ rest) = ap suc (all_length rest)

next_at : (first k : ℕ) → first + (k + 1) ≡ suc (first + k)
next_at first k = omega arith

pub cells_step : (first k : ℕ) (arrays : List (RegArray (List ℕ))) (d a : RegArray (List ℕ)) (f after : Course) → k < length arrays
    → cells_of a ≡ array_after (first + k) (cells_of (slice_index_or arrays k d)) f → after ≡ carried (first + k) (cells_of (slice_index_or arrays k d)) f
    → take (k + 1) (all_cells (slice_set arrays k a)) ++ arrays_after (first + (k + 1)) (drop (k + 1) (all_cells (slice_set arrays k a))) after ≡ take k (all_cells arrays) ++ arrays_after (first + k) (drop k (all_cells arrays)) f
cells_step first k arrays d a f after b e g =
    let n : k < length (all_cells arrays) = subst (λ m. k < m) (sym (all_length arrays)) b in
    let at : slice_index_or (all_cells arrays) k [] ≡ cells_of (slice_index_or arrays k d) = get_map arrays k d b in
    let split : drop k (all_cells arrays) ≡ cells_of (slice_index_or arrays k d) ∷ drop (k + 1) (all_cells arrays) =
    drop_more (all_cells arrays) k [] n ∙ ap (λ r. r ∷ drop (k + 1) (all_cells arrays)) at in
    let set : all_cells (slice_set arrays k a) ≡ slice_set (all_cells arrays) k (cells_of a) = map-set cells_of arrays k a in
    ap (λ r. take (k + 1) r ++ arrays_after (first + (k + 1)) (drop (k + 1) r) after) set
    ∙ ap (λ r. r ++ arrays_after (first + (k + 1)) (drop (k + 1) (slice_set (all_cells arrays) k (cells_of a))) after) (take_more_set (all_cells arrays) k (cells_of a) n)
    ∙ append_assoc (take k (all_cells arrays)) (cells_of a ∷ []) _
    ∙ ap (λ r. take k (all_cells arrays) ++ (cells_of a ∷ arrays_after (first + (k + 1)) r after)) (drop_set k (all_cells arrays) (cells_of a))
    ∙ ap (λ m. take k (all_cells arrays) ++ (cells_of a ∷ arrays_after m (drop (k + 1) (all_cells arrays)) after)) (next_at first k)
    ∙ ap (λ x. take k (all_cells arrays) ++ (x ∷ arrays_after (suc (first + k)) (drop (k + 1) (all_cells arrays)) after)) e
    ∙ ap (λ x. take k (all_cells arrays) ++ (array_after (first + k) (cells_of (slice_index_or arrays k d)) f ∷ arrays_after (suc (first + k)) (drop (k + 1) (all_cells arrays)) x)) g
    ∙ ap (λ r. take k (all_cells arrays) ++ arrays_after (first + k) r f) (sym split)

pub flight_step : (first k : ℕ) (arrays : List (RegArray (List ℕ))) (d a : RegArray (List ℕ)) (f after : Course) → k < length arrays
    → after ≡ carried (first + k) (cells_of (slice_index_or arrays k d)) f
    → carried_all (first + (k + 1)) (drop (k + 1) (all_cells (slice_set arrays k a))) after ≡ carried_all (first + k) (drop k (all_cells arrays)) f
flight_step first k arrays d a f after b g =
    let n : k < length (all_cells arrays) = subst (λ m. k < m) (sym (all_length arrays)) b in
    let split : drop k (all_cells arrays) ≡ cells_of (slice_index_or arrays k d) ∷ drop (k + 1) (all_cells arrays) =
    drop_more (all_cells arrays) k [] n ∙ ap (λ r. r ∷ drop (k + 1) (all_cells arrays)) (get_map arrays k d b) in
    ap (λ r. carried_all (first + (k + 1)) (drop (k + 1) r) after) (map-set cells_of arrays k a)
    ∙ ap (λ r. carried_all (first + (k + 1)) r after) (drop_set k (all_cells arrays) (cells_of a))
    ∙ ap (λ m. carried_all m (drop (k + 1) (all_cells arrays)) after) (next_at first k)
    ∙ ap (carried_all (suc (first + k)) (drop (k + 1) (all_cells arrays))) g
    ∙ ap (λ r. carried_all (first + k) r f) (sym split)

-- one more array is as the one that it is a copy of
pub copy_more : (k : ℕ) (copy arrays : List (RegArray (List ℕ))) (d a : RegArray (List ℕ)) → k < length arrays → all_cells copy ≡ take k (all_cells arrays) → cells_of a ≡ cells_of (slice_index_or arrays k d)
    → all_cells (copy ++ a ∷ []) ≡ take (k + 1) (all_cells arrays)
copy_more k copy arrays d a b h e =
    map-append cells_of copy (a ∷ [])
    ∙ ap (λ r. r ++ cells_of a ∷ []) h
    ∙ ap (λ c. take k (all_cells arrays) ++ c ∷ []) (e ∙ sym (get_map arrays k d b))
    ∙ sym (take_more (all_cells arrays) k [] (subst (λ m. k < m) (sym (all_length arrays)) b))

pub part_more : (first slots : ℕ) (arrays : List (RegArray (List ℕ))) (a : RegArray (List ℕ)) → IsPart first slots arrays → place_of a ≡ first + length arrays → length (cells_of a) ≡ slots → IsPart first slots (arrays ++ a ∷ [])
part_more first slots [] a p e l = (omega (arith, e), l, tt)
part_more first slots (b ∷ rest) a p e l = (p.0, p.1, part_more (suc first) slots rest a p.2 (omega (arith, e)) l)

-- one more array is as the others
pub blank_more : (k : ℕ) (arrays : List (RegArray (List ℕ))) (a : RegArray (List ℕ)) (z : List (List ℕ)) → all_cells arrays ≡ replicate k z → cells_of a ≡ z → all_cells (arrays ++ a ∷ []) ≡ replicate (k + 1) z
blank_more k arrays a z h e =
    map-append cells_of arrays (a ∷ [])
    ∙ ap (λ r. r ++ cells_of a ∷ []) h
    ∙ ap (λ c. replicate k z ++ c ∷ []) e
    ∙ replicate-append-replicate k 1 z

pub blank_set : (k : ℕ) (arrays : List (RegArray (List ℕ))) (a : RegArray (List ℕ)) (z : List (List ℕ)) → k < length arrays → take k (all_cells arrays) ≡ replicate k z → cells_of a ≡ z → take (k + 1) (all_cells (slice_set arrays k a)) ≡ replicate (k + 1) z
blank_set k arrays a z b h e =
    ap (take (k + 1)) (map-set cells_of arrays k a)
    ∙ take_more_set (all_cells arrays) k (cells_of a) (subst (λ m. k < m) (sym (all_length arrays)) b)
    ∙ ap (λ r. r ++ cells_of a ∷ []) h
    ∙ ap (λ c. replicate k z ++ c ∷ []) e
    ∙ replicate-append-replicate k 1 z

pub blank_all : (k n : ℕ) (arrays : List (RegArray (List ℕ))) (z : List (List ℕ)) → length arrays ≡ n → k ≡ n → take k (all_cells arrays) ≡ replicate k z → all_cells arrays ≡ replicate n z
blank_all k n arrays z l e h =
    sym (take_all k (all_cells arrays) (omega (arith, l, e, all_length arrays))) ∙ h ∙ ap (λ m. replicate m z) e

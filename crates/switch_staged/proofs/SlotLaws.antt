-- What a flight through the stages of one slot leaves.
use Rattle.std.proofs.Common.{◌≡◌, ℕ, zero, suc, ◌+◌, ◌*◌, ◌<◌, ◌≤◌, Bool, true, false, List, [], ◌∷◌, ◌++◌, length, map, take, drop, sym, refl, ap, ◌∙◌, subst, arith, rules, Option, None, Some}
use Rattle.std.specs.Prelude.{slice_set, slice_index_or, if◌then◌else◌}
use Rattle.std.proofs.lemmas.List.{append_assoc, append-nil, length-set}
use Rattle.switch_staged.specs.declared.cells.Head.{Head}
use Rattle.switch_staged.specs.declared.flight.Course.{Course}
use Rattle.switch_staged.specs.Heads.{writes}
use Rattle.switch_staged.specs.Stages.{array_at, array_after, carry_at, carried, arrays_after, carried_all, cell_after}
use Rattle.switch_staged.specs.Rows.{zero_cell, row, with_row, joined, all_bytes, beside, AreFull}
use Rattle.switch_staged.specs.Whole.{slots_of}
use Rattle.switch_staged.specs.Emits.{slot_of}
use Rattle.switch_staged.proofs.RowLaws.{beside_set, beside_get, bytes_length, bytes_of_row, row_sets_bytes}

pub set_same : {T : Type 0} (xs : List T) (i : ℕ) (d : T) → slice_set xs i (slice_index_or xs i d) ≡ xs
set_same [] i d = refl
set_same (x ∷ xs) zero d = refl
set_same (x ∷ xs) (suc i) d = ap (λ r. x ∷ r) (set_same xs i d)

pub set_middle : {T : Type 0} (done : List T) (c x : T) (rest : List T) → slice_set (done ++ (c ∷ rest)) (length done) x ≡ (done ++ x ∷ []) ++ rest
set_middle [] c x rest = refl
set_middle (d ∷ done) c x rest = ap (λ r. d ∷ r) (set_middle done c x rest)

get_middle : {T : Type 0} (done : List T) (c d : T) (rest : List T) → slice_index_or (done ++ (c ∷ rest)) (length done) d ≡ c
get_middle [] c d rest = refl
get_middle (x ∷ done) c d rest = get_middle done c d rest

length_more : {T : Type 0} (done : List T) (x : T) → length (done ++ x ∷ []) ≡ suc (length done)
length_more [] x = refl
length_more (d ∷ done) x = ap suc (length_more done x)

-- the flight carries the old row away
pub carries_row : (i at : ℕ) (done todo : List (List ℕ)) (arrays : List (List (List ℕ))) (f : Course) → f.place ≡ Some i → f.cells ≡ done ++ todo → length done ≡ at → length todo ≡ length arrays
    → carried_all at arrays f ≡ record f { cells = done ++ row i arrays }
carries_row i at done [] [] f p e n l = ap (λ cells. record f { cells = cells }) e
carries_row i at done (c ∷ todo) [] f p e n l = absurd (omega (arith, l))
carries_row i at done [] (a ∷ arrays) f p e n l = absurd (omega (arith, l))
carries_row i at done (c ∷ todo) (a ∷ arrays) f p e n l =
    let x = slice_index_or a i zero_cell in
    let cells : slice_set f.cells at x ≡ (done ++ x ∷ []) ++ todo = ap (λ r. slice_set r at x) e ∙ ap (λ m. slice_set (done ++ (c ∷ todo)) m x) (sym n) ∙ set_middle done c x todo in
    let one : carried at a f ≡ record f { cells = slice_set f.cells at x } = ap (λ q. carry_at q at a f) p in
    ap (carried_all (suc at) arrays) one
    ∙ carries_row i (suc at) (done ++ x ∷ []) todo arrays (record f { cells = slice_set f.cells at x }) p cells (length_more done x ∙ ap suc n) (grind (arith, l))
    ∙ ap (λ r. record f { cells = r }) (append_assoc done (x ∷ []) (row i arrays))

-- the new row is written
pub writes_row : (i at : ℕ) (done todo : List (List ℕ)) (arrays : List (List (List ℕ))) (f : Course) → f.place ≡ Some i → writes f.act ≡ true → f.cells ≡ done ++ todo → length done ≡ at → length todo ≡ length arrays
    → arrays_after at arrays f ≡ with_row i arrays todo
unfolding cell_after
writes_row i at done [] [] f p w e n l = refl
writes_row i at done (c ∷ todo) [] f p w e n l = absurd (omega (arith, l))
writes_row i at done [] (a ∷ arrays) f p w e n l = absurd (omega (arith, l))
writes_row i at done (c ∷ todo) (a ∷ arrays) f p w e n l =
    let x = slice_index_or a i zero_cell in
    let cells : slice_set f.cells at x ≡ (done ++ x ∷ []) ++ todo = ap (λ r. slice_set r at x) e ∙ ap (λ m. slice_set (done ++ (c ∷ todo)) m x) (sym n) ∙ set_middle done c x todo in
    let one : carried at a f ≡ record f { cells = slice_set f.cells at x } = ap (λ q. carry_at q at a f) p in
    let new : cell_after at f x ≡ c = ap (λ b. if b then slice_index_or f.cells at zero_cell else x) w ∙ ap (λ r. slice_index_or r at zero_cell) e ∙ ap (λ m. slice_index_or (done ++ (c ∷ todo)) m zero_cell) (sym n) ∙ get_middle done c zero_cell todo in
    ap (λ r. array_after at a f ∷ arrays_after (suc at) arrays r) one
    ∙ ap (λ r. array_after at a f ∷ r) (writes_row i (suc at) (done ++ x ∷ []) todo arrays (record f { cells = slice_set f.cells at x }) p w cells (length_more done x ∙ ap suc n) (grind (arith, l)))
    ∙ ap (λ r. r ∷ with_row i arrays todo) (ap (λ q. array_at q at a f) p ∙ ap (slice_set a i) new)

-- nothing is written
pub keeps_row : (i at : ℕ) (arrays : List (List (List ℕ))) (f : Course) → f.place ≡ Some i → writes f.act ≡ false → arrays_after at arrays f ≡ arrays
unfolding cell_after
keeps_row i at [] f p w = refl
keeps_row i at (a ∷ arrays) f p w =
    let x = slice_index_or a i zero_cell in
    let one : carried at a f ≡ record f { cells = slice_set f.cells at x } = ap (λ q. carry_at q at a f) p in
    let new : cell_after at f x ≡ x = ap (λ b. if b then slice_index_or f.cells at zero_cell else x) w in
    ap (λ r. array_after at a f ∷ arrays_after (suc at) arrays r) one
    ∙ ap (λ r. array_after at a f ∷ r) (keeps_row i (suc at) arrays (record f { cells = slice_set f.cells at x }) p w)
    ∙ ap (λ r. r ∷ arrays) (ap (λ q. array_at q at a f) p ∙ ap (slice_set a i) new ∙ set_same a i zero_cell)

pub carries_nothing : (at : ℕ) (arrays : List (List (List ℕ))) (f : Course) → f.place ≡ None → carried_all at arrays f ≡ f
carries_nothing at [] f p = refl
carries_nothing at (a ∷ arrays) f p = ap (carried_all (suc at) arrays) (ap (λ q. carry_at q at a f) p) ∙ carries_nothing (suc at) arrays f p

pub writes_nothing : (at : ℕ) (arrays : List (List (List ℕ))) (f : Course) → f.place ≡ None → arrays_after at arrays f ≡ arrays
writes_nothing at [] f p = refl
writes_nothing at (a ∷ arrays) f p =
    ap (λ r. array_after at a f ∷ arrays_after (suc at) arrays r) (ap (λ q. carry_at q at a f) p)
    ∙ ap (λ r. array_after at a f ∷ r) (writes_nothing (suc at) arrays f p)
    ∙ ap (λ q. array_at q at a f ∷ arrays) p

-- a slot of the view
pub slot_is : (n i : ℕ) (heads : List Head) (arrays : List (List (List ℕ))) (d : Head) (e : _) → length heads ≡ n → AreFull n arrays → i < n
    → slice_index_or (slots_of n heads arrays) i e ≡ slot_of (slice_index_or heads i d) (joined (row i arrays))
slot_is n i heads arrays d e h full b =
    beside_get slot_of heads (all_bytes n arrays) i d [] e (subst (λ m. i < m) (sym h) b) (subst (λ m. i < m) (sym (bytes_length n arrays full)) b)
    ∙ ap (slot_of (slice_index_or heads i d)) (bytes_of_row n i arrays full b)

-- a slot whose head and cells are set
pub slot_sets : (n i : ℕ) (heads : List Head) (arrays : List (List (List ℕ))) (h : Head) (cells : List (List ℕ)) → length cells ≡ length arrays → AreFull n arrays
    → slots_of n (slice_set heads i h) (with_row i arrays cells) ≡ slice_set (slots_of n heads arrays) i (slot_of h (joined cells))
slot_sets n i heads arrays h cells l full =
    ap (beside slot_of (slice_set heads i h)) (row_sets_bytes n i arrays cells l full)
    ∙ beside_set slot_of heads (all_bytes n arrays) i h (joined cells)

-- a slot whose head alone is set
pub slot_heads : (n i : ℕ) (heads : List Head) (arrays : List (List (List ℕ))) (h : Head) → AreFull n arrays → i < n
    → slots_of n (slice_set heads i h) arrays ≡ slice_set (slots_of n heads arrays) i (slot_of h (joined (row i arrays)))
slot_heads n i heads arrays h full b =
    ap (beside slot_of (slice_set heads i h)) (sym (set_same (all_bytes n arrays) i []))
    ∙ beside_set slot_of heads (all_bytes n arrays) i h _
    ∙ ap (λ t. slice_set (slots_of n heads arrays) i (slot_of h t)) (bytes_of_row n i arrays full b)

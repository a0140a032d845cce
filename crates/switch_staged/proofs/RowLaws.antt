-- What a row that is set or read means for the bytes of the slots.
use Rattle.std.proofs.Common.{◌≡◌, ℕ, zero, suc, ◌+◌, ◌*◌, ◌<◌, ◌≤◌, Bool, true, false, List, [], ◌∷◌, ◌++◌, length, map, take, drop, replicate, sym, refl, ap, ◌∙◌, subst, arith, rules}
use Rattle.std.specs.Prelude.{slice_set, slice_index_or}
use Rattle.std.proofs.lemmas.List.{take-append-drop, length-take, length-drop, length-replicate, append-nil, append_assoc, drop-drop, drop-replicate, take_more_set, take_more, take_all, take_at, length-append}
use Rattle.far_base.specs.Padded.{padded}
use Rattle.switch_staged.specs.Rows.{CELL_LENGTH, BODY_CELLS, zero_cell, cut, cut_cells, joined, row, with_row, beside, all_bytes, AreFull}

pub beside_set : {A B C : Type 0} (f : A → B → C) (xs : List A) (ys : List B) (i : ℕ) (x : A) (y : B)
    → beside f (slice_set xs i x) (slice_set ys i y) ≡ slice_set (beside f xs ys) i (f x y)
beside_set f [] ys i x y = refl
beside_set f (a ∷ xs) [] zero x y = refl
beside_set f (a ∷ xs) [] (suc i) x y = refl
beside_set f (a ∷ xs) (b ∷ ys) zero x y = refl
beside_set f (a ∷ xs) (b ∷ ys) (suc i) x y = ap (λ r. f a b ∷ r) (beside_set f xs ys i x y)

pub beside_get : {A B C : Type 0} (f : A → B → C) (xs : List A) (ys : List B) (i : ℕ) (x : A) (y : B) (z : C)
    → i < length xs → i < length ys → slice_index_or (beside f xs ys) i z ≡ f (slice_index_or xs i x) (slice_index_or ys i y)
beside_get f [] ys i x y z a b = absurd (omega (arith, a))
beside_get f (c ∷ xs) [] i x y z a b = absurd (omega (arith, b))
beside_get f (c ∷ xs) (d ∷ ys) zero x y z a b = refl
beside_get f (c ∷ xs) (d ∷ ys) (suc i) x y z a b = beside_get f xs ys i x y z (grind (arith, a)) (grind (arith, b))

pub beside_length : {A B C : Type 0} (f : A → B → C) (n : ℕ) (xs : List A) (ys : List B) → length xs ≡ n → length ys ≡ n → length (beside f xs ys) ≡ n
beside_length f n [] ys a b = a
beside_length f n (x ∷ xs) [] a b = b
beside_length f zero (x ∷ xs) (y ∷ ys) a b = absurd (omega (arith, a))
beside_length f (suc n) (x ∷ xs) (y ∷ ys) a b = ap suc (beside_length f n xs ys (grind (arith, a)) (grind (arith, b)))

same_replicate : {A : Type 0} (n i : ℕ) (a : A) → slice_set (replicate n a) i a ≡ replicate n a
same_replicate zero i a = refl
same_replicate (suc n) zero a = refl
same_replicate (suc n) (suc i) a = ap (λ r. a ∷ r) (same_replicate n i a)

pub one_of_replicate : {A : Type 0} (n i : ℕ) (a : A) → slice_index_or (replicate n a) i a ≡ a
one_of_replicate zero i a = refl
one_of_replicate (suc n) zero a = refl
one_of_replicate (suc n) (suc i) a = one_of_replicate n i a

pub bytes_length : (n : ℕ) (rest : List (List (List ℕ))) → AreFull n rest → length (all_bytes n rest) ≡ n
bytes_length n [] h = length-replicate n []
bytes_length n (a ∷ rest) h = beside_length _ n a (all_bytes n rest) h.0 (bytes_length n rest h.1)

-- the bytes of a slot are those of its row
pub bytes_of_row : (n i : ℕ) (rest : List (List (List ℕ))) → AreFull n rest → i < n → slice_index_or (all_bytes n rest) i [] ≡ joined (row i rest)
bytes_of_row n i [] h b = one_of_replicate n i []
bytes_of_row n i (a ∷ rest) h b =
    beside_get (λ c text. c ++ text) a (all_bytes n rest) i zero_cell [] [] (subst (λ m. i < m) (sym h.0) b) (subst (λ m. i < m) (sym (bytes_length n rest h.1)) b)
    ∙ ap (λ r. slice_index_or a i zero_cell ++ r) (bytes_of_row n i rest h.1 b)

-- a row that is set sets the bytes of its slot, and no other
pub row_sets_bytes : (n i : ℕ) (rest : List (List (List ℕ))) (cells : List (List ℕ)) → length cells ≡ length rest → AreFull n rest
    → all_bytes n (with_row i rest cells) ≡ slice_set (all_bytes n rest) i (joined cells)
row_sets_bytes n i [] [] l h = sym (same_replicate n i [])
row_sets_bytes n i [] (c ∷ cs) l h = absurd (omega (arith, l))
row_sets_bytes n i (a ∷ rest) [] l h = absurd (omega (arith, l))
row_sets_bytes n i (a ∷ rest) (c ∷ cs) l h =
    ap (beside (λ c text. c ++ text) (slice_set a i c)) (row_sets_bytes n i rest cs (grind (arith, l)) h.1)
    ∙ beside_set (λ c text. c ++ text) a (all_bytes n rest) i c (joined cs)

-- what is cut and joined again is rest before
pub cut_joined : (n : ℕ) (bytes : List ℕ) → length bytes ≡ n * CELL_LENGTH → joined (cut n bytes) ≡ bytes
cut_joined zero [] l = refl
cut_joined zero (b ∷ bs) l = absurd (omega (arith, l))
cut_joined (suc n) bytes l =
    ap (λ r. take CELL_LENGTH bytes ++ r) (cut_joined n (drop CELL_LENGTH bytes) (grind (arith, l)))
    ∙ take-append-drop CELL_LENGTH bytes

next_cell : (k : ℕ) → CELL_LENGTH + k * CELL_LENGTH ≡ suc k * CELL_LENGTH
next_cell k = omega arith

-- one more cell is cut
pub cut_more : (k : ℕ) (bytes : List ℕ) → cut (suc k) bytes ≡ cut k bytes ++ take CELL_LENGTH (drop (k * CELL_LENGTH) bytes) ∷ []
cut_more zero bytes = refl
cut_more (suc k) bytes = ap (λ r. take CELL_LENGTH bytes ∷ r)
    (cut_more k (drop CELL_LENGTH bytes)
    ∙ ap (λ r. cut k (drop CELL_LENGTH bytes) ++ take CELL_LENGTH r ∷ []) (drop-drop (k * CELL_LENGTH) CELL_LENGTH bytes ∙ ap (λ n. drop n bytes) (next_cell k)))

pub joined_more : (cells : List (List ℕ)) (c : List ℕ) → joined (cells ++ c ∷ []) ≡ joined cells ++ c
joined_more [] c = append-nil c
joined_more (d ∷ cells) c = ap (λ r. d ++ r) (joined_more cells c) ∙ sym (append_assoc d (joined cells) c)

pub zeros_after : (n : ℕ) (text : List ℕ) → text ++ drop (length text) (replicate n 0) ≡ padded n text
zeros_after n text = ap (λ r. text ++ r) (drop-replicate (length text) n 0)

one_more : (k : ℕ) → k + 1 ≡ suc k
one_more k = omega arith

pub cut_step : (k : ℕ) (bytes : List ℕ) (cells : List (List ℕ)) (c : List ℕ) → k < length cells → take k cells ≡ cut k bytes → c ≡ take CELL_LENGTH (drop (k * CELL_LENGTH) bytes)
    → take (k + 1) (slice_set cells k c) ≡ cut (k + 1) bytes
cut_step k bytes cells c b e f = take_more_set cells k c b ∙ rw (e, f) (sym (cut_more k bytes) ∙ ap (λ n. cut n bytes) (sym (one_more k)))

pub cut_done : (k : ℕ) (bytes : List ℕ) (cells : List (List ℕ)) → length cells ≡ BODY_CELLS → k ≡ BODY_CELLS → take k cells ≡ cut k bytes → cells ≡ cut_cells bytes
unfolding cut_cells
cut_done k bytes cells l e t = sym (take_all k cells (omega (arith, l, e))) ∙ t ∙ ap (λ n. cut n bytes) e

-- one more cell is joined
pub join_step : (k : ℕ) (bytes after : List ℕ) (cells : List (List ℕ)) (c : List ℕ) → k < length cells → slice_index_or cells k [] ≡ c
    → k * CELL_LENGTH ≤ length bytes → length c ≡ CELL_LENGTH
    → take (k * CELL_LENGTH) bytes ≡ joined (take k cells) → after ≡ take (k * CELL_LENGTH) bytes ++ (c ++ drop (k * CELL_LENGTH + CELL_LENGTH) bytes)
    → take ((k + 1) * CELL_LENGTH) after ≡ joined (take (k + 1) cells)
join_step k bytes after cells c b e short whole t f =
    let front : take ((k + 1) * CELL_LENGTH) after ≡ take (k * CELL_LENGTH) bytes ++ c =
    ap (take ((k + 1) * CELL_LENGTH)) (f ∙ sym (append_assoc (take (k * CELL_LENGTH) bytes) c (drop (k * CELL_LENGTH + CELL_LENGTH) bytes)))
    ∙ take_at (take (k * CELL_LENGTH) bytes ++ c) (drop (k * CELL_LENGTH + CELL_LENGTH) bytes) ((k + 1) * CELL_LENGTH) (grind (arith, whole, short, length-append, length-take)) in
    front ∙ ap (λ r. r ++ c) t ∙ sym (joined_more (take k cells) c) ∙ ap joined (ap (λ x. take k cells ++ x ∷ []) (sym e) ∙ sym (take_more cells k [] b))

pub join_done : (k : ℕ) (bytes : List ℕ) (cells : List (List ℕ)) → length bytes ≤ k * CELL_LENGTH → length cells ≤ k → k ≤ BODY_CELLS → take (k * CELL_LENGTH) bytes ≡ joined (take k cells) → bytes ≡ joined cells
join_done k bytes cells b l e t = sym (take_all (k * CELL_LENGTH) bytes b) ∙ t ∙ ap joined (take_all k cells l)

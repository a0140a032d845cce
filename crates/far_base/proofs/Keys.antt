-- A key is its text and zeros.
use Rattle.std.proofs.Common.{◌≡◌, ℕ, zero, suc, ◌+◌, ◌*◌, ◌-◌, ◌<◌, ◌≤◌, Bool, true, false, ◌&&◌, ◌||◌, List, [], ◌∷◌, ◌++◌, length, drop, get_or, replicate, refl, sym, ◌∙◌, subst, arith, add-one}
use Rattle.std.specs.Prelude.{nat_le, nat_eq}
use Rattle.std.specs.List.{list_all}
use Rattle.std.proofs.lemmas.List.{length-append, length-replicate, get_or-drop}
use Rattle.std.proofs.Math.Seq.{drop-cons}
use Rattle.std.proofs.lemmas.Bool.Decides.{nat_tests}
use Rattle.far_base.specs.Key.{is_visible, is_key_text, is_key, all_zero, visible_then_zeros, starts_visible, fits_before, weighted_sum}
use Rattle.far_base.specs.Padded.{padded}
use Rattle.far_base.specs.declared.key.TheConstants.{KEY_LENGTH}

zeros : (k : ℕ) → all_zero (replicate k 0) ≡ true
zeros zero = refl
zeros (suc k) = zeros k

or_false : (a : Bool) → (a || false) ≡ a
or_false true = refl
or_false false = refl

not_zero : (b : ℕ) → nat_eq (suc b) 0 ≡ false
not_zero b = grind (arith, nat_tests)

fits_front : (b : ℕ) (bs : List ℕ) → visible_then_zeros (b ∷ bs) ≡ (fits_before b (get_or bs 0 0) && visible_then_zeros bs)
fits_front zero [] = refl
fits_front zero (zero ∷ bs) = refl
fits_front zero (suc b ∷ bs) = rw (not_zero b) refl
fits_front (suc b) bs = rw (not_zero b, or_false (is_visible (suc b))) refl

fits_at : (bytes : List ℕ) (at next : ℕ) (fit : Bool) → at < length bytes → next ≡ get_or bytes (suc at) 0 → fit ≡ visible_then_zeros (drop (suc at) bytes) → (fits_before (get_or bytes at 0) next && fit) ≡ visible_then_zeros (drop at bytes)
fits_at bytes at next fit l n f =
    let is : next ≡ get_or (drop (suc at) bytes) 0 0 = n ∙ (subst (λ k. get_or bytes (suc at) 0 ≡ get_or bytes k 0) (omega (arith)) refl ∙ sym (get_or-drop (suc at) bytes 0 0)) in
    rw (drop-cons bytes at 0 l, fits_front (get_or bytes at 0) (drop (suc at) bytes), sym is, sym f) refl

-- what stands one byte earlier fits where that byte fits what is behind it
pub fits_next : (bytes : List ℕ) (at next : ℕ) (fit : Bool) → 0 < at → at ≤ length bytes → next ≡ get_or bytes at 0 → fit ≡ visible_then_zeros (drop at bytes) → (fits_before (get_or bytes (at - 1) 0) next && fit) ≡ visible_then_zeros (drop (at - 1) bytes)
fits_next bytes zero next fit h l n f = absurd (omega (arith, h))
fits_next bytes (suc at) next fit h l n f =
    let is : at ≡ suc at - 1 = omega (arith) in
    subst (λ k. (fits_before (get_or bytes k 0) next && fit) ≡ visible_then_zeros (drop k bytes)) is (fits_at bytes at next fit (omega (arith, l)) n f)

-- the factor moves on with the byte
pub weighted_sum-drop : (bytes : List ℕ) (i : ℕ) → i < length bytes → weighted_sum (i + 1) (drop i bytes) ≡ (i + 1) * get_or bytes i 0 + weighted_sum (i + 1 + 1) (drop (i + 1) bytes)
weighted_sum-drop bytes i h = rw (drop-cons bytes i 0 h) (rw (add-one i) refl)

and_true : (a b : Bool) → (a && b) ≡ true → (a ≡ true) × (b ≡ true)
and_true true b h = (refl, h)
and_true false b h = absurd cc

both_true : (a b : Bool) → a ≡ true → b ≡ true → (a && b) ≡ true
both_true true b h k = k
both_true false b h k = absurd cc

visible_front : (text : List ℕ) (k : ℕ) → list_all is_visible text ≡ true → visible_then_zeros (text ++ replicate k 0) ≡ true
visible_front [] zero h = refl
visible_front [] (suc k) h = zeros k
visible_front (zero ∷ bs) k h = absurd cc
visible_front (suc b ∷ bs) k h =
    let both : (is_visible (suc b) ≡ true) × (list_all is_visible bs ≡ true) = and_true _ _ h in
    both_true (is_visible (suc b)) (visible_then_zeros (bs ++ replicate k 0)) both.0 (visible_front bs k both.1)

starts : (text : List ℕ) (k : ℕ) → nat_le 1 (length text) ≡ true → list_all is_visible text ≡ true → starts_visible (text ++ replicate k 0) ≡ true
starts [] k h v = absurd cc
starts (b ∷ bs) k h v = (and_true (is_visible b) (list_all is_visible bs) v).0

-- the text of a key and zeros are a key
pub padded_is_key : (text : List ℕ) → is_key_text text ≡ true → is_key (padded KEY_LENGTH text) ≡ true
padded_is_key text h =
    let a : ((nat_le 1 (length text) && nat_le (length text) KEY_LENGTH) ≡ true) × (list_all is_visible text ≡ true) = and_true _ _ h in
    let b : (nat_le 1 (length text) ≡ true) × (nat_le (length text) KEY_LENGTH ≡ true) = and_true _ _ a.0 in
    both_true (nat_eq (length (padded KEY_LENGTH text)) KEY_LENGTH) (starts_visible (padded KEY_LENGTH text) && visible_then_zeros (padded KEY_LENGTH text))
    (grind (arith, nat_tests, length-append, length-replicate))
    (both_true _ _ (starts text (KEY_LENGTH - length text) b.0 a.1) (visible_front text (KEY_LENGTH - length text) a.1))

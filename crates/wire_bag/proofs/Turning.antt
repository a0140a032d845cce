-- An element that is turned to the end of the front part, and what stands before it then.
use Rattle.std.proofs.Common.{◌≡◌, ℕ, zero, suc, ◌+◌, ◌-◌, ◌<◌, ◌≤◌, List, [], ◌∷◌, ◌++◌, length, take, drop, map, refl, sym, ap, ◌∙◌, append_assoc, arith}
use Rattle.std.specs.List.{remove}
use Rattle.std.proofs.lemmas.List.{length-take, length-append, length-drop, take_at, take-take, drop-drop}
use Rattle.std.proofs.lemmas.Slice.{between_is}
use borrow.Rule.Slice.PartMut.{put_mid, mid_of, post_of}

map_remove : {A B : Type 0} → (f : A → B) (xs : List A) (i : ℕ) → map f (remove xs i) ≡ remove (map f xs) i
map_remove f [] zero = refl
map_remove f [] (suc i) = refl
map_remove f (x ∷ xs) zero = refl
map_remove f (x ∷ xs) (suc i) = ap (λ ys. f x ∷ ys) (map_remove f xs i)

before : {A : Type 0} (xs ys : List A) (i n : ℕ) → i < n → n ≤ length xs → ys ≡ drop 1 (mid_of i (n - i) xs) ++ take 1 (mid_of i (n - i) xs)
    → take (n - 1) (put_mid i (n - i) xs ys) ≡ remove (take n xs) i
before xs ys i n below within is =
    let mid = mid_of i (n - i) xs in
    let post = post_of i (n - i) xs in
    let front = take i xs ++ drop 1 mid in
    let count : length front ≡ n - 1 =
    omega (arith, length-append (take i xs) (drop 1 mid), length-take i xs, length-drop 1 mid, length-take (n - i) (drop i xs), length-drop i xs) in
    let parts : put_mid i (n - i) xs ys ≡ front ++ (take 1 mid ++ post) =
    rw is (rw (append_assoc (drop 1 mid) (take 1 mid) post) (sym (append_assoc (take i xs) (drop 1 mid) (take 1 mid ++ post)))) in
    let next : i + 1 ≡ suc i = omega arith in
    let behind : drop 1 mid ≡ drop (suc i) (take n xs) = ap (λ t. drop 1 t) (between_is xs i n) ∙ (drop-drop 1 i (take n xs) ∙ ap (λ k. drop k (take n xs)) next) in
    rw parts (take_at front (take 1 mid ++ post) (n - 1) count ∙ (ap (λ t. take i xs ++ t) behind ∙ ap (λ t. t ++ drop (suc i) (take n xs)) (sym (take-take i n xs (omega arith)))))

same_length : {A : Type 0} (xs ys : List A) (i n : ℕ) → i < n → n ≤ length xs → ys ≡ drop 1 (mid_of i (n - i) xs) ++ take 1 (mid_of i (n - i) xs)
    → length (put_mid i (n - i) xs ys) ≡ length xs
same_length xs ys i n below within is =
    let mid = mid_of i (n - i) xs in
    omega (
      arith,
      ap length is,
      length-append (drop 1 mid) (take 1 mid),
      length-take 1 mid,
      length-drop 1 mid,
      length-take (n - i) (drop i xs),
      length-drop i xs,
      length-take i xs,
      length-append (take i xs) (ys ++ post_of i (n - i) xs),
      length-append ys (post_of i (n - i) xs),
      length-drop (n - i) (drop i xs),
    )

pub taken : {A B : Type 0} (f : A → B) (boxes xs ys : List A) (i n len : ℕ) → xs ≡ boxes → length xs ≡ len → i < n → n ≤ len
    → ys ≡ drop 1 (mid_of i (n - i) xs) ++ take 1 (mid_of i (n - i) xs)
    → map f (take (n - 1) (take len (put_mid i (n - i) xs ys ++ drop (length (put_mid i (n - i) xs ys)) boxes))) ≡ remove (map f (take n boxes)) i
taken f boxes xs ys i n len same whole below within is =
    let fits : n ≤ length xs = omega (arith, whole) in
    rw (take_at (put_mid i (n - i) xs ys) (drop (length (put_mid i (n - i) xs ys)) boxes) len (same_length xs ys i n below fits is ∙ whole), before xs ys i n below fits is, ← same) (map_remove f (take n xs) i)

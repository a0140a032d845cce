-- The two halves of a key, read as numbers with the highest byte first, are ordered as the keys are.
use Rattle.std.proofs.Common.{◌≡◌, ℕ, zero, suc, ◌+◌, ◌*◌, ◌-◌, ◌<◌, ◌≤◌, Bool, true, false, ◌&&◌, List, [], ◌∷◌, length, take, drop, get_or, refl, sym, ap, ◌∙◌, arith, take_all, length-take, length-drop}
use Rattle.std.specs.Prelude.{nat_le, nat_eq}
use Rattle.std.specs.List.{list_all}
use Rattle.std.specs.Ordering.{nat_cmp, ordering_then, is_eq, MatchOrdering}
use Rattle.std.specs.declared.cmp.Ordering.{Ordering}
use Rattle.std.specs.declared.cmp.Ordering.TheVariants.{Less, Equal, Greater}
use Rattle.std.specs.Cmp.{ranks, nat_cmp_is, unsigned_tied}
use Rattle.std.specs.Cmp.Lexicographic.{pointwise, slice_cmp, texts_ties}
use Rattle.std.specs.Int.{w64, from_be_bytes}
use Rattle.std.proofs.lemmas.Bool.Decides.{nat_tests}
use Rattle.std.proofs.lemmas.Nat.{mul-le}
use Rattle.far_base.specs.Key.{is_visible, is_key, all_zero, visible_then_zeros, starts_visible, front_of, back_of}
use Rattle.far_base.specs.declared.key.TheConstants.{KEY_LENGTH}

-- how many numbers so many bytes can write
abbrev room : ℕ → ℕ
room zero = 1
room (suc n) = 256 * room n

-- the number that the bytes write, the highest first
abbrev worth : List ℕ → ℕ
worth [] = 0
worth (x ∷ xs) = x * room (length xs) + worth xs

abbrev all_bytes : List ℕ → Bool
all_bytes bytes = list_all (λ b. nat_le b 255) bytes

both : (a b : Bool) → (a && b) ≡ true → (a ≡ true) × (b ≡ true)
both true b h = (refl, h)
both false b h = absurd cc

byte : (b : ℕ) → nat_le b 255 ≡ true → b < 256
byte b h = grind (arith, nat_tests)

carried : (x p u : ℕ) → x < 256 → u < p → x * p + u < 256 * p
carried x p u h k = omega (arith, mul-le x p 255 p (omega (arith, h)) (omega arith))

within : (xs : List ℕ) → all_bytes xs ≡ true → worth xs < room (length xs)
within [] h = omega arith
within (x ∷ xs) h =
    let e = both (nat_le x 255) (all_bytes xs) h in
    carried x (room (length xs)) (worth xs) (byte x e.0) (within xs e.1)

higher : (x y p u v : ℕ) → x < y → u < p → x * p + u < y * p + v
higher x y p u v h k = omega (arith, h, k, mul-le (suc x) p y p h (omega arith))

step : (x y p u v : ℕ) → u < p → v < p → nat_cmp (x * p + u) (y * p + v) ≡ ordering_then (nat_cmp x y) (nat_cmp u v)
step x y p u v h k = go (nat_cmp x y) (ranks x y)
  where
    go : (o : Ordering) → MatchOrdering o (x < y) (x ≡ y) (y < x) → nat_cmp (x * p + u) (y * p + v) ≡ ordering_then o (nat_cmp u v)
    go Less l = sym (nat_cmp_is (x * p + u) (y * p + v) Less (higher x y p u v l h))
    go Equal e = sym (nat_cmp_is (x * p + u) (y * p + v) (nat_cmp u v) (same (nat_cmp u v) (ranks u v)))
      where
        same : (o : Ordering) → MatchOrdering o (u < v) (u ≡ v) (v < u) → MatchOrdering o (x * p + u < y * p + v) (x * p + u ≡ y * p + v) (y * p + v < x * p + u)
        same Less l = rw e (omega (arith, l))
        same Equal l = rw (e, l) refl
        same Greater l = rw e (omega (arith, l))
    go Greater l = sym (nat_cmp_is (x * p + u) (y * p + v) Greater (higher y x p v u l k))

-- lists that are as long are ordered as the numbers that they write
in_order : (xs ys : List ℕ) → length xs ≡ length ys → all_bytes xs ≡ true → all_bytes ys ≡ true → nat_cmp (worth xs) (worth ys) ≡ slice_cmp nat_cmp xs ys
in_order [] [] l h k = refl
in_order [] (y ∷ ys) l h k = absurd (omega (arith, l))
in_order (x ∷ xs) [] l h k = absurd (omega (arith, l))
in_order (x ∷ xs) (y ∷ ys) l h k =
    let long : length xs ≡ length ys = omega (arith, l) in
    let a = both (nat_le x 255) (all_bytes xs) h in
    let b = both (nat_le y 255) (all_bytes ys) k in
    let low : worth ys < room (length xs) = rw (long) (within ys b.1) in
    rw (sym long) (step x y (room (length xs)) (worth xs) (worth ys) (within xs a.1) low ∙ ap (λ (o : Ordering). ordering_then (nat_cmp x y) o) (in_order xs ys long a.1 b.1))

then_chain : (a b c : Ordering) → ordering_then a (ordering_then b c) ≡ ordering_then (ordering_then a b) c
then_chain Less b c = refl
then_chain Equal b c = refl
then_chain Greater b c = refl

-- the fronts decide, and else what follows
in_halves : (n : ℕ) (xs ys : List ℕ) → length xs ≡ length ys → slice_cmp nat_cmp xs ys ≡ ordering_then (slice_cmp nat_cmp (take n xs) (take n ys)) (slice_cmp nat_cmp (drop n xs) (drop n ys))
in_halves zero xs ys l = refl
in_halves (suc n) [] [] l = refl
in_halves (suc n) [] (y ∷ ys) l = absurd (omega (arith, l))
in_halves (suc n) (x ∷ xs) [] l = absurd (omega (arith, l))
in_halves (suc n) (x ∷ xs) (y ∷ ys) l =
    ap (λ (o : Ordering). ordering_then (nat_cmp x y) o) (in_halves n xs ys (omega (arith, l))) ∙ then_chain (nat_cmp x y) (slice_cmp nat_cmp (take n xs) (take n ys)) (slice_cmp nat_cmp (drop n xs) (drop n ys))

first_eight : (xs : List ℕ) → 8 ≤ length xs → take 8 xs ≡ get_or xs 0 0 ∷ get_or xs 1 0 ∷ get_or xs 2 0 ∷ get_or xs 3 0 ∷ get_or xs 4 0 ∷ get_or xs 5 0 ∷ get_or xs 6 0 ∷ get_or xs 7 0 ∷ []
first_eight [] l = absurd (omega (arith, l))
first_eight (a ∷ []) l = absurd (omega (arith, l))
first_eight (a ∷ b ∷ []) l = absurd (omega (arith, l))
first_eight (a ∷ b ∷ c ∷ []) l = absurd (omega (arith, l))
first_eight (a ∷ b ∷ c ∷ d ∷ []) l = absurd (omega (arith, l))
first_eight (a ∷ b ∷ c ∷ d ∷ e ∷ []) l = absurd (omega (arith, l))
first_eight (a ∷ b ∷ c ∷ d ∷ e ∷ f ∷ []) l = absurd (omega (arith, l))
first_eight (a ∷ b ∷ c ∷ d ∷ e ∷ f ∷ g ∷ []) l = absurd (omega (arith, l))
first_eight (a ∷ b ∷ c ∷ d ∷ e ∷ f ∷ g ∷ h ∷ xs) l = refl

sums : (a b c d e f g h : ℕ) → a * 72057594037927936 + b * 281474976710656 + c * 1099511627776 + d * 4294967296 + e * 16777216 + f * 65536 + g * 256 + h
    ≡ a * 72057594037927936 + (b * 281474976710656 + (c * 1099511627776 + (d * 4294967296 + (e * 16777216 + (f * 65536 + (g * 256 + (h * 1 + 0)))))))
sums a b c d e f g h = omega arith

-- the number of eight bytes
eight : (a b c d e f g h : ℕ) → from_be_bytes w64 (a ∷ b ∷ c ∷ d ∷ e ∷ f ∷ g ∷ h ∷ []) ≡ worth (a ∷ b ∷ c ∷ d ∷ e ∷ f ∷ g ∷ h ∷ [])
eight a b c d e f g h = sums a b c d e f g h

front_is : (xs : List ℕ) → length xs ≡ KEY_LENGTH → front_of xs ≡ worth (take 8 xs)
unfolding front_of
front_is xs l = eight (get_or xs 0 0) (get_or xs 1 0) (get_or xs 2 0) (get_or xs 3 0) (get_or xs 4 0) (get_or xs 5 0) (get_or xs 6 0) (get_or xs 7 0)
    ∙ sym (ap worth (first_eight xs (omega (arith, l))))

last_eight : (xs : List ℕ) → length xs ≡ 16 → drop 8 xs ≡ get_or xs 8 0 ∷ get_or xs 9 0 ∷ get_or xs 10 0 ∷ get_or xs 11 0 ∷ get_or xs 12 0 ∷ get_or xs 13 0 ∷ get_or xs 14 0 ∷ get_or xs 15 0 ∷ []
last_eight [] l = absurd (omega (arith, l))
last_eight (a ∷ []) l = absurd (omega (arith, l))
last_eight (a ∷ b ∷ []) l = absurd (omega (arith, l))
last_eight (a ∷ b ∷ c ∷ []) l = absurd (omega (arith, l))
last_eight (a ∷ b ∷ c ∷ d ∷ []) l = absurd (omega (arith, l))
last_eight (a ∷ b ∷ c ∷ d ∷ e ∷ []) l = absurd (omega (arith, l))
last_eight (a ∷ b ∷ c ∷ d ∷ e ∷ f ∷ []) l = absurd (omega (arith, l))
last_eight (a ∷ b ∷ c ∷ d ∷ e ∷ f ∷ g ∷ []) l = absurd (omega (arith, l))
last_eight (a ∷ b ∷ c ∷ d ∷ e ∷ f ∷ g ∷ h ∷ xs) l =
    let long : length xs ≡ 8 = omega (arith, l) in
    sym (take_all 8 xs (omega (arith, long))) ∙ first_eight xs (omega (arith, long))

back_is : (xs : List ℕ) → length xs ≡ KEY_LENGTH → back_of xs ≡ worth (drop 8 xs)
unfolding back_of
back_is xs l = eight (get_or xs 8 0) (get_or xs 9 0) (get_or xs 10 0) (get_or xs 11 0) (get_or xs 12 0) (get_or xs 13 0) (get_or xs 14 0) (get_or xs 15 0)
    ∙ sym (ap worth (last_eight xs l))

not_zero : (x : ℕ) → nat_eq (suc x) 0 ≡ true → ⊥
not_zero x h = grind (arith, nat_tests)

zeros_small : (xs : List ℕ) → all_zero xs ≡ true → all_bytes xs ≡ true
zeros_small [] h = refl
zeros_small (zero ∷ xs) h = zeros_small xs h
zeros_small (suc x ∷ xs) h = absurd (not_zero x (both (nat_eq (suc x) 0) (all_zero xs) h).0)

visible_small : (xs : List ℕ) → visible_then_zeros xs ≡ true → all_bytes xs ≡ true
visible_small [] h = refl
visible_small (zero ∷ xs) h = zeros_small xs h
visible_small (suc x ∷ xs) h =
    let e = both (is_visible (suc x)) (visible_then_zeros xs) h in
    let small : nat_le (suc x) 255 ≡ true = grind (arith, nat_tests, both (nat_le 33 (suc x)) (nat_le (suc x) 126) e.0) in
    rw small (visible_small xs e.1)

front_small : (n : ℕ) (xs : List ℕ) → all_bytes xs ≡ true → all_bytes (take n xs) ≡ true
front_small zero xs h = refl
front_small (suc n) [] h = refl
front_small (suc n) (x ∷ xs) h =
    let e = both (nat_le x 255) (all_bytes xs) h in
    rw e.0 (front_small n xs e.1)

back_small : (n : ℕ) (xs : List ℕ) → all_bytes xs ≡ true → all_bytes (drop n xs) ≡ true
back_small zero xs h = h
back_small (suc n) [] h = refl
back_small (suc n) (x ∷ xs) h = back_small n xs (both (nat_le x 255) (all_bytes xs) h).1

key_long : (key : List ℕ) → is_key key ≡ true → length key ≡ KEY_LENGTH
key_long key h = grind (arith, nat_tests, (both (nat_eq (length key) KEY_LENGTH) (starts_visible key && visible_then_zeros key) h).0)

key_small : (key : List ℕ) → is_key key ≡ true → all_bytes key ≡ true
key_small key h = visible_small key (both (starts_visible key) (visible_then_zeros key) (both (nat_eq (length key) KEY_LENGTH) (starts_visible key && visible_then_zeros key) h).1).1

-- keys are ordered by their fronts, and keys with one front by their backs
pub ordered_halves : (a b : List ℕ) → is_key a ≡ true → is_key b ≡ true → ordering_then (nat_cmp (front_of a) (front_of b)) (nat_cmp (back_of a) (back_of b)) ≡ slice_cmp nat_cmp a b
ordered_halves a b h k =
    let l = key_long a h in
    let m = key_long b k in
    let long : length a ≡ length b = l ∙ sym m in
    let s = key_small a h in
    let t = key_small b k in
    let front : nat_cmp (front_of a) (front_of b) ≡ slice_cmp nat_cmp (take 8 a) (take 8 b) =
    rw (front_is a l, front_is b m) (in_order (take 8 a) (take 8 b) (length-take 8 a ∙ rw long (sym (length-take 8 b))) (front_small 8 a s) (front_small 8 b t)) in
    let back : nat_cmp (back_of a) (back_of b) ≡ slice_cmp nat_cmp (drop 8 a) (drop 8 b) =
    rw (back_is a l, back_is b m) (in_order (drop 8 a) (drop 8 b) (length-drop 8 a ∙ rw long (sym (length-drop 8 b))) (back_small 8 a s) (back_small 8 b t)) in
    rw (front, back) (sym (in_halves 8 a b long))

both_equal : (a b : Ordering) → is_eq (ordering_then a b) ≡ (is_eq a && is_eq b)
both_equal Less b = refl
both_equal Equal b = refl
both_equal Greater b = refl

halves : (a b : List ℕ) → is_key a ≡ true → is_key b ≡ true → (nat_eq (front_of a) (front_of b) && nat_eq (back_of a) (back_of b)) ≡ pointwise nat_eq a b
halves a b h k =
    rw (sym (unsigned_tied (front_of a) (front_of b)), sym (unsigned_tied (back_of a) (back_of b)))
    (sym (both_equal (nat_cmp (front_of a) (front_of b)) (nat_cmp (back_of a) (back_of b))) ∙ ap is_eq (ordered_halves a b h k) ∙ sym (texts_ties a b))

-- keys with one front are the same exactly where their backs are
pub same_front : (a b : List ℕ) → is_key a ≡ true → is_key b ≡ true → front_of a ≡ front_of b → nat_eq (back_of a) (back_of b) ≡ pointwise nat_eq a b
same_front a b h k e =
    let t : nat_eq (front_of a) (front_of b) ≡ true = grind (arith, nat_tests, e) in
    ap (λ (t : Bool). t && nat_eq (back_of a) (back_of b)) (sym t) ∙ halves a b h k

-- keys with other fronts are others
pub other_front : (a b : List ℕ) → is_key a ≡ true → is_key b ≡ true → nat_eq (front_of a) (front_of b) ≡ false → nat_eq (front_of a) (front_of b) ≡ pointwise nat_eq a b
other_front a b h k e = e ∙ ap (λ (t : Bool). t && nat_eq (back_of a) (back_of b)) (sym e) ∙ halves a b h k

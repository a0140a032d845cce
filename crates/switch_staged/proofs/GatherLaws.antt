-- The packets inside, one after the other.
use Rattle.std.proofs.Common.{◌≡◌, ℕ, zero, suc, ◌+◌, ◌-◌, ◌<◌, ◌≤◌, List, [], ◌∷◌, ◌++◌, length, take, drop, sym, refl, ap, ◌∙◌, subst, arith, Option, None, Some}
use Rattle.std.specs.Prelude.{slice_index_or, slice_set, map, replicate}
use Rattle.std.proofs.lemmas.List.{append-nil, append_assoc, drop_more, take_more, take_more_set, map-append, length-append, length-map}
use Rattle.far_base.specs.declared.packet.Packet.{Packet}
use Rattle.switch_staged.specs.declared.flight.Course.{Course}
use Rattle.switch_staged.specs.Overlap.{packet_of, one_packet, oldest_first, in_front, kept}
use Rattle.switch_staged.proofs.SlotLaws.{set_middle}

abbrev pub some_packet : Packet → Option Packet
some_packet p = Some p

next_oldest : (standing : List (Option Packet)) (k : ℕ) (d : Option Packet) → k < 36 → length standing ≡ 36
    → oldest_first (drop (36 - (k + 1)) standing) ≡ oldest_first (drop (36 - k) standing) ++ one_packet (slice_index_or standing (36 - 1 - k) d)
next_oldest standing k d b l =
    ap (λ n. oldest_first (drop n standing)) (before k)
    ∙ ap oldest_first (drop_more standing (36 - 1 - k) d (there k (length standing) b l))
    ∙ ap (λ n. oldest_first (drop n standing) ++ one_packet (slice_index_or standing (36 - 1 - k) d)) (again k b)
  where
    before : (k : ℕ) → 36 - (k + 1) ≡ 36 - 1 - k
    before k = omega arith

    there : (k n : ℕ) → k < 36 → n ≡ 36 → 36 - 1 - k < n
    there k n b e = omega (arith, b, e)

    again : (k : ℕ) → k < 36 → 36 - 1 - k + 1 ≡ 36 - k
    again k b = omega (arith, b)

set_at_length : (xs : List (Option Packet)) (n : ℕ) (c x : Option Packet) (rest : List (Option Packet)) → length xs ≡ n → slice_set (xs ++ (c ∷ rest)) n x ≡ (xs ++ x ∷ []) ++ rest
set_at_length xs n c x rest e = ap (λ m. slice_set (xs ++ (c ∷ rest)) m x) (sym e) ∙ set_middle xs c x rest

front_more : (n : ℕ) (xs : List Packet) (p : Packet) → length xs < n → slice_set (in_front n xs) (length xs) (Some p) ≡ in_front n (xs ++ p ∷ [])
front_more n xs p b =
    ap (λ m. slice_set (map some_packet xs ++ replicate m None) (length xs) (Some p)) (one_less n (length xs) b)
    ∙ set_at_length (map some_packet xs) (length xs) None (Some p) (replicate (n - (length xs + 1)) None) (length-map xs some_packet)
    ∙ ap (λ r. r ++ replicate (n - (length xs + 1)) None) (sym (map-append some_packet xs (p ∷ [])))
    ∙ ap (λ m. map some_packet (xs ++ p ∷ []) ++ replicate (n - m) None) (sym (length-append xs (p ∷ [])))
  where
    one_less : (n m : ℕ) → m < n → n - m ≡ suc (n - (m + 1))
    one_less n m b = omega (arith, b)

some_gathers : (standing packets : List (Option Packet)) (k count : ℕ) (d : Option Packet) (p : Packet) → k < 36 → length standing ≡ 36 → slice_index_or standing (36 - 1 - k) d ≡ Some p → count ≤ k
    → packets ≡ in_front 36 (oldest_first (drop (36 - k) standing)) → count ≡ length (oldest_first (drop (36 - k) standing))
    → (slice_set packets count (Some p) ≡ in_front 36 (oldest_first (drop (36 - (k + 1)) standing))) × (count + 1 ≡ length (oldest_first (drop (36 - (k + 1)) standing)))
some_gathers standing packets k count d p b l g few h c =
    let xs = oldest_first (drop (36 - k) standing) in
    let more : oldest_first (drop (36 - (k + 1)) standing) ≡ xs ++ p ∷ [] = next_oldest standing k d b l ∙ ap (λ w. xs ++ one_packet w) g in (
      ap (λ r. slice_set r count (Some p)) h ∙ ap (λ n. slice_set (in_front 36 xs) n (Some p)) c ∙ front_more 36 xs p (fewer count k (length xs) c few b) ∙ ap (in_front 36) (sym more),
      ap (λ n. n + 1) c ∙ sym (length-append xs (p ∷ [])) ∙ ap length (sym more),
    )
  where
    fewer : (count k m : ℕ) → count ≡ m → count ≤ k → k < 36 → m < 36
    fewer count k m e few b = omega (arith, e, few, b)

none_more : (n : ℕ) → n + 0 ≡ n
none_more n = omega arith

-- the packet before one more stage is there
pub gathers : (standing packets : List (Option Packet)) (k count : ℕ) (d w : Option Packet) → k < 36 → length standing ≡ 36 → slice_index_or standing (36 - 1 - k) d ≡ w → count ≤ k
    → packets ≡ in_front 36 (oldest_first (drop (36 - k) standing)) → count ≡ length (oldest_first (drop (36 - k) standing))
    → (kept (λ all p. slice_set all count (Some p)) packets w ≡ in_front 36 (oldest_first (drop (36 - (k + 1)) standing))) × (count + length (one_packet w) ≡ length (oldest_first (drop (36 - (k + 1)) standing)))
gathers standing packets k count d (Some p) b l g few h c = some_gathers standing packets k count d p b l g few h c
gathers standing packets k count d None b l g few h c =
    let same : oldest_first (drop (36 - (k + 1)) standing) ≡ oldest_first (drop (36 - k) standing) = next_oldest standing k d b l ∙ ap (λ w. oldest_first (drop (36 - k) standing) ++ one_packet w) g ∙ append-nil (oldest_first (drop (36 - k) standing)) in
    (h ∙ ap (in_front 36) (sym same), none_more count ∙ c ∙ ap length (sym same))

pub one_or_none : (w : Option Packet) → length (one_packet w) ≤ 1
one_or_none None = omega arith
one_or_none (Some p) = omega arith

dropped : (n : ℕ) (xs : List (Option Packet)) → length xs ≤ n → drop n xs ≡ []
dropped zero [] b = refl
dropped zero (x ∷ xs) b = absurd (omega (arith, b))
dropped (suc n) [] b = refl
dropped (suc n) (x ∷ xs) b = dropped n xs (grind (arith, b))

pub none_yet : (standing : List (Option Packet)) → length standing ≡ 36 → drop 36 standing ≡ []
none_yet standing l = dropped 36 standing (omega (arith, l))

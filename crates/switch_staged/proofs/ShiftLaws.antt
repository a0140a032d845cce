-- The loop over the stages of the body in one tick, one stage further.
use Rattle.std.proofs.Common.{◌≡◌, ℕ, zero, suc, ◌+◌, ◌<◌, ◌≤◌, List, [], ◌∷◌, ◌++◌, length, take, drop, sym, refl, ap, ◌∙◌, subst, arith, Option, None, Some}
use Rattle.std.specs.Prelude.{slice_set, slice_index_or, IfSome}
use Rattle.std.specs.List.{AllByRecursion}
use Rattle.std.proofs.lemmas.List.{take_more_set, append_assoc, drop_more, map-set}
use Rattle.register_stages.specs.declared.array.RegArray.{RegArray}
use Rattle.register_stages.specs.Arrays.{cells_of}
use Rattle.switch_staged.specs.declared.flight.Course.{Course}
use Rattle.switch_staged.specs.Stages.{PlaceBelow, InReach, all_cells, array_after, carried, carry_at}
use Rattle.switch_staged.specs.Overlap.{StaysBelow, kept, sent, stepped, shifted, gone}
use Rattle.switch_staged.proofs.PassLaws.{drop_set, carry_place, get_map, all_length, in_reach, array_length}

one_more : (k : ℕ) → k + 1 ≡ suc k
one_more k = omega arith

abbrev pub array_left : ℕ → List (List ℕ) → Option Course → List (List ℕ)
array_left k x w = kept (array_after k) x w

abbrev pub goes_on : ℕ → List (List ℕ) → Option Course → Option Course
goes_on k x w = sent (carried k) x w

cells_by : (k : ℕ) (A : List (List (List ℕ))) (W : List (Option Course)) (x : List (List ℕ)) (w c : Option Course) → k < length A → k < length W → slice_index_or A k [] ≡ x → slice_index_or W k None ≡ w
    → take (k + 1) (slice_set A k (array_left k x w)) ++ stepped (k + 1) (drop (k + 1) (slice_set A k (array_left k x w))) (drop (k + 1) (slice_set W k c)) ≡ take k A ++ stepped k (drop k A) (drop k W)
cells_by k A W x w c b d e g =
    let y = array_left k x w in
    ap (λ r. take (k + 1) (slice_set A k y) ++ stepped (k + 1) r (drop (k + 1) (slice_set W k c))) (drop_set k A y)
    ∙ ap (λ r. take (k + 1) (slice_set A k y) ++ stepped (k + 1) (drop (k + 1) A) r) (drop_set k W c)
    ∙ ap (λ r. r ++ stepped (k + 1) (drop (k + 1) A) (drop (k + 1) W)) (take_more_set A k y b)
    ∙ append_assoc (take k A) (y ∷ []) _
    ∙ ap (λ m. take k A ++ (y ∷ stepped m (drop (k + 1) A) (drop (k + 1) W))) (one_more k)
    ∙ ap (λ r. take k A ++ stepped k r (w ∷ drop (k + 1) W)) (sym (drop_more A k [] b ∙ ap (λ r. r ∷ drop (k + 1) A) e))
    ∙ ap (λ r. take k A ++ stepped k (drop k A) r) (sym (drop_more W k None d ∙ ap (λ r. r ∷ drop (k + 1) W) g))

waiting_by : (k : ℕ) (A : List (List (List ℕ))) (W : List (Option Course)) (x : List (List ℕ)) (w c : Option Course) → k < length A → k < length W → slice_index_or A k [] ≡ x → slice_index_or W k None ≡ w
    → take (k + 1) (slice_set W k c) ++ shifted (k + 1) (drop (k + 1) (slice_set A k (array_left k x w))) (drop (k + 1) (slice_set W k c)) (goes_on k x w) ≡ take k W ++ shifted k (drop k A) (drop k W) c
waiting_by k A W x w c b d e g =
    let y = array_left k x w in
    let z = goes_on k x w in
    ap (λ r. take (k + 1) (slice_set W k c) ++ shifted (k + 1) r (drop (k + 1) (slice_set W k c)) z) (drop_set k A y)
    ∙ ap (λ r. take (k + 1) (slice_set W k c) ++ shifted (k + 1) (drop (k + 1) A) r z) (drop_set k W c)
    ∙ ap (λ r. r ++ shifted (k + 1) (drop (k + 1) A) (drop (k + 1) W) z) (take_more_set W k c d)
    ∙ append_assoc (take k W) (c ∷ []) _
    ∙ ap (λ m. take k W ++ (c ∷ shifted m (drop (k + 1) A) (drop (k + 1) W) z)) (one_more k)
    ∙ ap (λ r. take k W ++ shifted k r (w ∷ drop (k + 1) W) c) (sym (drop_more A k [] b ∙ ap (λ r. r ∷ drop (k + 1) A) e))
    ∙ ap (λ r. take k W ++ shifted k (drop k A) r c) (sym (drop_more W k None d ∙ ap (λ r. r ∷ drop (k + 1) W) g))

gone_by : (k : ℕ) (A : List (List (List ℕ))) (W : List (Option Course)) (x : List (List ℕ)) (w c : Option Course) → k < length A → k < length W → slice_index_or A k [] ≡ x → slice_index_or W k None ≡ w
    → gone (k + 1) (drop (k + 1) (slice_set A k (array_left k x w))) (drop (k + 1) (slice_set W k c)) (goes_on k x w) ≡ gone k (drop k A) (drop k W) c
gone_by k A W x w c b d e g =
    let z = goes_on k x w in
    ap (λ r. gone (k + 1) r (drop (k + 1) (slice_set W k c)) z) (drop_set k A (array_left k x w))
    ∙ ap (λ r. gone (k + 1) (drop (k + 1) A) r z) (drop_set k W c)
    ∙ ap (λ m. gone m (drop (k + 1) A) (drop (k + 1) W) z) (one_more k)
    ∙ ap (λ r. gone k r (w ∷ drop (k + 1) W) c) (sym (drop_more A k [] b ∙ ap (λ r. r ∷ drop (k + 1) A) e))
    ∙ ap (λ r. gone k (drop k A) r c) (sym (drop_more W k None d ∙ ap (λ r. r ∷ drop (k + 1) W) g))

set_is : (k : ℕ) (arrays : List (RegArray (List ℕ))) (d a : RegArray (List ℕ)) (w : Option Course) → cells_of a ≡ array_left k (cells_of (slice_index_or arrays k d)) w
    → all_cells (slice_set arrays k a) ≡ slice_set (all_cells arrays) k (array_left k (cells_of (slice_index_or arrays k d)) w)
set_is k arrays d a w e = map-set cells_of arrays k a ∙ ap (slice_set (all_cells arrays) k) e

-- what one stage of the loop leaves
pub record Further (k : ℕ) (arrays now : List (RegArray (List ℕ))) (W V : List (Option Course)) (c z : Option Course) : Type 0 where
  pub cells : take (k + 1) (all_cells now) ++ stepped (k + 1) (drop (k + 1) (all_cells now)) (drop (k + 1) V) ≡ take k (all_cells arrays) ++ stepped k (drop k (all_cells arrays)) (drop k W)
  pub waiting : take (k + 1) V ++ shifted (k + 1) (drop (k + 1) (all_cells now)) (drop (k + 1) V) z ≡ take k W ++ shifted k (drop k (all_cells arrays)) (drop k W) c
  pub last : gone (k + 1) (drop (k + 1) (all_cells now)) (drop (k + 1) V) z ≡ gone k (drop k (all_cells arrays)) (drop k W) c

pub further : (k : ℕ) (arrays : List (RegArray (List ℕ))) (d a : RegArray (List ℕ)) (W : List (Option Course)) (w c z : Option Course) → k < length arrays → k < length W → slice_index_or W k None ≡ w
    → cells_of a ≡ array_left k (cells_of (slice_index_or arrays k d)) w → z ≡ goes_on k (cells_of (slice_index_or arrays k d)) w
    → Further k arrays (slice_set arrays k a) W (slice_set W k c) c z
further k arrays d a W w c z b m g e h =
    let x = cells_of (slice_index_or arrays k d) in
    let n : k < length (all_cells arrays) = subst (λ m. k < m) (sym (all_length arrays)) b in
    let at = get_map arrays k d b in
    record {
      cells = ap (λ r. take (k + 1) r ++ stepped (k + 1) (drop (k + 1) r) (drop (k + 1) (slice_set W k c))) (set_is k arrays d a w e) ∙ cells_by k (all_cells arrays) W x w c n m at g;
      waiting = ap (λ r. take (k + 1) (slice_set W k c) ++ shifted (k + 1) (drop (k + 1) r) (drop (k + 1) (slice_set W k c)) z) (set_is k arrays d a w e)
          ∙ ap (λ r. take (k + 1) (slice_set W k c) ++ shifted (k + 1) (drop (k + 1) (slice_set (all_cells arrays) k (array_left k x w))) (drop (k + 1) (slice_set W k c)) r) h
          ∙ waiting_by k (all_cells arrays) W x w c n m at g;
      last = ap (λ r. gone (k + 1) (drop (k + 1) r) (drop (k + 1) (slice_set W k c)) z) (set_is k arrays d a w e)
          ∙ ap (λ r. gone (k + 1) (drop (k + 1) (slice_set (all_cells arrays) k (array_left k x w))) (drop (k + 1) (slice_set W k c)) r) h
          ∙ gone_by k (all_cells arrays) W x w c n m at g;
    }

pub all_set : (n k : ℕ) (W : List (Option Course)) (c : Option Course) → AllByRecursion (StaysBelow n) W → StaysBelow n c → AllByRecursion (StaysBelow n) (slice_set W k c)
all_set n k [] c h b = h
all_set n zero (w ∷ W) c h b = (b, h.1)
all_set n (suc k) (w ∷ W) c h b = (h.0, all_set n k W c h.1 b)

pub all_get : (n k : ℕ) (W : List (Option Course)) (d : Option Course) → AllByRecursion (StaysBelow n) W → k < length W → StaysBelow n (slice_index_or W k d)
all_get n k [] d h b = absurd (omega (arith, b))
all_get n zero (w ∷ W) d h b = h.0
all_get n (suc k) (w ∷ W) d h b = all_get n k W d h.1 (grind (arith, b))

pub sent_below : (n k : ℕ) (x : List (List ℕ)) (w : Option Course) → StaysBelow n w → StaysBelow n (sent (carried k) x w)
sent_below n k x None b = tt
sent_below n k x (Some f) b = subst (λ q. PlaceBelow q n) (sym (carry_place f.place k x f)) b

pub reach_all : (n : ℕ) (cells : List (List ℕ)) (w : Option Course) → StaysBelow n w → length cells ≡ n → IfSome w (λ f. InReach f.place cells)
reach_all n cells None b l = tt
reach_all n cells (Some f) b l = in_reach f.place n cells b l

pub same_get : (k : ℕ) (W : List (Option Course)) (d : Option Course) → k < length W → slice_index_or W k None ≡ slice_index_or W k d
same_get k [] d b = absurd (omega (arith, b))
same_get zero (w ∷ W) d b = refl
same_get (suc k) (w ∷ W) d b = same_get k W d (grind (arith, b))

pub left_length : (k : ℕ) (x : List (List ℕ)) (w : Option Course) → length (array_left k x w) ≡ length x
left_length k x None = refl
left_length k x (Some f) = array_length f.place k x f

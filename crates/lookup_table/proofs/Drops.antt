-- A table stays sound where a pair is dropped.
use Rattle.std.proofs.Common.{◌≡◌, ◌≢◌, ℕ, ◌+◌, ◌*◌, ◌/◌, ◌^◌, ◌<◌, Bool, true, false, ◌⊎◌, List, length, set, get_or, cond, sym, ap, ◌∙◌, inl, inr, arith, subst, Option, None, Some}
use Rattle.std.specs.Prelude.{eqb, is_some, remove}
use Rattle.std.specs.List.{count_by}
use Rattle.std.proofs.lemmas.Bool.{eq-eqb, eqb-true}
use Rattle.std.proofs.lemmas.Bool.Decides.{eqb_tells}
use Rattle.std.proofs.lemmas.Grind.{common_steps}
use Rattle.std.proofs.lemmas.List.{get_or-set_same, get_or-set_other, length-set}
use Rattle.std.proofs.lemmas.List.Edits.{length-remove}
use Rattle.std.proofs.lemmas.List.Quantifiers.{position-Some}
use Rattle.std.proofs.lemmas.List.Sums.{sum_by-set, sum_by-remove}
use Rattle.std.proofs.lemmas.Option.{none-some}
use Rattle.lookup_table.specs.Table.{LookupView, bucket_count, bucket_in, key_at, is_of_bucket}
use Rattle.lookup_table.specs.Binding.{spilled_of}
use Rattle.lookup_table.specs.Sound.{IsSound, is_slot, copies}
use Rattle.lookup_table.proofs.Counts.{counted_there, none_passes, unset_key, times_unset}

abbrev weight : ℕ → Option ℕ → ℕ
weight x o = cond {A = ℕ} (is_slot x o) 1 0

-- ---- a pair of the overflow list

pub drops_overflow : (t : LookupView) (at s : ℕ) (k : List ℕ) → IsSound t → at < length t.overflow → get_or t.overflow at 0 ≡ s → key_at t.bound s ≡ Some k
    → IsSound (record t { bound = set t.bound s None; overflow = remove t.overflow at })
drops_overflow t at s k h b e keyed = record {
  few = subst (λ n. n < 2 ^ 32) (sym same) h.few;
  size = h.size ∙ ap (λ n. 4 * bucket_count n) (sym same);
  apart = λ i j key p q. h.apart i j key (unset_key t.bound s i k key keyed p).1 (unset_key t.bound s j k key keyed q).1;
  once = λ x. times_unset t.bound s x _ k keyed (fewer x ∙ h.once x);
  housed = λ c x key p q. ap (λ n. bucket_in n key) same ∙ h.housed c x key p (unset_key t.bound s x k key keyed q).1;
  full = λ c x key l f p q r. h.full c x key l f (let n = fewer x in omega (arith, n, p)) (unset_key t.bound s x k key keyed q).1 (ap (λ n. bucket_in n key) (sym same) ∙ r);
  filled = let a = sum_by-set (λ o. cond {A = ℕ} (is_some o) 1 0) t.bound s None None inside in
      let one : cond {A = ℕ} (is_some (get_or t.bound s None)) 1 0 ≡ 1 = ap (λ o. cond {A = ℕ} (is_some o) 1 0) keyed in
      let l = length-remove t.overflow at b in
      omega (arith, a, one, l, h.filled);
}
  where
    inside : s < length t.bound
    inside = grind (arith, common_steps, keyed)

    same : length (set t.bound s None) ≡ length t.bound
    same = length-set t.bound s None

    fewer : (x : ℕ) → (count_by (is_slot x) t.cells + count_by (eqb x) (remove t.overflow at)) + cond {A = ℕ} (eqb x s) 1 0 ≡ copies x t
    fewer x = let a = sum_by-remove (λ y. cond {A = ℕ} (eqb x y) 1 0) t.overflow at 0 b in
        let w : cond {A = ℕ} (eqb x (get_or t.overflow at 0)) 1 0 ≡ cond {A = ℕ} (eqb x s) 1 0 = ap (λ y. cond {A = ℕ} (eqb x y) 1 0) e in
        omega (arith, a, w)

-- ---- a pair in a cell, which takes the first overflow pair of its bucket

pub record DropsCell (t : LookupView) (c s : ℕ) (k : List ℕ) : Type 0 where
  pub sound : IsSound t
  pub within : c < length t.cells
  pub there : get_or t.cells c None ≡ Some s
  pub keyed : key_at t.bound s ≡ Some k

inside : (t : LookupView) (c s : ℕ) (k : List ℕ) → DropsCell t c s k → s < length t.bound
inside t c s k d = let keyed : key_at t.bound s ≡ Some k = d.keyed in grind (arith, common_steps)

-- the cells after a new content of the cell
recount : (t : LookupView) (c s : ℕ) (k : List ℕ) (o : Option ℕ) (x : ℕ) → DropsCell t c s k → count_by (is_slot x) (set t.cells c o) + cond {A = ℕ} (eqb x s) 1 0 ≡ count_by (is_slot x) t.cells + weight x o
recount t c s k o x d =
    let a = sum_by-set (weight x) t.cells c o None d.within in
    let w : weight x (get_or t.cells c None) ≡ cond {A = ℕ} (eqb x s) 1 0 = ap (weight x) d.there in
    omega (arith, a, w)

refill : (t : LookupView) (c s : ℕ) (k : List ℕ) (o : Option ℕ) → DropsCell t c s k → count_by is_some (set t.cells c o) + 1 ≡ count_by is_some t.cells + cond {A = ℕ} (is_some o) 1 0
refill t c s k o d =
    let a = sum_by-set (λ y. cond {A = ℕ} (is_some y) 1 0) t.cells c o None d.within in
    let w : cond {A = ℕ} (is_some (get_or t.cells c None)) 1 0 ≡ 1 = ap (λ y. cond {A = ℕ} (is_some y) 1 0) d.there in
    omega (arith, a, w)

rekey : (t : LookupView) (c s : ℕ) (k : List ℕ) → DropsCell t c s k → count_by is_some (set t.bound s None) + 1 ≡ count_by is_some t.bound
rekey t c s k d =
    let a = sum_by-set (λ y. cond {A = ℕ} (is_some y) 1 0) t.bound s None None (inside t c s k d) in
    let w : cond {A = ℕ} (is_some (get_or t.bound s None)) 1 0 ≡ 1 = ap (λ y. cond {A = ℕ} (is_some y) 1 0) d.keyed in
    omega (arith, a, w)

-- what a cell has after it, where it is another cell or this one
other_cell : (t : LookupView) (c i : ℕ) (o v : Option ℕ) → c < length t.cells → get_or (set t.cells c o) i None ≡ v → ((i ≡ c) × (o ≡ v)) ⊎ ((i ≢ c) × (get_or t.cells i None ≡ v))
other_cell t c i o v b e =
    elim (eqb_tells i c) [
      | inl q ↦ inl (q.1, sym (get_or-set_same t.cells c o None b) ∙ sym (ap (λ n. get_or (set t.cells c o) n None) q.1) ∙ e)
      | inr q ↦ inr (q.1, sym (get_or-set_other t.cells c i o None q.1) ∙ e)
    ]

-- a slot of the overflow list has no key of a bucket that nothing was found for
none_of_bucket : (bucket : ℕ) (t : LookupView) (x : ℕ) (key : List ℕ) → spilled_of bucket t ≡ None → 0 < count_by (eqb x) t.overflow → key_at t.bound x ≡ Some key → bucket_in (length t.bound) key ≡ bucket → ⊥
none_of_bucket bucket t x key e m keyed is =
    let p = counted_there (eqb x) t.overflow 0 m in
    let x_is : x ≡ get_or t.overflow p.at 0 = eqb-true x (get_or t.overflow p.at 0) p.passes in
    let fails = none_passes (λ y. is_of_bucket bucket (length t.bound) (key_at t.bound y)) t.overflow p.at 0 e p.within in
    let keyed_there : key_at t.bound (get_or t.overflow p.at 0) ≡ Some key = subst (λ y. key_at t.bound y ≡ Some key) x_is keyed in
    let passes : is_of_bucket bucket (length t.bound) (key_at t.bound (get_or t.overflow p.at 0)) ≡ true = ap (is_of_bucket bucket (length t.bound)) keyed_there ∙ eq-eqb (bucket_in (length t.bound) key) bucket is in
    absurd cc

-- nothing takes the freed cell
pub frees_cell : (t : LookupView) (c s : ℕ) (k : List ℕ) → DropsCell t c s k → spilled_of (c / 4) (record t { bound = set t.bound s None }) ≡ None
    → IsSound (record t { bound = set t.bound s None; cells = set t.cells c None })
frees_cell t c s k d none = record {
  few = subst (λ n. n < 2 ^ 32) (sym same) h.few;
  size = length-set t.cells c None ∙ h.size ∙ ap (λ n. 4 * bucket_count n) (sym same);
  apart = λ i j key p q. h.apart i j key (unset_key t.bound s i k key d.keyed p).1 (unset_key t.bound s j k key d.keyed q).1;
  once = λ x. times_unset t.bound s x _ k d.keyed (let a = recount t c s k None x d in omega (arith, a) ∙ h.once x);
  housed = λ i x key p q. ap (λ n. bucket_in n key) same ∙ (elim (other_cell t c i None (Some x) d.within p) [
    | inl e ↦ absurd (none-some x e.1)
    | inr e ↦ h.housed i x key e.1 (unset_key t.bound s x k key d.keyed q).1
  ]);
  full = λ i x key l f m q r. elim (other_cell t c i None None d.within f) [
    | inl e ↦ none_of_bucket (c / 4) (record t { bound = set t.bound s None }) x key none m q (r ∙ ap (λ n. n / 4) e.0)
    | inr e ↦ h.full i x key (subst (λ n. i < n) (length-set t.cells c None) l) e.1 m (unset_key t.bound s x k key d.keyed q).1 (ap (λ n. bucket_in n key) (sym same) ∙ r)
  ];
  filled = let a = refill t c s k None d in let b = rekey t c s k d in omega (arith, a, b, h.filled);
}
  where
    h : IsSound t
    h = d.sound

    same : length (set t.bound s None) ≡ length t.bound
    same = length-set t.bound s None

-- an overflow pair takes the freed cell
pub refills_cell : (t : LookupView) (c s p : ℕ) (k : List ℕ) → DropsCell t c s k → spilled_of (c / 4) (record t { bound = set t.bound s None }) ≡ Some p
    → IsSound (record t { bound = set t.bound s None; cells = set t.cells c (Some (get_or t.overflow p 0)); overflow = remove t.overflow p })
refills_cell t c s p k d some = record {
  few = subst (λ n. n < 2 ^ 32) (sym same) h.few;
  size = length-set t.cells c (Some q) ∙ h.size ∙ ap (λ n. 4 * bucket_count n) (sym same);
  apart = λ i j key u v. h.apart i j key (unset_key t.bound s i k key d.keyed u).1 (unset_key t.bound s j k key d.keyed v).1;
  once = λ x. times_unset t.bound s x _ k d.keyed (let a = recount t c s k (Some q) x d in let b = fewer x in omega (arith, a, b) ∙ h.once x);
  housed = λ i x key u v. ap (λ n. bucket_in n key) same ∙ (elim (other_cell t c i (Some q) (Some x) d.within u) [
    | inl e ↦ of_bucket x key (same_slot x e.1) v ∙ sym (ap (λ n. n / 4) e.0)
    | inr e ↦ h.housed i x key e.1 (unset_key t.bound s x k key d.keyed v).1
  ]);
  full = λ i x key l f m v r. elim (other_cell t c i (Some q) None d.within f) [
    | inl e ↦ absurd (none-some q (sym e.1))
    | inr e ↦ h.full i x key (subst (λ n. i < n) (length-set t.cells c (Some q)) l) e.1 (let b = fewer x in omega (arith, b, m)) (unset_key t.bound s x k key d.keyed v).1 (ap (λ n. bucket_in n key) (sym same) ∙ r)
  ];
  filled = let a = refill t c s k (Some q) d in let b = rekey t c s k d in let l = length-remove t.overflow p found.0 in omega (arith, a, b, l, h.filled);
}
  where
    h : IsSound t
    h = d.sound

    same : length (set t.bound s None) ≡ length t.bound
    same = length-set t.bound s None

    q : ℕ
    q = get_or t.overflow p 0

    test : ℕ → Bool
    test y = is_of_bucket (c / 4) (length (set t.bound s None)) (key_at (set t.bound s None) y)

    found : (p < length t.overflow) × (test q ≡ true) × ((i : ℕ) → i < p → test (get_or t.overflow i 0) ≡ false)
    found = position-Some test t.overflow p 0 some

    fewer : (x : ℕ) → count_by (eqb x) (remove t.overflow p) + cond {A = ℕ} (eqb x q) 1 0 ≡ count_by (eqb x) t.overflow
    fewer x = sum_by-remove (λ y. cond {A = ℕ} (eqb x y) 1 0) t.overflow p 0 found.0

    same_slot : (x : ℕ) → Some q ≡ Some x → q ≡ x
    same_slot x e = cc

    of_bucket : (x : ℕ) (key : List ℕ) → q ≡ x → key_at (set t.bound s None) x ≡ Some key → bucket_in (length t.bound) key ≡ c / 4
    of_bucket x key e keyed =
        let passes : is_of_bucket (c / 4) (length (set t.bound s None)) (Some key) ≡ true = sym (ap (is_of_bucket (c / 4) (length (set t.bound s None))) (ap (key_at (set t.bound s None)) e ∙ keyed)) ∙ found.1 in
        ap (λ n. bucket_in n key) (sym same) ∙ eqb-true (bucket_in (length (set t.bound s None)) key) (c / 4) passes

-- A table stays sound where a pair is added.
use Rattle.std.proofs.Common.{◌≡◌, ◌≢◌, ℕ, zero, suc, ◌+◌, ◌*◌, ◌/◌, ◌%◌, ◌^◌, ◌<◌, ◌≤◌, true, ◌⊎◌, List, [], ◌∷◌, ◌++◌, length, set, get_or, cond, sym, refl, ap, ◌∙◌, inl, inr, arith, subst, Option, None, Some}
use Rattle.std.specs.Prelude.{eqb, is_some, is_none}
use Rattle.std.specs.List.{count_by, position}
use Rattle.std.proofs.lemmas.Bool.{eq-eqb}
use Rattle.std.proofs.lemmas.Bool.Decides.{eqb_tells}
use Rattle.std.proofs.lemmas.List.{get_or-set_same, get_or-set_other, length-set, length-append}
use Rattle.std.proofs.lemmas.List.Quantifiers.{position-Some}
use Rattle.std.proofs.lemmas.List.Sums.{sum_by-set, sum_by-append, count_by-le-length}
use Rattle.std.proofs.lemmas.Grind.{common_steps}
use Rattle.std.proofs.lemmas.Nat.{div-mul-add}
use Rattle.std.proofs.lemmas.Option.{none-some}
use Rattle.lookup_table.specs.Table.{LookupView, bucket_count, bucket_in, bucket_cells, key_at}
use Rattle.lookup_table.specs.Sound.{IsSound, Nowhere, is_slot, copies, times}
use Rattle.lookup_table.proofs.Counts.{there_counted, none_passes, bucket_cell, bucket_length, set_key, times_set, within_four}

-- neither the key nor the slot is in a pair
pub record IsNew (t : LookupView) (k : List ℕ) (s : ℕ) : Type 0 where
  pub sound : IsSound t
  pub within : s < length t.bound
  pub free : key_at t.bound s ≡ None
  pub new : Nowhere k t.bound

pub is_new : (t v : LookupView) (k : List ℕ) (s : ℕ) → t ≡ v → IsSound t → s < length v.bound → key_at v.bound s ≡ None → Nowhere k v.bound → IsNew t k s
is_new t v k s e sound within free new = subst (λ (x : LookupView). IsNew x k s) (sym e) (record { sound = subst IsSound e sound; within = within; free = free; new = new })

-- a slot without a key stands nowhere
absent : (t : LookupView) (x : ℕ) → IsSound t → key_at t.bound x ≡ None → copies x t ≡ 0
absent t x h e = h.once x ∙ ap times e

not_in_cell : (t : LookupView) (x i : ℕ) → IsSound t → key_at t.bound x ≡ None → i < length t.cells → get_or t.cells i None ≡ Some x → ⊥
not_in_cell t x i h e b is =
    let there = there_counted (is_slot x) t.cells i None b (ap (is_slot x) is ∙ eq-eqb x x refl) in
    let none = absent t x h e in
    absurd (omega (arith, there, none))

not_in_overflow : (t : LookupView) (x : ℕ) → IsSound t → key_at t.bound x ≡ None → 0 < count_by (eqb x) t.overflow → ⊥
not_in_overflow t x h e m = let none = absent t x h e in absurd (omega (arith, m, none))

cell_there : (cells : List (Option ℕ)) (i x : ℕ) → get_or cells i None ≡ Some x → i < length cells
cell_there [] i x e = absurd (none-some x e)
cell_there (c ∷ cs) zero x e = omega arith
cell_there (c ∷ cs) (suc i) x e = let b = cell_there cs i x e in omega (arith, b)

rekey : (t : LookupView) (k : List ℕ) (s : ℕ) → IsNew t k s → count_by is_some (set t.bound s (Some k)) ≡ count_by is_some t.bound + 1
rekey t k s d =
    let a = sum_by-set (λ y. cond {A = ℕ} (is_some y) 1 0) t.bound s (Some k) None d.within in
    let w : cond {A = ℕ} (is_some (get_or t.bound s None)) 1 0 ≡ 0 = ap (λ y. cond {A = ℕ} (is_some y) 1 0) d.free in
    omega (arith, a, w)

keeps_apart : (t : LookupView) (k : List ℕ) (s : ℕ) → IsNew t k s → (i j : ℕ) (key : List ℕ) → key_at (set t.bound s (Some k)) i ≡ Some key → key_at (set t.bound s (Some k)) j ≡ Some key → i ≡ j
keeps_apart t k s d i j key u v =
    elim (set_key t.bound s i k key d.within u) [
      | inl e ↦ elim (set_key t.bound s j k key d.within v) [
        | inl f ↦ e.0 ∙ sym f.0
        | inr f ↦ absurd (d.new j (f.1 ∙ ap Some e.1))
      ]
      | inr e ↦ elim (set_key t.bound s j k key d.within v) [
        | inl f ↦ absurd (d.new i (e.1 ∙ ap Some f.1))
        | inr f ↦ d.sound.apart i j key e.1 f.1
      ]
    ]

-- the new pair stands in a free cell of its bucket
pub adds_cell : (t : LookupView) (k : List ℕ) (s c : ℕ) → IsNew t k s → c < length t.cells → get_or t.cells c None ≡ None → bucket_in (length t.bound) k ≡ c / 4
    → IsSound (record t { bound = set t.bound s (Some k); cells = set t.cells c (Some s) })
adds_cell t k s c d b free home = record {
  few = subst (λ n. n < 2 ^ 32) (sym same) h.few;
  size = length-set t.cells c (Some s) ∙ h.size ∙ ap (λ n. 4 * bucket_count n) (sym same);
  apart = keeps_apart t k s d;
  once = λ x. more x ∙ times_set t.bound s x (copies x t) k d.within d.free (h.once x);
  housed = λ i x key u v. ap (λ n. bucket_in n key) same ∙ (elim (cell_after i (Some x) u) [
    | inl e ↦ elim (set_key t.bound s x k key d.within v) [
      | inl f ↦ ap (bucket_in (length t.bound)) f.1 ∙ home ∙ sym (ap (λ n. n / 4) e.0)
      | inr f ↦ let eq : s ≡ x = some_same s x e.1 in absurd (f.0 (sym eq))
    ]
    | inr e ↦ elim (set_key t.bound s x k key d.within v) [
      | inl f ↦ absurd (not_in_cell t x i h (ap (key_at t.bound) f.0 ∙ d.free) (cell_there t.cells i x e.1) e.1)
      | inr f ↦ h.housed i x key e.1 f.1
    ]
  ]);
  full = λ i x key l f m v r. elim (cell_after i None f) [
    | inl e ↦ absurd (none-some s (sym e.1))
    | inr e ↦ elim (set_key t.bound s x k key d.within v) [
      | inl g ↦ not_in_overflow t x h (ap (key_at t.bound) g.0 ∙ d.free) m
      | inr g ↦ h.full i x key (subst (λ n. i < n) (length-set t.cells c (Some s)) l) e.1 m g.1 (ap (λ n. bucket_in n key) (sym same) ∙ r)
    ]
  ];
  filled = let a = sum_by-set (λ y. cond {A = ℕ} (is_some y) 1 0) t.cells c (Some s) None b in
      let w : cond {A = ℕ} (is_some (get_or t.cells c None)) 1 0 ≡ 0 = ap (λ y. cond {A = ℕ} (is_some y) 1 0) free in
      let n = rekey t k s d in
      omega (arith, a, w, n, h.filled);
}
  where
    h : IsSound t
    h = d.sound

    same : length (set t.bound s (Some k)) ≡ length t.bound
    same = length-set t.bound s (Some k)

    some_same : (x y : ℕ) → Some x ≡ Some y → x ≡ y
    some_same x y e = cc

    cell_after : (i : ℕ) (v : Option ℕ) → get_or (set t.cells c (Some s)) i None ≡ v → ((i ≡ c) × (Some s ≡ v)) ⊎ ((i ≢ c) × (get_or t.cells i None ≡ v))
    cell_after i v e =
        elim (eqb_tells i c) [
          | inl q ↦ inl (q.1, sym (get_or-set_same t.cells c (Some s) None b) ∙ sym (ap (λ n. get_or (set t.cells c (Some s)) n None) q.1) ∙ e)
          | inr q ↦ inr (q.1, sym (get_or-set_other t.cells c i (Some s) None q.1) ∙ e)
        ]

    more : (x : ℕ) → count_by (is_slot x) (set t.cells c (Some s)) + count_by (eqb x) t.overflow ≡ copies x t + cond {A = ℕ} (eqb x s) 1 0
    more x =
        let a = sum_by-set (λ y. cond {A = ℕ} (is_slot x y) 1 0) t.cells c (Some s) None b in
        let w : cond {A = ℕ} (is_slot x (get_or t.cells c None)) 1 0 ≡ 0 = ap (λ y. cond {A = ℕ} (is_slot x y) 1 0) free in
        omega (arith, a, w)

-- the new pair stands last in the overflow list, where its bucket has no free cell
pub adds_overflow : (t : LookupView) (k : List ℕ) (s : ℕ) → IsNew t k s → ((i : ℕ) → i < length t.cells → get_or t.cells i None ≡ None → bucket_in (length t.bound) k ≡ i / 4 → ⊥)
    → IsSound (record t { bound = set t.bound s (Some k); overflow = t.overflow ++ s ∷ [] })
adds_overflow t k s d taken = record {
  few = subst (λ n. n < 2 ^ 32) (sym same) h.few;
  size = h.size ∙ ap (λ n. 4 * bucket_count n) (sym same);
  apart = keeps_apart t k s d;
  once = λ x. (let a = more x in omega (arith, a)) ∙ times_set t.bound s x (copies x t) k d.within d.free (h.once x);
  housed = λ i x key u v. ap (λ n. bucket_in n key) same ∙ (elim (set_key t.bound s x k key d.within v) [
    | inl f ↦ absurd (not_in_cell t x i h (ap (key_at t.bound) f.0 ∙ d.free) (cell_there t.cells i x u) u)
    | inr f ↦ h.housed i x key u f.1
  ]);
  full = λ i x key l f m v r. elim (set_key t.bound s x k key d.within v) [
    | inl g ↦ taken i l f (sym (ap (bucket_in (length t.bound)) g.1) ∙ ap (λ n. bucket_in n key) (sym same) ∙ r)
    | inr g ↦ h.full i x key l f (earlier x g.0 m) g.1 (ap (λ n. bucket_in n key) (sym same) ∙ r)
  ];
  filled = let n = rekey t k s d in let a = length-append t.overflow (s ∷ []) in omega (arith, n, a, h.filled);
}
  where
    h : IsSound t
    h = d.sound

    same : length (set t.bound s (Some k)) ≡ length t.bound
    same = length-set t.bound s (Some k)

    more : (x : ℕ) → count_by (eqb x) (t.overflow ++ s ∷ []) ≡ count_by (eqb x) t.overflow + cond {A = ℕ} (eqb x s) 1 0
    more x = let a = sum_by-append (λ y. cond {A = ℕ} (eqb x y) 1 0) t.overflow (s ∷ []) in omega (arith, a)

    earlier : (x : ℕ) → x ≢ s → 0 < count_by (eqb x) (t.overflow ++ s ∷ []) → 0 < count_by (eqb x) t.overflow
    earlier x ne m =
        let a = more x in
        let w : cond {A = ℕ} (eqb x s) 1 0 ≡ 0 = elim (eqb_tells x s) [ inl q ↦ absurd (ne q.1) | inr q ↦ ap (λ y. cond {A = ℕ} y 1 0) q.0 ] in
        omega (arith, a, w, m)

-- there is room in the overflow list
pub room_left : (t : LookupView) (k : List ℕ) (s : ℕ) → IsNew t k s → length t.overflow < length t.bound
room_left t k s d =
    let n = rekey t k s d in
    let most = count_by-le-length is_some (set t.bound s (Some k)) in
    let same = length-set t.bound s (Some k) in
    omega (arith, n, most, same, d.sound.filled)

none_is : (o : Option ℕ) → is_none o ≡ true → o ≡ None
none_is None e = refl
none_is (Some x) e = absurd cc

-- the fields after the pair was put into the lowest free cell
pub cell_added : (t : LookupView) (k : List ℕ) (s bucket cell : ℕ) → IsNew t k s → bucket ≡ bucket_in (length t.bound) k → 4 * bucket + 4 ≤ length t.cells
    → position is_none (bucket_cells bucket t.cells) ≡ Some cell → IsSound (record t { bound = set t.bound s (Some k); cells = set t.cells (4 * bucket + cell) (Some s) })
cell_added t k s bucket cell d home there e =
    let found = position-Some is_none (bucket_cells bucket t.cells) cell None e in
    let four = within_four bucket cell t.cells found.0 in
    let free : get_or t.cells (4 * bucket + cell) None ≡ None = sym (bucket_cell bucket cell t.cells four) ∙ none_is (get_or (bucket_cells bucket t.cells) cell None) found.1 in
    let quarter : (4 * bucket + cell) / 4 ≡ bucket = ap (λ n. n / 4) (let e : 4 * bucket + cell ≡ bucket * 4 + cell = omega arith in e) ∙ div-mul-add bucket 4 cell four in
    adds_cell t k s (4 * bucket + cell) d (omega (arith, there, four)) free (sym home ∙ sym quarter)

-- the fields after the pair was put into the overflow list
pub overflow_added : (t : LookupView) (k : List ℕ) (s bucket : ℕ) → IsNew t k s → bucket ≡ bucket_in (length t.bound) k → 4 * bucket + 4 ≤ length t.cells
    → position is_none (bucket_cells bucket t.cells) ≡ None → IsSound (record t { bound = set t.bound s (Some k); overflow = t.overflow ++ s ∷ [] })
overflow_added t k s bucket d home there e = adds_overflow t k s d (λ i b free is.
    let split : 4 * (i / 4) + i % 4 ≡ i = grind (arith, common_steps) in
    let four : i % 4 < 4 = grind (arith, common_steps) in
    let at_is : 4 * bucket + i % 4 ≡ i = ap (λ n. 4 * n + i % 4) (home ∙ is) ∙ split in
    let long = bucket_length bucket t.cells there in
    let fails = none_passes is_none (bucket_cells bucket t.cells) (i % 4) None e (omega (arith, long, four)) in
    let content : get_or (bucket_cells bucket t.cells) (i % 4) None ≡ None = bucket_cell bucket (i % 4) t.cells four ∙ ap (λ n. get_or t.cells n None) at_is ∙ free in
    let passes : is_none (get_or (bucket_cells bucket t.cells) (i % 4) None) ≡ true = ap is_none content in
    absurd cc)

-- Each step on a board keeps its rule.
use Rattle.std.proofs.Common.{◌≡◌, ◌≢◌, ◌⊎◌, ℕ, zero, suc, ◌<◌, ◌≤◌, ◌^◌, max, List, [], ◌∷◌, ◌++◌, set, Bool, true, false, true≢false, refl, sym, ap, ◌∙◌, subst, ⊎_elim, arith, le_refl}
use Rattle.std.specs.Prelude.{slice_index}
use mathlib.Core.Option.{some, some-ne-none, some-injective}
use lib.ListN.{get_elem?}
use Rattle.crossbeam_utils.specs.Register.{Forks, Merges, Turns}
use Rattle.atomic_table.proofs.Lists.{at_set, at_snoc, set_again}
use Rattle.far_fabric.specs.Known.{AtMost, greater_of, having_published, having_seen, publisher, reader_of}
use Rattle.far_fabric.specs.Rule.{Fits, IsKept, Loads, Stores, figures_in, spent, taken_in}
use Rattle.far_fabric.specs.declared.view.Figures.{Figures}
use Rattle.far_fabric.specs.declared.view.View.{View}

fits_set : (number : ℕ) (words : List ℕ) (views : List View) (by : ℕ) (w : View)
    → ((j : ℕ) (u : View) → j ≢ by → get_elem? views j ≡ some u → Fits number words j u) → Fits number words by w
    → (j : ℕ) (u : View) → get_elem? (set views by w) j ≡ some u → Fits number words j u
fits_set number words views by w others mine j u e =
    ⊎_elim
    (λ (x : (j ≡ by) × (w ≡ u)). subst (λ (y : ℕ × View). Fits number words y.0 y.1) (λ i. (sym x.0 i, x.1 i)) mine)
    (λ (x : (j ≢ by) × (get_elem? views j ≡ some u)). others j u x.0 x.1)
    (at_set views by j w u e)

off : false ≡ true → ⊥
off e = true≢false (sym e)

pub begins : IsKept (0 ∷ 0 ∷ []) (publisher ∷ [])
begins = (omega arith, 0, one)
  where
    one : (by : ℕ) (v : View) → get_elem? (publisher ∷ []) by ≡ some v → Fits 0 (0 ∷ 0 ∷ []) by v
    one zero v e = subst (Fits 0 (0 ∷ 0 ∷ []) 0) (some-injective _ _ e) (record { one = λ _. refl; published = λ _. refl; seen = (le_refl 0, le_refl 0) })
    one (suc by) v e = absurd (some-ne-none v (sym e))

-- the publisher stores figures that are not below those that it stored last
pub stores : (by : ℕ) (v : View) (f : Figures) → v.publishes ≡ true → AtMost v.published f → f.answered < 2 ^ 32
    → Turns IsKept by v (λ _. f.steps ∷ f.answered ∷ []) Stores
stores by v f is up small words views h at =
    let mine = h.2 by v at in
    let steps : v.published.steps ≡ slice_index words 0 = ap (λ (g : Figures). g.steps) (mine.published is) in
    let answered : v.published.answered ≡ slice_index words 1 = ap (λ (g : Figures). g.answered) (mine.published is) in
    let own = mine.seen in
    let w : View = having_published v f in (
      w,
      (
        small,
        h.1,
        fits_set h.1 (f.steps ∷ f.answered ∷ []) views by w
            (λ j u apart e. let g = h.2 j u e in record {
              one = g.one;
              published = λ k. absurd (apart (g.one k ∙ sym (mine.one is)));
              seen = (let l = g.seen.0 in let o = up.0 in omega (arith, steps, o), let l = g.seen.1 in let o = up.1 in omega (arith, answered, o));
            })
            (record { one = mine.one; published = λ _. refl; seen = (let l = own.0 in let o = up.0 in omega (arith, steps), let l = own.1 in let o = up.1 in omega (arith, answered)) }),
      ),
      refl,
    )

pub loads : (by : ℕ) (v : View) → Turns IsKept by v (λ x. x) Loads
loads by v words views h at =
    let mine = h.2 by v at in
    let w : View = having_seen v (figures_in words) in (
      w,
      (
        h.0,
        h.1,
        fits_set h.1 words views by w (λ j u apart e. h.2 j u e)
            (record { one = mine.one; published = mine.published; seen = (le_refl _, le_refl _) }),
      ),
      record { view = refl; seen = mine.seen; published = λ is. sym (mine.published is); small = h.0 },
    )

as_reader : (number : ℕ) (words : List ℕ) (by j : ℕ) (v : View) → Fits number words by v → Fits number words j (reader_of v)
as_reader number words by j v f = record { one = λ k. absurd (off k); published = λ k. absurd (off k); seen = f.seen }

as_spent : (number : ℕ) (words : List ℕ) (j : ℕ) → Fits number words j spent
as_spent number words j = record { one = λ k. absurd (off k); published = λ k. absurd (off k); seen = (omega arith, omega arith) }

pub copies : (by : ℕ) (v : View) → Forks IsKept by v v (reader_of v)
copies by v words views h at =
    let mine = h.2 by v at in (
      h.0,
      h.1,
      λ j u e. ⊎_elim
          (λ was. h.2 j u (subst (λ l. get_elem? l j ≡ some u) (set_again views by v at) was))
          (λ (same : reader_of v ≡ u). subst (Fits h.1 words j) same (as_reader h.1 words by j v mine))
          (at_snoc (set views by v) (reader_of v) u j e),
    )

pub cuts_off : (by : ℕ) (v : View) → Forks IsKept by v spent (reader_of v)
cuts_off by v words views h at =
    let mine = h.2 by v at in (
      h.0,
      h.1,
      λ j u e. ⊎_elim
          (λ was. fits_set h.1 words views by spent (λ i x _ e'. h.2 i x e') (as_spent h.1 words by) j u was)
          (λ (same : reader_of v ≡ u). subst (Fits h.1 words j) same (as_reader h.1 words by j v mine))
          (at_snoc (set views by spent) (reader_of v) u j e),
    )

pub takes_in : (by : ℕ) (v : View) (other : ℕ) (u : View) → Merges IsKept by v other u (taken_in v u) spent
takes_in by v other u words views h at apart there =
    let w = taken_in v u in
    let mine = h.2 by v at in
    let theirs = ⊎_elim (λ (t : (other ≡ by) × (w ≡ u)). absurd (apart t.0)) (λ (t : (other ≢ by) × (get_elem? views other ≡ some u)). h.2 other u t.1) (at_set views by other w u there) in
    let a = mine.seen.0 in
    let b = mine.seen.1 in
    let c = theirs.seen.0 in
    let d = theirs.seen.1 in (
      h.0,
      h.1,
      fits_set h.1 words (set views by w) other spent (λ j x _ e. fits_set h.1 words views by w (λ i y _ e'. h.2 i y e')
          (record { one = mine.one; published = mine.published; seen = (omega arith, omega arith) }) j x e) (as_spent h.1 words other),
    )

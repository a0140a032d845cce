-- The picker gives the picks of its workload, one after the other.
use Rattle.std.proofs.Common.{◌≡◌, ℕ, zero, suc, ◌+◌, ◌-◌, ◌<◌, ◌≤◌, ◌⊎◌, inl, inr, List, [], ◌∷◌, length, refl, sym, ap, ◌∙◌, subst, Some, None, arith}
use Rattle.std.specs.Prelude.{Option, min, slice_get}
use Rattle.rand_pcg.specs.Lcg.{Lcg}
use Rattle.rand_pcg.specs.Pcg.{pcg32}
use Rattle.workload.specs.Draws.{after, seeded}
use Rattle.workload.specs.Picks.{Picking, drawn, first_picking, generator_by, listed_or, next_pick}
use Rattle.workload.specs.WorkView.{WorkView}
use Rattle.far_runner.specs.Picked.{IsAt, draw_or_zero, drawn_from, pick_of, pick_or}

after_last : (k : ℕ) (g : Lcg) → (pcg32 (after k g)).1 ≡ after (suc k) g
unfolding after
after_last zero g = refl
after_last (suc k) g = after_last k (pcg32 g).1

first_draw : (g : Lcg) → after 0 g ≡ g
unfolding after
first_draw g = refl

there : {A : Type 0} → (xs : List A) (n : ℕ) → n < length xs → (a : A) × (slice_get xs n ≡ Some a)
there [] n h = absurd (omega arith)
there (x ∷ xs) zero h = (x, refl)
there (x ∷ xs) (suc n) h = there xs n (omega arith)

past : {A : Type 0} → (xs : List A) (n : ℕ) → length xs ≤ n → slice_get xs n ≡ None
past [] n h = refl
past (x ∷ xs) zero h = absurd (omega arith)
past (x ∷ xs) (suc n) h = past xs n (omega arith)

or_past : (a b : ℕ) → (a < b) ⊎ (b ≤ a)
or_past zero zero = inr (omega arith)
or_past zero (suc b) = inl (omega arith)
or_past (suc a) zero = inr (omega arith)
or_past (suc a) (suc b) = go (or_past a b)
  where
    go : (a < b) ⊎ (b ≤ a) → (suc a < suc b) ⊎ (suc b ≤ suc a)
    go (inl h) = inl (omega arith)
    go (inr h) = inr (omega arith)

record Next (work : WorkView) (n : ℕ) (pick : ℕ) (p : Picking) : Type 0 where
  pub is : pick ≡ pick_of work n
  pub at : IsAt work (n + 1) p

drawn_next : (work : WorkView) (n : ℕ) (p : Picking) → length work.picks ≤ n → IsAt work n p → (random : Option ℕ) → work.random ≡ random → Next work n (drawn p p.rng).0 (drawn p p.rng).1
drawn_next work n p h at None e =
    let rng : p.rng ≡ None = at.rng ∙ ap (λ (r : Option ℕ). drawn_from r (n - length work.picks)) e in
    let gone : slice_get work.picks n ≡ None = past work.picks n h in
    subst (λ (r : Option Lcg). Next work n (drawn p r).0 (drawn p r).1) (sym rng) (record {
      is = sym (ap (λ (o : Option ℕ). pick_or o work.random (n - length work.picks)) gone ∙ ap (λ (r : Option ℕ). draw_or_zero r (n - length work.picks)) e);
      at = record { place = at.place ∙ (let x : min n (length work.picks) ≡ length work.picks = omega arith in let y : min (n + 1) (length work.picks) ≡ length work.picks = omega arith in x ∙ sym y); rng = rng ∙ sym (ap (λ (r : Option ℕ). drawn_from r (n + 1 - length work.picks)) e) };
    })
drawn_next work n p h at (Some start) e =
    let k = n - length work.picks in
    let rng : p.rng ≡ Some (after k (seeded start)) = at.rng ∙ ap (λ (r : Option ℕ). drawn_from r k) e in
    let gone : slice_get work.picks n ≡ None = past work.picks n h in
    let more : n + 1 - length work.picks ≡ suc k = omega arith in
    subst (λ (r : Option Lcg). Next work n (drawn p r).0 (drawn p r).1) (sym rng) (record {
      is = sym (ap (λ (o : Option ℕ). pick_or o work.random k) gone ∙ ap (λ (r : Option ℕ). draw_or_zero r k) e);
      at = record {
        place = at.place ∙ (let x : min n (length work.picks) ≡ length work.picks = omega arith in let y : min (n + 1) (length work.picks) ≡ length work.picks = omega arith in x ∙ sym y);
        rng = ap Some (after_last k (seeded start)) ∙ sym (ap (λ (r : Option ℕ). drawn_from r (n + 1 - length work.picks)) e ∙ ap (λ (m : ℕ). Some (after m (seeded start))) more);
      };
    })

pub next_is : (work : WorkView) (n : ℕ) (p : Picking) → IsAt work n p → ((next_pick work.picks p).0 ≡ pick_of work n) × IsAt work (n + 1) (next_pick work.picks p).1
unfolding next_pick
next_is work n p at = go (or_past n (length work.picks))
  where
    go : (n < length work.picks) ⊎ (length work.picks ≤ n) → ((listed_or p (slice_get work.picks p.place)).0 ≡ pick_of work n) × IsAt work (n + 1) (listed_or p (slice_get work.picks p.place)).1
    go (inl h) =
        let place : p.place ≡ n = at.place ∙ (let x : min n (length work.picks) ≡ n = omega arith in x) in
        let one = there work.picks n h in
        let none : n - length work.picks ≡ n + 1 - length work.picks = omega arith in
        rw (place, one.1) (refl, record { place = let x : n + 1 ≡ min (n + 1) (length work.picks) = omega arith in x; rng = at.rng ∙ ap (λ (k : ℕ). drawn_from work.random k) none })
    go (inr h) =
        let place : p.place ≡ length work.picks = at.place ∙ (let x : min n (length work.picks) ≡ length work.picks = omega arith in x) in
        let none : slice_get work.picks p.place ≡ None = ap (λ (i : ℕ). slice_get work.picks i) place ∙ past work.picks (length work.picks) (omega arith) in
        let next = drawn_next work n p h at work.random refl in
        rw none (next.is, next.at)

pub starts : (work : WorkView) → IsAt work 0 (first_picking work)
starts work = record { place = let x : 0 ≡ min 0 (length work.picks) = omega arith in x; rng = go work.random }
  where
    none : 0 - length work.picks ≡ 0
    none = omega arith

    go : (r : Option ℕ) → generator_by r ≡ drawn_from r (0 - length work.picks)
    go None = refl
    go (Some start) = ap Some (sym (ap (λ (k : ℕ). after k (seeded start)) none ∙ first_draw (seeded start)))

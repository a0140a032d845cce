-- A valid plan stays valid where an order to stop is put behind the others of a plan that has none.
use Rattle.std.proofs.Common.{◌≡◌, ℕ, ◌+◌, ◌≤◌, Bool, true, false, cond, List, [], ◌∷◌, ◌++◌, refl, ap, ◌∙◌, arith}
use Rattle.std.specs.Prelude.{if◌then◌else◌, ◌||◌}
use Rattle.std.specs.List.{AllByRecursion, count_by, list_any}
use Rattle.std.proofs.lemmas.List.Sums.{sum_by-append, sum_by-cons}
use Rattle.far_base.specs.Limits.{IsPlan, due_number, is_slot_order, is_snap, is_stop}
use Rattle.far_base.specs.PlanView.{PlanView}
use Rattle.far_base.specs.declared.plan.Order.TheVariants.{Stop}
use Rattle.far_base.specs.declared.plan.TheConstants.{STEP_LIMIT}
use Rattle.workload.specs.Plain.{IsPlain}
use Rattle.workload.specs.WorkView.{WorkView}
use Rattle.run_main.specs.Images.{has_stop, stopping, with_stop}

all_more : {X : Type 0} (P : X → Type 0) (xs : List X) (x : X) → AllByRecursion P xs → P x → AllByRecursion P (xs ++ x ∷ [])
all_more P [] x h p = (p, tt)
all_more P (y ∷ ys) x h p = (h.0, all_more P ys x h.1 p)

-- where none is, none is counted
none_counted : {X : Type 0} (p : X → Bool) (xs : List X) → list_any p xs ≡ false → count_by p xs ≡ 0
none_counted p [] h = refl
none_counted p (x ∷ xs) h = go (p x) refl h (λ k. none_counted p xs k)
  where
    go : (b : Bool) → p x ≡ b → (b || list_any p xs) ≡ false → (list_any p xs ≡ false → count_by p xs ≡ 0) → count_by p (x ∷ xs) ≡ 0
    go true e k f = absurd cc
    go false e k f =
        let all = sum_by-cons (λ y. cond {A = ℕ} (p y) 1 0) x xs in
        let off : cond {A = ℕ} (p x) 1 0 ≡ 0 = ap (λ b. cond {A = ℕ} b 1 0) e in
        let none = f k in
        omega (arith, all, off, none)

count_more : {X : Type 0} (p : X → Bool) (xs : List X) (x : X) → count_by p (xs ++ x ∷ []) ≡ count_by p xs + cond {A = ℕ} (p x) 1 0
count_more p xs x = sum_by-append (λ y. cond {A = ℕ} (p y) 1 0) xs (x ∷ []) ∙ ap (λ n. count_by p xs + n) (sum_by-cons (λ y. cond {A = ℕ} (p y) 1 0) x [] ∙ omega arith)

stopping_valid : (plan : PlanView) → IsPlan plan → IsPlan (stopping plan)
stopping_valid plan h = go (has_stop plan) refl
  where
    go : (b : Bool) → has_stop plan ≡ b → IsPlan (if b then plan else record plan { orders = plan.orders ++ Stop STEP_LIMIT ∷ [] })
    go true e = h
    go false e = record {
      config = h.config;
      count = h.count;
      ops = h.ops;
      slot_orders = let n = count_more is_slot_order plan.orders (Stop STEP_LIMIT) in let l = h.slot_orders in omega (arith, n, l);
      snaps = let n = count_more is_snap plan.orders (Stop STEP_LIMIT) in let l = h.snaps in omega (arith, n, l);
      stops = let n = count_more is_stop plan.orders (Stop STEP_LIMIT) in let z = none_counted is_stop plan.orders e in omega (arith, n, z);
      steps = all_more (λ o. due_number o ≤ STEP_LIMIT) plan.orders (Stop STEP_LIMIT) h.steps (omega arith);
    }

pub stopping_plain : (work : WorkView) → IsPlain work → IsPlain (with_stop work)
stopping_plain work h = record { plan = stopping_valid work.plan h.plan; count = h.count; picks = h.picks; random = h.random }

any_last : {X : Type 0} (p : X → Bool) (xs : List X) (x : X) → p x ≡ true → list_any p (xs ++ x ∷ []) ≡ true
any_last p [] x h = ap (λ b. b || false) h
any_last p (y ∷ ys) x h = go (p y) (any_last p ys x h)
  where
    go : (b : Bool) → list_any p (ys ++ x ∷ []) ≡ true → (b || list_any p (ys ++ x ∷ [])) ≡ true
    go true k = refl
    go false k = k

pub stopping_stops : (work : WorkView) → has_stop (with_stop work).plan ≡ true
stopping_stops work = go (has_stop work.plan) refl
  where
    go : (b : Bool) → has_stop work.plan ≡ b → has_stop (if b then work.plan else record work.plan { orders = work.plan.orders ++ Stop STEP_LIMIT ∷ [] }) ≡ true
    go true e = e
    go false e = any_last is_stop work.plan.orders (Stop STEP_LIMIT) refl

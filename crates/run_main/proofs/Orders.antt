-- A valid plan has few orders.
use Rattle.std.proofs.Common.{◌≡◌, ℕ, ◌+◌, ◌≤◌, Bool, cond, List, [], ◌∷◌, length, refl, arith}
use Rattle.std.proofs.lemmas.List.Sums.{sum_by-cons}
use Rattle.std.specs.List.{count_by}
use Rattle.far_base.specs.Limits.{IsPlan, is_slot_order, is_snap, is_stop}
use Rattle.far_base.specs.PlanView.{PlanView}
use Rattle.far_base.specs.declared.plan.Order.{Order}
use Rattle.far_base.specs.declared.plan.Order.TheVariants.{Admit, Evict, Snap, Stop, StopAt}
use Rattle.far_base.specs.declared.plan.TheConstants.{ORDER_LIMIT, SNAP_LIMIT, STOP_LIMIT}

of_one_kind : (order : Order) → cond {A = ℕ} (is_slot_order order) 1 0 + (cond {A = ℕ} (is_snap order) 1 0 + cond {A = ℕ} (is_stop order) 1 0) ≡ 1
of_one_kind (Admit step key) = refl
of_one_kind (Evict step key) = refl
of_one_kind (Snap step) = refl
of_one_kind (Stop step) = refl
of_one_kind (StopAt kind times) = refl

all_counted : (orders : List Order) → length orders ≡ count_by is_slot_order orders + (count_by is_snap orders + count_by is_stop orders)
all_counted [] = refl
all_counted (order ∷ orders) = omega (arith, all_counted orders, of_one_kind order, more is_slot_order, more is_snap, more is_stop)
  where
    more : (p : Order → Bool) → count_by p (order ∷ orders) ≡ cond {A = ℕ} (p order) 1 0 + count_by p orders
    more p = sum_by-cons (λ other. cond {A = ℕ} (p other) 1 0) order orders

pub few_orders : (plan : PlanView) → IsPlan plan → length plan.orders ≤ ORDER_LIMIT + (SNAP_LIMIT + STOP_LIMIT)
few_orders plan valid = omega (arith, all_counted plan.orders, valid.slot_orders, valid.snaps, valid.stops)

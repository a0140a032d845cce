-- Scripts, the work of a plan at its opening, and its bound.
use Rattle.std.proofs.Common.{◌≡◌, ℕ, zero, suc, ◌+◌, ◌*◌, ◌^◌, ◌≤◌, ◌<◌, ◌⊎◌, inl, inr, Bool, true, false, cond, nat_eq, List, [], ◌∷◌, length, refl, ap, ◌∙◌, arith, mul-le-mul, ne_eqb, eq-eqb, mul-add}
use Rattle.std.specs.List.{count_by, sum_by}
use Rattle.std.proofs.lemmas.Bool.{cases_eq}
use Rattle.std.proofs.lemmas.List.Sums.{sum_by-cons}
use Rattle.far_base.specs.Limits.{IsPlan, is_slot_order, is_snap, is_stop}
use Rattle.far_base.specs.PlanView.{PlanView}
use Rattle.far_base.specs.declared.plan.OpLine.{OpLine}
use Rattle.far_base.specs.declared.plan.Order.{Order}
use Rattle.far_base.specs.declared.plan.Order.TheVariants.{Admit as AdmitOrder, Evict as EvictOrder, Snap as SnapOrder, Stop as StopOrder, StopAt as StopAtOrder}
use Rattle.far_model.specs.Clients.{opening_client, script_from}
use Rattle.far_model.specs.State.{clients_from, opening}
use Rattle.far_model.specs.View.{SwitchView, opening_view}
use Rattle.far_model.specs.Work.{client_weight, order_weight, work_bound, work_left}
use Rattle.flight_laws.proofs.Working.{untaken_opening}

-- ---- scripts

-- the lengths of the scripts of so many clients, from client n on
unfoldable pub scripts : ℕ → List OpLine → ℕ → ℕ → ℕ
scripts op ops n zero = 0
scripts op ops n (suc more) = length (script_from op ops n) + scripts op ops (suc n) more

-- how many of these clients a line belongs to
hits : ℕ → ℕ → ℕ → ℕ
hits client n zero = 0
hits client n (suc more) = cond {A = ℕ} (nat_eq client n) 1 0 + hits client (suc n) more

no_hits : (client n more : ℕ) → client < n → hits client n more ≡ 0
unfolding hits
no_hits client n zero h = refl
no_hits client n (suc more) h =
    let one : cond {A = ℕ} (nat_eq client n) 1 0 ≡ 0 = ap (λ b. cond {A = ℕ} b 1 0) (ne_eqb client n (λ e. omega arith)) in
    omega (arith, one, no_hits client (suc n) more (omega arith))

one_hit : (client n more : ℕ) → hits client n more ≤ 1
unfolding hits
one_hit client n zero = omega arith
one_hit client n (suc more) = by (one_hit client (suc n) more) (cases_eq client n)
  where
    by : hits client (suc n) more ≤ 1 → (client ≡ n) ⊎ (client ≡ n → ⊥) → cond {A = ℕ} (nat_eq client n) 1 0 + hits client (suc n) more ≤ 1
    by h (inl e) =
        let one : cond {A = ℕ} (nat_eq client n) 1 0 ≡ 1 = ap (λ b. cond {A = ℕ} b 1 0) (eq-eqb client n e) in
        omega (arith, one, no_hits client (suc n) more (omega arith))
    by h (inr d) =
        let one : cond {A = ℕ} (nat_eq client n) 1 0 ≡ 0 = ap (λ b. cond {A = ℕ} b 1 0) (ne_eqb client n d) in
        omega (arith, one, h)

script_longer : (op : ℕ) (line : OpLine) (lines : List OpLine) (n : ℕ) → length (script_from op (line ∷ lines) n) ≡ cond {A = ℕ} (nat_eq line.client n) 1 0 + length (script_from (suc op) lines n)
script_longer op line lines n = by (nat_eq line.client n)
  where
    by : (b : Bool) → length (cond b (op ∷ script_from (suc op) lines n) (script_from (suc op) lines n)) ≡ cond {A = ℕ} b 1 0 + length (script_from (suc op) lines n)
    by true = omega arith
    by false = omega arith

scripts_longer : (op : ℕ) (line : OpLine) (lines : List OpLine) (n more : ℕ) → scripts op (line ∷ lines) n more ≡ hits line.client n more + scripts (suc op) lines n more
unfolding scripts hits
scripts_longer op line lines n zero = refl
scripts_longer op line lines n (suc more) = omega (arith, script_longer op line lines n, scripts_longer op line lines (suc n) more)

no_scripts : (op n more : ℕ) → scripts op [] n more ≡ 0
unfolding scripts
no_scripts op n zero = refl
no_scripts op n (suc more) = omega (arith, no_scripts op (suc n) more)

pub scripts_most : (op : ℕ) (ops : List OpLine) (n more : ℕ) → scripts op ops n more ≤ length ops
scripts_most op [] n more = omega (arith, no_scripts op n more)
scripts_most op (line ∷ lines) n more = omega (arith, scripts_longer op line lines n more, one_hit line.client n more, scripts_most (suc op) lines n more)

clients_weigh : (ops : List OpLine) (n more : ℕ) → sum_by client_weight (clients_from ops n more) ≡ 24 * scripts 1 ops n more
unfolding scripts
clients_weigh ops n zero = refl
clients_weigh ops n (suc more) = sum_by-cons client_weight (opening_client ops n) (clients_from ops (suc n) more) ∙ omega (arith, clients_weigh ops (suc n) more)

-- each operation weighs 24 before it is sent
clients_most : (ops : List OpLine) (more : ℕ) → sum_by client_weight (clients_from ops 0 more) ≤ 24 * length ops
clients_most ops more = omega (arith, clients_weigh ops 0 more, scripts_most 1 ops 0 more)

-- ---- orders

-- the most that an order to take a snapshot or to stop weighs
most_weight : PlanView → ℕ
most_weight plan = 2 * plan.config.clients + 3 * length plan.ops + 2 * plan.config.slots + 2 * plan.config.servers + 3

times_cons : (m : ℕ) (test : Order → Bool) (o : Order) (orders : List Order) → m * count_by test (o ∷ orders) ≡ m * cond {A = ℕ} (test o) 1 0 + m * count_by test orders
times_cons m test o orders = ap (λ n. m * n) (sum_by-cons (λ x. cond {A = ℕ} (test x) 1 0) o orders) ∙ mul-add m (cond {A = ℕ} (test o) 1 0) (count_by test orders)

orders_most : (plan : PlanView) (m : ℕ) (orders : List Order) → most_weight plan ≤ m → sum_by (order_weight plan) orders ≤ 19 * count_by is_slot_order orders + m * count_by is_snap orders + m * count_by is_stop orders
unfolding most_weight
orders_most plan m [] le = omega arith
orders_most plan m (AdmitOrder step key ∷ orders) le =
    let o : Order = AdmitOrder step key in
    let slot : count_by is_slot_order (o ∷ orders) ≡ 1 + count_by is_slot_order orders = sum_by-cons (λ x. cond {A = ℕ} (is_slot_order x) 1 0) o orders in
    let snap : m * count_by is_snap (o ∷ orders) ≡ m * 0 + m * count_by is_snap orders = times_cons m is_snap o orders in
    let stop : m * count_by is_stop (o ∷ orders) ≡ m * 0 + m * count_by is_stop orders = times_cons m is_stop o orders in
    omega (arith, orders_most plan m orders le, sum_by-cons (order_weight plan) o orders, slot, snap, stop, le)
orders_most plan m (EvictOrder step key ∷ orders) le =
    let o : Order = EvictOrder step key in
    let slot : count_by is_slot_order (o ∷ orders) ≡ 1 + count_by is_slot_order orders = sum_by-cons (λ x. cond {A = ℕ} (is_slot_order x) 1 0) o orders in
    let snap : m * count_by is_snap (o ∷ orders) ≡ m * 0 + m * count_by is_snap orders = times_cons m is_snap o orders in
    let stop : m * count_by is_stop (o ∷ orders) ≡ m * 0 + m * count_by is_stop orders = times_cons m is_stop o orders in
    omega (arith, orders_most plan m orders le, sum_by-cons (order_weight plan) o orders, slot, snap, stop, le)
orders_most plan m (SnapOrder step ∷ orders) le =
    let o : Order = SnapOrder step in
    let slot : count_by is_slot_order (o ∷ orders) ≡ 0 + count_by is_slot_order orders = sum_by-cons (λ x. cond {A = ℕ} (is_slot_order x) 1 0) o orders in
    let snap : m * count_by is_snap (o ∷ orders) ≡ m * 1 + m * count_by is_snap orders = times_cons m is_snap o orders in
    let stop : m * count_by is_stop (o ∷ orders) ≡ m * 0 + m * count_by is_stop orders = times_cons m is_stop o orders in
    omega (arith, orders_most plan m orders le, sum_by-cons (order_weight plan) o orders, slot, snap, stop, le)
orders_most plan m (StopOrder step ∷ orders) le =
    let o : Order = StopOrder step in
    let slot : count_by is_slot_order (o ∷ orders) ≡ 0 + count_by is_slot_order orders = sum_by-cons (λ x. cond {A = ℕ} (is_slot_order x) 1 0) o orders in
    let snap : m * count_by is_snap (o ∷ orders) ≡ m * 0 + m * count_by is_snap orders = times_cons m is_snap o orders in
    let stop : m * count_by is_stop (o ∷ orders) ≡ m * 1 + m * count_by is_stop orders = times_cons m is_stop o orders in
    omega (arith, orders_most plan m orders le, sum_by-cons (order_weight plan) o orders, slot, snap, stop, le)
orders_most plan m (StopAtOrder kind times ∷ orders) le =
    let o : Order = StopAtOrder kind times in
    let slot : count_by is_slot_order (o ∷ orders) ≡ 0 + count_by is_slot_order orders = sum_by-cons (λ x. cond {A = ℕ} (is_slot_order x) 1 0) o orders in
    let snap : m * count_by is_snap (o ∷ orders) ≡ m * 0 + m * count_by is_snap orders = times_cons m is_snap o orders in
    let stop : m * count_by is_stop (o ∷ orders) ≡ m * 1 + m * count_by is_stop orders = times_cons m is_stop o orders in
    omega (arith, orders_most plan m orders le, sum_by-cons (order_weight plan) o orders, slot, snap, stop, le)

-- ---- the opening work

opening_parts : (plan : PlanView) → work_left plan (opening plan) ≡ sum_by client_weight (clients_from plan.ops 0 plan.config.clients) + sum_by (order_weight plan) plan.orders
opening_parts plan =
    let v : SwitchView = opening_view plan.config 1 0 in
    omega (arith, untaken_opening plan.config 0 0 (length v.slots))

three : (m a b : ℕ) → m * (a + b + 1) ≡ m * a + m * b + m
three m a b = omega arith

sizes : PlanView → ℕ
sizes plan = length plan.ops + count_by is_slot_order plan.orders + plan.config.slots + plan.config.clients + plan.config.servers + 1

pub opening_within : (plan : PlanView) → work_left plan (opening plan) ≤ work_bound plan
unfolding sizes most_weight
opening_within plan =
    let m : ℕ = 32 * sizes plan in
    let most : most_weight plan ≤ m = omega arith in
    let few : 24 * length plan.ops + 19 * count_by is_slot_order plan.orders ≤ m = omega arith in
    bound m few (orders_most plan m plan.orders most)
  where
    bound : (m : ℕ) → 24 * length plan.ops + 19 * count_by is_slot_order plan.orders ≤ m → sum_by (order_weight plan) plan.orders ≤ 19 * count_by is_slot_order plan.orders + m * count_by is_snap plan.orders + m * count_by is_stop plan.orders
        → work_left plan (opening plan) ≤ m * (count_by is_snap plan.orders + count_by is_stop plan.orders + 1)
    bound m few orders =
        let product : m * (count_by is_snap plan.orders + count_by is_stop plan.orders + 1) ≡ m * count_by is_snap plan.orders + m * count_by is_stop plan.orders + m = three m (count_by is_snap plan.orders) (count_by is_stop plan.orders) in
        omega (arith, opening_parts plan, clients_most plan.ops plan.config.clients, orders, few, product)

-- ---- the greatest plan

pub bound_small : (plan : PlanView) → IsPlan plan → work_bound plan < 2 ^ 28
unfolding sizes
bound_small plan p =
    let events : ℕ = count_by is_snap plan.orders + count_by is_stop plan.orders + 1 in
    let first : 32 * sizes plan ≤ 32 * 52129 = omega (arith, p.count, p.slot_orders, p.config.slots.1, p.config.clients.1, p.config.servers.1) in
    let second : events ≤ 129 = omega (arith, p.snaps, p.stops) in
    let product : 32 * sizes plan * events ≤ 32 * 52129 * 129 = mul-le-mul first second in
    omega (arith, product)

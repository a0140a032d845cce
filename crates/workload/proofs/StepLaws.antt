-- The steps of the lines add what they name, within the limits, and nothing else.
use Rattle.std.proofs.Common.{◌≡◌, ℕ, ◌+◌, ◌≤◌, ◌<◌, Bool, true, false, cond, List, [], ◌∷◌, ◌++◌, length, refl, sym, ap, subst, ◌∙◌, arith, append_assoc}
use Rattle.std.specs.Prelude.{Option, Some, None, Result, Ok, Err, nat_le, nat_lt}
use Rattle.std.specs.List.{flat_map, count_by, AllByRecursion}
use Rattle.std.proofs.lemmas.Bool.Decides.{nat_tests}
use Rattle.std.proofs.lemmas.List.{append-nil, length-append}
use Rattle.std.proofs.lemmas.List.Sums.{sum_by-append}
use Rattle.far_base.specs.Limits.{IsOpLine, IsPlan, due_number, is_slot_order, is_snap, is_stop}
use Rattle.far_base.specs.Padded.{length_of}
use Rattle.far_base.specs.declared.body.TheConstants.{BODY_LIMIT}
use Rattle.far_base.specs.declared.plan.Config.{Config}
use Rattle.far_base.specs.declared.plan.OpLine.{OpLine}
use Rattle.far_base.specs.declared.plan.Order.{Order}
use Rattle.far_base.specs.declared.plan.Order.TheVariants.{Admit, Evict, Snap, Stop, StopAt}
use Rattle.far_base.specs.declared.plan.TheConstants.{OP_LIMIT, ORDER_LIMIT, SNAP_LIMIT, STOP_LIMIT, STEP_LIMIT}
use Rattle.workload.specs.Forms.{Form, OfOp, OfOrder, OfPicks, OfRandom, with_op, with_order, with_picks, with_random, op_counted, op_short, op_step, passed, unless, order_step, picks_step, random_by, step}
use Rattle.far_text.specs.Numbers.{IsNumber}
use Rattle.workload.specs.Meaning.{IsOpForm, IsOrderForm, IsForm, op_in, order_in, picks_in, random_in, starts, IsWithin}
use Rattle.workload.specs.Outcome.{◌andthen◌}
use Rattle.workload.specs.WorkView.{WorkView}
use Rattle.workload.specs.declared.fault.Limit.{Limit}
use Rattle.workload.specs.declared.fault.Limit.TheVariants.{Body, Ops, Orders, Snaps, Stops, Picks as PickCount}
use Rattle.workload.specs.declared.fault.WorkFault.{WorkFault}
use Rattle.workload.specs.declared.fault.WorkFault.TheVariants.{BadLine, TooLarge}
use Rattle.workload.specs.declared.load.TheConstants.{PICK_LIMIT}
use Rattle.workload.proofs.ByLine.{same_ok}
use Rattle.workload.proofs.LineLaws.{bind_ok, steps}

-- ---- all of a list

pub all_join : {A : Type 0} (P : A → Type 0) (xs ys : List A) → AllByRecursion P xs → AllByRecursion P ys → AllByRecursion P (xs ++ ys)
all_join P [] ys h k = k
all_join P (x ∷ xs) ys h k = (h.0, all_join P xs ys h.1 k)

pub all_at : {A : Type 0} (P : A → Type 0) (xs : List A) (y : A) (ys : List A) → AllByRecursion P (xs ++ y ∷ ys) → P y
all_at P [] y ys h = h.0
all_at P (x ∷ xs) y ys h = all_at P xs y ys h.1

count_join : {A : Type 0} (p : A → Bool) (xs ys : List A) → count_by p (xs ++ ys) ≡ count_by p xs + count_by p ys
count_join {A} p xs ys = sum_by-append (λ (x : A). cond {A = ℕ} (p x) 1 0) xs ys

-- ---- what is added

pub record Adds (v w : WorkView) (new_ops : List OpLine) (new_orders : List Order) (new_picks new_starts : List ℕ) : Type 0 where
  pub config : w.plan.config ≡ v.plan.config
  pub ops : w.plan.ops ≡ v.plan.ops ++ new_ops
  pub orders : w.plan.orders ≡ v.plan.orders ++ new_orders
  pub picks : w.picks ≡ v.picks ++ new_picks
  pub random : starts w.random ≡ starts v.random ++ new_starts

abbrev pub AddsForm : WorkView → WorkView → Form → Type 0
AddsForm v w form = Adds v w (op_in form) (order_in form) (picks_in form) (random_in form)

abbrev pub AddsForms : WorkView → WorkView → List Form → Type 0
AddsForms v w forms = Adds v w (flat_map op_in forms) (flat_map order_in forms) (flat_map picks_in forms) (flat_map random_in forms)

cond_ok : (b : Bool) (r : Result WorkView WorkFault) (fault : WorkFault) (w : WorkView) → cond b r (Err fault) ≡ Ok w → (b ≡ true) × (r ≡ Ok w)
cond_ok true r fault w e = (refl, e)
cond_ok false r fault w e = absurd cc

abbrev Result_of : WorkView → WorkView → Form → Type 0
Result_of v w form = AddsForm v w form × IsWithin w

op_takes : (n : ℕ) (v w : WorkView) (line : OpLine) → op_step n v line ≡ Ok w → IsOpForm line → IsWithin v → Result_of v w (OfOp line)
op_takes n v w line e f h =
    let a = cond_ok (nat_lt line.client v.plan.config.clients) (op_short n v line) (BadLine n) w e in
    let b = cond_ok (nat_le (length_of line.body) BODY_LIMIT) (op_counted n v line) (TooLarge Body n) w a.1 in
    let c = cond_ok (nat_lt (length v.plan.ops) OP_LIMIT) (Ok (with_op v line)) (TooLarge Ops n) w b.1 in
    let a0 : nat_lt line.client v.plan.config.clients ≡ true = a.0 in
    let b0 : nat_le (length_of line.body) BODY_LIMIT ≡ true = b.0 in
    let c0 : nat_lt (length v.plan.ops) OP_LIMIT ≡ true = c.0 in
    let client : line.client < v.plan.config.clients = grind (arith, nat_tests) in
    let short : length_of line.body ≤ BODY_LIMIT = grind (arith, nat_tests) in
    let room : length v.plan.ops < OP_LIMIT = grind (arith, nat_tests) in
    let fits : IsOpLine v.plan.config.clients line = record { client = client; body = f.body } in
    let adds : AddsForm v (with_op v line) (OfOp line) = record { config = refl; ops = refl; orders = sym (append-nil v.plan.orders); picks = sym (append-nil v.picks); random = sym (append-nil (starts v.random)) } in
    let plan : IsPlan (with_op v line).plan = record {
      config = h.plain.plan.config;
      count = omega (arith, room, length-append v.plan.ops (line ∷ []));
      ops = all_join (IsOpLine v.plan.config.clients) v.plan.ops (line ∷ []) h.plain.plan.ops (fits, tt);
      slot_orders = h.plain.plan.slot_orders;
      snaps = h.plain.plan.snaps;
      stops = h.plain.plan.stops;
      steps = h.plain.plan.steps;
    } in
    let within : IsWithin (with_op v line) = record {
      plain = record { plan = plan; count = h.plain.count; picks = h.plain.picks; random = h.plain.random };
      bodies = all_join (λ line. length_of line.body ≤ BODY_LIMIT) v.plan.ops (line ∷ []) h.bodies (short, tt);
    } in
    subst (λ (y : WorkView). Result_of v y (OfOp line)) (same_ok (with_op v line) w c.1) (adds, within)

none_or : (b : Bool) (which : Limit) → cond b None (Some which) ≡ None → b ≡ true
none_or true which e = refl
none_or false which e = absurd cc

pub record AreFew (orders : List Order) : Type 0 where
  pub slot_orders : count_by is_slot_order orders ≤ ORDER_LIMIT
  pub snaps : count_by is_snap orders ≤ SNAP_LIMIT
  pub stops : count_by is_stop orders ≤ STOP_LIMIT

room_takes : (orders : List Order) (order : Order) → AreFew orders → passed orders order ≡ None → AreFew (orders ++ order ∷ [])
room_takes orders (Admit step key) h e =
    let a : nat_lt (count_by is_slot_order orders) ORDER_LIMIT ≡ true = none_or _ Orders e in
    let b : count_by is_slot_order orders < ORDER_LIMIT = grind (arith, nat_tests) in
    record { slot_orders = omega (arith, b, count_join is_slot_order orders (Admit step key ∷ [])); snaps = omega (arith, h.snaps, count_join is_snap orders (Admit step key ∷ [])); stops = omega (arith, h.stops, count_join is_stop orders (Admit step key ∷ [])) }
room_takes orders (Evict step key) h e =
    let a : nat_lt (count_by is_slot_order orders) ORDER_LIMIT ≡ true = none_or _ Orders e in
    let b : count_by is_slot_order orders < ORDER_LIMIT = grind (arith, nat_tests) in
    record { slot_orders = omega (arith, b, count_join is_slot_order orders (Evict step key ∷ [])); snaps = omega (arith, h.snaps, count_join is_snap orders (Evict step key ∷ [])); stops = omega (arith, h.stops, count_join is_stop orders (Evict step key ∷ [])) }
room_takes orders (Snap step) h e =
    let a : nat_lt (count_by is_snap orders) SNAP_LIMIT ≡ true = none_or _ Snaps e in
    let b : count_by is_snap orders < SNAP_LIMIT = grind (arith, nat_tests) in
    record { slot_orders = omega (arith, h.slot_orders, count_join is_slot_order orders (Snap step ∷ [])); snaps = omega (arith, b, count_join is_snap orders (Snap step ∷ [])); stops = omega (arith, h.stops, count_join is_stop orders (Snap step ∷ [])) }
room_takes orders (Stop step) h e =
    let a : nat_lt (count_by is_stop orders) STOP_LIMIT ≡ true = none_or _ Stops e in
    let b : count_by is_stop orders < STOP_LIMIT = grind (arith, nat_tests) in
    record { slot_orders = omega (arith, h.slot_orders, count_join is_slot_order orders (Stop step ∷ [])); snaps = omega (arith, h.snaps, count_join is_snap orders (Stop step ∷ [])); stops = omega (arith, b, count_join is_stop orders (Stop step ∷ [])) }
room_takes orders (StopAt kind times) h e =
    let a : nat_lt (count_by is_stop orders) STOP_LIMIT ≡ true = none_or _ Stops e in
    let b : count_by is_stop orders < STOP_LIMIT = grind (arith, nat_tests) in
    record { slot_orders = omega (arith, h.slot_orders, count_join is_slot_order orders (StopAt kind times ∷ [])); snaps = omega (arith, h.snaps, count_join is_snap orders (StopAt kind times ∷ [])); stops = omega (arith, b, count_join is_stop orders (StopAt kind times ∷ [])) }

room_again : (orders : List Order) (order : Order) (rest : List Order) → AreFew (orders ++ order ∷ rest) → passed orders order ≡ None
room_again orders (Admit step key) rest h =
    let c : count_by is_slot_order orders < ORDER_LIMIT = omega (arith, h.slot_orders, count_join is_slot_order orders (Admit step key ∷ rest), count_join is_slot_order (Admit step key ∷ []) rest) in
    let a : nat_lt (count_by is_slot_order orders) ORDER_LIMIT ≡ true = grind (arith, nat_tests) in
    rw a refl
room_again orders (Evict step key) rest h =
    let c : count_by is_slot_order orders < ORDER_LIMIT = omega (arith, h.slot_orders, count_join is_slot_order orders (Evict step key ∷ rest), count_join is_slot_order (Evict step key ∷ []) rest) in
    let a : nat_lt (count_by is_slot_order orders) ORDER_LIMIT ≡ true = grind (arith, nat_tests) in
    rw a refl
room_again orders (Snap step) rest h =
    let c : count_by is_snap orders < SNAP_LIMIT = omega (arith, h.snaps, count_join is_snap orders (Snap step ∷ rest), count_join is_snap (Snap step ∷ []) rest) in
    let a : nat_lt (count_by is_snap orders) SNAP_LIMIT ≡ true = grind (arith, nat_tests) in
    rw a refl
room_again orders (Stop step) rest h =
    let c : count_by is_stop orders < STOP_LIMIT = omega (arith, h.stops, count_join is_stop orders (Stop step ∷ rest), count_join is_stop (Stop step ∷ []) rest) in
    let a : nat_lt (count_by is_stop orders) STOP_LIMIT ≡ true = grind (arith, nat_tests) in
    rw a refl
room_again orders (StopAt kind times) rest h =
    let c : count_by is_stop orders < STOP_LIMIT = omega (arith, h.stops, count_join is_stop orders (StopAt kind times ∷ rest), count_join is_stop (StopAt kind times ∷ []) rest) in
    let a : nat_lt (count_by is_stop orders) STOP_LIMIT ≡ true = grind (arith, nat_tests) in
    rw a refl

order_due : (order : Order) → IsOrderForm order → due_number order ≤ STEP_LIMIT
order_due (Admit step key) h = h.0
order_due (Evict step key) h = h.0
order_due (Snap step) h = h
order_due (Stop step) h = h
order_due (StopAt kind times) h = h

none_passed : (n : ℕ) (limit : Option Limit) (x w : WorkView) → unless n limit x ≡ Ok w → (limit ≡ None) × (x ≡ w)
none_passed n None x w e = (refl, same_ok x w e)
none_passed n (Some which) x w e = absurd cc

order_takes : (n : ℕ) (v w : WorkView) (order : Order) → order_step n v order ≡ Ok w → IsOrderForm order → IsWithin v → Result_of v w (OfOrder order)
order_takes n v w order e f h =
    let a = none_passed n (passed v.plan.orders order) (with_order v order) w e in
    let few : AreFew v.plan.orders = record { slot_orders = h.plain.plan.slot_orders; snaps = h.plain.plan.snaps; stops = h.plain.plan.stops } in
    let r = room_takes v.plan.orders order few a.0 in
    let adds : AddsForm v (with_order v order) (OfOrder order) = record { config = refl; ops = sym (append-nil v.plan.ops); orders = refl; picks = sym (append-nil v.picks); random = sym (append-nil (starts v.random)) } in
    let plan : IsPlan (with_order v order).plan = record {
      config = h.plain.plan.config;
      count = h.plain.plan.count;
      ops = h.plain.plan.ops;
      slot_orders = r.slot_orders;
      snaps = r.snaps;
      stops = r.stops;
      steps = all_join (λ order. due_number order ≤ STEP_LIMIT) v.plan.orders (order ∷ []) h.plain.plan.steps (order_due order f, tt);
    } in
    let within : IsWithin (with_order v order) = record { plain = record { plan = plan; count = h.plain.count; picks = h.plain.picks; random = h.plain.random }; bodies = h.bodies } in
    subst (λ (y : WorkView). Result_of v y (OfOrder order)) a.1 (adds, within)

picks_takes : (n : ℕ) (v w : WorkView) (ns : List ℕ) → picks_step n v ns ≡ Ok w → AllByRecursion IsNumber ns → IsWithin v → Result_of v w (OfPicks ns)
picks_takes n v w ns e f h =
    let a = cond_ok (nat_le (length v.picks + length ns) PICK_LIMIT) (Ok (with_picks v ns)) (TooLarge PickCount n) w e in
    let a0 : nat_le (length v.picks + length ns) PICK_LIMIT ≡ true = a.0 in
    let room : length v.picks + length ns ≤ PICK_LIMIT = grind (arith, nat_tests) in
    let adds : AddsForm v (with_picks v ns) (OfPicks ns) = record { config = refl; ops = sym (append-nil v.plan.ops); orders = sym (append-nil v.plan.orders); picks = refl; random = sym (append-nil (starts v.random)) } in
    let within : IsWithin (with_picks v ns) = record {
      plain = record { plan = h.plain.plan; count = omega (arith, room, length-append v.picks ns); picks = all_join (λ pick. pick ≤ STEP_LIMIT) v.picks ns h.plain.picks f; random = h.plain.random };
      bodies = h.bodies;
    } in
    subst (λ (y : WorkView). Result_of v y (OfPicks ns)) (same_ok (with_picks v ns) w a.1) (adds, within)

not_yet : (n : ℕ) (v : WorkView) (start : ℕ) (random : Option ℕ) (w : WorkView) → random_by n v start random ≡ Ok w → (random ≡ None) × (with_random v start ≡ w)
not_yet n v start None w e = (refl, same_ok (with_random v start) w e)
not_yet n v start (Some other) w e = absurd cc

random_takes : (n : ℕ) (v w : WorkView) (start : ℕ) → random_by n v start v.random ≡ Ok w → IsNumber start → IsWithin v → Result_of v w (OfRandom start)
random_takes n v w start e f h =
    let a = not_yet n v start v.random w e in
    let adds : AddsForm v (with_random v start) (OfRandom start) = record { config = refl; ops = sym (append-nil v.plan.ops); orders = sym (append-nil v.plan.orders); picks = sym (append-nil v.picks); random = ap (λ (o : Option ℕ). starts o ++ start ∷ []) (sym a.0) } in
    let within : IsWithin (with_random v start) = record { plain = record { plan = h.plain.plan; count = h.plain.count; picks = h.plain.picks; random = f }; bodies = h.bodies } in
    subst (λ (y : WorkView). Result_of v y (OfRandom start)) a.1 (adds, within)

step_takes : (n : ℕ) (v w : WorkView) (form : Form) → step n v form ≡ Ok w → IsForm form → IsWithin v → Result_of v w form
step_takes n v w (OfOp line) e f h = op_takes n v w line e f h
step_takes n v w (OfOrder order) e f h = order_takes n v w order e f h
step_takes n v w (OfPicks picks) e f h = picks_takes n v w picks e f.1 h
step_takes n v w (OfRandom start) e f h = random_takes n v w start e f h

both : {A : Type 0} (w r v a b : List A) → r ≡ v ++ a → w ≡ r ++ b → w ≡ v ++ (a ++ b)
both w r v a b e f = f ∙ ap (λ (l : List _). l ++ b) e ∙ append_assoc v a b

pub adds_more : (v r w : WorkView) (form : Form) (forms : List Form) → AddsForm v r form → AddsForms r w forms → AddsForms v w (form ∷ forms)
adds_more v r w form forms a b = record {
  config = b.config ∙ a.config;
  ops = both w.plan.ops r.plan.ops v.plan.ops (op_in form) (flat_map op_in forms) a.ops b.ops;
  orders = both w.plan.orders r.plan.orders v.plan.orders (order_in form) (flat_map order_in forms) a.orders b.orders;
  picks = both w.picks r.picks v.picks (picks_in form) (flat_map picks_in forms) a.picks b.picks;
  random = both (starts w.random) (starts r.random) (starts v.random) (random_in form) (flat_map random_in forms) a.random b.random;
}

pub steps_take : (n : ℕ) (v w : WorkView) (forms : List Form) → steps n v forms ≡ Ok w → AllByRecursion IsForm forms → IsWithin v → AddsForms v w forms × IsWithin w
steps_take n v w [] e f h =
    let none : AddsForms v v [] = record { config = refl; ops = sym (append-nil v.plan.ops); orders = sym (append-nil v.plan.orders); picks = sym (append-nil v.picks); random = sym (append-nil (starts v.random)) } in
    subst (λ (y : WorkView). AddsForms v y [] × IsWithin y) (same_ok v w e) (none, h)
steps_take n v w (form ∷ forms) e f h =
    let a = bind_ok (step (n + 1) v form) (λ read. steps (n + 1) read forms) w e in
    let one = step_takes (n + 1) v a.0 form a.1 f.0 h in
    let more = steps_take (n + 1) a.0 w forms a.2 f.1 one.1 in
    (adds_more v a.0 w form forms one.0 more.0, more.1)

-- ---- back

few_orders : (w : WorkView) → IsWithin w → (orders : List Order) → w.plan.orders ≡ orders → AreFew orders
few_orders w h orders e =
    let few : AreFew w.plan.orders = record { slot_orders = h.plain.plan.slot_orders; snaps = h.plain.plan.snaps; stops = h.plain.plan.stops } in
    subst AreFew e few

one_start : (random other : Option ℕ) (start : ℕ) (rest : List ℕ) → starts other ≡ starts random ++ start ∷ rest → random ≡ None
one_start None other start rest e = refl
one_start (Some m) None start rest e = absurd cc
one_start (Some m) (Some k) start rest e =
    let n : length (starts (Some k)) ≡ length (m ∷ start ∷ rest) = ap (λ (l : List ℕ). length l) e in
    absurd (omega (arith, n))

same_start : (a b : Option ℕ) → starts a ≡ starts b → a ≡ b
same_start None None e = refl
same_start None (Some n) e = absurd cc
same_start (Some m) None e = absurd cc
same_start (Some m) (Some n) e = let h : m ≡ n = cc in ap (λ (k : ℕ). Some k) h

-- the step that leads towards w
record Leads (n : ℕ) (v w : WorkView) (form : Form) (forms : List Form) : Type 0 where
  read : WorkView
  step : step n v form ≡ Ok read
  adds : AddsForms read w forms

regrouped : {A : Type 0} (w v a b : List A) → w ≡ v ++ (a ++ b) → w ≡ (v ++ a) ++ b
regrouped w v a b e = e ∙ sym (append_assoc v a b)

leads : (n : ℕ) (v w : WorkView) (form : Form) (forms : List Form) → AddsForms v w (form ∷ forms) → IsWithin w → Leads n v w form forms
leads n v w (OfOp line) forms a h =
    let at : w.plan.ops ≡ v.plan.ops ++ line ∷ flat_map op_in forms = a.ops in
    let all : AllByRecursion (IsOpLine v.plan.config.clients) (v.plan.ops ++ line ∷ flat_map op_in forms) = subst (λ (l : List OpLine). AllByRecursion (IsOpLine v.plan.config.clients) l) at (subst (λ (c : Config). AllByRecursion (IsOpLine c.clients) w.plan.ops) a.config h.plain.plan.ops) in
    let client : line.client < v.plan.config.clients = (all_at (IsOpLine v.plan.config.clients) v.plan.ops line (flat_map op_in forms) all).client in
    let bodies : AllByRecursion (λ line. length_of line.body ≤ BODY_LIMIT) (v.plan.ops ++ line ∷ flat_map op_in forms) = subst (λ (l : List OpLine). AllByRecursion (λ line. length_of line.body ≤ BODY_LIMIT) l) at h.bodies in
    let short : length_of line.body ≤ BODY_LIMIT = all_at (λ line. length_of line.body ≤ BODY_LIMIT) v.plan.ops line (flat_map op_in forms) bodies in
    let count : length w.plan.ops ≡ length (v.plan.ops ++ line ∷ flat_map op_in forms) = ap (λ (l : List OpLine). length l) at in
    let room : length v.plan.ops < OP_LIMIT = omega (arith, h.plain.plan.count, count, length-append v.plan.ops (line ∷ flat_map op_in forms)) in
    let c1 : nat_lt line.client v.plan.config.clients ≡ true = grind (arith, nat_tests) in
    let c2 : nat_le (length_of line.body) BODY_LIMIT ≡ true = grind (arith, nat_tests) in
    let c3 : nat_lt (length v.plan.ops) OP_LIMIT ≡ true = grind (arith, nat_tests) in
    record {
      read = with_op v line;
      step = rw (c1, c2, c3) refl;
      adds = record { config = a.config; ops = regrouped w.plan.ops v.plan.ops (line ∷ []) (flat_map op_in forms) at; orders = a.orders; picks = a.picks; random = a.random };
    }
leads n v w (OfOrder order) forms a h =
    let at : w.plan.orders ≡ v.plan.orders ++ order ∷ flat_map order_in forms = a.orders in
    let room : passed v.plan.orders order ≡ None = room_again v.plan.orders order (flat_map order_in forms) (few_orders w h (v.plan.orders ++ order ∷ flat_map order_in forms) at) in
    record {
      read = with_order v order;
      step = ap (λ (o : Option Limit). unless n o (with_order v order)) room;
      adds = record { config = a.config; ops = a.ops; orders = regrouped w.plan.orders v.plan.orders (order ∷ []) (flat_map order_in forms) at; picks = a.picks; random = a.random };
    }
leads n v w (OfPicks ns) forms a h =
    let at : w.picks ≡ v.picks ++ (ns ++ flat_map picks_in forms) = a.picks in
    let count : length w.picks ≡ length (v.picks ++ (ns ++ flat_map picks_in forms)) = ap (λ (l : List ℕ). length l) at in
    let room : length v.picks + length ns ≤ PICK_LIMIT = omega (arith, h.plain.count, count, length-append v.picks (ns ++ flat_map picks_in forms), length-append ns (flat_map picks_in forms)) in
    let c1 : nat_le (length v.picks + length ns) PICK_LIMIT ≡ true = grind (arith, nat_tests) in
    record {
      read = with_picks v ns;
      step = rw c1 refl;
      adds = record { config = a.config; ops = a.ops; orders = a.orders; picks = regrouped w.picks v.picks ns (flat_map picks_in forms) at; random = a.random };
    }
leads n v w (OfRandom start) forms a h =
    let at : starts w.random ≡ starts v.random ++ start ∷ flat_map random_in forms = a.random in
    let none : v.random ≡ None = one_start v.random w.random start (flat_map random_in forms) at in
    record {
      read = with_random v start;
      step = ap (random_by n v start) none;
      adds = record { config = a.config; ops = a.ops; orders = a.orders; picks = a.picks; random = at ∙ ap (λ (o : Option ℕ). starts o ++ start ∷ flat_map random_in forms) none };
    }

pub steps_again : (n : ℕ) (v w : WorkView) (forms : List Form) → AddsForms v w forms → IsWithin w → steps n v forms ≡ Ok w
steps_again n v w [] a h =
    let ops : v.plan.ops ≡ w.plan.ops = sym (a.ops ∙ append-nil v.plan.ops) in
    let orders : v.plan.orders ≡ w.plan.orders = sym (a.orders ∙ append-nil v.plan.orders) in
    let picks : v.picks ≡ w.picks = sym (a.picks ∙ append-nil v.picks) in
    let random : v.random ≡ w.random = same_start v.random w.random (sym (a.random ∙ append-nil (starts v.random))) in
    ap (λ (c : Config). Ok (record { plan = record { config = c; ops = v.plan.ops; orders = v.plan.orders }; picks = v.picks; random = v.random })) (sym a.config)
    ∙ ap (λ (l : List OpLine). Ok (record { plan = record { config = w.plan.config; ops = l; orders = v.plan.orders }; picks = v.picks; random = v.random })) ops
    ∙ ap (λ (l : List Order). Ok (record { plan = record { config = w.plan.config; ops = w.plan.ops; orders = l }; picks = v.picks; random = v.random })) orders
    ∙ ap (λ (l : List ℕ). Ok (record { plan = record { config = w.plan.config; ops = w.plan.ops; orders = w.plan.orders }; picks = l; random = v.random })) picks
    ∙ ap (λ (o : Option ℕ). Ok (record { plan = record { config = w.plan.config; ops = w.plan.ops; orders = w.plan.orders }; picks = w.picks; random = o })) random
steps_again n v w (form ∷ forms) a h =
    let l = leads (n + 1) v w form forms a h in
    ap (λ (r : Result WorkView WorkFault). r andthen λ read. steps (n + 1) read forms) l.step ∙ steps_again (n + 1) l.read w forms l.adds h

-- A plan and its parts.
use Rattle.std.proofs.Common.{◌≡◌, ℕ, ◌+◌, ◌<◌, ◌≤◌, true, filter, nat_eq, cond, List, [], ◌∷◌, refl, sym, ap, ◌∙◌, arith, sum_by, mod-lt, eq-eqb, eqb-true}
use Rattle.std.proofs.lemmas.List.Sums.{sum_by-cons}
use Rattle.std.specs.List.{range_with_len}
use Rattle.far_base.specs.Limits.{IsOpLine, IsPlan, due_number, is_slot_order, is_snap, is_stop}
use Rattle.far_base.specs.PlanView.{PlanView}
use Rattle.far_base.specs.declared.plan.OpLine.{OpLine}
use Rattle.far_base.specs.declared.plan.Order.{Order}
use Rattle.far_base.specs.declared.plan.Order.TheVariants.{Admit, Evict, Snap, Stop, StopAt}
use Rattle.far_model.specs.Pass.{cell_of}
use Rattle.pipe_fabric.proofs.Filtering.{filter_all, filter_count, filter_keeps, filter_length, filter_weighs, left_passes, passes_left}
use Rattle.pipe_fabric.proofs.Spread.{sum_at_one, sum_by_both, sum_of_none}
use Rattle.pipe_fabric.specs.Parted.{AreParted, KeepsKeysTogether}
use Rattle.pipe_fabric.specs.Parts.{is_in, part_of, pipe_of, takes_op, takes_order}

pub part_valid : (plan : PlanView) (pipe pipes : ℕ) → IsPlan plan → IsPlan (part_of plan pipe pipes)
part_valid plan pipe pipes valid = record {
  config = valid.config;
  count = (let c = valid.count in omega (arith, filter_length (takes_op pipe pipes) plan.ops));
  ops = filter_keeps (takes_op pipe pipes) (IsOpLine plan.config.clients) plan.ops valid.ops;
  slot_orders = (let c = valid.slot_orders in omega (arith, filter_count (takes_order pipe pipes) is_slot_order plan.orders));
  snaps = (let c = valid.snaps in omega (arith, filter_count (takes_order pipe pipes) is_snap plan.orders));
  stops = (let c = valid.stops in omega (arith, filter_count (takes_order pipe pipes) is_stop plan.orders));
  steps = filter_keeps (takes_order pipe pipes) (λ (order : Order). due_number order ≤ 9999999999999999999) plan.orders valid.steps;
}

in_own : (pipes : ℕ) (key : List ℕ) → is_in (pipe_of pipes key) pipes key ≡ true
unfolding is_in
in_own pipes key = eq-eqb (pipe_of pipes key) (pipe_of pipes key) refl

own_pipe : (pipe pipes : ℕ) (key : List ℕ) → is_in pipe pipes key ≡ true → pipe_of pipes key ≡ pipe
unfolding is_in
own_pipe pipe pipes key is = eqb-true (pipe_of pipes key) pipe is

below : (pipes : ℕ) (key : List ℕ) → 0 < pipes → pipe_of pipes key < pipes
below pipes key some = mod-lt (cell_of key) some

-- an operation weighs what it weighs in its pipe, and nothing in the others
shares : (weight : OpLine → ℕ) (pipes : ℕ) (line : OpLine) (ops : List OpLine) (pipe : ℕ)
    → sum_by weight (filter (takes_op pipe pipes) (line ∷ ops)) ≡ cond {A = ℕ} (nat_eq (pipe_of pipes line.key) pipe) (weight line) 0 + sum_by weight (filter (takes_op pipe pipes) ops)
unfolding is_in
shares weight pipes line ops pipe = filter_weighs (takes_op pipe pipes) weight line ops

together : (weight : OpLine → ℕ) (pipes : ℕ) → 0 < pipes → (ops : List OpLine)
    → sum_by (λ pipe. sum_by weight (filter (takes_op pipe pipes) ops)) (range_with_len 0 pipes) ≡ sum_by weight ops
together weight pipes some [] = sum_of_none (range_with_len 0 pipes)
together weight pipes some (line ∷ ops) =
    sum_by_both (λ pipe. sum_by weight (filter (takes_op pipe pipes) (line ∷ ops))) (λ pipe. cond {A = ℕ} (nat_eq (pipe_of pipes line.key) pipe) (weight line) 0) (λ pipe. sum_by weight (filter (takes_op pipe pipes) ops)) (range_with_len 0 pipes)
    (λ pipe. shares weight pipes line ops pipe)
    ∙ omega (arith, sum_at_one (pipe_of pipes line.key) (weight line) 0 pipes (omega arith) (let lt = below pipes line.key some in omega arith), together weight pipes some ops, sum_by-cons weight line ops)

pub parted : (plan : PlanView) (pipes : ℕ) → 0 < pipes → AreParted plan pipes
parted plan pipes some = record {
  somewhere = λ line at. (below pipes line.key some, passes_left (takes_op (pipe_of pipes line.key) pipes) plan.ops line (in_own pipes line.key) at);
  nowhere_else = λ line pipe at. let r = left_passes (takes_op pipe pipes) plan.ops line at in (r.0, sym (own_pipe pipe pipes line.key r.1));
  together = λ weight. together weight pipes some plan.ops;
}

pub keys_together : (plan : PlanView) (pipes : ℕ) → KeepsKeysTogether plan pipes
keys_together plan pipes a b pipe same at_b at_a =
    passes_left (takes_op pipe pipes) plan.ops b
    (ap (is_in pipe pipes) (sym same) ∙ (left_passes (takes_op pipe pipes) plan.ops a at_a).1)
    at_b

in_one : (key : List ℕ) → is_in 0 1 key ≡ true
unfolding is_in
in_one key = eq-eqb (pipe_of 1 key) 0 (let small : pipe_of 1 key < 1 = below 1 key (omega arith) in omega arith)

order_in_one : (order : Order) → takes_order 0 1 order ≡ true
order_in_one (Admit step key) = in_one key
order_in_one (Evict step key) = in_one key
order_in_one (Snap step) = refl
order_in_one (Stop step) = refl
order_in_one (StopAt kind times) = refl

pub one_part : (plan : PlanView) → part_of plan 0 1 ≡ plan
one_part plan = λ i. record {
  config = plan.config;
  ops = filter_all (takes_op 0 1) plan.ops (λ line. in_one line.key) i;
  orders = filter_all (takes_order 0 1) plan.orders order_in_one i;
}

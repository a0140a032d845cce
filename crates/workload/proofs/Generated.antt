-- Generated keys and bodies are valid, and operations are made one by one.
use Rattle.std.proofs.Common.{◌≡◌, ℕ, zero, suc, ◌+◌, ◌-◌, ◌^◌, ◌<◌, ◌≤◌, true, ◌&&◌, List, [], ◌∷◌, ◌++◌, length, refl, sym, ap, subst, ◌∙◌, arith, append_assoc}
use Rattle.std.specs.Prelude.{Result, Ok, Err, IfOk, IsTrue, nat_le, decimal}
use Rattle.std.specs.List.{list_all, AllByRecursion}
use Rattle.std.proofs.lemmas.Bool.Decides.{nat_tests}
use Rattle.std.proofs.lemmas.Fmt.{length-decimal-le}
use Rattle.std.proofs.lemmas.List.{append-nil}
use Rattle.rand_pcg.specs.Lcg.{Lcg}
use Rattle.far_base.specs.Key.{is_visible, is_key_text}
use Rattle.far_base.specs.declared.key.TheConstants.{KEY_LENGTH}
use Rattle.far_base.specs.declared.body.TheConstants.{BODY_LIMIT}
use Rattle.far_base.specs.declared.plan.OpLine.{OpLine}
use Rattle.far_base.specs.Limits.{IsOpLine, FitsOp}
use Rattle.far_base.specs.declared.plan.Op.{Op}
use Rattle.far_base.specs.declared.plan.Op.TheVariants.{Get, Put, Del}
use Rattle.far_base.specs.declared.plan.TheConstants.{OP_LIMIT, STEP_LIMIT}
use Rattle.far_text.proofs.Spelling.{number_visible}
use Rattle.workload.specs.Plain.{IsPlain}
use Rattle.workload.specs.WorkView.{WorkView}
use Rattle.far_text.proofs.Digits.{both_true}
use Rattle.workload.specs.Draws.{lettered, after, choice_from, body_by, op_with, ops_from, seeded, generated}
use Rattle.workload.specs.declared.generator.Choice.{Choice}

pub is_key : (n : ℕ) → n < 2048 → IsTrue (is_key_text (lettered 107 n))
is_key n lt =
    let short : length (decimal n) ≤ 4 = length-decimal-le 4 n (omega arith) (omega (arith, lt)) (omega (arith, lt)) in
    let high : nat_le (length (lettered 107 n)) KEY_LENGTH ≡ true = grind (arith, nat_tests) in
    let some : 1 ≤ length (lettered 107 n) = omega arith in
    let low : nat_le 1 (length (lettered 107 n)) ≡ true = grind (arith, nat_tests) in
    both_true (nat_le 1 (length (lettered 107 n)) && nat_le (length (lettered 107 n)) KEY_LENGTH) (list_all is_visible (lettered 107 n)) (both_true (nat_le 1 (length (lettered 107 n))) (nat_le (length (lettered 107 n)) KEY_LENGTH) low high) (number_visible n (omega (arith, lt)))

pub is_short : (n : ℕ) → n < 2 ^ 32 → length (lettered 118 n) ≤ BODY_LIMIT
is_short n lt =
    let short : length (decimal n) ≤ 10 = length-decimal-le 10 n (omega arith) (omega (arith, lt)) (omega (arith, lt)) in
    omega (arith, short)

pub one_more : (lines : List OpLine) (ops i : ℕ) (g h : Lcg) (choice : Choice) (line : OpLine) (all : List OpLine) → i < ops → choice ≡ choice_from g → h ≡ after 4 g → line ≡ op_with (i + 1) choice
    → lines ++ ops_from (i + 1) (ops - i) g ≡ all → (lines ++ line ∷ []) ++ ops_from (i + 1 + 1) (ops - (i + 1)) h ≡ all
unfolding ops_from
one_more lines ops i g h choice line all lt d f e so_far =
    let k : ops - i ≡ suc (ops - (i + 1)) = omega (arith, lt) in
    let one : lines ++ ops_from (i + 1) (ops - i) g ≡ (lines ++ line ∷ []) ++ ops_from (i + 1 + 1) (ops - (i + 1)) h = rw (k, e, d, f) (sym (append_assoc lines (op_with (i + 1) (choice_from g) ∷ []) (ops_from (i + 1 + 1) (ops - (i + 1)) (after 4 g)))) in
    sym one ∙ so_far

pub none_left : (lines : List OpLine) (ops i : ℕ) (g : Lcg) (all : List OpLine) → ops ≤ i → lines ++ ops_from (i + 1) (ops - i) g ≡ all → lines ≡ all
unfolding ops_from
none_left lines ops i g all le so_far =
    let k : ops - i ≡ 0 = omega (arith, le) in
    let one : lines ++ ops_from (i + 1) (ops - i) g ≡ lines = rw k (append-nil lines) in
    sym one ∙ so_far

-- ---- a generated workload is plain

length_ops : (i n : ℕ) (g : Lcg) → length (ops_from i n g) ≡ n
unfolding ops_from
length_ops i zero g = refl
length_ops i (suc n) g = ap suc (length_ops (i + 1) n (after 4 g))

body_fits : (op : Op) (i : ℕ) → i < 10 ^ 19 → FitsOp op (body_by op i)
body_fits Get i lt = refl
body_fits Put i lt = number_visible i lt
body_fits Del i lt = refl

client_fits : (g : Lcg) → (choice_from g).client < 16
unfolding choice_from
client_fits g = grind arith

ops_fit : (i n : ℕ) (g : Lcg) → i + n < 10 ^ 19 → AllByRecursion (IsOpLine 16) (ops_from i n g)
unfolding ops_from
ops_fit i zero g lt = tt
ops_fit i (suc n) g lt =
    (record { client = client_fits g; body = body_fits (choice_from g).op i (omega (arith, lt)) }, ops_fit (i + 1) n (after 4 g) (omega (arith, lt)))

pub generated_is_plain : (start ops : ℕ) → start < 10 ^ 19 → ops ≤ OP_LIMIT → IsPlain (generated start ops)
generated_is_plain start ops small few = record {
  plan = record {
    config = record { clients = (omega arith, omega arith); servers = (omega arith, omega arith); slots = (omega arith, omega arith); hot = omega arith };
    count = omega (arith, few, length_ops 1 ops (seeded start));
    ops = ops_fit 1 ops (seeded start) (omega (arith, few));
    slot_orders = omega arith;
    snaps = omega arith;
    stops = omega arith;
    steps = (omega (arith, few), (omega (arith, few), (omega (arith, few), (omega (arith, few), tt))));
  };
  count = omega arith;
  picks = tt;
  random = omega (arith, small);
}

pub plain_of : {E : Type 0} (start ops : ℕ) (result : Result WorkView E) → ops ≤ OP_LIMIT → IfOk result (λ load. load ≡ generated start ops) → start ≤ STEP_LIMIT → IfOk result (λ load. IsPlain load)
plain_of start ops (Ok load) few e small = subst IsPlain (sym e) (generated_is_plain start ops (omega (arith, small)) few)
plain_of start ops (Err fault) few e small = tt

-- Texts written one behind the other.
use Rattle.std.proofs.Common.{◌≡◌, ℕ, List, [], ◌++◌, map, sym, ap, ◌∙◌, append_assoc}
use Rattle.std.specs.Prelude.{Result, Ok, Err, IfOk, Option}
use Rattle.std.proofs.lemmas.Grind.{flat_map-append}
use Rattle.far_base.specs.declared.plan.Config.{Config}
use Rattle.far_base.specs.declared.plan.OpLine.{OpLine}
use Rattle.far_base.specs.declared.plan.Order.{Order}
use Rattle.workload.specs.Forms.{Form, OfOp, OfOrder, OfPicks}
use Rattle.workload.specs.Spelling.{line_text, lines_text, head_text, rows, random_forms, spelling}
use Rattle.workload.specs.WorkView.{WorkView}

pub ok_then : {A E : Type 0} (r : Result A E) (P Q : Type 0) → (P → Q) → IfOk r (λ _. P) → IfOk r (λ _. Q)
ok_then (Ok x) P Q f h = f h
ok_then (Err e) P Q f h = tt

pub always : {A E : Type 0} (r : Result A E) (P : Type 0) → P → IfOk r (λ _. P)
always (Ok x) P h = h
always (Err e) P h = tt

pub five_texts : (o f a b c d x1 x2 x3 x4 x5 : List ℕ) → x1 ≡ o ++ f → x2 ≡ x1 ++ a → x3 ≡ x2 ++ b → x4 ≡ x3 ++ c → x5 ≡ x4 ++ d → x5 ≡ o ++ (f ++ a ++ b ++ c ++ d)
five_texts o f a b c d x1 x2 x3 x4 x5 e1 e2 e3 e4 e5 = rw (e5, e4, e3, e2, e1) (simp append_assoc)

regroup : (h a b c d : List ℕ) → h ++ (a ++ b ++ c ++ d) ≡ (((h ++ a) ++ b) ++ c) ++ d
regroup h a b c d = simp append_assoc

pub all_lines : (w : WorkView) (x0 x1 x2 x3 x4 x5 : List ℕ) → x0 ≡ [] → x1 ≡ x0 ++ head_text w.plan.config → x2 ≡ x1 ++ lines_text (map OfOp w.plan.ops) → x3 ≡ x2 ++ lines_text (map OfOrder w.plan.orders) → x4 ≡ x3 ++ lines_text (map OfPicks (rows w.picks)) → x5 ≡ x4 ++ lines_text (random_forms w.random)
    → x5 ≡ spelling w
all_lines w x0 x1 x2 x3 x4 x5 e0 e1 e2 e3 e4 e5 =
    let a : List Form = map OfOp w.plan.ops in
    let b : List Form = map OfOrder w.plan.orders in
    let c : List Form = map OfPicks (rows w.picks) in
    let d : List Form = random_forms w.random in
    let all : lines_text (a ++ b ++ c ++ d) ≡ lines_text a ++ lines_text b ++ lines_text c ++ lines_text d =
    flat_map-append line_text (a ++ b ++ c) d ∙ ap (λ (l : List ℕ). l ++ lines_text d) (flat_map-append line_text (a ++ b) c ∙ ap (λ (l : List ℕ). l ++ lines_text c) (flat_map-append line_text a b)) in
    rw (e5, e4, e3, e2, e1, e0) (sym (ap (λ (l : List ℕ). head_text w.plan.config ++ l) all ∙ regroup (head_text w.plan.config) (lines_text a) (lines_text b) (lines_text c) (lines_text d)))

pub all_parts : (w : WorkView) (config : Config) (ops : List OpLine) (orders : List Order) (picks : List ℕ) (random : Option ℕ) (x0 x1 x2 x3 x4 x5 : List ℕ)
    → config ≡ w.plan.config → ops ≡ w.plan.ops → orders ≡ w.plan.orders → picks ≡ w.picks → random ≡ w.random
    → x0 ≡ [] → x1 ≡ x0 ++ head_text config → x2 ≡ x1 ++ lines_text (map OfOp ops) → x3 ≡ x2 ++ lines_text (map OfOrder orders) → x4 ≡ x3 ++ lines_text (map OfPicks (rows picks)) → x5 ≡ x4 ++ lines_text (random_forms random)
    → x5 ≡ spelling w
all_parts w config ops orders picks random x0 x1 x2 x3 x4 x5 a b c d e e0 e1 e2 e3 e4 e5 =
    let f1 = rw a at e1 in
    let f2 = rw b at e2 in
    let f3 = rw c at e3 in
    let f4 = rw d at e4 in
    let f5 = rw e at e5 in
    all_lines w x0 x1 x2 x3 x4 x5 e0 f1 f2 f3 f4 f5

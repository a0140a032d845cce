-- The fault that reading names is that of the first faulty line.
use Rattle.std.proofs.Common.{◌≡◌, ◌⊎◌, inl, inr, ℕ, suc, ◌+◌, true, false, not, cond, List, [], ◌∷◌, ◌++◌, length, refl, sym, ap, ◌∙◌, arith, append_assoc}
use Rattle.std.specs.Prelude.{Result, Ok, Err, nat_eq}
use Rattle.std.specs.List.{AllByRecursion}
use Rattle.far_base.specs.declared.plan.Config.{Config}
use Rattle.workload.specs.Faults.{IsOpen, IsFaulty, HasFault, Blames, IsFoundAs}
use Rattle.workload.specs.Forms.{Form, form_of, step, step_by}
use Rattle.far_text.specs.Pieces.{Pieces, with_byte, pieces, lacks}
use Rattle.far_text.proofs.Digits.{both_true}
use Rattle.far_text.proofs.Spelling.{joined, pieces_join, pieces_word, pieces_more}
use Rattle.workload.specs.Meaning.{IsForm, IsReading}
use Rattle.workload.specs.Outcome.{◌andthen◌, Gives}
use Rattle.workload.specs.Reading.{head_of, line_step, body_from, empty_work, reading}
use Rattle.workload.specs.Spelling.{head_text, form_text, line_end, lines_text}
use Rattle.workload.specs.WorkView.{WorkView}
use Rattle.workload.specs.declared.fault.WorkFault.{WorkFault}
use Rattle.workload.specs.declared.fault.WorkFault.TheVariants.{BadLine, TooLarge, Memory}
use Rattle.workload.proofs.ByLine.{fault_is, same_err, same_ok}
use Rattle.workload.proofs.FormLaws.{form_takes, form_again, form_lacks}
use Rattle.workload.proofs.HeadLaws.{head_takes, head_again}
use Rattle.workload.proofs.LineLaws.{bind_ok, steps, some_form, body_step}
use Rattle.workload.proofs.ReadingLaws.{empty_within}
use Rattle.workload.proofs.StepLaws.{AddsForms, steps_take, steps_again}

-- ---- pieces lack the byte between them

abbrev AreWhole : Pieces → Type 0
AreWhole lines = AllByRecursion (λ piece. lacks 10 piece ≡ true) lines

byte_lacks : (b : ℕ) (lines : Pieces) → nat_eq b 10 ≡ false → AreWhole lines → AreWhole (with_byte b lines)
byte_lacks b [] e h = (rw e refl, tt)
byte_lacks b (piece ∷ more) e h = (both_true _ _ (ap not e) h.0, h.1)

pieces_lack : (bytes : List ℕ) → AreWhole (pieces 10 bytes)
pieces_lack [] = (refl, tt)
pieces_lack (b ∷ bs) =
    elim (nat_eq b 10) as (λ v. nat_eq b 10 ≡ v → AreWhole (cond v ([] ∷ pieces 10 bs) (with_byte b (pieces 10 bs)))) [
      | true ↦ λ e. (refl, pieces_lack bs)
      | false ↦ λ e. byte_lacks b (pieces 10 bs) e (pieces_lack bs)
    ] refl

-- ---- from a fault to its line

abbrev At : ℕ → WorkView → List ℕ → WorkFault → Type 0
At n v rest fault = IsOpen n rest fault ⊎ IsFaulty n v rest fault

record Stuck (n : ℕ) (w : WorkView) (text : List ℕ) (fault : WorkFault) : Type 0 where
  forms : List Form
  rest : List ℕ
  read : WorkView
  number : ℕ
  spelled : text ≡ lines_text forms ++ rest
  fit : AllByRecursion IsForm forms
  steps : steps n w forms ≡ Ok read
  behind : number ≡ n + length forms + 1
  at : At number read rest fault

one_line : (n : ℕ) (w : WorkView) (line : List ℕ) (more : Pieces) (next : List ℕ) (fault : WorkFault) → lacks 10 line ≡ true
    → ((read : WorkView) → body_from (n + 1) read (next ∷ more) ≡ Err fault → Stuck (n + 1) read (joined 10 (next ∷ more)) fault)
    → (r : Result WorkView WorkFault) → line_step (n + 1) w line ≡ r → (r andthen λ read. body_from (n + 1) read (next ∷ more)) ≡ Err fault → Stuck n w (line ++ 10 ∷ joined 10 (next ∷ more)) fault
one_line n w line more next fault l ih (Ok read) s e =
    let f = some_form (n + 1) w (form_of line) read s in
    let t = form_takes line f.0 f.1 in
    let r = ih read e in
    record {
      forms = f.0 ∷ r.forms;
      rest = r.rest;
      read = r.read;
      number = r.number;
      spelled = ap (λ (x : List ℕ). x ++ 10 ∷ joined 10 (next ∷ more)) t.0 ∙ ap (λ (x : List ℕ). form_text f.0 ++ 10 ∷ x) r.spelled ∙ sym (append_assoc (form_text f.0) line_end (lines_text r.forms ++ r.rest)) ∙ sym (append_assoc (form_text f.0 ++ line_end) (lines_text r.forms) r.rest);
      fit = (t.1, r.fit);
      steps = ap (λ (o : Result WorkView WorkFault). o andthen λ read. steps (n + 1) read r.forms) f.2 ∙ r.steps;
      behind = omega (arith, r.behind);
      at = r.at;
    }
one_line n w line more next fault l ih (Err other) s e =
    let same : other ≡ fault = same_err WorkView other fault e in
    record {
      forms = [];
      rest = line ++ 10 ∷ joined 10 (next ∷ more);
      read = w;
      number = n + 1;
      spelled = refl;
      fit = tt;
      steps = refl;
      behind = omega arith;
      at = inr (record { line = line; others = joined 10 (next ∷ more); whole = refl; one = l; fails = s ∙ ap (λ (x : WorkFault). fault_is {A = WorkView} x) same });
    }

stuck : (n : ℕ) (w : WorkView) (lines : Pieces) (fault : WorkFault) → AreWhole lines → body_from n w lines ≡ Err fault → Stuck n w (joined 10 lines) fault
unfolding body_from
stuck n w [] fault h e = absurd cc
stuck n w ([] ∷ []) fault h e = absurd cc
stuck n w ((b ∷ bs) ∷ []) fault h e =
    let same : BadLine (n + 1) ≡ fault = same_err WorkView (BadLine (n + 1)) fault e in
    record {
      forms = [];
      rest = b ∷ bs;
      read = w;
      number = n + 1;
      spelled = refl;
      fit = tt;
      steps = refl;
      behind = omega arith;
      at = inl (record { first = b; others = bs; some = refl; no_end = h.0; named = sym same });
    }
stuck n w (line ∷ next ∷ more) fault h e = one_line n w line more next fault h.0 (λ read f. stuck (n + 1) read (next ∷ more) fault h.1 f) (line_step (n + 1) w line) refl e

by_head : (text : List ℕ) (fault : WorkFault) (r : Result (Config × Pieces) WorkFault) → head_of (pieces 10 text) ≡ r → (r andthen λ head. body_from 5 (empty_work head.0) head.1) ≡ Err fault → HasFault text fault
by_head text fault (Err other) h e = inl (h ∙ ap (λ (x : WorkFault). fault_is {A = Config × Pieces} x) (same_err WorkView other fault e))
by_head text fault (Ok head) h e =
    let a = head_takes text head h in
    let f : body_from 5 (empty_work head.0) (pieces 10 a.rest) ≡ Err fault = ap (λ (l : Pieces). body_from 5 (empty_work head.0) l) (sym a.behind) ∙ e in
    let b = stuck 5 (empty_work head.0) (pieces 10 a.rest) fault (pieces_lack a.rest) f in
    let s = steps_take 5 (empty_work head.0) b.read b.forms b.steps b.fit (empty_within head.0 a.fits) in
    let rest : a.rest ≡ lines_text b.forms ++ b.rest = sym (pieces_join 10 a.rest) ∙ b.spelled in
    let read : IsReading (head_text b.read.plan.config ++ lines_text b.forms) b.read = record {
      forms = b.forms;
      spelled = refl;
      fit = b.fit;
      name = record { ops = sym s.0.ops; orders = sym s.0.orders; picks = sym s.0.picks; random = sym s.0.random };
      within = s.1;
    } in
    inr (record {
      front = head_text b.read.plan.config ++ lines_text b.forms;
      rest = b.rest;
      before = b.read;
      number = b.number;
      whole = a.whole ∙ ap (λ (l : List ℕ). head_text head.0 ++ l) rest ∙ sym (append_assoc (head_text head.0) (lines_text b.forms) b.rest) ∙ ap (λ (c : Config). (head_text c ++ lines_text b.forms) ++ b.rest) (sym s.0.config);
      read = record { forms = b.forms; spelled = refl; fit = b.fit; name = record { ops = sym s.0.ops; orders = sym s.0.orders; picks = sym s.0.picks; random = sym s.0.random }; within = s.1 };
      behind = omega (arith, b.behind);
      at = b.at;
    })

pub fault_takes : (text : List ℕ) (fault : WorkFault) → reading text ≡ Err fault → HasFault text fault
unfolding reading
fault_takes text fault e = by_head text fault (head_of (pieces 10 text)) refl e

-- ---- and back

body_front : (n : ℕ) (w v : WorkView) (forms : List Form) (rest : List ℕ) → AllByRecursion IsForm forms → steps n w forms ≡ Ok v → body_from n w (pieces 10 (lines_text forms ++ rest)) ≡ body_from (n + length forms) v (pieces 10 rest)
body_front n w v [] rest h e =
    let same : w ≡ v = same_ok w v e in
    let k : n + 0 ≡ n = omega arith in
    rw (k, same) refl
body_front n w v (form ∷ forms) rest h e =
    let a = bind_ok (step (n + 1) w form) (λ read. steps (n + 1) read forms) v e in
    let k : n + suc (length forms) ≡ n + 1 + length forms = omega arith in
    let regroup : lines_text (form ∷ forms) ++ rest ≡ form_text form ++ 10 ∷ (lines_text forms ++ rest) = append_assoc (form_text form ++ line_end) (lines_text forms) rest ∙ append_assoc (form_text form) line_end (lines_text forms ++ rest) in
    let read : line_step (n + 1) w (form_text form) ≡ Ok a.0 = ap (step_by (n + 1) w) (form_again form h.0) ∙ a.1 in
    ap (λ (l : List ℕ). body_from n w (pieces 10 l)) regroup
    ∙ ap (λ (l : Pieces). body_from n w l) (pieces_more 10 (form_text form) (lines_text forms ++ rest) (form_lacks form h.0))
    ∙ body_step n w (form_text form) (lines_text forms ++ rest)
    ∙ ap (λ (r : Result WorkView WorkFault). r andthen λ read. body_from (n + 1) read (pieces 10 (lines_text forms ++ rest))) read
    ∙ body_front (n + 1) a.0 v forms rest h.1 a.2
    ∙ ap (λ (m : ℕ). body_from m v (pieces 10 rest)) (sym k)

at_again : (n number : ℕ) (v : WorkView) (rest : List ℕ) (fault : WorkFault) → number ≡ n + 1 → At number v rest fault → body_from n v (pieces 10 rest) ≡ Err fault
unfolding body_from
at_again n number v rest fault k (inl h) =
    let pieces_are : pieces 10 rest ≡ (h.first ∷ h.others) ∷ [] = pieces_word 10 rest h.no_end ∙ ap (λ (l : List ℕ). l ∷ []) h.some in
    ap (λ (l : Pieces). body_from n v l) pieces_are ∙ ap (λ (m : ℕ). fault_is {A = WorkView} (BadLine m)) (sym k) ∙ ap (λ (x : WorkFault). fault_is {A = WorkView} x) (sym h.named)
at_again n number v rest fault k (inr h) =
    let pieces_are : pieces 10 rest ≡ h.line ∷ pieces 10 h.others = ap (pieces 10) h.whole ∙ pieces_more 10 h.line h.others h.one in
    let failed : line_step (n + 1) v h.line ≡ Err fault = ap (λ (m : ℕ). line_step m v h.line) (sym k) ∙ h.fails in
    ap (λ (l : Pieces). body_from n v l) pieces_are ∙ body_step n v h.line h.others ∙ ap (λ (r : Result WorkView WorkFault). r andthen λ read. body_from (n + 1) read (pieces 10 h.others)) failed

pub fault_again : (text : List ℕ) (fault : WorkFault) → HasFault text fault → reading text ≡ Err fault
unfolding reading
fault_again text fault (inl h) = ap (λ (r : Result (Config × Pieces) WorkFault). r andthen λ head. body_from 5 (empty_work head.0) head.1) h
fault_again text fault (inr h) =
    let w : WorkView = h.before in
    let f : List Form = h.read.forms in
    let adds : AddsForms (empty_work w.plan.config) w f = record { config = refl; ops = sym h.read.name.ops; orders = sym h.read.name.orders; picks = sym h.read.name.picks; random = sym h.read.name.random } in
    let read : steps 5 (empty_work w.plan.config) f ≡ Ok w = steps_again 5 (empty_work w.plan.config) w f adds h.read.within in
    let whole : text ≡ head_text w.plan.config ++ (lines_text f ++ h.rest) = h.whole ∙ ap (λ (l : List ℕ). l ++ h.rest) h.read.spelled ∙ append_assoc (head_text w.plan.config) (lines_text f) h.rest in
    ap (λ (t : List ℕ). head_of (pieces 10 t) andthen λ head. body_from 5 (empty_work head.0) head.1) whole
    ∙ ap (λ (r : Result (Config × Pieces) WorkFault). r andthen λ head. body_from 5 (empty_work head.0) head.1) (head_again w.plan.config (lines_text f ++ h.rest) h.read.within.plain.plan.config)
    ∙ body_front 5 (empty_work w.plan.config) w f h.rest h.read.fit read
    ∙ at_again (5 + length f) h.number w h.rest fault (omega (arith, h.behind)) h.at

pub is_blamed : (text : List ℕ) (result : Result WorkView WorkFault) → Gives (λ (w : WorkView). w) result (reading text) → Blames result (HasFault text)
is_blamed text (Ok w) e = tt
is_blamed text (Err (BadLine n)) e = fault_takes text (BadLine n) e
is_blamed text (Err (TooLarge which n)) e = fault_takes text (TooLarge which n) e
is_blamed text (Err Memory) e = tt

pub is_first : (text : List ℕ) (result : Result WorkView WorkFault) → Gives (λ (w : WorkView). w) result (reading text) → (fault : WorkFault) → HasFault text fault → IsFoundAs result fault
is_first text (Ok w) e fault h = let k = sym e ∙ fault_again text fault h in absurd cc
is_first text (Err (BadLine n)) e fault h = same_err WorkView (BadLine n) fault (sym e ∙ fault_again text fault h)
is_first text (Err (TooLarge which n)) e fault h = same_err WorkView (TooLarge which n) fault (sym e ∙ fault_again text fault h)
is_first text (Err Memory) e fault h = tt

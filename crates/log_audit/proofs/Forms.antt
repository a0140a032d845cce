-- A text is read as the lines of a history exactly where it is a report with these lines.
use Rattle.std.proofs.Common.{◌≡◌, ℕ, zero, suc, ◌+◌, ◌≤◌, Bool, true, false, cond, List, [], ◌∷◌, ◌++◌, length, refl, sym, ap, ◌∙◌, subst, arith, append_assoc}
use Rattle.std.specs.Prelude.{Option, Some, None, Result, Ok, Err, IfErr, IfOk, codes, decimal, nat_le}
use Rattle.std.proofs.lemmas.Bool.Decides.{nat_tests}
use Rattle.far_base.specs.declared.plan.TheConstants.{OP_LIMIT}
use Rattle.far_model.specs.Members.{Each}
use Rattle.far_text.specs.Numbers.{IsNumber}
use Rattle.far_text.specs.Pieces.{pieces}
use Rattle.far_text.proofs.Spelling.{IsSpelling}
use Rattle.log_audit.specs.Form.{IsHistLine, IsReportOf, end_line, head_text, hist_line, hist_lines}
use Rattle.log_audit.specs.Reading.{Blames, HasReportFault, IsFoundAs, ◌andthen◌, end_fault, few, head_of, history_of, or_bad, report_of, unless_bad, with_first}
use Rattle.log_audit.specs.Words.{hist_of, line_as, number_behind, title, title_of}
use Rattle.log_audit.specs.declared.fault.AuditFault.{AuditFault}
use Rattle.log_audit.specs.declared.fault.AuditFault.TheVariants.{BadLine, TooLarge, Memory}
use Rattle.log_audit.specs.declared.line.HistLine.{HistLine}
use Rattle.log_audit.proofs.Ends.{end_again, end_takes}
use Rattle.log_audit.proofs.HistWords.{hist_line_is, hist_text, next_is}
use Rattle.log_audit.proofs.Spelled.{behind_is, behind_no_end, line_is, title_is, title_no_end}

abbrev found : {A : Type 0} → A → Result A AuditFault
found x = Ok x

same_found : {A : Type 0} (x y : A) → found x ≡ found y → x ≡ y
same_found x y e = cc

bind_ok : {A B : Type 0} (r : Result A AuditFault) (f : A → Result B AuditFault) (y : B) → (r andthen f) ≡ Ok y → (x : A) × (r ≡ Ok x) × (f x ≡ Ok y)
bind_ok (Ok x) f y e = (x, refl, e)
bind_ok (Err fault) f y e = absurd cc

bad_ok : {A : Type 0} (n : ℕ) (o : Option A) (x : A) → or_bad n o ≡ Ok x → o ≡ Some x
bad_ok n (Some y) x e = ap Some (same_found y x e)
bad_ok n None x e = absurd cc

-- ---- the first three lines

abbrev Counted : Type 0
Counted = ℕ × List ℕ

steps_is : IsSpelling (line_as (number_behind (codes "steps"))) (λ p. (codes "steps" ++ 32 ∷ decimal p.0) ++ 10 ∷ p.1) (λ p. IsNumber p.0 × Unit {0})
steps_is = line_is (number_behind (codes "steps")) (λ n. codes "steps" ++ 32 ∷ decimal n) IsNumber (behind_is (codes "steps") refl) (behind_no_end (codes "steps") refl)

count_is : IsSpelling (line_as (number_behind (codes "history"))) (λ p. (codes "history" ++ 32 ∷ decimal p.0) ++ 10 ∷ p.1) (λ p. IsNumber p.0 × Unit {0})
count_is = line_is (number_behind (codes "history")) (λ n. codes "history" ++ 32 ∷ decimal n) IsNumber (behind_is (codes "history") refl) (behind_no_end (codes "history") refl)

titles_are : IsSpelling (line_as title_of) (λ p. p.0 ++ 10 ∷ p.1) (λ p. (p.0 ≡ title) × Unit {0})
titles_are = line_is title_of (λ line. line) (λ line. line ≡ title) title_is title_no_end

regroup_head : (t s h a b rest : List ℕ) → t ++ 10 ∷ ((s ++ 32 ∷ a) ++ 10 ∷ ((h ++ 32 ∷ b) ++ 10 ∷ rest)) ≡ ((t ++ 10 ∷ []) ++ (s ++ ((32 ∷ a) ++ 10 ∷ [])) ++ (h ++ ((32 ∷ b) ++ 10 ∷ []))) ++ rest
regroup_head t s h a b rest = simp append_assoc

head_lines : (steps count : ℕ) (rest : List ℕ) → title ++ 10 ∷ ((codes "steps" ++ 32 ∷ decimal steps) ++ 10 ∷ ((codes "history" ++ 32 ∷ decimal count) ++ 10 ∷ rest)) ≡ head_text steps count ++ rest
head_lines steps count rest = regroup_head title (codes "steps") (codes "history") (decimal steps) (decimal count) rest

few_ok : (c x : Counted) → few c ≡ Ok x → (c ≡ x) × (c.0 ≤ OP_LIMIT)
few_ok c x e = go (nat_le c.0 OP_LIMIT) refl e
  where
    go : (b : Bool) → nat_le c.0 OP_LIMIT ≡ b → cond b (Ok c) (Err (TooLarge 3)) ≡ found x → (c ≡ x) × (c.0 ≤ OP_LIMIT)
    go true b e = let few : c.0 ≤ OP_LIMIT = grind (arith, nat_tests) in (same_found c x e, few)
    go false b e = absurd cc

few_again : (c : Counted) → c.0 ≤ OP_LIMIT → few c ≡ Ok c
few_again c h = let t : nat_le c.0 OP_LIMIT ≡ true = grind (arith, nat_tests) in rw t refl

record IsHead (text : List ℕ) (c : Counted) : Type 0 where
  steps : ℕ
  number : IsNumber steps
  few_lines : c.0 ≤ OP_LIMIT
  whole : text ≡ head_text steps c.0 ++ c.1

abbrev with_steps : Counted → Result Counted AuditFault
with_steps b = or_bad 3 (line_as (number_behind (codes "history")) b.1) andthen few

abbrev with_title : List ℕ × List ℕ → Result Counted AuditFault
with_title a = or_bad 2 (line_as (number_behind (codes "steps")) a.1) andthen with_steps

head_takes : (text : List ℕ) (c : Counted) → head_of text ≡ Ok c → IsHead text c
head_takes text c e =
    let a = bind_ok (or_bad 1 (line_as title_of text)) with_title c e in
    let b = bind_ok (or_bad 2 (line_as (number_behind (codes "steps")) a.0.1)) with_steps c a.2 in
    let d = bind_ok (or_bad 3 (line_as (number_behind (codes "history")) b.0.1)) few c b.2 in
    let one = titles_are.takes text a.0 (bad_ok 1 (line_as title_of text) a.0 a.1) in
    let two = steps_is.takes a.0.1 b.0 (bad_ok 2 (line_as (number_behind (codes "steps")) a.0.1) b.0 b.1) in
    let three = count_is.takes b.0.1 d.0 (bad_ok 3 (line_as (number_behind (codes "history")) b.0.1) d.0 d.1) in
    let f = few_ok d.0 c d.2 in
    let spelled : text ≡ title ++ 10 ∷ ((codes "steps" ++ 32 ∷ decimal b.0.0) ++ 10 ∷ ((codes "history" ++ 32 ∷ decimal d.0.0) ++ 10 ∷ d.0.1)) =
    one.0 ∙ ap (λ (l : List ℕ). l ++ 10 ∷ a.0.1) one.1.0 ∙ ap (λ (l : List ℕ). title ++ 10 ∷ l) (two.0 ∙ ap (λ (l : List ℕ). (codes "steps" ++ 32 ∷ decimal b.0.0) ++ 10 ∷ l) three.0) in
    let made : IsHead text d.0 = record { steps = b.0.0; number = two.1.0; few_lines = f.1; whole = spelled ∙ head_lines b.0.0 d.0.0 d.0.1 } in
    subst (IsHead text) f.0 made

head_again : (steps count : ℕ) (rest : List ℕ) → IsNumber steps → count ≤ OP_LIMIT → head_of (head_text steps count ++ rest) ≡ Ok (count, rest)
head_again steps count rest number h =
    let few_number : IsNumber count = omega (arith, h) in
    let third : List ℕ = (codes "history" ++ 32 ∷ decimal count) ++ 10 ∷ rest in
    let second : List ℕ = (codes "steps" ++ 32 ∷ decimal steps) ++ 10 ∷ third in
    let one : line_as title_of (title ++ 10 ∷ second) ≡ Some (title, second) = titles_are.again (title, second) (refl, tt) in
    let two : line_as (number_behind (codes "steps")) second ≡ Some (steps, third) = steps_is.again (steps, third) (number, tt) in
    let three : line_as (number_behind (codes "history")) third ≡ Some (count, rest) = count_is.again (count, rest) (few_number, tt) in
    let a : head_of (title ++ 10 ∷ second) ≡ with_title (title, second) = ap (λ (o : Option (List ℕ × List ℕ)). or_bad 1 o andthen with_title) one in
    let b : with_title (title, second) ≡ with_steps (steps, third) = ap (λ (o : Option Counted). or_bad 2 o andthen with_steps) two in
    let d : with_steps (steps, third) ≡ few (count, rest) = ap (λ (o : Option Counted). or_bad 3 o andthen few) three in
    ap head_of (sym (head_lines steps count rest)) ∙ a ∙ b ∙ d ∙ few_again (count, rest) h

-- ---- the history

abbrev Hist : Type 0
Hist = List HistLine × List ℕ

record IsHistoryText (count : ℕ) (text : List ℕ) (h : Hist) : Type 0 where
  whole : text ≡ hist_lines h.0 ++ h.1
  number : length h.0 ≡ count
  fit : Each IsHistLine h.0

line_more : (l : HistLine) (lines : List HistLine) (rest : List ℕ) → hist_text l ++ 10 ∷ (hist_lines lines ++ rest) ≡ hist_lines (l ∷ lines) ++ rest
line_more l lines rest =
    sym (append_assoc (hist_line l) (hist_lines lines) rest ∙ ap (λ (t : List ℕ). t ++ (hist_lines lines ++ rest)) (hist_line_is l) ∙ append_assoc (hist_text l) (10 ∷ []) (hist_lines lines ++ rest))

abbrev with_rest : ℕ → ℕ → HistLine × List ℕ → Result Hist AuditFault
with_rest more n a = history_of more (n + 1) a.1 andthen with_first a.0

history_takes : (count n : ℕ) (text : List ℕ) (h : Hist) → history_of count n text ≡ Ok h → IsHistoryText count text h
history_takes zero n text h e =
    let none : Hist = ([], text) in
    subst (IsHistoryText zero text) (same_found none h e) (record { whole = refl; number = refl; fit = tt })
history_takes (suc more) n text h e =
    let a = bind_ok (or_bad n (line_as hist_of text)) (with_rest more n) h e in
    let r = bind_ok (history_of more (n + 1) a.0.1) (with_first a.0.0) h a.2 in
    let one = next_is.takes text a.0 (bad_ok n (line_as hist_of text) a.0 a.1) in
    let others = history_takes more (n + 1) a.0.1 r.0 r.1 in
    let whole : Hist = (a.0.0 ∷ r.0.0, r.0.1) in
    subst (IsHistoryText (suc more) text) (same_found whole h r.2) (record {
      whole = one.0 ∙ ap (λ (t : List ℕ). hist_text a.0.0 ++ 10 ∷ t) others.whole ∙ line_more a.0.0 r.0.0 r.0.1;
      number = ap suc others.number;
      fit = (one.1.0, others.fit);
    })

history_again : (lines : List HistLine) (n : ℕ) (rest : List ℕ) → Each IsHistLine lines → history_of (length lines) n (hist_lines lines ++ rest) ≡ Ok (lines, rest)
history_again [] n rest fit = refl
history_again (l ∷ lines) n rest fit =
    let behind : List ℕ = hist_lines lines ++ rest in
    let one : line_as hist_of (hist_text l ++ 10 ∷ behind) ≡ Some (l, behind) = next_is.again (l, behind) (fit.0, tt) in
    let others : history_of (length lines) (n + 1) behind ≡ Ok (lines, rest) = history_again lines (n + 1) rest fit.1 in
    let a : history_of (suc (length lines)) n (hist_text l ++ 10 ∷ behind) ≡ with_rest (length lines) n (l, behind) = ap (λ (o : Option (HistLine × List ℕ)). or_bad n o andthen with_rest (length lines) n) one in
    let b : with_rest (length lines) n (l, behind) ≡ Ok (l ∷ lines, rest) = ap (λ (r : Result Hist AuditFault). r andthen with_first l) others in
    ap (history_of (suc (length lines)) n) (sym (line_more l lines rest)) ∙ a ∙ b

-- ---- the whole text

bad_none : (lines found' : List HistLine) (o : Option ℕ) → unless_bad lines o ≡ Ok found' → (lines ≡ found') × (o ≡ None)
bad_none lines found' None e = (same_found lines found' e, refl)
bad_none lines found' (Some n) e = absurd cc

abbrev with_history : ℕ → Hist → Result (List HistLine) AuditFault
with_history count r = unless_bad r.0 (end_fault (count + 3) None (pieces 10 r.1))

abbrev with_head : Counted → Result (List HistLine) AuditFault
with_head h = history_of h.0 4 h.1 andthen with_history h.0

regroup : (head lines between : List ℕ) → head ++ (lines ++ (between ++ end_line)) ≡ head ++ lines ++ between ++ end_line
regroup head lines between = simp append_assoc

pub report_takes : (text : List ℕ) (lines : List HistLine) → report_of text ≡ Ok lines → IsReportOf text lines
report_takes text lines e =
    let h = bind_ok (head_of text) with_head lines e in
    let r = bind_ok (history_of h.0.0 4 h.0.1) (with_history h.0.0) lines h.2 in
    let b = bad_none r.0.0 lines (end_fault (h.0.0 + 3) None (pieces 10 r.0.1)) r.2 in
    let head = head_takes text h.0 h.1 in
    let history = history_takes h.0.0 4 h.0.1 r.0 r.1 in
    let ends = end_takes (h.0.0 + 3) r.0.1 b.1 in
    let count : h.0.0 ≡ length r.0.0 = sym history.number in
    let spelled : text ≡ head_text head.steps (length r.0.0) ++ hist_lines r.0.0 ++ ends.between ++ end_line =
    head.whole ∙ ap (λ (n : ℕ). head_text head.steps n ++ h.0.1) count ∙ ap (λ (l : List ℕ). head_text head.steps (length r.0.0) ++ l) (history.whole ∙ ap (λ (l : List ℕ). hist_lines r.0.0 ++ l) ends.whole)
    ∙ regroup (head_text head.steps (length r.0.0)) (hist_lines r.0.0) ends.between in
    let made : IsReportOf text r.0.0 = record {
      steps = head.steps;
      between = ends.between;
      spelled = spelled;
      number = head.number;
      few = subst (λ (n : ℕ). n ≤ OP_LIMIT) count head.few_lines;
      fit = history.fit;
      are_lines = ends.are_lines;
    } in
    subst (IsReportOf text) b.0 made

pub report_again : (text : List ℕ) (lines : List HistLine) → IsReportOf text lines → report_of text ≡ Ok lines
report_again text lines h =
    let behind : List ℕ = h.between ++ end_line in
    let whole : List ℕ = hist_lines lines ++ behind in
    let head : head_of (head_text h.steps (length lines) ++ whole) ≡ Ok (length lines, whole) = head_again h.steps (length lines) whole h.number h.few in
    let history : history_of (length lines) 4 whole ≡ Ok (lines, behind) = history_again lines 4 behind h.fit in
    let a : report_of (head_text h.steps (length lines) ++ whole) ≡ with_head (length lines, whole) = ap (λ (r : Result Counted AuditFault). r andthen with_head) head in
    let b : with_head (length lines, whole) ≡ with_history (length lines) (lines, behind) = ap (λ (r : Result Hist AuditFault). r andthen with_history (length lines)) history in
    let d : with_history (length lines) (lines, behind) ≡ Ok lines = ap (unless_bad lines) (end_again (length lines + 3) h.between h.are_lines) in
    ap report_of (h.spelled ∙ sym (regroup (head_text h.steps (length lines)) (hist_lines lines) h.between)) ∙ a ∙ b ∙ d

-- ---- what a reader answers

abbrev bad : AuditFault → Result (List HistLine) AuditFault
bad fault = Err fault

same_fault : (x y : AuditFault) → bad x ≡ bad y → x ≡ y
same_fault x y e = cc

pub is_only : {V : Type 0} (items : V → List HistLine) (text : List ℕ) (result : Result V AuditFault) → IfOk result (λ v. report_of text ≡ Ok (items v)) → Blames result (λ fault. report_of text ≡ Err fault) → (lines : List HistLine) → IsReportOf text lines
    → IfOk result (λ v. items v ≡ lines) × IfErr result (λ fault. fault ≡ Memory)
is_only items text (Ok v) ok blames lines h = (same_found (items v) lines (sym ok ∙ report_again text lines h), tt)
is_only items text (Err (BadLine n)) ok blames lines h = absurd (let z = sym (report_again text lines h) ∙ blames in cc)
is_only items text (Err (TooLarge n)) ok blames lines h = absurd (let z = sym (report_again text lines h) ∙ blames in cc)
is_only items text (Err Memory) ok blames lines h = (tt, refl)

pub is_first : {V : Type 0} (items : V → List HistLine) (text : List ℕ) (result : Result V AuditFault) → IfOk result (λ v. report_of text ≡ Ok (items v)) → Blames result (λ fault. report_of text ≡ Err fault) → (fault : AuditFault) → HasReportFault text fault → IsFoundAs result fault
is_first items text (Ok v) ok blames fault h = let z = sym ok ∙ h in absurd cc
is_first items text (Err (BadLine n)) ok blames fault h = same_fault (BadLine n) fault (sym blames ∙ h)
is_first items text (Err (TooLarge n)) ok blames fault h = same_fault (TooLarge n) fault (sym blames ∙ h)
is_first items text (Err Memory) ok blames fault h = tt

pub is_found : {V : Type 0} (items : V → List HistLine) (text : List ℕ) (result : Result V AuditFault) → IfOk result (λ v. report_of text ≡ Ok (items v)) → IfOk result (λ v. IsReportOf text (items v))
is_found items text (Ok v) ok = report_takes text (items v) ok
is_found items text (Err fault) ok = tt

-- Pieces of a text: each whole line ends at the first line end.
use Rattle.std.proofs.Common.{◌≡◌, ℕ, ◌+◌, true, List, [], ◌∷◌, ◌++◌, refl, sym, ap, subst, ◌∙◌, append_assoc}
use Rattle.std.specs.Prelude.{Option, Some, None, Result, Ok, Err}
use Rattle.std.specs.List.{AllByRecursion}
use Rattle.workload.specs.Forms.{Form, form_of, step, step_by}
use Rattle.far_text.specs.Pieces.{Pieces, lacks, pieces, cut_at}
use Rattle.far_text.proofs.Cuts.{pieces_by, pieces_cut, some_piece}
use Rattle.far_text.proofs.Spelling.{cut_takes, pieces_more, joined}
use Rattle.workload.specs.Meaning.{IsForm}
use Rattle.workload.specs.Outcome.{◌andthen◌}
use Rattle.workload.specs.Reading.{next_line, line_step, body_from}
use Rattle.workload.specs.Spelling.{form_text, lines_text, line_end}
use Rattle.workload.specs.WorkView.{WorkView}
use Rattle.workload.specs.declared.fault.WorkFault.{WorkFault}
use Rattle.workload.proofs.ByLine.{same_ok}
use Rattle.workload.proofs.FormLaws.{form_takes, form_again, form_lacks}

pub bind_ok : {A B : Type 0} (r : Result A WorkFault) (f : A → Result B WorkFault) (y : B) → (r andthen f) ≡ Ok y → (x : A) × (r ≡ Ok x) × (f x ≡ Ok y)
bind_ok (Ok x) f y e = (x, refl, e)
bind_ok (Err fault) f y e = absurd cc

-- ---- the next line

pub line_again : (n : ℕ) (w rest : List ℕ) → lacks 10 w ≡ true → next_line n (pieces 10 (w ++ 10 ∷ rest)) ≡ Ok (w, pieces 10 rest)
line_again n w rest h =
    let p = some_piece 10 rest in
    rw (pieces_more 10 w rest h, p.2) refl

-- a line of a text, and the text behind it
pub record IsLine (bytes line : List ℕ) (lines : Pieces) : Type 0 where
  pub rest : List ℕ
  pub whole : bytes ≡ line ++ 10 ∷ rest
  pub behind : lines ≡ pieces 10 rest

line_by : (n : ℕ) (bytes : List ℕ) (cut : Option (List ℕ × List ℕ)) (x : List ℕ × Pieces) → cut_at 10 bytes ≡ cut → next_line n (pieces_by 10 bytes cut) ≡ Ok x → IsLine bytes x.0 x.1
line_by n bytes None x c e = absurd cc
line_by n bytes (Some cut) x c e =
    let p = some_piece 10 cut.1 in
    let whole : List ℕ × Pieces = (cut.0, pieces 10 cut.1) in
    let given : next_line n (cut.0 ∷ pieces 10 cut.1) ≡ Ok whole = rw p.2 refl in
    let one : IsLine bytes cut.0 (pieces 10 cut.1) = record { rest = cut.1; whole = cut_takes 10 bytes cut c; behind = refl } in
    subst (λ (y : List ℕ × Pieces). IsLine bytes y.0 y.1) (same_ok whole x (sym given ∙ e)) one

pub line_takes : (n : ℕ) (bytes : List ℕ) (x : List ℕ × Pieces) → next_line n (pieces 10 bytes) ≡ Ok x → IsLine bytes x.0 x.1
line_takes n bytes x e = line_by n bytes (cut_at 10 bytes) x refl (ap (λ (l : Pieces). next_line n l) (sym (pieces_cut 10 bytes)) ∙ e)

-- ---- the lines after the head

-- the forms one after the other, behind n lines
abbrev pub steps : ℕ → WorkView → List Form → Result WorkView WorkFault
steps n w [] = Ok w
steps n w (form ∷ forms) = step (n + 1) w form andthen λ read. steps (n + 1) read forms

pub body_step : (n : ℕ) (w : WorkView) (line : List ℕ) (rest : List ℕ) → body_from n w (line ∷ pieces 10 rest) ≡ (line_step (n + 1) w line andthen λ read. body_from (n + 1) read (pieces 10 rest))
unfolding body_from
body_step n w line rest =
    let p = some_piece 10 rest in
    rw p.2 refl

step_on : (n : ℕ) (w : WorkView) (form : Form) (f g : WorkView → Result WorkView WorkFault) → ((read : WorkView) → f read ≡ g read) → (step n w form andthen f) ≡ (step n w form andthen g)
step_on n w form f g h = by (step n w form)
  where
    by : (r : Result WorkView WorkFault) → (r andthen f) ≡ (r andthen g)
    by (Ok x) = h x
    by (Err fault) = refl

pub body_again : (n : ℕ) (w : WorkView) (forms : List Form) → AllByRecursion IsForm forms → body_from n w (pieces 10 (lines_text forms)) ≡ steps n w forms
unfolding body_from
body_again n w [] h = refl
body_again n w (form ∷ forms) h =
    let regroup : lines_text (form ∷ forms) ≡ form_text form ++ 10 ∷ lines_text forms = append_assoc (form_text form) line_end (lines_text forms) in
    ap (λ (l : List ℕ). body_from n w (pieces 10 l)) regroup
    ∙ ap (λ (l : Pieces). body_from n w l) (pieces_more 10 (form_text form) (lines_text forms) (form_lacks form h.0))
    ∙ body_step n w (form_text form) (lines_text forms)
    ∙ ap (λ (o : Option Form). step_by (n + 1) w o andthen λ read. body_from (n + 1) read (pieces 10 (lines_text forms))) (form_again form h.0)
    ∙ step_on (n + 1) w form (λ read. body_from (n + 1) read (pieces 10 (lines_text forms))) (λ read. steps (n + 1) read forms) (λ read. body_again (n + 1) read forms h.1)

-- the lines of a text that was read to its end
pub record AreForms (n : ℕ) (w : WorkView) (lines : Pieces) (read : WorkView) : Type 0 where
  pub forms : List Form
  pub spelled : joined 10 lines ≡ lines_text forms
  pub fit : AllByRecursion IsForm forms
  pub steps : steps n w forms ≡ Ok read

pub some_form : (n : ℕ) (w : WorkView) (found : Option Form) (read : WorkView) → step_by n w found ≡ Ok read → (form : Form) × (found ≡ Some form) × (step n w form ≡ Ok read)
some_form n w None read e = absurd cc
some_form n w (Some form) read e = (form, refl, e)

pub body_takes : (n : ℕ) (w read : WorkView) (lines : Pieces) → body_from n w lines ≡ Ok read → AreForms n w lines read
unfolding body_from
body_takes n w read [] e = record { forms = []; spelled = refl; fit = tt; steps = e }
body_takes n w read ([] ∷ []) e = record { forms = []; spelled = refl; fit = tt; steps = e }
body_takes n w read ((b ∷ bs) ∷ []) e = absurd cc
body_takes n w read (line ∷ next ∷ more) e =
    let a = bind_ok (line_step (n + 1) w line) (λ read. body_from (n + 1) read (next ∷ more)) read e in
    let f = some_form (n + 1) w (form_of line) a.0 a.1 in
    let s = form_takes line f.0 f.1 in
    let r = body_takes (n + 1) a.0 read (next ∷ more) a.2 in
    record {
      forms = f.0 ∷ r.forms;
      spelled = ap (λ (l : List ℕ). l ++ 10 ∷ joined 10 (next ∷ more)) s.0 ∙ ap (λ (l : List ℕ). form_text f.0 ++ 10 ∷ l) r.spelled ∙ sym (append_assoc (form_text f.0) line_end (lines_text r.forms));
      fit = (s.1, r.fit);
      steps = ap (λ (o : Result WorkView WorkFault). o andthen λ read. steps (n + 1) read r.forms) f.2 ∙ r.steps;
    }

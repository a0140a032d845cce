-- Reading line by line, as the loop does.
use Rattle.std.proofs.Common.{◌≡◌, ℕ, ◌+◌, ◌≤◌, true, false, cond, List, [], ◌∷◌, length, refl, ap, subst, ◌∙◌, arith}
use Rattle.std.specs.Prelude.{Result, Ok, Err, nat_eq, ⊤}
use Rattle.far_text.specs.Pieces.{pieces, with_byte, Pieces}
use Rattle.far_text.proofs.Cuts.{some_piece}
use Rattle.workload.specs.Outcome.{◌andthen◌, Fails}
use Rattle.workload.specs.Reading.{next_line, line_step, body_from, reading}
use Rattle.workload.specs.WorkView.{WorkView}
use Rattle.workload.specs.declared.fault.WorkFault.{WorkFault}
use Rattle.workload.specs.declared.fault.WorkFault.TheVariants.{BadLine, TooLarge, Memory}
use Rattle.workload.proofs.Joined.{fails_on}

abbrev pub found : {A : Type 0} → A → Result A WorkFault
found x = Ok x

pub same_ok : {A : Type 0} (x y : A) → found x ≡ found y → x ≡ y
same_ok x y e = cc

body_more : (n : ℕ) (w : WorkView) (lines rest : Pieces) (line : List ℕ) → next_line n lines ≡ Ok (line, rest) → body_from n w lines ≡ (line_step (n + 1) w line andthen λ read. body_from (n + 1) read rest)
unfolding body_from
body_more n w [] rest line e = absurd cc
body_more n w (first ∷ []) rest line e = absurd cc
body_more n w (first ∷ next ∷ more) rest line e =
    let whole : List ℕ × Pieces = (first, next ∷ more) in
    subst (λ (p : List ℕ × Pieces). body_from n w (first ∷ next ∷ more) ≡ (line_step (n + 1) w p.0 andthen λ read. body_from (n + 1) read p.1)) (same_ok whole (line, rest) e) refl

pub line_read : (n : ℕ) (w read : WorkView) (lines rest : Pieces) (line : List ℕ) → next_line n lines ≡ Ok (line, rest) → line_step (n + 1) w line ≡ Ok read → body_from n w lines ≡ body_from (n + 1) read rest
line_read n w read lines rest line e f = body_more n w lines rest line e ∙ ap (λ (r : Result WorkView WorkFault). r andthen λ read. body_from (n + 1) read rest) f

pub line_fails : (n : ℕ) (w : WorkView) (lines rest : Pieces) (line : List ℕ) (fault : WorkFault) → next_line n lines ≡ Ok (line, rest) → Fails fault (line_step (n + 1) w line) → Fails fault (body_from n w lines)
line_fails n w lines rest line fault e f = rw (body_more n w lines rest line e) (fails_on fault (line_step (n + 1) w line) (λ read. body_from (n + 1) read rest) f)

pub line_faulty : (text : List ℕ) (n m : ℕ) (w : WorkView) (lines rest : Pieces) (line : List ℕ) (fault : WorkFault) → reading text ≡ body_from n w lines → next_line n lines ≡ Ok (line, rest) → m ≡ n + 1
    → Fails fault (line_step m w line) → Fails fault (reading text)
line_faulty text n m w lines rest line fault r e c f =
    let g = rw c at f in
    rw r (line_fails n w lines rest line fault e g)

-- something stands there
abbrev pub IsText : Pieces → Type 0
IsText [] = ⊥
IsText ([] ∷ []) = ⊥
IsText ((b ∷ bs) ∷ []) = ⊤
IsText (line ∷ next ∷ more) = ⊤

pub is_text : (b : ℕ) (bs : List ℕ) → IsText (pieces 10 (b ∷ bs))
is_text b bs =
    let p = some_piece 10 bs in
    elim (nat_eq b 10) as (λ v. IsText (cond v ([] ∷ pieces 10 bs) (with_byte b (pieces 10 bs)))) [
      | true ↦ rw p.2 tt
      | false ↦ rw p.2 (with_more b p.0 p.1)
    ]
  where
    with_more : (b : ℕ) (first : List ℕ) (more : Pieces) → IsText ((b ∷ first) ∷ more)
    with_more b first [] = tt
    with_more b first (next ∷ more) = tt

abbrev pub fault_is : {A : Type 0} → WorkFault → Result A WorkFault
fault_is x = Err x

pub same_err : (A : Type 0) (x y : WorkFault) → fault_is {A = A} x ≡ fault_is y → x ≡ y
same_err A x y e = cc

pub carried : (A B : Type 0) (x fault : WorkFault) → Fails fault (fault_is {A = A} x) → Fails fault (fault_is {A = B} x)
carried A B x (BadLine k) f = ap (λ (y : WorkFault). fault_is {A = B} y) (same_err A x (BadLine k) f)
carried A B x (TooLarge which k) f = ap (λ (y : WorkFault). fault_is {A = B} y) (same_err A x (TooLarge which k) f)
carried A B x Memory f = tt

missing_by : (n : ℕ) (w : WorkView) (lines : Pieces) (fault : WorkFault) → IsText lines → Fails fault (next_line n lines) → Fails fault (body_from n w lines)
unfolding body_from
missing_by n w [] fault h f = absurd h
missing_by n w ([] ∷ []) fault h f = absurd h
missing_by n w ((b ∷ bs) ∷ []) fault h f = carried (List ℕ × Pieces) WorkView (BadLine (n + 1)) fault f
missing_by n w (line ∷ next ∷ more) (BadLine k) h f = absurd cc
missing_by n w (line ∷ next ∷ more) (TooLarge which k) h f = absurd cc
missing_by n w (line ∷ next ∷ more) Memory h f = tt

pub line_missing : (n : ℕ) (w : WorkView) (bytes : List ℕ) (fault : WorkFault) → 1 ≤ length bytes → Fails fault (next_line n (pieces 10 bytes)) → Fails fault (body_from n w (pieces 10 bytes))
line_missing n w [] fault some f = absurd (omega (arith, some))
line_missing n w (b ∷ bs) fault some f = missing_by n w (pieces 10 (b ∷ bs)) fault (is_text b bs) f

pub text_over : (n : ℕ) (w : WorkView) (bytes : List ℕ) → length bytes ≡ 0 → body_from n w (pieces 10 bytes) ≡ Ok w
unfolding body_from
text_over n w [] e = refl
text_over n w (b ∷ bs) e = absurd cc

pub ruleset line_by_line = (line_read, line_fails, line_missing, text_over)

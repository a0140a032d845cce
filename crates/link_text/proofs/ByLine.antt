-- Reading line by line, as the loop does.
use Rattle.std.proofs.Common.{◌≡◌, ℕ, ◌+◌, ◌≤◌, true, false, cond, List, [], ◌∷◌, length, refl, ap, subst, ◌∙◌, arith}
use Rattle.std.specs.Prelude.{Result, Ok, nat_eq, ⊤}
use Rattle.far_text.specs.Pieces.{pieces, with_byte, Pieces}
use Rattle.far_text.proofs.Cuts.{some_piece}
use Rattle.workload.specs.Outcome.{◌andthen◌, Fails}
use Rattle.workload.specs.Reading.{next_line}
use Rattle.workload.specs.declared.fault.WorkFault.{WorkFault}
use Rattle.workload.specs.declared.fault.WorkFault.TheVariants.{BadLine, TooLarge, Memory}
use Rattle.workload.proofs.ByLine.{fault_is, same_err, same_ok}
use Rattle.workload.proofs.Joined.{fails_on}
use Rattle.retry_link.specs.declared.link.LinkEvent.{LinkEvent}
use Rattle.link_text.specs.Reading.{line_step, lines_from, reading}

lines_more : (n : ℕ) (events : List LinkEvent) (lines rest : Pieces) (line : List ℕ) → next_line n lines ≡ Ok (line, rest) → lines_from n events lines ≡ (line_step (n + 1) events line andthen λ read. lines_from (n + 1) read rest)
unfolding lines_from
lines_more n events [] rest line e = absurd cc
lines_more n events (first ∷ []) rest line e = absurd cc
lines_more n events (first ∷ next ∷ more) rest line e =
    let whole : List ℕ × Pieces = (first, next ∷ more) in
    subst (λ (p : List ℕ × Pieces). lines_from n events (first ∷ next ∷ more) ≡ (line_step (n + 1) events p.0 andthen λ read. lines_from (n + 1) read p.1)) (same_ok whole (line, rest) e) refl

pub line_read : (n : ℕ) (events read : List LinkEvent) (lines rest : Pieces) (line : List ℕ) → next_line n lines ≡ Ok (line, rest) → line_step (n + 1) events line ≡ Ok read → lines_from n events lines ≡ lines_from (n + 1) read rest
line_read n events read lines rest line e f = lines_more n events lines rest line e ∙ ap (λ (r : Result (List LinkEvent) WorkFault). r andthen λ read. lines_from (n + 1) read rest) f

pub line_fails : (n : ℕ) (events : List LinkEvent) (lines rest : Pieces) (line : List ℕ) (fault : WorkFault) → next_line n lines ≡ Ok (line, rest) → Fails fault (line_step (n + 1) events line) → Fails fault (lines_from n events lines)
line_fails n events lines rest line fault e f = rw (lines_more n events lines rest line e) (fails_on fault (line_step (n + 1) events line) (λ read. lines_from (n + 1) read rest) f)

pub line_faulty : (text : List ℕ) (n m : ℕ) (events : List LinkEvent) (lines rest : Pieces) (line : List ℕ) (fault : WorkFault) → reading text ≡ lines_from n events lines → next_line n lines ≡ Ok (line, rest) → m ≡ n + 1
    → Fails fault (line_step m events line) → Fails fault (reading text)
line_faulty text n m events lines rest line fault r e c f =
    let g = rw c at f in
    rw r (line_fails n events lines rest line fault e g)

-- something stands there
abbrev IsText : Pieces → Type 0
IsText [] = ⊥
IsText ([] ∷ []) = ⊥
IsText ((b ∷ bs) ∷ []) = ⊤
IsText (line ∷ next ∷ more) = ⊤

is_text : (b : ℕ) (bs : List ℕ) → IsText (pieces 10 (b ∷ bs))
is_text b bs =
    let p = some_piece 10 bs in
    elim (nat_eq b 10) as (λ v. IsText (cond v ([] ∷ pieces 10 bs) (with_byte b (pieces 10 bs)))) [
      | true ↦ rw p.2 tt
      | false ↦ rw p.2 (with_more b p.0 p.1)
    ]
  where
    with_more : (b : ℕ) (first : List ℕ) (more : Pieces) → IsText ((b ∷ first) ∷ more)
    with_more b first [] = tt
    with_more b first (next ∷ more) = tt

carried : (A B : Type 0) (x fault : WorkFault) → Fails fault (fault_is {A = A} x) → Fails fault (fault_is {A = B} x)
carried A B x (BadLine k) f = ap (λ (y : WorkFault). fault_is {A = B} y) (same_err A x (BadLine k) f)
carried A B x (TooLarge which k) f = ap (λ (y : WorkFault). fault_is {A = B} y) (same_err A x (TooLarge which k) f)
carried A B x Memory f = tt

missing_by : (n : ℕ) (events : List LinkEvent) (lines : Pieces) (fault : WorkFault) → IsText lines → Fails fault (next_line n lines) → Fails fault (lines_from n events lines)
unfolding lines_from
missing_by n events [] fault h f = absurd h
missing_by n events ([] ∷ []) fault h f = absurd h
missing_by n events ((b ∷ bs) ∷ []) fault h f = carried (List ℕ × Pieces) (List LinkEvent) (BadLine (n + 1)) fault f
missing_by n events (line ∷ next ∷ more) (BadLine k) h f = absurd cc
missing_by n events (line ∷ next ∷ more) (TooLarge which k) h f = absurd cc
missing_by n events (line ∷ next ∷ more) Memory h f = tt

pub line_missing : (n : ℕ) (events : List LinkEvent) (bytes : List ℕ) (fault : WorkFault) → 1 ≤ length bytes → Fails fault (next_line n (pieces 10 bytes)) → Fails fault (lines_from n events (pieces 10 bytes))
line_missing n events [] fault some f = absurd (omega (arith, some))
line_missing n events (b ∷ bs) fault some f = missing_by n events (pieces 10 (b ∷ bs)) fault (is_text b bs) f

pub text_over : (n : ℕ) (events : List LinkEvent) (bytes : List ℕ) → length bytes ≡ 0 → lines_from n events (pieces 10 bytes) ≡ Ok events
unfolding lines_from
text_over n events [] e = refl
text_over n events (b ∷ bs) e = absurd cc

pub ruleset line_by_line = (line_read, line_fails, line_missing, text_over)

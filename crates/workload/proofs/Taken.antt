-- The text of one operation more.
use Rattle.std.proofs.Common.{◌≡◌, ℕ, ◌+◌, List, [], ◌∷◌, ◌++◌, map, take, drop, slice_get, sym, ap, ◌∙◌, Some, append_assoc, append-nil}
use Rattle.std.specs.List.{AllByRecursion}
use Rattle.far_base.specs.declared.plan.OpLine.{OpLine}
use Rattle.far_base.proofs.Taken.{taken, left}
use Rattle.workload.specs.Forms.{Form, OfOp}
use Rattle.workload.specs.Meaning.{IsWholeOp}
use Rattle.workload.specs.Spelling.{line_text, lines_text}

text_one : (front : List OpLine) (line : OpLine) → lines_text (map OfOp (front ++ line ∷ [])) ≡ lines_text (map OfOp front) ++ line_text (OfOp line)
text_one [] line = append-nil (line_text (OfOp line))
text_one (x ∷ xs) line = ap (λ (t : List ℕ). line_text (OfOp x) ++ t) (text_one xs line) ∙ sym (append_assoc (line_text (OfOp x)) (lines_text (map OfOp xs)) (line_text (OfOp line)))

pub text_more : (ops : List OpLine) (i : ℕ) (line : OpLine) (old out new : List ℕ) → slice_get ops i ≡ Some line → out ≡ old ++ lines_text (map OfOp (take i ops)) → new ≡ out ++ line_text (OfOp line)
    → new ≡ old ++ lines_text (map OfOp (take (i + 1) ops))
text_more ops i line old out new e b m =
    m ∙ ap (λ (t : List ℕ). t ++ line_text (OfOp line)) b
    ∙ append_assoc old (lines_text (map OfOp (take i ops))) (line_text (OfOp line))
    ∙ ap (λ (t : List ℕ). old ++ t) (sym (text_one (take i ops) line) ∙ ap (λ (l : List OpLine). lines_text (map OfOp l)) (sym (taken ops i line e)))

pub whole_more : (ops : List OpLine) (i : ℕ) (line : OpLine) → slice_get ops i ≡ Some line → IsWholeOp line → AllByRecursion IsWholeOp (drop (i + 1) ops) → AllByRecursion IsWholeOp (drop i ops)
whole_more ops i line e w h = rw (left ops i line e) (w, h)

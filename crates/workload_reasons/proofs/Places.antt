-- Cutting a text at its line ends gives its lines.
use Rattle.std.proofs.Common.{◌≡◌, ℕ, ◌+◌, ◌-◌, ◌<◌, ◌≤◌, Bool, true, false, not, cond, List, [], ◌∷◌, drop, length}
use Rattle.std.proofs.Common.{refl, sym, ap, ◌∙◌, arith}
use Rattle.std.specs.Prelude.{Option, Some, None, nat_eq}
use Rattle.std.proofs.Math.Seq.{drop-nil}
use Rattle.std.proofs.lemmas.Bool.Decides.{nat_tests}
use Rattle.std.proofs.lemmas.List.{drop-drop}
use Rattle.far_text.specs.Pieces.{Pieces, pieces, cut_at}
use Rattle.far_text.proofs.Cuts.{pieces_cut, some_piece}
use Rattle.workload_reasons.specs.Ends.{first_whole, is_open, is_over, is_start, start_behind}

pub piece_cut : (bytes line rest : List ℕ) → cut_at 10 bytes ≡ Some (line, rest)
    → pieces 10 bytes ≡ line ∷ pieces 10 rest
piece_cut bytes line rest e = rw (pieces_cut 10 bytes, e) refl

pub piece_last : (bytes : List ℕ) → cut_at 10 bytes ≡ None → pieces 10 bytes ≡ bytes ∷ []
piece_last bytes e = rw (pieces_cut 10 bytes, e) refl

pub next_from : (i : ℕ) (all : Pieces) (bytes line rest : List ℕ) → drop i all ≡ pieces 10 bytes
    → cut_at 10 bytes ≡ Some (line, rest) → drop (i + 1) all ≡ pieces 10 rest
next_from i all bytes line rest at e = sym (drop-drop 1 i all) ∙ ap (drop 1) (at ∙ piece_cut bytes line rest e)

pub past_end : (i count : ℕ) (all : Pieces) (bytes : List ℕ) → drop i all ≡ pieces 10 bytes → cut_at 10 bytes ≡ None
    → i < count → drop count all ≡ []
past_end i count all bytes at e lt =
    let apart : i + 1 + (count - (i + 1)) ≡ count = omega (arith, lt) in
    let over : drop (i + 1) all ≡ [] = sym (drop-drop 1 i all) ∙ ap (drop 1) (at ∙ piece_last bytes e) in
    ap (λ (n : ℕ). drop n all) (sym apart) ∙ sym (drop-drop (count - (i + 1)) (i + 1) all)
    ∙ ap (drop (count - (i + 1))) over ∙ drop-nil (count - (i + 1))

-- ---- the first line of what is left

pub line_there : (lines : Pieces) (bytes line rest : List ℕ) → lines ≡ pieces 10 bytes
    → cut_at 10 bytes ≡ Some (line, rest) → first_whole lines ≡ Some line
line_there lines bytes line rest at e =
    let p = some_piece 10 rest in
    ap first_whole (at ∙ piece_cut bytes line rest e ∙ ap (λ (l : Pieces). line ∷ l) p.2)

pub line_away : (lines : Pieces) (bytes : List ℕ) → lines ≡ pieces 10 bytes → cut_at 10 bytes ≡ None
    → first_whole lines ≡ None
line_away lines bytes at e = ap first_whole (at ∙ piece_last bytes e)

last_is : (bytes : List ℕ) → is_open (bytes ∷ []) ≡ not (nat_eq (length bytes) 0)
last_is [] = refl
last_is (b ∷ bs) =
    let some : nat_eq (length (b ∷ bs)) 0 ≡ false = grind (arith, nat_tests) in
    rw some refl

pub open_there : (lines : Pieces) (bytes : List ℕ) → lines ≡ pieces 10 bytes → cut_at 10 bytes ≡ None
    → is_open lines ≡ not (nat_eq (length bytes) 0)
open_there lines bytes at e = ap is_open (at ∙ piece_last bytes e) ∙ last_is bytes

pub open_away : (lines : Pieces) (bytes line rest : List ℕ) → lines ≡ pieces 10 bytes
    → cut_at 10 bytes ≡ Some (line, rest) → is_open lines ≡ false
open_away lines bytes line rest at e =
    let p = some_piece 10 rest in
    ap is_open (at ∙ piece_cut bytes line rest e ∙ ap (λ (l : Pieces). line ∷ l) p.2) ∙ whole line p.0 p.1
  where
    whole : (line next : List ℕ) (more : Pieces) → is_open (line ∷ next ∷ more) ≡ false
    whole [] next more = refl
    whole (b ∷ bs) next more = refl

-- what is neither a whole line nor an open one is the end
pub over : (lines : Pieces) → first_whole lines ≡ None → is_open lines ≡ false → is_over lines ≡ true
over [] none shut = refl
over ([] ∷ []) none shut = refl
over ((b ∷ bs) ∷ []) none shut = absurd cc
over (line ∷ next ∷ more) none shut = absurd cc

-- ---- the first start number

pub start_cut : (n : ℕ) (bytes line rest : List ℕ) → cut_at 10 bytes ≡ Some (line, rest)
    → start_behind n (pieces 10 bytes) ≡ cond (is_start line) (Some (n + 1)) (start_behind (n + 1) (pieces 10 rest))
start_cut n bytes line rest e =
    let p = some_piece 10 rest in
    rw (piece_cut bytes line rest e, p.2) refl

pub start_last : (n : ℕ) (bytes : List ℕ) → cut_at 10 bytes ≡ None → start_behind n (pieces 10 bytes) ≡ None
start_last n bytes e = rw (piece_last bytes e) refl

-- Cutting at a byte gives the first piece and the others.
use Rattle.std.proofs.Common.{◌≡◌, ℕ, suc, true, false, cond, List, [], ◌∷◌, take, drop, refl, ap, ◌∙◌}
use Rattle.std.specs.Prelude.{Option, Some, None, nat_eq}
use Rattle.far_text.specs.Pieces.{Pieces, with_byte, pieces, until, ended, cut_at}

-- the pieces, by what a cut gave
abbrev pub pieces_by : ℕ → List ℕ → Option (List ℕ × List ℕ) → Pieces
pieces_by mark bytes None = bytes ∷ []
pieces_by mark bytes (Some c) = c.0 ∷ pieces mark c.1

by_byte : (mark b : ℕ) (bs front after : List ℕ) → with_byte b (pieces_by mark bs (ended front after)) ≡ pieces_by mark (b ∷ bs) (ended (b ∷ front) after)
by_byte mark b bs front [] = refl
by_byte mark b bs front (e ∷ rest) = refl

pub pieces_cut : (mark : ℕ) (bytes : List ℕ) → pieces mark bytes ≡ pieces_by mark bytes (cut_at mark bytes)
pieces_cut mark [] = refl
pieces_cut mark (b ∷ bs) =
    elim (nat_eq b mark) as (λ v. cond v ([] ∷ pieces mark bs) (with_byte b (pieces mark bs)) ≡ pieces_by mark (b ∷ bs) (ended (take (cond v 0 (suc (until mark bs))) (b ∷ bs)) (drop (cond v 0 (suc (until mark bs))) (b ∷ bs)))) [
      | true ↦ refl
      | false ↦ ap (with_byte b) (pieces_cut mark bs) ∙ by_byte mark b bs (take (until mark bs) bs) (drop (until mark bs) bs)
    ]

-- there is always a piece
pub some_piece : (mark : ℕ) (bytes : List ℕ) → (first : List ℕ) × (more : Pieces) × (pieces mark bytes ≡ first ∷ more)
some_piece mark [] = ([], [], refl)
some_piece mark (b ∷ bs) =
    let r = some_piece mark bs in
    elim (nat_eq b mark) as (λ v. (first : List ℕ) × (more : Pieces) × (cond v ([] ∷ pieces mark bs) (with_byte b (pieces mark bs)) ≡ first ∷ more)) [
      | true ↦ ([], pieces mark bs, refl)
      | false ↦ (b ∷ r.0, r.1, ap (with_byte b) r.2)
    ]

-- A text cut at a byte.
use Rattle.std.specs.Prelude.{ℕ, suc, Bool, not, List, [], ◌∷◌, take, drop, Option, Some, None, nat_eq, if◌then◌else◌}
use Rattle.std.specs.List.{list_all}

-- what stands between line ends, or between spaces
abbrev pub Pieces : Type 0
Pieces = List (List ℕ)

abbrev pub with_byte : ℕ → Pieces → Pieces
with_byte b [] = (b ∷ []) ∷ []
with_byte b (piece ∷ more) = (b ∷ piece) ∷ more

-- what stands between the bytes `mark`: one piece more than there are such bytes
abbrev pub pieces : ℕ → List ℕ → Pieces
pieces mark [] = [] ∷ []
pieces mark (b ∷ bs) = if nat_eq b mark then [] ∷ pieces mark bs else with_byte b (pieces mark bs)

-- how many bytes stand before the first `mark`
abbrev pub until : ℕ → List ℕ → ℕ
until mark [] = 0
until mark (b ∷ bs) = if nat_eq b mark then 0 else suc (until mark bs)

abbrev pub ended : List ℕ → List ℕ → Option (List ℕ × List ℕ)
ended front [] = None
ended front (end ∷ rest) = Some (front, rest)

-- what stands before the first `mark`, and what stands behind it
abbrev pub cut_at : ℕ → List ℕ → Option (List ℕ × List ℕ)
cut_at mark bytes = ended (take (until mark bytes) bytes) (drop (until mark bytes) bytes)

-- the byte does not occur
abbrev pub lacks : ℕ → List ℕ → Bool
lacks mark bytes = list_all (λ b. not (nat_eq b mark)) bytes

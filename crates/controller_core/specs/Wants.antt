-- The keys that are wanted.
use Rattle.std.specs.Prelude.{ℕ, List, [], ◌∷◌, Option, None, Some}

abbrev pub first_want : List (List ℕ) → Option (List ℕ)
first_want [] = None
first_want (key ∷ keys) = Some key

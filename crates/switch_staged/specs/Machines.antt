-- What one that takes a list step by step leaves and gives.
use Rattle.std.specs.Prelude.{List, [], ◌∷◌}

-- what it is after the list
abbrev pub left_by : {S X : Type 0} → (S → X → S) → S → List X → S
left_by step s [] = s
left_by step s (x ∷ xs) = left_by step (step s x) xs

-- what it gives, item by item
abbrev pub given_by : {S X Y : Type 0} → (S → X → S) → (S → X → Y) → S → List X → List Y
given_by step out s [] = []
given_by step out s (x ∷ xs) = out s x ∷ given_by step out (step s x) xs

-- The parts of a snapshot as they are kept: per slot whether its part has come, and the part.
use Rattle.std.specs.Prelude.{◌≡◌, ℕ, suc, ◌≤◌, ◌<◌, ◌^◌, Bool, true, false, List, [], ◌∷◌, length, Option, None, Some}
use Rattle.std.specs.Prelude.{if◌then◌else◌}
use Rattle.far_base.specs.declared.record.Record.{Record}

-- the part of each slot, where it has come
abbrev pub parts_of : List Bool → List (Option Record) → List (Option (Option Record))
parts_of [] views = []
parts_of (come ∷ comes) [] = []
parts_of (come ∷ comes) (view ∷ views) = (if come then Some view else None) ∷ parts_of comes views

-- how many slots have no part
abbrev pub lacking : List Bool → ℕ
lacking [] = 0
lacking (true ∷ comes) = lacking comes
lacking (false ∷ comes) = suc (lacking comes)

-- the count of missing parts is right
pub record IsCounted (come : List Bool) (views : List (Option Record)) (missing : ℕ) : Type 0 where
  pub alike : length come ≡ length views
  pub count : missing ≡ lacking come
  pub few : length come < 2 ^ 32

-- how many slots have a part
abbrev pub parts_there : List (Option (Option Record)) → ℕ
parts_there [] = 0
parts_there (None ∷ parts) = parts_there parts
parts_there (Some view ∷ parts) = suc (parts_there parts)

-- no more parts are those of the last snapshot than have come
pub record AreSome (sames : ℕ) (parts : List (Option (Option Record))) : Type 0 where
  pub come : sames ≤ parts_there parts
  pub few : length parts < 2 ^ 32

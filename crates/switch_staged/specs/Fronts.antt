-- Register arrays of stages 0 to 3, and of a part of the body.
use Rattle.std.specs.Prelude.{◌≡◌, ◌+◌, ◌<◌, ◌≤◌, ℕ, zero, suc, List, [], ◌∷◌, length, replicate, Option, None}
use Rattle.far_base.specs.declared.plan.Config.{Config}
use Rattle.far_model.specs.View.{HotCell}
use Rattle.register_stages.specs.declared.array.RegArray.{RegArray}
use Rattle.register_stages.specs.Arrays.{cells_of, place_of}
use Rattle.switch_staged.specs.declared.cells.Gate.{Gate}
use Rattle.switch_staged.specs.declared.cells.Head.{Head}
use Rattle.switch_staged.specs.declared.cells.Taken.{Taken}
use Rattle.switch_staged.specs.Stages.{IsPart}

-- the arrays stand at their places and have their cells
pub record IsFront (config : Config) (gate : RegArray Gate) (bound : List (Option (List ℕ)))
    (heads : RegArray Head) (taken : RegArray Taken) (hot : RegArray HotCell) : Type 0 where
  pub servers : 0 < config.servers
  pub slots : config.slots ≤ 1024
  pub bound_count : length bound ≡ config.slots
  pub heads_count : length (cells_of heads) ≡ config.slots
  pub taken_count : length (cells_of taken) ≡ config.slots
  pub one : length (cells_of gate) ≡ 1
  pub hots : length (cells_of hot) ≡ 256
  pub gate_place : place_of gate ≡ 0
  pub heads_place : place_of heads ≡ 2
  pub taken_place : place_of taken ≡ 3
  pub hot_place : place_of hot ≡ 4

-- eight arrays of the body
pub record IsBodyPart (first slots : ℕ) (bodies : List (RegArray (List ℕ))) : Type 0 where
  pub within : first + 8 ≤ 32
  pub part : IsPart (5 + first) slots bodies
  pub count : length bodies ≡ 8

-- the keys of the first slots, and no others
abbrev pub first_bound : ℕ → List (Option (List ℕ)) → List (Option (List ℕ))
first_bound zero bound = replicate (length bound) None
first_bound (suc k) [] = []
first_bound (suc k) (b ∷ bs) = b ∷ first_bound k bs

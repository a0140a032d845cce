-- A switch of register arrays.
use Rattle.std.specs.Prelude.{◌≡◌, ◌<◌, ◌≤◌, ℕ, List, length, Option}
use Rattle.far_base.specs.declared.plan.Config.{Config}
use Rattle.far_model.specs.View.{SwitchView, HotCell}
use Rattle.register_stages.specs.declared.array.RegArray.{RegArray}
use Rattle.register_stages.specs.Arrays.{cells_of, place_of}
use Rattle.switch_staged.specs.declared.cells.Gate.{Gate}
use Rattle.switch_staged.specs.declared.cells.Head.{Head}
use Rattle.switch_staged.specs.declared.cells.Taken.{Taken}
use Rattle.switch_staged.specs.Stages.{gate_of, all_cells, IsPart}
use Rattle.switch_staged.specs.Whole.{Registers, Fits, view_of}

-- what the arrays have
abbrev pub registers : RegArray Gate → List (Option (List ℕ)) → RegArray Head → RegArray Taken → RegArray HotCell
    → List (RegArray (List ℕ)) → Registers
registers gate bound heads taken hot bodies = record {
  gate = gate_of (cells_of gate);
  bound = bound;
  heads = cells_of heads;
  taken = cells_of taken;
  hot = cells_of hot;
  arrays = all_cells bodies;
}

-- the arrays stand at their places and have their cells
pub record IsStaged (config : Config) (gate : RegArray Gate) (bound : List (Option (List ℕ)))
    (heads : RegArray Head) (taken : RegArray Taken) (hot : RegArray HotCell) (bodies : List (RegArray
    (List ℕ))) : Type 0 where
  pub servers : 0 < config.servers
  pub slots : config.slots ≤ 1024
  pub fits : Fits config (registers gate bound heads taken hot bodies)
  pub one : length (cells_of gate) ≡ 1
  pub hots : length (cells_of hot) ≡ 256
  pub gate_place : place_of gate ≡ 0
  pub heads_place : place_of heads ≡ 2
  pub taken_place : place_of taken ≡ 3
  pub hot_place : place_of hot ≡ 4
  pub part : IsPart 5 config.slots bodies
  pub count : length bodies ≡ 32

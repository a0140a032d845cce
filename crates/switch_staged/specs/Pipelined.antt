-- What a pipeline of register arrays shows.
use Rattle.std.specs.Prelude.{ℕ, List, replicate, Option, None}
use Rattle.far_base.specs.declared.packet.Packet.{Packet}
use Rattle.far_base.specs.declared.plan.Config.{Config}
use Rattle.far_model.specs.View.{HotCell}
use Rattle.register_stages.specs.declared.array.RegArray.{RegArray}
use Rattle.switch_staged.specs.declared.cells.Gate.{Gate}
use Rattle.switch_staged.specs.declared.cells.Head.{Head}
use Rattle.switch_staged.specs.declared.cells.Taken.{Taken}
use Rattle.switch_staged.specs.declared.flight.Course.{Course}
use Rattle.switch_staged.specs.Overlap.{PipelineView, IsOpen}
use Rattle.switch_staged.specs.Rows.{BODY_CELLS}
use Rattle.switch_staged.specs.Staged.{registers, IsStaged}
use Rattle.switch_staged.specs.Whole.{opening_registers}

abbrev pub pipeline_view : Config → RegArray Gate → List (Option (List ℕ)) → RegArray Head → RegArray Taken
    → RegArray HotCell → List (RegArray (List ℕ)) → Option Packet → Option Course → Option Course → Option Course
    → List (Option Course) → PipelineView
pipeline_view config gate bound heads taken hot bodies entering to_table to_heads to_taken to_bodies = record {
  config = config;
  registers = registers gate bound heads taken hot bodies;
  entering = entering;
  table = to_table;
  heads = to_heads;
  taken = to_taken;
  bodies = to_bodies;
}

-- the arrays stand at their places, and each visit is of a cell that is there
pub record IsPipeline (config : Config) (gate : RegArray Gate) (bound : List (Option (List ℕ)))
    (heads : RegArray Head) (taken : RegArray Taken) (hot : RegArray HotCell) (bodies : List (RegArray (List ℕ)))
    (entering : Option Packet) (to_table to_heads to_taken : Option Course) (to_bodies : List
    (Option Course)) : Type 0 where
  pub staged : IsStaged config gate bound heads taken hot bodies
  pub reaches : IsOpen (pipeline_view config gate bound heads taken hot bodies entering to_table to_heads to_taken
      to_bodies)

-- no packet is inside, and the switch has no memory but these
abbrev pub opening_pipeline : Config → ℕ → ℕ → PipelineView
opening_pipeline config epoch counter = record {
  config = config;
  registers = opening_registers config epoch counter;
  entering = None;
  table = None;
  heads = None;
  taken = None;
  bodies = replicate BODY_CELLS None;
}

-- All stages together, and the view of a switch that has these registers.
use Rattle.std.specs.Prelude.{⊤, ◌≡◌, ◌<◌, ◌≤◌, ℕ, zero, suc, ◌+◌, Bool, true, false, if◌then◌else◌, List, [], ◌∷◌}
use Rattle.std.specs.Prelude.{length, map, replicate, Option, None, Some}
use Rattle.far_base.specs.declared.packet.Packet.{Packet}
use Rattle.far_base.specs.declared.plan.Config.{Config}
use Rattle.far_model.specs.View.{SlotView, SwitchView, HotCell, HOT_CELLS, Mark}
use Rattle.far_model.specs.Pass.{Passed}
use Rattle.switch_staged.specs.declared.cells.Gate.{Gate}
use Rattle.switch_staged.specs.declared.cells.Head.{Head}
use Rattle.switch_staged.specs.declared.cells.Taken.{Taken}
use Rattle.switch_staged.specs.declared.flight.Course.{Course}
use Rattle.switch_staged.specs.Heads.{gate_after, empty_head}
use Rattle.switch_staged.specs.Stages.{no_taken, no_hot, entered, table_after, looked_up, heads_after, headed}
use Rattle.switch_staged.specs.Stages.{taken_at_place, parted_at, hots_after, warmed, arrays_after, carried_all}
use Rattle.switch_staged.specs.Rows.{all_bytes, beside, AreFull, BODY_CELLS, zero_cell}
use Rattle.switch_staged.specs.Emits.{slot_of, first_out, second_out}

-- what the arrays of a switch have
pub record Registers : Type 0 where
  pub gate : Gate
  pub bound : List (Option (List ℕ))
  pub heads : List Head
  pub taken : List Taken
  pub hot : List HotCell
  pub arrays : List (List (List ℕ))

abbrev pub slots_of : ℕ → List Head → List (List (List ℕ)) → List SlotView
slots_of slots heads arrays = beside slot_of heads (all_bytes slots arrays)

abbrev pub eras_of : List Taken → List ℕ
eras_of taken = map (λ (t : Taken). t.era) taken

abbrev pub marks_of : List Taken → List (Option Mark)
marks_of taken = map (λ (t : Taken). t.mark) taken

-- what contracts see of these registers
abbrev pub view_of : Config → Registers → SwitchView
view_of config r = record {
  config = config;
  epoch = r.gate.epoch;
  counter = r.gate.counter;
  snap = r.gate.snap;
  base = r.gate.base;
  bound = r.bound;
  slots = slots_of config.slots r.heads r.arrays;
  taken = eras_of r.taken;
  shown = marks_of r.taken;
  hot = r.hot;
}

-- the arrays of the bodies with zeros in all cells
abbrev pub empty_arrays : ℕ → List (List (List ℕ))
empty_arrays slots = replicate BODY_CELLS (replicate slots zero_cell)

-- the registers of a switch with no memory but these
abbrev pub opening_registers : Config → ℕ → ℕ → Registers
opening_registers config epoch counter = record {
  gate = record { epoch = epoch; counter = counter; snap = 0; base = 0 };
  bound = replicate config.slots None;
  heads = replicate config.slots empty_head;
  taken = replicate config.slots no_taken;
  hot = replicate HOT_CELLS no_hot;
  arrays = empty_arrays config.slots;
}

-- the arrays have a cell for each slot
pub record Fits (config : Config) (r : Registers) : Type 0 where
  pub bound : length r.bound ≡ config.slots
  pub heads : length r.heads ≡ config.slots
  pub taken : length r.taken ≡ config.slots
  pub arrays : AreFull config.slots r.arrays
  pub count : length r.arrays ≡ BODY_CELLS

-- the stages of the bodies, and what leaves
abbrev pub from_bodies : Config → Registers → Course → Passed
from_bodies config r f = record {
  view = view_of config (record r { arrays = arrays_after 0 r.arrays f });
  first = first_out config (carried_all 0 r.arrays f);
  second = second_out (carried_all 0 r.arrays f);
}

-- from the hot cells on
abbrev pub from_hot : Config → Registers → Course → Passed
from_hot config r f = from_bodies config (record r { hot = hots_after config r.hot f }) (warmed config r.hot f)

-- from the taken parts on
abbrev pub from_taken : Config → Registers → Course → Passed
from_taken config r f = from_hot config (record r { taken = taken_at_place r.taken f.place f })
    (parted_at r.taken f.place f)

-- from the heads on
abbrev pub from_heads : Config → Registers → Course → Passed
from_heads config r f = from_taken config (record r { heads = heads_after r.heads f }) (headed r.heads f)

-- from the table on
abbrev pub from_table : Config → Registers → Course → Passed
from_table config r f = from_heads config (record r { bound = table_after r.bound f }) (looked_up r.bound f)

-- a pass through all stages
abbrev pub staged : Config → Registers → Packet → Passed
staged config r p = from_table config (record r { gate = gate_after r.gate p }) (entered config r.gate p)

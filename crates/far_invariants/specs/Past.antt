-- What proofs remember of the past of a run. None of it is part of the state, and nothing that runs knows it.
use Rattle.std.specs.Prelude.{ℕ, Bool, true, false, nat_eq, if◌then◌else◌, List, [], ◌∷◌, ◌++◌, map, slice_get, Option}
use Rattle.std.specs.Prelude.{None, Some}
use Rattle.far_base.specs.PlanView.{PlanView}
use Rattle.far_base.specs.declared.event.Event.{Event}
use Rattle.far_base.specs.declared.event.Event.TheVariants.{Deliver, Tick, Recover}
use Rattle.far_base.specs.declared.kept.KeptItem.{KeptItem}
use Rattle.far_base.specs.declared.packet.Message.{Message}
use Rattle.far_base.specs.declared.packet.Out.{Out}
use Rattle.far_base.specs.declared.packet.Packet.{Packet}
use Rattle.far_base.specs.declared.packet.Packet.TheVariants.{Admit, SnapStart, SnapFrom}
use Rattle.far_base.specs.declared.party.Party.{Party}
use Rattle.far_base.specs.declared.party.Party.TheVariants.{Switch}
use Rattle.far_base.specs.declared.record.Record.{Record}
use Rattle.far_model.specs.Controller.{ControllerState, tick}
use Rattle.far_model.specs.Events.{happens}
use Rattle.far_model.specs.Kept.{kept_records}
use Rattle.far_model.specs.Parties.{Turn}
use Rattle.far_model.specs.State.{State, opening}
use Rattle.far_model.specs.View.{SwitchView, held_record}

-- what each slot held, and the counter, when the switch took the start of a snapshot, and whether it was a start by
-- difference: its parts may refer to the last completed snapshot
pub record SnapshotStart : Type 0 where
  pub id : ℕ
  pub views : List (Option Record)
  pub counter : ℕ
  pub by_difference : Bool

-- for which key, slot and epoch a tag was drawn
pub record DrawnTag : Type 0 where
  pub tag : ℕ
  pub key : List ℕ
  pub slot : ℕ
  pub epoch : ℕ

pub record Past : Type 0 where
  pub starts : List SnapshotStart
  pub drawn : List DrawnTag
  pub recoveries : List (List KeptItem)

abbrev pub no_past : Past
no_past = record { starts = []; drawn = []; recoveries = [] }

abbrev pub start_of : SwitchView → ℕ → Bool → SnapshotStart
start_of v id by_difference = record {
  id = id;
  views = map held_record v.slots;
  counter = v.counter;
  by_difference = by_difference;
}

-- the start that a delivery makes: of a start of a snapshot in the switch's epoch, by difference or not
abbrev pub starts_by : SwitchView → Party → Packet → List SnapshotStart
starts_by v Switch (SnapStart epoch id) = if nat_eq epoch v.epoch then start_of v id false ∷ [] else []
starts_by v Switch (SnapFrom epoch id base) = if nat_eq epoch v.epoch then start_of v id true ∷ [] else []
starts_by v _ packet = []

abbrev pub starts_with : SwitchView → Option Message → List SnapshotStart
starts_with v None = []
starts_with v (Some m) = starts_by v m.to m.packet

abbrev pub new_starts : State → Event → List SnapshotStart
new_starts s (Deliver i) = starts_with s.switch (slice_get s.bag i)
new_starts s _ = []

abbrev pub drawn_by : Packet → List DrawnTag
drawn_by (Admit epoch slot key tag) = record { tag = tag; key = key; slot = slot; epoch = epoch } ∷ []
drawn_by _ = []

abbrev pub drawn_in : List Out → List DrawnTag
drawn_in [] = []
drawn_in (out ∷ outs) = drawn_by out.packet ++ drawn_in outs

abbrev pub drawn_with : Option (Turn ControllerState) → List DrawnTag
drawn_with None = []
drawn_with (Some t) = drawn_in t.out

abbrev pub new_drawn : State → Event → List DrawnTag
new_drawn s Tick = drawn_with (tick s.controller)
new_drawn s _ = []

abbrev pub new_recoveries : State → Event → List (List KeptItem)
new_recoveries s Recover = kept_records s ∷ []
new_recoveries s _ = []

-- what is remembered after the event that happens in this state
abbrev pub remembers : State → Past → Event → Past
remembers s p e = record {
  starts = p.starts ++ new_starts s e;
  drawn = p.drawn ++ new_drawn s e;
  recoveries = p.recoveries ++ new_recoveries s e;
}

abbrev pub past_from : PlanView → State → Past → List Event → Past
past_from plan s p [] = p
past_from plan s p (e ∷ es) = past_from plan (happens plan s e) (remembers s p e) es

-- what is remembered after a run
abbrev pub past_of : PlanView → List Event → Past
past_of plan events = past_from plan (opening plan) no_past events

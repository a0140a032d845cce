-- What the plain switch is seen as.
use Rattle.std.specs.Prelude.{◌≡◌, ◌≤◌, length, if◌then◌else◌, ℕ, Bool, true, false}
use Rattle.far_base.specs.declared.packet.Packet.{Packet}
use Rattle.far_base.specs.declared.packet.Packet.TheVariants.{GetReq, WriteReq, GetRep, WriteRep}
use Rattle.far_model.specs.Pass.{Passed, with_taken}
use Rattle.far_model.specs.View.{SwitchView, is_taken, held_record, slot_at}
use Rattle.switch_core.specs.declared.plain.PlainSwitch.TheInside.{Inside}
use Rattle.switch_core.specs.declared.switch.Emit.{Emit}

abbrev pub view_of : Inside → SwitchView
view_of s = record {
  config = s.config;
  epoch = s.epoch;
  counter = s.counter;
  snap = s.snap;
  base = s.base;
  bound = s.lookup.bound;
  slots = s.slots.items;
  taken = s.taken.items;
  shown = s.shown.items;
  hot = s.hot.cells;
}

-- each list has one entry for each slot
pub record IsPlain (s : Inside) : Type 0 where
  pub servers : 1 ≤ s.config.servers
  pub hot_count : s.hot.hot ≡ s.config.hot
  pub bound : length s.lookup.bound ≡ s.config.slots
  pub entries : length s.slots.items ≡ s.config.slots
  pub eras : length s.taken.items ≡ s.config.slots
  pub marks : length s.shown.items ≡ s.config.slots

-- what leaves at a pass
abbrev pub emit_of : Passed → Emit
emit_of p = record { first = p.first; second = p.second }

-- the slot's part is taken, if it was not before
abbrev pub part_taken : SwitchView → ℕ → SwitchView
part_taken v i = if is_taken v i then v else with_taken v i (held_record (slot_at v i))

-- whether the packet is no request and no reply of a server
abbrev pub is_control : Packet → Bool
is_control (GetReq caller op key) = false
is_control (WriteReq caller op key body) = false
is_control (GetRep caller op key tag num body) = false
is_control (WriteRep caller op key num body) = false
is_control _ = true

-- Registers that packets pass one after the other, and the flight of a packet at each stage.
use Rattle.std.specs.Prelude.{◌≡◌, ◌<◌, ◌≤◌, ℕ, List, [], ◌∷◌, take, length}
use Rattle.far_base.specs.Padded.{text_of}
use Rattle.far_base.specs.declared.packet.Packet.{Packet}
use Rattle.far_base.specs.declared.plan.Config.{Config}
use Rattle.switch_staged.specs.declared.flight.Course.{Course}
use Rattle.switch_staged.specs.Changes.{IsCut}
use Rattle.switch_staged.specs.Heads.{gate_after, new_body}
use Rattle.switch_staged.specs.Rows.{row}
use Rattle.switch_staged.specs.Stages.{entered, table_after, looked_up, heads_after, head_at, headed, taken_at_place}
use Rattle.switch_staged.specs.Stages.{parted_at, hots_after, warmed, arrays_after, carried_all, touch_key, token_past}
use Rattle.switch_staged.specs.Whole.{Registers, Fits}

-- the flight of a packet before stage 1, 2 and 3
abbrev pub before_table : Config → Registers → Packet → Course
before_table config r p = entered config r.gate p

abbrev pub before_heads : Config → Registers → Packet → Course
before_heads config r p = looked_up r.bound (before_table config r p)

abbrev pub before_taken : Config → Registers → Packet → Course
before_taken config r p = headed r.heads (before_heads config r p)

-- what stage 3 makes of a flight
abbrev pub past_taken : Config → Registers → Course → Course
past_taken config r f = warmed config r.hot (parted_at r.taken f.place f)

abbrev pub before_bodies : Config → Registers → Packet → Course
before_bodies config r p = past_taken config r (before_taken config r p)

-- where stages 0 to 3 leave the token of the pass of a packet
abbrev pub token_by : Course → Course → Course → ℕ
token_by heads taken hot = token_past (touch_key hot.place hot.packet) 5
    (token_past taken.place 4 (token_past heads.place 3 1))

abbrev pub token_led : Config → Registers → Packet → ℕ
token_led config r p = token_by (before_heads config r p) (before_taken config r p)
    (parted_at r.taken (before_taken config r p).place (before_taken config r p))

-- the flight of a packet before stage k of the body
abbrev pub before_body : ℕ → Config → Registers → Packet → Course
before_body k config r p = carried_all 0 (take k r.arrays) (before_bodies config r p)

-- the registers after a packet has passed all stages
abbrev pub after : Config → Registers → Packet → Registers
after config r p = record {
  gate = gate_after r.gate p;
  bound = table_after r.bound (before_table config r p);
  heads = heads_after r.heads (before_heads config r p);
  taken = taken_at_place r.taken (before_taken config r p).place (before_taken config r p);
  hot = hots_after config r.hot (parted_at r.taken (before_taken config r p).place (before_taken config r p));
  arrays = arrays_after 0 r.arrays (before_bodies config r p);
}

-- the registers after packets have passed, one after the other
abbrev pub through : Config → Registers → List Packet → Registers
through config r [] = r
through config r (p ∷ ps) = through config (after config r p) ps

-- the cells of each slot are those of its body
abbrev pub AreCut : ℕ → Registers → Type 0
AreCut slots r = (i : ℕ) → i < slots → IsCut (head_at r.heads i).shape (row i r.arrays)

-- the body that a packet brings fits a slot
abbrev pub IsShort : Packet → Type 0
IsShort p = length (text_of (new_body p)) ≤ 256

-- What is still to be known of numbers and records: where counters come from, and that snapshots hold written records.
use Rattle.std.specs.Prelude.{◌≡◌, ℕ, ◌⊎◌, true, List, Option, Some, None, slice_index_or}
use Rattle.far_base.specs.declared.log.LogLine.{LogLine}
use Rattle.far_base.specs.declared.packet.Message.{Message}
use Rattle.far_base.specs.declared.packet.Packet.{Packet}
use Rattle.far_base.specs.declared.packet.Packet.TheVariants.{TopIs}
use Rattle.far_model.specs.Members.{Among}
use Rattle.far_model.specs.Rounds.{Round}
use Rattle.far_model.specs.State.{State}
use Rattle.far_invariants.specs.Snapshots.{WasDrawn}

-- 0, or a write has a number of at least it
abbrev pub IsCounted : List LogLine → ℕ → Type 0
IsCounted log num = (num ≡ 0) ⊎ WasDrawn log num

abbrev pub TopIsCounted : List LogLine → Packet → Type 0
TopIsCounted log (TopIs round server top) = IsCounted log top
TopIsCounted log _ = Unit {0}

-- the tops that a round has heard
abbrev pub TopsAre : (ℕ → Type 0) → Option Round → Type 0
TopsAre P o = (r : Round) → o ≡ Some r → (n top : ℕ) → slice_index_or r.tops n None ≡ Some top → P top

pub record CountersAreDrawn (s : State) : Type 0 where
  pub counter : s.running ≡ true → IsCounted s.log s.switch.counter
  pub packets : (m : Message) → Among m s.bag → TopIsCounted s.log m.packet
  pub tops : TopsAre (IsCounted s.log) s.controller.round

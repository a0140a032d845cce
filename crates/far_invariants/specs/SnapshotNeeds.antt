-- What the laws of snapshots need of the other laws, in the state before an event.
use Rattle.std.specs.Prelude.{◌≡◌, Bool, ℕ, ◌≤◌, ◌⊎◌, true, List, length, is_some, None, Some}
use Rattle.far_base.specs.PlanView.{PlanView}
use Rattle.far_base.specs.declared.log.LogEntry.TheVariants.{Numbered}
use Rattle.far_base.specs.declared.packet.Message.{Message}
use Rattle.far_base.specs.declared.packet.Packet.{Packet}
use Rattle.far_base.specs.declared.packet.Packet.TheVariants.{GetReq}
use Rattle.far_base.specs.declared.record.Record.{Record}
use Rattle.far_model.specs.Controller.{ready}
use Rattle.far_invariants.specs.Covers.{IsAtServer, IsInSlot, IsAbsorbed}
use Rattle.far_model.specs.Members.{Among}
use Rattle.far_model.specs.State.{State, line_at}
use Rattle.far_model.specs.View.{slot_at, held_record}
use Rattle.far_invariants.specs.Snapshots.{WasDrawn, view_at}

-- a read that asks the switch has no number
abbrev pub IsUnnumberedRead : State → Packet → Type 0
IsUnnumberedRead s (GetReq caller op key) = (at num : ℕ) → Among (line_at at (Numbered op num)) s.log → ⊥
IsUnnumberedRead s _ = Unit {0}

pub record Needs (tells : Bool) (plan : PlanView) (s : State) : Type 0 where
  -- numbers (records are written, and own numbers differ): a record of a slot and one of the last completed snapshot
  -- with one key and number have one body
  pub agree : tells ≡ true → (i j : ℕ) (r q : Record) → held_record (slot_at s.switch i) ≡ Some r
      → view_at s.controller.last.views j ≡ Some q → r.key ≡ q.key → r.num ≡ q.num → r.body ≡ q.body
  -- numbers: while the switch runs, no slot has a number above the counter
  pub within : tells ≡ true → s.running ≡ true → (i : ℕ) (r : Record) → held_record (slot_at s.switch i) ≡ Some r
      → r.num ≤ s.switch.counter
  -- numbers: while the switch runs, its counter is 0, or a write has a number of at least it
  pub drawn : tells ≡ true → s.running ≡ true → (s.switch.counter ≡ 0) ⊎ WasDrawn s.log s.switch.counter
  -- numbers: a read has no number of its own
  pub reads : tells ≡ true → (m : Message) → Among m s.bag → IsUnnumberedRead s m.packet
  -- evictions: while the switch runs, an absorbed number is covered by a latest slot or its server
  pub cached : tells ≡ true → s.running ≡ true → (key : List ℕ) (num : ℕ) → IsAbsorbed plan s.log key num
      → IsAtServer plan s key num ⊎ IsInSlot s key num
  -- slots: the controller has a state for each slot
  pub slots : length s.controller.slots ≡ plan.config.slots
  -- stops: during a round there is no job
  pub rounds : is_some s.controller.round ≡ true → s.controller.job ≡ None
  -- stops: the counter of a restart is at least each number that a write has
  pub tops : tells ≡ true → (counter : ℕ) → ready s.controller ≡ Some counter → (at op num : ℕ)
      → Among (line_at at (Numbered op num)) s.log → num ≤ counter

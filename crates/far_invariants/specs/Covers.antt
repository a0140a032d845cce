-- Places that keep a write when the switch loses its memory.
use Rattle.far_base.specs.declared.record.Versioned.{Versioned}
use Rattle.far_model.specs.Clients.{line_of}
use Rattle.std.specs.Prelude.{◌≡◌, ℕ, ◌≤◌, ◌⊎◌, true, List, Option, Some}
use Rattle.far_base.specs.PlanView.{PlanView}
use Rattle.far_base.specs.declared.log.LogLine.{LogLine}
use Rattle.far_base.specs.declared.log.LogEntry.TheVariants.{Numbered, Emitted}
use Rattle.far_base.specs.declared.packet.Message.{Message}
use Rattle.far_base.specs.declared.packet.Packet.TheVariants.{WriteAns}
use Rattle.far_base.specs.declared.record.Record.{Record}
use Rattle.far_model.specs.KeyedRecords.{found}
use Rattle.far_model.specs.Members.{Among}
use Rattle.far_model.specs.Snapshots.{view_records}
use Rattle.far_model.specs.State.{State, client_at, line_at, records_at}
use Rattle.far_model.specs.View.{server_of, slot_at, held_record}

-- the switch answered the write with this number by itself
pub record IsAnsweredNear (log : List LogLine) (op num : ℕ) : Type 0 where
  pub emitted_at : ℕ
  pub body : Option (List ℕ)
  pub emitted : Among (line_at emitted_at (Emitted op num body true)) log

-- a write on the key, of the plan, has this number, and the switch answered it by itself, before any server had it
pub record IsAbsorbed (plan : PlanView) (log : List LogLine) (key : List ℕ) (num : ℕ) : Type 0 where
  pub op : ℕ
  pub on_key : (line_of plan.ops op).key ≡ key
  pub numbered_at : ℕ
  pub numbered : Among (line_at numbered_at (Numbered op num)) log
  pub absorbed : IsAnsweredNear log op num

-- some answer to the write left the switch as its own, whatever its number
pub record IsMarkedNear (log : List LogLine) (op : ℕ) : Type 0 where
  pub emitted_at : ℕ
  pub num : ℕ
  pub body : Option (List ℕ)
  pub emitted : Among (line_at emitted_at (Emitted op num body true)) log

-- a write on the key, of the plan, has this number, and some answer to it left the switch as its own: in every run this
-- says no more than `IsAbsorbed`
pub record IsWriteMarkedNear (plan : PlanView) (log : List LogLine) (key : List ℕ) (num : ℕ) : Type 0 where
  pub op : ℕ
  pub on_key : (line_of plan.ops op).key ≡ key
  pub numbered_at : ℕ
  pub numbered : Among (line_at numbered_at (Numbered op num)) log
  pub marked : IsMarkedNear log op

-- ---- places that cover a number of a key: they hold a record of the key with at least that number

-- what the server of a key has for it
abbrev pub look : PlanView → State → List ℕ → Versioned
look plan s key = found (records_at s (server_of plan.config key)) key

abbrev pub IsAtServer : PlanView → State → List ℕ → ℕ → Type 0
IsAtServer plan s key num = num ≤ (look plan s key).num

-- the number is absorbed, or at most that of its server
abbrev pub IsKnown : PlanView → State → List ℕ → ℕ → Type 0
IsKnown plan s key num = IsAbsorbed plan s.log key num ⊎ IsAtServer plan s key num

-- one of the records covers the number
pub record Covers (records : List Record) (key : List ℕ) (num : ℕ) : Type 0 where
  pub item : Record
  pub there : Among item records
  pub on_key : item.key ≡ key
  pub above : num ≤ item.num

-- a latest slot covers the number
pub record IsInSlot (s : State) (key : List ℕ) (num : ℕ) : Type 0 where
  pub slot : ℕ
  pub item : Record
  pub holds : held_record (slot_at s.switch slot) ≡ Some item
  pub on_key : item.key ≡ key
  pub above : num ≤ item.num

abbrev pub IsInSnapshot : State → List ℕ → ℕ → Type 0
IsInSnapshot s key num = Covers (view_records s.controller.last.views) key num

-- a client preserves it
pub record IsPreserved (s : State) (key : List ℕ) (num : ℕ) : Type 0 where
  pub client : ℕ
  pub covers : Covers (client_at s client).preserved key num

-- an answer of the switch that its client has still to preserve
pub record IsKeptInFlight (s : State) (key : List ℕ) (num : ℕ) : Type 0 where
  pub message : Message
  pub there : Among message s.bag
  pub caller : ℕ
  pub op : ℕ
  pub number : ℕ
  pub is : message.packet ≡ WriteAns caller op key number true
  pub above : num ≤ number

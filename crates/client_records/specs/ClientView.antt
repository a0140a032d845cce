-- A client as contracts see it. What it has still to send is not kept by it.
use Rattle.std.specs.Prelude.{◌≡◌, ℕ, ◌<◌, ◌≤◌, Bool, true, false, nat_lt, List, [], length, slice_index_or, Option}
use Rattle.std.specs.Prelude.{None, Some}
use Rattle.far_base.specs.declared.packet.Packet.{Packet}
use Rattle.far_base.specs.declared.packet.Packet.TheVariants.{GetAns, WriteAns}
use Rattle.far_base.specs.declared.plan.OpLine.{OpLine}
use Rattle.far_base.specs.declared.record.Record.{Record}
use Rattle.far_model.specs.Clients.{ClientState, closed, preserves}
use Rattle.far_model.specs.Log.{same_key}

pub record ClientView : Type 0 where
  pub number : ℕ
  pub waits : Option (ℕ × OpLine)
  pub released : ℕ
  pub preserved : List Record

-- the last operation, where it is open
abbrev pub open_if : Bool → Option (ℕ × OpLine) → Option (ℕ × OpLine)
open_if true last = last
open_if false last = None

-- while an operation is open there is room for one record
abbrev pub HasRoom : Option (ℕ × OpLine) → ℕ → ℕ → Type 0
HasRoom None len capacity = Unit {0}
HasRoom (Some o) len capacity = len < capacity

abbrev pub is_above : ℕ → Record → Bool
is_above point r = nat_lt point r.num

-- the first record of the key stands at the place, or there is none and the place is past the last
pub record IsPlace (key : List ℕ) (records : List Record) (place : ℕ) : Type 0 where
  pub within : place ≤ length records
  pub before : (k : ℕ) (d : Record) → k < place → same_key (slice_index_or records k d).key key ≡ false
  pub found : (d : Record) → place < length records → same_key (slice_index_or records place d).key key ≡ true

abbrev pub open_op : Option (ℕ × OpLine) → Option ℕ
open_op None = None
open_op (Some o) = Some o.0

-- the packet is an answer to the open operation
abbrev pub IsAnswer : Option (ℕ × OpLine) → Packet → Type 0
IsAnswer (Some o) (GetAns caller op key num body near) = op ≡ o.0
IsAnswer (Some o) (WriteAns caller op key num kept) = op ≡ o.0
IsAnswer _ _ = ⊥

-- the client of the machine, with what it has still to send
abbrev pub state_of : List ℕ → ClientView → ClientState
state_of left c = record { waits = open_op c.waits; left = left; released = c.released; preserved = c.preserved }

-- the client, with the records of such a state
abbrev pub seen_as : ClientView → ClientState → ClientView
seen_as c s = record c { released = s.released; preserved = s.preserved }

-- the open operation's line as a record under the number of its answer
abbrev pub written : Option (ℕ × OpLine) → ℕ → Record
written None num = record { key = []; num = num; body = None }
written (Some o) num = record { key = o.1.key; num = num; body = o.1.body }

-- the client once its operation is answered
abbrev pub after_answer : ClientView → Packet → ClientView
after_answer c (WriteAns caller op key num kept) = record (seen_as c (preserves (closed (state_of [] c)) kept
    (written c.waits num))) { waits = None }
after_answer c _ = record c { waits = None }

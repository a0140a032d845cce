-- The history of a log: its operations in the order in which they take effect.
use Rattle.std.specs.Prelude.{◌≡◌, ◌≢◌, ℕ, ◌<◌, ◌≤◌, ◌⊎◌, max, Bool, true, false, if◌then◌else◌, List, [], ◌∷◌}
use Rattle.std.specs.Prelude.{slice_get, Option, None, Some}
use Rattle.std.specs.Bool.{MatchBool}
use Rattle.std.specs.Ordering.{nat_cmp}
use Rattle.std.specs.Cmp.Lexicographic.{slice_cmp}
use Rattle.std.specs.declared.cmp.Ordering.TheVariants.{Less}
use Rattle.far_base.specs.declared.plan.OpLine.{OpLine}
use Rattle.far_base.specs.declared.record.Record.{Record}
use Rattle.far_base.specs.declared.record.Versioned.{Versioned}
use Rattle.far_base.specs.declared.log.LogLine.{LogLine}
use Rattle.far_base.specs.declared.log.Placed.{Placed}
use Rattle.far_model.specs.Members.{Among, Pairs}
use Rattle.far_model.specs.Log.{At, Answer, is_read, same_key, sending, numbering, emission, answering, IsTakingMoment}

abbrev pub read_rank : Bool → ℕ
read_rank false = 0
read_rank true = 1

-- the order of places: by moment, then number, then writes before reads, then operation
abbrev pub Before : Placed → Placed → Type 0
Before x y = (x.moment < y.moment) ⊎ ((x.moment ≡ y.moment)
    × ((x.num < y.num) ⊎ ((x.num ≡ y.num)
    × ((read_rank x.read < read_rank y.read) ⊎ ((read_rank x.read ≡ read_rank y.read) × (x.op < y.op))))))

-- a write is placed at the moment at which its own number takes effect
pub record IsWritePlace (log : List LogLine) (line : OpLine) (place : Placed) : Type 0 where
  pub numbered : At ℕ
  pub first : numbering log place.op ≡ Some numbered
  pub own : place.num ≡ numbered.what
  pub taking : IsTakingMoment log line.key place.num place.moment

-- an answered read is placed at the moment at which the number it read takes effect, and not before it was sent
pub record IsReadPlace (log : List LogLine) (sent : ℕ) (line : OpLine) (place : Placed) : Type 0 where
  pub emitted : At Answer
  pub first : emission log place.op ≡ Some emitted
  pub read : place.num ≡ emitted.what.num
  pub taken_at : ℕ
  pub taking : IsTakingMoment log line.key place.num taken_at
  pub moment : place.moment ≡ max taken_at sent
  pub answered : answering log place.op ≢ None

-- the place of an operation that was sent
pub record IsPlace (log : List LogLine) (place : Placed) : Type 0 where
  pub sent : At OpLine
  pub first : sending log place.op ≡ Some sent
  pub kind : place.read ≡ is_read sent.what.op
  pub stands : MatchBool place.read (IsReadPlace log sent.moment sent.what place) (IsWritePlace log sent.what place)

-- all operations that have a place, in the order of their places
pub record IsHistory (log : List LogLine) (history : List Placed) : Type 0 where
  pub ordered : Pairs Before history
  pub sound : (place : Placed) → Among place history → IsPlace log place
  pub complete : (place : Placed) → IsPlace log place → Among place history

-- what a map has for a key that was never written
abbrev pub nothing : Versioned
nothing = record { num = 0; body = None }

abbrev pub line_key : Option (At OpLine) → List ℕ
line_key None = []
line_key (Some s) = s.what.key

abbrev pub line_body : Option (At OpLine) → Option (List ℕ)
line_body None = None
line_body (Some s) = s.what.body

abbrev pub held_by : Option (At Answer) → Versioned
held_by None = nothing
held_by (Some e) = record { num = e.what.num; body = e.what.body }

abbrev pub key_of : List LogLine → ℕ → List ℕ
key_of log op = line_key (sending log op)

-- what a write sets its key to: its own number and body
abbrev pub written_by : List LogLine → Placed → Versioned
written_by log place = record { num = place.num; body = line_body (sending log place.op) }

-- what a read was answered with
abbrev pub read_by : List LogLine → Placed → Versioned
read_by log place = held_by (emission log place.op)

-- the map after one write
abbrev pub with_write : (List ℕ → Versioned) → List ℕ → Versioned → (List ℕ → Versioned)
with_write map key held q = if same_key q key then held else map q

-- each read of the list was answered with what the map then has for its key, and each write sets its key
abbrev pub IsLegalFrom : List LogLine → (List ℕ → Versioned) → List Placed → Type 0
IsLegalFrom log map [] = Unit {0}
IsLegalFrom log map (p ∷ ps) = MatchBool p.read
    ((read_by log p ≡ map (key_of log p.op)) × IsLegalFrom log map ps)
    (IsLegalFrom log (with_write map (key_of log p.op) (written_by log p)) ps)

-- from a map in which no key is written
abbrev pub IsLegal : List LogLine → List Placed → Type 0
IsLegal log history = IsLegalFrom log (λ key. nothing) history

-- an operation that was answered before another was sent stands before it
abbrev pub KeepsRealTimeOrder : List LogLine → List Placed → Type 0
KeepsRealTimeOrder log history = (i j : ℕ) (x y : Placed) (a : At ℕ) (s : At OpLine) → slice_get history i ≡ Some x
    → slice_get history j ≡ Some y
    → answering log x.op ≡ Some a → sending log y.op ≡ Some s → a.moment < s.moment → i < j

pub record IsLinearizable (log : List LogLine) (history : List Placed) : Type 0 where
  pub legal : IsLegal log history
  pub in_time : KeepsRealTimeOrder log history

-- the log has a history; it is legal and keeps real-time order, and the log has no other
pub record HasOneLegalHistory (log : List LogLine) : Type 0 where
  pub history : List Placed
  pub is : IsHistory log history
  pub linearizable : IsLinearizable log history
  pub only : (other : List Placed) → IsHistory log other → other ≡ history

-- the last write of the key
abbrev pub last_write : List LogLine → List ℕ → Option Versioned → List Placed → Option Versioned
last_write log key last [] = last
last_write log key last (p ∷ ps) =
    last_write log key (if p.read then last
    else (if same_key key (key_of log p.op) then Some (written_by log p) else last)) ps

abbrev pub held_in : Record → Versioned
held_in r = record { num = r.num; body = r.body }

-- keys are ordered by their bytes
abbrev pub IsKeyBefore : Record → Record → Type 0
IsKeyBefore a b = slice_cmp nat_cmp a.key b.key ≡ Less

-- the last write of each key that was written, by key
pub record IsFinalMap (log : List LogLine) (history : List Placed) (map : List Record) : Type 0 where
  pub ordered : Pairs IsKeyBefore map
  pub sound : (r : Record) → Among r map → last_write log r.key None history ≡ Some (held_in r)
  pub complete : (r : Record) → last_write log r.key None history ≡ Some (held_in r) → Among r map

-- equal key and number have equal bodies
abbrev pub Agree : List Record → Type 0
Agree records = (a b : Record) → Among a records → Among b records → a.key ≡ b.key → a.num ≡ b.num → a.body ≡ b.body

-- the record of greatest number of each key that has a number above 0, by key
pub record IsNewestPerKey (records newest : List Record) : Type 0 where
  pub ordered : Pairs IsKeyBefore newest
  pub sound : (r : Record) → Among r newest → Among r records × (0 < r.num)
  pub greatest : (r other : Record) → Among r newest → Among other records → other.key ≡ r.key → other.num ≤ r.num
  pub complete : (other : Record) → Among other records → 0 < other.num → (r : Record) × Among r newest
      × (r.key ≡ other.key)

-- What a log says of an operation, and which numbers it has shown.
use Rattle.std.specs.Prelude.{ℕ, ◌≤◌, max, Bool, true, false, if◌then◌else◌, ◌==◌, nat_le, List, [], ◌∷◌, Option, None}
use Rattle.std.specs.Prelude.{Some}
use Rattle.std.specs.Cmp.Lexicographic.{pointwise}
use Rattle.std.specs.Prelude.{eqb}
use Rattle.far_base.specs.declared.plan.Op.{Op}
use Rattle.far_base.specs.declared.plan.Op.TheVariants.{Get, Put, Del}
use Rattle.far_base.specs.declared.plan.OpLine.{OpLine}
use Rattle.far_base.specs.declared.log.LogLine.{LogLine}
use Rattle.far_base.specs.declared.log.LogEntry.{LogEntry}
use Rattle.far_base.specs.declared.log.LogEntry.TheVariants.{Sent, Numbered, Emitted, Answered}

-- a log as contracts see it
pub record LogView : Type 0 where
  pub steps : ℕ
  pub lines : List LogLine

abbrev pub is_read : Op → Bool
is_read Get = true
is_read Put = false
is_read Del = false

-- whether two keys are the same sixteen bytes
abbrev pub same_key : List ℕ → List ℕ → Bool
same_key a b = pointwise eqb a b

-- what an operation was answered with
pub record Answer : Type 0 where
  pub num : ℕ
  pub body : Option (List ℕ)
  pub near : Bool

-- something that a line tells, and the line's moment
pub record At (X : Type 0) : Type 0 where
  pub moment : ℕ
  pub what : X

abbrev pub or_later : {X : Type 0} → ℕ → Option X → Option (At X) → Option (At X)
or_later moment None later = later
or_later moment (Some x) later = Some (record { moment = moment; what = x })

-- the first line that tells it
abbrev pub first_told : {X : Type 0} → (LogEntry → Option X) → List LogLine → Option (At X)
first_told tells [] = None
first_told tells (l ∷ ls) = or_later l.moment (tells l.entry) (first_told tells ls)

abbrev pub sent_by : ℕ → LogEntry → Option OpLine
sent_by op (Sent other line) = if other == op then Some line else None
sent_by op _ = None

abbrev pub numbered_by : ℕ → LogEntry → Option ℕ
numbered_by op (Numbered other num) = if other == op then Some num else None
numbered_by op _ = None

abbrev pub emitted_by : ℕ → LogEntry → Option Answer
emitted_by op (Emitted other num body near) = if other == op then Some (record { num = num; body = body; near = near })
    else None
emitted_by op _ = None

abbrev pub answered_by : ℕ → LogEntry → Option ℕ
answered_by op (Answered other) = if other == op then Some other else None
answered_by op _ = None

-- when the operation was sent, and what it does
abbrev pub sending : List LogLine → ℕ → Option (At OpLine)
sending log op = first_told (sent_by op) log

-- when a write got its number, and which
abbrev pub numbering : List LogLine → ℕ → Option (At ℕ)
numbering log op = first_told (numbered_by op) log

-- when the answer left the switch, and what it says
abbrev pub emission : List LogLine → ℕ → Option (At Answer)
emission log op = first_told (emitted_by op) log

-- when the answer came
abbrev pub answering : List LogLine → ℕ → Option (At ℕ)
answering log op = first_told (answered_by op) log

abbrev pub sent_on : List ℕ → Option (At OpLine) → Bool
sent_on key None = false
sent_on key (Some s) = same_key key s.what.key

-- whether the operation is on the key
abbrev pub is_on : List LogLine → List ℕ → ℕ → Bool
is_on log key op = sent_on key (sending log op)

-- the number that a line shows for one of those operations
abbrev pub number_exposed : (ℕ → Bool) → LogEntry → ℕ
number_exposed on (Emitted op num body near) = if on op then num else 0
number_exposed on _ = 0

-- the greatest number that lines up to the moment show for those operations
abbrev pub greatest_exposed : (ℕ → Bool) → ℕ → List LogLine → ℕ
greatest_exposed on moment [] = 0
greatest_exposed on moment (l ∷ ls) =
    max (if nat_le l.moment moment then number_exposed on l.entry else 0) (greatest_exposed on moment ls)

-- the greatest number of the key that has left the switch up to the moment
abbrev pub exposed : List LogLine → List ℕ → ℕ → ℕ
exposed log key moment = greatest_exposed (is_on log key) moment log

-- the moment at which a number takes effect: the first at which the exposed number is at least that
pub record IsTakingMoment (log : List LogLine) (key : List ℕ) (num moment : ℕ) : Type 0 where
  pub taken : num ≤ exposed log key moment
  pub first : (earlier : ℕ) → num ≤ exposed log key earlier → moment ≤ earlier

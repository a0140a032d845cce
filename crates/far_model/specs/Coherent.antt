-- The few plain facts about the lines of a log from which its history is legal and in real-time order.
use Rattle.std.specs.Prelude.{◌≡◌, ◌≢◌, ℕ, ◌<◌, ◌≤◌, Bool, true, false, List, Option, None}
use Rattle.far_base.specs.declared.plan.OpLine.{OpLine}
use Rattle.far_base.specs.declared.log.LogLine.{LogLine}
use Rattle.far_base.specs.declared.log.LogEntry.{LogEntry}
use Rattle.far_base.specs.declared.log.LogEntry.TheVariants.{Sent, Numbered, Emitted, Answered, Admitted, Evicted, Kept}
use Rattle.far_base.specs.declared.log.LogEntry.TheVariants.{Snapped, SnapItem, Stopped, Recovered, RecItem}
use Rattle.far_model.specs.Members.{Among, Pairs}
use Rattle.far_model.specs.Log.{is_read, exposed}

-- of two lines the earlier first: an operation is sent, numbered, answered by the switch and answered
-- at its client once each, and numbers rise; of two lines of other kinds nothing is said
abbrev pub Rises : LogEntry → LogEntry → Type 0
Rises (Sent op line) (Sent other line') = op ≢ other
Rises (Numbered op num) (Numbered other num') = (op ≢ other) × (num < num')
Rises (Emitted op num body near) (Emitted other num' body' near') = op ≢ other
Rises (Answered op) (Answered other) = op ≢ other
Rises _ _ = Unit {0}

abbrev pub Earlier : LogLine → LogLine → Type 0
Earlier x y = (x.moment ≤ y.moment) × Rises x.entry y.entry

-- the operation was sent by the moment
pub record WasSent (log : List LogLine) (moment op : ℕ) : Type 0 where
  pub sent_at : ℕ
  pub line : OpLine
  pub sent : Among (record { moment = sent_at; entry = Sent op line }) log
  pub before : sent_at ≤ moment

-- the number is that of a write on the key that was numbered by the moment, and the body is that write's
pub record WasWritten (log : List LogLine) (moment : ℕ) (key : List ℕ) (num : ℕ) (body : Option (List ℕ)) : Type 0 where
  pub op : ℕ
  pub numbered_at : ℕ
  pub numbered : Among (record { moment = numbered_at; entry = Numbered op num }) log
  pub before : numbered_at ≤ moment
  pub sent_at : ℕ
  pub line : OpLine
  pub sent : Among (record { moment = sent_at; entry = Sent op line }) log
  pub write : is_read line.op ≡ false
  pub on_key : line.key ≡ key
  pub same_body : line.body ≡ body

-- a number above 0 is given to a write that was sent
pub record IsNumbering (log : List LogLine) (moment op num : ℕ) : Type 0 where
  pub sent : WasSent log moment op
  pub write : is_read sent.line.op ≡ false
  pub above : 0 < num

-- the write got this number, its own, by the moment
pub record IsOwnNumber (log : List LogLine) (moment op num : ℕ) : Type 0 where
  pub numbered_at : ℕ
  pub numbered : Among (record { moment = numbered_at; entry = Numbered op num }) log
  pub before : numbered_at ≤ moment

-- the write got a number by the moment, and this one is at least that
pub record ReachesOwnNumber (log : List LogLine) (moment op num : ℕ) : Type 0 where
  pub own : ℕ
  pub is : IsOwnNumber log moment op own
  pub within : own ≤ num

-- what the switch answers: the number is 0 or that of a write on the key that was numbered by then; a read
-- gets that write's body, and at least what was exposed when it was sent; a write gets at least its own number
pub record IsEmission (log : List LogLine) (moment op num : ℕ) (body : Option (List ℕ)) : Type 0 where
  pub sent : WasSent log moment op
  pub source : 0 < num → (written : Option (List ℕ)) × WasWritten log moment sent.line.key num written
      × (is_read sent.line.op ≡ true → body ≡ written)
  pub unwritten : is_read sent.line.op ≡ true → num ≡ 0 → body ≡ None
  pub read : is_read sent.line.op ≡ true → exposed log sent.line.key sent.sent_at ≤ num
  pub write : is_read sent.line.op ≡ false → ReachesOwnNumber log moment op num

-- an operation is answered after the switch sent its answer
pub record IsAnswering (log : List LogLine) (moment op : ℕ) : Type 0 where
  pub emitted_at : ℕ
  pub num : ℕ
  pub body : Option (List ℕ)
  pub near : Bool
  pub emitted : Among (record { moment = emitted_at; entry = Emitted op num body near }) log
  pub before : emitted_at ≤ moment

abbrev pub Stands : List LogLine → ℕ → LogEntry → Type 0
Stands log moment (Numbered op num) = IsNumbering log moment op num
Stands log moment (Emitted op num body near) = IsEmission log moment op num body
Stands log moment (Answered op) = IsAnswering log moment op
Stands log moment (Sent op line) = Unit {0}
Stands log moment (Admitted slot key tag) = Unit {0}
Stands log moment (Evicted slot key tries) = Unit {0}
Stands log moment (Kept slot key num) = Unit {0}
Stands log moment (Snapped id point count same) = Unit {0}
Stands log moment (SnapItem slot item) = Unit {0}
Stands log moment Stopped = Unit {0}
Stands log moment (Recovered counter count) = Unit {0}
Stands log moment (RecItem item) = Unit {0}

pub record IsCoherent (log : List LogLine) : Type 0 where
  pub order : Pairs Earlier log
  pub lines : (l : LogLine) → Among l log → Stands log l.moment l.entry

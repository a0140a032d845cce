-- Log lines whose bodies stand among the bytes of the log.
use Rattle.std.specs.Prelude.{ℕ, ◌+◌, ◌≤◌, ◌/◌, min, nat_le, if◌then◌else◌, List, length, map, take, drop, is_some}
use Rattle.std.specs.Prelude.{Option, None, Some}
use Rattle.far_base.specs.Padded.{text_of}
use Rattle.far_base.specs.declared.body.TheConstants.{BODY_LIMIT}
use Rattle.far_base.specs.declared.plan.OpLine.{OpLine}
use Rattle.far_base.specs.declared.log.LogLine.{LogLine}
use Rattle.far_base.specs.declared.log.LogEntry.{LogEntry}
use Rattle.far_base.specs.declared.log.LogEntry.TheVariants.{Sent, Numbered, Emitted, Answered, Admitted, Evicted, Kept}
use Rattle.far_base.specs.declared.log.LogEntry.TheVariants.{Snapped, SnapItem, Stopped, Recovered, RecItem}
use Rattle.far_history.specs.declared.stored.Stretch.{Stretch}
use Rattle.far_history.specs.declared.stored.Doing.{Doing}
use Rattle.far_history.specs.declared.stored.Stored.{Stored}
use Rattle.far_history.specs.declared.stored.Bare.{Bare}
use Rattle.far_history.specs.declared.stored.Bare.TheVariants.{Sent as BareSent, Numbered as BareNumbered}
use Rattle.far_history.specs.declared.stored.Bare.TheVariants.{Emitted as BareEmitted, Answered as BareAnswered}
use Rattle.far_history.specs.declared.stored.Bare.TheVariants.{Admitted as BareAdmitted, Evicted as BareEvicted}
use Rattle.far_history.specs.declared.stored.Bare.TheVariants.{Kept as BareKept, Snapped as BareSnapped}
use Rattle.far_history.specs.declared.stored.Bare.TheVariants.{SnapItem as BareSnapItem, Stopped as BareStopped}
use Rattle.far_history.specs.declared.stored.Bare.TheVariants.{Recovered as BareRecovered, RecItem as BareRecItem}

abbrev pub short_body : List ℕ → Option (List ℕ)
short_body text = if nat_le (length text) BODY_LIMIT then Some text else None

-- the body that stands there
abbrev pub body_in : List ℕ → Stretch → Option (List ℕ)
body_in bytes s = if s.present then short_body (take s.len (drop s.at bytes)) else None

-- where a body stands whose bytes were put there
abbrev pub stretch_of : ℕ → Option (List ℕ) → Stretch
stretch_of at body = record { present = is_some body; len = length (text_of body); at = at }

-- what an operation does, with its body
abbrev pub op_line : Option (List ℕ) → Doing → OpLine
op_line body d = record { client = d.client; op = d.op; key = d.key; body = body }

-- the entry with its body
abbrev pub entry_with : Option (List ℕ) → Bare → LogEntry
entry_with body (BareSent op line) = Sent op (op_line body line)
entry_with body (BareNumbered op num) = Numbered op num
entry_with body (BareEmitted op num near) = Emitted op num body near
entry_with body (BareAnswered op) = Answered op
entry_with body (BareAdmitted slot key tag) = Admitted slot key tag
entry_with body (BareEvicted slot key tries) = Evicted slot key tries
entry_with body (BareKept slot key num) = Kept slot key num
entry_with body (BareSnapped id point count same) = Snapped id point count same
entry_with body (BareSnapItem slot key num) = SnapItem slot (record { key = key; num = num; body = body })
entry_with body BareStopped = Stopped
entry_with body (BareRecovered counter count) = Recovered counter count
entry_with body (BareRecItem key num) = RecItem (record { key = key; num = num; body = body })

-- the entry without its body
abbrev pub bare_of : LogEntry → Bare
bare_of (Sent op line) = BareSent op (record { client = line.client; op = line.op; key = line.key })
bare_of (Numbered op num) = BareNumbered op num
bare_of (Emitted op num body near) = BareEmitted op num near
bare_of (Answered op) = BareAnswered op
bare_of (Admitted slot key tag) = BareAdmitted slot key tag
bare_of (Evicted slot key tries) = BareEvicted slot key tries
bare_of (Kept slot key num) = BareKept slot key num
bare_of (Snapped id point count same) = BareSnapped id point count same
bare_of (SnapItem slot item) = BareSnapItem slot item.key item.num
bare_of Stopped = BareStopped
bare_of (Recovered counter count) = BareRecovered counter count
bare_of (RecItem item) = BareRecItem item.key item.num

-- the body of an entry that has one
abbrev pub entry_body : LogEntry → Option (List ℕ)
entry_body (Sent op line) = line.body
entry_body (Emitted op num body near) = body
entry_body (SnapItem slot item) = item.body
entry_body (RecItem item) = item.body
entry_body _ = None

-- the line with its body
abbrev pub line_in : List ℕ → Stored → LogLine
line_in bytes s = record { moment = s.moment; entry = entry_with (body_in bytes s.body) s.bare }

-- the lines with their bodies
abbrev pub lines_in : List ℕ → List Stored → List LogLine
lines_in bytes stored = map (line_in bytes) stored

-- the body stands within so many bytes
abbrev pub IsWithin : ℕ → Stored → Type 0
IsWithin n s = s.body.at + s.body.len ≤ n

-- for how many more lines there is room, each with the longest body, where there is room for so many without their
-- bodies, and for so many bytes
abbrev pub room_in : ℕ → ℕ → ℕ
room_in lines bytes = min lines (bytes / BODY_LIMIT)

-- Which numbers of a key are shown, and for which numbers operations wait.
use Rattle.std.specs.Prelude.{ℕ, suc, Bool, true, false, if◌then◌else◌, ◌==◌, ◌&&◌, List, [], ◌∷◌, Option, None, Some}
use Rattle.std.specs.Prelude.{slice_index_or}
use Rattle.far_base.specs.declared.log.LogLine.{LogLine}
use Rattle.far_base.specs.declared.log.LogEntry.{LogEntry}
use Rattle.far_base.specs.declared.log.LogEntry.TheVariants.{Emitted}
use Rattle.far_model.specs.Log.{is_read}
use Rattle.far_history.specs.declared.stored.Stored.{Stored}
use Rattle.far_history.specs.declared.stored.Bare.{Bare}
use Rattle.far_history.specs.declared.stored.Bare.TheVariants.{Emitted as BareEmitted}
use Rattle.far_history.specs.declared.told.Sending.{Sending}
use Rattle.far_history.specs.declared.told.Reply.{Reply}
use Rattle.far_history.specs.declared.told.Told.{Told}
use Rattle.far_history.specs.declared.marks.Mark.{Mark}
use Rattle.far_history.specs.Told.{unheard}

abbrev pub sent_key : Option Sending → Option (List ℕ)
sent_key None = None
sent_key (Some s) = Some s.line.key

-- the key of an operation
abbrev pub key_in : List Told → ℕ → Option (List ℕ)
key_in table op = sent_key (slice_index_or table op unheard).sent

-- whether an answer is the first to its operation
abbrev pub is_reply : Option Reply → ℕ → ℕ → Bool
is_reply None num moment = false
is_reply (Some r) num moment = (r.num == num) && (r.moment == moment)

-- the mark of an answer that is not the first to its operation
abbrev pub mark_shown : ℕ → ℕ → ℕ → Option Reply → Option (List ℕ) → Option Mark
mark_shown moment op num reply None = None
mark_shown moment op num reply (Some key) = if is_reply reply num moment then None else Some (record {
  key = key;
  num = num;
  shown = true;
  moment = record { 0 = moment };
  waits = false;
  read = false;
  op = op;
  sent = 0;
})

abbrev pub shown_by_entry : List Told → ℕ → LogEntry → Option Mark
shown_by_entry table moment (Emitted op num body near) = mark_shown moment op num
    (slice_index_or table op unheard).emitted (key_in table op)
shown_by_entry table moment _ = None

-- the number that a line shows of a key, unless it is the first answer to its operation
abbrev pub shown_mark : List Told → LogLine → Option Mark
shown_mark table l = shown_by_entry table l.moment l.entry

abbrev pub reply_num : Option Reply → Option ℕ
reply_num None = None
reply_num (Some r) = Some r.num

abbrev pub where_answered : Option ℕ → Option ℕ → Option ℕ
where_answered None num = None
where_answered (Some moment) num = num

-- the number for which an operation waits
abbrev pub awaited_number : Told → Sending → Option ℕ
awaited_number row sent = if is_read sent.line.op
    then where_answered row.answered (reply_num row.emitted)
    else row.numbered

abbrev pub is_number : Option ℕ → ℕ → Bool
is_number None other = false
is_number (Some num) other = num == other

abbrev pub own_by : ℕ → Told → Sending → Option Reply → Option Mark
own_by op row sent None = None
own_by op row sent (Some r) = Some (record {
  key = sent.line.key;
  num = r.num;
  shown = true;
  moment = record { 0 = r.moment };
  waits = is_number (awaited_number row sent) r.num;
  read = is_read sent.line.op;
  op = op;
  sent = sent.moment;
})

abbrev pub own_of : ℕ → Told → Option Sending → Option Mark
own_of op row None = None
own_of op row (Some sent) = own_by op row sent row.emitted

-- the number that the first answer to an operation shows: mostly it is the one for which the operation waits
abbrev pub own_mark : ℕ → Told → Option Mark
own_mark op row = own_of op row row.sent

abbrev pub mark_wanted : ℕ → Told → Sending → Option ℕ → Option Mark
mark_wanted op row sent None = None
mark_wanted op row sent (Some num) = if is_number (reply_num row.emitted) num then None else Some (record {
  key = sent.line.key;
  num = num;
  shown = false;
  moment = record { 0 = 0 };
  waits = true;
  read = is_read sent.line.op;
  op = op;
  sent = sent.moment;
})

abbrev pub wanted_of : ℕ → Told → Option Sending → Option Mark
wanted_of op row None = None
wanted_of op row (Some sent) = mark_wanted op row sent (awaited_number row sent)

-- what an operation waits for, where its first answer does not show it
abbrev pub wanted_mark : ℕ → Told → Option Mark
wanted_mark op row = wanted_of op row row.sent

abbrev pub or_more : {X : Type 0} → Option X → List X → List X
or_more None xs = xs
or_more (Some x) xs = x ∷ xs

abbrev pub shown_by_bare : List Told → ℕ → Bare → Option Mark
shown_by_bare table moment (BareEmitted op num near) = mark_shown moment op num
    (slice_index_or table op unheard).emitted (key_in table op)
shown_by_bare table moment _ = None

-- the same of a line whose body stands elsewhere
abbrev pub shown_stored : List Told → Stored → Option Mark
shown_stored table l = shown_by_bare table l.moment l.bare

abbrev pub shown_in : List Told → List Stored → List Mark
shown_in table [] = []
shown_in table (l ∷ ls) = or_more (shown_stored table l) (shown_in table ls)

abbrev pub shown_marks : List Told → List LogLine → List Mark
shown_marks table [] = []
shown_marks table (l ∷ ls) = or_more (shown_mark table l) (shown_marks table ls)

-- of the rows from that operation on
abbrev pub row_marks : ℕ → List Told → List Mark
row_marks op [] = []
row_marks op (row ∷ rows) = or_more (own_mark op row) (or_more (wanted_mark op row) (row_marks (suc op) rows))

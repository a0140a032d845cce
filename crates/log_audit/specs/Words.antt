-- What the words of the lines of a report spell.
use Rattle.std.specs.Prelude.{ℕ, Bool, true, false, not, List, Option, Some, None, is_some, nat_lt, bytes_eq, codes}
use Rattle.std.specs.Prelude.{if◌then◌else◌}
use Rattle.far_base.specs.declared.plan.Op.{Op}
use Rattle.far_base.specs.declared.plan.Op.TheVariants.{Get, Put, Del}
use Rattle.far_base.specs.declared.plan.TheConstants.{CLIENT_LIMIT}
use Rattle.far_text.specs.Numbers.{number_of}
use Rattle.far_text.specs.Options.{◌>>=◌}
use Rattle.far_text.specs.Pieces.{cut_at}
use Rattle.far_text.specs.Words.{key_of, body_of}
use Rattle.log_audit.specs.declared.line.HistLine.{HistLine}

-- what stands before the first byte `mark`, read so, and what stands behind it, read so
abbrev pub read_both : {A B : Type 0} → ℕ → (List ℕ → Option A) → (List ℕ → Option B) → List ℕ → Option (A × B)
read_both mark first rest text = cut_at mark text >>= λ c. first c.0 >>= λ x. rest c.1 >>= λ z. Some (x, z)

-- the next line, read so, and the text behind it
abbrev pub line_as : {A : Type 0} → (List ℕ → Option A) → List ℕ → Option (A × List ℕ)
line_as read text = read_both 10 read (λ rest. Some rest) text

-- ---- the lines before the history

abbrev pub title : List ℕ
title = codes "far 1 report"

abbrev pub title_of : List ℕ → Option (List ℕ)
title_of line = if bytes_eq line title then Some line else None

-- the number behind the name and a space
abbrev pub number_behind : List ℕ → List ℕ → Option ℕ
number_behind name line = cut_at 32 line >>= λ c. if bytes_eq c.0 name then number_of c.1 else None

-- ---- a line of the history

abbrev pub above_zero : ℕ → Option ℕ
above_zero n = if nat_lt 0 n then Some n else None

-- the number of an operation
abbrev pub op_of : List ℕ → Option ℕ
op_of word = number_of word >>= above_zero

abbrev pub client_within : ℕ → Option ℕ
client_within n = if nat_lt n CLIENT_LIMIT then Some n else None

abbrev pub client_of : List ℕ → Option ℕ
client_of word = number_of word >>= client_within

abbrev pub kind_of : List ℕ → Option Op
kind_of word = if bytes_eq word (codes "get") then Some Get
    else if bytes_eq word (codes "put") then Some Put
    else if bytes_eq word (codes "del") then Some Del
    else None

-- whether the switch answered by itself
abbrev pub near_of : List ℕ → Option Bool
near_of word = if bytes_eq word (codes "switch") then Some true
    else if bytes_eq word (codes "server") then Some false
    else None

-- whether the body may stand in a line of this kind: that of a put is there, and that of a delete is absent
abbrev pub fits_kind : Op → Option (List ℕ) → Bool
fits_kind Get body = true
fits_kind Put body = is_some body
fits_kind Del body = not (is_some body)

-- the words in their order
abbrev pub HistWords : Type 0
HistWords = ℕ × (ℕ × (Op × (List ℕ × (ℕ × (Option (List ℕ) × (Bool × (ℕ × ℕ)))))))

abbrev pub words_of : List ℕ → Option HistWords
words_of line = read_both 32 op_of (read_both 32 client_of (read_both 32 kind_of (read_both 32 key_of
    (read_both 32 number_of (read_both 32 body_of (read_both 32 near_of (read_both 32 number_of number_of))))))) line

abbrev pub line_with : HistWords → HistLine
line_with w = record {
  op = w.0;
  client = w.1.0;
  kind = w.1.1.0;
  key = w.1.1.1.0;
  num = w.1.1.1.1.0;
  body = w.1.1.1.1.1.0;
  near = w.1.1.1.1.1.1.0;
  sent = w.1.1.1.1.1.1.1.0;
  answered = w.1.1.1.1.1.1.1.1;
}

abbrev pub if_fitting : HistLine → Option HistLine
if_fitting l = if fits_kind l.kind l.body then Some l else None

-- what a line of a history says of an operation
abbrev pub hist_of : List ℕ → Option HistLine
hist_of line = words_of line >>= λ w. if_fitting (line_with w)

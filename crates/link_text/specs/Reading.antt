-- Reading the events of a link line by line, up to the first fault.
use Rattle.std.specs.Prelude.{ℕ, ◌+◌, List, [], ◌∷◌, ◌++◌, length, Option, Some, None, Result, Ok, Err, nat_lt}
use Rattle.std.specs.Prelude.{bytes_eq}
use Rattle.std.specs.Prelude.{if◌then◌else◌}
use Rattle.far_base.specs.declared.plan.TheConstants.{OP_LIMIT}
use Rattle.far_text.specs.Pieces.{Pieces, pieces}
use Rattle.retry_link.specs.declared.link.LinkEvent.{LinkEvent}
use Rattle.workload.specs.Outcome.{◌andthen◌}
use Rattle.workload.specs.Reading.{next_line}
use Rattle.workload.specs.declared.fault.Limit.TheVariants.{Ops}
use Rattle.workload.specs.declared.fault.WorkFault.{WorkFault}
use Rattle.workload.specs.declared.fault.WorkFault.TheVariants.{BadLine, TooLarge}
use Rattle.link_text.specs.Script.{title}
use Rattle.link_text.specs.Words.{event_of}

-- one event more, where there is room for it
abbrev pub one_more : ℕ → List LinkEvent → Option LinkEvent → Result (List LinkEvent) WorkFault
one_more n events None = Err (BadLine n)
one_more n events (Some e) = if nat_lt (length events) OP_LIMIT then Ok (events ++ e ∷ []) else Err (TooLarge Ops n)

abbrev pub line_step : ℕ → List LinkEvent → List ℕ → Result (List LinkEvent) WorkFault
line_step n events line = one_more n events (event_of line)

-- the end of the text comes right behind a line end
abbrev pub at_end : ℕ → List LinkEvent → List ℕ → Result (List LinkEvent) WorkFault
at_end n events [] = Ok events
at_end n events (b ∷ bs) = Err (BadLine (n + 1))

-- the lines behind n others, one after the other
unfoldable pub lines_from : ℕ → List LinkEvent → Pieces → Result (List LinkEvent) WorkFault
lines_from n events [] = Ok events
lines_from n events (line ∷ []) = at_end n events line
lines_from n events (line ∷ next ∷ more) = line_step (n + 1) events line andthen λ read.
    lines_from (n + 1) read (next ∷ more)

abbrev pub titled : List ℕ × Pieces → Result Pieces WorkFault
titled l = if bytes_eq l.0 title then Ok l.1 else Err (BadLine 1)

-- the events that a text tells, or the first line with a fault
unfoldable pub reading : List ℕ → Result (List LinkEvent) WorkFault
reading text = next_line 0 (pieces 10 text) andthen titled andthen λ rest. lines_from 1 [] rest

-- Reading a text line by line: the workload, or the first fault and its line.
use Rattle.std.specs.Prelude.{ℕ, ◌+◌, List, [], ◌∷◌, Option, Some, None, Result, Ok, Err, nat_lt, bytes_eq}
use Rattle.std.specs.Prelude.{if◌then◌else◌, codes}
use Rattle.far_base.specs.declared.plan.Config.{Config}
use Rattle.far_base.specs.declared.plan.TheConstants.{CLIENT_LIMIT, SERVER_LIMIT, SLOT_LIMIT, HOT_LIMIT}
use Rattle.far_text.specs.Pieces.{Pieces, pieces}
use Rattle.workload.specs.Outcome.{◌andthen◌}
use Rattle.workload.specs.Words.{named}
use Rattle.workload.specs.Forms.{form_of, step_by}
use Rattle.workload.specs.WorkView.{WorkView}
use Rattle.workload.specs.declared.fault.Limit.{Limit}
use Rattle.workload.specs.declared.fault.Limit.TheVariants.{Clients, Servers, Slots, Hot}
use Rattle.workload.specs.declared.fault.WorkFault.{WorkFault}
use Rattle.workload.specs.declared.fault.WorkFault.TheVariants.{BadLine, TooLarge}

-- the next whole line, behind n others: the last piece of a text has no line end
abbrev pub next_line : ℕ → Pieces → Result (List ℕ × Pieces) WorkFault
next_line n [] = Err (BadLine (n + 1))
next_line n (line ∷ []) = Err (BadLine (n + 1))
next_line n (line ∷ next ∷ more) = Ok (line, next ∷ more)

-- ---- the first five lines

abbrev pub titled : List ℕ × Pieces → Result Pieces WorkFault
titled l = if bytes_eq l.0 (codes "far 1") then Ok l.1 else Err (BadLine 1)

abbrev pub title_of : Pieces → Result Pieces WorkFault
title_of lines = next_line 0 lines andthen titled

abbrev pub sized_by : ℕ → ℕ → ℕ → Limit → Option ℕ → Result ℕ WorkFault
sized_by n least most which None = Err (BadLine n)
sized_by n least most which (Some k) = if nat_lt k least
    then Err (BadLine n)
    else (if nat_lt most k then Err (TooLarge which n) else Ok k)

-- line n: a name and a number within these bounds
abbrev pub sized : ℕ → List ℕ → ℕ → ℕ → Limit → List ℕ → Result ℕ WorkFault
sized n name least most which line = sized_by n least most which (named name line)

abbrev pub size_of : ℕ → List ℕ → ℕ → ℕ → Limit → Pieces → Result (ℕ × Pieces) WorkFault
size_of n name least most which lines = next_line n lines andthen λ l.
    sized (n + 1) name least most which l.0 andthen λ k.
    Ok (k, l.1)

unfoldable pub head_of : Pieces → Result (Config × Pieces) WorkFault
head_of lines = title_of lines andthen λ rest.
    size_of 1 (codes "clients ") 1 CLIENT_LIMIT Clients rest andthen λ a.
    size_of 2 (codes "servers ") 1 SERVER_LIMIT Servers a.1 andthen λ b.
    size_of 3 (codes "slots ") 1 SLOT_LIMIT Slots b.1 andthen λ c.
    size_of 4 (codes "hot ") 0 HOT_LIMIT Hot c.1 andthen λ d.
    Ok (record { clients = a.0; servers = b.0; slots = c.0; hot = d.0 }, d.1)

-- ---- the lines after them

abbrev pub line_step : ℕ → WorkView → List ℕ → Result WorkView WorkFault
line_step n w line = step_by n w (form_of line)

-- the end of the text comes right behind a line end
abbrev pub at_end : ℕ → WorkView → List ℕ → Result WorkView WorkFault
at_end n w [] = Ok w
at_end n w (b ∷ bs) = Err (BadLine (n + 1))

-- the lines behind n others, one after the other
unfoldable pub body_from : ℕ → WorkView → Pieces → Result WorkView WorkFault
body_from n w [] = Ok w
body_from n w (line ∷ []) = at_end n w line
body_from n w (line ∷ next ∷ more) = line_step (n + 1) w line andthen λ read.
    body_from (n + 1) read (next ∷ more)

abbrev pub empty_work : Config → WorkView
empty_work config = record { plan = record { config = config; ops = []; orders = [] }; picks = []; random = None }

-- the workload that a text is, or the first line with a fault
unfoldable pub reading : List ℕ → Result WorkView WorkFault
reading text = head_of (pieces 10 text) andthen λ head. body_from 5 (empty_work head.0) head.1

-- How a workload is spelled.
use Rattle.std.specs.Prelude.{ℕ, zero, suc, ◌-◌, List, [], ◌∷◌, ◌++◌, map, Option, None, Some, codes, decimal}
use Rattle.std.specs.List.{flat_map}
use Rattle.far_base.specs.Key.{key_text}
use Rattle.far_base.specs.declared.plan.Config.{Config}
use Rattle.far_base.specs.declared.plan.Op.{Op}
use Rattle.far_base.specs.declared.plan.Op.TheVariants.{Get, Put, Del}
use Rattle.far_base.specs.declared.plan.OpLine.{OpLine}
use Rattle.far_base.specs.declared.plan.Order.{Order}
use Rattle.far_base.specs.declared.plan.Order.TheVariants.{Admit, Evict, Snap, Stop, StopAt}
use Rattle.far_text.specs.Text.{body_word}
use Rattle.workload.specs.Forms.{Form, OfOp, OfOrder, OfPicks, OfRandom}
use Rattle.workload.specs.Kinds.{kind_name}
use Rattle.workload.specs.WorkView.{WorkView}
use Rattle.workload.specs.declared.printer.TheConstants.{PICKS_PER_LINE}

abbrev pub line_end : List ℕ
line_end = 10 ∷ []

-- a number behind a text, a line of both, and a number with a key
abbrev pub number_text : List ℕ → ℕ → List ℕ
number_text text n = text ++ decimal n

abbrev pub number_line : List ℕ → ℕ → List ℕ
number_line text n = number_text text n ++ line_end

abbrev pub number_key_text : List ℕ → ℕ → List ℕ → List ℕ
number_key_text text n key = number_text text n ++ 32 ∷ key_text key

abbrev pub head_text : Config → List ℕ
head_text c = codes "far 1\n"
    ++ number_line (codes "clients ") c.clients
    ++ number_line (codes "servers ") c.servers
    ++ number_line (codes "slots ") c.slots
    ++ number_line (codes "hot ") c.hot

abbrev pub verb_text : Op → List ℕ
verb_text Get = codes "get "
verb_text Put = codes "put "
verb_text Del = codes "del "

-- the word of a body that is there, behind its space
abbrev pub body_text : Option (List ℕ) → List ℕ
body_text None = []
body_text (Some text) = 32 ∷ body_word (Some text)

abbrev pub op_text : OpLine → List ℕ
op_text line = number_key_text (verb_text line.op) line.client line.key ++ body_text line.body

abbrev pub order_text : Order → List ℕ
order_text (Admit step key) = number_key_text (codes "admit ") step key
order_text (Evict step key) = number_key_text (codes "evict ") step key
order_text (Snap step) = number_text (codes "snap ") step
order_text (Stop step) = number_text (codes "stop ") step
order_text (StopAt kind times) = codes "stop " ++ kind_name kind ++ number_text (codes " ") times

-- numbers, each behind a space
abbrev pub spaced : List ℕ → List ℕ
spaced [] = []
spaced (n ∷ ns) = number_text (codes " ") n ++ spaced ns

-- a line without its end
abbrev pub form_text : Form → List ℕ
form_text (OfOp line) = op_text line
form_text (OfOrder order) = order_text order
form_text (OfPicks picks) = codes "picks" ++ spaced picks
form_text (OfRandom start) = number_text (codes "random ") start

abbrev pub line_text : Form → List ℕ
line_text form = form_text form ++ line_end

-- ---- the printed form

abbrev pub with_number : ℕ → List (List ℕ) → List (List ℕ)
with_number n [] = (n ∷ []) ∷ []
with_number n (row ∷ more) = (n ∷ row) ∷ more

-- rows of the picks in their order, the first one for so many more
abbrev pub rows_from : ℕ → List ℕ → List (List ℕ)
rows_from room [] = [] ∷ []
rows_from zero (n ∷ ns) = [] ∷ with_number n (rows_from (PICKS_PER_LINE - 1) ns)
rows_from (suc room) (n ∷ ns) = with_number n (rows_from room ns)

-- full rows of picks, and the rest in the last one
abbrev pub rows : List ℕ → List (List ℕ)
rows [] = []
rows (n ∷ ns) = with_number n (rows_from (PICKS_PER_LINE - 1) ns)

abbrev pub random_forms : Option ℕ → List Form
random_forms None = []
random_forms (Some start) = OfRandom start ∷ []

-- the lines after the head
abbrev pub forms_of : WorkView → List Form
forms_of w = map OfOp w.plan.ops ++ map OfOrder w.plan.orders ++ map OfPicks (rows w.picks) ++ random_forms w.random

abbrev pub lines_text : List Form → List ℕ
lines_text forms = flat_map line_text forms

abbrev pub spelling : WorkView → List ℕ
spelling w = head_text w.plan.config ++ lines_text (forms_of w)

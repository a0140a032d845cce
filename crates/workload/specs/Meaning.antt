-- What it means that a text is a workload.
use Rattle.std.specs.Prelude.{◌≡◌, ℕ, ◌≤◌, List, [], ◌∷◌, ◌++◌, length, Option, None, Some, Result, Ok, Err}
use Rattle.std.specs.List.{flat_map, AllByRecursion}
use Rattle.far_base.specs.Limits.{FitsOp}
use Rattle.far_base.specs.Padded.{length_of}
use Rattle.far_base.specs.declared.body.TheConstants.{BODY_LIMIT}
use Rattle.far_base.specs.declared.plan.OpLine.{OpLine}
use Rattle.far_base.specs.declared.plan.Order.{Order}
use Rattle.far_base.specs.declared.plan.Order.TheVariants.{Admit, Evict, Snap, Stop, StopAt}
use Rattle.far_text.specs.Numbers.{IsNumber}
use Rattle.far_text.specs.Words.{IsKey}
use Rattle.workload.specs.Forms.{Form, OfOp, OfOrder, OfPicks, OfRandom}
use Rattle.workload.specs.Plain.{IsPlain}
use Rattle.workload.specs.Spelling.{head_text, lines_text}
use Rattle.workload.specs.WorkView.{WorkView}
use Rattle.workload.specs.declared.fault.WorkFault.{WorkFault}
use Rattle.workload.specs.declared.fault.WorkFault.TheVariants.{BadLine, TooLarge, Memory}

-- ---- the lines that can be written

pub record IsOpForm (line : OpLine) : Type 0 where
  pub client : IsNumber line.client
  pub key : IsKey line.key
  pub body : FitsOp line.op line.body

abbrev pub IsOrderForm : Order → Type 0
IsOrderForm (Admit step key) = IsNumber step × IsKey key
IsOrderForm (Evict step key) = IsNumber step × IsKey key
IsOrderForm (Snap step) = IsNumber step
IsOrderForm (Stop step) = IsNumber step
IsOrderForm (StopAt kind times) = IsNumber times

-- one or more numbers
abbrev pub AreNumbers : List ℕ → Type 0
AreNumbers ns = (1 ≤ length ns) × AllByRecursion IsNumber ns

abbrev pub IsForm : Form → Type 0
IsForm (OfOp line) = IsOpForm line
IsForm (OfOrder order) = IsOrderForm order
IsForm (OfPicks picks) = AreNumbers picks
IsForm (OfRandom start) = IsNumber start

-- what the types of keys and bodies give
pub record IsWholeOp (line : OpLine) : Type 0 where
  pub key : IsKey line.key
  pub short : length_of line.body ≤ BODY_LIMIT

abbrev pub IsWholeOrder : Order → Type 0
IsWholeOrder (Admit step key) = IsKey key
IsWholeOrder (Evict step key) = IsKey key
IsWholeOrder (Snap step) = Unit {0}
IsWholeOrder (Stop step) = Unit {0}
IsWholeOrder (StopAt kind times) = Unit {0}

-- ---- what the lines name, in their order

abbrev pub op_in : Form → List OpLine
op_in (OfOp line) = line ∷ []
op_in (OfOrder order) = []
op_in (OfPicks picks) = []
op_in (OfRandom start) = []

abbrev pub order_in : Form → List Order
order_in (OfOp line) = []
order_in (OfOrder order) = order ∷ []
order_in (OfPicks picks) = []
order_in (OfRandom start) = []

abbrev pub picks_in : Form → List ℕ
picks_in (OfOp line) = []
picks_in (OfOrder order) = []
picks_in (OfPicks picks) = picks
picks_in (OfRandom start) = []

abbrev pub random_in : Form → List ℕ
random_in (OfOp line) = []
random_in (OfOrder order) = []
random_in (OfPicks picks) = []
random_in (OfRandom start) = start ∷ []

abbrev pub starts : Option ℕ → List ℕ
starts None = []
starts (Some start) = start ∷ []

-- the lines name this workload: its operations, its orders, its picks and at most one start number
pub record Name (forms : List Form) (w : WorkView) : Type 0 where
  pub ops : flat_map op_in forms ≡ w.plan.ops
  pub orders : flat_map order_in forms ≡ w.plan.orders
  pub picks : flat_map picks_in forms ≡ w.picks
  pub random : flat_map random_in forms ≡ starts w.random

-- within all limits
pub record IsWithin (w : WorkView) : Type 0 where
  pub plain : IsPlain w
  pub bodies : AllByRecursion (λ line. length_of line.body ≤ BODY_LIMIT) w.plan.ops

-- the text is the head and whole lines, each of a form, which name this workload within the limits
pub record IsReading (text : List ℕ) (w : WorkView) : Type 0 where
  pub forms : List Form
  pub spelled : text ≡ head_text w.plan.config ++ lines_text forms
  pub fit : AllByRecursion IsForm forms
  pub name : Name forms w
  pub within : IsWithin w

-- what the types of keys and bodies give of all lines
pub record IsWhole (w : WorkView) : Type 0 where
  pub ops : AllByRecursion IsWholeOp w.plan.ops
  pub orders : AllByRecursion IsWholeOrder w.plan.orders

-- this workload was read, or memory was refused
abbrev pub IsReadAs : Result WorkView WorkFault → WorkView → Type 0
IsReadAs (Ok found) w = found ≡ w
IsReadAs (Err (BadLine line)) w = ⊥
IsReadAs (Err (TooLarge which line)) w = ⊥
IsReadAs (Err Memory) w = Unit {0}

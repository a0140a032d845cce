-- The forms of the lines after the head, and what each adds to a workload.
use Rattle.std.specs.Prelude.{ℕ, ◌+◌, List, [], ◌∷◌, ◌++◌, length, Option, Some, None, Result, Ok, Err, nat_le, nat_lt}
use Rattle.std.specs.Prelude.{if◌then◌else◌}
use Rattle.std.specs.List.{count_by}
use Rattle.far_base.specs.Padded.{length_of}
use Rattle.far_base.specs.Limits.{is_slot_order, is_snap, is_stop}
use Rattle.far_base.specs.declared.body.TheConstants.{BODY_LIMIT}
use Rattle.far_base.specs.declared.plan.Op.{Op}
use Rattle.far_base.specs.declared.plan.Op.TheVariants.{Get as GetOp, Put as PutOp, Del as DelOp}
use Rattle.far_base.specs.declared.plan.OpLine.{OpLine}
use Rattle.far_base.specs.declared.plan.Order.{Order}
use Rattle.far_base.specs.declared.plan.Order.TheVariants.{Admit as AdmitOrder, Evict as EvictOrder, Snap as SnapOrder}
use Rattle.far_base.specs.declared.plan.Order.TheVariants.{Stop as StopOrder, StopAt as StopAtOrder}
use Rattle.far_base.specs.declared.plan.TheConstants.{OP_LIMIT, ORDER_LIMIT, SNAP_LIMIT, STOP_LIMIT}
use Rattle.workload.specs.Kinds.{kind_of}
use Rattle.far_text.specs.Options.{◌>>=◌}
use Rattle.far_text.specs.Pieces.{cut_at, pieces}
use Rattle.far_text.specs.Numbers.{number_of}
use Rattle.workload.specs.Words.{numbers_of, verb_of, number_and_key, put_words}
use Rattle.workload.specs.WorkView.{WorkView}
use Rattle.workload.specs.declared.fault.Limit.{Limit}
use Rattle.workload.specs.declared.fault.Limit.TheVariants.{Body, Ops, Orders, Snaps, Stops, Picks as PickCount}
use Rattle.workload.specs.declared.fault.WorkFault.{WorkFault}
use Rattle.workload.specs.declared.fault.WorkFault.TheVariants.{BadLine, TooLarge}
use Rattle.workload.specs.declared.load.TheConstants.{PICK_LIMIT}
use Rattle.workload.specs.declared.words.Verb.{Verb}
use Rattle.workload.specs.declared.words.Verb.TheVariants.{Get, Put, Del, Admit, Evict, Snap, Stop, Picks, Random}

-- what a line after the head says; its client, its body and its place are not yet held against any limit
pub data Form : Type 0 where
  OfOp : (line : OpLine) → Form
  OfOrder : (order : Order) → Form
  OfPicks : (picks : List ℕ) → Form
  OfRandom : (start : ℕ) → Form

abbrev pub an_op : Op → ℕ → List ℕ → Option (List ℕ) → OpLine
an_op op client key body = record { client = client; op = op; key = key; body = body }

-- a stop at a step, or at a packet of a kind: the first of two words names the kind
abbrev pub stop_by : List ℕ → Option (List ℕ × List ℕ) → Option Order
stop_by words None = number_of words >>= λ step. Some (StopOrder step)
stop_by words (Some c) = kind_of c.0 >>= λ kind. number_of c.1 >>= λ times. Some (StopAtOrder kind times)

abbrev pub stop_of : List ℕ → Option Order
stop_of words = stop_by words (cut_at 32 words)

-- what the words behind the first one say
abbrev pub form_by : Verb → List ℕ → Option Form
form_by Get words = number_and_key words >>= λ f. Some (OfOp (an_op GetOp f.0 f.1 None))
form_by Put words = put_words words >>= λ f. Some (OfOp (an_op PutOp f.0 f.1 (Some f.2)))
form_by Del words = number_and_key words >>= λ f. Some (OfOp (an_op DelOp f.0 f.1 None))
form_by Admit words = number_and_key words >>= λ f. Some (OfOrder (AdmitOrder f.0 f.1))
form_by Evict words = number_and_key words >>= λ f. Some (OfOrder (EvictOrder f.0 f.1))
form_by Snap words = number_of words >>= λ step. Some (OfOrder (SnapOrder step))
form_by Stop words = stop_of words >>= λ order. Some (OfOrder order)
form_by Picks words = numbers_of (pieces 32 words) >>= λ ns. Some (OfPicks ns)
form_by Random words = number_of words >>= λ n. Some (OfRandom n)

abbrev pub form_of : List ℕ → Option Form
form_of line = cut_at 32 line >>= λ c. verb_of c.0 >>= λ verb. form_by verb c.1

-- ---- what a form adds, and which fault it has as line n

abbrev pub with_op : WorkView → OpLine → WorkView
with_op w line = record w { plan = record w.plan { ops = w.plan.ops ++ line ∷ [] } }

abbrev pub with_order : WorkView → Order → WorkView
with_order w order = record w { plan = record w.plan { orders = w.plan.orders ++ order ∷ [] } }

abbrev pub with_picks : WorkView → List ℕ → WorkView
with_picks w ns = record w { picks = w.picks ++ ns }

abbrev pub with_random : WorkView → ℕ → WorkView
with_random w start = record w { random = Some start }

abbrev pub op_counted : ℕ → WorkView → OpLine → Result WorkView WorkFault
op_counted n w line = if nat_lt (length w.plan.ops) OP_LIMIT then Ok (with_op w line) else Err (TooLarge Ops n)

abbrev pub op_short : ℕ → WorkView → OpLine → Result WorkView WorkFault
op_short n w line = if nat_le (length_of line.body) BODY_LIMIT then op_counted n w line else Err (TooLarge Body n)

-- an operation: first its client, then the length of its body, then the number of operations
abbrev pub op_step : ℕ → WorkView → OpLine → Result WorkView WorkFault
op_step n w line = if nat_lt line.client w.plan.config.clients then op_short n w line else Err (BadLine n)

-- the limit that one order more would pass
abbrev pub passed : List Order → Order → Option Limit
passed orders (AdmitOrder step key) = if nat_lt (count_by is_slot_order orders) ORDER_LIMIT then None else Some Orders
passed orders (EvictOrder step key) = if nat_lt (count_by is_slot_order orders) ORDER_LIMIT then None else Some Orders
passed orders (SnapOrder step) = if nat_lt (count_by is_snap orders) SNAP_LIMIT then None else Some Snaps
passed orders (StopOrder step) = if nat_lt (count_by is_stop orders) STOP_LIMIT then None else Some Stops
passed orders (StopAtOrder kind times) = if nat_lt (count_by is_stop orders) STOP_LIMIT then None else Some Stops

abbrev pub unless : {A : Type 0} → ℕ → Option Limit → A → Result A WorkFault
unless n None x = Ok x
unless n (Some which) x = Err (TooLarge which n)

abbrev pub order_step : ℕ → WorkView → Order → Result WorkView WorkFault
order_step n w order = unless n (passed w.plan.orders order) (with_order w order)

abbrev pub picks_step : ℕ → WorkView → List ℕ → Result WorkView WorkFault
picks_step n w ns = if nat_le (length w.picks + length ns) PICK_LIMIT
    then Ok (with_picks w ns)
    else Err (TooLarge PickCount n)

abbrev pub random_by : ℕ → WorkView → ℕ → Option ℕ → Result WorkView WorkFault
random_by n w start None = Ok (with_random w start)
random_by n w start (Some other) = Err (BadLine n)

abbrev pub step : ℕ → WorkView → Form → Result WorkView WorkFault
step n w (OfOp line) = op_step n w line
step n w (OfOrder order) = order_step n w order
step n w (OfPicks picks) = picks_step n w picks
step n w (OfRandom start) = random_by n w start w.random

abbrev pub step_by : ℕ → WorkView → Option Form → Result WorkView WorkFault
step_by n w None = Err (BadLine n)
step_by n w (Some form) = step n w form

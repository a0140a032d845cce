-- A text that reads as a workload is shorter than 2 ^ 32 bytes.
use Rattle.std.proofs.Common.{◌≡◌, ℕ, zero, suc, Bool, cond, ◌+◌, ◌*◌, ◌<◌, ◌≤◌, true, List, [], ◌∷◌, ◌++◌, length, refl, ap, ◌∙◌, arith, length-append}
use Rattle.std.specs.Prelude.{◌^◌, ◌&&◌, nat_eq, Option, Some, None, codes, decimal}
use Rattle.std.specs.List.{count_by, flat_map, AllByRecursion}
use Rattle.std.proofs.lemmas.List.Sums.{sum_by-cons}
use Rattle.std.proofs.lemmas.Bool.Decides.{nat_tests}
use Rattle.std.proofs.lemmas.Fmt.{length-decimal-le}
use Rattle.far_base.specs.Key.{key_text, starts_visible, visible_then_zeros}
use Rattle.far_base.specs.Limits.{IsConfig, is_slot_order, is_snap, is_stop}
use Rattle.far_base.specs.Padded.{length_of}
use Rattle.far_base.specs.declared.body.TheConstants.{BODY_LIMIT}
use Rattle.far_base.specs.declared.key.TheConstants.{KEY_LENGTH}
use Rattle.far_base.specs.declared.plan.PassKind.{PassKind}
use Rattle.far_base.specs.declared.plan.PassKind.TheVariants.{GetReq, WriteReq, GetRep, WriteRep, Admit as AdmitPass, Peek, Remove, SnapStart, SnapRead}
use Rattle.far_base.specs.declared.plan.Config.{Config}
use Rattle.far_base.specs.declared.plan.Op.{Op}
use Rattle.far_base.specs.declared.plan.Op.TheVariants.{Get, Put, Del}
use Rattle.far_base.specs.declared.plan.OpLine.{OpLine}
use Rattle.far_base.specs.declared.plan.Order.{Order}
use Rattle.far_base.specs.declared.plan.Order.TheVariants.{Admit, Evict, Snap, Stop, StopAt}
use Rattle.far_text.specs.Numbers.{IsNumber}
use Rattle.far_text.specs.Words.{IsKey}
use Rattle.far_text.proofs.Digits.{and_true}
use Rattle.workload.specs.Forms.{Form, OfOp, OfOrder, OfPicks, OfRandom}
use Rattle.workload.specs.Kinds.{kind_name}
use Rattle.workload.specs.Meaning.{IsForm, IsOpForm, IsOrderForm, op_in, order_in, picks_in, random_in, starts, IsReading}
use Rattle.workload.specs.Spelling.{line_end, number_text, number_line, number_key_text, head_text, verb_text, body_text, op_text, order_text, spaced, line_text, lines_text}
use Rattle.workload.specs.WorkView.{WorkView}

-- ---- words

key_text_short : (key : List ℕ) → length (key_text key) ≤ length key
key_text_short [] = omega arith
key_text_short (zero ∷ bs) = omega arith
key_text_short (suc b ∷ bs) = let h = key_text_short bs in omega (arith, h)

key_short : (key : List ℕ) → IsKey key → length (key_text key) ≤ 16
key_short key h =
    let whole : length key ≡ KEY_LENGTH = grind (arith, nat_tests, (and_true (nat_eq (length key) KEY_LENGTH) (starts_visible key && visible_then_zeros key) h).0) in
    omega (arith, whole, key_text_short key)

number_short : (n : ℕ) → IsNumber n → length (decimal n) ≤ 19
number_short n h = length-decimal-le 19 n (omega arith) (omega (arith, h)) (omega (arith, h))

number_text_short : (text : List ℕ) (n : ℕ) → IsNumber n → length (number_text text n) ≤ length text + 19
number_text_short text n h = omega (arith, length-append text (decimal n), number_short n h)

number_line_short : (text : List ℕ) (n : ℕ) → IsNumber n → length (number_line text n) ≤ length text + 20
number_line_short text n h = let end : length line_end ≡ 1 = refl in omega (arith, end, length-append (number_text text n) line_end, number_text_short text n h)

number_key_short : (text : List ℕ) (n : ℕ) (key : List ℕ) → IsNumber n → IsKey key → length (number_key_text text n key) ≤ length text + 36
number_key_short text n key h k =
    let behind : length (number_key_text text n key) ≡ length (number_text text n) + suc (length (key_text key)) = length-append (number_text text n) (32 ∷ key_text key) in
    omega (arith, behind, number_text_short text n h, key_short key k)

-- ---- lines

abbrev IsShort : OpLine → Type 0
IsShort line = length_of line.body ≤ BODY_LIMIT

verb_length : (op : Op) → length (verb_text op) ≡ 4
verb_length Get = refl
verb_length Put = refl
verb_length Del = refl

body_short : (body : Option (List ℕ)) → length_of body ≤ BODY_LIMIT → length (body_text body) ≤ 258
body_short None h = omega arith
body_short (Some text) h = omega (arith, h)

op_short : (line : OpLine) → IsOpForm line → IsShort line → length (op_text line) ≤ 298
op_short line h k =
    let words = number_key_short (verb_text line.op) line.client line.key h.client h.key in
    omega (arith, length-append (number_key_text (verb_text line.op) line.client line.key) (body_text line.body), words, verb_length line.op, body_short line.body k)

kind_short : (kind : PassKind) → length (kind_name kind) ≤ 9
kind_short GetReq = omega arith
kind_short WriteReq = omega arith
kind_short GetRep = omega arith
kind_short WriteRep = omega arith
kind_short AdmitPass = omega arith
kind_short Peek = omega arith
kind_short Remove = omega arith
kind_short SnapStart = omega arith
kind_short SnapRead = omega arith

order_short : (order : Order) → IsOrderForm order → length (order_text order) ≤ 298
order_short (Admit step key) h = let word : length (codes "admit ") ≡ 6 = refl in omega (arith, word, number_key_short (codes "admit ") step key h.0 h.1)
order_short (Evict step key) h = let word : length (codes "evict ") ≡ 6 = refl in omega (arith, word, number_key_short (codes "evict ") step key h.0 h.1)
order_short (Snap step) h = let word : length (codes "snap ") ≡ 5 = refl in omega (arith, word, number_text_short (codes "snap ") step h)
order_short (Stop step) h = let word : length (codes "stop ") ≡ 5 = refl in omega (arith, word, number_text_short (codes "stop ") step h)
order_short (StopAt kind times) h =
    let word : length (codes "stop ") ≡ 5 = refl in
    let space : length (codes " ") ≡ 1 = refl in
    let last = number_text_short (codes " ") times h in
    let first : length ((codes "stop " ++ kind_name kind) ++ number_text (codes " ") times) ≡ length (codes "stop " ++ kind_name kind) + length (number_text (codes " ") times) = length-append (codes "stop " ++ kind_name kind) (number_text (codes " ") times) in
    omega (arith, word, space, last, first, length-append (codes "stop ") (kind_name kind), kind_short kind)

spaced_short : (ns : List ℕ) → AllByRecursion IsNumber ns → length (spaced ns) ≤ 20 * length ns
spaced_short [] h = omega arith
spaced_short (n ∷ ns) h =
    let space : length (codes " ") ≡ 1 = refl in
    omega (arith, space, length-append (number_text (codes " ") n) (spaced ns), number_text_short (codes " ") n h.0, spaced_short ns h.1)

-- how many operations, orders, picks and start numbers a line has
abbrev count_in : Form → ℕ
count_in (OfOp line) = 1
count_in (OfOrder order) = 1
count_in (OfPicks picks) = length picks
count_in (OfRandom start) = 1

abbrev counts_in : List Form → ℕ
counts_in [] = 0
counts_in (form ∷ forms) = count_in form + counts_in forms

line_short : (form : Form) → IsForm form → AllByRecursion IsShort (op_in form) → length (line_text form) ≤ 299 * count_in form
line_short (OfOp line) h k = let end : length line_end ≡ 1 = refl in omega (arith, end, length-append (op_text line) line_end, op_short line h k.0)
line_short (OfOrder order) h k = let end : length line_end ≡ 1 = refl in omega (arith, end, length-append (order_text order) line_end, order_short order h)
line_short (OfPicks picks) h k =
    let end : length line_end ≡ 1 = refl in
    let word : length (codes "picks") ≡ 5 = refl in
    omega (arith, end, word, length-append (codes "picks" ++ spaced picks) line_end, length-append (codes "picks") (spaced picks), spaced_short picks h.1, h.0)
line_short (OfRandom start) h k =
    let end : length line_end ≡ 1 = refl in
    let word : length (codes "random ") ≡ 7 = refl in
    omega (arith, end, word, length-append (number_text (codes "random ") start) line_end, number_text_short (codes "random ") start h)

-- a line's operations, and those of the lines behind it
first_ops : (form : Form) (ops : List OpLine) → AllByRecursion IsShort (op_in form ++ ops) → AllByRecursion IsShort (op_in form) × AllByRecursion IsShort ops
first_ops (OfOp line) ops h = ((h.0, tt), h.1)
first_ops (OfOrder order) ops h = (tt, h)
first_ops (OfPicks picks) ops h = (tt, h)
first_ops (OfRandom start) ops h = (tt, h)

lines_short : (forms : List Form) → AllByRecursion IsForm forms → AllByRecursion IsShort (flat_map op_in forms) → length (lines_text forms) ≤ 299 * counts_in forms
lines_short [] h k = omega arith
lines_short (form ∷ forms) h k =
    let short = first_ops form (flat_map op_in forms) k in
    omega (arith, length-append (line_text form) (lines_text forms), line_short form h.0 short.0, lines_short forms h.1 short.1)

-- ---- all lines

abbrev counted : List Form → ℕ
counted forms = length (flat_map op_in forms) + length (flat_map order_in forms) + length (flat_map picks_in forms) + length (flat_map random_in forms)

counts_are : (forms : List Form) → counts_in forms ≡ counted forms
counts_are [] = refl
counts_are (OfOp line ∷ forms) = omega (arith, counts_are forms)
counts_are (OfOrder order ∷ forms) = omega (arith, counts_are forms)
counts_are (OfPicks picks ∷ forms) = omega (arith, counts_are forms, length-append picks (flat_map picks_in forms))
counts_are (OfRandom start ∷ forms) = omega (arith, counts_are forms)

count_cons : {X : Type 0} → (p : X → Bool) (x : X) (xs : List X) → count_by p (x ∷ xs) ≡ cond {A = ℕ} (p x) 1 0 + count_by p xs
count_cons p x xs = sum_by-cons (λ y. cond {A = ℕ} (p y) 1 0) x xs

order_count : (orders : List Order) → length orders ≡ count_by is_slot_order orders + count_by is_snap orders + count_by is_stop orders
order_count [] = refl
order_count (Admit step key ∷ orders) =
    let slot : count_by is_slot_order (Admit step key ∷ orders) ≡ 1 + count_by is_slot_order orders = count_cons is_slot_order (Admit step key) orders in
    let snap : count_by is_snap (Admit step key ∷ orders) ≡ 0 + count_by is_snap orders = count_cons is_snap (Admit step key) orders in
    let stop : count_by is_stop (Admit step key ∷ orders) ≡ 0 + count_by is_stop orders = count_cons is_stop (Admit step key) orders in
    omega (arith, slot, snap, stop, order_count orders)
order_count (Evict step key ∷ orders) =
    let slot : count_by is_slot_order (Evict step key ∷ orders) ≡ 1 + count_by is_slot_order orders = count_cons is_slot_order (Evict step key) orders in
    let snap : count_by is_snap (Evict step key ∷ orders) ≡ 0 + count_by is_snap orders = count_cons is_snap (Evict step key) orders in
    let stop : count_by is_stop (Evict step key ∷ orders) ≡ 0 + count_by is_stop orders = count_cons is_stop (Evict step key) orders in
    omega (arith, slot, snap, stop, order_count orders)
order_count (Snap step ∷ orders) =
    let slot : count_by is_slot_order (Snap step ∷ orders) ≡ 0 + count_by is_slot_order orders = count_cons is_slot_order (Snap step) orders in
    let snap : count_by is_snap (Snap step ∷ orders) ≡ 1 + count_by is_snap orders = count_cons is_snap (Snap step) orders in
    let stop : count_by is_stop (Snap step ∷ orders) ≡ 0 + count_by is_stop orders = count_cons is_stop (Snap step) orders in
    omega (arith, slot, snap, stop, order_count orders)
order_count (Stop step ∷ orders) =
    let slot : count_by is_slot_order (Stop step ∷ orders) ≡ 0 + count_by is_slot_order orders = count_cons is_slot_order (Stop step) orders in
    let snap : count_by is_snap (Stop step ∷ orders) ≡ 0 + count_by is_snap orders = count_cons is_snap (Stop step) orders in
    let stop : count_by is_stop (Stop step ∷ orders) ≡ 1 + count_by is_stop orders = count_cons is_stop (Stop step) orders in
    omega (arith, slot, snap, stop, order_count orders)
order_count (StopAt kind times ∷ orders) =
    let slot : count_by is_slot_order (StopAt kind times ∷ orders) ≡ 0 + count_by is_slot_order orders = count_cons is_slot_order (StopAt kind times) orders in
    let snap : count_by is_snap (StopAt kind times ∷ orders) ≡ 0 + count_by is_snap orders = count_cons is_snap (StopAt kind times) orders in
    let stop : count_by is_stop (StopAt kind times ∷ orders) ≡ 1 + count_by is_stop orders = count_cons is_stop (StopAt kind times) orders in
    omega (arith, slot, snap, stop, order_count orders)

start_count : (start : Option ℕ) → length (starts start) ≤ 1
start_count None = omega arith
start_count (Some start) = omega arith

head_short : (config : Config) → IsConfig config → length (head_text config) ≤ 200
head_short config h =
    let first : length (codes "far 1\n") ≡ 6 = refl in
    let a : length (codes "clients ") ≡ 8 = refl in
    let b : length (codes "servers ") ≡ 8 = refl in
    let c : length (codes "slots ") ≡ 6 = refl in
    let d : length (codes "hot ") ≡ 4 = refl in
    let t1 = codes "far 1\n" in
    let t2 = number_line (codes "clients ") config.clients in
    let t3 = number_line (codes "servers ") config.servers in
    let t4 = number_line (codes "slots ") config.slots in
    let t5 = number_line (codes "hot ") config.hot in
    omega (
      arith,
      first,
      a,
      b,
      c,
      d,
      length-append t1 t2,
      length-append (t1 ++ t2) t3,
      length-append (t1 ++ t2 ++ t3) t4,
      length-append (t1 ++ t2 ++ t3 ++ t4) t5,
      number_line_short (codes "clients ") config.clients (omega (arith, h.clients.1)),
      number_line_short (codes "servers ") config.servers (omega (arith, h.servers.1)),
      number_line_short (codes "slots ") config.slots (omega (arith, h.slots.1)),
      number_line_short (codes "hot ") config.hot (omega (arith, h.hot)),
    )

pub text_short : (text : List ℕ) (w : WorkView) → IsReading text w → length text < 2 ^ 32
text_short text w h =
    let whole : length text ≡ length (head_text w.plan.config) + length (lines_text h.forms) = ap length h.spelled ∙ length-append (head_text w.plan.config) (lines_text h.forms) in
    let lines = lines_short h.forms h.fit (rw h.name.ops h.within.bodies) in
    let ops : length (flat_map op_in h.forms) ≡ length w.plan.ops = ap length h.name.ops in
    let orders : length (flat_map order_in h.forms) ≡ length w.plan.orders = ap length h.name.orders in
    let picks : length (flat_map picks_in h.forms) ≡ length w.picks = ap length h.name.picks in
    let random : length (flat_map random_in h.forms) ≡ length (starts w.random) = ap length h.name.random in
    let plan = h.within.plain.plan in
    omega (
      arith,
      whole,
      lines,
      counts_are h.forms,
      ops,
      orders,
      picks,
      random,
      order_count w.plan.orders,
      start_count w.random,
      head_short w.plan.config plan.config,
      plan.count,
      plan.slot_orders,
      plan.snaps,
      plan.stops,
      h.within.plain.count,
    )

-- What is printed reads as the workload again.
use Rattle.std.proofs.Common.{◌≡◌, ℕ, zero, suc, ◌-◌, ◌≤◌, List, [], ◌∷◌, ◌++◌, map, refl, sym, ap, subst, ◌∙◌, arith}
use Rattle.std.specs.Prelude.{Option, Some, None}
use Rattle.std.specs.List.{flat_map, AllByRecursion}
use Rattle.std.proofs.lemmas.Grind.{flat_map-append}
use Rattle.std.proofs.lemmas.List.{append-nil}
use Rattle.far_base.specs.Limits.{IsOpLine, due_number}
use Rattle.far_base.specs.Padded.{length_of}
use Rattle.far_base.specs.declared.body.TheConstants.{BODY_LIMIT}
use Rattle.far_base.specs.declared.plan.OpLine.{OpLine}
use Rattle.far_base.specs.declared.plan.Order.{Order}
use Rattle.far_base.specs.declared.plan.Order.TheVariants.{Admit, Evict, Snap, Stop, StopAt}
use Rattle.far_base.specs.declared.plan.TheConstants.{CLIENT_LIMIT, STEP_LIMIT}
use Rattle.workload.specs.Forms.{Form, OfOp, OfOrder, OfPicks}
use Rattle.far_text.specs.Numbers.{IsNumber}
use Rattle.workload.specs.Meaning.{IsForm, IsOrderForm, AreNumbers, IsWholeOp, IsWholeOrder, op_in, order_in, picks_in, random_in, starts, Name, IsReading}
use Rattle.workload.specs.Plain.{IsStart, IsPlain}
use Rattle.workload.specs.Spelling.{with_number, rows, rows_from, random_forms, forms_of, spelling}
use Rattle.workload.specs.WorkView.{WorkView}
use Rattle.workload.specs.declared.printer.TheConstants.{PICKS_PER_LINE}
use Rattle.workload.proofs.RowLaws.{some_row}
use Rattle.workload.proofs.StepLaws.{all_join}

-- ---- the rows

-- every row has a pick, but the first one may be still empty
abbrev AreRows : List (List ℕ) → Type 0
AreRows [] = ⊥
AreRows (row ∷ more) = AllByRecursion IsNumber row × AllByRecursion AreNumbers more

fuller : (n : ℕ) (more : List (List ℕ)) → IsNumber n → AreRows more → AllByRecursion AreNumbers (with_number n more)
fuller n [] h k = absurd k
fuller n (row ∷ more) h k = ((omega arith, (h, k.0)), k.1)

opened : (n : ℕ) (more : List (List ℕ)) → IsNumber n → AreRows more → AreRows (with_number n more)
opened n [] h k = absurd k
opened n (row ∷ more) h k = ((h, k.0), k.1)

are_rows : (room : ℕ) (picks : List ℕ) → AllByRecursion IsNumber picks → AreRows (rows_from room picks)
are_rows room [] h = (tt, tt)
are_rows zero (n ∷ ns) h = (tt, fuller n (rows_from (PICKS_PER_LINE - 1) ns) h.0 (are_rows (PICKS_PER_LINE - 1) ns h.1))
are_rows (suc room) (n ∷ ns) h = opened n (rows_from room ns) h.0 (are_rows room ns h.1)

rows_fit : (picks : List ℕ) → AllByRecursion IsNumber picks → AllByRecursion AreNumbers (rows picks)
rows_fit [] h = tt
rows_fit (n ∷ ns) h = fuller n (rows_from (PICKS_PER_LINE - 1) ns) h.0 (are_rows (PICKS_PER_LINE - 1) ns h.1)

abbrev flat : List (List ℕ) → List ℕ
flat rows = flat_map picks_in (map OfPicks rows)

flat_first : (n : ℕ) (more : List (List ℕ)) (row : List ℕ) (rest : List (List ℕ)) → more ≡ row ∷ rest → flat (with_number n more) ≡ n ∷ flat more
flat_first n more row rest e = rw e refl

flat_from : (room : ℕ) (picks : List ℕ) → flat (rows_from room picks) ≡ picks
flat_from room [] = refl
flat_from zero (n ∷ ns) =
    let r = some_row (PICKS_PER_LINE - 1) ns in
    flat_first n (rows_from (PICKS_PER_LINE - 1) ns) r.0 r.1 r.2 ∙ ap (λ (l : List ℕ). n ∷ l) (flat_from (PICKS_PER_LINE - 1) ns)
flat_from (suc room) (n ∷ ns) =
    let r = some_row room ns in
    flat_first n (rows_from room ns) r.0 r.1 r.2 ∙ ap (λ (l : List ℕ). n ∷ l) (flat_from room ns)

flat_rows : (picks : List ℕ) → flat (rows picks) ≡ picks
flat_rows [] = refl
flat_rows (n ∷ ns) =
    let r = some_row (PICKS_PER_LINE - 1) ns in
    flat_first n (rows_from (PICKS_PER_LINE - 1) ns) r.0 r.1 r.2 ∙ ap (λ (l : List ℕ). n ∷ l) (flat_from (PICKS_PER_LINE - 1) ns)

-- ---- each line fits

ops_fit : (clients : ℕ) (ops : List OpLine) → clients ≤ CLIENT_LIMIT → AllByRecursion (IsOpLine clients) ops → AllByRecursion IsWholeOp ops → AllByRecursion IsForm (map OfOp ops)
ops_fit clients [] few h k = tt
ops_fit clients (op ∷ ops) few h k =
    let client : IsNumber op.client = omega (arith, few, h.0.client) in
    (record { client = client; key = k.0.key; body = h.0.body }, ops_fit clients ops few h.1 k.1)

order_fits : (order : Order) → due_number order ≤ STEP_LIMIT → IsWholeOrder order → IsOrderForm order
order_fits (Admit step key) h k = (h, k)
order_fits (Evict step key) h k = (h, k)
order_fits (Snap step) h k = h
order_fits (Stop step) h k = h
order_fits (StopAt kind times) h k = h

orders_fit : (orders : List Order) → AllByRecursion (λ order. due_number order ≤ STEP_LIMIT) orders → AllByRecursion IsWholeOrder orders → AllByRecursion IsForm (map OfOrder orders)
orders_fit [] h k = tt
orders_fit (order ∷ orders) h k = (order_fits order h.0 k.0, orders_fit orders h.1 k.1)

picks_fit : (rows : List (List ℕ)) → AllByRecursion AreNumbers rows → AllByRecursion IsForm (map OfPicks rows)
picks_fit [] h = tt
picks_fit (row ∷ rows) h = (h.0, picks_fit rows h.1)

random_fits : (random : Option ℕ) → IsStart random → AllByRecursion IsForm (random_forms random)
random_fits None h = tt
random_fits (Some start) h = (h, tt)

bodies_short : (ops : List OpLine) → AllByRecursion IsWholeOp ops → AllByRecursion (λ line. length_of line.body ≤ BODY_LIMIT) ops
bodies_short [] h = tt
bodies_short (op ∷ ops) h = (h.0.short, bodies_short ops h.1)

-- ---- what they name

four : {A : Type 0} (f : Form → List A) (a b c d : List Form) → flat_map f (a ++ b ++ c ++ d) ≡ flat_map f a ++ flat_map f b ++ flat_map f c ++ flat_map f d
four f a b c d = flat_map-append f (a ++ b ++ c) d ∙ ap (λ (l : List _). l ++ flat_map f d) (flat_map-append f (a ++ b) c ∙ ap (λ (l : List _). l ++ flat_map f c) (flat_map-append f a b))

ops_ops : (ops : List OpLine) → flat_map op_in (map OfOp ops) ≡ ops
ops_ops [] = refl
ops_ops (op ∷ ops) = ap (λ (l : List OpLine). op ∷ l) (ops_ops ops)

ops_orders : (ops : List OpLine) → flat_map order_in (map OfOp ops) ≡ []
ops_orders [] = refl
ops_orders (op ∷ ops) = ops_orders ops

ops_picks : (ops : List OpLine) → flat_map picks_in (map OfOp ops) ≡ []
ops_picks [] = refl
ops_picks (op ∷ ops) = ops_picks ops

ops_starts : (ops : List OpLine) → flat_map random_in (map OfOp ops) ≡ []
ops_starts [] = refl
ops_starts (op ∷ ops) = ops_starts ops

orders_ops : (orders : List Order) → flat_map op_in (map OfOrder orders) ≡ []
orders_ops [] = refl
orders_ops (order ∷ orders) = orders_ops orders

orders_orders : (orders : List Order) → flat_map order_in (map OfOrder orders) ≡ orders
orders_orders [] = refl
orders_orders (order ∷ orders) = ap (λ (l : List Order). order ∷ l) (orders_orders orders)

orders_picks : (orders : List Order) → flat_map picks_in (map OfOrder orders) ≡ []
orders_picks [] = refl
orders_picks (order ∷ orders) = orders_picks orders

orders_starts : (orders : List Order) → flat_map random_in (map OfOrder orders) ≡ []
orders_starts [] = refl
orders_starts (order ∷ orders) = orders_starts orders

rows_ops : (rows : List (List ℕ)) → flat_map op_in (map OfPicks rows) ≡ []
rows_ops [] = refl
rows_ops (row ∷ rows) = rows_ops rows

rows_orders : (rows : List (List ℕ)) → flat_map order_in (map OfPicks rows) ≡ []
rows_orders [] = refl
rows_orders (row ∷ rows) = rows_orders rows

rows_starts : (rows : List (List ℕ)) → flat_map random_in (map OfPicks rows) ≡ []
rows_starts [] = refl
rows_starts (row ∷ rows) = rows_starts rows

start_ops : (random : Option ℕ) → flat_map op_in (random_forms random) ≡ []
start_ops None = refl
start_ops (Some start) = refl

start_orders : (random : Option ℕ) → flat_map order_in (random_forms random) ≡ []
start_orders None = refl
start_orders (Some start) = refl

start_picks : (random : Option ℕ) → flat_map picks_in (random_forms random) ≡ []
start_picks None = refl
start_picks (Some start) = refl

start_starts : (random : Option ℕ) → flat_map random_in (random_forms random) ≡ starts random
start_starts None = refl
start_starts (Some start) = refl

first_of : {A : Type 0} (l a b c d : List A) → a ≡ l → b ≡ [] → c ≡ [] → d ≡ [] → a ++ b ++ c ++ d ≡ l
first_of l a b c d e1 e2 e3 e4 = rw (e1, e2, e3, e4) (append-nil ((l ++ []) ++ []) ∙ append-nil (l ++ []) ∙ append-nil l)

second_of : {A : Type 0} (l a b c d : List A) → a ≡ [] → b ≡ l → c ≡ [] → d ≡ [] → a ++ b ++ c ++ d ≡ l
second_of l a b c d e1 e2 e3 e4 = rw (e1, e2, e3, e4) (append-nil (l ++ []) ∙ append-nil l)

third_of : {A : Type 0} (l a b c d : List A) → a ≡ [] → b ≡ [] → c ≡ l → d ≡ [] → a ++ b ++ c ++ d ≡ l
third_of l a b c d e1 e2 e3 e4 = rw (e1, e2, e3, e4) (append-nil l)

fourth_of : {A : Type 0} (l a b c d : List A) → a ≡ [] → b ≡ [] → c ≡ [] → d ≡ l → a ++ b ++ c ++ d ≡ l
fourth_of l a b c d e1 e2 e3 e4 = rw (e1, e2, e3, e4) refl

names : (w : WorkView) → Name (forms_of w) w
names w =
    let a : List Form = map OfOp w.plan.ops in
    let b : List Form = map OfOrder w.plan.orders in
    let c : List Form = map OfPicks (rows w.picks) in
    let d : List Form = random_forms w.random in
    record {
      ops = four op_in a b c d ∙ first_of w.plan.ops (flat_map op_in a) (flat_map op_in b) (flat_map op_in c) (flat_map op_in d) (ops_ops w.plan.ops) (orders_ops w.plan.orders) (rows_ops (rows w.picks)) (start_ops w.random);
      orders = four order_in a b c d ∙ second_of w.plan.orders (flat_map order_in a) (flat_map order_in b) (flat_map order_in c) (flat_map order_in d) (ops_orders w.plan.ops) (orders_orders w.plan.orders) (rows_orders (rows w.picks)) (start_orders w.random);
      picks = four picks_in a b c d ∙ third_of w.picks (flat_map picks_in a) (flat_map picks_in b) (flat_map picks_in c) (flat_map picks_in d) (ops_picks w.plan.ops) (orders_picks w.plan.orders) (flat_rows w.picks) (start_picks w.random);
      random = four random_in a b c d ∙ fourth_of (starts w.random) (flat_map random_in a) (flat_map random_in b) (flat_map random_in c) (flat_map random_in d) (ops_starts w.plan.ops) (orders_starts w.plan.orders) (rows_starts (rows w.picks)) (start_starts w.random);
    }

pub printed_reads : (w : WorkView) → IsPlain w → AllByRecursion IsWholeOp w.plan.ops → AllByRecursion IsWholeOrder w.plan.orders → IsReading (spelling w) w
printed_reads w h ops orders =
    let a = ops_fit w.plan.config.clients w.plan.ops h.plan.config.clients.1 h.plan.ops ops in
    let b = orders_fit w.plan.orders h.plan.steps orders in
    let c = picks_fit (rows w.picks) (rows_fit w.picks h.picks) in
    let d = random_fits w.random h.random in
    record {
      forms = forms_of w;
      spelled = refl;
      fit = all_join IsForm _ _ (all_join IsForm _ _ (all_join IsForm _ _ a b) c) d;
      name = names w;
      within = record { plain = h; bodies = bodies_short w.plan.ops ops };
    }

-- a text that was printed
pub text_reads : (text : List ℕ) (w : WorkView) (ops : List OpLine) (orders : List Order) → text ≡ spelling w → IsPlain w → ops ≡ w.plan.ops → orders ≡ w.plan.orders → AllByRecursion IsWholeOp ops → AllByRecursion IsWholeOrder orders → IsReading text w
text_reads text w ops orders e h a b k l =
    subst (λ (t : List ℕ). IsReading t w) (sym e) (printed_reads w h (subst (λ (x : List OpLine). AllByRecursion IsWholeOp x) a k) (subst (λ (x : List Order). AllByRecursion IsWholeOrder x) b l))

-- What a party's turn makes of all parties.
use Rattle.std.proofs.Common.{◌≡◌, ◌≢◌, ℕ, zero, suc, ◌+◌, ◌-◌, ◌<◌, ◌≤◌, max, ◌⊎◌, inl, inr, Bool, true, false, not, ◌&&◌, cond, List, [], ◌∷◌, ◌++◌, length, map, get_or, set, refl, sym, ap, ◌∙◌, subst, Some, arith}
use Rattle.std.proofs.lemmas.List.{get_or-set_same, get_or-set_other, length-set}
use Rattle.std.proofs.lemmas.List.Sums.{count_by-le-length, get_or-le-sum_by, sum_by-set}
use Rattle.std.proofs.lemmas.Bool.{cases_eq}
use Rattle.std.proofs.lemmas.Option.{same_Some}
use Rattle.std.specs.List.{count_by}
use Rattle.std.specs.Prelude.{is_some, slice_get}
use Rattle.far_base.specs.PlanView.{PlanView}
use Rattle.far_base.specs.declared.log.LogEntry.{LogEntry}
use Rattle.far_base.specs.declared.packet.Message.{Message}
use Rattle.far_base.specs.declared.packet.Out.{Out}
use Rattle.far_base.specs.declared.party.Party.TheVariants.{Client}
use Rattle.far_base.specs.declared.plan.OpLine.{OpLine}
use Rattle.far_history.specs.RoomyLog.{RoomyLog}
use Rattle.far_base.specs.declared.packet.Packet.{Packet}
use Rattle.far_base.specs.declared.packet.Packet.TheVariants.{GetAns, WriteAns, Release, Ask}
use Rattle.far_model.specs.Clients.{ClientState, client_takes}
use Rattle.far_model.specs.Events.{can_send, client_turn, has_next, next_sent}
use Rattle.far_model.specs.Parties.{Turn, messages_from}
use Rattle.far_model.specs.State.{line_at, nobody}
use Rattle.far_model.specs.View.{SwitchView}
use Rattle.far_world.proofs.Scripts.{length_tells}
use Rattle.far_world.specs.Choices.{seat_can_send}
use Rattle.far_world.specs.Scene.{IsFit, KeeperView, scene_of}
use Rattle.far_world.specs.Seats.{AreSeated, IsSeated, SeatView, TakesTurn, client_of, clients_of}
use Rattle.far_world.specs.Steps.{Logs}
use Rattle.far_world.specs.declared.turn.Turn.{Turn as TurnParts}
use Rattle.controller_core.specs.ControllerView.{ControllerView}

pub clients_set : (seats : List SeatView) (c : ℕ) (new : SeatView) → clients_of (set seats c new) ≡ set (clients_of seats) c new.state
clients_set [] zero new = refl
clients_set [] (suc c) new = refl
clients_set (s ∷ seats) zero new = refl
clients_set (s ∷ seats) (suc c) new = ap (λ (rest : List ClientState). s.state ∷ rest) (clients_set seats c new)

pub client_there : (seats : List SeatView) (c : ℕ) (d : SeatView) → c < length seats → get_or (clients_of seats) c nobody ≡ (get_or seats c d).state
client_there [] c d h = absurd (omega arith)
client_there (s ∷ seats) zero d h = refl
client_there (s ∷ seats) (suc c) d h = client_there seats c d (omega arith)

pub length_clients : (seats : List SeatView) → length (clients_of seats) ≡ length seats
length_clients [] = refl
length_clients (s ∷ seats) = ap suc (length_clients seats)

get_there : {A : Type 0} → (xs : List A) (i : ℕ) (d : A) → i < length xs → slice_get xs i ≡ Some (get_or xs i d)
get_there [] i d h = absurd (omega arith)
get_there (x ∷ xs) zero d h = refl
get_there (x ∷ xs) (suc i) d h = get_there xs i d (omega arith)

within : {A : Type 0} → (xs : List A) (i : ℕ) (a : A) → slice_get xs i ≡ Some a → i < length xs
within [] i a h = absurd cc
within (x ∷ xs) zero a h = omega arith
within (x ∷ xs) (suc i) a h = let less = within xs i a h in omega (arith, less)

pub seated_at : (ops : List OpLine) (seats : List SeatView) (c : ℕ) (d : SeatView) → c < length seats → AreSeated ops seats → IsSeated ops c (get_or seats c d)
seated_at ops seats c d h seated = seated c (get_or seats c d) (get_there seats c d h)

pub seated_set : (ops : List OpLine) (seats : List SeatView) (c : ℕ) (new : SeatView) → c < length seats → AreSeated ops seats → IsSeated ops c new → AreSeated ops (set seats c new)
seated_set ops seats c new less seated own n seat h = by (cases_eq n c)
  where
    is : seat ≡ get_or (set seats c new) n new
    is = same_Some _ _ (sym h ∙ get_there (set seats c new) n new (within (set seats c new) n seat h))

    by : (n ≡ c) ⊎ (n ≢ c) → IsSeated ops n seat
    by (inl e) = rw (is, e, get_or-set_same seats c new new less) own
    by (inr other) =
        let there : n < length seats = let w = within (set seats c new) n seat h in omega (arith, w, length-set seats c new) in
        rw (is, get_or-set_other seats c n new new other) (seated_at ops seats n new there seated)

pub client_goes : (plan : PlanView) (switch : SwitchView) (running : Bool) (seats : List SeatView) (controller : ControllerView) (bag : List Message) (passes : List ℕ) (done : ℕ) (log : RoomyLog) (keeper : KeeperView)
    (c : ℕ) (new : SeatView) (bag' : List Message) (log' : RoomyLog) (t : Turn ClientState)
    → new.state ≡ t.state → bag' ≡ bag ++ messages_from (Client c) t.out → Logs log log' t.notes
    → scene_of plan switch running (set seats c new) controller bag' passes done log' keeper
    ≡ record (scene_of plan switch running seats controller bag passes done log keeper) { state = client_turn (scene_of plan switch running seats controller bag passes done log keeper).state c bag t }
client_goes plan switch running seats controller bag passes done log keeper c new bag' log' t es eb el =
    λ i. record (scene_of plan switch running seats controller bag passes done log keeper) {
      state = record (scene_of plan switch running seats controller bag passes done log keeper).state {
        clients = (clients_set seats c new ∙ ap (λ (s : ClientState). set (clients_of seats) c s) es) i;
        bag = eb i;
        steps = el.steps i;
        log = el.lines i;
      };
    }

pub sender_there : (xs : List ClientState) (i : ℕ) → can_send (get_or xs i nobody) ≡ true → i < length xs
sender_there [] i h = absurd cc
sender_there (x ∷ xs) zero h = omega arith
sender_there (x ∷ xs) (suc i) h = let less = sender_there xs i h in omega (arith, less)

-- a seat of the clients is that of its number
pub seat_is : (ops : List OpLine) (seats : List SeatView) (c : ℕ) (seat : SeatView) → seat ≡ get_or seats c seat → c < length seats → AreSeated ops seats → IsSeated ops c seat
seat_is ops seats c seat e less seated = rw e (seated_at ops seats c seat less seated)

pub own_seat : (ops : List OpLine) (seats : List SeatView) (c : ℕ) (seat : SeatView) → seat ≡ get_or seats c seat → c < length seats → AreSeated ops seats → IsSeated ops seat.number seat
own_seat ops seats c seat e less seated = let h = seat_is ops seats c seat e less seated in subst (λ (n : ℕ). IsSeated ops n seat) (sym h.number) h

-- ---- how many clients can send

-- 1 where the client can send, and else 0
abbrev pub sends_one : SeatView → ℕ
sends_one seat = cond {A = ℕ} (seat_can_send seat) 1 0

-- a client of the seats is among those counted
pub counts_one : (seats : List SeatView) (c : ℕ) (seat : SeatView) → seat ≡ get_or seats c seat → c < length seats → sends_one seat ≤ count_by seat_can_send seats
counts_one seats c seat e less = subst (λ (s : SeatView). sends_one s ≤ count_by seat_can_send seats) (sym e) (get_or-le-sum_by sends_one seats c seat less)

-- another seat in the place of one
pub count_set : (seats : List SeatView) (c : ℕ) (seat new : SeatView) → seat ≡ get_or seats c seat → c < length seats → count_by seat_can_send (set seats c new) + sends_one seat ≡ count_by seat_can_send seats + sends_one new
count_set seats c seat new e less = ap (λ (s : SeatView). count_by seat_can_send (set seats c new) + sends_one s) e ∙ sum_by-set sends_one seats c new seat less

-- a number of clients that can send, with one taken out and one put in, is that after another seat is in the place of one
pub count_stays : (seats : List SeatView) (c : ℕ) (seat new : SeatView) → seat ≡ get_or seats c seat → c < length seats → count_by seat_can_send seats - sends_one seat + sends_one new ≤ length seats
count_stays seats c seat new e less = omega (arith, counts_one seats c seat e less, count_set seats c seat new e less, count_by-le-length seat_can_send (set seats c new), length-set seats c new)

-- a client that has sent waits
pub sent_waits : (ops : List OpLine) (c : ℕ) (client : ClientState) → can_send client ≡ true → can_send (next_sent ops c client client.left).state ≡ false
sent_waits ops c client h = go client.left (second (not (is_some client.waits)) (has_next client.left) h)
  where
    go : (left : List ℕ) → has_next left ≡ true → can_send (next_sent ops c client left).state ≡ false
    go [] k = absurd cc
    go (op ∷ left) k = refl

    second : (a b : Bool) → (a && b) ≡ true → b ≡ true
    second true b k = k
    second false b k = absurd cc

-- a client that can send is counted
pub sends_itself : (seats : List SeatView) (c : ℕ) (seat : SeatView) → seat ≡ get_or seats c seat → c < length seats → can_send (get_or (clients_of seats) c nobody) ≡ true → seat_can_send seat ≡ true
sends_itself seats c seat e less can = ap seat_can_send e ∙ (ap can_send (sym (client_there seats c seat less)) ∙ can)

pub some_sends : (seats : List SeatView) (able c : ℕ) (seat : SeatView) → seat ≡ get_or seats c seat → c < length seats → can_send (get_or (clients_of seats) c nobody) ≡ true → able ≡ count_by seat_can_send seats → 1 ≤ able
some_sends seats able c seat e less can count =
    let one : sends_one seat ≡ 1 = ap (λ (b : Bool). cond {A = ℕ} b 1 0) (sends_itself seats c seat e less can) in
    omega (arith, one, count, counts_one seats c seat e less)

-- one client fewer can send after it has sent
pub sent_count : (ops : List OpLine) (seats : List SeatView) (able c : ℕ) (seat new : SeatView) → seat ≡ get_or seats c seat → c < length seats → can_send (get_or (clients_of seats) c nobody) ≡ true → able ≡ count_by seat_can_send seats
    → new.state ≡ (next_sent ops seat.number seat.state seat.state.left).state → able - 1 + sends_one seat ≡ able + sends_one new
sent_count ops seats able c seat new e less can count sent =
    let own = sends_itself seats c seat e less can in
    let one : sends_one seat ≡ 1 = ap (λ (b : Bool). cond {A = ℕ} b 1 0) own in
    let none : sends_one new ≡ 0 = ap (λ (b : Bool). cond {A = ℕ} b 1 0) (ap can_send sent ∙ sent_waits ops seat.number seat.state own) in
    omega (arith, one, none, some_sends seats able c seat e less can count)

pub fit_set : (plan : PlanView) (seats : List SeatView) (able after : ℕ) (controller : ControllerView) (can_tick : Bool) (passes : List ℕ) (c : ℕ) (seat new : SeatView) → seat ≡ get_or seats c seat → c < length seats
    → IsFit plan seats able controller can_tick passes → IsSeated plan.ops seat.number new → after + sends_one seat ≡ able + sends_one new → IsFit plan (set seats c new) after controller can_tick passes
fit_set plan seats able after controller can_tick passes c seat new e less fit own count = record {
  few = let more = fit.few in omega (arith, more, length-set seats c new);
  sends = let sends = fit.sends in omega (arith, sends, count, count_set seats c seat new e less);
  seated = seated_set plan.ops seats c new less fit.seated (let h = seat_is plan.ops seats c seat e less fit.seated in subst (λ (n : ℕ). IsSeated plan.ops n new) h.number own);
  config = fit.config;
  ticks = fit.ticks;
  counts = fit.counts;
}

pub logs_from : (log log1 log2 : RoomyLog) (notes own : List LogEntry) → log1.steps ≡ log.steps → log1.lines ≡ log.lines → notes ≡ own → Logs log1 log2 notes → Logs log log2 own
logs_from log log1 log2 notes own steps lines same h = record {
  steps = h.steps ∙ ap (λ (n : ℕ). n + 1) steps;
  lines = h.lines ∙ (λ i. lines i ++ map (line_at (steps i + 1)) (same i));
}

-- the turn of a client, from the seat to all parties
pub seat_goes : (plan : PlanView) (switch : SwitchView) (running : Bool) (seats : List SeatView) (controller : ControllerView) (bag : List Message) (passes : List ℕ) (done : ℕ) (log : RoomyLog) (keeper : KeeperView)
    (c : ℕ) (seat new : SeatView) (before after : TurnParts) (bag1 bag2 : List Message) (log1 log2 : RoomyLog) (turn : ℕ → ClientState → Turn ClientState)
    → seat ≡ get_or seats c seat → c < length seats → AreSeated plan.ops seats
    → TakesTurn plan.ops seat before (turn seat.number seat.state) new after → before.out.items ≡ [] → before.notes.items ≡ []
    → bag1 ≡ bag → log1.steps ≡ log.steps → log1.lines ≡ log.lines
    → bag2 ≡ bag1 ++ messages_from (Client c) after.out.items → Logs log1 log2 after.notes.items
    → scene_of plan switch running (set seats c new) controller bag2 passes done log2 keeper
    ≡ record (scene_of plan switch running seats controller bag passes done log keeper) { state = client_turn (scene_of plan switch running seats controller bag passes done log keeper).state c bag (turn c (get_or (clients_of seats) c nobody)) }
seat_goes plan switch running seats controller bag passes done log keeper c seat new before after bag1 bag2 log1 log2 turn e less seated t out notes same steps lines eb el =
    let own = seat_is plan.ops seats c seat e less seated in
    let client : seat.state ≡ get_or (clients_of seats) c nobody = ap client_of e ∙ sym (client_there seats c seat less) in
    let turned : turn seat.number seat.state ≡ turn c (get_or (clients_of seats) c nobody) = ap (λ (n : ℕ). turn n seat.state) own.number ∙ ap (λ (s : ClientState). turn c s) client in
    let sent : after.out.items ≡ (turn c (get_or (clients_of seats) c nobody)).out = t.out ∙ (ap (λ (outs : List Out). outs ++ (turn seat.number seat.state).out) out ∙ ap (λ (z : Turn ClientState). z.out) turned) in
    let noted : after.notes.items ≡ (turn c (get_or (clients_of seats) c nobody)).notes = t.notes ∙ (ap (λ (ns : List LogEntry). ns ++ (turn seat.number seat.state).notes) notes ∙ ap (λ (z : Turn ClientState). z.notes) turned) in
    client_goes plan switch running seats controller bag passes done log keeper c new bag2 log2 (turn c (get_or (clients_of seats) c nobody))
    (t.state ∙ ap (λ (z : Turn ClientState). z.state) turned)
    (eb ∙ (ap (λ (b : List Message). b ++ messages_from (Client c) after.out.items) same ∙ ap (λ (outs : List Out). bag ++ messages_from (Client c) outs) sent))
    (logs_from log log1 log2 after.notes.items (turn c (get_or (clients_of seats) c nobody)).notes steps lines noted el)

-- ---- how much a client sends and notes

pub few_told : (ops : List OpLine) (c : ℕ) (s : ClientState) (packet : Packet) → length (client_takes ops c s packet).out ≤ max (length s.preserved) 1
few_told ops c s (GetAns caller op key num body near) = omega arith
few_told ops c s (WriteAns caller op key num kept) = omega arith
few_told ops c s (Release point) = omega arith
few_told ops c s (Ask round) = omega (arith, length_tells round c s.preserved)
few_told ops c s _ = omega arith

pub few_noted : (ops : List OpLine) (c : ℕ) (s : ClientState) (packet : Packet) → length (client_takes ops c s packet).notes ≤ 1
few_noted ops c s (GetAns caller op key num body near) = omega arith
few_noted ops c s (WriteAns caller op key num kept) = omega arith
few_noted ops c s (Release point) = omega arith
few_noted ops c s (Ask round) = omega arith
few_noted ops c s _ = omega arith

pub counted : {A : Type 0} → (before after own : List A) (n : ℕ) → before ≡ [] → after ≡ before ++ own → length own ≤ n → length after ≤ n
counted before after own n none e few = let k : length after ≡ length own = ap length (e ∙ ap (λ xs. xs ++ own) none) in omega (arith, k, few)

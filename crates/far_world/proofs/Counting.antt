-- What the code counts of the choices is what the definition lists.
use Rattle.std.proofs.Common.{◌≡◌, ℕ, zero, suc, ◌+◌, ◌-◌, ◌<◌, ◌≤◌, Bool, true, false, not, ◌&&◌, List, [], ◌∷◌, ◌++◌, length, get_or, take, map, refl, sym, ap, ◌∙◌, subst, cond, Some, arith, length-append, append_assoc}
use Rattle.std.proofs.lemmas.List.Sums.{sum_by-cons}
use Rattle.std.proofs.lemmas.List.Folds.{list_all-map, list_any-append, list_all-append}
use Rattle.std.specs.List.{count_by, list_all, list_any}
use Rattle.std.specs.Prelude.{slice_get, nat_eq, is_some, ◌||◌}
use Rattle.far_base.specs.PlanView.{PlanView}
use Rattle.far_base.specs.declared.event.Event.{Event}
use Rattle.far_base.specs.declared.event.Event.TheVariants.{Send, Deliver, Tick, Recover, Restart}
use Rattle.far_base.specs.declared.packet.Message.{Message}
use Rattle.far_base.specs.declared.party.Party.{Party}
use Rattle.far_base.specs.declared.party.Party.TheVariants.{Client, Switch, Server, Controller}
use Rattle.far_model.specs.Clients.{ClientState}
use Rattle.far_model.specs.Controller.{tick, ready}
use Rattle.far_model.specs.Events.{can_send, can_deliver, can_recover, choices, choice_if, deliver_choices, is_switch, send_choices}
use Rattle.far_model.specs.Members.{is_empty}
use Rattle.far_model.specs.Runs.{is_done, is_finished}
use Rattle.far_model.specs.State.{State, nobody}
use Rattle.far_world.proofs.Choosing.{delivery_is, last_there, length_deliveries, length_sends, sender_is}
use Rattle.far_world.proofs.Lists.{get_or_from}
use Rattle.far_world.specs.Choices.{controller_choices, is_idle, nothing_sent, seat_can_send, seat_is_done}
use Rattle.far_world.specs.RoomyBag.{message_of}
use Rattle.far_world.specs.Seats.{SeatView, client_of, clients_of}
use Rattle.wire_bag.specs.BagView.{is_same, are_from_others}

-- ---- clients

count_cons : {X : Type 0} → (p : X → Bool) (x : X) (xs : List X) → count_by p (x ∷ xs) ≡ cond {A = ℕ} (p x) 1 0 + count_by p xs
count_cons p x xs = sum_by-cons (λ y. cond {A = ℕ} (p y) 1 0) x xs

counts_are : (seats : List SeatView) (i : ℕ) → count_by can_send (take i (clients_of seats)) ≡ count_by seat_can_send (take i seats)
counts_are seats zero = refl
counts_are [] (suc i) = refl
counts_are (x ∷ xs) (suc i) = count_cons can_send x.state (take i (clients_of xs)) ∙ (ap (λ (n : ℕ). cond {A = ℕ} (can_send x.state) 1 0 + n) (counts_are xs i) ∙ sym (count_cons seat_can_send x (take i xs)))

pub count_is : (seats : List SeatView) → count_by can_send (clients_of seats) ≡ count_by seat_can_send seats
count_is [] = refl
count_is (x ∷ xs) = count_cons can_send x.state (clients_of xs) ∙ (ap (λ (n : ℕ). cond {A = ℕ} (can_send x.state) 1 0 + n) (count_is xs) ∙ sym (count_cons seat_can_send x xs))

length_clients : (seats : List SeatView) → length (clients_of seats) ≡ length seats
length_clients [] = refl
length_clients (x ∷ xs) = ap suc (length_clients xs)

client_there : (seats : List SeatView) (i : ℕ) (seat : SeatView) → slice_get seats i ≡ Some seat → slice_get (clients_of seats) i ≡ Some seat.state
client_there [] i seat h = absurd cc
client_there (x ∷ xs) zero seat h = cc
client_there (x ∷ xs) (suc i) seat h = client_there xs i seat h

within : {A : Type 0} → (xs : List A) (i : ℕ) (a : A) → slice_get xs i ≡ Some a → i < length xs
within [] i a h = absurd cc
within (x ∷ xs) zero a h = omega arith
within (x ∷ xs) (suc i) a h = let more : i < length xs = within xs i a h in omega arith

seat_there : (seats : List SeatView) (i : ℕ) (d : SeatView) → i < length seats → slice_get seats i ≡ Some (get_or seats i d)
seat_there [] i d h = absurd (omega arith)
seat_there (x ∷ xs) zero d h = refl
seat_there (x ∷ xs) (suc i) d h = seat_there xs i d (omega arith)

pub seat_sends : (seats : List SeatView) (i place : ℕ) (d : SeatView) → i < length seats → seat_can_send (get_or seats i d) ≡ true → place ≡ count_by seat_can_send (take i seats)
    → slice_get (send_choices 0 (clients_of seats)) place ≡ Some (Send i)
seat_sends seats i place d less able e =
    let state = client_there seats i (get_or seats i d) (seat_there seats i d less) in
    sender_is (clients_of seats) i place nobody (within (clients_of seats) i (get_or seats i d).state state) (ap can_send (get_or_from (clients_of seats) i (get_or seats i d).state nobody state) ∙ able) (e ∙ sym (counts_are seats i))

pub senders_are : (clients : List ClientState) (seats : List SeatView) (n : ℕ) → clients ≡ clients_of seats → n ≡ count_by seat_can_send seats → n ≡ count_by can_send clients
senders_are clients seats n same e = e ∙ (sym (count_is seats) ∙ ap (count_by can_send) (sym same))

-- ---- messages

pub all_deliverable : (bag : List Message) → count_by (can_deliver true) bag ≡ length bag
all_deliverable [] = refl
all_deliverable (m ∷ bag) = let more : count_by (can_deliver true) bag ≡ length bag = all_deliverable bag in count_cons (can_deliver true) m bag ∙ omega arith

length_take : {A : Type 0} → (xs : List A) (i : ℕ) → i ≤ length xs → length (take i xs) ≡ i
length_take xs zero h = refl
length_take [] (suc i) h = absurd (omega arith)
length_take (x ∷ xs) (suc i) h = ap suc (length_take xs i (omega arith))

pub delivers_at : (bag : List Message) (place : ℕ) → place < count_by (can_deliver true) bag → slice_get (deliver_choices true 0 bag) place ≡ Some (Deliver place)
delivers_at bag place h =
    let less : place < length bag = subst (λ (n : ℕ). place < n) (all_deliverable bag) h in
    delivery_is true bag place place nothing_sent less refl (sym (all_deliverable (take place bag) ∙ length_take bag place (omega arith)))

same_switch : (p : Party) → is_same p Switch ≡ is_switch p
same_switch (Client c) = refl
same_switch Switch = refl
same_switch (Server n) = refl
same_switch Controller = refl

none_cons : (a b : Bool) → (not a && not b) ≡ not (a || b)
none_cons true b = refl
none_cons false b = refl

all_cons : {X : Type 0} → (p : X → Bool) (x : X) (xs : List X) → list_all p (x ∷ xs) ≡ (p x && list_all p xs)
all_cons p x xs = list_all-append p (x ∷ []) xs ∙ ap (λ (b : Bool). b && list_all p xs) (one (p x))
  where
    one : (b : Bool) → (b && true) ≡ b
    one true = refl
    one false = refl

any_cons : {X : Type 0} → (p : X → Bool) (x : X) (xs : List X) → list_any p (x ∷ xs) ≡ (p x || list_any p xs)
any_cons p x xs = list_any-append p (x ∷ []) xs ∙ ap (λ (b : Bool). b || list_any p xs) (one (p x))
  where
    one : (b : Bool) → (b || false) ≡ b
    one true = refl
    one false = refl

pub none_from : (wires : List (Party × Party × List ℕ)) → are_from_others Switch wires ≡ not (list_any (λ (m : Message). is_switch m.from) (map message_of wires))
none_from [] = refl
none_from (w ∷ ws) =
    all_cons (λ (m : Party × Party × List ℕ). not (is_same m.0 Switch)) w ws
    ∙ (ap (λ (b : Bool). not b && are_from_others Switch ws) (same_switch w.0)
    ∙ (ap (λ (b : Bool). not (is_switch w.0) && b) (none_from ws)
    ∙ (none_cons (is_switch w.0) (list_any (λ (m : Message). is_switch m.from) (map message_of ws))
    ∙ ap not (sym (any_cons (λ (m : Message). is_switch m.from) (message_of w) (map message_of ws))))))

-- ---- all choices

abbrev pub firsts : State → List Event
firsts s = send_choices 0 s.clients ++ deliver_choices s.running 0 s.bag

abbrev pub lasts : State → List Event
lasts s = controller_choices (is_some (tick s.controller)) (can_recover s) (is_some (ready s.controller))

whole : (s : State) → choices s ≡ firsts s ++ lasts s
whole s = ap (λ (es : List Event). es ++ choice_if (is_some (ready s.controller)) Restart) (append_assoc (firsts s) (choice_if (is_some (tick s.controller)) Tick) (choice_if (can_recover s) Recover))
    ∙ append_assoc (firsts s) (choice_if (is_some (tick s.controller)) Tick ++ choice_if (can_recover s) Recover) (choice_if (is_some (ready s.controller)) Restart)

length_if : (b : Bool) (e : Event) → length (choice_if b e) ≡ cond {A = ℕ} b 1 0
length_if true e = refl
length_if false e = refl

length_firsts : (s : State) → length (firsts s) ≡ count_by can_send s.clients + count_by (can_deliver s.running) s.bag
length_firsts s = length-append (send_choices 0 s.clients) (deliver_choices s.running 0 s.bag) ∙ (ap (λ (n : ℕ). n + length (deliver_choices s.running 0 s.bag)) (length_sends s.clients) ∙ ap (λ (n : ℕ). count_by can_send s.clients + n) (length_deliveries s.running s.bag))

pub length_choices : (s : State) → length (choices s) ≡ count_by can_send s.clients + count_by (can_deliver s.running) s.bag + cond {A = ℕ} (is_some (tick s.controller)) 1 0 + cond {A = ℕ} (can_recover s) 1 0 + cond {A = ℕ} (is_some (ready s.controller)) 1 0
length_choices s =
    length-append (firsts s ++ choice_if (is_some (tick s.controller)) Tick ++ choice_if (can_recover s) Recover) (choice_if (is_some (ready s.controller)) Restart)
    ∙ (ap (λ (n : ℕ). n + length (choice_if (is_some (ready s.controller)) Restart)) (length-append (firsts s ++ choice_if (is_some (tick s.controller)) Tick) (choice_if (can_recover s) Recover)
    ∙ ap (λ (n : ℕ). n + length (choice_if (can_recover s) Recover)) (length-append (firsts s) (choice_if (is_some (tick s.controller)) Tick)))
    ∙ rw (length_firsts s, length_if (is_some (tick s.controller)) Tick, length_if (can_recover s) Recover, length_if (is_some (ready s.controller)) Restart) refl)

pub counted : (s : State) (seats : List SeatView) (sends delivers tick_one recover_one restart_one : ℕ) → s.clients ≡ clients_of seats → sends ≡ count_by seat_can_send seats → delivers ≡ count_by (can_deliver s.running) s.bag
    → tick_one ≡ cond {A = ℕ} (is_some (tick s.controller)) 1 0 → recover_one ≡ cond {A = ℕ} (can_recover s) 1 0 → restart_one ≡ cond {A = ℕ} (is_some (ready s.controller)) 1 0
    → sends + delivers + tick_one + recover_one + restart_one ≡ length (choices s)
counted s seats a b t r u same sends delivers ticks recovers restarts = rw (senders_are s.clients seats a same sends, delivers, ticks, recovers, restarts) (sym (length_choices s))

some_in : {X : Type 0} → (xs : List X) → is_empty xs ≡ false → 0 < length xs
some_in [] h = absurd cc
some_in (x ∷ xs) h = omega arith

not_empty : {X : Type 0} → (xs : List X) → 0 < length xs → is_empty xs ≡ false
not_empty [] h = absurd (omega arith)
not_empty (x ∷ xs) h = refl

-- where a message can be delivered there is a choice
pub some_choice : (s : State) → 0 < count_by (can_deliver s.running) s.bag → is_empty (choices s) ≡ false
some_choice s h = not_empty (choices s) (omega (arith, length_choices s, h))

-- a message that is not to the switch can be delivered
pub some_passes : (bag : List Message) (i : ℕ) → i < length bag → can_deliver false (get_or bag i nothing_sent) ≡ true → 0 < count_by (can_deliver false) bag
some_passes bag i less able =
    let there = delivery_is false bag i (count_by (can_deliver false) (take i bag)) nothing_sent less able refl in
    let below = within (deliver_choices false 0 bag) (count_by (can_deliver false) (take i bag)) (Deliver i) there in
    omega (arith, below, length_deliveries false bag)

keep : {A : Type 0} → (xs ys : List A) (k : ℕ) (a : A) → slice_get xs k ≡ Some a → slice_get (xs ++ ys) k ≡ Some a
keep [] ys k a h = absurd cc
keep (x ∷ xs) ys zero a h = h
keep (x ∷ xs) ys (suc k) a h = keep xs ys k a h

further : {A : Type 0} → (xs ys : List A) (n k : ℕ) (a : A) → length xs ≡ n → n ≤ k → slice_get ys (k - n) ≡ Some a → slice_get (xs ++ ys) k ≡ Some a
further [] ys n k a e h there = let z : k - n ≡ k = omega (arith, e) in rw z at there
further (x ∷ xs) ys n zero a e h there = absurd (let l : suc (length xs) ≡ n = e in omega arith)
further (x ∷ xs) ys n (suc k) a e h there =
    let l : suc (length xs) ≡ n = e in
    let z : suc k - n ≡ k - length xs = omega arith in
    further xs ys (length xs) k a refl (omega arith) (rw z at there)

pub send_there : (s : State) (k : ℕ) (e : Event) → slice_get (send_choices 0 s.clients) k ≡ Some e → e ≡ get_or (choices s) k Tick
send_there s k e there = sym (get_or_from (choices s) k e Tick (subst (λ (es : List Event). slice_get es k ≡ Some e) (sym (whole s)) (keep (firsts s) (lasts s) k e (keep (send_choices 0 s.clients) (deliver_choices s.running 0 s.bag) k e there))))

pub deliver_there : (s : State) (k n : ℕ) (e : Event) → n ≡ count_by can_send s.clients → n ≤ k → slice_get (deliver_choices s.running 0 s.bag) (k - n) ≡ Some e → e ≡ get_or (choices s) k Tick
deliver_there s k n e count after there =
    sym (get_or_from (choices s) k e Tick (subst (λ (es : List Event). slice_get es k ≡ Some e) (sym (whole s)) (keep (firsts s) (lasts s) k e (further (send_choices 0 s.clients) (deliver_choices s.running 0 s.bag) n k e (length_sends s.clients ∙ sym count) after there))))

pub late_there : (s : State) (k n m : ℕ) → n ≡ count_by can_send s.clients → m ≡ count_by (can_deliver s.running) s.bag → n + m ≤ k → get_or (lasts s) (k - n - m) Tick ≡ get_or (choices s) k Tick
late_there s k n m sends delivers after =
    let z : k - n - m ≡ k - (n + m) = omega arith in
    rw z (sym (ap (λ (es : List Event). get_or es k Tick) (whole s) ∙ last_there (firsts s) (lasts s) k (n + m) Tick (length_firsts s ∙ (ap (λ (x : ℕ). x + count_by (can_deliver s.running) s.bag) (sym sends) ∙ ap (λ (x : ℕ). n + x) (sym delivers))) after))

-- ---- where all is done

pub empty_is : {X : Type 0} → (xs : List X) → nat_eq (length xs) 0 ≡ is_empty xs
empty_is [] = refl
empty_is (x ∷ xs) = grind arith

pub done_are : (seats : List SeatView) → list_all is_done (clients_of seats) ≡ list_all seat_is_done seats
done_are seats = list_all-map is_done client_of seats

pub finished_is : (plan : PlanView) (s : State) (seats : List SeatView) (clients orders running messages controller : Bool) → s.clients ≡ clients_of seats → clients ≡ list_all seat_is_done seats → orders ≡ nat_eq s.done (length plan.orders) → running ≡ s.running → messages ≡ is_empty s.bag → controller ≡ is_idle s.controller
    → (clients && (orders && (running && (messages && controller)))) ≡ is_finished plan s
finished_is plan s seats a b r d e same clients orders running messages controller = rw (clients ∙ (sym (done_are seats) ∙ ap (list_all is_done) (sym same)), orders, running, messages, controller) refl

-- The choices of a state: how many there are, which is at a place, and that each can happen.
use Rattle.std.proofs.Common.{◌≡◌, ℕ, zero, suc, ◌+◌, ◌-◌, ◌<◌, ◌≤◌, ◌%◌, ◌⊎◌, inl, inr, Bool, true, false, not, ◌&&◌, List, [], ◌∷◌, ◌++◌, length, get_or, take, refl, sym, ap, ◌∙◌, subst, cond, Some, arith}
use Rattle.std.proofs.lemmas.List.{get_or-append_right}
use Rattle.std.proofs.lemmas.List.Sums.{sum_by-cons}
use Rattle.std.proofs.lemmas.Option.{same_Some}
use Rattle.std.specs.List.{count_by}
use Rattle.std.specs.Prelude.{slice_get, nat_eq, is_some}
use Rattle.far_base.specs.PlanView.{PlanView}
use Rattle.far_base.specs.declared.event.Event.{Event}
use Rattle.far_base.specs.declared.event.Event.TheVariants.{Send, Deliver, Tick, Recover, Restart, Order as OrderOf}
use Rattle.far_base.specs.declared.packet.Message.{Message}
use Rattle.far_model.proofs.Members.{among_append}
use Rattle.far_model.specs.Clients.{ClientState}
use Rattle.far_model.specs.Controller.{tick, ready}
use Rattle.far_model.specs.Events.{can_send, can_deliver, can_recover, choices, choice_if, deliver_choices, is_enabled, is_order_enabled, send_choices}
use Rattle.far_model.specs.Members.{Among, is_empty}
use Rattle.far_model.specs.Runs.{choice, is_quiet, next_event}
use Rattle.far_model.specs.State.{State, nobody}

-- the events of the elements that pass, from number c on
abbrev pub chosen_by : {X : Type 0} → (X → Bool) → (ℕ → Event) → ℕ → List X → List Event
chosen_by p f c [] = []
chosen_by p f c (x ∷ xs) = cond (p x) (f c ∷ chosen_by p f (suc c) xs) (chosen_by p f (suc c) xs)

pub sends_are : (c : ℕ) (xs : List ClientState) → send_choices c xs ≡ chosen_by can_send Send c xs
sends_are c [] = refl
sends_are c (x ∷ xs) = ap (λ (rest : List Event). cond (can_send x) (Send c ∷ rest) rest) (sends_are (suc c) xs)

pub deliveries_are : (running : Bool) (i : ℕ) (bag : List Message) → deliver_choices running i bag ≡ chosen_by (can_deliver running) Deliver i bag
deliveries_are running i [] = refl
deliveries_are running i (m ∷ bag) = ap (λ (rest : List Event). cond (can_deliver running m) (Deliver i ∷ rest) rest) (deliveries_are running (suc i) bag)

count_cons : {X : Type 0} → (p : X → Bool) (x : X) (xs : List X) → count_by p (x ∷ xs) ≡ cond {A = ℕ} (p x) 1 0 + count_by p xs
count_cons p x xs = sum_by-cons (λ y. cond {A = ℕ} (p y) 1 0) x xs

length_chosen : {X : Type 0} → (p : X → Bool) (f : ℕ → Event) (c : ℕ) (xs : List X) → length (chosen_by p f c xs) ≡ count_by p xs
length_chosen p f c [] = refl
length_chosen p f c (x ∷ xs) = go (length_chosen p f (suc c) xs) (p x) ∙ sym (count_cons p x xs)
  where
    go : length (chosen_by p f (suc c) xs) ≡ count_by p xs → (b : Bool) → length (cond b (f c ∷ chosen_by p f (suc c) xs) (chosen_by p f (suc c) xs)) ≡ cond {A = ℕ} b 1 0 + count_by p xs
    go h true = omega (arith, h)
    go h false = omega (arith, h)

chosen_is : {X : Type 0} → (p : X → Bool) (f : ℕ → Event) (c : ℕ) (xs : List X) (i : ℕ) (d : X) → i < length xs → p (get_or xs i d) ≡ true → slice_get (chosen_by p f c xs) (count_by p (take i xs)) ≡ Some (f (c + i))
chosen_is p f c [] i d h k = absurd (omega arith)
chosen_is p f c (x ∷ xs) zero d h k = let e : c + 0 ≡ c = omega arith in rw (k, e) refl
chosen_is p f c (x ∷ xs) (suc i) d h k = let e : c + suc i ≡ suc c + i = omega arith in rw (e, count_cons p x (take i xs)) (go (p x) (chosen_is p f (suc c) xs i d (omega arith) k))
  where
    go : (b : Bool) → slice_get (chosen_by p f (suc c) xs) (count_by p (take i xs)) ≡ Some (f (suc c + i))
        → slice_get (cond b (f c ∷ chosen_by p f (suc c) xs) (chosen_by p f (suc c) xs)) (cond {A = ℕ} b 1 0 + count_by p (take i xs)) ≡ Some (f (suc c + i))
    go true h = let e : 1 + count_by p (take i xs) ≡ suc (count_by p (take i xs)) = omega arith in rw e h
    go false h = let e : 0 + count_by p (take i xs) ≡ count_by p (take i xs) = omega arith in rw e h

-- each of them is that of an element that passes
record IsChosen {X : Type 0} (p : X → Bool) (f : ℕ → Event) (c : ℕ) (xs : List X) (e : Event) : Type 0 where
  pub place : ℕ
  pub item : X
  pub there : slice_get xs place ≡ Some item
  pub passes : p item ≡ true
  pub is : e ≡ f (c + place)

chosen_among : {X : Type 0} → (p : X → Bool) (f : ℕ → Event) (c : ℕ) (xs : List X) (e : Event) → Among e (chosen_by p f c xs) → IsChosen p f c xs e
chosen_among p f c [] e h = absurd h
chosen_among p f c (x ∷ xs) e h = go (p x) refl (chosen_among p f (suc c) xs e) h
  where
    here : p x ≡ true → e ≡ f c → IsChosen p f c (x ∷ xs) e
    here k is = record { place = 0; item = x; there = refl; passes = k; is = is ∙ ap f (omega arith) }

    further : IsChosen p f (suc c) xs e → IsChosen p f c (x ∷ xs) e
    further w = let sum : suc c + w.place ≡ c + suc w.place = omega arith in record { place = suc w.place; item = w.item; there = w.there; passes = w.passes; is = w.is ∙ ap f sum }

    go : (b : Bool) → p x ≡ b → (Among e (chosen_by p f (suc c) xs) → IsChosen p f (suc c) xs e) → Among e (cond b (f c ∷ chosen_by p f (suc c) xs) (chosen_by p f (suc c) xs)) → IsChosen p f c (x ∷ xs) e
    go true k more (inl is) = here k is
    go true k more (inr m) = further (more m)
    go false k more m = further (more m)

pub length_sends : (xs : List ClientState) → length (send_choices 0 xs) ≡ count_by can_send xs
length_sends xs = ap length (sends_are 0 xs) ∙ length_chosen can_send Send 0 xs

pub length_deliveries : (running : Bool) (bag : List Message) → length (deliver_choices running 0 bag) ≡ count_by (can_deliver running) bag
length_deliveries running bag = ap length (deliveries_are running 0 bag) ∙ length_chosen (can_deliver running) Deliver 0 bag

pub sender_is : (xs : List ClientState) (i place : ℕ) (d : ClientState) → i < length xs → can_send (get_or xs i d) ≡ true → place ≡ count_by can_send (take i xs)
    → slice_get (send_choices 0 xs) place ≡ Some (Send i)
sender_is xs i place d h k e = let z : 0 + i ≡ i = omega arith in rw (e, sends_are 0 xs) (chosen_is can_send Send 0 xs i d h k ∙ ap (λ (n : ℕ). Some (Send n)) z)

pub delivery_is : (running : Bool) (bag : List Message) (i place : ℕ) (d : Message) → i < length bag → can_deliver running (get_or bag i d) ≡ true → place ≡ count_by (can_deliver running) (take i bag)
    → slice_get (deliver_choices running 0 bag) place ≡ Some (Deliver i)
delivery_is running bag i place d h k e = let z : 0 + i ≡ i = omega arith in rw (e, deliveries_are running 0 bag) (chosen_is (can_deliver running) Deliver 0 bag i d h k ∙ ap (λ (n : ℕ). Some (Deliver n)) z)

-- ---- which is at a place

pub first_there : {A : Type 0} → (xs ys : List A) (k : ℕ) (a d : A) → slice_get xs k ≡ Some a → get_or (xs ++ ys) k d ≡ a
first_there [] ys k a d h = absurd cc
first_there (x ∷ xs) ys zero a d h = same_Some _ _ h
first_there (x ∷ xs) ys (suc k) a d h = first_there xs ys k a d h

pub last_there : {A : Type 0} → (xs ys : List A) (k n : ℕ) (d : A) → length xs ≡ n → n ≤ k → get_or (xs ++ ys) k d ≡ get_or ys (k - n) d
last_there xs ys k n d e h = get_or-append_right xs ys n k d e h

-- ---- each can happen

choice_if_is : (b : Bool) (e own : Event) → Among e (choice_if b own) → (b ≡ true) × (e ≡ own)
choice_if_is true e own (inl is) = (refl, is)
choice_if_is true e own (inr h) = absurd h
choice_if_is false e own h = absurd h

at_from : {A : Type 0} → (xs : List A) (i : ℕ) (a d : A) → slice_get xs i ≡ Some a → get_or xs i d ≡ a
at_from [] i a d h = absurd cc
at_from (x ∷ xs) zero a d h = same_Some _ _ h
at_from (x ∷ xs) (suc i) a d h = at_from xs i a d h

pub choice_enabled : (plan : PlanView) (s : State) (e : Event) → Among e (choices s) → is_enabled plan s e ≡ true
choice_enabled plan s e h = first (among_append e (send_choices 0 s.clients ++ deliver_choices s.running 0 s.bag ++ choice_if (is_some (tick s.controller)) Tick ++ choice_if (can_recover s) Recover) (choice_if (is_some (ready s.controller)) Restart) h)
  where
    sends : Among e (send_choices 0 s.clients) → is_enabled plan s e ≡ true
    sends m = let w = chosen_among can_send Send 0 s.clients e (subst (λ (es : List Event). Among e es) (sends_are 0 s.clients) m) in
        let z : 0 + w.place ≡ w.place = omega arith in
        rw (w.is, z, at_from s.clients w.place w.item nobody w.there) w.passes

    delivers : Among e (deliver_choices s.running 0 s.bag) → is_enabled plan s e ≡ true
    delivers m = let w = chosen_among (can_deliver s.running) Deliver 0 s.bag e (subst (λ (es : List Event). Among e es) (deliveries_are s.running 0 s.bag) m) in
        let z : 0 + w.place ≡ w.place = omega arith in
        rw (w.is, z, w.there) w.passes

    fourth : Among e (send_choices 0 s.clients) ⊎ Among e (deliver_choices s.running 0 s.bag) → is_enabled plan s e ≡ true
    fourth (inl m) = sends m
    fourth (inr m) = delivers m

    third : Among e (send_choices 0 s.clients ++ deliver_choices s.running 0 s.bag) ⊎ Among e (choice_if (is_some (tick s.controller)) Tick) → is_enabled plan s e ≡ true
    third (inl m) = fourth (among_append e (send_choices 0 s.clients) (deliver_choices s.running 0 s.bag) m)
    third (inr m) = let w = choice_if_is (is_some (tick s.controller)) e Tick m in rw w.1 w.0

    second : Among e (send_choices 0 s.clients ++ deliver_choices s.running 0 s.bag ++ choice_if (is_some (tick s.controller)) Tick) ⊎ Among e (choice_if (can_recover s) Recover) → is_enabled plan s e ≡ true
    second (inl m) = third (among_append e (send_choices 0 s.clients ++ deliver_choices s.running 0 s.bag) (choice_if (is_some (tick s.controller)) Tick) m)
    second (inr m) = let w = choice_if_is (can_recover s) e Recover m in rw w.1 w.0

    first : Among e (send_choices 0 s.clients ++ deliver_choices s.running 0 s.bag ++ choice_if (is_some (tick s.controller)) Tick ++ choice_if (can_recover s) Recover) ⊎ Among e (choice_if (is_some (ready s.controller)) Restart) → is_enabled plan s e ≡ true
    first (inl m) = second (among_append e (send_choices 0 s.clients ++ deliver_choices s.running 0 s.bag ++ choice_if (is_some (tick s.controller)) Tick) (choice_if (can_recover s) Recover) m)
    first (inr m) = let w = choice_if_is (is_some (ready s.controller)) e Restart m in rw w.1 w.0

among_get : {A : Type 0} → (xs : List A) (i : ℕ) (d : A) → i < length xs → Among (get_or xs i d) xs
among_get [] i d h = absurd (omega arith)
among_get (x ∷ xs) zero d h = inl refl
among_get (x ∷ xs) (suc i) d h = inr (among_get xs i d (omega arith))

some_left : (es : List Event) → is_empty es ≡ false → 0 < length es
some_left [] h = absurd cc
some_left (e ∷ es) h = omega arith

order_enabled : (plan : PlanView) (s : State) → is_order_enabled plan s ≡ true → is_enabled plan s (OrderOf s.done) ≡ true
order_enabled plan s h = let e : nat_eq s.done s.done ≡ true = grind arith in rw (e, h) refl

-- the next event of a state that is not quiet can happen
pub next_enabled : (plan : PlanView) (s : State) (pick : ℕ) → is_quiet plan s ≡ false → is_enabled plan s (next_event plan s pick) ≡ true
next_enabled plan s pick busy = go (is_order_enabled plan s) refl (is_empty (choices s)) refl busy
  where
    go : (order : Bool) → is_order_enabled plan s ≡ order → (none : Bool) → is_empty (choices s) ≡ none → (not order && none) ≡ false → is_enabled plan s (cond order (OrderOf s.done) (choice s pick)) ≡ true
    go true h none k q = order_enabled plan s h
    go false h true k q = absurd cc
    go false h false k q = let some = some_left (choices s) k in
        choice_enabled plan s (choice s pick) (among_get (choices s) (pick % length (choices s)) Tick (omega arith))

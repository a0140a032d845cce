-- The first choice of each party is the first of its choices.
use Rattle.std.proofs.Common.{◌≡◌, ℕ, zero, suc, ◌+◌, ◌<◌, Bool, true, false, not, ◌&&◌, ◌||◌, List, [], ◌∷◌, ◌++◌, map, refl, sym, ap, ◌∙◌, subst, cond, Some, None, arith, eqb-true, nat_eq}
use Rattle.std.specs.List.{filter}
use Rattle.std.specs.Prelude.{Option, is_some, slice_get, slice_index_or}
use Rattle.far_base.specs.declared.event.Event.{Event}
use Rattle.far_base.specs.declared.event.Event.TheVariants.{Send, Deliver, Tick, Recover, Restart}
use Rattle.far_base.specs.declared.packet.Message.{Message}
use Rattle.far_base.specs.declared.party.Party.{Party}
use Rattle.far_base.specs.declared.party.Party.TheVariants.{Client, Switch, Server, Controller}
use Rattle.far_model.specs.Choosing.{addressee, choices_of, event_party, first_of, same_party}
use Rattle.far_model.specs.Clients.{ClientState}
use Rattle.far_model.specs.Controller.{ready, tick}
use Rattle.far_model.specs.Events.{can_deliver, can_recover, can_send, choice_if, choices, deliver_choices, is_switch, send_choices}
use Rattle.far_model.specs.State.{State, client_at, nobody}
use Rattle.far_world.proofs.FirstEvents.{filter_cons}
use Rattle.far_world.specs.Firsts.{delivery_of, delivery_to, first_choice_of, oldest_to, or_else, some_if}
use Rattle.far_world.specs.RoomyBag.{message_of}
use Rattle.wire_bag.specs.Addressees as bytes
use Rattle.wire_bag.specs.Addressees.{first_by}
use Rattle.wire_bag.specs.BagView.{is_same}

-- ---- the first of a list that is joined

or_none : (o : Option Event) → or_else o None ≡ o
or_none None = refl
or_none (Some e) = refl

or_joins : (a b c : Option Event) → or_else (or_else a b) c ≡ or_else a (or_else b c)
or_joins None b c = refl
or_joins (Some e) b c = refl

first_joined : (p : Event → Bool) (xs ys : List Event) → first_of (filter p (xs ++ ys)) ≡ or_else (first_of (filter p xs)) (first_of (filter p ys))
first_joined p [] ys = refl
first_joined p (x ∷ xs) ys = rw (filter_cons p x (xs ++ ys), filter_cons p x xs) (go (p x) (first_joined p xs ys))
  where
    go : (b : Bool) → first_of (filter p (xs ++ ys)) ≡ or_else (first_of (filter p xs)) (first_of (filter p ys))
        → first_of (cond b (x ∷ filter p (xs ++ ys)) (filter p (xs ++ ys))) ≡ or_else (first_of (cond b (x ∷ filter p xs) (filter p xs))) (first_of (filter p ys))
    go true h = refl
    go false h = h

first_if : (p : Event → Bool) (b : Bool) (e : Event) → p e ≡ true → first_of (filter p (choice_if b e)) ≡ some_if b e
first_if p true e h = rw (filter_cons p e [], h) refl
first_if p false e h = refl

none_if : (p : Event → Bool) (b : Bool) (e : Event) → p e ≡ false → first_of (filter p (choice_if b e)) ≡ None
none_if p true e h = rw (filter_cons p e [], h) refl
none_if p false e h = refl

-- ---- what clients send

no_sends : (p : Event → Bool) (c : ℕ) (xs : List ClientState) → ((n : ℕ) → p (Send (c + n)) ≡ false) → first_of (filter p (send_choices c xs)) ≡ None
no_sends p c [] h = refl
no_sends p c (x ∷ xs) h = go (can_send x) (no_sends p (suc c) xs (λ n. let e : suc c + n ≡ c + suc n = omega arith in ap (λ (k : ℕ). p (Send k)) e ∙ h (suc n)))
  where
    go : (b : Bool) → first_of (filter p (send_choices (suc c) xs)) ≡ None → first_of (filter p (cond b (Send c ∷ send_choices (suc c) xs) (send_choices (suc c) xs))) ≡ None
    go true k = let z : c ≡ c + 0 = omega arith in let e : p (Send c) ≡ false = ap (λ (n : ℕ). p (Send n)) z ∙ h 0 in rw (filter_cons p (Send c) (send_choices (suc c) xs), e) k
    go false k = k

not_equal : (a b : ℕ) → (a ≡ b → ⊥) → nat_eq a b ≡ false
not_equal a b ne = go (nat_eq a b) refl
  where
    go : (t : Bool) → nat_eq a b ≡ t → nat_eq a b ≡ false
    go true e = absurd (ne (eqb-true a b e))
    go false e = e

sends_of : (p : Event → Bool) (own : ℕ) → ((n : ℕ) → p (Send n) ≡ nat_eq n own) → (c k : ℕ) (xs : List ClientState) → c + k ≡ own
    → first_of (filter p (send_choices c xs)) ≡ some_if (can_send (slice_index_or xs k nobody)) (Send own)
sends_of p own is c zero [] e = refl
sends_of p own is c (suc k) [] e = refl
sends_of p own is c zero (x ∷ xs) e = go (can_send x)
  where
    same : nat_eq c own ≡ true
    same = let q : c ≡ own = omega (arith, e) in rw q (grind arith)

    later : first_of (filter p (send_choices (suc c) xs)) ≡ None
    later = no_sends p (suc c) xs (λ n. is (suc c + n) ∙ not_equal (suc c + n) own (λ q. absurd (omega (arith, e, q))))

    go : (b : Bool) → first_of (filter p (cond b (Send c ∷ send_choices (suc c) xs) (send_choices (suc c) xs))) ≡ some_if b (Send own)
    go true = let z : c ≡ own = omega (arith, e) in rw (filter_cons p (Send c) (send_choices (suc c) xs), is c, same) (ap (λ (n : ℕ). Some (Send n)) z)
    go false = later
sends_of p own is c (suc k) (x ∷ xs) e = go (can_send x) (sends_of p own is (suc c) k xs (omega (arith, e)))
  where
    other : nat_eq c own ≡ false
    other = not_equal c own (λ q. absurd (omega (arith, e, q)))

    go : (b : Bool) → first_of (filter p (send_choices (suc c) xs)) ≡ some_if (can_send (slice_index_or xs k nobody)) (Send own)
        → first_of (filter p (cond b (Send c ∷ send_choices (suc c) xs) (send_choices (suc c) xs))) ≡ some_if (can_send (slice_index_or xs k nobody)) (Send own)
    go true h = rw (filter_cons p (Send c) (send_choices (suc c) xs), is c, other) h
    go false h = h

-- ---- deliveries

module _ (s : State) (who : Party) where
  -- whether it is an event of the party
  abbrev own : Event → Bool
  own e = same_party (event_party s e) who

  deliveries_of : (i : ℕ) (ms : List Message) → ((j : ℕ) → slice_get s.bag (i + j) ≡ slice_get ms j) → ((m : Message) → same_party m.to who ≡ true → can_deliver s.running m ≡ true)
      → first_of (filter own (deliver_choices s.running i ms)) ≡ delivery_of (first_by (λ (m : Message). same_party m.to who) i ms)
  deliveries_of i [] at can = refl
  deliveries_of i (m ∷ ms) at can = go (can_deliver s.running m) refl (same_party m.to who) refl (deliveries_of (suc i) ms later can)
    where
      later : (j : ℕ) → slice_get s.bag (suc i + j) ≡ slice_get ms j
      later j = let e : suc i + j ≡ i + suc j = omega arith in ap (λ (n : ℕ). slice_get s.bag n) e ∙ at (suc j)

      its : own (Deliver i) ≡ same_party m.to who
      its = let z : i ≡ i + 0 = omega arith in ap (λ (o : Option Message). same_party (addressee o) who) (ap (λ (n : ℕ). slice_get s.bag n) z ∙ at 0)

      go : (b : Bool) → can_deliver s.running m ≡ b → (t : Bool) → same_party m.to who ≡ t
          → first_of (filter own (deliver_choices s.running (suc i) ms)) ≡ delivery_of (first_by (λ (m : Message). same_party m.to who) (suc i) ms)
          → first_of (filter own (cond b (Deliver i ∷ deliver_choices s.running (suc i) ms) (deliver_choices s.running (suc i) ms)))
          ≡ delivery_of (cond t (Some i) (first_by (λ (m : Message). same_party m.to who) (suc i) ms))
      go true able true same h = rw (filter_cons own (Deliver i) (deliver_choices s.running (suc i) ms), its, same) refl
      go true able false other h = rw (filter_cons own (Deliver i) (deliver_choices s.running (suc i) ms), its, other) h
      go false able true same h = absurd (no (sym able ∙ can m same))
        where
          no : false ≡ true → ⊥
          no q = cc
      go false able false other h = h

  from_all : ((m : Message) → same_party m.to who ≡ true → can_deliver s.running m ≡ true) → first_of (filter own (deliver_choices s.running 0 s.bag)) ≡ delivery_to s who
  from_all can = deliveries_of 0 s.bag (λ j. let z : 0 + j ≡ j = omega arith in ap (λ (n : ℕ). slice_get s.bag n) z) can

  -- nothing is delivered to a stopped switch
  none_delivered : (i : ℕ) (ms : List Message) → ((j : ℕ) → slice_get s.bag (i + j) ≡ slice_get ms j) → ((m : Message) → can_deliver s.running m ≡ true → same_party m.to who ≡ false)
      → first_of (filter own (deliver_choices s.running i ms)) ≡ None
  none_delivered i [] at not = refl
  none_delivered i (m ∷ ms) at not = go (can_deliver s.running m) refl (none_delivered (suc i) ms later not)
    where
      later : (j : ℕ) → slice_get s.bag (suc i + j) ≡ slice_get ms j
      later j = let e : suc i + j ≡ i + suc j = omega arith in ap (λ (n : ℕ). slice_get s.bag n) e ∙ at (suc j)

      its : own (Deliver i) ≡ same_party m.to who
      its = let z : i ≡ i + 0 = omega arith in ap (λ (o : Option Message). same_party (addressee o) who) (ap (λ (n : ℕ). slice_get s.bag n) z ∙ at 0)

      go : (b : Bool) → can_deliver s.running m ≡ b → first_of (filter own (deliver_choices s.running (suc i) ms)) ≡ None
          → first_of (filter own (cond b (Deliver i ∷ deliver_choices s.running (suc i) ms) (deliver_choices s.running (suc i) ms))) ≡ None
      go true able h = rw (filter_cons own (Deliver i) (deliver_choices s.running (suc i) ms), its, not m able) h
      go false able h = h

  -- ---- all choices

  abbrev send : Option Event
  send = first_of (filter own (send_choices 0 s.clients))

  abbrev deliver : Option Event
  deliver = first_of (filter own (deliver_choices s.running 0 s.bag))

  abbrev ticks : Option Event
  ticks = first_of (filter own (choice_if (is_some (tick s.controller)) Tick))

  abbrev recovers : Option Event
  recovers = first_of (filter own (choice_if (can_recover s) Recover))

  abbrev restarts : Option Event
  restarts = first_of (filter own (choice_if (is_some (ready s.controller)) Restart))

  in_parts : first_of (choices_of s who) ≡ or_else send (or_else deliver (or_else ticks (or_else recovers restarts)))
  in_parts =
      let a = send_choices 0 s.clients in
      let b = deliver_choices s.running 0 s.bag in
      let c = choice_if (is_some (tick s.controller)) Tick in
      let d = choice_if (can_recover s) Recover in
      let e = choice_if (is_some (ready s.controller)) Restart in
      first_joined own (a ++ b ++ c ++ d) e
      ∙ (ap (λ (o : Option Event). or_else o restarts) (first_joined own (a ++ b ++ c) d ∙ ap (λ (o : Option Event). or_else o recovers) (first_joined own (a ++ b) c ∙ ap (λ (o : Option Event). or_else o ticks) (first_joined own a b)))
      ∙ (or_joins (or_else (or_else send deliver) ticks) recovers restarts
      ∙ (or_joins (or_else send deliver) ticks (or_else recovers restarts)
      ∙ or_joins send deliver (or_else ticks (or_else recovers restarts)))))

  joined : (a b c d e : Option Event) → send ≡ a → deliver ≡ b → ticks ≡ c → recovers ≡ d → restarts ≡ e → first_of (choices_of s who) ≡ or_else a (or_else b (or_else c (or_else d e)))
  joined a b c d e p q r t u = rw (in_parts, p, q, r, t, u) refl

to_others : (running : Bool) (m : Message) (who : Party) → same_party Switch who ≡ false → same_party m.to who ≡ true → can_deliver running m ≡ true
to_others running m who other = go m.to who other
  where
    either : (b : Bool) → (b || true) ≡ true
    either true = refl
    either false = refl

    go : (to who : Party) → same_party Switch who ≡ false → same_party to who ≡ true → (running || not (is_switch to)) ≡ true
    go Switch who other same = absurd cc
    go (Client a) who other same = either running
    go (Server a) who other same = either running
    go Controller who other same = either running

pub first_is : (s : State) (who : Party) → first_of (choices_of s who) ≡ first_choice_of s who
first_is s (Client c) =
    joined s (Client c) (some_if (can_send (client_at s c)) (Send c)) (delivery_to s (Client c)) None None None
    (sends_of (own s (Client c)) c (λ n. refl) 0 c s.clients (omega arith))
    (from_all s (Client c) (λ m same. to_others s.running m (Client c) refl same))
    (none_if (own s (Client c)) (is_some (tick s.controller)) Tick refl) (none_if (own s (Client c)) (can_recover s) Recover refl) (none_if (own s (Client c)) (is_some (ready s.controller)) Restart refl)
    ∙ ap (λ (o : Option Event). or_else (some_if (can_send (client_at s c)) (Send c)) o) (or_none (delivery_to s (Client c)))
first_is s (Server n) =
    joined s (Server n) None (delivery_to s (Server n)) None None None
    (no_sends (own s (Server n)) 0 s.clients (λ k. refl))
    (from_all s (Server n) (λ m same. to_others s.running m (Server n) refl same))
    (none_if (own s (Server n)) (is_some (tick s.controller)) Tick refl) (none_if (own s (Server n)) (can_recover s) Recover refl) (none_if (own s (Server n)) (is_some (ready s.controller)) Restart refl)
    ∙ or_none (delivery_to s (Server n))
first_is s Controller =
    joined s Controller None (delivery_to s Controller) (some_if (is_some (tick s.controller)) Tick) (some_if (can_recover s) Recover) (some_if (is_some (ready s.controller)) Restart)
    (no_sends (own s Controller) 0 s.clients (λ k. refl))
    (from_all s Controller (λ m same. to_others s.running m Controller refl same))
    (first_if (own s Controller) (is_some (tick s.controller)) Tick refl) (first_if (own s Controller) (can_recover s) Recover refl) (first_if (own s Controller) (is_some (ready s.controller)) Restart refl)
first_is s Switch = go s.running refl
  where
    apart : (running : Bool) (m : Message) → running ≡ false → can_deliver running m ≡ true → same_party m.to Switch ≡ false
    apart running m stopped able = by m.to (subst (λ (b : Bool). (b || not (is_switch m.to)) ≡ true) stopped able)
      where
        by : (to : Party) → not (is_switch to) ≡ true → same_party to Switch ≡ false
        by Switch k = absurd cc
        by (Client a) k = refl
        by (Server a) k = refl
        by Controller k = refl

    able : (running : Bool) (m : Message) → running ≡ true → can_deliver running m ≡ true
    able running m e = rw e refl

    go : (b : Bool) → s.running ≡ b → first_of (choices_of s Switch) ≡ cond b (delivery_to s Switch) None
    go true e =
        joined s Switch None (delivery_to s Switch) None None None
        (no_sends (own s Switch) 0 s.clients (λ k. refl))
        (from_all s Switch (λ m same. able s.running m e))
        (none_if (own s Switch) (is_some (tick s.controller)) Tick refl) (none_if (own s Switch) (can_recover s) Recover refl) (none_if (own s Switch) (is_some (ready s.controller)) Restart refl)
        ∙ or_none (delivery_to s Switch)
    go false e =
        joined s Switch None None None None None
        (no_sends (own s Switch) 0 s.clients (λ k. refl))
        (none_delivered s Switch 0 s.bag (λ j. let z : 0 + j ≡ j = omega arith in ap (λ (n : ℕ). slice_get s.bag n) z) (λ m able. apart s.running m e able))
        (none_if (own s Switch) (is_some (tick s.controller)) Tick refl) (none_if (own s Switch) (can_recover s) Recover refl) (none_if (own s Switch) (is_some (ready s.controller)) Restart refl)

-- ---- the bag's messages in bytes

one_party : (a b : Party) → is_same a b ≡ same_party a b
one_party (Client a) (Client b) = refl
one_party (Server a) (Server b) = refl
one_party Switch Switch = refl
one_party Controller Controller = refl
one_party (Client a) Switch = refl
one_party (Client a) (Server b) = refl
one_party (Client a) Controller = refl
one_party Switch (Client b) = refl
one_party Switch (Server b) = refl
one_party Switch Controller = refl
one_party (Server a) (Client b) = refl
one_party (Server a) Switch = refl
one_party (Server a) Controller = refl
one_party Controller (Client b) = refl
one_party Controller Switch = refl
one_party Controller (Server b) = refl

pub oldest_is : (who : Party) (wires : List (Party × Party × List ℕ)) → bytes.oldest_to who wires ≡ oldest_to who (map message_of wires)
oldest_is who wires = from_place 0 wires
  where
    from_place : (i : ℕ) (wires : List (Party × Party × List ℕ)) → first_by (bytes.is_to who) i wires ≡ first_by (λ (m : Message). same_party m.to who) i (map message_of wires)
    from_place i [] = refl
    from_place i (w ∷ ws) = rw (one_party w.1 who, from_place (suc i) ws) refl

-- What an event makes of all parties, from what each party's turn makes of them.
use Rattle.std.proofs.Common.{◌≡◌, ℕ, zero, suc, ◌+◌, ◌<◌, ◌≤◌, max, Bool, cond, List, [], ◌∷◌, ◌++◌, length, refl, sym, ap, ◌∙◌, subst, Some, None, arith, length-append}
use Rattle.std.proofs.lemmas.List.Sums.{sum_by-cons}
use Rattle.std.specs.List.{count_by, remove}
use Rattle.std.specs.Option.{option_map}
use Rattle.std.specs.Prelude.{IfSome, Option, is_some, slice_get, slice_set}
use Rattle.far_base.specs.Limits.{IsPlan, is_slot_order, is_snap, is_stop}
use Rattle.far_base.specs.PlanView.{PlanView}
use Rattle.far_base.specs.declared.event.Event.{Event}
use Rattle.far_base.specs.declared.event.Event.TheVariants.{Send, Deliver, Tick, Recover, Restart, Order as OrderOf}
use Rattle.far_base.specs.declared.packet.Message.{Message}
use Rattle.far_base.specs.declared.packet.Packet.{Packet}
use Rattle.far_base.specs.declared.packet.Packet.TheVariants.{GetFwd, WriteFwd, GetRep, WriteRep, Store, TopAsk, TopIs}
use Rattle.far_base.specs.declared.party.Party.{Party}
use Rattle.far_base.specs.declared.party.Party.TheVariants.{Client, Switch, Server, Controller}
use Rattle.far_base.specs.declared.plan.Order.{Order}
use Rattle.far_base.specs.declared.plan.Order.TheVariants.{Admit, Evict, Snap, Stop, StopAt}
use Rattle.far_base.specs.declared.plan.TheConstants.{ORDER_LIMIT, SNAP_LIMIT, STOP_LIMIT}
use Rattle.far_base.specs.declared.record.Record.{Record}
use Rattle.far_invariants.specs.Addressed.{ComesToServer}
use Rattle.far_model.specs.Clients.{client_takes}
use Rattle.far_model.specs.Controller.{ControllerState, controller_takes, ready, tick}
use Rattle.far_model.specs.Events.{Keeping, all_listed, does_order, handled, happens, happens_with, keeping_of, reply_message, restarts, ticks}
use Rattle.far_model.specs.Parties.{Turn, messages_from}
use Rattle.far_model.specs.Pass.{pass, passed_out}
use Rattle.far_model.specs.Replies.{KeepersAnswer, ceiling_after}
use Rattle.far_model.specs.Servers.{put_number, reply_number, server_keeps, server_reply}
use Rattle.far_model.specs.State.{State, client_at, records_at}
use Rattle.far_outside.specs.Keeping.{records_of}
use Rattle.far_world.specs.Happening.{IsCalm, IsForOthers}
use Rattle.far_world.specs.Standing.{unasked}
use Rattle.far_world.specs.Scene.{Scene, Tells, told_by}
use Rattle.far_world.specs.Serving.{IsRestarted, IsServed}
use Rattle.far_world.specs.Steps.{IsAfter}
use Rattle.server_keeper.specs.Step.{IsForServer, after_packet, number_in, number_of_reply}

-- ---- a message is taken out once it was handled

pub place_within : {A : Type 0} → (xs : List A) (i : ℕ) (a : A) → slice_get xs i ≡ Some a → i < length xs
place_within [] i a h = absurd cc
place_within (x ∷ xs) zero a h = omega arith
place_within (x ∷ xs) (suc i) a h = let less = place_within xs i a h in omega (arith, less)

remove_front : {A : Type 0} → (xs ys : List A) (i : ℕ) → i < length xs → remove (xs ++ ys) i ≡ remove xs i ++ ys
remove_front [] ys i h = absurd (omega arith)
remove_front (x ∷ xs) ys zero h = refl
remove_front (x ∷ xs) ys (suc i) h = ap (λ zs. x ∷ zs) (remove_front xs ys i (omega arith))

-- what a party sends
sent_by : PlanView → Keeping → State → Party → Packet → List Message
sent_by plan k s (Client c) packet = messages_from (Client c) (client_takes plan.ops c (client_at s c) packet).out
sent_by plan k s Switch packet = messages_from Switch (passed_out (pass s.switch packet))
sent_by plan k s (Server n) packet = reply_message n k.reply
sent_by plan k s Controller packet = messages_from Controller (controller_takes plan.config s.controller packet).out

module _ (plan : PlanView) (k : Keeping) (s : State) where
  handled_bag : (rest : List Message) (to : Party) (packet : Packet) → (handled plan k s rest to packet).bag ≡ rest ++ sent_by plan k s to packet
  unfolding sent_by
  handled_bag rest (Client c) packet = refl
  handled_bag rest Switch packet = refl
  handled_bag rest (Server n) packet = refl
  handled_bag rest Controller packet = refl

  handled_rest : (rest : List Message) (to : Party) (packet : Packet) → record (handled plan k s s.bag to packet) { bag = rest ++ sent_by plan k s to packet } ≡ handled plan k s rest to packet
  unfolding sent_by
  handled_rest rest (Client c) packet = refl
  handled_rest rest Switch packet = refl
  handled_rest rest (Server n) packet = refl
  handled_rest rest Controller packet = refl

  pub still_there : (place : ℕ) (m : Message) (to : Party) (packet : Packet) → slice_get s.bag place ≡ Some m → place < length (handled plan k s s.bag to packet).bag
  still_there place m to packet there = let less = place_within s.bag place m there in
      omega (arith, less, ap length (handled_bag s.bag to packet), length-append s.bag (sent_by plan k s to packet))

  pub taken_out : (place : ℕ) (from to : Party) (packet : Packet) → slice_get s.bag place ≡ Some (record { from = from; to = to; packet = packet })
      → record (handled plan k s s.bag to packet) { bag = remove (handled plan k s s.bag to packet).bag place } ≡ happens_with plan k s (Deliver place)
  taken_out place from to packet there =
      let less = place_within s.bag place (record { from = from; to = to; packet = packet }) there in
      rw there (ap (λ (bag : List Message). record (handled plan k s s.bag to packet) { bag = bag }) (ap (λ (bag : List Message). remove bag place) (handled_bag s.bag to packet) ∙ remove_front s.bag (sent_by plan k s to packet) place less)
      ∙ handled_rest (remove s.bag place) to packet)

-- ---- events in which no keeper is asked

module _ (plan : PlanView) (s : State) where
  ticks_servers : (t : Option (Turn ControllerState)) → (ticks s t).servers ≡ s.servers
  ticks_servers None = refl
  ticks_servers (Some t) = refl

  order_servers : (order : Option Order) → (does_order plan s order).servers ≡ s.servers
  order_servers None = refl
  order_servers (Some (Admit step key)) = refl
  order_servers (Some (Evict step key)) = refl
  order_servers (Some (Snap step)) = refl
  order_servers (Some (Stop step)) = refl
  order_servers (Some (StopAt kind times)) = refl

  calm_servers : (e : Event) → IsCalm e → (happens_with plan unasked s e).servers ≡ s.servers
  calm_servers (Send c) h = refl
  calm_servers (Deliver i) h = absurd h
  calm_servers Tick h = ticks_servers (tick s.controller)
  calm_servers Recover h = refl
  calm_servers Restart h = absurd h
  calm_servers (OrderOf j) h = order_servers (slice_get plan.orders j)

  calm_same : (k : Keeping) (e : Event) → IsCalm e → happens_with plan unasked s e ≡ happens_with plan k s e
  calm_same k (Send c) h = refl
  calm_same k (Deliver i) h = absurd h
  calm_same k Tick h = refl
  calm_same k Recover h = refl
  calm_same k Restart h = absurd h
  calm_same k (OrderOf j) h = refl

  calm_answers : (ceiling : ℕ) (e : Event) → IsCalm e → KeepersAnswer ceiling s e unasked
  calm_answers ceiling (Send c) h = record { kind = tt; within = tt }
  calm_answers ceiling (Deliver i) h = absurd h
  calm_answers ceiling Tick h = record { kind = tt; within = tt }
  calm_answers ceiling Recover h = record { kind = tt; within = tt }
  calm_answers ceiling Restart h = absurd h
  calm_answers ceiling (OrderOf j) h = record { kind = tt; within = tt }

  calm_ceiling : (ceiling : ℕ) (e : Event) → IsCalm e → ceiling_after s e ceiling ≡ ceiling
  calm_ceiling ceiling (Send c) h = refl
  calm_ceiling ceiling (Deliver i) h = absurd h
  calm_ceiling ceiling Tick h = refl
  calm_ceiling ceiling Recover h = refl
  calm_ceiling ceiling Restart h = absurd h
  calm_ceiling ceiling (OrderOf j) h = refl

  module _ (place : ℕ) (from : Party) (packet : Packet) where
    others_servers : (to : Party) → IsForOthers to → slice_get s.bag place ≡ Some (record { from = from; to = to; packet = packet }) → (happens_with plan unasked s (Deliver place)).servers ≡ s.servers
    others_servers (Client c) h there = rw there refl
    others_servers Switch h there = rw there refl
    others_servers (Server n) h there = absurd h
    others_servers Controller h there = rw there refl

    others_same : (k : Keeping) (to : Party) → IsForOthers to → slice_get s.bag place ≡ Some (record { from = from; to = to; packet = packet }) → happens_with plan unasked s (Deliver place) ≡ happens_with plan k s (Deliver place)
    others_same k (Client c) h there = rw there refl
    others_same k Switch h there = rw there refl
    others_same k (Server n) h there = absurd h
    others_same k Controller h there = rw there refl

    others_answers : (ceiling : ℕ) (to : Party) → IsForOthers to → slice_get s.bag place ≡ Some (record { from = from; to = to; packet = packet }) → KeepersAnswer ceiling s (Deliver place) unasked
    others_answers ceiling (Client c) h there = record { kind = rw there tt; within = rw there tt }
    others_answers ceiling Switch h there = record { kind = rw there tt; within = rw there tt }
    others_answers ceiling (Server n) h there = absurd h
    others_answers ceiling Controller h there = record { kind = rw there tt; within = rw there tt }

    others_ceiling : (ceiling : ℕ) (to : Party) → IsForOthers to → slice_get s.bag place ≡ Some (record { from = from; to = to; packet = packet }) → ceiling_after s (Deliver place) ceiling ≡ ceiling
    others_ceiling ceiling (Client c) h there = rw there refl
    others_ceiling ceiling Switch h there = rw there refl
    others_ceiling ceiling (Server n) h there = absurd h
    others_ceiling ceiling Controller h there = rw there refl

unasked_after : (old new : Scene) (e : Event) → new ≡ record old { state = happens_with old.plan unasked old.state e } → old.state.servers ≡ told_by old.plan.config.servers old.keeper.records
    → KeepersAnswer old.keeper.ceiling old.state e unasked → (happens_with old.plan unasked old.state e).servers ≡ old.state.servers
    → happens_with old.plan unasked old.state e ≡ happens old.plan old.state e → ceiling_after old.state e old.keeper.ceiling ≡ old.keeper.ceiling → IsAfter old e new
unasked_after old new e is shown answers servers same ceiling = rw is (record {
  plan = refl;
  keeping = unasked;
  answers = answers;
  state = refl;
  told = λ tells. same;
  tells = refl;
  records = servers ∙ shown;
  servers = refl;
  ceiling = sym ceiling;
  later = omega arith;
})

pub calm_after : (old new : Scene) (e : Event) → IsCalm e → new ≡ record old { state = happens_with old.plan unasked old.state e } → old.state.servers ≡ told_by old.plan.config.servers old.keeper.records → IsAfter old e new
calm_after old new e calm is shown = unasked_after old new e is shown (calm_answers old.plan old.state old.keeper.ceiling e calm) (calm_servers old.plan old.state e calm) (calm_same old.plan old.state (keeping_of old.state e) e calm) (calm_ceiling old.plan old.state old.keeper.ceiling e calm)

pub others_after : (old new : Scene) (place : ℕ) (from to : Party) (packet : Packet) → IsForOthers to → slice_get old.state.bag place ≡ Some (record { from = from; to = to; packet = packet })
    → new ≡ record old { state = happens_with old.plan unasked old.state (Deliver place) } → old.state.servers ≡ told_by old.plan.config.servers old.keeper.records → IsAfter old (Deliver place) new
others_after old new place from to packet others there is shown = unasked_after old new (Deliver place) is shown (others_answers old.plan old.state place from packet old.keeper.ceiling to others there) (others_servers old.plan old.state place from packet to others there)
    (others_same old.plan old.state place from packet (keeping_of old.state (Deliver place)) to others there) (others_ceiling old.plan old.state place from packet old.keeper.ceiling to others there)

-- ---- a server

pub for_server : (packet : Packet) → ComesToServer packet → IsForServer packet
for_server (GetFwd caller op key tag) h = tt
for_server (WriteFwd caller op key num body) h = tt
for_server (Store job item) h = tt
for_server (TopAsk round) h = tt
for_server _ h = absurd h

same_reply_number : (packet : Packet) → reply_number packet ≡ number_of_reply packet
same_reply_number (GetRep caller op key tag num body) = refl
same_reply_number (WriteRep caller op key num body) = refl
same_reply_number (TopIs round server top) = refl
same_reply_number _ = refl

same_put_number : (packet : Packet) → put_number packet ≡ number_in packet
same_put_number (WriteFwd caller op key num body) = refl
same_put_number (Store job item) = refl
same_put_number _ = refl

record IsToldTurn (s : State) (n : ℕ) (packet reply : Packet) (servers : List (List Record)) : Type 0 where
  pub reply_is : server_reply n (records_at s n) packet ≡ Some reply
  pub servers_are : servers ≡ slice_set s.servers n (server_keeps (records_at s n) packet)

told_turn : (s : State) (n count : ℕ) (packet reply : Packet) (o : Option (List (List Record))) → s.servers ≡ told_by count o → Tells o → IfSome o (λ all. Some reply ≡ server_reply n (records_of all n) packet)
    → IsToldTurn s n packet reply (told_by count (option_map (after_packet n packet) o))
told_turn s n count packet reply None shown tells is = absurd cc
told_turn s n count packet reply (Some all) shown tells is = record { reply_is = rw shown (sym is); servers_are = rw shown refl }

tells_on : {A B : Type 0} → (f : A → B) (o : Option A) → is_some (option_map f o) ≡ is_some o
tells_on f None = refl
tells_on f (Some x) = refl

pub server_after : (old mid new : Scene) (place n : ℕ) (from : Party) (packet : Packet) → slice_get old.state.bag place ≡ Some (record { from = from; to = Server n; packet = packet })
    → IsServed n packet old mid → new ≡ record mid { state = record mid.state { bag = remove mid.state.bag place } } → old.state.servers ≡ told_by old.plan.config.servers old.keeper.records → old.keeper.faults ≤ mid.keeper.faults
    → IsAfter old (Deliver place) new
server_after old mid new place n from packet there h is shown later = rw is (record {
  plan = h.plan;
  keeping = k;
  answers = record {
    kind = rw there h.kind;
    within = rw there (let e = ap (λ (num : ℕ). max old.keeper.ceiling num) (same_put_number packet) in omega (arith, h.within, same_reply_number h.reply, h.ceiling, e));
  };
  state = moved ∙ ap (λ (servers : List (List Record)). record (happens_with old.plan k old.state (Deliver place)) { servers = servers }) (sym shown_there);
  told = λ tells.
      let t = told_turn old.state n old.plan.config.servers packet h.reply old.keeper.records shown tells h.told in
      moved ∙ (ap (λ (servers : List (List Record)). record (happens_with old.plan k old.state (Deliver place)) { servers = servers }) (ap (told_by old.plan.config.servers) h.records ∙ t.servers_are)
      ∙ by_rule t);
  tells = ap is_some h.records ∙ tells_on (after_packet n packet) old.keeper.records;
  records = shown_there ∙ ap (λ (p : PlanView). told_by p.config.servers mid.keeper.records) (sym h.plan);
  servers = h.servers;
  ceiling = rw there (h.ceiling ∙ ap (λ (num : ℕ). max old.keeper.ceiling num) (sym (same_put_number packet)));
  later = later;
})
  where
    k : Keeping
    k = record { reply = Some h.reply; records = [] }

    shown_there : mid.state.servers ≡ told_by old.plan.config.servers mid.keeper.records
    shown_there = ap (λ (z : State). z.servers) h.state

    moved : record mid.state { bag = remove mid.state.bag place } ≡ record (happens_with old.plan k old.state (Deliver place)) { servers = told_by old.plan.config.servers mid.keeper.records }
    moved = ap (λ (z : State). record z { bag = remove z.bag place }) h.state
        ∙ ap (λ (z : State). record z { servers = told_by old.plan.config.servers mid.keeper.records }) (taken_out old.plan k old.state place from (Server n) packet there)

    by_rule : IsToldTurn old.state n packet h.reply (told_by old.plan.config.servers (option_map (after_packet n packet) old.keeper.records))
        → record (happens_with old.plan k old.state (Deliver place)) { servers = slice_set old.state.servers n (server_keeps (records_at old.state n) packet) } ≡ happens old.plan old.state (Deliver place)
    by_rule t = rw (there, t.reply_is) refl

-- ---- a restart

listed_by : (count : ℕ) (s : State) (o : Option (List (List Record))) (listed : List Record) → s.servers ≡ told_by count o → length s.servers ≡ count → Tells o → IfSome o (λ all. length all ≡ count → listed ≡ all_listed all) → listed ≡ all_listed s.servers
listed_by count s None listed shown n tells is = absurd cc
listed_by count s (Some all) listed shown n tells is = let m : length all ≡ count = sym (ap length shown) ∙ n in rw shown (is m)

restart_servers : (plan : PlanView) (k : Keeping) (s : State) (counter : Option ℕ) → (restarts plan k s counter).servers ≡ s.servers
restart_servers plan k s None = refl
restart_servers plan k s (Some counter) = refl

restart_same : (plan : PlanView) (k other : Keeping) (s : State) (counter : Option ℕ) → k.records ≡ other.records → restarts plan k s counter ≡ restarts plan other s counter
restart_same plan k other s None e = refl
restart_same plan k other s (Some counter) e = ap (λ (rs : List Record). restarts plan (record { reply = None; records = rs }) s (Some counter)) e

pub restart_after : (old new : Scene) → IsRestarted old new → old.state.servers ≡ told_by old.plan.config.servers old.keeper.records → length old.state.servers ≡ old.plan.config.servers → old.keeper.servers ≡ old.plan.config.servers → old.keeper.faults ≤ new.keeper.faults
    → IsAfter old Restart new
restart_after old new h shown count keeper later = record {
  plan = h.plan;
  keeping = k;
  answers = record { kind = tt; within = h.within };
  state = h.state ∙ ap (λ (servers : List (List Record)). record (restarts old.plan k old.state (ready old.state.controller)) { servers = servers }) (sym kept);
  told = λ tells. h.state ∙ restart_same old.plan k (keeping_of old.state Restart) old.state (ready old.state.controller)
      (listed_by old.plan.config.servers old.state old.keeper.records h.listed shown count tells (subst (λ (n : ℕ). IfSome old.keeper.records (λ all. length all ≡ n → h.listed ≡ all_listed all)) keeper h.told));
  tells = ap is_some h.records;
  records = kept_shown ∙ (λ i. told_by (sym h.plan i).config.servers (sym h.records i));
  servers = h.servers;
  ceiling = h.ceiling;
  later = later;
}
  where
    k : Keeping
    k = record { reply = None; records = h.listed }

    kept : new.state.servers ≡ (restarts old.plan k old.state (ready old.state.controller)).servers
    kept = ap (λ (z : State). z.servers) h.state

    kept_shown : new.state.servers ≡ told_by old.plan.config.servers old.keeper.records
    kept_shown = kept ∙ (restart_servers old.plan k old.state (ready old.state.controller) ∙ shown)

-- ---- orders

pub done_kept : (plan : PlanView) (s : State) (order : Order) → (does_order plan s (Some order)).done ≡ s.done
done_kept plan s (Admit step key) = refl
done_kept plan s (Evict step key) = refl
done_kept plan s (Snap step) = refl
done_kept plan s (Stop step) = refl
done_kept plan s (StopAt kind times) = refl

one_kind : (order : Order) → cond {A = ℕ} (is_slot_order order) 1 0 + cond {A = ℕ} (is_snap order) 1 0 + cond {A = ℕ} (is_stop order) 1 0 ≡ 1
one_kind (Admit step key) = refl
one_kind (Evict step key) = refl
one_kind (Snap step) = refl
one_kind (Stop step) = refl
one_kind (StopAt kind times) = refl

count_cons : (p : Order → Bool) (x : Order) (xs : List Order) → count_by p (x ∷ xs) ≡ cond {A = ℕ} (p x) 1 0 + count_by p xs
count_cons p x xs = sum_by-cons (λ y. cond {A = ℕ} (p y) 1 0) x xs

orders_counted : (orders : List Order) → length orders ≡ count_by is_slot_order orders + count_by is_snap orders + count_by is_stop orders
orders_counted [] = refl
orders_counted (x ∷ xs) = omega (arith, orders_counted xs, one_kind x, count_cons is_slot_order x xs, count_cons is_snap x xs, count_cons is_stop x xs)

pub few_orders : (plan : PlanView) → IsPlan plan → length plan.orders ≤ ORDER_LIMIT + SNAP_LIMIT + STOP_LIMIT
few_orders plan h = omega (arith, orders_counted plan.orders, h.slot_orders, h.snaps, h.stops)

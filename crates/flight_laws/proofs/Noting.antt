-- What each event notes of operations, and what it makes of the clients.
use Rattle.std.proofs.Common.{◌≡◌, ℕ, suc, ◌+◌, ◌<◌, ◌≤◌, inl, Bool, true, true≢false, List, [], ◌∷◌, ◌++◌, length, refl, sym, ap, ◌∙◌, subst, arith}
use Rattle.std.specs.Prelude.{Option, Some, None, ◌&&◌, not, nat_eq, nat_lt, is_some, slice_get, slice_index_or, slice_set}
use Rattle.std.specs.List.{count_by, remove}
use Rattle.std.proofs.lemmas.Bool.{and_parts}
use Rattle.std.proofs.lemmas.List.{append-nil, get_or-set_same, get_or-set_other}
use Rattle.far_base.specs.PlanView.{PlanView}
use Rattle.far_base.specs.declared.event.Event.{Event}
use Rattle.far_base.specs.declared.event.Event.TheVariants.{Send, Deliver, Tick, Recover, Restart, Order as OrderOf}
use Rattle.far_base.specs.declared.log.LogEntry.{LogEntry}
use Rattle.far_base.specs.declared.log.LogEntry.TheVariants.{Numbered, Emitted, Answered, Admitted, Evicted, Kept, Stopped}
use Rattle.far_base.specs.declared.packet.Message.{Message}
use Rattle.far_base.specs.declared.packet.Out.{Out}
use Rattle.far_base.specs.declared.packet.Packet.{Packet}
use Rattle.far_base.specs.declared.packet.Packet.TheVariants.{WriteReq, GetAns, WriteAns, SnapBegun, SnapPart, SnapSame}
use Rattle.far_base.specs.declared.party.Party.{Party}
use Rattle.far_base.specs.declared.party.Party.TheVariants.{Client, Switch, Server, Controller}
use Rattle.far_base.specs.declared.plan.Order.{Order}
use Rattle.far_base.specs.declared.plan.Order.TheVariants.{Admit as AdmitOrder, Evict as EvictOrder, Snap as SnapOrder, Stop as StopOrder, StopAt as StopAtOrder}
use Rattle.far_base.specs.declared.record.Record.{Record}
use Rattle.far_model.specs.Clients.{ClientState, answered_record, client_takes, closed, preserves}
use Rattle.far_model.specs.Controller.{ControllerState, completes, controller_takes, evict_key, job_turn, part_came, ready, same_came, same_part, snapshot_begun, tick, wanted}
use Rattle.far_model.specs.Events.{Keeping, client_turn, controller_turn, delivers, does_order, handled, happens_with, has_next, is_enabled, next_sent, restarts, ticks}
use Rattle.far_model.specs.Members.{Among, Each}
use Rattle.far_model.specs.Parties.{Turn, idle, messages_from}
use Rattle.far_model.specs.Pass.{Passed, emitted_note, emitted_notes, numbered_note, outs_of, pass, pass_notes}
use Rattle.far_model.specs.Snapshots.{Job, completed, has_begun, has_part, is_whole, part_reads, view_items, with_part, with_same}
use Rattle.far_model.specs.State.{State, client_at, nobody}
use Rattle.far_model.specs.View.{SwitchView}
use Rattle.far_model.proofs.Members.{among_at}
use Rattle.far_invariants.specs.DrawnNumbers.{is_numbering}
use Rattle.far_invariants.specs.Flights.{IsFor, IsRouted, OneFlightPerOperation, Subject, OfAdmission, OfEviction, OfJob, OfNone as OfNothing, OfOperation, OfRound, OfSnapshot, subject}
use Rattle.far_invariants.specs.Notes.{ClientsAre, ClientsGoOn, EventNotes, IsOfNone, IsPassNote, IsSlotNote, OfAnswer, OfNone, OfPass, OfRestart, OfSending}
use Rattle.flight_laws.proofs.Counts.{count_append}
use Rattle.flight_laws.proofs.Lists.{by_test, each_map, set_field}
use Rattle.flight_laws.proofs.Passing.{pass_sends}
use Rattle.flight_laws.proofs.SnapGathering.{IsAside}
use Rattle.flight_laws.proofs.SnapPasses.{each_append}
use Rattle.flight_laws.proofs.SnapTurning.{evict_aside, takes_aside, tick_aside}
use Rattle.flight_laws.proofs.InKind.{client_within}

-- ---- notes of the controller

slot_of_none : (e : LogEntry) → IsSlotNote e → IsOfNone e
slot_of_none (Admitted slot key tag) h = tt
slot_of_none (Evicted slot key tries) h = tt
slot_of_none (Kept slot key num) h = tt
slot_of_none _ h = absurd h

items_of_none : (i : ℕ) (views : List (Option Record)) → Each IsOfNone (view_items i views)
items_of_none i [] = tt
items_of_none i (None ∷ views) = items_of_none (suc i) views
items_of_none i (Some item ∷ views) = (tt, items_of_none (suc i) views)

abbrev TellsNone : Turn ControllerState → Type 0
TellsNone t = Each IsOfNone t.notes

aside_tells : (c : ControllerState) (t : Turn ControllerState) → IsAside c t → TellsNone t
aside_tells c t a = each_map IsSlotNote IsOfNone t.notes slot_of_none a.silent

module _ (plan : PlanView) (c : ControllerState) where
  job_tells : (j : Job) (out : List Out) → TellsNone (job_turn plan.config c j out)
  job_tells j out = by_test TellsNone (is_whole j) (completes plan.config c (completed j) j.sames) (record { state = record c { job = Some j }; out = out; notes = [] })
      (tt, items_of_none 0 (completed j).views) tt

  begun_tells : (id point : ℕ) (o : Option Job) → TellsNone (snapshot_begun plan.config c id point o)
  begun_tells id point None = tt
  begun_tells id point (Some j) = by_test TellsNone (nat_eq j.id id && not (has_begun j)) (job_turn plan.config c (record j { begun = Some point }) (part_reads c.epoch id 0 j.parts)) (idle c)
      (job_tells (record j { begun = Some point }) (part_reads c.epoch id 0 j.parts)) tt

  part_tells : (id i : ℕ) (view : Option Record) (o : Option Job) → TellsNone (part_came plan.config c id i view o)
  part_tells id i view None = tt
  part_tells id i view (Some j) = by_test TellsNone (nat_eq j.id id && (nat_lt i (length j.parts) && not (has_part j i))) (job_turn plan.config c (with_part j i view) []) (idle c)
      (job_tells (with_part j i view) []) tt

  same_tells : (id i : ℕ) (o : Option Job) → TellsNone (same_came plan.config c id i o)
  same_tells id i None = tt
  same_tells id i (Some j) = go (slice_get c.last.views i)
    where
      go : (o : Option (Option Record)) → TellsNone (same_part plan.config c id i j o)
      go None = tt
      go (Some view) = by_test TellsNone (nat_eq j.id id && (nat_lt i (length j.parts) && not (has_part j i))) (job_turn plan.config c (with_same j i view) []) (idle c)
          (job_tells (with_same j i view) []) tt

  takes_tells : (p : Packet) → TellsNone (controller_takes plan.config c p)
  takes_tells (SnapBegun id point) = begun_tells id point c.job
  takes_tells (SnapPart id i view) = part_tells id i view c.job
  takes_tells (SnapSame id i) = same_tells id i c.job
  takes_tells p = aside_tells c (controller_takes plan.config c p) (takes_aside plan.config c p refl)

-- ---- notes of the switch

abbrev IsNoteOf : Subject → LogEntry → Type 0
IsNoteOf sub (Numbered op num) = (caller : ℕ) × (sub ≡ OfOperation caller op)
IsNoteOf sub (Emitted op num body near) = (caller : ℕ) × (sub ≡ OfOperation caller op)
IsNoteOf sub _ = ⊥

numbered_of : (v : SwitchView) (p : Packet) → Each (IsNoteOf (subject p)) (numbered_note v p)
numbered_of v (WriteReq caller op key body) = ((caller, refl), tt)
numbered_of v _ = tt

emitted_of : (sub : Subject) (p : Packet) → ((caller op : ℕ) → subject p ≡ OfOperation caller op → sub ≡ OfOperation caller op) → Each (IsNoteOf sub) (emitted_note p)
emitted_of sub (GetAns caller op key num body near) same = ((caller, same caller op refl), tt)
emitted_of sub (WriteAns caller op key num kept) same = ((caller, same caller op refl), tt)
emitted_of sub _ same = tt

pass_of : (v : SwitchView) (p : Packet) → IsFor v.config p Switch → Each (IsNoteOf (subject p)) (pass_notes p (pass v p))
pass_of v p goes = each_append (IsNoteOf (subject p)) (numbered_note (pass v p).view p) (emitted_notes (pass v p).first) (numbered_of (pass v p).view p) (go (pass v p).first refl)
  where
    go : (o : Option Out) → (pass v p).first ≡ o → Each (IsNoteOf (subject p)) (emitted_notes o)
    go None e = tt
    go (Some out) e = emitted_of (subject p) out.packet (λ caller op of.
        (pass_sends v p goes).adds.whose (record { from = Switch; to = out.to; packet = out.packet }) caller op
        (subst (λ (o : Option Out). Among (record { from = Switch; to = out.to; packet = out.packet }) (messages_from Switch (outs_of o ++ outs_of (pass v p).second))) (sym e) (inl refl)) of)

emitted_none : (p : Packet) → count_by is_numbering (emitted_note p) ≡ 0
emitted_none (GetAns caller op key num body near) = refl
emitted_none (WriteAns caller op key num kept) = refl
emitted_none _ = refl

pass_counts : (p : Packet) (r : Passed) → count_by is_numbering (pass_notes p r) ≤ 1
pass_counts p r =
    let both = count_append is_numbering (numbered_note r.view p) (emitted_notes r.first) in
    let one = first p in
    let none = second r.first in
    omega (arith, both, one, none)
  where
    first : (p : Packet) → count_by is_numbering (numbered_note r.view p) ≤ 1
    first (WriteReq caller op key body) = omega arith
    first _ = omega arith

    second : (o : Option Out) → count_by is_numbering (emitted_notes o) ≡ 0
    second None = refl
    second (Some out) = emitted_none out.packet

-- ---- events

go_on_same : (s t : State) → t.clients ≡ s.clients → ClientsGoOn s t
go_on_same s t e = record {
  waits = λ c. ap (λ (cs : List ClientState). (slice_index_or cs c nobody).waits) e;
  left = λ c. ap (λ (cs : List ClientState). (slice_index_or cs c nobody).left) e;
}

preserves_same : (w : ClientState) (kept : Bool) (r : Record) → ((preserves w kept r).waits ≡ w.waits) × ((preserves w kept r).left ≡ w.left)
preserves_same w kept r = by_test (λ (x : ClientState). (x.waits ≡ w.waits) × (x.left ≡ w.left)) (kept && nat_lt w.released r.num) _ w (refl, refl) (refl, refl)

module _ (plan : PlanView) (k : Keeping) (s : State) (event : Event) (routed : IsRouted plan s) (one : OneFlightPerOperation s) where
  still : EventNotes plan k s event s
  still = OfNone [] (sym (append-nil s.log)) tt (go_on_same s s refl)

  set_are : (c : ℕ) (w : ClientState) (t : State) → c < length s.clients → t.clients ≡ slice_set s.clients c w → ClientsAre s t c w.waits w.left
  set_are c w t within e = record {
    waits_are = at_c (λ x. x.waits);
    left_are = at_c (λ x. x.left);
    others = λ other ne. ap (λ (cs : List ClientState). slice_index_or cs other nobody) e ∙ get_or-set_other s.clients c other w nobody ne;
  }
    where
      at_c : {B : Type 0} (f : ClientState → B) → f (client_at t c) ≡ f w
      at_c f = ap (λ (cs : List ClientState). f (slice_index_or cs c nobody)) e ∙ ap f (get_or-set_same s.clients c w nobody within)

  controls : (rest : List Message) (t : Turn ControllerState) → TellsNone t → EventNotes plan k s event (controller_turn s rest t)
  controls rest t h = OfNone t.notes refl h (go_on_same s _ refl)

  answers : (rest : List Message) (c op : ℕ) (w : ClientState) (out : List Out) → c < length s.clients → (client_at s c).waits ≡ Some op → w.waits ≡ None → w.left ≡ (client_at s c).left
      → EventNotes plan k s event (client_turn s c rest (record { state = w; out = out; notes = Answered op ∷ [] }))
  answers rest c op w out within waits none left =
      let t : State = client_turn s c rest (record { state = w; out = out; notes = Answered op ∷ [] }) in
      let are : ClientsAre s t c w.waits w.left = set_are c w t within refl in
      OfAnswer c op waits refl (record { waits_are = are.waits_are ∙ none; left_are = are.left_are ∙ left; others = are.others })

  module _ (i : ℕ) (m : Message) (at : slice_get s.bag i ≡ Some m) where
    its : (caller op : ℕ) → subject m.packet ≡ OfOperation caller op → (caller < length s.clients) × ((client_at s caller).waits ≡ Some op)
    its caller op of = one.waited m caller op (among_at m s.bag i at) of

    at_client : (rest : List Message) (c : ℕ) (p : Packet) → m.packet ≡ p → IsFor plan.config p (Client c) → EventNotes plan k s event (client_turn s c rest (client_takes plan.ops c (client_at s c) p))
    at_client rest c (GetAns caller op key num body near) e goes =
        let same : caller ≡ c = sym (number_is goes) in
        let w = its caller op (ap subject e) in
        answers rest c op (closed (client_at s c)) [] (subst (λ n. n < length s.clients) same w.0) (subst (λ n. (client_at s n).waits ≡ Some op) same w.1) refl refl
      where
        number_is : Client c ≡ Client caller → c ≡ caller
        number_is q = cc
    at_client rest c (WriteAns caller op key num kept) e goes =
        let same : caller ≡ c = sym (number_is goes) in
        let w = its caller op (ap subject e) in
        let r : Record = answered_record plan.ops op num in
        let p = preserves_same (closed (client_at s c)) kept r in
        answers rest c op (preserves (closed (client_at s c)) kept r) [] (subst (λ n. n < length s.clients) same w.0) (subst (λ n. (client_at s n).waits ≡ Some op) same w.1) p.0 p.1
      where
        number_is : Client c ≡ Client caller → c ≡ caller
        number_is q = cc
    at_client rest c p e goes = OfNone [] refl tt (record {
      waits = λ other. set_field (λ (w : ClientState). w.waits) s.clients c (client_takes plan.ops c (client_at s c) p).state nobody refl other;
      left = λ other. set_field (λ (w : ClientState). w.left) s.clients c (client_takes plan.ops c (client_at s c) p).state nobody refl other;
    })

    at_switch : (rest : List Message) (p : Packet) → m.packet ≡ p → IsFor plan.config p Switch → EventNotes plan k s event (handled plan k s rest Switch p)
    at_switch rest p e goes = go (subject p) refl (pass_of s.switch p (subst (λ c. IsFor c p Switch) (sym routed.switch) goes))
      where
        of_none : (sub : Subject) → ((caller op : ℕ) → sub ≡ OfOperation caller op → ⊥) → Each (IsNoteOf sub) (pass_notes p (pass s.switch p)) → EventNotes plan k s event (handled plan k s rest Switch p)
        of_none sub apart h = OfNone (pass_notes p (pass s.switch p)) refl (each_map (IsNoteOf sub) IsOfNone (pass_notes p (pass s.switch p)) none h) (go_on_same s _ refl)
          where
            none : (e : LogEntry) → IsNoteOf sub e → IsOfNone e
            none (Numbered op num) n = apart n.0 op n.1
            none (Emitted op num body near) n = apart n.0 op n.1
            none _ n = absurd n

        go : (sub : Subject) → subject p ≡ sub → Each (IsNoteOf (subject p)) (pass_notes p (pass s.switch p)) → EventNotes plan k s event (handled plan k s rest Switch p)
        go (OfOperation caller op) of h =
            OfPass caller op (pass_notes p (pass s.switch p)) (its caller op (ap subject e ∙ of)).1 refl
            (each_map (IsNoteOf (subject p)) (IsPassNote op) (pass_notes p (pass s.switch p)) mine h) (pass_counts p (pass s.switch p)) (go_on_same s _ refl)
          where
            op_is : (a b x y : ℕ) → OfOperation a x ≡ OfOperation b y → y ≡ x
            op_is a b x y q = cc

            mine : (e : LogEntry) → IsNoteOf (subject p) e → IsPassNote op e
            mine (Numbered other num) n = op_is caller n.0 op other (sym of ∙ n.1)
            mine (Emitted other num body near) n = op_is caller n.0 op other (sym of ∙ n.1)
            mine _ n = absurd n
        go (OfAdmission slot tag) of h = of_none (OfAdmission slot tag) (λ caller op q. cc) (subst (λ z. Each (IsNoteOf z) (pass_notes p (pass s.switch p))) of h)
        go (OfEviction slot tag) of h = of_none (OfEviction slot tag) (λ caller op q. cc) (subst (λ z. Each (IsNoteOf z) (pass_notes p (pass s.switch p))) of h)
        go (OfJob job) of h = of_none (OfJob job) (λ caller op q. cc) (subst (λ z. Each (IsNoteOf z) (pass_notes p (pass s.switch p))) of h)
        go (OfSnapshot id) of h = of_none (OfSnapshot id) (λ caller op q. cc) (subst (λ z. Each (IsNoteOf z) (pass_notes p (pass s.switch p))) of h)
        go (OfRound round) of h = of_none (OfRound round) (λ caller op q. cc) (subst (λ z. Each (IsNoteOf z) (pass_notes p (pass s.switch p))) of h)
        go OfNothing of h = of_none OfNothing (λ caller op q. cc) (subst (λ z. Each (IsNoteOf z) (pass_notes p (pass s.switch p))) of h)

    handled_notes : (rest : List Message) (to : Party) → m.to ≡ to → IsFor plan.config m.packet to → EventNotes plan k s event (handled plan k s rest to m.packet)
    handled_notes rest (Client c) e goes = at_client rest c m.packet refl goes
    handled_notes rest Switch e goes = at_switch rest m.packet refl goes
    handled_notes rest (Server n) e goes = OfNone [] refl tt (go_on_same s _ refl)
    handled_notes rest Controller e goes = controls rest (controller_takes plan.config s.controller m.packet) (takes_tells plan s.controller m.packet)

  sends_notes : (c : ℕ) (left : List ℕ) → (client_at s c).left ≡ left → has_next left ≡ true → (client_at s c).waits ≡ None → c < length s.clients
      → EventNotes plan k s event (client_turn s c s.bag (next_sent plan.ops c (client_at s c) left))
  sends_notes c [] e next none within = absurd (true≢false (sym next))
  sends_notes c (op ∷ left) e next none within =
      OfSending c op left none e refl (set_are c (record (client_at s c) { waits = Some op; left = left }) (client_turn s c s.bag (next_sent plan.ops c (client_at s c) (op ∷ left))) within refl)

  order_notes : (o : Option Order) → EventNotes plan k s event (does_order plan s o)
  order_notes None = still
  order_notes (Some (AdmitOrder step key)) = controls s.bag (idle (wanted key s.controller)) tt
  order_notes (Some (EvictOrder step key)) = controls s.bag (evict_key key s.controller) (aside_tells s.controller (evict_key key s.controller) (evict_aside s.controller key))
  order_notes (Some (SnapOrder step)) = OfNone [] refl tt (go_on_same s _ refl)
  order_notes (Some (StopOrder step)) = OfNone (Stopped ∷ []) refl (tt, tt) (go_on_same s _ refl)
  order_notes (Some (StopAtOrder kind times)) = OfNone (Stopped ∷ []) refl (tt, tt) (go_on_same s _ refl)

  done_notes : (t : State) (n : ℕ) → EventNotes plan k s event t → EventNotes plan k s event (record t { done = n })
  done_notes t n (OfSending c op left none is log are) = OfSending c op left none is log (record { waits_are = are.waits_are; left_are = are.left_are; others = are.others })
  done_notes t n (OfAnswer c op waits log are) = OfAnswer c op waits log (record { waits_are = are.waits_are; left_are = are.left_are; others = are.others })
  done_notes t n (OfPass c op notes waits log each few on) = OfPass c op notes waits log each few (record { waits = on.waits; left = on.left })
  done_notes t n (OfNone notes log each on) = OfNone notes log each (record { waits = on.waits; left = on.left })
  done_notes t n (OfRestart counter is able log on) = OfRestart counter is able log (record { waits = on.waits; left = on.left })

pub event_notes : (plan : PlanView) (k : Keeping) (s : State) → IsRouted plan s → OneFlightPerOperation s → (e : Event) → is_enabled plan s e ≡ true → EventNotes plan k s e (happens_with plan k s e)
event_notes plan k s routed one (Send c) able = sends_notes plan k s (Send c) routed one c (client_at s c).left refl (and_parts _ _ able).1 (none_from (client_at s c).waits (and_parts _ _ able).0) (client_within s c (and_parts _ _ able).1)
  where
    none_from : (o : Option ℕ) → not (is_some o) ≡ true → o ≡ None
    none_from None e = refl
    none_from (Some x) e = absurd (true≢false (sym e))
event_notes plan k s routed one (Deliver i) able = go (slice_get s.bag i) refl
  where
    go : (o : Option Message) → slice_get s.bag i ≡ o → EventNotes plan k s (Deliver i) (delivers plan k s i o)
    go None e = (still plan k s (Deliver i) routed one)
    go (Some m) e = handled_notes plan k s (Deliver i) routed one i m e (remove s.bag i) m.to refl (routed.messages m (among_at m s.bag i e)).target
event_notes plan k s routed one Tick able = go (tick s.controller) refl
  where
    go : (o : Option (Turn ControllerState)) → tick s.controller ≡ o → EventNotes plan k s Tick (ticks s o)
    go None e = (still plan k s Tick routed one)
    go (Some t) e = controls plan k s Tick routed one s.bag t (aside_tells s.controller t (tick_aside s.controller t e))
event_notes plan k s routed one Recover able = OfNone [] refl tt (go_on_same s _ refl)
event_notes plan k s routed one Restart able = go (ready s.controller) refl
  where
    go : (o : Option ℕ) → ready s.controller ≡ o → EventNotes plan k s Restart (restarts plan k s o)
    go None is = (still plan k s Restart routed one)
    go (Some n) is = OfRestart n refl is refl (go_on_same s _ refl)
event_notes plan k s routed one (OrderOf j) able = done_notes plan k s (OrderOf j) routed one (does_order plan s (slice_get plan.orders j)) (s.done + 1) (order_notes plan k s (OrderOf j) routed one (slice_get plan.orders j))

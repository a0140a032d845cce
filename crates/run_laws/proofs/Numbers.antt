-- What logs keep, where counters come from, and what snapshots hold, over every event.
use Rattle.far_invariants.specs.Numbers.{IsWritten}
use Rattle.far_invariants.specs.Records.{StartsAreWritten}
use Rattle.far_invariants.proofs.Noted.{member}
use Rattle.std.proofs.Common.{◌≡◌, ℕ, suc, ◌+◌, ◌≤◌, ◌⊎◌, inl, inr, Bool, true, false, List, [], ◌∷◌, map, length, get_or, refl, sym, ap, ◌∙◌, subst, arith, le_trans}
use Rattle.std.specs.Prelude.{Option, Some, None, if◌then◌else◌, slice_get, nat_eq}
use Rattle.std.specs.List.{remove}
use Rattle.far_base.specs.PlanView.{PlanView}
use Rattle.far_base.specs.declared.event.Event.{Event}
use Rattle.far_base.specs.declared.event.Event.TheVariants.{Send, Deliver, Tick, Recover, Restart, Order as OrderOf}
use Rattle.far_base.specs.declared.log.LogEntry.{LogEntry}
use Rattle.far_base.specs.declared.log.LogEntry.TheVariants.{Stopped, Recovered}
use Rattle.far_base.specs.declared.log.LogLine.{LogLine}
use Rattle.far_base.specs.declared.packet.Message.{Message}
use Rattle.far_base.specs.declared.packet.Packet.{Packet}
use Rattle.far_base.specs.declared.packet.Packet.TheVariants.{SnapStart, SnapFrom}
use Rattle.far_base.specs.declared.party.Party.{Party}
use Rattle.far_base.specs.declared.party.Party.TheVariants.{Client, Switch, Server, Controller}
use Rattle.far_base.specs.declared.plan.Order.{Order}
use Rattle.far_base.specs.declared.plan.Order.TheVariants.{Admit as AdmitOrder, Evict as EvictOrder, Snap as SnapOrder, Stop as StopOrder, StopAt as StopAtOrder}
use Rattle.far_base.specs.declared.record.Record.{Record}
use Rattle.far_model.specs.Clients.{client_takes}
use Rattle.far_model.specs.Controller.{ControllerState, controller_takes, tick, ready, evict_key, start_snapshot}
use Rattle.far_model.specs.Events.{Keeping, happens, happens_with, keeping_of, handled, delivers, sends, ticks, recovers, restarts, does_order, recovery_items, next_sent}
use Rattle.far_model.specs.Members.{Among}
use Rattle.far_model.specs.Parties.{Turn}
use Rattle.far_invariants.specs.Past.{Past, SnapshotStart, remembers, new_starts, starts_with, starts_by, start_of}
use Rattle.far_model.specs.Snapshots.{view_records}
use Rattle.far_model.specs.State.{State, client_at, now, noted}
use Rattle.far_model.specs.View.{SlotView, slot_at, held_record, empty_slot}
use Rattle.far_model.proofs.Members.{among_append}

-- ---- the log and the steps

pub record OnwardLog (s t : State) : Type 0 where
  pub still : (l : LogLine) → Among l s.log → Among l t.log
  pub past : s.steps ≤ t.steps

onward : (s t : State) (notes : List LogEntry) → t.log ≡ noted s notes → t.steps ≡ now s → OnwardLog s t
onward s t notes log steps = record { still = member s t notes log; past = omega (arith, steps) }

stays : (s : State) → OnwardLog s s
stays s = record { still = λ l a. a; past = omega arith }

handled_onward : (plan : PlanView) (k : Keeping) (s : State) (rest : List Message) (to : Party) (p : Packet) → OnwardLog s (handled plan k s rest to p)
handled_onward plan k s rest (Client c) p = onward s (handled plan k s rest (Client c) p) (client_takes plan.ops c (client_at s c) p).notes refl refl
handled_onward plan k s rest Switch p = onward s (handled plan k s rest Switch p) (Rattle.far_model.specs.Pass.pass_notes p (Rattle.far_model.specs.Pass.pass s.switch p)) refl refl
handled_onward plan k s rest (Server n) p = onward s (handled plan k s rest (Server n) p) [] refl refl
handled_onward plan k s rest Controller p = onward s (handled plan k s rest Controller p) (controller_takes plan.config s.controller p).notes refl refl

pub event_onward : (plan : PlanView) (k : Keeping) (s : State) (e : Event) → OnwardLog s (happens_with plan k s e)
event_onward plan k s (Send c) = onward s (sends plan s c) (next_sent plan.ops c (client_at s c) (client_at s c).left).notes refl refl
event_onward plan k s (Deliver i) = go (slice_get s.bag i)
  where
    go : (o : Option Message) → OnwardLog s (delivers plan k s i o)
    go None = stays s
    go (Some m) = handled_onward plan k s (remove s.bag i) m.to m.packet
event_onward plan k s Tick = go (tick s.controller)
  where
    go : (o : Option (Turn ControllerState)) → OnwardLog s (ticks s o)
    go None = stays s
    go (Some t) = onward s (ticks s (Some t)) t.notes refl refl
event_onward plan k s Recover = onward s (recovers plan s) [] refl refl
event_onward plan k s Restart = go (ready s.controller)
  where
    go : (o : Option ℕ) → OnwardLog s (restarts plan k s o)
    go None = stays s
    go (Some counter) = onward s (restarts plan k s (Some counter)) (Recovered counter (length k.records) ∷ recovery_items k.records) refl refl
event_onward plan k s (OrderOf j) = go (slice_get plan.orders j)
  where
    go : (o : Option Order) → OnwardLog s (record (does_order plan s o) { done = s.done + 1 })
    go None = record { still = λ l a. a; past = omega arith }
    go (Some (AdmitOrder step key)) = onward s (record (does_order plan s (Some (AdmitOrder step key))) { done = s.done + 1 }) [] refl refl
    go (Some (EvictOrder step key)) = onward s (record (does_order plan s (Some (EvictOrder step key))) { done = s.done + 1 }) (evict_key key s.controller).notes refl refl
    go (Some (SnapOrder step)) = onward s (record (does_order plan s (Some (SnapOrder step))) { done = s.done + 1 }) (start_snapshot s.controller).notes refl refl
    go (Some (StopOrder step)) = onward s (record (does_order plan s (Some (StopOrder step))) { done = s.done + 1 }) (Stopped ∷ []) refl refl
    go (Some (StopAtOrder kind times)) = onward s (record (does_order plan s (Some (StopAtOrder kind times))) { done = s.done + 1 }) (Stopped ∷ []) refl refl

pub written_stays : (plan : PlanView) (s t : State) → OnwardLog s t → (key : List ℕ) (num : ℕ) (body : Option (List ℕ)) → IsWritten plan s.log s.steps key num body → IsWritten plan t.log t.steps key num body
written_stays plan s t o key num body w = record {
  none = w.none;
  some = λ above. let k = w.some above in record { op = k.op; own = record { numbered_at = k.own.numbered_at; numbered = o.still _ k.own.numbered; before = le_trans k.own.before o.past }; on_key = k.on_key; same_body = k.same_body };
}

-- ---- the views of starts

held_among : (slots : List SlotView) (r : Record) → Among r (view_records (map held_record slots)) → (i : ℕ) × (held_record (get_or slots i empty_slot) ≡ Some r)
held_among [] r a = absurd a
held_among (x ∷ xs) r a = go (held_record x) refl a (λ b. held_among xs r b)
  where
    go : (o : Option Record) → held_record x ≡ o → Among r (view_records (o ∷ map held_record xs)) → (Among r (view_records (map held_record xs)) → (i : ℕ) × (held_record (get_or xs i empty_slot) ≡ Some r)) → (i : ℕ) × (held_record (get_or (x ∷ xs) i empty_slot) ≡ Some r)
    go None e b more = let p = more b in (suc p.0, p.1)
    go (Some y) e (inl q) more = (0, e ∙ ap Some (sym q))
    go (Some y) e (inr b) more = let p = more b in (suc p.0, p.1)

module _ (plan : PlanView) (s : State) (slots : (i : ℕ) (r : Record) → held_record (slot_at s.switch i) ≡ Some r → IsWritten plan s.log s.steps r.key r.num r.body) where
  new_start : (id : ℕ) (difference : Bool) (r : Record) → Among r (view_records (start_of s.switch id difference).views) → IsWritten plan s.log s.steps r.key r.num r.body
  new_start id difference r a = let p = held_among s.switch.slots r a in slots p.0 r p.1

  tested_start : (b : Bool) (id : ℕ) (difference : Bool) (start : SnapshotStart) → Among start (if b then start_of s.switch id difference ∷ [] else []) → (r : Record) → Among r (view_records start.views) → IsWritten plan s.log s.steps r.key r.num r.body
  tested_start true id difference start (inl e) r a = new_start id difference r (subst (λ (x : SnapshotStart). Among r (view_records x.views)) e a)
  tested_start true id difference start (inr a) r b = absurd a
  tested_start false id difference start a r b = absurd a

  by_packet : (to : Party) (p : Packet) (start : SnapshotStart) → Among start (starts_by s.switch to p) → (r : Record) → Among r (view_records start.views) → IsWritten plan s.log s.steps r.key r.num r.body
  by_packet Switch (SnapStart epoch id) start a r b = tested_start (nat_eq epoch s.switch.epoch) id false start a r b
  by_packet Switch (SnapFrom epoch id base) start a r b = tested_start (nat_eq epoch s.switch.epoch) id true start a r b
  by_packet to p start a r b = absurd a

  by_event : (e : Event) (start : SnapshotStart) → Among start (new_starts s e) → (r : Record) → Among r (view_records start.views) → IsWritten plan s.log s.steps r.key r.num r.body
  by_event (Deliver i) start a = go (slice_get s.bag i) a
    where
      go : (o : Option Message) → Among start (starts_with s.switch o) → (r : Record) → Among r (view_records start.views) → IsWritten plan s.log s.steps r.key r.num r.body
      go None b = absurd b
      go (Some m) b = by_packet m.to m.packet start b
  by_event (Send c) start a = absurd a
  by_event Tick start a = absurd a
  by_event Recover start a = absurd a
  by_event Restart start a = absurd a
  by_event (OrderOf j) start a = absurd a

  pub starts_stay : (p : Past) (e : Event) → StartsAreWritten plan s p.starts → StartsAreWritten plan (happens plan s e) (remembers s p e).starts
  starts_stay p e h start a r b = written_stays plan s (happens plan s e) (event_onward plan (keeping_of s e) s e) r.key r.num r.body (go (among_append start p.starts (new_starts s e) a))
    where
      go : Among start p.starts ⊎ Among start (new_starts s e) → IsWritten plan s.log s.steps r.key r.num r.body
      go (inl c) = h start c r b
      go (inr c) = by_event e start c r b

-- What the log keeps of completed snapshots.
use Rattle.std.proofs.Common.{◌≡◌, ℕ, ◌+◌, List, [], ◌∷◌, length, refl, sym, ap}
use Rattle.std.specs.Prelude.{Option, Some, None, ◌&&◌, not, nat_eq, nat_lt, slice_get}
use Rattle.std.specs.List.{remove}
use Rattle.std.proofs.lemmas.List.{append-nil}
use Rattle.far_base.specs.PlanView.{PlanView}
use Rattle.far_base.specs.declared.event.Event.{Event}
use Rattle.far_base.specs.declared.event.Event.TheVariants.{Send, Deliver, Tick, Recover, Restart, Order as OrderOf}
use Rattle.far_base.specs.declared.log.LogEntry.{LogEntry}
use Rattle.far_base.specs.declared.log.LogEntry.TheVariants.{Snapped, SnapItem, Stopped, Recovered}
use Rattle.far_base.specs.declared.packet.Message.{Message}
use Rattle.far_base.specs.declared.packet.Out.{Out}
use Rattle.far_base.specs.declared.packet.Packet.{Packet}
use Rattle.far_base.specs.declared.packet.Packet.TheVariants.{WriteReq, GetAns, WriteAns, SnapBegun, SnapPart, Release, Ask, SnapSame}
use Rattle.far_base.specs.declared.party.Party.{Party}
use Rattle.far_base.specs.declared.party.Party.TheVariants.{Client, Switch, Server, Controller}
use Rattle.far_base.specs.declared.plan.Order.{Order}
use Rattle.far_base.specs.declared.plan.Order.TheVariants.{Admit as AdmitOrder, Evict as EvictOrder, Snap as SnapOrder, Stop as StopOrder, StopAt as StopAtOrder}
use Rattle.far_base.specs.declared.record.Record.{Record}
use Rattle.far_model.specs.Clients.{ClientState, client_takes}
use Rattle.far_model.specs.Controller.{ControllerState, controller_takes, job_turn, completes, snapshot_begun, part_came, same_part, same_came, wanted, evict_key, tick, ready}
use Rattle.far_model.specs.Events.{Keeping, happens_with, handled, delivers, ticks, restarts, does_order, controller_turn, next_sent, recovery_items}
use Rattle.far_model.specs.Members.{Each}
use Rattle.far_model.specs.Parties.{Turn, idle}
use Rattle.far_model.specs.Pass.{Passed, pass, pass_notes, numbered_note, emitted_note, emitted_notes}
use Rattle.far_model.specs.Snapshots.{Job, has_begun, has_part, is_whole, completed, part_reads, with_part, with_same}
use Rattle.far_model.specs.State.{State, client_at}
use Rattle.far_model.specs.View.{SwitchView}
use Rattle.far_invariants.specs.Notes.{IsSlotNote}
use Rattle.far_invariants.specs.SnapshotLaws.{IsNoSnapNote, LogsSnapshots, Silent, Completes}
use Rattle.far_invariants.specs.Snapshots.{Gathering}
use Rattle.flight_laws.proofs.SnapBasics.{by_test}
use Rattle.flight_laws.proofs.Lists.{each_map}
use Rattle.flight_laws.proofs.SnapPasses.{each_append}
use Rattle.flight_laws.proofs.SnapGathering.{IsAside}
use Rattle.flight_laws.proofs.SnapTurning.{wanted_aside, takes_aside, evict_aside, tick_aside}

emitted_silent : (p : Packet) → Each IsNoSnapNote (emitted_note p)
emitted_silent (GetAns caller op key num body near) = (tt, tt)
emitted_silent (WriteAns caller op key num kept) = (tt, tt)
emitted_silent _ = tt

sent_silent : (o : Option Out) → Each IsNoSnapNote (emitted_notes o)
sent_silent None = tt
sent_silent (Some o) = emitted_silent o.packet

numbered_silent : (v : SwitchView) (p : Packet) → Each IsNoSnapNote (numbered_note v p)
numbered_silent v (WriteReq caller op key body) = (tt, tt)
numbered_silent v _ = tt

pass_silent : (packet : Packet) (p : Passed) → Each IsNoSnapNote (pass_notes packet p)
pass_silent packet p = each_append IsNoSnapNote (numbered_note p.view packet) (emitted_notes p.first) (numbered_silent p.view packet) (sent_silent p.first)

client_silent : (plan : PlanView) (c : ℕ) (client : ClientState) (p : Packet) → Each IsNoSnapNote (client_takes plan.ops c client p).notes
client_silent plan c client (GetAns caller op key num body near) = (tt, tt)
client_silent plan c client (WriteAns caller op key num kept) = (tt, tt)
client_silent plan c client (Release point) = tt
client_silent plan c client (Ask round) = tt
client_silent plan c client _ = tt

items_silent : (records : List Record) → Each IsNoSnapNote (recovery_items records)
items_silent [] = tt
items_silent (r ∷ rs) = (tt, items_silent rs)

slot_silent : (e : LogEntry) → IsSlotNote e → IsNoSnapNote e
slot_silent (Snapped id point count same) h = h
slot_silent (SnapItem slot item) h = h
slot_silent _ h = tt

module _ (plan : PlanView) (s : State) where
  aside_silent : (notes : List LogEntry) → Each IsSlotNote notes → Each IsNoSnapNote notes
  aside_silent notes h = each_map IsSlotNote IsNoSnapNote notes slot_silent h

  aside_logs : (rest : List Message) (t : Turn ControllerState) → IsAside s.controller t → LogsSnapshots s (controller_turn s rest t)
  aside_logs rest t a = Silent t.notes refl (aside_silent t.notes a.silent) (ap (λ (g : Gathering). g.last) a.same)

  job_logs : (rest : List Message) (j : Job) (out : List Out) → LogsSnapshots s (controller_turn s rest (job_turn plan.config s.controller j out))
  job_logs rest j out = by_test (λ (t : Turn ControllerState). LogsSnapshots s (controller_turn s rest t)) (is_whole j) (completes plan.config s.controller (completed j) j.sames) (record { state = record s.controller { job = Some j }; out = out; notes = [] })
      (Completes j.sames refl) (Silent [] refl tt refl)

  idle_logs : (rest : List Message) → LogsSnapshots s (controller_turn s rest (idle s.controller))
  idle_logs rest = Silent [] refl tt refl

  begun_logs : (rest : List Message) (id point : ℕ) (o : Option Job) → LogsSnapshots s (controller_turn s rest (snapshot_begun plan.config s.controller id point o))
  begun_logs rest id point None = idle_logs rest
  begun_logs rest id point (Some j) = by_test (λ (t : Turn ControllerState). LogsSnapshots s (controller_turn s rest t)) (nat_eq j.id id && not (has_begun j)) (job_turn plan.config s.controller (record j { begun = Some point }) (part_reads s.controller.epoch id 0 j.parts)) (idle s.controller)
      (job_logs rest (record j { begun = Some point }) (part_reads s.controller.epoch id 0 j.parts)) (idle_logs rest)

  part_logs : (rest : List Message) (id i : ℕ) (view : Option Record) (o : Option Job) → LogsSnapshots s (controller_turn s rest (part_came plan.config s.controller id i view o))
  part_logs rest id i view None = idle_logs rest
  part_logs rest id i view (Some j) = by_test (λ (t : Turn ControllerState). LogsSnapshots s (controller_turn s rest t)) (nat_eq j.id id && (nat_lt i (length j.parts) && not (has_part j i))) (job_turn plan.config s.controller (with_part j i view) []) (idle s.controller)
      (job_logs rest (with_part j i view) []) (idle_logs rest)

  same_logs : (rest : List Message) (id i : ℕ) (o : Option Job) → LogsSnapshots s (controller_turn s rest (same_came plan.config s.controller id i o))
  same_logs rest id i None = idle_logs rest
  same_logs rest id i (Some j) = go (slice_get s.controller.last.views i)
    where
      go : (o : Option (Option Record)) → LogsSnapshots s (controller_turn s rest (same_part plan.config s.controller id i j o))
      go None = idle_logs rest
      go (Some view) = by_test (λ (t : Turn ControllerState). LogsSnapshots s (controller_turn s rest t)) (nat_eq j.id id && (nat_lt i (length j.parts) && not (has_part j i))) (job_turn plan.config s.controller (with_same j i view) []) (idle s.controller)
          (job_logs rest (with_same j i view) []) (idle_logs rest)

  takes_logs : (rest : List Message) (p : Packet) → LogsSnapshots s (controller_turn s rest (controller_takes plan.config s.controller p))
  takes_logs rest (SnapBegun id point) = begun_logs rest id point s.controller.job
  takes_logs rest (SnapPart id i view) = part_logs rest id i view s.controller.job
  takes_logs rest (SnapSame id i) = same_logs rest id i s.controller.job
  takes_logs rest p = aside_logs rest (controller_takes plan.config s.controller p) (takes_aside plan.config s.controller p refl)

  handled_logs : (k : Keeping) (rest : List Message) (to : Party) (p : Packet) → LogsSnapshots s (handled plan k s rest to p)
  handled_logs k rest (Client c) p = Silent (client_takes plan.ops c (client_at s c) p).notes refl (client_silent plan c (client_at s c) p) refl
  handled_logs k rest Switch p = Silent (pass_notes p (pass s.switch p)) refl (pass_silent p (pass s.switch p)) refl
  handled_logs k rest (Server n) p = Silent [] refl tt refl
  handled_logs k rest Controller p = takes_logs rest p

  still : LogsSnapshots s s
  still = Silent [] (sym (append-nil s.log)) tt refl

  delivered_logs : (k : Keeping) (i : ℕ) (o : Option Message) → LogsSnapshots s (delivers plan k s i o)
  delivered_logs k i None = still
  delivered_logs k i (Some m) = handled_logs k (remove s.bag i) m.to m.packet

  next_silent : (c : ℕ) (left : List ℕ) → Each IsNoSnapNote (next_sent plan.ops c (client_at s c) left).notes
  next_silent c [] = tt
  next_silent c (op ∷ left) = (tt, tt)

  ticked_logs : (o : Option (Turn ControllerState)) → tick s.controller ≡ o → LogsSnapshots s (ticks s o)
  ticked_logs None e = still
  ticked_logs (Some t) e = aside_logs s.bag t (tick_aside s.controller t e)

  restarted_logs : (k : Keeping) (o : Option ℕ) → LogsSnapshots s (restarts plan k s o)
  restarted_logs k None = still
  restarted_logs k (Some n) = Silent (Recovered n (length k.records) ∷ recovery_items k.records) refl (tt, items_silent k.records) refl

  done_logs : (t : State) (done : ℕ) → LogsSnapshots s t → LogsSnapshots s (record t { done = done })
  done_logs t done (Silent notes e quiet last) = Silent notes e quiet last
  done_logs t done (Completes same e) = Completes same e

  ordered_logs : (o : Option Order) → LogsSnapshots s (does_order plan s o)
  ordered_logs None = still
  ordered_logs (Some (AdmitOrder step key)) = aside_logs s.bag (idle (wanted key s.controller)) (wanted_aside s.controller key)
  ordered_logs (Some (EvictOrder step key)) = aside_logs s.bag (evict_key key s.controller) (evict_aside s.controller key)
  ordered_logs (Some (SnapOrder step)) = Silent [] refl tt refl
  ordered_logs (Some (StopOrder step)) = Silent (Stopped ∷ []) refl (tt, tt) refl
  ordered_logs (Some (StopAtOrder kind times)) = Silent (Stopped ∷ []) refl (tt, tt) refl

  -- what an event logs of snapshots is the one that it completes, as it is kept
  pub event_logs : (k : Keeping) (e : Event) → LogsSnapshots s (happens_with plan k s e)
  event_logs k (Send c) = Silent (next_sent plan.ops c (client_at s c) (client_at s c).left).notes refl (next_silent c (client_at s c).left) refl
  event_logs k (Deliver i) = delivered_logs k i (slice_get s.bag i)
  event_logs k Tick = ticked_logs (tick s.controller) refl
  event_logs k Recover = Silent [] refl tt refl
  event_logs k Restart = restarted_logs k (ready s.controller)
  event_logs k (OrderOf j) = done_logs (does_order plan s (slice_get plan.orders j)) (s.done + 1) (ordered_logs (slice_get plan.orders j))

-- Every event leaves what holds of snapshots.
use Rattle.std.proofs.Common.{◌≡◌, ℕ, ◌+◌, Bool, true, false, cond, List, [], ◌∷◌, ◌++◌, refl, sym, ap, ◌∙◌, subst, arith, eqb-true, eq-eqb}
use Rattle.std.specs.Prelude.{Option, Some, None, if◌then◌else◌, ◌&&◌, ◌||◌, not, nat_eq, is_some, slice_get}
use Rattle.std.specs.List.{remove}
use Rattle.std.proofs.lemmas.List.{append-nil}
use Rattle.far_base.specs.PlanView.{PlanView}
use Rattle.far_base.specs.declared.event.Event.{Event}
use Rattle.far_base.specs.declared.event.Event.TheVariants.{Send, Deliver, Tick, Recover, Restart, Order as OrderOf}
use Rattle.far_base.specs.declared.packet.Message.{Message}
use Rattle.far_base.specs.declared.packet.Packet.{Packet}
use Rattle.far_base.specs.declared.packet.Packet.TheVariants.{SnapStart, SnapBegun, SnapPart, SnapSame, SnapFrom}
use Rattle.far_base.specs.declared.party.Party.{Party}
use Rattle.far_base.specs.declared.party.Party.TheVariants.{Client, Switch, Server, Controller}
use Rattle.far_base.specs.declared.plan.Order.{Order}
use Rattle.far_base.specs.declared.plan.Order.TheVariants.{Admit as AdmitOrder, Evict as EvictOrder, Snap as SnapOrder, Stop as StopOrder, StopAt as StopAtOrder}
use Rattle.far_model.specs.Controller.{ControllerState, wanted, evict_key, tick, ready, controller_takes}
use Rattle.far_model.specs.Events.{Keeping, happens, happens_with, keeping_of, handled, delivers, ticks, restarts, does_order, switch_turn, controller_turn, is_enabled, can_deliver, can_deliver_some, is_possible, is_order_due, is_order_enabled, is_switch, reply_at, reply_to}
use Rattle.far_model.specs.Members.{Among, Each}
use Rattle.far_model.specs.Parties.{Turn, idle}
use Rattle.far_model.specs.Pass.{pass, starts_snapshot, dropped, pass_notes}
use Rattle.far_invariants.specs.Past.{SnapshotStart, Past, start_of, starts_by, starts_with, remembers}
use Rattle.far_model.specs.Snapshots.{Job}
use Rattle.far_model.specs.Replies.{RepliesAt, RepliesToMessage, AnswersInKind}
use Rattle.far_model.specs.State.{State, client_at, records_at}
use Rattle.far_model.specs.View.{SwitchView}
use Rattle.far_model.proofs.Members.{among_at}
use Rattle.far_invariants.specs.SnapshotNeeds.{Needs}
use Rattle.far_invariants.specs.Snapshots.{gathering, JobWaits, PacketStands, PartIsTaken, is_start_in, SnapshotsStand}
use Rattle.flight_laws.proofs.SnapBasics.{both, not_true, count_removed, none_counted, counted}
use Rattle.flight_laws.proofs.SnapFrame.{rest_all, rest_taken, IsPlainNote}
use Rattle.flight_laws.proofs.SnapPasses.{pass_is, dropped_is, is_start}
use Rattle.flight_laws.proofs.SnapSwitching.{pass_stands}
use Rattle.flight_laws.proofs.SnapStarting.{BaseComes, pass_fresh, start_stands}
use Rattle.flight_laws.proofs.SnapGathering.{aside_stands, begun_stands, part_stands, same_stands}
use Rattle.flight_laws.proofs.SnapRuling.{order_stands, stop_stands, recover_stands, restart_stands}
use Rattle.flight_laws.proofs.SnapTurning.{taken_stands, sent_stands, served_stands, replies_in_kind, wanted_aside, takes_aside, evict_aside, tick_aside}

-- a packet that starts no snapshot is no start
no_starts : (v : SwitchView) (p : Packet) → is_start p ≡ false → starts_by v Switch p ≡ []
no_starts v (SnapStart epoch id) h = absurd cc
no_starts v (SnapFrom epoch id base) h = absurd cc
no_starts v _ h = refl

-- ---- a delivery

module _ {tells : Bool} (plan : PlanView) (s : State) (starts : List SnapshotStart) (h : SnapshotsStand tells plan s starts) (owed : Needs tells plan s) (i : ℕ) (k : Keeping) where
  none_new : (t : State) → SnapshotsStand tells plan t starts → SnapshotsStand tells plan t (starts ++ [])
  none_new t k = subst (SnapshotsStand tells plan t) (sym (append-nil starts)) k

  -- the start of a snapshot comes to the switch
  started : (m : Message) → slice_get s.bag i ≡ Some m → s.running ≡ true → (packet : Packet) → m.packet ≡ packet → (epoch id base : ℕ) (difference : Bool) → is_start_in epoch packet ≡ true
      → (s.running ≡ true → epoch ≡ s.controller.epoch → JobWaits (gathering s.controller) starts id)
      → (epoch ≡ s.controller.epoch → BaseComes (gathering s.controller) base difference)
      → Each IsPlainNote (pass_notes packet (starts_snapshot s.switch id base)) → pass_notes packet (dropped s.switch) ≡ []
      → (b : Bool) → nat_eq epoch s.switch.epoch ≡ b
      → SnapshotsStand tells plan (switch_turn s (remove s.bag i) packet (if b then starts_snapshot s.switch id base else dropped s.switch)) (starts ++ (if b then start_of s.switch id difference ∷ [] else []))
  started m at runs packet is epoch id base difference own waits by plain silent true e =
      start_stands plan s starts h owed runs (remove s.bag i) (rest_taken s.bag i m at) id base difference (waits runs present) (by present) none packet plain
    where
      present : epoch ≡ s.controller.epoch
      present = eqb-true _ _ e ∙ (h.in_step runs).epoch

      none : (n : Message) → Among n (remove s.bag i) → is_start_in s.controller.epoch n.packet ≡ false
      none = none_counted (λ (n : Message). is_start_in s.controller.epoch n.packet) (remove s.bag i)
          (let sum = count_removed (λ (n : Message). is_start_in s.controller.epoch n.packet) s.bag i m at in
          let it : is_start_in s.controller.epoch m.packet ≡ true = subst (λ w. is_start_in w m.packet ≡ true) present (ap (is_start_in epoch) is ∙ own) in
          let one : counted (λ (n : Message). is_start_in s.controller.epoch n.packet) m ≡ 1 = ap (λ b. cond {A = ℕ} b 1 0) it in
          let most = h.once runs in omega (arith, sum, one, most))
  started m at runs packet is epoch id base difference own waits by plain silent false e =
      none_new _ (pass_stands plan s starts h owed runs (remove s.bag i) (rest_taken s.bag i m at) packet (dropped s.switch) (dropped_is s.switch h.switch.bare) (λ told. subst (λ l. Each (Rattle.flight_laws.proofs.SnapFrame.IsFreshNote s) l) (sym silent) tt))

  passed : (m : Message) → slice_get s.bag i ≡ Some m → s.running ≡ true → (p : Packet) → m.packet ≡ p → is_start p ≡ false → SnapshotsStand tells plan (switch_turn s (remove s.bag i) p (pass s.switch p)) (starts ++ starts_by s.switch Switch p)
  passed m at runs p is off = subst (λ l. SnapshotsStand tells plan (switch_turn s (remove s.bag i) p (pass s.switch p)) (starts ++ l)) (sym (no_starts s.switch p off))
      (none_new _ (pass_stands plan s starts h owed runs (remove s.bag i) (rest_taken s.bag i m at) p (pass s.switch p)
      (pass_is s.switch h.switch.bare (h.switch.slots ∙ sym (ap (λ (c : Rattle.far_base.specs.declared.plan.Config.Config). c.slots) h.switch.config)) p off)
      (λ told. pass_fresh s p (subst (Rattle.far_invariants.specs.SnapshotNeeds.IsUnnumberedRead s) is (owed.reads told m (among_at m s.bag i at))))))

  at_switch : (m : Message) → slice_get s.bag i ≡ Some m → s.running ≡ true → (p : Packet) → m.packet ≡ p → PacketStands tells s.running (gathering s.controller) starts p → SnapshotsStand tells plan (switch_turn s (remove s.bag i) p (pass s.switch p)) (starts ++ starts_by s.switch Switch p)
  at_switch m at runs (SnapStart epoch id) is k = started m at runs (SnapStart epoch id) is epoch id 0 false (eq-eqb epoch epoch refl) k.waits (λ present. refl) tt refl (nat_eq epoch s.switch.epoch) refl
  at_switch m at runs (SnapFrom epoch id base) is k = started m at runs (SnapFrom epoch id base) is epoch id base true (eq-eqb epoch epoch refl) k.0.waits (λ present. k.1 runs present) tt refl (nat_eq epoch s.switch.epoch) refl
  at_switch m at runs p is k = passed m at runs p is refl

  at_controller : (m : Message) → slice_get s.bag i ≡ Some m → (p : Packet) → m.packet ≡ p → SnapshotsStand tells plan (controller_turn s (remove s.bag i) (controller_takes plan.config s.controller p)) starts
  at_controller m at (SnapBegun id point) is = begun_stands plan s starts h (remove s.bag i) (rest_taken s.bag i m at) id point (subst (PacketStands tells s.running (gathering s.controller) starts) is (h.packets m (among_at m s.bag i at))) s.controller.job refl
  at_controller m at (SnapPart id j view) is = part_stands plan s starts h (remove s.bag i) (rest_taken s.bag i m at) id j view (subst (PacketStands tells s.running (gathering s.controller) starts) is (h.packets m (among_at m s.bag i at)))
      (λ up. subst (PartIsTaken s.switch) is (h.parts up m (among_at m s.bag i at))) s.controller.job refl
  at_controller m at (SnapSame id j) is = same_stands plan s starts h (remove s.bag i) (rest_taken s.bag i m at) id j (subst (PacketStands tells s.running (gathering s.controller) starts) is (h.packets m (among_at m s.bag i at)))
      (λ up. subst (PartIsTaken s.switch) is (h.parts up m (among_at m s.bag i at))) s.controller.job refl
  at_controller m at p is = aside_stands plan s starts (remove s.bag i) (controller_takes plan.config s.controller p) s.done (rest_taken s.bag i m at) (takes_aside plan.config s.controller p refl) h

  delivered : (m : Message) → slice_get s.bag i ≡ Some m → can_deliver s.running m ≡ true → RepliesAt m.to m.packet k.reply → (to : Party) → m.to ≡ to → SnapshotsStand tells plan (handled plan k s (remove s.bag i) to m.packet) (starts ++ starts_by s.switch to m.packet)
  delivered m at can answers (Client c) to = none_new _ (taken_stands plan s starts h (remove s.bag i) (rest_taken s.bag i m at) c m.packet (h.packets m (among_at m s.bag i at)))
  delivered m at can answers Switch to = at_switch m at runs m.packet refl (h.packets m (among_at m s.bag i at))
    where
      up : (b : Bool) → (b || not (is_switch m.to)) ≡ true → b ≡ true
      up true e = refl
      up false e = absurd (let off : not (is_switch m.to) ≡ false = ap (λ w. not (is_switch w)) to in let clash : true ≡ false = sym e ∙ off in cc)

      runs : s.running ≡ true
      runs = up s.running can
  delivered m at can answers (Server n) to = none_new _ (served_stands plan s starts h (remove s.bag i) (rest_taken s.bag i m at) n m.packet k.reply (subst (λ w. RepliesAt w m.packet k.reply) to answers))
  delivered m at can answers Controller to = none_new _ (at_controller m at m.packet refl)

  pub delivery_stands : (o : Option Message) → slice_get s.bag i ≡ o → can_deliver_some s.running o ≡ true → RepliesToMessage o k.reply → SnapshotsStand tells plan (delivers plan k s i o) (starts ++ starts_with s.switch o)
  delivery_stands None at can answers = absurd cc
  delivery_stands (Some m) at can answers = delivered m at can answers m.to refl

-- ---- the other events

module _ {tells : Bool} (plan : PlanView) (s : State) (starts : List SnapshotStart) (h : SnapshotsStand tells plan s starts) (owed : Needs tells plan s) where
  tick_stands : (o : Option (Turn ControllerState)) → tick s.controller ≡ o → SnapshotsStand tells plan (ticks s o) starts
  tick_stands None e = h
  tick_stands (Some t) e = aside_stands plan s starts s.bag t s.done (rest_all s.bag) (tick_aside s.controller t e) h

  round_stands : (k : Keeping) (o : Option ℕ) → ready s.controller ≡ o → SnapshotsStand tells plan (restarts plan k s o) starts
  round_stands k None e = h
  round_stands k (Some n) e = restart_stands plan k s starts h owed n e

  no_job : (o : Option Job) → is_some o ≡ false → o ≡ None
  no_job None e = refl
  no_job (Some j) e = absurd cc

  order_event : (o : Option Order) → is_order_due s o ≡ true → (done : ℕ) → SnapshotsStand tells plan (record (does_order plan s o) { done = done }) starts
  order_event None due done = absurd cc
  order_event (Some (AdmitOrder step key)) due done = aside_stands plan s starts s.bag (idle (wanted key s.controller)) done (rest_all s.bag) (wanted_aside s.controller key) h
  order_event (Some (EvictOrder step key)) due done = aside_stands plan s starts s.bag (evict_key key s.controller) done (rest_all s.bag) (evict_aside s.controller key) h
  order_event (Some (SnapOrder step)) due done =
      let possible = both (is_possible s (SnapOrder step)) _ due in
      let runs = both s.running (not (is_some s.controller.job) && not (is_some s.controller.round)) possible.0 in
      let free = both (not (is_some s.controller.job)) (not (is_some s.controller.round)) runs.1 in
      order_stands plan s starts h owed runs.0 (no_job s.controller.job (not_true (is_some s.controller.job) free.0)) done
  order_event (Some (StopOrder step)) due done = stop_stands plan s starts h done
  order_event (Some (StopAtOrder kind times)) due done = stop_stands plan s starts h done

-- what holds of snapshots before an event holds after it
module _ {tells : Bool} where
  pub event_stands_with : (plan : PlanView) (k : Keeping) (s : State) (p : Past) (e : Event) → SnapshotsStand tells plan s p.starts → Needs tells plan s → AnswersInKind s e k → is_enabled plan s e ≡ true → SnapshotsStand tells plan (happens_with plan k s e) (remembers s p e).starts
  event_stands_with plan k s p (Send c) h owed answers can = subst (SnapshotsStand tells plan (happens_with plan k s (Send c))) (sym (append-nil p.starts)) (sent_stands plan s p.starts h s.bag (rest_all s.bag) c (client_at s c).left)
  event_stands_with plan k s p (Deliver i) h owed answers can = delivery_stands plan s p.starts h owed i k (slice_get s.bag i) refl can answers
  event_stands_with plan k s p Tick h owed answers can = subst (SnapshotsStand tells plan (happens_with plan k s Tick)) (sym (append-nil p.starts)) (tick_stands plan s p.starts h owed (tick s.controller) refl)
  event_stands_with plan k s p Recover h owed answers can = subst (SnapshotsStand tells plan (happens_with plan k s Recover)) (sym (append-nil p.starts)) (recover_stands plan s p.starts h (not_true s.running (both (not s.running) _ can).0))
  event_stands_with plan k s p Restart h owed answers can = subst (SnapshotsStand tells plan (happens_with plan k s Restart)) (sym (append-nil p.starts)) (round_stands plan s p.starts h owed k (ready s.controller) refl)
  event_stands_with plan k s p (OrderOf j) h owed answers can =
      let first = both (nat_eq j s.done) (is_order_enabled plan s) can in
      subst (SnapshotsStand tells plan (happens_with plan k s (OrderOf j))) (sym (append-nil p.starts))
      (order_event plan s p.starts h owed (slice_get plan.orders j) (ap (λ n. is_order_due s (slice_get plan.orders n)) (eqb-true j s.done first.0) ∙ first.1) (s.done + 1))

-- the rule of a server answers in kind
pub keepers_answer : (s : State) (e : Event) → AnswersInKind s e (keeping_of s e)
keepers_answer s (Deliver i) = go (slice_get s.bag i)
  where
    at : (to : Party) (p : Packet) → RepliesAt to p (reply_at s to p)
    at (Server n) p = replies_in_kind n (records_at s n) p
    at (Client c) p = tt
    at Switch p = tt
    at Controller p = tt

    go : (o : Option Message) → RepliesToMessage o (reply_to s o)
    go None = tt
    go (Some m) = at m.to m.packet
keepers_answer s _ = tt

module _ {tells : Bool} where
  pub event_stands : (plan : PlanView) (s : State) (p : Past) (e : Event) → SnapshotsStand tells plan s p.starts → Needs tells plan s → is_enabled plan s e ≡ true → SnapshotsStand tells plan (happens plan s e) (remembers s p e).starts
  event_stands plan s p e h owed can = event_stands_with plan (keeping_of s e) s p e h owed (keepers_answer s e) can

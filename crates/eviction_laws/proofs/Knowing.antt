-- What was shown stays known: what a turn of each party has to say of what it shows anew.
use Rattle.far_invariants.specs.Covers.{IsKnown, look}
use Rattle.far_invariants.proofs.Noted.{IsNote, member, log_cases}
use Rattle.std.proofs.Common.{◌≡◌, ◌≢◌, ℕ, zero, suc, ◌≤◌, ◌⊎◌, inl, inr, Bool, List, [], ◌∷◌, ◌++◌, refl, sym, ap, ◌∙◌, subst, arith, le_trans}
use Rattle.std.specs.Prelude.{Option, Some, None, if◌then◌else◌, ◌&&◌, nat_eq, slice_get, set}
use Rattle.std.specs.List.{remove, count_by}
use Rattle.std.proofs.lemmas.List.{get_or-set_other}
use Rattle.far_base.specs.PlanView.{PlanView}
use Rattle.far_base.specs.declared.log.LogEntry.{LogEntry}
use Rattle.far_base.specs.declared.log.LogEntry.TheVariants.{Emitted}
use Rattle.far_base.specs.declared.log.LogLine.{LogLine}
use Rattle.far_base.specs.declared.packet.Message.{Message}
use Rattle.far_base.specs.declared.packet.Out.{Out}
use Rattle.far_base.specs.declared.packet.Packet.{Packet}
use Rattle.far_base.specs.declared.packet.Packet.TheVariants.{GetRep, WriteRep, GetAns, WriteAns, PeekAns, RemoveAns, SnapPart, Store, Told, SnapSame}
use Rattle.far_base.specs.declared.party.Party.{Party}
use Rattle.far_base.specs.declared.party.Party.TheVariants.{Client, Switch, Controller}
use Rattle.far_base.specs.declared.record.Record.{Record}
use Rattle.far_model.specs.Clients.{ClientState, line_of}
use Rattle.far_model.specs.Controller.{ControllerState}
use Rattle.far_model.specs.Events.{client_turn, controller_turn, server_turn, reply_message}
use Rattle.far_model.specs.Evictions.{Eviction}
use Rattle.far_model.specs.Members.{Among, Each}
use Rattle.far_model.specs.Parties.{Turn, messages_from}
use Rattle.far_model.specs.Pass.{Passed, passed_out, outs_of, is_as_before, part_packet}
use Rattle.far_model.specs.Snapshots.{Job, view_records, view_in}
use Rattle.far_model.specs.State.{State, client_at, nobody, line_at, now}
use Rattle.far_model.specs.View.{SlotView, SwitchView, slot_at, held_record}
use Rattle.far_model.proofs.Members.{among_append, among_map_from, each_among}
use Rattle.record_laws.proofs.Admissions.{nat_cases}
use Rattle.record_laws.proofs.Controls.{IsControlNote}
use Rattle.record_laws.proofs.Slots.{SetsSlot}
use Rattle.record_laws.proofs.Step.{passed_state}
use Rattle.far_invariants.specs.Known.{RecordIsKnown, ViewIsKnown, PacketIsKnown, ShownIsKnown}
use Rattle.far_invariants.specs.Evictions.{Onward}
use Rattle.flight_laws.proofs.Lists.{by_test}

pub known_onward : (plan : PlanView) (s t : State) → Onward plan s t → (key : List ℕ) (num : ℕ) → IsKnown plan s key num → IsKnown plan t key num
known_onward plan s t o key num (inl w) = inl (record { op = w.op; on_key = w.on_key; numbered_at = w.numbered_at; numbered = o.still _ w.numbered; absorbed = record { emitted_at = w.absorbed.emitted_at; body = w.absorbed.body; emitted = o.still _ w.absorbed.emitted } })
known_onward plan s t o key num (inr b) = inr (le_trans b (o.more key))

pub view_onward : (plan : PlanView) (s t : State) → Onward plan s t → (view : Option Record) → ViewIsKnown plan s view → ViewIsKnown plan t view
view_onward plan s t o None h = tt
view_onward plan s t o (Some r) h = known_onward plan s t o r.key r.num h

-- the key that is evicted is that which was evicted before
pub record WasEvicting (s : State) (e : Eviction) : Type 0 where
  pub before : Eviction
  pub is : s.controller.eviction ≡ Some before
  pub same : before.key ≡ e.key

abbrev pub EvictsOn : State → State → Type 0
EvictsOn s t = (e : Eviction) → t.controller.eviction ≡ Some e → WasEvicting s e

pub packet_onward : (plan : PlanView) (s t : State) → Onward plan s t → EvictsOn s t → (p : Packet) → PacketIsKnown plan s p → PacketIsKnown plan t p
packet_onward plan s t o on (GetRep caller op key tag num body) h = le_trans h (o.more key)
packet_onward plan s t o on (WriteRep caller op key num body) h = le_trans h (o.more key)
packet_onward plan s t o on (GetAns caller op key num body near) h = known_onward plan s t o _ num h
packet_onward plan s t o on (WriteAns caller op key num kept) h = known_onward plan s t o _ num h
packet_onward plan s t o on (PeekAns i tag latest num body) h = λ e is. let w = on e is in subst (λ key. IsKnown plan t key num) w.same (known_onward plan s t o w.before.key num (h w.before w.is))
packet_onward plan s t o on (RemoveAns i tag done latest num body) h = λ e is. let w = on e is in subst (λ key. IsKnown plan t key num) w.same (known_onward plan s t o w.before.key num (h w.before w.is))
packet_onward plan s t o on (SnapPart id i view) h = view_onward plan s t o view h
packet_onward plan s t o on (Store job item) h = known_onward plan s t o item.key item.num h
packet_onward plan s t o on (Told round caller total item) h = view_onward plan s t o item h
packet_onward plan s t o on _ h = tt

-- ---- lines

abbrev pub NoteIsKnown : PlanView → State → LogEntry → Type 0
NoteIsKnown plan t (Emitted op num body near) = IsKnown plan t (line_of plan.ops op).key num
NoteIsKnown plan t _ = Unit {0}

pub lines_known : (plan : PlanView) (s t : State) (notes : List LogEntry) → t.log ≡ Rattle.far_model.specs.State.noted s notes → Onward plan s t → ShownIsKnown plan s → Each (NoteIsKnown plan t) notes
    → (at op num : ℕ) (body : Option (List ℕ)) (near : Bool) → Among (line_at at (Emitted op num body near)) t.log → IsKnown plan t (line_of plan.ops op).key num
lines_known plan s t notes e o h new at op num body near a = go (log_cases s t notes e _ a)
  where
    go : Among (line_at at (Emitted op num body near)) s.log ⊎ IsNote notes (now s) (line_at at (Emitted op num body near)) → IsKnown plan t (line_of plan.ops op).key num
    go (inl b) = known_onward plan s t o _ num (h.lines at op num body near b)
    go (inr n) = subst (NoteIsKnown plan t) (sym (ap (λ (w : LogLine). w.entry) n.is)) (each_among (NoteIsKnown plan t) n.entry notes new n.among)

control_known : (plan : PlanView) (t : State) (notes : List LogEntry) → Each IsControlNote notes → Each (NoteIsKnown plan t) notes
control_known plan t [] h = tt
control_known plan t (e ∷ es) h = (go e h.0, control_known plan t es h.1)
  where
    go : (e : LogEntry) → IsControlNote e → NoteIsKnown plan t e
    go (Emitted op num body near) c = absurd c
    go _ c = tt

-- ---- what leaves

abbrev pub OutIsKnown : PlanView → State → Option Out → Type 0
OutIsKnown plan t None = Unit {0}
OutIsKnown plan t (Some out) = PacketIsKnown plan t out.packet

outs_known : (plan : PlanView) (t : State) (first second : Option Out) → OutIsKnown plan t first → OutIsKnown plan t second → (m : Message) → Among m (messages_from Switch (outs_of first ++ outs_of second)) → PacketIsKnown plan t m.packet
outs_known plan t None None a b m h = absurd h
outs_known plan t None (Some y) a b m (inl e) = subst (λ (w : Message). PacketIsKnown plan t w.packet) (sym e) b
outs_known plan t None (Some y) a b m (inr h) = absurd h
outs_known plan t (Some x) None a b m (inl e) = subst (λ (w : Message). PacketIsKnown plan t w.packet) (sym e) a
outs_known plan t (Some x) None a b m (inr h) = absurd h
outs_known plan t (Some x) (Some y) a b m (inl e) = subst (λ (w : Message). PacketIsKnown plan t w.packet) (sym e) a
outs_known plan t (Some x) (Some y) a b m (inr (inl e)) = subst (λ (w : Message). PacketIsKnown plan t w.packet) (sym e) b
outs_known plan t (Some x) (Some y) a b m (inr (inr h)) = absurd h

abbrev pub EachIsKnown : PlanView → State → List Out → Type 0
EachIsKnown plan t outs = Each (λ (o : Out). PacketIsKnown plan t o.packet) outs

sent_known : (plan : PlanView) (t : State) (from : Party) (outs : List Out) → EachIsKnown plan t outs → (m : Message) → Among m (messages_from from outs) → PacketIsKnown plan t m.packet
sent_known plan t from outs h m a =
    let p = among_map_from (λ (o : Out). record { from = from; to = o.to; packet = o.packet }) m outs a in
    subst (λ (w : Message). PacketIsKnown plan t w.packet) (sym p.2) (each_among (λ (o : Out). PacketIsKnown plan t o.packet) p.0 outs h p.1)

pub evicts_same : (s t : State) → t.controller.eviction ≡ s.controller.eviction → EvictsOn s t
evicts_same s t same e is = record { before = e; is = sym same ∙ is; same = refl }

rest_known : (plan : PlanView) (s t : State) → Onward plan s t → EvictsOn s t → ShownIsKnown plan s → (rest new : List Message) → ((m : Message) → Among m rest → Among m s.bag) → ((m : Message) → Among m new → PacketIsKnown plan t m.packet)
    → (m : Message) → Among m (rest ++ new) → PacketIsKnown plan t m.packet
rest_known plan s t o on h rest new rests news m a = go (among_append m rest new a)
  where
    go : Among m rest ⊎ Among m new → PacketIsKnown plan t m.packet
    go (inl b) = packet_onward plan s t o on m.packet (h.packets m (rests m b))
    go (inr b) = news m b

-- ---- a pass of the switch

module _ (plan : PlanView) (s : State) (h : ShownIsKnown plan s) (rest : List Message) (rests : (m : Message) → Among m rest → Among m s.bag) (packet : Packet) where
  pub pass_onward : (p : Passed) (notes : List LogEntry) → Onward plan s (passed_state s rest packet p notes)
  pass_onward p notes = record { still = member s (passed_state s rest packet p notes) notes refl; past = omega arith; more = λ key. omega arith }

  pub pass_knows : (p : Passed) (notes : List LogEntry) → Each (NoteIsKnown plan (passed_state s rest packet p notes)) notes
      → ((i : ℕ) (key : List ℕ) → (slot_at p.view i).key ≡ Some key → IsKnown plan (passed_state s rest packet p notes) key (slot_at p.view i).num)
      → OutIsKnown plan (passed_state s rest packet p notes) p.first → OutIsKnown plan (passed_state s rest packet p notes) p.second → ShownIsKnown plan (passed_state s rest packet p notes)
  pass_knows p notes new slots first second =
      let t : State = passed_state s rest packet p notes in
      let o = pass_onward p notes in
      record {
        lines = lines_known plan s t notes refl o h new;
        slots = slots;
        packets = rest_known plan s t o (evicts_same s t refl) h rest (messages_from Switch (passed_out p)) rests (outs_known plan t p.first p.second first second);
        preserved = λ c r a. known_onward plan s t o r.key r.num (h.preserved c r a);
        parts = λ job is part a. view_onward plan s t o (view_in part) (h.parts job is part a);
        last = λ r a. known_onward plan s t o r.key r.num (h.last r a);
        item = λ e is. known_onward plan s t o e.key e.item.num (h.item e is);
      }

  -- slots that stay, and one that is set
  pub slots_same : (p : Passed) (notes : List LogEntry) → p.view.slots ≡ s.switch.slots → (i : ℕ) (key : List ℕ) → (slot_at p.view i).key ≡ Some key → IsKnown plan (passed_state s rest packet p notes) key (slot_at p.view i).num
  slots_same p notes same i key is =
      let q : slot_at p.view i ≡ slot_at s.switch i = ap (λ l. Rattle.std.specs.Prelude.slice_index_or l i Rattle.far_model.specs.View.empty_slot) same in
      subst (λ (w : SlotView). IsKnown plan (passed_state s rest packet p notes) key w.num) (sym q)
      (known_onward plan s (passed_state s rest packet p notes) (pass_onward p notes) key _ (h.slots i key (sym (ap (λ (w : SlotView). w.key) q) ∙ is)))

  pub slots_set : (p : Passed) (notes : List LogEntry) (v : SwitchView) → ((j : ℕ) → slot_at v j ≡ slot_at s.switch j) → (i : ℕ) (slot : SlotView) → SetsSlot v p.view i slot → ((key : List ℕ) → slot.key ≡ Some key → IsKnown plan (passed_state s rest packet p notes) key slot.num)
      → (j : ℕ) (key : List ℕ) → (slot_at p.view j).key ≡ Some key → IsKnown plan (passed_state s rest packet p notes) key (slot_at p.view j).num
  slots_set p notes v same i slot sets new j key is = go (nat_cases j i)
    where
      go : (j ≡ i) ⊎ (j ≢ i) → IsKnown plan (passed_state s rest packet p notes) key (slot_at p.view j).num
      go (inl e) =
          let q : slot_at p.view j ≡ slot = ap (slot_at p.view) e ∙ sets.here in
          subst (λ (w : SlotView). IsKnown plan (passed_state s rest packet p notes) key w.num) (sym q) (new key (sym (ap (λ (w : SlotView). w.key) q) ∙ is))
      go (inr ne) =
          let q : slot_at p.view j ≡ slot_at s.switch j = sets.there j ne ∙ same j in
          subst (λ (w : SlotView). IsKnown plan (passed_state s rest packet p notes) key w.num) (sym q)
          (known_onward plan s (passed_state s rest packet p notes) (pass_onward p notes) key _ (h.slots j key (sym (ap (λ (w : SlotView). w.key) q) ∙ is)))

-- ---- a turn of the controller

module _ (plan : PlanView) (s : State) (h : ShownIsKnown plan s) (rest : List Message) (turn : Turn ControllerState) (done : ℕ) where
  abbrev ruled : State
  ruled = record (controller_turn s rest turn) { done = done }

  pub ruled_onward : Onward plan s ruled
  ruled_onward = record { still = member s ruled turn.notes refl; past = omega arith; more = λ key. omega arith }

  pub turn_knows : ((m : Message) → Among m rest → PacketIsKnown plan ruled m.packet) → Each IsControlNote turn.notes → EachIsKnown plan ruled turn.out
      → ((job : Job) → turn.state.job ≡ Some job → (part : Option (Option Record)) → Among part job.parts → ViewIsKnown plan ruled (view_in part))
      → ((r : Record) → Among r (view_records turn.state.last.views) → RecordIsKnown plan ruled r)
      → ((e : Eviction) → turn.state.eviction ≡ Some e → IsKnown plan ruled e.key e.item.num)
      → ShownIsKnown plan ruled
  turn_knows olds notes outs parts last item = record {
    lines = lines_known plan s ruled turn.notes refl ruled_onward h (control_known plan ruled turn.notes notes);
    slots = λ i key is. known_onward plan s ruled ruled_onward key _ (h.slots i key is);
    packets = λ m a. go m (among_append m rest (messages_from Controller turn.out) a);
    preserved = λ c r a. known_onward plan s ruled ruled_onward r.key r.num (h.preserved c r a);
    parts = parts;
    last = last;
    item = item;
  }
    where
      go : (m : Message) → Among m rest ⊎ Among m (messages_from Controller turn.out) → PacketIsKnown plan ruled m.packet
      go m (inl b) = olds m b
      go m (inr b) = sent_known plan ruled Controller turn.out outs m b

  pub olds_known : ((m : Message) → Among m rest → Among m s.bag) → EvictsOn s ruled → (m : Message) → Among m rest → PacketIsKnown plan ruled m.packet
  olds_known rests on m a = packet_onward plan s ruled ruled_onward on m.packet (h.packets m (rests m a))

  pub parts_stay : turn.state.job ≡ s.controller.job → (job : Job) → turn.state.job ≡ Some job → (part : Option (Option Record)) → Among part job.parts → ViewIsKnown plan ruled (view_in part)
  parts_stay same job is part a = view_onward plan s ruled ruled_onward (view_in part) (h.parts job (sym same ∙ is) part a)

  pub last_stays : turn.state.last ≡ s.controller.last → (r : Record) → Among r (view_records turn.state.last.views) → RecordIsKnown plan ruled r
  last_stays same r a = known_onward plan s ruled ruled_onward r.key r.num (h.last r (subst (λ (w : Rattle.far_model.specs.Snapshots.SnapshotView). Among r (view_records w.views)) same a))

  pub item_stays : turn.state.eviction ≡ s.controller.eviction → (e : Eviction) → turn.state.eviction ≡ Some e → IsKnown plan ruled e.key e.item.num
  item_stays same e is = known_onward plan s ruled ruled_onward e.key e.item.num (h.item e (sym same ∙ is))

  pub evicts_on : turn.state.eviction ≡ s.controller.eviction → EvictsOn s ruled
  evicts_on same = evicts_same s ruled same

-- ---- a turn of a client

module _ (plan : PlanView) (s : State) (h : ShownIsKnown plan s) (rest : List Message) (rests : (m : Message) → Among m rest → Among m s.bag) (c : ℕ) (turn : Turn ClientState) where
  abbrev served : State
  served = client_turn s c rest turn

  pub served_onward : Onward plan s served
  served_onward = record { still = member s served turn.notes refl; past = omega arith; more = λ key. omega arith }

  pub client_knows : Each (NoteIsKnown plan served) turn.notes → EachIsKnown plan served turn.out → ((r : Record) → Among r turn.state.preserved → RecordIsKnown plan served r) → ShownIsKnown plan served
  client_knows notes outs preserved = record {
    lines = lines_known plan s served turn.notes refl served_onward h notes;
    slots = λ i key is. known_onward plan s served served_onward key _ (h.slots i key is);
    packets = rest_known plan s served served_onward (evicts_same s served refl) h rest (messages_from (Client c) turn.out) rests (sent_known plan served (Client c) turn.out outs);
    preserved = λ d r a. kept d r a (nat_cases d c);
    parts = λ job is part a. view_onward plan s served served_onward (view_in part) (h.parts job is part a);
    last = λ r a. known_onward plan s served served_onward r.key r.num (h.last r a);
    item = λ e is. known_onward plan s served served_onward e.key e.item.num (h.item e is);
  }
    where
      old : (d : ℕ) (r : Record) → Among r (client_at s d).preserved → RecordIsKnown plan served r
      old d r a = known_onward plan s served served_onward r.key r.num (h.preserved d r a)

      within : (d : ℕ) (r : Record) → Among r (client_at served d).preserved → d ≡ c → (client_at served c ≡ turn.state) ⊎ (client_at served c ≡ client_at s c) → RecordIsKnown plan served r
      within d r a e (inl q) = preserved r (subst (λ (w : ClientState). Among r w.preserved) (ap (client_at served) e ∙ q) a)
      within d r a e (inr q) = old c r (subst (λ (w : ClientState). Among r w.preserved) (ap (client_at served) e ∙ q) a)

      set_cases : (xs : List ClientState) (i : ℕ) → (Rattle.std.specs.Prelude.slice_index_or (set xs i turn.state) i nobody ≡ turn.state) ⊎ (Rattle.std.specs.Prelude.slice_index_or (set xs i turn.state) i nobody ≡ Rattle.std.specs.Prelude.slice_index_or xs i nobody)
      set_cases [] zero = inr refl
      set_cases [] (suc i) = inr refl
      set_cases (x ∷ xs) zero = inl refl
      set_cases (x ∷ xs) (suc i) = set_cases xs i

      kept : (d : ℕ) (r : Record) → Among r (client_at served d).preserved → (d ≡ c) ⊎ (d ≢ c) → RecordIsKnown plan served r
      kept d r a (inl e) = within d r a e (set_cases s.clients c)
      kept d r a (inr ne) = old d r (subst (λ (w : ClientState). Among r w.preserved) (get_or-set_other s.clients c d turn.state nobody ne) a)

-- ---- a turn of a server

module _ (plan : PlanView) (s : State) (h : ShownIsKnown plan s) (rest : List Message) (rests : (m : Message) → Among m rest → Among m s.bag) (n : ℕ) (p q : Packet) where
  abbrev replied : State
  replied = server_turn s n rest p (Some q)

  pub server_knows : ((key : List ℕ) → (look plan s key).num ≤ (look plan replied key).num) → PacketIsKnown plan replied q → ShownIsKnown plan replied
  server_knows more reply =
      let o : Onward plan s replied = record { still = member s replied [] refl; past = omega arith; more = more } in
      record {
        lines = lines_known plan s replied [] refl o h tt;
        slots = λ i key is. known_onward plan s replied o key _ (h.slots i key is);
        packets = rest_known plan s replied o (evicts_same s replied refl) h rest (reply_message n (Some q)) rests one;
        preserved = λ d r a. known_onward plan s replied o r.key r.num (h.preserved d r a);
        parts = λ job is part a. view_onward plan s replied o (view_in part) (h.parts job is part a);
        last = λ r a. known_onward plan s replied o r.key r.num (h.last r a);
        item = λ e is. known_onward plan s replied o e.key e.item.num (h.item e is);
      }
    where
      one : (m : Message) → Among m (reply_message n (Some q)) → PacketIsKnown plan replied m.packet
      one m (inl e) = subst (λ (w : Message). PacketIsKnown plan replied w.packet) (sym e) reply
      one m (inr a) = absurd a

-- the part of a slot shows what the slot has, or nothing
pub part_known : (plan : PlanView) (t : State) (v : SwitchView) (i : ℕ) → ViewIsKnown plan t (held_record (slot_at v i)) → PacketIsKnown plan t (part_packet v i)
part_known plan t v i h = by_test (PacketIsKnown plan t) (is_as_before v i) (SnapSame v.snap i) (SnapPart v.snap i (held_record (slot_at v i))) tt h

pub among_views : (r : Record) (views : List (Option Record)) (i : ℕ) → slice_get views i ≡ Some (Some r) → Among r (view_records views)
among_views r [] i e = absurd cc
among_views r (None ∷ views) zero e = absurd cc
among_views r (Some x ∷ views) zero e = inl (let same : Some (Some x) ≡ Some (Some r) = e in cc)
among_views r (None ∷ views) (suc i) e = among_views r views i e
among_views r (Some x ∷ views) (suc i) e = inr (among_views r views i e)

-- Every event keeps it that each tag was drawn once, where the switch may stop too.
use Rattle.std.proofs.Common.{◌≡◌, ◌≢◌, ℕ, zero, suc, ◌+◌, ◌<◌, ◌≤◌, ◌⊎◌, inl, inr, true, List, [], ◌∷◌, ◌++◌, append-nil, length, refl, sym, ap, ◌∙◌, subst, arith}
use Rattle.std.specs.Prelude.{Bool, false, Option, Some, None, set}
use Rattle.std.specs.List.{remove}
use Rattle.std.proofs.lemmas.Option.{same_Some}
use Rattle.std.proofs.lemmas.List.{get_or-set_same, get_or-set_other}
use Rattle.far_base.specs.PlanView.{PlanView}
use Rattle.far_base.specs.declared.event.Event.{Event}
use Rattle.far_base.specs.declared.packet.Message.{Message}
use Rattle.far_base.specs.declared.packet.Out.{Out}
use Rattle.far_base.specs.declared.packet.Packet.{Packet}
use Rattle.far_base.specs.declared.packet.Packet.TheVariants.{GetFwd, GetRep, Admit, AdmitAck, Peek, PeekAns, Remove, RemoveAns}
use Rattle.far_base.specs.declared.party.Party.TheVariants.{Client, Switch, Controller}
use Rattle.far_base.specs.declared.plan.Order.{Order}
use Rattle.far_base.specs.declared.slot_state.SlotState.{SlotState}
use Rattle.far_base.specs.declared.slot_state.SlotState.TheVariants.{Free, Admitting, Held, Evicting}
use Rattle.far_model.specs.Clients.{ClientState, request, line_of}
use Rattle.far_model.specs.Controller.{ControllerState, admits_want, evicts, first_want_dropped, is_last_present, ready, ready_in, start_recovery}
use Rattle.far_model.specs.Events.{Keeping, controller_turn}
use Rattle.far_model.specs.Evictions.{Eviction, first_place, hand_after, is_free, is_held, key_in, state_at, tag_in}
use Rattle.far_model.specs.Log.{is_read}
use Rattle.far_model.specs.Members.{Among, Each}
use Rattle.far_model.specs.Parties.{Turn, idle, to_party}
use Rattle.far_model.specs.Pass.{Passed, numbered, passed_out}
use Rattle.far_model.specs.Rounds.{Round}
use Rattle.far_model.specs.State.{State, client_at}
use Rattle.far_model.specs.Steps.{PassRow, ReadHit, ReadOutdated, ReadMiss, WriteHit, WriteMiss, ReadReply, WriteReply, AdmitBinds, PeekShows, PeekGone, RemoveLatest, RemoveOutdated, RemoveNot, RemoveGone, SnapBegins, SnapBeginsFrom, PartRead}
use Rattle.far_model.specs.Steps.{ServerRow, ReadServed, ServerIgnores, ClientRow, Asked}
use Rattle.far_model.specs.Steps.{EvictionRow, PeekedLatest, PeekedOutdated, ItemStored, RemovalDone, RemovalAgain, GivenUp, GivenUpForWant, RuleRow, Wants, Acked, Evicts, Snaps, Recovering, Ignores}
use Rattle.far_model.specs.Steps.{TickRow, WantDropped, WantAdmitted, RoomMade, OrderRow, WantOrdered, EvictionOrdered, NoneToEvict, SnapshotOrdered, Step, Sends, ClientTakes, Passes, Serves, Rules, Ticks, Recovers, Restarts, Orders, Stops}
use Rattle.far_model.specs.View.{slot_at}
use Rattle.far_model.proofs.Members.{among_append, among_append_left, among_append_right, pairs_append, among_at, among_remove}
use Rattle.far_model.proofs.Rows.{bag_replied, bag_sent, change_sends, part_is, recovery_leaves, recovery_sends, recovery_start_sends, reply_sends, snapshot_leaves, snapshot_sends, tells_send, touch_sends}
use Rattle.far_invariants.specs.DrawnTags.{drawing, WasDrawn, WasDrawnAt, TagIsDrawn, TagsAreDrawn, SlotTagsAreDrawn}
use Rattle.far_invariants.specs.Holds.{Holds}
use Rattle.far_invariants.specs.Evictions.{EvictionIs}
use Rattle.far_invariants.specs.Past.{DrawnTag, Past, drawn_with, drawn_in, new_drawn, remembers}
use Rattle.far_invariants.specs.Slots.{IsGiven}
use Rattle.flight_laws.proofs.Lists.{by_test, get_or-replicate_default}
use Rattle.record_laws.proofs.Admissions.{nat_cases, first_some}
use Rattle.record_laws.proofs.Seats.{owner}
use Rattle.record_laws.proofs.Slots.{IsEntry, entry_is, both, there_is}
use Rattle.eviction_laws.proofs.Beginning.{key_held, victim_held}
use Rattle.eviction_laws.proofs.Seating.{held_is}

tag_more : (drawn new : List DrawnTag) (p : Packet) → TagIsDrawn drawn p → TagIsDrawn (drawn ++ new) p
tag_more drawn new (GetFwd caller op key tag) h = λ above. let w = h above in record { slot = w.slot; epoch = w.epoch; there = among_append_left _ drawn new w.there }
tag_more drawn new (GetRep caller op key tag num body) h = λ above. let w = h above in record { slot = w.slot; epoch = w.epoch; there = among_append_left _ drawn new w.there }
tag_more drawn new (Admit epoch i key tag) h = among_append_left _ drawn new h
tag_more drawn new (AdmitAck i tag) h = record { key = h.key; epoch = h.epoch; there = among_append_left _ drawn new h.there }
tag_more drawn new (Peek epoch i tag) h = record { key = h.key; there = among_append_left _ drawn new h.there }
tag_more drawn new (PeekAns i tag latest num body) h = record { key = h.key; epoch = h.epoch; there = among_append_left _ drawn new h.there }
tag_more drawn new (Remove epoch i tag latest num) h = record { key = h.key; there = among_append_left _ drawn new h.there }
tag_more drawn new (RemoveAns i tag done latest num body) h = record { key = h.key; epoch = h.epoch; there = among_append_left _ drawn new h.there }
tag_more drawn new _ h = tt

-- a step that draws no tag
record DrawsNone (s t : State) (drawn : List DrawnTag) : Type 0 where
  pub tags : s.controller.next_tag ≡ t.controller.next_tag
  pub epoch : t.controller.epoch ≡ s.controller.epoch
  pub given : (i : ℕ) (key : List ℕ) (tag : ℕ) → IsGiven key tag (state_at t.controller.slots i) → IsGiven key tag (state_at s.controller.slots i)
  pub packets : (m : Message) → Among m t.bag → TagIsDrawn drawn m.packet

none_drawn : (s t : State) (drawn : List DrawnTag) → TagsAreDrawn s drawn → DrawsNone s t drawn → TagsAreDrawn t drawn
none_drawn s t drawn h n = record {
  below = λ d a. let b = h.below d a in let e = n.tags in let q = n.epoch in let below = b.1 in let later = b.2 in (b.0, omega (arith, below, e), omega (arith, later, q));
  once = h.once;
  positive = let p = h.positive in let e = n.tags in omega (arith, p, e);
  states = λ i key tag g. subst (λ w. WasDrawn drawn tag key i w) (sym n.epoch) (h.states i key tag (n.given i key tag g));
  packets = n.packets;
}

-- ---- states that are set

given_set : (slots : List SlotState) (i : ℕ) (st : SlotState) → ((key : List ℕ) (tag : ℕ) → IsGiven key tag st → IsGiven key tag (state_at slots i)) → (j : ℕ) (key : List ℕ) (tag : ℕ) → IsGiven key tag (state_at (set slots i st) j) → IsGiven key tag (state_at slots j)
given_set [] zero st h j key tag g = g
given_set [] (suc i) st h j key tag g = g
given_set (x ∷ xs) zero st h zero key tag g = h key tag g
given_set (x ∷ xs) zero st h (suc j) key tag g = g
given_set (x ∷ xs) (suc i) st h zero key tag g = g
given_set (x ∷ xs) (suc i) st h (suc j) key tag g = given_set xs i st h j key tag g

-- a turn of the controller that draws no tag
record TurnDraws (s : State) (drawn : List DrawnTag) (t : Turn ControllerState) : Type 0 where
  pub tags : s.controller.next_tag ≡ t.state.next_tag
  pub epoch : t.state.epoch ≡ s.controller.epoch
  pub given : (i : ℕ) (key : List ℕ) (tag : ℕ) → IsGiven key tag (state_at t.state.slots i) → IsGiven key tag (state_at s.controller.slots i)
  pub outs : Each (λ (o : Out). TagIsDrawn drawn o.packet) t.out

-- the tag of a valid slot was drawn
pub slot_drawn : (plan : PlanView) (past : Past) (s : State) → Holds plan past s → SlotTagsAreDrawn s past.drawn
slot_drawn plan past s h runs i key valid key_is = h.drawn.states i key (slot_at s.switch i).tag (owner (slot_at s.switch i) (state_at s.controller.slots i) key (h.seated.slots.fits runs i) valid key_is)

module _ (plan : PlanView) (past : Past) (s : State) (h : Holds plan past s) where
  abbrev drawn : List DrawnTag
  drawn = past.drawn

  d : TagsAreDrawn s past.drawn
  d = h.drawn

  abbrev Draws : Turn ControllerState → Type 0
  Draws t = TurnDraws s drawn t

  abbrev Drawn : Packet → Type 0
  Drawn p = TagIsDrawn drawn p

  abbrev OutDrawn : Out → Type 0
  OutDrawn o = TagIsDrawn drawn o.packet

  abbrev MessageDrawn : Message → Type 0
  MessageDrawn m = TagIsDrawn drawn m.packet

  abbrev EachDrawn : List Out → Type 0
  EachDrawn outs = Each OutDrawn outs

  -- ---- the switch

  pass_draws : (p : Packet) (q : Passed) → s.running ≡ true → PassRow s.switch p q → Drawn p → EachDrawn (passed_out q)
  pass_draws p q runs (ReadHit caller op key i e l) k = (tt, tt)
  pass_draws p q runs (ReadOutdated caller op key i e l) k =
      let is : IsEntry key s.switch i = entry_is key s.switch i e in
      let parts = both (slot_at s.switch i).valid _ is.owned in
      (λ above. record { slot = i; epoch = s.controller.epoch; there = slot_drawn plan past s h runs i key parts.0 (there_is key (slot_at s.switch i).key parts.1) }, tt)
  pass_draws p q runs (ReadMiss caller op key hot e touch) k = (λ above. absurd (omega (arith, above)), touch_sends OutDrawn s.switch key hot touch tt)
  pass_draws p q runs (WriteHit caller op key body i w part e c) k = (tt, change_sends OutDrawn (numbered s.switch) i _ w part c (λ r. tt) tt)
  pass_draws p q runs (WriteMiss caller op key body hot e touch) k = (tt, touch_sends OutDrawn (numbered s.switch) key hot touch tt)
  pass_draws p q runs (ReadReply caller op key tag num body w part r) k = (tt, reply_sends OutDrawn s.switch _ key num body w part r (λ i x. tt) (λ i. tt))
  pass_draws p q runs (WriteReply caller op key num body w part r) k = (tt, reply_sends OutDrawn s.switch _ key num body w part r (λ i x. tt) (λ i. tt))
  pass_draws p q runs (AdmitBinds epoch i key tag e f) k = (record { key = key; epoch = epoch; there = k }, tt)
  pass_draws p q runs (PeekShows epoch i tag e u) k = (record { key = k.key; epoch = epoch; there = k.there }, tt)
  pass_draws p q runs (RemoveLatest epoch i tag latest num w part e m u l c) k = (record { key = k.key; epoch = epoch; there = k.there }, change_sends OutDrawn s.switch i _ w part c (λ r. tt) tt)
  pass_draws p q runs (RemoveGone epoch i tag latest num e u) k = (record { key = k.key; epoch = epoch; there = k.there }, tt)
  pass_draws p q runs (PartRead epoch i part e t r) k = (part_is OutDrawn s.switch i part r (λ x. tt) tt, tt)
  pass_draws p q runs (PeekGone epoch i tag e u) k = (record { key = k.key; epoch = epoch; there = k.there }, tt)
  pass_draws p q runs (RemoveOutdated epoch i tag latest num e m u l) k = (record { key = k.key; epoch = epoch; there = k.there }, tt)
  pass_draws p q runs (RemoveNot epoch i tag latest num e m u) k = (record { key = k.key; epoch = epoch; there = k.there }, tt)
  pass_draws p q runs (SnapBegins id) k = (tt, tt)
  pass_draws p q runs (SnapBeginsFrom id base) k = (tt, tt)
  pass_draws p q runs _ k = tt

  -- ---- the controller

  same : (t : Turn ControllerState) → t.state.next_tag ≡ s.controller.next_tag → t.state.epoch ≡ s.controller.epoch → t.state.slots ≡ s.controller.slots → EachDrawn t.out → Draws t
  same t tags epoch slots outs = record { tags = sym tags; epoch = epoch; given = λ i key tag g. subst (λ l. IsGiven key tag (state_at l i)) slots g; outs = outs }

  -- the tag of the eviction was drawn in its slot and epoch
  eviction_drawn : (e : Eviction) → s.controller.eviction ≡ Some e → WasDrawnAt drawn e.tag e.slot e.epoch
  eviction_drawn e is =
      let q : EvictionIs plan s e = h.evictions.some e is in
      record { key = e.key; there = subst (λ w. WasDrawn drawn e.tag e.key e.slot w) (sym q.epoch) (d.states e.slot e.key e.tag (subst (IsGiven e.key e.tag) (sym q.state) (refl, refl))) }

  evicting_given : (e : Eviction) → s.controller.eviction ≡ Some e → (key : List ℕ) (tag : ℕ) → IsGiven key tag (Held e.key e.tag) → IsGiven key tag (state_at s.controller.slots e.slot)
  evicting_given e is key tag g = subst (IsGiven key tag) (sym (h.evictions.some e is).state) g

  eviction_draws : (e : Eviction) → s.controller.eviction ≡ Some e → (p : Packet) (t : Turn ControllerState) → EvictionRow plan.config s.controller e p t → Draws t
  eviction_draws e is p t (PeekedLatest i tag num body w) = same _ refl refl refl (tt, tt)
  eviction_draws e is p t (PeekedOutdated i tag num body w) = same _ refl refl refl (eviction_drawn e is, tt)
  eviction_draws e is p t (ItemStored job w) = same _ refl refl refl (eviction_drawn e is, tt)
  eviction_draws e is p t (RemovalAgain i tag latest num body w n) = same _ refl refl refl (tt, tt)
  eviction_draws e is p t (RemovalDone i tag latest num body w) = record { tags = refl; epoch = refl; given = given_set s.controller.slots e.slot Free (λ key own g. absurd g); outs = tt }
  eviction_draws e is p t (GivenUp i tag latest num body w n f) = record { tags = refl; epoch = refl; given = given_set s.controller.slots e.slot (Held e.key e.tag) (evicting_given e is); outs = tt }
  eviction_draws e is p t (GivenUpForWant i tag latest num body w n f) = record { tags = refl; epoch = refl; given = given_set s.controller.slots e.slot (Held e.key e.tag) (evicting_given e is); outs = tt }

  rule_draws : (p : Packet) (t : Turn ControllerState) → RuleRow plan.config s.controller p t → Draws t
  rule_draws p t (Wants key r) = same _ refl refl refl tt
  rule_draws p t (Acked i tag key e) = record { tags = refl; epoch = refl; given = given_set s.controller.slots i (Held key tag) (λ k own g. subst (IsGiven k own) (sym e) g); outs = tt }
  rule_draws p t (Evicts e p2 t2 is r) = eviction_draws e is p t r
  rule_draws p t (Snaps job p2 t2 is r) = let l = snapshot_leaves plan.config s.controller job p t r in same t l.next_tag l.epoch l.slots (snapshot_sends OutDrawn plan.config s.controller job p t r (λ i. tt) (λ n x l. tt))
  rule_draws p t (Recovering r p2 t2 is q) = let l = recovery_leaves plan.config s.controller r p t q in same t l.next_tag l.epoch l.slots (recovery_sends OutDrawn plan.config s.controller r p t q (λ item. tt) (λ n l. tt))
  rule_draws p t (Ignores p2 e) = same _ refl refl refl tt

  evicts_draws : (hand : ℕ) (for_want : Bool) (i : ℕ) → is_held (state_at s.controller.slots i) ≡ true → Draws (evicts (record s.controller { hand = hand }) for_want i)
  evicts_draws hand for_want i held =
      let is : state_at s.controller.slots i ≡ Held (key_in (state_at s.controller.slots i)) (tag_in (state_at s.controller.slots i)) = held_is (state_at s.controller.slots i) held in
      record {
        tags = refl;
        epoch = refl;
        given = given_set s.controller.slots i (Evicting (key_in (state_at s.controller.slots i)) (tag_in (state_at s.controller.slots i))) (λ key tag g. subst (IsGiven key tag) (sym is) g);
        outs = (record { key = key_in (state_at s.controller.slots i); there = d.states i _ _ (subst (IsGiven (key_in (state_at s.controller.slots i)) (tag_in (state_at s.controller.slots i))) (sym is) (refl, refl)) }, tt);
      }

  order_draws : (o : Order) (t : Turn ControllerState) → OrderRow s s.controller o t → Draws t
  order_draws o t (WantOrdered step key r) = same _ refl refl refl tt
  order_draws o t (EvictionOrdered step key i runs e r f) = evicts_draws s.controller.hand false i (key_held key s.controller.slots i f)
  order_draws o t (NoneToEvict step key f) = same _ refl refl refl tt
  order_draws o t (SnapshotOrdered step runs j r) = same _ refl refl refl (by_test Drawn (is_last_present s.controller) _ _ tt tt, tt)

  -- ---- ticks: the first want is admitted under the next tag

  tagged : (key : List ℕ) (i : ℕ) → first_place is_free s.controller.slots ≡ Some i → TagsAreDrawn (controller_turn s s.bag (admits_want s.controller key i)) (drawn ++ drawing s.controller.next_tag key i s.controller.epoch ∷ [])
  tagged key i free = record {
    below = λ w a. below w (among_append w drawn (new ∷ []) a);
    once = pairs_append (λ (a b : DrawnTag). a.tag ≢ b.tag) drawn (new ∷ []) d.once (tt, tt) (λ x y a b. fresh x y a b);
    positive = omega arith;
    states = λ j k tag g. states j k tag (nat_cases j i) g;
    packets = λ m a. packet m (among_append m s.bag (asking ∷ []) a);
  }
    where
      new : DrawnTag
      new = drawing s.controller.next_tag key i s.controller.epoch

      asking : Message
      asking = record { from = Controller; to = Switch; packet = Admit s.controller.epoch i key s.controller.next_tag }

      there : Among (drawing s.controller.next_tag key i s.controller.epoch) (drawn ++ drawing s.controller.next_tag key i s.controller.epoch ∷ [])
      there = among_append_right _ drawn (drawing s.controller.next_tag key i s.controller.epoch ∷ []) (inl refl)

      below : (w : DrawnTag) → Among w drawn ⊎ Among w (drawing s.controller.next_tag key i s.controller.epoch ∷ []) → (0 < w.tag) × (w.tag < s.controller.next_tag + 1) × (w.epoch ≤ s.controller.epoch)
      below w (inl a) = let b = d.below w a in let c = b.1 in (b.0, omega (arith, c), b.2)
      below w (inr (inl e)) =
          let t : w.tag ≡ s.controller.next_tag = ap (λ (x : DrawnTag). x.tag) e in
          let q : w.epoch ≡ s.controller.epoch = ap (λ (x : DrawnTag). x.epoch) e in
          let p = d.positive in (omega (arith, t, p), omega (arith, t), omega (arith, q))
      below w (inr (inr a)) = absurd a

      fresh : (x y : DrawnTag) → Among x drawn → Among y (drawing s.controller.next_tag key i s.controller.epoch ∷ []) → x.tag ≢ y.tag
      fresh x y a (inl e) = λ same. let b = (d.below x a).1 in let t : y.tag ≡ s.controller.next_tag = ap (λ (w : DrawnTag). w.tag) e in omega (arith, b, t, same)
      fresh x y a (inr b) = absurd b

      states : (j : ℕ) (k : List ℕ) (tag : ℕ) → (j ≡ i) ⊎ (j ≢ i) → IsGiven k tag (state_at (controller_turn s s.bag (admits_want s.controller key i)).controller.slots j) → WasDrawn (drawn ++ drawing s.controller.next_tag key i s.controller.epoch ∷ []) tag k j s.controller.epoch
      states j k tag (inl e) g =
          let now : state_at (controller_turn s s.bag (admits_want s.controller key i)).controller.slots i ≡ Admitting key s.controller.next_tag = get_or-set_same s.controller.slots i (Admitting key s.controller.next_tag) Free (first_some is_free s.controller.slots i Free free).0 in
          let mine : (key ≡ k) × (s.controller.next_tag ≡ tag) = subst (IsGiven k tag) now (subst (λ n. IsGiven k tag (state_at (controller_turn s s.bag (admits_want s.controller key i)).controller.slots n)) e g) in
          subst (λ n. WasDrawn (drawn ++ drawing s.controller.next_tag key i s.controller.epoch ∷ []) tag k n s.controller.epoch) (sym e)
          (subst (λ t. WasDrawn (drawn ++ drawing s.controller.next_tag key i s.controller.epoch ∷ []) t k i s.controller.epoch) mine.1
          (subst (λ q. WasDrawn (drawn ++ drawing s.controller.next_tag key i s.controller.epoch ∷ []) s.controller.next_tag q i s.controller.epoch) mine.0 there))
      states j k tag (inr ne) g = among_append_left _ drawn (drawing s.controller.next_tag key i s.controller.epoch ∷ [])
          (d.states j k tag (subst (IsGiven k tag) (get_or-set_other s.controller.slots i j (Admitting key s.controller.next_tag) Free ne) g))

      packet : (m : Message) → Among m s.bag ⊎ Among m (record { from = Controller; to = Switch; packet = Admit s.controller.epoch i key s.controller.next_tag } ∷ []) → TagIsDrawn (drawn ++ drawing s.controller.next_tag key i s.controller.epoch ∷ []) m.packet
      packet m (inl a) = tag_more drawn (drawing s.controller.next_tag key i s.controller.epoch ∷ []) m.packet (d.packets m a)
      packet m (inr (inl e)) = subst (λ (w : Message). TagIsDrawn (drawn ++ drawing s.controller.next_tag key i s.controller.epoch ∷ []) w.packet) (sym e) there
      packet m (inr (inr a)) = absurd a

  none_more : (t : State) → TagsAreDrawn t drawn → TagsAreDrawn t (drawn ++ [])
  none_more t k = subst (TagsAreDrawn t) (sym (append-nil drawn)) k

  turned : (rest : List Message) → ((m : Message) → Among m rest → Among m s.bag) → (turn : Turn ControllerState) (done : ℕ) → Draws turn → TagsAreDrawn (record (controller_turn s rest turn) { done = done }) (drawn ++ [])
  turned rest rests turn done t = none_more _ (none_drawn s (record (controller_turn s rest turn) { done = done }) drawn d (record { tags = t.tags; epoch = t.epoch; given = t.given; packets = bag_sent MessageDrawn s.bag rest Controller turn.out rests d.packets t.outs }))

  tick_draws : (t : Turn ControllerState) → TickRow s.controller t → TagsAreDrawn (controller_turn s s.bag t) (drawn ++ drawn_in t.out)
  tick_draws t (WantDropped key keys i r w h) = turned s.bag (λ m a. a) _ s.done (same (idle (first_want_dropped s.controller)) refl refl refl tt)
  tick_draws t (WantAdmitted key keys i r w h f) = tagged key i f
  tick_draws t (RoomMade key keys i r w f x n) = turned s.bag (λ m a. a) _ s.done (evicts_draws (hand_after i s.controller.slots) true i (victim_held s.controller.hand s.controller.slots i x))

  -- ---- the table

  reply_draws : (n : ℕ) (p : Packet) (reply : Option Packet) → ServerRow n p reply → Drawn p → (q : Packet) → reply ≡ Some q → Drawn q
  reply_draws n p reply (ReadServed caller op key tag num body) k q e = subst Drawn (same_Some _ q e) k
  reply_draws n p reply (ServerIgnores p2 h) k q e = absurd cc
  reply_draws n p reply _ k q e = subst Drawn (same_Some _ q e) tt

  client_draws : (c : ℕ) (p : Packet) (t : Turn ClientState) → ClientRow plan.ops c (client_at s c) p t → EachDrawn t.out
  client_draws c p t (Asked round) = tells_send OutDrawn round c (client_at s c).preserved (λ total item. tt)
  client_draws c p t _ = tt

  -- nothing of the controller changes
  apart : (t : State) → t.controller ≡ s.controller → ((m : Message) → Among m t.bag → Drawn m.packet) → TagsAreDrawn t (drawn ++ [])
  apart t e packets = none_more t (none_drawn s t drawn d (record { tags = ap (λ (c : ControllerState). c.next_tag) (sym e); epoch = ap (λ (c : ControllerState). c.epoch) e; given = λ j key tag g. subst (λ (c : ControllerState). IsGiven key tag (state_at c.slots j)) e g; packets = packets }))

  step_draws : (k : Keeping) (e : Event) (t : State) → Step plan k s e t → TagsAreDrawn t (drawn ++ new_drawn s e)
  step_draws k e t (Sends c op left w l) = apart _ refl (bag_sent MessageDrawn s.bag s.bag (Client c) (to_party Switch (request c op (line_of plan.ops op)) ∷ []) (λ m a. a) d.packets (by_test Drawn (is_read (line_of plan.ops op).op) _ _ tt tt, tt))
  step_draws k e t (ClientTakes i from c p u at r) = apart _ refl (bag_sent MessageDrawn s.bag (remove s.bag i) (Client c) u.out (λ m a. among_remove m s.bag i a) d.packets (client_draws c p u r))
  step_draws k e t (Passes i from p q at runs r) = apart _ refl (bag_sent MessageDrawn s.bag (remove s.bag i) Switch (passed_out q) (λ m a. among_remove m s.bag i a) d.packets (pass_draws p q runs r (d.packets _ (among_at _ s.bag i at))))
  step_draws k e t (Serves i from n p reply at is r) = apart _ refl (bag_replied MessageDrawn s.bag (remove s.bag i) n reply (λ m a. among_remove m s.bag i a) d.packets (reply_draws n p reply r (d.packets _ (among_at _ s.bag i at))))
  step_draws k e t (Rules i from p u at r) = turned (remove s.bag i) (λ m a. among_remove m s.bag i a) u s.done (rule_draws p u r)
  step_draws k e t (Ticks u is r) = subst (λ o. TagsAreDrawn (controller_turn s s.bag u) (drawn ++ drawn_with o)) (sym is) (tick_draws u r)
  step_draws k e t (Recovers can) = turned s.bag (λ m a. a) (start_recovery plan.config s.controller) s.done (record { tags = refl; epoch = refl; given = λ i key tag g. absurd (subst (IsGiven key tag) (get_or-replicate_default (length s.controller.slots) i Free) g); outs = recovery_start_sends OutDrawn plan.config s.controller (λ n l. tt) (λ j item. tt) })
  step_draws k e t (Restarts counter is) = none_more _ (record {
    below = λ w a. let b = d.below w a in let c = b.2 in (b.0, b.1, omega (arith, c));
    once = d.once;
    positive = d.positive;
    states = λ i key tag g. absurd (subst (IsGiven key tag) (freed s.controller.round refl i) g);
    packets = d.packets;
  })
    where
      freed : (r : Option Round) → s.controller.round ≡ r → (i : ℕ) → state_at s.controller.slots i ≡ Free
      freed None none = let off : ready s.controller ≡ None = ap ready_in none in absurd (let clash = sym is ∙ off in cc)
      freed (Some r) q = (h.stops.round r q).goes.free
  step_draws k e t (Orders o u at can r) = turned s.bag (λ m a. a) u (s.done + 1) (order_draws o u r)
  step_draws k e t (Stops o at stop runs) = apart _ refl d.packets

-- every step keeps it that each tag was drawn once
pub row_draws : (plan : PlanView) (past : Past) (s : State) (k : Keeping) (e : Event) (t : State) → Holds plan past s → Step plan k s e t → TagsAreDrawn t (remembers s past e).drawn
row_draws plan past s k e t h row = step_draws plan past s h k e t row

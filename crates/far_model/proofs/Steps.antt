-- Each enabled event of a state is a row, whatever keepers answer.
use Rattle.std.proofs.Common.{◌≡◌, ℕ, ◌+◌, Bool, true, false, not, ◌&&◌, ◌||◌, List, [], ◌∷◌, length, refl, sym, ap, ◌∙◌, subst, eqb-true, ◌++◌, ◌-◌}
use Rattle.std.specs.Prelude.{Option, None, Some, is_some, if◌then◌else◌, nat_eq, nat_lt, nat_le, slice_get, slice_index_or, slice_set, remove}
use Rattle.std.proofs.lemmas.Bool.{and_parts, ltb-true, leb-true}
use Rattle.std.proofs.lemmas.Option.{same_Some}
use Rattle.far_base.specs.PlanView.{PlanView}
use Rattle.far_base.specs.declared.event.Event.{Event}
use Rattle.far_base.specs.declared.event.Event.TheVariants.{Send, Deliver, Tick, Recover, Restart, Order as OrderOf}
use Rattle.far_base.specs.declared.log.LogEntry.TheVariants.{Answered, Admitted}
use Rattle.far_base.specs.declared.packet.Message.{Message}
use Rattle.far_base.specs.declared.packet.Out.{Out}
use Rattle.far_base.specs.declared.packet.Packet.{Packet}
use Rattle.far_base.specs.declared.packet.Packet.TheVariants.{GetReq, WriteReq, GetFwd, WriteFwd, GetRep, WriteRep, GetAns, WriteAns, Hot, Admit, AdmitAck, Peek, PeekAns, Remove, RemoveAns, SnapStart, SnapBegun, SnapRead, SnapPart, SnapSame, SnapFrom, Store, Stored, Release, Ask, Told, TopAsk, TopIs}
use Rattle.far_base.specs.declared.party.Party.{Party}
use Rattle.far_base.specs.declared.party.Party.TheVariants.{Client, Switch, Server, Controller}
use Rattle.far_base.specs.declared.plan.Config.{Config}
use Rattle.far_base.specs.declared.plan.OpLine.{OpLine}
use Rattle.far_base.specs.declared.plan.Order.{Order}
use Rattle.far_base.specs.declared.plan.Order.TheVariants.{Admit as AdmitOrder, Evict as EvictOrder, Snap as SnapOrder, Stop as StopOrder, StopAt as StopAtOrder}
use Rattle.far_base.specs.declared.record.Record.{Record}
use Rattle.far_base.specs.declared.slot_state.Due.TheVariants.{Peeked, Removed}
use Rattle.far_base.specs.declared.slot_state.SlotState.{SlotState}
use Rattle.far_base.specs.declared.slot_state.SlotState.TheVariants.{Free, Admitting, Held, Evicting}
use Rattle.far_model.specs.Clients.{ClientState, client_takes, closed, answered_record}
use Rattle.far_model.specs.KeyedRecords.{put_record}
use Rattle.far_model.specs.Controller.{ControllerState, acked_state, client_told, controller_takes, evict_held, evicts_on, is_evicting_job, job_turn, makes_room, part_came, peek_answered, ready, removal_answered, round_stored, round_turn, same_came, same_part, snapshot_begun, store_answered, tick, tick_free, tick_room, tick_want, tick_wants, top_told, with_state, store_outs, told_round}
use Rattle.far_model.specs.Events.{Keeping, can_deliver, can_deliver_some, can_send, client_turn, delivers, does_order, handled, happens_with, has_next, is_enabled, is_order_due, is_order_enabled, is_possible, next_sent, restarts, ticks}
use Rattle.far_model.specs.Evictions.{Eviction, TRIES, after_peek, after_removal, first_place, has_key, holds_key, is_admitting, is_free, key_in, shown_item, state_at, victim, waits_for, waits_job, Kept as KeptNext}
use Rattle.far_model.specs.Parties.{Turn, idle}
use Rattle.far_model.specs.Pass.{Passed, absorbing, changed_view, dropped, grows_hot, hot_cell, is_as_before, is_slot_there, is_under, may_go, numbered, part_left, part_of, part_packet, pass, read_passes, removed_answer, removes, reply_passes, sent_to, takes_reply, told_hot, write_passes, with_slot, with_taken, changes}
use Rattle.far_model.specs.Replies.{AnswersInKind, IsReplyTo, RepliesAt, RepliesToMessage}
use Rattle.far_model.specs.Rounds.{Round, asks_tops, has_told, telling_at}
use Rattle.far_model.specs.Snapshots.{Job, has_begun, has_part, is_whole, part_reads, with_part, with_same}
use Rattle.far_model.specs.State.{State, client_at}
use Rattle.far_model.specs.Steps.{ChangeRow, ChangesFirst, ChangesOnly, PartRow, PartSame, PartShown, ReplyPassed, ReplyRaised, ReplyRow, ReplyTaken, TouchRow, GrowsHot, StaysCold, leaves}
use Rattle.far_model.specs.Steps.{PassRow, ReadHit, ReadOutdated, ReadMiss, WriteHit, WriteMiss, ReadReply, WriteReply, AdmitBinds, AdmitLate, PeekShows, PeekGone, RemoveLatest, RemoveOutdated, RemoveNot, RemoveGone, SnapBegins, SnapBeginsFrom, PartRead, Drops}
use Rattle.far_model.specs.Steps.{ClientRow, ReadAnswered, WriteAnswered, WritePreserved, Released, Asked, ClientIgnores, turn_of}
use Rattle.far_model.specs.Steps.{JobRow, Gathers, Completes, RoundRow, Waits, AsksTops, EvictionRow, PeekedLatest, PeekedOutdated, ItemStored, RemovalDone, RemovalAgain, GivenUp, GivenUpForWant}
use Rattle.far_model.specs.Steps.{Begun, PartCame, SameCame, ClientTold, RoundStored, TopTold, RuleRow, Wants, Acked, Evicts, Snaps, heeds_answer, heeds_begun, heeds_part, heeds_told, heeds_stored, heeds_top, Recovering, Ignores}
use Rattle.far_model.specs.Steps.{TickRow, WantDropped, WantAdmitted, RoomMade, OrderRow, WantOrdered, EvictionOrdered, NoneToEvict, SnapshotOrdered, Step, Sends, ClientTakes, Passes, Serves, Rules, Ticks, Recovers, Restarts, Orders, Stops, message, ordered, ServerRow, ReadServed, WriteServed, ItemServed, TopServed, ServerIgnores}
use Rattle.far_model.specs.View.{SlotView, SwitchView, entry_place, is_taken, slot_at, empty_slot, held_record, shown_body, bind_key}

pub by_case : {A : Type 0} (P : A → Type 0) (b : Bool) (x y : A) → (b ≡ true → P x) → (b ≡ false → P y) → P (if b then x else y)
by_case P true x y h k = h refl
by_case P false x y h k = k refl

pub is_none : {A : Type 0} (o : Option A) → is_some o ≡ false → o ≡ None
is_none None e = refl
is_none (Some x) e = absurd cc

is_false : (b : Bool) → not b ≡ true → b ≡ false
is_false false e = refl
is_false true e = absurd cc

-- ---- the switch

touch_row : (v : SwitchView) (key : List ℕ) → TouchRow v key (told_hot key v)
touch_row v key = by_case (TouchRow v key) (grows_hot v.config.hot (hot_cell key v)) _ None (λ e. GrowsHot e) (λ e. StaysCold e)

part_row : (v : SwitchView) (i : ℕ) → PartRow v i (part_packet v i)
part_row v i = by_case (PartRow v i) (is_as_before v i) _ _ (λ e. PartSame e) (λ e. PartShown e)

change_row : (v : SwitchView) (i : ℕ) (slot : SlotView) → ChangeRow v i slot (changed_view v i slot) (part_left v i)
change_row v i slot = go (is_taken v i) refl
  where
    go : (b : Bool) → is_taken v i ≡ b → ChangeRow v i slot (if b then with_slot v i slot else with_taken (with_slot v i slot) i (held_record (slot_at v i))) (if b then None else part_of v i)
    go true e = ChangesOnly e
    go false e = ChangesFirst (part_packet v i) e (part_row v i)

module _ (v : SwitchView) where
  read_row : (caller op : ℕ) (key : List ℕ) (o : Option ℕ) → entry_place key v ≡ o → PassRow v (GetReq caller op key) (read_passes v caller op key o)
  read_row caller op key None e = ReadMiss caller op key (told_hot key v) e (touch_row v key)
  read_row caller op key (Some i) e = by_case (λ f. PassRow v (GetReq caller op key) (leaves v f None)) (slot_at v i).latest _ _ (λ l. ReadHit caller op key i e l) (λ l. ReadOutdated caller op key i e l)

  write_row : (caller op : ℕ) (key : List ℕ) (body : Option (List ℕ)) (o : Option ℕ) → entry_place key v ≡ o → PassRow v (WriteReq caller op key body) (write_passes (numbered v) caller op key body o)
  write_row caller op key body None e = WriteMiss caller op key body (told_hot key (numbered v)) e (touch_row (numbered v) key)
  write_row caller op key body (Some i) e = WriteHit caller op key body i _ _ e (change_row (numbered v) i (absorbing (numbered v).counter body (slot_at v i)))

  reply_row : (tag : Option ℕ) (key : List ℕ) (num : ℕ) (body : Option (List ℕ)) (out : Option Out) (o : Option ℕ) → entry_place key v ≡ o
      → ReplyRow v tag key num body (reply_passes v tag num body out o).view (reply_passes v tag num body out o).second × ((reply_passes v tag num body out o).first ≡ out)
  reply_row tag key num body out None e = (ReplyPassed e, refl)
  reply_row tag key num body out (Some i) e = by_case (λ (p : Passed). ReplyRow v tag key num body p.view p.second × (p.first ≡ out)) (takes_reply tag num (slot_at v i)) _ _
      (λ t. (ReplyTaken i _ _ e t (change_row v i (absorbing num body (slot_at v i))), refl)) (λ t. (ReplyRaised i e t, refl))

  remove_row : (epoch i tag : ℕ) (latest : Bool) (num : ℕ) → is_slot_there v epoch i ≡ true → PassRow v (Remove epoch i tag latest num) (removes v i tag latest num (slot_at v i))
  remove_row epoch i tag latest num there = by_case (PassRow v (Remove epoch i tag latest num)) (may_go tag latest num (slot_at v i)) _ _ goes stays
    where
      answer : (done : Bool) → is_under tag (slot_at v i) ≡ true → sent_to Controller (RemoveAns i tag done (slot_at v i).latest (slot_at v i).num (shown_body (slot_at v i))) ≡ removed_answer i tag done (slot_at v i)
      answer done u = ap (λ b. if b then sent_to Controller (RemoveAns i tag done (slot_at v i).latest (slot_at v i).num (shown_body (slot_at v i))) else sent_to Controller (RemoveAns i tag false false 0 None)) (sym u)

      goes : may_go tag latest num (slot_at v i) ≡ true → PassRow v (Remove epoch i tag latest num) (if (slot_at v i).latest then changes v i empty_slot (removed_answer i tag true (slot_at v i)) else leaves (with_slot v i empty_slot) (removed_answer i tag true (slot_at v i)) None)
      goes m =
          let u = (and_parts _ _ m).0 in
          by_case (PassRow v (Remove epoch i tag latest num)) (slot_at v i).latest _ _
          (λ l. subst (λ a. PassRow v (Remove epoch i tag latest num) (leaves (changed_view v i empty_slot) a (part_left v i))) (answer true u) (RemoveLatest epoch i tag latest num _ _ there m u l (change_row v i empty_slot)))
          (λ l. subst (λ a. PassRow v (Remove epoch i tag latest num) (leaves (with_slot v i empty_slot) a None)) (answer true u) (RemoveOutdated epoch i tag latest num there m u l))

      stays : may_go tag latest num (slot_at v i) ≡ false → PassRow v (Remove epoch i tag latest num) (leaves v (removed_answer i tag false (slot_at v i)) None)
      stays m = by_case (λ a. PassRow v (Remove epoch i tag latest num) (leaves v a None)) (is_under tag (slot_at v i)) _ _ (λ u. RemoveNot epoch i tag latest num there m u) (λ u. RemoveGone epoch i tag latest num there u)

  pub pass_rows : (p : Packet) → PassRow v p (pass v p)
  pass_rows (GetReq caller op key) = read_row caller op key (entry_place key v) refl
  pass_rows (WriteReq caller op key body) = write_row caller op key body (entry_place key v) refl
  pass_rows (GetRep caller op key tag num body) =
      let out = sent_to (Client caller) (GetAns caller op key num body false) in
      let r = reply_row (Some tag) key num body out (entry_place key v) refl in
      subst (λ a. PassRow v (GetRep caller op key tag num body) (leaves (pass v (GetRep caller op key tag num body)).view a (pass v (GetRep caller op key tag num body)).second)) (sym r.1) (ReadReply caller op key tag num body _ _ r.0)
  pass_rows (WriteRep caller op key num body) =
      let out = sent_to (Client caller) (WriteAns caller op key num false) in
      let r = reply_row None key num body out (entry_place key v) refl in
      subst (λ a. PassRow v (WriteRep caller op key num body) (leaves (pass v (WriteRep caller op key num body)).view a (pass v (WriteRep caller op key num body)).second)) (sym r.1) (WriteReply caller op key num body _ _ r.0)
  pass_rows (Admit epoch i key tag) = by_case (PassRow v (Admit epoch i key tag)) (is_slot_there v epoch i) _ (dropped v) (λ e. go e (slot_at v i).valid refl) (λ e. Drops _ e)
    where
      go : is_slot_there v epoch i ≡ true → (b : Bool) → (slot_at v i).valid ≡ b → PassRow v (Admit epoch i key tag) (leaves (with_slot (record v { bound = bind_key key i v.bound }) i
          (if b then slot_at v i else record { key = Some key; tag = tag; valid = true; latest = false; num = 0; body = None })) (if b then None else sent_to Controller (AdmitAck i tag)) None)
      go e true f = AdmitLate epoch i key tag e f
      go e false f = AdmitBinds epoch i key tag e f
  pass_rows (Peek epoch i tag) = by_case (PassRow v (Peek epoch i tag)) (is_slot_there v epoch i) _ (dropped v)
      (λ e. by_case (λ a. PassRow v (Peek epoch i tag) (leaves v a None)) (is_under tag (slot_at v i)) _ _ (λ u. PeekShows epoch i tag e u) (λ u. PeekGone epoch i tag e u)) (λ e. Drops _ e)
  pass_rows (Remove epoch i tag latest num) = by_case (PassRow v (Remove epoch i tag latest num)) (is_slot_there v epoch i) _ (dropped v) (λ e. remove_row epoch i tag latest num e) (λ e. Drops _ e)
  pass_rows (SnapStart epoch id) = by_case (PassRow v (SnapStart epoch id)) (nat_eq epoch v.epoch) _ (dropped v) (λ e. subst (λ n. PassRow v (SnapStart n id) (leaves (record v { snap = id; base = 0 }) (sent_to Controller (SnapBegun id v.counter)) None)) (sym (eqb-true epoch v.epoch e)) (SnapBegins id)) (λ e. Drops _ e)
  pass_rows (SnapFrom epoch id base) = by_case (PassRow v (SnapFrom epoch id base)) (nat_eq epoch v.epoch) _ (dropped v) (λ e. subst (λ n. PassRow v (SnapFrom n id base) (leaves (record v { snap = id; base = base }) (sent_to Controller (SnapBegun id v.counter)) None)) (sym (eqb-true epoch v.epoch e)) (SnapBeginsFrom id base)) (λ e. Drops _ e)
  pass_rows (SnapRead epoch id i) = by_case (PassRow v (SnapRead epoch id i)) (is_slot_there v epoch i) _ (dropped v)
      (λ e. by_case (PassRow v (SnapRead epoch id i)) (nat_eq id v.snap && not (is_taken v i)) _ (dropped v)
      (λ f. let parts = and_parts _ _ f in subst (λ n. PassRow v (SnapRead epoch n i) (leaves (with_taken v i (held_record (slot_at v i))) (part_of v i) None)) (sym (eqb-true id v.snap parts.0)) (PartRead epoch i (part_packet v i) e (is_false (is_taken v i) parts.1) (part_row v i)))
      (λ f. Drops _ (ap (λ b. b && (nat_eq id v.snap && not (is_taken v i))) e ∙ f)))
      (λ e. Drops _ (ap (λ b. b && (nat_eq id v.snap && not (is_taken v i))) e))
  pass_rows _ = Drops _ tt

-- ---- the clients

module _ (ops : List OpLine) (client : ℕ) (s : ClientState) where
  pub client_rows : (p : Packet) → ClientRow ops client s p (client_takes ops client s p)
  client_rows (GetAns caller op key num body near) = ReadAnswered caller op key num body near
  client_rows (WriteAns caller op key num kept) = by_case (λ c. ClientRow ops client s (WriteAns caller op key num kept) (turn_of c [] (Answered op ∷ []))) (kept && nat_lt s.released num) _ _ (λ e. go kept (and_parts _ _ e).0 (and_parts _ _ e).1) (λ e. WriteAnswered caller op key num kept e)
    where
      go : (b : Bool) → b ≡ true → nat_lt s.released num ≡ true → ClientRow ops client s (WriteAns caller op key num b) (turn_of (record (closed s) { preserved = put_record (answered_record ops op num) s.preserved }) [] (Answered op ∷ []))
      go true e l = WritePreserved caller op key num (ltb-true s.released num l)
      go false e l = absurd cc
  client_rows (Release point) = Released point
  client_rows (Ask round) = Asked round
  client_rows _ = ClientIgnores _ refl

-- ---- the controller

module _ (config : Config) (c : ControllerState) where
  job_row : (job : Job) (out : List Out) → JobRow config c job out (job_turn config c job out)
  job_row job out = by_case (JobRow config c job out) (is_whole job) _ _ (λ e. Completes e) (λ e. Gathers e)

  round_row : (d : ControllerState) (r : Round) (out : List Out) → RoundRow config d r out (round_turn config d r out)
  round_row d r out = by_case (RoundRow config d r out) (asks_tops r) _ _ (λ e. AsksTops e) (λ e. Waits e)

  ack_row : (i tag : ℕ) (st : SlotState) → state_at c.slots i ≡ st → is_admitting tag st ≡ true → RuleRow config c (AdmitAck i tag) (turn_of (with_state c i (acked_state st)) [] (Admitted i (key_in st) tag ∷ []))
  ack_row i tag (Admitting key own) e a =
      let same = eqb-true own tag a in
      subst (λ n. RuleRow config c (AdmitAck i tag) (turn_of (with_state c i (Held key n)) [] (Admitted i key tag ∷ []))) (sym same) (Acked i tag key (e ∙ ap (Admitting key) same))
  ack_row i tag Free e a = absurd cc
  ack_row i tag (Held key own) e a = absurd cc
  ack_row i tag (Evicting key own) e a = absurd cc

  peeked : (e : Eviction) (i tag : ℕ) (latest : Bool) (num : ℕ) (body : Option (List ℕ)) → waits_for Peeked i tag e ≡ true → EvictionRow config c e (PeekAns i tag latest num body) (evicts_on config c e (after_peek e latest num body))
  peeked e i tag true num body w = PeekedLatest i tag num body w
  peeked e i tag false num body w = PeekedOutdated i tag num body w

  given_up : (e : Eviction) (i tag : ℕ) (latest : Bool) (num : ℕ) (body : Option (List ℕ)) → waits_for Removed i tag e ≡ true → e.tries ≡ TRIES → EvictionRow config c e (RemoveAns i tag false latest num body) (evicts_on config c e (KeptNext TRIES (shown_item e num body)))
  given_up e i tag latest num body w t = by_case (λ (d : ControllerState). EvictionRow config c e (RemoveAns i tag false latest num body) (turn_of d [] (Rattle.far_base.specs.declared.log.LogEntry.TheVariants.Kept e.slot e.key num ∷ []))) e.for_want _ _ (λ f. GivenUpForWant i tag latest num body w t f) (λ f. GivenUp i tag latest num body w t f)

  removed : (e : Eviction) (i tag : ℕ) (done latest : Bool) (num : ℕ) (body : Option (List ℕ)) → waits_for Removed i tag e ≡ true → EvictionRow config c e (RemoveAns i tag done latest num body) (evicts_on config c e (after_removal e done num body))
  removed e i tag true latest num body w = RemovalDone i tag latest num body w
  removed e i tag false latest num body w = by_case (λ n. EvictionRow config c e (RemoveAns i tag false latest num body) (evicts_on config c e n)) (nat_eq e.tries TRIES) _ _
      (λ t. given_up e i tag latest num body w (eqb-true e.tries TRIES t)) (λ t. RemovalAgain i tag latest num body w t)

  peek_rows : (i tag : ℕ) (latest : Bool) (num : ℕ) (body : Option (List ℕ)) (o : Option Eviction) → c.eviction ≡ o → RuleRow config c (PeekAns i tag latest num body) (peek_answered config c i tag latest num body o)
  peek_rows i tag latest num body None is = Ignores _ (ap (heeds_answer Peeked i tag) is)
  peek_rows i tag latest num body (Some e) is = by_case (RuleRow config c (PeekAns i tag latest num body)) (waits_for Peeked i tag e) _ (idle c) (λ w. Evicts e _ _ is (peeked e i tag latest num body w)) (λ w. Ignores _ (ap (heeds_answer Peeked i tag) is ∙ w))

  removal_rows : (i tag : ℕ) (done latest : Bool) (num : ℕ) (body : Option (List ℕ)) (o : Option Eviction) → c.eviction ≡ o → RuleRow config c (RemoveAns i tag done latest num body) (removal_answered config c i tag done num body o)
  removal_rows i tag done latest num body None is = Ignores _ (ap (heeds_answer Removed i tag) is)
  removal_rows i tag done latest num body (Some e) is = by_case (RuleRow config c (RemoveAns i tag done latest num body)) (waits_for Removed i tag e) _ (idle c) (λ w. Evicts e _ _ is (removed e i tag done latest num body w)) (λ w. Ignores _ (ap (heeds_answer Removed i tag) is ∙ w))

  begun_rows : (id point : ℕ) (o : Option Job) → c.job ≡ o → RuleRow config c (SnapBegun id point) (snapshot_begun config c id point o)
  begun_rows id point None is = Ignores _ (ap (heeds_begun id) is)
  begun_rows id point (Some job) is = by_case (RuleRow config c (SnapBegun id point)) (nat_eq job.id id && not (has_begun job)) _ (idle c)
      (λ w. let parts = and_parts _ _ w in subst (λ n. RuleRow config c (SnapBegun n point) (job_turn config c (record job { begun = Some point }) (part_reads c.epoch n 0 job.parts))) (eqb-true job.id id parts.0)
      (Snaps job _ _ is (Begun point _ (is_false (has_begun job) parts.1) (job_row (record job { begun = Some point }) (part_reads c.epoch job.id 0 job.parts))))) (λ w. Ignores _ (ap (heeds_begun id) is ∙ w))

  part_rows : (id i : ℕ) (view : Option Record) (o : Option Job) → c.job ≡ o → RuleRow config c (SnapPart id i view) (part_came config c id i view o)
  part_rows id i view None is = Ignores _ (ap (heeds_part id i) is)
  part_rows id i view (Some job) is = by_case (RuleRow config c (SnapPart id i view)) (nat_eq job.id id && (nat_lt i (length job.parts) && not (has_part job i))) _ (idle c)
      (λ w. let parts = and_parts _ _ w in let more = and_parts _ _ parts.1 in subst (λ n. RuleRow config c (SnapPart n i view) (job_turn config c (with_part job i view) [])) (eqb-true job.id id parts.0)
      (Snaps job _ _ is (PartCame i view _ (ltb-true i (length job.parts) more.0) (is_false (has_part job i) more.1) (job_row (with_part job i view) [])))) (λ w. Ignores _ (ap (heeds_part id i) is ∙ w))

  same_view : (id i : ℕ) (job : Job) (view : Option (Option Record)) → c.job ≡ Some job → slice_get c.last.views i ≡ view → RuleRow config c (SnapSame id i) (same_part config c id i job view)
  same_view id i job None is at = Ignores _ (ap (λ (o : Option (Option Record)). is_some o && heeds_part id i c.job) at)
  same_view id i job (Some view) is at = by_case (RuleRow config c (SnapSame id i)) (nat_eq job.id id && (nat_lt i (length job.parts) && not (has_part job i))) _ (idle c)
      (λ w. let parts = and_parts _ _ w in let more = and_parts _ _ parts.1 in subst (λ n. RuleRow config c (SnapSame n i) (job_turn config c (with_same job i view) [])) (eqb-true job.id id parts.0)
      (Snaps job _ _ is (SameCame i view _ at (ltb-true i (length job.parts) more.0) (is_false (has_part job i) more.1) (job_row (with_same job i view) []))))
      (λ w. Ignores _ (ap (λ (o : Option (Option Record)). is_some o && heeds_part id i c.job) at ∙ ap (heeds_part id i) is ∙ w))

  same_rows : (id i : ℕ) (o : Option Job) → c.job ≡ o → RuleRow config c (SnapSame id i) (same_came config c id i o)
  same_rows id i None is = Ignores _ (off (is_some (slice_get c.last.views i)) (heeds_part id i c.job) (ap (heeds_part id i) is))
    where
      off : (a b : Bool) → b ≡ false → (a && b) ≡ false
      off true b e = e
      off false b e = refl
  same_rows id i (Some job) is = same_view id i job (slice_get c.last.views i) is refl

  told_rows : (number caller total : ℕ) (item : Option Record) (o : Option Round) → c.round ≡ o → RuleRow config c (Told number caller total item) (client_told config c number caller total item o)
  told_rows number caller total item None is = Ignores _ (ap (heeds_told number caller) is)
  told_rows number caller total item (Some r) is = by_case (RuleRow config c (Told number caller total item)) (nat_eq r.number number && (nat_lt caller (length r.told) && not (has_told (telling_at r caller)))) _ (idle c)
      (λ w. let parts = and_parts _ _ w in let more = and_parts _ _ parts.1 in subst (λ n. RuleRow config c (Told n caller total item) (client_told_turn r)) (eqb-true r.number number parts.0)
      (Recovering r _ _ is (ClientTold caller total item _ (ltb-true caller (length r.told) more.0) (is_false (has_told (telling_at r caller)) more.1) (round_row (record c { next_job = c.next_job + length (store_outs config c.next_job item) }) (told_round r caller total (length (store_outs config c.next_job item))) (store_outs config c.next_job item)))))
      (λ w. Ignores _ (ap (heeds_told number caller) is ∙ w))
    where
      client_told_turn : Round → Turn ControllerState
      client_told_turn r = round_turn config (record c { next_job = c.next_job + length (store_outs config c.next_job item) }) (told_round r caller total (length (store_outs config c.next_job item))) (store_outs config c.next_job item)

  round_stored_rows : (job : ℕ) (o : Option Round) → is_evicting_job job c.eviction ≡ false → c.round ≡ o → RuleRow config c (Stored job) (round_stored config c job o)
  round_stored_rows job None off is = Ignores _ (ap (λ b. b || heeds_stored c job c.round) off ∙ ap (heeds_stored c job) is)
  round_stored_rows job (Some r) off is = by_case (RuleRow config c (Stored job)) (nat_le r.first_job job && (nat_lt job c.next_job && not (nat_eq r.stores 0))) _ (idle c)
      (λ w. let parts = and_parts _ _ w in let more = and_parts _ _ parts.1 in Recovering r _ _ is (RoundStored job _ (leb-true r.first_job job parts.0) (ltb-true job c.next_job more.0) (is_false (nat_eq r.stores 0) more.1) (round_row c (record r { stores = r.stores - 1 }) [])))
      (λ w. Ignores _ (ap (λ b. b || heeds_stored c job c.round) off ∙ ap (heeds_stored c job) is ∙ w))

  stored_rows : (job : ℕ) (o : Option Eviction) → c.eviction ≡ o → RuleRow config c (Stored job) (store_answered config c job o)
  stored_rows job None is = round_stored_rows job c.round (ap (is_evicting_job job) is) refl
  stored_rows job (Some e) is = by_case (RuleRow config c (Stored job)) (waits_job job e) _ (round_stored config c job c.round) (λ w. Evicts e _ _ is (ItemStored job w)) (λ w. round_stored_rows job c.round (ap (is_evicting_job job) is ∙ w) refl)

  top_rows : (number server top : ℕ) (o : Option Round) → c.round ≡ o → RuleRow config c (TopIs number server top) (top_told config c number server top o)
  top_rows number server top None is = Ignores _ (ap (heeds_top number server) is)
  top_rows number server top (Some r) is = by_case (RuleRow config c (TopIs number server top)) (nat_eq r.number number && (r.asked && (nat_lt server (length r.tops) && not (is_some (slice_index_or r.tops server None))))) _ (idle c)
      (λ w. let parts = and_parts _ _ w in let more = and_parts _ _ parts.1 in let most = and_parts _ _ more.1 in subst (λ n. RuleRow config c (TopIs n server top) (turn_of (record c { round = Some (record r { tops = slice_set r.tops server (Some top) }) }) [] [])) (eqb-true r.number number parts.0)
      (Recovering r _ _ is (TopTold server top more.0 (ltb-true server (length r.tops) most.0) (is_none _ (is_false (is_some (slice_index_or r.tops server None)) most.1)))))
      (λ w. Ignores _ (ap (heeds_top number server) is ∙ w))

  pub rule_rows : (p : Packet) → RuleRow config c p (controller_takes config c p)
  rule_rows (Hot key) = by_case (λ w. RuleRow config c (Hot key) (idle w)) (is_some c.round) c _ (λ e. Ignores _ (ap not e)) (λ e. Wants key (is_none c.round e))
  rule_rows (AdmitAck i tag) = by_case (RuleRow config c (AdmitAck i tag)) (is_admitting tag (state_at c.slots i)) _ (idle c) (λ e. ack_row i tag (state_at c.slots i) refl e) (λ e. Ignores _ e)
  rule_rows (PeekAns i tag latest num body) = peek_rows i tag latest num body c.eviction refl
  rule_rows (RemoveAns i tag done latest num body) = removal_rows i tag done latest num body c.eviction refl
  rule_rows (SnapBegun id point) = begun_rows id point c.job refl
  rule_rows (SnapPart id i view) = part_rows id i view c.job refl
  rule_rows (SnapSame id i) = same_rows id i c.job refl
  rule_rows (Stored job) = stored_rows job c.eviction refl
  rule_rows (Told number caller total item) = told_rows number caller total item c.round refl
  rule_rows (TopIs number server top) = top_rows number server top c.round refl
  rule_rows _ = Ignores _ refl

  -- ---- ticks

  pub tick_rows : (t : Turn ControllerState) → tick c ≡ Some t → TickRow c t
  tick_rows t e = in_round c.round refl e
    where
      room : (key : List ℕ) (keys : List (List ℕ)) → c.round ≡ None → c.wants ≡ key ∷ keys → first_place is_free c.slots ≡ None → (o : Option ℕ) → victim c.hand c.slots ≡ o → tick_room c o ≡ Some t → TickRow c t
      room key keys r w f None v q = absurd cc
      room key keys r w f (Some i) v q = go (is_some c.eviction) refl q
        where
          go : (b : Bool) → is_some c.eviction ≡ b → (if b then None else Some (makes_room c i)) ≡ Some t → TickRow c t
          go true g q = absurd cc
          go false g q = subst (TickRow c) (same_Some _ t q) (RoomMade key keys i r w f v (is_none c.eviction g))

      free : (key : List ℕ) (keys : List (List ℕ)) → c.round ≡ None → c.wants ≡ key ∷ keys → first_place (has_key key) c.slots ≡ None → (o : Option ℕ) → first_place is_free c.slots ≡ o → tick_free c key o ≡ Some t → TickRow c t
      free key keys r w h None f q = room key keys r w f (victim c.hand c.slots) refl q
      free key keys r w h (Some i) f q = subst (TickRow c) (same_Some _ t q) (WantAdmitted key keys i r w h f)

      want : (key : List ℕ) (keys : List (List ℕ)) → c.round ≡ None → c.wants ≡ key ∷ keys → (o : Option ℕ) → first_place (has_key key) c.slots ≡ o → tick_want c key o ≡ Some t → TickRow c t
      want key keys r w None h q = free key keys r w h (first_place is_free c.slots) refl q
      want key keys r w (Some i) h q = subst (TickRow c) (same_Some _ t q) (WantDropped key keys i r w h)

      wants : c.round ≡ None → (ws : List (List ℕ)) → c.wants ≡ ws → tick_wants c ws ≡ Some t → TickRow c t
      wants r [] w q = absurd cc
      wants r (key ∷ keys) w q = want key keys r w (first_place (has_key key) c.slots) refl q

      in_round : (o : Option Round) → c.round ≡ o → (if is_some o then None else tick_wants c c.wants) ≡ Some t → TickRow c t
      in_round (Some r) g q = absurd cc
      in_round None g q = wants g c.wants refl q

-- ---- the servers

pub server_rows : (n : ℕ) (p : Packet) (reply : Option Packet) → IsReplyTo n p reply → ServerRow n p reply
server_rows n (GetFwd caller op key tag) reply a = subst (ServerRow n _) (sym a.is) (ReadServed caller op key tag a.num a.body)
server_rows n (WriteFwd caller op key num body) reply a = subst (ServerRow n _) (sym a.is) (WriteServed caller op key num body a.num a.body)
server_rows n (Store job item) reply a = subst (ServerRow n _) (sym a) (ItemServed job item)
server_rows n (TopAsk round) reply a = subst (ServerRow n _) (sym a.is) (TopServed round a.top)
server_rows n _ reply a = subst (ServerRow n _) (sym a) (ServerIgnores _ refl)

-- ---- the table

module _ (plan : PlanView) (k : Keeping) (s : State) where
  send_row : (c : ℕ) → can_send (client_at s c) ≡ true → Step plan k s (Send c) (client_turn s c s.bag (next_sent plan.ops c (client_at s c) (client_at s c).left))
  send_row c can = go (client_at s c).left refl (and_parts _ _ can).1
    where
      go : (left : List ℕ) → (client_at s c).left ≡ left → has_next left ≡ true → Step plan k s (Send c) (client_turn s c s.bag (next_sent plan.ops c (client_at s c) left))
      go [] e next = absurd cc
      go (op ∷ left) e next = Sends c op left (is_none _ (is_false _ (and_parts _ _ can).0)) e

  delivery_row : (i : ℕ) (from to : Party) (p : Packet) → slice_get s.bag i ≡ Some (message from to p) → can_deliver s.running (message from to p) ≡ true → RepliesAt to p k.reply → Step plan k s (Deliver i) (handled plan k s (remove s.bag i) to p)
  delivery_row i from (Client c) p at can ans = ClientTakes i from c p _ at (client_rows plan.ops c (client_at s c) p)
  delivery_row i from Switch p at can ans = Passes i from p _ at (runs s.running can) (pass_rows s.switch p)
    where
      runs : (b : Bool) → (b || false) ≡ true → b ≡ true
      runs true e = refl
      runs false e = absurd cc
  delivery_row i from (Server n) p at can ans = Serves i from n p k.reply at refl (server_rows n p k.reply ans)
  delivery_row i from Controller p at can ans = Rules i from p _ at (rule_rows plan.config s.controller p)

  evict_row : (step : ℕ) (key : List ℕ) → is_possible s (EvictOrder step key) ≡ true → (o : Option ℕ) → first_place (holds_key key) s.controller.slots ≡ o → OrderRow s s.controller (EvictOrder step key) (evict_held s.controller o)
  evict_row step key can None e = NoneToEvict step key e
  evict_row step key can (Some i) e =
      let parts = and_parts _ _ can in let more = and_parts _ _ parts.1 in
      EvictionOrdered step key i parts.0 (is_none _ (is_false _ more.0)) (is_none _ (is_false _ more.1)) e

  order_row : (o : Option Order) → slice_get plan.orders s.done ≡ o → is_order_due s o ≡ true → Step plan k s (OrderOf s.done) (ordered s (does_order plan s o))
  order_row None at due = absurd cc
  order_row (Some (AdmitOrder step key)) at due =
      let can = (and_parts _ _ due).0 in
      let none : is_some s.controller.round ≡ false = is_false _ can in
      Orders (AdmitOrder step key) _ at can (subst (λ b. OrderRow s s.controller (AdmitOrder step key) (idle (if b then s.controller else record s.controller { wants = s.controller.wants ++ key ∷ [] }))) (sym none) (WantOrdered step key (is_none _ none)))
  order_row (Some (EvictOrder step key)) at due = let can = (and_parts _ _ due).0 in Orders (EvictOrder step key) _ at can (evict_row step key can (first_place (holds_key key) s.controller.slots) refl)
  order_row (Some (SnapOrder step)) at due =
      let can = (and_parts _ _ due).0 in
      let parts = and_parts _ _ can in let more = and_parts _ _ parts.1 in
      Orders (SnapOrder step) _ at can (SnapshotOrdered step parts.0 (is_none _ (is_false _ more.0)) (is_none _ (is_false _ more.1)))
  order_row (Some (StopOrder step)) at due = Stops (StopOrder step) at tt (and_parts _ _ due).0
  order_row (Some (StopAtOrder kind times)) at due = Stops (StopAtOrder kind times) at tt (and_parts _ _ due).0

  pub steps_are_rows : (e : Event) → is_enabled plan s e ≡ true → AnswersInKind s e k → Step plan k s e (happens_with plan k s e)
  steps_are_rows (Send c) can ans = send_row c can
  steps_are_rows (Deliver i) can ans = go (slice_get s.bag i) refl can ans
    where
      go : (o : Option Message) → slice_get s.bag i ≡ o → can_deliver_some s.running o ≡ true → RepliesToMessage o k.reply → Step plan k s (Deliver i) (delivers plan k s i o)
      go None at can ans = absurd cc
      go (Some m) at can ans = delivery_row i m.from m.to m.packet at can ans
  steps_are_rows Tick can ans = go (tick s.controller) refl can
    where
      go : (o : Option (Turn ControllerState)) → tick s.controller ≡ o → is_some o ≡ true → Step plan k s Tick (ticks s o)
      go None e can = absurd cc
      go (Some t) e can = Ticks t e (tick_rows plan.config s.controller t e)
  steps_are_rows Recover can ans = Recovers can
  steps_are_rows Restart can ans = go (ready s.controller) refl can
    where
      go : (o : Option ℕ) → ready s.controller ≡ o → is_some o ≡ true → Step plan k s Restart (restarts plan k s o)
      go None e can = absurd cc
      go (Some counter) e can = Restarts counter e
  steps_are_rows (OrderOf j) can ans =
      let parts = and_parts (nat_eq j s.done) (is_order_enabled plan s) can in
      subst (λ n. Step plan k s (OrderOf n) (ordered s (does_order plan s (slice_get plan.orders n)))) (sym (eqb-true j s.done parts.0)) (order_row (slice_get plan.orders s.done) refl parts.1)

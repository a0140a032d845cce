-- Replies of servers at the switch: the answer leaves, and the key's slot may take the record.
use Rattle.far_invariants.specs.Numbers.{ExposedAtMostBy, ExposedAtMost, slot_if, entry, reach, IsWritten, WouldBeCurrent}
use Rattle.far_invariants.specs.Covers.{look}
use Rattle.far_invariants.specs.Operations.{EmitsOp, Absent, AdmitsOther, ServesOp, ReadIsReplied, WriteIsReplied, IsBeingAnswered, Relies, OperationsStand}
use Rattle.far_model.specs.Coherent.{ReachesOwnNumber}
use Rattle.std.proofs.Common.{◌≡◌, ◌≢◌, ℕ, ◌<◌, ◌≤◌, max, ◌⊎◌, inl, inr, Bool, true, false, List, [], ◌∷◌, refl, sym, ap, ◌∙◌, subst, arith, ltb-true, ltb-false}
use Rattle.std.specs.Prelude.{Option, Some, None, if◌then◌else◌, ◌&&◌, nat_lt, nat_le, nat_eq}
use Rattle.std.proofs.lemmas.Option.{same_Some}
use Rattle.std.proofs.lemmas.Bool.Decides.{leb_tells, eqb_tells}
use Rattle.far_base.specs.PlanView.{PlanView}
use Rattle.far_base.specs.declared.log.LogEntry.{LogEntry}
use Rattle.far_base.specs.declared.log.LogEntry.TheVariants.{Emitted}
use Rattle.far_base.specs.declared.packet.Message.{Message}
use Rattle.far_base.specs.declared.packet.Out.{Out}
use Rattle.far_base.specs.declared.packet.Packet.{Packet}
use Rattle.far_base.specs.declared.party.Party.TheVariants.{Client}
use Rattle.far_model.specs.Clients.{line_of}
use Rattle.far_model.specs.Log.{is_read}
use Rattle.far_model.specs.Members.{Each}
use Rattle.far_model.specs.Pass.{Passed, sent_to, reply_passes, is_tag, takes_reply, absorbing, raised, with_slot, with_taken, part_of}
use Rattle.far_model.specs.State.{State, now, noted, stepped}
use Rattle.far_model.specs.View.{SlotView, SwitchView, slot_at, entry_place, is_taken, held_record}
use Rattle.record_laws.proofs.Frame.{NotOn, shown_lasts, shown_by_lasts, shown_within, has_own_lasts}
use Rattle.record_laws.proofs.Keeps.{part_relies, part_admits}
use Rattle.record_laws.proofs.Requests.{Its, reach_none, reach_latest, reach_outdated, written_still, sent_still, set_passes, not_left, answering}
use Rattle.record_laws.proofs.Slots.{IsEntry, SetsSlot, entry_is, taken_sets, with_slot_sets, both}
use Rattle.record_laws.proofs.Step.{AreOthers, GoesWell, AdmitsNone, PassesFor, passed_state, pass_keeps}

-- what a reply relies on, to a read or to a write; `shown` is the body that the answer shows
pub record ReplyIs (plan : PlanView) (s : State) (caller op : ℕ) (key : List ℕ) (tag : Option ℕ) (num : ℕ) (body shown : Option (List ℕ)) : Type 0 where
  pub serves : ServesOp plan s caller op key
  pub unemitted : Absent (EmitsOp op) s.log
  pub known : num ≤ (look plan s key).num
  pub written : IsWritten plan s.log s.steps key num body
  pub same : is_read (line_of plan.ops op).op ≡ true → shown ≡ body
  pub floor : is_read (line_of plan.ops op).op ≡ true → ExposedAtMostBy plan s.log key serves.sent.sent_at num
  pub own : is_read (line_of plan.ops op).op ≡ false → ReachesOwnNumber s.log s.steps op num
  pub tagged : (own : ℕ) → tag ≡ Some own → WouldBeCurrent plan s key own num

pub read_reply : (plan : PlanView) (s : State) (caller op : ℕ) (key : List ℕ) (tag num : ℕ) (body : Option (List ℕ)) → ReadIsReplied plan s caller op key tag num body → ReplyIs plan s caller op key (Some tag) num body body
read_reply plan s caller op key tag num body h = record {
  serves = h.serves;
  unemitted = h.unemitted;
  known = h.known;
  written = h.written;
  same = λ read. refl;
  floor = λ read. h.floor;
  own = λ write. absurd (let e = sym h.read ∙ write in cc);
  tagged = λ own e. subst (λ t. WouldBeCurrent plan s key t num) (same_Some tag own e) h.tagged.current;
}

pub write_reply : (plan : PlanView) (s : State) (caller op : ℕ) (key : List ℕ) (num : ℕ) (body : Option (List ℕ)) → WriteIsReplied plan s caller op key num body → ReplyIs plan s caller op key None num body None
write_reply plan s caller op key num body h = record {
  serves = h.serves;
  unemitted = h.unemitted;
  known = h.known;
  written = h.written;
  same = λ read. absurd (let e = sym h.write ∙ read in cc);
  floor = λ read. absurd (let e = sym h.write ∙ read in cc);
  own = λ write. h.own;
  tagged = λ own e. absurd cc;
}

-- why a slot takes a record: it is latest and the record is newer, or the reply came under its tag and is no older
pub record IsNewer (num : ℕ) (slot : SlotView) : Type 0 where
  pub latest : slot.latest ≡ true
  pub newer : slot.num < num

pub record IsUnderTag (tag : Option ℕ) (num : ℕ) (slot : SlotView) : Type 0 where
  pub old : slot.latest ≡ false
  pub under : tag ≡ Some slot.tag
  pub no_older : slot.num ≤ num

-- or it is latest and at least as new, or it only learns the number
pub record IsAsNew (num : ℕ) (slot : SlotView) : Type 0 where
  pub latest : slot.latest ≡ true
  pub as_new : num ≤ slot.num

tag_is : (tag : Option ℕ) (own : ℕ) → is_tag tag own ≡ true → tag ≡ Some own
tag_is None own h = absurd cc
tag_is (Some t) own h = go (eqb_tells t own)
  where
    go : ((nat_eq t own ≡ true) × (t ≡ own)) ⊎ ((nat_eq t own ≡ false) × (t ≢ own)) → Some t ≡ Some own
    go (inl p) = ap Some p.1
    go (inr p) = absurd (let e = sym h ∙ p.0 in cc)

ltb_tells : (a b : ℕ) → ((nat_lt a b ≡ true) × (a < b)) ⊎ ((nat_lt a b ≡ false) × (b ≤ a))
ltb_tells a b = go (nat_lt a b) refl
  where
    go : (t : Bool) → nat_lt a b ≡ t → ((nat_lt a b ≡ true) × (a < b)) ⊎ ((nat_lt a b ≡ false) × (b ≤ a))
    go true e = inl (e, ltb-true a b e)
    go false e = inr (e, ltb-false a b e)

takes : (tag : Option ℕ) (num : ℕ) (slot : SlotView) → takes_reply tag num slot ≡ true → IsNewer num slot ⊎ IsUnderTag tag num slot
takes tag num slot h = go slot.latest refl h
  where
    go : (b : Bool) → slot.latest ≡ b → (if b then nat_lt slot.num num else is_tag tag slot.tag && nat_le slot.num num) ≡ true → IsNewer num slot ⊎ IsUnderTag tag num slot
    go true l k = newer (ltb_tells slot.num num)
      where
        newer : ((nat_lt slot.num num ≡ true) × (slot.num < num)) ⊎ ((nat_lt slot.num num ≡ false) × (num ≤ slot.num)) → IsNewer num slot ⊎ IsUnderTag tag num slot
        newer (inl p) = inl (record { latest = l; newer = p.1 })
        newer (inr p) = absurd (let e = sym k ∙ p.0 in cc)
    go false l k = under (both _ _ k) (leb_tells slot.num num)
      where
        under : (is_tag tag slot.tag ≡ true) × (nat_le slot.num num ≡ true) → ((nat_le slot.num num ≡ true) × (slot.num ≤ num)) ⊎ ((nat_le slot.num num ≡ false) × (num < slot.num)) → IsNewer num slot ⊎ IsUnderTag tag num slot
        under p (inl q) = inr (record { old = l; under = tag_is tag slot.tag p.0; no_older = q.1 })
        under p (inr q) = absurd (let e = sym p.1 ∙ q.0 in cc)

stays_latest : (tag : Option ℕ) (num : ℕ) (slot : SlotView) → takes_reply tag num slot ≡ false → slot.latest ≡ true → IsAsNew num slot
stays_latest tag num slot h l = go (ltb_tells slot.num num) (sym (ap (λ b. if b then nat_lt slot.num num else is_tag tag slot.tag && nat_le slot.num num) l) ∙ h)
  where
    go : ((nat_lt slot.num num ≡ true) × (slot.num < num)) ⊎ ((nat_lt slot.num num ≡ false) × (num ≤ slot.num)) → nat_lt slot.num num ≡ false → IsAsNew num slot
    go (inl p) k = absurd (let e = sym p.0 ∙ k in cc)
    go (inr p) k = record { latest = l; as_new = p.1 }

module _ (plan : PlanView) (s : State) (k : OperationsStand plan s) (runs : s.running ≡ true) (rest : List Message) (caller op : ℕ) (key : List ℕ) (others : AreOthers (Its op) s rest)
    (tag : Option ℕ) (num : ℕ) (body shown : Option (List ℕ)) (h : ReplyIs plan s caller op key tag num body shown) where
  abbrev note : List LogEntry
  note = Emitted op num shown false ∷ []

  off : (other : List ℕ) → other ≢ key → Each (NotOn plan other) note
  off other ne = (λ q. ne (sym q ∙ h.serves.on_key), tt)

  -- what is exposed once the answer has left
  exposes : (n : ℕ) → ExposedAtMost plan s.log key n → num ≤ n → ExposedAtMost plan (noted s note) key n
  exposes n before b = shown_lasts s (stepped s [] note) note refl plan key n before (λ q. b, tt)

  none_passes : entry key s.switch ≡ None → PassesFor plan s s.switch note key
  none_passes is = record {
    config = refl;
    counter = omega arith;
    others = λ other ne. refl;
    not_on = off;
    covers = λ r. subst (λ n. ExposedAtMost plan (noted s note) key n) (sym reaches) (exposes (look plan s key).num (subst (λ n. ExposedAtMost plan s.log key n) reaches (k.covers r key)) h.known);
    drawn = λ slot is'. (k.slots key slot is').drawn;
    written = λ slot is' l. written_still plan s note key slot.num slot.body ((k.slots key slot is').written l);
    current = λ tag n m c b slot is' old under. absurd (let e = sym is ∙ is' in cc);
  }
    where
      reaches : reach plan s key ≡ (look plan s key).num
      reaches = reach_none (look plan s key).num (entry key s.switch) is

  -- the slot takes the record
  absorbs : (w : SwitchView) (i : ℕ) → entry_place key s.switch ≡ Some i → SetsSlot s.switch w i (absorbing num body (slot_at s.switch i)) → takes_reply tag num (slot_at s.switch i) ≡ true → PassesFor plan s w note key
  absorbs w i e sets taken =
      let is : IsEntry key s.switch i = entry_is key s.switch i e in
      set_passes plan s s.switch w note key i (absorbing num body (slot_at s.switch i)) refl (omega arith) (λ other. refl) sets is is.owned off
      (λ r. exposes num (before r (takes tag num (slot_at s.switch i) taken)) (omega arith)) (k.slots key (slot_at s.switch i) here).drawn
      (λ l. written_still plan s note key num body h.written) (λ t n m c b old under. absurd cc)
    where
      here : entry key s.switch ≡ Some (slot_at s.switch i)
      here = ap (slot_if s.switch) e

      before : s.running ≡ true → IsNewer num (slot_at s.switch i) ⊎ IsUnderTag tag num (slot_at s.switch i) → ExposedAtMost plan s.log key num
      before r (inl n) =
          let newer = n.newer in
          shown_within plan s.log key (slot_at s.switch i).num num
          (subst (λ n. ExposedAtMost plan s.log key n) (reach_latest (look plan s key).num (entry key s.switch) (slot_at s.switch i) here n.latest) (k.covers r key)) (omega (arith, newer))
      before r (inr u) =
          let no_older = u.no_older in
          shown_within plan s.log key (max num (slot_at s.switch i).num) num (h.tagged (slot_at s.switch i).tag u.under (slot_at s.switch i) here u.old refl) (omega (arith, no_older))

  -- the slot does not take the record, and an outdated one learns the number
  raises : (i : ℕ) → entry_place key s.switch ≡ Some i → takes_reply tag num (slot_at s.switch i) ≡ false → PassesFor plan s (with_slot s.switch i (raised num (slot_at s.switch i))) note key
  raises i e stays = go (slot_at s.switch i).latest refl
    where
      is : IsEntry key s.switch i
      is = entry_is key s.switch i e

      here : entry key s.switch ≡ Some (slot_at s.switch i)
      here = ap (slot_if s.switch) e

      go : (b : Bool) → (slot_at s.switch i).latest ≡ b → PassesFor plan s (with_slot s.switch i (if b then slot_at s.switch i else record (slot_at s.switch i) { num = max (slot_at s.switch i).num num })) note key
      go true l =
          let as_new = (stays_latest tag num (slot_at s.switch i) stays l).as_new in
          let reaches = reach_latest (look plan s key).num (Some (slot_at s.switch i)) (slot_at s.switch i) refl l in
          let reached = reach_latest (look plan s key).num (entry key s.switch) (slot_at s.switch i) here l in
          set_passes plan s s.switch _ note key i (slot_at s.switch i) refl (omega arith) (λ other. refl) (with_slot_sets s.switch i (slot_at s.switch i) is.within) is is.owned off
          (λ r. subst (λ n. ExposedAtMost plan (noted s note) key n) (sym reaches) (exposes (slot_at s.switch i).num (subst (λ n. ExposedAtMost plan s.log key n) reached (k.covers r key)) as_new))
          (k.slots key (slot_at s.switch i) here).drawn
          (λ l'. written_still plan s note key _ _ ((k.slots key (slot_at s.switch i) here).written l'))
          (λ t n m c b old under. absurd (let e = sym l ∙ old in cc))
      go false l =
          let slot : SlotView = record (slot_at s.switch i) { num = max (slot_at s.switch i).num num } in
          let reached = reach_outdated (look plan s key).num (entry key s.switch) (slot_at s.switch i) here l in
          let reaches = reach_outdated (look plan s key).num (Some slot) slot refl l in
          set_passes plan s s.switch _ note key i slot refl (omega arith) (λ other. refl) (with_slot_sets s.switch i slot is.within) is is.owned off
          (λ r. subst (λ n. ExposedAtMost plan (noted s note) key n) (sym reaches) (exposes (look plan s key).num (subst (λ n. ExposedAtMost plan s.log key n) reached (k.covers r key)) h.known))
          (k.slots key (slot_at s.switch i) here).drawn
          (λ l'. absurd (let e = sym l ∙ l' in cc))
          (λ t n m c b old under. exposes (max m (max (slot_at s.switch i).num num)) (shown_within plan s.log key (max n (slot_at s.switch i).num) (max m (max (slot_at s.switch i).num num)) (c (slot_at s.switch i) here l under) (omega (arith, b))) (omega arith))

  -- an answer that leaves so keeps everything
  leaves : (packet answer : Packet) → ((t : State) → IsBeingAnswered plan t caller op key → Relies plan t answer) → ((t : ℕ) → AdmitsOther t answer)
      → (w : SwitchView) (second : Option Out) → PassesFor plan s w note key → ((t : State) → GoesWell plan t second) → AdmitsNone second
      → OperationsStand plan (passed_state s rest packet (record { view = w; first = sent_to (Client caller) answer; second = second }) note)
  leaves packet answer flies none w second f goes admits =
      let p : Passed = record { view = w; first = sent_to (Client caller) answer; second = second } in
      let t : State = passed_state s rest packet p note in
      pass_keeps plan (Its op) s rest packet p note key k f others none admits
      (λ g. (
        (flies t (answering plan s k runs rest caller op key others t note num shown false g (inl refl) (λ x. x, tt) h.serves), none),
        goes t,
        (
          record {
            fresh = h.unemitted;
            stands = record {
              sent = sent_still plan s note op h.serves.sent;
              key = key;
              on_key = h.serves.on_key;
              written = body;
              source = written_still plan s note key num body h.written;
              same = h.same;
              floor = λ read. shown_by_lasts s t note refl plan key h.serves.sent.sent_at num h.serves.sent.before (h.floor read);
              own = λ write. has_own_lasts plan (Its op) note s t g s.steps (now s) op num (omega arith) (h.own write);
              stored = λ write. h.known;
            };
            about = λ o n. n;
          },
          tt,
        ),
      ))
      (λ o n. n, tt) (tt, tt) (not_left plan s k runs rest caller op key others h.serves) (λ o n. n, tt)

  pub reply_keeps : (packet answer : Packet) → ((t : State) → IsBeingAnswered plan t caller op key → Relies plan t answer) → ((t : ℕ) → AdmitsOther t answer)
      → OperationsStand plan (passed_state s rest packet (reply_passes s.switch tag num body (sent_to (Client caller) answer) (entry_place key s.switch)) note)
  reply_keeps packet answer flies none = place (entry_place key s.switch) refl
    where
      absorbed : (i : ℕ) → entry_place key s.switch ≡ Some i → takes_reply tag num (slot_at s.switch i) ≡ true → (b : Bool) → OperationsStand plan (passed_state s rest packet (record {
        view = let slot = absorbing num body (slot_at s.switch i) in if b then with_slot s.switch i slot else with_taken (with_slot s.switch i slot) i (held_record (slot_at s.switch i));
        first = sent_to (Client caller) answer;
        second = if b then None else part_of s.switch i;
      }) note)
      absorbed i e taken true =
          leaves packet answer flies none (with_slot s.switch i (absorbing num body (slot_at s.switch i))) None
          (absorbs (with_slot s.switch i (absorbing num body (slot_at s.switch i))) i e (with_slot_sets s.switch i (absorbing num body (slot_at s.switch i)) (entry_is key s.switch i e).within) taken) (λ t. tt) tt
      absorbed i e taken false =
          leaves packet answer flies none (with_taken (with_slot s.switch i (absorbing num body (slot_at s.switch i))) i (held_record (slot_at s.switch i))) (part_of s.switch i)
          (absorbs (with_taken (with_slot s.switch i (absorbing num body (slot_at s.switch i))) i (held_record (slot_at s.switch i))) i e (taken_sets s.switch i (absorbing num body (slot_at s.switch i)) (entry_is key s.switch i e).within) taken)
          (λ t. (part_relies plan t s.switch i, λ tag. part_admits s.switch i tag)) (λ tag. part_admits s.switch i tag)

      met : (i : ℕ) → entry_place key s.switch ≡ Some i → (b : Bool) → takes_reply tag num (slot_at s.switch i) ≡ b → OperationsStand plan (passed_state s rest packet (if b
          then Rattle.far_model.specs.Pass.changes s.switch i (absorbing num body (slot_at s.switch i)) (sent_to (Client caller) answer)
          else record { view = with_slot s.switch i (raised num (slot_at s.switch i)); first = sent_to (Client caller) answer; second = None }) note)
      met i e true taken = absorbed i e taken (is_taken s.switch i)
      met i e false stays = leaves packet answer flies none (with_slot s.switch i (raised num (slot_at s.switch i))) None (raises i e stays) (λ t. tt) tt

      place : (o : Option ℕ) → entry_place key s.switch ≡ o → OperationsStand plan (passed_state s rest packet (reply_passes s.switch tag num body (sent_to (Client caller) answer) o) note)
      place None e = leaves packet answer flies none s.switch None (none_passes (ap (slot_if s.switch) e)) (λ t. tt) tt
      place (Some i) e = met i e (takes_reply tag num (slot_at s.switch i)) refl

-- Requests to the switch: reads and writes.
use Rattle.far_invariants.specs.Numbers.{ExposedAtMost, slot_if, entry, reach_by, reach, IsWritten, WouldBeCurrent}
use Rattle.far_invariants.specs.Covers.{look}
use Rattle.far_invariants.specs.Operations.{EmitsOp, AnswersOp, IsSent, IsDrawn, ServesOp, ReadIsAsked, WriteIsAsked, IsBeingAnswered, OperationsStand}
use Rattle.far_invariants.proofs.Noted.{member, note_member}
use Rattle.far_model.specs.Coherent.{IsOwnNumber}
use Rattle.std.proofs.Common.{◌≡◌, ◌≢◌, ℕ, ◌+◌, ◌<◌, ◌≤◌, max, inl, inr, Bool, true, false, List, [], ◌∷◌, refl, sym, ap, ◌∙◌, subst, arith, le_trans}
use Rattle.std.specs.Prelude.{Option, Some, None, if◌then◌else◌}
use Rattle.std.proofs.lemmas.Option.{same_Some}
use Rattle.far_base.specs.PlanView.{PlanView}
use Rattle.far_base.specs.declared.log.LogEntry.{LogEntry}
use Rattle.far_base.specs.declared.log.LogEntry.TheVariants.{Numbered, Emitted}
use Rattle.far_base.specs.declared.packet.Message.{Message}
use Rattle.far_base.specs.declared.packet.Out.{Out}
use Rattle.far_base.specs.declared.packet.Packet.TheVariants.{GetReq, WriteReq, GetFwd, GetAns, WriteAns, Hot}
use Rattle.far_base.specs.declared.party.Party.TheVariants.{Client, Server, Controller}
use Rattle.far_model.specs.Clients.{line_of}
use Rattle.far_model.specs.Events.{switch_turn}
use Rattle.far_model.specs.Members.{Among, Each}
use Rattle.far_model.specs.Pass.{Passed, sent_to, read_passes, write_passes, numbered, absorbing, touched, told_hot, grows_hot, hot_cell, part_of, with_slot, with_taken}
use Rattle.far_model.specs.State.{State, client_at, line_at, now, noted, stepped}
use Rattle.far_model.specs.View.{SlotView, SwitchView, slot_at, entry_place, is_slot_of, is_taken, server_of, held_record}
use Rattle.record_laws.proofs.Frame.{NotOn, off_shows_each, absent_lasts, shown_lasts, shown_by_lasts, shown_within, shown_shown_by, Grows, serves_lasts}
use Rattle.record_laws.proofs.Keeps.{part_relies, part_admits}
use Rattle.record_laws.proofs.Slots.{IsEntry, SetsSlot, entry_is, entry_set, entry_kept, taken_sets, with_slot_sets}
use Rattle.record_laws.proofs.Step.{AreOthers, GoesWell, AdmitsNone, PassesFor, passed_state, pass_keeps, shown_counted}

-- the operation of the step
abbrev pub Its : ℕ → ℕ → Type 0
Its op o = o ≡ op

pub reach_none : (n : ℕ) (e : Option SlotView) → e ≡ None → reach_by n e ≡ n
reach_none n e h = ap (reach_by n) h

pub reach_latest : (n : ℕ) (e : Option SlotView) (slot : SlotView) → e ≡ Some slot → slot.latest ≡ true → reach_by n e ≡ slot.num
reach_latest n e slot h l = ap (reach_by n) h ∙ ap (λ b. if b then slot.num else n) l

pub reach_outdated : (n : ℕ) (e : Option SlotView) (slot : SlotView) → e ≡ Some slot → slot.latest ≡ false → reach_by n e ≡ n
reach_outdated n e slot h l = ap (reach_by n) h ∙ ap (λ b. if b then slot.num else n) l

-- a record that was written stays so
pub written_still : (plan : PlanView) (s : State) (notes : List LogEntry) (key : List ℕ) (num : ℕ) (body : Option (List ℕ)) → IsWritten plan s.log s.steps key num body → IsWritten plan (noted s notes) (now s) key num body
written_still plan s notes key num body h = record {
  none = h.none;
  some = λ above. let w = h.some above in record {
    op = w.op;
    on_key = w.on_key;
    same_body = w.same_body;
    own = let before = w.own.before in record { numbered_at = w.own.numbered_at; numbered = member s (stepped s [] notes) notes refl _ w.own.numbered; before = omega (arith, before) };
  };
}

abbrev pub sent_still : (plan : PlanView) (s : State) (notes : List LogEntry) (op : ℕ) → IsSent plan s.log s.steps op → IsSent plan (noted s notes) (now s) op
sent_still plan s notes op h = record { sent_at = h.sent_at; sent = member s (stepped s [] notes) notes refl _ h.sent; before = le_trans h.before (omega arith) }

-- a pass that changes no slot and answers nothing
pub quiet_passes : (plan : PlanView) (s : State) (w : SwitchView) (notes : List LogEntry) (key : List ℕ) → OperationsStand plan s → w.config ≡ s.switch.config → s.switch.counter ≤ w.counter
    → ((other : List ℕ) → entry other w ≡ entry other s.switch) → ((other : List ℕ) → Each (NotOn plan other) notes) → PassesFor plan s w notes key
quiet_passes plan s w notes key k config counter same off = record {
  config = config;
  counter = counter;
  others = λ other ne. same other;
  not_on = λ other ne. off other;
  covers = λ runs. subst (λ e. ExposedAtMost plan (noted s notes) key (reach_by (look plan s key).num e)) (sym (same key))
      (shown_lasts s (stepped s [] notes) notes refl plan key (reach plan s key) (k.covers runs key) (off_shows_each plan key (reach plan s key) notes (off key)));
  drawn = λ slot is. (k.slots key slot (sym (same key) ∙ is)).drawn;
  written = λ slot is latest. written_still plan s notes key slot.num slot.body ((k.slots key slot (sym (same key) ∙ is)).written latest);
  current = λ tag n m c b slot is old under.
      shown_within plan (noted s notes) key (max n slot.num) (max m slot.num)
      (shown_lasts s (stepped s [] notes) notes refl plan key (max n slot.num) (c slot (sym (same key) ∙ is) old under) (off_shows_each plan key (max n slot.num) notes (off key)))
      (omega (arith, b));
}

-- a pass that answers from a latest slot and changes none
pub near_passes : (plan : PlanView) (s : State) (op : ℕ) (body : Option (List ℕ)) (near : Bool) (key : List ℕ) (slot : SlotView) → OperationsStand plan s → (line_of plan.ops op).key ≡ key
    → entry key s.switch ≡ Some slot → slot.latest ≡ true → PassesFor plan s s.switch (Emitted op slot.num body near ∷ []) key
near_passes plan s op body near key slot k on is latest = record {
  config = refl;
  counter = omega arith;
  others = λ other ne. refl;
  not_on = λ other ne. (λ q. ne (sym q ∙ on), tt);
  covers = λ runs. subst (λ n. ExposedAtMost plan (noted s (Emitted op slot.num body near ∷ [])) key n) (sym reaches)
      (shown_lasts s (stepped s [] (Emitted op slot.num body near ∷ [])) (Emitted op slot.num body near ∷ []) refl plan key slot.num (subst (λ n. ExposedAtMost plan s.log key n) reaches (k.covers runs key)) (λ q. omega arith, tt));
  drawn = λ other is'. (k.slots key other is').drawn;
  written = λ other is' l. written_still plan s (Emitted op slot.num body near ∷ []) key other.num other.body ((k.slots key other is').written l);
  current = λ tag n m c b other is' old under. absurd (clash other (same_Some slot other (sym is ∙ is')) old);
}
  where
    reaches : reach plan s key ≡ slot.num
    reaches = reach_latest (look plan s key).num (entry key s.switch) slot is latest

    clash : (other : SlotView) → slot ≡ other → other.latest ≡ false → ⊥
    clash other e old = let l = sym latest ∙ ap (λ (w : SlotView). w.latest) e ∙ old in absurd cc

-- a pass that sets the slot of the key
pub set_passes : (plan : PlanView) (s : State) (v w : SwitchView) (notes : List LogEntry) (key : List ℕ) (i : ℕ) (slot : SlotView)
    → v.config ≡ s.switch.config → s.switch.counter ≤ v.counter → ((other : List ℕ) → entry other v ≡ entry other s.switch)
    → SetsSlot v w i slot → IsEntry key v i → is_slot_of key slot ≡ true
    → ((other : List ℕ) → other ≢ key → Each (NotOn plan other) notes)
    → (s.running ≡ true → ExposedAtMost plan (noted s notes) key (reach_by (look plan s key).num (Some slot)))
    → IsDrawn s slot.tag
    → (slot.latest ≡ true → IsWritten plan (noted s notes) (now s) key slot.num slot.body)
    → ((tag n m : ℕ) → WouldBeCurrent plan s key tag n → n ≤ m → slot.latest ≡ false → slot.tag ≡ tag → ExposedAtMost plan (noted s notes) key (max m slot.num))
    → PassesFor plan s w notes key
set_passes plan s v w notes key i slot config counter same sets is owned off covers drawn written current = record {
  config = sets.config ∙ config;
  counter = let e = sets.counter in omega (arith, counter);
  others = λ other ne. entry_kept other key v w i slot sets is ne ∙ same other;
  not_on = off;
  covers = λ runs. subst (λ e. ExposedAtMost plan (noted s notes) key (reach_by (look plan s key).num e)) (sym here) (covers runs);
  drawn = λ other is'. subst (λ (x : SlotView). IsDrawn s x.tag) (same_Some slot other (sym here ∙ is')) drawn;
  written = λ other is' l. subst (λ (x : SlotView). x.latest ≡ true → IsWritten plan (noted s notes) (now s) key x.num x.body) (same_Some slot other (sym here ∙ is')) written l;
  current = λ tag n m c b other is' old under. subst (λ (x : SlotView). x.latest ≡ false → x.tag ≡ tag → ExposedAtMost plan (noted s notes) key (max m x.num)) (same_Some slot other (sym here ∙ is')) (λ o u. current tag n m c b o u) old under;
}
  where
    here : entry key w ≡ Some slot
    here = entry_set key v w i slot sets is owned

-- a hot key is told to the controller, and nothing else
pub hot_goes : (plan : PlanView) (t : State) (key : List ℕ) (v : SwitchView) → GoesWell plan t (told_hot key v) × AdmitsNone (told_hot key v)
hot_goes plan t key v = go (grows_hot v.config.hot (hot_cell key v))
  where
    go : (b : Bool) → GoesWell plan t (if b then sent_to Controller (Hot key) else None) × AdmitsNone (if b then sent_to Controller (Hot key) else None)
    go true = ((tt, λ tag. tt), λ tag. tt)
    go false = (tt, tt)

module _ (plan : PlanView) (s : State) (k : OperationsStand plan s) (runs : s.running ≡ true) (rest : List Message) (caller op : ℕ) (key : List ℕ) (others : AreOthers (Its op) s rest) where
  -- nothing of the operation is still to be sent
  pub not_left : ServesOp plan s caller op key → (c o : ℕ) → Among o (client_at s c).left → Its op o → ⊥
  not_left h c o a same = (k.left c).unsent o a _ h.sent.sent same

  -- the answer that leaves relies on what the step notes
  pub answering : (t : State) (notes : List LogEntry) (num : ℕ) (body : Option (List ℕ)) (near : Bool) → Grows plan (Its op) notes s t → Among (Emitted op num body near) notes
      → Each (λ e. AnswersOp op e → ⊥) notes → ServesOp plan s caller op key → IsBeingAnswered plan t caller op key
  answering t notes num body near g among none h = record {
    serves = serves_lasts plan (Its op) notes s t g caller op key (absent_lasts s t notes g.log (AnswersOp op) h.unanswered none) h;
    emitted = record { emitted_at = now s; num = num; body = body; near = near; emitted = note_member s t notes g.log _ among; before = let e = g.steps in omega arith };
  }

  -- a read that is forwarded, where the key has no latest slot
  forwards : (w : SwitchView) (second : Option Out) (tag : ℕ)
      → ((other : List ℕ) → entry other w ≡ entry other s.switch) → reach plan s key ≡ (look plan s key).num → IsDrawn s tag
      → Grows plan (Its op) [] s (passed_state s rest (GetReq caller op key) (record { view = w; first = sent_to (Server (server_of s.switch.config key)) (GetFwd caller op key tag); second = second }) [])
      → ReadIsAsked plan s caller op key
      → GoesWell plan (passed_state s rest (GetReq caller op key) (record { view = w; first = sent_to (Server (server_of s.switch.config key)) (GetFwd caller op key tag); second = second }) []) (sent_to (Server (server_of s.switch.config key)) (GetFwd caller op key tag))
  forwards w second tag same reaches drawn g h =
      let t : State = passed_state s rest (GetReq caller op key) (record { view = w; first = sent_to (Server (server_of s.switch.config key)) (GetFwd caller op key tag); second = second }) [] in
      let shown : ExposedAtMost plan t.log key (look plan s key).num = shown_lasts s t [] refl plan key (look plan s key).num (subst (λ n. ExposedAtMost plan s.log key n) reaches (k.covers runs key)) tt in (
        record {
          serves = serves_lasts plan (Its op) [] s t g caller op key (absent_lasts s t [] refl (AnswersOp op) h.serves.unanswered tt) h.serves;
          read = h.read;
          unemitted = absent_lasts s t [] refl (EmitsOp op) h.unemitted tt;
          floor = shown_shown_by plan t.log key h.serves.sent.sent_at (look plan s key).num shown;
          tagged = record { drawn = g.drawn tag drawn; current = λ slot is old under. shown_within plan t.log key (look plan s key).num (max (look plan s key).num slot.num) shown (omega arith) };
        },
        λ other. tt,
      )

  pub read_keeps : ReadIsAsked plan s caller op key → OperationsStand plan (switch_turn s rest (GetReq caller op key) (read_passes s.switch caller op key (entry_place key s.switch)))
  read_keeps h = place (entry_place key s.switch) refl
    where
      near : (slot : SlotView) → entry key s.switch ≡ Some slot → slot.latest ≡ true
          → OperationsStand plan (switch_turn s rest (GetReq caller op key) (record { view = s.switch; first = sent_to (Client caller) (GetAns caller op key slot.num slot.body true); second = None }))
      near slot is latest =
          let p : Passed = record { view = s.switch; first = sent_to (Client caller) (GetAns caller op key slot.num slot.body true); second = None } in
          let t : State = passed_state s rest (GetReq caller op key) p (Emitted op slot.num slot.body true ∷ []) in
          let reaches : reach plan s key ≡ slot.num = reach_latest (look plan s key).num (entry key s.switch) slot is latest in
          pass_keeps plan (Its op) s rest (GetReq caller op key) p (Emitted op slot.num slot.body true ∷ []) key k (near_passes plan s op slot.body true key slot k h.serves.on_key is latest) others (λ tag. tt) tt
          (λ g. (
            (answering t (Emitted op slot.num slot.body true ∷ []) slot.num slot.body true g (inl refl) (λ x. x, tt) h.serves, λ tag. tt),
            tt,
            (
              record {
                fresh = h.unemitted;
                stands = record {
                  sent = sent_still plan s (Emitted op slot.num slot.body true ∷ []) op h.serves.sent;
                  key = key;
                  on_key = h.serves.on_key;
                  written = slot.body;
                  source = written_still plan s (Emitted op slot.num slot.body true ∷ []) key slot.num slot.body ((k.slots key slot is).written latest);
                  same = λ read. refl;
                  floor = λ read. shown_by_lasts s t (Emitted op slot.num slot.body true ∷ []) refl plan key h.serves.sent.sent_at slot.num h.serves.sent.before
                      (shown_shown_by plan s.log key h.serves.sent.sent_at slot.num (subst (λ n. ExposedAtMost plan s.log key n) reaches (k.covers runs key)));
                  own = λ write. absurd (let e = sym h.read ∙ write in cc);
                  stored = λ write. absurd (let e = sym h.read ∙ write in cc);
                };
                about = λ o n. n;
              },
              tt,
            ),
          ))
          (λ o n. n, tt) (tt, tt) (not_left h.serves) (λ o n. n, tt)

      outdated : (slot : SlotView) → entry key s.switch ≡ Some slot → slot.latest ≡ false
          → OperationsStand plan (switch_turn s rest (GetReq caller op key) (record { view = s.switch; first = sent_to (Server (server_of s.switch.config key)) (GetFwd caller op key slot.tag); second = None }))
      outdated slot is old =
          let p : Passed = record { view = s.switch; first = sent_to (Server (server_of s.switch.config key)) (GetFwd caller op key slot.tag); second = None } in
          pass_keeps plan (Its op) s rest (GetReq caller op key) p [] key k (quiet_passes plan s s.switch [] key k refl (omega arith) (λ other. refl) (λ other. tt)) others (λ tag. tt) tt
          (λ g. (forwards s.switch None slot.tag (λ other. refl) (reach_outdated (look plan s key).num (entry key s.switch) slot is old) (k.slots key slot is).drawn g h, tt, tt))
          tt tt (not_left h.serves) tt

      by_latest : (i : ℕ) → entry key s.switch ≡ Some (slot_at s.switch i) → (b : Bool) → (slot_at s.switch i).latest ≡ b → OperationsStand plan (switch_turn s rest (GetReq caller op key) (record {
        view = s.switch;
        first = if b then sent_to (Client caller) (GetAns caller op key (slot_at s.switch i).num (slot_at s.switch i).body true) else sent_to (Server (server_of s.switch.config key)) (GetFwd caller op key (slot_at s.switch i).tag);
        second = None;
      }))
      by_latest i is true l = near (slot_at s.switch i) is l
      by_latest i is false l = outdated (slot_at s.switch i) is l

      place : (o : Option ℕ) → entry_place key s.switch ≡ o → OperationsStand plan (switch_turn s rest (GetReq caller op key) (read_passes s.switch caller op key o))
      place None e =
          let p : Passed = read_passes s.switch caller op key None in
          let hot = hot_goes plan (passed_state s rest (GetReq caller op key) p []) key s.switch in
          pass_keeps plan (Its op) s rest (GetReq caller op key) p [] key k (quiet_passes plan s (touched key s.switch) [] key k refl (omega arith) (λ other. refl) (λ other. tt)) others (λ tag. tt) hot.1
          (λ g. (forwards (touched key s.switch) (told_hot key s.switch) 0 (λ other. refl) (reach_none (look plan s key).num (entry key s.switch) (ap (slot_if s.switch) e)) k.untagged g h, hot.0, tt))
          tt tt (not_left h.serves) tt
      place (Some i) e = by_latest i (ap (slot_if s.switch) e) (slot_at s.switch i).latest refl

  -- ---- writes

  abbrev write_after : Option (List ℕ) → SwitchView → Option Out → State
  write_after body w second = passed_state s rest (WriteReq caller op key body) (record { view = w; first = sent_to (Client caller) (WriteAns caller op key w.counter true); second = second }) (Numbered op w.counter ∷ Emitted op w.counter None true ∷ [])

  abbrev write_notes : SwitchView → List LogEntry
  write_notes w = Numbered op w.counter ∷ Emitted op w.counter None true ∷ []

  -- the number that the step notes is the write's own
  own_now : (t : State) (notes : List LogEntry) (num : ℕ) → t.log ≡ noted s notes → Among (Numbered op num) notes → IsOwnNumber t.log (now s) op num
  own_now t notes num e among = record { numbered_at = now s; numbered = note_member s t notes e _ among; before = omega arith }

  number_fresh : (num : ℕ) → s.switch.counter < num → (at other own : ℕ) → Among (line_at at (Numbered other own)) s.log → own < num
  number_fresh num above at other own a = let c = ((k.lines _ a).stands).counted runs in omega (arith, above, c)

  -- an entry takes the write
  write_absorbs : (body : Option (List ℕ)) (w : SwitchView) (second : Option Out) (i : ℕ) → WriteIsAsked plan s caller op key body → entry_place key s.switch ≡ Some i
      → SetsSlot (numbered s.switch) w i (absorbing w.counter body (slot_at s.switch i)) → s.switch.counter < w.counter → ((t : State) → GoesWell plan t second) → AdmitsNone second
      → OperationsStand plan (write_after body w second)
  write_absorbs body w second i h e sets above goes admits =
      let p : Passed = record { view = w; first = sent_to (Client caller) (WriteAns caller op key w.counter true); second = second } in
      let t : State = write_after body w second in
      let is : IsEntry key (numbered s.switch) i = entry_is key (numbered s.switch) i e in
      let shown : ExposedAtMost plan t.log key w.counter = shown_lasts s t (write_notes w) refl plan key w.counter
      (shown_within plan s.log key s.switch.counter w.counter (shown_counted plan s k runs key) (omega (arith, above))) (tt, (λ q. omega arith, tt)) in
      let written : IsWritten plan t.log (now s) key w.counter body = record {
        none = λ zero. absurd (omega (arith, zero, above));
        some = λ more. record { op = op; own = own_now t (write_notes w) w.counter refl (inl refl); on_key = h.serves.on_key; same_body = h.same_body };
      } in
      let f : PassesFor plan s w (write_notes w) key = set_passes plan s (numbered s.switch) w (write_notes w) key i (absorbing w.counter body (slot_at s.switch i)) refl (omega arith) (λ other. refl) sets is is.owned
      (λ other ne. (tt, (λ q. ne (sym q ∙ h.serves.on_key), tt))) (λ r. shown) (k.slots key (slot_at s.switch i) (ap (slot_if s.switch) e)).drawn (λ l. written) (λ tag n m c b old under. absurd cc) in
      pass_keeps plan (Its op) s rest (WriteReq caller op key body) p (write_notes w) key k f others (λ tag. tt) admits
      (λ g. (
        (answering t (write_notes w) w.counter None true g (inr (inl refl)) (λ x. x, (λ x. x, tt)) h.serves, λ tag. tt),
        goes t,
        (
          record {
            fresh = (h.unnumbered, number_fresh w.counter above);
            stands = record { sent = sent_still plan s (write_notes w) op h.serves.sent; write = h.write; above = omega (arith, above); counted = λ r. omega arith };
            about = λ o n. n;
          },
          (
            record {
              fresh = h.unemitted;
              stands = record {
                sent = sent_still plan s (write_notes w) op h.serves.sent;
                key = key;
                on_key = h.serves.on_key;
                written = body;
                source = written;
                same = λ read. absurd (let e = sym h.write ∙ read in cc);
                floor = λ read. absurd (let e = sym h.write ∙ read in cc);
                own = λ write. record { own = w.counter; is = own_now t (write_notes w) w.counter refl (inl refl); within = omega arith };
                stored = λ write. own_now t (write_notes w) w.counter refl (inl refl);
              };
              about = λ o n. n;
            },
            tt,
          ),
        ),
      ))
      (λ o n. n, (λ o n. n, tt)) ((tt, tt), (tt, tt)) (not_left h.serves) (λ o n. n, (λ o n. n, tt))

  pub write_keeps : (body : Option (List ℕ)) → WriteIsAsked plan s caller op key body → OperationsStand plan (switch_turn s rest (WriteReq caller op key body) (write_passes (numbered s.switch) caller op key body (entry_place key s.switch)))
  write_keeps body h = place (entry_place key s.switch) refl
    where
      absorbed : (i : ℕ) → entry_place key s.switch ≡ Some i → (b : Bool) → OperationsStand plan (switch_turn s rest (WriteReq caller op key body) (record {
        view = let slot = absorbing (s.switch.counter + 1) body (slot_at s.switch i) in if b then with_slot (numbered s.switch) i slot else with_taken (with_slot (numbered s.switch) i slot) i (held_record (slot_at s.switch i));
        first = sent_to (Client caller) (WriteAns caller op key (s.switch.counter + 1) true);
        second = if b then None else part_of (numbered s.switch) i;
      }))
      absorbed i e true =
          let is : IsEntry key (numbered s.switch) i = entry_is key (numbered s.switch) i e in
          write_absorbs body (with_slot (numbered s.switch) i (absorbing (s.switch.counter + 1) body (slot_at s.switch i))) None i h e
          (with_slot_sets (numbered s.switch) i (absorbing (s.switch.counter + 1) body (slot_at s.switch i)) is.within) (omega arith) (λ t. tt) tt
      absorbed i e false =
          let is : IsEntry key (numbered s.switch) i = entry_is key (numbered s.switch) i e in
          write_absorbs body (with_taken (with_slot (numbered s.switch) i (absorbing (s.switch.counter + 1) body (slot_at s.switch i))) i (held_record (slot_at s.switch i))) (part_of (numbered s.switch) i) i h e
          (taken_sets (numbered s.switch) i (absorbing (s.switch.counter + 1) body (slot_at s.switch i)) is.within) (omega arith) (λ t. (part_relies plan t (numbered s.switch) i, λ tag. part_admits (numbered s.switch) i tag)) (λ tag. part_admits (numbered s.switch) i tag)

      place : (o : Option ℕ) → entry_place key s.switch ≡ o → OperationsStand plan (switch_turn s rest (WriteReq caller op key body) (write_passes (numbered s.switch) caller op key body o))
      place None e =
          let p : Passed = write_passes (numbered s.switch) caller op key body None in
          let t : State = passed_state s rest (WriteReq caller op key body) p (Numbered op (s.switch.counter + 1) ∷ []) in
          let hot = hot_goes plan t key (numbered s.switch) in
          pass_keeps plan (Its op) s rest (WriteReq caller op key body) p (Numbered op (s.switch.counter + 1) ∷ []) key k
          (quiet_passes plan s (touched key (numbered s.switch)) (Numbered op (s.switch.counter + 1) ∷ []) key k refl (omega arith) (λ other. refl) (λ other. (tt, tt))) others (λ tag. tt) hot.1
          (λ g. (
            (
              record {
                serves = serves_lasts plan (Its op) (Numbered op (s.switch.counter + 1) ∷ []) s t g caller op key (absent_lasts s t (Numbered op (s.switch.counter + 1) ∷ []) refl (AnswersOp op) h.serves.unanswered (λ x. x, tt)) h.serves;
                write = h.write;
                same_body = h.same_body;
                own = own_now t (Numbered op (s.switch.counter + 1) ∷ []) (s.switch.counter + 1) refl (inl refl);
                above = omega arith;
                unemitted = absent_lasts s t (Numbered op (s.switch.counter + 1) ∷ []) refl (EmitsOp op) h.unemitted (λ x. x, tt);
              },
              λ tag. tt,
            ),
            hot.0,
            (
              record {
                fresh = (h.unnumbered, number_fresh (s.switch.counter + 1) (omega arith));
                stands = record { sent = sent_still plan s (Numbered op (s.switch.counter + 1) ∷ []) op h.serves.sent; write = h.write; above = omega arith; counted = λ r. omega arith };
                about = λ o n. n;
              },
              tt,
            ),
          ))
          (λ o n. n, tt) (tt, tt) (not_left h.serves) (λ o n. n, tt)
      place (Some i) e = absorbed i e (is_taken (numbered s.switch) i)

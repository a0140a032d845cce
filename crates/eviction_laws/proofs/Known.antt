-- Packets of operations show only what is known.
use Rattle.far_invariants.specs.Covers.{IsKnown, look}
use Rattle.far_invariants.proofs.Noted.{note_member}
use Rattle.far_base.specs.declared.record.Versioned.{Versioned}
use Rattle.std.proofs.Common.{◌≡◌, ℕ, ◌+◌, ◌<◌, ◌≤◌, max, ◌⊎◌, inl, inr, Bool, true, false, List, [], ◌∷◌, refl, sym, ap, ◌∙◌, subst, arith}
use Rattle.std.proofs.lemmas.Bool.Decides.{leb_tells}
use Rattle.std.specs.Prelude.{Option, Some, None, if◌then◌else◌, ◌&&◌, nat_le, nat_lt, slice_get, get_or, set}
use Rattle.std.specs.List.{remove}
use Rattle.std.proofs.lemmas.Option.{same_Some}
use Rattle.std.proofs.lemmas.List.{set-get_or}
use Rattle.far_base.specs.PlanView.{PlanView}
use Rattle.far_base.specs.declared.log.LogEntry.{LogEntry}
use Rattle.far_base.specs.declared.log.LogEntry.TheVariants.{Numbered, Emitted}
use Rattle.far_base.specs.declared.packet.Message.{Message}
use Rattle.far_base.specs.declared.packet.Out.{Out}
use Rattle.far_base.specs.declared.packet.Packet.{Packet}
use Rattle.far_base.specs.declared.packet.Packet.TheVariants.{GetReq, WriteReq, GetFwd, WriteFwd, GetRep, WriteRep, GetAns, WriteAns, Hot}
use Rattle.far_base.specs.declared.party.Party.{Party}
use Rattle.far_base.specs.declared.party.Party.TheVariants.{Client, Server, Controller}
use Rattle.far_base.specs.declared.plan.OpLine.{OpLine}
use Rattle.far_base.specs.declared.record.Record.{Record}
use Rattle.far_model.specs.Clients.{ClientState, line_of, request, client_takes, preserves, closed, answered_record}
use Rattle.far_model.specs.Events.{handled, reply_at, sends, next_sent, switch_turn, server_turn, client_turn}
use Rattle.far_invariants.specs.Flights.{subject, is_operation, IsRouted}
use Rattle.far_model.specs.KeyedRecords.{found, put_record}
use Rattle.far_model.specs.Log.{is_read, same_key}
use Rattle.far_model.specs.Members.{Among}
use Rattle.far_model.specs.Parties.{Turn}
use Rattle.far_model.specs.Pass.{Passed, sent_to, read_passes, write_passes, reply_passes, numbered, told_hot, grows_hot, hot_cell, changes, part_of, with_slot, with_taken, absorbing, raised, takes_reply, emitted_notes}
use Rattle.far_model.specs.Servers.{record_of, get_reply, write_reply, stored}
use Rattle.far_model.specs.State.{State, client_at, records_at, now}
use Rattle.far_model.specs.View.{SlotView, SwitchView, slot_at, entry_place, is_taken, server_of, held_record}
use Rattle.far_model.proofs.Members.{among_at, among_remove}
use Rattle.flight_laws.proofs.Lists.{by_test}
use Rattle.record_laws.proofs.Slots.{IsEntry, entry_is, both, there_is, with_slot_sets, taken_sets, SetsSlot}
use Rattle.record_laws.proofs.Step.{passed_state}
use Rattle.far_invariants.specs.EvictionNeeds.{PacketsAreOnKey}
use Rattle.far_invariants.specs.Known.{RecordIsKnown, ViewIsKnown, PacketIsKnown, ShownIsKnown}
use Rattle.eviction_laws.proofs.Knowing.{known_onward, view_onward, OutIsKnown, pass_onward, pass_knows, slots_same, slots_set, client_knows, served_onward, server_knows, part_known}
use Rattle.far_invariants.specs.Evictions.{Onward}
use Rattle.eviction_laws.proofs.Storing.{its_look, more_at}

hot_known : (plan : PlanView) (t : State) (key : List ℕ) (v : SwitchView) → OutIsKnown plan t (told_hot key v)
hot_known plan t key v = by_test (OutIsKnown plan t) (grows_hot v.config.hot (hot_cell key v)) (sent_to Controller (Hot key)) None tt tt

-- what a slot held is known
pub held_known : (plan : PlanView) (s : State) → ShownIsKnown plan s → (i : ℕ) → ViewIsKnown plan s (held_record (slot_at s.switch i))
held_known plan s h i = by_test (ViewIsKnown plan s) (slot_at s.switch i).latest (Rattle.far_model.specs.View.keyed_record (slot_at s.switch i).key (slot_at s.switch i).num (slot_at s.switch i).body) None (go (slot_at s.switch i).key refl) tt
  where
    go : (o : Option (List ℕ)) → (slot_at s.switch i).key ≡ o → ViewIsKnown plan s (Rattle.far_model.specs.View.keyed_record o (slot_at s.switch i).num (slot_at s.switch i).body)
    go None e = tt
    go (Some key) e = h.slots i key e

-- the entry of a key has the key
pub entry_key : (key : List ℕ) (v : SwitchView) (i : ℕ) → entry_place key v ≡ Some i → (slot_at v i).key ≡ Some key
entry_key key v i e = let is : IsEntry key v i = entry_is key v i e in there_is key (slot_at v i).key (both (slot_at v i).valid _ is.owned).1

module _ (plan : PlanView) (s : State) (h : ShownIsKnown plan s) (rest : List Message) (rests : (m : Message) → Among m rest → Among m s.bag) (caller op : ℕ) (key : List ℕ) (on_key : (line_of plan.ops op).key ≡ key) where
  -- ---- reads

  pub read_knows : ShownIsKnown plan (switch_turn s rest (GetReq caller op key) (read_passes s.switch caller op key (entry_place key s.switch)))
  read_knows = place (entry_place key s.switch) refl
    where
      slot : (i : ℕ) → entry_place key s.switch ≡ Some i → (b : Bool) → ShownIsKnown plan (switch_turn s rest (GetReq caller op key) (record {
        view = s.switch;
        first = if b then sent_to (Client caller) (GetAns caller op key (slot_at s.switch i).num (slot_at s.switch i).body true) else sent_to (Server (server_of s.switch.config key)) (GetFwd caller op key (slot_at s.switch i).tag);
        second = None;
      }))
      slot i e true =
          let p : Passed = record { view = s.switch; first = sent_to (Client caller) (GetAns caller op key (slot_at s.switch i).num (slot_at s.switch i).body true); second = None } in
          let notes : List LogEntry = Emitted op (slot_at s.switch i).num (slot_at s.switch i).body true ∷ [] in
          let known : IsKnown plan (passed_state s rest (GetReq caller op key) p notes) (line_of plan.ops op).key (slot_at s.switch i).num =
          subst (λ q. IsKnown plan (passed_state s rest (GetReq caller op key) p notes) q (slot_at s.switch i).num) (sym on_key) (known_onward plan s (passed_state s rest (GetReq caller op key) p notes) (pass_onward plan s h rest rests (GetReq caller op key) p notes) key _ (h.slots i key (entry_key key s.switch i e))) in
          pass_knows plan s h rest rests (GetReq caller op key) p notes (known, tt) (slots_same plan s h rest rests (GetReq caller op key) p notes refl) known tt
      slot i e false =
          let p : Passed = record { view = s.switch; first = sent_to (Server (server_of s.switch.config key)) (GetFwd caller op key (slot_at s.switch i).tag); second = None } in
          pass_knows plan s h rest rests (GetReq caller op key) p [] tt (slots_same plan s h rest rests (GetReq caller op key) p [] refl) tt tt

      place : (o : Option ℕ) → entry_place key s.switch ≡ o → ShownIsKnown plan (switch_turn s rest (GetReq caller op key) (read_passes s.switch caller op key o))
      place None e =
          let p : Passed = read_passes s.switch caller op key None in
          pass_knows plan s h rest rests (GetReq caller op key) p [] tt (slots_same plan s h rest rests (GetReq caller op key) p [] refl) tt (hot_known plan (passed_state s rest (GetReq caller op key) p []) key s.switch)
      place (Some i) e = slot i e (slot_at s.switch i).latest

  -- ---- writes

  pub write_knows : (body : Option (List ℕ)) → ShownIsKnown plan (switch_turn s rest (WriteReq caller op key body) (write_passes (numbered s.switch) caller op key body (entry_place key s.switch)))
  write_knows body = place (entry_place key s.switch) refl
    where
      absorbs : (i : ℕ) → entry_place key s.switch ≡ Some i → (w : SwitchView) (second : Option Out) → w.counter ≡ s.switch.counter + 1 → SetsSlot (numbered s.switch) w i (absorbing w.counter body (slot_at s.switch i))
          → ((t : State) → Onward plan s t → OutIsKnown plan t second)
          → ShownIsKnown plan (passed_state s rest (WriteReq caller op key body) (record { view = w; first = sent_to (Client caller) (WriteAns caller op key w.counter true); second = second }) (Numbered op w.counter ∷ Emitted op w.counter None true ∷ []))
      absorbs i e w second count sets part =
          let p : Passed = record { view = w; first = sent_to (Client caller) (WriteAns caller op key w.counter true); second = second } in
          let notes : List LogEntry = Numbered op w.counter ∷ Emitted op w.counter None true ∷ [] in
          let t : State = passed_state s rest (WriteReq caller op key body) p notes in
          let known : (k : List ℕ) → (line_of plan.ops op).key ≡ k → IsKnown plan t k w.counter = (λ k on. inl (record {
            op = op;
            on_key = on;
            numbered_at = now s;
            numbered = note_member s t notes refl _ (inl refl);
            absorbed = record { emitted_at = now s; body = None; emitted = note_member s t notes refl _ (inr (inl refl)) };
          })) in
          pass_knows plan s h rest rests (WriteReq caller op key body) p notes (tt, (known (line_of plan.ops op).key refl, tt))
          (slots_set plan s h rest rests (WriteReq caller op key body) p notes (numbered s.switch) (λ j. refl) i (absorbing w.counter body (slot_at s.switch i)) sets
          (λ k is. known k (on_key ∙ same_Some key k (sym (entry_key key s.switch i e) ∙ is))))
          (known (line_of plan.ops op).key refl) (part t (pass_onward plan s h rest rests (WriteReq caller op key body) p notes))

      taken : (i : ℕ) → entry_place key s.switch ≡ Some i → (b : Bool) → ShownIsKnown plan (switch_turn s rest (WriteReq caller op key body) (record {
        view = let slot = absorbing (s.switch.counter + 1) body (slot_at s.switch i) in if b then with_slot (numbered s.switch) i slot else with_taken (with_slot (numbered s.switch) i slot) i (held_record (slot_at s.switch i));
        first = sent_to (Client caller) (WriteAns caller op key (s.switch.counter + 1) true);
        second = if b then None else part_of (numbered s.switch) i;
      }))
      taken i e true =
          let is : IsEntry key (numbered s.switch) i = entry_is key (numbered s.switch) i e in
          absorbs i e (with_slot (numbered s.switch) i (absorbing (s.switch.counter + 1) body (slot_at s.switch i))) None refl (with_slot_sets (numbered s.switch) i (absorbing (s.switch.counter + 1) body (slot_at s.switch i)) is.within) (λ t o. tt)
      taken i e false =
          let is : IsEntry key (numbered s.switch) i = entry_is key (numbered s.switch) i e in
          absorbs i e (with_taken (with_slot (numbered s.switch) i (absorbing (s.switch.counter + 1) body (slot_at s.switch i))) i (held_record (slot_at s.switch i))) (part_of (numbered s.switch) i) refl (taken_sets (numbered s.switch) i (absorbing (s.switch.counter + 1) body (slot_at s.switch i)) is.within)
          (λ t o. part_known plan t (numbered s.switch) i (view_onward plan s t o (held_record (slot_at s.switch i)) (held_known plan s h i)))

      place : (o : Option ℕ) → entry_place key s.switch ≡ o → ShownIsKnown plan (switch_turn s rest (WriteReq caller op key body) (write_passes (numbered s.switch) caller op key body o))
      place None e =
          let p : Passed = write_passes (numbered s.switch) caller op key body None in
          let notes : List LogEntry = Numbered op (s.switch.counter + 1) ∷ [] in
          pass_knows plan s h rest rests (WriteReq caller op key body) p notes (tt, tt) (slots_same plan s h rest rests (WriteReq caller op key body) p notes refl) tt (hot_known plan (passed_state s rest (WriteReq caller op key body) p notes) key (numbered s.switch))
      place (Some i) e = taken i e (is_taken (numbered s.switch) i)

  -- ---- replies

  module _ (packet : Packet) (tag : Option ℕ) (num : ℕ) (body shown : Option (List ℕ)) (near : Bool) (covered : num ≤ (look plan s key).num) (answer : Packet)
      (answer_known : (t : State) → IsKnown plan t (line_of plan.ops op).key num → PacketIsKnown plan t answer) where
    abbrev note : List LogEntry
    note = Emitted op num shown near ∷ []

    leaves : (w : SwitchView) (second : Option Out)
        → ((i : ℕ) (k : List ℕ) → (slot_at w i).key ≡ Some k → IsKnown plan (passed_state s rest packet (record { view = w; first = sent_to (Client caller) answer; second = second }) note) k (slot_at w i).num)
        → ((t : State) → Onward plan s t → OutIsKnown plan t second)
        → ShownIsKnown plan (passed_state s rest packet (record { view = w; first = sent_to (Client caller) answer; second = second }) note)
    leaves w second slots part =
        let p : Passed = record { view = w; first = sent_to (Client caller) answer; second = second } in
        let t : State = passed_state s rest packet p note in
        let known : IsKnown plan t (line_of plan.ops op).key num = inr (subst (λ k. num ≤ (look plan s k).num) (sym on_key) covered) in
        pass_knows plan s h rest rests packet p note (known, tt) slots (answer_known t known) (part t (pass_onward plan s h rest rests packet p note))

    pub reply_knows : ShownIsKnown plan (passed_state s rest packet (reply_passes s.switch tag num body (sent_to (Client caller) answer) (entry_place key s.switch)) note)
    reply_knows = place (entry_place key s.switch) refl
      where
        absorbed : (i : ℕ) → entry_place key s.switch ≡ Some i → (b : Bool) → ShownIsKnown plan (passed_state s rest packet (record {
          view = if b then with_slot s.switch i (absorbing num body (slot_at s.switch i)) else with_taken (with_slot s.switch i (absorbing num body (slot_at s.switch i))) i (held_record (slot_at s.switch i));
          first = sent_to (Client caller) answer;
          second = if b then None else part_of s.switch i;
        }) note)
        absorbed i e true =
            let is : IsEntry key s.switch i = entry_is key s.switch i e in
            let w : SwitchView = with_slot s.switch i (absorbing num body (slot_at s.switch i)) in
            leaves w None (slots_set plan s h rest rests packet (record { view = w; first = sent_to (Client caller) answer; second = None }) note s.switch (λ j. refl) i (absorbing num body (slot_at s.switch i)) (with_slot_sets s.switch i (absorbing num body (slot_at s.switch i)) is.within)
            (λ k q. inr (subst (λ x. num ≤ (look plan s x).num) (same_Some key k (sym (entry_key key s.switch i e) ∙ q)) covered))) (λ t o. tt)
        absorbed i e false =
            let is : IsEntry key s.switch i = entry_is key s.switch i e in
            let w : SwitchView = with_taken (with_slot s.switch i (absorbing num body (slot_at s.switch i))) i (held_record (slot_at s.switch i)) in
            leaves w (part_of s.switch i) (slots_set plan s h rest rests packet (record { view = w; first = sent_to (Client caller) answer; second = part_of s.switch i }) note s.switch (λ j. refl) i (absorbing num body (slot_at s.switch i)) (taken_sets s.switch i (absorbing num body (slot_at s.switch i)) is.within)
            (λ k q. inr (subst (λ x. num ≤ (look plan s x).num) (same_Some key k (sym (entry_key key s.switch i e) ∙ q)) covered)))
            (λ t o. part_known plan t s.switch i (view_onward plan s t o (held_record (slot_at s.switch i)) (held_known plan s h i)))

        -- the greater of the slot's number and the reply's
        raised_known : (t : State) → Onward plan s t → (i : ℕ) → entry_place key s.switch ≡ Some i → (k : List ℕ) → (slot_at s.switch i).key ≡ Some k → IsKnown plan t k (max (slot_at s.switch i).num num)
        raised_known t o i e k q = pick (leb_tells (slot_at s.switch i).num num)
          where
            pick : ((nat_le (slot_at s.switch i).num num ≡ true) × ((slot_at s.switch i).num ≤ num)) ⊎ ((nat_le (slot_at s.switch i).num num ≡ false) × (num < (slot_at s.switch i).num)) → IsKnown plan t k (max (slot_at s.switch i).num num)
            pick (inl x) =
                let b = x.1 in
                let same : num ≡ max (slot_at s.switch i).num num = omega (arith, b) in
                known_onward plan s t o k (max (slot_at s.switch i).num num) (inr (subst (λ n. n ≤ (look plan s k).num) same (subst (λ x. num ≤ (look plan s x).num) (same_Some key k (sym (entry_key key s.switch i e) ∙ q)) covered)))
            pick (inr x) =
                let b = x.1 in
                let same : (slot_at s.switch i).num ≡ max (slot_at s.switch i).num num = omega (arith, b) in
                subst (λ n. IsKnown plan t k n) same (known_onward plan s t o k (slot_at s.switch i).num (h.slots i k q))

        stays : (i : ℕ) → entry_place key s.switch ≡ Some i → (b : Bool) → ShownIsKnown plan (passed_state s rest packet (record {
          view = with_slot s.switch i (if b then slot_at s.switch i else record (slot_at s.switch i) { num = max (slot_at s.switch i).num num });
          first = sent_to (Client caller) answer;
          second = None;
        }) note)
        stays i e true =
            let is : IsEntry key s.switch i = entry_is key s.switch i e in
            let w : SwitchView = with_slot s.switch i (slot_at s.switch i) in
            let p : Passed = record { view = w; first = sent_to (Client caller) answer; second = None } in
            leaves w None (slots_set plan s h rest rests packet p note s.switch (λ j. refl) i (slot_at s.switch i) (with_slot_sets s.switch i (slot_at s.switch i) is.within)
            (λ k q. known_onward plan s (passed_state s rest packet p note) (pass_onward plan s h rest rests packet p note) k _ (h.slots i k q))) (λ t o. tt)
        stays i e false =
            let is : IsEntry key s.switch i = entry_is key s.switch i e in
            let slot : SlotView = record (slot_at s.switch i) { num = max (slot_at s.switch i).num num } in
            let w : SwitchView = with_slot s.switch i slot in
            let p : Passed = record { view = w; first = sent_to (Client caller) answer; second = None } in
            leaves w None (slots_set plan s h rest rests packet p note s.switch (λ j. refl) i slot (with_slot_sets s.switch i slot is.within)
            (λ k q. raised_known (passed_state s rest packet p note) (pass_onward plan s h rest rests packet p note) i e k q)) (λ t o. tt)

        taken : (i : ℕ) → entry_place key s.switch ≡ Some i → (b : Bool) → ShownIsKnown plan (passed_state s rest packet (if b
            then changes s.switch i (absorbing num body (slot_at s.switch i)) (sent_to (Client caller) answer)
            else record { view = with_slot s.switch i (raised num (slot_at s.switch i)); first = sent_to (Client caller) answer; second = None }) note)
        taken i e true = absorbed i e (is_taken s.switch i)
        taken i e false = stays i e (slot_at s.switch i).latest

        place : (o : Option ℕ) → entry_place key s.switch ≡ o → ShownIsKnown plan (passed_state s rest packet (reply_passes s.switch tag num body (sent_to (Client caller) answer) o) note)
        place None e = leaves s.switch None (slots_same plan s h rest rests packet (record { view = s.switch; first = sent_to (Client caller) answer; second = None }) note refl) (λ t o. tt)
        place (Some i) e = taken i e (takes_reply tag num (slot_at s.switch i))

-- ---- at servers and clients

put_among : (new r : Record) (rs : List Record) → Among r (put_record new rs) → (r ≡ new) ⊎ Among r rs
put_among new r [] (inl e) = inl e
put_among new r [] (inr a) = absurd a
put_among new r (x ∷ xs) a = go (λ b. put_among new r xs b) (same_key x.key new.key) a
  where
    go : (Among r (put_record new xs) → (r ≡ new) ⊎ Among r xs) → (b : Bool) → Among r (if b then new ∷ xs else x ∷ put_record new xs) → (r ≡ new) ⊎ Among r (x ∷ xs)
    go f true (inl e) = inl e
    go f true (inr c) = inr (inr c)
    go f false (inl e) = inr (inl e)
    go f false (inr c) = later (f c)
      where
        later : (r ≡ new) ⊎ Among r xs → (r ≡ new) ⊎ Among r (x ∷ xs)
        later (inl e) = inl e
        later (inr d) = inr (inr d)

module _ (plan : PlanView) (s : State) (some_server : 0 < plan.config.servers) (keys : PacketsAreOnKey plan s) (h : ShownIsKnown plan s) (routed : IsRouted plan s) (i : ℕ) (records : List Record) where
  abbrev left_over : List Message
  left_over = remove s.bag i

  olds : (m : Message) → Among m left_over → Among m s.bag
  olds m a = among_remove m s.bag i a

  abbrev after : Party → Packet → State
  after to p = handled plan (record { reply = reply_at s to p; records = records }) s left_over to p

  reply_first : (v : SwitchView) (tag : Option ℕ) (num : ℕ) (body : Option (List ℕ)) (out : Option Out) (o : Option ℕ) → (reply_passes v tag num body out o).first ≡ out
  reply_first v tag num body out None = refl
  reply_first v tag num body out (Some j) = by_test (λ (p : Passed). p.first ≡ out) (takes_reply tag num (slot_at v j)) (changes v j (absorbing num body (slot_at v j)) out) (record { view = with_slot v j (raised num (slot_at v j)); first = out; second = None }) refl refl

  pub operation_knows : (from to : Party) (p : Packet) → slice_get s.bag i ≡ Some (record { from = from; to = to; packet = p }) → is_operation (subject p) ≡ true → ShownIsKnown plan (after to p)
  operation_knows from to (GetReq caller op key) at is =
      let a = among_at _ s.bag i at in
      subst (λ w. ShownIsKnown plan (after w (GetReq caller op key))) (sym (routed.messages _ a).target) (read_knows plan s h left_over olds caller op key (keys _ a))
  operation_knows from to (WriteReq caller op key body) at is =
      let a = among_at _ s.bag i at in
      subst (λ w. ShownIsKnown plan (after w (WriteReq caller op key body))) (sym (routed.messages _ a).target) (write_knows plan s h left_over olds caller op key (keys _ a) body)
  operation_knows from to (GetRep caller op key tag num body) at is =
      let a = among_at _ s.bag i at in
      subst (λ w. ShownIsKnown plan (after w (GetRep caller op key tag num body))) (sym (routed.messages _ a).target)
      (subst (λ notes. ShownIsKnown plan (passed_state s left_over (GetRep caller op key tag num body) (reply_passes s.switch (Some tag) num body (sent_to (Client caller) (GetAns caller op key num body false)) (entry_place key s.switch)) notes))
      (sym (ap emitted_notes (reply_first s.switch (Some tag) num body (sent_to (Client caller) (GetAns caller op key num body false)) (entry_place key s.switch))))
      (reply_knows plan s h left_over olds caller op key (keys _ a) (GetRep caller op key tag num body) (Some tag) num body body false (h.packets _ a) (GetAns caller op key num body false) (λ t x. x)))
  operation_knows from to (WriteRep caller op key num body) at is =
      let a = among_at _ s.bag i at in
      subst (λ w. ShownIsKnown plan (after w (WriteRep caller op key num body))) (sym (routed.messages _ a).target)
      (subst (λ notes. ShownIsKnown plan (passed_state s left_over (WriteRep caller op key num body) (reply_passes s.switch None num body (sent_to (Client caller) (WriteAns caller op key num false)) (entry_place key s.switch)) notes))
      (sym (ap emitted_notes (reply_first s.switch None num body (sent_to (Client caller) (WriteAns caller op key num false)) (entry_place key s.switch))))
      (reply_knows plan s h left_over olds caller op key (keys _ a) (WriteRep caller op key num body) None num body None false (h.packets _ a) (WriteAns caller op key num false) (λ t x. x)))
  operation_knows from to (GetFwd caller op key tag) at is =
      let same : set s.servers (server_of plan.config key) (records_at s (server_of plan.config key)) ≡ s.servers = set-get_or s.servers (server_of plan.config key) [] in
      let looks : (other : List ℕ) → found (get_or (set s.servers (server_of plan.config key) (records_at s (server_of plan.config key))) (server_of plan.config other) []) other ≡ look plan s other =
      (λ other. ap (λ (l : List (List Record)). found (get_or l (server_of plan.config other) []) other) same) in
      subst (λ w. ShownIsKnown plan (after w (GetFwd caller op key tag))) (sym (routed.messages _ (among_at _ s.bag i at)).target)
      (server_knows plan s h left_over olds (server_of plan.config key) (GetFwd caller op key tag) (get_reply caller op key tag (found (records_at s (server_of plan.config key)) key))
      (λ other. let n = ap (λ (w : Versioned). w.num) (looks other) in omega (arith, n)) (let n = ap (λ (w : Versioned). w.num) (looks key) in omega (arith, n)))
  operation_knows from to (WriteFwd caller op key num body) at is =
      let t : State = server_turn s (server_of plan.config key) left_over (WriteFwd caller op key num body) (Some (write_reply caller op key (found (stored (records_at s (server_of plan.config key)) (record_of key num body)) key))) in
      subst (λ w. ShownIsKnown plan (after w (WriteFwd caller op key num body))) (sym (routed.messages _ (among_at _ s.bag i at)).target)
      (server_knows plan s h left_over olds (server_of plan.config key) (WriteFwd caller op key num body) (write_reply caller op key (found (stored (records_at s (server_of plan.config key)) (record_of key num body)) key))
      (λ other. more_at plan s some_server routed.servers (record_of key num body) t refl other) (let n = ap (λ (w : Versioned). w.num) (its_look plan s some_server routed.servers (record_of key num body) t refl) in omega (arith, n)))
  operation_knows from to (GetAns caller op key num body near) at is =
      subst (λ w. ShownIsKnown plan (after w (GetAns caller op key num body near))) (sym (routed.messages _ (among_at _ s.bag i at)).target)
      (let turn : Turn ClientState = client_takes plan.ops caller (client_at s caller) (GetAns caller op key num body near) in
      let o : Onward plan s (client_turn s caller left_over turn) = served_onward plan s h left_over olds caller turn in
      client_knows plan s h left_over olds caller turn (tt, tt) tt (λ r b. known_onward plan s (client_turn s caller left_over turn) o r.key r.num (h.preserved caller r b)))
  operation_knows from to (WriteAns caller op key num stored) at is =
      let a = among_at _ s.bag i at in
      subst (λ w. ShownIsKnown plan (after w (WriteAns caller op key num stored))) (sym (routed.messages _ a).target)
      (let turn : Turn ClientState = client_takes plan.ops caller (client_at s caller) (WriteAns caller op key num stored) in
      let o : Onward plan s (client_turn s caller left_over turn) = served_onward plan s h left_over olds caller turn in
      client_knows plan s h left_over olds caller turn (tt, tt) tt (λ r b. known_onward plan s (client_turn s caller left_over turn) o r.key r.num (keeps r (h.packets _ a) b)))
    where
      new : Record
      new = answered_record plan.ops op num

      put : (r : Record) → IsKnown plan s (line_of plan.ops op).key num → (r ≡ answered_record plan.ops op num) ⊎ Among r (client_at s caller).preserved → RecordIsKnown plan s r
      put r known (inl e) = subst (RecordIsKnown plan s) (sym e) known
      put r known (inr b) = h.preserved caller r b

      keeps : (r : Record) → IsKnown plan s (line_of plan.ops op).key num → Among r (preserves (closed (client_at s caller)) stored (answered_record plan.ops op num)).preserved → RecordIsKnown plan s r
      keeps r known b = by_test (λ (c : ClientState). Among r c.preserved → RecordIsKnown plan s r) (stored && nat_lt (client_at s caller).released num)
          (record (closed (client_at s caller)) { preserved = put_record (answered_record plan.ops op num) (client_at s caller).preserved }) (closed (client_at s caller))
          (λ c. put r known (put_among (answered_record plan.ops op num) r (client_at s caller).preserved c)) (λ c. h.preserved caller r c) b
  operation_knows from to _ at is = absurd cc

pub send_knows : (plan : PlanView) (s : State) → ShownIsKnown plan s → (c : ℕ) → ShownIsKnown plan (sends plan s c)
send_knows plan s h c = go (client_at s c).left
  where
    request_known : (t : State) (op : ℕ) (line : OpLine) → PacketIsKnown plan t (request c op line)
    request_known t op line = by_test (λ q. PacketIsKnown plan t q) (is_read line.op) (GetReq c op line.key) (WriteReq c op line.key line.body) tt tt

    kept_known : (turn : Turn ClientState) → turn.state.preserved ≡ (client_at s c).preserved → (r : Record) → Among r turn.state.preserved → RecordIsKnown plan (client_turn s c s.bag turn) r
    kept_known turn same r a = known_onward plan s (client_turn s c s.bag turn) (served_onward plan s h s.bag (λ m b. b) c turn) r.key r.num (h.preserved c r (subst (λ l. Among r l) same a))

    go : (left : List ℕ) → ShownIsKnown plan (client_turn s c s.bag (next_sent plan.ops c (client_at s c) left))
    go [] = client_knows plan s h s.bag (λ m a. a) c (next_sent plan.ops c (client_at s c) []) tt tt (kept_known (next_sent plan.ops c (client_at s c) []) refl)
    go (op ∷ left) = client_knows plan s h s.bag (λ m a. a) c (next_sent plan.ops c (client_at s c) (op ∷ left)) (tt, tt) (request_known (client_turn s c s.bag (next_sent plan.ops c (client_at s c) (op ∷ left))) op (line_of plan.ops op), tt) (kept_known (next_sent plan.ops c (client_at s c) (op ∷ left)) refl)

-- What a pass does to slots and their parts: nothing that an untaken part could see, or the part of one slot leaves.
use Rattle.std.proofs.Common.{◌≡◌, ◌≢◌, ℕ, ◌+◌, ◌<◌, ◌≤◌, ◌⊎◌, inl, inr, Bool, true, false, List, [], ◌∷◌, ◌++◌, length, set, get_or, refl, sym, ap, ◌∙◌, arith, ltb-true}
use Rattle.std.specs.Prelude.{Option, Some, None, if◌then◌else◌, ◌&&◌, not, nat_eq, max}
use Rattle.std.proofs.lemmas.List.{length-set, get_or-set_other}
use Rattle.far_base.specs.declared.packet.Out.{Out}
use Rattle.far_base.specs.declared.packet.Packet.{Packet}
use Rattle.far_base.specs.declared.packet.Packet.TheVariants.{GetReq, WriteReq, GetFwd, WriteFwd, GetRep, WriteRep, GetAns, WriteAns, Hot, Admit, AdmitAck, Peek, Remove, SnapStart, SnapRead, SnapFrom}
use Rattle.far_base.specs.declared.party.Party.TheVariants.{Client, Server, Controller}
use Rattle.far_model.specs.Members.{Each}
use Rattle.far_model.specs.Parties.{to_party}
use Rattle.far_model.specs.Pass.{Passed, pass, dropped, touched, told_hot, grows_hot, hot_cell, changes, part_of, part_packet, with_slot, with_taken, read_passes, absorbing, write_passes, numbered, takes_reply, raised, reply_passes, is_slot_there, admitted, admits, is_under, peeks, may_go, removed_answer, removes, reads_part, outs_of, passed_out, sent_to}
use Rattle.far_model.specs.View.{SlotView, SwitchView, HotCell, slot_at, bind_key, held_record, is_taken, empty_slot, entry_place, server_of}
use Rattle.flight_laws.proofs.SnapBasics.{both, not_true, by_test, by_case, all_set, set_field, IsEntry, entry_is, valid_within}
use Rattle.flight_laws.proofs.SnapFrame.{IsForeignOut}

-- all but the marks, the eras and what is the same for all slots
abbrev pub moved : SwitchView → List (Option (List ℕ)) → List SlotView → List HotCell → ℕ → SwitchView
moved v bound slots hot n = record v { bound = bound; slots = slots; hot = hot; counter = n }

-- and the part of slot i is taken
abbrev pub parted : SwitchView → ℕ → List (Option (List ℕ)) → List SlotView → List HotCell → ℕ → SwitchView
parted v i bound slots hot n = with_taken (moved v bound slots hot n) i (held_record (slot_at v i))

abbrev pub IsBare : List SlotView → Type 0
IsBare slots = (i : ℕ) → (get_or slots i empty_slot).valid ≡ false → (get_or slots i empty_slot).latest ≡ false

-- no slot whose part was not taken shows another record
pub record IsStill (v : SwitchView) (slots : List SlotView) (n : ℕ) : Type 0 where
  pub same : length slots ≡ length v.slots
  pub counter : v.counter ≤ n
  pub bare : IsBare slots
  pub left : (i : ℕ) → is_taken v i ≡ false → held_record (get_or slots i empty_slot) ≡ held_record (slot_at v i)

-- the part of slot i leaves, and no other slot shows another record
pub record PartLeaves (v : SwitchView) (i : ℕ) (slots : List SlotView) (n : ℕ) : Type 0 where
  pub untaken : is_taken v i ≡ false
  pub within : i < length v.slots
  pub same : length slots ≡ length v.slots
  pub counter : v.counter ≤ n
  pub bare : IsBare slots
  pub others : (j : ℕ) → j ≢ i → held_record (get_or slots j empty_slot) ≡ held_record (slot_at v j)

pub data PassIs (v : SwitchView) (p : Passed) : Type 0 where
  Stays : (bound : List (Option (List ℕ))) (slots : List SlotView) (hot : List HotCell) (n : ℕ) → p.view ≡ moved v bound slots hot n → IsStill v slots n → Each IsForeignOut (passed_out p) → PassIs v p
  Parts : (i : ℕ) (bound : List (Option (List ℕ))) (slots : List SlotView) (hot : List HotCell) (n : ℕ) (before : List Out) → p.view ≡ parted v i bound slots hot n → PartLeaves v i slots n
      → Each IsForeignOut before → passed_out p ≡ before ++ to_party Controller (part_packet v i) ∷ [] → PassIs v p

-- ---- slots

pub each_append : {A : Type 0} (P : A → Type 0) (xs ys : List A) → Each P xs → Each P ys → Each P (xs ++ ys)
each_append P [] ys h k = k
each_append P (x ∷ xs) ys h k = (h.0, each_append P xs ys h.1 k)

module _ (v : SwitchView) (bare : IsBare v.slots) where
  still_self : IsStill v v.slots v.counter
  still_self = record { same = refl; counter = omega arith; bare = bare; left = λ i h. refl }

  set_still : (i : ℕ) (slot : SlotView) → (is_taken v i ≡ true) ⊎ (held_record slot ≡ held_record (slot_at v i)) → (slot.valid ≡ false → slot.latest ≡ false) → IsStill v (set v.slots i slot) v.counter
  set_still i slot why off = record {
    same = length-set v.slots i slot;
    counter = omega arith;
    bare = all_set (λ (w : SlotView). w.valid ≡ false → w.latest ≡ false) v.slots i slot empty_slot off bare;
    left = λ j h. go why j h;
  }
    where
      go : (is_taken v i ≡ true) ⊎ (held_record slot ≡ held_record (slot_at v i)) → (j : ℕ) → is_taken v j ≡ false → held_record (get_or (set v.slots i slot) j empty_slot) ≡ held_record (slot_at v j)
      go (inl taken) j h = ap held_record (get_or-set_other v.slots i j slot empty_slot (λ e. absurd (let clash : true ≡ false = sym taken ∙ ap (is_taken v) (sym e) ∙ h in cc)))
      go (inr same) j h = set_field held_record v.slots i slot empty_slot same j

  set_parted : (i : ℕ) (slot : SlotView) → is_taken v i ≡ false → i < length v.slots → (slot.valid ≡ false → slot.latest ≡ false) → PartLeaves v i (set v.slots i slot) v.counter
  set_parted i slot untaken within off = record {
    untaken = untaken;
    within = within;
    same = length-set v.slots i slot;
    counter = omega arith;
    bare = all_set (λ (w : SlotView). w.valid ≡ false → w.latest ≡ false) v.slots i slot empty_slot off bare;
    others = λ j ne. ap held_record (get_or-set_other v.slots i j slot empty_slot ne);
  }

  pub dropped_is : PassIs v (dropped v)
  dropped_is = Stays v.bound v.slots v.hot v.counter refl still_self tt

  -- a slot's record is set or taken away
  changes_is : (i : ℕ) (slot : SlotView) (out : Option Out) → i < length v.slots → (slot.valid ≡ false → slot.latest ≡ false) → Each IsForeignOut (outs_of out) → PassIs v (changes v i slot out)
  changes_is i slot out within off foreign = go (is_taken v i) refl
    where
      go : (b : Bool) → is_taken v i ≡ b → PassIs v (record { view = if b then with_slot v i slot else with_taken (with_slot v i slot) i (held_record (slot_at v i)); first = out; second = if b then None else part_of v i })
      go true e = Stays v.bound (set v.slots i slot) v.hot v.counter refl (set_still i slot (inl e) off) (each_append IsForeignOut (outs_of out) [] foreign tt)
      go false e = Parts i v.bound (set v.slots i slot) v.hot v.counter (outs_of out) refl (set_parted i slot e within off) foreign refl

  -- a slot is set that shows what it showed
  sets_is : (i : ℕ) (slot : SlotView) (bound : List (Option (List ℕ))) (out : Option Out) → held_record slot ≡ held_record (slot_at v i) → (slot.valid ≡ false → slot.latest ≡ false) → Each IsForeignOut (outs_of out)
      → PassIs v (record { view = with_slot (record v { bound = bound }) i slot; first = out; second = None })
  sets_is i slot bound out same off foreign = Stays bound (set v.slots i slot) v.hot v.counter refl (set_still i slot (inr same) off) (each_append IsForeignOut (outs_of out) [] foreign tt)

  -- only a cell is touched
  touches_is : (key : List ℕ) (out : Option Out) → Each IsForeignOut (outs_of out) → PassIs v (record { view = touched key v; first = out; second = told_hot key v })
  touches_is key out foreign = Stays v.bound v.slots (touched key v).hot v.counter refl still_self
      (each_append IsForeignOut (outs_of out) (outs_of (told_hot key v)) foreign
      (by_test (λ o. Each IsForeignOut (outs_of o)) (grows_hot v.config.hot (hot_cell key v)) (sent_to Controller (Hot key)) None (refl, tt) tt))

  read_is : (caller op : ℕ) (key : List ℕ) (o : Option ℕ) → PassIs v (read_passes v caller op key o)
  read_is caller op key None = touches_is key (sent_to (Server (server_of v.config key)) (GetFwd caller op key 0)) (refl, tt)
  read_is caller op key (Some i) = Stays v.bound v.slots v.hot v.counter refl still_self
      (by_test (λ o. Each IsForeignOut (outs_of o ++ [])) (slot_at v i).latest _ _ (refl, tt) (refl, tt))

  reply_is : (tag : Option ℕ) (num : ℕ) (body : Option (List ℕ)) (out : Option Out) (key : List ℕ) (o : Option ℕ) → entry_place key v ≡ o → Each IsForeignOut (outs_of out) → PassIs v (reply_passes v tag num body out o)
  reply_is tag num body out key None e foreign = Stays v.bound v.slots v.hot v.counter refl still_self (each_append IsForeignOut (outs_of out) [] foreign tt)
  reply_is tag num body out key (Some i) e foreign =
      by_test (PassIs v) (takes_reply tag num (slot_at v i)) (changes v i (absorbing num body (slot_at v i)) out) (record { view = with_slot v i (raised num (slot_at v i)); first = out; second = None })
      (changes_is i (absorbing num body (slot_at v i)) out entry.within (λ off. absurd (let clash : true ≡ false = sym entry.valid ∙ off in cc)) foreign)
      (sets_is i (raised num (slot_at v i)) v.bound out same (λ off. absurd (let clash : true ≡ false = sym entry.valid ∙ sym valid ∙ off in cc)) foreign)
    where
      entry : IsEntry key v i
      entry = entry_is key v i e

      valid : (raised num (slot_at v i)).valid ≡ (slot_at v i).valid
      valid = by_test (λ (w : SlotView). w.valid ≡ (slot_at v i).valid) (slot_at v i).latest (slot_at v i) (record (slot_at v i) { num = max (slot_at v i).num num }) refl refl

      same : held_record (raised num (slot_at v i)) ≡ held_record (slot_at v i)
      same = by_case (λ (w : SlotView). held_record w ≡ held_record (slot_at v i)) (slot_at v i).latest (slot_at v i) (record (slot_at v i) { num = max (slot_at v i).num num }) (λ l. refl) (λ l. rw l refl)

  admit_is : (i : ℕ) (key : List ℕ) (tag : ℕ) → PassIs v (admits v i key tag)
  admit_is i key tag = sets_is i (admitted key tag (slot_at v i)) (bind_key key i v.bound) (if (slot_at v i).valid then None else sent_to Controller (AdmitAck i tag)) same
      (λ off. absurd (let clash : true ≡ false = sym valid ∙ off in cc))
      (by_test (λ o. Each IsForeignOut (outs_of o)) (slot_at v i).valid None (sent_to Controller (AdmitAck i tag)) tt (refl, tt))
    where
      fresh : SlotView
      fresh = record { key = Some key; tag = tag; valid = true; latest = false; num = 0; body = None }

      valid : (admitted key tag (slot_at v i)).valid ≡ true
      valid = by_case (λ (w : SlotView). w.valid ≡ true) (slot_at v i).valid (slot_at v i) (record { key = Some key; tag = tag; valid = true; latest = false; num = 0; body = None }) (λ h. h) (λ h. refl)

      same : held_record (admitted key tag (slot_at v i)) ≡ held_record (slot_at v i)
      same = by_case (λ (w : SlotView). held_record w ≡ held_record (slot_at v i)) (slot_at v i).valid (slot_at v i) (record { key = Some key; tag = tag; valid = true; latest = false; num = 0; body = None }) (λ h. refl)
          (λ h. let l = bare i h in rw l refl)

  removed_foreign : (i tag : ℕ) (done : Bool) (slot : SlotView) → Each IsForeignOut (outs_of (removed_answer i tag done slot))
  removed_foreign i tag done slot = by_test (λ o. Each IsForeignOut (outs_of o)) (is_under tag slot) _ _ (refl, tt) (refl, tt)

  remove_is : (i tag : ℕ) (latest : Bool) (num : ℕ) → PassIs v (removes v i tag latest num (slot_at v i))
  remove_is i tag latest num = by_case (PassIs v) (may_go tag latest num (slot_at v i)) _ _ (λ go.
      let under = both (is_under tag (slot_at v i)) _ go in
      let valid = both (slot_at v i).valid _ under.0 in
      by_case (PassIs v) (slot_at v i).latest (changes v i empty_slot (removed_answer i tag true (slot_at v i))) (record { view = with_slot v i empty_slot; first = removed_answer i tag true (slot_at v i); second = None })
      (λ l. changes_is i empty_slot (removed_answer i tag true (slot_at v i)) (valid_within v.slots i valid.0) (λ h. refl) (removed_foreign i tag true (slot_at v i)))
      (λ l. sets_is i empty_slot v.bound (removed_answer i tag true (slot_at v i)) (rw l refl) (λ h. refl) (removed_foreign i tag true (slot_at v i))))
      (λ stays. Stays v.bound v.slots v.hot v.counter refl still_self (each_append IsForeignOut (outs_of (removed_answer i tag false (slot_at v i))) [] (removed_foreign i tag false (slot_at v i)) tt))

  peek_is : (i tag : ℕ) → PassIs v (peeks v i tag (slot_at v i))
  peek_is i tag = Stays v.bound v.slots v.hot v.counter refl still_self
      (by_test (λ o. Each IsForeignOut (outs_of o ++ [])) (is_under tag (slot_at v i)) _ _ (refl, tt) (refl, tt))

  part_is : (epoch id i : ℕ) → length v.slots ≡ v.config.slots → is_slot_there v epoch i ≡ true → PassIs v (reads_part v id i)
  part_is epoch id i same there = by_case (PassIs v) (nat_eq id v.snap && not (is_taken v i)) _ (dropped v) (λ reads.
      let untaken = not_true (is_taken v i) (both (nat_eq id v.snap) _ reads).1 in
      Parts i v.bound v.slots v.hot v.counter [] refl (record { untaken = untaken; within = let l = ltb-true i v.config.slots (both (nat_eq epoch v.epoch) _ there).1 in omega (arith, l, same); same = refl; counter = omega arith; bare = bare; others = λ j ne. refl }) tt refl)
      (λ other. dropped_is)

-- a pass with a number drawn
from_numbered : (v : SwitchView) (p : Passed) → PassIs (numbered v) p → PassIs v p
from_numbered v p (Stays bound slots hot n e s f) = Stays bound slots hot n e (record { same = s.same; counter = let c = s.counter in omega (arith, c); bare = s.bare; left = s.left }) f
from_numbered v p (Parts i bound slots hot n before e l f o) = Parts i bound slots hot n before e (record { untaken = l.untaken; within = l.within; same = l.same; counter = let c = l.counter in omega (arith, c); bare = l.bare; others = l.others }) f o

write_is : (v : SwitchView) → IsBare v.slots → (caller op : ℕ) (key : List ℕ) (body : Option (List ℕ)) (o : Option ℕ) → entry_place key v ≡ o → PassIs v (write_passes (numbered v) caller op key body o)
write_is v bare caller op key body None e = from_numbered v _ (touches_is (numbered v) bare key (sent_to (Server (server_of v.config key)) (WriteFwd caller op key (v.counter + 1) body)) (refl, tt))
write_is v bare caller op key body (Some i) e = from_numbered v _ (changes_is (numbered v) bare i (absorbing (v.counter + 1) body (slot_at v i)) (sent_to (Client caller) (WriteAns caller op key (v.counter + 1) true)) entry.within
    (λ off. absurd (let clash : true ≡ false = sym entry.valid ∙ off in cc)) (refl, tt))
  where
    entry : IsEntry key v i
    entry = entry_is key v i e

abbrev pub is_start : Packet → Bool
is_start (SnapStart epoch id) = true
is_start (SnapFrom epoch id base) = true
is_start _ = false

-- every packet but the start of a snapshot
pub pass_is : (v : SwitchView) → IsBare v.slots → length v.slots ≡ v.config.slots → (p : Packet) → is_start p ≡ false → PassIs v (pass v p)
pass_is v bare same (SnapStart epoch id) h = absurd cc
pass_is v bare same (SnapFrom epoch id base) h = absurd cc
pass_is v bare same (GetReq caller op key) h = read_is v bare caller op key (entry_place key v)
pass_is v bare same (WriteReq caller op key body) h = write_is v bare caller op key body (entry_place key v) refl
pass_is v bare same (GetRep caller op key tag num body) h = reply_is v bare (Some tag) num body (sent_to (Client caller) (GetAns caller op key num body false)) key (entry_place key v) refl (refl, tt)
pass_is v bare same (WriteRep caller op key num body) h = reply_is v bare None num body (sent_to (Client caller) (WriteAns caller op key num false)) key (entry_place key v) refl (refl, tt)
pass_is v bare same (Admit epoch i key tag) h = by_test (PassIs v) (is_slot_there v epoch i) _ _ (admit_is v bare i key tag) (dropped_is v bare)
pass_is v bare same (Peek epoch i tag) h = by_test (PassIs v) (is_slot_there v epoch i) _ _ (peek_is v bare i tag) (dropped_is v bare)
pass_is v bare same (Remove epoch i tag latest num) h = by_test (PassIs v) (is_slot_there v epoch i) _ _ (remove_is v bare i tag latest num) (dropped_is v bare)
pass_is v bare same (SnapRead epoch id i) h = by_case (PassIs v) (is_slot_there v epoch i) _ _ (part_is v bare epoch id i same) (λ off. dropped_is v bare)
pass_is v bare same _ h = dropped_is v bare

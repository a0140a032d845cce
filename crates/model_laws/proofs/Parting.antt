-- A part leaves exactly at the first change of a slot, or where it is asked for.
use Rattle.std.proofs.Common.{◌≡◌, ◌≢◌, ℕ, zero, suc, ◌+◌, ◌<◌, max, Bool, true, false, ◌&&◌, List, [], ◌∷◌, ◌++◌, length, set, get_or, refl, sym, ap, ◌∙◌, subst, get_or-set_same, eq-eqb, true≢false}
use Rattle.std.specs.Prelude.{Option, None, Some, if◌then◌else◌, nat_eq, not}
use Rattle.std.proofs.lemmas.List.Elements.{filter-append}
use Rattle.std.proofs.lemmas.Option.{none-some, same_Some}
use Rattle.far_base.specs.declared.packet.Out.{Out}
use Rattle.far_base.specs.declared.packet.Packet.{Packet}
use Rattle.far_base.specs.declared.packet.Packet.TheVariants.{GetReq, WriteReq, GetFwd, GetRep, WriteRep, GetAns, WriteAns, Hot, Admit, AdmitAck, Peek, PeekAns, Remove, RemoveAns, SnapStart, SnapRead, SnapPart, SnapSame, SnapFrom}
use Rattle.far_base.specs.declared.party.Party.TheVariants.{Client, Controller, Server}
use Rattle.far_base.specs.declared.record.Record.{Record}
use Rattle.far_model.specs.Parties.{to_party}
use Rattle.far_model.specs.Pass.{Passed, absorbing, admitted, admits, changed_view, changes, dropped, grows_hot, hot_cell, is_as_before, is_slot_there, is_under, may_go, numbered, outs_of, part_left, part_of, part_packet, pass, passed_out, peeks, raised, read_at, read_passes, reads_part, removed_answer, reply_passes, sent_to, starts_snapshot, takes_reply, with_slot, with_taken, write_passes}
use Rattle.far_model.specs.View.{SwitchView, SlotView, empty_slot, entry_place, held_record, is_taken, keyed_record, mark_of, server_of, shown_at, shown_body, slot_at}
use Rattle.model_laws.specs.Passes.{FreeIsOutdated, asked_place, changed_place, is_part, part_due, parts_in, taking_place}
use Rattle.model_laws.proofs.Passing.{by_test, changed_slots}

-- ---- the parts among what leaves

part_is : (v : SwitchView) (i : ℕ) → is_part (part_packet v i) ≡ true
part_is v i = by_test (λ p. is_part p ≡ true) (is_as_before v i) (SnapSame v.snap i) (SnapPart v.snap i (held_record (slot_at v i))) refl refl

one_part : (v : SwitchView) (i : ℕ) → parts_in (to_party Controller (part_packet v i) ∷ []) ≡ to_party Controller (part_packet v i) ∷ []
one_part v i = rw (part_is v i) refl

left_part : (v : SwitchView) (i : ℕ) → parts_in (outs_of (part_left v i)) ≡ part_due v (Some i)
left_part v i = go (is_taken v i)
  where
    go : (b : Bool) → parts_in (outs_of (if b then None else part_of v i)) ≡ (if b then [] else to_party Controller (part_packet v i) ∷ [])
    go true = refl
    go false = one_part v i

no_more : {X : Type 0} (xs : List X) → xs ++ [] ≡ xs
no_more [] = refl
no_more (x ∷ xs) = ap (λ ys. x ∷ ys) (no_more xs)

-- the first packet out is no part
in_second : (p : Passed) → parts_in (outs_of p.first) ≡ [] → parts_in (passed_out p) ≡ parts_in (outs_of p.second)
in_second p h = filter-append (λ out. is_part out.packet) (outs_of p.first) (outs_of p.second) ∙ ap (λ xs. xs ++ parts_in (outs_of p.second)) h

changed_parts : (v : SwitchView) (i : ℕ) (slot : SlotView) (out : Option Out) → parts_in (outs_of out) ≡ [] → parts_in (passed_out (changes v i slot out)) ≡ part_due v (Some i) ++ []
changed_parts v i slot out h = in_second (changes v i slot out) h ∙ left_part v i ∙ sym (no_more (part_due v (Some i)))

no_part : (p : Passed) → parts_in (outs_of p.first) ≡ [] → parts_in (outs_of p.second) ≡ [] → parts_in (passed_out p) ≡ []
no_part p h k = in_second p h ∙ k

read_parts : (v : SwitchView) (caller op : ℕ) (key : List ℕ) (place : Option ℕ) → parts_in (passed_out (read_passes v caller op key place)) ≡ []
read_parts v caller op key (Some i) = no_part (read_at v caller op key (slot_at v i))
    (by_test (λ o. parts_in (outs_of o) ≡ []) (slot_at v i).latest (sent_to (Client caller) (GetAns caller op key (slot_at v i).num (slot_at v i).body true)) (sent_to (Server (server_of v.config key)) (GetFwd caller op key (slot_at v i).tag)) refl refl) refl
read_parts v caller op key None = no_part (read_passes v caller op key None) refl
    (by_test (λ o. parts_in (outs_of o) ≡ []) (grows_hot v.config.hot (hot_cell key v)) (sent_to Controller (Hot key)) None refl refl)

write_parts : (v : SwitchView) (caller op : ℕ) (key : List ℕ) (body : Option (List ℕ)) (place : Option ℕ) → parts_in (passed_out (write_passes (numbered v) caller op key body place)) ≡ part_due v place ++ []
write_parts v caller op key body (Some i) = changed_parts (numbered v) i (absorbing (v.counter + 1) body (slot_at v i)) (sent_to (Client caller) (WriteAns caller op key (v.counter + 1) true)) refl
write_parts v caller op key body None = no_part (write_passes (numbered v) caller op key body None) refl
    (by_test (λ o. parts_in (outs_of o) ≡ []) (grows_hot v.config.hot (hot_cell key (numbered v))) (sent_to Controller (Hot key)) None refl refl)

reply_parts : (v : SwitchView) (tag : Option ℕ) (num : ℕ) (body : Option (List ℕ)) (out : Option Out) → parts_in (outs_of out) ≡ [] → (place : Option ℕ) → parts_in (passed_out (reply_passes v tag num body out place)) ≡ part_due v (taking_place v tag num place) ++ []
reply_parts v tag num body out h None = no_part (record { view = v; first = out; second = None }) h refl
reply_parts v tag num body out h (Some i) = go (takes_reply tag num (slot_at v i))
  where
    go : (b : Bool) → parts_in (passed_out (if b then changes v i (absorbing num body (slot_at v i)) out else record { view = with_slot v i (raised num (slot_at v i)); first = out; second = None })) ≡ part_due v (if b then Some i else None) ++ []
    go true = changed_parts v i (absorbing num body (slot_at v i)) out h
    go false = no_part (record { view = with_slot v i (raised num (slot_at v i)); first = out; second = None }) h refl

-- a control packet is dropped, or sends no part
none_or_dropped : (v : SwitchView) (b : Bool) (p : Passed) → parts_in (passed_out p) ≡ [] → parts_in (passed_out (if b then p else dropped v)) ≡ []
none_or_dropped v b p h = by_test (λ (q : Passed). parts_in (passed_out q) ≡ []) b p (dropped v) h refl

admit_parts : (v : SwitchView) (i : ℕ) (key : List ℕ) (tag : ℕ) → parts_in (passed_out (admits v i key tag)) ≡ []
admit_parts v i key tag = no_part (admits v i key tag) (by_test (λ o. parts_in (outs_of o) ≡ []) (slot_at v i).valid None (sent_to Controller (AdmitAck i tag)) refl refl) refl

peek_parts : (v : SwitchView) (i tag : ℕ) (slot : SlotView) → parts_in (passed_out (peeks v i tag slot)) ≡ []
peek_parts v i tag slot = no_part (peeks v i tag slot) (by_test (λ o. parts_in (outs_of o) ≡ []) (is_under tag slot) (sent_to Controller (PeekAns i tag slot.latest slot.num (shown_body slot))) (sent_to Controller (PeekAns i tag false 0 None)) refl refl) refl

answer_parts : (i tag : ℕ) (done : Bool) (slot : SlotView) → parts_in (outs_of (removed_answer i tag done slot)) ≡ []
answer_parts i tag done slot = by_test (λ o. parts_in (outs_of o) ≡ []) (is_under tag slot) (sent_to Controller (RemoveAns i tag done slot.latest slot.num (shown_body slot))) (sent_to Controller (RemoveAns i tag false false 0 None)) refl refl

remove_parts : (v : SwitchView) (i tag num : ℕ) (slot : SlotView) (t m l : Bool)
    → parts_in (passed_out (if t then (if m then (if l then changes v i empty_slot (removed_answer i tag true slot) else record { view = with_slot v i empty_slot; first = removed_answer i tag true slot; second = None }) else record { view = v; first = removed_answer i tag false slot; second = None }) else dropped v))
    ≡ part_due v (if t && (m && l) then Some i else None) ++ []
remove_parts v i tag num slot true true true = changed_parts v i empty_slot (removed_answer i tag true slot) (answer_parts i tag true slot)
remove_parts v i tag num slot true true false = no_part (record { view = with_slot v i empty_slot; first = removed_answer i tag true slot; second = None }) (answer_parts i tag true slot) refl
remove_parts v i tag num slot true false l = no_part (record { view = v; first = removed_answer i tag false slot; second = None }) (answer_parts i tag false slot) refl
remove_parts v i tag num slot false m l = refl

asked_parts : (v : SwitchView) (i : ℕ) (t e : Bool)
    → parts_in (passed_out (if t then (if e && not (is_taken v i) then record { view = with_taken v i (held_record (slot_at v i)); first = part_of v i; second = None } else dropped v) else dropped v))
    ≡ part_due v (if t && e then Some i else None)
asked_parts v i true true = go (is_taken v i)
  where
    go : (k : Bool) → parts_in (passed_out (if true && not k then record { view = with_taken v i (held_record (slot_at v i)); first = part_of v i; second = None } else dropped v)) ≡ (if k then [] else to_party Controller (part_packet v i) ∷ [])
    go true = refl
    go false = one_part v i
asked_parts v i true false = refl
asked_parts v i false e = refl

pub parts_leave : (v : SwitchView) (packet : Packet) → parts_in (passed_out (pass v packet)) ≡ part_due v (changed_place v packet) ++ part_due v (asked_place v packet)
parts_leave v (GetReq caller op key) = read_parts v caller op key (entry_place key v)
parts_leave v (WriteReq caller op key body) = write_parts v caller op key body (entry_place key v)
parts_leave v (GetRep caller op key tag num body) = reply_parts v (Some tag) num body _ refl (entry_place key v)
parts_leave v (WriteRep caller op key num body) = reply_parts v None num body _ refl (entry_place key v)
parts_leave v (Admit epoch i key tag) = none_or_dropped v (is_slot_there v epoch i) (admits v i key tag) (admit_parts v i key tag)
parts_leave v (Peek epoch i tag) = none_or_dropped v (is_slot_there v epoch i) (peeks v i tag (slot_at v i)) (peek_parts v i tag (slot_at v i))
parts_leave v (Remove epoch i tag latest num) = remove_parts v i tag num (slot_at v i) (is_slot_there v epoch i) (may_go tag latest num (slot_at v i)) (slot_at v i).latest
parts_leave v (SnapStart epoch id) = none_or_dropped v (nat_eq epoch v.epoch) (starts_snapshot v id 0) refl
parts_leave v (SnapFrom epoch id base) = none_or_dropped v (nat_eq epoch v.epoch) (starts_snapshot v id base) refl
parts_leave v (SnapRead epoch id i) = asked_parts v i (is_slot_there v epoch i) (nat_eq id v.snap)
parts_leave v packet = refl

-- ---- from then on it is taken, and its mark is that of what it held

taken_with : (v : SwitchView) (i : ℕ) (view : Option Record) → i < length v.taken → is_taken (with_taken v i view) i ≡ true
taken_with v i view h = eq-eqb (get_or (set v.taken i v.snap) i 0) v.snap (get_or-set_same v.taken i v.snap 0 h)

taken_now : (v : SwitchView) (i : ℕ) (slot : SlotView) → i < length v.taken → is_taken (changed_view v i slot) i ≡ true
taken_now v i slot h = go (is_taken v i) refl
  where
    go : (b : Bool) → is_taken v i ≡ b → is_taken (if b then with_slot v i slot else with_taken (with_slot v i slot) i (held_record (slot_at v i))) i ≡ true
    go true e = e
    go false e = taken_with (with_slot v i slot) i (held_record (slot_at v i)) h

marked_with : (v : SwitchView) (i : ℕ) (view : Option Record) → i < length v.shown → shown_at (with_taken v i view) i ≡ mark_of view
marked_with v i view h = get_or-set_same v.shown i (mark_of view) None h

marked_now : (v : SwitchView) (i : ℕ) (slot : SlotView) → is_taken v i ≡ false → i < length v.shown → shown_at (changed_view v i slot) i ≡ mark_of (held_record (slot_at v i))
marked_now v i slot e h = subst (λ b. shown_at (if b then with_slot v i slot else with_taken (with_slot v i slot) i (held_record (slot_at v i))) i ≡ mark_of (held_record (slot_at v i))) (sym e)
    (marked_with (with_slot v i slot) i (held_record (slot_at v i)) h)

-- what holds of each view in which the record of slot i is set holds after a pass that sets it
module _ (v : SwitchView) (i : ℕ) (Q : SwitchView → Type 0) (now : (slot : SlotView) → Q (changed_view v i slot)) where
  set_now : (j : ℕ) (slot : SlotView) → j ≡ i → Q (changed_view v j slot)
  set_now j slot e = subst (λ k. Q (changed_view v k slot)) (sym e) (now slot)

  by_reply : (tag : Option ℕ) (num : ℕ) (body : Option (List ℕ)) (out : Option Out) (place : Option ℕ) → taking_place v tag num place ≡ Some i → Q (reply_passes v tag num body out place).view
  by_reply tag num body out None e = absurd (none-some i e)
  by_reply tag num body out (Some j) e = go (takes_reply tag num (slot_at v j)) e
    where
      go : (b : Bool) → (if b then Some j else None) ≡ Some i → Q (if b then changes v j (absorbing num body (slot_at v j)) out else record { view = with_slot v j (raised num (slot_at v j)); first = out; second = None }).view
      go false k = absurd (none-some i k)
      go true k = set_now j (absorbing num body (slot_at v j)) (same_Some _ _ k)

  by_removal : (j : ℕ) (a b c : Option Out) (t m l : Bool) → (if t && (m && l) then Some j else None) ≡ Some i
      → Q (if t then (if m then (if l then changes v j empty_slot a else record { view = with_slot v j empty_slot; first = b; second = None }) else record { view = v; first = c; second = None }) else dropped v).view
  by_removal j a b c true true true e = set_now j empty_slot (same_Some _ _ e)
  by_removal j a b c true true false e = absurd (none-some i e)
  by_removal j a b c true false l e = absurd (none-some i e)
  by_removal j a b c false m l e = absurd (none-some i e)

module _ (v : SwitchView) (i : ℕ) (Q : SwitchView → Type 0) where
  by_write : ((slot : SlotView) → Q (changed_view (numbered v) i slot)) → (caller op : ℕ) (key : List ℕ) (body : Option (List ℕ)) (place : Option ℕ) → place ≡ Some i → Q (write_passes (numbered v) caller op key body place).view
  by_write now caller op key body None e = absurd (none-some i e)
  by_write now caller op key body (Some j) e = set_now (numbered v) i Q now j (absorbing (v.counter + 1) body (slot_at v j)) (same_Some _ _ e)

  by_change : ((slot : SlotView) → Q (changed_view v i slot)) → ((slot : SlotView) → Q (changed_view (numbered v) i slot)) → (packet : Packet) → changed_place v packet ≡ Some i → Q (pass v packet).view
  by_change now numbers (WriteReq caller op key body) e = by_write numbers caller op key body (entry_place key v) e
  by_change now numbers (GetRep caller op key tag num body) e = by_reply v i Q now (Some tag) num body _ (entry_place key v) e
  by_change now numbers (WriteRep caller op key num body) e = by_reply v i Q now None num body _ (entry_place key v) e
  by_change now numbers (Remove epoch j tag latest num) e = by_removal v i Q now j _ _ _ (is_slot_there v epoch j) (may_go tag latest num (slot_at v j)) (slot_at v j).latest e
  by_change now numbers packet e = absurd (none-some i e)

pub taken_after : (v : SwitchView) (packet : Packet) (i : ℕ) → changed_place v packet ≡ Some i → i < length v.taken → is_taken (pass v packet).view i ≡ true
taken_after v packet i e h = by_change v i (λ w. is_taken w i ≡ true) (λ slot. taken_now v i slot h) (λ slot. taken_now (numbered v) i slot h) packet e

pub marked_after : (v : SwitchView) (packet : Packet) (i : ℕ) → changed_place v packet ≡ Some i → is_taken v i ≡ false → i < length v.shown → shown_at (pass v packet).view i ≡ mark_of (held_record (slot_at v i))
marked_after v packet i e f h = by_change v i (λ w. shown_at w i ≡ mark_of (held_record (slot_at v i))) (λ slot. marked_now v i slot f h) (λ slot. marked_now (numbered v) i slot f h) packet e

-- a part that is asked for
module _ (v : SwitchView) (i : ℕ) (Q : SwitchView → Type 0) (taken : is_taken v i ≡ true → Q v) (asked : is_taken v i ≡ false → Q (with_taken v i (held_record (slot_at v i)))) where
  by_taken : (k : Bool) → is_taken v i ≡ k → Q (if true && not k then record { view = with_taken v i (held_record (slot_at v i)); first = part_of v i; second = None } else dropped v).view
  by_taken true k = taken k
  by_taken false k = asked k

  by_read : (t e : Bool) → (if t && e then Some i else None) ≡ Some i
      → Q (if t then (if e && not (is_taken v i) then record { view = with_taken v i (held_record (slot_at v i)); first = part_of v i; second = None } else dropped v) else dropped v).view
  by_read true true is = by_taken (is_taken v i) refl
  by_read true false is = absurd (none-some i is)
  by_read false e is = absurd (none-some i is)

asked_same : (t e : Bool) (j i : ℕ) → (if t && e then Some j else None) ≡ Some i → j ≡ i
asked_same true true j i h = same_Some _ _ h
asked_same true false j i h = absurd (none-some i h)
asked_same false e j i h = absurd (none-some i h)

by_asked : (v : SwitchView) (packet : Packet) (i : ℕ) (Q : ℕ → SwitchView → Type 0) → (is_taken v i ≡ true → Q i v) → (is_taken v i ≡ false → Q i (with_taken v i (held_record (slot_at v i)))) → asked_place v packet ≡ Some i → Q i (pass v packet).view
by_asked v (SnapRead epoch id j) i Q taken asked e =
    let same : j ≡ i = asked_same (is_slot_there v epoch j) (nat_eq id v.snap) j i e in
    subst (λ k. Q k (pass v (SnapRead epoch id j)).view) same
    (by_read v j (Q j) (subst (λ k. is_taken v k ≡ true → Q k v) (sym same) taken) (subst (λ k. is_taken v k ≡ false → Q k (with_taken v k (held_record (slot_at v k)))) (sym same) asked)
    (is_slot_there v epoch j) (nat_eq id v.snap) (e ∙ ap Some (sym same)))
by_asked v packet i Q taken asked e = absurd (none-some i e)

pub taken_asked : (v : SwitchView) (packet : Packet) (i : ℕ) → asked_place v packet ≡ Some i → i < length v.taken → is_taken (pass v packet).view i ≡ true
taken_asked v packet i e h = by_asked v packet i (λ k w. is_taken w k ≡ true) (λ t. t) (λ f. taken_with v i (held_record (slot_at v i)) h) e

pub marked_asked : (v : SwitchView) (packet : Packet) (i : ℕ) → asked_place v packet ≡ Some i → is_taken v i ≡ false → i < length v.shown → shown_at (pass v packet).view i ≡ mark_of (held_record (slot_at v i))
marked_asked v packet i e f h = by_asked v packet i (λ k w. shown_at w k ≡ mark_of (held_record (slot_at v k))) (λ t. absurd (true≢false (sym t ∙ f))) (λ g. marked_with v i (held_record (slot_at v i)) h) e

-- ---- the records of the other slots

-- a slot is set to one that holds the same record
set_held : (xs : List SlotView) (j : ℕ) (slot : SlotView) → held_record slot ≡ held_record (get_or xs j empty_slot) → (i : ℕ) → held_record (get_or (set xs j slot) i empty_slot) ≡ held_record (get_or xs i empty_slot)
set_held [] j slot e i = refl
set_held (x ∷ xs) zero slot e zero = e
set_held (x ∷ xs) zero slot e (suc i) = refl
set_held (x ∷ xs) (suc j) slot e zero = refl
set_held (x ∷ xs) (suc j) slot e (suc i) = set_held xs j slot e i

none_held : (slot : SlotView) → slot.latest ≡ false → held_record slot ≡ None
none_held slot e = ap (λ b. if b then keyed_record slot.key slot.num slot.body else None) e

raised_held : (num : ℕ) (slot : SlotView) → held_record (raised num slot) ≡ held_record slot
raised_held num slot = go slot.latest refl
  where
    go : (b : Bool) → slot.latest ≡ b → held_record (if b then slot else record slot { num = max slot.num num }) ≡ held_record slot
    go true e = refl
    go false e = none_held (record slot { num = max slot.num num }) e ∙ sym (none_held slot e)

admitted_held : (key : List ℕ) (tag : ℕ) (slot : SlotView) → (slot.valid ≡ false → slot.latest ≡ false) → held_record (admitted key tag slot) ≡ held_record slot
admitted_held key tag slot h = go slot.valid refl
  where
    go : (b : Bool) → slot.valid ≡ b → held_record (if b then slot else record { key = Some key; tag = tag; valid = true; latest = false; num = 0; body = None }) ≡ held_record slot
    go true e = refl
    go false e = sym (none_held slot (h e))

abbrev Holds : SwitchView → ℕ → SwitchView → Type 0
Holds v i w = held_record (slot_at w i) ≡ held_record (slot_at v i)

changed_elsewhere : (v : SwitchView) (j i : ℕ) (slot : SlotView) → Some j ≢ Some i → Holds v i (changed_view v j slot)
changed_elsewhere v j i slot h = ap held_record ((changed_slots v j slot).others i h).slot

write_holds : (v : SwitchView) (caller op : ℕ) (key : List ℕ) (body : Option (List ℕ)) (place : Option ℕ) (i : ℕ) → place ≢ Some i → Holds v i (write_passes (numbered v) caller op key body place).view
write_holds v caller op key body None i h = refl
write_holds v caller op key body (Some j) i h = changed_elsewhere (numbered v) j i (absorbing (v.counter + 1) body (slot_at v j)) h

reply_holds : (v : SwitchView) (tag : Option ℕ) (num : ℕ) (body : Option (List ℕ)) (out : Option Out) (place : Option ℕ) (i : ℕ) → taking_place v tag num place ≢ Some i → Holds v i (reply_passes v tag num body out place).view
reply_holds v tag num body out None i h = refl
reply_holds v tag num body out (Some j) i h = go (takes_reply tag num (slot_at v j)) h
  where
    go : (b : Bool) → (if b then Some j else None) ≢ Some i → Holds v i (if b then changes v j (absorbing num body (slot_at v j)) out else record { view = with_slot v j (raised num (slot_at v j)); first = out; second = None }).view
    go true k = changed_elsewhere v j i (absorbing num body (slot_at v j)) k
    go false k = set_held v.slots j (raised num (slot_at v j)) (raised_held num (slot_at v j)) i

remove_holds : (v : SwitchView) (j i : ℕ) (a b c : Option Out) (t m l : Bool) → (slot_at v j).latest ≡ l → (if t && (m && l) then Some j else None) ≢ Some i
    → Holds v i (if t then (if m then (if l then changes v j empty_slot a else record { view = with_slot v j empty_slot; first = b; second = None }) else record { view = v; first = c; second = None }) else dropped v).view
remove_holds v j i a b c true true true e h = changed_elsewhere v j i empty_slot h
remove_holds v j i a b c true true false e h = set_held v.slots j empty_slot (sym (none_held (slot_at v j) e)) i
remove_holds v j i a b c true false l e h = refl
remove_holds v j i a b c false m l e h = refl

-- where the view's slots stay
same_slots : (v : SwitchView) (i : ℕ) (b : Bool) (p : Passed) → Holds v i p.view → Holds v i (if b then p else dropped v).view
same_slots v i b p h = by_test (λ (q : Passed). Holds v i q.view) b p (dropped v) h refl

read_holds : (v : SwitchView) (caller op : ℕ) (key : List ℕ) (place : Option ℕ) (i : ℕ) → Holds v i (read_passes v caller op key place).view
read_holds v caller op key None i = refl
read_holds v caller op key (Some j) i = refl

pub records_hold : (v : SwitchView) (packet : Packet) (i : ℕ) → FreeIsOutdated v → changed_place v packet ≢ Some i → Holds v i (pass v packet).view
records_hold v (GetReq caller op key) i free h = read_holds v caller op key (entry_place key v) i
records_hold v (WriteReq caller op key body) i free h = write_holds v caller op key body (entry_place key v) i h
records_hold v (GetRep caller op key tag num body) i free h = reply_holds v (Some tag) num body _ (entry_place key v) i h
records_hold v (WriteRep caller op key num body) i free h = reply_holds v None num body _ (entry_place key v) i h
records_hold v (Admit epoch j key tag) i free h = same_slots v i (is_slot_there v epoch j) (admits v j key tag) (set_held v.slots j (admitted key tag (slot_at v j)) (admitted_held key tag (slot_at v j) (free j)) i)
records_hold v (Peek epoch j tag) i free h = same_slots v i (is_slot_there v epoch j) (peeks v j tag (slot_at v j)) refl
records_hold v (Remove epoch j tag latest num) i free h = remove_holds v j i _ _ _ (is_slot_there v epoch j) (may_go tag latest num (slot_at v j)) (slot_at v j).latest refl h
records_hold v (SnapStart epoch id) i free h = same_slots v i (nat_eq epoch v.epoch) (starts_snapshot v id 0) refl
records_hold v (SnapFrom epoch id base) i free h = same_slots v i (nat_eq epoch v.epoch) (starts_snapshot v id base) refl
records_hold v (SnapRead epoch id j) i free h = same_slots v i (is_slot_there v epoch j) (reads_part v id j)
    (same_slots v i (nat_eq id v.snap && not (is_taken v j)) (record { view = with_taken v j (held_record (slot_at v j)); first = part_of v j; second = None }) refl)
records_hold v packet i free h = refl

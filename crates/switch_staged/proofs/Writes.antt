-- A write's pass through the stages is the pass of the table.
use Rattle.std.proofs.Common.{◌≡◌, ℕ, zero, suc, ◌+◌, ◌<◌, ◌≤◌, Bool, true, false, List, [], ◌∷◌, length, sym, refl, ap, ◌∙◌, subst, arith, rules, Option, None, Some}
use Rattle.std.specs.Prelude.{slice_set, slice_index_or, if◌then◌else◌}
use Rattle.far_base.specs.Padded.{text_of}
use Rattle.far_base.specs.declared.packet.Out.{Out}
use Rattle.far_base.specs.declared.packet.Packet.{Packet}
use Rattle.far_base.specs.declared.packet.Packet.TheVariants.{WriteReq, WriteAns}
use Rattle.far_base.specs.declared.party.Party.TheVariants.{Client}
use Rattle.far_base.specs.declared.plan.Config.{Config}
use Rattle.far_model.specs.View.{SlotView, SwitchView, Mark, slot_at, taken_at, shown_at, is_slot_of, entry_if, bound_place, next_place, is_key_there}
use Rattle.far_model.specs.Pass.{Passed, pass, sent_to, absorbing, numbered, write_passes, changes}
use Rattle.switch_staged.specs.declared.cells.Head.{Head}
use Rattle.switch_staged.specs.declared.flight.Act.TheVariants.{Absorb}
use Rattle.switch_staged.specs.declared.flight.Course.{Course}
use Rattle.switch_staged.specs.Heads.{is_own, act_for, acted, cells_of_body, body_after, gate_after, goes_on, place_for, bound_after, new_num, new_body}
use Rattle.switch_staged.specs.Stages.{head_at, met, missed, taken_after, wants_part, PlaceBelow, key_touched, changes_record, entered}
use Rattle.switch_staged.specs.Shapes.{shaped, shape_of}
use Rattle.switch_staged.specs.Whole.{Registers, Fits, view_of, slots_of, eras_of, marks_of, from_heads, staged}
use Rattle.switch_staged.specs.Emits.{slot_of, first_out, second_out, first_for, second_for}
use Rattle.switch_staged.specs.Changes.{changes_at}
use Rattle.switch_staged.proofs.HitLaws.{old_taken, heads_other, taken_miss}
use Rattle.switch_staged.proofs.KindLaws.{Left, in_time, changed, own_passes, row_bytes, slot_at_is, era_is, kept_mark_is, body_back, slot_after, landed}

-- the slot that takes a record
pub slot_absorbs : (h : Head) (num : ℕ) (body : Option (List ℕ)) (bytes : List ℕ) → length (text_of body) ≤ 256
    → slot_of (record { key = h.key; tag = h.tag; valid = h.valid; latest = true; num = num; shape = shape_of body }) bytes ≡ absorbing num (shaped (shape_of body) bytes) (slot_of h bytes)
slot_absorbs h num body bytes l = refl

-- the slot that a first change sets, beside the table's words
pub changes_is : (v : SwitchView) (i : ℕ) (old : SlotView) (era : ℕ) (mark : Option Mark) (new : SlotView → SlotView) (out : Option Out) → slot_at v i ≡ old → taken_at v i ≡ era → shown_at v i ≡ mark
    → changes v i (new (slot_at v i)) out ≡ changes_at v i old era mark (new old) out
changes_is v i old era mark new out s e m =
    ap (λ x. changes_at v i x (taken_at v i) (shown_at v i) (new x) out) s
    ∙ ap (λ x. changes_at v i old x (shown_at v i) (new old) out) e
    ∙ ap (λ x. changes_at v i old era x (new old) out) m

abbrev pub gated : Registers → Packet → Registers
gated r p = record r { gate = gate_after r.gate p }

pub gated_fits : (config : Config) (r : Registers) (p : Packet) → Fits config r → Fits config (gated r p)
gated_fits config r p fits = record { bound = fits.bound; heads = fits.heads; taken = fits.taken; arrays = fits.arrays; count = fits.count }

-- the flight that has been looked up
abbrev pub at_place : Config → Registers → Packet → Option ℕ → Course
at_place config r p q = record (entered config r.gate p) { place = q }

write_places : (config : Config) (r : Registers) (caller op : ℕ) (key : List ℕ) (body : Option (List ℕ)) → Fits config r → length (text_of body) ≤ 256 → (q : Option ℕ) → PlaceBelow q config.slots
    → from_heads config (gated r (WriteReq caller op key body)) (at_place config r (WriteReq caller op key body) q)
    ≡ write_passes (numbered (view_of config r)) caller op key body (entry_if key (numbered (view_of config r)) q)
unfolding gate_after goes_on first_for second_for key_touched is_own act_for acted body_after new_num new_body wants_part changes_record
write_places config r caller op key body fits l None b = taken_miss config (gated r (WriteReq caller op key body)) (at_place config r (WriteReq caller op key body) None) refl
write_places config r caller op key body fits l (Some i) b =
    let p = WriteReq caller op key body in
    let v = view_of config (gated r p) in
    let f = at_place config r p (Some i) in
    let h = head_at r.heads i in
    let here : slot_at v i ≡ slot_of h (row_bytes r i) = slot_at_is config (gated r p) i (gated_fits config r p fits) b in
    let found : entry_if key v (Some i) ≡ (if is_own p h then Some i else None) = ap (λ s. if is_slot_of key s then Some i else None) here in
    by (is_own p h) refl ∙ ap (write_passes v caller op key body) (sym found)
  where
    by : (own : Bool) → is_own (WriteReq caller op key body) (head_at r.heads i) ≡ own
        → from_heads config (gated r (WriteReq caller op key body)) (at_place config r (WriteReq caller op key body) (Some i))
        ≡ write_passes (numbered (view_of config r)) caller op key body (if is_own (WriteReq caller op key body) (head_at r.heads i) then Some i else None)
    by false o =
        heads_other config (gated r (WriteReq caller op key body)) (at_place config r (WriteReq caller op key body) (Some i)) i refl o
        ∙ taken_miss config (gated r (WriteReq caller op key body)) (at_place config r (WriteReq caller op key body) None) refl
        ∙ ap (λ x. write_passes (numbered (view_of config r)) caller op key body (if x then Some i else None)) (sym o)
    by true o =
        let p = WriteReq caller op key body in
        let v = view_of config (gated r p) in
        let f = at_place config r p (Some i) in
        let h = head_at r.heads i in
        let t = old_taken r i in
        let out = sent_to (Client caller) (WriteAns caller op key v.counter true) in
        own_passes config (gated r p) f i (gated_fits config r p fits) b refl o
        ∙ ap (λ x. Left v i (slot_of h (row_bytes r i)) (record (slot_of h (row_bytes r i)) { latest = true; num = v.counter; body = x }) (met h f) t out) (body_back body l)
        ∙ changed v i (met h f) t (absorbing v.counter body (slot_of h (row_bytes r i))) (row_bytes r i) out refl (era_is config r i) (kept_mark_is config r i)
        ∙ sym (changes_is v i (slot_of h (row_bytes r i)) t.era t.mark (absorbing v.counter body) out (slot_at_is config (gated r p) i (gated_fits config r p fits) b) (era_is config r i) (kept_mark_is config r i))
        ∙ ap (λ x. write_passes v caller op key body (if x then Some i else None)) (sym o)

next_below : (q : Option ℕ) (n : ℕ) → PlaceBelow q n → PlaceBelow (next_place q) (suc n)
next_below None n b = tt
next_below (Some i) n b = omega (arith, b)

place_one : (x : Bool) (q : Option ℕ) (n : ℕ) → PlaceBelow q n → PlaceBelow (if x then Some 0 else next_place q) (suc n)
place_one true q n b = omega arith
place_one false q n b = next_below q n b

place_below : (key : List ℕ) (bound : List (Option (List ℕ))) → PlaceBelow (bound_place key bound) (length bound)
place_below key [] = tt
place_below key (b ∷ bs) = place_one (is_key_there key b) (bound_place key bs) (length bs) (place_below key bs)

pub bound_below : (key : List ℕ) (n : ℕ) (bound : List (Option (List ℕ))) → length bound ≡ n → PlaceBelow (bound_place key bound) n
bound_below key n bound e = subst (λ m. PlaceBelow (bound_place key bound) m) e (place_below key bound)

pub write_is_pass : (config : Config) (r : Registers) (caller op : ℕ) (key : List ℕ) (body : Option (List ℕ)) → Fits config r → length (text_of body) ≤ 256
    → staged config r (WriteReq caller op key body) ≡ pass (view_of config r) (WriteReq caller op key body)
unfolding gate_after goes_on place_for bound_after
write_is_pass config r caller op key body fits l = write_places config r caller op key body fits l (bound_place key r.bound) (bound_below key config.slots r.bound fits.bound)

-- Passes through the stages are passes of the table: packets for a slot.
use Rattle.std.proofs.Common.{◌≡◌, ℕ, zero, suc, ◌+◌, ◌<◌, ◌≤◌, Bool, true, false, List, [], ◌∷◌, length, sym, refl, ap, ◌∙◌, subst, arith, rules, Option, None, Some}
use Rattle.std.proofs.lemmas.Bool.{false≢true, ltb-true}
use Rattle.std.specs.Prelude.{slice_set, slice_index_or, if◌then◌else◌, nat_eq, nat_lt, ◌&&◌, not, map}
use Rattle.far_base.specs.Padded.{text_of}
use Rattle.far_base.specs.declared.packet.Out.{Out}
use Rattle.far_base.specs.declared.packet.Packet.{Packet}
use Rattle.far_base.specs.declared.packet.Packet.TheVariants.{GetReq, WriteReq, GetRep, WriteRep, GetAns, WriteAns, GetFwd, Admit, AdmitAck, Peek, Remove, SnapStart, SnapRead, SnapFrom}
use Rattle.far_base.specs.declared.party.Party.TheVariants.{Client, Server, Controller}
use Rattle.far_base.specs.declared.plan.Config.{Config}
use Rattle.far_model.specs.View.{SlotView, SwitchView, Mark, slot_at, taken_at, shown_at, is_slot_of, entry_if, bound_place, held_record, empty_slot, server_of, bind_key}
use Rattle.far_model.specs.Pass.{Passed, pass, sent_to, absorbing, raised, changes, with_slot, with_taken, reply_passes, read_passes, read_at, takes_reply, may_go, removes, removed_answer, peeks, dropped, is_slot_there, admits, admitted, reads_part, part_of, starts_snapshot}
use Rattle.switch_staged.specs.declared.cells.Head.{Head}
use Rattle.switch_staged.specs.declared.flight.Act.{Act}
use Rattle.switch_staged.specs.declared.flight.Act.TheVariants.{Keep, Absorb, Raise, Bind, Clear}
use Rattle.switch_staged.specs.declared.flight.Course.{Course}
use Rattle.switch_staged.specs.Heads.{is_own, act_for, acted, bare, cells_of_body, body_after, gate_after, goes_on, place_for, bound_after, new_num, new_body, bound_head}
use Rattle.switch_staged.specs.Stages.{head_at, met, missed, taken_after, wants_part, PlaceBelow, key_touched, changes_record, entered}
use Rattle.switch_staged.specs.Shapes.{shaped, shape_of}
use Rattle.switch_staged.specs.Whole.{Registers, Fits, view_of, slots_of, eras_of, marks_of, from_heads, staged}
use Rattle.switch_staged.specs.Emits.{slot_of, first_out, second_out, first_for, second_for}
use Rattle.switch_staged.specs.Changes.{changes_at}
use Rattle.switch_staged.proofs.HitLaws.{old_taken, heads_other, taken_miss}
use Rattle.switch_staged.proofs.KindLaws.{Left, in_time, changed, unchanged, row_bytes, slot_at_is, era_is, kept_mark_is, body_back}
use Rattle.switch_staged.proofs.Acts.{met_as, landed_as, slot_as, outcome_as, own_acts, slot_raised, same_slot}
use Rattle.switch_staged.proofs.Writes.{changes_is, at_place, bound_below}

-- a packet for a slot, where it is dropped and where it is not
abbrev pub if_live : Config → Registers → Packet → Bool → Passed
if_live config r p x = from_heads config (record r { gate = gate_after r.gate p; bound = if x then bound_after r.bound p else r.bound }) (record (entered config r.gate p) { live = x; place = if x then place_for r.bound p else None })

pub reach_below : (a : Bool) (i n : ℕ) → (a && nat_lt i n) ≡ true → i < n
reach_below true i n e = ltb-true i n e
reach_below false i n e = absurd (false≢true e)

-- ---- Remove

abbrev pub removed_at : SwitchView → ℕ → ℕ → SlotView → ℕ → Option Mark → Bool → Bool → Passed
removed_at v i tag old era mark may latest = if may
    then (if latest
    then changes_at v i old era mark empty_slot (removed_answer i tag true old)
    else record { view = with_slot v i empty_slot; first = removed_answer i tag true old; second = None })
    else record { view = v; first = removed_answer i tag false old; second = None }

remove_table : (config : Config) (r : Registers) (i tag : ℕ) (latest : Bool) (num : ℕ) → Fits config r → i < config.slots
    → removes (view_of config r) i tag latest num (slot_at (view_of config r) i)
    ≡ removed_at (view_of config r) i tag (slot_of (head_at r.heads i) (row_bytes r i)) (old_taken r i).era (old_taken r i).mark (may_go tag latest num (bare (head_at r.heads i))) (head_at r.heads i).latest
remove_table config r i tag latest num fits b =
    let v = view_of config r in
    let s = slot_of (head_at r.heads i) (row_bytes r i) in
    ap (removes v i tag latest num) (slot_at_is config r i fits b)
    ∙ ap (λ c. if may_go tag latest num s then (if s.latest then c else record { view = with_slot v i empty_slot; first = removed_answer i tag true s; second = None }) else record { view = v; first = removed_answer i tag false s; second = None })
    (changes_is v i s (old_taken r i).era (old_taken r i).mark (λ x. empty_slot) (removed_answer i tag true s) (slot_at_is config r i fits b) (era_is config r i) (kept_mark_is config r i))

remove_may : (config : Config) (r : Registers) (epoch i tag : ℕ) (latest : Bool) (num : ℕ) → Fits config r → i < config.slots → (k : Bool) → may_go tag latest num (bare (head_at r.heads i)) ≡ k → (w : Bool) → (head_at r.heads i).latest ≡ w
    → if_live config r (Remove epoch i tag latest num) true ≡ removed_at (view_of config r) i tag (slot_of (head_at r.heads i) (row_bytes r i)) (old_taken r i).era (old_taken r i).mark k w
unfolding goes_on first_for second_for key_touched is_own act_for acted body_after new_num new_body wants_part changes_record gate_after place_for bound_after
remove_may config r epoch i tag latest num fits b true k true w =
    let p = Remove epoch i tag latest num in
    let f = record (entered config r.gate p) { live = true; place = Some i } in
    let s = slot_of (head_at r.heads i) (row_bytes r i) in
    own_acts config r f i Clear fits b refl refl (ap (λ x. if x then Clear else Keep) k)
    ∙ changed (view_of config r) i (met_as Clear (head_at r.heads i) f) (old_taken r i) empty_slot (row_bytes r i) (removed_answer i tag true s) w (era_is config r i) (kept_mark_is config r i)
remove_may config r epoch i tag latest num fits b true k false w =
    let p = Remove epoch i tag latest num in
    let f = record (entered config r.gate p) { live = true; place = Some i } in
    let s = slot_of (head_at r.heads i) (row_bytes r i) in
    own_acts config r f i Clear fits b refl refl (ap (λ x. if x then Clear else Keep) k)
    ∙ unchanged (view_of config r) i (met_as Clear (head_at r.heads i) f) (old_taken r i) empty_slot s (removed_answer i tag true s) w (era_is config r i) (kept_mark_is config r i)
remove_may config r epoch i tag latest num fits b false k w e =
    let p = Remove epoch i tag latest num in
    let f = record (entered config r.gate p) { live = true; place = Some i } in
    let s = slot_of (head_at r.heads i) (row_bytes r i) in
    own_acts config r f i Keep fits b refl refl (ap (λ x. if x then Clear else Keep) k)
    ∙ unchanged (view_of config r) i (met_as Keep (head_at r.heads i) f) (old_taken r i) s s (removed_answer i tag false s) refl (era_is config r i) (kept_mark_is config r i)
    ∙ ap (λ v. record { view = v; first = removed_answer i tag false s; second = None }) (same_slot config r i fits b)

remove_live : (config : Config) (r : Registers) (epoch i tag : ℕ) (latest : Bool) (num : ℕ) → Fits config r → (x : Bool) → is_slot_there (view_of config r) epoch i ≡ x
    → if_live config r (Remove epoch i tag latest num) x ≡ (if x then removes (view_of config r) i tag latest num (slot_at (view_of config r) i) else dropped (view_of config r))
unfolding key_touched gate_after
remove_live config r epoch i tag latest num fits true e =
    let b = reach_below (nat_eq epoch r.gate.epoch) i config.slots e in
    remove_may config r epoch i tag latest num fits b _ refl _ refl ∙ sym (remove_table config r i tag latest num fits b)
remove_live config r epoch i tag latest num fits false e = taken_miss config r (record (entered config r.gate (Remove epoch i tag latest num)) { live = false; place = None }) refl

pub remove_is_pass : (config : Config) (r : Registers) (epoch i tag : ℕ) (latest : Bool) (num : ℕ) → Fits config r
    → staged config r (Remove epoch i tag latest num) ≡ pass (view_of config r) (Remove epoch i tag latest num)
unfolding goes_on
remove_is_pass config r epoch i tag latest num fits = remove_live config r epoch i tag latest num fits _ refl

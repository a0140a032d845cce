-- Passes through the stages are passes of the table: the parts that are read, and all packets.
use Rattle.std.proofs.Common.{◌≡◌, ℕ, zero, suc, ◌+◌, ◌<◌, ◌≤◌, Bool, true, false, List, [], ◌∷◌, length, sym, refl, ap, ◌∙◌, subst, arith, rules, Option, None, Some}
use Rattle.std.proofs.lemmas.Bool.{false≢true, ltb-true}
use Rattle.std.proofs.lemmas.List.{length-set, length-map}
use Rattle.std.specs.Prelude.{slice_set, slice_index_or, if◌then◌else◌, nat_eq, nat_lt, ◌&&◌, not, map}
use Rattle.far_base.specs.Padded.{text_of}
use Rattle.far_base.specs.declared.packet.Out.{Out}
use Rattle.far_base.specs.declared.packet.Packet.{Packet}
use Rattle.far_base.specs.declared.packet.Packet.TheVariants.{GetReq, WriteReq, GetRep, WriteRep, GetAns, WriteAns, GetFwd, Admit, AdmitAck, Peek, Remove, SnapStart, SnapRead, SnapFrom}
use Rattle.far_base.specs.declared.party.Party.TheVariants.{Client, Server, Controller}
use Rattle.far_base.specs.declared.plan.Config.{Config}
use Rattle.far_model.specs.View.{SlotView, SwitchView, Mark, slot_at, taken_at, shown_at, is_slot_of, entry_if, bound_place, held_record, empty_slot, server_of, bind_key}
use Rattle.far_model.specs.Pass.{Passed, pass, sent_to, absorbing, raised, changes, with_slot, with_taken, reply_passes, read_passes, read_at, takes_reply, may_go, removes, removed_answer, peeks, dropped, is_slot_there, admits, admitted, reads_part, part_of, starts_snapshot}
use Rattle.switch_staged.specs.declared.cells.Head.{Head}
use Rattle.switch_staged.specs.declared.flight.Act.{Act}
use Rattle.switch_staged.specs.declared.flight.Act.TheVariants.{Keep, Absorb, Raise, Bind, Clear}
use Rattle.switch_staged.specs.declared.flight.Course.{Course}
use Rattle.switch_staged.specs.Heads.{is_own, act_for, acted, bare, cells_of_body, body_after, gate_after, goes_on, place_for, bound_after, new_num, new_body, bound_head}
use Rattle.switch_staged.specs.Stages.{head_at, met, missed, taken_after, wants_part, PlaceBelow, key_touched, changes_record, entered}
use Rattle.switch_staged.specs.Shapes.{shaped, shape_of}
use Rattle.switch_staged.specs.Whole.{Registers, Fits, view_of, slots_of, eras_of, marks_of, from_heads, staged}
use Rattle.switch_staged.specs.Emits.{slot_of, first_out, second_out, first_for, second_for}
use Rattle.switch_staged.specs.Changes.{changes_at}
use Rattle.switch_staged.proofs.HitLaws.{old_taken, heads_other, taken_miss}
use Rattle.switch_staged.proofs.KindLaws.{Left, in_time, changed, unchanged, row_bytes, slot_at_is, era_is, kept_mark_is, body_back}
use Rattle.switch_staged.proofs.Acts.{met_as, landed_as, slot_as, outcome_as, own_acts, slot_raised, same_slot}
use Rattle.switch_staged.proofs.Writes.{changes_is, at_place, bound_below}
use Rattle.switch_staged.proofs.Removes.{if_live, reach_below}
use Rattle.far_base.specs.declared.packet.Packet.TheVariants.{WriteFwd, Hot, PeekAns, RemoveAns, SnapBegun, SnapPart, SnapSame, Store, Stored, Release, Ask, Told, TopAsk, TopIs}
use Rattle.switch_staged.specs.Changes.{part_at}
use Rattle.switch_staged.proofs.Others.{read_is_pass, peek_is_pass, admit_is_pass, start_is_pass, from_is_pass}
use Rattle.switch_staged.proofs.Writes.{write_is_pass}
use Rattle.switch_staged.proofs.Replies.{get_reply_is_pass, write_reply_is_pass}
use Rattle.switch_staged.proofs.Removes.{remove_is_pass}

-- the part leaves first
abbrev pub moved_up : Passed → Passed
moved_up p = record { view = p.view; first = p.second; second = None }

abbrev pub reads_at : SwitchView → ℕ → ℕ → SlotView → ℕ → Option Mark → Passed
reads_at v id i old era mark = if nat_eq id v.snap && not (nat_eq era v.snap)
    then record { view = with_taken v i (held_record old); first = part_at v i old era mark; second = None }
    else dropped v

reads_is : (v : SwitchView) (id i : ℕ) (old : SlotView) (era : ℕ) (mark : Option Mark) → slot_at v i ≡ old → taken_at v i ≡ era → shown_at v i ≡ mark → reads_part v id i ≡ reads_at v id i old era mark
reads_is v id i old era mark s e m =
    ap (λ x. reads_at v id i x (taken_at v i) (shown_at v i)) s
    ∙ ap (λ x. reads_at v id i old x (shown_at v i)) e
    ∙ ap (λ x. reads_at v id i old era x) m

either : (v : SwitchView) (i : ℕ) (old : SlotView) (out : Option Out) (e : Bool)
    → record { view = if e then v else with_taken v i (held_record old); first = if e then None else out; second = None } ≡ (if not e then record { view = with_taken v i (held_record old); first = out; second = None } else dropped v)
either v i old out true = refl
either v i old out false = refl

part_reads : (config : Config) (r : Registers) (epoch id i : ℕ) → Fits config r → i < config.slots → (k : Bool) → nat_eq id r.gate.snap ≡ k
    → if_live config r (SnapRead epoch id i) true ≡ (if k && not (nat_eq (old_taken r i).era r.gate.snap)
    then record { view = with_taken (view_of config r) i (held_record (slot_of (head_at r.heads i) (row_bytes r i))); first = part_at (view_of config r) i (slot_of (head_at r.heads i) (row_bytes r i)) (old_taken r i).era (old_taken r i).mark; second = None }
    else dropped (view_of config r))
unfolding goes_on first_for second_for key_touched is_own act_for acted body_after new_num new_body wants_part changes_record gate_after place_for bound_after bound_head
part_reads config r epoch id i fits b true k =
    let f = record (entered config r.gate (SnapRead epoch id i)) { live = true; place = Some i } in
    let v = view_of config r in
    let s = slot_of (head_at r.heads i) (row_bytes r i) in
    let t = old_taken r i in
    own_acts config r f i Keep fits b refl refl refl
    ∙ ap moved_up (changed v i (met_as Keep (head_at r.heads i) f) t s (row_bytes r i) None k (era_is config r i) (kept_mark_is config r i))
    ∙ ap (λ w. record { view = if nat_eq t.era r.gate.snap then w else with_taken w i (held_record s); first = if nat_eq t.era r.gate.snap then None else part_at v i s t.era t.mark; second = None }) (same_slot config r i fits b)
    ∙ either v i s (part_at v i s t.era t.mark) (nat_eq t.era r.gate.snap)
part_reads config r epoch id i fits b false k =
    let f = record (entered config r.gate (SnapRead epoch id i)) { live = true; place = Some i } in
    let v = view_of config r in
    let s = slot_of (head_at r.heads i) (row_bytes r i) in
    let t = old_taken r i in
    own_acts config r f i Keep fits b refl refl refl
    ∙ ap moved_up (unchanged v i (met_as Keep (head_at r.heads i) f) t s s None k (era_is config r i) (kept_mark_is config r i))
    ∙ ap (λ w. record { view = w; first = None; second = None }) (same_slot config r i fits b)

part_live : (config : Config) (r : Registers) (epoch id i : ℕ) → Fits config r → (x : Bool) → is_slot_there (view_of config r) epoch i ≡ x
    → if_live config r (SnapRead epoch id i) x ≡ (if x then reads_part (view_of config r) id i else dropped (view_of config r))
unfolding goes_on first_for second_for key_touched is_own act_for acted body_after new_num new_body wants_part changes_record gate_after place_for bound_after bound_head
part_live config r epoch id i fits true e =
    let b = reach_below (nat_eq epoch r.gate.epoch) i config.slots e in
    part_reads config r epoch id i fits b _ refl
    ∙ sym (reads_is (view_of config r) id i (slot_of (head_at r.heads i) (row_bytes r i)) (old_taken r i).era (old_taken r i).mark (slot_at_is config r i fits b) (era_is config r i) (kept_mark_is config r i))
part_live config r epoch id i fits false e = taken_miss config r (record (entered config r.gate (SnapRead epoch id i)) { live = false; place = None }) refl

pub part_is_pass : (config : Config) (r : Registers) (epoch id i : ℕ) → Fits config r
    → staged config r (SnapRead epoch id i) ≡ pass (view_of config r) (SnapRead epoch id i)
unfolding goes_on
part_is_pass config r epoch id i fits = part_live config r epoch id i fits _ refl

-- ---- all packets

pub staged_is_pass : (config : Config) (r : Registers) (p : Packet) → Fits config r → length (text_of (new_body p)) ≤ 256 → staged config r p ≡ pass (view_of config r) p
unfolding goes_on first_for second_for key_touched is_own act_for acted body_after new_num new_body wants_part changes_record gate_after place_for bound_after bound_head
staged_is_pass config r (GetReq caller op key) fits l = read_is_pass config r caller op key fits
staged_is_pass config r (WriteReq caller op key body) fits l = write_is_pass config r caller op key body fits l
staged_is_pass config r (GetRep caller op key tag num body) fits l = get_reply_is_pass config r caller op key tag num body fits l
staged_is_pass config r (WriteRep caller op key num body) fits l = write_reply_is_pass config r caller op key num body fits l
staged_is_pass config r (Admit epoch i key tag) fits l = admit_is_pass config r epoch i key tag fits
staged_is_pass config r (Peek epoch i tag) fits l = peek_is_pass config r epoch i tag fits
staged_is_pass config r (Remove epoch i tag latest num) fits l = remove_is_pass config r epoch i tag latest num fits
staged_is_pass config r (SnapStart epoch id) fits l = start_is_pass config r epoch id
staged_is_pass config r (SnapFrom epoch id base) fits l = from_is_pass config r epoch id base
staged_is_pass config r (SnapRead epoch id i) fits l = part_is_pass config r epoch id i fits
staged_is_pass config r (GetFwd a b c d) fits l = taken_miss config r (record (entered config r.gate (GetFwd a b c d)) { live = false; place = None }) refl
staged_is_pass config r (WriteFwd a b c d e) fits l = taken_miss config r (record (entered config r.gate (WriteFwd a b c d e)) { live = false; place = None }) refl
staged_is_pass config r (GetAns a b c d e g) fits l = taken_miss config r (record (entered config r.gate (GetAns a b c d e g)) { live = false; place = None }) refl
staged_is_pass config r (WriteAns a b c d e) fits l = taken_miss config r (record (entered config r.gate (WriteAns a b c d e)) { live = false; place = None }) refl
staged_is_pass config r (Hot a) fits l = taken_miss config r (record (entered config r.gate (Hot a)) { live = false; place = None }) refl
staged_is_pass config r (AdmitAck a b) fits l = taken_miss config r (record (entered config r.gate (AdmitAck a b)) { live = false; place = None }) refl
staged_is_pass config r (PeekAns a b c d e) fits l = taken_miss config r (record (entered config r.gate (PeekAns a b c d e)) { live = false; place = None }) refl
staged_is_pass config r (RemoveAns a b c d e g) fits l = taken_miss config r (record (entered config r.gate (RemoveAns a b c d e g)) { live = false; place = None }) refl
staged_is_pass config r (SnapBegun a b) fits l = taken_miss config r (record (entered config r.gate (SnapBegun a b)) { live = false; place = None }) refl
staged_is_pass config r (SnapPart a b c) fits l = taken_miss config r (record (entered config r.gate (SnapPart a b c)) { live = false; place = None }) refl
staged_is_pass config r (SnapSame a b) fits l = taken_miss config r (record (entered config r.gate (SnapSame a b)) { live = false; place = None }) refl
staged_is_pass config r (Store a b) fits l = taken_miss config r (record (entered config r.gate (Store a b)) { live = false; place = None }) refl
staged_is_pass config r (Stored a) fits l = taken_miss config r (record (entered config r.gate (Stored a)) { live = false; place = None }) refl
staged_is_pass config r (Release a) fits l = taken_miss config r (record (entered config r.gate (Release a)) { live = false; place = None }) refl
staged_is_pass config r (Ask a) fits l = taken_miss config r (record (entered config r.gate (Ask a)) { live = false; place = None }) refl
staged_is_pass config r (Told a b c d) fits l = taken_miss config r (record (entered config r.gate (Told a b c d)) { live = false; place = None }) refl
staged_is_pass config r (TopAsk a) fits l = taken_miss config r (record (entered config r.gate (TopAsk a)) { live = false; place = None }) refl
staged_is_pass config r (TopIs a b c) fits l = taken_miss config r (record (entered config r.gate (TopIs a b c)) { live = false; place = None }) refl

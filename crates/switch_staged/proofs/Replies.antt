-- Passes through the stages are passes of the table: replies of servers.
use Rattle.std.proofs.Common.{◌≡◌, ℕ, zero, suc, ◌+◌, ◌<◌, ◌≤◌, Bool, true, false, List, [], ◌∷◌, length, sym, refl, ap, ◌∙◌, subst, arith, rules, Option, None, Some}
use Rattle.std.proofs.lemmas.Bool.{false≢true, ltb-true}
use Rattle.std.specs.Prelude.{slice_set, slice_index_or, if◌then◌else◌, nat_eq, nat_lt, ◌&&◌, not, map}
use Rattle.far_base.specs.Padded.{text_of}
use Rattle.far_base.specs.declared.packet.Out.{Out}
use Rattle.far_base.specs.declared.packet.Packet.{Packet}
use Rattle.far_base.specs.declared.packet.Packet.TheVariants.{GetReq, WriteReq, GetRep, WriteRep, GetAns, WriteAns, GetFwd, Admit, AdmitAck, Peek, Remove, SnapStart, SnapRead, SnapFrom}
use Rattle.far_base.specs.declared.party.Party.TheVariants.{Client, Server, Controller}
use Rattle.far_base.specs.declared.plan.Config.{Config}
use Rattle.far_model.specs.View.{SlotView, SwitchView, Mark, slot_at, taken_at, shown_at, is_slot_of, entry_if, bound_place, held_record, empty_slot, server_of, bind_key}
use Rattle.far_model.specs.Pass.{Passed, pass, sent_to, absorbing, raised, changes, with_slot, with_taken, reply_passes, read_passes, read_at, takes_reply, may_go, removes, removed_answer, peeks, dropped, is_slot_there, admits, admitted, reads_part, part_of, starts_snapshot}
use Rattle.switch_staged.specs.declared.cells.Head.{Head}
use Rattle.switch_staged.specs.declared.flight.Act.{Act}
use Rattle.switch_staged.specs.declared.flight.Act.TheVariants.{Keep, Absorb, Raise, Bind, Clear}
use Rattle.switch_staged.specs.declared.flight.Course.{Course}
use Rattle.switch_staged.specs.Heads.{is_own, act_for, acted, bare, cells_of_body, body_after, gate_after, goes_on, place_for, bound_after, new_num, new_body, bound_head}
use Rattle.switch_staged.specs.Stages.{head_at, met, missed, taken_after, wants_part, PlaceBelow, key_touched, changes_record, entered}
use Rattle.switch_staged.specs.Shapes.{shaped, shape_of}
use Rattle.switch_staged.specs.Whole.{Registers, Fits, view_of, slots_of, eras_of, marks_of, from_heads, staged}
use Rattle.switch_staged.specs.Emits.{slot_of, first_out, second_out, first_for, second_for}
use Rattle.switch_staged.specs.Changes.{changes_at}
use Rattle.switch_staged.proofs.HitLaws.{old_taken, heads_other, taken_miss}
use Rattle.switch_staged.proofs.KindLaws.{Left, in_time, changed, unchanged, row_bytes, slot_at_is, era_is, kept_mark_is, body_back}
use Rattle.switch_staged.proofs.Acts.{met_as, landed_as, slot_as, outcome_as, own_acts, slot_raised, same_slot}
use Rattle.switch_staged.proofs.Writes.{changes_is, at_place, bound_below}

get_takes : (config : Config) (r : Registers) (caller op : ℕ) (key : List ℕ) (tag num : ℕ) (body : Option (List ℕ)) (i : ℕ) → Fits config r → length (text_of body) ≤ 256 → i < config.slots → is_own (GetRep caller op key tag num body) (head_at r.heads i) ≡ true
    → (k : Bool) → takes_reply (Some tag) num (bare (head_at r.heads i)) ≡ k
    → from_heads config r (at_place config r (GetRep caller op key tag num body) (Some i))
    ≡ (if k then changes_at (view_of config r) i (slot_of (head_at r.heads i) (row_bytes r i)) (old_taken r i).era (old_taken r i).mark (absorbing num body (slot_of (head_at r.heads i) (row_bytes r i))) (sent_to (Client caller) (GetAns caller op key num body false))
    else record { view = with_slot (view_of config r) i (raised num (slot_of (head_at r.heads i) (row_bytes r i))); first = (sent_to (Client caller) (GetAns caller op key num body false)); second = None })
unfolding goes_on first_for second_for key_touched is_own act_for acted body_after new_num new_body wants_part changes_record gate_after
get_takes config r caller op key tag num body i fits l b o true k =
    let f = at_place config r (GetRep caller op key tag num body) (Some i) in
    let v = view_of config r in
    let h = head_at r.heads i in
    let t = old_taken r i in
    own_acts config r f i Absorb fits b refl o (ap (λ x. if x then Absorb else Raise) k)
    ∙ ap (λ x. Left v i (slot_of h (row_bytes r i)) (record (slot_of h (row_bytes r i)) { latest = true; num = num; body = x }) (met_as Absorb h f) t (sent_to (Client caller) (GetAns caller op key num body false))) (body_back body l)
    ∙ changed v i (met_as Absorb h f) t (absorbing num body (slot_of h (row_bytes r i))) (row_bytes r i) (sent_to (Client caller) (GetAns caller op key num body false)) refl (era_is config r i) (kept_mark_is config r i)
get_takes config r caller op key tag num body i fits l b o false k =
    let f = at_place config r (GetRep caller op key tag num body) (Some i) in
    let v = view_of config r in
    let h = head_at r.heads i in
    let t = old_taken r i in
    own_acts config r f i Raise fits b refl o (ap (λ x. if x then Absorb else Raise) k)
    ∙ unchanged v i (met_as Raise h f) t (slot_as Raise r i f) (slot_of h (row_bytes r i)) (sent_to (Client caller) (GetAns caller op key num body false)) refl (era_is config r i) (kept_mark_is config r i)
    ∙ ap (λ s. record { view = with_slot v i s; first = (sent_to (Client caller) (GetAns caller op key num body false)); second = None }) (slot_raised h num (row_bytes r i))

get_table : (config : Config) (r : Registers) (caller op : ℕ) (key : List ℕ) (tag num : ℕ) (body : Option (List ℕ)) (i : ℕ) → Fits config r → i < config.slots
    → reply_passes (view_of config r) (Some tag) num body (sent_to (Client caller) (GetAns caller op key num body false)) (Some i)
    ≡ (if takes_reply (Some tag) num (bare (head_at r.heads i)) then changes_at (view_of config r) i (slot_of (head_at r.heads i) (row_bytes r i)) (old_taken r i).era (old_taken r i).mark (absorbing num body (slot_of (head_at r.heads i) (row_bytes r i))) (sent_to (Client caller) (GetAns caller op key num body false))
    else record { view = with_slot (view_of config r) i (raised num (slot_of (head_at r.heads i) (row_bytes r i))); first = (sent_to (Client caller) (GetAns caller op key num body false)); second = None })
get_table config r caller op key tag num body i fits b =
    let v = view_of config r in
    let s = slot_of (head_at r.heads i) (row_bytes r i) in
    ap (λ c. if takes_reply (Some tag) num (slot_at v i) then c else record { view = with_slot v i (raised num (slot_at v i)); first = (sent_to (Client caller) (GetAns caller op key num body false)); second = None }) (changes_is v i s (old_taken r i).era (old_taken r i).mark (absorbing num body) (sent_to (Client caller) (GetAns caller op key num body false)) (slot_at_is config r i fits b) (era_is config r i) (kept_mark_is config r i))
    ∙ ap (λ x. if takes_reply (Some tag) num x then changes_at v i s (old_taken r i).era (old_taken r i).mark (absorbing num body s) (sent_to (Client caller) (GetAns caller op key num body false)) else record { view = with_slot v i (raised num x); first = (sent_to (Client caller) (GetAns caller op key num body false)); second = None }) (slot_at_is config r i fits b)

get_own : (config : Config) (r : Registers) (caller op : ℕ) (key : List ℕ) (tag num : ℕ) (body : Option (List ℕ)) (i : ℕ) → Fits config r → length (text_of body) ≤ 256 → i < config.slots → (own : Bool) → is_own (GetRep caller op key tag num body) (head_at r.heads i) ≡ own
    → from_heads config r (at_place config r (GetRep caller op key tag num body) (Some i)) ≡ reply_passes (view_of config r) (Some tag) num body (sent_to (Client caller) (GetAns caller op key num body false)) (if own then Some i else None)
unfolding goes_on first_for second_for key_touched is_own act_for acted body_after new_num new_body wants_part changes_record gate_after
get_own config r caller op key tag num body i fits l b true o =
    get_takes config r caller op key tag num body i fits l b o _ refl ∙ sym (get_table config r caller op key tag num body i fits b)
get_own config r caller op key tag num body i fits l b false o =
    heads_other config r (at_place config r (GetRep caller op key tag num body) (Some i)) i refl o
    ∙ taken_miss config r (at_place config r (GetRep caller op key tag num body) None) refl

get_places : (config : Config) (r : Registers) (caller op : ℕ) (key : List ℕ) (tag num : ℕ) (body : Option (List ℕ)) → Fits config r → length (text_of body) ≤ 256 → (q : Option ℕ) → PlaceBelow q config.slots
    → from_heads config r (at_place config r (GetRep caller op key tag num body) q) ≡ reply_passes (view_of config r) (Some tag) num body (sent_to (Client caller) (GetAns caller op key num body false)) (entry_if key (view_of config r) q)
unfolding goes_on first_for second_for key_touched is_own act_for acted body_after new_num new_body wants_part changes_record gate_after
get_places config r caller op key tag num body fits l None b = taken_miss config r (at_place config r (GetRep caller op key tag num body) None) refl
get_places config r caller op key tag num body fits l (Some i) b =
    get_own config r caller op key tag num body i fits l b _ refl
    ∙ ap (reply_passes (view_of config r) (Some tag) num body (sent_to (Client caller) (GetAns caller op key num body false))) (ap (λ s. if is_slot_of key s then Some i else None) (sym (slot_at_is config r i fits b)))

pub get_reply_is_pass : (config : Config) (r : Registers) (caller op : ℕ) (key : List ℕ) (tag num : ℕ) (body : Option (List ℕ)) → Fits config r → length (text_of body) ≤ 256
    → staged config r (GetRep caller op key tag num body) ≡ pass (view_of config r) (GetRep caller op key tag num body)
unfolding gate_after goes_on place_for bound_after
get_reply_is_pass config r caller op key tag num body fits l = get_places config r caller op key tag num body fits l (bound_place key r.bound) (bound_below key config.slots r.bound fits.bound)

write_takes : (config : Config) (r : Registers) (caller op : ℕ) (key : List ℕ) (num : ℕ) (body : Option (List ℕ)) (i : ℕ) → Fits config r → length (text_of body) ≤ 256 → i < config.slots → is_own (WriteRep caller op key num body) (head_at r.heads i) ≡ true
    → (k : Bool) → takes_reply None num (bare (head_at r.heads i)) ≡ k
    → from_heads config r (at_place config r (WriteRep caller op key num body) (Some i))
    ≡ (if k then changes_at (view_of config r) i (slot_of (head_at r.heads i) (row_bytes r i)) (old_taken r i).era (old_taken r i).mark (absorbing num body (slot_of (head_at r.heads i) (row_bytes r i))) (sent_to (Client caller) (WriteAns caller op key num false))
    else record { view = with_slot (view_of config r) i (raised num (slot_of (head_at r.heads i) (row_bytes r i))); first = (sent_to (Client caller) (WriteAns caller op key num false)); second = None })
unfolding goes_on first_for second_for key_touched is_own act_for acted body_after new_num new_body wants_part changes_record gate_after
write_takes config r caller op key num body i fits l b o true k =
    let f = at_place config r (WriteRep caller op key num body) (Some i) in
    let v = view_of config r in
    let h = head_at r.heads i in
    let t = old_taken r i in
    own_acts config r f i Absorb fits b refl o (ap (λ x. if x then Absorb else Raise) k)
    ∙ ap (λ x. Left v i (slot_of h (row_bytes r i)) (record (slot_of h (row_bytes r i)) { latest = true; num = num; body = x }) (met_as Absorb h f) t (sent_to (Client caller) (WriteAns caller op key num false))) (body_back body l)
    ∙ changed v i (met_as Absorb h f) t (absorbing num body (slot_of h (row_bytes r i))) (row_bytes r i) (sent_to (Client caller) (WriteAns caller op key num false)) refl (era_is config r i) (kept_mark_is config r i)
write_takes config r caller op key num body i fits l b o false k =
    let f = at_place config r (WriteRep caller op key num body) (Some i) in
    let v = view_of config r in
    let h = head_at r.heads i in
    let t = old_taken r i in
    own_acts config r f i Raise fits b refl o (ap (λ x. if x then Absorb else Raise) k)
    ∙ unchanged v i (met_as Raise h f) t (slot_as Raise r i f) (slot_of h (row_bytes r i)) (sent_to (Client caller) (WriteAns caller op key num false)) refl (era_is config r i) (kept_mark_is config r i)
    ∙ ap (λ s. record { view = with_slot v i s; first = (sent_to (Client caller) (WriteAns caller op key num false)); second = None }) (slot_raised h num (row_bytes r i))

write_table : (config : Config) (r : Registers) (caller op : ℕ) (key : List ℕ) (num : ℕ) (body : Option (List ℕ)) (i : ℕ) → Fits config r → i < config.slots
    → reply_passes (view_of config r) None num body (sent_to (Client caller) (WriteAns caller op key num false)) (Some i)
    ≡ (if takes_reply None num (bare (head_at r.heads i)) then changes_at (view_of config r) i (slot_of (head_at r.heads i) (row_bytes r i)) (old_taken r i).era (old_taken r i).mark (absorbing num body (slot_of (head_at r.heads i) (row_bytes r i))) (sent_to (Client caller) (WriteAns caller op key num false))
    else record { view = with_slot (view_of config r) i (raised num (slot_of (head_at r.heads i) (row_bytes r i))); first = (sent_to (Client caller) (WriteAns caller op key num false)); second = None })
write_table config r caller op key num body i fits b =
    let v = view_of config r in
    let s = slot_of (head_at r.heads i) (row_bytes r i) in
    ap (λ c. if takes_reply None num (slot_at v i) then c else record { view = with_slot v i (raised num (slot_at v i)); first = (sent_to (Client caller) (WriteAns caller op key num false)); second = None }) (changes_is v i s (old_taken r i).era (old_taken r i).mark (absorbing num body) (sent_to (Client caller) (WriteAns caller op key num false)) (slot_at_is config r i fits b) (era_is config r i) (kept_mark_is config r i))
    ∙ ap (λ x. if takes_reply None num x then changes_at v i s (old_taken r i).era (old_taken r i).mark (absorbing num body s) (sent_to (Client caller) (WriteAns caller op key num false)) else record { view = with_slot v i (raised num x); first = (sent_to (Client caller) (WriteAns caller op key num false)); second = None }) (slot_at_is config r i fits b)

write_own : (config : Config) (r : Registers) (caller op : ℕ) (key : List ℕ) (num : ℕ) (body : Option (List ℕ)) (i : ℕ) → Fits config r → length (text_of body) ≤ 256 → i < config.slots → (own : Bool) → is_own (WriteRep caller op key num body) (head_at r.heads i) ≡ own
    → from_heads config r (at_place config r (WriteRep caller op key num body) (Some i)) ≡ reply_passes (view_of config r) None num body (sent_to (Client caller) (WriteAns caller op key num false)) (if own then Some i else None)
unfolding goes_on first_for second_for key_touched is_own act_for acted body_after new_num new_body wants_part changes_record gate_after
write_own config r caller op key num body i fits l b true o =
    write_takes config r caller op key num body i fits l b o _ refl ∙ sym (write_table config r caller op key num body i fits b)
write_own config r caller op key num body i fits l b false o =
    heads_other config r (at_place config r (WriteRep caller op key num body) (Some i)) i refl o
    ∙ taken_miss config r (at_place config r (WriteRep caller op key num body) None) refl

write_places : (config : Config) (r : Registers) (caller op : ℕ) (key : List ℕ) (num : ℕ) (body : Option (List ℕ)) → Fits config r → length (text_of body) ≤ 256 → (q : Option ℕ) → PlaceBelow q config.slots
    → from_heads config r (at_place config r (WriteRep caller op key num body) q) ≡ reply_passes (view_of config r) None num body (sent_to (Client caller) (WriteAns caller op key num false)) (entry_if key (view_of config r) q)
unfolding goes_on first_for second_for key_touched is_own act_for acted body_after new_num new_body wants_part changes_record gate_after
write_places config r caller op key num body fits l None b = taken_miss config r (at_place config r (WriteRep caller op key num body) None) refl
write_places config r caller op key num body fits l (Some i) b =
    write_own config r caller op key num body i fits l b _ refl
    ∙ ap (reply_passes (view_of config r) None num body (sent_to (Client caller) (WriteAns caller op key num false))) (ap (λ s. if is_slot_of key s then Some i else None) (sym (slot_at_is config r i fits b)))

pub write_reply_is_pass : (config : Config) (r : Registers) (caller op : ℕ) (key : List ℕ) (num : ℕ) (body : Option (List ℕ)) → Fits config r → length (text_of body) ≤ 256
    → staged config r (WriteRep caller op key num body) ≡ pass (view_of config r) (WriteRep caller op key num body)
unfolding gate_after goes_on place_for bound_after
write_reply_is_pass config r caller op key num body fits l = write_places config r caller op key num body fits l (bound_place key r.bound) (bound_below key config.slots r.bound fits.bound)

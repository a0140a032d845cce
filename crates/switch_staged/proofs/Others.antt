-- Passes through the stages are passes of the table: the packets that are left.
use Rattle.std.proofs.Common.{◌≡◌, ℕ, zero, suc, ◌+◌, ◌<◌, ◌≤◌, Bool, true, false, List, [], ◌∷◌, length, sym, refl, ap, ◌∙◌, subst, arith, rules, Option, None, Some}
use Rattle.std.proofs.lemmas.Bool.{false≢true, ltb-true}
use Rattle.std.proofs.lemmas.List.{length-set, length-map}
use Rattle.std.specs.Prelude.{slice_set, slice_index_or, if◌then◌else◌, nat_eq, nat_lt, ◌&&◌, not, map}
use Rattle.far_base.specs.Padded.{text_of}
use Rattle.far_base.specs.declared.packet.Out.{Out}
use Rattle.far_base.specs.declared.packet.Packet.{Packet}
use Rattle.far_base.specs.declared.packet.Packet.TheVariants.{GetReq, WriteReq, GetRep, WriteRep, GetAns, WriteAns, GetFwd, Admit, AdmitAck, Peek, Remove, SnapStart, SnapRead, SnapFrom}
use Rattle.far_base.specs.declared.party.Party.TheVariants.{Client, Server, Controller}
use Rattle.far_base.specs.declared.plan.Config.{Config}
use Rattle.far_model.specs.View.{SlotView, SwitchView, Mark, slot_at, taken_at, shown_at, is_slot_of, entry_if, bound_place, held_record, empty_slot, server_of, bind_key}
use Rattle.far_model.specs.Pass.{Passed, pass, sent_to, absorbing, raised, changes, with_slot, with_taken, reply_passes, read_passes, read_at, takes_reply, may_go, removes, removed_answer, peeks, dropped, is_slot_there, admits, admitted, reads_part, part_of, starts_snapshot}
use Rattle.switch_staged.specs.declared.cells.Head.{Head}
use Rattle.switch_staged.specs.declared.flight.Act.{Act}
use Rattle.switch_staged.specs.declared.flight.Act.TheVariants.{Keep, Absorb, Raise, Bind, Clear}
use Rattle.switch_staged.specs.declared.flight.Course.{Course}
use Rattle.switch_staged.specs.Heads.{is_own, act_for, acted, bare, cells_of_body, body_after, gate_after, goes_on, place_for, bound_after, new_num, new_body, bound_head}
use Rattle.switch_staged.specs.Stages.{head_at, met, missed, taken_after, wants_part, PlaceBelow, key_touched, changes_record, entered}
use Rattle.switch_staged.specs.Shapes.{shaped, shape_of}
use Rattle.switch_staged.specs.Whole.{Registers, Fits, view_of, slots_of, eras_of, marks_of, from_heads, staged}
use Rattle.switch_staged.specs.Emits.{slot_of, first_out, second_out, first_for, second_for}
use Rattle.switch_staged.specs.Changes.{changes_at}
use Rattle.switch_staged.proofs.HitLaws.{old_taken, heads_other, taken_miss}
use Rattle.switch_staged.proofs.KindLaws.{Left, in_time, changed, unchanged, row_bytes, slot_at_is, era_is, kept_mark_is, body_back}
use Rattle.switch_staged.proofs.Acts.{met_as, landed_as, slot_as, outcome_as, own_acts, slot_raised, same_slot}
use Rattle.switch_staged.proofs.Writes.{changes_is, at_place, bound_below}
use Rattle.switch_staged.proofs.Removes.{if_live, reach_below}

-- ---- GetReq

read_own : (config : Config) (r : Registers) (caller op : ℕ) (key : List ℕ) (i : ℕ) → Fits config r → i < config.slots → (own : Bool) → is_own (GetReq caller op key) (head_at r.heads i) ≡ own
    → from_heads config r (at_place config r (GetReq caller op key) (Some i)) ≡ read_passes (view_of config r) caller op key (if own then Some i else None)
unfolding goes_on first_for second_for key_touched is_own act_for acted body_after new_num new_body wants_part changes_record gate_after place_for bound_after bound_head
read_own config r caller op key i fits b true o =
    let p = GetReq caller op key in
    let f = at_place config r p (Some i) in
    let v = view_of config r in
    let s = slot_of (head_at r.heads i) (row_bytes r i) in
    own_acts config r f i Keep fits b refl o refl
    ∙ unchanged v i (met_as Keep (head_at r.heads i) f) (old_taken r i) s s (read_at v caller op key s).first refl (era_is config r i) (kept_mark_is config r i)
    ∙ ap (λ w. record { view = w; first = (read_at v caller op key s).first; second = None }) (same_slot config r i fits b)
    ∙ ap (read_at v caller op key) (sym (slot_at_is config r i fits b))
read_own config r caller op key i fits b false o =
    heads_other config r (at_place config r (GetReq caller op key) (Some i)) i refl o
    ∙ taken_miss config r (at_place config r (GetReq caller op key) None) refl

read_places : (config : Config) (r : Registers) (caller op : ℕ) (key : List ℕ) → Fits config r → (q : Option ℕ) → PlaceBelow q config.slots
    → from_heads config r (at_place config r (GetReq caller op key) q) ≡ read_passes (view_of config r) caller op key (entry_if key (view_of config r) q)
unfolding goes_on first_for second_for key_touched is_own act_for acted body_after new_num new_body wants_part changes_record gate_after place_for bound_after bound_head
read_places config r caller op key fits None b = taken_miss config r (at_place config r (GetReq caller op key) None) refl
read_places config r caller op key fits (Some i) b =
    read_own config r caller op key i fits b _ refl
    ∙ ap (read_passes (view_of config r) caller op key) (ap (λ s. if is_slot_of key s then Some i else None) (sym (slot_at_is config r i fits b)))

pub read_is_pass : (config : Config) (r : Registers) (caller op : ℕ) (key : List ℕ) → Fits config r
    → staged config r (GetReq caller op key) ≡ pass (view_of config r) (GetReq caller op key)
unfolding gate_after goes_on place_for bound_after
read_is_pass config r caller op key fits = read_places config r caller op key fits (bound_place key r.bound) (bound_below key config.slots r.bound fits.bound)

-- ---- Peek

peek_live : (config : Config) (r : Registers) (epoch i tag : ℕ) → Fits config r → (x : Bool) → is_slot_there (view_of config r) epoch i ≡ x
    → if_live config r (Peek epoch i tag) x ≡ (if x then peeks (view_of config r) i tag (slot_at (view_of config r) i) else dropped (view_of config r))
unfolding goes_on first_for second_for key_touched is_own act_for acted body_after new_num new_body wants_part changes_record gate_after place_for bound_after bound_head
peek_live config r epoch i tag fits true e =
    let b = reach_below (nat_eq epoch r.gate.epoch) i config.slots e in
    let f = record (entered config r.gate (Peek epoch i tag)) { live = true; place = Some i } in
    let v = view_of config r in
    let s = slot_of (head_at r.heads i) (row_bytes r i) in
    own_acts config r f i Keep fits b refl refl refl
    ∙ unchanged v i (met_as Keep (head_at r.heads i) f) (old_taken r i) s s (peeks v i tag s).first refl (era_is config r i) (kept_mark_is config r i)
    ∙ ap (λ w. record { view = w; first = (peeks v i tag s).first; second = None }) (same_slot config r i fits b)
    ∙ ap (peeks v i tag) (sym (slot_at_is config r i fits b))
peek_live config r epoch i tag fits false e = taken_miss config r (record (entered config r.gate (Peek epoch i tag)) { live = false; place = None }) refl

pub peek_is_pass : (config : Config) (r : Registers) (epoch i tag : ℕ) → Fits config r
    → staged config r (Peek epoch i tag) ≡ pass (view_of config r) (Peek epoch i tag)
unfolding goes_on
peek_is_pass config r epoch i tag fits = peek_live config r epoch i tag fits _ refl

-- ---- Admit

abbrev pub rebound : Registers → List ℕ → ℕ → Registers
rebound r key i = record r { bound = bind_key key i r.bound }

admit_may : (config : Config) (r : Registers) (epoch i : ℕ) (key : List ℕ) (tag : ℕ) → Fits config (rebound r key i) → i < config.slots → (k : Bool) → (head_at r.heads i).valid ≡ k
    → if_live config r (Admit epoch i key tag) true ≡ record {
      view = with_slot (view_of config (rebound r key i)) i (if k then slot_of (head_at r.heads i) (row_bytes r i) else record { key = Some key; tag = tag; valid = true; latest = false; num = 0; body = None });
      first = if k then None else sent_to Controller (AdmitAck i tag);
      second = None;
    }
unfolding goes_on first_for second_for key_touched is_own act_for acted body_after new_num new_body wants_part changes_record gate_after place_for bound_after bound_head
admit_may config r epoch i key tag fits b true k =
    let r1 = rebound r key i in
    let f = record (entered config r.gate (Admit epoch i key tag)) { live = true; place = Some i } in
    let s = slot_of (head_at r.heads i) (row_bytes r i) in
    own_acts config r1 f i Keep fits b refl refl (ap (λ x. if x then Keep else Bind) k)
    ∙ unchanged (view_of config r1) i (met_as Keep (head_at r.heads i) f) (old_taken r i) s s (if (head_at r.heads i).valid then None else sent_to Controller (AdmitAck i tag)) refl (era_is config r1 i) (kept_mark_is config r1 i)
    ∙ ap (λ x. record { view = with_slot (view_of config r1) i s; first = if x then None else sent_to Controller (AdmitAck i tag); second = None }) k
admit_may config r epoch i key tag fits b false k =
    let r1 = rebound r key i in
    let f = record (entered config r.gate (Admit epoch i key tag)) { live = true; place = Some i } in
    let s = slot_of (head_at r.heads i) (row_bytes r i) in
    let new : SlotView = record { key = Some key; tag = tag; valid = true; latest = false; num = 0; body = None } in
    own_acts config r1 f i Bind fits b refl refl (ap (λ x. if x then Keep else Bind) k)
    ∙ unchanged (view_of config r1) i (met_as Bind (head_at r.heads i) f) (old_taken r i) new s (if (head_at r.heads i).valid then None else sent_to Controller (AdmitAck i tag)) refl (era_is config r1 i) (kept_mark_is config r1 i)
    ∙ ap (λ x. record { view = with_slot (view_of config r1) i new; first = if x then None else sent_to Controller (AdmitAck i tag); second = None }) k

admit_live : (config : Config) (r : Registers) (epoch i : ℕ) (key : List ℕ) (tag : ℕ) → Fits config r → Fits config (rebound r key i) → (x : Bool) → is_slot_there (view_of config r) epoch i ≡ x
    → if_live config r (Admit epoch i key tag) x ≡ (if x then admits (view_of config r) i key tag else dropped (view_of config r))
unfolding goes_on first_for second_for key_touched is_own act_for acted body_after new_num new_body wants_part changes_record gate_after place_for bound_after bound_head
admit_live config r epoch i key tag fits again true e =
    let b = reach_below (nat_eq epoch r.gate.epoch) i config.slots e in
    admit_may config r epoch i key tag again b _ refl
    ∙ ap (λ s. record { view = with_slot (view_of config (rebound r key i)) i (admitted key tag s); first = if s.valid then None else sent_to Controller (AdmitAck i tag); second = None }) (sym (slot_at_is config r i fits b))
admit_live config r epoch i key tag fits again false e = taken_miss config r (record (entered config r.gate (Admit epoch i key tag)) { live = false; place = None }) refl

pub unbinds_length : (n i : ℕ) (key : List ℕ) (bound : List (Option (List ℕ))) → length bound ≡ n → length (bind_key key i bound) ≡ n
unbinds_length n i key bound e = length-set _ i _ ∙ length-map _ _ ∙ e

pub admit_is_pass : (config : Config) (r : Registers) (epoch i : ℕ) (key : List ℕ) (tag : ℕ) → Fits config r
    → staged config r (Admit epoch i key tag) ≡ pass (view_of config r) (Admit epoch i key tag)
unfolding goes_on
admit_is_pass config r epoch i key tag fits = admit_live config r epoch i key tag fits (record { bound = unbinds_length config.slots i key r.bound fits.bound; heads = fits.heads; taken = fits.taken; arrays = fits.arrays; count = fits.count }) _ refl

-- ---- SnapStart and SnapFrom

start_live : (config : Config) (r : Registers) (epoch id : ℕ) (x : Bool) → nat_eq epoch r.gate.epoch ≡ x
    → from_heads config (record r { gate = if x then record { epoch = r.gate.epoch; counter = r.gate.counter; snap = id; base = 0 } else r.gate }) (record (entered config r.gate (SnapStart epoch id)) { live = x; gate = if x then record { epoch = r.gate.epoch; counter = r.gate.counter; snap = id; base = 0 } else r.gate; place = if x then None else None })
    ≡ (if x then starts_snapshot (view_of config r) id 0 else dropped (view_of config r))
unfolding first_for second_for key_touched
start_live config r epoch id true e = taken_miss config (record r { gate = record { epoch = r.gate.epoch; counter = r.gate.counter; snap = id; base = 0 } }) (record (entered config r.gate (SnapStart epoch id)) { live = true; gate = record { epoch = r.gate.epoch; counter = r.gate.counter; snap = id; base = 0 }; place = None }) refl
start_live config r epoch id false e = taken_miss config r (record (entered config r.gate (SnapStart epoch id)) { live = false; gate = r.gate; place = None }) refl

bound_same : (x : Bool) (bound : List (Option (List ℕ))) → (if x then bound else bound) ≡ bound
bound_same true bound = refl
bound_same false bound = refl

pub start_is_pass : (config : Config) (r : Registers) (epoch id : ℕ)
    → staged config r (SnapStart epoch id) ≡ pass (view_of config r) (SnapStart epoch id)
unfolding goes_on gate_after place_for bound_after
start_is_pass config r epoch id =
    ap (λ bs. from_heads config (record r { gate = if nat_eq epoch r.gate.epoch then record { epoch = r.gate.epoch; counter = r.gate.counter; snap = id; base = 0 } else r.gate; bound = bs }) (record (entered config r.gate (SnapStart epoch id)) { place = if nat_eq epoch r.gate.epoch then None else None })) (bound_same (nat_eq epoch r.gate.epoch) r.bound)
    ∙ start_live config r epoch id _ refl

from_live : (config : Config) (r : Registers) (epoch id base : ℕ) (x : Bool) → nat_eq epoch r.gate.epoch ≡ x
    → from_heads config (record r { gate = if x then record { epoch = r.gate.epoch; counter = r.gate.counter; snap = id; base = base } else r.gate }) (record (entered config r.gate (SnapFrom epoch id base)) { live = x; gate = if x then record { epoch = r.gate.epoch; counter = r.gate.counter; snap = id; base = base } else r.gate; place = if x then None else None })
    ≡ (if x then starts_snapshot (view_of config r) id base else dropped (view_of config r))
unfolding first_for second_for key_touched
from_live config r epoch id base true e = taken_miss config (record r { gate = record { epoch = r.gate.epoch; counter = r.gate.counter; snap = id; base = base } }) (record (entered config r.gate (SnapFrom epoch id base)) { live = true; gate = record { epoch = r.gate.epoch; counter = r.gate.counter; snap = id; base = base }; place = None }) refl
from_live config r epoch id base false e = taken_miss config r (record (entered config r.gate (SnapFrom epoch id base)) { live = false; gate = r.gate; place = None }) refl

pub from_is_pass : (config : Config) (r : Registers) (epoch id base : ℕ)
    → staged config r (SnapFrom epoch id base) ≡ pass (view_of config r) (SnapFrom epoch id base)
unfolding goes_on gate_after place_for bound_after
from_is_pass config r epoch id base =
    ap (λ bs. from_heads config (record r { gate = if nat_eq epoch r.gate.epoch then record { epoch = r.gate.epoch; counter = r.gate.counter; snap = id; base = base } else r.gate; bound = bs }) (record (entered config r.gate (SnapFrom epoch id base)) { place = if nat_eq epoch r.gate.epoch then None else None })) (bound_same (nat_eq epoch r.gate.epoch) r.bound)
    ∙ from_live config r epoch id base _ refl

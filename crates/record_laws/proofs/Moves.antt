-- Packets of operations move no owner of a slot.
use Rattle.std.proofs.Common.{◌≡◌, ℕ, inl, inr, true, false, List, ◌++◌, refl, ap, ◌∙◌}
use Rattle.std.specs.Prelude.{Option, Some, None, max}
use Rattle.far_base.specs.declared.packet.Message.{Message}
use Rattle.far_base.specs.declared.packet.Out.{Out}
use Rattle.far_base.specs.declared.packet.Packet.TheVariants.{GetReq, WriteReq, GetFwd, GetAns, Hot, SnapPart, SnapSame}
use Rattle.far_base.specs.declared.party.Party.TheVariants.{Client, Switch, Server, Controller}
use Rattle.far_base.specs.declared.plan.OpLine.{OpLine}
use Rattle.far_model.specs.Clients.{request}
use Rattle.far_model.specs.Log.{is_read}
use Rattle.far_model.specs.Members.{Among}
use Rattle.far_model.specs.Parties.{messages_from}
use Rattle.far_model.specs.Pass.{Passed, sent_to, outs_of, read_passes, write_passes, reply_passes, numbered, touched, told_hot, grows_hot, hot_cell, changes, changed_view, part_left, part_of, with_slot, with_taken, absorbing, raised, takes_reply, is_as_before}
use Rattle.far_model.specs.View.{SlotView, SwitchView, slot_at, is_taken, server_of, held_record}
use Rattle.flight_laws.proofs.Lists.{by_test}
use Rattle.record_laws.proofs.Seats.{is_admission_packet, SameOwner, SameSlots, unchanged_slots, set_slots}

abbrev pub IsNoAdmission : Option Out → Type 0
IsNoAdmission None = Unit {0}
IsNoAdmission (Some o) = is_admission_packet o.packet ≡ false

-- a pass that moves no owner and answers no admission
pub record PassSits (v : SwitchView) (p : Passed) : Type 0 where
  pub slots : SameSlots v p.view
  pub first : IsNoAdmission p.first
  pub second : IsNoAdmission p.second

pub outs_none : (first second : Option Out) → IsNoAdmission first → IsNoAdmission second → (m : Message) → Among m (messages_from Switch (outs_of first ++ outs_of second)) → is_admission_packet m.packet ≡ false
outs_none None None a b m h = absurd h
outs_none None (Some y) a b m (inl e) = ap (λ (w : Message). is_admission_packet w.packet) e ∙ b
outs_none None (Some y) a b m (inr h) = absurd h
outs_none (Some x) None a b m (inl e) = ap (λ (w : Message). is_admission_packet w.packet) e ∙ a
outs_none (Some x) None a b m (inr h) = absurd h
outs_none (Some x) (Some y) a b m (inl e) = ap (λ (w : Message). is_admission_packet w.packet) e ∙ a
outs_none (Some x) (Some y) a b m (inr (inl e)) = ap (λ (w : Message). is_admission_packet w.packet) e ∙ b
outs_none (Some x) (Some y) a b m (inr (inr h)) = absurd h

hot_none : (key : List ℕ) (v : SwitchView) → IsNoAdmission (told_hot key v)
hot_none key v = by_test IsNoAdmission (grows_hot v.config.hot (hot_cell key v)) (sent_to Controller (Hot key)) None refl tt

part_none : (v : SwitchView) (i : ℕ) → IsNoAdmission (part_left v i)
part_none v i = by_test IsNoAdmission (is_taken v i) None (part_of v i) tt (by_test (λ p. IsNoAdmission (sent_to Controller p)) (is_as_before v i) (SnapSame v.snap i) (SnapPart v.snap i (held_record (slot_at v i))) refl refl)

changed_sits : (v : SwitchView) (i : ℕ) (slot : SlotView) → SameOwner slot (slot_at v i) → SameSlots v (changed_view v i slot)
changed_sits v i slot same = by_test (SameSlots v) (is_taken v i) (with_slot v i slot) (with_taken (with_slot v i slot) i (held_record (slot_at v i)))
    (set_slots v (with_slot v i slot) i slot refl refl refl same) (set_slots v (with_taken (with_slot v i slot) i (held_record (slot_at v i))) i slot refl refl refl same)

pub read_sits : (v : SwitchView) (caller op : ℕ) (key : List ℕ) (e : Option ℕ) → PassSits v (read_passes v caller op key e)
read_sits v caller op key None = record { slots = unchanged_slots v (touched key v) refl refl refl; first = refl; second = hot_none key v }
read_sits v caller op key (Some i) = record {
  slots = unchanged_slots v v refl refl refl;
  first = by_test IsNoAdmission (slot_at v i).latest (sent_to (Client caller) (GetAns caller op key (slot_at v i).num (slot_at v i).body true)) (sent_to (Server (server_of v.config key)) (GetFwd caller op key (slot_at v i).tag)) refl refl;
  second = tt;
}

pub write_sits : (v : SwitchView) (caller op : ℕ) (key : List ℕ) (body : Option (List ℕ)) (e : Option ℕ) → PassSits v (write_passes (numbered v) caller op key body e)
write_sits v caller op key body None = record { slots = unchanged_slots v (touched key (numbered v)) refl refl refl; first = refl; second = hot_none key (numbered v) }
write_sits v caller op key body (Some i) = record {
  slots =
      let h = changed_sits (numbered v) i (absorbing (numbered v).counter body (slot_at v i)) (record { valid = refl; key = refl; tag = refl }) in
      record { bound = h.bound; epoch = h.epoch; size = h.size; owners = h.owners };
  first = refl;
  second = part_none (numbered v) i;
}

raised_owner : (num : ℕ) (slot : SlotView) → SameOwner (raised num slot) slot
raised_owner num slot = by_test (λ (w : SlotView). SameOwner w slot) slot.latest slot (record slot { num = max slot.num num }) (record { valid = refl; key = refl; tag = refl }) (record { valid = refl; key = refl; tag = refl })

pub reply_sits : (v : SwitchView) (tag : Option ℕ) (num : ℕ) (body : Option (List ℕ)) (out : Option Out) (e : Option ℕ) → IsNoAdmission out → PassSits v (reply_passes v tag num body out e)
reply_sits v tag num body out None none = record { slots = unchanged_slots v v refl refl refl; first = none; second = tt }
reply_sits v tag num body out (Some i) none = by_test (PassSits v) (takes_reply tag num (slot_at v i)) (changes v i (absorbing num body (slot_at v i)) out)
    (record { view = with_slot v i (raised num (slot_at v i)); first = out; second = None })
    (record { slots = changed_sits v i (absorbing num body (slot_at v i)) (record { valid = refl; key = refl; tag = refl }); first = none; second = part_none v i })
    (record { slots = set_slots v (with_slot v i (raised num (slot_at v i))) i (raised num (slot_at v i)) refl refl refl (raised_owner num (slot_at v i)); first = none; second = tt })

pub request_none : (c op : ℕ) (line : OpLine) → is_admission_packet (request c op line) ≡ false
request_none c op line = by_test (λ q. is_admission_packet q ≡ false) (is_read line.op) (GetReq c op line.key) (WriteReq c op line.key line.body) refl refl

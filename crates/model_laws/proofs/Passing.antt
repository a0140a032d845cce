-- A pass changes only what its row names.
use Rattle.std.proofs.Common.{◌≡◌, ◌≢◌, ℕ, ◌+◌, Bool, true, false, cond, ◌&&◌, List, refl, sym, ap, ◌∙◌, true≢false, get_or-set_other}
use Rattle.std.specs.Prelude.{Option, None, Some, if◌then◌else◌, nat_eq, not}
use Rattle.far_base.specs.declared.packet.Out.{Out}
use Rattle.far_base.specs.declared.packet.Packet.{Packet}
use Rattle.far_base.specs.declared.packet.Packet.TheVariants.{GetReq, WriteReq, GetRep, WriteRep, Admit, Peek, Remove, SnapStart, SnapRead, SnapFrom}
use Rattle.far_base.specs.declared.record.Record.{Record}
use Rattle.far_model.specs.Pass.{Passed, absorbing, admitted, admits, changed_view, changes, dropped, is_slot_there, may_go, numbered, pass, peeks, raised, read_passes, reads_part, removes, reply_passes, starts_snapshot, takes_reply, with_slot, with_taken, write_passes}
use Rattle.far_model.specs.View.{SlotView, SwitchView, empty_slot, entry_place, held_record, is_taken, mark_of, slot_at}
use Rattle.model_laws.specs.Passes.{ChangesItsOwn, SlotStays, concerned_place, is_start, is_write}

-- what holds of both branches
pub by_test : {A : Type 0} (P : A → Type 0) (b : Bool) (x y : A) → P x → P y → P (cond b x y)
by_test P true x y p q = p
by_test P false x y p q = q

-- a packet that starts no snapshot, admits no key and numbers no write changes one slot at most
pub record Slots (v : SwitchView) (place : Option ℕ) (w : SwitchView) : Type 0 where
  pub config : w.config ≡ v.config
  pub epoch : w.epoch ≡ v.epoch
  pub counter : w.counter ≡ v.counter
  pub snap : w.snap ≡ v.snap
  pub base : w.base ≡ v.base
  pub bound : w.bound ≡ v.bound
  pub hot : w.hot ≡ v.hot
  pub others : (other : ℕ) → place ≢ Some other → SlotStays v w other

same : (v : SwitchView) (place : Option ℕ) → Slots v place v
same v place = record {
  config = refl;
  epoch = refl;
  counter = refl;
  snap = refl;
  base = refl;
  bound = refl;
  hot = refl;
  others = λ other apart. record { slot = refl; taken = refl; shown = refl };
}

apart_from : (i other : ℕ) → Some i ≢ Some other → other ≢ i
apart_from i other h e = h (ap Some (sym e))

one_slot : (v : SwitchView) (i : ℕ) (slot : SlotView) → Slots v (Some i) (with_slot v i slot)
one_slot v i slot = record {
  config = refl;
  epoch = refl;
  counter = refl;
  snap = refl;
  base = refl;
  bound = refl;
  hot = refl;
  others = λ other apart. record { slot = get_or-set_other v.slots i other slot empty_slot (apart_from i other apart); taken = refl; shown = refl };
}

one_taken : (v : SwitchView) (i : ℕ) (view : Option Record) → Slots v (Some i) (with_taken v i view)
one_taken v i view = record {
  config = refl;
  epoch = refl;
  counter = refl;
  snap = refl;
  base = refl;
  bound = refl;
  hot = refl;
  others = λ other apart. record {
    slot = refl;
    taken = get_or-set_other v.taken i other v.snap 0 (apart_from i other apart);
    shown = get_or-set_other v.shown i other (mark_of view) None (apart_from i other apart);
  };
}

both_changed : (v : SwitchView) (i : ℕ) (slot : SlotView) (view : Option Record) → Slots v (Some i) (with_taken (with_slot v i slot) i view)
both_changed v i slot view = record {
  config = refl;
  epoch = refl;
  counter = refl;
  snap = refl;
  base = refl;
  bound = refl;
  hot = refl;
  others = λ other apart. record {
    slot = get_or-set_other v.slots i other slot empty_slot (apart_from i other apart);
    taken = get_or-set_other v.taken i other v.snap 0 (apart_from i other apart);
    shown = get_or-set_other v.shown i other (mark_of view) None (apart_from i other apart);
  };
}

pub changed_slots : (v : SwitchView) (i : ℕ) (slot : SlotView) → Slots v (Some i) (changed_view v i slot)
changed_slots v i slot = by_test (Slots v (Some i)) (is_taken v i) (with_slot v i slot) (with_taken (with_slot v i slot) i (held_record (slot_at v i)))
    (one_slot v i slot) (both_changed v i slot (held_record (slot_at v i)))

reply_slots : (v : SwitchView) (tag : Option ℕ) (num : ℕ) (body : Option (List ℕ)) (out : Option Out) (place : Option ℕ) → Slots v place (reply_passes v tag num body out place).view
reply_slots v tag num body out None = same v None
reply_slots v tag num body out (Some i) = by_test (λ (p : Passed). Slots v (Some i) p.view) (takes_reply tag num (slot_at v i))
    (changes v i (absorbing num body (slot_at v i)) out) (record { view = with_slot v i (raised num (slot_at v i)); first = out; second = None })
    (changed_slots v i (absorbing num body (slot_at v i))) (one_slot v i (raised num (slot_at v i)))

removed_slots : (v : SwitchView) (i tag : ℕ) (latest : Bool) (num : ℕ) (slot : SlotView) → Slots v (Some i) (removes v i tag latest num slot).view
removed_slots v i tag latest num slot = by_test (λ (p : Passed). Slots v (Some i) p.view) (may_go tag latest num slot) _ _
    (by_test (λ (p : Passed). Slots v (Some i) p.view) slot.latest _ _ (changed_slots v i empty_slot) (one_slot v i empty_slot))
    (same v (Some i))

-- ---- by packets

of_slots : (v : SwitchView) (packet : Packet) (w : SwitchView) → is_write packet ≡ false → Slots v (concerned_place v packet) w → ChangesItsOwn v packet w
of_slots v packet w h s = record {
  config = s.config;
  epoch = s.epoch;
  counter = s.counter ∙ ap (λ b. if b then v.counter + 1 else v.counter) (sym h);
  snap = λ e. s.snap;
  base = λ e. s.base;
  bound = λ e. s.bound;
  hot = λ e. s.hot;
  others = s.others;
}

pub unchanged : (v : SwitchView) (packet : Packet) → is_write packet ≡ false → ChangesItsOwn v packet v
unchanged v packet h = of_slots v packet v h (same v (concerned_place v packet))

read_own : (v : SwitchView) (caller op : ℕ) (key : List ℕ) (place : Option ℕ) → ChangesItsOwn v (GetReq caller op key) (read_passes v caller op key place).view
read_own v caller op key (Some i) = unchanged v (GetReq caller op key) refl
read_own v caller op key None = record {
  config = refl;
  epoch = refl;
  counter = refl;
  snap = λ e. refl;
  base = λ e. refl;
  bound = λ e. refl;
  hot = λ e. absurd (true≢false e);
  others = λ other apart. record { slot = refl; taken = refl; shown = refl };
}

write_own : (v : SwitchView) (caller op : ℕ) (key : List ℕ) (body : Option (List ℕ)) (place : Option ℕ) → entry_place key v ≡ place → ChangesItsOwn v (WriteReq caller op key body) (write_passes (numbered v) caller op key body place).view
write_own v caller op key body (Some i) at =
    let s = changed_slots (numbered v) i (absorbing (v.counter + 1) body (slot_at v i)) in record {
      config = s.config;
      epoch = s.epoch;
      counter = s.counter;
      snap = λ e. s.snap;
      base = λ e. s.base;
      bound = λ e. s.bound;
      hot = λ e. absurd (true≢false e);
      others = λ other apart. let o = s.others other (λ e. apart (at ∙ e)) in record { slot = o.slot; taken = o.taken; shown = o.shown };
    }
write_own v caller op key body None at = record {
  config = refl;
  epoch = refl;
  counter = refl;
  snap = λ e. refl;
  base = λ e. refl;
  bound = λ e. refl;
  hot = λ e. absurd (true≢false e);
  others = λ other apart. record { slot = refl; taken = refl; shown = refl };
}

admit_own : (v : SwitchView) (epoch i : ℕ) (key : List ℕ) (tag : ℕ) → ChangesItsOwn v (Admit epoch i key tag) (admits v i key tag).view
admit_own v epoch i key tag = record {
  config = refl;
  epoch = refl;
  counter = refl;
  snap = λ e. refl;
  base = λ e. refl;
  bound = λ e. absurd (true≢false e);
  hot = λ e. refl;
  others = λ other apart. record { slot = get_or-set_other v.slots i other (admitted key tag (slot_at v i)) empty_slot (apart_from i other apart); taken = refl; shown = refl };
}

start_own : (v : SwitchView) (packet : Packet) (id base : ℕ) → is_write packet ≡ false → is_start packet ≡ true → ChangesItsOwn v packet (starts_snapshot v id base).view
start_own v packet id base h s = record {
  config = refl;
  epoch = refl;
  counter = ap (λ b. if b then v.counter + 1 else v.counter) (sym h);
  snap = λ e. absurd (true≢false (sym s ∙ e));
  base = λ e. absurd (true≢false (sym s ∙ e));
  bound = λ e. refl;
  hot = λ e. refl;
  others = λ other apart. record { slot = refl; taken = refl; shown = refl };
}

-- a control packet is dropped, or does this
or_dropped : (v : SwitchView) (packet : Packet) (b : Bool) (p : Passed) → is_write packet ≡ false → ChangesItsOwn v packet p.view → ChangesItsOwn v packet (if b then p else dropped v).view
or_dropped v packet b p h k = by_test (λ (q : Passed). ChangesItsOwn v packet q.view) b p (dropped v) k (unchanged v packet h)

pub own_changes : (v : SwitchView) (packet : Packet) → ChangesItsOwn v packet (pass v packet).view
own_changes v (GetReq caller op key) = read_own v caller op key (entry_place key v)
own_changes v (WriteReq caller op key body) = write_own v caller op key body (entry_place key v) refl
own_changes v (GetRep caller op key tag num body) = of_slots v (GetRep caller op key tag num body) _ refl (reply_slots v (Some tag) num body _ (entry_place key v))
own_changes v (WriteRep caller op key num body) = of_slots v (WriteRep caller op key num body) _ refl (reply_slots v None num body _ (entry_place key v))
own_changes v (Admit epoch i key tag) = or_dropped v (Admit epoch i key tag) (is_slot_there v epoch i) (admits v i key tag) refl (admit_own v epoch i key tag)
own_changes v (Peek epoch i tag) = or_dropped v (Peek epoch i tag) (is_slot_there v epoch i) (peeks v i tag (slot_at v i)) refl (unchanged v (Peek epoch i tag) refl)
own_changes v (Remove epoch i tag latest num) = or_dropped v (Remove epoch i tag latest num) (is_slot_there v epoch i) (removes v i tag latest num (slot_at v i)) refl
    (of_slots v (Remove epoch i tag latest num) _ refl (removed_slots v i tag latest num (slot_at v i)))
own_changes v (SnapStart epoch id) = or_dropped v (SnapStart epoch id) (nat_eq epoch v.epoch) (starts_snapshot v id 0) refl (start_own v (SnapStart epoch id) id 0 refl refl)
own_changes v (SnapFrom epoch id base) = or_dropped v (SnapFrom epoch id base) (nat_eq epoch v.epoch) (starts_snapshot v id base) refl (start_own v (SnapFrom epoch id base) id base refl refl)
own_changes v (SnapRead epoch id i) = or_dropped v (SnapRead epoch id i) (is_slot_there v epoch i) (reads_part v id i) refl
    (of_slots v (SnapRead epoch id i) _ refl (by_test (λ (p : Passed). Slots v (Some i) p.view) (nat_eq id v.snap && not (is_taken v i)) _ _ (one_taken v i (held_record (slot_at v i))) (same v (Some i))))
own_changes v packet = unchanged v packet refl

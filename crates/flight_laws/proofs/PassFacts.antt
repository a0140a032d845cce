-- What a pass does to owners, epochs and parts, and what it sends.
use Rattle.std.proofs.Common.{◌≡◌, ℕ, ◌+◌, ◌<◌, ◌⊎◌, inl, inr, Bool, true, false, true≢false, cond, List, ◌++◌, length, length-set, map, set, refl, sym, ap, ◌∙◌, subst, arith, max}
use Rattle.std.specs.Prelude.{Option, None, Some, slice_index_or}
use Rattle.std.proofs.lemmas.Bool.{cases_eq}
use Rattle.std.proofs.lemmas.List.{get_or-set_same, get_or-set_other, length-map}
use Rattle.far_base.specs.declared.packet.Out.{Out}
use Rattle.far_base.specs.declared.packet.Packet.{Packet}
use Rattle.far_base.specs.declared.packet.Packet.TheVariants.{GetReq, WriteReq, GetFwd, WriteFwd, GetRep, WriteRep, GetAns, WriteAns, Hot, Admit, AdmitAck, Peek, PeekAns, Remove, RemoveAns, SnapStart, SnapBegun, SnapRead, SnapPart, Store, Stored, Release, Ask, Told, TopAsk, TopIs, SnapFrom, SnapSame}
use Rattle.far_base.specs.declared.party.Party.TheVariants.{Switch, Controller}
use Rattle.far_base.specs.declared.plan.Config.{Config}
use Rattle.far_base.specs.declared.record.Record.{Record}
use Rattle.far_invariants.specs.Flights.{IsFor, subject}
use Rattle.far_model.specs.Members.{Among}
use Rattle.far_model.specs.Pass.{Passed, pass, passed_out, outs_of, dropped, touched, part_of, with_slot, with_taken, changes, absorbing, raised, reply_passes, is_as_before, sent_to}
use Rattle.far_model.specs.View.{SlotView, SwitchView, bind_key, empty_slot, entry_place, held_record, slot_at, unbound}
use Rattle.flight_laws.proofs.Lists.{set_field, by_test}
use Rattle.far_invariants.specs.InFlight.{epoch_in}
use Rattle.far_invariants.specs.Sizes.{IsSizedView}
use Rattle.flight_laws.proofs.Frames.{SameOwners, owners_refl}
use Rattle.flight_laws.proofs.Passes.{admit_cases, changes_cases, entry_within, part_cases, peek_cases, read_cases, remove_cases, reply_cases, start_cases, write_cases, from_cases}

-- what a pass sends beside the answer to its packet
abbrev pub IsSide : SwitchView → Packet → Type 0
IsSide v (Hot key) = Unit {0}
IsSide v (SnapPart id i view) = id ≡ v.snap
IsSide v (SnapSame id i) = id ≡ v.snap
IsSide v _ = ⊥

-- what the controller asks of the switch carries its epoch
abbrev pub carries_epoch : Packet → Bool
carries_epoch (Admit epoch i key tag) = true
carries_epoch (Peek epoch i tag) = true
carries_epoch (Remove epoch i tag latest num) = true
carries_epoch (SnapStart epoch id) = true
carries_epoch (SnapFrom epoch id base) = true
carries_epoch (SnapRead epoch id i) = true
carries_epoch _ = false

pub no_epoch : (p : Packet) → carries_epoch p ≡ false → epoch_in p ≡ 0
no_epoch (Admit epoch i key tag) h = absurd (true≢false h)
no_epoch (Peek epoch i tag) h = absurd (true≢false h)
no_epoch (Remove epoch i tag latest num) h = absurd (true≢false h)
no_epoch (SnapStart epoch id) h = absurd (true≢false h)
no_epoch (SnapFrom epoch id base) h = absurd (true≢false h)
no_epoch (SnapRead epoch id i) h = absurd (true≢false h)
no_epoch _ h = refl

abbrev pub SentOk : SwitchView → Packet → Option Out → Type 0
SentOk v p None = Unit {0}
SentOk v p (Some o) = ((subject o.packet ≡ subject p) ⊎ IsSide v o.packet) × (carries_epoch o.packet ≡ false)

pub record PartsLeave (v : SwitchView) (r : Passed) : Type 0 where
  pub snap : r.view.snap ≡ v.snap
  pub taken : (i : ℕ) → (slice_index_or r.view.taken i 0 ≡ slice_index_or v.taken i 0) ⊎ (slice_index_or r.view.taken i 0 ≡ v.snap)

-- admissions and removals change owners, the start of a snapshot its id
abbrev pub changes_owner : Packet → Bool
changes_owner (Admit epoch i key tag) = true
changes_owner (Remove epoch i tag latest num) = true
changes_owner _ = false

abbrev pub starts : Packet → Bool
starts (SnapStart epoch id) = true
starts (SnapFrom epoch id base) = true
starts _ = false

pub record PassIs (slots : ℕ) (v : SwitchView) (p : Packet) (r : Passed) : Type 0 where
  pub epoch : r.view.epoch ≡ v.epoch
  pub sized : IsSizedView slots r.view
  pub outs : (o : Out) → Among o (passed_out r) → ((subject o.packet ≡ subject p) ⊎ IsSide v o.packet) × (carries_epoch o.packet ≡ false)
  pub owners : changes_owner p ≡ false → SameOwners v r.view
  pub parts : starts p ≡ false → PartsLeave v r

module _ (slots : ℕ) (v : SwitchView) (sized : IsSizedView slots v) where
  sent_each : (p : Packet) (first second : Option Out) → SentOk v p first → SentOk v p second → (o : Out) → Among o (outs_of first ++ outs_of second) → ((subject o.packet ≡ subject p) ⊎ IsSide v o.packet) × (carries_epoch o.packet ≡ false)
  sent_each p None None f g o a = absurd a
  sent_each p None (Some y) f g o (inl e) = subst (λ (w : Out). ((subject w.packet ≡ subject p) ⊎ IsSide v w.packet) × (carries_epoch w.packet ≡ false)) (sym e) g
  sent_each p None (Some y) f g o (inr a) = absurd a
  sent_each p (Some x) None f g o (inl e) = subst (λ (w : Out). ((subject w.packet ≡ subject p) ⊎ IsSide v w.packet) × (carries_epoch w.packet ≡ false)) (sym e) f
  sent_each p (Some x) None f g o (inr a) = absurd a
  sent_each p (Some x) (Some y) f g o (inl e) = subst (λ (w : Out). ((subject w.packet ≡ subject p) ⊎ IsSide v w.packet) × (carries_epoch w.packet ≡ false)) (sym e) f
  sent_each p (Some x) (Some y) f g o (inr (inl e)) = subst (λ (w : Out). ((subject w.packet ≡ subject p) ⊎ IsSide v w.packet) × (carries_epoch w.packet ≡ false)) (sym e) g
  sent_each p (Some x) (Some y) f g o (inr (inr a)) = absurd a

  -- no part is taken
  flat : (p : Packet) (w : SwitchView) (first second : Option Out) → w.epoch ≡ v.epoch → IsSizedView slots w → w.taken ≡ v.taken → (starts p ≡ false → w.snap ≡ v.snap) → (changes_owner p ≡ false → SameOwners v w) → SentOk v p first → SentOk v p second
      → PassIs slots v p (record { view = w; first = first; second = second })
  flat p w first second epoch size taken snap owners f g = record {
    epoch = epoch;
    sized = size;
    outs = sent_each p first second f g;
    owners = owners;
    parts = λ h. record { snap = snap h; taken = λ i. inl (ap (λ l. slice_index_or l i 0) taken) };
  }

  -- the part of slot i is
  taking : (p : Packet) (w : SwitchView) (i : ℕ) (first second : Option Out) → w.epoch ≡ v.epoch → IsSizedView slots w → w.taken ≡ set v.taken i v.snap → w.snap ≡ v.snap → i < length v.taken → (changes_owner p ≡ false → SameOwners v w) → SentOk v p first → SentOk v p second
      → PassIs slots v p (record { view = w; first = first; second = second })
  taking p w i first second epoch size taken snap within owners f g = record {
    epoch = epoch;
    sized = size;
    outs = sent_each p first second f g;
    owners = owners;
    parts = λ h. record { snap = snap; taken = λ j. at j (cases_eq j i) };
  }
    where
      at : (j : ℕ) → (j ≡ i) ⊎ (j ≡ i → ⊥) → (slice_index_or w.taken j 0 ≡ slice_index_or v.taken j 0) ⊎ (slice_index_or w.taken j 0 ≡ v.snap)
      at j (inl e) = inr (ap (λ l. slice_index_or l j 0) taken ∙ ap (λ n. slice_index_or (set v.taken i v.snap) n 0) e ∙ get_or-set_same v.taken i v.snap 0 within)
      at j (inr ne) = inl (ap (λ l. slice_index_or l j 0) taken ∙ get_or-set_other v.taken i j v.snap 0 ne)

  set_size : (w : SwitchView) (i : ℕ) (slot : SlotView) → IsSizedView slots w → IsSizedView slots (with_slot w i slot)
  set_size w i slot h = record { bound = h.bound; slots_there = length-set w.slots i slot ∙ h.slots_there; taken = h.taken }

  taken_size : (w : SwitchView) (i : ℕ) (view : Option Record) → IsSizedView slots w → IsSizedView slots (with_taken w i view)
  taken_size w i view h = record { bound = h.bound; slots_there = h.slots_there; taken = length-set w.taken i w.snap ∙ h.taken }

  set_owners : (n i : ℕ) (slot : SlotView) → slot.valid ≡ (slot_at v i).valid → slot.tag ≡ (slot_at v i).tag → SameOwners v (with_slot (record v { counter = n }) i slot)
  set_owners n i slot e f = record { valid = set_field (λ (x : SlotView). x.valid) v.slots i slot empty_slot e; tag = set_field (λ (x : SlotView). x.tag) v.slots i slot empty_slot f }

  part_ok : (p : Packet) (w : SwitchView) (i : ℕ) → w.snap ≡ v.snap → SentOk v p (part_of w i)
  part_ok p w i e = by_test (λ q. SentOk v p (sent_to Controller q)) (is_as_before w i) (SnapSame w.snap i) (SnapPart w.snap i (held_record (slot_at w i))) (inr e, refl) (inr e, refl)

  changed : (p : Packet) (n i : ℕ) (slot : SlotView) (o : Out) → i < slots → starts p ≡ false → SentOk v p (Some o) → (changes_owner p ≡ false → (slot.valid ≡ (slot_at v i).valid) × (slot.tag ≡ (slot_at v i).tag)) → PassIs slots v p (changes (record v { counter = n }) i slot (Some o))
  changed p n i slot o within st ok same = changes_cases (PassIs slots v p) v (record v { counter = n }) i slot (Some o)
      (λ t. flat p (with_slot (record v { counter = n }) i slot) (Some o) None refl (set_size (record v { counter = n }) i slot (record { bound = sized.bound; slots_there = sized.slots_there; taken = sized.taken })) refl (λ h. refl) (λ h. set_owners n i slot (same h).0 (same h).1) ok tt)
      (λ t. taking p (with_taken (with_slot (record v { counter = n }) i slot) i (held_record (slot_at v i))) i (Some o) (part_of (record v { counter = n }) i) refl
      (taken_size (with_slot (record v { counter = n }) i slot) i (held_record (slot_at v i)) (set_size (record v { counter = n }) i slot (record { bound = sized.bound; slots_there = sized.slots_there; taken = sized.taken })))
      refl refl (let e = sized.taken in omega (arith, within, e)) (λ h. let w = set_owners n i slot (same h).0 (same h).1 in record { valid = w.valid; tag = w.tag }) ok (part_ok p (record v { counter = n }) i refl))

  gone : (p : Packet) → PassIs slots v p (dropped v)
  gone p = flat p v None None refl sized refl (λ h. refl) (λ h. owners_refl v) tt tt

  touched_is : (p : Packet) (n : ℕ) (key : List ℕ) (first second : Option Out) → SentOk v p first → SentOk v p second → PassIs slots v p (record { view = touched key (record v { counter = n }); first = first; second = second })
  touched_is p n key first second f g = flat p (touched key (record v { counter = n })) first second refl (record { bound = sized.bound; slots_there = sized.slots_there; taken = sized.taken }) refl (λ h. refl) (λ h. record { valid = λ i. refl; tag = λ i. refl }) f g

  raised_valid : (num : ℕ) (slot : SlotView) → ((raised num slot).valid ≡ slot.valid) × ((raised num slot).tag ≡ slot.tag)
  raised_valid num slot = go slot.latest
    where
      go : (b : Bool) → ((cond b slot (record slot { num = max slot.num num })).valid ≡ slot.valid) × ((cond b slot (record slot { num = max slot.num num })).tag ≡ slot.tag)
      go true = (refl, refl)
      go false = (refl, refl)

  entry_slot : (key : List ℕ) (i : ℕ) → entry_place key v ≡ Some i → i < slots
  entry_slot key i e = let w = entry_within key v i e in let l = sized.slots_there in omega (arith, w, l)

  replied : (p : Packet) (tag : Option ℕ) (num : ℕ) (body : Option (List ℕ)) (key : List ℕ) (o : Out) → starts p ≡ false → SentOk v p (Some o) → PassIs slots v p (reply_passes v tag num body (Some o) (entry_place key v))
  replied p tag num body key o st ok = reply_cases (PassIs slots v p) v tag num body key (Some o)
      (flat p v (Some o) None refl sized refl (λ h. refl) (λ h. owners_refl v) ok tt)
      (λ i e. changed p v.counter i (absorbing num body (slot_at v i)) o (entry_slot key i e) st ok (λ h. (refl, refl)))
      (λ i e. flat p (with_slot v i (raised num (slot_at v i))) (Some o) None refl (set_size v i (raised num (slot_at v i)) sized) refl (λ h. refl) (λ h. set_owners v.counter i (raised num (slot_at v i)) (raised_valid num (slot_at v i)).0 (raised_valid num (slot_at v i)).1) ok tt)

  bound_size : (key : List ℕ) (i : ℕ) → length (bind_key key i v.bound) ≡ slots
  bound_size key i = length-set (map (unbound key) v.bound) i (Some key) ∙ length-map v.bound (unbound key) ∙ sized.bound

  pub pass_is : (config : Config) (p : Packet) → v.config.slots ≡ slots → IsFor config p Switch → PassIs slots v p (pass v p)
  pass_is config (GetReq caller op key) same goes = read_cases (PassIs slots v (GetReq caller op key)) v caller op key
      (λ i. flat (GetReq caller op key) v _ None refl sized refl (λ h. refl) (λ h. owners_refl v) (inl refl, refl) tt)
      (λ i. flat (GetReq caller op key) v _ None refl sized refl (λ h. refl) (λ h. owners_refl v) (inl refl, refl) tt)
      (touched_is (GetReq caller op key) v.counter key _ _ (inl refl, refl) (inr tt, refl))
      (touched_is (GetReq caller op key) v.counter key _ None (inl refl, refl) tt)
  pass_is config (WriteReq caller op key body) same goes = write_cases (PassIs slots v (WriteReq caller op key body)) v caller op key body
      (λ i e. changed (WriteReq caller op key body) (v.counter + 1) i _ _ (entry_slot key i e) refl (inl refl, refl) (λ h. (refl, refl)))
      (touched_is (WriteReq caller op key body) (v.counter + 1) key _ _ (inl refl, refl) (inr tt, refl))
      (touched_is (WriteReq caller op key body) (v.counter + 1) key _ None (inl refl, refl) tt)
  pass_is config (GetRep caller op key tag num body) same goes = replied (GetRep caller op key tag num body) (Some tag) num body key _ refl (inl refl, refl)
  pass_is config (WriteRep caller op key num body) same goes = replied (WriteRep caller op key num body) None num body key _ refl (inl refl, refl)
  pass_is config (Admit epoch i key tag) same goes = admit_cases (PassIs slots v (Admit epoch i key tag)) v epoch i key tag
      (λ e w off. flat (Admit epoch i key tag) (with_slot (record v { bound = bind_key key i v.bound }) i _) _ None refl (set_size (record v { bound = bind_key key i v.bound }) i _ (record { bound = bound_size key i; slots_there = sized.slots_there; taken = sized.taken })) refl (λ h. refl) (λ h. absurd (true≢false h)) (inl refl, refl) tt)
      (λ e w on. flat (Admit epoch i key tag) (with_slot (record v { bound = bind_key key i v.bound }) i (slot_at v i)) None None refl (set_size (record v { bound = bind_key key i v.bound }) i (slot_at v i) (record { bound = bound_size key i; slots_there = sized.slots_there; taken = sized.taken })) refl (λ h. refl) (λ h. absurd (true≢false h)) tt tt)
      (λ z. gone (Admit epoch i key tag))
  pass_is config (Peek epoch i tag) same goes = peek_cases (PassIs slots v (Peek epoch i tag)) v epoch i tag
      (λ e w. flat (Peek epoch i tag) v _ None refl sized refl (λ h. refl) (λ h. owners_refl v) (inl refl, refl) tt)
      (λ e w. flat (Peek epoch i tag) v _ None refl sized refl (λ h. refl) (λ h. owners_refl v) (inl refl, refl) tt)
      (λ z. gone (Peek epoch i tag))
  pass_is config (Remove epoch i tag latest num) same goes = remove_cases (PassIs slots v (Remove epoch i tag latest num)) v epoch i tag latest num
      (λ e w u. changed (Remove epoch i tag latest num) v.counter i empty_slot _ (omega (arith, w, same)) refl (inl refl, refl) (λ h. absurd (true≢false h)))
      (λ e w u. flat (Remove epoch i tag latest num) (with_slot v i empty_slot) _ None refl (set_size v i empty_slot sized) refl (λ h. refl) (λ h. absurd (true≢false h)) (inl refl, refl) tt)
      (λ e w. flat (Remove epoch i tag latest num) v _ None refl sized refl (λ h. refl) (λ h. owners_refl v) (inl refl, refl) tt)
      (λ e w. flat (Remove epoch i tag latest num) v _ None refl sized refl (λ h. refl) (λ h. owners_refl v) (inl refl, refl) tt)
      (λ z. gone (Remove epoch i tag latest num))
  pass_is config (SnapStart epoch id) same goes = start_cases (PassIs slots v (SnapStart epoch id)) v epoch id
      (λ e. flat (SnapStart epoch id) (record v { snap = id; base = 0 }) _ None refl (record { bound = sized.bound; slots_there = sized.slots_there; taken = sized.taken }) refl (λ h. absurd (true≢false h)) (λ h. record { valid = λ j. refl; tag = λ j. refl }) (inl refl, refl) tt)
      (λ z. gone (SnapStart epoch id))
  pass_is config (SnapFrom epoch id base) same goes = from_cases (PassIs slots v (SnapFrom epoch id base)) v epoch id base
      (λ e. flat (SnapFrom epoch id base) (record v { snap = id; base = base }) _ None refl (record { bound = sized.bound; slots_there = sized.slots_there; taken = sized.taken }) refl (λ h. absurd (true≢false h)) (λ h. record { valid = λ j. refl; tag = λ j. refl }) (inl refl, refl) tt)
      (λ z. gone (SnapFrom epoch id base))
  pass_is config (SnapSame id i) same goes = gone (SnapSame id i)
  pass_is config (SnapRead epoch id i) same goes = part_cases (PassIs slots v (SnapRead epoch id i)) v epoch id i
      (λ e w k t. taking (SnapRead epoch id i) (with_taken v i (held_record (slot_at v i))) i (part_of v i) None refl (taken_size v i (held_record (slot_at v i)) sized) refl refl (let l = sized.taken in omega (arith, w, same, l)) (λ h. record { valid = λ j. refl; tag = λ j. refl }) (part_ok (SnapRead epoch id i) v i refl) tt)
      (λ e k t. gone (SnapRead epoch id i)) (λ z. gone (SnapRead epoch id i))
  pass_is config (Release point) same goes = gone (Release point)
  pass_is config (Ask round) same goes = gone (Ask round)
  pass_is config (TopAsk round) same goes = gone (TopAsk round)
  pass_is config (Hot key) same goes = gone (Hot key)
  pass_is config (AdmitAck i tag) same goes = gone (AdmitAck i tag)
  pass_is config (PeekAns i tag latest num body) same goes = gone (PeekAns i tag latest num body)
  pass_is config (RemoveAns i tag done latest num body) same goes = gone (RemoveAns i tag done latest num body)
  pass_is config (SnapBegun id point) same goes = gone (SnapBegun id point)
  pass_is config (SnapPart id i view) same goes = gone (SnapPart id i view)
  pass_is config (Store job item) same goes = gone (Store job item)
  pass_is config (Stored job) same goes = gone (Stored job)
  pass_is config (Told round caller total item) same goes = gone (Told round caller total item)
  pass_is config (TopIs round server top) same goes = gone (TopIs round server top)
  pass_is config (GetFwd caller op key tag) same goes = gone (GetFwd caller op key tag)
  pass_is config (WriteFwd caller op key num body) same goes = gone (WriteFwd caller op key num body)
  pass_is config (GetAns caller op key num body near) same goes = gone (GetAns caller op key num body near)
  pass_is config (WriteAns caller op key num kept) same goes = gone (WriteAns caller op key num kept)

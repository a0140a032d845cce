-- No number is above the count of the numbers drawn.
use Rattle.std.proofs.Common.{◌≡◌, ℕ, ◌+◌, ◌≤◌, inl, inr, Bool, true, false, cond, max, List, [], ◌∷◌, ◌++◌, get_or, set, refl, sym, subst, arith, le_trans}
use Rattle.std.specs.Prelude.{Option, None, Some, filter}
use Rattle.far_base.specs.declared.packet.Out.{Out}
use Rattle.far_base.specs.declared.packet.Packet.{Packet}
use Rattle.far_base.specs.declared.packet.Packet.TheVariants.{GetReq, WriteReq, GetRep, WriteRep, Admit, Peek, Remove, SnapStart, SnapRead, SnapFrom, SnapSame, SnapPart}
use Rattle.far_base.specs.declared.record.Record.{Record}
use Rattle.far_model.specs.KeyedRecords.{put_record}
use Rattle.far_model.specs.Log.{same_key}
use Rattle.far_model.specs.Members.{Among, Each}
use Rattle.far_model.specs.Pass.{Passed, absorbing, changes, dropped, numbered, pass, passed_out, part_of, raised, reply_passes, outs_of, touched, with_slot, with_taken, part_packet, is_as_before}
use Rattle.far_model.specs.View.{Mark, SlotView, SwitchView, empty_slot, entry_place, held_record, mark_of, slot_at, keyed_record}
use Rattle.flight_laws.proofs.Lists.{all_set, by_test}
use Rattle.far_invariants.specs.DrawnNumbers.{MarksWithin, RecordsWithin, mark_number, number_in, number_of}
use Rattle.flight_laws.proofs.Passes.{admit_cases, changes_cases, part_cases, peek_cases, read_cases, remove_cases, reply_cases, start_cases, write_cases, from_cases}

-- ---- a pass

pub record PassWithin (n : ℕ) (r : Passed) : Type 0 where
  pub counter : r.view.counter ≤ n
  pub slots : (i : ℕ) → (slot_at r.view i).num ≤ n
  pub marks : MarksWithin n r.view
  pub outs : (o : Out) → Among o (passed_out r) → number_in o.packet ≤ n

abbrev pub is_write : Packet → Bool
is_write (WriteReq caller op key body) = true
is_write _ = false

module _ (n : ℕ) (v : SwitchView) (counter : v.counter ≤ n) (slots : (i : ℕ) → (slot_at v i).num ≤ n) (marks : MarksWithin n v) where
  abbrev SentWithin : Option Out → Type 0
  SentWithin None = Unit {0}
  SentWithin (Some o) = number_in o.packet ≤ n

  sent_within : (first second : Option Out) → SentWithin first → SentWithin second → (o : Out) → Among o (outs_of first ++ outs_of second) → number_in o.packet ≤ n
  sent_within None None f g o a = absurd a
  sent_within None (Some y) f g o (inl e) = subst (λ (w : Out). number_in w.packet ≤ n) (sym e) g
  sent_within None (Some y) f g o (inr a) = absurd a
  sent_within (Some x) None f g o (inl e) = subst (λ (w : Out). number_in w.packet ≤ n) (sym e) f
  sent_within (Some x) None f g o (inr a) = absurd a
  sent_within (Some x) (Some y) f g o (inl e) = subst (λ (w : Out). number_in w.packet ≤ n) (sym e) f
  sent_within (Some x) (Some y) f g o (inr (inl e)) = subst (λ (w : Out). number_in w.packet ≤ n) (sym e) g
  sent_within (Some x) (Some y) f g o (inr (inr a)) = absurd a

  same_slots : (w : SwitchView) (first second : Option Out) → w.counter ≤ n → w.slots ≡ v.slots → MarksWithin n w → SentWithin first → SentWithin second → PassWithin n (record { view = w; first = first; second = second })
  same_slots w first second c e m f g = record { counter = c; marks = m; slots = λ i. subst (λ l. (get_or l i empty_slot).num ≤ n) (sym e) (slots i); outs = sent_within first second f g }

  set_slot : (w : SwitchView) (i : ℕ) (slot : SlotView) (first second : Option Out) → w.counter ≤ n → w.slots ≡ set v.slots i slot → MarksWithin n w → slot.num ≤ n → SentWithin first → SentWithin second → PassWithin n (record { view = w; first = first; second = second })
  set_slot w i slot first second c e m b f g = record {
    counter = c;
    marks = m;
    slots = λ j. subst (λ l. (get_or l j empty_slot).num ≤ n) (sym e) (all_set (λ (x : SlotView). x.num ≤ n) v.slots i slot empty_slot b slots j);
    outs = sent_within first second f g;
  }

  held_within : (slot : SlotView) → slot.num ≤ n → number_of (held_record slot) ≤ n
  held_within slot b = go slot.latest slot.key
    where
      go : (l : Bool) (k : Option (List ℕ)) → number_of (cond l (keyed_record k slot.num slot.body) None) ≤ n
      go true None = omega arith
      go true (Some key) = b
      go false k = omega arith

  part_within : (u : SwitchView) (i : ℕ) → number_of (held_record (slot_at u i)) ≤ n → number_in (part_packet u i) ≤ n
  part_within u i b = by_test (λ p. number_in p ≤ n) (is_as_before u i) (SnapSame u.snap i) (SnapPart u.snap i (held_record (slot_at u i))) (omega arith) b

  mark_within : (o : Option Record) → number_of o ≤ n → mark_number (mark_of o) ≤ n
  mark_within None b = b
  mark_within (Some r) b = b

  marked : (i j : ℕ) → mark_number (get_or (set v.shown i (mark_of (held_record (slot_at v i)))) j None) ≤ n
  marked i = all_set (λ (m : Option Mark). mark_number m ≤ n) v.shown i (mark_of (held_record (slot_at v i))) None (mark_within (held_record (slot_at v i)) (held_within (slot_at v i) (slots i))) marks

  changed : (c i : ℕ) (slot : SlotView) (o : Out) → c ≤ n → slot.num ≤ n → number_in o.packet ≤ n → PassWithin n (changes (record v { counter = c }) i slot (Some o))
  changed c i slot o le b f = changes_cases (PassWithin n) v (record v { counter = c }) i slot (Some o)
      (λ t. set_slot (with_slot (record v { counter = c }) i slot) i slot (Some o) None le refl marks b f tt)
      (λ t. set_slot (with_taken (with_slot (record v { counter = c }) i slot) i (held_record (slot_at v i))) i slot (Some o) (part_of (record v { counter = c }) i) le refl (marked i) b f (part_within (record v { counter = c }) i (held_within (slot_at v i) (slots i))))

  raised_within : (num : ℕ) (slot : SlotView) → num ≤ n → slot.num ≤ n → (raised num slot).num ≤ n
  raised_within num slot a b = go slot.latest
    where
      go : (l : Bool) → (cond l slot (record slot { num = max slot.num num })).num ≤ n
      go true = b
      go false = omega (arith, a, b)

  replied : (tag : Option ℕ) (num : ℕ) (body : Option (List ℕ)) (key : List ℕ) (o : Out) → num ≤ n → number_in o.packet ≤ n → PassWithin n (reply_passes v tag num body (Some o) (entry_place key v))
  replied tag num body key o a f = reply_cases (PassWithin n) v tag num body key (Some o)
      (same_slots v (Some o) None counter refl marks f tt)
      (λ i e. changed v.counter i (absorbing num body (slot_at v i)) o counter a f)
      (λ i e. set_slot (with_slot v i (raised num (slot_at v i))) i (raised num (slot_at v i)) (Some o) None counter refl marks (raised_within num (slot_at v i) a (slots i)) f tt)

  gone : PassWithin n (dropped v)
  gone = same_slots v None None counter refl marks tt tt

  pub pass_within : (p : Packet) → number_in p ≤ n → (is_write p ≡ true → v.counter + 1 ≤ n) → PassWithin n (pass v p)
  pass_within (GetReq caller op key) b w = read_cases (PassWithin n) v caller op key
      (λ i. same_slots v _ None counter refl marks (slots i) tt) (λ i. same_slots v _ None counter refl marks (omega arith) tt)
      (same_slots (touched key v) _ _ counter refl marks (omega arith) (omega arith)) (same_slots (touched key v) _ None counter refl marks (omega arith) tt)
  pass_within (WriteReq caller op key body) b w = write_cases (PassWithin n) v caller op key body
      (λ i e. changed (v.counter + 1) i (absorbing (v.counter + 1) body (slot_at v i)) _ (w refl) (w refl) (w refl))
      (same_slots (touched key (numbered v)) _ _ (w refl) refl marks (w refl) (omega arith)) (same_slots (touched key (numbered v)) _ None (w refl) refl marks (w refl) tt)
  pass_within (GetRep caller op key tag num body) b w = replied (Some tag) num body key _ b b
  pass_within (WriteRep caller op key num body) b w = replied None num body key _ b b
  pass_within (Admit epoch i key tag) b w = admit_cases (PassWithin n) v epoch i key tag
      (λ e x off. set_slot (with_slot (record v { bound = Rattle.far_model.specs.View.bind_key key i v.bound }) i (record { key = Some key; tag = tag; valid = true; latest = false; num = 0; body = None })) i (record { key = Some key; tag = tag; valid = true; latest = false; num = 0; body = None }) _ None counter refl marks (omega arith) (omega arith) tt)
      (λ e x on. set_slot (with_slot (record v { bound = Rattle.far_model.specs.View.bind_key key i v.bound }) i (slot_at v i)) i (slot_at v i) None None counter refl marks (slots i) tt tt)
      (λ z. gone)
  pass_within (Peek epoch i tag) b w = peek_cases (PassWithin n) v epoch i tag (λ e x. same_slots v _ None counter refl marks (slots i) tt) (λ e x. same_slots v _ None counter refl marks (omega arith) tt) (λ z. gone)
  pass_within (Remove epoch i tag latest num) b w = remove_cases (PassWithin n) v epoch i tag latest num
      (λ e x u. changed v.counter i empty_slot _ counter (omega arith) (slots i))
      (λ e x u. set_slot (with_slot v i empty_slot) i empty_slot _ None counter refl marks (omega arith) (slots i) tt)
      (λ e x. same_slots v _ None counter refl marks (slots i) tt) (λ e x. same_slots v _ None counter refl marks (omega arith) tt) (λ z. gone)
  pass_within (SnapStart epoch id) b w = start_cases (PassWithin n) v epoch id (λ e. same_slots (record v { snap = id; base = 0 }) _ None counter refl marks counter tt) (λ z. gone)
  pass_within (SnapFrom epoch id base) b w = from_cases (PassWithin n) v epoch id base (λ e. same_slots (record v { snap = id; base = base }) _ None counter refl marks counter tt) (λ z. gone)
  pass_within (SnapRead epoch id i) b w = part_cases (PassWithin n) v epoch id i (λ e x k t. same_slots (with_taken v i (held_record (slot_at v i))) (part_of v i) None counter refl (marked i) (part_within v i (held_within (slot_at v i) (slots i))) tt) (λ e k t. gone) (λ z. gone)
  pass_within _ b w = gone

-- ---- records

pub put_within : (n : ℕ) (r : Record) (records : List Record) → r.num ≤ n → RecordsWithin n records → RecordsWithin n (put_record r records)
put_within n r [] b h = (b, tt)
put_within n r (x ∷ xs) b h = go (same_key x.key r.key) (put_within n r xs b h.1)
  where
    go : (c : Bool) → RecordsWithin n (put_record r xs) → RecordsWithin n (cond c (r ∷ xs) (x ∷ put_record r xs))
    go true m = (b, h.1)
    go false m = (h.0, m)

pub filter_within : (n : ℕ) (p : Record → Bool) (records : List Record) → RecordsWithin n records → RecordsWithin n (filter p records)
filter_within n p [] h = tt
filter_within n p (x ∷ xs) h = go (p x) (filter_within n p xs h.1)
  where
    go : (c : Bool) → RecordsWithin n (filter p xs) → RecordsWithin n (cond c (x ∷ filter p xs) (filter p xs))
    go true m = (h.0, m)
    go false m = m

pub each_more : {A : Type 0} (f : A → ℕ) (n m : ℕ) (xs : List A) → n ≤ m → Each (λ x. f x ≤ n) xs → Each (λ x. f x ≤ m) xs
each_more f n m [] b h = tt
each_more f n m (x ∷ xs) b h = (le_trans h.0 b, each_more f n m xs b h.1)

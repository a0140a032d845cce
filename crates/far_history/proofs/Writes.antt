-- The entries that the walk over the history leaves are the last writes by key.
use Rattle.far_base.specs.declared.record.Versioned.{Versioned}
use Rattle.far_history.specs.declared.last_writes.Written.{Written}
use Rattle.std.proofs.Common.{◌≡◌, ◌≢◌, ℕ, Bool, true, false, List, [], ◌∷◌, map, refl, sym, ap, subst, inl, inr, Option, None, Some, ◌∙◌}
use Rattle.std.specs.Prelude.{if◌then◌else◌, slice_index_or}
use Rattle.std.specs.declared.cmp.Ordering.{Ordering}
use Rattle.std.specs.declared.cmp.Ordering.TheVariants.{Less, Equal, Greater}
use Rattle.std.specs.Ordering.{nat_cmp, ordering_reverse, match_ordering}
use Rattle.std.specs.Cmp.Lexicographic.{slice_cmp, nat_list_cmp_total}
use Rattle.std.specs.FinMap.{nat_cmp-IsAntisymmetric, slice_cmp-IsAntisymmetric}
use Rattle.std.specs.BTreeMap.{insert_entry}
use Rattle.far_base.specs.declared.plan.OpLine.{OpLine}
use Rattle.far_base.specs.declared.record.Record.{Record}
use Rattle.far_base.specs.declared.log.LogLine.{LogLine}
use Rattle.far_base.specs.declared.log.Placed.{Placed}
use Rattle.far_model.specs.Members.{Among, Each, Pairs}
use Rattle.far_model.specs.Log.{At, same_key, sending}
use Rattle.far_model.specs.History.{IsPlace, IsHistory, key_of, written_by, last_write, held_in, IsKeyBefore, IsFinalMap}
use Rattle.far_history.specs.declared.told.Sending.{Sending}
use Rattle.far_history.specs.declared.told.Told.{Told}
use Rattle.far_history.specs.Stored.{body_in}
use Rattle.far_history.specs.Told.{unheard, op_told, sending_told, IsRow}
use Rattle.far_history.specs.LastWrites.{with_write, entries_with, entries_after, record_of}
use Rattle.far_history.proofs.Keys.{same_key_tells}
use Rattle.far_history.proofs.Lists.{each_among}
use Rattle.far_history.proofs.Orders.{key_self}

abbrev Entry : Type 0
Entry = List ℕ × Written

abbrev cmp : List ℕ → List ℕ → Ordering
cmp = slice_cmp nat_cmp

data Compared (a b : List ℕ) : Type 0 where
  below : cmp a b ≡ Less → Compared a b
  same : cmp a b ≡ Equal → a ≡ b → Compared a b
  above : cmp a b ≡ Greater → cmp b a ≡ Less → Compared a b

compared_as : (a b : List ℕ) (o : Ordering) → cmp a b ≡ o → Compared a b
compared_as a b Less e = below e
compared_as a b Equal e = same e (slice_cmp-IsAntisymmetric nat_cmp-IsAntisymmetric a b e)
compared_as a b Greater e = above e (nat_list_cmp_total.antisymm b a ∙ ap ordering_reverse e)

compared : (a b : List ℕ) → Compared a b
compared a b = compared_as a b (cmp a b) refl

apart : (a b : List ℕ) → cmp a b ≡ Less → a ≢ b
apart a b l e = let z : cmp a b ≡ Equal = key_self a b e in cc

-- ---- entries by rising keys

abbrev Rise : Entry → Entry → Type 0
Rise a b = cmp a.0 b.0 ≡ Less

each_inserted : (x : List ℕ) (es : List Entry) (k : List ℕ) (v : Written) → Each (λ (e : Entry). cmp x e.0 ≡ Less) es → cmp x k ≡ Less → Each (λ (e : Entry). cmp x e.0 ≡ Less) (insert_entry cmp es k v)
each_inserted x [] k v h l = (l, tt)
each_inserted x (e ∷ es) k v h l =
    let P : Ordering → Type 0 = λ o. Each (λ (e : Entry). cmp x e.0 ≡ Less) (match_ordering o ((k, v) ∷ e ∷ es) ((e.0, v) ∷ es) (e ∷ insert_entry cmp es k v)) in
    elim (compared k e.0) [
      | below b ↦ subst P (sym b) (l, (h.0, h.1))
      | same b s ↦ subst P (sym b) (h.0, h.1)
      | above b a ↦ subst P (sym b) (h.0, each_inserted x es k v h.1 l)
    ]

each_below : (x y : List ℕ) (es : List Entry) → cmp x y ≡ Less → Each (λ (e : Entry). cmp y e.0 ≡ Less) es → Each (λ (e : Entry). cmp x e.0 ≡ Less) es
each_below x y [] l h = tt
each_below x y (e ∷ es) l h = (nat_list_cmp_total.trans x y e.0 l h.0, each_below x y es l h.1)

rise_inserted : (es : List Entry) (k : List ℕ) (v : Written) → Pairs Rise es → Pairs Rise (insert_entry cmp es k v)
rise_inserted [] k v h = (tt, tt)
rise_inserted (e ∷ es) k v h =
    let P : Ordering → Type 0 = λ o. Pairs Rise (match_ordering o ((k, v) ∷ e ∷ es) ((e.0, v) ∷ es) (e ∷ insert_entry cmp es k v)) in
    elim (compared k e.0) [
      | below b ↦ subst P (sym b) ((b, each_below k e.0 es b h.0), (h.0, h.1))
      | same b s ↦ subst P (sym b) (h.0, h.1)
      | above b a ↦ subst P (sym b) (each_inserted e.0 es k v h.0 a, rise_inserted es k v h.1)
    ]

rise_with : (es : List Entry) (num : ℕ) (sent : Option Sending) → Pairs Rise es → Pairs Rise (with_write es num sent)
rise_with es num None h = h
rise_with es num (Some s) h = rise_inserted es s.line.key (record { num = num; body = s.body }) h

rise_once : (table : List Told) (es : List Entry) (p : Placed) (b : Bool) → Pairs Rise es → Pairs Rise (if b then es else with_write es p.num (slice_index_or table p.op unheard).sent)
rise_once table es p true h = h
rise_once table es p false h = rise_with es p.num (slice_index_or table p.op unheard).sent h

rise_after : (table : List Told) (es : List Entry) (ps : List Placed) → Pairs Rise es → Pairs Rise (entries_after table es ps)
rise_after table es [] h = h
rise_after table es (p ∷ ps) h = rise_after table (entries_with table es p) ps (rise_once table es p p.read h)

-- ---- what the entries have for a key

abbrev found : List ℕ → List Entry → Option Written
found q [] = None
found q (e ∷ es) = if same_key q e.0 then Some e.1 else found q es

same_if : {X : Type 0} (q k : List ℕ) (a b : X) → q ≡ k → (if same_key q k then a else b) ≡ a
same_if q k a b s = elim (same_key_tells q k) [ inl e ↦ rw e.0 refl | inr e ↦ absurd (e.1 s) ]

other_if : {X : Type 0} (q k : List ℕ) (a b : X) → q ≢ k → (if same_key q k then a else b) ≡ b
other_if q k a b ne = elim (same_key_tells q k) [ inl e ↦ absurd (ne e.1) | inr e ↦ rw e.0 refl ]

found_inserted : (q : List ℕ) (es : List Entry) (k : List ℕ) (v : Written) → found q (insert_entry cmp es k v) ≡ (if same_key q k then Some v else found q es)
found_inserted q [] k v = refl
found_inserted q (e ∷ es) k v =
    let P : Ordering → Type 0 = λ o. found q (match_ordering o ((k, v) ∷ e ∷ es) ((e.0, v) ∷ es) (e ∷ insert_entry cmp es k v)) ≡ (if same_key q k then Some v else found q (e ∷ es)) in
    elim (compared k e.0) [
      | below b ↦ subst P (sym b) refl
      | same b s ↦ subst P (sym b) (subst (λ (x : List ℕ). (if same_key q x then Some v else found q es) ≡ (if same_key q k then Some v else (if same_key q x then Some e.1 else found q es))) s (twice (same_key q k)))
      | above b a ↦ subst P (sym b) (
          elim (same_key_tells q k) [
            | inl i ↦ let ne : q ≢ e.0 = λ z. apart e.0 k a (sym z ∙ i.1) in
                other_if q e.0 (Some e.1) (found q (insert_entry cmp es k v)) ne ∙ (found_inserted q es k v ∙ (same_if q k (Some v) (found q es) i.1 ∙ sym (same_if q k (Some v) (found q (e ∷ es)) i.1)))
            | inr i ↦ rw (found_inserted q es k v, i.0) refl
          ])
    ] where
      twice : (b : Bool) → (if b then Some v else found q es) ≡ (if b then Some v else (if b then Some e.1 else found q es))
      twice true = refl
      twice false = refl

abbrev held_of : List ℕ → Option Written → Option Versioned
held_of bytes None = None
held_of bytes (Some w) = Some (record { num = w.num; body = body_in bytes w.body })

-- a place of an operation whose row says what it does
record IsSentAs (bytes : List ℕ) (lines : List LogLine) (table : List Told) (p : Placed) : Type 0 where
  sent : Sending
  row : (slice_index_or table p.op unheard).sent ≡ Some sent
  first : sending lines p.op ≡ Some (record { moment = sent.moment; what = op_told bytes sent })

sent_as : (bytes : List ℕ) (o : Option Sending) (lines : List LogLine) (table : List Told) (p : Placed) (t : At OpLine) → (slice_index_or table p.op unheard).sent ≡ o → sending_told bytes o ≡ sending lines p.op → sending lines p.op ≡ Some t → IsSentAs bytes lines table p
sent_as bytes None lines table p t e f g = absurd cc
sent_as bytes (Some s) lines table p t e f g = record { sent = s; row = e; first = sym f }

is_sent_as : (bytes : List ℕ) (lines : List LogLine) (table : List Told) → ((op : ℕ) → IsRow bytes lines op (slice_index_or table op unheard)) → (p : Placed) → IsPlace lines p → IsSentAs bytes lines table p
is_sent_as bytes lines table rows p i = sent_as bytes (slice_index_or table p.op unheard).sent lines table p i.sent refl (rows p.op).sent i.first

-- the last write after one more operation
abbrev next_last : List LogLine → List ℕ → Option Versioned → Placed → Option Versioned
next_last lines q last p = if p.read then last else (if same_key q (key_of lines p.op) then Some (written_by lines p) else last)

held_if : (bytes : List ℕ) (b : Bool) (w : Written) (o : Option Written) → held_of bytes (if b then Some w else o) ≡ (if b then Some (record { num = w.num; body = body_in bytes w.body }) else held_of bytes o)
held_if bytes true w o = refl
held_if bytes false w o = refl

next_write : (bytes : List ℕ) (lines : List LogLine) (table : List Told) (es : List Entry) (p : Placed) (q : List ℕ) (s : IsSentAs bytes lines table p)
    → held_of bytes (found q (with_write es p.num (slice_index_or table p.op unheard).sent)) ≡ (if same_key q (key_of lines p.op) then Some (written_by lines p) else held_of bytes (found q es))
next_write bytes lines table es p q s =
    let w : Written = record { num = p.num; body = s.sent.body } in
    let a : held_of bytes (found q (with_write es p.num (slice_index_or table p.op unheard).sent)) ≡ held_of bytes (found q (insert_entry cmp es s.sent.line.key w)) = rw s.row refl in
    let b : held_of bytes (found q (insert_entry cmp es s.sent.line.key w)) ≡ held_of bytes (if same_key q s.sent.line.key then Some w else found q es) = ap (held_of bytes) (found_inserted q es s.sent.line.key w) in
    let d : (if same_key q (key_of lines p.op) then Some (written_by lines p) else held_of bytes (found q es)) ≡ (if same_key q s.sent.line.key then Some (record { num = p.num; body = body_in bytes s.sent.body }) else held_of bytes (found q es)) = rw s.first refl in
    a ∙ (b ∙ (held_if bytes (same_key q s.sent.line.key) w (found q es) ∙ sym d))

next_found : (bytes : List ℕ) (lines : List LogLine) (table : List Told) (es : List Entry) (p : Placed) (q : List ℕ) (s : IsSentAs bytes lines table p) (b : Bool)
    → held_of bytes (found q (if b then es else with_write es p.num (slice_index_or table p.op unheard).sent)) ≡ (if b then held_of bytes (found q es) else (if same_key q (key_of lines p.op) then Some (written_by lines p) else held_of bytes (found q es)))
next_found bytes lines table es p q s true = refl
next_found bytes lines table es p q s false = next_write bytes lines table es p q s

found_after : (bytes : List ℕ) (lines : List LogLine) (table : List Told) (es : List Entry) (ps : List Placed) (q : List ℕ) → ((p : Placed) → Among p ps → IsSentAs bytes lines table p)
    → held_of bytes (found q (entries_after table es ps)) ≡ last_write lines q (held_of bytes (found q es)) ps
found_after bytes lines table es [] q h = refl
found_after bytes lines table es (p ∷ ps) q h =
    found_after bytes lines table (entries_with table es p) ps q (λ x a. h x (inr a))
    ∙ ap (λ (o : Option Versioned). last_write lines q o ps) (next_found bytes lines table es p q (h p (inl refl)) p.read)

-- ---- the records of the entries

each_record : (bytes : List ℕ) (e : Entry) (es : List Entry) → Each (Rise e) es → Each (IsKeyBefore (record_of bytes e)) (map (record_of bytes) es)
each_record bytes e [] h = tt
each_record bytes e (x ∷ es) h = (h.0, each_record bytes e es h.1)

records_rise : (bytes : List ℕ) (es : List Entry) → Pairs Rise es → Pairs IsKeyBefore (map (record_of bytes) es)
records_rise bytes [] h = tt
records_rise bytes (e ∷ es) h = (each_record bytes e es h.0, records_rise bytes es h.1)

record_found : (bytes : List ℕ) (es : List Entry) → Pairs Rise es → (r : Record) → Among r (map (record_of bytes) es) → held_of bytes (found r.key es) ≡ Some (held_in r)
record_found bytes [] h r a = absurd a
record_found bytes (e ∷ es) h r (inl i) =
    subst (λ (x : Record). held_of bytes (found x.key (e ∷ es)) ≡ Some (held_in x)) (sym i) (ap (held_of bytes) (same_if e.0 e.0 (Some e.1) (found e.0 es) refl))
record_found bytes (e ∷ es) h r (inr a) =
    let l : cmp e.0 r.key ≡ Less = each_among (IsKeyBefore (record_of bytes e)) (map (record_of bytes) es) (each_record bytes e es h.0) r a in
    ap (held_of bytes) (other_if r.key e.0 (Some e.1) (found r.key es) (λ z. apart e.0 r.key l (sym z))) ∙ record_found bytes es h.1 r a

abbrev with_held : List ℕ → Versioned → Record
with_held key held = record { key = key; num = held.num; body = held.body }

same_record : (a b : List ℕ) (x y : Versioned) → a ≡ b → x ≡ y → with_held a x ≡ with_held b y
same_record a b x y e f = cc

found_record : (bytes : List ℕ) (es : List Entry) (r : Record) → held_of bytes (found r.key es) ≡ Some (held_in r) → Among r (map (record_of bytes) es)
found_record bytes [] r h = absurd cc
found_record bytes (e ∷ es) r h =
    elim (same_key_tells r.key e.0) [
      | inl i ↦
          let z : held_of bytes (found r.key (e ∷ es)) ≡ Some (record { num = e.1.num; body = body_in bytes e.1.body }) = ap (held_of bytes) (same_if r.key e.0 (Some e.1) (found r.key es) i.1) in
          let y : held_in r ≡ record { num = e.1.num; body = body_in bytes e.1.body } = cc in
          inl (same_record r.key e.0 (held_in r) (record { num = e.1.num; body = body_in bytes e.1.body }) i.1 y)
      | inr i ↦ inr (found_record bytes es r (sym (ap (held_of bytes) (other_if r.key e.0 (Some e.1) (found r.key es) i.1)) ∙ h))
    ]

pub is_final_map : (bytes : List ℕ) (lines : List LogLine) (table : List Told) (ps : List Placed) → ((op : ℕ) → IsRow bytes lines op (slice_index_or table op unheard)) → IsHistory lines ps → IsFinalMap lines ps (map (record_of bytes) (entries_after table [] ps))
is_final_map bytes lines table ps rows h =
    let up : Pairs Rise (entries_after table [] ps) = rise_after table [] ps tt in
    let f : (q : List ℕ) → held_of bytes (found q (entries_after table [] ps)) ≡ last_write lines q None ps = λ q. found_after bytes lines table [] ps q (λ p a. is_sent_as bytes lines table rows p (h.sound p a)) in
    record {
      ordered = records_rise bytes (entries_after table [] ps) up;
      sound = λ r a. sym (f r.key) ∙ record_found bytes (entries_after table [] ps) up r a;
      complete = λ r e. found_record bytes (entries_after table [] ps) r (f r.key ∙ e);
    }

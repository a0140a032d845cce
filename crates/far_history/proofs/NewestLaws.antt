-- The newest record of each key, taken one by one, is that of the whole list.
use Rattle.std.proofs.Common.{◌≡◌, ℕ, suc, ◌<◌, ◌≤◌, inl, inr, cond, List, [], ◌∷◌, ◌++◌, map, refl, sym, ap, ◌∙◌, subst, Some, None, arith}
use Rattle.std.specs.Prelude.{Option}
use Rattle.std.specs.declared.cmp.Ordering.{Ordering}
use Rattle.std.specs.declared.cmp.Ordering.TheVariants.{Less, Equal, Greater}
use Rattle.std.specs.Ordering.{nat_cmp, is_eq}
use Rattle.std.specs.Cmp.Lexicographic.{slice_cmp, nat_list_cmp_total}
use Rattle.std.specs.List.{AllByRecursion, Contains}
use Rattle.std.specs.List.Sorted.{IsStrictlySortedBy}
use Rattle.std.specs.Map.{keys_of}
use Rattle.std.specs.BTreeMap.{BTreeMap, get, IsOrdered}
use Rattle.std.proofs.lemmas.Map.Lookups.{exact_bytes}
use Rattle.std.proofs.lemmas.Map.Views.{btree_map_get_iff}
use Rattle.far_base.specs.declared.record.Record.{Record}
use Rattle.far_base.specs.declared.record.Versioned.{Versioned}
use Rattle.far_model.specs.Members.{Among, Each, Pairs}
use Rattle.far_model.specs.History.{IsKeyBefore, IsNewestPerKey}
use Rattle.far_history.specs.Newest.{record_of}
use Rattle.far_history.specs.Newest.{IsNewestOf, number_to_pass, with_key}
use Rattle.far_history.proofs.Lists.{among_back, among_either, among_front, among_index}
use Rattle.far_history.proofs.Orders.{key_self}

abbrev cmp : List ℕ → List ℕ → Ordering
cmp = slice_cmp nat_cmp

abbrev Entry : Type 0
Entry = List ℕ × Versioned

-- ---- one record more

more_below : (records : List Record) (new : Record) (key : List ℕ) (most : ℕ) → ((r : Record) → Among r records → r.key ≡ key → r.num ≤ most) → (new.key ≡ key → new.num ≤ most)
    → (r : Record) → Among r (records ++ new ∷ []) → r.key ≡ key → r.num ≤ most
more_below records new key most h low r a e = elim (among_either r records (new ∷ []) a) [
  | inl b ↦ h r b e
  | inr (inl b) ↦ subst (λ (x : Record). x.key ≡ key → x.num ≤ most) (sym b) low e
  | inr (inr b) ↦ absurd b
]

-- a record that is not newer changes nothing
pub newest_kept : (records : List Record) (new : Record) (key : List ℕ) (o : Option Versioned) → (new.key ≡ key → new.num ≤ number_to_pass o) → IsNewestOf records key o → IsNewestOf (records ++ new ∷ []) key o
newest_kept records new key None low h = λ r a e.
    let m : r.num ≤ 0 = more_below records new key 0 (λ x b f. let z : x.num ≡ 0 = h x b f in omega (arith, z)) low r a e in
    omega (arith, m)
newest_kept records new key (Some held) low h = ((among_front (with_key key held) records (new ∷ []) h.0.0, h.0.1), more_below records new key held.num h.1 low)

most_of : (records : List Record) (key : List ℕ) (o : Option Versioned) → IsNewestOf records key o → (r : Record) → Among r records → r.key ≡ key → r.num ≤ number_to_pass o
most_of records key None h r a e = let z : r.num ≡ 0 = h r a e in omega (arith, z)
most_of records key (Some held) h r a e = h.1 r a e

newest_new : (records : List Record) (new : Record) (o : Option Versioned) → number_to_pass o < new.num → IsNewestOf records new.key o → IsNewestOf (records ++ new ∷ []) new.key (Some (record { num = new.num; body = new.body }))
newest_new records new o more h = (
  (among_back new records (new ∷ []) (inl refl), omega (arith, more)),
  more_below records new new.key new.num (λ x b f. let m : x.num ≤ number_to_pass o = most_of records new.key o h x b f in omega (arith, m, more)) (λ e. omega arith),
)

-- a record that is newer takes its place
pub newest_taken : (records : List Record) (new : Record) (key : List ℕ) (old now : List ℕ → Option Versioned) → number_to_pass (old new.key) < new.num
    → ((q : List ℕ) → now q ≡ cond (is_eq (cmp new.key q)) (Some (record { num = new.num; body = new.body })) (old q))
    → IsNewestOf records key (old key) → IsNewestOf (records ++ new ∷ []) key (now key)
newest_taken records new key old now more set h = go (cmp new.key key) refl
  where
    go : (o : Ordering) → cmp new.key key ≡ o → IsNewestOf (records ++ new ∷ []) key (now key)
    go Less e =
        let same : now key ≡ old key = set key ∙ ap (λ (x : Ordering). cond (is_eq x) (Some (record { num = new.num; body = new.body })) (old key)) e in
        subst (IsNewestOf (records ++ new ∷ []) key) (sym same) (newest_kept records new key (old key) (λ f. let z : cmp new.key key ≡ Equal = key_self new.key key f in absurd cc) h)
    go Greater e =
        let same : now key ≡ old key = set key ∙ ap (λ (x : Ordering). cond (is_eq x) (Some (record { num = new.num; body = new.body })) (old key)) e in
        subst (IsNewestOf (records ++ new ∷ []) key) (sym same) (newest_kept records new key (old key) (λ f. let z : cmp new.key key ≡ Equal = key_self new.key key f in absurd cc) h)
    go Equal e =
        let same : now key ≡ Some (record { num = new.num; body = new.body }) = set key ∙ ap (λ (x : Ordering). cond (is_eq x) (Some (record { num = new.num; body = new.body })) (old key)) e in
        let one : new.key ≡ key = exact_bytes new.key key e in
        let k : IsNewestOf records new.key (old new.key) = subst (λ (q : List ℕ). IsNewestOf records q (old q)) (sym one) h in
        subst (IsNewestOf (records ++ new ∷ []) key) (sym same) (subst (λ (q : List ℕ). IsNewestOf (records ++ new ∷ []) q (Some (record { num = new.num; body = new.body }))) one (newest_new records new (old new.key) more k))

-- ---- the records of all keys

contains_among : {A : Type 0} (xs : List A) (x : A) → Contains xs x → Among x xs
contains_among xs x c = subst (λ y. Among y xs) c.2 (among_index xs c.0 x c.1)

among_contains : {A : Type 0} (xs : List A) (x : A) → Among x xs → Contains xs x
among_contains [] x a = absurd a
among_contains (y ∷ ys) x (inl e) = (0, omega arith, sym e)
among_contains (y ∷ ys) x (inr a) = let c = among_contains ys x a in (suc c.0, omega (arith, c.1), c.2)

of_entry : (es : List Entry) (r : Record) → Among r (map record_of es) → (e : Entry) × Among e es × (r ≡ record_of e)
of_entry [] r a = absurd a
of_entry (e ∷ es) r (inl i) = (e, inl refl, i)
of_entry (e ∷ es) r (inr a) = let x = of_entry es r a in (x.0, inr x.1, x.2)

to_record : (es : List Entry) (e : Entry) → Among e es → Among (record_of e) (map record_of es)
to_record [] e a = absurd a
to_record (x ∷ es) e (inl i) = inl (ap record_of i)
to_record (x ∷ es) e (inr a) = inr (to_record es e a)

keys_before : (r : Record) (es : List Entry) → AllByRecursion (λ key. cmp r.key key ≡ Less) (keys_of es) → Each (IsKeyBefore r) (map record_of es)
keys_before r [] h = tt
keys_before r (e ∷ es) h = (h.0, keys_before r es h.1)

keys_rise : (es : List Entry) → IsStrictlySortedBy cmp (keys_of es) → Pairs IsKeyBefore (map record_of es)
unfolding IsStrictlySortedBy
keys_rise [] h = tt
keys_rise (e ∷ es) h = (keys_before (record_of e) es h.0, keys_rise es h.1)

found_at : (list : List Record) (key : List ℕ) (o : Option Versioned) → IsNewestOf list key o → (other : Record) → Among other list → other.key ≡ key → 0 < other.num → (held : Versioned) × (o ≡ Some held)
found_at list key None h other a e more = let z : other.num ≡ 0 = h other a e in absurd (omega (arith, z, more))
found_at list key (Some held) h other a e more = (held, refl)

pub newest_per_key : (list : List Record) (m : BTreeMap (List ℕ) Versioned) → IsOrdered cmp m → ((key : List ℕ) → IsNewestOf list key (get cmp m key)) → IsNewestPerKey list (map record_of m.entries)
newest_per_key list m up h = record {
  ordered = keys_rise m.entries up;
  sound = λ r a.
      let x = of_entry m.entries r a in
      subst (λ (y : Record). Among y list × (0 < y.num)) (sym x.2) (at x.0 x.1).0;
  greatest = λ r other a b e.
      let x = of_entry m.entries r a in
      let k : other.key ≡ x.0.0 = e ∙ ap (λ (y : Record). y.key) x.2 in
      subst (λ (y : Record). other.num ≤ y.num) (sym x.2) ((at x.0 x.1).1 other b k);
  complete = λ other a more.
      let f = found_at list other.key (get cmp m other.key) (h other.key) other a refl more in
      let c : Contains m.entries (other.key, f.0) = (btree_map_get_iff nat_list_cmp_total exact_bytes m up other.key f.0).0 f.1 in
      (record_of (other.key, f.0), to_record m.entries (other.key, f.0) (contains_among m.entries (other.key, f.0) c), refl);
}
  where
    at : (e : Entry) → Among e m.entries → IsNewestOf list e.0 (Some e.1)
    at e a = subst (IsNewestOf list e.0) ((btree_map_get_iff nat_list_cmp_total exact_bytes m up e.0 e.1).1 (among_contains m.entries e a)) (h e.0)

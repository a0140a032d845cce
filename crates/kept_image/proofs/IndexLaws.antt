-- The table of places tells whether a record is contradicted.
use Rattle.std.proofs.Common.{◌≡◌, ◌≢◌, ℕ, zero, suc, ◌<◌, ◌⊎◌, inl, inr, Bool, true, false, not, cond, List, [], ◌∷◌, ◌++◌, length, get_or, refl, sym, ap, ◌∙◌, subst, Some, None}
use Rattle.std.specs.Prelude.{Option, slice_get}
use Rattle.std.specs.declared.cmp.Ordering.{Ordering}
use Rattle.std.specs.declared.cmp.Ordering.TheVariants.{Less, Equal, Greater}
use Rattle.std.specs.Ordering.{nat_cmp, is_eq, ordering_reverse}
use Rattle.std.specs.Cmp.{IsTotalOrder, on_total, then_total}
use Rattle.std.specs.Cmp.Lexicographic.{slice_cmp, nat_list_cmp_total}
use Rattle.std.proofs.lemmas.Cmp.{nat_cmp_total}
use Rattle.std.specs.BTreeMap.{get, Updates}
use Rattle.std.proofs.lemmas.Map.Lookups.{exact_bytes, exact_pairs, exact_unsigned}
use Rattle.std.proofs.lemmas.Option.{get_or_from_slice_get, slice_get_within}
use Rattle.far_base.specs.declared.kept.KeptItem.{KeptItem}
use Rattle.far_base.specs.declared.record.Record.{Record}
use Rattle.far_model.specs.History.{Agree}
use Rattle.far_model.specs.Kept.{records_in}
use Rattle.far_model.specs.Members.{Among}
use Rattle.far_model.proofs.Members.{among_append, among_append_left, among_at}
use Rattle.kept_image.specs.Faults.{HasConflict}
use Rattle.kept_image.specs.Reading.{IsIndexed, IsPlaceOf, key_and_number_cmp}
use Rattle.kept_image.specs.declared.reader.Reader.{Reader}

-- ---- records of items

pub record_among : (items : List KeptItem) (item : KeptItem) → Among item items → Among item.rec (records_in items)
record_among [] item a = absurd a
record_among (x ∷ xs) item (inl e) = inl (ap (λ (i : KeptItem). i.rec) e)
record_among (x ∷ xs) item (inr a) = inr (record_among xs item a)

pub item_among : (items : List KeptItem) (r : Record) → Among r (records_in items) → (item : KeptItem) × Among item items × (r ≡ item.rec)
item_among [] r a = absurd a
item_among (x ∷ xs) r (inl e) = (x, inl refl, e)
item_among (x ∷ xs) r (inr a) = let i = item_among xs r a in (i.0, inr i.1, i.2)

pub records_more : (items : List KeptItem) (item : KeptItem) → records_in (items ++ item ∷ []) ≡ records_in items ++ item.rec ∷ []
records_more [] item = refl
records_more (x ∷ xs) item = ap (λ (l : List Record). x.rec ∷ l) (records_more xs item)

-- ---- agreement

pub agree_more : (records : List Record) (new : Record) → Agree records → ((r : Record) → Among r records → r.key ≡ new.key → r.num ≡ new.num → r.body ≡ new.body) → Agree (records ++ new ∷ [])
agree_more records new h with_new a b i j key num = go (among_append a records (new ∷ []) i) (among_append b records (new ∷ []) j)
  where
    go : Among a records ⊎ Among a (new ∷ []) → Among b records ⊎ Among b (new ∷ []) → a.body ≡ b.body
    go (inl x) (inl y) = h a b x y key num
    go (inl x) (inr (inl y)) =
        let k : a.key ≡ new.key = key ∙ ap (λ (r : Record). r.key) y in
        let n : a.num ≡ new.num = num ∙ ap (λ (r : Record). r.num) y in
        with_new a x k n ∙ sym (ap (λ (r : Record). r.body) y)
    go (inr (inl x)) (inl y) =
        let k : b.key ≡ new.key = sym key ∙ ap (λ (r : Record). r.key) x in
        let n : b.num ≡ new.num = sym num ∙ ap (λ (r : Record). r.num) x in
        ap (λ (r : Record). r.body) x ∙ sym (with_new b y k n)
    go (inr (inl x)) (inr (inl y)) = ap (λ (r : Record). r.body) (x ∙ sym y)
    go (inl x) (inr (inr y)) = absurd y
    go (inr (inr x)) y = absurd x
    go (inr (inl x)) (inr (inr y)) = absurd y

pub agree_front : (xs ys : List Record) → Agree (xs ++ ys) → Agree xs
agree_front xs ys h = λ a b i j. h a b (among_append_left a xs ys i) (among_append_left b xs ys j)

-- ---- what is found

pub place_within : (items : List KeptItem) (key : List ℕ) (num place : ℕ) → IsPlaceOf items key num (Some place) → place < length items
place_within items key num place p = slice_get_within items place p.0 p.1

pub conflict_at : (items : List KeptItem) (r : Record) (place : ℕ) (d : KeptItem) → IsPlaceOf items r.key r.num (Some place) → (get_or items place d).rec.body ≢ r.body → HasConflict (records_in items) r
conflict_at items r place d p other =
    let is : get_or items place d ≡ p.0 = get_or_from_slice_get items place p.0 d p.1 in
    record {
      earlier = p.0.rec;
      stands = record_among items p.0 (among_at p.0 items place p.1);
      key = p.2;
      num = p.3;
      body = λ e. other (ap (λ (i : KeptItem). i.rec.body) is ∙ e);
    }

pub agree_at : (items : List KeptItem) (r : Record) (place : ℕ) (d : KeptItem) → Agree (records_in items) → IsPlaceOf items r.key r.num (Some place) → (get_or items place d).rec.body ≡ r.body → Agree (records_in items ++ r ∷ [])
agree_at items r place d agree p same =
    let is : get_or items place d ≡ p.0 = get_or_from_slice_get items place p.0 d p.1 in
    let stands : Among p.0.rec (records_in items) = record_among items p.0 (among_at p.0 items place p.1) in
    agree_more (records_in items) r agree (λ x a key num. agree x p.0.rec a stands (key ∙ sym p.2) (num ∙ sym p.3) ∙ (sym (ap (λ (i : KeptItem). i.rec.body) is) ∙ same))

pub agree_new : (items : List KeptItem) (r : Record) → Agree (records_in items) → IsPlaceOf items r.key r.num None → Agree (records_in items ++ r ∷ [])
agree_new items r agree p = agree_more (records_in items) r agree (λ x a key num.
    let i = item_among items x a in
    absurd (p i.0 i.1 (sym (ap (λ (y : Record). y.key) i.2) ∙ key) (sym (ap (λ (y : Record). y.num) i.2) ∙ num)))

-- ---- one item more

get_last : {A : Type 0} (xs : List A) (x : A) → slice_get (xs ++ x ∷ []) (length xs) ≡ Some x
get_last [] x = refl
get_last (y ∷ ys) x = get_last ys x

get_front : {A : Type 0} (xs ys : List A) (i : ℕ) (x : A) → slice_get xs i ≡ Some x → slice_get (xs ++ ys) i ≡ Some x
get_front [] ys i x e = absurd cc
get_front (y ∷ xs) ys zero x e = e
get_front (y ∷ xs) ys (suc i) x e = get_front xs ys i x e

place_kept : (items : List KeptItem) (item : KeptItem) (key : List ℕ) (num : ℕ) (o : Option ℕ) → ((item.rec.key ≡ key) × (item.rec.num ≡ num) → ⊥) → IsPlaceOf items key num o → IsPlaceOf (items ++ item ∷ []) key num o
place_kept items item key num None apart p = λ x a k n. elim (among_append x items (item ∷ []) a) [
  | inl b ↦ p x b k n
  | inr (inl b) ↦ apart (sym (ap (λ (i : KeptItem). i.rec.key) b) ∙ k, sym (ap (λ (i : KeptItem). i.rec.num) b) ∙ n)
  | inr (inr b) ↦ absurd b
]
place_kept items item key num (Some place) apart p = (p.0, get_front items (item ∷ []) place p.0 p.1, p.2, p.3)

pair_total : IsTotalOrder key_and_number_cmp
pair_total = then_total (on_total (λ (q : List ℕ × ℕ). q.0) nat_list_cmp_total) (on_total (λ (q : List ℕ × ℕ). q.1) nat_cmp_total)

pair_self : (q : List ℕ × ℕ) → key_and_number_cmp q q ≡ Equal
pair_self q = go (key_and_number_cmp q q) refl
  where
    go : (o : Ordering) → key_and_number_cmp q q ≡ o → key_and_number_cmp q q ≡ Equal
    go Less e = let z = sym e ∙ (pair_total.antisymm q q ∙ ap ordering_reverse e) in absurd cc
    go Equal e = e
    go Greater e = let z = sym e ∙ (pair_total.antisymm q q ∙ ap ordering_reverse e) in absurd cc

abbrev Places : Type 0
Places = List ℕ × ℕ → Option ℕ

places_more : (items : List KeptItem) (item : KeptItem) (old now : Places) → ((q : List ℕ × ℕ) → now q ≡ cond (is_eq (key_and_number_cmp (item.rec.key, item.rec.num) q)) (Some (length items)) (old q))
    → ((key : List ℕ) (num : ℕ) → IsPlaceOf items key num (old (key, num))) → (key : List ℕ) (num : ℕ) → IsPlaceOf (items ++ item ∷ []) key num (now (key, num))
places_more items item old now set h key num = go (key_and_number_cmp (item.rec.key, item.rec.num) (key, num)) refl
  where
    at_pair : List ℕ × ℕ
    at_pair = (key, num)

    put_pair : List ℕ × ℕ
    put_pair = (item.rec.key, item.rec.num)

    apart : (o : Ordering) → o ≢ Equal → key_and_number_cmp put_pair at_pair ≡ o → (item.rec.key ≡ key) × (item.rec.num ≡ num) → ⊥
    apart o ne e same = ne (sym e ∙ subst (λ (q : List ℕ × ℕ). key_and_number_cmp q at_pair ≡ Equal) (sym (pair_is same)) (pair_self at_pair))
      where
        pair_is : (item.rec.key ≡ key) × (item.rec.num ≡ num) → put_pair ≡ at_pair
        pair_is s = λ i. (s.0 i, s.1 i)

    old_stays : (o : Ordering) → is_eq o ≡ false → o ≢ Equal → key_and_number_cmp put_pair at_pair ≡ o → IsPlaceOf (items ++ item ∷ []) key num (now at_pair)
    old_stays o not_eq ne e =
        let same : now at_pair ≡ old at_pair = set at_pair ∙ (ap (λ (x : Ordering). cond (is_eq x) (Some (length items)) (old at_pair)) e ∙ ap (λ (b : Bool). cond b (Some (length items)) (old at_pair)) not_eq) in
        subst (IsPlaceOf (items ++ item ∷ []) key num) (sym same) (place_kept items item key num (old at_pair) (apart o ne e) (h key num))

    go : (o : Ordering) → key_and_number_cmp put_pair at_pair ≡ o → IsPlaceOf (items ++ item ∷ []) key num (now at_pair)
    go Less e = old_stays Less refl (λ z. cc) e
    go Greater e = old_stays Greater refl (λ z. cc) e
    go Equal e =
        let one : put_pair ≡ at_pair = exact_pairs (slice_cmp nat_cmp) nat_cmp exact_bytes exact_unsigned put_pair at_pair e in
        let same : now at_pair ≡ Some (length items) = set at_pair ∙ ap (λ (x : Ordering). cond (is_eq x) (Some (length items)) (old at_pair)) e in
        subst (IsPlaceOf (items ++ item ∷ []) key num) (sym same) (item, get_last items item, ap (λ (q : List ℕ × ℕ). q.0) one, ap (λ (q : List ℕ × ℕ). q.1) one)

pub indexed_more : (old new : Reader) (item : KeptItem) → IsIndexed old → new.items.items ≡ old.items.items ++ item ∷ [] → Updates key_and_number_cmp old.places new.places (item.rec.key, item.rec.num) (Some (length old.items.items))
    → Agree (records_in old.items.items ++ item.rec ∷ []) → IsIndexed new
indexed_more old new item h items places agree = record {
  places = subst (λ (l : List KeptItem). (key : List ℕ) (num : ℕ) → IsPlaceOf l key num (get key_and_number_cmp new.places (key, num))) (sym items)
      (places_more old.items.items item (get key_and_number_cmp old.places) (get key_and_number_cmp new.places) places.0 h.places);
  agree = subst Agree (sym (ap records_in items ∙ records_more old.items.items item)) agree;
}

pub false_of : (b : Bool) → not b ≡ true → b ≡ false
false_of true e = absurd cc
false_of false e = refl

pub true_of : (b : Bool) → not b ≡ false → b ≡ true
true_of true e = refl
true_of false e = absurd cc

-- Lists of records: what putting one does, the greatest number, and the order of keys.
use Rattle.far_invariants.proofs.Puts.{AfterKeep, IsPut, IsLeft, after_keep, kept_other}
use Rattle.far_invariants.proofs.Keys.{same_key_true, same_key_refl, key_cases, same_key_false}
use Rattle.far_base.specs.declared.record.Versioned.{Versioned}
use Rattle.std.proofs.Common.{◌≡◌, ◌≢◌, ℕ, ◌<◌, ◌≤◌, max, ◌⊎◌, inl, inr, Bool, true, false, cond, List, [], ◌∷◌, refl, sym, ap, ◌∙◌, subst, arith, le_trans}
use Rattle.std.specs.Prelude.{if◌then◌else◌, nat_lt, filter}
use Rattle.std.specs.Ordering.{is_eq, nat_cmp, ordering_reverse}
use Rattle.std.specs.declared.cmp.Ordering.{Ordering}
use Rattle.std.specs.declared.cmp.Ordering.TheVariants.{Less, Equal, Greater}
use Rattle.std.specs.Cmp.{unsigned_ties}
use Rattle.std.specs.Cmp.Lexicographic.{slice_cmp, lists_ties, nat_list_cmp_total}
use Rattle.std.proofs.Common.{ltb-true}
use Rattle.far_base.specs.declared.record.Record.{Record}
use Rattle.far_model.specs.History.{held_in, IsKeyBefore}
use Rattle.far_invariants.specs.Covers.{Covers}
use Rattle.far_model.specs.KeyedRecords.{found, put_record, is_less, is_key_before, in_key_order, by_key}
use Rattle.far_model.specs.Log.{same_key}
use Rattle.far_model.specs.Members.{Among, Each, Pairs}
use Rattle.far_model.specs.Servers.{top_of, stored}
use Rattle.far_model.proofs.Members.{each_among, each_from_among}

-- ---- one of each key

abbrev pub Apart : Record → Record → Type 0
Apart a b = a.key ≢ b.key

-- what the list has for the key of a member is the member
pub found_member : (x : Record) (rs : List Record) → Pairs Apart rs → Among x rs → found rs x.key ≡ held_in x
found_member x [] h a = absurd a
found_member x (r ∷ rs) h (inl e) = ap (λ b. if b then held_in r else found rs x.key) (subst (λ (w : Record). same_key w.key x.key ≡ true) e (same_key_refl x.key)) ∙ ap held_in (sym e)
found_member x (r ∷ rs) h (inr a) = ap (λ b. if b then held_in r else found rs x.key) (same_key_false r.key x.key (each_among (Apart r) x rs h.0 a)) ∙ found_member x rs h.1 a

pub record IsFound (rs : List Record) (key : List ℕ) : Type 0 where
  pub item : Record
  pub there : Among item rs
  pub on_key : item.key ≡ key
  pub is : found rs key ≡ held_in item

-- what it has above 0 is that of a member
pub found_some : (rs : List Record) (key : List ℕ) → 0 < (found rs key).num → IsFound rs key
found_some [] key h = absurd (omega arith)
found_some (r ∷ rs) key h = go (same_key r.key key) refl h (found_some rs key)
  where
    go : (b : Bool) → same_key r.key key ≡ b → 0 < (if b then held_in r else found rs key).num → (0 < (found rs key).num → IsFound rs key) → IsFound (r ∷ rs) key
    go true e k f = record { item = r; there = inl refl; on_key = same_key_true r.key key e; is = ap (λ b. if b then held_in r else found rs key) e }
    go false e k f = let m = f k in record { item = m.item; there = inr m.there; on_key = m.on_key; is = ap (λ b. if b then held_in r else found rs key) e ∙ m.is }

pub put_among : (x r : Record) (rs : List Record) → Among x (put_record r rs) → (x ≡ r) ⊎ Among x rs
put_among x r [] (inl e) = inl e
put_among x r [] (inr a) = absurd a
put_among x r (y ∷ ys) h = go (same_key y.key r.key) (put_among x r ys) h
  where
    further : (x ≡ r) ⊎ Among x ys → (x ≡ r) ⊎ Among x (y ∷ ys)
    further (inl e) = inl e
    further (inr a) = inr (inr a)

    go : (b : Bool) → (Among x (put_record r ys) → (x ≡ r) ⊎ Among x ys) → Among x (if b then r ∷ ys else y ∷ put_record r ys) → (x ≡ r) ⊎ Among x (y ∷ ys)
    go true f (inl e) = inl e
    go true f (inr a) = inr (inr a)
    go false f (inl e) = inr (inl e)
    go false f (inr a) = further (f a)

-- the new record is there
pub put_there : (r : Record) (rs : List Record) → Among r (put_record r rs)
put_there r [] = inl refl
put_there r (y ∷ ys) = go (same_key y.key r.key) (put_there r ys)
  where
    go : (b : Bool) → Among r (put_record r ys) → Among r (if b then r ∷ ys else y ∷ put_record r ys)
    go true a = inl refl
    go false a = inr a

-- and each of another key stays
pub put_stays : (x r : Record) (rs : List Record) → x.key ≢ r.key → Among x rs → Among x (put_record r rs)
put_stays x r [] ne h = absurd h
put_stays x r (y ∷ ys) ne h = go (same_key y.key r.key) refl (put_stays x r ys ne) h
  where
    go : (b : Bool) → same_key y.key r.key ≡ b → (Among x ys → Among x (put_record r ys)) → (x ≡ y) ⊎ Among x ys → Among x (if b then r ∷ ys else y ∷ put_record r ys)
    go true e f (inl same) = absurd (ne (ap (λ (w : Record). w.key) same ∙ same_key_true y.key r.key e))
    go true e f (inr a) = inr a
    go false e f (inl same) = inl same
    go false e f (inr a) = inr (f a)

-- what the list covers stays covered where no record of the key has a greater number than the new one
pub put_covers : (r : Record) (rs : List Record) (key : List ℕ) (num : ℕ) → ((x : Record) → Among x rs → x.key ≡ r.key → x.num ≤ r.num) → Covers rs key num → Covers (put_record r rs) key num
put_covers r rs key num most c = go (key_cases c.item.key r.key)
  where
    go : (c.item.key ≡ r.key) ⊎ (c.item.key ≢ r.key) → Covers (put_record r rs) key num
    go (inl e) = record { item = r; there = put_there r rs; on_key = sym e ∙ c.on_key; above = le_trans c.above (most c.item c.there e) }
    go (inr ne) = record { item = c.item; there = put_stays c.item r rs ne c.there; on_key = c.on_key; above = c.above }

each_part : {A : Type 0} (P Q : A → Type 0) (xs : List A) → ((x : A) → P x → Q x) → Each P xs → Each Q xs
each_part P Q [] f h = tt
each_part P Q (x ∷ xs) f h = (f x h.0, each_part P Q xs f h.1)

put_apart : (r : Record) (rs : List Record) → Pairs Apart rs → Pairs Apart (put_record r rs)
put_apart r [] h = (tt, tt)
put_apart r (y ∷ ys) h = go (same_key y.key r.key) refl (put_apart r ys h.1)
  where
    go : (b : Bool) → same_key y.key r.key ≡ b → Pairs Apart (put_record r ys) → Pairs Apart (if b then r ∷ ys else y ∷ put_record r ys)
    go true e rest = (each_part (Apart y) (Apart r) ys (λ x ne same. ne (same_key_true y.key r.key e ∙ same)) h.0, h.1)
    go false e rest = (each_from_among (Apart y) (put_record r ys) (λ x a. apart x (put_among x r ys a)), rest)
      where
        apart : (x : Record) → (x ≡ r) ⊎ Among x ys → Apart y x
        apart x (inl same) = λ k. absurd (let t : same_key y.key r.key ≡ true = subst (λ q. same_key y.key q ≡ true) (k ∙ ap (λ (w : Record). w.key) same) (same_key_refl y.key) in let clash = sym e ∙ t in cc)
        apart x (inr a) = each_among (Apart y) x ys h.0 a

-- ---- what a server keeps

pub kept_apart : (rs : List Record) (r : Record) → Pairs Apart rs → Pairs Apart (stored rs r)
kept_apart rs r h = go (nat_lt (found rs r.key).num r.num)
  where
    go : (b : Bool) → Pairs Apart (if b then put_record r rs else rs)
    go true = put_apart r rs h
    go false = h

-- a record that is stored was there, or is new and above 0
pub kept_among : (rs : List Record) (r x : Record) → Among x (stored rs r) → ((x ≡ r) × (0 < r.num)) ⊎ Among x rs
kept_among rs r x a = go (nat_lt (found rs r.key).num r.num) refl a
  where
    new : 0 < r.num → (x ≡ r) ⊎ Among x rs → ((x ≡ r) × (0 < r.num)) ⊎ Among x rs
    new l (inl e) = inl (e, l)
    new l (inr b) = inr b

    go : (b : Bool) → nat_lt (found rs r.key).num r.num ≡ b → Among x (if b then put_record r rs else rs) → ((x ≡ r) × (0 < r.num)) ⊎ Among x rs
    go true e a = new (let l = ltb-true (found rs r.key).num r.num e in omega (arith, l)) (put_among x r rs a)
    go false e a = inr a

-- the record is covered, and what was had is
pub kept_covers : (rs : List Record) (r : Record) → r.num ≤ (found (stored rs r) r.key).num
kept_covers rs r = go (after_keep rs r)
  where
    go : AfterKeep rs r → r.num ≤ (found (stored rs r) r.key).num
    go (IsPut e above) = let n = ap (λ (w : Versioned). w.num) e in omega (arith, n)
    go (IsLeft e below) = let n = ap (λ (w : Versioned). w.num) e in omega (arith, n, below)

pub kept_more : (rs : List Record) (r : Record) (key : List ℕ) → (found rs key).num ≤ (found (stored rs r) key).num
kept_more rs r key = go (key_cases key r.key)
  where
    its : AfterKeep rs r → (found rs r.key).num ≤ (found (stored rs r) r.key).num
    its (IsPut e above) = let n = ap (λ (w : Versioned). w.num) e in omega (arith, n, above)
    its (IsLeft e below) = let n = ap (λ (w : Versioned). w.num) e in omega (arith, n)

    go : (key ≡ r.key) ⊎ (key ≢ r.key) → (found rs key).num ≤ (found (stored rs r) key).num
    go (inl same) = subst (λ q. (found rs q).num ≤ (found (stored rs r) q).num) (sym same) (its (after_keep rs r))
    go (inr ne) = let n = ap (λ (w : Versioned). w.num) (kept_other rs r key ne) in omega (arith, n)

-- a record that is no newer changes nothing
pub kept_same : (rs : List Record) (r : Record) → r.num ≤ (found rs r.key).num → stored rs r ≡ rs
kept_same rs r h = go (nat_lt (found rs r.key).num r.num) refl
  where
    go : (b : Bool) → nat_lt (found rs r.key).num r.num ≡ b → (if nat_lt (found rs r.key).num r.num then put_record r rs else rs) ≡ rs
    go true e = absurd (let l = ltb-true (found rs r.key).num r.num e in omega (arith, l, h))
    go false e = ap (λ b. if b then put_record r rs else rs) e

-- ---- the greatest number

pub found_below : (rs : List Record) (q : List ℕ) → (found rs q).num ≤ top_of rs
found_below [] q = omega arith
found_below (r ∷ rs) q = by (same_key r.key q) (found_below rs q)
  where
    by : (b : Bool) → (found rs q).num ≤ top_of rs → (if b then held_in r else found rs q).num ≤ max r.num (top_of rs)
    by true rest = omega arith
    by false rest = omega arith

-- ---- lists that are filtered

pub filter_among : (p : Record → Bool) (x : Record) (rs : List Record) → Among x (filter p rs) → Among x rs × (p x ≡ true)
filter_among p x [] a = absurd a
filter_among p x (r ∷ rs) a = go (p r) refl a (filter_among p x rs)
  where
    go : (b : Bool) → p r ≡ b → Among x (cond b (r ∷ filter p rs) (filter p rs)) → (Among x (filter p rs) → Among x rs × (p x ≡ true)) → Among x (r ∷ rs) × (p x ≡ true)
    go true e (inl same) f = (inl same, ap p same ∙ e)
    go true e (inr a) f = let k = f a in (inr k.0, k.1)
    go false e a f = let k = f a in (inr k.0, k.1)

pub filter_stays : (p : Record → Bool) (x : Record) (rs : List Record) → Among x rs → p x ≡ true → Among x (filter p rs)
filter_stays p x [] a e = absurd a
filter_stays p x (r ∷ rs) a e = go (p r) refl a (λ b. filter_stays p x rs b e)
  where
    go : (b : Bool) → p r ≡ b → (x ≡ r) ⊎ Among x rs → (Among x rs → Among x (filter p rs)) → Among x (cond b (r ∷ filter p rs) (filter p rs))
    go true k (inl same) f = inl same
    go true k (inr a) f = inr (f a)
    go false k (inl same) f = absurd (let t = sym e ∙ ap p same ∙ k in cc)
    go false k (inr a) f = f a

-- ---- in the order of keys

less : (o : Ordering) → is_less o ≡ true → o ≡ Less
less Less e = refl
less Equal e = absurd cc
less Greater e = absurd cc

greater : (o : Ordering) → is_less o ≡ false → is_eq o ≡ false → ordering_reverse o ≡ Less
greater Less e f = absurd cc
greater Equal e f = absurd cc
greater Greater e f = refl

placed : (r : Record) (rs : List Record) → Among r (in_key_order r rs)
placed r [] = inl refl
placed r (x ∷ xs) = by (is_key_before r.key x.key) (placed r xs)
  where
    by : (b : Bool) → Among r (in_key_order r xs) → Among r (cond b (r ∷ (x ∷ xs)) (x ∷ in_key_order r xs))
    by true rest = inl refl
    by false rest = inr rest

stays : (y r : Record) (rs : List Record) → Among y rs → Among y (in_key_order r rs)
stays y r [] h = absurd h
stays y r (x ∷ xs) h = by (is_key_before r.key x.key) (stays y r xs) h
  where
    by : (b : Bool) → (Among y xs → Among y (in_key_order r xs)) → (y ≡ x) ⊎ Among y xs → Among y (cond b (r ∷ (x ∷ xs)) (x ∷ in_key_order r xs))
    by true rest h = inr h
    by false rest (inl e) = inl e
    by false rest (inr m) = inr (rest m)

in_order_among : (y r : Record) (rs : List Record) → Among y (in_key_order r rs) → (y ≡ r) ⊎ Among y rs
in_order_among y r [] (inl e) = inl e
in_order_among y r [] (inr a) = absurd a
in_order_among y r (x ∷ xs) h = by (is_key_before r.key x.key) (in_order_among y r xs) h
  where
    further : (y ≡ r) ⊎ Among y xs → (y ≡ r) ⊎ Among y (x ∷ xs)
    further (inl e) = inl e
    further (inr a) = inr (inr a)

    by : (b : Bool) → (Among y (in_key_order r xs) → (y ≡ r) ⊎ Among y xs) → Among y (cond b (r ∷ (x ∷ xs)) (x ∷ in_key_order r xs)) → (y ≡ r) ⊎ Among y (x ∷ xs)
    by true rest (inl e) = inl e
    by true rest (inr a) = inr a
    by false rest (inl e) = inr (inl e)
    by false rest (inr a) = further (rest a)

pub by_key_there : (x : Record) (rs : List Record) → Among x rs → Among x (by_key rs)
by_key_there x [] h = absurd h
by_key_there x (r ∷ rs) (inl e) = subst (λ (y : Record). Among y (in_key_order r (by_key rs))) (sym e) (placed r (by_key rs))
by_key_there x (r ∷ rs) (inr h) = stays x r (by_key rs) (by_key_there x rs h)

pub by_key_among : (x : Record) (rs : List Record) → Among x (by_key rs) → Among x rs
by_key_among x [] h = absurd h
by_key_among x (r ∷ rs) h = go (λ a. by_key_among x rs a) (in_order_among x r (by_key rs) h)
  where
    go : (Among x (by_key rs) → Among x rs) → (x ≡ r) ⊎ Among x (by_key rs) → Among x (r ∷ rs)
    go f (inl e) = inl e
    go f (inr a) = inr (f a)

pairs_placed : (r : Record) (rs : List Record) → Each (Apart r) rs → Pairs IsKeyBefore rs → Pairs IsKeyBefore (in_key_order r rs)
pairs_placed r [] apart h = (tt, tt)
pairs_placed r (x ∷ xs) apart h = by (is_key_before r.key x.key) refl (pairs_placed r xs apart.1 h.1)
  where
    by : (b : Bool) → is_key_before r.key x.key ≡ b → Pairs IsKeyBefore (in_key_order r xs) → Pairs IsKeyBefore (cond b (r ∷ (x ∷ xs)) (x ∷ in_key_order r xs))
    by true e rest =
        let first : IsKeyBefore r x = less (slice_cmp nat_cmp r.key x.key) e in
        ((first, each_part (IsKeyBefore x) (IsKeyBefore r) xs (λ y k. nat_list_cmp_total.trans r.key x.key y.key first k) h.0), h)
    by false e rest =
        let first : IsKeyBefore x r = nat_list_cmp_total.antisymm x.key r.key ∙ greater (slice_cmp nat_cmp r.key x.key) e (sym (lists_ties nat_cmp unsigned_ties r.key x.key) ∙ same_key_false r.key x.key apart.0) in
        (each_from_among (IsKeyBefore x) (in_key_order r xs) (λ y a. pick y (in_order_among y r xs a) first), rest)
      where
        pick : (y : Record) → (y ≡ r) ⊎ Among y xs → IsKeyBefore x r → IsKeyBefore x y
        pick y (inl same) first = subst (λ w. IsKeyBefore x w) (sym same) first
        pick y (inr a) first = each_among (IsKeyBefore x) y xs h.0 a

pub by_key_ordered : (rs : List Record) → Pairs Apart rs → Pairs IsKeyBefore (by_key rs)
by_key_ordered [] h = tt
by_key_ordered (r ∷ rs) h = pairs_placed r (by_key rs) (each_from_among (Apart r) (by_key rs) (λ x a. each_among (Apart r) x rs h.0 (by_key_among x rs a))) (by_key_ordered rs h.1)

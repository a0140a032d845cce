-- The computed history is the history: each operation that was sent has a place or none, and places are put in order.
use Rattle.std.proofs.Common.{
  ◌≡◌,
  ℕ,
  zero,
  suc,
  ◌+◌,
  ◌<◌,
  ◌≤◌,
  max,
  ◌⊎◌,
  inl,
  inr,
  Bool,
  true,
  false,
  ◌&&◌,
  ◌||◌,
  List,
  [],
  ◌∷◌,
  ◌++◌,
  refl,
  sym,
  ap,
  ◌∙◌,
  subst,
  arith,
  eqb-true,
  eq-eqb,
  leb-true,
  true≢false,
}
use Rattle.std.specs.Prelude.{◌≢◌, ◌==◌, if◌then◌else◌, nat_eq, nat_le, nat_lt, Option, Some, None}
use Rattle.std.proofs.lemmas.Bool.{MatchBool-at_true, MatchBool-at_false, cases_lt, lt-ltb, ltb-true, or_cases}
use Rattle.std.proofs.lemmas.Bool.Decides.{leb_tells}
use Rattle.std.proofs.lemmas.Option.{same_Some, none-some}
use Rattle.far_base.specs.declared.log.LogEntry.{LogEntry}
use Rattle.far_base.specs.declared.log.LogEntry.TheVariants.{Sent}
use Rattle.far_base.specs.declared.log.LogLine.{LogLine}
use Rattle.far_base.specs.declared.log.Placed.{Placed}
use Rattle.far_base.specs.declared.plan.OpLine.{OpLine}
use Rattle.far_model.specs.History.{Before, IsHistory, IsPlace, IsReadPlace, IsWritePlace, read_rank}
use Rattle.far_model.specs.Log.{
  At,
  Answer,
  IsTakingMoment,
  answering,
  emission,
  exposed,
  first_told,
  is_read,
  numbering,
  or_later,
  sending,
  sent_by,
}
use Rattle.far_model.specs.Members.{Among, Pairs}
use Rattle.far_model.proofs.Members.{each_among, each_from_among}
use Rattle.model_laws.specs.Placing.{
  all_in_order,
  first_from,
  greatest_moment,
  history_of,
  in_order,
  is_before,
  is_numbered_before,
  is_ranked_before,
  moment_of,
  place_at,
  place_read,
  place_sent,
  place_write,
  places_in_order,
  places_of,
  sent_in,
  sent_operations,
}
use Rattle.history_laws.proofs.Exposed.{exposed_most, exposed_shown}
use Rattle.history_laws.proofs.Unique.{same_place}
use Rattle.model_laws.proofs.Places.{before_or}

-- ---- the order is decided

or_right : (x y : Bool) → y ≡ true → (x || y) ≡ true
or_right true y h = refl
or_right false y h = h

and_out : (x y : Bool) → (x && y) ≡ true → (x ≡ true) × (y ≡ true)
and_out true true h = (refl, refl)
and_out true false h = absurd (true≢false (sym h))
and_out false y h = absurd (true≢false (sym h))

and_in : (x y : Bool) → x ≡ true → y ≡ true → (x && y) ≡ true
and_in true y h k = k
and_in false y h k = h

-- less, or equal and so by the rest
lex_out : (a b : ℕ) (rest : Bool) (R : Type 0) → (rest ≡ true → R) → (nat_lt a b || (nat_eq a b && rest)) ≡ true → (a < b) ⊎ ((a ≡ b) × R)
lex_out a b rest R f h = go (or_cases (nat_lt a b) (nat_eq a b && rest) h)
  where
    go : (nat_lt a b ≡ true) ⊎ ((nat_eq a b && rest) ≡ true) → (a < b) ⊎ ((a ≡ b) × R)
    go (inl l) = inl (ltb-true a b l)
    go (inr e) = let p = and_out (nat_eq a b) rest e in inr (eqb-true a b p.0, f p.1)

lex_in : (a b : ℕ) (rest : Bool) (R : Type 0) → (R → rest ≡ true) → (a < b) ⊎ ((a ≡ b) × R) → (nat_lt a b || (nat_eq a b && rest)) ≡ true
lex_in a b rest R f (inl l) = subst (λ x. (x || (nat_eq a b && rest)) ≡ true) (sym (lt-ltb a b l)) refl
lex_in a b rest R f (inr p) = or_right (nat_lt a b) (nat_eq a b && rest) (and_in (nat_eq a b) rest (eq-eqb a b p.0) (f p.1))

before_out : (x y : Placed) → is_before x y ≡ true → Before x y
before_out x y h = lex_out x.moment y.moment (is_numbered_before x y) _
    (lex_out x.num y.num (is_ranked_before x y) _
    (lex_out (read_rank x.read) (read_rank y.read) (nat_lt x.op y.op) _ (ltb-true x.op y.op))) h

before_in : (x y : Placed) → Before x y → is_before x y ≡ true
before_in x y h = lex_in x.moment y.moment (is_numbered_before x y) _
    (lex_in x.num y.num (is_ranked_before x y) _
    (lex_in (read_rank x.read) (read_rank y.read) (nat_lt x.op y.op) _ (lt-ltb x.op y.op))) h

-- ---- putting in order

-- the place stands in an ordered list with the others
record IsInserted (x : Placed) (ys zs : List Placed) : Type 0 where
  pub ordered : Pairs Before zs
  pub there : Among x zs
  pub others : (z : Placed) → Among z ys → Among z zs
  pub only : (z : Placed) → Among z zs → (z ≡ x) ⊎ Among z ys

before_trans : (x y z : Placed) → Before x y → Before y z → Before x z
before_trans x y z h k = grind arith

neither : (x y : Placed) → is_before x y ≡ false → is_before y x ≡ false → x ≡ y
neither x y h k = go (before_or x y)
  where
    go : (x ≡ y) ⊎ (Before x y ⊎ Before y x) → x ≡ y
    go (inl e) = e
    go (inr (inl b)) = absurd (true≢false (sym (before_in x y b) ∙ h))
    go (inr (inr b)) = absurd (true≢false (sym (before_in y x b) ∙ k))

inserted : (x : Placed) (ys : List Placed) → Pairs Before ys → IsInserted x ys (in_order x ys)
inserted x [] h = record { ordered = (tt, tt); there = inl refl; others = λ z a. absurd a; only = λ z a. a }
inserted x (y ∷ ys) h = go (is_before x y) (is_before y x) refl refl (inserted x ys h.1)
  where
    first : Before x y → IsInserted x (y ∷ ys) (x ∷ (y ∷ ys))
    first b = record {
      ordered = ((b, each_from_among (Before x) ys (λ z a. before_trans x y z b (each_among (Before y) z ys h.0 a))), h);
      there = inl refl;
      others = λ z a. inr a;
      only = λ z a. a;
    }

    later : Before y x → IsInserted x ys (in_order x ys) → IsInserted x (y ∷ ys) (y ∷ in_order x ys)
    later b k = record {
      ordered = (each_from_among (Before y) (in_order x ys) (λ z a. after z (k.only z a)), k.ordered);
      there = inr k.there;
      others = others;
      only = only;
    }
      where
        after : (z : Placed) → (z ≡ x) ⊎ Among z ys → Before y z
        after z (inl e) = subst (λ w. Before y w) (sym e) b
        after z (inr a) = each_among (Before y) z ys h.0 a

        others : (z : Placed) → Among z (y ∷ ys) → Among z (y ∷ in_order x ys)
        others z (inl e) = inl e
        others z (inr a) = inr (k.others z a)

        move : (z : Placed) → (z ≡ x) ⊎ Among z ys → (z ≡ x) ⊎ Among z (y ∷ ys)
        move z (inl e) = inl e
        move z (inr a) = inr (inr a)

        only : (z : Placed) → Among z (y ∷ in_order x ys) → (z ≡ x) ⊎ Among z (y ∷ ys)
        only z (inl e) = inr (inl e)
        only z (inr a) = move z (k.only z a)

    go : (b c : Bool) → is_before x y ≡ b → is_before y x ≡ c → IsInserted x ys (in_order x ys) → IsInserted x (y ∷ ys) (if b then x ∷ (y ∷ ys) else (if c then y ∷ in_order x ys else y ∷ ys))
    go true c e f k = first (before_out x y e)
    go false true e f k = later (before_out y x f) k
    go false false e f k = record { ordered = h; there = inl (neither x y e f); others = λ z a. a; only = λ z a. inr a }

-- ---- the moment at which a number takes effect

module _ (log : List LogLine) where
  by_greatest : (ls : List LogLine) (l : LogLine) → Among l ls → l.moment ≤ greatest_moment ls
  by_greatest [] l h = absurd h
  by_greatest (m ∷ ms) l (inl e) = omega (arith, ap (λ (k : LogLine). k.moment) e)
  by_greatest (m ∷ ms) l (inr h) = omega (arith, by_greatest ms l h)

  -- nothing more is exposed after the last line
  exposed_by_last : (key : List ℕ) (at : ℕ) → exposed log key at ≤ exposed log key (greatest_moment log)
  exposed_by_last key at = go (leb_tells 1 (exposed log key at))
    where
      go : ((nat_le 1 (exposed log key at) ≡ true) × (1 ≤ exposed log key at)) ⊎ ((nat_le 1 (exposed log key at) ≡ false) × (exposed log key at < 1)) → exposed log key at ≤ exposed log key (greatest_moment log)
      go (inl p) =
          let s = exposed_shown log key at p.1 in
          exposed_most log key (greatest_moment log) (exposed log key at) (record { op = s.op; shown_at = s.shown_at; body = s.body; near = s.near; emitted = s.emitted; on_key = s.on_key; before = by_greatest log _ s.emitted })
      go (inr p) = omega (arith, p.1)

  module _ (key : List ℕ) (num : ℕ) where
    -- the number is exposed at none of the moments before this
    abbrev NotBefore : ℕ → Type 0
    NotBefore moment = (m : ℕ) → m < moment → exposed log key m < num

    not_yet : (moment : ℕ) → NotBefore moment → nat_le num (exposed log key moment) ≡ false → NotBefore (suc moment)
    not_yet moment before e m l = go (cases_lt m moment) (leb_tells num (exposed log key moment))
      where
        go : (m < moment) ⊎ (moment ≤ m) → ((nat_le num (exposed log key moment) ≡ true) × (num ≤ exposed log key moment)) ⊎ ((nat_le num (exposed log key moment) ≡ false) × (exposed log key moment < num)) → exposed log key m < num
        go (inl k) t = before m k
        go (inr k) (inl t) = absurd (true≢false (sym t.0 ∙ e))
        go (inr k) (inr t) = let same : moment ≡ m = omega (arith, k, l) in subst (λ n. exposed log key n < num) same t.1

    found_first : (moment : ℕ) → NotBefore moment → num ≤ exposed log key moment → IsTakingMoment log key num moment
    found_first moment before h = record { taken = h; first = λ m k. late m k (cases_lt m moment) }
      where
        late : (m : ℕ) → num ≤ exposed log key m → (m < moment) ⊎ (moment ≤ m) → moment ≤ m
        late m k (inl l) = absurd (omega (arith, k, before m l))
        late m k (inr l) = l

    search_some : (more moment at : ℕ) → NotBefore moment → first_from log key num moment more ≡ Some at → IsTakingMoment log key num at
    search_some zero moment at before h = absurd (none-some at h)
    search_some (suc more) moment at before h = go (nat_le num (exposed log key moment)) refl (λ b. search_some more (suc moment) at b) h
      where
        go : (b : Bool) → nat_le num (exposed log key moment) ≡ b → (NotBefore (suc moment) → first_from log key num (suc moment) more ≡ Some at → IsTakingMoment log key num at)
            → (if b then Some moment else first_from log key num (suc moment) more) ≡ Some at → IsTakingMoment log key num at
        go true e f k = subst (IsTakingMoment log key num) (same_Some _ _ k) (found_first moment before (leb-true num (exposed log key moment) e))
        go false e f k = f (not_yet moment before e) k

    search_none : (more moment : ℕ) → NotBefore moment → first_from log key num moment more ≡ None → NotBefore (moment + more)
    search_none zero moment before h m l = before m (omega arith)
    search_none (suc more) moment before h m l = go (nat_le num (exposed log key moment)) refl (λ b k. search_none more (suc moment) b k m (omega arith)) h
      where
        go : (b : Bool) → nat_le num (exposed log key moment) ≡ b → (NotBefore (suc moment) → first_from log key num (suc moment) more ≡ None → exposed log key m < num)
            → (if b then Some moment else first_from log key num (suc moment) more) ≡ None → exposed log key m < num
        go true e f k = absurd (none-some moment (sym k))
        go false e f k = f (not_yet moment before e) k

    moment_found : (at : ℕ) → moment_of log key num ≡ Some at → IsTakingMoment log key num at
    moment_found at h = search_some (suc (greatest_moment log)) 0 at (λ m l. absurd (omega arith)) h

    never : moment_of log key num ≡ None → (at : ℕ) → IsTakingMoment log key num at → ⊥
    never h at t = omega (arith, t.taken, exposed_by_last key at, search_none (suc (greatest_moment log)) 0 (λ m l. absurd (omega arith)) h (greatest_moment log) (omega arith))

  -- ---- the place of one operation

  -- these are the places that the operation has
  record AreItsPlaces (op : ℕ) (ps : List Placed) : Type 0 where
    pub own : (place : Placed) → Among place ps → place.op ≡ op
    pub sound : (place : Placed) → Among place ps → IsPlace log place
    pub complete : (place : Placed) → place.op ≡ op → IsPlace log place → Among place ps

  none : (op : ℕ) → ((place : Placed) → place.op ≡ op → IsPlace log place → ⊥) → AreItsPlaces op []
  none op h = record { own = λ p a. absurd a; sound = λ p a. absurd a; complete = λ p e k. absurd (h p e k) }

  one : (op : ℕ) (p : Placed) → p.op ≡ op → IsPlace log p → AreItsPlaces op (p ∷ [])
  one op p e h = record { own = own; sound = sound; complete = λ q f k. inl (same_place log q p k h (f ∙ sym e)) }
    where
      own : (q : Placed) → (q ≡ p) ⊎ ⊥ → q.op ≡ op
      own q (inl same) = ap (λ (w : Placed). w.op) same ∙ e
      own q (inr a) = absurd a

      sound : (q : Placed) → (q ≡ p) ⊎ ⊥ → IsPlace log q
      sound q (inl same) = subst (IsPlace log) (sym same) h
      sound q (inr a) = absurd a

  module _ (op : ℕ) (s : At OpLine) (h : sending log op ≡ Some s) where
    its_sending : (place : Placed) → place.op ≡ op → (k : IsPlace log place) → k.sent ≡ s
    its_sending place same k = same_Some _ _ (sym k.first ∙ ap (sending log) same ∙ h)

    its_kind : (place : Placed) → place.op ≡ op → (k : IsPlace log place) → (b : Bool) → is_read s.what.op ≡ b → place.read ≡ b
    its_kind place same k b e = k.kind ∙ ap (λ (t : At OpLine). is_read t.what.op) (its_sending place same k) ∙ e

    write_places : is_read s.what.op ≡ false → AreItsPlaces op (place_write log op s (numbering log op))
    write_places w = by_number (numbering log op) refl
      where
        stands : (place : Placed) → place.op ≡ op → (k : IsPlace log place) → IsWritePlace log k.sent.what place
        stands place same k = MatchBool-at_false (IsReadPlace log k.sent.moment k.sent.what place) (IsWritePlace log k.sent.what place) (its_kind place same k false w) k.stands

        by_moment : (n : At ℕ) → numbering log op ≡ Some n → (m : Option ℕ) → moment_of log s.what.key n.what ≡ m → AreItsPlaces op (place_at op n.what false s.moment m)
        by_moment n e None f = none op absent
          where
            absent : (place : Placed) → place.op ≡ op → IsPlace log place → ⊥
            absent place same k =
                let p = stands place same k in
                let num : place.num ≡ n.what = p.own ∙ ap (λ (a : At ℕ). a.what) (same_Some _ _ (sym p.first ∙ ap (numbering log) same ∙ e)) in
                never s.what.key n.what f place.moment (subst (λ m. IsTakingMoment log s.what.key m place.moment) num (subst (λ (t : At OpLine). IsTakingMoment log t.what.key place.num place.moment) (its_sending place same k) p.taking))
        by_moment n e (Some m) f = one op (record { moment = m; num = n.what; read = false; op = op }) refl
            (record { sent = s; first = h; kind = sym w; stands = record { numbered = n; first = e; own = refl; taking = moment_found s.what.key n.what m f } })

        by_number : (o : Option (At ℕ)) → numbering log op ≡ o → AreItsPlaces op (place_write log op s o)
        by_number None e = none op (λ place same k. let p = stands place same k in none-some p.numbered (sym e ∙ sym (ap (numbering log) same) ∙ p.first))
        by_number (Some n) e = by_moment n e (moment_of log s.what.key n.what) refl

    read_places : is_read s.what.op ≡ true → AreItsPlaces op (place_read log op s (emission log op) (answering log op))
    read_places r = by_answer (emission log op) (answering log op) refl refl
      where
        stands : (place : Placed) → place.op ≡ op → (k : IsPlace log place) → IsReadPlace log k.sent.moment k.sent.what place
        stands place same k = MatchBool-at_true (IsReadPlace log k.sent.moment k.sent.what place) (IsWritePlace log k.sent.what place) (its_kind place same k true r) k.stands

        by_moment : (e : At Answer) → emission log op ≡ Some e → answering log op ≢ None → (m : Option ℕ) → moment_of log s.what.key e.what.num ≡ m → AreItsPlaces op (place_at op e.what.num true s.moment m)
        by_moment e i a None f = none op absent
          where
            absent : (place : Placed) → place.op ≡ op → IsPlace log place → ⊥
            absent place same k =
                let p = stands place same k in
                let num : place.num ≡ e.what.num = p.read ∙ ap (λ (b : At Answer). b.what.num) (same_Some _ _ (sym p.first ∙ ap (emission log) same ∙ i)) in
                never s.what.key e.what.num f p.taken_at (subst (λ m. IsTakingMoment log s.what.key m p.taken_at) num (subst (λ (t : At OpLine). IsTakingMoment log t.what.key place.num p.taken_at) (its_sending place same k) p.taking))
        by_moment e i a (Some m) f = one op (record { moment = max m s.moment; num = e.what.num; read = true; op = op }) refl
            (record { sent = s; first = h; kind = sym r; stands = record { emitted = e; first = i; read = refl; taken_at = m; taking = moment_found s.what.key e.what.num m f; moment = refl; answered = a } })

        by_answer : (o : Option (At Answer)) (a : Option (At ℕ)) → emission log op ≡ o → answering log op ≡ a → AreItsPlaces op (place_read log op s o a)
        by_answer None a e f = none op (λ place same k. let p = stands place same k in none-some p.emitted (sym e ∙ sym (ap (emission log) same) ∙ p.first))
        by_answer (Some i) None e f = none op (λ place same k. (stands place same k).answered (ap (answering log) same ∙ f))
        by_answer (Some i) (Some a) e f = by_moment i e (λ gone. none-some a (sym gone ∙ f)) (moment_of log s.what.key i.what.num) refl

  its_places : (op : ℕ) → AreItsPlaces op (places_of log op)
  its_places op = by_sending (sending log op) refl
    where
      by_kind : (s : At OpLine) → sending log op ≡ Some s → (b : Bool) → is_read s.what.op ≡ b → AreItsPlaces op (if b then place_read log op s (emission log op) (answering log op) else place_write log op s (numbering log op))
      by_kind s h true r = read_places op s h r
      by_kind s h false w = write_places op s h w

      by_sending : (o : Option (At OpLine)) → sending log op ≡ o → AreItsPlaces op (place_sent log op o)
      by_sending None e = none op (λ place same k. none-some k.sent (sym e ∙ sym (ap (sending log) same) ∙ k.first))
      by_sending (Some s) e = by_kind s e (is_read s.what.op) refl

  -- ---- the places of all

  -- an ordered list of the places of these operations
  record AreOrdered (ops : List ℕ) (ps : List Placed) : Type 0 where
    pub ordered : Pairs Before ps
    pub sound : (place : Placed) → Among place ps → IsPlace log place
    pub complete : (place : Placed) → IsPlace log place → Among place.op ops → Among place ps

  -- all of a list stand in order with others
  record AreInserted (xs ys zs : List Placed) : Type 0 where
    pub ordered : Pairs Before zs
    pub there : (z : Placed) → Among z xs → Among z zs
    pub others : (z : Placed) → Among z ys → Among z zs
    pub only : (z : Placed) → Among z zs → Among z xs ⊎ Among z ys

  all_inserted : (xs ys : List Placed) → Pairs Before ys → AreInserted xs ys (all_in_order xs ys)
  all_inserted [] ys h = record { ordered = h; there = λ z a. absurd a; others = λ z a. a; only = λ z a. inr a }
  all_inserted (x ∷ xs) ys h = more (all_inserted xs ys h) (inserted x (all_in_order xs ys) (all_inserted xs ys h).ordered)
    where
      more : AreInserted xs ys (all_in_order xs ys) → IsInserted x (all_in_order xs ys) (in_order x (all_in_order xs ys)) → AreInserted (x ∷ xs) ys (in_order x (all_in_order xs ys))
      more k i = record { ordered = i.ordered; there = there; others = λ z a. i.others z (k.others z a); only = λ z a. only z (i.only z a) }
        where
          there : (z : Placed) → Among z (x ∷ xs) → Among z (in_order x (all_in_order xs ys))
          there z (inl e) = subst (λ w. Among w (in_order x (all_in_order xs ys))) (sym e) i.there
          there z (inr a) = i.others z (k.there z a)

          either : (z : Placed) → Among z xs ⊎ Among z ys → Among z (x ∷ xs) ⊎ Among z ys
          either z (inl a) = inl (inr a)
          either z (inr a) = inr a

          only : (z : Placed) → (z ≡ x) ⊎ Among z (all_in_order xs ys) → Among z (x ∷ xs) ⊎ Among z ys
          only z (inl e) = inl (inl e)
          only z (inr a) = either z (k.only z a)

  ordered_places : (ops : List ℕ) → AreOrdered ops (places_in_order log ops)
  ordered_places [] = record { ordered = tt; sound = λ p a. absurd a; complete = λ p k a. absurd a }
  ordered_places (op ∷ ops) = more (ordered_places ops) (its_places op) (all_inserted (places_of log op) (places_in_order log ops) (ordered_places ops).ordered)
    where
      more : AreOrdered ops (places_in_order log ops) → AreItsPlaces op (places_of log op) → AreInserted (places_of log op) (places_in_order log ops) (all_in_order (places_of log op) (places_in_order log ops)) → AreOrdered (op ∷ ops) (all_in_order (places_of log op) (places_in_order log ops))
      more k p i = record { ordered = i.ordered; sound = λ q a. sound q (i.only q a); complete = complete }
        where
          sound : (q : Placed) → Among q (places_of log op) ⊎ Among q (places_in_order log ops) → IsPlace log q
          sound q (inl a) = p.sound q a
          sound q (inr a) = k.sound q a

          complete : (q : Placed) → IsPlace log q → (q.op ≡ op) ⊎ Among q.op ops → Among q (all_in_order (places_of log op) (places_in_order log ops))
          complete q h (inl e) = i.there q (p.complete q e h)
          complete q h (inr a) = i.others q (k.complete q h a)

  -- an operation that was sent has a line
  sent_there : (op : ℕ) (ls : List LogLine) (s : At OpLine) → first_told (sent_by op) ls ≡ Some s → Among op (sent_operations ls)
  sent_there op [] s h = absurd (none-some s h)
  sent_there op (l ∷ ls) s h = go l.moment l.entry (λ k. sent_there op ls s k) h
    where
      go : (m : ℕ) (e : LogEntry) → (first_told (sent_by op) ls ≡ Some s → Among op (sent_operations ls)) → or_later m (sent_by op e) (first_told (sent_by op) ls) ≡ Some s → Among op (sent_in e ++ sent_operations ls)
      go m (Sent other line) f k = by_test (other == op) refl k
        where
          by_test : (b : Bool) → (other == op) ≡ b → or_later m (if b then Some line else None) (first_told (sent_by op) ls) ≡ Some s → (op ≡ other) ⊎ Among op (sent_operations ls)
          by_test true e j = inl (sym (eqb-true other op e))
          by_test false e j = inr (f j)
      go m _ f k = f k

  pub is_history : IsHistory log (history_of log)
  is_history =
      let k = ordered_places (sent_operations log) in
      record { ordered = k.ordered; sound = k.sound; complete = λ p h. k.complete p h (sent_there p.op log h.sent h.first) }

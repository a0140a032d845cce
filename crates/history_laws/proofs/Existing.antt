-- A coherent log has a history: the places of its operations, in order.
use Rattle.std.proofs.Common.{◌≡◌, ◌≢◌, ℕ, ◌<◌, ◌≤◌, max, ◌⊎◌, inl, inr, Bool, true, false, leb, List, [], ◌∷◌, ◌++◌, refl, sym, ap, ◌∙◌, subst, arith}
use Rattle.std.specs.Prelude.{Option, Some, None}
use Rattle.std.proofs.lemmas.Bool.Decides.{leb_tells}
use Rattle.std.proofs.lemmas.Option.{same_Some}
use Rattle.far_base.specs.declared.log.LogEntry.{LogEntry}
use Rattle.far_base.specs.declared.log.LogEntry.TheVariants.{Sent, Numbered, Emitted, Answered, Admitted, Evicted, Kept, Snapped, SnapItem, Stopped, Recovered, RecItem}
use Rattle.far_base.specs.declared.log.LogLine.{LogLine}
use Rattle.far_base.specs.declared.log.Placed.{Placed}
use Rattle.far_base.specs.declared.plan.OpLine.{OpLine}
use Rattle.far_model.specs.Coherent.{Earlier, IsCoherent}
use Rattle.far_model.specs.History.{Before, HasOneLegalHistory, IsHistory, IsPlace, key_of, line_key, read_rank}
use Rattle.far_model.specs.Log.{At, answering, exposed, is_read, numbering, sending}
use Rattle.far_model.specs.Members.{Among, Pairs}
use Rattle.far_model.proofs.Members.{among_append, among_append_left, among_append_right, each_among, each_from_among}
use Rattle.history_laws.proofs.Exposed.{exposed_most, exposed_shown}
use Rattle.history_laws.proofs.Places.{answered_placed, history_in_time, history_legal, write_at, write_placed}
use Rattle.history_laws.proofs.Told.{sending_line}
use Rattle.history_laws.proofs.Unique.{same_place, the_history}

-- ---- the order of places

abbrev LeOrNot : ℕ → ℕ → Type 0
LeOrNot a b = ((leb a b ≡ true) × (a ≤ b)) ⊎ ((leb a b ≡ false) × (b < a))

-- of two places of different operations one stands before the other
before_or : (x y : Placed) → x.op ≢ y.op → Before x y ⊎ Before y x
before_or x y ne = by (leb_tells x.moment y.moment) (leb_tells y.moment x.moment) (leb_tells x.num y.num) (leb_tells y.num x.num)
    (leb_tells (read_rank x.read) (read_rank y.read)) (leb_tells (read_rank y.read) (read_rank x.read)) (leb_tells x.op y.op)
  where
    by : LeOrNot x.moment y.moment → LeOrNot y.moment x.moment → LeOrNot x.num y.num → LeOrNot y.num x.num
        → LeOrNot (read_rank x.read) (read_rank y.read) → LeOrNot (read_rank y.read) (read_rank x.read) → LeOrNot x.op y.op → Before x y ⊎ Before y x
    by (inr a) q n m r k o = inr (inl a.1)
    by (inl a) (inr b) n m r k o = inl (inl b.1)
    by (inl a) (inl b) (inr n) m r k o = inr (inr (omega (arith, a.1, b.1), inl n.1))
    by (inl a) (inl b) (inl n) (inr m) r k o = inl (inr (omega (arith, a.1, b.1), inl m.1))
    by (inl a) (inl b) (inl n) (inl m) (inr r) k o = inr (inr (omega (arith, a.1, b.1), inr (omega (arith, n.1, m.1), inl r.1)))
    by (inl a) (inl b) (inl n) (inl m) (inl r) (inr k) o = inl (inr (omega (arith, a.1, b.1), inr (omega (arith, n.1, m.1), inl k.1)))
    by (inl a) (inl b) (inl n) (inl m) (inl r) (inl k) (inr o) = inr (inr (omega (arith, a.1, b.1), inr (omega (arith, n.1, m.1), inr (omega (arith, r.1, k.1), o.1))))
    by (inl a) (inl b) (inl n) (inl m) (inl r) (inl k) (inl o) = inl (inr (omega (arith, a.1, b.1), inr (omega (arith, n.1, m.1), inr (omega (arith, r.1, k.1), omega (arith, o.1, ne)))))

no_ring : (x y z : Placed) → Before x y → Before y z → Before z x → ⊥
no_ring x y z h k m = grind arith

-- ---- lists in order

-- an ordered list with one more place
record Inserted (x : Placed) (ys : List Placed) : Type 0 where
  list : List Placed
  ordered : Pairs Before list
  from : (z : Placed) → Among z list → (z ≡ x) ⊎ Among z ys
  has : Among x list
  keeps : (z : Placed) → Among z ys → Among z list

inserted : (x : Placed) (ys : List Placed) → ((y : Placed) → Among y ys → x.op ≢ y.op) → Pairs Before ys → Inserted x ys
inserted x [] apart pairs = record { list = x ∷ []; ordered = (tt, tt); from = λ z a. a; has = inl refl; keeps = λ z a. absurd a }
inserted x (y ∷ ys) apart pairs = by (before_or x y (apart y (inl refl))) (inserted x ys (λ z a. apart z (inr a)) pairs.1)
  where
    ahead : Before x y → (z : Placed) → Among z ys → Before x z
    ahead b z a = elim (before_or x z (apart z (inr a))) [ inl c ↦ c | inr c ↦ absurd (no_ring x y z b (each_among (Before y) z ys pairs.0 a) c) ]

    behind : Before y x → (r : Inserted x ys) → (z : Placed) → (z ≡ x) ⊎ Among z ys → Before y z
    behind b r z (inl e) = subst (Before y) (sym e) b
    behind b r z (inr a) = each_among (Before y) z ys pairs.0 a

    from_tail : (r : Inserted x ys) (z : Placed) → (z ≡ y) ⊎ Among z r.list → (z ≡ x) ⊎ ((z ≡ y) ⊎ Among z ys)
    from_tail r z (inl e) = inr (inl e)
    from_tail r z (inr a) = elim (r.from z a) [ inl e ↦ inl e | inr c ↦ inr (inr c) ]

    keeps_tail : (r : Inserted x ys) (z : Placed) → (z ≡ y) ⊎ Among z ys → (z ≡ y) ⊎ Among z r.list
    keeps_tail r z (inl e) = inl e
    keeps_tail r z (inr a) = inr (r.keeps z a)

    by : Before x y ⊎ Before y x → Inserted x ys → Inserted x (y ∷ ys)
    by (inl b) r = record {
      list = x ∷ (y ∷ ys);
      ordered = ((b, each_from_among (Before x) ys (λ z a. ahead b z a)), pairs);
      from = λ z a. a;
      has = inl refl;
      keeps = λ z a. inr a;
    }
    by (inr b) r = record {
      list = y ∷ r.list;
      ordered = (each_from_among (Before y) r.list (λ z a. behind b r z (r.from z a)), r.ordered);
      from = λ z a. from_tail r z a;
      has = inr r.has;
      keeps = λ z a. keeps_tail r z a;
    }

-- ---- the places of operations

abbrev op_sent : LogEntry → List ℕ
op_sent (Sent op line) = op ∷ []
op_sent _ = []

abbrev sent_ops : List LogLine → List ℕ
sent_ops [] = []
sent_ops (l ∷ ls) = op_sent l.entry ++ sent_ops ls

abbrev top_moment : List LogLine → ℕ
top_moment [] = 0
top_moment (l ∷ ls) = max l.moment (top_moment ls)

within_top : (log : List LogLine) (l : LogLine) → Among l log → l.moment ≤ top_moment log
within_top [] l a = absurd a
within_top (x ∷ xs) l (inl e) = let q = ap (λ (w : LogLine). w.moment) e in omega (arith, q)
within_top (x ∷ xs) l (inr a) = let q = within_top xs l a in omega (arith, q)

-- nothing is exposed after the last line
exposed_by_top : (log : List LogLine) (key : List ℕ) (moment : ℕ) → exposed log key moment ≤ exposed log key (top_moment log)
exposed_by_top log key moment = by (leb_tells (exposed log key moment) 0)
  where
    by : LeOrNot (exposed log key moment) 0 → exposed log key moment ≤ exposed log key (top_moment log)
    by (inl z) = let b = z.1 in omega (arith, b)
    by (inr p) =
        let s = exposed_shown log key moment p.1 in
        exposed_most log key (top_moment log) (exposed log key moment)
        (record { op = s.op; shown_at = s.shown_at; body = s.body; near = s.near; emitted = s.emitted; on_key = s.on_key; before = within_top log _ s.emitted })

sent_among : (log : List LogLine) (at op : ℕ) (line : OpLine) → Among (record { moment = at; entry = Sent op line }) log → Among op (sent_ops log)
sent_among [] at op line a = absurd a
sent_among (l ∷ ls) at op line (inl e) = among_append_left op (op_sent l.entry) (sent_ops ls) (subst (λ (w : LogLine). Among op (op_sent w.entry)) e (inl refl))
sent_among (l ∷ ls) at op line (inr a) = among_append_right op (op_sent l.entry) (sent_ops ls) (sent_among ls at op line a)

-- a line that sends an operation
record SendsOp (log : List LogLine) (op : ℕ) : Type 0 where
  at : ℕ
  line : OpLine
  there : Among (record { moment = at; entry = Sent op line }) log

op_of_entry : (l : LogLine) (ls : List LogLine) (op : ℕ) → Among op (op_sent l.entry) → SendsOp (l ∷ ls) op
op_of_entry l ls op a = go l.entry refl a
  where
    go : (e : LogEntry) → l.entry ≡ e → Among op (op_sent e) → SendsOp (l ∷ ls) op
    go (Sent other line) is (inl same) = record { at = l.moment; line = line; there = inl (λ i. record { moment = l.moment; entry = (ap (λ o. Sent o line) same ∙ sym is) i }) }
    go (Sent other line) is (inr b) = absurd b
    go (Numbered other num) is b = absurd b
    go (Emitted other num body near) is b = absurd b
    go (Answered other) is b = absurd b
    go (Admitted slot key tag) is b = absurd b
    go (Evicted slot key tries) is b = absurd b
    go (Kept slot key num) is b = absurd b
    go (Snapped id point count same) is b = absurd b
    go (SnapItem slot item) is b = absurd b
    go Stopped is b = absurd b
    go (Recovered counter count) is b = absurd b
    go (RecItem item) is b = absurd b

among_sent : (log : List LogLine) (op : ℕ) → Among op (sent_ops log) → SendsOp log op
among_sent [] op a = absurd a
among_sent (l ∷ ls) op a = by (λ b. among_sent ls op b) (among_append op (op_sent l.entry) (sent_ops ls) a)
  where
    by : (Among op (sent_ops ls) → SendsOp ls op) → Among op (op_sent l.entry) ⊎ Among op (sent_ops ls) → SendsOp (l ∷ ls) op
    by later (inl b) = op_of_entry l ls op b
    by later (inr b) = let s = later b in record { at = s.at; line = s.line; there = inr s.there }

-- each operation is sent once
sent_apart : (log : List LogLine) → Pairs Earlier log → Pairs (λ (a b : ℕ). a ≢ b) (sent_ops log)
sent_apart [] h = tt
sent_apart (l ∷ ls) h = go (sent_apart ls h.1) l.entry refl
  where
    go : Pairs (λ (a b : ℕ). a ≢ b) (sent_ops ls) → (e : LogEntry) → l.entry ≡ e → Pairs (λ (a b : ℕ). a ≢ b) (op_sent e ++ sent_ops ls)
    go rest (Sent op line) is = (each_from_among (λ b. op ≢ b) (sent_ops ls) (λ b a. let s = among_sent ls b a in other b s), rest)
      where
        other : (b : ℕ) (s : SendsOp ls b) → op ≢ b
        other b s = let r : Earlier l (record { moment = s.at; entry = Sent b s.line }) = each_among (Earlier l) _ ls h.0 s.there in
            subst (λ e. Rattle.far_model.specs.Coherent.Rises e (Sent b s.line)) is r.1
    go rest (Numbered op num) is = rest
    go rest (Emitted op num body near) is = rest
    go rest (Answered op) is = rest
    go rest (Admitted slot key tag) is = rest
    go rest (Evicted slot key tries) is = rest
    go rest (Kept slot key num) is = rest
    go rest (Snapped id point count same) is = rest
    go rest (SnapItem slot item) is = rest
    go rest Stopped is = rest
    go rest (Recovered counter count) is = rest
    go rest (RecItem item) is = rest

-- ---- all places

module _ (log : List LogLine) (coherent : IsCoherent log) where
  abbrev HasPlace : ℕ → Type 0
  HasPlace op = (place : Placed) × (place.op ≡ op) × IsPlace log place

  abbrev HasNoPlace : ℕ → Type 0
  HasNoPlace op = (place : Placed) → place.op ≡ op → IsPlace log place → ⊥

  read_placed : (op : ℕ) (s : At OpLine) → sending log op ≡ Some s → is_read s.what.op ≡ true → HasPlace op ⊎ HasNoPlace op
  read_placed op s first reads = by (answering log op) refl
    where
      kind_is : (p : Placed) → p.op ≡ op → (h : IsPlace log p) → p.read ≡ true
      kind_is p e h = h.kind ∙ ap (λ (w : At OpLine). is_read w.what.op) (same_Some _ _ (sym h.first ∙ ap (sending log) e ∙ first)) ∙ reads

      by : (o : Option (At ℕ)) → answering log op ≡ o → HasPlace op ⊎ HasNoPlace op
      by None is = inr (λ p e h. absurd (none p e h))
        where
          none : (p : Placed) → p.op ≡ op → IsPlace log p → ⊥
          none p e h =
              let stands = Rattle.std.proofs.lemmas.Bool.MatchBool-at_true _ _ (kind_is p e h) h.stands in
              stands.answered (ap (answering log) e ∙ is)
      by (Some a) is = inl (answered_placed log coherent op a is)

  write_placed_or : (op : ℕ) (s : At OpLine) → sending log op ≡ Some s → is_read s.what.op ≡ false → HasPlace op ⊎ HasNoPlace op
  write_placed_or op s first writes = by (numbering log op) refl
    where
      kind_is : (p : Placed) → p.op ≡ op → (h : IsPlace log p) → p.read ≡ false
      kind_is p e h = h.kind ∙ ap (λ (w : At OpLine). is_read w.what.op) (same_Some _ _ (sym h.first ∙ ap (sending log) e ∙ first)) ∙ writes

      some_is_none : {X : Type 0} → (x : X) → Some x ≡ None → ⊥
      some_is_none x q = cc

      late : (own : At ℕ) → numbering log op ≡ Some own → exposed log (key_of log op) (top_moment log) < own.what → HasNoPlace op
      late own is above p e h =
          let w = write_at log coherent p h (kind_is p e h) in
          let same : w.numbered ≡ own = same_Some _ _ (sym w.numbered_first ∙ ap (numbering log) e ∙ is) in
          let key : w.sent.what.key ≡ key_of log op = ap line_key (sym w.first ∙ ap (sending log) e) in
          let shown : p.num ≤ exposed log (key_of log op) p.moment = subst (λ k. p.num ≤ exposed log k p.moment) key w.taking.taken in
          let top = exposed_by_top log (key_of log op) p.moment in
          let num : p.num ≡ own.what = w.own ∙ ap (λ (n : At ℕ). n.what) same in
          omega (arith, shown, top, num, above)

      by : (o : Option (At ℕ)) → numbering log op ≡ o → HasPlace op ⊎ HasNoPlace op
      by None is = inr (λ p e h. some_is_none _ (sym (write_at log coherent p h (kind_is p e h)).numbered_first ∙ ap (numbering log) e ∙ is))
      by (Some own) is = elim (leb_tells own.what (exposed log (key_of log op) (top_moment log))) [
        | inl b ↦ inl (write_placed log coherent op (top_moment log) own is b.1)
        | inr b ↦ inr (late own is b.1)
      ]

  placed_or : (op : ℕ) → HasPlace op ⊎ HasNoPlace op
  placed_or op = by (sending log op) refl
    where
      kind : (s : At OpLine) → sending log op ≡ Some s → (b : Bool) → is_read s.what.op ≡ b → HasPlace op ⊎ HasNoPlace op
      kind s is true e = read_placed op s is e
      kind s is false e = write_placed_or op s is e

      by : (o : Option (At OpLine)) → sending log op ≡ o → HasPlace op ⊎ HasNoPlace op
      by None is = inr (λ p e h. absurd (let q : Some h.sent ≡ None = sym h.first ∙ ap (sending log) e ∙ is in cc))
      by (Some s) is = kind s is (is_read s.what.op) refl

  record Collected (ops : List ℕ) : Type 0 where
    list : List Placed
    ordered : Pairs Before list
    sound : (p : Placed) → Among p list → IsPlace log p × Among p.op ops
    complete : (p : Placed) → IsPlace log p → Among p.op ops → Among p list

  collected : (ops : List ℕ) → Pairs (λ (a b : ℕ). a ≢ b) ops → Collected ops
  collected [] h = record { list = []; ordered = tt; sound = λ p a. absurd a; complete = λ p is a. absurd a }
  collected (op ∷ ops) h = by (placed_or op) (collected ops h.1)
    where
      by : HasPlace op ⊎ HasNoPlace op → Collected ops → Collected (op ∷ ops)
      by (inr none) r = record {
        list = r.list;
        ordered = r.ordered;
        sound = λ p a. ((r.sound p a).0, inr (r.sound p a).1);
        complete = λ p is a. complete p is a;
      }
        where
          complete : (p : Placed) → IsPlace log p → (p.op ≡ op) ⊎ Among p.op ops → Among p r.list
          complete p is (inl e) = absurd (none p e is)
          complete p is (inr a) = r.complete p is a
      by (inl x) r = record {
        list = more.list;
        ordered = more.ordered;
        sound = λ p a. sound p (more.from p a);
        complete = λ p is a. complete p is a;
      }
        where
          more : Inserted x.0 r.list
          more = inserted x.0 r.list (λ y a e. each_among (λ b. op ≢ b) y.op ops h.0 (r.sound y a).1 (sym x.1 ∙ e)) r.ordered

          sound : (p : Placed) → (p ≡ x.0) ⊎ Among p r.list → IsPlace log p × ((p.op ≡ op) ⊎ Among p.op ops)
          sound p (inl e) = (subst (IsPlace log) (sym e) x.2, inl (ap (λ (w : Placed). w.op) e ∙ x.1))
          sound p (inr a) = ((r.sound p a).0, inr (r.sound p a).1)

          complete : (p : Placed) → IsPlace log p → (p.op ≡ op) ⊎ Among p.op ops → Among p more.list
          complete p is (inl e) = subst (λ w. Among w more.list) (same_place log x.0 p x.2 is (x.1 ∙ sym e)) more.has
          complete p is (inr a) = more.keeps p (r.complete p is a)

  pub one_legal_history : HasOneLegalHistory log
  one_legal_history = record {
    history = all.list;
    is = is;
    linearizable = record { legal = history_legal log coherent all.list is; in_time = history_in_time log coherent all.list is };
    only = λ other h. the_history log other all.list h is;
  }
    where
      all : Collected (sent_ops log)
      all = collected (sent_ops log) (sent_apart log coherent.order)

      is : IsHistory log all.list
      is = record {
        ordered = all.ordered;
        sound = λ p a. (all.sound p a).0;
        complete = λ p h. all.complete p h (sent_among log h.sent.moment p.op h.sent.what (sending_line log p.op h.sent h.first));
      }

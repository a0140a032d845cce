-- The places of a coherent log: what each is, that each answered operation has one, and what two of them are to one another.
use Rattle.std.proofs.Common.{◌≡◌, ℕ, ◌<◌, ◌≤◌, max, ◌⊎◌, inl, inr, Bool, true, false, leb, List, refl, sym, ap, ◌∙◌, subst, arith, le_trans}
use Rattle.std.specs.Prelude.{Option, Some, None, slice_get}
use Rattle.std.proofs.lemmas.Bool.{MatchBool-at_true, MatchBool-at_false}
use Rattle.std.proofs.lemmas.Bool.Decides.{leb_tells}
use Rattle.std.proofs.lemmas.Option.{same_Some, none-some}
use Rattle.far_base.specs.declared.plan.OpLine.{OpLine}
use Rattle.far_base.specs.declared.log.LogLine.{LogLine}
use Rattle.far_base.specs.declared.log.Placed.{Placed}
use Rattle.far_model.specs.Members.{Pairs}
use Rattle.far_model.specs.Log.{At, Answer, is_read, sending, numbering, emission, answering, exposed, IsTakingMoment}
use Rattle.far_model.specs.History.{Before, IsWritePlace, IsReadPlace, IsPlace, IsHistory, held_by, line_key, line_body, key_of, written_by, IsLegal, KeepsRealTimeOrder}
use Rattle.far_model.specs.Coherent.{IsCoherent}
use Rattle.far_model.proofs.Members.{among_at, pairs_at}
use Rattle.history_laws.proofs.Exposed.{exposed_rises, taking_moment}
use Rattle.history_laws.proofs.Facts.{Numbers, Written, Emits, numbers, emits, answers, one_write, shown_numbered, emission_shows}
use Rattle.history_laws.proofs.Walk.{Seen, Fits, legal, before_strict}

-- the place of a write
pub record WriteAt (log : List LogLine) (x : Placed) : Type 0 where
  pub numbered : At ℕ
  pub numbered_first : numbering log x.op ≡ Some numbered
  pub own : x.num ≡ numbered.what
  pub sent : At OpLine
  pub first : sending log x.op ≡ Some sent
  pub before : sent.moment ≤ numbered.moment
  pub is_write : is_read sent.what.op ≡ false
  pub above : 0 < x.num
  pub taking : IsTakingMoment log sent.what.key x.num x.moment

-- the place of a read
pub record ReadAt (log : List LogLine) (y : Placed) : Type 0 where
  pub emitted : At Answer
  pub emitted_first : emission log y.op ≡ Some emitted
  pub answer : y.num ≡ emitted.what.num
  pub sent : At OpLine
  pub first : sending log y.op ≡ Some sent
  pub before : sent.moment ≤ emitted.moment
  pub taken_at : ℕ
  pub taking : IsTakingMoment log sent.what.key y.num taken_at
  pub moment : y.moment ≡ max taken_at sent.moment
  pub least : exposed log sent.what.key sent.moment ≤ y.num
  pub source : 0 < y.num → Written log emitted.moment sent.what.key y.num emitted.what.body
  pub unwritten : y.num ≡ 0 → emitted.what.body ≡ None

-- of two places of an ordered list the one that stands before has the earlier place
pub in_order : (history : List Placed) → Pairs Before history → (i j : ℕ) (x y : Placed) → slice_get history i ≡ Some x → slice_get history j ≡ Some y → Before x y → i < j
in_order history ordered i j x y p q b = go (leb_tells j i)
  where
    go : ((leb j i ≡ true) × (j ≤ i)) ⊎ ((leb j i ≡ false) × (i < j)) → i < j
    go (inr l) = l.1
    go (inl l) = absurd (same_or_later (leb_tells i j))
      where
        same_or_later : ((leb i j ≡ true) × (i ≤ j)) ⊎ ((leb i j ≡ false) × (j < i)) → ⊥
        same_or_later (inr m) = before_strict x y b (pairs_at Before y x history j i ordered q p m.1)
        same_or_later (inl m) =
            let same : i ≡ j = omega (arith, l.1, m.1) in
            let one : x ≡ y = same_Some _ _ (sym p ∙ ap (λ k. slice_get history k) same ∙ q) in
            let own : Before x x = subst (λ z. Before x z) (sym one) b in
            before_strict x x own own

module _ (log : List LogLine) (coherent : IsCoherent log) where
  pub write_at : (x : Placed) → IsPlace log x → x.read ≡ false → WriteAt log x
  write_at x h w =
      let p : IsWritePlace log h.sent.what x = MatchBool-at_false (IsReadPlace log h.sent.moment h.sent.what x) (IsWritePlace log h.sent.what x) w h.stands in
      let f : Numbers log x.op p.numbered = numbers log coherent x.op p.numbered p.first in
      let same : h.sent ≡ f.sent = same_Some _ _ (sym h.first ∙ f.first) in
      record {
        numbered = p.numbered;
        numbered_first = p.first;
        own = p.own;
        sent = f.sent;
        first = f.first;
        before = f.before;
        is_write = f.write;
        above = omega (arith, f.above, p.own);
        taking = subst (λ (s : At OpLine). IsTakingMoment log s.what.key x.num x.moment) same p.taking;
      }

  pub read_at : (y : Placed) → IsPlace log y → y.read ≡ true → ReadAt log y
  read_at y h r =
      let p : IsReadPlace log h.sent.moment h.sent.what y = MatchBool-at_true (IsReadPlace log h.sent.moment h.sent.what y) (IsWritePlace log h.sent.what y) r h.stands in
      let f : Emits log y.op p.emitted = emits log coherent y.op p.emitted p.first in
      let same : h.sent ≡ f.sent = same_Some _ _ (sym h.first ∙ f.first) in
      let is : is_read f.sent.what.op ≡ true = ap (λ (s : At OpLine). is_read s.what.op) (sym same) ∙ sym h.kind ∙ r in
      record {
        emitted = p.emitted;
        emitted_first = p.first;
        answer = p.read;
        sent = f.sent;
        first = f.first;
        before = f.before;
        taken_at = p.taken_at;
        taking = subst (λ (s : At OpLine). IsTakingMoment log s.what.key y.num p.taken_at) same p.taking;
        moment = p.moment ∙ ap (λ (s : At OpLine). max p.taken_at s.moment) same;
        least = omega (arith, f.read is, p.read);
        source = λ above.
            let s = f.source (omega (arith, above, p.read)) in
            let w : Written log p.emitted.moment f.sent.what.key p.emitted.what.num p.emitted.what.body = subst (λ b. Written log p.emitted.moment f.sent.what.key p.emitted.what.num b) (sym (s.2 is)) s.1 in
            subst (λ n. Written log p.emitted.moment f.sent.what.key n p.emitted.what.body) (sym p.read) w;
        unwritten = λ none. f.unwritten is (sym p.read ∙ none);
      }

  too_late : (x y : Placed) → Before x y → y.num < x.num → y.moment ≤ x.moment → ⊥
  too_late x y h k m = grind arith

  -- a number that takes effect by the moment of another on its key
  same_key_taking : (x : Placed) (w : WriteAt log x) (s : At OpLine) (op : ℕ) → sending log op ≡ Some s → key_of log x.op ≡ key_of log op → IsTakingMoment log s.what.key x.num x.moment
  same_key_taking x w s op h k = subst (λ key. IsTakingMoment log key x.num x.moment) (sym (ap line_key w.first) ∙ k ∙ ap line_key h) w.taking

  up : (x y : Placed) → IsPlace log x → IsPlace log y → x.read ≡ false → key_of log x.op ≡ key_of log y.op → Before x y → x.num ≤ y.num
  up x y hx hy w k b = go (leb_tells x.num y.num) y.read refl
    where
      wx : WriteAt log x
      wx = write_at x hx w

      go : ((leb x.num y.num ≡ true) × (x.num ≤ y.num)) ⊎ ((leb x.num y.num ≡ false) × (y.num < x.num)) → (r : Bool) → y.read ≡ r → x.num ≤ y.num
      go (inl p) r e = p.1
      go (inr p) false e =
          let wy = write_at y hy e in
          let t = same_key_taking x wx wy.sent y.op wy.first k in
          absurd (too_late x y b p.1 (wy.taking.first x.moment (omega (arith, p.1, t.taken))))
      go (inr p) true e =
          let ry = read_at y hy e in
          let t = same_key_taking x wx ry.sent y.op ry.first k in
          absurd (too_late x y b p.1 (late ry t (leb_tells ry.sent.moment x.moment)))
        where
          late : (ry : ReadAt log y) → IsTakingMoment log ry.sent.what.key x.num x.moment → ((leb ry.sent.moment x.moment ≡ true) × (ry.sent.moment ≤ x.moment)) ⊎ ((leb ry.sent.moment x.moment ≡ false) × (x.moment < ry.sent.moment)) → y.moment ≤ x.moment
          late ry t (inl q) = let f : ry.taken_at ≤ x.moment = ry.taking.first x.moment (omega (arith, p.1, t.taken)) in omega (arith, f, q.1, ry.moment)
          late ry t (inr q) = absurd (omega (arith, p.1, t.taken, ry.least, exposed_rises log ry.sent.what.key x.moment ry.sent.moment (omega (arith, q.1))))

  one : (x y : Placed) → IsPlace log x → IsPlace log y → x.read ≡ false → y.read ≡ false → x.num ≡ y.num → written_by log x ≡ written_by log y
  one x y hx hy w v e =
      let wx = write_at x hx w in
      let wy = write_at y hy v in
      let same : x.op ≡ y.op = one_write log coherent x.op y.op wx.numbered wy.numbered wx.numbered_first wy.numbered_first (omega (arith, wx.own, wy.own, e)) in
      λ i. record { num = e i; body = line_body (sending log (same i)) }

  -- the write that a read saw has a place before it
  from : (y : Placed) → IsPlace log y → y.read ≡ true → 0 < y.num → Seen log (IsPlace log) y
  from y h r above =
      let ry = read_at y h r in
      let s = ry.source above in
      let x : Placed = record { moment = ry.taken_at; num = y.num; read = false; op = s.op } in
      record {
        write = x;
        placed = record {
          sent = s.sent;
          first = s.first;
          kind = sym s.write;
          stands = record {
            numbered = record { moment = s.numbered_at; what = y.num };
            first = s.numbered;
            own = refl;
            taking = subst (λ key. IsTakingMoment log key y.num ry.taken_at) (sym s.on_key) ry.taking;
          };
        };
        is_write = refl;
        on_key = ap line_key s.first ∙ s.on_key ∙ sym (ap line_key ry.first);
        same = ap held_by ry.emitted_first ∙ (λ i. record { num = sym ry.answer i; body = sym s.same_body i }) ∙ sym (ap (λ (o : Option (At OpLine)). record { num = y.num; body = line_body o }) s.first);
        before = earlier ry.taken_at s.op y r (leb_tells y.moment ry.taken_at) (omega (arith, ry.moment));
      }
    where
      earlier : (at op : ℕ) (y : Placed) → y.read ≡ true → ((leb y.moment at ≡ true) × (y.moment ≤ at)) ⊎ ((leb y.moment at ≡ false) × (at < y.moment)) → at ≤ y.moment → Before (record { moment = at; num = y.num; read = false; op = op }) y
      earlier at op y r (inl p) m = inr (omega (arith, p.1, m), inr (refl, inl (rw r (omega arith))))
      earlier at op y r (inr p) m = inl p.1

  pub fits : Fits log (IsPlace log)
  fits = record {
    up = up;
    from = from;
    one = one;
    zero = λ y h r e. let ry = read_at y h r in ap held_by ry.emitted_first ∙ (λ i. record { num = (sym ry.answer ∙ e) i; body = ry.unwritten e i });
    number = λ y h r. let ry = read_at y h r in ap (λ (o : Option (At Answer)). (held_by o).num) ry.emitted_first ∙ sym ry.answer;
    positive = λ x h w. (write_at x h w).above;
  }

  pub history_legal : (history : List Placed) → IsHistory log history → IsLegal log history
  history_legal history h = legal log (IsPlace log) fits history h.ordered h.sound h.complete

  -- no operation takes effect after the switch answered
  placed_by_answer : (x : Placed) (e : At Answer) → IsPlace log x → emission log x.op ≡ Some e → x.moment ≤ e.moment
  placed_by_answer x e h k = go x.read refl
    where
      go : (r : Bool) → x.read ≡ r → x.moment ≤ e.moment
      go false w =
          let wx = write_at x h w in
          let f = emits log coherent x.op e k in
          let same : wx.sent ≡ f.sent = same_Some _ _ (sym wx.first ∙ f.first) in
          let owns = f.write (ap (λ (s : At OpLine). is_read s.what.op) (sym same) ∙ wx.is_write) in
          let own : wx.numbered.what ≡ owns.own.what = ap (λ (n : At ℕ). n.what) (same_Some _ _ (sym wx.numbered_first ∙ owns.first)) in
          wx.taking.first e.moment (omega (arith, wx.own, own, owns.within, emission_shows log coherent x.op e wx.sent k wx.first))
      go true r =
          let rx = read_at x h r in
          let same : rx.emitted ≡ e = same_Some _ _ (sym rx.emitted_first ∙ k) in
          let at : rx.emitted.moment ≡ e.moment = ap (λ (a : At Answer). a.moment) same in
          let taken : rx.taken_at ≤ rx.emitted.moment = rx.taking.first rx.emitted.moment (omega (arith, rx.answer, emission_shows log coherent x.op rx.emitted rx.sent rx.emitted_first rx.first)) in
          omega (arith, at, taken, rx.before, rx.moment)

  pub placed_by : (x : Placed) (a : At ℕ) → IsPlace log x → answering log x.op ≡ Some a → x.moment ≤ a.moment
  placed_by x a h k = let e = answers log coherent x.op a k in le_trans (placed_by_answer x e.0 h e.1) e.2

  -- and none before it was sent
  pub placed_from : (y : Placed) (s : At OpLine) → IsPlace log y → sending log y.op ≡ Some s → s.moment ≤ y.moment
  placed_from y s h k = go y.read refl
    where
      go : (r : Bool) → y.read ≡ r → s.moment ≤ y.moment
      go false w =
          let wy = write_at y h w in
          let same : s ≡ wy.sent = same_Some _ _ (sym k ∙ wy.first) in
          let at : s.moment ≡ wy.sent.moment = ap (λ (t : At OpLine). t.moment) same in
          let shown : wy.numbered.moment ≤ y.moment = shown_numbered log coherent wy.sent.what.key y.op wy.numbered y.moment wy.numbered_first (omega (arith, wy.own, wy.taking.taken)) in
          omega (arith, at, shown, wy.before)
      go true r =
          let ry = read_at y h r in
          let same : s ≡ ry.sent = same_Some _ _ (sym k ∙ ry.first) in
          let at : s.moment ≡ ry.sent.moment = ap (λ (t : At OpLine). t.moment) same in
          omega (arith, at, ry.moment)

  pub history_in_time : (history : List Placed) → IsHistory log history → KeepsRealTimeOrder log history
  history_in_time history h i j x y a s p q k m late =
      let hx : IsPlace log x = h.sound x (among_at x history i p) in
      let hy : IsPlace log y = h.sound y (among_at y history j q) in
      let before : x.moment < y.moment = omega (arith, placed_by x a hx k, placed_from y s hy m, late) in
      in_order history h.ordered i j x y p q (inl before)

  -- a write whose number was exposed has a place
  pub write_placed : (op moment : ℕ) (n : At ℕ) → numbering log op ≡ Some n → n.what ≤ exposed log (key_of log op) moment → (place : Placed) × (place.op ≡ op) × IsPlace log place
  write_placed op moment n h k =
      let f = numbers log coherent op n h in
      let t = taking_moment log f.sent.what.key n.what moment (subst (λ key. n.what ≤ exposed log key moment) (ap line_key f.first) k) in (
        record { moment = t.0; num = n.what; read = false; op = op },
        refl,
        record { sent = f.sent; first = f.first; kind = sym f.write; stands = record { numbered = n; first = h; own = refl; taking = t.1 } },
      )

  -- so does an answered operation
  pub answered_placed : (op : ℕ) (a : At ℕ) → answering log op ≡ Some a → (place : Placed) × (place.op ≡ op) × IsPlace log place
  answered_placed op a h = let e = answers log coherent op a h in by_answer e.0 e.1 (emits log coherent op e.0 e.1)
    where
      by_answer : (e : At Answer) → emission log op ≡ Some e → Emits log op e → (place : Placed) × (place.op ≡ op) × IsPlace log place
      by_answer e k f = go (is_read f.sent.what.op) refl
        where
          shown : e.what.num ≤ exposed log f.sent.what.key e.moment
          shown = emission_shows log coherent op e f.sent k f.first

          go : (r : Bool) → is_read f.sent.what.op ≡ r → (place : Placed) × (place.op ≡ op) × IsPlace log place
          go true r =
              let t = taking_moment log f.sent.what.key e.what.num e.moment shown in (
                record { moment = max t.0 f.sent.moment; num = e.what.num; read = true; op = op },
                refl,
                record { sent = f.sent; first = f.first; kind = sym r; stands = record { emitted = e; first = k; read = refl; taken_at = t.0; taking = t.1; moment = refl; answered = λ none. absurd (none-some a (sym none ∙ h)) } },
              )
          go false w =
              let o = f.write w in
              write_placed op e.moment o.own o.first (subst (λ key. o.own.what ≤ exposed log key e.moment) (sym (ap line_key f.first)) (le_trans o.within shown))

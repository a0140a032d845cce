-- What a coherent log says of the operations, by their first lines.
use Rattle.std.proofs.Common.{◌≡◌, ℕ, ◌<◌, ◌≤◌, ◌⊎◌, inl, inr, true, false, List, ap, arith}
use Rattle.std.specs.Prelude.{Option, Some, None}
use Rattle.far_base.specs.declared.plan.OpLine.{OpLine}
use Rattle.far_base.specs.declared.log.LogLine.{LogLine}
use Rattle.far_base.specs.declared.log.LogEntry.{LogEntry}
use Rattle.far_base.specs.declared.log.LogEntry.TheVariants.{Numbered, Emitted, Answered}
use Rattle.far_model.specs.Log.{At, Answer, is_read, sending, numbering, emission, answering, exposed}
use Rattle.far_model.specs.Coherent.{Earlier, WasWritten, IsNumbering, IsEmission, IsAnswering, IsCoherent}
use Rattle.far_model.proofs.Members.{pairs_among}
use Rattle.history_laws.proofs.Told.{numbering_line, emission_line, answering_line, sending_is, numbering_is, emission_is}
use Rattle.history_laws.proofs.Exposed.{exposed_shown, exposed_most, on_sent}

-- a numbered write: what it does, and when it was sent
pub record Numbers (log : List LogLine) (op : ℕ) (n : At ℕ) : Type 0 where
  pub sent : At OpLine
  pub first : sending log op ≡ Some sent
  pub before : sent.moment ≤ n.moment
  pub write : is_read sent.what.op ≡ false
  pub above : 0 < n.what

-- a write on the key that has this number and this body
pub record Written (log : List LogLine) (moment : ℕ) (key : List ℕ) (num : ℕ) (body : Option (List ℕ)) : Type 0 where
  pub op : ℕ
  pub numbered_at : ℕ
  pub numbered : numbering log op ≡ Some (record { moment = numbered_at; what = num })
  pub before : numbered_at ≤ moment
  pub sent : At OpLine
  pub first : sending log op ≡ Some sent
  pub write : is_read sent.what.op ≡ false
  pub on_key : sent.what.key ≡ key
  pub same_body : sent.what.body ≡ body

pub record Owns (log : List LogLine) (op num : ℕ) : Type 0 where
  pub own : At ℕ
  pub first : numbering log op ≡ Some own
  pub within : own.what ≤ num

-- an answer of the switch to an operation
pub record Emits (log : List LogLine) (op : ℕ) (e : At Answer) : Type 0 where
  pub sent : At OpLine
  pub first : sending log op ≡ Some sent
  pub before : sent.moment ≤ e.moment
  pub source : 0 < e.what.num → (body : Option (List ℕ)) × Written log e.moment sent.what.key e.what.num body × (is_read sent.what.op ≡ true → e.what.body ≡ body)
  pub unwritten : is_read sent.what.op ≡ true → e.what.num ≡ 0 → e.what.body ≡ None
  pub read : is_read sent.what.op ≡ true → exposed log sent.what.key sent.moment ≤ e.what.num
  pub write : is_read sent.what.op ≡ false → Owns log op e.what.num

module _ (log : List LogLine) (coherent : IsCoherent log) where
  pub numbers : (op : ℕ) (n : At ℕ) → numbering log op ≡ Some n → Numbers log op n
  numbers op n h =
      let f : IsNumbering log n.moment op n.what = coherent.lines (record { moment = n.moment; entry = Numbered op n.what }) (numbering_line log op n h) in
      record {
        sent = record { moment = f.sent.sent_at; what = f.sent.line };
        first = sending_is log coherent.order op f.sent.sent_at f.sent.line f.sent.sent;
        before = f.sent.before;
        write = f.write;
        above = f.above;
      }

  written : (moment : ℕ) (key : List ℕ) (num : ℕ) (body : Option (List ℕ)) → WasWritten log moment key num body → Written log moment key num body
  written moment key num body w = record {
    op = w.op;
    numbered_at = w.numbered_at;
    numbered = numbering_is log coherent.order w.op w.numbered_at num w.numbered;
    before = w.before;
    sent = record { moment = w.sent_at; what = w.line };
    first = sending_is log coherent.order w.op w.sent_at w.line w.sent;
    write = w.write;
    on_key = w.on_key;
    same_body = w.same_body;
  }

  pub emits : (op : ℕ) (e : At Answer) → emission log op ≡ Some e → Emits log op e
  emits op e h =
      let f : IsEmission log e.moment op e.what.num e.what.body = coherent.lines (record { moment = e.moment; entry = Emitted op e.what.num e.what.body e.what.near }) (emission_line log op e h) in
      record {
        sent = record { moment = f.sent.sent_at; what = f.sent.line };
        first = sending_is log coherent.order op f.sent.sent_at f.sent.line f.sent.sent;
        before = f.sent.before;
        source = λ p. let s = f.source p in (s.0, written e.moment f.sent.line.key e.what.num s.0 s.1, s.2);
        unwritten = f.unwritten;
        read = f.read;
        write = λ w. let o = f.write w in record { own = record { moment = o.is.numbered_at; what = o.own }; first = numbering_is log coherent.order op o.is.numbered_at o.own o.is.numbered; within = o.within };
      }

  -- an operation that was answered has an answer of the switch
  pub answers : (op : ℕ) (a : At ℕ) → answering log op ≡ Some a → (e : At Answer) × (emission log op ≡ Some e) × (e.moment ≤ a.moment)
  answers op a h =
      let f : IsAnswering log a.moment op = coherent.lines (record { moment = a.moment; entry = Answered op }) (answering_line log op a h) in
      (record { moment = f.emitted_at; what = record { num = f.num; body = f.body; near = f.near } }, emission_is log coherent.order op f.emitted_at f.num f.body f.near f.emitted, f.before)

  abbrev numbered_line : ℕ → At ℕ → LogLine
  numbered_line op n = record { moment = n.moment; entry = Numbered op n.what }

  abbrev numbered_op : LogEntry → ℕ
  numbered_op (Numbered op num) = op
  numbered_op _ = 0

  -- two numbered writes are one, or the numbers rise with the moments
  abbrev pub Ordered : ℕ → ℕ → At ℕ → At ℕ → Type 0
  Ordered a b m n = ((a ≡ b) × (m.moment ≡ n.moment)) ⊎ (((m.moment ≤ n.moment) × (m.what < n.what)) ⊎ ((n.moment ≤ m.moment) × (n.what < m.what)))

  pub numbered_pair : (a b : ℕ) (m n : At ℕ) → numbering log a ≡ Some m → numbering log b ≡ Some n → Ordered a b m n
  numbered_pair a b m n h k = go (pairs_among Earlier (numbered_line a m) (numbered_line b n) log coherent.order (numbering_line log a m h) (numbering_line log b n k))
    where
      go : (numbered_line a m ≡ numbered_line b n) ⊎ (Earlier (numbered_line a m) (numbered_line b n) ⊎ Earlier (numbered_line b n) (numbered_line a m)) → Ordered a b m n
      go (inl e) = inl (ap (λ (l : LogLine). numbered_op l.entry) e, ap (λ (l : LogLine). l.moment) e)
      go (inr (inl r)) = inr (inl (r.0, r.1.1))
      go (inr (inr r)) = inr (inr (r.0, r.1.1))

  pub one_write : (a b : ℕ) (m n : At ℕ) → numbering log a ≡ Some m → numbering log b ≡ Some n → m.what ≡ n.what → a ≡ b
  one_write a b m n h k e = go (numbered_pair a b m n h k)
    where
      go : Ordered a b m n → a ≡ b
      go (inl f) = f.0
      go (inr (inl r)) = absurd (omega (arith, r.1))
      go (inr (inr r)) = absurd (omega (arith, r.1))

  -- a greater number is given no earlier
  pub numbers_rise : (a b : ℕ) (m n : At ℕ) → numbering log a ≡ Some m → numbering log b ≡ Some n → m.what ≤ n.what → m.moment ≤ n.moment
  numbers_rise a b m n h k e = go (numbered_pair a b m n h k)
    where
      go : Ordered a b m n → m.moment ≤ n.moment
      go (inl f) = omega (arith, f.1)
      go (inr (inl r)) = r.0
      go (inr (inr r)) = absurd (omega (arith, r.1))

  -- what has left the switch by a moment was numbered by then
  pub shown_numbered : (key : List ℕ) (op : ℕ) (n : At ℕ) (moment : ℕ) → numbering log op ≡ Some n → n.what ≤ exposed log key moment → n.moment ≤ moment
  shown_numbered key op n moment h k =
      let above : 0 < n.what = (numbers op n h).above in
      let s = exposed_shown log key moment (omega (arith, above, k)) in
      let e : emission log s.op ≡ Some (record { moment = s.shown_at; what = record { num = exposed log key moment; body = s.body; near = s.near } }) = emission_is log coherent.order s.op s.shown_at (exposed log key moment) s.body s.near s.emitted in
      let w = ((emits s.op (record { moment = s.shown_at; what = record { num = exposed log key moment; body = s.body; near = s.near } }) e).source (omega (arith, above, k))).1 in
      let r : n.moment ≤ w.numbered_at = numbers_rise op w.op n (record { moment = w.numbered_at; what = exposed log key moment }) h w.numbered k in
      omega (arith, r, w.before, s.before)

  -- an answer shows its number
  pub emission_shows : (op : ℕ) (e : At Answer) (s : At OpLine) → emission log op ≡ Some e → sending log op ≡ Some s → e.what.num ≤ exposed log s.what.key e.moment
  emission_shows op e s h k = exposed_most log s.what.key e.moment e.what.num (record { op = op; shown_at = e.moment; body = e.what.body; near = e.what.near; emitted = emission_line log op e h; on_key = on_sent log op s k; before = omega arith })

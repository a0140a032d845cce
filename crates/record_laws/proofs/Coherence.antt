-- What the invariants say of the log: it is coherent.
use Rattle.far_invariants.specs.Numbers.{ExposedAtMostBy, IsNumberOf}
use Rattle.far_invariants.specs.Operations.{AnswerStands, LineStands, OperationsStand}
use Rattle.far_invariants.proofs.Keys.{same_key_true}
use Rattle.std.proofs.Common.{◌≡◌, ℕ, ◌≤◌, inl, inr, Bool, true, false, List, [], ◌∷◌, refl, sym, ap, ◌∙◌, subst, arith, leb-true, eqb-true}
use Rattle.std.specs.Prelude.{Option, Some, None, if◌then◌else◌, ◌==◌, nat_le}
use Rattle.std.proofs.lemmas.Option.{same_Some}
use Rattle.far_base.specs.PlanView.{PlanView}
use Rattle.far_base.specs.declared.log.LogEntry.{LogEntry}
use Rattle.far_base.specs.declared.log.LogEntry.TheVariants.{Sent, Numbered, Emitted, Answered}
use Rattle.far_base.specs.declared.log.LogLine.{LogLine}
use Rattle.far_base.specs.declared.plan.OpLine.{OpLine}
use Rattle.far_model.specs.Clients.{line_of}
use Rattle.far_model.specs.Coherent.{Stands, IsCoherent, WasWritten, IsEmission}
use Rattle.far_model.specs.Log.{At, first_told, or_later, sent_by, sending, sent_on, is_on, exposed, number_exposed, greatest_exposed}
use Rattle.far_model.specs.Members.{Among}
use Rattle.far_model.specs.State.{State, line_at}

-- ---- what is exposed is what the lines show

sent_entry : (op : ℕ) (e : LogEntry) (x : OpLine) → sent_by op e ≡ Some x → e ≡ Sent op x
sent_entry op (Sent other line) x h = go (other == op) refl h
  where
    go : (b : Bool) → (other == op) ≡ b → (if b then Some line else None) ≡ Some x → Sent other line ≡ Sent op x
    go true e k = let same = eqb-true other op e in let is = same_Some line x k in λ i. Sent (same i) (is i)
    go false e k = absurd cc
sent_entry op _ x h = absurd cc

sending_line : (op : ℕ) (log : List LogLine) (s : At OpLine) → first_told (sent_by op) log ≡ Some s → Among (line_at s.moment (Sent op s.what)) log
sending_line op [] s h = absurd cc
sending_line op (l ∷ ls) s h = go (λ k. sending_line op ls s k) (sent_by op l.entry) refl h
  where
    go : (first_told (sent_by op) ls ≡ Some s → Among (line_at s.moment (Sent op s.what)) ls) → (o : Option OpLine) → sent_by op l.entry ≡ o → or_later l.moment o (first_told (sent_by op) ls) ≡ Some s → Among (line_at s.moment (Sent op s.what)) (l ∷ ls)
    go f None e k = inr (f k)
    go f (Some x) e k =
        let is : l.entry ≡ Sent op x = sent_entry op l.entry x e in
        let first : record { moment = l.moment; what = x } ≡ s = same_Some _ _ k in
        inl (sym ((λ i. record { moment = l.moment; entry = is i }) ∙ ap (λ (w : At OpLine). line_at w.moment (Sent op w.what)) first))

pub record SentOn (log : List LogLine) (key : List ℕ) (op : ℕ) : Type 0 where
  pub sent_at : ℕ
  pub line : OpLine
  pub sent : Among (line_at sent_at (Sent op line)) log
  pub on_key : key ≡ line.key

pub on_sent : (log : List LogLine) (key : List ℕ) (op : ℕ) → is_on log key op ≡ true → SentOn log key op
on_sent log key op h = go (sending log op) refl h
  where
    go : (o : Option (At OpLine)) → sending log op ≡ o → sent_on key o ≡ true → SentOn log key op
    go None e k = absurd cc
    go (Some s) e k = record { sent_at = s.moment; line = s.what; sent = sending_line op log s e; on_key = same_key_true key s.what.key k }

shown_most : (on : ℕ → Bool) (moment n : ℕ) (log : List LogLine) → ((l : LogLine) → Among l log → l.moment ≤ moment → number_exposed on l.entry ≤ n) → greatest_exposed on moment log ≤ n
shown_most on moment n [] h = omega arith
shown_most on moment n (l ∷ ls) h =
    let rest = shown_most on moment n ls (λ m a. h m (inr a)) in
    let first = go (nat_le l.moment moment) refl in
    omega (arith, rest, first)
  where
    go : (b : Bool) → nat_le l.moment moment ≡ b → (if b then number_exposed on l.entry else 0) ≤ n
    go true e = h l (inl refl) (leb-true l.moment moment e)
    go false e = omega arith

pub exposed_most : (plan : PlanView) (s : State) → OperationsStand plan s → (key : List ℕ) (moment n : ℕ) → ExposedAtMostBy plan s.log key moment n → exposed s.log key moment ≤ n
exposed_most plan s k key moment n h = shown_most (is_on s.log key) moment n s.log (λ l a b. line l.entry l.moment a b)
  where
    line : (entry : LogEntry) (at : ℕ) → Among (line_at at entry) s.log → at ≤ moment → number_exposed (is_on s.log key) entry ≤ n
    line (Emitted op num body near) at a b = go (is_on s.log key op) refl
      where
        go : (t : Bool) → is_on s.log key op ≡ t → (if t then num else 0) ≤ n
        go true e =
            let on = on_sent s.log key op e in
            let is : on.line ≡ line_of plan.ops op = (k.lines _ on.sent).stands in
            h at op num body near a (sym (on.on_key ∙ ap (λ (w : OpLine). w.key) is)) b
        go false e = omega arith
    line (Sent op line') at a b = omega arith
    line (Numbered op num) at a b = omega arith
    line (Answered op) at a b = omega arith
    line _ at a b = omega arith

-- ---- the log is coherent

was_written : (plan : PlanView) (s : State) → OperationsStand plan s → (moment : ℕ) (key : List ℕ) (num : ℕ) (body : Option (List ℕ)) → IsNumberOf plan s.log moment key num body → WasWritten s.log moment key num body
was_written plan s k moment key num body h =
    let stands = (k.lines _ h.own.numbered).stands in
    record {
      op = h.op;
      numbered_at = h.own.numbered_at;
      numbered = h.own.numbered;
      before = h.own.before;
      sent_at = stands.sent.sent_at;
      line = line_of plan.ops h.op;
      sent = stands.sent.sent;
      write = stands.write;
      on_key = h.on_key;
      same_body = h.same_body;
    }

emission : (plan : PlanView) (s : State) → OperationsStand plan s → (moment op num : ℕ) (body : Option (List ℕ)) (near : Bool) → AnswerStands plan s moment op (record { num = num; body = body; near = near }) → IsEmission s.log moment op num body
emission plan s k moment op num body near h = record {
  sent = record { sent_at = h.sent.sent_at; line = line_of plan.ops op; sent = h.sent.sent; before = h.sent.before };
  source = λ above. (h.written, subst (λ key. WasWritten s.log moment key num h.written) (sym h.on_key) (was_written plan s k moment h.key num h.written (h.source.some above)), h.same);
  unwritten = λ read zero. h.same read ∙ h.source.none zero;
  read = λ read. subst (λ key. exposed s.log key h.sent.sent_at ≤ num) (sym h.on_key) (exposed_most plan s k h.key h.sent.sent_at num (h.floor read));
  write = h.own;
}

stands : (plan : PlanView) (s : State) → OperationsStand plan s → (moment : ℕ) (entry : LogEntry) → LineStands plan s moment entry → Stands s.log moment entry
stands plan s k moment (Numbered op num) h = record {
  sent = record { sent_at = h.sent.sent_at; line = line_of plan.ops op; sent = h.sent.sent; before = h.sent.before };
  write = h.write;
  above = h.above;
}
stands plan s k moment (Emitted op num body near) h = emission plan s k moment op num body near h
stands plan s k moment (Answered op) h = h
stands plan s k moment _ h = tt

pub coherent : (plan : PlanView) (s : State) → OperationsStand plan s → IsCoherent s.log
coherent plan s k = record { order = k.order; lines = λ l a. stands plan s k l.moment l.entry (k.lines l a).stands }

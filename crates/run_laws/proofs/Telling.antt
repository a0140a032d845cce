-- What the log tells of each operation of the history, once nothing is left to do.
use Rattle.std.proofs.Common.{◌≡◌, ◌≢◌, ℕ, suc, ◌+◌, ◌-◌, ◌^◌, ◌<◌, ◌≤◌, ◌⊎◌, inl, inr, Bool, true, false, List, [], ◌∷◌, ◌++◌, length, map, refl, sym, ap, ◌∙◌, subst, arith, append_assoc, eqb}
use Rattle.std.specs.Prelude.{Option, Some, None, nat_eq, if◌then◌else◌}
use Rattle.std.specs.List.{AllByRecursion, IsDistinct, list_any}
use Rattle.std.proofs.lemmas.Bool.{MatchBool-at_false, MatchBool-at_true, and_parts, cases_lt}
use Rattle.std.proofs.lemmas.Bool.Decides.{eqb_tells}
use Rattle.std.proofs.lemmas.List.{append-nil, length-map}
use Rattle.std.proofs.lemmas.Map.Steps.{length-le_from_distinct_below}
use Rattle.std.proofs.lemmas.Option.{same_Some}
use Rattle.far_base.specs.Limits.{IsPlan}
use Rattle.far_base.specs.PlanView.{PlanView}
use Rattle.far_base.specs.declared.event.Event.{Event}
use Rattle.far_base.specs.declared.log.LogEntry.{LogEntry}
use Rattle.far_base.specs.declared.log.LogEntry.TheVariants.{Sent, Numbered, Emitted, Answered, Recovered}
use Rattle.far_base.specs.declared.log.LogLine.{LogLine}
use Rattle.far_base.specs.declared.log.Placed.{Placed}
use Rattle.far_base.specs.declared.plan.OpLine.{OpLine}
use Rattle.far_base.specs.declared.record.Record.{Record}
use Rattle.far_model.specs.Clients.{ClientState, line_of, opening_client, script_from}
use Rattle.far_model.specs.Events.{all_listed, happens, keeping_of, recovery_items}
use Rattle.far_model.specs.History.{Before, IsHistory, IsPlace, IsReadPlace, IsWritePlace}
use Rattle.far_model.specs.Log.{At, Answer, answering, emission, is_read, numbering}
use Rattle.far_model.specs.Members.{Among, Each, Pairs}
use Rattle.far_model.specs.Replies.{ceiling_with, kept_events}
use Rattle.far_model.specs.Runs.{IsRun, is_finished, run}
use Rattle.far_model.specs.Work.{work_bound, work_left}
use Rattle.far_model.specs.State.{State, client_at, line_at, nobody, noted, now, opening}
use Rattle.far_model.proofs.Members.{among_map_from, each_among, pairs_map}
use Rattle.far_model.proofs.Runs.{is_run_left, is_run_right, kept_events_run, run_append}
use Rattle.far_invariants.proofs.Noted.{IsNote, log_cases, member}
use Rattle.far_invariants.specs.Logged.{OperationsAreLogged}
use Rattle.far_invariants.specs.Logs.{LogIsSound}
use Rattle.far_invariants.specs.Notes.{EventNotes, IsOfNone, IsPassNote, OfAnswer, OfNone, OfPass, OfRestart, OfSending}
use Rattle.far_invariants.specs.Numbers.{NumbersAreSound}
use Rattle.far_invariants.specs.Room.{HasRoom}
use Rattle.far_invariants.specs.Sent.{HasBeenSent}
use Rattle.flight_laws.proofs.Ceilings.{kept_is_run, opening_within_none}
use Rattle.flight_laws.proofs.Logged.{finished_answers, kept_logged}
use Rattle.flight_laws.proofs.Noting.{event_notes}
use Rattle.flight_laws.proofs.Roomy.{run_has_room}
use Rattle.flight_laws.proofs.ScriptLaws.{opens_client}
use Rattle.history_laws.proofs.Facts.{answers, emits}
use Rattle.history_laws.proofs.Told.{answering_line, numbering_line, sending_is, sending_line}
use Rattle.history_laws.proofs.Unique.{same_place}
use Rattle.history_laws.proofs.Walk.{before_strict}
use Rattle.record_laws.proofs.Meanings.{log_sound, numbers_sound}
use Rattle.run_laws.proofs.Steps.{holds}
use Rattle.run_laws.specs.ToldHistory.{HistoryIsTold, IsBodyOfPlan, IsOfPlan, IsToldOf}

-- ---- what every step keeps: operations are of the plan, and each was sent before the step of its answer

record WasSentBefore (log : List LogLine) (at op : ℕ) : Type 0 where
  sent_at : ℕ
  line : OpLine
  sent : Among (line_at sent_at (Sent op line)) log
  before : sent_at < at

record Spans (plan : PlanView) (s : State) : Type 0 where
  left : (c op : ℕ) → Among op (client_at s c).left → IsOfPlan plan op
  sent : (at op : ℕ) (line : OpLine) → Among (line_at at (Sent op line)) s.log → IsOfPlan plan op
  span : (at op : ℕ) → Among (line_at at (Answered op)) s.log → WasSentBefore s.log at op

-- a note that sends or answers
abbrev IsOfSpan : LogEntry → Type 0
IsOfSpan (Sent op line) = Unit {0}
IsOfSpan (Answered op) = Unit {0}
IsOfSpan _ = ⊥

passes_none : (op : ℕ) (entry : LogEntry) → IsPassNote op entry → IsOfSpan entry → ⊥
passes_none op (Numbered other num) h k = k
passes_none op (Emitted other num body near) h k = k
passes_none op (Sent other line) h k = h
passes_none op (Answered other) h k = h
passes_none op _ h k = h

none_none : (entry : LogEntry) → IsOfNone entry → IsOfSpan entry → ⊥
none_none (Sent op line) h k = h
none_none (Answered op) h k = h
none_none _ h k = k

items_none : (records : List Record) (entry : LogEntry) → Among entry (recovery_items records) → IsOfSpan entry → ⊥
items_none [] entry a k = a
items_none (r ∷ rs) entry (inl e) k = subst IsOfSpan e k
items_none (r ∷ rs) entry (inr a) k = items_none rs entry a k

restart_none : (counter count : ℕ) (records : List Record) (entry : LogEntry) → (entry ≡ Recovered counter count) ⊎ Among entry (recovery_items records) → IsOfSpan entry → ⊥
restart_none counter count records entry (inl e) k = subst IsOfSpan e k
restart_none counter count records entry (inr a) k = items_none records entry a k

module _ (plan : PlanView) (s t : State) (notes : List LogEntry) (log : t.log ≡ noted s notes) (h : Spans plan s) where
  sent_before : (at op : ℕ) → WasSentBefore s.log at op → WasSentBefore t.log at op
  sent_before at op w = record { sent_at = w.sent_at; line = w.line; sent = member s t notes log _ w.sent; before = w.before }

  -- where nothing is sent and nothing answered
  goes_on : ((c : ℕ) → (client_at t c).left ≡ (client_at s c).left) → ((entry : LogEntry) → Among entry notes → IsOfSpan entry → ⊥) → Spans plan t
  goes_on left none = record {
    left = λ c op a. h.left c op (subst (λ (l : List ℕ). Among op l) (left c) a);
    sent = λ at op line a. old_sent at op line (log_cases s t notes log _ a);
    span = λ at op a. old_span at op (log_cases s t notes log _ a);
  }
    where
      old_sent : (at op : ℕ) (line : OpLine) → Among (line_at at (Sent op line)) s.log ⊎ IsNote notes (now s) (line_at at (Sent op line)) → IsOfPlan plan op
      old_sent at op line (inl a) = h.sent at op line a
      old_sent at op line (inr n) = absurd (none n.entry n.among (subst IsOfSpan (ap (λ (l : LogLine). l.entry) n.is) tt))

      old_span : (at op : ℕ) → Among (line_at at (Answered op)) s.log ⊎ IsNote notes (now s) (line_at at (Answered op)) → WasSentBefore t.log at op
      old_span at op (inl a) = sent_before at op (h.span at op a)
      old_span at op (inr n) = absurd (none n.entry n.among (subst IsOfSpan (ap (λ (l : LogLine). l.entry) n.is) tt))

abbrev IsOrNot : ℕ → ℕ → Type 0
IsOrNot d c = ((eqb d c ≡ true) × (d ≡ c)) ⊎ ((eqb d c ≡ false) × (d ≢ c))

module _ (plan : PlanView) (s t : State) (logged : OperationsAreLogged plan s) (h : Spans plan s) where
  grows : {e : Event} → EventNotes plan (keeping_of s e) s e t → Spans plan t
  grows (OfPass c op notes waits log each few on) = goes_on plan s t notes log h on.left (λ entry a k. passes_none op entry (each_among (IsPassNote op) entry notes each a) k)
  grows (OfNone notes log each on) = goes_on plan s t notes log h on.left (λ entry a k. none_none entry (each_among IsOfNone entry notes each a) k)
  grows (OfRestart counter is able log on) = goes_on plan s t (Recovered counter (length (all_listed s.servers)) ∷ recovery_items (all_listed s.servers)) log h on.left (λ entry a k. restart_none counter (length (all_listed s.servers)) (all_listed s.servers) entry a k)
  grows (OfAnswer c op waits log are) = record {
    left = λ d other a. left d other a (eqb_tells d c);
    sent = λ at other line a. sent at other line (log_cases s t (Answered op ∷ []) log _ a);
    span = λ at other a. span at other (log_cases s t (Answered op ∷ []) log _ a);
  }
    where
      left : (d other : ℕ) → Among other (client_at t d).left → IsOrNot d c → IsOfPlan plan other
      left d other a (inl p) = h.left c other (subst (λ (l : List ℕ). Among other l) are.left_are (subst (λ n. Among other (client_at t n).left) p.1 a))
      left d other a (inr p) = h.left d other (subst (λ (l : List ℕ). Among other l) (ap (λ (w : ClientState). w.left) (are.others d p.1)) a)

      sent : (at other : ℕ) (line : OpLine) → Among (line_at at (Sent other line)) s.log ⊎ IsNote (Answered op ∷ []) (now s) (line_at at (Sent other line)) → IsOfPlan plan other
      sent at other line (inl a) = h.sent at other line a
      sent at other line (inr n) = by n.among (ap (λ (l : LogLine). l.entry) n.is)
        where
          by : (n.entry ≡ Answered op) ⊎ ⊥ → Sent other line ≡ n.entry → IsOfPlan plan other
          by (inl e) f = absurd (let z : Sent other line ≡ Answered op = f ∙ e in cc)
          by (inr e) f = absurd e

      span : (at other : ℕ) → Among (line_at at (Answered other)) s.log ⊎ IsNote (Answered op ∷ []) (now s) (line_at at (Answered other)) → WasSentBefore t.log at other
      span at other (inl a) = sent_before plan s t (Answered op ∷ []) log h at other (h.span at other a)
      span at other (inr n) = by n.among (ap (λ (l : LogLine). l.entry) n.is)
        where
          was : HasBeenSent plan s op
          was = (logged.waited c op waits).0

          before : was.at < now s
          before = let passed : was.at ≤ s.steps = logged.timely.passed (line_at was.at (Sent op (line_of plan.ops op))) was.sent in omega (arith, passed)

          by : (n.entry ≡ Answered op) ⊎ ⊥ → Answered other ≡ n.entry → WasSentBefore t.log at other
          by (inl e) f =
              let z : Answered other ≡ Answered op = f ∙ e in
              let same : other ≡ op = cc in
              let moment : at ≡ now s = ap (λ (l : LogLine). l.moment) n.is in
              record {
                sent_at = was.at;
                line = line_of plan.ops op;
                sent = subst (λ (o : ℕ). Among (line_at was.at (Sent o (line_of plan.ops op))) t.log) (sym same) (member s t (Answered op ∷ []) log _ was.sent);
                before = subst (λ (m : ℕ). was.at < m) (sym moment) before;
              }
          by (inr e) f = absurd e
  grows (OfSending c op rest none is log are) = record {
    left = λ d other a. left d other a (eqb_tells d c);
    sent = λ at other line a. sent at other line (log_cases s t (Sent op (line_of plan.ops op) ∷ []) log _ a);
    span = λ at other a. span at other (log_cases s t (Sent op (line_of plan.ops op) ∷ []) log _ a);
  }
    where
      of_plan : IsOfPlan plan op
      of_plan = h.left c op (subst (λ (l : List ℕ). Among op l) (sym is) (inl refl))

      left : (d other : ℕ) → Among other (client_at t d).left → IsOrNot d c → IsOfPlan plan other
      left d other a (inl p) =
          let b : Among other rest = subst (λ (l : List ℕ). Among other l) are.left_are (subst (λ n. Among other (client_at t n).left) p.1 a) in
          h.left c other (subst (λ (l : List ℕ). Among other l) (sym is) (inr b))
      left d other a (inr p) = h.left d other (subst (λ (l : List ℕ). Among other l) (ap (λ (w : ClientState). w.left) (are.others d p.1)) a)

      sent : (at other : ℕ) (line : OpLine) → Among (line_at at (Sent other line)) s.log ⊎ IsNote (Sent op (line_of plan.ops op) ∷ []) (now s) (line_at at (Sent other line)) → IsOfPlan plan other
      sent at other line (inl a) = h.sent at other line a
      sent at other line (inr n) = by n.among (ap (λ (l : LogLine). l.entry) n.is)
        where
          by : (n.entry ≡ Sent op (line_of plan.ops op)) ⊎ ⊥ → Sent other line ≡ n.entry → IsOfPlan plan other
          by (inl e) f = same (f ∙ e)
            where
              same : {line' : OpLine} → Sent other line ≡ Sent op line' → IsOfPlan plan other
              same q = let one : other ≡ op = cc in subst (IsOfPlan plan) (sym one) of_plan
          by (inr e) f = absurd e

      span : (at other : ℕ) → Among (line_at at (Answered other)) s.log ⊎ IsNote (Sent op (line_of plan.ops op) ∷ []) (now s) (line_at at (Answered other)) → WasSentBefore t.log at other
      span at other (inl a) = sent_before plan s t (Sent op (line_of plan.ops op) ∷ []) log h at other (h.span at other a)
      span at other (inr n) = by n.among (ap (λ (l : LogLine). l.entry) n.is)
        where
          by : (n.entry ≡ Sent op (line_of plan.ops op)) ⊎ ⊥ → Answered other ≡ n.entry → WasSentBefore t.log at other
          by (inl e) f = absurd (let z : Answered other ≡ Sent op (line_of plan.ops op) = f ∙ e in cc)
          by (inr e) f = absurd e

-- ---- runs

script_within : (n : ℕ) (lines : List OpLine) (client op : ℕ) → Among op (script_from n lines client) → (n ≤ op) × (op < n + length lines)
script_within n [] client op a = absurd a
script_within n (line ∷ lines) client op a = go (script_within (suc n) lines client op) (nat_eq line.client client) a
  where
    later : (suc n ≤ op) × (op < suc n + length lines) → (n ≤ op) × (op < n + suc (length lines))
    later h = let low : suc n ≤ op = h.0 in let high : op < suc n + length lines = h.1 in (omega (arith, low), omega (arith, high))

    go : (Among op (script_from (suc n) lines client) → (suc n ≤ op) × (op < suc n + length lines)) → (b : Bool)
        → Among op (if b then n ∷ script_from (suc n) lines client else script_from (suc n) lines client) → (n ≤ op) × (op < n + suc (length lines))
    go f true (inl same) = (omega (arith, same), omega (arith, same))
    go f true (inr b) = later (f b)
    go f false b = later (f b)

opening_spans : (plan : PlanView) → Spans plan (opening plan)
opening_spans plan = record {
  left = λ c op a. left c op (opens_client plan c 0 plan.config.clients) a;
  sent = λ at op line a. absurd a;
  span = λ at op a. absurd a;
}
  where
    left : (c op : ℕ) → (client_at (opening plan) c ≡ opening_client plan.ops (0 + c)) ⊎ (client_at (opening plan) c ≡ nobody) → Among op (client_at (opening plan) c).left → IsOfPlan plan op
    left c op (inl e) a = let w = script_within 1 plan.ops (0 + c) op (subst (λ (w : ClientState). Among op w.left) e a) in let high : op < 1 + length plan.ops = w.1 in record { above = w.0; within = omega (arith, high) }
    left c op (inr e) a = absurd (subst (λ (w : ClientState). Among op w.left) e a)

pub logged_run : (plan : PlanView) (events : List Event) → IsPlan plan → IsRun plan (opening plan) events → OperationsAreLogged plan (run plan (opening plan) events)
logged_run plan events valid runs = subst (OperationsAreLogged plan) (kept_events_run plan (opening plan) events) (kept_logged plan (kept_events plan (opening plan) events) valid (kept_is_run plan 0 (opening plan) events (opening_within_none plan) runs))

spans_run : (plan : PlanView) (before after : List Event) → IsPlan plan → IsRun plan (opening plan) (before ++ after) → Spans plan (run plan (opening plan) before) → Spans plan (run plan (opening plan) (before ++ after))
spans_run plan before [] valid r h = subst (λ es. Spans plan (run plan (opening plan) es)) (sym (append-nil before)) h
spans_run plan before (e ∷ es) valid r h =
    let first = is_run_left plan (opening plan) before (e ∷ es) r in
    let rest = is_run_right plan (opening plan) before (e ∷ es) r in
    let s = run plan (opening plan) before in
    let flight = (holds plan before valid first).flight in
    let next = grows plan s (happens plan s e) (logged_run plan before valid first) h (event_notes plan (keeping_of s e) s flight.routed flight.one e rest.0) in
    let same : (before ++ e ∷ []) ++ es ≡ before ++ e ∷ es = append_assoc before (e ∷ []) es in
    let there : Spans plan (run plan (opening plan) (before ++ e ∷ [])) = subst (Spans plan) (sym (run_append plan (opening plan) before (e ∷ []))) next in
    subst (λ xs. Spans plan (run plan (opening plan) xs)) same (spans_run plan (before ++ e ∷ []) es valid (subst (λ xs. IsRun plan (opening plan) xs) (sym same) r) there)

-- ---- no more operations than the plan has

distinct : (xs : List ℕ) → Pairs (λ (a b : ℕ). a ≢ b) xs → IsDistinct eqb xs
unfolding IsDistinct
distinct [] h = tt
distinct (x ∷ xs) h = (each xs h.0, distinct xs h.1)
  where
    apart : (y : ℕ) → x ≢ y → eqb x y ≡ false
    apart y ne = elim (eqb_tells x y) [ inl p ↦ absurd (ne p.1) | inr p ↦ p.0 ]

    each : (ys : List ℕ) → Each (λ (y : ℕ). x ≢ y) ys → AllByRecursion (λ (y : ℕ). eqb x y ≡ false) ys
    each [] h = tt
    each (y ∷ ys) h = (apart y h.0, each ys h.1)

any_among : (q : ℕ) (xs : List ℕ) → list_any (eqb q) xs ≡ true → Among q xs
any_among q [] h = absurd cc
any_among q (x ∷ xs) h = elim (eqb_tells q x) [
  | inl p ↦ inl p.1
  | inr p ↦ inr (any_among q xs (rw p.0 at h))
]

-- numbers from 1 to n that differ are at most n
few_below : (ops : List ℕ) (n : ℕ) → Pairs (λ (a b : ℕ). a ≢ b) ops → Each (λ (op : ℕ). (1 ≤ op) × (op ≤ n)) ops → length ops ≤ n
few_below ops n apart within =
    let same : length (map (λ (op : ℕ). op - 1) ops) ≡ length ops = length-map ops (λ (op : ℕ). op - 1) in
    let most : length (map (λ (op : ℕ). op - 1) ops) ≤ n = length-le_from_distinct_below (map (λ (op : ℕ). op - 1) ops) n
    (distinct (map (λ (op : ℕ). op - 1) ops) (pairs_map (λ (a b : ℕ). a ≢ b) (λ (a b : ℕ). a ≢ b) (λ (op : ℕ). op - 1) ops apart (λ x y a b ne e.
    let p : 1 ≤ x = (each_among (λ (op : ℕ). (1 ≤ op) × (op ≤ n)) x ops within a).0 in
    let q : 1 ≤ y = (each_among (λ (op : ℕ). (1 ≤ op) × (op ≤ n)) y ops within b).0 in
    ne (omega (arith, e, p, q)))))
    (λ q there. below q (among_map_from (λ (op : ℕ). op - 1) q ops (any_among q (map (λ (op : ℕ). op - 1) ops) there))) in
    omega (arith, same, most)
  where
    below : (q : ℕ) → (x : ℕ) × Among x ops × (q ≡ x - 1) → q < n
    below q p =
        let w = each_among (λ (op : ℕ). (1 ≤ op) × (op ≤ n)) p.0 ops within p.1 in
        let low : 1 ≤ p.0 = w.0 in
        let high : p.0 ≤ n = w.1 in
        let same : q ≡ p.0 - 1 = p.2 in
        omega (arith, low, high, same)

-- ---- at the end of a run

pub some_of : {X : Type 0} (o : Option X) → o ≢ None → (x : X) × (o ≡ Some x)
some_of (Some x) h = (x, refl)
some_of None h = absurd (h refl)

module _ (plan : PlanView) (events : List Event) (valid : IsPlan plan) (runs : IsRun plan (opening plan) events) where
  abbrev here : State
  here = run plan (opening plan) events

  sound : LogIsSound plan here
  sound = log_sound plan here (holds plan events valid runs).keeps

  numbers : NumbersAreSound plan here
  numbers = numbers_sound plan here (holds plan events valid runs).keeps (holds plan events valid runs).flight.one

  logged : OperationsAreLogged plan here
  logged = logged_run plan events valid runs

  spans : Spans plan here
  spans = spans_run plan [] events valid runs (opening_spans plan)

  room : HasRoom plan (ceiling_with plan 0 (opening plan) (kept_events plan (opening plan) events)) here
  room = subst (HasRoom plan (ceiling_with plan 0 (opening plan) (kept_events plan (opening plan) events))) (kept_events_run plan (opening plan) events)
      (run_has_room plan (kept_events plan (opening plan) events) valid (kept_is_run plan 0 (opening plan) events (opening_within_none plan) runs))

  module _ (done : is_finished plan here ≡ true) where
    running : here.running ≡ true
    running = (and_parts _ _ (and_parts _ _ (and_parts _ _ done).1).1).0

    own_within : (op : ℕ) (n : At ℕ) → numbering here.log op ≡ Some n → n.what ≤ here.steps
    own_within op n h =
        let counted : n.what ≤ here.switch.counter = numbers.differ.counted running n.moment op n.what (numbering_line here.log op n h) in
        let most : here.switch.counter ≤ here.steps = room.numbers.counter in
        omega (arith, counted, most)

    module _ (place : Placed) (is : IsPlace here.log place) where
      there : Among (line_at is.sent.moment (Sent place.op is.sent.what)) here.log
      there = sending_line here.log place.op is.sent is.first

      of_plan : IsOfPlan plan place.op
      of_plan = spans.sent is.sent.moment place.op is.sent.what there

      answer : (a : At ℕ) × (answering here.log place.op ≡ Some a)
      answer = some_of (answering here.log place.op) (finished_answers plan here logged done place.op of_plan.above of_plan.within)

      abbrev emitted_of : (a : At ℕ) → answering here.log place.op ≡ Some a → (e : At Answer) × (emission here.log place.op ≡ Some e) × (e.moment ≤ a.moment)
      emitted_of a h = answers here.log sound.coherent place.op a h

      span : (a : At ℕ) → answering here.log place.op ≡ Some a → is.sent.moment < a.moment
      span a h =
          let w = spans.span a.moment place.op (answering_line here.log place.op a h) in
          let same : is.sent ≡ record { moment = w.sent_at; what = w.line } = same_Some _ _ (sym is.first ∙ sending_is here.log sound.coherent.order place.op w.sent_at w.line w.sent) in
          let moment : is.sent.moment ≡ w.sent_at = ap (λ (s : At OpLine). s.moment) same in
          let before : w.sent_at < a.moment = w.before in
          omega (arith, moment, before)

      passed : (a : At ℕ) → answering here.log place.op ≡ Some a → a.moment ≤ here.steps
      passed a h = sound.timely.passed (line_at a.moment (Answered place.op)) (answering_line here.log place.op a h)

      num : place.num ≤ here.steps
      num = go place.read refl
        where
          go : (r : Bool) → place.read ≡ r → place.num ≤ here.steps
          go false r =
              let w = MatchBool-at_false (IsReadPlace here.log is.sent.moment is.sent.what place) (IsWritePlace here.log is.sent.what place) r is.stands in
              let most : w.numbered.what ≤ here.steps = own_within place.op w.numbered w.first in
              let own : place.num ≡ w.numbered.what = w.own in
              omega (arith, most, own)
          go true r =
              let p = MatchBool-at_true (IsReadPlace here.log is.sent.moment is.sent.what place) (IsWritePlace here.log is.sent.what place) r is.stands in
              let e = emits here.log sound.coherent place.op p.emitted p.first in
              by p.emitted p.read (λ above. let w = (e.source above).1 in own_within w.op (record { moment = w.numbered_at; what = p.emitted.what.num }) w.numbered) (cases_lt 0 p.emitted.what.num)
            where
              by : (e : At Answer) → place.num ≡ e.what.num → (0 < e.what.num → e.what.num ≤ here.steps) → (0 < e.what.num) ⊎ (e.what.num ≤ 0) → place.num ≤ here.steps
              by e same h (inl above) = let most : e.what.num ≤ here.steps = h above in omega (arith, same, most)
              by e same h (inr none) = omega (arith, same, none)

      body : (e : At Answer) → emission here.log place.op ≡ Some e → is_read is.sent.what.op ≡ true → IsBodyOfPlan plan e.what.body
      body e h read =
          let f = emits here.log sound.coherent place.op e h in
          let same : is.sent ≡ f.sent = same_Some _ _ (sym is.first ∙ f.first) in
          let reads : is_read f.sent.what.op ≡ true = subst (λ (s : At OpLine). is_read s.what.op ≡ true) same read in
          by (cases_lt 0 e.what.num) (λ none. f.unwritten reads none) (λ above.
          let s = f.source above in
          let w = s.1 in
          let line = sending_line here.log w.op w.sent w.first in
          (w.op, spans.sent w.sent.moment w.op w.sent.what line, s.2 reads ∙ sym w.same_body ∙ ap (λ (l : OpLine). l.body) (sound.by_plan.line w.sent.moment w.op w.sent.what line)))
        where
          by : (0 < e.what.num) ⊎ (e.what.num ≤ 0) → (e.what.num ≡ 0 → e.what.body ≡ None) → (0 < e.what.num → (op : ℕ) × IsOfPlan plan op × (e.what.body ≡ (line_of plan.ops op).body)) → IsBodyOfPlan plan e.what.body
          by (inl above) none some = inr (some above)
          by (inr low) none some = inl (none (omega (arith, low)))

      told_of : IsToldOf plan here place
      told_of =
          let a = answer in
          let e = emitted_of a.0 a.1 in
          record {
            sent = is.sent;
            emitted = e.0;
            answered = a.0;
            first_sent = is.first;
            first_emitted = e.1;
            first_answered = a.1;
            op = of_plan;
            line = sound.by_plan.line is.sent.moment place.op is.sent.what there;
            body = body e.0 e.1;
            span = span a.0 a.1;
            passed = passed a.0 a.1;
            num = num;
          }

    few : (history : List Placed) → IsHistory here.log history → length history ≤ length plan.ops
    few history h =
        let same : length (map (λ (p : Placed). p.op) history) ≡ length history = length-map history (λ (p : Placed). p.op) in
        let most = few_below (map (λ (p : Placed). p.op) history) (length plan.ops)
        (pairs_map Before (λ (a b : ℕ). a ≢ b) (λ (p : Placed). p.op) history h.ordered (λ x y a b before op.
        let one : x ≡ y = same_place here.log x y (h.sound x a) (h.sound y b) op in
        let self : Before x x = subst (Before x) (sym one) before in
        before_strict x x self self))
        (within history (λ p a. of_plan p (h.sound p a))) in
        omega (arith, same, most)
      where
        within : (list : List Placed) → ((p : Placed) → Among p list → IsOfPlan plan p.op) → Each (λ (op : ℕ). (1 ≤ op) × (op ≤ length plan.ops)) (map (λ (p : Placed). p.op) list)
        within [] k = tt
        within (p ∷ ps) k = let o = k p (inl refl) in ((o.above, o.within), within ps (λ q a. k q (inr a)))

    pub told : HistoryIsTold plan here
    told = record {
      places = told_of;
      few = few;
      steps = let steps : here.steps + work_left plan here ≤ work_bound plan = room.steps in let small : work_bound plan < 2 ^ 28 = room.small in omega (arith, steps, small);
    }

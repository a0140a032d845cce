-- What the log keeps of operations, in every run, and that all are answered where nothing is left to do.
use Rattle.far_invariants.specs.Logs.{TellsOf, IsTimely, SendsByPlan}
use Rattle.far_invariants.specs.Flights.{IsInFlight}
use Rattle.std.proofs.Common.{◌≡◌, ◌≢◌, ℕ, zero, suc, ◌+◌, ◌-◌, ◌≤◌, ◌⊎◌, inl, inr, true, false, List, [], ◌∷◌, length, map, refl, sym, ap, ◌∙◌, subst, arith, true≢false, eqb}
use Rattle.std.specs.Prelude.{Option, Some, None, is_some, not, slice_index_or}
use Rattle.std.specs.List.{list_all}
use Rattle.std.proofs.lemmas.Bool.{and_parts}
use Rattle.std.proofs.lemmas.Bool.Decides.{eqb_tells}
use Rattle.std.proofs.lemmas.Option.{same_Some}
use Rattle.far_base.specs.Limits.{IsPlan}
use Rattle.far_base.specs.PlanView.{PlanView}
use Rattle.far_base.specs.declared.log.LogEntry.{LogEntry}
use Rattle.far_base.specs.declared.log.LogEntry.TheVariants.{Sent, Numbered, Emitted, Answered, Recovered}
use Rattle.far_base.specs.declared.log.LogLine.{LogLine}
use Rattle.far_base.specs.declared.plan.OpLine.{OpLine}
use Rattle.far_model.specs.Answered.{AllAnswered}
use Rattle.far_model.specs.Clients.{ClientState, line_of, no_line, opening_client}
use Rattle.far_model.specs.Coherent.{WasSent}
use Rattle.far_base.specs.declared.event.Event.{Event}
use Rattle.far_base.specs.declared.record.Record.{Record}
use Rattle.far_model.specs.Events.{Keeping, happens_with, has_next, recovery_items}
use Rattle.far_model.specs.Log.{answered_by, first_told, or_later}
use Rattle.far_model.specs.Members.{Among, Each, Pairs}
use Rattle.far_model.specs.Replies.{IsRunWith, KeptEvent, ceiling_after, run_with}
use Rattle.far_model.specs.Runs.{is_done, is_finished}
use Rattle.far_model.specs.State.{State, client_at, line_at, nobody, noted, now, opening}
use Rattle.far_model.proofs.Members.{among_map_from, each_among, pairs_append}
use Rattle.far_invariants.proofs.Noted.{IsNote, log_cases, member, note_member}
use Rattle.far_invariants.specs.Logged.{OperationsAreLogged, WasAnswered}
use Rattle.far_invariants.specs.Notes.{ClientsAre, ClientsGoOn, EventNotes, IsOfNone, IsPassNote, OfAnswer, OfNone, OfPass, OfRestart, OfSending}
use Rattle.far_invariants.specs.Sent.{HasBeenSent}
use Rattle.flight_laws.proofs.Handling.{flight_opens, flight_step}
use Rattle.flight_laws.proofs.Noting.{event_notes}
use Rattle.flight_laws.proofs.ScriptLaws.{in_script, opening_left, opens_client}
use Rattle.flight_laws.proofs.Working.{step_counted}

-- ---- one step

-- an operation that a note tells of was sent before, or is sent by it
abbrev TellsOfSent : PlanView → State → LogEntry → Type 0
TellsOfSent plan s (Sent op line) = line ≡ line_of plan.ops op
TellsOfSent plan s (Numbered op num) = HasBeenSent plan s op
TellsOfSent plan s (Emitted op num body near) = HasBeenSent plan s op
TellsOfSent plan s (Answered op) = HasBeenSent plan s op
TellsOfSent plan s _ = Unit {0}

module _ (plan : PlanView) (s t : State) (notes : List LogEntry) (log : t.log ≡ noted s notes) (steps : t.steps ≡ s.steps + 1) (h : OperationsAreLogged plan s) where
  timely_on : IsTimely t
  timely_on = record {
    rises = subst (λ (l : List LogLine). Pairs (λ (x y : LogLine). x.moment ≤ y.moment) l) (sym log)
        (pairs_append (λ (x y : LogLine). x.moment ≤ y.moment) s.log (map (line_at (now s)) notes) h.timely.rises (same notes) (λ x y a b. later x y a b));
    passed = λ l a. by l (log_cases s t notes log l a);
  }
    where
      same : (notes : List LogEntry) → Pairs (λ (x y : LogLine). x.moment ≤ y.moment) (map (line_at (now s)) notes)
      same [] = tt
      same (e ∷ es) = (each es, same es)
        where
          each : (es : List LogEntry) → Each (λ (y : LogLine). now s ≤ y.moment) (map (line_at (now s)) es)
          each [] = tt
          each (x ∷ xs) = (omega arith, each xs)

      later : (x y : LogLine) → Among x s.log → Among y (map (line_at (now s)) notes) → x.moment ≤ y.moment
      later x y a b = let p = among_map_from (line_at (now s)) y notes b in let q = h.timely.passed x a in let e = ap (λ (l : LogLine). l.moment) p.2 in omega (arith, q, e)

      by : (l : LogLine) → Among l s.log ⊎ IsNote notes (now s) l → l.moment ≤ t.steps
      by l (inl a) = let q = h.timely.passed l a in omega (arith, q, steps)
      by l (inr n) = let e = ap (λ (l : LogLine). l.moment) n.is in omega (arith, e, steps)

  sent_on : (op : ℕ) → HasBeenSent plan s op → HasBeenSent plan t op
  sent_on op k = record { at = k.at; sent = member s t notes log _ k.sent }

  answered_on : (op : ℕ) → WasAnswered s.log op → WasAnswered t.log op
  answered_on op k = record { at = k.at; answered = member s t notes log _ k.answered }

  -- sent by now
  was_sent : (op : ℕ) → HasBeenSent plan s op → WasSent t.log (now s) op
  was_sent op k = record {
    sent_at = k.at;
    line = line_of plan.ops op;
    sent = member s t notes log _ k.sent;
    before = let q = h.timely.passed _ k.sent in omega (arith, q);
  }

  by_plan_on : Each (TellsOfSent plan s) notes → SendsByPlan plan t.log
  by_plan_on told = record {
    line = λ at op line a. of_line at op line (log_cases s t notes log _ a);
    sent = λ l op a tells. of_sent l op a tells (log_cases s t notes log l a);
  }
    where
      of_line : (at op : ℕ) (line : OpLine) → Among (line_at at (Sent op line)) s.log ⊎ IsNote notes (now s) (line_at at (Sent op line)) → line ≡ line_of plan.ops op
      of_line at op line (inl a) = h.by_plan.line at op line a
      of_line at op line (inr n) = subst (TellsOfSent plan s) (ap (λ (l : LogLine). l.entry) (sym n.is)) (each_among (TellsOfSent plan s) n.entry notes told n.among)

      here : (e : LogEntry) (op : ℕ) → Among e notes → TellsOf op e → TellsOfSent plan s e → WasSent t.log (now s) op
      here (Sent other line) op a same k = record {
        sent_at = now s;
        line = line;
        sent = subst (λ o. Among (line_at (now s) (Sent o line)) t.log) (sym same) (note_member s t notes log (Sent other line) a);
        before = omega arith;
      }
      here (Numbered other num) op a same k = was_sent op (subst (HasBeenSent plan s) (sym same) k)
      here (Emitted other num body near) op a same k = was_sent op (subst (HasBeenSent plan s) (sym same) k)
      here (Answered other) op a same k = was_sent op (subst (HasBeenSent plan s) (sym same) k)
      here _ op a same k = absurd same

      of_sent : (l : LogLine) (op : ℕ) → Among l t.log → TellsOf op l.entry → Among l s.log ⊎ IsNote notes (now s) l → WasSent t.log l.moment op
      of_sent l op a tells (inl b) = let w = h.by_plan.sent l op b tells in record { sent_at = w.sent_at; line = w.line; sent = member s t notes log _ w.sent; before = w.before }
      of_sent l op a tells (inr n) =
          let k = each_among (TellsOfSent plan s) n.entry notes told n.among in
          let w = here n.entry op n.among (subst (λ (l : LogLine). TellsOf op l.entry) n.is tells) k in
          subst (λ (l : LogLine). WasSent t.log l.moment op) (sym n.is) w

  -- no client sends or is answered
  goes_on : ClientsGoOn s t → Each (TellsOfSent plan s) notes → ((op : ℕ) (line : OpLine) → Among (Sent op line) notes → ⊥) → OperationsAreLogged plan t
  goes_on on told none = record {
    timely = timely_on;
    by_plan = by_plan_on told;
    own = λ c op a. h.own c op (subst (λ (l : List ℕ). Among op l) (on.left c) a);
    waited = λ c op w. let k = h.waited c op (sym (on.waits c) ∙ w) in (sent_on op k.0, k.1);
    closed = λ at op line a. closed op line (log_cases s t notes log _ a);
    left = λ op above within. left op (h.left op above within);
  }
    where
      closed : (op : ℕ) (line : OpLine) → {at : ℕ} → Among (line_at at (Sent op line)) s.log ⊎ IsNote notes (now s) (line_at at (Sent op line))
          → ((client_at t (line_of plan.ops op).client).waits ≡ Some op) ⊎ WasAnswered t.log op
      closed op line (inl a) = elim (h.closed _ op line a) [ inl w ↦ inl (on.waits (line_of plan.ops op).client ∙ w) | inr k ↦ inr (answered_on op k) ]
      closed op line (inr n) = absurd (none op line (subst (λ (e : LogEntry). Among e notes) (ap (λ (l : LogLine). l.entry) (sym n.is)) n.among))

      left : (op : ℕ) → Among op (client_at s (line_of plan.ops op).client).left ⊎ HasBeenSent plan s op → Among op (client_at t (line_of plan.ops op).client).left ⊎ HasBeenSent plan t op
      left op (inl a) = inl (subst (λ (l : List ℕ). Among op l) (sym (on.left (line_of plan.ops op).client)) a)
      left op (inr k) = inr (sent_on op k)

-- ---- every event

passes_told : (plan : PlanView) (s : State) (op : ℕ) → HasBeenSent plan s op → (notes : List LogEntry) → Each (IsPassNote op) notes → Each (TellsOfSent plan s) notes
passes_told plan s op k [] h = tt
passes_told plan s op k (e ∷ es) h = (one e h.0, passes_told plan s op k es h.1)
  where
    one : (e : LogEntry) → IsPassNote op e → TellsOfSent plan s e
    one (Numbered other num) same = subst (HasBeenSent plan s) (sym same) k
    one (Emitted other num body near) same = subst (HasBeenSent plan s) (sym same) k
    one _ n = absurd n

nothing_told : (plan : PlanView) (s : State) (notes : List LogEntry) → Each IsOfNone notes → Each (TellsOfSent plan s) notes
nothing_told plan s [] h = tt
nothing_told plan s (e ∷ es) h = (one e h.0, nothing_told plan s es h.1)
  where
    one : (e : LogEntry) → IsOfNone e → TellsOfSent plan s e
    one (Sent op line) n = absurd n
    one (Numbered op num) n = absurd n
    one (Emitted op num body near) n = absurd n
    one (Answered op) n = absurd n
    one _ n = tt

-- whether two numbers are the same
abbrev IsOrNot : ℕ → ℕ → Type 0
IsOrNot d c = ((eqb d c ≡ true) × (d ≡ c)) ⊎ ((eqb d c ≡ false) × (d ≢ c))

module _ (plan : PlanView) (s t : State) (steps : t.steps ≡ s.steps + 1) (h : OperationsAreLogged plan s) (c op : ℕ) (waits : (client_at s c).waits ≡ Some op) (log : t.log ≡ noted s (Answered op ∷ [])) (are : ClientsAre s t c None (client_at s c).left) where
  abbrev answer_notes : List LogEntry
  answer_notes = Answered op ∷ []

  its : HasBeenSent plan s op × ((line_of plan.ops op).client ≡ c)
  its = h.waited c op waits

  left_same : (d : ℕ) → IsOrNot d c → (client_at t d).left ≡ (client_at s d).left
  left_same d (inl p) = subst (λ n. (client_at t n).left ≡ (client_at s n).left) (sym p.1) are.left_are
  left_same d (inr p) = ap (λ (w : ClientState). w.left) (are.others d p.1)

  answer_own : (d other : ℕ) → Among other (client_at t d).left → IsOrNot d c → (line_of plan.ops other).client ≡ d
  answer_own d other a tells = h.own d other (subst (λ (l : List ℕ). Among other l) (left_same d tells) a)

  answer_waited : (d other : ℕ) → (client_at t d).waits ≡ Some other → IsOrNot d c → HasBeenSent plan t other × ((line_of plan.ops other).client ≡ d)
  answer_waited d other w (inl p) = absurd (let z : None ≡ Some other = sym are.waits_are ∙ subst (λ n. (client_at t n).waits ≡ Some other) p.1 w in cc)
  answer_waited d other w (inr p) = let k = h.waited d other (sym (ap (λ (x : ClientState). x.waits) (are.others d p.1)) ∙ w) in (sent_on plan s t answer_notes log steps h other k.0, k.1)

  now_answered : WasAnswered t.log op
  now_answered = record { at = now s; answered = note_member s t answer_notes log (Answered op) (inl refl) }

  answer_closed : (other : ℕ) (line : OpLine) → {at : ℕ} → Among (line_at at (Sent other line)) s.log ⊎ IsNote answer_notes (now s) (line_at at (Sent other line)) → IsOrNot (line_of plan.ops other).client c
      → ((client_at t (line_of plan.ops other).client).waits ≡ Some other) ⊎ WasAnswered t.log other
  answer_closed other line (inl a) tells = by (h.closed _ other line a) tells
    where
      by : ((client_at s (line_of plan.ops other).client).waits ≡ Some other) ⊎ WasAnswered s.log other → IsOrNot (line_of plan.ops other).client c
          → ((client_at t (line_of plan.ops other).client).waits ≡ Some other) ⊎ WasAnswered t.log other
      by (inr k) tells = inr (answered_on plan s t answer_notes log steps h other k)
      by (inl w) (inl p) = inr (subst (WasAnswered t.log) (same_Some _ _ (sym waits ∙ subst (λ n. (client_at s n).waits ≡ Some other) p.1 w)) now_answered)
      by (inl w) (inr p) = inl (ap (λ (x : ClientState). x.waits) (are.others _ p.1) ∙ w)
  answer_closed other line (inr n) tells = absurd (go n.among (ap (λ (l : LogLine). l.entry) n.is))
    where
      go : (n.entry ≡ Answered op) ⊎ ⊥ → Sent other line ≡ n.entry → ⊥
      go (inl e) f = let z : Sent other line ≡ Answered op = f ∙ e in cc
      go (inr e) f = e

  answer_left : (other : ℕ) → Among other (client_at s (line_of plan.ops other).client).left ⊎ HasBeenSent plan s other → IsOrNot (line_of plan.ops other).client c
      → Among other (client_at t (line_of plan.ops other).client).left ⊎ HasBeenSent plan t other
  answer_left other (inl a) tells = inl (subst (λ (l : List ℕ). Among other l) (sym (left_same _ tells)) a)
  answer_left other (inr k) tells = inr (sent_on plan s t answer_notes log steps h other k)

  answer_logs : OperationsAreLogged plan t
  answer_logs = record {
    timely = timely_on plan s t answer_notes log steps h;
    by_plan = by_plan_on plan s t answer_notes log steps h (its.0, tt);
    own = λ d other a. answer_own d other a (eqb_tells d c);
    waited = λ d other w. answer_waited d other w (eqb_tells d c);
    closed = λ at other line a. answer_closed other line (log_cases s t answer_notes log _ a) (eqb_tells (line_of plan.ops other).client c);
    left = λ other above within. answer_left other (h.left other above within) (eqb_tells (line_of plan.ops other).client c);
  }

module _ (plan : PlanView) (s t : State) (steps : t.steps ≡ s.steps + 1) (h : OperationsAreLogged plan s) (c op : ℕ) (rest : List ℕ) (none : (client_at s c).waits ≡ None) (is : (client_at s c).left ≡ op ∷ rest) (log : t.log ≡ noted s (Sent op (line_of plan.ops op) ∷ [])) (are : ClientsAre s t c (Some op) rest) where
  abbrev sending_notes : List LogEntry
  sending_notes = Sent op (line_of plan.ops op) ∷ []

  of_c : (line_of plan.ops op).client ≡ c
  of_c = h.own c op (subst (λ (l : List ℕ). Among op l) (sym is) (inl refl))

  sent_now : HasBeenSent plan t op
  sent_now = record { at = now s; sent = note_member s t sending_notes log (Sent op (line_of plan.ops op)) (inl refl) }

  sending_own : (d other : ℕ) → Among other (client_at t d).left → IsOrNot d c → (line_of plan.ops other).client ≡ d
  sending_own d other a (inl p) =
      let b : Among other rest = subst (λ (l : List ℕ). Among other l) are.left_are (subst (λ n. Among other (client_at t n).left) p.1 a) in
      h.own c other (subst (λ (l : List ℕ). Among other l) (sym is) (inr b)) ∙ sym p.1
  sending_own d other a (inr p) = h.own d other (subst (λ (l : List ℕ). Among other l) (ap (λ (w : ClientState). w.left) (are.others d p.1)) a)

  sending_waited : (d other : ℕ) → (client_at t d).waits ≡ Some other → IsOrNot d c → HasBeenSent plan t other × ((line_of plan.ops other).client ≡ d)
  sending_waited d other w (inl p) =
      let same : op ≡ other = same_Some _ _ (sym are.waits_are ∙ subst (λ n. (client_at t n).waits ≡ Some other) p.1 w) in
      (subst (HasBeenSent plan t) same sent_now, subst (λ o. (line_of plan.ops o).client ≡ d) same (of_c ∙ sym p.1))
  sending_waited d other w (inr p) = let k = h.waited d other (sym (ap (λ (x : ClientState). x.waits) (are.others d p.1)) ∙ w) in (sent_on plan s t sending_notes log steps h other k.0, k.1)

  sending_closed : (other : ℕ) (line : OpLine) → {at : ℕ} → Among (line_at at (Sent other line)) s.log ⊎ IsNote sending_notes (now s) (line_at at (Sent other line)) → IsOrNot (line_of plan.ops other).client c
      → ((client_at t (line_of plan.ops other).client).waits ≡ Some other) ⊎ WasAnswered t.log other
  sending_closed other line (inl a) tells = by (h.closed _ other line a) tells
    where
      by : ((client_at s (line_of plan.ops other).client).waits ≡ Some other) ⊎ WasAnswered s.log other → IsOrNot (line_of plan.ops other).client c
          → ((client_at t (line_of plan.ops other).client).waits ≡ Some other) ⊎ WasAnswered t.log other
      by (inr k) tells = inr (answered_on plan s t sending_notes log steps h other k)
      by (inl w) (inl p) = absurd (let z : None ≡ Some other = sym none ∙ subst (λ n. (client_at s n).waits ≡ Some other) p.1 w in cc)
      by (inl w) (inr p) = inl (ap (λ (x : ClientState). x.waits) (are.others _ p.1) ∙ w)
  sending_closed other line (inr n) tells = go n.among (ap (λ (l : LogLine). l.entry) n.is)
    where
      go : (n.entry ≡ Sent op (line_of plan.ops op)) ⊎ ⊥ → Sent other line ≡ n.entry → ((client_at t (line_of plan.ops other).client).waits ≡ Some other) ⊎ WasAnswered t.log other
      go (inl e) f =
          let z : Sent other line ≡ Sent op (line_of plan.ops op) = f ∙ e in
          let same : op ≡ other = op_is z in
          inl (subst (λ o. (client_at t (line_of plan.ops o).client).waits ≡ Some o) same (subst (λ n. (client_at t n).waits ≡ Some op) (sym of_c) are.waits_are))
        where
          op_is : {line' : OpLine} → Sent other line ≡ Sent op line' → op ≡ other
          op_is q = cc
      go (inr e) f = absurd e

  sending_left : (other : ℕ) → Among other (client_at s (line_of plan.ops other).client).left ⊎ HasBeenSent plan s other → IsOrNot (line_of plan.ops other).client c
      → Among other (client_at t (line_of plan.ops other).client).left ⊎ HasBeenSent plan t other
  sending_left other (inr k) tells = inr (sent_on plan s t sending_notes log steps h other k)
  sending_left other (inl a) (inr p) = inl (subst (λ (l : List ℕ). Among other l) (sym (ap (λ (w : ClientState). w.left) (are.others _ p.1))) a)
  sending_left other (inl a) (inl p) = by (subst (λ (l : List ℕ). Among other l) (ap (λ n. (client_at s n).left) p.1 ∙ is) a)
    where
      by : (other ≡ op) ⊎ Among other rest → Among other (client_at t (line_of plan.ops other).client).left ⊎ HasBeenSent plan t other
      by (inl same) = inr (subst (HasBeenSent plan t) (sym same) sent_now)
      by (inr b) = inl (subst (λ (l : List ℕ). Among other l) (sym (ap (λ n. (client_at t n).left) p.1 ∙ are.left_are)) b)

  sending_logs : OperationsAreLogged plan t
  sending_logs = record {
    timely = timely_on plan s t sending_notes log steps h;
    by_plan = by_plan_on plan s t sending_notes log steps h (refl, tt);
    own = λ d other a. sending_own d other a (eqb_tells d c);
    waited = λ d other w. sending_waited d other w (eqb_tells d c);
    closed = λ at other line a. sending_closed other line (log_cases s t sending_notes log _ a) (eqb_tells (line_of plan.ops other).client c);
    left = λ other above within. sending_left other (h.left other above within) (eqb_tells (line_of plan.ops other).client c);
  }

module _ (plan : PlanView) (k : Keeping) (s : State) (e : Event) (t : State) (steps : t.steps ≡ s.steps + 1) (h : OperationsAreLogged plan s) where
  logs : EventNotes plan k s e t → OperationsAreLogged plan t
  logs (OfNone notes log each on) = goes_on plan s t notes log steps h on (nothing_told plan s notes each)
      (λ op line a. each_among IsOfNone (Sent op line) notes each a)
  logs (OfPass c op notes waits log each few on) = goes_on plan s t notes log steps h on (passes_told plan s op (h.waited c op waits).0 notes each)
      (λ other line a. each_among (IsPassNote op) (Sent other line) notes each a)
  logs (OfRestart counter is able log on) = goes_on plan s t notes log steps h on (tt, items k.records) none
    where
      notes : List LogEntry
      notes = Recovered counter (length k.records) ∷ recovery_items k.records

      items : (records : List Record) → Each (TellsOfSent plan s) (recovery_items records)
      items [] = tt
      items (r ∷ rs) = (tt, items rs)

      unsent : (op : ℕ) (line : OpLine) (records : List Record) → Among (Sent op line) (recovery_items records) → ⊥
      unsent op line [] a = a
      unsent op line (r ∷ rs) (inl q) = cc
      unsent op line (r ∷ rs) (inr a) = unsent op line rs a

      none : (op : ℕ) (line : OpLine) → (Sent op line ≡ Recovered counter (length k.records)) ⊎ Among (Sent op line) (recovery_items k.records) → ⊥
      none op line (inl q) = cc
      none op line (inr a) = unsent op line k.records a
  logs (OfAnswer c op waits log are) = answer_logs plan s t steps h c op waits log are
  logs (OfSending c op rest none is log are) = sending_logs plan s t steps h c op rest none is log are

-- ---- runs

opening_logged : (plan : PlanView) → IsPlan plan → OperationsAreLogged plan (opening plan)
opening_logged plan valid = record {
  timely = record { rises = tt; passed = λ l a. absurd a };
  by_plan = record { line = λ at op line a. absurd a; sent = λ l op a tells. absurd a };
  own = λ c op a. own c op (opens_client plan c 0 plan.config.clients) a;
  waited = λ c op w. absurd (none c op (opens_client plan c 0 plan.config.clients) w);
  closed = λ at op line a. absurd a;
  left = opening_left plan valid;
}
  where
    own : (c op : ℕ) → (client_at (opening plan) c ≡ opening_client plan.ops (0 + c)) ⊎ (client_at (opening plan) c ≡ nobody) → Among op (client_at (opening plan) c).left → (line_of plan.ops op).client ≡ c
    own c op (inl e) a =
        let p = in_script 1 plan.ops (0 + c) op (subst (λ (w : ClientState). Among op w.left) e a) in
        let q = p.is in
        let place : p.place ≡ op - 1 = omega (arith, q) in
        subst (λ n. (slice_index_or plan.ops n no_line).client ≡ c) place (p.of_client ∙ omega arith)
    own c op (inr e) a = absurd (subst (λ (w : ClientState). Among op w.left) e a)

    none : (c op : ℕ) → (client_at (opening plan) c ≡ opening_client plan.ops (0 + c)) ⊎ (client_at (opening plan) c ≡ nobody) → (client_at (opening plan) c).waits ≡ Some op → ⊥
    none c op (inl e) w = let z : None ≡ Some op = sym (ap (λ (x : ClientState). x.waits) e) ∙ w in cc
    none c op (inr e) w = let z : None ≡ Some op = sym (ap (λ (x : ClientState). x.waits) e) ∙ w in cc

logged_run : (plan : PlanView) (ceiling : ℕ) (s : State) (events : List KeptEvent) → IsInFlight plan s → OperationsAreLogged plan s → IsRunWith plan ceiling s events → OperationsAreLogged plan (run_with plan s events)
logged_run plan ceiling s [] f h r = h
logged_run plan ceiling s (e ∷ es) f h r =
    let t : State = happens_with plan e.keeping s e.event in
    logged_run plan (ceiling_after s e.event ceiling) t es (flight_step plan e.keeping s e.event f r.1.kind r.0)
    (logs plan e.keeping s e.event t (step_counted plan e.keeping s e.event r.0) h (event_notes plan e.keeping s f.routed f.one e.event r.0)) r.2

pub kept_logged : (plan : PlanView) (events : List KeptEvent) → IsPlan plan → IsRunWith plan 0 (opening plan) events → OperationsAreLogged plan (run_with plan (opening plan) events)
kept_logged plan events valid r = logged_run plan 0 (opening plan) events (flight_opens plan) (opening_logged plan valid) r

-- ---- where nothing is left to do

some_is_none : {X : Type 0} → (x : X) → Some x ≡ None → ⊥
some_is_none x q = cc

-- what a line tells is told first somewhere
told_somewhere : {X : Type 0} → (tells : LogEntry → Option X) (log : List LogLine) (l : LogLine) (x : X) → Among l log → tells l.entry ≡ Some x → first_told tells log ≢ None
told_somewhere {X = X} tells [] l x h e = absurd h
told_somewhere {X = X} tells (y ∷ ys) l x h e = by h (tells y.entry) refl (λ later. told_somewhere tells ys l x later e)
  where
    by : ((l ≡ y) ⊎ Among l ys) → (o : Option X) → tells y.entry ≡ o → (Among l ys → first_told tells ys ≢ None) → or_later y.moment o (first_told tells ys) ≢ None
    by h (Some z) is rest = λ none. absurd cc
    by (inl same) None is rest = absurd (some_is_none x (sym e ∙ (ap (λ (w : LogLine). tells w.entry) same ∙ is)))
    by (inr later) None is rest = rest later

answered_here : (op : ℕ) → answered_by op (Answered op) ≡ Some op
answered_here op = elim (eqb_tells op op) [ inl p ↦ rw p.0 refl | inr p ↦ absurd (p.1 refl) ]

all_done : (clients : List ClientState) (c : ℕ) → list_all is_done clients ≡ true → is_done (slice_index_or clients c nobody) ≡ true
all_done [] c h = refl
all_done (x ∷ xs) zero h = (and_parts (is_done x) (list_all is_done xs) h).0
all_done (x ∷ xs) (suc c) h = all_done xs c (and_parts (is_done x) (list_all is_done xs) h).1

not_left : (left : List ℕ) (op : ℕ) → not (has_next left) ≡ true → Among op left → ⊥
not_left [] op h a = a
not_left (next ∷ left) op h a = true≢false (sym h)

none_open : (waits : Option ℕ) → not (is_some waits) ≡ true → waits ≡ None
none_open None h = refl
none_open (Some op) h = absurd (true≢false (sym h))

pub finished_answers : (plan : PlanView) (s : State) → OperationsAreLogged plan s → is_finished plan s ≡ true → AllAnswered plan s
finished_answers plan s h done op above most =
    let clients : list_all is_done s.clients ≡ true = (and_parts _ _ done).0 in
    let closed : is_done (client_at s (line_of plan.ops op).client) ≡ true = all_done s.clients (line_of plan.ops op).client clients in
    let parts : (not (is_some (client_at s (line_of plan.ops op).client).waits) ≡ true) × (not (has_next (client_at s (line_of plan.ops op).client).left) ≡ true) = and_parts _ _ closed in
    elim (h.left op above most) [
      | inl a ↦ absurd (not_left _ op parts.1 a)
      | inr b ↦ elim (h.closed b.at op (line_of plan.ops op) b.sent) [
        | inl w ↦ absurd (let z : None ≡ Some op = sym (none_open _ parts.0) ∙ w in cc)
        | inr k ↦ told_somewhere (answered_by op) s.log (line_at k.at (Answered op)) op k.answered (answered_here op)
      ]
    ]

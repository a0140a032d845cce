-- How many operations a log tells to be answered: each step adds at most one.
use Rattle.std.proofs.Common.{◌≡◌, ℕ, zero, suc, ◌+◌, ◌<◌, ◌≤◌, Bool, true, false, List, [], ◌∷◌, ◌++◌, length, map, drop, refl, sym, ap, ◌∙◌, subst, cond, arith}
use Rattle.std.specs.Prelude.{◌^◌, slice_get, Some}
use Rattle.std.specs.List.{count_by}
use Rattle.std.proofs.lemmas.List.{drop_at}
use Rattle.std.proofs.lemmas.Option.{same_Some}
use Rattle.far_base.specs.PlanView.{PlanView}
use Rattle.far_base.specs.declared.event.Event.{Event}
use Rattle.far_base.specs.declared.log.LogEntry.{LogEntry}
use Rattle.far_base.specs.declared.log.LogEntry.TheVariants.{Sent, Numbered, Emitted, Answered, Recovered, RecItem}
use Rattle.far_base.specs.declared.log.LogLine.{LogLine}
use Rattle.far_base.specs.declared.record.Record.{Record}
use Rattle.far_history.specs.Summary.{count_of, is_answer}
use Rattle.far_invariants.specs.Always.{AlwaysWith}
use Rattle.far_invariants.specs.Flights.{IsInFlight}
use Rattle.far_invariants.specs.Notes.{EventNotes, IsOfNone, IsPassNote, OfAnswer, OfNone, OfPass, OfRestart, OfSending}
use Rattle.far_invariants.specs.Room.{HasRoom}
use Rattle.far_invariants.specs.Sound.{IsSound}
use Rattle.far_model.specs.Clients.{line_of}
use Rattle.far_model.specs.Events.{Keeping, happens, happens_with, keeping_of, is_enabled, recovery_items}
use Rattle.far_model.specs.Members.{Each}
use Rattle.far_model.specs.Replies.{IsRunWith, KeptEvent, ceiling_after, kept_events, run_with}
use Rattle.far_model.specs.Runs.{IsRun, run}
use Rattle.far_model.specs.State.{State, line_at, noted, now, opening}
use Rattle.far_world.specs.Reached.{IsReached, Ran}
use Rattle.far_world.specs.Scene.{Tells}
use Rattle.far_world.specs.Turning.{HasTurned}
use Rattle.flight_laws.proofs.Counts.{count_append, count_cons, counted_false, counted_true}
use Rattle.flight_laws.proofs.Handling.{flight_opens, flight_step}
use Rattle.flight_laws.proofs.Noting.{event_notes}

-- ---- what a step adds

noted_answers : (moment : ℕ) (notes : List LogEntry) → count_of is_answer (map (line_at moment) notes) ≡ count_by is_answer notes
noted_answers moment [] = refl
noted_answers moment (e ∷ es) =
    count_cons (λ (l : LogLine). is_answer l.entry) (line_at moment e) (map (line_at moment) es)
    ∙ (ap (λ (n : ℕ). cond {A = ℕ} (is_answer e) 1 0 + n) (noted_answers moment es) ∙ sym (count_cons is_answer e es))

not_counted : (e : LogEntry) (es : List LogEntry) → is_answer e ≡ false → count_by is_answer es ≡ 0 → count_by is_answer (e ∷ es) ≡ 0
not_counted e es plain none = omega (arith, count_cons is_answer e es, counted_false is_answer e plain, none)

one_note : (e : LogEntry) → count_by is_answer (e ∷ []) ≤ 1
one_note e = go (is_answer e) refl
  where
    none : count_by is_answer [] ≡ 0
    none = refl

    go : (b : Bool) → is_answer e ≡ b → count_by is_answer (e ∷ []) ≤ 1
    go true answer = omega (arith, count_cons is_answer e [], counted_true is_answer e answer, none)
    go false plain = omega (arith, not_counted e [] plain none)

none_of_pass : (op : ℕ) (notes : List LogEntry) → Each (IsPassNote op) notes → count_by is_answer notes ≡ 0
none_of_pass op [] h = refl
none_of_pass op (Numbered other num ∷ es) h = not_counted (Numbered other num) es refl (none_of_pass op es h.1)
none_of_pass op (Emitted other num body near ∷ es) h = not_counted (Emitted other num body near) es refl (none_of_pass op es h.1)
none_of_pass op (e ∷ es) h = absurd h.0

none_of_none : (notes : List LogEntry) → Each IsOfNone notes → count_by is_answer notes ≡ 0
none_of_none [] h = refl
none_of_none (Answered op ∷ es) h = absurd h.0
none_of_none (e ∷ es) h = not_counted e es refl (none_of_none es h.1)

none_of_items : (records : List Record) → count_by is_answer (recovery_items records) ≡ 0
none_of_items [] = refl
none_of_items (r ∷ rs) = not_counted (RecItem r) (recovery_items rs) refl (none_of_items rs)

-- the log goes on with lines of which at most one tells of an answer
pub record GoesOn (old new : List LogLine) : Type 0 where
  pub more : List LogLine
  pub is : new ≡ old ++ more
  pub few : count_of is_answer more ≤ 1

goes_on : (s t : State) (notes : List LogEntry) → t.log ≡ noted s notes → count_by is_answer notes ≤ 1 → GoesOn s.log t.log
goes_on s t notes is few = let n = noted_answers (now s) notes in record { more = map (line_at (now s)) notes; is = is; few = omega (arith, n, few) }

noted_goes_on : (plan : PlanView) (s : State) (e : Event) (t : State) (k : Keeping) → EventNotes plan k s e t → GoesOn s.log t.log
noted_goes_on plan s e t k (OfSending c op left none is log are) = goes_on s t (Sent op (line_of plan.ops op) ∷ []) log (one_note (Sent op (line_of plan.ops op)))
noted_goes_on plan s e t k (OfAnswer c op waits log are) = goes_on s t (Answered op ∷ []) log (one_note (Answered op))
noted_goes_on plan s e t k (OfPass c op notes waits log each few on) = let n = none_of_pass op notes each in goes_on s t notes log (omega (arith, n))
noted_goes_on plan s e t k (OfNone notes log each on) = let n = none_of_none notes each in goes_on s t notes log (omega (arith, n))
noted_goes_on plan s e t k (OfRestart counter is able log on) =
    let first : LogEntry = Recovered counter (length k.records) in
    let n = not_counted first (recovery_items k.records) refl (none_of_items k.records) in
    goes_on s t (first ∷ recovery_items k.records) log (omega (arith, n))

-- ---- runs

counted_on : (old new : List LogLine) → (h : GoesOn old new) → count_of is_answer new ≡ count_of is_answer old + count_of is_answer h.more
counted_on old new h = ap (λ (l : List LogLine). count_of is_answer l) h.is ∙ count_append (λ (l : LogLine). is_answer l.entry) old h.more

abbrev StepsCount : Type 0
StepsCount = (plan : PlanView) (k : Keeping) (s : State) (e : Event) → is_enabled plan s e ≡ true → (happens_with plan k s e).steps ≡ s.steps + 1

few_with : StepsCount → (plan : PlanView) (ceiling : ℕ) (s : State) (kept : List KeptEvent) → IsInFlight plan s → IsRunWith plan ceiling s kept
    → count_of is_answer (run_with plan s kept).log + s.steps ≤ count_of is_answer s.log + (run_with plan s kept).steps
few_with counts plan ceiling s [] fly way = omega arith
few_with counts plan ceiling s (e ∷ es) fly way =
    let t = happens_with plan e.keeping s e.event in
    let on = noted_goes_on plan s e.event t e.keeping (event_notes plan e.keeping s fly.routed fly.one e.event way.0) in
    let step = counts plan e.keeping s e.event way.0 in
    let sum = counted_on s.log t.log on in
    let few = on.few in
    let rest = few_with counts plan (ceiling_after s e.event ceiling) t es (flight_step plan e.keeping s e.event fly way.1.kind way.0) way.2 in
    omega (arith, step, sum, few, rest)

-- a world's log tells of fewer answers than a word counts
pub few_answers : StepsCount → AlwaysWith (λ plan ceiling s. HasRoom plan ceiling s) → (w : Ran) → IsReached w → count_of is_answer w.state.log < 2 ^ 32
few_answers counts room w h =
    let r = room w.plan h.kept h.valid h.way in
    let small = r.small in
    let steps = r.steps in
    let few = few_with counts w.plan 0 (opening w.plan) h.kept (flight_opens w.plan) h.way in
    let same : count_of is_answer w.state.log ≡ count_of is_answer (run_with w.plan (opening w.plan) h.kept).log = ap (λ (s : State). count_of is_answer s.log) h.state_is in
    omega (arith, small, steps, few, same)

-- ---- a turn of a world

abbrev KeptRuns : Type 0
KeptRuns = (plan : PlanView) (events : List Event) → IsRun plan (opening plan) events → IsRunWith plan 0 (opening plan) (kept_events plan (opening plan) events)

abbrev KeptStates : Type 0
KeptStates = (plan : PlanView) (events : List Event) → run_with plan (opening plan) (kept_events plan (opening plan) events) ≡ run plan (opening plan) events

pub turn_goes_on : AlwaysWith (λ plan ceiling s. IsSound plan s) → KeptRuns → KeptStates → (old new : Ran) (event : Event) → IsReached old → Tells old.keeper.records → HasTurned old event new → GoesOn old.state.log new.state.log
turn_goes_on sound runs states old new event h tells turned =
    let d = h.told tells in
    let there : IsSound old.plan old.state =
    subst (λ (s : State). IsSound old.plan s) (states old.plan old.events ∙ sym d.is) (sound old.plan (kept_events old.plan (opening old.plan) old.events) h.valid (runs old.plan old.events d.enabled)) in
    subst (λ (s : State). GoesOn old.state.log s.log) (sym (turned.state tells))
    (noted_goes_on old.plan old.state event (happens old.plan old.state event) (keeping_of old.state event) (event_notes old.plan (keeping_of old.state event) old.state there.routed there.one event turned.enabled))

-- what was counted with what the new lines tell is what the new log tells
pub counted_more : (old new : List LogLine) (before more : ℕ) → GoesOn old new → before ≡ count_of is_answer old → more ≡ count_of is_answer (drop (length old) new) → before + more ≡ count_of is_answer new
counted_more old new before more h was is =
    let behind : drop (length old) new ≡ h.more = ap (λ (l : List LogLine). drop (length old) l) h.is ∙ drop_at old h.more (length old) refl in
    let sum = counted_on old new h in
    let last = is ∙ ap (λ (l : List LogLine). count_of is_answer l) behind in
    omega (arith, was, sum, last)

-- what was counted before a turn with what is told of behind the place where the log ended is what the new log tells
pub counted_after : AlwaysWith (λ plan ceiling s. IsSound plan s) → KeptRuns → KeptStates → (old new : Ran) (event : Event) → IsReached old → Tells old.keeper.records → HasTurned old event new
    → (before more place : ℕ) (seen after : List LogLine) → before ≡ count_of is_answer old.state.log → seen ≡ old.state.log → place ≡ length seen → after ≡ new.state.log → more ≡ count_of is_answer (drop place after)
    → before + more ≡ count_of is_answer new.state.log
counted_after sound runs states old new event h tells turned before more place seen after was seen_is place_is after_is is =
    counted_more old.state.log new.state.log before more (turn_goes_on sound runs states old new event h tells turned) was
    (is ∙ (ap (λ (n : ℕ). count_of is_answer (drop n after)) (place_is ∙ ap (λ (l : List LogLine). length l) seen_is) ∙ ap (λ (l : List LogLine). count_of is_answer (drop (length old.state.log) l)) after_is))

-- a line is counted with those behind it
pub counted_here : (lines : List LogLine) (at : ℕ) (line : LogLine) → slice_get lines at ≡ Some line → count_of is_answer (drop at lines) ≡ cond {A = ℕ} (is_answer line.entry) 1 0 + count_of is_answer (drop (at + 1) lines)
counted_here lines at line there =
    let n : at + 1 ≡ suc at = omega arith in
    rw (n, drop_there lines at line there) (count_cons (λ (l : LogLine). is_answer l.entry) line (drop (suc at) lines))
  where
    drop_there : (lines : List LogLine) (at : ℕ) (line : LogLine) → slice_get lines at ≡ Some line → drop at lines ≡ line ∷ drop (suc at) lines
    drop_there [] at line h = absurd cc
    drop_there (x ∷ xs) zero line h = ap (λ (y : LogLine). y ∷ xs) (same_Some _ _ h)
    drop_there (x ∷ xs) (suc at) line h = drop_there xs at line h

-- no more are told of behind a place than in all
pub counted_behind : (lines : List LogLine) (at : ℕ) → count_of is_answer (drop at lines) ≤ count_of is_answer lines
counted_behind [] zero = omega arith
counted_behind [] (suc at) = omega arith
counted_behind (x ∷ xs) zero = omega arith
counted_behind (x ∷ xs) (suc at) =
    let more = counted_behind xs at in
    let sum = count_cons (λ (l : LogLine). is_answer l.entry) x xs in
    omega (arith, more, sum)

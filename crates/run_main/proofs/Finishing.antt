-- How a run in threads ends: the report of its events, the cause of its answer, what it has written and hands back.
use Rattle.std.proofs.Common.{◌≡◌, ◌⊎◌, inl, inr, ℕ, true, List, [], Option, Some, None, Err, refl, sym, ◌∙◌, subst}
use Rattle.std.specs.Prelude.{IfSome}
use Rattle.far_base.specs.PlanView.{PlanView}
use Rattle.far_base.specs.declared.event.Event.{Event}
use Rattle.far_history.specs.Report.{IsReport}
use Rattle.far_invariants.specs.Always.{Always}
use Rattle.far_invariants.specs.Recoveries.{BlocksAreRestarts}
use Rattle.far_model.specs.Answered.{AllAnswered}
use Rattle.far_model.specs.Linearizable.{HasOneLinearizableHistory}
use Rattle.far_model.specs.Runs.{IsRun, is_finished, run}
use Rattle.far_model.specs.State.{State, opening}
use Rattle.far_runner.specs.Ended.{IsEndOf}
use Rattle.far_world.specs.Reached.{Ran}
use Rattle.workload.specs.WorkView.{WorkView}
use Rattle.run_main.proofs.Telling.{FinishedAreLinearizable, report_tells}
use Rattle.run_main.specs.Inputs.{IsRefused, IsRefusedAs}
use Rattle.run_main.specs.Lines.{bad_line, refusal_line, too_large_line}
use Rattle.run_main.specs.Replay.{log_of}
use Rattle.run_main.specs.Run.{HandsBack, HasRunCause, IsFinishedRun, IsReportOfInput, IsRunDue, IsRunOfInput, IsRunReport, IsRunSettled, RunWroteDue}
use Rattle.run_main.specs.Saying.{IsAnswer, IsRead, IsReadingFault, Says, SettlesReading}
use Rattle.run_main.specs.Top.{IsOrMemory, ReadToEnd}
use Rattle.run_main.specs.declared.status.Status.{Status}
use Rattle.run_main.specs.declared.status.Status.TheVariants.{Done, Usage, BadLine, ReadFault, WriteFault, KeeperFault, Memory, TooLarge, BadImage, Conflict, Wrong}

abbrev pub Fitting : Type 1
Fitting = List ℕ → List ℕ → Type 0

abbrev pub Left : Type 0
Left = Option (List ℕ)

-- ---- the report of the events

-- the report of a world that was run to its end is that of the run of its plan by its events
pub run_report_is : (plan : PlanView) (w : Ran) (events : List Event) (text : List ℕ) → IsEndOf plan w → events ≡ w.events → FinishedAreLinearizable → Always (λ plan events s. BlocksAreRestarts plan events s) → IsReport (log_of w.state) text → IsRunReport plan events text
run_report_is plan w events text end events_are histories restarts report =
    subst (λ (p : PlanView). IsRunReport p events text) end.plan_is
    (subst (λ (es : List Event). IsRunReport w.plan es text) (sym events_are) (record {
      run = record {
        enabled = end.run.enabled;
        finished = finished;
        answered = subst (λ (z : State). AllAnswered w.plan z) end.run.is end.answered;
        history = one;
        restarts = restarts w.plan w.events end.reached.valid end.run.enabled;
      };
      report = report_tells w.plan.ops (log_of last) text one (subst (λ (z : State). IsReport (log_of z) text) end.run.is report);
    }))
  where
    last : State
    last = run w.plan (opening w.plan) w.events

    finished : is_finished w.plan last ≡ true
    finished = subst (λ (z : State). is_finished w.plan z ≡ true) end.run.is end.finished

    one : HasOneLinearizableHistory w.plan.ops last.log
    one = histories w.plan w.events end.reached.valid end.run.enabled finished

-- ---- what is said is what was due

pub run_wrote : (asked : Type 0) (left : Left) (Fits : Fitting) (before now : Left) (text : List ℕ) (status answer : Status) → IsRunDue asked left Fits status text → Says before now text status answer → RunWroteDue asked left Fits before now answer
run_wrote asked left Fits None now text status answer due says = tt
run_wrote asked left Fits (Some before) None text status answer due says = says
run_wrote asked left Fits (Some before) (Some now) text status WriteFault due says = record { status = status; text = text; count = says.0; due = due; wrote = says.1 }
run_wrote asked left Fits (Some before) (Some now) text status Memory due says = says
run_wrote asked left Fits (Some before) (Some now) text status ReadFault due says = absurd says
run_wrote asked left Fits (Some before) (Some now) text status KeeperFault due says = absurd says
run_wrote asked left Fits (Some before) (Some now) text status Done due says = record { text = text; due = subst (λ (s : Status). IsRunDue asked left Fits s text) (sym says.0) due; wrote = says.1 }
run_wrote asked left Fits (Some before) (Some now) text status Usage due says = record { text = text; due = subst (λ (s : Status). IsRunDue asked left Fits s text) (sym says.0) due; wrote = says.1 }
run_wrote asked left Fits (Some before) (Some now) text status (BadLine line) due says = record { text = text; due = subst (λ (s : Status). IsRunDue asked left Fits s text) (sym says.0) due; wrote = says.1 }
run_wrote asked left Fits (Some before) (Some now) text status (BadImage line) due says = record { text = text; due = subst (λ (s : Status). IsRunDue asked left Fits s text) (sym says.0) due; wrote = says.1 }
run_wrote asked left Fits (Some before) (Some now) text status (Conflict line) due says = record { text = text; due = subst (λ (s : Status). IsRunDue asked left Fits s text) (sym says.0) due; wrote = says.1 }
run_wrote asked left Fits (Some before) (Some now) text status (Wrong line) due says = record { text = text; due = subst (λ (s : Status). IsRunDue asked left Fits s text) (sym says.0) due; wrote = says.1 }
run_wrote asked left Fits (Some before) (Some now) text status (TooLarge limit line) due says = record { text = text; due = subst (λ (s : Status). IsRunDue asked left Fits s text) (sym says.0) due; wrote = says.1 }

pub run_wrote_nothing : (asked : Type 0) (left : Left) (Fits : Fitting) (before now : Left) (answer : Status) → (answer ≡ ReadFault) ⊎ (answer ≡ Memory) → now ≡ before → RunWroteDue asked left Fits before now answer
run_wrote_nothing asked left Fits before now answer quiet same = subst (λ (n : Left). RunWroteDue asked left Fits before n answer) (sym same) (go before quiet)
  where
    go : (b : Left) → (answer ≡ ReadFault) ⊎ (answer ≡ Memory) → RunWroteDue asked left Fits b b answer
    go None h = tt
    go (Some b) (inl e) = subst (λ (s : Status). RunWroteDue asked left Fits (Some b) (Some b) s) (sym e) refl
    go (Some b) (inr e) = subst (λ (s : Status). RunWroteDue asked left Fits (Some b) (Some b) s) (sym e) refl

-- ---- where there is no workload

pub run_caused_early : (asked : Type 0) (left : Left) (source_rose sink_rose : Type 0) (status answer : Status) → asked → IsReadingFault left source_rose status → IsAnswer status answer → (answer ≡ WriteFault → sink_rose)
    → HasRunCause asked left source_rose sink_rose answer
run_caused_early asked left a b status answer r fault (inr (inl failed)) sink = subst (λ (s : Status). HasRunCause asked left a b s) (sym failed) (sink failed)
run_caused_early asked left a b status answer r fault (inr (inr none)) sink = subst (λ (s : Status). HasRunCause asked left a b s) (sym none) tt
run_caused_early asked left a b status answer r fault (inl same) sink = subst (λ (s : Status). HasRunCause asked left a b s) (sym same) (go status fault)
  where
    go : (s : Status) → IsReadingFault left a s → HasRunCause asked left a b s
    go (BadLine line) h = (r, h)
    go (TooLarge limit line) h = (r, h.0, h.1)
    go ReadFault h = (r, h)
    go Memory h = tt
    go Done h = absurd h
    go Usage h = absurd h
    go WriteFault h = absurd h
    go KeeperFault h = absurd h
    go (BadImage line) h = absurd h
    go (Conflict line) h = absurd h
    go (Wrong line) h = absurd h

pub run_wrote_early : (asked : Type 0) (left : Left) (Fits : Fitting) (before now : Left) (source_rose : Type 0) (status answer : Status) → asked → IsReadingFault left source_rose status
    → IfSome (refusal_line status) (λ text. Says before now text status answer) → (refusal_line status ≡ None → (now ≡ before) × ((answer ≡ status) ⊎ (answer ≡ Memory))) → RunWroteDue asked left Fits before now answer
run_wrote_early asked left Fits before now a (BadLine line) answer r fault said silent = run_wrote asked left Fits before now (bad_line line) (BadLine line) answer (r, fault, refl) said
run_wrote_early asked left Fits before now a (TooLarge limit line) answer r fault said silent = run_wrote asked left Fits before now (too_large_line limit line) (TooLarge limit line) answer (r, fault.1, refl) said
run_wrote_early asked left Fits before now a ReadFault answer r fault said silent = run_wrote_nothing asked left Fits before now answer (silent refl).1 (silent refl).0
run_wrote_early asked left Fits before now a Memory answer r fault said silent = run_wrote_nothing asked left Fits before now answer (inr (go (silent refl).1)) (silent refl).0
  where
    go : (answer ≡ Memory) ⊎ (answer ≡ Memory) → answer ≡ Memory
    go (inl e) = e
    go (inr e) = e
run_wrote_early asked left Fits before now a Done answer r fault said silent = absurd fault
run_wrote_early asked left Fits before now a Usage answer r fault said silent = absurd fault
run_wrote_early asked left Fits before now a WriteFault answer r fault said silent = absurd fault
run_wrote_early asked left Fits before now a KeeperFault answer r fault said silent = absurd fault
run_wrote_early asked left Fits before now a (BadImage line) answer r fault said silent = absurd fault
run_wrote_early asked left Fits before now a (Conflict line) answer r fault said silent = absurd fault
run_wrote_early asked left Fits before now a (Wrong line) answer r fault said silent = absurd fault

pub if_some : (P Q : List ℕ → Type 0) (left : Left) → ((input : List ℕ) → P input → Q input) → IfSome left P → IfSome left Q
if_some P Q None f h = tt
if_some P Q (Some input) f h = f input h

pub run_settled_early : (asked : Type 0) (left : Left) (source_calm sink_calm : Type 0) (status answer : Status) → asked → (source_calm → IfSome left (λ input. SettlesReading input (Err status)))
    → (sink_calm → (answer ≡ status) ⊎ (answer ≡ Memory)) → IsRunSettled asked left source_calm sink_calm answer
run_settled_early asked left a b status answer r reading said = record {
  other_words = λ other calm. absurd (other r);
  refused = λ _ calm quiet. if_some _ _ left (λ input s refusal h. refused (s.refused refusal h) (said quiet)) (reading calm);
  ran = λ _ calm quiet. if_some _ _ left (λ input s work h. none (s.workload work h) (said quiet)) (reading calm);
}
  where
    refused : {refusal : Status} → (status ≡ refusal) ⊎ (status ≡ Memory) → (answer ≡ status) ⊎ (answer ≡ Memory) → IsOrMemory refusal answer
    refused (inl e) (inl f) = inl (f ∙ e)
    refused (inr e) (inl f) = inr (f ∙ e)
    refused e (inr f) = inr f

    none : status ≡ Memory → (answer ≡ status) ⊎ (answer ≡ Memory) → IsOrMemory Done answer
    none e (inl f) = inr (f ∙ e)
    none e (inr f) = inr f

abbrev IsDoneStatus : Status → Type 0
IsDoneStatus Done = Unit {0}
IsDoneStatus _ = ⊥

abbrev IsFailedWrite : Status → Type 0
IsFailedWrite WriteFault = Unit {0}
IsFailedWrite _ = ⊥

pub run_events_early : (asked : Type 0) (left now : Left) (Ran : List ℕ → Type 0) (none : Type 0) (source_rose : Type 0) (status answer : Status) → IsReadingFault left source_rose status → IsAnswer status answer
    → (refusal_line status ≡ None → (answer ≡ status) ⊎ (answer ≡ Memory)) → none → HandsBack asked left now Ran none answer
run_events_early asked left now Ran none a status answer fault (inr (inr memory)) silent empty = subst (λ (s : Status). HandsBack asked left now Ran none s) (sym memory) empty
run_events_early asked left now Ran none a status answer fault (inl same) silent empty = subst (λ (s : Status). HandsBack asked left now Ran none s) (sym same) (go status fault)
  where
    go : (s : Status) → IsReadingFault left a s → HandsBack asked left now Ran none s
    go (BadLine line) h = empty
    go (TooLarge limit line) h = empty
    go ReadFault h = empty
    go Memory h = empty
    go Done h = absurd h
    go Usage h = absurd h
    go WriteFault h = absurd h
    go KeeperFault h = absurd h
    go (BadImage line) h = absurd h
    go (Conflict line) h = absurd h
    go (Wrong line) h = absurd h
run_events_early asked left now Ran none a status answer fault (inr (inl failed)) silent empty = subst (λ (s : Status). HandsBack asked left now Ran none s) (sym failed) (inr (empty, inr (go status fault silent)))
  where
    refused : (s : Status) → IfSome left (λ input. IsRefusedAs input s) → IfSome left IsRefused
    refused s h = if_some (λ input. IsRefusedAs input s) IsRefused left (λ input is. record { status = s; is = is }) h

    -- a refusal without a line is not answered by a failed write
    never : (s : Status) → IsFailedWrite s ≡ ⊥ → (answer ≡ s) ⊎ (answer ≡ Memory) → ⊥
    never s other (inl e) = subst (λ (T : Type 0). T) other (subst IsFailedWrite (sym failed ∙ e) tt)
    never s other (inr e) = subst IsFailedWrite (sym failed ∙ e) tt

    go : (s : Status) → IsReadingFault left a s → (refusal_line s ≡ None → (answer ≡ s) ⊎ (answer ≡ Memory)) → IfSome left IsRefused
    go (BadLine line) h quiet = refused (BadLine line) h
    go (TooLarge limit line) h quiet = refused (TooLarge limit line) h.1
    go ReadFault h quiet = absurd (never ReadFault refl (quiet refl))
    go Memory h quiet = absurd (never Memory refl (quiet refl))
    go Done h quiet = absurd h
    go Usage h quiet = absurd h
    go WriteFault h quiet = absurd h
    go KeeperFault h quiet = absurd h
    go (BadImage line) h quiet = absurd h
    go (Conflict line) h quiet = absurd h
    go (Wrong line) h quiet = absurd h

-- ---- where there are other words

pub run_events_usage : (asked : Type 0) (left now : Left) (Ran : List ℕ → Type 0) (none : Type 0) (answer : Status) → ¬ asked → IsAnswer Usage answer → none → HandsBack asked left now Ran none answer
run_events_usage asked left now Ran none answer other (inl same) empty = subst (λ (s : Status). HandsBack asked left now Ran none s) (sym same) empty
run_events_usage asked left now Ran none answer other (inr (inl failed)) empty = subst (λ (s : Status). HandsBack asked left now Ran none s) (sym failed) (inr (empty, inl other))
run_events_usage asked left now Ran none answer other (inr (inr memory)) empty = subst (λ (s : Status). HandsBack asked left now Ran none s) (sym memory) empty

-- ---- where there is a workload

pub run_settled : (asked : Type 0) (left : Left) (source_calm sink_calm : Type 0) (work : WorkView) (answer : Status) → asked → IfSome left (λ input. IsRead input work) → (sink_calm → IsOrMemory Done answer)
    → IsRunSettled asked left source_calm sink_calm answer
run_settled asked left a b work answer r read done = record {
  other_words = λ other calm. absurd (other r);
  refused = λ _ calm quiet. if_some _ _ left (λ input s refusal h. absurd (s.settles.refused refusal h)) read;
  ran = λ _ calm quiet. if_some _ _ left (λ input s work h. done quiet) read;
}

pub run_events : (asked : Type 0) (left now : Left) (Ran : List ℕ → Type 0) (none : Type 0) (answer : Status) → asked → ReadToEnd left now → IsAnswer Done answer → (answer ≡ Memory → none) → ((answer ≡ Memory → ⊥) → IfSome left Ran)
    → HandsBack asked left now Ran none answer
run_events asked left now Ran none answer r end (inl done) empty some = subst (λ (s : Status). HandsBack asked left now Ran none s) (sym done) (r, end, some (λ memory. subst IsDoneStatus (sym done ∙ memory) tt))
run_events asked left now Ran none answer r end (inr (inl failed)) empty some = subst (λ (s : Status). HandsBack asked left now Ran none s) (sym failed) (inl (r, end, some (λ memory. subst IsFailedWrite (sym failed ∙ memory) tt)))
run_events asked left now Ran none answer r end (inr (inr memory)) empty some = subst (λ (s : Status). HandsBack asked left now Ran none s) (sym memory) (empty memory)

pub run_wrote_report : (asked : Type 0) (left : Left) (Fits : Fitting) (before now : Left) (text : List ℕ) (answer : Status) → asked → Says before now text Done answer
    → ((answer ≡ Memory → ⊥) → IfSome left (λ input. Fits input text)) → RunWroteDue asked left Fits before now answer
run_wrote_report asked left Fits None now text answer r says fits = tt
run_wrote_report asked left Fits (Some before) None text answer r says fits = says
run_wrote_report asked left Fits (Some before) (Some now) text Memory r says fits = says
run_wrote_report asked left Fits (Some before) (Some now) text WriteFault r says fits = record { status = Done; text = text; count = says.0; due = (r, fits (λ memory. subst IsFailedWrite memory tt)); wrote = says.1 }
run_wrote_report asked left Fits (Some before) (Some now) text Done r says fits = record { text = text; due = (r, fits (λ memory. subst IsDoneStatus memory tt)); wrote = says.1 }
run_wrote_report asked left Fits (Some before) (Some now) text ReadFault r says fits = absurd says
run_wrote_report asked left Fits (Some before) (Some now) text KeeperFault r says fits = absurd says
run_wrote_report asked left Fits (Some before) (Some now) text Usage r says fits = absurd (subst IsDoneStatus (sym says.0) tt)
run_wrote_report asked left Fits (Some before) (Some now) text (BadLine line) r says fits = absurd (subst IsDoneStatus (sym says.0) tt)
run_wrote_report asked left Fits (Some before) (Some now) text (BadImage line) r says fits = absurd (subst IsDoneStatus (sym says.0) tt)
run_wrote_report asked left Fits (Some before) (Some now) text (Conflict line) r says fits = absurd (subst IsDoneStatus (sym says.0) tt)
run_wrote_report asked left Fits (Some before) (Some now) text (Wrong line) r says fits = absurd (subst IsDoneStatus (sym says.0) tt)
run_wrote_report asked left Fits (Some before) (Some now) text (TooLarge limit line) r says fits = absurd (subst IsDoneStatus (sym says.0) tt)

-- ---- one run

pub report_fits : (left : Left) (work : WorkView) (events made : List Event) (text : List ℕ) → IfSome left (λ input. IsRead input work) → IsRunReport work.plan made text → events ≡ made → IfSome left (λ input. IsReportOfInput events input text)
report_fits left work events made text read report same = if_some _ _ left (λ input r. let fits : IsReportOfInput events input text = record { work = work; is = r.is; report = subst (λ (es : List Event). IsRunReport work.plan es text) (sym same) report } in fits) read

pub run_fits : (left : Left) (work : WorkView) (events made : List Event) → IfSome left (λ input. IsRead input work) → IsFinishedRun work.plan made → events ≡ made → IfSome left (IsRunOfInput events)
run_fits left work events made read finished same = if_some _ _ left (λ input r. let fits : IsRunOfInput events input = record { work = work; is = r.is; run = subst (λ (es : List Event). IsFinishedRun work.plan es) (sym same) finished } in fits) read

-- How a top call ends: the cause of its answer, what it has written, and what was due.
use Rattle.std.proofs.Common.{arith, ◌≡◌, ◌⊎◌, inl, inr, ℕ, List, ◌++◌, Option, Some, None, Err, take, refl, sym, ap, ◌∙◌, subst}
use Rattle.std.specs.Prelude.{IfSome, is_some}
use Rattle.far_outside.specs.Faults.{Rose}
use Rattle.far_base.specs.declared.record.Record.{Record}
use Rattle.run_main.proofs.Taskings.{if_some}
use Rattle.run_main.specs.Commands.{MakesRun, Reads, input_of}
use Rattle.run_main.specs.Gone.{HasGoneIn, IsKeptBy, IsStillOrGone}
use Rattle.run_main.specs.Lines.{bad_image_line, bad_line, conflict_line, refusal_line, too_large_line, usage_line, wrong_line}
use Rattle.run_main.specs.Saying.{IsAnswer, IsAsked, IsEarlyFault, IsRunFault, IsTaskFault, Says, SettlesTask}
use Rattle.run_main.specs.Tasks.{HasTask, IsOfKind, MergesOnly}
use Rattle.run_main.specs.Texts.{IsTextOf, SeesTask}
use Rattle.run_main.specs.Top.{ComesBeforeRun, HasCause, IsDecided, IsDone, IsDue, IsOrMemory, IsSettled, IsUnsaid, MadeNoRun, ReadFirst, WroteDue}
use Rattle.run_main.specs.declared.command.Command.{Command}
use Rattle.run_main.specs.declared.command.Command.TheVariants.{Replay, Image, Recover, Audit, Bulk, Link}
use Rattle.run_main.specs.declared.status.Status.{Status}
use Rattle.run_main.specs.declared.status.Status.TheVariants.{Done, Usage, BadLine, ReadFault, WriteFault, KeeperFault, Memory, TooLarge, BadImage, Conflict, Wrong}
use Rattle.run_main.specs.declared.task.Task.{Task}
use Rattle.run_main.specs.declared.task.Task.TheVariants.{Run, Keep, Merge, Approve, Tell}

abbrev pub Left : Type 0
Left = Option (List ℕ)

abbrev pub Records : Type 0
Records = Option (List (List Record))

-- ---- what is said is what was due

pub wrote : (command : Option Command) (left : Left) (records : Records) (before now : Left) (text : List ℕ) (status answer : Status) → IsDue command left records status text → Says before now text status answer → WroteDue command left records before now answer
wrote command left records None now text status answer due says = tt
wrote command left records (Some before) None text status answer due says = says
wrote command left records (Some before) (Some now) text status WriteFault due says = record { status = status; text = text; count = says.0; due = due; wrote = says.1 }
wrote command left records (Some before) (Some now) text status Memory due says = says
wrote command left records (Some before) (Some now) text status ReadFault due says = absurd says
wrote command left records (Some before) (Some now) text status KeeperFault due says = absurd says
wrote command left records (Some before) (Some now) text status Done due says = record { text = text; due = subst (λ (s : Status). IsDue command left records s text) (sym says.0) due; wrote = says.1 }
wrote command left records (Some before) (Some now) text status Usage due says = record { text = text; due = subst (λ (s : Status). IsDue command left records s text) (sym says.0) due; wrote = says.1 }
wrote command left records (Some before) (Some now) text status (BadLine line) due says = record { text = text; due = subst (λ (s : Status). IsDue command left records s text) (sym says.0) due; wrote = says.1 }
wrote command left records (Some before) (Some now) text status (TooLarge limit line) due says = record { text = text; due = subst (λ (s : Status). IsDue command left records s text) (sym says.0) due; wrote = says.1 }
wrote command left records (Some before) (Some now) text status (BadImage line) due says = record { text = text; due = subst (λ (s : Status). IsDue command left records s text) (sym says.0) due; wrote = says.1 }
wrote command left records (Some before) (Some now) text status (Conflict line) due says = record { text = text; due = subst (λ (s : Status). IsDue command left records s text) (sym says.0) due; wrote = says.1 }
wrote command left records (Some before) (Some now) text status (Wrong line) due says = record { text = text; due = subst (λ (s : Status). IsDue command left records s text) (sym says.0) due; wrote = says.1 }

-- ---- where there is no command

pub wrote_usage : (command : Option Command) (left : Left) (records : Records) (before now : Left) (answer : Status) → None ≡ command → Says before now usage_line Usage answer → WroteDue command left records before now answer
wrote_usage command left records before now answer none says = subst (λ (c : Option Command). WroteDue c left records before now answer) none (wrote None left records before now usage_line Usage answer refl says)

-- ---- where there is no text

abbrev pub IsSilent : Status → Type 0
IsSilent ReadFault = Unit {0}
IsSilent KeeperFault = Unit {0}
IsSilent Memory = Unit {0}
IsSilent _ = ⊥

pub wrote_nothing : (command : Option Command) (left : Left) (records : Records) (before now : Left) (answer : Status) → IsSilent answer → now ≡ before → WroteDue command left records before now answer
wrote_nothing command left records before now answer silent same = subst (λ (n : Left). WroteDue command left records before n answer) (sym same) (go before answer silent)
  where
    go : (b : Left) (a : Status) → IsSilent a → WroteDue command left records b b a
    go None a h = tt
    go (Some b) ReadFault h = refl
    go (Some b) KeeperFault h = refl
    go (Some b) Memory h = refl
    go (Some b) Done h = absurd h
    go (Some b) Usage h = absurd h
    go (Some b) (BadLine line) h = absurd h
    go (Some b) WriteFault h = absurd h
    go (Some b) (TooLarge limit line) h = absurd h
    go (Some b) (BadImage line) h = absurd h
    go (Some b) (Conflict line) h = absurd h
    go (Some b) (Wrong line) h = absurd h

-- ---- where there is no task

module _ (command : Command) (left : Left) where
  pub caused_early : (source_rose sink_rose keeper_rose : Type 0) (status answer : Status) → IsEarlyFault command left source_rose status → IsAnswer status answer → (answer ≡ WriteFault → sink_rose)
      → HasCause (Some command) left source_rose sink_rose keeper_rose answer
  caused_early a b k status answer fault (inr (inl failed)) sink = subst (λ (s : Status). HasCause (Some command) left a b k s) (sym failed) (sink failed)
  caused_early a b k status answer fault (inr (inr none)) sink = subst (λ (s : Status). HasCause (Some command) left a b k s) (sym none) tt
  caused_early a b k status answer fault (inl same) sink = subst (λ (s : Status). HasCause (Some command) left a b k s) (sym same) (go status fault)
    where
      go : (s : Status) → IsEarlyFault command left a s → HasCause (Some command) left a b k s
      go (BadLine line) h = h
      go (TooLarge limit line) h = h
      go (BadImage line) h = h
      go (Conflict line) h = h
      go (Wrong line) h = h
      go ReadFault h = h
      go Memory h = tt
      go Done h = absurd h
      go Usage h = absurd h
      go WriteFault h = absurd h
      go KeeperFault h = absurd h

  pub wrote_early : (records : Records) (before now : Left) (source_rose : Type 0) (status answer : Status) → IsEarlyFault command left source_rose status → IsAnswer status answer
      → IfSome (refusal_line status) (λ text. Says before now text status answer) → (refusal_line status ≡ None → (now ≡ before) × ((answer ≡ status) ⊎ (answer ≡ Memory))) → WroteDue (Some command) left records before now answer
  wrote_early records before now a (BadLine line) answer fault is said silent = wrote (Some command) left records before now (bad_line line) (BadLine line) answer (fault, refl) said
  wrote_early records before now a (TooLarge limit line) answer fault is said silent = wrote (Some command) left records before now (too_large_line limit line) (TooLarge limit line) answer (fault, refl) said
  wrote_early records before now a (BadImage line) answer fault is said silent = wrote (Some command) left records before now (bad_image_line line) (BadImage line) answer (fault, refl) said
  wrote_early records before now a (Conflict line) answer fault is said silent = wrote (Some command) left records before now (conflict_line line) (Conflict line) answer (fault, refl) said
  wrote_early records before now a (Wrong line) answer fault is said silent = wrote (Some command) left records before now (wrong_line line) (Wrong line) answer (fault, refl) said
  wrote_early records before now a ReadFault answer fault is said silent = go (silent refl).1
    where
      go : (answer ≡ ReadFault) ⊎ (answer ≡ Memory) → WroteDue (Some command) left records before now answer
      go (inl e) = wrote_nothing (Some command) left records before now answer (subst IsSilent (sym e) tt) (silent refl).0
      go (inr e) = wrote_nothing (Some command) left records before now answer (subst IsSilent (sym e) tt) (silent refl).0
  wrote_early records before now a Memory answer fault is said silent = go (silent refl).1
    where
      go : (answer ≡ Memory) ⊎ (answer ≡ Memory) → WroteDue (Some command) left records before now answer
      go (inl e) = wrote_nothing (Some command) left records before now answer (subst IsSilent (sym e) tt) (silent refl).0
      go (inr e) = wrote_nothing (Some command) left records before now answer (subst IsSilent (sym e) tt) (silent refl).0
  wrote_early records before now a Done answer fault is said silent = absurd fault
  wrote_early records before now a Usage answer fault is said silent = absurd fault
  wrote_early records before now a WriteFault answer fault is said silent = absurd fault
  wrote_early records before now a KeeperFault answer fault is said silent = absurd fault

  pub settled_early : (source_calm sink_calm keeper_calm : Type 0) (status answer : Status) → ((Reads command → source_calm) → IfSome (input_of command left) (λ input. SettlesTask command input (Err status)))
      → (sink_calm → (answer ≡ status) ⊎ (answer ≡ Memory)) → IsSettled (Some command) left source_calm sink_calm keeper_calm answer
  settled_early a b k status answer reading said = record {
    refused = λ calm quiet. if_some _ _ (input_of command left) (λ input s refusal h. refused (s.refused refusal h) (said quiet)) (reading calm);
    done = λ calm quiet steady. if_some _ _ (input_of command left) (λ input s task h. none (s.asked task h) (said quiet)) (reading calm);
  }
    where
      refused : {refusal : Status} → (status ≡ refusal) ⊎ (status ≡ Memory) → (answer ≡ status) ⊎ (answer ≡ Memory) → IsOrMemory refusal answer
      refused (inl e) (inl f) = inl (f ∙ e)
      refused (inr e) (inl f) = inr (f ∙ e)
      refused e (inr f) = inr f

      none : status ≡ Memory → (answer ≡ status) ⊎ (answer ≡ Memory) → IsOrMemory Done answer
      none e (inl f) = inr (f ∙ e)
      none e (inr f) = inr f

  -- a refusal comes only after the input was read, also where its line was not written
  pub read_early : (now : Left) (source_rose : Type 0) (status answer : Status) → IsEarlyFault command left source_rose status → (Reads command → ReadFirst left now status) → IsAnswer status answer → Reads command → ReadFirst left now answer
  read_early now a status answer fault first (inl same) reads = subst (λ (s : Status). ReadFirst left now s) (sym same) (first reads)
  read_early now a status answer fault first (inr (inl failed)) reads = subst (λ (s : Status). ReadFirst left now s) (sym failed) tt
  read_early now a status answer fault first (inr (inr none)) reads = subst (λ (s : Status). ReadFirst left now s) (sym none) tt

-- ---- where there is one

module _ (command : Command) (left : Left) (task : Task) (asked : IfSome (input_of command left) (λ input. IsAsked command input task)) (kind : IsOfKind command task) where
  has_task : IfSome (input_of command left) (HasTask command)
  has_task = if_some _ _ (input_of command left) (λ input a. let h : HasTask command input = record { task = task; is = a.is } in h) asked

  -- where the keeper does not tell its records nothing is said of a run's text
  told : (t : Task) (text : List ℕ) (before records : Records) → is_some records ≡ is_some before → (SeesTask t before → IsTextOf t text records) → IsTextOf t text records
  told (Merge items) text before records same is = is tt
  told Approve text before records same is = is tt
  told (Tell events) text before records same is = is tt
  told (Run work account) text before None same is = tt
  told (Run work account) text before (Some all) same is = is (sym same)
  told (Keep work) text before None same is = tt
  told (Keep work) text before (Some all) same is = is (sym same)

  pub due_text : (before records : Records) (text : List ℕ) → is_some records ≡ is_some before → (SeesTask task before → IsTextOf task text records) → IsDue (Some command) left records Done text
  due_text before records text same is = if_some _ _ (input_of command left) (λ input a. let h : IsDone command input text records = record { task = task; asked = a.is; done = told task text before records same is } in h) asked

  -- what the keeper has is what the task left in it
  pub kept_by : (before now : Records) → IsStillOrGone task before now → IsKeptBy (Some command) left before now
  kept_by before now (inl same) = inl same
  kept_by before None (inr gone) = inr tt
  kept_by before (Some all) (inr gone) = inr (record {
    task = task;
    kind = kind;
    asked = if_some _ _ (input_of command left) (λ input a. a.is) asked;
    gone = gone;
  })

  makes_run : (rose : Type 0) → IsTaskFault task rose KeeperFault → MakesRun command × rose
  makes_run rose h = go command task kind h
    where
      go : (c : Command) (t : Task) → IsOfKind c t → IsTaskFault t rose KeeperFault → MakesRun c × rose
      go c (Merge items) k f = absurd (let e : KeeperFault ≡ Memory = f in cc)
      go c Approve k f = absurd (let e : KeeperFault ≡ Memory = f in cc)
      go c (Tell events) k f = absurd (let e : KeeperFault ≡ Memory = f in cc)
      go Replay (Run work account) k f = (tt, f)
      go Replay (Keep work) k f = (tt, f)
      go Image (Run work account) k f = (tt, f)
      go Image (Keep work) k f = (tt, f)
      go Recover (Run work account) k f = absurd k
      go Audit (Run work account) k f = absurd k
      go Recover (Keep work) k f = absurd k
      go Audit (Keep work) k f = absurd k
      go Link (Run work account) k f = absurd k
      go Link (Keep work) k f = absurd k
      go (Bulk start ops) (Run work account) k f = (tt, f)
      go (Bulk start ops) (Keep work) k f = (tt, f)

  -- an answer of a run
  abbrev IsOfRun : Status → Type 0
  IsOfRun Done = Unit {0}
  IsOfRun WriteFault = Unit {0}
  IsOfRun KeeperFault = Unit {0}
  IsOfRun Memory = Unit {0}
  IsOfRun _ = ⊥

  pub fault_kinds : (rose : Type 0) (status : Status) → IsTaskFault task rose status → (status ≡ KeeperFault) ⊎ (status ≡ Memory)
  fault_kinds rose status h = go task status h
    where
      runs : (s : Status) → IsRunFault rose s → (s ≡ KeeperFault) ⊎ (s ≡ Memory)
      runs KeeperFault f = inl refl
      runs Memory f = inr refl
      runs Done f = absurd f
      runs Usage f = absurd f
      runs (BadLine line) f = absurd f
      runs ReadFault f = absurd f
      runs WriteFault f = absurd f
      runs (TooLarge limit line) f = absurd f
      runs (BadImage line) f = absurd f
      runs (Conflict line) f = absurd f
      runs (Wrong line) f = absurd f

      go : (t : Task) (s : Status) → IsTaskFault t rose s → (s ≡ KeeperFault) ⊎ (s ≡ Memory)
      go (Run work account) s f = runs s f
      go (Keep work) s f = runs s f
      go (Merge items) s f = inr f
      go Approve s f = inr f
      go (Tell events) s f = inr f

  pub caused_fault : (source_rose sink_rose keeper_rose : Type 0) (status : Status) → IsTaskFault task keeper_rose status → HasCause (Some command) left source_rose sink_rose keeper_rose status
  caused_fault a b k status fault = go (fault_kinds k status fault)
    where
      go : (status ≡ KeeperFault) ⊎ (status ≡ Memory) → HasCause (Some command) left a b k status
      go (inl e) = let m = makes_run k (subst (λ (s : Status). IsTaskFault task k s) e fault) in subst (λ (s : Status). HasCause (Some command) left a b k s) (sym e) (m.0, has_task, m.1)
      go (inr e) = subst (λ (s : Status). HasCause (Some command) left a b k s) (sym e) tt

  pub wrote_fault : (keeper_rose : Type 0) (status : Status) (records : Records) (before : Left) → IsTaskFault task keeper_rose status → WroteDue (Some command) left records before before status
  wrote_fault k status records before fault = go (fault_kinds k status fault)
    where
      go : (status ≡ KeeperFault) ⊎ (status ≡ Memory) → WroteDue (Some command) left records before before status
      go (inl e) = wrote_nothing (Some command) left records before before status (subst IsSilent (sym e) tt) refl
      go (inr e) = wrote_nothing (Some command) left records before before status (subst IsSilent (sym e) tt) refl

  pub settled_run : (source_calm sink_calm keeper_calm : Type 0) (answer : Status) → (sink_calm → (MakesRun command → keeper_calm) → IsOrMemory Done answer) → IsSettled (Some command) left source_calm sink_calm keeper_calm answer
  settled_run a b k answer done = record {
    refused = λ calm quiet. if_some _ _ (input_of command left) (λ input s refusal h. absurd (s.settles.refused refusal h)) asked;
    done = λ calm quiet steady. if_some _ _ (input_of command left) (λ input s other h. done quiet steady) asked;
  }

  pub settled_fault : (source_calm sink_calm keeper_rose : Type 0) (status : Status) → IsTaskFault task keeper_rose status → IsSettled (Some command) left source_calm sink_calm (¬ keeper_rose) status
  settled_fault a b rose status fault = settled_run a b (¬ rose) status (λ quiet steady. go steady (fault_kinds rose status fault))
    where
      go : (MakesRun command → ¬ rose) → (status ≡ KeeperFault) ⊎ (status ≡ Memory) → IsOrMemory Done status
      go steady (inl e) = let m = makes_run rose (subst (λ (s : Status). IsTaskFault task rose s) e fault) in absurd (steady m.0 m.1)
      go steady (inr e) = inr e

  -- no refusal was due
  unsaid : (answer : Status) → IsUnsaid command left answer → ⊥
  unsaid answer u = go (input_of command left) asked u.told
    where
      go : (l : Left) → IfSome l (λ input. IsAsked command input task) → l ≡ Some u.input → ⊥
      go l h e = (subst (λ (o : Left). IfSome o (λ input. IsAsked command input task)) e h).settles.refused u.refusal u.refused

  merges : ¬ (MakesRun command) → MergesOnly task
  merges none = go command task kind none
    where
      go : (c : Command) (t : Task) → IsOfKind c t → ¬ (MakesRun c) → MergesOnly t
      go c (Merge items) h n = tt
      go c Approve h n = tt
      go c (Tell events) h n = tt
      go Replay (Run work account) h n = n tt
      go Replay (Keep work) h n = n tt
      go Image (Run work account) h n = n tt
      go Image (Keep work) h n = n tt
      go Recover (Run work account) h n = h
      go Audit (Run work account) h n = h
      go Recover (Keep work) h n = h
      go Audit (Keep work) h n = h
      go Link (Run work account) h n = h
      go Link (Keep work) h n = h
      go (Bulk start ops) (Run work account) h n = n tt
      go (Bulk start ops) (Keep work) h n = n tt

  early : (answer : Status) → IsOfRun answer → ComesBeforeRun answer → ⊥
  early Done h e = e
  early WriteFault h e = e
  early KeeperFault h e = e
  early Memory h e = e
  early Usage h e = h
  early (BadLine line) h e = h
  early ReadFault h e = h
  early (TooLarge limit line) h e = h
  early (BadImage line) h e = h
  early (Conflict line) h e = h
  early (Wrong line) h e = h

  no_run : (answer : Status) → IsOfRun answer → MadeNoRun (Some command) left answer → MergesOnly task
  no_run answer of_run (inl none) = merges none
  no_run answer of_run (inr (inl before)) = absurd (early answer of_run before)
  no_run answer of_run (inr (inr u)) = absurd (unsaid answer u)

  pub no_run_said : (answer : Status) → IsAnswer Done answer → MadeNoRun (Some command) left answer → MergesOnly task
  no_run_said answer is none = no_run answer (of is) none
    where
      of : IsAnswer Done answer → IsOfRun answer
      of (inl e) = subst IsOfRun (sym e) tt
      of (inr (inl e)) = subst IsOfRun (sym e) tt
      of (inr (inr e)) = subst IsOfRun (sym e) tt

  pub no_run_fault : (keeper_rose : Type 0) (status : Status) → IsTaskFault task keeper_rose status → MadeNoRun (Some command) left status → MergesOnly task
  no_run_fault rose status fault none = no_run status (of (fault_kinds rose status fault)) none
    where
      of : (status ≡ KeeperFault) ⊎ (status ≡ Memory) → IsOfRun status
      of (inl e) = subst IsOfRun (sym e) tt
      of (inr e) = subst IsOfRun (sym e) tt

-- a count that stands at 0 did not rise
pub calm : ¬ (Rose 0 0)
calm rose = omega arith

-- over memory all counts stand at 0
pub decided : (command : Option Command) (input : List ℕ) (a b k : Type 0) (answer : Status) → a → b → k → IsSettled command (Some input) a b k answer → IsDecided command input answer
decided None input a b k answer still quiet steady settled = settled quiet
decided (Some command) input a b k answer still quiet steady settled = record {
  refused = λ _ _. settled.refused (λ _. still) quiet;
  done = λ _ _ _. settled.done (λ _. still) quiet (λ _. steady);
}

-- How a line of packets ends: the cause of the answer, and what was written.
use Rattle.std.proofs.Common.{◌≡◌, ◌⊎◌, inl, inr, ℕ, ◌<◌, ◌≤◌, List, [], ◌++◌, length, Option, Some, None, Result, Ok, Err, take, refl, sym, ap, ◌∙◌, subst, arith}
use Rattle.std.specs.Prelude.{IfErr, IfOk, IfSome}
use Rattle.far_outside.specs.Reading.{HasReadAll}
use Rattle.line_text.specs.Reading.{LineView, reading}
use Rattle.workload.specs.Outcome.{Fails}
use Rattle.workload.specs.declared.fault.WorkFault.{WorkFault}
use Rattle.workload.specs.declared.fault.WorkFault.TheVariants.{BadLine as BadLineFault, TooLarge as TooLargeFault, Memory as NoMemory}
use Rattle.run_main.specs.LineCall.{HasLineCause, HasPacketLine, IsLineDue, IsLineParsingFault, IsLineReadingFault, IsLineSettled, IsLineWord, IsPacketLine, IsReadLine, IsRefusedLine, LineWroteDue, SettlesLine, line_output}
use Rattle.run_main.specs.Lines.{bad_line, refusal_line, too_large_line}
use Rattle.run_main.specs.Saying.{IsAnswer, IsReadAs, IsRefusalOf, Says}
use Rattle.run_main.specs.Status.{status_of}
use Rattle.run_main.specs.Top.{IsOrMemory}
use Rattle.run_main.specs.declared.status.Status.{Status}
use Rattle.run_main.specs.declared.status.Status.TheVariants.{Done, Usage, BadLine, ReadFault, WriteFault, KeeperFault, Memory, TooLarge, BadImage, Conflict, Wrong}
use Rattle.run_main.specs.declared.top.TheConstants.{INPUT_LIMIT}
use Rattle.run_main.proofs.Readings.{told}
use Rattle.run_main.specs.Inputs.{IsPlaced}
use Rattle.run_main.proofs.Placing.{line_placed}
use Rattle.workload.specs.declared.fault.Limit.{Limit}

abbrev pub Words : Type 0
Words = List (List ℕ)

abbrev pub Left : Type 0
Left = Option (List ℕ)

-- ---- what reading says of the input

no_err : (found : Result LineView WorkFault) (w : LineView) (fault : WorkFault) → found ≡ Ok w → found ≡ Err fault → ⊥
no_err found w fault e k = cc

same_err : (found : Result LineView WorkFault) (x y : WorkFault) → found ≡ Err x → found ≡ Err y → x ≡ y
same_err found x y e k = cc

pub line_settles_ok : (input : List ℕ) (w : LineView) → length input ≤ INPUT_LIMIT → reading input ≡ Ok w → SettlesLine input (Ok w)
line_settles_ok input w short is = record {
  line = λ line h. tt;
  refused = refused;
}
  where
    refused : (refusal : Status) → IsRefusedLine input refusal → IsRefusalOf {T = LineView} refusal (Ok w)
    refused (BadLine line) h = no_err (reading input) w (BadLineFault line) is h.1
    refused (TooLarge limit line) (inl h) = absurd (let long : INPUT_LIMIT < length input = h.0 in omega arith)
    refused (TooLarge limit line) (inr h) = no_err (reading input) w (TooLargeFault limit line) is h.1
    refused Done h = absurd h
    refused Usage h = absurd h
    refused ReadFault h = absurd h
    refused WriteFault h = absurd h
    refused KeeperFault h = absurd h
    refused (BadImage line) h = absurd h
    refused (Conflict line) h = absurd h
    refused (Wrong line) h = absurd h
    refused Memory h = absurd h

found_status : (input : List ℕ) (fault wanted : WorkFault) → Fails fault (reading input) → reading input ≡ Err wanted → (status_of fault ≡ status_of wanted) ⊎ (status_of fault ≡ Memory)
found_status input (BadLineFault line) wanted f h = inl (ap status_of (same_err (reading input) (BadLineFault line) wanted f h))
found_status input (TooLargeFault limit line) wanted f h = inl (ap status_of (same_err (reading input) (TooLargeFault limit line) wanted f h))
found_status input NoMemory wanted f h = inr refl

parsed_none : (input : List ℕ) (fault : WorkFault) (w : LineView) → Fails fault (reading input) → reading input ≡ Ok w → status_of fault ≡ Memory
parsed_none input (BadLineFault line) w f h = absurd (no_err (reading input) w (BadLineFault line) h f)
parsed_none input (TooLargeFault limit line) w f h = absurd (no_err (reading input) w (TooLargeFault limit line) h f)
parsed_none input NoMemory w f h = refl

pub line_settles_err : (input : List ℕ) (fault : WorkFault) → length input ≤ INPUT_LIMIT → Fails fault (reading input) → SettlesLine input (Err (status_of fault))
line_settles_err input fault short f = record {
  line = λ line h. parsed_none input fault line f h.reads;
  refused = refused;
}
  where
    refused : (refusal : Status) → IsRefusedLine input refusal → IsRefusalOf {T = LineView} refusal (Err (status_of fault))
    refused (BadLine line) h = found_status input fault (BadLineFault line) f h.1
    refused (TooLarge limit line) (inl h) = absurd (let long : INPUT_LIMIT < length input = h.0 in omega arith)
    refused (TooLarge limit line) (inr h) = found_status input fault (TooLargeFault limit line) f h.1
    refused Done h = absurd h
    refused Usage h = absurd h
    refused ReadFault h = absurd h
    refused WriteFault h = absurd h
    refused KeeperFault h = absurd h
    refused (BadImage line) h = absurd h
    refused (Conflict line) h = absurd h
    refused (Wrong line) h = absurd h
    refused Memory h = absurd h

pub line_parsing_fault : (input : List ℕ) (fault : WorkFault) → length input ≤ INPUT_LIMIT → Fails fault (reading input) → IsLineParsingFault input (status_of fault)
line_parsing_fault input (BadLineFault line) short f = (short, f)
line_parsing_fault input (TooLargeFault limit line) short f = inr (short, f)
line_parsing_fault input NoMemory short f = tt

placed : (text : List ℕ) (limit : Limit) (line : ℕ) → IsRefusedLine text (TooLarge limit line) → IsPlaced limit line
placed text limit line (inl h) = inl h.1
placed text limit line (inr h) = inr (line_placed text limit line h.1)

cause_read : (left now : Left) (text : List ℕ) (rose : Type 0) (status : Status) → HasReadAll left now text → IsLineParsingFault text status → IsLineReadingFault left rose status
cause_read left now text rose (BadLine line) read h = told (λ input. IsRefusedLine input (BadLine line)) left now text read h
cause_read left now text rose (TooLarge limit line) read h = (placed text limit line h, told (λ input. IsRefusedLine input (TooLarge limit line)) left now text read h)
cause_read left now text rose Memory read h = tt
cause_read left now text rose Done read h = absurd h
cause_read left now text rose Usage read h = absurd h
cause_read left now text rose ReadFault read h = absurd h
cause_read left now text rose WriteFault read h = absurd h
cause_read left now text rose KeeperFault read h = absurd h
cause_read left now text rose (BadImage line) read h = absurd h
cause_read left now text rose (Conflict line) read h = absurd h
cause_read left now text rose (Wrong line) read h = absurd h

pub line_err_told : (left now : Left) (text : List ℕ) (rose : Type 0) (result : Result LineView Status) → HasReadAll left now text → IfErr result (IsLineParsingFault text) → IfErr result (IsLineReadingFault left rose)
line_err_told left now text rose (Ok line) read h = tt
line_err_told left now text rose (Err status) read h = cause_read left now text rose status read h

pub line_ok_told : (left now : Left) (text : List ℕ) (result : Result LineView Status) → HasReadAll left now text → SettlesLine text result → IfOk result (λ line. IsPacketLine text line) → IfOk result (λ line. IfSome left (λ input. IsReadLine input line))
line_ok_told left now text (Ok line) read s is = told (λ input. IsReadLine input line) left now text read (record { is = is; settles = s })
line_ok_told left now text (Err status) read s is = tt

-- ---- what is said is what was due

pub line_wrote : (words : Words) (left : Left) (before now : Left) (text : List ℕ) (status answer : Status) → IsLineDue words left status text → Says before now text status answer → LineWroteDue words left before now answer
line_wrote words left None now text status answer due says = tt
line_wrote words left (Some before) None text status answer due says = says
line_wrote words left (Some before) (Some now) text status WriteFault due says = record { status = status; text = text; count = says.0; due = due; wrote = says.1 }
line_wrote words left (Some before) (Some now) text status Memory due says = says
line_wrote words left (Some before) (Some now) text status ReadFault due says = absurd says
line_wrote words left (Some before) (Some now) text status KeeperFault due says = absurd says
line_wrote words left (Some before) (Some now) text status Done due says = record { text = text; due = subst (λ (s : Status). IsLineDue words left s text) (sym says.0) due; wrote = says.1 }
line_wrote words left (Some before) (Some now) text status Usage due says = record { text = text; due = subst (λ (s : Status). IsLineDue words left s text) (sym says.0) due; wrote = says.1 }
line_wrote words left (Some before) (Some now) text status (BadLine line) due says = record { text = text; due = subst (λ (s : Status). IsLineDue words left s text) (sym says.0) due; wrote = says.1 }
line_wrote words left (Some before) (Some now) text status (BadImage line) due says = record { text = text; due = subst (λ (s : Status). IsLineDue words left s text) (sym says.0) due; wrote = says.1 }
line_wrote words left (Some before) (Some now) text status (Conflict line) due says = record { text = text; due = subst (λ (s : Status). IsLineDue words left s text) (sym says.0) due; wrote = says.1 }
line_wrote words left (Some before) (Some now) text status (Wrong line) due says = record { text = text; due = subst (λ (s : Status). IsLineDue words left s text) (sym says.0) due; wrote = says.1 }
line_wrote words left (Some before) (Some now) text status (TooLarge limit line) due says = record { text = text; due = subst (λ (s : Status). IsLineDue words left s text) (sym says.0) due; wrote = says.1 }

pub line_wrote_nothing : (words : Words) (left : Left) (before now : Left) (answer : Status) → (answer ≡ ReadFault) ⊎ (answer ≡ Memory) → now ≡ before → LineWroteDue words left before now answer
line_wrote_nothing words left before now answer quiet same = subst (λ (n : Left). LineWroteDue words left before n answer) (sym same) (go before quiet)
  where
    go : (b : Left) → (answer ≡ ReadFault) ⊎ (answer ≡ Memory) → LineWroteDue words left b b answer
    go None h = tt
    go (Some b) (inl e) = subst (λ (s : Status). LineWroteDue words left (Some b) (Some b) s) (sym e) refl
    go (Some b) (inr e) = subst (λ (s : Status). LineWroteDue words left (Some b) (Some b) s) (sym e) refl

-- ---- where there is no line of packets

pub line_caused_early : (words : Words) (left : Left) (source_rose sink_rose : Type 0) (status answer : Status) → IsLineWord words → IsLineReadingFault left source_rose status → IsAnswer status answer → (answer ≡ WriteFault → sink_rose)
    → HasLineCause words left source_rose sink_rose answer
line_caused_early words left a b status answer r fault (inr (inl failed)) sink = subst (λ (s : Status). HasLineCause words left a b s) (sym failed) (sink failed)
line_caused_early words left a b status answer r fault (inr (inr none)) sink = subst (λ (s : Status). HasLineCause words left a b s) (sym none) tt
line_caused_early words left a b status answer r fault (inl same) sink = subst (λ (s : Status). HasLineCause words left a b s) (sym same) (go status fault)
  where
    go : (s : Status) → IsLineReadingFault left a s → HasLineCause words left a b s
    go (BadLine line) h = (r, h)
    go (TooLarge limit line) h = (r, h.0, h.1)
    go ReadFault h = (r, h)
    go Memory h = tt
    go Done h = absurd h
    go Usage h = absurd h
    go WriteFault h = absurd h
    go KeeperFault h = absurd h
    go (BadImage line) h = absurd h
    go (Conflict line) h = absurd h
    go (Wrong line) h = absurd h

pub line_wrote_early : (words : Words) (left : Left) (before now : Left) (source_rose : Type 0) (status answer : Status) → IsLineWord words → IsLineReadingFault left source_rose status
    → IfSome (refusal_line status) (λ text. Says before now text status answer) → (refusal_line status ≡ None → (now ≡ before) × ((answer ≡ status) ⊎ (answer ≡ Memory))) → LineWroteDue words left before now answer
line_wrote_early words left before now a (BadLine line) answer r fault said silent = line_wrote words left before now (bad_line line) (BadLine line) answer (r, fault, refl) said
line_wrote_early words left before now a (TooLarge limit line) answer r fault said silent = line_wrote words left before now (too_large_line limit line) (TooLarge limit line) answer (r, fault.1, refl) said
line_wrote_early words left before now a ReadFault answer r fault said silent = line_wrote_nothing words left before now answer (silent refl).1 (silent refl).0
line_wrote_early words left before now a Memory answer r fault said silent = line_wrote_nothing words left before now answer (inr (go (silent refl).1)) (silent refl).0
  where
    go : (answer ≡ Memory) ⊎ (answer ≡ Memory) → answer ≡ Memory
    go (inl e) = e
    go (inr e) = e
line_wrote_early words left before now a Done answer r fault said silent = absurd fault
line_wrote_early words left before now a Usage answer r fault said silent = absurd fault
line_wrote_early words left before now a WriteFault answer r fault said silent = absurd fault
line_wrote_early words left before now a KeeperFault answer r fault said silent = absurd fault
line_wrote_early words left before now a (BadImage line) answer r fault said silent = absurd fault
line_wrote_early words left before now a (Conflict line) answer r fault said silent = absurd fault
line_wrote_early words left before now a (Wrong line) answer r fault said silent = absurd fault

pub if_some : (P Q : List ℕ → Type 0) (left : Left) → ((input : List ℕ) → P input → Q input) → IfSome left P → IfSome left Q
if_some P Q None f h = tt
if_some P Q (Some input) f h = f input h

pub line_settled_early : (words : Words) (left : Left) (source_calm sink_calm : Type 0) (status answer : Status) → IsLineWord words → (source_calm → IfSome left (λ input. SettlesLine input (Err status)))
    → (sink_calm → (answer ≡ status) ⊎ (answer ≡ Memory)) → IsLineSettled words left source_calm sink_calm answer
line_settled_early words left a b status answer r reads said = record {
  other_words = λ other calm. absurd (other r);
  refused = λ _ calm quiet. if_some _ _ left (λ input s refusal h. refused (s.refused refusal h) (said quiet)) (reads calm);
  passed = λ _ calm quiet. if_some _ _ left (λ input s line h. none (s.line line h) (said quiet)) (reads calm);
}
  where
    refused : {refusal : Status} → (status ≡ refusal) ⊎ (status ≡ Memory) → (answer ≡ status) ⊎ (answer ≡ Memory) → IsOrMemory refusal answer
    refused (inl e) (inl f) = inl (f ∙ e)
    refused (inr e) (inl f) = inr (f ∙ e)
    refused e (inr f) = inr f

    none : status ≡ Memory → (answer ≡ status) ⊎ (answer ≡ Memory) → IsOrMemory Done answer
    none e (inl f) = inr (f ∙ e)
    none e (inr f) = inr f

pub line_due_output : (words : Words) (left : Left) (line : LineView) (text : List ℕ) → IsLineWord words → IfSome left (λ input. IsReadLine input line) → text ≡ line_output line → IsLineDue words left Done text
line_due_output words left line text r read output = (r, if_some _ _ left (λ input is. record { line = line; is = is.is; output = output }) read)

pub line_settled : (words : Words) (left : Left) (source_calm sink_calm : Type 0) (line : LineView) (answer : Status) → IsLineWord words → IfSome left (λ input. IsReadLine input line) → (sink_calm → IsOrMemory Done answer)
    → IsLineSettled words left source_calm sink_calm answer
line_settled words left a b line answer r read done = record {
  other_words = λ other calm. absurd (other r);
  refused = λ _ calm quiet. if_some _ _ left (λ input s refusal h. absurd (s.settles.refused refusal h)) read;
  passed = λ _ calm quiet. if_some _ _ left (λ input s line h. done quiet) read;
}

pub line_has : (left : Left) (line : LineView) → IfSome left (λ input. IsReadLine input line) → IfSome left HasPacketLine
line_has left line read = if_some _ _ left (λ input is. record { line = line; is = is.is }) read

-- The report of a run to its end has the form of a report, and its lines are good.
use Rattle.std.proofs.Common.{◌≡◌, ℕ, zero, suc, ◌-◌, ◌^◌, ◌<◌, ◌≤◌, inl, inr, Bool, true, false, List, [], ◌∷◌, length, refl, sym, ap, ◌∙◌, subst, arith, true≢false}
use Rattle.std.specs.Prelude.{IsTrue, Option, Some, None, if◌then◌else◌, slice_index_or}
use Rattle.std.specs.List.{AllByRecursion, flat_map}
use Rattle.std.proofs.lemmas.Option.{same_Some}
use Rattle.far_base.specs.Limits.{FitsOp, IsOpLine, IsPlan}
use Rattle.far_base.specs.Padded.{length_of}
use Rattle.far_base.specs.PlanView.{PlanView}
use Rattle.far_base.specs.declared.body.TheConstants.{BODY_LIMIT}
use Rattle.far_base.specs.declared.log.Placed.{Placed}
use Rattle.far_base.specs.declared.plan.Op.{Op}
use Rattle.far_base.specs.declared.plan.Op.TheVariants.{Get, Put, Del}
use Rattle.far_base.specs.declared.plan.OpLine.{OpLine}
use Rattle.far_base.specs.declared.plan.TheConstants.{CLIENT_LIMIT, OP_LIMIT}
use Rattle.far_history.specs.Report.{IsReport}
use Rattle.far_model.specs.Clients.{line_of, no_line}
use Rattle.far_model.specs.History.{HasOneLegalHistory, IsPlace}
use Rattle.far_model.specs.Log.{At, LogView, is_read}
use Rattle.far_model.specs.State.{State}
use Rattle.far_text.specs.Numbers.{IsNumber}
use Rattle.far_text.specs.Words.{IsBody, IsKey}
use Rattle.log_audit.specs.Form.{IsHistLine}
use Rattle.log_audit.specs.Good.{IsGoodReport}
use Rattle.log_audit.specs.Told.{IsTold, IsToldInFull, told_line}
use Rattle.log_audit.specs.Words.{fits_kind}
use Rattle.run_laws.specs.ToldHistory.{HistoryIsTold, IsBodyOfPlan, IsOfPlan, IsToldOf}
use Rattle.workload.specs.Forms.{Form, OfOp, OfOrder, OfPicks, OfRandom}
use Rattle.workload.specs.Meaning.{IsForm, IsReading, IsWholeOp, op_in}
use Rattle.workload.specs.WorkView.{WorkView}
use Rattle.run_main.specs.Replay.{IsAccount, IsGoodAccount, log_of}
use Rattle.run_main.specs.Tasks.{HasWholeOps}
use Rattle.run_main.specs.declared.task.Account.{Account}
use Rattle.run_main.specs.declared.task.Account.TheVariants.{Report, Summary}

-- ---- what a workload that was read gives of its operations

keys_of : (forms : List Form) → AllByRecursion IsForm forms → AllByRecursion (λ (line : OpLine). IsKey line.key) (flat_map op_in forms)
keys_of [] h = tt
keys_of (OfOp line ∷ fs) h = (h.0.key, keys_of fs h.1)
keys_of (OfOrder order ∷ fs) h = keys_of fs h.1
keys_of (OfPicks picks ∷ fs) h = keys_of fs h.1
keys_of (OfRandom start ∷ fs) h = keys_of fs h.1

both_whole : (ops : List OpLine) → AllByRecursion (λ (line : OpLine). IsKey line.key) ops → AllByRecursion (λ (line : OpLine). length_of line.body ≤ BODY_LIMIT) ops → AllByRecursion IsWholeOp ops
both_whole [] h k = tt
both_whole (line ∷ ops) h k = (record { key = h.0; short = k.0 }, both_whole ops h.1 k.1)

pub reading_whole : (text : List ℕ) (work : WorkView) → IsReading text work → HasWholeOps work.plan
reading_whole text work r = both_whole work.plan.ops (subst (AllByRecursion (λ (line : OpLine). IsKey line.key)) r.name.ops (keys_of r.forms r.fit)) r.within.bodies

-- ---- what a line can say

all_at : {A : Type 0} (P : A → Type 0) (xs : List A) (i : ℕ) (d : A) → AllByRecursion P xs → i < length xs → P (slice_index_or xs i d)
all_at P [] i d h lt = absurd (omega arith)
all_at P (x ∷ xs) zero d h lt = h.0
all_at P (x ∷ xs) (suc i) d h lt = all_at P xs i d h.1 (omega (arith, lt))

own_body : (op : Op) (own : Option (List ℕ)) → FitsOp op own → length_of own ≤ BODY_LIMIT → IsBody own
own_body op None fits short = tt
own_body Put (Some text) fits short = (fits, short)
own_body Get (Some text) fits short = absurd (let z : Some text ≡ None = fits in cc)
own_body Del (Some text) fits short = absurd (let z : Some text ≡ None = fits in cc)

body_fits : (op : Op) (read : Bool) (own got : Option (List ℕ)) → read ≡ is_read op → FitsOp op own → IsBody own → (is_read op ≡ true → IsBody got) → IsBody (if read then got else own) × IsTrue (fits_kind op (if read then got else own))
body_fits Get true own got e fits is h = (h refl, refl)
body_fits Get false own got e fits is h = absurd (true≢false (sym e))
body_fits Put true own got e fits is h = absurd (true≢false e)
body_fits Put false None got e fits is h = absurd fits
body_fits Put false (Some text) got e fits is h = (is, refl)
body_fits Del true own got e fits is h = absurd (true≢false e)
body_fits Del false None got e fits is h = (is, refl)
body_fits Del false (Some text) got e fits is h = absurd (let z : Some text ≡ None = fits in cc)

module _ (plan : PlanView) (s : State) (valid : IsPlan plan) (whole : HasWholeOps plan) (h : HistoryIsTold plan s) where
  line_fits : (op : ℕ) → IsOfPlan plan op → IsOpLine plan.config.clients (line_of plan.ops op)
  line_fits op o = let low : 1 ≤ op = o.above in let high : op ≤ length plan.ops = o.within in all_at (IsOpLine plan.config.clients) plan.ops (op - 1) no_line valid.ops (omega (arith, low, high))

  line_whole : (op : ℕ) → IsOfPlan plan op → IsWholeOp (line_of plan.ops op)
  line_whole op o = let low : 1 ≤ op = o.above in let high : op ≤ length plan.ops = o.within in all_at IsWholeOp plan.ops (op - 1) no_line whole (omega (arith, low, high))

  body_of : (op : ℕ) → IsOfPlan plan op → IsBody (line_of plan.ops op).body
  body_of op o = own_body (line_of plan.ops op).op (line_of plan.ops op).body (line_fits op o).body (line_whole op o).short

  read_body : (body : Option (List ℕ)) → IsBodyOfPlan plan body → IsBody body
  read_body body (inl none) = subst IsBody (sym none) tt
  read_body body (inr w) = subst IsBody (sym w.2) (body_of w.0 w.1)

  small : (n : ℕ) → n ≤ s.steps → IsNumber n
  small n le = let few : s.steps < 2 ^ 28 = h.steps in omega (arith, le, few)

  module _ (place : Placed) (is : IsPlace s.log place) (t : IsToldOf plan s place) where
    kind : place.read ≡ is_read t.sent.what.op
    kind = is.kind ∙ ap (λ (x : At OpLine). is_read x.what.op) (same_Some _ _ (sym is.first ∙ t.first_sent))

    fits : IsOpLine plan.config.clients t.sent.what
    fits = subst (IsOpLine plan.config.clients) (sym t.line) (line_fits place.op t.op)

    whole_line : IsWholeOp t.sent.what
    whole_line = subst IsWholeOp (sym t.line) (line_whole place.op t.op)

    bodies : IsBody (told_line place t.sent t.emitted t.answered).body × IsTrue (fits_kind t.sent.what.op (told_line place t.sent t.emitted t.answered).body)
    bodies = body_fits t.sent.what.op place.read t.sent.what.body t.emitted.what.body kind fits.body (own_body t.sent.what.op t.sent.what.body fits.body whole_line.short) (λ reads. read_body t.emitted.what.body (t.body reads))

    line : IsHistLine (told_line place t.sent t.emitted t.answered)
    line = record {
      op = let most : place.op ≤ length plan.ops = t.op.within in let count : length plan.ops ≤ OP_LIMIT = valid.count in omega (arith, most, count);
      above = let low : 1 ≤ place.op = t.op.above in omega (arith, low);
      client = let low : t.sent.what.client < plan.config.clients = fits.client in let high : plan.config.clients ≤ CLIENT_LIMIT = valid.config.clients.1 in omega (arith, low, high);
      key = whole_line.key;
      num = small place.num t.num;
      body = bodies.0;
      fits = bodies.1;
      sent = let before : t.sent.moment < t.answered.moment = t.span in let passed : t.answered.moment ≤ s.steps = t.passed in small t.sent.moment (omega (arith, before, passed));
      answered = small t.answered.moment t.passed;
    }

    told : IsTold s.log place
    told = record {
      sent = t.sent;
      emitted = t.emitted;
      answered = t.answered;
      first_sent = t.first_sent;
      first_emitted = t.first_emitted;
      first_answered = t.first_answered;
      line = line;
      span = t.span;
    }

  in_full : IsToldInFull (log_of s)
  in_full = record {
    steps = small s.steps (omega arith);
    few = λ history is. let most : length history ≤ length plan.ops = h.few history is in let count : length plan.ops ≤ OP_LIMIT = valid.count in omega (arith, most, count);
    places = λ place is. told place is (h.places place is);
  }

abbrev pub ReportsAreGood : Type 0
ReportsAreGood = (log : LogView) (text : List ℕ) → HasOneLegalHistory log.lines → IsToldInFull log → IsReport log text → IsGoodReport text

pub account_good : (plan : PlanView) (s : State) (account : Account) (text : List ℕ) → ReportsAreGood → IsPlan plan → (account ≡ Report → HasWholeOps plan) → HistoryIsTold plan s → HasOneLegalHistory s.log → IsAccount account plan (log_of s) text
    → IsGoodAccount account text
account_good plan s Report text good valid whole tells one is = good (log_of s) text one (in_full plan s valid (whole refl) tells) is
account_good plan s Summary text good valid whole tells one is = tt

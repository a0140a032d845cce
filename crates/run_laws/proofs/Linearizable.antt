-- Once nothing is left to do, the history of the log is one linearizable history of the operations of the plan.
use Rattle.std.proofs.Common.{◌≡◌, ℕ, ◌≤◌, Bool, true, false, List, length, refl, sym, ap, ◌∙◌, subst}
use Rattle.std.specs.Prelude.{Some}
use Rattle.std.specs.Bool.{MatchBool}
use Rattle.std.proofs.lemmas.Bool.{MatchBool-at_false, MatchBool-at_true}
use Rattle.std.proofs.lemmas.Option.{same_Some}
use Rattle.far_base.specs.Limits.{IsPlan}
use Rattle.far_base.specs.PlanView.{PlanView}
use Rattle.far_base.specs.declared.event.Event.{Event}
use Rattle.far_base.specs.declared.log.Placed.{Placed}
use Rattle.far_base.specs.declared.plan.OpLine.{OpLine}
use Rattle.far_model.specs.Coherent.{IsCoherent}
use Rattle.far_model.specs.History.{HasOneLegalHistory, IsHistory, IsPlace, IsReadPlace, IsWritePlace, held_by}
use Rattle.far_model.specs.History.{line_body, line_key}
use Rattle.far_model.specs.Linearizable.{AnsweredOperation, HasOneLinearizableHistory, IsOperationOf, SeesItsAnswer}
use Rattle.far_model.specs.Linearizable.{SetsItsRecord, StandsInHistory}
use Rattle.far_model.specs.Log.{At, Answer, answering, emission, is_read}
use Rattle.far_model.specs.Runs.{IsRun, is_finished, run}
use Rattle.far_model.specs.State.{State, opening}
use Rattle.far_model.proofs.Members.{place_of}
use Rattle.flight_laws.proofs.Logged.{finished_answers}
use Rattle.history_laws.proofs.Existing.{one_legal_history}
use Rattle.history_laws.proofs.Facts.{emits}
use Rattle.history_laws.proofs.Places.{answered_placed, placed_by, placed_from}
use Rattle.history_laws.proofs.Told.{answering_what}
use Rattle.history_laws.proofs.Unique.{operation_once}
use Rattle.run_laws.proofs.Telling.{logged_run, some_of, told}
use Rattle.run_laws.specs.ToldHistory.{HistoryIsTold, IsToldOf}

module _ (plan : PlanView) (events : List Event) (valid : IsPlan plan) (runs : IsRun plan (opening plan) events)
    (coherent : IsCoherent (run plan (opening plan) events).log)
    (done : is_finished plan (run plan (opening plan) events) ≡ true) where
  abbrev here : State
  here = run plan (opening plan) events

  tells : HistoryIsTold plan here
  tells = told plan events valid runs done

  -- ---- the operation at a place

  module _ (place : Placed) (is : IsPlace here.log place) where
    of : IsToldOf plan here place
    of = tells.places place is

    abbrev operation : AnsweredOperation
    operation = record {
      number = place.op;
      line = of.sent.what;
      sent = of.sent.moment;
      emitted = of.emitted.moment;
      answer = of.emitted.what;
      answered = of.answered.moment;
    }

    its_own : of.answered.what ≡ place.op
    its_own = answering_what here.log place.op of.answered of.first_answered

    operation_is : IsOperationOf plan.ops here.log operation
    operation_is = record {
      above = of.op.above;
      within = of.op.within;
      line = of.line;
      is_sent = of.first_sent;
      is_emitted = of.first_emitted;
      is_answered = of.first_answered ∙ ap (λ (n : ℕ). Some (record { moment = of.answered.moment; what = n })) its_own;
    }

    same_line : is.sent ≡ of.sent
    same_line = same_Some is.sent of.sent (sym is.first ∙ of.first_sent)

    kind : place.read ≡ is_read of.sent.what.op
    kind = is.kind ∙ ap (λ (s : At OpLine). is_read s.what.op) same_line

    abbrev Sees : Type 0
    Sees = SeesItsAnswer here.log operation place

    abbrev Sets : Type 0
    Sets = SetsItsRecord here.log operation place

    abbrev Read : Type 0
    Read = IsReadPlace here.log is.sent.moment is.sent.what place

    abbrev Written : Type 0
    Written = IsWritePlace here.log is.sent.what place

    effect : MatchBool place.read Sees Sets
    effect = go place.read refl
      where
        same : (e : At Answer) → emission here.log place.op ≡ Some e → e ≡ of.emitted
        same e first = same_Some e of.emitted (sym first ∙ of.first_emitted)

        go : (r : Bool) → place.read ≡ r → MatchBool r Sees Sets
        go true e =
            let p = MatchBool-at_true Read Written e is.stands in
            record {
              num = p.read ∙ ap (λ (a : At Answer). a.what.num) (same p.emitted p.first);
              sees = ap held_by of.first_emitted;
            }
        go false e =
            let p = MatchBool-at_false Read Written e is.stands in
            let f = emits here.log coherent place.op of.emitted of.first_emitted in
            let line : of.sent ≡ f.sent = same_Some of.sent f.sent (sym of.first_sent ∙ f.first) in
            let owns = f.write (sym (ap (λ (s : At OpLine). is_read s.what.op) line) ∙ sym kind ∙ e) in
            let own : owns.own ≡ p.numbered = same_Some owns.own p.numbered (sym owns.first ∙ p.first) in
            record {
              own = p.numbered;
              numbered = p.first;
              num = p.own;
              sets = λ i. record { num = p.own i; body = ap line_body of.first_sent i };
              answered = subst (λ (n : At ℕ). n.what ≤ of.emitted.what.num) own owns.within;
            }

    stands : (history : List Placed) → IsHistory here.log history → StandsInHistory here.log history operation
    stands history h =
        let at = place_of place history (h.complete place is) in
        record {
          index = at.0;
          place = place;
          there = at.1;
          is = refl;
          key = ap line_key of.first_sent;
          kind = kind;
          effect = effect;
          after_sending = placed_from here.log coherent place of.sent is of.first_sent;
          before_answer = placed_by here.log coherent place of.answered is of.first_answered;
          once = λ other y there same. operation_once here.log history h other at.0 y place there at.1 same;
        }

  -- ---- the whole

  placed : (number : ℕ) → 1 ≤ number → number ≤ length plan.ops
      → (place : Placed) × (place.op ≡ number) × IsPlace here.log place
  placed number above within =
      let logged = logged_run plan events valid runs in
      let a = some_of (answering here.log number) (finished_answers plan here logged done number above within) in
      answered_placed here.log coherent number a.0 a.1

  pub one_linearizable_history : HasOneLinearizableHistory plan.ops here.log
  one_linearizable_history =
      let one : HasOneLegalHistory here.log = one_legal_history here.log coherent in
      record {
        history = one.history;
        is = one.is;
        linearizable = record {
          all = λ number above within.
              let p = placed number above within in
              (operation p.0 p.2, p.1, operation_is p.0 p.2, stands p.0 p.2 one.history one.is);
          only = λ place a. let is = one.is.sound place a in (operation place is, refl, operation_is place is);
          legal = one.linearizable.legal;
          in_time = one.linearizable.in_time;
        };
        only = one.only;
      }

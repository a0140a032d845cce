-- What is told of a world that was run to its end by the picks of a workload is what running it gives.
use Rattle.std.proofs.Common.{◌≡◌, ℕ, true, List, [], ◌++◌, Some, None, sym, ap, ◌∙◌, subst}
use Rattle.std.specs.Prelude.{IfOk, OnOk, Option, Result, Ok, Err}
use Rattle.far_base.specs.PlanView.{PlanView}
use Rattle.far_base.specs.declared.event.Event.{Event}
use Rattle.far_base.specs.declared.record.Record.{Record}
use Rattle.far_invariants.specs.Always.{Always}
use Rattle.far_invariants.specs.Recoveries.{BlocksAreRestarts}
use Rattle.far_model.specs.Answered.{AllAnswered}
use Rattle.far_model.specs.Linearizable.{HasOneLinearizableHistory}
use Rattle.far_model.specs.Runs.{IsPickedFrom, IsRun, is_finished, run}
use Rattle.far_model.specs.State.{State, opening}
use Rattle.far_runner.specs.Picked.{pick_of}
use Rattle.far_runner.specs.Pumped.{HasPumped}
use Rattle.far_world.specs.Reached.{IsReached, IsRunOf, Ran}
use Rattle.far_world.specs.Scene.{told_by}
use Rattle.run_laws.specs.ToldHistory.{HistoryIsTold}
use Rattle.workload.specs.WorkView.{WorkView}
use Rattle.run_main.proofs.Judging.{ReportsAreGood, account_good}
use Rattle.run_main.proofs.Telling.{FinishedAreLinearizable, account_tells, one_legal}
use Rattle.run_main.specs.Replay.{IsAccount, IsGoodAccount, IsReplayOf, IsTold, Tells, log_of}
use Rattle.run_main.specs.Tasks.{HasWholeOps}
use Rattle.run_main.specs.Texts.{IsTextOf}
use Rattle.run_main.specs.declared.task.Account.{Account}
use Rattle.run_main.specs.declared.task.Account.TheVariants.{Report}
use Rattle.run_main.specs.declared.task.Task.TheVariants.{Run}

-- what follows of what was answered
pub ok_map : {T E : Type 0} → (P Q : T → Type 0) (r : Result T E) → ((x : T) → P x → Q x) → IfOk r P → IfOk r Q
ok_map P Q (Ok x) f h = f x h
ok_map P Q (Err e) f h = tt

pub ok_both : {T E : Type 0} → (P Q : T → Type 0) (r : Result T E) → IfOk r P → IfOk r Q → IfOk r (λ x. P x × Q x)
ok_both P Q (Ok x) h k = (h, k)
ok_both P Q (Err e) h k = tt

-- what follows where there is an answer
pub on_ok : {T E : Type 0} → (P Q : Type 0) (r : Result T E) → (P → Q) → OnOk r P → OnOk r Q
on_ok P Q (Ok x) f h = f h
on_ok P Q (Err e) f h = tt

pub on_any : {P T E : Type 0} → (r : Result T E) → P → OnOk r P
on_any (Ok x) h = h
on_any (Err e) h = tt

-- only the picks of the workload are asked for
pub same_picks : (work : WorkView) (plan : PlanView) (old new : Ran) (count : ℕ) → HasPumped work old new count → HasPumped (record work { plan = plan }) old new count
same_picks work plan old new count p = record { made = p.made; gone = p.gone; count_is = p.count_is; picked = p.picked }

abbrev pub HistoriesAreTold : Type 0
HistoriesAreTold = Always (λ plan events s. is_finished plan s ≡ true → HistoryIsTold plan s)

over : (work : WorkView) (account : Account) (plan : PlanView) (events : List Event) (s : State) (text : List ℕ) (all : List (List Record)) → plan ≡ work.plan
    → IsRun plan (opening plan) events → s ≡ run plan (opening plan) events → IsPickedFrom plan (pick_of work) 0 (opening plan) events → AllAnswered plan s → HasOneLinearizableHistory plan.ops s.log → BlocksAreRestarts plan events s
    → IsTold account plan (log_of s) text → IsGoodAccount account text → all ≡ s.servers → IsReplayOf work account text all
over work account plan events s text all same =
    subst (λ (p : PlanView). IsRun p (opening p) events → s ≡ run p (opening p) events → IsPickedFrom p (pick_of work) 0 (opening p) events → AllAnswered p s → HasOneLinearizableHistory p.ops s.log → BlocksAreRestarts p events s → IsTold account p (log_of s) text → IsGoodAccount account text → all ≡ s.servers → IsReplayOf work account text all)
    (sym same) (λ runs is picked answered history restarts told good servers. record {
      events = events;
      runs = record { enabled = runs; picked = picked };
      answered = subst (λ (z : State). AllAnswered work.plan z) is answered;
      history = subst (λ (z : State). HasOneLinearizableHistory work.plan.ops z.log) is history;
      restarts = subst (λ (z : State). BlocksAreRestarts work.plan events z) is restarts;
      told = subst (λ (z : State). IsTold account work.plan (log_of z) text) is told;
      good = good;
      servers = servers ∙ ap (λ (z : State). z.servers) is;
    })

module _ (work : WorkView) (account : Account) (start w : Ran) (count : ℕ) (text : List ℕ) (plan_is : start.plan ≡ work.plan) (none : start.events ≡ []) (opens : Tells start.keeper.records → start.state ≡ opening work.plan) (p : HasPumped work start w count) (h : IsReached w) where
  here : w.plan ≡ work.plan
  here = p.gone.plan ∙ plan_is

  made_is : w.events ≡ p.made
  made_is = p.gone.events ∙ ap (λ (es : List Event). es ++ p.made) none

  replays : Tells start.keeper.records → (all : List (List Record)) → w.keeper.records ≡ Some all → AllAnswered w.plan w.state → FinishedAreLinearizable → Always (λ plan events s. BlocksAreRestarts plan events s) → is_finished w.plan w.state ≡ true → (account ≡ Report → HasWholeOps start.plan) → HistoriesAreTold → ReportsAreGood → IsAccount account w.plan (log_of w.state) text → IsReplayOf work account text all
  replays tells all seen answered histories restarts done whole tellings goods told =
      over work account w.plan w.events w.state text all here d.enabled d.is picked answered
      one
      (subst (λ (z : State). BlocksAreRestarts w.plan w.events z) (sym d.is) (restarts w.plan w.events h.valid d.enabled))
      (account_tells account w.plan (log_of w.state) text one told)
      (account_good w.plan w.state account text goods h.valid (λ is. subst HasWholeOps (sym p.gone.plan) (whole is)) (subst (λ (z : State). is_finished w.plan z ≡ true → HistoryIsTold w.plan z) (sym d.is) (tellings w.plan w.events h.valid d.enabled) done) (one_legal w.plan.ops w.state.log one) told) (sym (h.records ∙ ap (told_by w.plan.config.servers) seen))
    where
      d : IsRunOf w.plan w.events w.state
      d = h.told (p.gone.tells ∙ tells)

      one : HasOneLinearizableHistory w.plan.ops w.state.log
      one = subst (λ (z : State). is_finished w.plan z ≡ true → HasOneLinearizableHistory w.plan.ops z.log) (sym d.is)
          (histories w.plan w.events h.valid d.enabled) done

      first : IsPickedFrom start.plan (pick_of work) 0 start.state w.events
      first = subst (λ (es : List Event). IsPickedFrom start.plan (pick_of work) 0 start.state es) (sym made_is) (p.picked tells)

      second : IsPickedFrom start.plan (pick_of work) 0 (opening work.plan) w.events
      second = subst (λ (z : State). IsPickedFrom start.plan (pick_of work) 0 z w.events) (opens tells) first

      third : IsPickedFrom work.plan (pick_of work) 0 (opening work.plan) w.events
      third = subst (λ (q : PlanView). IsPickedFrom q (pick_of work) 0 (opening work.plan) w.events) plan_is second

      picked : IsPickedFrom w.plan (pick_of work) 0 (opening w.plan) w.events
      picked = subst (λ (q : PlanView). IsPickedFrom q (pick_of work) 0 (opening q) w.events) (sym here) third

  pub replay_is : Tells start.keeper.records → (records : Option (List (List Record))) → records ≡ w.keeper.records → AllAnswered w.plan w.state → FinishedAreLinearizable → Always (λ plan events s. BlocksAreRestarts plan events s) → is_finished w.plan w.state ≡ true → (account ≡ Report → HasWholeOps start.plan) → HistoriesAreTold → ReportsAreGood → IsAccount account w.plan (log_of w.state) text
      → IsTextOf (Run work account) text records
  replay_is tells None same answered histories restarts done whole tellings goods told = tt
  replay_is tells (Some all) same answered histories restarts done whole tellings goods told = replays tells all (sym same) answered histories restarts done whole tellings goods told

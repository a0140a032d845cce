-- A report of a finished run prints its one linearizable history.
use Rattle.std.proofs.Common.{◌≡◌, ℕ, true, List, ◌++◌, Option, Some, None, sym, subst}
use Rattle.far_base.specs.PlanView.{PlanView}
use Rattle.far_base.specs.declared.log.LogLine.{LogLine}
use Rattle.far_base.specs.declared.plan.OpLine.{OpLine}
use Rattle.far_base.specs.declared.record.Record.{Record}
use Rattle.far_history.specs.Report.{IsReport}
use Rattle.far_invariants.specs.Always.{Always}
use Rattle.far_model.specs.History.{HasOneLegalHistory}
use Rattle.far_model.specs.Linearizable.{HasOneLinearizableHistory, IsLinearizableHistory}
use Rattle.far_model.specs.Log.{LogView}
use Rattle.far_model.specs.Runs.{is_finished}
use Rattle.run_main.specs.Replay.{IsAccount, IsLinearizableReport, IsTold, TellsLinearizableReport}
use Rattle.run_main.specs.Replay.{WroteLinearizableReport}
use Rattle.run_main.specs.Tasks.{IsTask}
use Rattle.run_main.specs.Texts.{IsTextOf}
use Rattle.run_main.specs.Top.{IsDone, WroteDue}
use Rattle.run_main.specs.declared.command.Command.{Command}
use Rattle.run_main.specs.declared.command.Command.TheVariants.{Replay}
use Rattle.run_main.specs.declared.status.Status.{Status}
use Rattle.run_main.specs.declared.status.Status.TheVariants.{Done}
use Rattle.run_main.specs.declared.task.Account.{Account}
use Rattle.run_main.specs.declared.task.Account.TheVariants.{Report, Summary}
use Rattle.run_main.specs.declared.task.Task.{Task}
use Rattle.run_main.specs.declared.task.Task.TheVariants.{Run, Keep, Merge, Approve, Tell}

abbrev pub FinishedAreLinearizable : Type 0
FinishedAreLinearizable = Always (λ plan events s. is_finished plan s ≡ true → HasOneLinearizableHistory plan.ops s.log)

pub one_legal : (ops : List OpLine) (log : List LogLine) → HasOneLinearizableHistory ops log → HasOneLegalHistory log
one_legal ops log one = record {
  history = one.history;
  is = one.is;
  linearizable = record { legal = one.linearizable.legal; in_time = one.linearizable.in_time };
  only = one.only;
}

-- the history that is printed is the one that there is
pub report_tells : (ops : List OpLine) (log : LogView) (text : List ℕ) → HasOneLinearizableHistory ops log.lines
    → IsReport log text → IsLinearizableReport ops log text
report_tells ops log text one is = record {
  history = is.history;
  map = is.map;
  is_history = is.is_history;
  linearizable = subst (IsLinearizableHistory ops log.lines) (sym (one.only is.history is.is_history)) one.linearizable;
  is_final = is.is_final;
  is_text = is.is_text;
}

-- such a report is one of the log
pub is_report : (ops : List OpLine) (log : LogView) (text : List ℕ) → IsLinearizableReport ops log text → IsReport log text
is_report ops log text tells = record {
  history = tells.history;
  map = tells.map;
  is_history = tells.is_history;
  is_final = tells.is_final;
  is_text = tells.is_text;
}

pub account_tells : (account : Account) (plan : PlanView) (log : LogView) (text : List ℕ)
    → HasOneLinearizableHistory plan.ops log.lines → IsAccount account plan log text → IsTold account plan log text
account_tells Report plan log text one is = report_tells plan.ops log text one is
account_tells Summary plan log text one is = is

-- ---- what a replay wrote

wrote_report : (input before now : List ℕ) (records : List (List Record)) (text : List ℕ)
    → IsDone Replay input text (Some records) → now ≡ before ++ text → WroteLinearizableReport input before now
wrote_report input before now records text d wrote = go d.task d.asked d.done
  where
    go : (task : Task) → IsTask Replay input task → IsTextOf task text (Some records)
        → WroteLinearizableReport input before now
    go (Run work Report) asked done = record {
      work = work;
      is = asked;
      events = done.events;
      runs = done.runs;
      text = text;
      report = done.told;
      wrote = wrote;
    }
    go (Run work Summary) asked done = absurd asked
    go (Keep work) asked done = absurd asked
    go (Merge items) asked done = absurd asked
    go Approve asked done = absurd asked
    go (Tell events) asked done = absurd asked

pub tells_report : (command : Option Command) (left : Option (List ℕ)) (records : Option (List (List Record)))
    (before now : Option (List ℕ)) (status : Status) → WroteDue command left records before now status
    → command ≡ Some Replay → status ≡ Done → TellsLinearizableReport left records before now
tells_report command left records before now status wrote replay done =
    go left records before now
    (subst (WroteDue (Some Replay) left records before now) done
    (subst (λ (c : Option Command). WroteDue c left records before now status) replay wrote))
  where
    go : (left : Option (List ℕ)) (records : Option (List (List Record))) (before now : Option (List ℕ))
        → WroteDue (Some Replay) left records before now Done → TellsLinearizableReport left records before now
    go None records before now h = tt
    go (Some input) None before now h = tt
    go (Some input) (Some all) None now h = tt
    go (Some input) (Some all) (Some before) None h = absurd h
    go (Some input) (Some all) (Some before) (Some now) h = wrote_report input before now all h.text h.due h.wrote

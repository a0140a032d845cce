-- A worked run: a plan, picks, and what the run shows.
use Rattle.std.specs.Prelude.{ℕ, List}
use Rattle.far_base.specs.PlanView.{PlanView}
use Rattle.far_base.specs.declared.log.LogLine.{LogLine}
use Rattle.far_base.specs.declared.record.Record.{Record}
use Rattle.far_model.specs.Work.{work_bound}
use Rattle.model_examples.specs.Course.{Course, run_course}
use Rattle.model_examples.specs.Table.{RunTable, picked_state, run_last, run_table}
use Rattle.model_examples.specs.Traffic.{Traffic, run_traffic}

pub record Example : Type 0 where
  pub plan : PlanView
  pub picks : List ℕ
  pub table : RunTable
  pub course : Course

-- ---- what the definitions give

-- the log of the run
abbrev pub log_of : Example → List LogLine
log_of run = (picked_state run.plan run.picks (work_bound run.plan)).log

abbrev pub table_of : Example → RunTable
table_of run = run_table run.plan run.picks (work_bound run.plan)

abbrev pub course_of : Example → Course
course_of run = run_course run.plan run.picks (work_bound run.plan)

-- the last write of each key of the final map
abbrev pub last_of : Example → List Record
last_of run = run_last run.plan run.picks (work_bound run.plan) run.table.map

abbrev pub traffic_of : Example → Traffic
traffic_of run = run_traffic run.plan run.picks (work_bound run.plan)

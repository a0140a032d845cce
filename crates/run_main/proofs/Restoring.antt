-- What a recovery makes of the image of a workload is what the first restart of its run leaves.
use Rattle.std.proofs.Common.{◌≡◌, ◌≢◌, ℕ, Bool, true, true≢false, List, [], ◌∷◌, ◌++◌, map, refl, sym, ap, ◌∙◌, subst}
use Rattle.std.specs.Prelude.{if◌then◌else◌, Option, Some}
use Rattle.std.proofs.lemmas.List.{append_assoc}
use Rattle.far_base.specs.Limits.{IsPlan}
use Rattle.far_base.specs.PlanView.{PlanView}
use Rattle.far_base.specs.declared.event.Event.{Event}
use Rattle.far_base.specs.declared.event.Event.TheVariants.{Recover}
use Rattle.far_base.specs.declared.kept.KeptItem.{KeptItem}
use Rattle.far_base.specs.declared.plan.Order.TheVariants.{Stop}
use Rattle.far_base.specs.declared.plan.TheConstants.{STEP_LIMIT}
use Rattle.far_base.specs.declared.record.Record.{Record}
use Rattle.far_invariants.specs.Always.{Always}
use Rattle.far_model.proofs.Runs.{is_run_left}
use Rattle.far_model.specs.Events.{happens}
use Rattle.far_model.specs.History.{Agree, IsNewestPerKey}
use Rattle.far_model.specs.Kept.{kept_records, records_in}
use Rattle.far_model.specs.Members.{Each}
use Rattle.far_model.specs.Runs.{ArePicked, IsPickedFrom, IsRun, is_quiet, picks_after, run}
use Rattle.far_model.specs.State.{State, opening}
use Rattle.far_runner.specs.Picked.{pick_of}
use Rattle.kept_image.proofs.OneReading.{one_image}
use Rattle.kept_image.proofs.ReadingLaws.{told_records}
use Rattle.kept_image.specs.MapText.{map_text}
use Rattle.kept_image.specs.Meaning.{IsImage, told_item}
use Rattle.run_laws.specs.RestartBlocks.{BeginsWithRecovery}
use Rattle.workload.proofs.TextLaws.{one_workload}
use Rattle.workload.specs.WorkView.{WorkView}
use Rattle.run_main.proofs.Telling.{is_report}
use Rattle.run_main.specs.Images.{IsImageOf, IsMapOf, has_stop, with_stop}
use Rattle.run_main.specs.Inputs.{IsWorkload}
use Rattle.run_main.specs.Replay.{IsReplayOf, log_of, state_after}
use Rattle.run_main.specs.Restoring.{CommandsRestore, ImageRestores, IsMapOfFirstRestart, IsMapOfReport}
use Rattle.run_main.specs.Tasks.{IsTask}
use Rattle.run_main.specs.Texts.{IsTextOf}
use Rattle.run_main.specs.declared.command.Command.TheVariants.{Image as ImageCommand, Recover as RecoverCommand, Replay as ReplayCommand}
use Rattle.run_main.specs.declared.task.Account.TheVariants.{Report, Summary}
use Rattle.run_main.specs.declared.task.Task.{Task}
use Rattle.run_main.specs.declared.task.Task.TheVariants.{Run, Keep, Merge, Approve, Tell}

-- ---- the events that picks choose

-- what the picks choose first is the front of all that they choose
picked_front : (plan : PlanView) (pick : ℕ → ℕ) (n : ℕ) (s : State) (first all : List Event) → ArePicked plan pick n s first → IsPickedFrom plan pick n s all → (rest : List Event) × (all ≡ first ++ rest)
picked_front plan pick n s [] all h k = (all, refl)
picked_front plan pick n s (e ∷ es) [] h k = absurd (true≢false (sym k ∙ h.0))
picked_front plan pick n s (e ∷ es) (f ∷ fs) h k =
    let same : f ≡ e = k.1 ∙ sym h.1 in
    let more : IsPickedFrom plan pick (picks_after plan s n) (happens plan s e) fs = subst (λ w. IsPickedFrom plan pick (picks_after plan s n) (happens plan s w) fs) same k.2 in
    let tail = picked_front plan pick (picks_after plan s n) (happens plan s e) es fs h.2 more in
    (tail.0, λ i. same i ∷ tail.1 i)

-- and then nothing can happen any more
picked_quiet : (plan : PlanView) (pick : ℕ → ℕ) (n : ℕ) (s : State) (all : List Event) → IsPickedFrom plan pick n s all → is_quiet plan (run plan s all) ≡ true
picked_quiet plan pick n s [] h = h
picked_quiet plan pick n s (e ∷ es) h = picked_quiet plan pick (picks_after plan s n) (happens plan s e) es h.2

-- ---- the law

abbrev pub FirstRestores : Type 0
FirstRestores = (plan : PlanView) (before after : List Event) → IsPlan plan → IsRun plan (opening plan) (before ++ Recover ∷ after) → Each (λ (e : Event). e ≢ Recover) before
    → is_quiet plan (run plan (opening plan) (before ++ Recover ∷ after)) ≡ true → BeginsWithRecovery (run plan (opening plan) before) (run plan (opening plan) (before ++ Recover ∷ after)).log

abbrev pub KeptAgrees : Type 0
KeptAgrees = Always (λ plan events s. Agree (records_in (kept_records s)))

abbrev pub NewestIsOne : Type 0
NewestIsOne = (records first second : List Record) → Agree records → IsNewestPerKey records first → IsNewestPerKey records second → first ≡ second

module _ (first : FirstRestores) (agrees : KeptAgrees) (one : NewestIsOne) where
  module _ (work : WorkView) (valid : IsPlan work.plan) (image : List ℕ) (kept : List (List Record)) (made : IsImageOf work image kept) where
    abbrev kept_then : List KeptItem
    kept_then = kept_records (state_after work made.events)

    runs_then : IsRun work.plan (opening work.plan) made.events
    runs_then = is_run_left work.plan (opening work.plan) made.events (Recover ∷ []) made.runs.enabled

    -- what was read is what was kept
    read_records : (items : List KeptItem) → IsImage image items → records_in items ≡ records_in kept_then
    read_records items reads = ap records_in (one_image image items (map told_item kept_then) reads made.reads) ∙ told_records kept_then

    first_told : (items : List KeptItem) (text : List ℕ) (events rest : List Event) → IsImage image items → IsMapOf items text → IsRun work.plan (opening work.plan) events → is_quiet work.plan (state_after work events) ≡ true
        → events ≡ made.events ++ Recover ∷ rest → IsMapOfFirstRestart (state_after work events).log text
    first_told items text events rest reads merged runs quiet are =
        let b : BeginsWithRecovery (state_after work made.events) (state_after work (made.events ++ Recover ∷ rest)).log = first work.plan made.events rest valid (subst (λ (es : List Event). IsRun work.plan (opening work.plan) es) are runs) made.runs.first (subst (λ (es : List Event). is_quiet work.plan (state_after work es) ≡ true) are quiet) in
        let newest : IsNewestPerKey (records_in kept_then) merged.newest = subst (λ (rs : List Record). IsNewestPerKey rs merged.newest) (read_records items reads) merged.is_newest in
        let same : merged.newest ≡ b.block.records = one (records_in kept_then) merged.newest b.block.records (agrees work.plan made.events valid runs_then) newest b.left in
        record {
          block = b.block;
          later = b.later;
          first = ap (λ (es : List Event). Rattle.far_model.specs.Blocks.recovered_blocks (state_after work es).log) are ∙ b.first;
          told = merged.told ∙ ap map_text same;
        }

    restored : (items : List KeptItem) (text report : List ℕ) (all : List (List Record)) → IsImage image items → IsMapOf items text → IsReplayOf work Report report all → IsMapOfReport work report text
    restored items text report all reads merged replay =
        let front = picked_front work.plan (pick_of work) 0 (opening work.plan) (made.events ++ Recover ∷ []) replay.events made.runs.picked replay.runs.picked in
        let are : replay.events ≡ made.events ++ Recover ∷ front.0 = front.1 ∙ append_assoc made.events (Recover ∷ []) front.0 in
        record {
          events = replay.events;
          runs = replay.runs;
          told = is_report work.plan.ops (log_of (state_after work replay.events)) report replay.told;
          restart = first_told items text replay.events front.0 reads merged replay.runs.enabled (picked_quiet work.plan (pick_of work) 0 (opening work.plan) replay.events replay.runs.picked) are;
        }

  pub image_restores : (work : WorkView) → IsPlan work.plan → ImageRestores work
  image_restores work valid image text report kept all items made reads merged replay = restored work valid image kept made items text report all reads merged replay

  -- a workload that has a stop gets no other
  same_work : (work : WorkView) → has_stop work.plan ≡ true → with_stop work ≡ work
  same_work work has = ap (λ (b : Bool). record work { plan = if b then work.plan else record work.plan { orders = work.plan.orders ++ Stop STEP_LIMIT ∷ [] } }) has

  made_of : (work : WorkView) (input image : List ℕ) (kept : List (List Record)) (task : Task) → IsWorkload input work → has_stop work.plan ≡ true → IsTask ImageCommand input task → IsTextOf task image (Some kept) → IsImageOf work image kept
  made_of work input image kept (Keep other) is has asked done =
      let same : other ≡ work = one_workload input other work asked.reads is.reads in
      subst (λ (w : WorkView). IsImageOf w image kept) (ap with_stop same ∙ same_work work has) done
  made_of work input image kept (Run other account) is has asked done = absurd asked
  made_of work input image kept (Merge items) is has asked done = absurd asked
  made_of work input image kept Approve is has asked done = absurd asked
  made_of work input image kept (Tell events) is has asked done = absurd asked

  replay_of : (work : WorkView) (input report : List ℕ) (all : List (List Record)) (task : Task) → IsWorkload input work → IsTask ReplayCommand input task → IsTextOf task report (Some all) → IsReplayOf work Report report all
  replay_of work input report all (Run other Report) is asked done = subst (λ (w : WorkView). IsReplayOf w Report report all) (one_workload input other work asked.reads is.reads) done
  replay_of work input report all (Run other Summary) is asked done = absurd asked
  replay_of work input report all (Keep other) is asked done = absurd asked
  replay_of work input report all (Merge items) is asked done = absurd asked
  replay_of work input report all Approve is asked done = absurd asked
  replay_of work input report all (Tell events) is asked done = absurd asked

  merged_of : (work : WorkView) (image text report : List ℕ) (kept all : List (List Record)) (records : Option (List (List Record))) (task : Task) → IsPlan work.plan → IsImageOf work image kept → IsReplayOf work Report report all
      → IsTask RecoverCommand image task → IsTextOf task text records → IsMapOfReport work report text
  merged_of work image text report kept all records (Merge items) valid made replay asked done = image_restores work valid image text report kept all items made asked.reads done replay
  merged_of work image text report kept all records Approve valid made replay asked done = absurd asked
  merged_of work image text report kept all records (Run other account) valid made replay asked done = absurd asked
  merged_of work image text report kept all records (Keep other) valid made replay asked done = absurd asked
  merged_of work image text report kept all records (Tell events) valid made replay asked done = absurd asked

  pub commands_restore : (work : WorkView) → CommandsRestore work
  commands_restore work input image text report kept all records is has imaged recovered replayed =
      merged_of work image text report kept all records recovered.task is.reads.within.plain.plan (made_of work input image kept imaged.task is has imaged.asked imaged.done)
      (replay_of work input report all replayed.task is replayed.asked replayed.done) recovered.asked recovered.done

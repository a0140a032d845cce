-- What running a workload until a recovery begins gives, and what merging a kept list gives.
use Rattle.std.specs.Prelude.{◌≡◌, ◌≢◌, ℕ, if◌then◌else◌, Bool, List, [], ◌∷◌, ◌++◌, map}
use Rattle.std.specs.List.{list_any}
use Rattle.far_base.specs.Limits.{is_stop}
use Rattle.far_base.specs.PlanView.{PlanView}
use Rattle.far_base.specs.declared.event.Event.{Event}
use Rattle.far_base.specs.declared.event.Event.TheVariants.{Recover}
use Rattle.far_base.specs.declared.kept.KeptItem.{KeptItem}
use Rattle.far_base.specs.declared.plan.Order.TheVariants.{Stop}
use Rattle.far_base.specs.declared.plan.TheConstants.{STEP_LIMIT}
use Rattle.far_base.specs.declared.record.Record.{Record}
use Rattle.far_model.specs.History.{IsNewestPerKey}
use Rattle.far_model.specs.Kept.{kept_records, records_in}
use Rattle.far_model.specs.Members.{Each}
use Rattle.far_model.specs.Runs.{ArePicked, IsRun}
use Rattle.far_model.specs.State.{opening}
use Rattle.far_runner.specs.Picked.{pick_of}
use Rattle.kept_image.specs.ImageText.{image_text}
use Rattle.kept_image.specs.MapText.{map_text}
use Rattle.kept_image.specs.Meaning.{IsImage, told_item}
use Rattle.workload.specs.WorkView.{WorkView}
use Rattle.run_main.specs.Replay.{state_after}

-- whether the plan has an order to stop the switch, of either form
abbrev pub has_stop : PlanView → Bool
has_stop plan = list_any is_stop plan.orders

-- the plan with one more order behind the others, to stop the switch at the greatest step, where it has none
abbrev pub stopping : PlanView → PlanView
stopping plan = if has_stop plan then plan else record plan { orders = plan.orders ++ Stop STEP_LIMIT ∷ [] }

abbrev pub with_stop : WorkView → WorkView
with_stop work = record work { plan = stopping work.plan }

-- these events, and then the first recovery that begins, are those that the picks of the workload choose first
pub record IsPickedToRecovery (work : WorkView) (events : List Event) : Type 0 where
  pub enabled : IsRun work.plan (opening work.plan) (events ++ Recover ∷ [])
  pub picked : ArePicked work.plan (pick_of work) 0 (opening work.plan) (events ++ Recover ∷ [])
  pub first : Each (λ (event : Event). event ≢ Recover) events

-- the text is the image of what was kept when the first recovery of the run of the workload by its picks began, and
-- reads as that. These are the servers' records after that
pub record IsImageOf (work : WorkView) (text : List ℕ) (records : List (List Record)) : Type 0 where
  pub events : List Event
  pub runs : IsPickedToRecovery work events
  pub image : text ≡ image_text (kept_records (state_after work events))
  pub reads : IsImage text (map told_item (kept_records (state_after work events)))
  pub servers : records ≡ (state_after work (events ++ Recover ∷ [])).servers

-- the text is the map that a recovery makes of the kept list: for each key the newest record
pub record IsMapOf (items : List KeptItem) (text : List ℕ) : Type 0 where
  pub newest : List Record
  pub is_newest : IsNewestPerKey (records_in items) newest
  pub told : text ≡ map_text newest

-- What one step does.
use Rattle.std.specs.Prelude.{◌≡◌, ◌+◌, ◌≤◌, List, ◌++◌, map, is_some}
use Rattle.far_base.specs.declared.event.Event.{Event}
use Rattle.far_base.specs.declared.log.LogEntry.{LogEntry}
use Rattle.far_history.specs.RoomyLog.{RoomyLog}
use Rattle.far_model.specs.Events.{Keeping, happens, happens_with}
use Rattle.far_model.specs.State.{line_at}
use Rattle.far_world.specs.Scene.{Scene, Tells, told_by}
use Rattle.far_model.specs.Replies.{KeepersAnswer, ceiling_after}

-- one more step is counted, and these are noted in it
pub record Logs (old new : RoomyLog) (notes : List LogEntry) : Type 0 where
  pub steps : new.steps ≡ old.steps + 1
  pub lines : new.lines ≡ old.lines ++ map (line_at (old.steps + 1)) notes

-- the event happened, with what the keepers answered in kind and not above their ceiling. The records of a keeper that
-- does not tell them play no part; one that tells them answers by the rule of a server
pub record IsAfter (old : Scene) (e : Event) (new : Scene) : Type 0 where
  pub plan : new.plan ≡ old.plan
  pub keeping : Keeping
  pub answers : KeepersAnswer old.keeper.ceiling old.state e keeping
  pub state : new.state ≡ record (happens_with old.plan keeping old.state e) { servers = new.state.servers }
  pub told : Tells old.keeper.records → new.state ≡ happens old.plan old.state e
  pub tells : is_some new.keeper.records ≡ is_some old.keeper.records
  pub records : new.state.servers ≡ told_by new.plan.config.servers new.keeper.records
  pub servers : new.keeper.servers ≡ old.keeper.servers
  pub ceiling : new.keeper.ceiling ≡ ceiling_after old.state e old.keeper.ceiling
  pub later : old.keeper.faults ≤ new.keeper.faults

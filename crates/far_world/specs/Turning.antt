-- An event of a world, whoever chose it.
use Rattle.std.specs.Prelude.{◌≡◌, suc, ◌≤◌, true, false, [], ◌∷◌, ◌++◌, is_some, Option, Some}
use Rattle.far_base.specs.declared.event.Event.{Event}
use Rattle.far_base.specs.declared.party.Party.{Party}
use Rattle.far_model.specs.Choosing.{first_event}
use Rattle.far_model.specs.Events.{happens, is_enabled}
use Rattle.far_model.specs.Work.{work_left}
use Rattle.far_world.specs.Reached.{Ran}
use Rattle.far_world.specs.Scene.{Tells}

-- the event, which can happen, has happened, and less work is left
pub record HasTurned (old : Ran) (event : Event) (new : Ran) : Type 0 where
  pub plan : new.plan ≡ old.plan
  pub enabled : is_enabled old.plan old.state event ≡ true
  pub events : new.events ≡ old.events ++ event ∷ []
  pub work : suc (work_left new.plan new.state) ≤ work_left old.plan old.state
  pub state : Tells old.keeper.records → new.state ≡ happens old.plan old.state event
  pub tells : is_some new.keeper.records ≡ is_some old.keeper.records

-- the first event of the party, where it has one, has happened, and else nothing
pub record TurnsFor (old : Ran) (who : Party) (found : Option Event) (new : Ran) : Type 0 where
  pub first : found ≡ first_event old.plan old.state who
  pub none : is_some found ≡ false → new ≡ old
  pub some : (event : Event) → found ≡ Some event → HasTurned old event new

-- What one turn of a party is.
use Rattle.std.specs.Prelude.{◌≡◌, Some}
use Rattle.far_base.specs.declared.event.Event.{Event}
use Rattle.far_history.specs.Summary.{count_of, is_answer}
use Rattle.far_model.specs.Choosing.{first_event}
use Rattle.far_world.specs.LastAnswer.{last_answered}
use Rattle.far_world.specs.Reached.{Ran}
use Rattle.far_world.specs.Turning.{HasTurned}
use Rattle.far_runner.specs.declared.shared.Made.{Made}

-- the first event of the party has happened, and this is what it left: the operation that it answered, the steps that
-- are made, and how many operations are answered
pub record IsTurn (old : Ran) (made : Made) (new : Ran) : Type 0 where
  pub event : Event
  pub first : first_event old.plan old.state made.who ≡ Some event
  pub turned : HasTurned old event new
  pub answered : made.answered ≡ last_answered new.state
  pub steps : made.steps ≡ new.state.steps
  pub count : made.answers ≡ count_of is_answer new.state.log

-- What a step for one party says of the event that happened.
use Rattle.std.proofs.Common.{◌≡◌, ℕ, Some, refl, sym, ap, ◌∙◌}
use Rattle.far_base.specs.declared.event.Event.{Event}
use Rattle.far_base.specs.declared.party.Party.{Party}
use Rattle.far_history.specs.Summary.{count_of, is_answer}
use Rattle.far_model.specs.Choosing.{first_event}
use Rattle.far_world.specs.LastAnswer.{last_answered}
use Rattle.far_world.specs.Reached.{Ran, with_count}
use Rattle.far_world.specs.Scene.{Tells}
use Rattle.far_world.specs.Turning.{TurnsFor}
use Rattle.far_runner.specs.Turns.{IsTurn}
use Rattle.far_runner.specs.declared.shared.Made.{Made}

pub still_tells : (old new : Ran) (who : Party) (event : Event) → TurnsFor old who (Some event) new → Tells old.keeper.records → Tells new.keeper.records
still_tells old new who event t tells = (t.some event refl).tells ∙ tells

pub turn_is : (old new : Ran) (who : Party) (event : Event) (made : Made) → TurnsFor old who (Some event) new → made.who ≡ who → made.answered ≡ last_answered new.state → made.steps ≡ new.state.steps → made.answers ≡ count_of is_answer new.state.log → IsTurn old made new
turn_is old new who event made t whose answered steps count = record { event = event; first = ap (λ (p : Party). first_event old.plan old.state p) whose ∙ sym t.first; turned = t.some event refl; answered = answered; steps = steps; count = count }

-- a count of faults is no part of a turn
pub turn_after_none : (old : Ran) (faults : ℕ) (made : Made) (new : Ran) → IsTurn (with_count old faults) made new → IsTurn old made new
turn_after_none old faults made new t = record {
  event = t.event;
  first = t.first;
  turned = record {
    plan = t.turned.plan;
    enabled = t.turned.enabled;
    events = t.turned.events;
    work = t.turned.work;
    state = t.turned.state;
    tells = t.turned.tells;
  };
  answered = t.answered;
  steps = t.steps;
  count = t.count;
}

-- The first choice of each party.
use Rattle.std.specs.Prelude.{ℕ, Bool, if◌then◌else◌, List, Option, None, Some}
use Rattle.far_base.specs.declared.event.Event.{Event}
use Rattle.far_base.specs.declared.event.Event.TheVariants.{Send, Deliver, Tick, Recover, Restart}
use Rattle.far_base.specs.declared.packet.Message.{Message}
use Rattle.far_base.specs.declared.party.Party.{Party}
use Rattle.far_base.specs.declared.party.Party.TheVariants.{Client, Switch, Server, Controller}
use Rattle.far_model.specs.Choosing.{same_party}
use Rattle.far_model.specs.Controller.{ready, tick}
use Rattle.far_model.specs.Events.{can_recover, can_send}
use Rattle.far_model.specs.State.{State, client_at}
use Rattle.std.specs.Prelude.{is_some}
use Rattle.wire_bag.specs.Addressees.{first_by}

-- the place of the oldest message to the party
abbrev pub oldest_to : Party → List Message → Option ℕ
oldest_to who messages = first_by (λ (m : Message). same_party m.to who) 0 messages

abbrev pub delivery_of : Option ℕ → Option Event
delivery_of None = None
delivery_of (Some place) = Some (Deliver place)

-- the first, where it is, and else the second
abbrev pub or_else : Option Event → Option Event → Option Event
or_else None second = second
or_else (Some event) second = Some event

abbrev pub some_if : Bool → Event → Option Event
some_if test event = if test then Some event else None

abbrev pub delivery_to : State → Party → Option Event
delivery_to s who = delivery_of (oldest_to who s.bag)

-- a client sends before it takes a message; the switch takes messages while it runs; the controller takes messages
-- before it does anything else
abbrev pub first_choice_of : State → Party → Option Event
first_choice_of s (Client c) = or_else (some_if (can_send (client_at s c)) (Send c)) (delivery_to s (Client c))
first_choice_of s Switch = if s.running then delivery_to s Switch else None
first_choice_of s (Server n) = delivery_to s (Server n)
first_choice_of s Controller = or_else (delivery_to s Controller) (or_else (some_if (is_some (tick s.controller)) Tick)
    (or_else (some_if (can_recover s) Recover) (some_if (is_some (ready s.controller)) Restart)))

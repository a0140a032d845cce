-- Whose turn an event is, and the first event of a party.
use Rattle.std.specs.Prelude.{Bool, true, false, ◌&&◌, nat_eq, if◌then◌else◌, List, [], ◌∷◌, filter, slice_get, Option}
use Rattle.std.specs.Prelude.{None, Some}
use Rattle.far_base.specs.PlanView.{PlanView}
use Rattle.far_base.specs.declared.event.Event.{Event}
use Rattle.far_base.specs.declared.event.Event.TheVariants.{Send, Deliver, Tick, Recover, Restart, Order as OrderOf}
use Rattle.far_base.specs.declared.packet.Message.{Message}
use Rattle.far_base.specs.declared.party.Party.{Party}
use Rattle.far_base.specs.declared.party.Party.TheVariants.{Client, Switch, Server, Controller}
use Rattle.far_model.specs.Events.{choices, is_order_enabled}
use Rattle.far_model.specs.State.{State}

abbrev pub same_party : Party → Party → Bool
same_party (Client a) (Client b) = nat_eq a b
same_party Switch Switch = true
same_party (Server a) (Server b) = nat_eq a b
same_party Controller Controller = true
same_party _ _ = false

-- to whom a message goes; where there is no message the delivery cannot happen, and is nobody's in particular
abbrev pub addressee : Option Message → Party
addressee None = Controller
addressee (Some m) = m.to

-- whose turn an event is: the client that sends, the addressee of a delivery, and the controller for all else
abbrev pub event_party : State → Event → Party
event_party s (Send c) = Client c
event_party s (Deliver i) = addressee (slice_get s.bag i)
event_party s Tick = Controller
event_party s Recover = Controller
event_party s Restart = Controller
event_party s (OrderOf j) = Controller

-- the choices that are a party's, in their order
abbrev pub choices_of : State → Party → List Event
choices_of s party = filter (λ e. same_party (event_party s e) party) (choices s)

abbrev pub first_of : {X : Type 0} → List X → Option X
first_of [] = None
first_of (x ∷ xs) = Some x

-- the first event of a party that can happen: for the controller an enabled order, and else the first of its choices
abbrev pub first_event : PlanView → State → Party → Option Event
first_event plan s party = if same_party Controller party && is_order_enabled plan s then Some (OrderOf s.done)
    else first_of (choices_of s party)

-- The choices of a state by its parties.
use Rattle.std.specs.Prelude.{Bool, not, ◌&&◌, is_some, List, [], ◌++◌}
use Rattle.far_base.specs.declared.event.Event.{Event}
use Rattle.far_base.specs.declared.event.Event.TheVariants.{Tick, Recover, Restart}
use Rattle.far_base.specs.declared.packet.Message.{Message}
use Rattle.far_base.specs.declared.packet.Packet.TheVariants.{Hot}
use Rattle.far_base.specs.declared.party.Party.TheVariants.{Controller}
use Rattle.far_model.specs.Controller.{ControllerState}
use Rattle.far_model.specs.Events.{can_send, choice_if}
use Rattle.far_model.specs.Members.{is_empty}
use Rattle.far_model.specs.Runs.{is_done}
use Rattle.far_world.specs.Seats.{SeatView}

abbrev pub seat_can_send : SeatView → Bool
seat_can_send seat = can_send seat.state

abbrev pub seat_is_done : SeatView → Bool
seat_is_done seat = is_done seat.state

-- in the place of a message that is not there
abbrev pub nothing_sent : Message
nothing_sent = record { from = Controller; to = Controller; packet = Hot [] }

-- the controller's events that can happen
abbrev pub controller_choices : Bool → Bool → Bool → List Event
controller_choices tick recover restart = choice_if tick Tick ++ choice_if recover Recover ++ choice_if restart Restart

-- no want, eviction, snapshot or recovery is left
abbrev pub is_idle : ControllerState → Bool
is_idle c = is_empty c.wants && (not (is_some c.eviction) && (not (is_some c.job) && not (is_some c.round)))

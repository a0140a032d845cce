-- A client and the operations that it has still to send, as contracts see them.
use Rattle.std.specs.Prelude.{◌≡◌, ℕ, zero, suc, List, [], ◌∷◌, ◌++◌, map, drop, slice_get, Option, None, Some, nat_eq}
use Rattle.std.specs.Prelude.{if◌then◌else◌}
use Rattle.far_base.specs.declared.plan.OpLine.{OpLine}
use Rattle.far_base.specs.declared.packet.Packet.{Packet}
use Rattle.far_base.specs.declared.packet.Packet.TheVariants.{GetAns, WriteAns}
use Rattle.client_records.specs.ClientView.{ClientView, state_of}
use Rattle.far_world.specs.declared.turn.Turn.{Turn as TurnParts}
use Rattle.far_model.specs.Parties.{Turn}
use Rattle.far_model.specs.Clients.{ClientState, line_of, opening_client, script}

-- the client's number, the line of its open operation, and its state
pub record SeatView : Type 0 where
  pub number : ℕ
  pub line : Option OpLine
  pub state : ClientState

abbrev pub client_of : SeatView → ClientState
client_of seat = seat.state

abbrev pub clients_of : List SeatView → List ClientState
clients_of seats = map client_of seats

-- the line of the open operation is that of the plan
abbrev pub HasLine : List OpLine → Option ℕ → Option OpLine → Type 0
HasLine ops None line = Unit {0}
HasLine ops (Some op) line = line ≡ Some (line_of ops op)

-- the client has this number, the line of its open operation, and an end of its script to send
pub record IsSeated (ops : List OpLine) (c : ℕ) (seat : SeatView) : Type 0 where
  pub number : seat.number ≡ c
  pub line : HasLine ops seat.state.waits seat.line
  pub sent : ℕ
  pub left : seat.state.left ≡ drop sent (script ops c)

-- the line of an open operation
abbrev pub open_line : Option (ℕ × OpLine) → Option OpLine
open_line None = None
open_line (Some o) = Some o.1

-- a client with a script of which so many were sent
abbrev pub seat_of : ClientView → ℕ → List ℕ → SeatView
seat_of client sent script = record {
  number = client.number;
  line = open_line client.waits;
  state = state_of
      (drop sent script) client;
}

-- what may come to a client that waits for this: an answer is of its open operation
abbrev pub IsExpected : Option ℕ → Packet → Type 0
IsExpected waits (GetAns caller op key num body near) = waits ≡ Some op
IsExpected waits (WriteAns caller op key num kept) = waits ≡ Some op
IsExpected waits _ = Unit {0}

-- an answer to the operation that a client waits for
abbrev pub IsAnswerOf : Option ℕ → Packet → Type 0
IsAnswerOf waits (GetAns caller op key num body near) = waits ≡ Some op
IsAnswerOf waits (WriteAns caller op key num kept) = waits ≡ Some op
IsAnswerOf waits _ = ⊥

-- who sends each operation
abbrev pub senders : List OpLine → List ℕ
senders ops = map (λ (line : OpLine). line.client) ops

-- the numbers of the operations that a client sends, where these clients send them and the first has this number
abbrev pub numbers_from : ℕ → List ℕ → ℕ → List ℕ
numbers_from op [] client = []
numbers_from op (sender ∷ rest) client = if nat_eq sender client then op ∷ numbers_from (suc op) rest client
    else numbers_from (suc op) rest client

-- a client that has these operations to send
abbrev pub fresh_seat : ℕ → List ℕ → SeatView
fresh_seat number left = record {
  number = number;
  line = None;
  state = record { waits = None; left = left; released = 0; preserved = [] };
}

-- a client that has sent nothing
abbrev pub opening_seat : List OpLine → ℕ → SeatView
opening_seat ops number = record { number = number; line = None; state = opening_client ops number }

abbrev pub opening_seats : List OpLine → ℕ → ℕ → List SeatView
opening_seats ops n zero = []
opening_seats ops n (suc more) = opening_seat ops n ∷ opening_seats ops (suc n) more

-- the client took this turn of the machine: it has its state, what it sends went behind what was to be sent, and its
-- notes
-- behind the notes
pub record TakesTurn (ops : List OpLine) (old : SeatView) (before : TurnParts) (turn : Turn ClientState)
    (new : SeatView) (after : TurnParts) : Type 0 where
  pub state : new.state ≡ turn.state
  pub seated : IsSeated ops old.number new
  pub out : after.out.items ≡ before.out.items ++ turn.out
  pub notes : after.notes.items ≡ before.notes.items ++ turn.notes

abbrev pub AreSeated : List OpLine → List SeatView → Type 0
AreSeated ops seats = (c : ℕ) (seat : SeatView) → slice_get seats c ≡ Some seat → IsSeated ops c seat

-- What the turn of one party leaves as it was.
use Rattle.std.specs.Prelude.{◌≡◌, ◌≢◌, ℕ}
use Rattle.far_model.specs.State.{State, client_at, records_at}
use Rattle.far_model.specs.View.{SwitchView, slot_at}

-- how many packets of each kind have come to the switch
pub record PassesUntouched (s t : State) : Type 0 where
  pub passes : t.passes ≡ s.passes

-- the switch, whether it runs, and what has come to it
pub record SwitchUntouched (s t : State) : Type 0 where
  pub switch : t.switch ≡ s.switch
  pub running : t.running ≡ s.running
  pub passes : t.passes ≡ s.passes

pub record ClientsUntouched (s t : State) : Type 0 where
  pub clients : t.clients ≡ s.clients

pub record ServersUntouched (s t : State) : Type 0 where
  pub servers : t.servers ≡ s.servers

pub record ControllerUntouched (s t : State) : Type 0 where
  pub controller : t.controller ≡ s.controller

-- each client but this one
abbrev pub OtherClientsUntouched : State → State → ℕ → Type 0
OtherClientsUntouched s t c = (other : ℕ) → other ≢ c → client_at t other ≡ client_at s other

-- the records of each server but this one
abbrev pub OtherServersUntouched : State → State → ℕ → Type 0
OtherServersUntouched s t server = (other : ℕ) → other ≢ server → records_at t other ≡ records_at s other

-- each slot but this one, and all else that the switch has
pub record OtherSlotsUntouched (v w : SwitchView) (slot : ℕ) : Type 0 where
  pub slots : (other : ℕ) → other ≢ slot → slot_at w other ≡ slot_at v other
  pub config : w.config ≡ v.config
  pub bound : w.bound ≡ v.bound
  pub taken : w.taken ≡ v.taken
  pub shown : w.shown ≡ v.shown
  pub hot : w.hot ≡ v.hot
  pub counter : w.counter ≡ v.counter
  pub epoch : w.epoch ≡ v.epoch
  pub snap : w.snap ≡ v.snap
  pub base : w.base ≡ v.base

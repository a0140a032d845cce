-- What a round of recovery waits for.
use Rattle.std.specs.Prelude.{◌≡◌, ℕ, ◌<◌, ◌⊎◌, Bool, true, false, ◌&&◌, nat_eq, [], slice_index_or, None}
use Rattle.std.specs.List.{list_all}
use Rattle.far_base.specs.PlanView.{PlanView}
use Rattle.far_base.specs.declared.packet.Message.{Message}
use Rattle.far_base.specs.declared.slot_state.SlotState.TheVariants.{Free}
use Rattle.far_model.specs.Events.{can_deliver}
use Rattle.far_model.specs.Evictions.{state_at}
use Rattle.far_model.specs.Members.{Among}
use Rattle.far_model.specs.Rounds.{Round, has_told, telling_at}
use Rattle.far_model.specs.State.{State}
use Rattle.far_invariants.specs.Stops.{asks, tells_for, stores_for, tops_for}

-- a message on its way that passes the test
pub record IsFlying (s : State) (p : Message → Bool) : Type 0 where
  pub message : Message
  pub there : Among message s.bag
  pub passes : p message ≡ true

-- a round is there only while the switch is stopped, and everything that it waits for is on its way
pub record RoundInFlight (plan : PlanView) (s : State) (r : Round) : Type 0 where
  pub stopped : s.running ≡ false
  pub client : (c : ℕ) → c < plan.config.clients → has_told (telling_at r c) ≡ false → IsFlying s (asks r.number c)
      ⊎ IsFlying s (tells_for r.number c)
  pub store : 0 < r.stores → IsFlying s (stores_for r.first_job)
  pub top : r.asked ≡ true → (n : ℕ) → n < plan.config.servers → slice_index_or r.tops n None ≡ None
      → IsFlying s (tops_for r.number n)
  pub before : r.asked ≡ false → (list_all has_told r.told && nat_eq r.stores 0) ≡ false
  pub free : (i : ℕ) → state_at s.controller.slots i ≡ Free
  pub no_wants : s.controller.wants ≡ []
  pub no_eviction : s.controller.eviction ≡ None
  pub no_job : s.controller.job ≡ None

-- a message that can be delivered
pub record CanMove (s : State) : Type 0 where
  pub message : Message
  pub there : Among message s.bag
  pub can : can_deliver s.running message ≡ true

-- What a pick can choose.
use Rattle.std.specs.Prelude.{◌≡◌, Bool, true, false}
use Rattle.far_base.specs.PlanView.{PlanView}
use Rattle.far_base.specs.declared.event.Event.{Event}
use Rattle.far_base.specs.declared.event.Event.TheVariants.{Order as OrderOf}
use Rattle.far_model.specs.Events.{is_enabled}
use Rattle.far_model.specs.State.{State}

abbrev pub is_order : Event → Bool
is_order (OrderOf j) = true
is_order _ = false

-- the event is no order, and can happen
pub record CanBePicked (plan : PlanView) (s : State) (e : Event) : Type 0 where
  pub no_order : is_order e ≡ false
  pub enabled : is_enabled plan s e ≡ true

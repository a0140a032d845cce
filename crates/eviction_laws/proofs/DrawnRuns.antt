-- In runs in which the switch never stops each tag was drawn once.
use Rattle.far_invariants.specs.Slots.{IsGiven}
use Rattle.std.proofs.Common.{[], subst, arith}
use Rattle.far_base.specs.PlanView.{PlanView}
use Rattle.far_base.specs.declared.slot_state.SlotState.TheVariants.{Free}
use Rattle.far_model.specs.State.{opening}
use Rattle.flight_laws.proofs.Lists.{get_or-replicate_default}
use Rattle.far_invariants.specs.DrawnTags.{TagsAreDrawn}

pub opening_draws : (plan : PlanView) → TagsAreDrawn (opening plan) []
opening_draws plan = record {
  below = λ d a. absurd a;
  once = tt;
  positive = omega arith;
  states = λ i key tag g. absurd (subst (IsGiven key tag) (get_or-replicate_default plan.config.slots i Free) g);
  packets = λ m a. absurd a;
}

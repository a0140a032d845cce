-- Runs in which the switch never stops keep the invariants, also where slots are freed.
use Rattle.std.proofs.Common.{◌≡◌, refl, sym, ◌∙◌}
use Rattle.far_base.specs.PlanView.{PlanView}
use Rattle.far_base.specs.declared.slot_state.SlotState.TheVariants.{Free, Evicting}
use Rattle.far_model.specs.State.{opening}
use Rattle.flight_laws.proofs.Lists.{get_or-replicate_default}
use Rattle.far_invariants.specs.Evictions.{EvictionsAreSound}
use Rattle.eviction_laws.proofs.Onward.{written_onward}

pub opening_evicts : (plan : PlanView) → EvictionsAreSound plan (opening plan)
opening_evicts plan = record {
  lasts = λ a b o key num body w. written_onward plan a b o key num body w;
  some = λ e is. absurd cc;
  none = λ is i key tag at. let clash : Free ≡ Evicting key tag = sym (get_or-replicate_default plan.config.slots i Free) ∙ at in cc;
  packets = λ m a. absurd a;
  one = λ outside. refl;
}

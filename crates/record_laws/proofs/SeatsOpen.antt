-- Slots and admissions at the opening.
use Rattle.far_invariants.specs.Slots.{FitsState, IsGiven, admission_count}
use Rattle.std.proofs.Common.{◌≡◌, ℕ, true, false, refl, sym, ap, ◌∙◌, subst, arith}
use Rattle.std.specs.Prelude.{None}
use Rattle.std.proofs.lemmas.List.{length-replicate}
use Rattle.far_base.specs.PlanView.{PlanView}
use Rattle.far_base.specs.declared.slot_state.SlotState.TheVariants.{Free}
use Rattle.far_model.specs.View.{SlotView, slot_at, empty_slot}
use Rattle.far_model.specs.Evictions.{state_at}
use Rattle.far_model.specs.State.{opening}
use Rattle.flight_laws.proofs.Lists.{get_or-replicate_default}
use Rattle.record_laws.proofs.Seats.{Seats}

pub opening_sits : (plan : PlanView) → Seats plan (opening plan)
opening_sits plan = record {
  running = refl;
  slots = record {
    epoch = refl;
    bounds = length-replicate plan.config.slots None;
    slots = length-replicate plan.config.slots empty_slot;
    states = length-replicate plan.config.slots Free;
    fits = λ i. subst (λ w. FitsState w (state_at (opening plan).controller.slots i)) (sym (slot i)) (subst (FitsState empty_slot) (sym (state i)) refl);
    apart = λ i j key other tag own ne g g'. absurd (subst (IsGiven key tag) (state i) g);
    drawn = λ i key tag g. absurd (subst (IsGiven key tag) (state i) g);
    owned = λ i key valid key_is. absurd (let off = ap (λ (w : SlotView). w.valid) (slot i) in let clash : true ≡ false = sym valid ∙ off in cc);
  };
  admissions = record {
    packets = λ m a. absurd a;
    one = λ i. sym (ap admission_count (state i));
    once = λ tag. omega arith;
  };
}
  where
    slot : (i : ℕ) → slot_at (opening plan).switch i ≡ empty_slot
    slot i = get_or-replicate_default plan.config.slots i empty_slot

    state : (i : ℕ) → state_at (opening plan).controller.slots i ≡ Free
    state i = get_or-replicate_default plan.config.slots i Free

-- In runs in which the switch never stops all that was shown is known.
use Rattle.std.proofs.Common.{◌≡◌, ℕ, zero, suc, List, [], refl, sym, ap, ◌∙◌, subst}
use Rattle.std.specs.Prelude.{Option, Some, None}
use Rattle.far_base.specs.PlanView.{PlanView}
use Rattle.far_base.specs.declared.plan.OpLine.{OpLine}
use Rattle.far_model.specs.Members.{Among}
use Rattle.far_model.specs.State.{opening, clients_from, nobody}
use Rattle.far_model.specs.View.{SlotView, empty_slot}
use Rattle.flight_laws.proofs.Lists.{get_or-replicate_default}
use Rattle.far_invariants.specs.Known.{ShownIsKnown}

opening_preserves : (ops : List OpLine) (n more c : ℕ) → (Rattle.std.specs.Prelude.slice_index_or (clients_from ops n more) c nobody).preserved ≡ []
opening_preserves ops n zero c = refl
opening_preserves ops n (suc more) zero = refl
opening_preserves ops n (suc more) (suc c) = opening_preserves ops (suc n) more c

pub opening_knows : (plan : PlanView) → ShownIsKnown plan (opening plan)
opening_knows plan = record {
  lines = λ at op num body near a. absurd a;
  slots = λ i key is. absurd (let off = ap (λ (w : SlotView). w.key) (get_or-replicate_default plan.config.slots i empty_slot) in let clash : Some key ≡ None = sym is ∙ off in cc);
  packets = λ m a. absurd a;
  preserved = λ c r a. absurd (subst (λ l. Among r l) (opening_preserves plan.ops 0 plan.config.clients c) a);
  parts = λ job is part a. absurd cc;
  last = λ r a. absurd a;
  item = λ e is. absurd cc;
}

-- The part of a slot that is what the last completed snapshot has of it.
use Rattle.std.proofs.Common.{◌≡◌, ℕ, zero, suc, ◌<◌, ◌≤◌, Bool, true, false, nat_lt, List, [], ◌∷◌, ◌++◌, length, refl, sym, ap, ◌∙◌, arith}
use Rattle.std.specs.Prelude.{Option, None, Some, slice_get, slice_index_or}
use Rattle.std.proofs.lemmas.Bool.{ltb-false}
use Rattle.std.proofs.lemmas.List.{append-nil}
use Rattle.far_base.specs.declared.packet.Out.{Out}
use Rattle.far_base.specs.declared.plan.Config.{Config}
use Rattle.far_base.specs.declared.record.Record.{Record}
use Rattle.far_model.specs.Controller.{ControllerState, same_came, same_part}
use Rattle.far_model.specs.Parties.{Turn, idle}
use Rattle.far_model.specs.Snapshots.{Job}
use Rattle.controller_core.specs.Going.{same_with}

past_end : (views : List (Option Record)) (i : ℕ) → length views ≤ i → slice_get views i ≡ None
past_end [] i h = refl
past_end (v ∷ vs) zero h = absurd (omega arith)
past_end (v ∷ vs) (suc i) h = past_end vs i (omega arith)

within : (views : List (Option Record)) (i : ℕ) → i < length views → slice_get views i ≡ Some (slice_index_or views i None)
within [] i h = absurd (omega arith)
within (v ∷ vs) zero h = refl
within (v ∷ vs) (suc i) h = within vs i (omega arith)

pub no_view : (config : Config) (c : ControllerState) (id i : ℕ) (o : Option Job) → length c.last.views ≤ i → same_came config c id i o ≡ idle c
no_view config c id i None h = refl
no_view config c id i (Some job) h = ap (same_part config c id i job) (past_end c.last.views i h)

pub with_view : (config : Config) (c : ControllerState) (id i : ℕ) (o : Option Job) → i < length c.last.views → same_came config c id i o ≡ same_with config c id i (slice_index_or c.last.views i None) o
with_view config c id i None h = refl
with_view config c id i (Some job) h = ap (same_part config c id i job) (within c.last.views i h)

-- where there is no view, nothing is sent
pub silent : (config : Config) (c : ControllerState) (id i : ℕ) (o : Option Job) (before after : List Out) → nat_lt i (length c.last.views) ≡ false → after ≡ before → after ≡ before ++ (same_came config c id i o).out
silent config c id i o before after h e = e ∙ sym (append-nil before) ∙ ap (λ (t : Turn ControllerState). before ++ t.out) (sym (no_view config c id i o (ltb-false i (length c.last.views) h)))

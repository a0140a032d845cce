-- A controller still fits once a free slot is admitted.
use Rattle.std.proofs.Common.{◌≡◌, ◌≢◌, ℕ, ◌<◌, ◌≤◌, inl, inr, ◌⊎◌, Bool, true, false, List, length, get_or, refl, sym, ap, ◌∙◌, arith, get_or-set_other, get_or-set_same}
use Rattle.std.specs.Prelude.{Option, None, Some, slice_set}
use Rattle.std.proofs.lemmas.Bool.{cases_eq}
use Rattle.std.proofs.Math.ListN.{set, length-set}
use Rattle.far_base.specs.declared.slot_state.SlotState.{SlotState}
use Rattle.far_base.specs.declared.slot_state.SlotState.TheVariants.{Free, Admitting, Held, Evicting}
use Rattle.far_model.specs.Evictions.{Eviction, first_place, is_free, state_at}
use Rattle.admission.proofs.Found.{first_some}
use Rattle.controller_core.specs.ControllerView.{ControllerView, EvictsSlot, IsFit}

pub free_place : (slots : List SlotState) (i : ℕ) → first_place is_free slots ≡ Some i → is_free (state_at slots i) ≡ true
free_place slots i h = (first_some is_free slots i Free h).passes

-- another slot than that of the eviction was set
pub still_evicts : (slots : List SlotState) (o : Option Eviction) (i : ℕ) (state : SlotState) → is_free (state_at slots i) ≡ true → EvictsSlot slots o → EvictsSlot (slice_set slots i state) o
still_evicts slots None i state free h = tt
still_evicts slots (Some e) i state free h = by (cases_eq e.slot i)
  where
    by : (e.slot ≡ i) ⊎ (e.slot ≢ i) → state_at (slice_set slots i state) e.slot ≡ Evicting e.key e.tag
    by (inl same) = absurd (cc (ap (λ n. is_free (state_at slots n)) same, ap is_free h, free))
    by (inr other) = get_or-set_other slots i e.slot state Free other ∙ h

pub still_fit : (v : ControllerView) (slots : List SlotState) (n hand : ℕ) (wants : List (List ℕ)) (i : ℕ) (state : SlotState) → slots ≡ slice_set v.state.slots i state → is_free (state_at v.state.slots i) ≡ true → IsFit v → IsFit (record v { state = record v.state { slots = slots; next_tag = n; hand = hand; wants = wants } })
still_fit v slots n hand wants i state e free h =
    let len : length slots ≡ length v.state.slots = ap length e ∙ length-set v.state.slots i state in
    record {
      config = h.config;
      slots = omega (arith, h.slots, len);
      evicting = rw e (still_evicts v.state.slots v.state.eviction i state free h.evicting);
      places = rw len h.places;
      views = h.views;
      stores = h.stores;
    }

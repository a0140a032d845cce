-- The states of the slots, and what each call makes of them.
use Rattle.std.specs.Prelude.{ℕ, ◌+◌, Bool, true, false, if◌then◌else◌, List, [], ◌∷◌, length, replicate}
use Rattle.std.specs.Prelude.{slice_set, Option, None, Some}
use Rattle.far_base.specs.declared.slot_state.SlotState.{SlotState}
use Rattle.far_base.specs.declared.slot_state.SlotState.TheVariants.{Free, Admitting, Held, Evicting}
use Rattle.far_model.specs.Evictions.{is_free, state_at, key_in, tag_in, is_admitting, hand_after}

pub record AdmissionView : Type 0 where
  pub slots : List SlotState
  pub next_tag : ℕ
  pub hand : ℕ

abbrev pub is_evicting : SlotState → Bool
is_evicting (Evicting key tag) = true
is_evicting _ = false

-- 1 where the slot is free, and else 0
abbrev pub free_in : SlotState → ℕ
free_in state = if is_free state then 1 else 0

-- how many slots are free
abbrev pub free_count : List SlotState → ℕ
free_count [] = 0
free_count (state ∷ slots) = free_in state + free_count slots

abbrev pub with_slot : AdmissionView → ℕ → SlotState → AdmissionView
with_slot a i state = record a { slots = slice_set a.slots i state }

-- the slot is to be bound to the key under the next tag
abbrev pub admitted : AdmissionView → List ℕ → ℕ → AdmissionView
admitted a key i = record (with_slot a i (Admitting key a.next_tag)) { next_tag = a.next_tag + 1 }

-- the slot is in the state, with the key and the tag that it has
abbrev pub acked_slot : AdmissionView → ℕ → AdmissionView
acked_slot a i = with_slot a i (Held (key_in (state_at a.slots i)) (tag_in (state_at a.slots i)))

abbrev pub evicting_slot : AdmissionView → ℕ → AdmissionView
evicting_slot a i = with_slot a i (Evicting (key_in (state_at a.slots i)) (tag_in (state_at a.slots i)))

-- an admitting slot with that tag is held
abbrev pub acked : AdmissionView → ℕ → ℕ → AdmissionView
acked a i tag = if is_admitting tag (state_at a.slots i) then acked_slot a i else a

-- the hand stands after the victim
abbrev pub passed : AdmissionView → Option ℕ → AdmissionView
passed a None = a
passed a (Some i) = record a { hand = hand_after i a.slots }

abbrev pub emptied : AdmissionView → AdmissionView
emptied a = record a { slots = replicate (length a.slots) Free; hand = 0 }

abbrev pub first_of : Option (ℕ × ℕ) → Option ℕ
first_of None = None
first_of (Some pair) = Some pair.0

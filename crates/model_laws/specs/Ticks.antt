-- The cases of a tick.
use Rattle.std.specs.Prelude.{
  ◌≡◌,
  ◌≢◌,
  ◌⊎◌,
  ℕ,
  ◌+◌,
  ◌<◌,
  ◌≤◌,
  Bool,
  true,
  false,
  nat_le,
  if◌then◌else◌,
  List,
  [],
  ◌∷◌,
  length,
  slice_get,
  None,
  Some,
}
use Rattle.far_base.specs.declared.slot_state.SlotState.{SlotState}
use Rattle.far_model.specs.Controller.{ControllerState}
use Rattle.far_model.specs.Evictions.{has_key, is_free, is_held}
use Rattle.far_model.specs.Members.{Among}

-- the first place of a list that passes a test
pub record IsFirst {X : Type 0} (test : X → Bool) (xs : List X) (i : ℕ) : Type 0 where
  pub there : X
  pub at : slice_get xs i ≡ Some there
  pub passes : test there ≡ true
  pub before : (j : ℕ) (x : X) → j < i → slice_get xs j ≡ Some x → test x ≡ false

-- nothing of the list passes
abbrev pub NonePasses : {X : Type 0} → (X → Bool) → List X → Type 0
NonePasses test xs = (x : _) → Among x xs → test x ≡ false

-- the turn at which place i comes, going round from the hand: the places from the hand on come first
abbrev pub turn_from : ℕ → ℕ → ℕ → ℕ
turn_from hand length i = if nat_le hand i then i else length + i

-- the held slot that comes first, going round from the hand
pub record IsVictim (hand : ℕ) (slots : List SlotState) (i : ℕ) : Type 0 where
  pub there : SlotState
  pub at : slice_get slots i ≡ Some there
  pub held : is_held there ≡ true
  pub first : (j : ℕ) (other : SlotState) → slice_get slots j ≡ Some other → is_held other ≡ true
      → turn_from hand (length slots) i ≤ turn_from hand (length slots) j

-- this is the first want, and no round is under way
pub record HasWant (c : ControllerState) (key : List ℕ) : Type 0 where
  pub free_of_round : c.round ≡ None
  pub later : List (List ℕ)
  pub first : c.wants ≡ key ∷ later

-- the first want can neither be dropped nor get a slot
pub record IsHindered (c : ControllerState) : Type 0 where
  pub key : List ℕ
  pub want : HasWant c key
  pub without : NonePasses (has_key key) c.slots
  pub full : NonePasses is_free c.slots
  pub waits : (c.eviction ≢ None) ⊎ NonePasses is_held c.slots

-- a tick has nothing to do
abbrev pub HasNoTick : ControllerState → Type 0
HasNoTick c = (c.round ≢ None) ⊎ ((c.wants ≡ []) ⊎ IsHindered c)

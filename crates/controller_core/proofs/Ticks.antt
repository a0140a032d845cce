-- What a tick does.
use Rattle.std.proofs.Common.{◌≡◌, ℕ, Bool, true, false, cond, not, ◌||◌, ◌&&◌, List, [], ◌∷◌, refl, sym, ap, ◌∙◌}
use Rattle.std.specs.Prelude.{Option, None, Some, is_some}
use Rattle.std.proofs.lemmas.Option.{none-some, same_Some}
use Rattle.far_model.specs.Controller.{ControllerState, tick, tick_wants, tick_want, tick_free, tick_room, makes_room, admits_want, first_want_dropped}
use Rattle.far_model.specs.Evictions.{first_place, is_free, has_key, victim}
use Rattle.far_model.specs.Parties.{Turn, idle}
use Rattle.controller_core.specs.Wants.{first_want}

pub room_is : (c : ControllerState) (o : Option ℕ) → is_some (tick_room c o) ≡ (not (is_some c.eviction) && is_some o)
room_is c None = by (is_some c.eviction)
  where
    by : (b : Bool) → false ≡ (not b && false)
    by true = refl
    by false = refl
room_is c (Some i) = by (is_some c.eviction)
  where
    by : (b : Bool) → is_some (cond b None (Some (makes_room c i))) ≡ (not b && true)
    by true = refl
    by false = refl

free_is : (c : ControllerState) (key : List ℕ) (o : Option ℕ) → is_some (tick_free c key o) ≡ (is_some o || is_some (tick_room c (victim c.hand c.slots)))
free_is c key None = refl
free_is c key (Some i) = refl

want_is : (c : ControllerState) (key : List ℕ) (o : Option ℕ) → is_some (tick_want c key o) ≡ (is_some (first_place is_free c.slots) || (is_some (tick_room c (victim c.hand c.slots)) || is_some o))
want_is c key None = free_is c key (first_place is_free c.slots) ∙ by (is_some (first_place is_free c.slots)) (is_some (tick_room c (victim c.hand c.slots)))
  where
    by : (a b : Bool) → (a || b) ≡ (a || (b || false))
    by true b = refl
    by false true = refl
    by false false = refl
want_is c key (Some i) = by (is_some (first_place is_free c.slots)) (is_some (tick_room c (victim c.hand c.slots)))
  where
    by : (a b : Bool) → true ≡ (a || (b || true))
    by true b = refl
    by false true = refl
    by false false = refl

-- the first want is the one that is served
wants_are : (c : ControllerState) (wants : List (List ℕ)) (key : List ℕ) → first_want wants ≡ Some key → tick_wants c wants ≡ tick_want c key (first_place (has_key key) c.slots)
wants_are c [] key h = absurd cc
wants_are c (k ∷ ks) key h = ap (λ (w : List ℕ). tick_want c w (first_place (has_key w) c.slots)) (same_Some k key h)

pub ready_is : (c : ControllerState) (key : List ℕ) → first_want c.wants ≡ Some key → is_some (tick c) ≡ (not (is_some c.round) && (is_some (first_place is_free c.slots) || (is_some (tick_room c (victim c.hand c.slots)) || is_some (first_place (has_key key) c.slots))))
ready_is c key h = by (is_some c.round)
  where
    by : (b : Bool) → is_some (cond b None (tick_wants c c.wants)) ≡ (not b && (is_some (first_place is_free c.slots) || (is_some (tick_room c (victim c.hand c.slots)) || is_some (first_place (has_key key) c.slots))))
    by true = refl
    by false = ap (λ (o : Option (Turn ControllerState)). is_some o) (wants_are c c.wants key h) ∙ want_is c key (first_place (has_key key) c.slots)

none_wanted : (c : ControllerState) (wants : List (List ℕ)) → first_want wants ≡ None → tick_wants c wants ≡ None
none_wanted c [] h = refl
none_wanted c (k ∷ ks) h = absurd cc

pub no_want : (c : ControllerState) → first_want c.wants ≡ None → tick c ≡ None
no_want c h = by (is_some c.round)
  where
    by : (b : Bool) → cond b None (tick_wants c c.wants) ≡ None
    by true = refl
    by false = none_wanted c c.wants h

pub not_ready : (c : ControllerState) → first_want c.wants ≡ None → is_some (tick c) ≡ false
not_ready c h = ap (λ (o : Option (Turn ControllerState)). is_some o) (no_want c h)

-- a tick that is ready has a want
pub want_there : (c : ControllerState) → is_some (tick c) ≡ true → first_want c.wants ≡ None → ⊥
want_there c h k = absurd (cc (not_ready c k, h))

pub tick_is : (c : ControllerState) (key : List ℕ) → is_some (tick c) ≡ true → first_want c.wants ≡ Some key → tick c ≡ tick_want c key (first_place (has_key key) c.slots)
tick_is c key t h = by (is_some c.round) t
  where
    by : (b : Bool) → is_some (cond b None (tick_wants c c.wants)) ≡ true → cond b None (tick_wants c c.wants) ≡ tick_want c key (first_place (has_key key) c.slots)
    by true k = absurd cc
    by false k = wants_are c c.wants key h

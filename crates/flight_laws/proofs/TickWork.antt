-- Ticks and the order to evict lower the work.
use Rattle.std.proofs.Common.{◌≡◌, ℕ, suc, ◌+◌, Bool, true, false, true≢false, cond, List, [], ◌∷◌, set, refl, sym, ap, subst, arith}
use Rattle.std.specs.Prelude.{Option, None, Some, is_some}
use Rattle.std.specs.List.{count_by}
use Rattle.far_base.specs.PlanView.{PlanView}
use Rattle.far_base.specs.declared.packet.Message.{Message}
use Rattle.far_base.specs.declared.slot_state.SlotState.TheVariants.{Free, Admitting, Held, Evicting}
use Rattle.far_model.specs.Controller.{ControllerState, admits_want, tick, tick_room, tick_free, tick_want, tick_wants, evict_held, evict_key, first_want_dropped}
use Rattle.far_model.specs.Evictions.{Eviction, first_place, has_key, holds_key, hand_after, is_free, is_held, state_at, victim}
use Rattle.far_base.specs.declared.slot_state.SlotState.{SlotState}
use Rattle.far_model.specs.Parties.{Turn, idle}
use Rattle.far_model.specs.Work.{is_for_want, wants_weight, room}
use Rattle.flight_laws.proofs.ControlWork.{ControlLowers, NoneOf, idle_turn, orders_lower, room_lowers, same_turn}
use Rattle.flight_laws.proofs.Places.{first_none, first_some, victim_held}
use Rattle.flight_laws.proofs.Weights.{free_count_less, wants_dropped}

module _ (plan : PlanView) (rest : List Message) where
  abbrev IfSome' : ControllerState → Option (Turn ControllerState) → Type 0
  IfSome' c None = Unit {0}
  IfSome' c (Some t) = ControlLowers plan c rest 0 t

  dropped_lowers : (c : ControllerState) (key : List ℕ) (keys : List (List ℕ)) → ControlLowers plan (record c { wants = key ∷ keys }) rest 0 (idle (first_want_dropped (record c { wants = key ∷ keys })))
  dropped_lowers c key keys = same_turn plan rest (record c { wants = key ∷ keys }) 0 _ refl (omega (arith, wants_dropped (room c) key keys)) refl

  admits_lower : (c : ControllerState) (key : List ℕ) (keys : List (List ℕ)) (i : ℕ) → first_place is_free c.slots ≡ Some i → ControlLowers plan (record c { wants = key ∷ keys }) rest 0 (admits_want (record c { wants = key ∷ keys }) key i)
  admits_lower c key keys i h =
      let f = first_some is_free c.slots i Free h in
      let less = free_count_less c.slots i (Admitting key c.next_tag) f.within f.passes refl in
      let n : ℕ = count_by is_free (set c.slots i (Admitting key c.next_tag)) in
      let b : ℕ = cond {A = ℕ} (is_for_want c.eviction) 1 0 in
      let before : wants_weight (count_by is_free c.slots + b) (key ∷ keys) ≡ wants_weight (suc (n + b)) (key ∷ keys) = (let e : count_by is_free c.slots + b ≡ suc (n + b) = omega (arith, less) in ap (λ r. wants_weight r (key ∷ keys)) e) in
      same_turn plan rest (record c { wants = key ∷ keys }) 0 _ refl (omega (arith, before)) refl

  room_tick : (c : ControllerState) (key : List ℕ) (keys : List (List ℕ)) (x : Option Eviction) (o : Option ℕ) → (x ≡ None → NoneOf plan rest c) → count_by is_free c.slots ≡ 0 → victim c.hand c.slots ≡ o
      → IfSome' (record c { eviction = x; wants = key ∷ keys }) (tick_room (record c { eviction = x; wants = key ∷ keys }) o)
  room_tick c key keys x None none full h = tt
  room_tick c key keys None (Some i) none full h = room_lowers plan rest c i (hand_after i c.slots) key keys (none refl) (victim_held c.hand c.slots i h) full
  room_tick c key keys (Some e) (Some i) none full h = tt

  free_tick : (c : ControllerState) (key : List ℕ) (keys : List (List ℕ)) (o : Option ℕ) → (c.eviction ≡ None → NoneOf plan rest c) → first_place is_free c.slots ≡ o → IfSome' (record c { wants = key ∷ keys }) (tick_free (record c { wants = key ∷ keys }) key o)
  free_tick c key keys (Some i) none h = admits_lower c key keys i h
  free_tick c key keys None none h = room_tick c key keys c.eviction (victim c.hand c.slots) none (first_none is_free c.slots h) refl

  want_tick : (c : ControllerState) (key : List ℕ) (keys : List (List ℕ)) (o : Option ℕ) → (c.eviction ≡ None → NoneOf plan rest c) → IfSome' (record c { wants = key ∷ keys }) (tick_want (record c { wants = key ∷ keys }) key o)
  want_tick c key keys (Some i) none = dropped_lowers c key keys
  want_tick c key keys None none = free_tick c key keys (first_place is_free c.slots) none refl

  wants_tick : (c : ControllerState) (wants : List (List ℕ)) → (c.eviction ≡ None → NoneOf plan rest c) → IfSome' (record c { wants = wants }) (tick_wants (record c { wants = wants }) wants)
  wants_tick c [] none = tt
  wants_tick c (key ∷ keys) none = want_tick c key keys (first_place (has_key key) c.slots) none

  if_tick : (c : ControllerState) → (c.eviction ≡ None → NoneOf plan rest c) → IfSome' c (tick c)
  if_tick c none = go (is_some c.round)
    where
      go : (b : Bool) → IfSome' c (cond b None (tick_wants c c.wants))
      go true = tt
      go false = wants_tick c c.wants none

  pub tick_lowers : (c : ControllerState) (t : Turn ControllerState) → (c.eviction ≡ None → NoneOf plan rest c) → tick c ≡ Some t → ControlLowers plan c rest 0 t
  tick_lowers c t none e = subst (IfSome' c) e (if_tick c none)

  pub holds_held : (key : List ℕ) (st : SlotState) → holds_key key st ≡ true → is_held st ≡ true
  holds_held key Free h = absurd (true≢false (sym h))
  holds_held key (Admitting other tag) h = absurd (true≢false (sym h))
  holds_held key (Held other tag) h = refl
  holds_held key (Evicting other tag) h = absurd (true≢false (sym h))

  evict_at : (c : ControllerState) (key : List ℕ) (o : Option ℕ) (x : Option Eviction) → x ≡ None → NoneOf plan rest c → first_place (holds_key key) c.slots ≡ o → ControlLowers plan (record c { eviction = x }) rest 15 (evict_held (record c { eviction = x }) o)
  evict_at c key None x none h e = idle_turn plan rest (record c { eviction = x }) 15 (omega arith)
  evict_at c key (Some i) None none h e = let f = first_some (holds_key key) c.slots i Free e in orders_lower plan rest c i h (holds_held key (state_at c.slots i) f.passes)
  evict_at c key (Some i) (Some x) none h e = absurd cc

  pub evict_lowers : (c : ControllerState) (key : List ℕ) → c.eviction ≡ None → NoneOf plan rest c → ControlLowers plan c rest 15 (evict_key key c)
  evict_lowers c key none h = evict_at c key (first_place (holds_key key) c.slots) c.eviction none h refl

-- The slots of a switch: whose a slot is, and what setting one changes.
use Rattle.far_invariants.specs.Numbers.{slot_if, entry}
use Rattle.far_invariants.proofs.Keys.{same_key_true}
use Rattle.std.proofs.Common.{◌≡◌, ◌≢◌, ℕ, zero, suc, ◌<◌, Bool, true, false, List, [], ◌∷◌, length, refl, sym, ap, ◌∙◌, subst, arith}
use Rattle.std.specs.Prelude.{Option, Some, None, ◌&&◌, if◌then◌else◌, get_or}
use Rattle.std.proofs.lemmas.Option.{same_Some}
use Rattle.std.proofs.lemmas.List.{get_or-set_same, get_or-set_other}
use Rattle.far_model.specs.Pass.{with_slot, with_taken}
use Rattle.far_model.specs.View.{SlotView, SwitchView, slot_at, is_key_there, next_place, bound_place, is_slot_of, entry_if, entry_place, held_record, empty_slot}

pub there_is : (key : List ℕ) (o : Option (List ℕ)) → is_key_there key o ≡ true → o ≡ Some key
there_is key None h = absurd cc
there_is key (Some other) h = ap Some (sym (same_key_true key other h))

-- the slot that a key is bound to has it
pub bound_there : (key : List ℕ) (bs : List (Option (List ℕ))) (i : ℕ) → bound_place key bs ≡ Some i → get_or bs i None ≡ Some key
bound_there key [] i h = absurd cc
bound_there key (b ∷ bs) i h = go (λ j e. bound_there key bs j e) (is_key_there key b) refl h
  where
    next : ((j : ℕ) → bound_place key bs ≡ Some j → get_or bs j None ≡ Some key) → (o : Option ℕ) → bound_place key bs ≡ o → next_place o ≡ Some i → get_or (b ∷ bs) i None ≡ Some key
    next f None e k = absurd cc
    next f (Some j) e k = subst (λ w. get_or (b ∷ bs) w None ≡ Some key) (same_Some _ _ k) (f j e)

    go : ((j : ℕ) → bound_place key bs ≡ Some j → get_or bs j None ≡ Some key) → (t : Bool) → is_key_there key b ≡ t → (if t then Some 0 else next_place (bound_place key bs)) ≡ Some i → get_or (b ∷ bs) i None ≡ Some key
    go f true e k = subst (λ w. get_or (b ∷ bs) w None ≡ Some key) (same_Some _ _ k) (there_is key b e)
    go f false e k = next f (bound_place key bs) refl k

pub bound_one : (a b : List ℕ) (bs : List (Option (List ℕ))) (i : ℕ) → bound_place a bs ≡ Some i → bound_place b bs ≡ Some i → a ≡ b
bound_one a b bs i h k = same_Some a b (sym (bound_there a bs i h) ∙ bound_there b bs i k)

pub both : (a b : Bool) → (a && b) ≡ true → (a ≡ true) × (b ≡ true)
both true b h = (refl, h)
both false b h = absurd cc

-- the entry of a key: it is bound there, and the slot is valid and has the key
pub record IsEntry (key : List ℕ) (v : SwitchView) (i : ℕ) : Type 0 where
  pub bound : bound_place key v.bound ≡ Some i
  pub owned : is_slot_of key (slot_at v i) ≡ true
  pub within : i < length v.slots

valid_within : (slots : List SlotView) (i : ℕ) → (get_or slots i empty_slot).valid ≡ true → i < length slots
valid_within [] i h = absurd cc
valid_within (x ∷ xs) zero h = omega arith
valid_within (x ∷ xs) (suc i) h = let k = valid_within xs i h in omega (arith, k)

pub entry_is : (key : List ℕ) (v : SwitchView) (i : ℕ) → entry_place key v ≡ Some i → IsEntry key v i
entry_is key v i h = go (bound_place key v.bound) refl h
  where
    fits : (j : ℕ) → bound_place key v.bound ≡ Some j → (t : Bool) → is_slot_of key (slot_at v j) ≡ t → (if t then Some j else None) ≡ Some i → IsEntry key v i
    fits j b true e k =
        let same = same_Some j i k in
        subst (λ w. IsEntry key v w) same (record { bound = b; owned = e; within = valid_within v.slots j (both _ _ e).0 })
    fits j b false e k = absurd cc

    go : (o : Option ℕ) → bound_place key v.bound ≡ o → entry_if key v o ≡ Some i → IsEntry key v i
    go None e k = absurd cc
    go (Some j) e k = fits j e (is_slot_of key (slot_at v j)) refl k

-- only slot i is set
pub record SetsSlot (v w : SwitchView) (i : ℕ) (slot : SlotView) : Type 0 where
  pub bound : w.bound ≡ v.bound
  pub config : w.config ≡ v.config
  pub counter : w.counter ≡ v.counter
  pub here : slot_at w i ≡ slot
  pub there : (j : ℕ) → j ≢ i → slot_at w j ≡ slot_at v j

pub with_slot_sets : (v : SwitchView) (i : ℕ) (slot : SlotView) → i < length v.slots → SetsSlot v (with_slot v i slot) i slot
with_slot_sets v i slot h = record {
  bound = refl;
  config = refl;
  counter = refl;
  here = get_or-set_same v.slots i slot empty_slot h;
  there = λ j n. get_or-set_other v.slots i j slot empty_slot n;
}

pub taken_sets : (v : SwitchView) (i : ℕ) (slot : SlotView) → i < length v.slots → SetsSlot v (with_taken (with_slot v i slot) i (held_record (slot_at v i))) i slot
taken_sets v i slot h = record {
  bound = refl;
  config = refl;
  counter = refl;
  here = get_or-set_same v.slots i slot empty_slot h;
  there = λ j n. get_or-set_other v.slots i j slot empty_slot n;
}

place_of_fit : (key : List ℕ) (v : SwitchView) (i : ℕ) → bound_place key v.bound ≡ Some i → is_slot_of key (slot_at v i) ≡ true → entry_place key v ≡ Some i
place_of_fit key v i b o = rw (b, o) refl

-- the entry of the key that the slot is of is the new slot
pub entry_set : (key : List ℕ) (v w : SwitchView) (i : ℕ) (slot : SlotView) → SetsSlot v w i slot → IsEntry key v i → is_slot_of key slot ≡ true → entry key w ≡ Some slot
entry_set key v w i slot h k o =
    let p : entry_place key w ≡ Some i = place_of_fit key w i (ap (λ b. bound_place key b) h.bound ∙ k.bound) (ap (is_slot_of key) h.here ∙ o) in
    ap (slot_if w) p ∙ ap Some h.here

-- and no other key has another entry than before
pub entry_kept : (other key : List ℕ) (v w : SwitchView) (i : ℕ) (slot : SlotView) → SetsSlot v w i slot → IsEntry key v i → other ≢ key → entry other w ≡ entry other v
entry_kept other key v w i slot h k ne = ap (λ b. slot_if w (entry_if other w (bound_place other b))) h.bound ∙ go (bound_place other v.bound) refl
  where
    fits : (j : ℕ) → j ≢ i → slot_if w (entry_if other w (Some j)) ≡ slot_if v (entry_if other v (Some j))
    fits j n = pick (is_slot_of other (slot_at w j)) (is_slot_of other (slot_at v j)) (ap (is_slot_of other) (h.there j n))
      where
        pick : (a b : Bool) → a ≡ b → slot_if w (if a then Some j else None) ≡ slot_if v (if b then Some j else None)
        pick true true e = ap Some (h.there j n)
        pick true false e = absurd cc
        pick false true e = absurd cc
        pick false false e = refl

    go : (o : Option ℕ) → bound_place other v.bound ≡ o → slot_if w (entry_if other w o) ≡ slot_if v (entry_if other v o)
    go None e = refl
    go (Some j) e = fits j (λ same. ne (bound_one other key v.bound i (e ∙ ap Some same) k.bound))

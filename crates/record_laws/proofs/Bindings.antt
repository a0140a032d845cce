-- A key is bound to a slot.
use Rattle.far_invariants.specs.Numbers.{slot_if, entry}
use Rattle.far_invariants.proofs.Keys.{same_key_refl, same_key_false}
use Rattle.std.proofs.Common.{◌≡◌, ◌≢◌, ℕ, zero, suc, ◌<◌, Bool, true, false, List, [], ◌∷◌, length, map, set, get_or, refl, sym, ap, ◌∙◌, arith}
use Rattle.std.specs.Prelude.{Option, Some, None, if◌then◌else◌}
use Rattle.std.proofs.lemmas.Option.{same_Some}
use Rattle.std.proofs.lemmas.List.{get_or-set_same, get_or-set_other}
use Rattle.far_model.specs.View.{SlotView, SwitchView, slot_at, empty_slot, is_key_there, next_place, bound_place, unbound, is_slot_of, entry_if, entry_place}
use Rattle.far_model.specs.Pass.{admits, admitted}
use Rattle.record_laws.proofs.Slots.{there_is, bound_there, both, IsEntry, entry_is}

pub length-map : {A B : Type 0} (f : A → B) (xs : List A) → length (map f xs) ≡ length xs
length-map f [] = refl
length-map f (x ∷ xs) = ap suc (length-map f xs)

-- no slot is bound to the key that was unbound, and other keys' are as they were
unbound_own : (key : List ℕ) (bs : List (Option (List ℕ))) → bound_place key (map (unbound key) bs) ≡ None
unbound_own key [] = refl
unbound_own key (b ∷ bs) = go (unbound_own key bs) (is_key_there key b) refl
  where
    go : bound_place key (map (unbound key) bs) ≡ None → (t : Bool) → is_key_there key b ≡ t → (if is_key_there key (if t then None else b) then Some 0 else next_place (bound_place key (map (unbound key) bs))) ≡ None
    go h true e = ap next_place h
    go h false e = ap (λ t. if t then Some 0 else next_place (bound_place key (map (unbound key) bs))) e ∙ ap next_place h

unbound_other : (other key : List ℕ) (bs : List (Option (List ℕ))) → other ≢ key → bound_place other (map (unbound key) bs) ≡ bound_place other bs
unbound_other other key [] ne = refl
unbound_other other key (b ∷ bs) ne = go (unbound_other other key bs ne) (is_key_there key b) refl
  where
    go : bound_place other (map (unbound key) bs) ≡ bound_place other bs → (t : Bool) → is_key_there key b ≡ t
        → (if is_key_there other (if t then None else b) then Some 0 else next_place (bound_place other (map (unbound key) bs))) ≡ bound_place other (b ∷ bs)
    go h true e =
        let off : is_key_there other b ≡ false = ap (is_key_there other) (there_is key b e) ∙ same_key_false other key ne in
        ap next_place h ∙ sym (ap (λ t. if t then Some 0 else next_place (bound_place other bs)) off)
    go h false e = ap (λ n. if is_key_there other b then Some 0 else next_place n) h

-- what a list says of its first
first_off : (key : List ℕ) (b : Option (List ℕ)) (bs : List (Option (List ℕ))) → bound_place key (b ∷ bs) ≡ None → (is_key_there key b ≡ false) × (bound_place key bs ≡ None)
first_off key b bs h = go (is_key_there key b) refl h
  where
    rest : (o : Option ℕ) → bound_place key bs ≡ o → next_place o ≡ None → bound_place key bs ≡ None
    rest None e k = e
    rest (Some j) e k = absurd cc

    go : (t : Bool) → is_key_there key b ≡ t → (if t then Some 0 else next_place (bound_place key bs)) ≡ None → (is_key_there key b ≡ false) × (bound_place key bs ≡ None)
    go true e k = absurd cc
    go false e k = (e, rest (bound_place key bs) refl k)

set_own : (key : List ℕ) (bs : List (Option (List ℕ))) (i : ℕ) → i < length bs → bound_place key bs ≡ None → bound_place key (set bs i (Some key)) ≡ Some i
set_own key [] i b h = absurd (omega (arith, b))
set_own key (x ∷ xs) zero b h = ap (λ t. if t then Some 0 else next_place (bound_place key xs)) (same_key_refl key)
set_own key (x ∷ xs) (suc i) b h =
    let f = first_off key x xs h in
    ap (λ t. if t then Some 0 else next_place (bound_place key (set xs i (Some key)))) f.0 ∙ ap next_place (set_own key xs i (omega (arith, b)) f.1)

set_other : (other key : List ℕ) (bs : List (Option (List ℕ))) (i j : ℕ) → other ≢ key → bound_place other bs ≡ Some j → j ≢ i → bound_place other (set bs i (Some key)) ≡ Some j
set_other other key [] zero j ne h apart = h
set_other other key [] (suc i) j ne h apart = h
set_other other key (x ∷ xs) zero j ne h apart = go (is_key_there other x) refl h
  where
    go : (t : Bool) → is_key_there other x ≡ t → (if t then Some 0 else next_place (bound_place other xs)) ≡ Some j → bound_place other (Some key ∷ xs) ≡ Some j
    go true e k = absurd (apart (sym (same_Some 0 j k)))
    go false e k = ap (λ t. if t then Some 0 else next_place (bound_place other xs)) (same_key_false other key ne) ∙ k
set_other other key (x ∷ xs) (suc i) j ne h apart = go (λ n k a. set_other other key xs i n ne k a) (is_key_there other x) refl h
  where
    later : ((n : ℕ) → bound_place other xs ≡ Some n → n ≢ i → bound_place other (set xs i (Some key)) ≡ Some n) → (o : Option ℕ) → bound_place other xs ≡ o → next_place o ≡ Some j → next_place (bound_place other (set xs i (Some key))) ≡ Some j
    later f None e k = absurd cc
    later f (Some n) e k = ap next_place (f n e (λ same. apart (sym (same_Some (suc n) j k) ∙ ap suc same))) ∙ k

    go : ((n : ℕ) → bound_place other xs ≡ Some n → n ≢ i → bound_place other (set xs i (Some key)) ≡ Some n) → (t : Bool) → is_key_there other x ≡ t
        → (if t then Some 0 else next_place (bound_place other xs)) ≡ Some j → bound_place other (x ∷ set xs i (Some key)) ≡ Some j
    go f true e k = ap (λ t. if t then Some 0 else next_place (bound_place other (set xs i (Some key)))) e ∙ k
    go f false e k = ap (λ t. if t then Some 0 else next_place (bound_place other (set xs i (Some key)))) e ∙ later f (bound_place other xs) refl k

-- ---- a slot that is not valid is admitted

abbrev pub new_slot : List ℕ → ℕ → SlotView
new_slot key tag = record { key = Some key; tag = tag; valid = true; latest = false; num = 0; body = None }

module _ (v : SwitchView) (i : ℕ) (key : List ℕ) (tag : ℕ) (bound_within : i < length v.bound) (within : i < length v.slots) (free : (slot_at v i).valid ≡ false) where
  abbrev pub admit_view : SwitchView
  admit_view = (admits v i key tag).view

  pub view_here : slot_at admit_view i ≡ new_slot key tag
  view_here = get_or-set_same v.slots i (admitted key tag (slot_at v i)) empty_slot within ∙ ap (λ b. if b then slot_at v i else new_slot key tag) free

  pub view_there : (j : ℕ) → j ≢ i → slot_at admit_view j ≡ slot_at v j
  view_there j ne = get_or-set_other v.slots i j (admitted key tag (slot_at v i)) empty_slot ne

  pub place_here : entry_place key admit_view ≡ Some i
  place_here =
      let bound : bound_place key admit_view.bound ≡ Some i = set_own key (map (unbound key) v.bound) i (let e = length-map (unbound key) v.bound in omega (arith, e, bound_within)) (unbound_own key v.bound) in
      ap (entry_if key admit_view) bound ∙ ap (λ t. if t then Some i else None) (ap (is_slot_of key) view_here ∙ same_key_refl key)

  pub entry_here : entry key admit_view ≡ Some (new_slot key tag)
  entry_here = ap (slot_if admit_view) place_here ∙ ap Some view_here

  -- the entry of another key stays
  pub place_stays : (other : List ℕ) (j : ℕ) → other ≢ key → entry_place other v ≡ Some j → (entry_place other admit_view ≡ Some j) × (j ≢ i)
  place_stays other j ne e =
      let is : IsEntry other v j = entry_is other v j e in
      let apart : j ≢ i = (λ same. let valid = (both (slot_at v j).valid _ is.owned).0 in let off = ap (λ n. (slot_at v n).valid) same ∙ free in let clash : true ≡ false = sym valid ∙ off in cc) in
      let bound : bound_place other admit_view.bound ≡ Some j = set_other other key (map (unbound key) v.bound) i j ne (unbound_other other key v.bound ne ∙ is.bound) apart in
      (ap (entry_if other admit_view) bound ∙ ap (λ t. if t then Some j else None) (ap (is_slot_of other) (view_there j apart) ∙ is.owned), apart)

  pub entry_there : (other : List ℕ) → other ≢ key → ((j : ℕ) → (slot_at v j).valid ≡ true → (slot_at v j).key ≡ Some other → entry_place other v ≡ Some j) → entry other admit_view ≡ entry other v
  entry_there other ne owned = go (entry_place other v) refl
    where
      none : (o : Option ℕ) → entry_place other v ≡ None → entry_place other admit_view ≡ o → slot_if admit_view o ≡ None
      none None e f = refl
      none (Some j) e f =
          let is : IsEntry other admit_view j = entry_is other admit_view j f in
          let apart : j ≢ i = (λ same. ne (
          let here : get_or admit_view.bound j None ≡ Some other = bound_there other admit_view.bound j is.bound in
          let at : get_or admit_view.bound i None ≡ Some key = get_or-set_same (map (unbound key) v.bound) i (Some key) None (let e = length-map (unbound key) v.bound in omega (arith, e, bound_within)) in
          same_Some other key (sym here ∙ ap (λ n. get_or admit_view.bound n None) same ∙ at))) in
          let parts = both (slot_at admit_view j).valid _ is.owned in
          let valid = sym (ap (λ (w : SlotView). w.valid) (view_there j apart)) ∙ parts.0 in
          let key_is = sym (ap (λ (w : SlotView). w.key) (view_there j apart)) ∙ there_is other (slot_at admit_view j).key parts.1 in
          let clash : None ≡ Some j = sym e ∙ owned j valid key_is in absurd cc

      go : (o : Option ℕ) → entry_place other v ≡ o → entry other admit_view ≡ slot_if v o
      go None e = none (entry_place other admit_view) e refl
      go (Some j) e = let p = place_stays other j ne e in ap (slot_if admit_view) p.0 ∙ ap Some (view_there j p.1)

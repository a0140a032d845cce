-- The events that picks choose.
use Rattle.std.proofs.Common.{◌≡◌, ℕ, zero, suc, ◌≤◌, Bool, true, false, List, [], ◌∷◌, length, refl, sym, ap, ◌∙◌, subst, arith, true≢false}
use Rattle.std.specs.Prelude.{if◌then◌else◌}
use Rattle.far_base.specs.PlanView.{PlanView}
use Rattle.far_base.specs.declared.event.Event.{Event}
use Rattle.far_model.specs.Events.{happens}
use Rattle.far_model.specs.Runs.{IsPickedFrom, is_quiet, listed_pick, next_event, picked_events, picks_after, run}
use Rattle.far_model.specs.State.{State}

module _ (plan : PlanView) where
  pub picked_one : (pick : ℕ → ℕ) (n : ℕ) (s : State) (a b : List Event) → IsPickedFrom plan pick n s a → IsPickedFrom plan pick n s b → a ≡ b
  picked_one pick n s [] [] h k = refl
  picked_one pick n s [] (e ∷ es) h k = absurd (true≢false (sym h ∙ k.0))
  picked_one pick n s (e ∷ es) [] h k = absurd (true≢false (sym k ∙ h.0))
  picked_one pick n s (e ∷ es) (f ∷ fs) h k =
      let same : f ≡ e = k.1 ∙ sym h.1 in
      let rest : IsPickedFrom plan pick (picks_after plan s n) (happens plan s e) fs = subst (λ w. IsPickedFrom plan pick (picks_after plan s n) (happens plan s w) fs) same k.2 in
      let tail : es ≡ fs = picked_one pick (picks_after plan s n) (happens plan s e) es fs h.2 rest in
      λ i. sym same i ∷ tail i

  module _ (picks : List ℕ) where
    -- what one more step chooses
    abbrev chosen : ℕ → ℕ → State → List Event
    chosen most n s = next_event plan s (listed_pick picks n) ∷ picked_events plan most picks (picks_after plan s n) (happens plan s (next_event plan s (listed_pick picks n)))

    pub picked_enough : (most n : ℕ) (s : State) (events : List Event) → IsPickedFrom plan (listed_pick picks) n s events → length events ≤ most → picked_events plan most picks n s ≡ events
    picked_enough zero n s [] h l = refl
    picked_enough zero n s (e ∷ es) h l = absurd (omega arith)
    picked_enough (suc most) n s [] h l = subst (λ b. (if b then [] else chosen most n s) ≡ []) (sym h) refl
    picked_enough (suc most) n s (e ∷ es) h l =
        let rest : picked_events plan most picks (picks_after plan s n) (happens plan s e) ≡ es = picked_enough most (picks_after plan s n) (happens plan s e) es h.2 (omega arith) in
        let here : chosen most n s ≡ e ∷ es = subst (λ w. w ∷ picked_events plan most picks (picks_after plan s n) (happens plan s w) ≡ e ∷ es) h.1 (ap (λ xs. e ∷ xs) rest) in
        subst (λ b. (if b then [] else chosen most n s) ≡ e ∷ es) (sym h.0) here

    pub picked_quiet : (most n : ℕ) (s : State) → is_quiet plan (run plan s (picked_events plan most picks n s)) ≡ true → IsPickedFrom plan (listed_pick picks) n s (picked_events plan most picks n s)
    picked_quiet zero n s h = h
    picked_quiet (suc most) n s h = go (λ m t k. picked_quiet most m t k) (is_quiet plan s) refl h
      where
        go : ((m : ℕ) (t : State) → is_quiet plan (run plan t (picked_events plan most picks m t)) ≡ true → IsPickedFrom plan (listed_pick picks) m t (picked_events plan most picks m t)) → (b : Bool) → is_quiet plan s ≡ b → is_quiet plan (run plan s (if b then [] else chosen most n s)) ≡ true → IsPickedFrom plan (listed_pick picks) n s (if b then [] else chosen most n s)
        go f true e k = e
        go f false e k = (e, refl, f (picks_after plan s n) (happens plan s (next_event plan s (listed_pick picks n))) k)

    pub picked_within : (most n : ℕ) (s : State) → length (picked_events plan most picks n s) ≤ most
    picked_within zero n s = omega arith
    picked_within (suc most) n s = go (λ m t. picked_within most m t) (is_quiet plan s)
      where
        go : ((m : ℕ) (t : State) → length (picked_events plan most picks m t) ≤ most) → (b : Bool) → length (if b then [] else chosen most n s) ≤ suc most
        go f true = omega arith
        go f false = omega (arith, f (picks_after plan s n) (happens plan s (next_event plan s (listed_pick picks n))))

-- What is gathered along a run was made by one of its events.
use Rattle.std.proofs.Common.{◌≡◌, List, [], ◌∷◌, ◌++◌, ◌⊎◌, inl, inr, refl, ap, subst}
use Rattle.far_base.specs.PlanView.{PlanView}
use Rattle.far_base.specs.declared.event.Event.{Event}
use Rattle.far_model.proofs.Members.{among_append}
use Rattle.far_model.specs.Events.{happens}
use Rattle.far_model.specs.Members.{Among}
use Rattle.far_invariants.specs.Past.{Past, SnapshotStart, new_starts, past_from, remembers, no_past, past_of}
use Rattle.far_model.specs.State.{State, opening}
use Rattle.far_invariants.specs.Remembered.{WasMadeBy}

module _ {X : Type 0} (made_by : State → Event → List X) (kept : Past → List X) (grows : (s : State) (p : Past) (e : Event) → kept (remembers s p e) ≡ kept p ++ made_by s e) where
  -- it was remembered before, or one of the events made it
  pub remembered_from : (plan : PlanView) (s : State) (p : Past) (events : List Event) (x : X) → Among x (kept (past_from plan s p events)) → Among x (kept p) ⊎ WasMadeBy made_by plan s events x
  remembered_from plan s p [] x h = inl h
  remembered_from plan s p (e ∷ es) x h = elim (remembered_from plan (happens plan s e) (remembers s p e) es x h) [
    | inl old ↦ elim (among_append x (kept p) (made_by s e) (subst (λ (l : List X). Among x l) (grows s p e) old)) [
      | inl before ↦ inl before
      | inr here ↦ inr (record { earlier = []; event = e; later = es; split = refl; made = here })
    ]
    | inr m ↦ inr (record { earlier = e ∷ m.earlier; event = m.event; later = m.later; split = ap (λ (l : List Event). e ∷ l) m.split; made = m.made })
  ]

  pub remembered : (plan : PlanView) (events : List Event) (x : X) → kept no_past ≡ [] → Among x (kept (past_of plan events)) → WasMadeBy made_by plan (opening plan) events x
  remembered plan events x none h = elim (remembered_from plan (opening plan) no_past events x h) [
    | inl old ↦ absurd (subst (λ (l : List X). Among x l) none old)
    | inr m ↦ m
  ]

-- a start that is remembered was made by one of the events
pub starts_made : (plan : PlanView) (events : List Event) (x : SnapshotStart) → Among x (past_of plan events).starts
    → WasMadeBy new_starts plan (opening plan) events x
starts_made plan events x h = remembered new_starts (λ p. p.starts) (λ s p e. refl) plan events x refl h

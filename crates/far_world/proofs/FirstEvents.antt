-- The first event of a party.
use Rattle.std.proofs.Common.{◌≡◌, ℕ, suc, ◌+◌, ◌<◌, ◌≤◌, inl, inr, Bool, true, false, ◌&&◌, List, [], ◌∷◌, length, get_or, drop, refl, sym, ap, ◌∙◌, subst, cond, Some, None, arith, drop-cons}
use Rattle.std.proofs.Math.ListN.{drop_of_length-le}
use Rattle.std.proofs.lemmas.Option.{same_Some}
use Rattle.std.specs.List.{filter}
use Rattle.std.specs.Prelude.{Option, nat_eq}
use Rattle.far_base.specs.PlanView.{PlanView}
use Rattle.far_base.specs.declared.event.Event.{Event}
use Rattle.far_base.specs.declared.event.Event.TheVariants.{Tick, Order as OrderOf}
use Rattle.far_base.specs.declared.party.Party.{Party}
use Rattle.far_base.specs.declared.party.Party.TheVariants.{Controller}
use Rattle.far_model.specs.Choosing.{choices_of, event_party, first_event, first_of, same_party}
use Rattle.far_model.specs.Events.{choices, is_enabled, is_order_enabled}
use Rattle.far_model.specs.Members.{Among}
use Rattle.far_model.specs.State.{State}
use Rattle.far_world.proofs.Choosing.{choice_enabled}

pub filter_cons : (p : Event → Bool) (x : Event) (xs : List Event) → filter p (x ∷ xs) ≡ cond (p x) (x ∷ filter p xs) (filter p xs)
filter_cons p x xs = refl

among_filter : (p : Event → Bool) (e : Event) (xs : List Event) → first_of (filter p xs) ≡ Some e → Among e xs
among_filter p e [] h = absurd cc
among_filter p e (x ∷ xs) h = go (p x) (among_filter p e xs) (subst (λ (ys : List Event). first_of ys ≡ Some e) (filter_cons p x xs) h)
  where
    go : (b : Bool) → (first_of (filter p xs) ≡ Some e → Among e xs) → first_of (cond b (x ∷ filter p xs) (filter p xs)) ≡ Some e → Among e (x ∷ xs)
    go true more k = inl (sym (same_Some _ _ k))
    go false more k = inr (more k)

-- it can happen
pub first_enabled : (plan : PlanView) (s : State) (who : Party) (e : Event) → first_event plan s who ≡ Some e → is_enabled plan s e ≡ true
first_enabled plan s who e h = go (same_party Controller who) (is_order_enabled plan s) refl h
  where
    order : is_order_enabled plan s ≡ true → OrderOf s.done ≡ e → is_enabled plan s e ≡ true
    order able is = let n : nat_eq s.done s.done ≡ true = grind arith in rw (← is, n, able) refl

    choice : first_of (choices_of s who) ≡ Some e → is_enabled plan s e ≡ true
    choice k = choice_enabled plan s e (among_filter (λ x. same_party (event_party s x) who) e (choices s) k)

    go : (own b : Bool) → is_order_enabled plan s ≡ b → cond (own && b) (Some (OrderOf s.done)) (first_of (choices_of s who)) ≡ Some e → is_enabled plan s e ≡ true
    go true true able k = order able (same_Some _ _ k)
    go true false able k = choice k
    go false b able k = choice k

-- What an eviction waits for.
use Rattle.std.proofs.Common.{◌≡◌, ℕ, Bool, true, false, ◌&&◌, nat_eq, refl}
use Rattle.far_base.specs.declared.slot_state.Due.{Due}
use Rattle.far_base.specs.declared.slot_state.Due.TheVariants.{Peeked, Stored, Removed, Over}
use Rattle.far_model.specs.Evictions.{is_due, waits_for}
use Rattle.far_model.specs.Evictions as model

due_is : (a b : Due) (rest : Bool) → (is_due a b && rest) ≡ true → a ≡ b
due_is Peeked Peeked rest h = refl
due_is Stored Stored rest h = refl
due_is Removed Removed rest h = refl
due_is Over Over rest h = refl
due_is Peeked Stored rest h = absurd cc
due_is Peeked Removed rest h = absurd cc
due_is Peeked Over rest h = absurd cc
due_is Stored Peeked rest h = absurd cc
due_is Stored Removed rest h = absurd cc
due_is Stored Over rest h = absurd cc
due_is Removed Peeked rest h = absurd cc
due_is Removed Stored rest h = absurd cc
due_is Removed Over rest h = absurd cc
due_is Over Peeked rest h = absurd cc
due_is Over Stored rest h = absurd cc
due_is Over Removed rest h = absurd cc

pub waits_due : (due : Due) (slot tag : ℕ) (e : model.Eviction) → waits_for due slot tag e ≡ true → e.due ≡ due
waits_due due slot tag e h = due_is e.due due (nat_eq e.slot slot && nat_eq e.tag tag) h

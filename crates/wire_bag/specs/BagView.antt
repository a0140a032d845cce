-- The messages on their way as contracts see them.
use Rattle.std.specs.Prelude.{ℕ, Bool, eqb, false, true, not, List, map, take}
use Rattle.std.specs.List.{list_all}
use Rattle.std.specs.Global.{Box}
use Rattle.far_base.specs.declared.party.Party.{Party}
use Rattle.far_base.specs.declared.party.Party.TheVariants.{Client, Switch, Server, Controller}

-- sender, addressee and bytes
abbrev pub Message : Type 0
Message = Party × Party × List ℕ

-- the messages, oldest first, and for how many more there is room
pub record BagView : Type 0 where
  pub messages : List Message
  pub spare : ℕ

-- whether two parties are one
abbrev pub is_same : Party → Party → Bool
is_same (Client a) (Client b) = eqb a b
is_same Switch Switch = true
is_same (Server a) (Server b) = eqb a b
is_same Controller Controller = true
is_same _ _ = false

-- whether none of the messages is from the party
abbrev pub are_from_others : Party → List Message → Bool
are_from_others who messages = list_all (λ m. not (is_same m.0 who)) messages

-- what the first so many boxes hold
abbrev pub messages_of : ℕ → List (Box Message) → List Message
messages_of count boxes = map (λ b. b.value) (take count boxes)

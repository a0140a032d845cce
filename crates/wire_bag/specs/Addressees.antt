-- To whom messages go: how many go to the parties of each place, and which is the oldest to a party.
use Rattle.std.specs.Prelude.{◌≡◌, ℕ, suc, ◌+◌, ◌%◌, ◌<◌, Bool, nat_eq, if◌then◌else◌, List, [], ◌∷◌, slice_index, Option}
use Rattle.std.specs.Prelude.{None, Some}
use Rattle.std.specs.List.{count_by}
use Rattle.far_base.specs.declared.party.Party.{Party}
use Rattle.far_base.specs.declared.party.Party.TheVariants.{Client, Switch, Server, Controller}
use Rattle.wire_bag.specs.BagView.{Message, is_same}

-- the place of the first that passes, counted from i
abbrev pub first_by : {A : Type 0} → (A → Bool) → ℕ → List A → Option ℕ
first_by p i [] = None
first_by p i (x ∷ xs) = if p x then Some i else first_by p (suc i) xs

abbrev pub is_to : Party → Message → Bool
is_to who m = is_same m.1 who

-- the place of the oldest message to the party
abbrev pub oldest_to : Party → List Message → Option ℕ
oldest_to who messages = first_by (is_to who) 0 messages

-- the place at which messages to a party are counted
abbrev pub place_of : Party → ℕ
place_of (Client n) = n % 64
place_of (Server n) = 64 + n % 32
place_of Switch = 96
place_of Controller = 97

abbrev pub is_at : ℕ → Message → Bool
is_at place m = nat_eq (place_of m.1) place

-- each count is that of the messages to the parties of its place
abbrev pub AreCounted : List ℕ → List Message → Type 0
AreCounted counts messages = (place : ℕ) → place < 98 → slice_index counts place ≡ count_by (is_at place) messages

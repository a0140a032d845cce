-- What a round waits for.
use Rattle.std.specs.Prelude.{ℕ, Bool, not, ◌&&◌, nat_lt, nat_eq, length, slice_index_or, is_some, None}
use Rattle.far_model.specs.Rounds.{Round, has_told, telling_at}

-- whether the client is there and has not told its total
abbrev pub waits_told : Round → ℕ → Bool
waits_told r caller = nat_lt caller (length r.told) && not (has_told (telling_at r caller))

-- whether a store is under way
abbrev pub waits_stored : Round → Bool
waits_stored r = not (nat_eq r.stores 0)

-- whether the tops were asked, and the server is there and has not answered
abbrev pub waits_top : Round → ℕ → Bool
waits_top r server = r.asked && (nat_lt server (length r.tops) && not (is_some (slice_index_or r.tops server None)))

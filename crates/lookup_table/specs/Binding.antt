-- What a new pair of a key and a slot does to a lookup table.
use Rattle.std.specs.Prelude.{ℕ, ◌+◌, ◌*◌, List, [], ◌∷◌, ◌++◌, length, remove, slice_set, slice_index_or, is_none}
use Rattle.std.specs.Prelude.{Option, None, Some}
use Rattle.std.specs.List.{position}
use Rattle.lookup_table.specs.Table.{LookupView, bucket_in, bucket_cells, key_at, is_of_bucket, place_of}
use Rattle.lookup_table.specs.declared.place.Place.{Place}
use Rattle.lookup_table.specs.declared.place.Place.TheVariants.{Cell, Overflow}

-- the first overflow pair of the bucket
abbrev pub spilled_of : ℕ → LookupView → Option ℕ
spilled_of bucket t = position (λ s. is_of_bucket bucket (length t.bound) (key_at t.bound s)) t.overflow

abbrev pub slot_at : Option ℕ → List ℕ → Option ℕ
slot_at None slots = None
slot_at (Some at) slots = Some (slice_index_or slots at 0)

-- the list closes up and keeps its order
abbrev pub closed_up : Option ℕ → List ℕ → List ℕ
closed_up None slots = slots
closed_up (Some at) slots = remove slots at

-- a freed cell takes the first overflow pair of its bucket, and the overflow list closes up
abbrev pub refilled : ℕ → Option ℕ → LookupView → LookupView
refilled cell spilled t = record t {
  cells = slice_set t.cells cell (slot_at spilled t.overflow);
  overflow =
      closed_up spilled t.overflow;
}

abbrev pub unkeyed : Option ℕ → LookupView → LookupView
unkeyed None t = t
unkeyed (Some slot) t = record t { bound = slice_set t.bound slot None }

abbrev pub refilled_in : ℕ → ℕ → LookupView → LookupView
refilled_in bucket cell t = refilled cell (spilled_of bucket t) t

-- the pair at this place is dropped
abbrev pub dropped_at : Option Place → LookupView → LookupView
dropped_at None t = t
dropped_at (Some (Cell bucket cell)) t =
    refilled_in bucket (4 * bucket + cell) (unkeyed (slice_index_or t.cells (4 * bucket + cell) None) t)
dropped_at (Some (Overflow at)) t =
    record t { bound = slice_set t.bound (slice_index_or t.overflow at 0) None; overflow = remove t.overflow at }

-- the pair with the key is dropped
abbrev pub without_key : List ℕ → LookupView → LookupView
without_key key t = dropped_at (place_of key t) t

abbrev pub without_key_of : Option (List ℕ) → LookupView → LookupView
without_key_of None t = t
without_key_of (Some key) t = without_key key t

-- the pair with the slot is dropped
abbrev pub without_slot : ℕ → LookupView → LookupView
without_slot slot t = without_key_of (key_at t.bound slot) t

abbrev pub put_in : ℕ → ℕ → Option ℕ → LookupView → LookupView
put_in bucket slot None t = record t { overflow = t.overflow ++ slot ∷ [] }
put_in bucket slot (Some cell) t = record t { cells = slice_set t.cells (4 * bucket + cell) (Some slot) }

-- a new pair goes into the lowest free cell of its bucket, or last into the overflow list
abbrev pub with_pair : List ℕ → ℕ → LookupView → LookupView
with_pair key slot t = let bucket = bucket_in (length t.bound) key in
    put_in bucket slot (position is_none (bucket_cells bucket t.cells)) (record t {
      bound = slice_set t.bound slot
          (Some key);
    })

-- the pairs with the key and with the slot are dropped, in this order, and the pair of both is added
abbrev pub with_binding : List ℕ → ℕ → LookupView → LookupView
with_binding key slot t = with_pair key slot (without_slot slot (without_key key t))

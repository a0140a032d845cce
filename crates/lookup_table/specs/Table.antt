-- What contracts see of a lookup table: buckets of four cells, and an overflow list.
use Rattle.std.specs.Prelude.{ℕ, ◌+◌, ◌*◌, ◌/◌, ◌%◌, Bool, false, nat_eq, List, [], take, drop, length, replicate}
use Rattle.std.specs.Prelude.{slice_index_or, sum, Option, None, Some}
use Rattle.std.specs.List.{position}
use Rattle.far_model.specs.View.{is_key_there}
use Rattle.lookup_table.specs.declared.place.Place.{Place}
use Rattle.lookup_table.specs.declared.place.Place.TheVariants.{Cell, Overflow}

-- per slot the key that is bound to it; the cells of all buckets, the first bucket's first, each with a slot or free;
-- and the slots for which their bucket had no cell
pub record LookupView : Type 0 where
  pub bound : List (Option (List ℕ))
  pub cells : List (Option ℕ)
  pub overflow : List ℕ

abbrev pub bucket_count : ℕ → ℕ
bucket_count slots = (slots + 3) / 4

-- a table of so many slots with no pairs
abbrev pub no_pairs : ℕ → LookupView
no_pairs slots = record { bound = replicate slots None; cells = replicate (4 * bucket_count slots) None; overflow = [] }

-- the bucket of a key in a table of so many slots
abbrev pub bucket_in : ℕ → List ℕ → ℕ
bucket_in slots key = sum key % bucket_count slots

abbrev pub bucket_cells : ℕ → List (Option ℕ) → List (Option ℕ)
bucket_cells bucket cells = take 4 (drop (4 * bucket) cells)

abbrev pub key_at : List (Option (List ℕ)) → ℕ → Option (List ℕ)
key_at bound slot = slice_index_or bound slot None

abbrev pub is_of_bucket : ℕ → ℕ → Option (List ℕ) → Bool
is_of_bucket bucket slots None = false
is_of_bucket bucket slots (Some key) = nat_eq (bucket_in slots key) bucket

-- whether the cell has the slot of the key
abbrev pub has_key : List ℕ → List (Option (List ℕ)) → Option ℕ → Bool
has_key key bound None = false
has_key key bound (Some slot) = is_key_there key (key_at bound slot)

abbrev pub cell_with : List ℕ → LookupView → Option ℕ
cell_with key t = position (has_key key t.bound) (bucket_cells (bucket_in (length t.bound) key) t.cells)

abbrev pub overflow_with : List ℕ → LookupView → Option ℕ
overflow_with key t = position (λ s. is_key_there key (key_at t.bound s)) t.overflow

abbrev pub in_overflow : Option ℕ → Option Place
in_overflow None = None
in_overflow (Some at) = Some (Overflow at)

abbrev pub cell_or_overflow : ℕ → Option ℕ → Option ℕ → Option Place
cell_or_overflow bucket None overflow = in_overflow overflow
cell_or_overflow bucket (Some cell) overflow = Some (Cell bucket cell)

-- where the pair of a key stands: in its bucket, or else in the overflow list
abbrev pub place_of : List ℕ → LookupView → Option Place
place_of key t = cell_or_overflow (bucket_in (length t.bound) key) (cell_with key t) (overflow_with key t)

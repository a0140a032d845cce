-- Which lookup tables can be.
use Rattle.std.specs.Prelude.{◌≡◌, ℕ, ◌+◌, ◌*◌, ◌/◌, ◌^◌, ◌<◌, Bool, false, eqb, is_some, List, length, slice_index_or}
use Rattle.std.specs.Prelude.{slice_get, count_by, Option, None, Some, IsSome}
use Rattle.lookup_table.specs.declared.place.Place.{Place}
use Rattle.lookup_table.specs.declared.place.Place.TheVariants.{Cell, Overflow}
use Rattle.lookup_table.specs.Table.{LookupView, bucket_count, bucket_in, key_at, place_of}

abbrev pub is_slot : ℕ → Option ℕ → Bool
is_slot slot None = false
is_slot slot (Some other) = eqb slot other

-- how often the slot stands in the cells and in the overflow list
abbrev pub copies : ℕ → LookupView → ℕ
copies slot t = count_by (is_slot slot) t.cells + count_by (eqb slot) t.overflow

abbrev pub times : Option (List ℕ) → ℕ
times None = 0
times (Some key) = 1

-- a table in which no key stands twice; a slot stands once where it has a key and else not at all; a slot in a cell has
-- a key of that bucket; and no slot in the overflow list has a key of a bucket with a free cell
pub record IsSound (t : LookupView) : Type 0 where
  pub few : length t.bound < 2 ^ 32
  pub size : length t.cells ≡ 4 * bucket_count (length t.bound)
  pub apart : (i j : ℕ) (key : List ℕ) → key_at t.bound i ≡ Some key → key_at t.bound j ≡ Some key → i ≡ j
  pub once : (slot : ℕ) → copies slot t ≡ times (key_at t.bound slot)
  pub housed : (c slot : ℕ) (key : List ℕ) → slice_index_or t.cells c None ≡ Some slot → key_at t.bound slot
      ≡ Some key → bucket_in (length t.bound) key ≡ c / 4
  pub full : (c slot : ℕ) (key : List ℕ) → c < length t.cells → slice_index_or t.cells c None ≡ None → 0 < count_by
      (eqb slot) t.overflow → key_at t.bound slot ≡ Some key → bucket_in (length t.bound) key ≡ c / 4 → ⊥
  pub filled : count_by is_some t.cells + length t.overflow ≡ count_by is_some t.bound

abbrev pub held_at : Place → LookupView → Option ℕ
held_at (Cell bucket cell) t = slice_index_or t.cells (4 * bucket + cell) None
held_at (Overflow at) t = slice_get t.overflow at

-- the four cells of the bucket are taken
abbrev pub IsFull : ℕ → LookupView → Type 0
IsFull bucket t = (cell : ℕ) → cell < 4 → IsSome (slice_index_or t.cells (4 * bucket + cell) None)

-- a cell is one of the four of the key's bucket; the overflow list serves a key of a full bucket
abbrev pub IsFitting : List ℕ → Place → LookupView → Type 0
IsFitting key (Cell bucket cell) t = (bucket ≡ bucket_in (length t.bound) key) × (cell < 4)
IsFitting key (Overflow at) t = IsFull (bucket_in (length t.bound) key) t

-- the pair of the key stands at the place
pub record IsPairAt (key : List ℕ) (place : Place) (t : LookupView) : Type 0 where
  pub slot : ℕ
  pub there : held_at place t ≡ Some slot
  pub keyed : key_at t.bound slot ≡ Some key
  pub fits : IsFitting key place t

-- some pair stands at the place
pub record HasPair (place : Place) (t : LookupView) : Type 0 where
  pub key : List ℕ
  pub pair : IsPairAt key place t

-- no slot has the key
abbrev pub Nowhere : List ℕ → List (Option (List ℕ)) → Type 0
Nowhere key bound = (slot : ℕ) → key_at bound slot ≡ Some key → ⊥

-- no other slot has the key
abbrev pub IsAlone : List ℕ → ℕ → List (Option (List ℕ)) → Type 0
IsAlone key slot bound = (other : ℕ) → key_at bound other ≡ Some key → other ≡ slot

-- no other key has its pair at this place
abbrev pub IsOwn : List ℕ → Option Place → LookupView → Type 0
IsOwn key None t = Unit {0}
IsOwn key (Some place) t = (other : List ℕ) → place_of other t ≡ Some place → other ≡ key

-- each earlier place of the overflow list is that of a key
abbrev pub IsPacked : Option Place → LookupView → Type 0
IsPacked None t = Unit {0}
IsPacked (Some (Cell bucket cell)) t = Unit {0}
IsPacked (Some (Overflow at)) t = (i : ℕ) → i < at → (other : List ℕ) × (place_of other t ≡ Some (Overflow i))

-- Marks of keys: each tells to which slots keys of that mark can be bound.
use Rattle.std.specs.Prelude.{◌≡◌, ℕ, ◌+◌, ◌*◌, ◌^◌, ◌/◌, ◌%◌, Bool, true, false, eqb, List, length, slice_index_or}
use Rattle.std.specs.Prelude.{Option, Some}
use Rattle.far_base.specs.Key.{front_of, back_of}
use Rattle.lookup_table.specs.declared.mark.Mark.{Mark}
use Rattle.lookup_table.specs.declared.mark.Mark.TheVariants.{Free, One, Several}
use Rattle.lookup_table.specs.Table.{key_at}

-- the place of a key's mark: the first 13 bits of the sum of its halves times a number that spreads them (2 to the 64
-- over the golden ratio), so that few keys share one
unfoldable pub mark_of : List ℕ → ℕ
mark_of key = (front_of key + back_of key) * 11400714819323198485 % 2 ^ 64 / 2 ^ 51

-- whether a key of the mark can be bound to the slot
abbrev pub allows : Mark → ℕ → Bool
allows Free slot = false
allows (One only) slot = eqb only slot
allows Several slot = true

-- the mark when one more of its keys is bound, to the slot
abbrev pub marked_with : ℕ → Mark → Mark
marked_with slot Free = One slot
marked_with slot (One other) = Several
marked_with slot Several = Several

abbrev pub mark_at : List Mark → List ℕ → Mark
mark_at marks key = slice_index_or marks (mark_of key) Free

-- each key is bound where its mark allows it
pub record AreMarked (bound : List (Option (List ℕ))) (marks : List Mark) : Type 0 where
  pub count : length marks ≡ 8192
  pub each : (slot : ℕ) (key : List ℕ) → key_at bound slot ≡ Some key → allows (mark_at marks key) slot ≡ true

-- What a map of a server's records holds.
use Rattle.far_base.specs.declared.record.Versioned.{Versioned}
use Rattle.std.specs.Prelude.{ℕ, Bool, List, map}
use Rattle.std.specs.Borrow.{Bor}
use Rattle.std.specs.List.{list_any}
use Rattle.std.specs.List.Sorted.{IsSortedByKey}
use Rattle.std.specs.Ordering.{nat_cmp}
use Rattle.std.specs.Cmp.Lexicographic.{slice_cmp}
use Rattle.far_base.specs.declared.record.Record.{Record}
use Rattle.far_model.specs.Log.{same_key}

-- an entry of the map is a record of its key
abbrev pub record_of_entry : List ℕ × Versioned → Record
record_of_entry e = record { key = e.0; num = e.1.num; body = e.1.body }

-- whether one of the records is of the key
abbrev pub has_key : List Record → List ℕ → Bool
has_key records key = list_any (λ (r : Record). same_key r.key key) records

-- the keys of the records
abbrev pub keys_in : List Record → List (List ℕ)
keys_in rs = map (λ (r : Record). r.key) rs

-- a key beside what a map holds for it is a record of the key
abbrev pub record_of_held : List ℕ × Bor Versioned → Record
record_of_held e = record_of_entry (e.0, e.1.now)

-- no key comes before that in front of it
abbrev pub IsSortedByKeys : List (List ℕ × Bor Versioned) → Type 0
IsSortedByKeys entries = IsSortedByKey (λ (e : List ℕ × Bor Versioned). e.0) (slice_cmp nat_cmp) entries

-- The newest record of a key in a list.
use Rattle.std.specs.Prelude.{◌≡◌, ℕ, ◌≤◌, ◌<◌, List, Option, None, Some}
use Rattle.far_base.specs.declared.record.Record.{Record}
use Rattle.far_base.specs.declared.record.Versioned.{Versioned}
use Rattle.far_model.specs.Members.{Among}

-- the number that a record has to pass to be newer than what there is
abbrev pub number_to_pass : Option Versioned → ℕ
number_to_pass None = 0
number_to_pass (Some held) = held.num

abbrev pub with_key : List ℕ → Versioned → Record
with_key key held = record { key = key; num = held.num; body = held.body }

abbrev pub record_of : List ℕ × Versioned → Record
record_of entry = record { key = entry.0; num = entry.1.num; body = entry.1.body }

-- this is the record of the key that has its greatest number, or nothing where the key has no number above 0
abbrev pub IsNewestOf : List Record → List ℕ → Option Versioned → Type 0
IsNewestOf records key None = (r : Record) → Among r records → r.key ≡ key → r.num ≡ 0
IsNewestOf records key (Some held) = (Among (with_key key held) records × (0 < held.num))
    × ((r : Record) → Among r records → r.key ≡ key → r.num ≤ held.num)

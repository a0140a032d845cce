-- What a keeper has of the servers' records, and what a put makes of them.
use Rattle.std.specs.Prelude.{◌≡◌, ℕ, ◌≤◌, List, [], ◌++◌, slice_set, slice_index_or}
use Rattle.far_base.specs.declared.record.Record.{Record}
use Rattle.far_model.specs.KeyedRecords.{found}
use Rattle.far_model.specs.Members.{Each}
use Rattle.far_model.specs.Servers.{record_of, stored}

-- the records of a server; none where it is not there
abbrev pub records_of : List (List Record) → ℕ → List Record
records_of all server = slice_index_or all server []

-- the record of the key: number 0 and an absent body where there is none
abbrev pub record_for : List Record → List ℕ → Record
record_for records key = record_of key (found records key).num (found records key).body

-- the record is stored at the server where its number is greater; all other keys and servers stay
abbrev pub put_at : ℕ → Record → List (List Record) → List (List Record)
put_at server r all = slice_set all server (stored (records_of all server) r)

-- records went behind the others, and no number of theirs is above the ceiling
pub record ListsUpTo (ceiling : ℕ) (before now : List Record) : Type 0 where
  pub listed : List Record
  pub behind : now ≡ before ++ listed
  pub below : Each (λ r. r.num ≤ ceiling) listed

-- A snapshot while its parts are gathered, and a completed one.
use Rattle.std.specs.Prelude.{ℕ, suc, ◌+◌, Bool, ◌&&◌, if◌then◌else◌, List, [], ◌∷◌, map, replicate, slice_index_or}
use Rattle.std.specs.Prelude.{slice_set, is_some, Option, None, Some}
use Rattle.std.specs.List.{list_all}
use Rattle.far_base.specs.declared.log.LogEntry.{LogEntry}
use Rattle.far_base.specs.declared.log.LogEntry.TheVariants.{SnapItem}
use Rattle.far_base.specs.declared.packet.Out.{Out}
use Rattle.far_base.specs.declared.packet.Packet.TheVariants.{SnapRead}
use Rattle.far_base.specs.declared.party.Party.TheVariants.{Switch}
use Rattle.far_base.specs.declared.record.Record.{Record}
use Rattle.far_model.specs.Parties.{to_party}

-- per slot the part that has come; `sames` of them came as those of the last completed snapshot
pub record Job : Type 0 where
  pub id : ℕ
  pub begun : Option ℕ
  pub parts : List (Option (Option Record))
  pub sames : ℕ

-- a completed snapshot: the number that the switch had counted at its beginning, and per slot the part that came
pub record SnapshotView : Type 0 where
  pub id : ℕ
  pub point : ℕ
  pub views : List (Option Record)

abbrev pub no_snapshot : SnapshotView
no_snapshot = record { id = 0; point = 0; views = [] }

abbrev pub new_job : ℕ → ℕ → Job
new_job id slots = record { id = id; begun = None; parts = replicate slots None; sames = 0 }

abbrev pub has_begun : Job → Bool
has_begun job = is_some job.begun

-- whether slot i is there and has a part
abbrev pub has_part : Job → ℕ → Bool
has_part job i = is_some (slice_index_or job.parts i None)

-- the part of slot i has come
abbrev pub with_part : Job → ℕ → Option Record → Job
with_part job i view = record job { parts = slice_set job.parts i (Some view) }

-- the part of slot i is the one of the last completed snapshot
abbrev pub with_same : Job → ℕ → Option Record → Job
with_same job i view = record (with_part job i view) { sames = job.sames + 1 }

-- begun, and every part there
abbrev pub is_whole : Job → Bool
is_whole job = has_begun job && list_all is_some job.parts

abbrev pub view_in : Option (Option Record) → Option Record
view_in None = None
view_in (Some view) = view

abbrev pub number_or_none : Option ℕ → ℕ
number_or_none None = 0
number_or_none (Some n) = n

abbrev pub completed : Job → SnapshotView
completed job = record { id = job.id; point = number_or_none job.begun; views = map view_in job.parts }

-- a read of each slot from i on that has no part
abbrev pub part_reads : ℕ → ℕ → ℕ → List (Option (Option Record)) → List Out
part_reads epoch id i [] = []
part_reads epoch id i (part ∷ parts) = if is_some part then part_reads epoch id (suc i) parts
    else to_party Switch (SnapRead epoch id i) ∷ part_reads epoch id (suc i) parts

-- the records of the views that are there, from slot i on
abbrev pub view_items : ℕ → List (Option Record) → List LogEntry
view_items i [] = []
view_items i (None ∷ views) = view_items (suc i) views
view_items i (Some item ∷ views) = SnapItem i item ∷ view_items (suc i) views

-- the records of the views that are there
abbrev pub view_records : List (Option Record) → List Record
view_records [] = []
view_records (None ∷ views) = view_records views
view_records (Some item ∷ views) = item ∷ view_records views

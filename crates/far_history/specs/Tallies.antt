-- What is counted in a summary, by the rows of operations and by lines without their bodies.
use Rattle.std.specs.Prelude.{ℕ, max, Bool, List, [], ◌∷◌, Option, None, Some, count_by, sum_by, slice_index_or}
use Rattle.far_base.specs.declared.log.LogEntry.{LogEntry}
use Rattle.far_base.specs.declared.log.Placed.{Placed}
use Rattle.far_history.specs.declared.stored.Stored.{Stored}
use Rattle.far_history.specs.declared.told.Reply.{Reply}
use Rattle.far_history.specs.declared.told.Told.{Told}
use Rattle.far_history.specs.Stored.{entry_with}
use Rattle.far_history.specs.Summary.{same_parts, number_given}
use Rattle.far_history.specs.Told.{unheard}

abbrev pub told_near : Option Reply → Option ℕ → Option Bool
told_near (Some reply) (Some answered) = Some reply.near
told_near _ _ = None

-- of an operation that was emitted and answered, whether the switch answered it by itself
abbrev pub row_near : Told → Option Bool
row_near row = told_near row.emitted row.answered

-- how many operations were answered so, by their rows
abbrev pub rows_so : (Option Bool → Bool) → List Told → List Placed → ℕ
rows_so is table places = count_by (λ place. is (row_near (slice_index_or table place.op unheard))) places

-- the entry, whose body is left out
abbrev pub bodiless : Stored → LogEntry
bodiless s = entry_with None s.bare

abbrev pub count_stored : (LogEntry → Bool) → List Stored → ℕ
count_stored is lines = count_by (λ s. is (bodiless s)) lines

abbrev pub same_parts_stored : List Stored → ℕ
same_parts_stored lines = sum_by (λ s. same_parts (bodiless s)) lines

abbrev pub greatest_stored : List Stored → ℕ
greatest_stored [] = 0
greatest_stored (s ∷ ss) = max (number_given (bodiless s)) (greatest_stored ss)

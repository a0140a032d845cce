-- Lists of records with at most one of each key, in the order in which their keys first came.
use Rattle.far_base.specs.declared.record.Versioned.{Versioned}
use Rattle.std.specs.Prelude.{ℕ, Bool, true, false, if◌then◌else◌, List, [], ◌∷◌}
use Rattle.std.specs.Ordering.{nat_cmp}
use Rattle.std.specs.declared.cmp.Ordering.{Ordering}
use Rattle.std.specs.declared.cmp.Ordering.TheVariants.{Less, Equal, Greater}
use Rattle.std.specs.Cmp.Lexicographic.{slice_cmp}
use Rattle.far_base.specs.declared.record.Record.{Record}
use Rattle.far_model.specs.Log.{same_key}
use Rattle.far_model.specs.History.{nothing, held_in}

-- what the list has for the key: number 0 and no body where it has nothing
abbrev pub found : List Record → List ℕ → Versioned
found [] key = nothing
found (r ∷ rs) key = if same_key r.key key then held_in r else found rs key

-- the record takes the place of that of its key, or goes last
abbrev pub put_record : Record → List Record → List Record
put_record new [] = new ∷ []
put_record new (r ∷ rs) = if same_key r.key new.key then new ∷ rs else r ∷ put_record new rs

abbrev pub is_less : Ordering → Bool
is_less Less = true
is_less Equal = false
is_less Greater = false

-- keys are ordered by their bytes
abbrev pub is_key_before : List ℕ → List ℕ → Bool
is_key_before a b = is_less (slice_cmp nat_cmp a b)

abbrev pub in_key_order : Record → List Record → List Record
in_key_order new [] = new ∷ []
in_key_order new (r ∷ rs) = if is_key_before new.key r.key then new ∷ (r ∷ rs) else r ∷ in_key_order new rs

-- the records in the order of their keys
abbrev pub by_key : List Record → List Record
by_key [] = []
by_key (r ∷ rs) = in_key_order r (by_key rs)

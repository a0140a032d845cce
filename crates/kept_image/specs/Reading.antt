-- What a reader knows of the items that it has read.
use Rattle.std.specs.Prelude.{◌≡◌, ℕ, List, [], ◌∷◌, ◌++◌, slice_get, Option, Some, None}
use Rattle.std.specs.declared.cmp.Ordering.{Ordering}
use Rattle.std.specs.Ordering.{nat_cmp, ordering_then}
use Rattle.std.specs.Cmp.Lexicographic.{slice_cmp}
use Rattle.std.specs.BTreeMap.{get}
use Rattle.far_base.specs.declared.kept.KeptItem.{KeptItem}
use Rattle.far_model.specs.History.{Agree}
use Rattle.far_model.specs.Kept.{records_in}
use Rattle.far_model.specs.Members.{Among}
use Rattle.kept_image.specs.Faults.{IsLineOf}
use Rattle.kept_image.specs.Meaning.{IsItem}
use Rattle.kept_image.specs.declared.reader.Reader.{Reader}

abbrev pub key_and_number_cmp : (List ℕ × ℕ) → (List ℕ × ℕ) → Ordering
key_and_number_cmp x y = ordering_then (slice_cmp nat_cmp x.0 y.0) (nat_cmp x.1 y.1)

-- an item of this key and number stands at this place, or none is there
abbrev pub IsPlaceOf : List KeptItem → List ℕ → ℕ → Option ℕ → Type 0
IsPlaceOf items key num None =
    (item : KeptItem) → Among item items → item.rec.key ≡ key → item.rec.num ≡ num → ⊥
IsPlaceOf items key num (Some place) =
    (item : KeptItem) × (slice_get items place ≡ Some item) × (item.rec.key ≡ key) × (item.rec.num ≡ num)

-- the items agree, and the table has a place of each key and number
pub record IsIndexed (r : Reader) : Type 0 where
  pub places : (key : List ℕ) (num : ℕ) → IsPlaceOf r.items.items key num (get key_and_number_cmp r.places (key, num))
  pub agree : Agree (records_in r.items.items)

-- the line told one more item
pub record TakesLine (limit : ℕ) (line : List ℕ) (old new : Reader) : Type 0 where
  pub item : KeptItem
  pub fits : IsItem limit item
  pub spelled : IsLineOf line item
  pub items : new.items.items ≡ old.items.items ++ item ∷ []
  pub indexed : IsIndexed new

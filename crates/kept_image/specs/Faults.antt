-- Which line of a text is the first with a fault.
use Rattle.std.specs.Prelude.{◌≡◌, ◌≢◌, ◌⊎◌, ℕ, ◌+◌, true, List, [], ◌∷◌, ◌++◌, length, codes, Result, Ok, Err}
use Rattle.far_base.specs.declared.kept.KeptItem.{KeptItem}
use Rattle.far_base.specs.declared.record.Record.{Record}
use Rattle.far_model.specs.Kept.{records_in}
use Rattle.far_model.specs.Members.{Among}
use Rattle.far_text.specs.Pieces.{lacks}
use Rattle.kept_image.specs.ImageText.{title_line, item_line, end_line}
use Rattle.kept_image.specs.Meaning.{IsItem, IsFront, body_limit}
use Rattle.kept_image.specs.declared.fault.ImageFault.{ImageFault}
use Rattle.kept_image.specs.declared.fault.ImageFault.TheVariants.{BadLine, Conflict, Memory}
use Rattle.kept_image.specs.declared.version.Version.{Version}

-- the line, which is given without its end, is that of the item
abbrev pub IsLineOf : List ℕ → KeptItem → Type 0
IsLineOf line item = line ++ 10 ∷ [] ≡ item_line item

-- one of the records has the key and the number and another body
pub record HasConflict (records : List Record) (r : Record) : Type 0 where
  pub earlier : Record
  pub stands : Among earlier records
  pub key : earlier.key ≡ r.key
  pub num : earlier.num ≡ r.num
  pub body : earlier.body ≢ r.body

-- the line is that of no item
abbrev pub IsNoItem : ℕ → List ℕ → Type 0
IsNoItem limit line = (item : KeptItem) → IsItem limit item → IsLineOf line item → ⊥

-- the line is that of an item which one of the items before it contradicts
pub record IsContradicted (limit : ℕ) (items : List KeptItem) (line : List ℕ) : Type 0 where
  pub item : KeptItem
  pub fits : IsItem limit item
  pub spelled : IsLineOf line item
  pub conflict : HasConflict (records_in items) item.rec

-- the fault of line n behind these items
abbrev pub IsFaultOfLine : ℕ → ℕ → List KeptItem → List ℕ → ImageFault → Type 0
IsFaultOfLine limit n items line fault =
    (IsNoItem limit line × (fault ≡ BadLine n)) ⊎ (IsContradicted limit items line × (fault ≡ Conflict n))

-- line n is whole and not the last one, and has a fault
pub record IsFaulty (limit n : ℕ) (items : List KeptItem) (rest : List ℕ) (fault : ImageFault) : Type 0 where
  pub line : List ℕ
  pub others : List ℕ
  pub whole : rest ≡ line ++ 10 ∷ others
  pub one : lacks 10 line ≡ true
  pub no_end : line ≢ codes "end"
  pub fails : IsFaultOfLine limit n items line fault

-- line n is the last one, and something stands behind it
pub record GoesOn (n : ℕ) (rest : List ℕ) (fault : ImageFault) : Type 0 where
  pub first : ℕ
  pub others : List ℕ
  pub whole : rest ≡ end_line ++ first ∷ others
  pub named : fault ≡ BadLine (n + 1)

-- the fault of what stands behind these items, from line n on: line n is missing or has no end, or is faulty, or the
-- text goes on behind it
abbrev pub IsFaultAt : ℕ → ℕ → List KeptItem → List ℕ → ImageFault → Type 0
IsFaultAt limit n items rest fault = ((lacks 10 rest ≡ true) × (fault ≡ BadLine n))
    ⊎ (IsFaulty limit n items rest fault ⊎ GoesOn n rest fault)

-- the first line is none of those that may stand there, or has no end
abbrev pub HasNoTitle : List ℕ → Type 0
HasNoTitle text = (version : Version) (rest : List ℕ) → text ≡ title_line version ++ rest → ⊥

-- behind a first line and lines of items comes the first line with a fault
pub record IsFirstFault (text : List ℕ) (fault : ImageFault) : Type 0 where
  pub version : Version
  pub items : List KeptItem
  pub rest : List ℕ
  pub front : IsFront text version items rest
  pub at : IsFaultAt (body_limit version) (length items + 2) items rest fault

-- the first line with a fault is line 1, or stands behind it
abbrev pub HasImageFault : List ℕ → ImageFault → Type 0
HasImageFault text fault = (HasNoTitle text × (fault ≡ BadLine 1)) ⊎ IsFirstFault text fault

-- a fault that is named is there; want of memory says nothing
abbrev pub Blames : {A : Type 0} → Result A ImageFault → (ImageFault → Type 0) → Type 0
Blames (Ok x) P = Unit {0}
Blames (Err (BadLine line)) P = P (BadLine line)
Blames (Err (Conflict line)) P = P (Conflict line)
Blames (Err Memory) P = Unit {0}

-- this fault was found, or memory was refused
abbrev pub IsFoundAs : {A : Type 0} → Result A ImageFault → ImageFault → Type 0
IsFoundAs (Ok x) fault = ⊥
IsFoundAs (Err (BadLine line)) fault = BadLine line ≡ fault
IsFoundAs (Err (Conflict line)) fault = Conflict line ≡ fault
IsFoundAs (Err Memory) fault = Unit {0}

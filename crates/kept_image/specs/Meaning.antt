-- What it means that a text is the image of a kept list.
use Rattle.std.specs.Prelude.{◌≡◌, ℕ, ◌<◌, ◌≤◌, List, ◌++◌, Option, None, Some, Result, Ok, Err}
use Rattle.far_base.specs.Padded.{length_of}
use Rattle.far_base.specs.declared.body.TheConstants.{BODY_LIMIT}
use Rattle.far_base.specs.declared.kept.KeptItem.{KeptItem}
use Rattle.far_base.specs.declared.kept.KeptPlace.{KeptPlace}
use Rattle.far_base.specs.declared.kept.KeptPlace.TheVariants.{Snap, Server, Client}
use Rattle.far_base.specs.declared.plan.TheConstants.{CLIENT_LIMIT}
use Rattle.far_base.specs.declared.record.Record.{Record}
use Rattle.far_model.specs.History.{Agree}
use Rattle.far_model.specs.Kept.{records_in}
use Rattle.far_model.specs.Members.{Each}
use Rattle.far_text.specs.Numbers.{IsNumber}
use Rattle.far_text.specs.Words.{IsKey, IsBody, IsVisible}
use Rattle.kept_image.specs.ImageText.{title_line, item_lines, end_line}
use Rattle.kept_image.specs.declared.fault.ImageFault.{ImageFault}
use Rattle.kept_image.specs.declared.fault.ImageFault.TheVariants.{BadLine, Conflict, Memory}
use Rattle.kept_image.specs.declared.version.TheConstants.{FIRST_BODY_LIMIT}
use Rattle.kept_image.specs.declared.version.Version.{Version}
use Rattle.kept_image.specs.declared.version.Version.TheVariants.{First, Second}

-- how many bytes a body of a version may have
abbrev pub body_limit : Version → ℕ
body_limit First = FIRST_BODY_LIMIT
body_limit Second = BODY_LIMIT

-- which server has a record is not told, so that it is read as server 0
abbrev pub IsPlace : KeptPlace → Type 0
IsPlace Snap = Unit {0}
IsPlace (Server server) = server ≡ 0
IsPlace (Client client) = client < CLIENT_LIMIT

-- an item that a line can tell, where bodies have at most `limit` bytes
pub record IsItem (limit : ℕ) (item : KeptItem) : Type 0 where
  pub place : IsPlace item.place
  pub key : IsKey item.rec.key
  pub num : IsNumber item.rec.num
  pub body : IsBody item.rec.body
  pub short : length_of item.rec.body ≤ limit
  pub unwritten : item.rec.num ≡ 0 → item.rec.body ≡ None

-- the text begins with the first line of a version and a line for each of these items, which agree; then comes the rest
pub record IsFront (text : List ℕ) (version : Version) (items : List KeptItem) (rest : List ℕ) : Type 0 where
  pub spelled : text ≡ title_line version ++ item_lines items ++ rest
  pub fit : Each (IsItem (body_limit version)) items
  pub agree : Agree (records_in items)

-- the text is that of these items in either version, and ends with its last line
pub record IsImage (text : List ℕ) (items : List KeptItem) : Type 0 where
  pub version : Version
  pub front : IsFront text version items end_line

-- these items were read, or memory was refused
abbrev pub IsReadAs : Result (List KeptItem) ImageFault → List KeptItem → Type 0
IsReadAs (Ok found) items = found ≡ items
IsReadAs (Err (BadLine line)) items = ⊥
IsReadAs (Err (Conflict line)) items = ⊥
IsReadAs (Err Memory) items = Unit {0}

-- ---- what is written

-- an item as its line tells it
abbrev pub told_place : KeptPlace → KeptPlace
told_place Snap = Snap
told_place (Server server) = Server 0
told_place (Client client) = Client client

abbrev pub told_item : KeptItem → KeptItem
told_item item = record { place = told_place item.place; rec = item.rec }

-- what the types of its key and its body give of a record
pub record IsWholeRecord (r : Record) : Type 0 where
  pub key : IsKey r.key
  pub short : length_of r.body ≤ BODY_LIMIT

abbrev pub AreWhole : List KeptItem → Type 0
AreWhole items = Each (λ (item : KeptItem). IsWholeRecord item.rec) items

abbrev pub HasVisibleBytes : Option (List ℕ) → Type 0
HasVisibleBytes None = Unit {0}
HasVisibleBytes (Some text) = IsVisible text

-- what a line can tell of an item besides
pub record CanBeTold (item : KeptItem) : Type 0 where
  pub place : IsPlace (told_place item.place)
  pub num : IsNumber item.rec.num
  pub body : HasVisibleBytes item.rec.body
  pub unwritten : item.rec.num ≡ 0 → item.rec.body ≡ None

-- their lines can tell them, and they agree
abbrev pub AreTold : List KeptItem → Type 0
AreTold items = Each CanBeTold items × Agree (records_in items)

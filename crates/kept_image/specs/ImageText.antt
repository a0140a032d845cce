-- How a kept list is written as a text.
use Rattle.std.specs.Prelude.{ℕ, List, [], ◌∷◌, ◌++◌, codes, decimal}
use Rattle.std.specs.List.{flat_map}
use Rattle.far_base.specs.Key.{key_text}
use Rattle.far_base.specs.declared.kept.KeptItem.{KeptItem}
use Rattle.far_base.specs.declared.kept.KeptPlace.{KeptPlace}
use Rattle.far_base.specs.declared.kept.KeptPlace.TheVariants.{Snap, Server, Client}
use Rattle.far_base.specs.declared.record.Record.{Record}
use Rattle.far_text.specs.Text.{body_word, text_line}
use Rattle.kept_image.specs.declared.version.Version.{Version}
use Rattle.kept_image.specs.declared.version.Version.TheVariants.{First, Second}

-- the first line of each version
abbrev pub title : Version → List ℕ
title First = codes "far 1 image"
title Second = codes "far 2 image"

abbrev pub title_line : Version → List ℕ
title_line version = text_line (title version ∷ [])

-- which server has a record is not told
abbrev pub place_words : KeptPlace → List (List ℕ)
place_words Snap = codes "snap" ∷ []
place_words (Server server) = codes "server" ∷ []
place_words (Client client) = codes "client" ∷ decimal client ∷ []

abbrev pub record_words : Record → List (List ℕ)
record_words r = key_text r.key ∷ decimal r.num ∷ body_word r.body ∷ []

abbrev pub item_line : KeptItem → List ℕ
item_line item = text_line (place_words item.place ++ record_words item.rec)

abbrev pub item_lines : List KeptItem → List ℕ
item_lines items = flat_map item_line items

abbrev pub end_line : List ℕ
end_line = text_line (codes "end" ∷ [])

-- the text of a kept list, as it is written
abbrev pub image_text : List KeptItem → List ℕ
image_text items = title_line Second ++ item_lines items ++ end_line

-- Keys and bodies as words of a text.
use Rattle.std.specs.Prelude.{ℕ, ◌≤◌, ◌&&◌, List, [], ◌∷◌, length, Option, Some, None, nat_eq, nat_le, if◌then◌else◌}
use Rattle.std.specs.Prelude.{codes, bytes_eq, IsTrue}
use Rattle.std.specs.List.{list_all}
use Rattle.far_base.specs.Key.{is_visible, is_key_text, is_key}
use Rattle.far_base.specs.Padded.{padded}
use Rattle.far_base.specs.declared.body.TheConstants.{BODY_LIMIT}
use Rattle.far_base.specs.declared.key.TheConstants.{KEY_LENGTH}
use Rattle.far_text.specs.Options.{◌>>=◌}

-- the key whose text the word is
abbrev pub key_of : List ℕ → Option (List ℕ)
key_of word = if is_key_text word then Some (padded KEY_LENGTH word) else None

abbrev pub IsKey : List ℕ → Type 0
IsKey key = IsTrue (is_key key)

-- the bytes of a body that is there, of any length
abbrev pub body_bytes_of : List ℕ → Option (List ℕ)
body_bytes_of [] = None
body_bytes_of (c ∷ text) = if nat_eq c 61 && list_all is_visible text then Some text else None

-- the body that the bytes make, where they are not too many
abbrev pub short_body : List ℕ → Option (Option (List ℕ))
short_body text = if nat_le (length text) BODY_LIMIT then Some (Some text) else None

-- a body that may be absent
abbrev pub body_of : List ℕ → Option (Option (List ℕ))
body_of word = if bytes_eq word (codes "-") then Some None else body_bytes_of word >>= short_body

-- visible bytes
abbrev pub IsVisible : List ℕ → Type 0
IsVisible text = IsTrue (list_all is_visible text)

-- a body that a word can name: absent, or of visible bytes and not too many
abbrev pub IsBody : Option (List ℕ) → Type 0
IsBody None = Unit {0}
IsBody (Some text) = IsVisible text × (length text ≤ BODY_LIMIT)

-- Bytes as hexadecimal digits: two for each byte, with lower-case letters.
use Rattle.std.specs.Prelude.{ℕ, List, Option, Some, None, Result, Ok, Err, bytes_eq, if◌then◌else◌}
use Rattle.hex.specs.Hex.{decode_of, encode_lower}
use Rattle.hex.specs.declared.error.FromHexError.{FromHexError}

-- the bytes, where the word is exactly their text
abbrev pub bytes_if : List ℕ → Result (List ℕ) FromHexError → Option (List ℕ)
bytes_if word (Ok bytes) = if bytes_eq (encode_lower bytes) word then Some bytes else None
bytes_if word (Err error) = None

-- the bytes whose text the word is
unfoldable pub hex_of : List ℕ → Option (List ℕ)
hex_of word = bytes_if word (decode_of word)

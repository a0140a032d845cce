-- Lines of words as they are written.
use Rattle.std.specs.Prelude.{ℕ, List, [], ◌∷◌, ◌++◌, Option, None, Some}
use Rattle.far_text.specs.declared.writer.TheConstants.{SPACE, LINE_END}

-- a body as a word: `=` and its bytes, or `-`
abbrev pub body_word : Option (List ℕ) → List ℕ
body_word None = 45 ∷ []
body_word (Some bytes) = 61 ∷ bytes

-- each word behind a space, and the end of the line
abbrev pub after_words : List (List ℕ) → List ℕ
after_words [] = LINE_END ∷ []
after_words (w ∷ ws) = (SPACE ∷ w) ++ after_words ws

-- words with one space between two
abbrev pub text_line : List (List ℕ) → List ℕ
text_line [] = LINE_END ∷ []
text_line (w ∷ ws) = w ++ after_words ws

-- How a word is spelled.
use Rattle.std.specs.Prelude.{ℕ, List, decimal}
use Rattle.hex.specs.Hex.{encode_lower}
use Rattle.far_base.specs.Key.{key_text}
use Rattle.far_text.specs.Text.{body_word}
use Rattle.far_text.specs.declared.writer.Word.{Word}
use Rattle.far_text.specs.declared.writer.Word.TheVariants.{Text, Number, Key, Body, Hex}

abbrev pub word_text : Word → List ℕ
word_text (Text text) = text.now
word_text (Number n) = decimal n
word_text (Key key) = key_text key.now
word_text (Body body) = body_word body.now
word_text (Hex bytes) = encode_lower bytes.now

-- A line is that of at most one item.
use Rattle.std.proofs.Common.{◌≡◌, ℕ, List, [], ◌∷◌, ◌++◌, refl, sym, ap, ◌∙◌}
use Rattle.std.specs.Prelude.{Option, Some, None, IfSome}
use Rattle.far_base.specs.declared.kept.KeptItem.{KeptItem}
use Rattle.kept_image.specs.Faults.{IsLineOf}
use Rattle.kept_image.specs.Meaning.{IsItem}
use Rattle.kept_image.specs.Words.{item_of}
use Rattle.kept_image.proofs.WordLaws.{item_text, item_is, line_of}

abbrev but_last : List ℕ → List ℕ
but_last [] = []
but_last (x ∷ []) = []
but_last (x ∷ y ∷ ys) = x ∷ but_last (y ∷ ys)

some_more : (x : ℕ) (xs : List ℕ) (y : ℕ) → but_last (x ∷ (xs ++ y ∷ [])) ≡ x ∷ but_last (xs ++ y ∷ [])
some_more x [] y = refl
some_more x (z ∷ zs) y = refl

last_off : (xs : List ℕ) (y : ℕ) → but_last (xs ++ y ∷ []) ≡ xs
last_off [] y = refl
last_off (x ∷ xs) y = some_more x xs y ∙ ap (λ (l : List ℕ). x ∷ l) (last_off xs y)

-- the text of a line is the line without its end
pub line_text : (line : List ℕ) (item : KeptItem) → IsLineOf line item → line ≡ item_text item
line_text line item is = sym (last_off line 10) ∙ (ap but_last (is ∙ line_of item) ∙ last_off (item_text item) 10)

pub text_line_of : (line : List ℕ) (item : KeptItem) → line ≡ item_text item → IsLineOf line item
text_line_of line item is = ap (λ (l : List ℕ). l ++ 10 ∷ []) is ∙ sym (line_of item)

pub found_line : (limit : ℕ) (line : List ℕ) (result : Option KeptItem) → result ≡ item_of limit line → IfSome result (λ item. IsLineOf line item × IsItem limit item)
found_line limit line None e = tt
found_line limit line (Some item) e = let r = (item_is limit).takes line item (sym e) in (text_line_of line item r.0, r.1)

pub only_line : (limit : ℕ) (line : List ℕ) (result : Option KeptItem) → result ≡ item_of limit line → (item : KeptItem) → IsItem limit item → IsLineOf line item → result ≡ Some item
only_line limit line result e item fits is = e ∙ (ap (item_of limit) (line_text line item is) ∙ (item_is limit).again item fits)

-- The first line of a text names at most one version.
use Rattle.std.proofs.Common.{◌≡◌, ◌≢◌, ℕ, true, List, [], ◌∷◌, ◌++◌, get_or, refl, sym, ap, ◌∙◌, arith, append_assoc}
use Rattle.std.specs.Prelude.{Option, Some, None}
use Rattle.far_text.specs.Pieces.{cut_at, lacks}
use Rattle.far_text.proofs.Spelling.{cut_takes, cut_again}
use Rattle.kept_image.specs.Faults.{HasNoTitle}
use Rattle.kept_image.specs.ImageText.{title, title_line}
use Rattle.kept_image.specs.declared.version.Version.{Version}
use Rattle.kept_image.specs.declared.version.Version.TheVariants.{First, Second}

title_lacks : (version : Version) → lacks 10 (title version) ≡ true
title_lacks First = refl
title_lacks Second = refl

title_cut : (version : Version) (rest : List ℕ) → cut_at 10 (title_line version ++ rest) ≡ Some (title version, rest)
title_cut version rest = ap (cut_at 10) (append_assoc (title version) (10 ∷ []) rest) ∙ cut_again 10 (title version) rest (title_lacks version)

pub title_found : (version : Version) (text line rest : List ℕ) → cut_at 10 text ≡ Some (line, rest) → line ≡ title version → text ≡ title_line version ++ rest
title_found version text line rest e is =
    cut_takes 10 text (line, rest) e ∙ ap (λ (l : List ℕ). l ++ 10 ∷ rest) is ∙ sym (append_assoc (title version) (10 ∷ []) rest)

pub no_line : (text : List ℕ) → cut_at 10 text ≡ None → HasNoTitle text
no_line text e = λ version rest is. let z = sym e ∙ (ap (cut_at 10) is ∙ title_cut version rest) in absurd cc

abbrev pub first_of : Option (List ℕ × List ℕ) → List ℕ
first_of None = []
first_of (Some c) = c.0

pub no_title : (text line rest : List ℕ) → cut_at 10 text ≡ Some (line, rest) → ((version : Version) → line ≢ title version) → HasNoTitle text
no_title text line rest e other = λ version behind is.
    other version (ap first_of (sym e ∙ (ap (cut_at 10) is ∙ title_cut version behind)))

abbrev pub rest_of : Option (List ℕ × List ℕ) → List ℕ
rest_of None = []
rest_of (Some c) = c.1

same_title : (a b : Version) → title a ≡ title b → a ≡ b
same_title First First e = refl
same_title First Second e = let z : 49 ≡ 50 = ap (λ (l : List ℕ). get_or l 4 0) e in absurd (omega (arith, z))
same_title Second First e = let z : 50 ≡ 49 = ap (λ (l : List ℕ). get_or l 4 0) e in absurd (omega (arith, z))
same_title Second Second e = refl

-- two first lines of a text are the same
pub one_title : (a b : Version) (x y : List ℕ) → title_line a ++ x ≡ title_line b ++ y → (a ≡ b) × (x ≡ y)
one_title a b x y e =
    let c : Some (title a, x) ≡ Some (title b, y) = sym (title_cut a x) ∙ (ap (cut_at 10) e ∙ title_cut b y) in
    (same_title a b (ap first_of c), ap rest_of c)

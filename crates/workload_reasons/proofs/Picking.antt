-- Cutting words at spaces gives the first that is no number.
use Rattle.std.proofs.Common.{◌≡◌, ℕ, Bool, true, false, not, ◌&&◌, cond, List, [], ◌∷◌, refl, sym, ap, ◌∙◌}
use Rattle.std.specs.Prelude.{Option, Some, None, IsSome, is_some}
use Rattle.far_text.specs.Numbers.{is_number, number_of, value_from}
use Rattle.far_text.specs.Options.{◌>>=◌}
use Rattle.far_text.specs.Pieces.{Pieces, pieces, cut_at}
use Rattle.far_text.proofs.Cuts.{pieces_cut}
use Rattle.workload.specs.Words.{numbers_of}
use Rattle.workload_reasons.specs.Orders.{first_no_number}

number_is : (word : List ℕ) (v : Bool) → is_number word ≡ v → is_some (number_of word) ≡ v
number_is word true e = rw e refl
number_is word false e = rw e refl

pub is_number_is : (word : List ℕ) → is_number word ≡ is_some (number_of word)
is_number_is word = sym (number_is word (is_number word) refl)

pub passed : (bytes word rest : List ℕ) → cut_at 32 bytes ≡ Some (word, rest) → is_some (number_of word) ≡ true
    → first_no_number (pieces 32 bytes) ≡ first_no_number (pieces 32 rest)
passed bytes word rest e number =
    let fits : is_number word ≡ true = is_number_is word ∙ number in
    rw (pieces_cut 32 bytes, e, fits) refl

pub refused : (bytes word rest : List ℕ) → cut_at 32 bytes ≡ Some (word, rest) → is_some (number_of word) ≡ false
    → first_no_number (pieces 32 bytes) ≡ Some word
refused bytes word rest e none =
    let other : is_number word ≡ false = is_number_is word ∙ none in
    rw (pieces_cut 32 bytes, e, other) refl

pub last_passed : (bytes : List ℕ) → cut_at 32 bytes ≡ None → is_some (number_of bytes) ≡ true
    → first_no_number (pieces 32 bytes) ≡ None
last_passed bytes e number =
    let fits : is_number bytes ≡ true = is_number_is bytes ∙ number in
    rw (pieces_cut 32 bytes, e, fits) refl

pub last_refused : (bytes : List ℕ) → cut_at 32 bytes ≡ None → is_some (number_of bytes) ≡ false
    → first_no_number (pieces 32 bytes) ≡ Some bytes
last_refused bytes e none =
    let other : is_number bytes ≡ false = is_number_is bytes ∙ none in
    rw (pieces_cut 32 bytes, e, other) refl

pub ruleset word_by_word = (passed, refused, last_passed, last_refused)

-- ---- all are numbers

more_numbers : (n : ℕ) (read : Option (List ℕ)) → is_some read ≡ true → is_some (read >>= λ ns. Some (n ∷ ns)) ≡ true
more_numbers n None e = absurd cc
more_numbers n (Some ns) e = refl

pub all_numbers : (words : Pieces) → first_no_number words ≡ None → is_some (numbers_of words) ≡ true
all_numbers [] e = refl
all_numbers (word ∷ words) e = go (is_number word) refl e (λ n. all_numbers words n)
  where
    go : (v : Bool) → is_number word ≡ v → cond (not v) (Some word) (first_no_number words) ≡ None
        → (first_no_number words ≡ None → is_some (numbers_of words) ≡ true)
        → is_some (numbers_of (word ∷ words)) ≡ true
    go true t n more = rw t (more_numbers (value_from 0 word) (numbers_of words) (more n))
    go false t n more = absurd cc

pub is_refused : (words : Pieces) (word : List ℕ) → first_no_number words ≡ Some word
    → is_some (number_of word) ≡ true → ⊥
is_refused [] word e number = cc
is_refused (first ∷ words) word e number = go (is_number first) refl e (λ f. is_refused words word f number)
  where
    go : (v : Bool) → is_number first ≡ v → cond (not v) (Some first) (first_no_number words) ≡ Some word
        → (first_no_number words ≡ Some word → ⊥) → ⊥
    go true t f more = more f
    go false t f more =
        let same : first ≡ word = cc in
        let other : is_number word ≡ false = ap is_number (sym same) ∙ t in
        let fits : is_number word ≡ true = is_number_is word ∙ number in
        cc

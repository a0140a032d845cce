-- Words, and what is spelled by several of them: each has one spelling.
use Rattle.std.proofs.Common.{◌≡◌, ℕ, suc, ◌≤◌, List, [], ◌∷◌, ◌++◌, length, refl, sym, ap, subst, ◌∙◌, arith}
use Rattle.std.specs.Prelude.{Some, decimal}
use Rattle.std.specs.List.{AllByRecursion}
use Rattle.std.proofs.lemmas.List.{append-nil}
use Rattle.far_base.specs.Key.{key_text}
use Rattle.far_text.specs.Numbers.{IsNumber, number_of}
use Rattle.far_text.specs.Options.{◌>>=◌}
use Rattle.far_text.specs.Pieces.{Pieces, pieces, cut_at}
use Rattle.far_text.specs.Text.{body_word}
use Rattle.far_text.specs.Words.{IsKey, key_of, body_bytes_of, IsVisible}
use Rattle.far_text.proofs.Cuts.{some_piece}
use Rattle.far_text.proofs.Spelling.{some_is, bind_some, cut_takes, cut_again, pieces_word, pieces_more, joined, pieces_join, IsSpelling, number_is, number_lacks, key_is, key_lacks, bytes_is}
use Rattle.workload.specs.Meaning.{AreNumbers}
use Rattle.workload.specs.Spelling.{spaced}
use Rattle.workload.specs.Words.{numbers_of, number_and_key, put_words}

-- ---- a number and a key

abbrev pub number_key_words : ℕ × List ℕ → List ℕ
number_key_words f = decimal f.0 ++ 32 ∷ key_text f.1

abbrev pub FitsNumberKey : ℕ × List ℕ → Type 0
FitsNumberKey f = IsNumber f.0 × IsKey f.1

pub number_key_is : IsSpelling number_and_key number_key_words FitsNumberKey
number_key_is = record {
  takes = λ w f e.
      let a = bind_some (cut_at 32 w) (λ c. number_of c.0 >>= λ n. key_of c.1 >>= λ k. Some (n, k)) f e in
      let b = bind_some (number_of a.0.0) (λ n. key_of a.0.1 >>= λ k. Some (n, k)) f a.2 in
      let c = bind_some (key_of a.0.1) (λ k. Some (b.0, k)) f b.2 in
      let n = number_is.takes a.0.0 b.0 b.1 in
      let k = key_is.takes a.0.1 c.0 c.1 in
      let whole : ℕ × List ℕ = (b.0, c.0) in
      let spelled : w ≡ number_key_words whole = cut_takes 32 w a.0 a.1 ∙ ap (λ (l : List ℕ). l ++ 32 ∷ a.0.1) n.0 ∙ ap (λ (l : List ℕ). decimal b.0 ++ 32 ∷ l) k.0 in
      subst (λ (y : ℕ × List ℕ). (w ≡ number_key_words y) × FitsNumberKey y) (some_is whole f c.2) (spelled, (n.1, k.1));
  again = λ f fits. rw (cut_again 32 (decimal f.0) (key_text f.1) (number_lacks 32 f.0 (omega arith) fits.0), number_is.again f.0 fits.0, key_is.again f.1 fits.1) refl;
}

-- ---- a number, a key and a body

abbrev pub put_text : ℕ × List ℕ × List ℕ → List ℕ
put_text f = decimal f.0 ++ 32 ∷ (key_text f.1 ++ 32 ∷ body_word (Some f.2))

abbrev pub FitsPut : ℕ × List ℕ × List ℕ → Type 0
FitsPut f = IsNumber f.0 × IsKey f.1 × IsVisible f.2

pub put_is : IsSpelling put_words put_text FitsPut
put_is = record {
  takes = λ w f e.
      let a = bind_some (cut_at 32 w) (λ c. number_of c.0 >>= λ n. cut_at 32 c.1 >>= λ d. key_of d.0 >>= λ k. body_bytes_of d.1 >>= λ text. Some (n, k, text)) f e in
      let b = bind_some (number_of a.0.0) (λ n. cut_at 32 a.0.1 >>= λ d. key_of d.0 >>= λ k. body_bytes_of d.1 >>= λ text. Some (n, k, text)) f a.2 in
      let c = bind_some (cut_at 32 a.0.1) (λ d. key_of d.0 >>= λ k. body_bytes_of d.1 >>= λ text. Some (b.0, k, text)) f b.2 in
      let d = bind_some (key_of c.0.0) (λ k. body_bytes_of c.0.1 >>= λ text. Some (b.0, k, text)) f c.2 in
      let g = bind_some (body_bytes_of c.0.1) (λ text. Some (b.0, d.0, text)) f d.2 in
      let n = number_is.takes a.0.0 b.0 b.1 in
      let k = key_is.takes c.0.0 d.0 d.1 in
      let t = bytes_is.takes c.0.1 g.0 g.1 in
      let whole : ℕ × List ℕ × List ℕ = (b.0, d.0, g.0) in
      let behind : a.0.1 ≡ key_text d.0 ++ 32 ∷ body_word (Some g.0) = cut_takes 32 a.0.1 c.0 c.1 ∙ ap (λ (l : List ℕ). l ++ 32 ∷ c.0.1) k.0 ∙ ap (λ (l : List ℕ). key_text d.0 ++ 32 ∷ l) t.0 in
      let spelled : w ≡ put_text whole = cut_takes 32 w a.0 a.1 ∙ ap (λ (l : List ℕ). l ++ 32 ∷ a.0.1) n.0 ∙ ap (λ (l : List ℕ). decimal b.0 ++ 32 ∷ l) behind in
      subst (λ (y : ℕ × List ℕ × List ℕ). (w ≡ put_text y) × FitsPut y) (some_is whole f g.2) (spelled, (n.1, k.1, t.1));
  again = λ f fits. rw (cut_again 32 (decimal f.0) (key_text f.1 ++ 32 ∷ body_word (Some f.2)) (number_lacks 32 f.0 (omega arith) fits.0), number_is.again f.0 fits.0, cut_again 32 (key_text f.1) (body_word (Some f.2)) (key_lacks 32 f.1 (omega arith) fits.1), key_is.again f.1 fits.1) (rw (bytes_is.again f.2 fits.2) refl);
}

-- ---- numbers

abbrev pub numbers_text : List ℕ → List ℕ
numbers_text [] = []
numbers_text (n ∷ ns) = decimal n ++ spaced ns

joined_numbers : (words : Pieces) (ns : List ℕ) → numbers_of words ≡ Some ns → (joined 32 words ≡ numbers_text ns) × AllByRecursion IsNumber ns × (length words ≡ length ns)
joined_numbers [] ns e = subst (λ (y : List ℕ). ([] ≡ numbers_text y) × AllByRecursion IsNumber y × (0 ≡ length y)) (some_is [] ns e) (refl, tt, refl)
joined_numbers (word ∷ []) ns e =
    let a = bind_some (number_of word) (λ n. numbers_of [] >>= λ ns. Some (n ∷ ns)) ns e in
    let n = number_is.takes word a.0 a.1 in
    subst (λ (y : List ℕ). (word ≡ numbers_text y) × AllByRecursion IsNumber y × (1 ≡ length y)) (some_is (a.0 ∷ []) ns a.2) (n.0 ∙ sym (append-nil (decimal a.0)), (n.1, tt), refl)
joined_numbers (word ∷ next ∷ more) ns e =
    let a = bind_some (number_of word) (λ n. numbers_of (next ∷ more) >>= λ ns. Some (n ∷ ns)) ns e in
    let b = bind_some (numbers_of (next ∷ more)) (λ ns. Some (a.0 ∷ ns)) ns a.2 in
    let n = number_is.takes word a.0 a.1 in
    let r = joined_numbers (next ∷ more) b.0 b.1 in
    subst (λ (y : List ℕ). (word ++ 32 ∷ joined 32 (next ∷ more) ≡ numbers_text y) × AllByRecursion IsNumber y × (suc (suc (length more)) ≡ length y)) (some_is (a.0 ∷ b.0) ns b.2)
    (ap (λ (l : List ℕ). l ++ 32 ∷ joined 32 (next ∷ more)) n.0 ∙ ap (λ (l : List ℕ). decimal a.0 ++ l) (space_first b.0 (joined 32 (next ∷ more)) r.0 r.2), (n.1, r.1), ap suc r.2)
  where
    space_first : (ns words : List ℕ) → words ≡ numbers_text ns → {k : ℕ} → suc k ≡ length ns → 32 ∷ words ≡ spaced ns
    space_first [] words e f = absurd cc
    space_first (n ∷ ns) words e f = ap (λ (l : List ℕ). 32 ∷ l) e

numbers_again : (n : ℕ) (ns : List ℕ) → IsNumber n → AllByRecursion IsNumber ns → numbers_of (pieces 32 (decimal n ++ spaced ns)) ≡ Some (n ∷ ns)
numbers_again n [] h k = rw (append-nil (decimal n), pieces_word 32 (decimal n) (number_lacks 32 n (omega arith) h), number_is.again n h) refl
numbers_again n (m ∷ ms) h k = rw (pieces_more 32 (decimal n) (decimal m ++ spaced ms) (number_lacks 32 n (omega arith) h), number_is.again n h, numbers_again m ms k.0 k.1) refl

pub numbers_is : IsSpelling (λ w. numbers_of (pieces 32 w)) numbers_text AreNumbers
numbers_is = record {
  takes = λ w ns e.
      let p = some_piece 32 w in
      let r = joined_numbers (pieces 32 w) ns e in
      let some : 1 ≤ length ns = omega (arith, r.2, ap (λ (l : Pieces). length l) p.2) in
      (sym (pieces_join 32 w) ∙ r.0, (some, r.1));
  again = go;
}
  where
    go : (ns : List ℕ) → AreNumbers ns → numbers_of (pieces 32 (numbers_text ns)) ≡ Some ns
    go [] fits = absurd (omega (arith, fits.0))
    go (n ∷ ns) fits = numbers_again n ns fits.1.0 fits.1.1

-- What two readings spell, one behind the other, and what words lack.
use Rattle.std.proofs.Common.{◌≡◌, ℕ, ◌≤◌, Bool, true, false, cond, List, ◌∷◌, ◌++◌, refl, sym, ap, ◌∙◌, subst, arith}
use Rattle.std.specs.Prelude.{Option, Some, None, bytes_eq, decimal}
use Rattle.std.proofs.lemmas.Slice.Eq.{bytes_eq-Decides}
use Rattle.far_text.specs.Numbers.{IsNumber, number_of}
use Rattle.far_text.specs.Options.{◌>>=◌}
use Rattle.far_text.specs.Pieces.{cut_at, lacks}
use Rattle.far_text.proofs.Spelling.{IsSpelling, bind_some, cut_again, cut_takes, if_some, lacks_join, number_is, number_lacks, some_is}
use Rattle.log_audit.specs.Words.{line_as, number_behind, read_both, title, title_of}

pub both_is : {A B : Type 0} (mark : ℕ) (first : List ℕ → Option A) (rest : List ℕ → Option B) (s : A → List ℕ) (t : B → List ℕ) (P : A → Type 0) (Q : B → Type 0) → IsSpelling first s P → IsSpelling rest t Q → ((x : A) → P x → lacks mark (s x) ≡ true)
    → IsSpelling (read_both mark first rest) (λ p. s p.0 ++ mark ∷ t p.1) (λ p. P p.0 × Q p.1)
both_is {A} {B} mark first rest s t P Q a b free = record {
  takes = λ w y e.
      let c = bind_some (cut_at mark w) (λ c. first c.0 >>= λ x. rest c.1 >>= λ z. Some (x, z)) y e in
      let f = bind_some (first c.0.0) (λ x. rest c.0.1 >>= λ z. Some (x, z)) y c.2 in
      let r = bind_some (rest c.0.1) (λ z. Some (f.0, z)) y f.2 in
      let one = a.takes c.0.0 f.0 f.1 in
      let two = b.takes c.0.1 r.0 r.1 in
      let made : A × B = (f.0, r.0) in
      let spelled : w ≡ s f.0 ++ mark ∷ t r.0 = cut_takes mark w c.0 c.1 ∙ ap (λ (l : List ℕ). l ++ mark ∷ c.0.1) one.0 ∙ ap (λ (l : List ℕ). s f.0 ++ mark ∷ l) two.0 in
      subst (λ (p : A × B). (w ≡ s p.0 ++ mark ∷ t p.1) × (P p.0 × Q p.1)) (some_is made y r.2) (spelled, (one.1, two.1));
  again = λ y fits. rw (cut_again mark (s y.0) (t y.1) (free y.0 fits.0), a.again y.0 fits.0, b.again y.1 fits.1) refl;
}

-- words of which each has no byte up to a space, so that none of them has an end of a line
abbrev pub IsClean : {A : Type 0} → (A → List ℕ) → (A → Type 0) → Type 0
IsClean {A} s P = (mark : ℕ) → mark ≤ 32 → (x : A) → P x → lacks mark (s x) ≡ true

abbrev pub HasNoEnd : {A : Type 0} → (A → List ℕ) → (A → Type 0) → Type 0
HasNoEnd {A} s P = (x : A) → P x → lacks 10 (s x) ≡ true

pub both_no_end : {A B : Type 0} (s : A → List ℕ) (t : B → List ℕ) (P : A → Type 0) (Q : B → Type 0) → IsClean s P → HasNoEnd t Q → HasNoEnd {A = A × B} (λ p. s p.0 ++ 32 ∷ t p.1) (λ p. P p.0 × Q p.1)
both_no_end s t P Q clean free = λ p h. lacks_join 10 (s p.0) (32 ∷ t p.1) (clean 10 (omega arith) p.0 h.0) (free p.1 h.1)

-- ---- lines

rest_is : IsSpelling (λ (rest : List ℕ). Some rest) (λ rest. rest) (λ rest. Unit {0})
rest_is = record { takes = λ w y e. (some_is w y e, tt); again = λ y fits. refl }

pub line_is : {A : Type 0} (read : List ℕ → Option A) (s : A → List ℕ) (P : A → Type 0) → IsSpelling read s P → HasNoEnd s P → IsSpelling (line_as read) (λ p. s p.0 ++ 10 ∷ p.1) (λ p. P p.0 × Unit {0})
line_is read s P is free = both_is 10 read (λ rest. Some rest) s (λ rest. rest) P (λ rest. Unit {0}) is rest_is free

-- ---- the lines before the history

pub title_is : IsSpelling title_of (λ line. line) (λ line. line ≡ title)
title_is = record {
  takes = λ w y e.
      let a = if_some (bytes_eq w title) w y e in
      (a.1, subst (λ (l : List ℕ). l ≡ title) a.1 ((bytes_eq-Decides w title).0 a.0));
  again = λ y fits. let same : bytes_eq y title ≡ true = (bytes_eq-Decides y title).1 fits in rw same refl;
}

pub title_no_end : HasNoEnd (λ line. line) (λ line. line ≡ title)
title_no_end = λ line is. subst (λ (l : List ℕ). lacks 10 l ≡ true) (sym is) refl

by_name : (word name number : List ℕ) (n : ℕ) (b : Bool) → bytes_eq word name ≡ b → cond b (number_of number) None ≡ Some n → (word ≡ name) × (number_of number ≡ Some n)
by_name word name number n true b e = ((bytes_eq-Decides word name).0 b, e)
by_name word name number n false b e = absurd cc

pub behind_is : (name : List ℕ) → lacks 32 name ≡ true → IsSpelling (number_behind name) (λ n. name ++ 32 ∷ decimal n) IsNumber
behind_is name free = record {
  takes = λ w n e.
      let c = bind_some (cut_at 32 w) (λ c. cond (bytes_eq c.0 name) (number_of c.1) None) n e in
      let b = by_name c.0.0 name c.0.1 n (bytes_eq c.0.0 name) refl c.2 in
      let k = number_is.takes c.0.1 n b.1 in
      (cut_takes 32 w c.0 c.1 ∙ ap (λ (l : List ℕ). l ++ 32 ∷ c.0.1) b.0 ∙ ap (λ (l : List ℕ). name ++ 32 ∷ l) k.0, k.1);
  again = λ n fits.
      let same : bytes_eq name name ≡ true = (bytes_eq-Decides name name).1 refl in
      rw (cut_again 32 name (decimal n) free, same, number_is.again n fits) refl;
}

pub behind_no_end : (name : List ℕ) → lacks 10 name ≡ true → HasNoEnd (λ n. name ++ 32 ∷ decimal n) IsNumber
behind_no_end name free = λ n fits. lacks_join 10 name (32 ∷ decimal n) free (number_lacks 10 n (omega arith) fits)

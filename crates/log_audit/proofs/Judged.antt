-- Lines that are good stay good where later ones are left out, and one line more is good where it goes with each before.
use Rattle.std.proofs.Common.{◌≡◌, ◌≢◌, ℕ, ◌+◌, ◌<◌, ◌≤◌, ◌⊎◌, inl, inr, true, List, [], ◌∷◌, ◌++◌, take, drop, refl, sym, subst, arith}
use Rattle.std.proofs.lemmas.List.{take-append-drop, take-take}
use Rattle.std.proofs.lemmas.Bool.{cases_lt}
use Rattle.far_base.specs.declared.record.Versioned.{Versioned}
use Rattle.far_model.specs.History.{nothing}
use Rattle.far_model.specs.Log.{is_read}
use Rattle.far_model.specs.Members.{Each, Pairs}
use Rattle.far_model.proofs.Members.{pairs_left}
use Rattle.log_audit.specs.Good.{IsFirstBad, IsGood, IsLegalFrom, held_of, map_with}
use Rattle.log_audit.specs.Walk.{map_after}
use Rattle.log_audit.specs.declared.line.HistLine.{HistLine}

-- ---- lists with one element more

pub each_left : {A : Type 0} (P : A → Type 0) (xs ys : List A) → Each P (xs ++ ys) → Each P xs
each_left P [] ys h = tt
each_left P (x ∷ xs) ys h = (h.0, each_left P xs ys h.1)

pub each_more : {A : Type 0} (P : A → Type 0) (xs : List A) (x : A) → Each P xs → P x → Each P (xs ++ x ∷ [])
each_more P [] x h p = (p, tt)
each_more P (y ∷ ys) x h p = (h.0, each_more P ys x h.1 p)

each_last : {A : Type 0} (P : A → Type 0) (xs : List A) (x : A) → Each P (xs ++ x ∷ []) → P x
each_last P [] x h = h.0
each_last P (y ∷ ys) x h = each_last P ys x h.1

pub pairs_more : {A : Type 0} (R : A → A → Type 0) (xs : List A) (x : A) → Pairs R xs → Each (λ y. R y x) xs → Pairs R (xs ++ x ∷ [])
pairs_more R [] x h k = (tt, tt)
pairs_more R (y ∷ ys) x h k = (each_more (R y) ys x h.0 k.0, pairs_more R ys x h.1 k.1)

pub pairs_last : {A : Type 0} (R : A → A → Type 0) (xs : List A) (x : A) → Pairs R (xs ++ x ∷ []) → Each (λ y. R y x) xs
pairs_last R [] x h = tt
pairs_last R (y ∷ ys) x h = (each_last (R y) ys x h.0, pairs_last R ys x h.1)

-- ---- the map

pub map_more : (map : List ℕ → Versioned) (lines : List HistLine) (l : HistLine) → map_after map (lines ++ l ∷ []) ≡ map_with (map_after map lines) l
map_more map [] l = refl
map_more map (x ∷ xs) l = map_more (map_with map x) xs l

legal_left : (map : List ℕ → Versioned) (xs ys : List HistLine) → IsLegalFrom map (xs ++ ys) → IsLegalFrom map xs
legal_left map [] ys h = tt
legal_left map (x ∷ xs) ys h = (h.0, legal_left (map_with map x) xs ys h.1)

legal_more : (map : List ℕ → Versioned) (xs : List HistLine) (l : HistLine) → IsLegalFrom map xs → (is_read l.kind ≡ true → held_of l ≡ map_after map xs l.key) → IsLegalFrom map (xs ++ l ∷ [])
legal_more map [] l h k = (k, tt)
legal_more map (x ∷ xs) l h k = (h.0, legal_more (map_with map x) xs l h.1 k)

legal_last : (map : List ℕ → Versioned) (xs : List HistLine) (l : HistLine) → IsLegalFrom map (xs ++ l ∷ []) → is_read l.kind ≡ true → held_of l ≡ map_after map xs l.key
legal_last map [] l h = h.0
legal_last map (x ∷ xs) l h = legal_last (map_with map x) xs l h.1

-- ---- good lines

abbrev unwritten : List ℕ → Versioned
unwritten key = nothing

-- what the next line has to go with
pub record GoesOn (lines : List HistLine) (l : HistLine) : Type 0 where
  pub new_op : Each (λ (x : HistLine). x.op ≢ l.op) lines
  pub span : l.sent < l.answered
  pub legal : is_read l.kind ≡ true → held_of l ≡ map_after (λ key. nothing) lines l.key
  pub later : Each (λ (x : HistLine). x.sent ≤ l.answered) lines

pub good_none : IsGood []
good_none = record { differ = tt; spans = tt; legal = tt; in_time = tt }

pub good_left : (xs ys : List HistLine) → IsGood (xs ++ ys) → IsGood xs
good_left xs ys h = record {
  differ = pairs_left (λ (x y : HistLine). x.op ≢ y.op) xs ys h.differ;
  spans = each_left (λ (l : HistLine). l.sent < l.answered) xs ys h.spans;
  legal = legal_left unwritten xs ys h.legal;
  in_time = pairs_left (λ (earlier later : HistLine). earlier.sent ≤ later.answered) xs ys h.in_time;
}

pub good_more : (lines : List HistLine) (l : HistLine) → IsGood lines → GoesOn lines l → IsGood (lines ++ l ∷ [])
good_more lines l h k = record {
  differ = pairs_more (λ (x y : HistLine). x.op ≢ y.op) lines l h.differ k.new_op;
  spans = each_more (λ (x : HistLine). x.sent < x.answered) lines l h.spans k.span;
  legal = legal_more unwritten lines l h.legal k.legal;
  in_time = pairs_more (λ (earlier later : HistLine). earlier.sent ≤ later.answered) lines l h.in_time k.later;
}

pub good_last : (lines : List HistLine) (l : HistLine) → IsGood (lines ++ l ∷ []) → GoesOn lines l
good_last lines l h = record {
  new_op = pairs_last (λ (x y : HistLine). x.op ≢ y.op) lines l h.differ;
  span = each_last (λ (x : HistLine). x.sent < x.answered) lines l h.spans;
  legal = legal_last unwritten lines l h.legal;
  later = pairs_last (λ (earlier later : HistLine). earlier.sent ≤ later.answered) lines l h.in_time;
}

pub good_take : (lines : List HistLine) (fewer count : ℕ) → fewer ≤ count → IsGood (take count lines) → IsGood (take fewer lines)
good_take lines fewer count le h =
    let whole : IsGood (take fewer (take count lines) ++ drop fewer (take count lines)) = subst IsGood (sym (take-append-drop fewer (take count lines))) h in
    subst IsGood (take-take fewer count lines le) (good_left (take fewer (take count lines)) (drop fewer (take count lines)) whole)

-- the first lines are good, and with one more they are not
pub first_bad : (lines : List HistLine) (count more : ℕ) (l : HistLine) → more ≡ count + 1 → take more lines ≡ take count lines ++ l ∷ [] → IsGood (take count lines) → ¬ (IsGood (take count lines ++ l ∷ [])) → IsFirstBad lines more
first_bad lines count more l next is good bad = record {
  bad = λ h. bad (subst IsGood is h);
  before = λ fewer lt. good_take lines fewer count (omega (arith, lt, next)) good;
}

-- lines are good, or have a first number of lines that are not, and never both
pub judged_once : (lines : List HistLine) (count : ℕ) → IsGood lines → IsFirstBad lines count → ⊥
judged_once lines count h k = k.bad (good_left (take count lines) (drop count lines) (subst IsGood (sym (take-append-drop count lines)) h))

pub one_first_bad : (lines : List HistLine) (a b : ℕ) → IsFirstBad lines a → IsFirstBad lines b → a ≤ b
one_first_bad lines a b h k = go (cases_lt b a)
  where
    go : (b < a) ⊎ (a ≤ b) → a ≤ b
    go (inl lt) = absurd (k.bad (h.before b lt))
    go (inr le) = le

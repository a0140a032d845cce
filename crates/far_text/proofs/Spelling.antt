-- Numbers, keys and bodies have one spelling each.
use Rattle.std.proofs.Common.{◌≡◌, ℕ, zero, suc, ◌-◌, ◌^◌, ◌<◌, ◌≤◌, Bool, true, false, not, ◌&&◌, cond, List, [], ◌∷◌, ◌++◌, length, take, drop, replicate, refl, sym, ap, subst, ◌∙◌, arith}
use Rattle.std.specs.Prelude.{Option, Some, None, IfSome, nat_eq, nat_le, decimal, bytes_eq, codes}
use Rattle.std.specs.List.{list_all}
use Rattle.std.proofs.lemmas.Bool.Decides.{nat_tests}
use Rattle.std.proofs.lemmas.List.{take_at, drop_at, drop_all, take-append-drop}
use Rattle.std.proofs.lemmas.Slice.Eq.{bytes_eq-Decides}
use Rattle.far_base.specs.Key.{is_visible, is_key_text, is_key, all_zero, visible_then_zeros, starts_visible, key_text}
use Rattle.far_base.specs.Padded.{padded}
use Rattle.far_base.specs.declared.body.TheConstants.{BODY_LIMIT}
use Rattle.far_base.specs.declared.key.TheConstants.{KEY_LENGTH}
use Rattle.far_base.proofs.Keys.{padded_is_key}
use Rattle.far_text.specs.Numbers.{is_digit, is_number, value_from, number_of, IsNumber}
use Rattle.far_text.specs.Options.{◌>>=◌}
use Rattle.far_text.specs.Pieces.{Pieces, with_byte, pieces, until, ended, cut_at, lacks}
use Rattle.far_text.specs.Text.{body_word}
use Rattle.far_text.specs.Words.{key_of, IsKey, body_bytes_of, short_body, body_of, IsVisible, IsBody}
use Rattle.far_text.specs.declared.words.TheConstants.{NUMBER_LIMIT}
use Rattle.far_text.proofs.Cuts.{some_piece}
use Rattle.far_text.proofs.Digits.{and_true, both_true, value_small, value_spelled, decimal_is_number, decimal_value, decimal_digits}

abbrev there : {A : Type 0} → A → Option A
there x = Some x

pub some_is : {A : Type 0} (x y : A) → there x ≡ there y → x ≡ y
some_is x y e = cc

pub bind_some : {A B : Type 0} (r : Option A) (f : A → Option B) (y : B) → (r >>= f) ≡ Some y → (x : A) × (r ≡ Some x) × (f x ≡ Some y)
bind_some (Some x) f y e = (x, refl, e)
bind_some None f y e = absurd cc

pub if_some : {A : Type 0} (b : Bool) (x y : A) → cond b (Some x) None ≡ Some y → (b ≡ true) × (x ≡ y)
if_some true x y e = (refl, cc)
if_some false x y e = absurd cc

-- ---- a byte that does not occur

pub lacks_join : (mark : ℕ) (xs ys : List ℕ) → lacks mark xs ≡ true → lacks mark ys ≡ true → lacks mark (xs ++ ys) ≡ true
lacks_join mark [] ys h k = k
lacks_join mark (x ∷ xs) ys h k =
    let a : (not (nat_eq x mark) ≡ true) × (lacks mark xs ≡ true) = and_true _ _ h in
    both_true _ _ a.0 (lacks_join mark xs ys a.1 k)

pub visible_lacks : (mark : ℕ) (bytes : List ℕ) → mark ≤ 32 → list_all is_visible bytes ≡ true → lacks mark bytes ≡ true
visible_lacks mark [] le h = refl
visible_lacks mark (b ∷ bs) le h =
    let a : (is_visible b ≡ true) × (list_all is_visible bs ≡ true) = and_true _ _ h in
    let c : (nat_le 33 b ≡ true) × (nat_le b 126 ≡ true) = and_true _ _ a.0 in
    let low : 33 ≤ b = grind (arith, nat_tests) in
    let e : nat_eq b mark ≡ false = grind (arith, nat_tests) in
    both_true _ _ (ap not e) (visible_lacks mark bs le a.1)

other : (b mark : ℕ) → not (nat_eq b mark) ≡ true → nat_eq b mark ≡ false
other b mark h = elim (nat_eq b mark) as (λ v. not v ≡ true → v ≡ false) [
  | true ↦ λ k. absurd cc
  | false ↦ λ k. refl
] h

until_word : (mark : ℕ) (w rest : List ℕ) → lacks mark w ≡ true → until mark (w ++ mark ∷ rest) ≡ length w
until_word mark [] rest h = let e : nat_eq mark mark ≡ true = grind (arith, nat_tests) in rw e refl
until_word mark (b ∷ bs) rest h =
    let a : (not (nat_eq b mark) ≡ true) × (lacks mark bs ≡ true) = and_true _ _ h in
    rw (other b mark a.0) (ap suc (until_word mark bs rest a.1))

pub cut_again : (mark : ℕ) (w rest : List ℕ) → lacks mark w ≡ true → cut_at mark (w ++ mark ∷ rest) ≡ Some (w, rest)
cut_again mark w rest h = rw (until_word mark w rest h, take_at w (mark ∷ rest) (length w) refl, drop_at w (mark ∷ rest) (length w) refl) refl

until_none : (mark : ℕ) (w : List ℕ) → lacks mark w ≡ true → until mark w ≡ length w
until_none mark [] h = refl
until_none mark (b ∷ bs) h =
    let a : (not (nat_eq b mark) ≡ true) × (lacks mark bs ≡ true) = and_true _ _ h in
    rw (other b mark a.0) (ap suc (until_none mark bs a.1))

pub cut_none : (mark : ℕ) (w : List ℕ) → lacks mark w ≡ true → cut_at mark w ≡ None
cut_none mark w h = rw (until_none mark w h, drop_all (length w) w (omega arith)) refl

stops : (mark : ℕ) (bytes : List ℕ) (e : ℕ) (rest : List ℕ) → drop (until mark bytes) bytes ≡ e ∷ rest → e ≡ mark
stops mark [] e rest h = absurd cc
stops mark (b ∷ bs) e rest given =
    elim (nat_eq b mark) as (λ v. nat_eq b mark ≡ v → drop (cond v 0 (suc (until mark bs))) (b ∷ bs) ≡ e ∷ rest → e ≡ mark) [
      | true ↦ λ h k. let same : b ≡ e = cc in let m : b ≡ mark = grind (arith, nat_tests) in sym same ∙ m
      | false ↦ λ h k. stops mark bs e rest k
    ] refl given

ended_takes : (front after : List ℕ) (x : List ℕ × List ℕ) → ended front after ≡ Some x → (e : ℕ) × (front ≡ x.0) × (after ≡ e ∷ x.1)
ended_takes front [] x e = absurd cc
ended_takes front (c ∷ rest) x e =
    let whole : List ℕ × List ℕ = (front, rest) in
    subst (λ (y : List ℕ × List ℕ). (e : ℕ) × (front ≡ y.0) × (c ∷ rest ≡ e ∷ y.1)) (some_is whole x e) (c, refl, refl)

pub cut_takes : (mark : ℕ) (bytes : List ℕ) (x : List ℕ × List ℕ) → cut_at mark bytes ≡ Some x → bytes ≡ x.0 ++ mark ∷ x.1
cut_takes mark bytes x e =
    let a = ended_takes (take (until mark bytes) bytes) (drop (until mark bytes) bytes) x e in
    let m : a.0 ≡ mark = stops mark bytes a.0 x.1 a.2 in
    sym (take-append-drop (until mark bytes) bytes) ∙ ap (λ (l : List ℕ). l ++ drop (until mark bytes) bytes) a.1 ∙ ap (λ (l : List ℕ). x.0 ++ l) a.2 ∙ ap (λ (k : ℕ). x.0 ++ k ∷ x.1) m

-- ---- pieces

pub pieces_word : (mark : ℕ) (w : List ℕ) → lacks mark w ≡ true → pieces mark w ≡ w ∷ []
pieces_word mark [] h = refl
pieces_word mark (b ∷ bs) h =
    let a : (not (nat_eq b mark) ≡ true) × (lacks mark bs ≡ true) = and_true _ _ h in
    rw (other b mark a.0, pieces_word mark bs a.1) refl

pub pieces_more : (mark : ℕ) (w rest : List ℕ) → lacks mark w ≡ true → pieces mark (w ++ mark ∷ rest) ≡ w ∷ pieces mark rest
pieces_more mark [] rest h = let e : nat_eq mark mark ≡ true = grind (arith, nat_tests) in rw e refl
pieces_more mark (b ∷ bs) rest h =
    let a : (not (nat_eq b mark) ≡ true) × (lacks mark bs ≡ true) = and_true _ _ h in
    rw (other b mark a.0, pieces_more mark bs rest a.1) refl

-- pieces with the byte between them
abbrev pub joined : ℕ → Pieces → List ℕ
joined mark [] = []
joined mark (piece ∷ []) = piece
joined mark (piece ∷ next ∷ more) = piece ++ mark ∷ joined mark (next ∷ more)

with_first : (mark b : ℕ) (lines : Pieces) (first : List ℕ) (more : Pieces) → lines ≡ first ∷ more → joined mark (with_byte b lines) ≡ b ∷ joined mark lines
with_first mark b lines first [] e = rw e refl
with_first mark b lines first (next ∷ more) e = rw e refl

pub pieces_join : (mark : ℕ) (bytes : List ℕ) → joined mark (pieces mark bytes) ≡ bytes
pieces_join mark [] = refl
pieces_join mark (b ∷ bs) =
    let p = some_piece mark bs in
    elim (nat_eq b mark) as (λ v. nat_eq b mark ≡ v → joined mark (cond v ([] ∷ pieces mark bs) (with_byte b (pieces mark bs))) ≡ b ∷ bs) [
      | true ↦ λ e.
          let m : mark ≡ b = grind (arith, nat_tests) in
          let k : joined mark ([] ∷ pieces mark bs) ≡ mark ∷ joined mark (pieces mark bs) = rw p.2 refl in
          k ∙ ap (λ (l : List ℕ). mark ∷ l) (pieces_join mark bs) ∙ ap (λ (c : ℕ). c ∷ bs) m
      | false ↦ λ e. with_first mark b (pieces mark bs) p.0 p.1 p.2 ∙ ap (λ (l : List ℕ). b ∷ l) (pieces_join mark bs)
    ] refl

-- ---- what has one spelling

pub record IsSpelling {B : Type 0} (parse : List ℕ → Option B) (spell : B → List ℕ) (Fits : B → Type 0) : Type 0 where
  pub takes : (w : List ℕ) (y : B) → parse w ≡ Some y → (w ≡ spell y) × Fits y
  pub again : (y : B) → Fits y → parse (spell y) ≡ Some y

pub number_is : IsSpelling number_of decimal IsNumber
number_is = record {
  takes = λ w n e.
      let a = if_some (is_number w) (value_from 0 w) n e in
      let small : value_from 0 w ≤ NUMBER_LIMIT = omega (arith, value_small w a.0) in
      (sym (value_spelled w a.0) ∙ ap decimal a.1, subst IsNumber a.1 small);
  again = λ n fits.
      let lt : n < 10 ^ 19 = omega (arith, fits) in
      rw (decimal_is_number n lt, decimal_value n lt) refl;
}

digits_visible : (w : List ℕ) → list_all is_digit w ≡ true → list_all is_visible w ≡ true
digits_visible [] h = refl
digits_visible (c ∷ cs) h =
    let a : (is_digit c ≡ true) × (list_all is_digit cs ≡ true) = and_true _ _ h in
    let b : (nat_le 48 c ≡ true) × (nat_le c 57 ≡ true) = and_true _ _ a.0 in
    let low : nat_le 33 c ≡ true = grind (arith, nat_tests) in
    let high : nat_le c 126 ≡ true = grind (arith, nat_tests) in
    both_true _ _ (both_true _ _ low high) (digits_visible cs a.1)

pub number_visible : (n : ℕ) → n < 10 ^ 19 → list_all is_visible (decimal n) ≡ true
number_visible n lt = digits_visible (decimal n) (decimal_digits n lt)

pub number_lacks : (mark n : ℕ) → mark ≤ 32 → IsNumber n → lacks mark (decimal n) ≡ true
number_lacks mark n le fits = visible_lacks mark (decimal n) le (number_visible n (omega (arith, fits)))

-- ---- keys

text_zeros : (k : ℕ) → key_text (replicate k 0) ≡ []
text_zeros zero = refl
text_zeros (suc k) = refl

text_front : (text : List ℕ) (k : ℕ) → list_all is_visible text ≡ true → key_text (text ++ replicate k 0) ≡ text
text_front [] k h = text_zeros k
text_front (zero ∷ bs) k h = absurd cc
text_front (suc b ∷ bs) k h =
    let a : (is_visible (suc b) ≡ true) × (list_all is_visible bs ≡ true) = and_true _ _ h in
    ap (λ (l : List ℕ). suc b ∷ l) (text_front bs k a.1)

all_zeros : (bytes : List ℕ) → all_zero bytes ≡ true → bytes ≡ replicate (length bytes) 0
all_zeros [] h = refl
all_zeros (zero ∷ bs) h = ap (λ (l : List ℕ). 0 ∷ l) (all_zeros bs h)
all_zeros (suc b ∷ bs) h =
    let a : (nat_eq (suc b) 0 ≡ true) × (all_zero bs ≡ true) = and_true _ _ h in
    let z : suc b ≡ 0 = grind (arith, nat_tests) in
    absurd (omega (arith, z))

-- visible bytes and zeros are their text and zeros
parts : (bytes : List ℕ) → visible_then_zeros bytes ≡ true → (bytes ≡ key_text bytes ++ replicate (length bytes - length (key_text bytes)) 0) × (length (key_text bytes) ≤ length bytes) × (list_all is_visible (key_text bytes) ≡ true)
parts [] h = (refl, omega arith, refl)
parts (zero ∷ bs) h =
    let n : suc (length bs) - 0 ≡ suc (length bs) = omega arith in
    (rw n (ap (λ (l : List ℕ). 0 ∷ l) (all_zeros bs h)), omega arith, refl)
parts (suc b ∷ bs) h =
    let a : (is_visible (suc b) ≡ true) × (visible_then_zeros bs ≡ true) = and_true _ _ h in
    let r = parts bs a.1 in
    let n : suc (length bs) - suc (length (key_text bs)) ≡ length bs - length (key_text bs) = omega arith in
    (ap (λ (l : List ℕ). suc b ∷ l) r.0 ∙ ap (λ (k : ℕ). suc b ∷ (key_text bs ++ replicate k 0)) (sym n), omega (arith, r.1), both_true _ _ a.0 r.2)

some_text : (bytes : List ℕ) → starts_visible bytes ≡ true → 1 ≤ length (key_text bytes)
some_text [] h = absurd cc
some_text (zero ∷ bs) h = absurd cc
some_text (suc b ∷ bs) h = omega arith

pub record IsKeyParts (key : List ℕ) : Type 0 where
  pub text : is_key_text (key_text key) ≡ true
  pub whole : padded KEY_LENGTH (key_text key) ≡ key
  pub visible : list_all is_visible (key_text key) ≡ true

pub key_parts : (key : List ℕ) → is_key key ≡ true → IsKeyParts key
key_parts key h =
    let a : (nat_eq (length key) KEY_LENGTH ≡ true) × ((starts_visible key && visible_then_zeros key) ≡ true) = and_true _ _ h in
    let b : (starts_visible key ≡ true) × (visible_then_zeros key ≡ true) = and_true _ _ a.1 in
    let n : length key ≡ KEY_LENGTH = grind (arith, nat_tests) in
    let p = parts key b.1 in
    let some : 1 ≤ length (key_text key) = some_text key b.0 in
    let short : length (key_text key) ≤ KEY_LENGTH = omega (arith, p.1, n) in
    let low : nat_le 1 (length (key_text key)) ≡ true = grind (arith, nat_tests) in
    let high : nat_le (length (key_text key)) KEY_LENGTH ≡ true = grind (arith, nat_tests) in
    record {
      text = both_true _ _ (both_true _ _ low high) p.2;
      whole = ap (λ (k : ℕ). key_text key ++ replicate (k - length (key_text key)) 0) (sym n) ∙ sym p.0;
      visible = p.2;
    }

pub key_is : IsSpelling key_of key_text IsKey
key_is = record {
  takes = λ w key e.
      let a = if_some (is_key_text w) (padded KEY_LENGTH w) key e in
      let v : ((nat_le 1 (length w) && nat_le (length w) KEY_LENGTH) ≡ true) × (list_all is_visible w ≡ true) = and_true _ _ a.0 in
      (sym (text_front w (KEY_LENGTH - length w) v.1) ∙ ap key_text a.1, subst (λ (k : List ℕ). is_key k ≡ true) a.1 (padded_is_key w a.0));
  again = λ key fits.
      let p = key_parts key fits in
      rw (p.text, p.whole) refl;
}

pub key_lacks : (mark : ℕ) (key : List ℕ) → mark ≤ 32 → IsKey key → lacks mark (key_text key) ≡ true
key_lacks mark key le fits = visible_lacks mark (key_text key) le (key_parts key fits).visible

-- ---- bodies

bytes_takes : (w text : List ℕ) → body_bytes_of w ≡ Some text → (w ≡ body_word (Some text)) × IsVisible text
bytes_takes [] text e = absurd cc
bytes_takes (c ∷ bs) text e =
    let a = if_some (nat_eq c 61 && list_all is_visible bs) bs text e in
    let b : (nat_eq c 61 ≡ true) × (list_all is_visible bs ≡ true) = and_true _ _ a.0 in
    let first : c ≡ 61 = grind (arith, nat_tests) in
    subst (λ (y : List ℕ). (c ∷ bs ≡ 61 ∷ y) × (list_all is_visible y ≡ true)) a.1 (ap (λ (d : ℕ). d ∷ bs) first, b.1)

-- bytes of a body that is there
pub bytes_is : IsSpelling body_bytes_of (λ text. body_word (Some text)) IsVisible
bytes_is = record { takes = bytes_takes; again = λ text fits. rw fits refl }

by_bytes : (w : List ℕ) (read : Option (List ℕ)) (body : Option (List ℕ)) → body_bytes_of w ≡ read → (read >>= short_body) ≡ Some body → (w ≡ body_word body) × IsBody body
by_bytes w None body r e = absurd cc
by_bytes w (Some text) body r e =
    let a = if_some (nat_le (length text) BODY_LIMIT) (Some text) body e in
    let t = bytes_takes w text r in
    let a0 : nat_le (length text) BODY_LIMIT ≡ true = a.0 in
    let short : length text ≤ BODY_LIMIT = grind (arith, nat_tests) in
    subst (λ (y : Option (List ℕ)). (w ≡ body_word y) × IsBody y) a.1 (t.0, (t.1, short))

body_takes : (w : List ℕ) (body : Option (List ℕ)) → body_of w ≡ Some body → (w ≡ body_word body) × IsBody body
body_takes w body given =
    elim (bytes_eq w (codes "-")) as (λ b. bytes_eq w (codes "-") ≡ b → cond b (Some None) (body_bytes_of w >>= short_body) ≡ Some body → (w ≡ body_word body) × IsBody body) [
      | true ↦ λ e k. subst (λ (y : Option (List ℕ)). (w ≡ body_word y) × IsBody y) (some_is None body k) ((bytes_eq-Decides w (codes "-")).0 e, tt)
      | false ↦ λ e k. by_bytes w (body_bytes_of w) body refl k
    ] refl given

body_again : (body : Option (List ℕ)) → IsBody body → body_of (body_word body) ≡ Some body
body_again None fits = refl
body_again (Some text) fits =
    let short : length text ≤ BODY_LIMIT = fits.1 in
    let k : nat_le (length text) BODY_LIMIT ≡ true = grind (arith, nat_tests) in
    rw (fits.0) (rw k refl)

-- a body that may be absent
pub body_is : IsSpelling body_of body_word IsBody
body_is = record { takes = body_takes; again = body_again }

-- ---- what a function answers that reads such a word

pub found_by : {B : Type 0} {parse : List ℕ → Option B} {spell : B → List ℕ} {Fits : B → Type 0} → IsSpelling parse spell Fits
    → (w : List ℕ) (result : Option B) → result ≡ parse w → IfSome result (λ y. (w ≡ spell y) × Fits y)
found_by is w None e = tt
found_by is w (Some y) e = is.takes w y (sym e)

pub only_by : {B : Type 0} {parse : List ℕ → Option B} {spell : B → List ℕ} {Fits : B → Type 0} → IsSpelling parse spell Fits
    → (w : List ℕ) (result : Option B) → result ≡ parse w → (y : B) → Fits y → w ≡ spell y → result ≡ Some y
only_by {B} {parse} {spell} is w result e y fits s = e ∙ ap parse s ∙ is.again y fits

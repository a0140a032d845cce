-- A line of a history has one spelling.
use Rattle.std.proofs.Common.{◌≡◌, ℕ, ◌<◌, ◌≤◌, Bool, true, false, cond, List, [], ◌∷◌, ◌++◌, refl, ap, ◌∙◌, subst, arith, append_assoc}
use Rattle.std.specs.Prelude.{Option, Some, None, bytes_eq, codes, decimal, nat_lt}
use Rattle.std.proofs.lemmas.Bool.Decides.{nat_tests}
use Rattle.std.proofs.lemmas.Slice.Eq.{bytes_eq-Decides}
use Rattle.far_base.specs.Key.{key_text}
use Rattle.far_base.specs.declared.plan.Op.{Op}
use Rattle.far_base.specs.declared.plan.Op.TheVariants.{Get, Put, Del}
use Rattle.far_base.specs.declared.plan.TheConstants.{CLIENT_LIMIT}
use Rattle.far_history.specs.Report.{kind_word, source_word}
use Rattle.far_text.specs.Numbers.{IsNumber, number_of}
use Rattle.far_text.specs.Pieces.{lacks}
use Rattle.far_text.specs.Text.{body_word}
use Rattle.far_text.specs.Words.{IsBody, IsKey, body_of, key_of}
use Rattle.far_text.proofs.Spelling.{IsSpelling, bind_some, body_is, if_some, key_is, key_lacks, number_is, number_lacks, some_is, visible_lacks}
use Rattle.log_audit.specs.Form.{IsHistLine, hist_line}
use Rattle.log_audit.specs.Words.{HistWords, above_zero, client_of, client_within, fits_kind, hist_of, if_fitting, kind_of, line_as, line_with, near_of, op_of, read_both, words_of}
use Rattle.log_audit.specs.declared.line.HistLine.{HistLine}
use Rattle.log_audit.proofs.Spelled.{HasNoEnd, IsClean, both_is, both_no_end, line_is}

-- ---- numbers

abbrev IsOp : ℕ → Type 0
IsOp n = IsNumber n × (0 < n)

op_is : IsSpelling op_of decimal IsOp
op_is = record {
  takes = λ w n e.
      let a = bind_some (number_of w) above_zero n e in
      let b = if_some (nat_lt 0 a.0) a.0 n a.2 in
      let t : nat_lt 0 a.0 ≡ true = b.0 in
      let above : 0 < a.0 = grind (arith, nat_tests) in
      let k = number_is.takes w a.0 a.1 in
      subst (λ (m : ℕ). (w ≡ decimal m) × (IsNumber m × (0 < m))) b.1 (k.0, (k.1, above));
  again = λ n fits.
      let above : 0 < n = fits.1 in
      let t : nat_lt 0 n ≡ true = grind (arith, nat_tests) in
      rw (number_is.again n fits.0, t) refl;
}

abbrev IsClient : ℕ → Type 0
IsClient n = n < CLIENT_LIMIT

client_number : (n : ℕ) → n < CLIENT_LIMIT → IsNumber n
client_number n small = omega (arith, small)

client_is : IsSpelling client_of decimal IsClient
client_is = record {
  takes = λ w n e.
      let a = bind_some (number_of w) client_within n e in
      let b = if_some (nat_lt a.0 CLIENT_LIMIT) a.0 n a.2 in
      let t : nat_lt a.0 CLIENT_LIMIT ≡ true = b.0 in
      let small : a.0 < CLIENT_LIMIT = grind (arith, nat_tests) in
      subst (λ (m : ℕ). (w ≡ decimal m) × (m < CLIENT_LIMIT)) b.1 ((number_is.takes w a.0 a.1).0, small);
  again = λ n small.
      let t : nat_lt n CLIENT_LIMIT ≡ true = grind (arith, nat_tests) in
      rw (number_is.again n (client_number n small), t) refl;
}

number_clean : IsClean decimal IsNumber
number_clean = λ mark le n fits. number_lacks mark n le fits

op_clean : IsClean decimal IsOp
op_clean = λ mark le n fits. number_lacks mark n le fits.0

client_clean : IsClean decimal IsClient
client_clean = λ mark le n small. number_lacks mark n le (client_number n small)

-- ---- words of a few

abbrev AnyKind : Op → Type 0
AnyKind kind = Unit {0}

abbrev AnySource : Bool → Type 0
AnySource near = Unit {0}

kind_is : IsSpelling kind_of kind_word AnyKind
kind_is = record { takes = λ w y e. first w y (bytes_eq w (codes "get")) refl e; again = again }
  where
    named : (w name : List ℕ) → bytes_eq w name ≡ true → w ≡ name
    named w name b = (bytes_eq-Decides w name).0 b

    one : (w : List ℕ) (x y : Op) → w ≡ kind_word x → Some x ≡ Some y → (w ≡ kind_word y) × Unit {0}
    one w x y is e = (is ∙ ap kind_word (some_is x y e), tt)

    third : (w : List ℕ) (y : Op) (b : Bool) → bytes_eq w (codes "del") ≡ b → cond b (Some Del) None ≡ Some y → (w ≡ kind_word y) × Unit {0}
    third w y true b e = one w Del y (named w (codes "del") b) e
    third w y false b e = absurd cc

    second : (w : List ℕ) (y : Op) (b : Bool) → bytes_eq w (codes "put") ≡ b → cond b (Some Put) (cond (bytes_eq w (codes "del")) (Some Del) None) ≡ Some y → (w ≡ kind_word y) × Unit {0}
    second w y true b e = one w Put y (named w (codes "put") b) e
    second w y false b e = third w y (bytes_eq w (codes "del")) refl e

    first : (w : List ℕ) (y : Op) (b : Bool) → bytes_eq w (codes "get") ≡ b → cond b (Some Get) (cond (bytes_eq w (codes "put")) (Some Put) (cond (bytes_eq w (codes "del")) (Some Del) None)) ≡ Some y → (w ≡ kind_word y) × Unit {0}
    first w y true b e = one w Get y (named w (codes "get") b) e
    first w y false b e = second w y (bytes_eq w (codes "put")) refl e

    again : (y : Op) → Unit {0} → kind_of (kind_word y) ≡ Some y
    again Get fits = refl
    again Put fits = refl
    again Del fits = refl

kind_clean : IsClean kind_word AnyKind
kind_clean = go
  where
    go : (mark : ℕ) → mark ≤ 32 → (y : Op) → Unit {0} → lacks mark (kind_word y) ≡ true
    go mark le Get fits = visible_lacks mark (codes "get") le refl
    go mark le Put fits = visible_lacks mark (codes "put") le refl
    go mark le Del fits = visible_lacks mark (codes "del") le refl

near_is : IsSpelling near_of source_word AnySource
near_is = record { takes = λ w y e. first w y (bytes_eq w (codes "switch")) refl e; again = again }
  where
    one : (w : List ℕ) (x y : Bool) → w ≡ source_word x → Some x ≡ Some y → (w ≡ source_word y) × Unit {0}
    one w x y is e = (is ∙ ap source_word (some_is x y e), tt)

    second : (w : List ℕ) (y b : Bool) → bytes_eq w (codes "server") ≡ b → cond b (Some false) None ≡ Some y → (w ≡ source_word y) × Unit {0}
    second w y true b e = one w false y ((bytes_eq-Decides w (codes "server")).0 b) e
    second w y false b e = absurd cc

    first : (w : List ℕ) (y b : Bool) → bytes_eq w (codes "switch") ≡ b → cond b (Some true) (cond (bytes_eq w (codes "server")) (Some false) None) ≡ Some y → (w ≡ source_word y) × Unit {0}
    first w y true b e = one w true y ((bytes_eq-Decides w (codes "switch")).0 b) e
    first w y false b e = second w y (bytes_eq w (codes "server")) refl e

    again : (y : Bool) → Unit {0} → near_of (source_word y) ≡ Some y
    again true fits = refl
    again false fits = refl

near_clean : IsClean source_word AnySource
near_clean = go
  where
    go : (mark : ℕ) → mark ≤ 32 → (y : Bool) → Unit {0} → lacks mark (source_word y) ≡ true
    go mark le true fits = visible_lacks mark (codes "switch") le refl
    go mark le false fits = visible_lacks mark (codes "server") le refl

key_clean : IsClean key_text IsKey
key_clean = λ mark le key fits. key_lacks mark key le fits

body_clean : IsClean body_word IsBody
body_clean = go
  where
    go : (mark : ℕ) → mark ≤ 32 → (body : Option (List ℕ)) → IsBody body → lacks mark (body_word body) ≡ true
    go mark le None fits = visible_lacks mark (codes "-") le refl
    go mark le (Some text) fits = visible_lacks mark (61 ∷ text) le fits.0

free : {A : Type 0} (s : A → List ℕ) (P : A → Type 0) → IsClean s P → (x : A) → P x → lacks 32 (s x) ≡ true
free s P clean = λ x h. clean 32 (omega arith) x h

-- ---- the words in their order

abbrev Times : Type 0
Times = ℕ × ℕ

abbrev times_text : Times → List ℕ
times_text w = decimal w.0 ++ 32 ∷ decimal w.1

abbrev AreTimes : Times → Type 0
AreTimes w = IsNumber w.0 × IsNumber w.1

abbrev read_times : List ℕ → Option Times
read_times = read_both 32 number_of number_of

times_is : IsSpelling read_times times_text AreTimes
times_is = both_is 32 number_of number_of decimal decimal IsNumber IsNumber number_is number_is (free decimal IsNumber number_clean)

times_no_end : HasNoEnd times_text AreTimes
times_no_end = both_no_end decimal decimal IsNumber IsNumber number_clean (λ n fits. number_lacks 10 n (omega arith) fits)

abbrev from_text : Bool × Times → List ℕ
from_text w = source_word w.0 ++ 32 ∷ times_text w.1

abbrev IsFrom : Bool × Times → Type 0
IsFrom w = Unit {0} × AreTimes w.1

abbrev read_from : List ℕ → Option (Bool × Times)
read_from = read_both 32 near_of read_times

from_is : IsSpelling read_from from_text IsFrom
from_is = both_is 32 near_of read_times source_word times_text AnySource AreTimes near_is times_is (free source_word AnySource near_clean)

from_no_end : HasNoEnd from_text IsFrom
from_no_end = both_no_end source_word times_text AnySource AreTimes near_clean times_no_end

abbrev Held : Type 0
Held = Option (List ℕ) × (Bool × Times)

abbrev held_text : Held → List ℕ
held_text w = body_word w.0 ++ 32 ∷ from_text w.1

abbrev IsHeld : Held → Type 0
IsHeld w = IsBody w.0 × IsFrom w.1

abbrev read_held : List ℕ → Option Held
read_held = read_both 32 body_of read_from

held_is : IsSpelling read_held held_text IsHeld
held_is = both_is 32 body_of read_from body_word from_text IsBody IsFrom body_is from_is (free body_word IsBody body_clean)

held_no_end : HasNoEnd held_text IsHeld
held_no_end = both_no_end body_word from_text IsBody IsFrom body_clean from_no_end

abbrev numbered_text : ℕ × Held → List ℕ
numbered_text w = decimal w.0 ++ 32 ∷ held_text w.1

abbrev IsNumbered : ℕ × Held → Type 0
IsNumbered w = IsNumber w.0 × IsHeld w.1

abbrev read_numbered : List ℕ → Option (ℕ × Held)
read_numbered = read_both 32 number_of read_held

numbered_is : IsSpelling read_numbered numbered_text IsNumbered
numbered_is = both_is 32 number_of read_held decimal held_text IsNumber IsHeld number_is held_is (free decimal IsNumber number_clean)

numbered_no_end : HasNoEnd numbered_text IsNumbered
numbered_no_end = both_no_end decimal held_text IsNumber IsHeld number_clean held_no_end

abbrev Keyed : Type 0
Keyed = List ℕ × (ℕ × Held)

abbrev keyed_text : Keyed → List ℕ
keyed_text w = key_text w.0 ++ 32 ∷ numbered_text w.1

abbrev IsKeyed : Keyed → Type 0
IsKeyed w = IsKey w.0 × IsNumbered w.1

abbrev read_keyed : List ℕ → Option Keyed
read_keyed = read_both 32 key_of read_numbered

keyed_is : IsSpelling read_keyed keyed_text IsKeyed
keyed_is = both_is 32 key_of read_numbered key_text numbered_text IsKey IsNumbered key_is numbered_is (free key_text IsKey key_clean)

keyed_no_end : HasNoEnd keyed_text IsKeyed
keyed_no_end = both_no_end key_text numbered_text IsKey IsNumbered key_clean numbered_no_end

abbrev kinds_text : Op × Keyed → List ℕ
kinds_text w = kind_word w.0 ++ 32 ∷ keyed_text w.1

abbrev IsOfKind : Op × Keyed → Type 0
IsOfKind w = Unit {0} × IsKeyed w.1

abbrev read_kind : List ℕ → Option (Op × Keyed)
read_kind = read_both 32 kind_of read_keyed

kinds_are : IsSpelling read_kind kinds_text IsOfKind
kinds_are = both_is 32 kind_of read_keyed kind_word keyed_text AnyKind IsKeyed kind_is keyed_is (free kind_word AnyKind kind_clean)

kinds_no_end : HasNoEnd kinds_text IsOfKind
kinds_no_end = both_no_end kind_word keyed_text AnyKind IsKeyed kind_clean keyed_no_end

abbrev Asked : Type 0
Asked = ℕ × (Op × Keyed)

abbrev asked_text : Asked → List ℕ
asked_text w = decimal w.0 ++ 32 ∷ kinds_text w.1

abbrev IsAsked : Asked → Type 0
IsAsked w = IsClient w.0 × IsOfKind w.1

abbrev read_asked : List ℕ → Option Asked
read_asked = read_both 32 client_of read_kind

asked_is : IsSpelling read_asked asked_text IsAsked
asked_is = both_is 32 client_of read_kind decimal kinds_text IsClient IsOfKind client_is kinds_are (free decimal IsClient client_clean)

asked_no_end : HasNoEnd asked_text IsAsked
asked_no_end = both_no_end decimal kinds_text IsClient IsOfKind client_clean kinds_no_end

abbrev whole_text : HistWords → List ℕ
whole_text w = decimal w.0 ++ 32 ∷ asked_text w.1

abbrev AreWords : HistWords → Type 0
AreWords w = IsOp w.0 × IsAsked w.1

words_are : IsSpelling words_of whole_text AreWords
words_are = both_is 32 op_of read_asked decimal asked_text IsOp IsAsked op_is asked_is (free decimal IsOp op_clean)

words_no_end : HasNoEnd whole_text AreWords
words_no_end = both_no_end decimal asked_text IsOp IsAsked op_clean asked_no_end

-- ---- the line

abbrev words_in : HistLine → HistWords
words_in l = (l.op, (l.client, (l.kind, (l.key, (l.num, (l.body, (l.near, (l.sent, l.answered))))))))

abbrev pub hist_text : HistLine → List ℕ
hist_text l = whole_text (words_in l)

line_fits : (w : HistWords) → AreWords w → fits_kind (line_with w).kind (line_with w).body ≡ true → IsHistLine (line_with w)
line_fits w h fits = record {
  op = h.0.0;
  above = h.0.1;
  client = h.1.0;
  key = h.1.1.1.0;
  num = h.1.1.1.1.0;
  body = h.1.1.1.1.1.0;
  fits = fits;
  sent = h.1.1.1.1.1.1.1.0;
  answered = h.1.1.1.1.1.1.1.1;
}

words_fit : (l : HistLine) → IsHistLine l → AreWords (words_in l)
words_fit l h = ((h.op, h.above), (h.client, (tt, (h.key, (h.num, (h.body, (tt, (h.sent, h.answered))))))))

pub hist_is : IsSpelling hist_of hist_text IsHistLine
hist_is = record {
  takes = λ line l e.
      let w = bind_some (words_of line) (λ w. if_fitting (line_with w)) l e in
      let f = if_some (fits_kind (line_with w.0).kind (line_with w.0).body) (line_with w.0) l w.2 in
      let t = words_are.takes line w.0 w.1 in
      subst (λ (x : HistLine). (line ≡ hist_text x) × IsHistLine x) f.1 (t.0, line_fits w.0 t.1 f.0);
  again = λ l h.
      let fits : fits_kind l.kind l.body ≡ true = h.fits in
      rw (words_are.again (words_in l) (words_fit l h)) (rw fits refl);
}

hist_no_end : HasNoEnd hist_text IsHistLine
hist_no_end = λ l h. words_no_end (words_in l) (words_fit l h)

pub next_is : IsSpelling (line_as hist_of) (λ p. hist_text p.0 ++ 10 ∷ p.1) (λ p. IsHistLine p.0 × Unit {0})
next_is = line_is hist_of hist_text IsHistLine hist_is hist_no_end

-- the line of an operation is its text and a line end
pub hist_line_is : (l : HistLine) → hist_line l ≡ hist_text l ++ 10 ∷ []
hist_line_is l = simp append_assoc

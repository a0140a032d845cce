-- A line after the head has at most one form, and each form one spelling.
use Rattle.std.proofs.Common.{◌≡◌, ℕ, ◌≤◌, true, false, cond, List, [], ◌∷◌, ◌++◌, length, refl, sym, ap, subst, ◌∙◌, arith, append_assoc}
use Rattle.std.specs.Prelude.{Option, Some, None, codes, decimal, bytes_eq}
use Rattle.std.specs.List.{AllByRecursion}
use Rattle.std.proofs.lemmas.List.{append-nil}
use Rattle.std.proofs.lemmas.Slice.Eq.{bytes_eq-Decides}
use Rattle.far_base.specs.Key.{key_text}
use Rattle.far_base.specs.Limits.{FitsOp}
use Rattle.far_base.specs.declared.plan.Op.{Op}
use Rattle.far_base.specs.declared.plan.Op.TheVariants.{Get as GetOp, Put as PutOp, Del as DelOp}
use Rattle.far_base.specs.declared.plan.Order.{Order}
use Rattle.far_base.specs.declared.plan.Order.TheVariants.{Admit as AdmitOrder, Evict as EvictOrder, Snap as SnapOrder, Stop as StopOrder, StopAt as StopAtOrder}
use Rattle.workload.specs.Forms.{Form, OfOp, OfOrder, OfPicks, OfRandom, an_op, stop_by, stop_of, form_by, form_of}
use Rattle.workload.specs.Kinds.{kind_name, kind_of}
use Rattle.far_text.specs.Numbers.{IsNumber, number_of}
use Rattle.far_text.specs.Words.{IsKey}
use Rattle.far_text.specs.Options.{◌>>=◌}
use Rattle.far_text.specs.Pieces.{lacks, pieces, cut_at}
use Rattle.far_text.proofs.Spelling.{some_is, bind_some, lacks_join, visible_lacks, cut_takes, cut_again, cut_none, number_is, number_lacks, key_lacks}
use Rattle.workload.specs.Meaning.{IsOpForm, IsOrderForm, AreNumbers, IsForm}
use Rattle.workload.specs.Spelling.{number_key_text, verb_text, body_text, op_text, order_text, spaced, form_text}
use Rattle.workload.specs.Words.{numbers_of, verb_of, number_and_key, put_words}
use Rattle.workload.specs.declared.words.Verb.{Verb}
use Rattle.workload.specs.declared.words.Verb.TheVariants.{Get, Put, Del, Admit, Evict, Snap, Stop, Picks, Random}
use Rattle.workload.proofs.Spelled.{number_key_words, number_key_is, put_text, put_is, numbers_text, numbers_is}
use Rattle.workload.proofs.KindLaws.{kind_takes, kind_again, kind_lacks}

-- ---- the first word

abbrev pub name_of : Verb → List ℕ
name_of Get = codes "get"
name_of Put = codes "put"
name_of Del = codes "del"
name_of Admit = codes "admit"
name_of Evict = codes "evict"
name_of Snap = codes "snap"
name_of Stop = codes "stop"
name_of Picks = codes "picks"
name_of Random = codes "random"

this_or : (w : List ℕ) (v x : Verb) (rest : Option Verb) → (rest ≡ Some x → w ≡ name_of x) → cond (bytes_eq w (name_of v)) (Some v) rest ≡ Some x → w ≡ name_of x
this_or w v x rest h given =
    elim (bytes_eq w (name_of v)) as (λ b. bytes_eq w (name_of v) ≡ b → cond b (Some v) rest ≡ Some x → w ≡ name_of x) [
      | true ↦ λ e k. (bytes_eq-Decides w (name_of v)).0 e ∙ ap name_of (some_is v x k)
      | false ↦ λ e k. h k
    ] refl given

verb_takes : (w : List ℕ) (x : Verb) → verb_of w ≡ Some x → w ≡ name_of x
verb_takes w x e =
    this_or w Get x _ (this_or w Put x _ (this_or w Del x _ (this_or w Admit x _ (this_or w Evict x _ (this_or w Snap x _ (this_or w Stop x _ (this_or w Picks x _ (this_or w Random x None (λ k. absurd cc))))))))) e

-- ---- the words behind it

abbrev IsSpelled : Verb → List ℕ → Form → Type 0
IsSpelled verb words form = (name_of verb ++ 32 ∷ words ≡ form_text form) × IsForm form

words_end : (n : ℕ) (key : List ℕ) → number_key_words (n, key) ≡ number_key_words (n, key) ++ []
words_end n key = sym (append-nil (number_key_words (n, key)))

put_end : (n : ℕ) (key text : List ℕ) → put_text (n, key, text) ≡ (decimal n ++ 32 ∷ key_text key) ++ 32 ∷ 61 ∷ text
put_end n key text = sym (append_assoc (decimal n) (32 ∷ key_text key) (32 ∷ 61 ∷ text))

numbers_end : (ns : List ℕ) → 1 ≤ length ns → 32 ∷ numbers_text ns ≡ spaced ns
numbers_end [] h = absurd (omega (arith, h))
numbers_end (n ∷ ns) h = refl

abbrev IsStopSpelled : List ℕ → Order → Type 0
IsStopSpelled words order = (codes "stop " ++ words ≡ order_text order) × IsOrderForm order

stop_takes : (words : List ℕ) (cut : Option (List ℕ × List ℕ)) (order : Order) → cut_at 32 words ≡ cut → stop_by words cut ≡ Some order → IsStopSpelled words order
stop_takes words None order c e =
    let a = bind_some (number_of words) (λ n. Some (StopOrder n)) order e in
    let r = number_is.takes words a.0 a.1 in
    subst (IsStopSpelled words) (some_is _ order a.2) (ap (λ (l : List ℕ). codes "stop " ++ l) r.0, r.1)
stop_takes words (Some x) order c e =
    let a = bind_some (kind_of x.0) (λ kind. number_of x.1 >>= λ times. Some (StopAtOrder kind times)) order e in
    let b = bind_some (number_of x.1) (λ times. Some (StopAtOrder a.0 times)) order a.2 in
    let r = number_is.takes x.1 b.0 b.1 in
    let spelled : words ≡ kind_name a.0 ++ 32 ∷ decimal b.0 = cut_takes 32 words x c ∙ ap (λ (l : List ℕ). l ++ 32 ∷ x.1) (kind_takes x.0 a.0 a.1) ∙ ap (λ (l : List ℕ). kind_name a.0 ++ 32 ∷ l) r.0 in
    subst (IsStopSpelled words) (some_is _ order b.2) (ap (λ (l : List ℕ). codes "stop " ++ l) spelled, r.1)

by_takes : (verb : Verb) (words : List ℕ) (form : Form) → form_by verb words ≡ Some form → IsSpelled verb words form
by_takes Get words form e =
    let a = bind_some (number_and_key words) (λ f. Some (OfOp (an_op GetOp f.0 f.1 None))) form e in
    let r = number_key_is.takes words a.0 a.1 in
    let fits : IsOpForm (an_op GetOp a.0.0 a.0.1 None) = record { client = r.1.0; key = r.1.1; body = refl } in
    subst (IsSpelled Get words) (some_is _ form a.2) (ap (λ (l : List ℕ). codes "get " ++ l) (r.0 ∙ words_end a.0.0 a.0.1), fits)
by_takes Put words form e =
    let a = bind_some (put_words words) (λ f. Some (OfOp (an_op PutOp f.0 f.1 (Some f.2)))) form e in
    let r = put_is.takes words a.0 a.1 in
    let fits : IsOpForm (an_op PutOp a.0.0 a.0.1 (Some a.0.2)) = record { client = r.1.0; key = r.1.1; body = r.1.2 } in
    subst (IsSpelled Put words) (some_is _ form a.2) (ap (λ (l : List ℕ). codes "put " ++ l) (r.0 ∙ put_end a.0.0 a.0.1 a.0.2), fits)
by_takes Del words form e =
    let a = bind_some (number_and_key words) (λ f. Some (OfOp (an_op DelOp f.0 f.1 None))) form e in
    let r = number_key_is.takes words a.0 a.1 in
    let fits : IsOpForm (an_op DelOp a.0.0 a.0.1 None) = record { client = r.1.0; key = r.1.1; body = refl } in
    subst (IsSpelled Del words) (some_is _ form a.2) (ap (λ (l : List ℕ). codes "del " ++ l) (r.0 ∙ words_end a.0.0 a.0.1), fits)
by_takes Admit words form e =
    let a = bind_some (number_and_key words) (λ f. Some (OfOrder (AdmitOrder f.0 f.1))) form e in
    let r = number_key_is.takes words a.0 a.1 in
    subst (IsSpelled Admit words) (some_is _ form a.2) (ap (λ (l : List ℕ). codes "admit " ++ l) r.0, r.1)
by_takes Evict words form e =
    let a = bind_some (number_and_key words) (λ f. Some (OfOrder (EvictOrder f.0 f.1))) form e in
    let r = number_key_is.takes words a.0 a.1 in
    subst (IsSpelled Evict words) (some_is _ form a.2) (ap (λ (l : List ℕ). codes "evict " ++ l) r.0, r.1)
by_takes Snap words form e =
    let a = bind_some (number_of words) (λ n. Some (OfOrder (SnapOrder n))) form e in
    let r = number_is.takes words a.0 a.1 in
    subst (IsSpelled Snap words) (some_is _ form a.2) (ap (λ (l : List ℕ). codes "snap " ++ l) r.0, r.1)
by_takes Stop words form e =
    let a = bind_some (stop_of words) (λ order. Some (OfOrder order)) form e in
    subst (IsSpelled Stop words) (some_is _ form a.2) (stop_takes words (cut_at 32 words) a.0 refl a.1)
by_takes Picks words form e =
    let a = bind_some (numbers_of (pieces 32 words)) (λ ns. Some (OfPicks ns)) form e in
    let r = numbers_is.takes words a.0 a.1 in
    subst (IsSpelled Picks words) (some_is _ form a.2) (ap (λ (l : List ℕ). codes "picks " ++ l) r.0 ∙ ap (λ (l : List ℕ). codes "picks" ++ l) (numbers_end a.0 r.1.0), r.1)
by_takes Random words form e =
    let a = bind_some (number_of words) (λ n. Some (OfRandom n)) form e in
    let r = number_is.takes words a.0 a.1 in
    subst (IsSpelled Random words) (some_is _ form a.2) (ap (λ (l : List ℕ). codes "random " ++ l) r.0, r.1)

pub form_takes : (line : List ℕ) (form : Form) → form_of line ≡ Some form → (line ≡ form_text form) × IsForm form
form_takes line form e =
    let a = bind_some (cut_at 32 line) (λ c. verb_of c.0 >>= λ verb. form_by verb c.1) form e in
    let b = bind_some (verb_of a.0.0) (λ verb. form_by verb a.0.1) form a.2 in
    let r = by_takes b.0 a.0.1 form b.2 in
    (cut_takes 32 line a.0 a.1 ∙ ap (λ (l : List ℕ). l ++ 32 ∷ a.0.1) (verb_takes a.0.0 b.0 b.1) ∙ r.0, r.1)

-- ---- back

op_again : (client : ℕ) (op : Op) (key : List ℕ) (body : Option (List ℕ)) → IsNumber client → IsKey key → FitsOp op body → form_of (op_text (an_op op client key body)) ≡ Some (OfOp (an_op op client key body))
op_again client GetOp key None h k f = rw (← words_end client key, number_key_is.again (client, key) (h, k)) refl
op_again client GetOp key (Some text) h k f = absurd cc
op_again client PutOp key None h k f = absurd f
op_again client PutOp key (Some text) h k f = rw (← put_end client key text, put_is.again (client, key, text) (h, k, f)) refl
op_again client DelOp key None h k f = rw (← words_end client key, number_key_is.again (client, key) (h, k)) refl
op_again client DelOp key (Some text) h k f = absurd cc

order_again : (order : Order) → IsOrderForm order → form_of (order_text order) ≡ Some (OfOrder order)
order_again (AdmitOrder step key) h = rw (number_key_is.again (step, key) h) refl
order_again (EvictOrder step key) h = rw (number_key_is.again (step, key) h) refl
order_again (SnapOrder step) h = rw (number_is.again step h) refl
order_again (StopOrder step) h = rw (cut_none 32 (decimal step) (number_lacks 32 step (omega arith) h), number_is.again step h) refl
order_again (StopAtOrder kind times) h = rw (cut_again 32 (kind_name kind) (decimal times) (kind_lacks kind).1, kind_again kind, number_is.again times h) refl

picks_again : (ns : List ℕ) → AreNumbers ns → form_of (codes "picks" ++ spaced ns) ≡ Some (OfPicks ns)
picks_again ns h = rw (← numbers_end ns h.0, numbers_is.again ns h) refl

pub form_again : (form : Form) → IsForm form → form_of (form_text form) ≡ Some form
form_again (OfOp line) h = op_again line.client line.op line.key line.body h.client h.key h.body
form_again (OfOrder order) h = order_again order h
form_again (OfPicks picks) h = picks_again picks h
form_again (OfRandom start) h = rw (number_is.again start h) refl

-- ---- no line end in a line

number_key_lacks : (text : List ℕ) (n : ℕ) (key : List ℕ) → lacks 10 text ≡ true → IsNumber n → IsKey key → lacks 10 (number_key_text text n key) ≡ true
number_key_lacks text n key t h k = lacks_join 10 (text ++ decimal n) (32 ∷ key_text key) (lacks_join 10 text (decimal n) t (number_lacks 10 n (omega arith) h)) (key_lacks 10 key (omega arith) k)

body_lacks : (op : Op) (body : Option (List ℕ)) → FitsOp op body → lacks 10 (body_text body) ≡ true
body_lacks op None f = refl
body_lacks GetOp (Some text) f = absurd cc
body_lacks PutOp (Some text) f = visible_lacks 10 text (omega arith) f
body_lacks DelOp (Some text) f = absurd cc

verb_lacks : (op : Op) → lacks 10 (verb_text op) ≡ true
verb_lacks GetOp = refl
verb_lacks PutOp = refl
verb_lacks DelOp = refl

order_lacks : (order : Order) → IsOrderForm order → lacks 10 (order_text order) ≡ true
order_lacks (AdmitOrder step key) h = number_key_lacks (codes "admit ") step key refl h.0 h.1
order_lacks (EvictOrder step key) h = number_key_lacks (codes "evict ") step key refl h.0 h.1
order_lacks (SnapOrder step) h = number_lacks 10 step (omega arith) h
order_lacks (StopOrder step) h = number_lacks 10 step (omega arith) h
order_lacks (StopAtOrder kind times) h = lacks_join 10 (kind_name kind) (32 ∷ decimal times) (kind_lacks kind).0 (number_lacks 10 times (omega arith) h)

spaced_lacks : (ns : List ℕ) → AllByRecursion IsNumber ns → lacks 10 (spaced ns) ≡ true
spaced_lacks [] h = refl
spaced_lacks (n ∷ ns) h = lacks_join 10 (codes " " ++ decimal n) (spaced ns) (number_lacks 10 n (omega arith) h.0) (spaced_lacks ns h.1)

pub form_lacks : (form : Form) → IsForm form → lacks 10 (form_text form) ≡ true
form_lacks (OfOp line) h = lacks_join 10 (number_key_text (verb_text line.op) line.client line.key) (body_text line.body) (number_key_lacks (verb_text line.op) line.client line.key (verb_lacks line.op) h.client h.key) (body_lacks line.op line.body h.body)
form_lacks (OfOrder order) h = order_lacks order h
form_lacks (OfPicks picks) h = spaced_lacks picks h.1
form_lacks (OfRandom start) h = number_lacks 10 start (omega arith) h

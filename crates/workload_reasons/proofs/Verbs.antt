-- The forms of a line, by its first word.
use Rattle.std.proofs.Common.{◌≡◌, ℕ, Bool, true, false, cond, List, [], ◌∷◌, ◌++◌, take, drop, length, refl, sym, ap}
use Rattle.std.proofs.Common.{◌∙◌}
use Rattle.std.specs.Prelude.{Option, Some, None, is_some, bytes_eq, codes}
use Rattle.std.proofs.lemmas.List.{take-append-drop}
use Rattle.std.proofs.lemmas.Slice.Eq.{bytes_eq-Decides}
use Rattle.far_base.specs.declared.plan.Op.{Op}
use Rattle.far_base.specs.declared.plan.Op.TheVariants.{Get as GetOp, Put as PutOp, Del as DelOp}
use Rattle.far_base.specs.declared.plan.OpLine.{OpLine}
use Rattle.far_base.specs.declared.plan.Order.TheVariants.{Admit as AdmitOrder, Evict as EvictOrder, Snap as SnapOrder}
use Rattle.far_text.specs.Numbers.{number_of}
use Rattle.far_text.specs.Options.{◌>>=◌}
use Rattle.far_text.specs.Pieces.{cut_at, pieces}
use Rattle.far_text.specs.Words.{key_of, body_bytes_of}
use Rattle.far_text.proofs.Spelling.{cut_takes}
use Rattle.workload.specs.Forms.{Form, OfOp, OfOrder, OfPicks, OfRandom, an_op, stop_of, form_by, form_of}
use Rattle.workload.specs.Words.{numbers_of, number_and_key, put_words, verb_of as read_verb, named}
use Rattle.workload_reasons.specs.Ends.{is_start}
use Rattle.workload_reasons.specs.Orders.{verb_of, Fits, HasForm, client_by, client_of}
use Rattle.workload_reasons.specs.Spelled.{Has, word_by, first_word}
use Rattle.workload_reasons.specs.declared.orders.Verb.{Verb}
use Rattle.workload_reasons.specs.declared.orders.Verb.TheVariants.{Get, Put, Del, Admit, Evict, Snap, Stop, Picks}
use Rattle.workload_reasons.specs.declared.orders.Verb.TheVariants.{Random}

-- what the words behind the first one say
abbrev pub form_behind : Verb → List ℕ → Option Form
form_behind Get words = number_and_key words >>= λ f. Some (OfOp (an_op GetOp f.0 f.1 None))
form_behind Put words = put_words words >>= λ f. Some (OfOp (an_op PutOp f.0 f.1 (Some f.2)))
form_behind Del words = number_and_key words >>= λ f. Some (OfOp (an_op DelOp f.0 f.1 None))
form_behind Admit words = number_and_key words >>= λ f. Some (OfOrder (AdmitOrder f.0 f.1))
form_behind Evict words = number_and_key words >>= λ f. Some (OfOrder (EvictOrder f.0 f.1))
form_behind Snap words = number_of words >>= λ step. Some (OfOrder (SnapOrder step))
form_behind Stop words = stop_of words >>= λ order. Some (OfOrder order)
form_behind Picks words = numbers_of (pieces 32 words) >>= λ ns. Some (OfPicks ns)
form_behind Random words = number_of words >>= λ n. Some (OfRandom n)

abbrev Agree : List ℕ → List ℕ → Type 0
Agree word words = (read_verb word >>= λ verb. form_by verb words) ≡ (verb_of word >>= λ verb. form_behind verb words)

agree : (word words : List ℕ) → Agree word words
agree word words = elim (bytes_eq word (codes "get")) as (λ v. bytes_eq word (codes "get") ≡ v → Agree word words) [
  | true ↦ λ e0. rw e0 refl
  | false ↦ λ e0. elim (bytes_eq word (codes "put")) as (λ v. bytes_eq word (codes "put") ≡ v → Agree word words) [
    | true ↦ λ e1. rw (e0, e1) refl
    | false ↦ λ e1. elim (bytes_eq word (codes "del")) as (λ v. bytes_eq word (codes "del") ≡ v → Agree word words) [
      | true ↦ λ e2. rw (e0, e1, e2) refl
      | false ↦ λ e2. elim (bytes_eq word (codes "admit")) as (λ v. bytes_eq word (codes "admit") ≡ v
          → Agree word words) [
            | true ↦ λ e3. rw (e0, e1, e2, e3) refl
            | false ↦ λ e3. elim (bytes_eq word (codes "evict")) as (λ v. bytes_eq word (codes "evict") ≡ v
                → Agree word words) [
                  | true ↦ λ e4. rw (e0, e1, e2, e3, e4) refl
                  | false ↦ λ e4. elim (bytes_eq word (codes "snap")) as (λ v. bytes_eq word (codes "snap") ≡ v
                      → Agree word words) [
                        | true ↦ λ e5. rw (e0, e1, e2, e3, e4, e5) refl
                        | false ↦ λ e5. elim (bytes_eq word (codes "stop")) as (λ v. bytes_eq word (codes "stop") ≡ v
                            → Agree word words) [
                              | true ↦ λ e6. rw (e0, e1, e2, e3, e4, e5, e6) refl
                              | false ↦ λ e6. elim (bytes_eq word (codes "picks")) as (λ v. bytes_eq word (codes "picks") ≡ v
                                  → Agree word words) [
                                    | true ↦ λ e7. rw (e0, e1, e2, e3, e4, e5, e6, e7) refl
                                    | false ↦ λ e7. elim (bytes_eq word (codes "random")) as (λ v. bytes_eq word (codes "random") ≡ v
                                        → Agree word words) [
                                          | true ↦ λ e8. rw (e0, e1, e2, e3, e4, e5, e6, e7, e8) refl
                                          | false ↦ λ e8. rw (e0, e1, e2, e3, e4, e5, e6, e7, e8) refl
                                        ] refl
                                  ] refl
                            ] refl
                      ] refl
                ] refl
          ] refl
    ] refl
  ] refl
] refl

random_word : (word : List ℕ) → verb_of word ≡ Some Random → word ≡ codes "random"
random_word word h = elim (bytes_eq word (codes "get")) as (λ v. bytes_eq word (codes "get") ≡ v
    → word ≡ codes "random") [
      | true ↦ λ e0. absurd (let other = rw e0 at h in cc)
      | false ↦ λ e0. elim (bytes_eq word (codes "put")) as (λ v. bytes_eq word (codes "put") ≡ v → word ≡ codes "random") [
        | true ↦ λ e1. absurd (let other = rw (e0, e1) at h in cc)
        | false ↦ λ e1. elim (bytes_eq word (codes "del")) as (λ v. bytes_eq word (codes "del") ≡ v
            → word ≡ codes "random") [
              | true ↦ λ e2. absurd (let other = rw (e0, e1, e2) at h in cc)
              | false ↦ λ e2. elim (bytes_eq word (codes "admit")) as (λ v. bytes_eq word (codes "admit") ≡ v
                  → word ≡ codes "random") [
                    | true ↦ λ e3. absurd (let other = rw (e0, e1, e2, e3) at h in cc)
                    | false ↦ λ e3. elim (bytes_eq word (codes "evict")) as (λ v. bytes_eq word (codes "evict") ≡ v
                        → word ≡ codes "random") [
                          | true ↦ λ e4. absurd (let other = rw (e0, e1, e2, e3, e4) at h in cc)
                          | false ↦ λ e4. elim (bytes_eq word (codes "snap")) as (λ v. bytes_eq word (codes "snap") ≡ v
                              → word ≡ codes "random") [
                                | true ↦ λ e5. absurd (let other = rw (e0, e1, e2, e3, e4, e5) at h in cc)
                                | false ↦ λ e5. elim (bytes_eq word (codes "stop")) as (λ v. bytes_eq word (codes "stop") ≡ v
                                    → word ≡ codes "random") [
                                      | true ↦ λ e6. absurd (let other = rw (e0, e1, e2, e3, e4, e5, e6) at h in cc)
                                      | false ↦ λ e6. elim (bytes_eq word (codes "picks")) as (λ v. bytes_eq word (codes "picks") ≡ v
                                          → word ≡ codes "random") [
                                            | true ↦ λ e7. absurd (let other = rw (e0, e1, e2, e3, e4, e5, e6, e7) at h in cc)
                                            | false ↦ λ e7. elim (bytes_eq word (codes "random")) as (λ v. bytes_eq word (codes "random") ≡ v
                                                → word ≡ codes "random") [
                                                  | true ↦ λ e8. (bytes_eq-Decides word (codes "random")).0 e8
                                                  | false ↦ λ e8. absurd (let other = rw (e0, e1, e2, e3, e4, e5, e6, e7, e8) at h in cc)
                                                ] refl
                                          ] refl
                                    ] refl
                              ] refl
                        ] refl
                  ] refl
            ] refl
      ] refl
    ] refl

-- ---- a line that has a form

lost : {A : Type 0} (o : Option A) (f : A → Form) → is_some o ≡ true → (o >>= λ x. Some (f x)) ≡ None → ⊥
lost None f h e = cc
lost (Some x) f h e = cc

fits_verb : (o : Option Verb) (words : List ℕ) → Has o (λ verb. Fits verb words)
    → (o >>= λ verb. form_behind verb words) ≡ None → ⊥
fits_verb None words h e = h
fits_verb (Some Get) words h e = lost (number_and_key words) (λ f. OfOp (an_op GetOp f.0 f.1 None)) h e
fits_verb (Some Put) words h e = lost (put_words words) (λ f. OfOp (an_op PutOp f.0 f.1 (Some f.2))) h e
fits_verb (Some Del) words h e = lost (number_and_key words) (λ f. OfOp (an_op DelOp f.0 f.1 None)) h e
fits_verb (Some Admit) words h e = lost (number_and_key words) (λ f. OfOrder (AdmitOrder f.0 f.1)) h e
fits_verb (Some Evict) words h e = lost (number_and_key words) (λ f. OfOrder (EvictOrder f.0 f.1)) h e
fits_verb (Some Snap) words h e = lost (number_of words) (λ step. OfOrder (SnapOrder step)) h e
fits_verb (Some Stop) words h e = lost (stop_of words) (λ order. OfOrder order) h e
fits_verb (Some Picks) words h e = lost (numbers_of (pieces 32 words)) (λ ns. OfPicks ns) h e
fits_verb (Some Random) words h e = lost (number_of words) (λ n. OfRandom n) h e

fits_cut : (o : Option (List ℕ × List ℕ)) → Has o (λ c. Has (verb_of c.0) (λ verb. Fits verb c.1))
    → (o >>= λ c. read_verb c.0 >>= λ verb. form_by verb c.1) ≡ None → ⊥
fits_cut None h e = h
fits_cut (Some c) h e = fits_verb (verb_of c.0) c.1 h (sym (agree c.0 c.1) ∙ e)

pub has_form : (line : List ℕ) → HasForm line → form_of line ≡ None → ⊥
has_form line h e = fits_cut (cut_at 32 line) h e

-- ---- the client of an operation

abbrev client_in : Option Form → Option ℕ
client_in None = None
client_in (Some (OfOp line)) = Some line.client
client_in (Some (OfOrder order)) = None
client_in (Some (OfPicks picks)) = None
client_in (Some (OfRandom start)) = None

abbrev key_pair : ℕ → List ℕ → Option (ℕ × List ℕ)
key_pair n k = Some (n, k)

abbrev op_with : Op → ℕ × List ℕ → Option Form
op_with op f = Some (OfOp (an_op op f.0 f.1 None))

abbrev put_pair : ℕ → List ℕ → List ℕ → Option (ℕ × List ℕ × List ℕ)
put_pair n k text = Some (n, k, text)

abbrev put_with : ℕ × List ℕ × List ℕ → Option Form
put_with f = Some (OfOp (an_op PutOp f.0 f.1 (Some f.2)))

keyed_words : (op : Op) (n : Option ℕ) (k : Option (List ℕ)) (l : OpLine)
    → ((n >>= λ n. k >>= λ k. key_pair n k) >>= op_with op) ≡ Some (OfOp l) → n ≡ Some l.client
keyed_words op None k l e = absurd cc
keyed_words op (Some n) None l e = absurd cc
keyed_words op (Some n) (Some k) l e = ap client_in e

keyed_by : (op : Op) (words : List ℕ) (o : Option (List ℕ × List ℕ)) (l : OpLine)
    → ((o >>= λ c. number_of c.0 >>= λ n. key_of c.1 >>= λ k. key_pair n k) >>= op_with op) ≡ Some (OfOp l)
    → number_of (word_by words o) ≡ Some l.client
keyed_by op words None l e = absurd cc
keyed_by op words (Some c) l e = keyed_words op (number_of c.0) (key_of c.1) l e

put_last : (n : ℕ) (k text : Option (List ℕ)) (l : OpLine)
    → ((k >>= λ k. text >>= λ text. put_pair n k text) >>= put_with) ≡ Some (OfOp l) → Some n ≡ Some l.client
put_last n None text l e = absurd cc
put_last n (Some k) None l e = absurd cc
put_last n (Some k) (Some text) l e = ap client_in e

put_rest : (n : ℕ) (o : Option (List ℕ × List ℕ)) (l : OpLine)
    → ((o >>= λ d. key_of d.0 >>= λ k. body_bytes_of d.1 >>= λ text. put_pair n k text) >>= put_with) ≡ Some (OfOp l)
    → Some n ≡ Some l.client
put_rest n None l e = absurd cc
put_rest n (Some d) l e = put_last n (key_of d.0) (body_bytes_of d.1) l e

put_number : (n : Option ℕ) (rest : List ℕ) (l : OpLine)
    → ((n >>= λ n. cut_at 32 rest >>= λ d. key_of d.0 >>= λ k. body_bytes_of d.1 >>= λ text. put_pair n k text) >>=
    put_with) ≡ Some (OfOp l) → n ≡ Some l.client
put_number None rest l e = absurd cc
put_number (Some n) rest l e = put_rest n (cut_at 32 rest) l e

put_by : (words : List ℕ) (o : Option (List ℕ × List ℕ)) (l : OpLine)
    → ((o >>= λ c. number_of c.0 >>= λ n. cut_at 32 c.1 >>= λ d. key_of d.0 >>= λ k. body_bytes_of d.1 >>= λ text.
    put_pair n k text) >>= put_with) ≡ Some (OfOp l)
    → number_of (word_by words o) ≡ Some l.client
put_by words None l e = absurd cc
put_by words (Some c) l e = put_number (number_of c.0) c.1 l e

no_op : {A : Type 0} (o : Option A) (f : A → Form) (l : OpLine) → ((x : A) → client_in (Some (f x)) ≡ None)
    → (o >>= λ x. Some (f x)) ≡ Some (OfOp l) → ⊥
no_op None f l h e = cc
no_op (Some x) f l h e = let other : None ≡ Some l.client = sym (h x) ∙ ap client_in e in cc

client_verb : (o : Option Verb) (words : List ℕ) (l : OpLine) → (o >>= λ verb. form_behind verb words) ≡ Some (OfOp l)
    → (o >>= λ verb. client_by verb words) ≡ Some l.client
client_verb None words l e = absurd cc
client_verb (Some Get) words l e = keyed_by GetOp words (cut_at 32 words) l e
client_verb (Some Put) words l e = put_by words (cut_at 32 words) l e
client_verb (Some Del) words l e = keyed_by DelOp words (cut_at 32 words) l e
client_verb (Some Admit) words l e =
    absurd (no_op (number_and_key words) (λ f. OfOrder (AdmitOrder f.0 f.1)) l (λ x. refl) e)
client_verb (Some Evict) words l e =
    absurd (no_op (number_and_key words) (λ f. OfOrder (EvictOrder f.0 f.1)) l (λ x. refl) e)
client_verb (Some Snap) words l e = absurd (no_op (number_of words) (λ step. OfOrder (SnapOrder step)) l (λ x. refl) e)
client_verb (Some Stop) words l e = absurd (no_op (stop_of words) (λ order. OfOrder order) l (λ x. refl) e)
client_verb (Some Picks) words l e = absurd (no_op (numbers_of (pieces 32 words)) (λ ns. OfPicks ns) l (λ x. refl) e)
client_verb (Some Random) words l e = absurd (no_op (number_of words) (λ n. OfRandom n) l (λ x. refl) e)

client_cut : (o : Option (List ℕ × List ℕ)) (l : OpLine)
    → (o >>= λ c. read_verb c.0 >>= λ verb. form_by verb c.1) ≡ Some (OfOp l)
    → (o >>= λ c. verb_of c.0 >>= λ verb. client_by verb c.1) ≡ Some l.client
client_cut None l e = absurd cc
client_cut (Some c) l e = client_verb (verb_of c.0) c.1 l (sym (agree c.0 c.1) ∙ e)

pub client_is : (line : List ℕ) (l : OpLine) → form_of line ≡ Some (OfOp l) → client_of line ≡ Some l.client
client_is line l e = client_cut (cut_at 32 line) l e

-- ---- a start number

abbrev start_in : Option Form → Option ℕ
start_in None = None
start_in (Some (OfOp line)) = None
start_in (Some (OfOrder order)) = None
start_in (Some (OfPicks picks)) = None
start_in (Some (OfRandom start)) = Some start

no_start : {A : Type 0} (o : Option A) (f : A → Form) (s : ℕ) → ((x : A) → start_in (Some (f x)) ≡ None)
    → (o >>= λ x. Some (f x)) ≡ Some (OfRandom s) → ⊥
no_start None f s h e = cc
no_start (Some x) f s h e = let other : None ≡ Some s = sym (h x) ∙ ap start_in e in cc

some_number : (o : Option ℕ) (s : ℕ) → (o >>= λ n. Some (OfRandom n)) ≡ Some (OfRandom s) → is_some o ≡ true
some_number None s e = absurd cc
some_number (Some n) s e = refl

start_verb : (o : Option Verb) (words : List ℕ) (s : ℕ) → (o >>= λ verb. form_behind verb words) ≡ Some (OfRandom s)
    → (o ≡ Some Random) × (is_some (number_of words) ≡ true)
start_verb None words s e = absurd cc
start_verb (Some Get) words s e =
    absurd (no_start (number_and_key words) (λ f. OfOp (an_op GetOp f.0 f.1 None)) s (λ x. refl) e)
start_verb (Some Put) words s e =
    absurd (no_start (put_words words) (λ f. OfOp (an_op PutOp f.0 f.1 (Some f.2))) s (λ x. refl) e)
start_verb (Some Del) words s e =
    absurd (no_start (number_and_key words) (λ f. OfOp (an_op DelOp f.0 f.1 None)) s (λ x. refl) e)
start_verb (Some Admit) words s e =
    absurd (no_start (number_and_key words) (λ f. OfOrder (AdmitOrder f.0 f.1)) s (λ x. refl) e)
start_verb (Some Evict) words s e =
    absurd (no_start (number_and_key words) (λ f. OfOrder (EvictOrder f.0 f.1)) s (λ x. refl) e)
start_verb (Some Snap) words s e =
    absurd (no_start (number_of words) (λ step. OfOrder (SnapOrder step)) s (λ x. refl) e)
start_verb (Some Stop) words s e = absurd (no_start (stop_of words) (λ order. OfOrder order) s (λ x. refl) e)
start_verb (Some Picks) words s e = absurd (no_start (numbers_of (pieces 32 words)) (λ ns. OfPicks ns) s (λ x. refl) e)
start_verb (Some Random) words s e = (refl, some_number (number_of words) s e)

random_line : (words : List ℕ) → is_some (number_of words) ≡ true → is_start (codes "random" ++ 32 ∷ words) ≡ true
random_line words e = e

start_cut : (line : List ℕ) (o : Option (List ℕ × List ℕ)) (s : ℕ) → cut_at 32 line ≡ o
    → (o >>= λ c. read_verb c.0 >>= λ verb. form_by verb c.1) ≡ Some (OfRandom s) → is_start line ≡ true
start_cut line None s at e = absurd cc
start_cut line (Some c) s at e =
    let v = start_verb (verb_of c.0) c.1 s (sym (agree c.0 c.1) ∙ e) in
    let whole : line ≡ codes "random" ++ 32 ∷ c.1 = cut_takes 32 line c at
    ∙ ap (λ (w : List ℕ). w ++ 32 ∷ c.1) (random_word c.0 v.0) in
    ap is_start whole ∙ random_line c.1 v.1

pub is_start_line : (line : List ℕ) (s : ℕ) → form_of line ≡ Some (OfRandom s) → is_start line ≡ true
is_start_line line s e = start_cut line (cut_at 32 line) s refl e

random_form : (words : List ℕ) → form_of (codes "random " ++ words) ≡ (number_of words >>= λ n. Some (OfRandom n))
random_form words = refl

given : (o : Option ℕ) → is_some o ≡ true → (s : ℕ) × ((o >>= λ n. Some (OfRandom n)) ≡ Some (OfRandom s))
given None e = absurd cc
given (Some s) e = (s, refl)

pub start_form : (line : List ℕ) → is_start line ≡ true → (s : ℕ) × (form_of line ≡ Some (OfRandom s))
start_form line e = go (bytes_eq (take 7 line) (codes "random ")) refl e
  where
    go : (v : Bool) → bytes_eq (take 7 line) (codes "random ") ≡ v
        → is_some (cond v (Some (drop 7 line)) None >>= number_of) ≡ true → (s : ℕ) × (form_of line ≡ Some (OfRandom s))
    go false t f = absurd cc
    go true t f =
        let whole : line ≡ codes "random " ++ drop 7 line = sym (take-append-drop 7 line)
        ∙ ap (λ (w : List ℕ). w ++ drop 7 line) ((bytes_eq-Decides (take 7 line) (codes "random ")).0 t) in
        let g = given (number_of (drop 7 line)) f in
        (g.0, ap form_of whole ∙ random_form (drop 7 line) ∙ g.1)

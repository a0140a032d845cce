-- An item has one spelling in a line.
use Rattle.std.proofs.Common.{◌≡◌, ℕ, suc, ◌<◌, ◌≤◌, Bool, true, false, not, ◌||◌, cond, List, [], ◌∷◌, ◌++◌, refl, sym, ap, subst, ◌∙◌, arith, append_assoc}
use Rattle.std.specs.Prelude.{Option, Some, None, bytes_eq, codes, decimal, nat_eq, nat_le, nat_lt}
use Rattle.std.proofs.lemmas.Bool.Decides.{nat_tests}
use Rattle.std.proofs.lemmas.Slice.Eq.{bytes_eq-Decides}
use Rattle.far_base.specs.Key.{key_text}
use Rattle.far_base.specs.Padded.{length_of}
use Rattle.far_base.specs.declared.kept.KeptItem.{KeptItem}
use Rattle.far_base.specs.declared.kept.KeptPlace.{KeptPlace}
use Rattle.far_base.specs.declared.kept.KeptPlace.TheVariants.{Snap, Server, Client}
use Rattle.far_base.specs.declared.plan.TheConstants.{CLIENT_LIMIT}
use Rattle.far_base.specs.declared.record.Record.{Record}
use Rattle.far_text.specs.Numbers.{IsNumber, number_of}
use Rattle.far_text.specs.Options.{◌>>=◌}
use Rattle.far_text.specs.Pieces.{cut_at, lacks}
use Rattle.far_text.specs.Text.{body_word}
use Rattle.far_text.specs.Words.{IsKey, IsBody, key_of, body_of}
use Rattle.far_text.specs.declared.words.TheConstants.{NUMBER_LIMIT}
use Rattle.far_text.proofs.Digits.{and_true, both_true}
use Rattle.far_text.proofs.Spelling.{some_is, bind_some, if_some, lacks_join, visible_lacks, cut_takes, cut_again, IsSpelling, number_is, number_lacks, key_is, key_lacks, body_is}
use Rattle.kept_image.specs.ImageText.{item_line}
use Rattle.kept_image.specs.Meaning.{IsPlace, IsItem}
use Rattle.kept_image.specs.Words.{is_absent, is_fitting, if_fitting, record_of, kept_at, client_of, client_item_of, item_by, item_of}

-- ---- records

abbrev pub record_text : Record → List ℕ
record_text r = key_text r.key ++ 32 ∷ (decimal r.num ++ 32 ∷ body_word r.body)

pub record IsRecord (limit : ℕ) (r : Record) : Type 0 where
  pub key : IsKey r.key
  pub num : IsNumber r.num
  pub body : IsBody r.body
  pub short : length_of r.body ≤ limit
  pub unwritten : r.num ≡ 0 → r.body ≡ None

absent_if : (num : ℕ) (body : Option (List ℕ)) → (not (nat_eq num 0) || is_absent body) ≡ true → num ≡ 0 → body ≡ None
absent_if num None h z = refl
absent_if num (Some text) h z =
    let e : nat_eq num 0 ≡ true = grind (arith, nat_tests) in
    let k : (not true || false) ≡ true = rw e at h in
    absurd cc

if_absent : (num : ℕ) (body : Option (List ℕ)) → (num ≡ 0 → body ≡ None) → (not (nat_eq num 0) || is_absent body) ≡ true
if_absent num None h = go (not (nat_eq num 0))
  where
    go : (b : Bool) → (b || true) ≡ true
    go true = refl
    go false = refl
if_absent ℕ.zero (Some text) h = let z : Some text ≡ None = h refl in absurd cc
if_absent (suc num) (Some text) h =
    let e : nat_eq (suc num) 0 ≡ false = grind (arith, nat_tests) in
    rw e refl

fitting : (limit : ℕ) (r : Record) → is_fitting limit r ≡ true → (length_of r.body ≤ limit) × (r.num ≡ 0 → r.body ≡ None)
fitting limit r h =
    let a : (nat_le (length_of r.body) limit ≡ true) × ((not (nat_eq r.num 0) || is_absent r.body) ≡ true) = and_true _ _ h in
    let k : nat_le (length_of r.body) limit ≡ true = a.0 in
    (grind (arith, nat_tests), absent_if r.num r.body a.1)

is_fitting_again : (limit : ℕ) (r : Record) → IsRecord limit r → is_fitting limit r ≡ true
is_fitting_again limit r h =
    let short : length_of r.body ≤ limit = h.short in
    let k : nat_le (length_of r.body) limit ≡ true = grind (arith, nat_tests) in
    both_true _ _ k (if_absent r.num r.body h.unwritten)

pub record_is : (limit : ℕ) → IsSpelling (record_of limit) record_text (IsRecord limit)
record_is limit = record {
  takes = λ w r e.
      let a = bind_some (cut_at 32 w) (λ a. key_of a.0 >>= λ key. cut_at 32 a.1 >>= λ b. number_of b.0 >>= λ num. body_of b.1 >>= λ body. if_fitting limit (record { key = key; num = num; body = body })) r e in
      let k = bind_some (key_of a.0.0) (λ key. cut_at 32 a.0.1 >>= λ b. number_of b.0 >>= λ num. body_of b.1 >>= λ body. if_fitting limit (record { key = key; num = num; body = body })) r a.2 in
      let b = bind_some (cut_at 32 a.0.1) (λ b. number_of b.0 >>= λ num. body_of b.1 >>= λ body. if_fitting limit (record { key = k.0; num = num; body = body })) r k.2 in
      let n = bind_some (number_of b.0.0) (λ num. body_of b.0.1 >>= λ body. if_fitting limit (record { key = k.0; num = num; body = body })) r b.2 in
      let t = bind_some (body_of b.0.1) (λ body. if_fitting limit (record { key = k.0; num = n.0; body = body })) r n.2 in
      let whole : Record = record { key = k.0; num = n.0; body = t.0 } in
      let f = if_some (is_fitting limit whole) whole r t.2 in
      let key = key_is.takes a.0.0 k.0 k.1 in
      let num = number_is.takes b.0.0 n.0 n.1 in
      let body = body_is.takes b.0.1 t.0 t.1 in
      let fits = fitting limit whole f.0 in
      let behind : a.0.1 ≡ decimal n.0 ++ 32 ∷ body_word t.0 = cut_takes 32 a.0.1 b.0 b.1 ∙ ap (λ (l : List ℕ). l ++ 32 ∷ b.0.1) num.0 ∙ ap (λ (l : List ℕ). decimal n.0 ++ 32 ∷ l) body.0 in
      let spelled : w ≡ record_text whole = cut_takes 32 w a.0 a.1 ∙ ap (λ (l : List ℕ). l ++ 32 ∷ a.0.1) key.0 ∙ ap (λ (l : List ℕ). key_text k.0 ++ 32 ∷ l) behind in
      let is : IsRecord limit whole = record { key = key.1; num = num.1; body = body.1; short = fits.0; unwritten = fits.1 } in
      subst (λ (y : Record). (w ≡ record_text y) × IsRecord limit y) f.1 (spelled, is);
  again = λ r fits.
      rw (cut_again 32 (key_text r.key) (decimal r.num ++ 32 ∷ body_word r.body) (key_lacks 32 r.key (omega arith) fits.key), key_is.again r.key fits.key, cut_again 32 (decimal r.num) (body_word r.body) (number_lacks 32 r.num (omega arith) fits.num), number_is.again r.num fits.num, body_is.again r.body fits.body)
      (rw (is_fitting_again limit r fits) refl);
}

-- ---- items

abbrev pub place_text : KeptPlace → List ℕ
place_text Snap = codes "snap"
place_text (Server server) = codes "server"
place_text (Client client) = codes "client" ++ 32 ∷ decimal client

abbrev pub item_text : KeptItem → List ℕ
item_text item = place_text item.place ++ 32 ∷ record_text item.rec

abbrev IsSpelled : ℕ → List ℕ → KeptItem → Type 0
IsSpelled limit line item = (line ≡ item_text item) × IsItem limit item

is_item : (limit : ℕ) (place : KeptPlace) (r : Record) → IsPlace place → IsRecord limit r → IsItem limit (record { place = place; rec = r })
is_item limit place r p h = record { place = p; key = h.key; num = h.num; body = h.body; short = h.short; unwritten = h.unwritten }

is_record : (limit : ℕ) (item : KeptItem) → IsItem limit item → IsRecord limit item.rec
is_record limit item h = record { key = h.key; num = h.num; body = h.body; short = h.short; unwritten = h.unwritten }

at_place : (limit : ℕ) (place : KeptPlace) (words : List ℕ) (item : KeptItem) → IsPlace place → (record_of limit words >>= kept_at place) ≡ Some item → (place_text place ++ 32 ∷ words ≡ item_text item) × IsItem limit item
at_place limit place words item p e =
    let a = bind_some (record_of limit words) (kept_at place) item e in
    let r = (record_is limit).takes words a.0 a.1 in
    let whole : KeptItem = record { place = place; rec = a.0 } in
    subst (λ (y : KeptItem). (place_text place ++ 32 ∷ words ≡ item_text y) × IsItem limit y) (some_is whole item a.2) (ap (λ (l : List ℕ). place_text place ++ 32 ∷ l) r.0, is_item limit place a.0 p r.1)

of_client : (limit : ℕ) (words : List ℕ) (item : KeptItem) → client_item_of limit words ≡ Some item → (codes "client" ++ 32 ∷ words ≡ item_text item) × IsItem limit item
of_client limit words item e =
    let a = bind_some (cut_at 32 words) (λ a. number_of a.0 >>= λ n. client_of n >>= λ client. record_of limit a.1 >>= kept_at (Client client)) item e in
    let n = bind_some (number_of a.0.0) (λ n. client_of n >>= λ client. record_of limit a.0.1 >>= kept_at (Client client)) item a.2 in
    let c = bind_some (client_of n.0) (λ client. record_of limit a.0.1 >>= kept_at (Client client)) item n.2 in
    let s = if_some (nat_lt n.0 CLIENT_LIMIT) n.0 c.0 c.1 in
    let t : nat_lt n.0 CLIENT_LIMIT ≡ true = s.0 in
    let small : n.0 < CLIENT_LIMIT = grind (arith, nat_tests) in
    let r = at_place limit (Client c.0) a.0.1 item (subst (λ (k : ℕ). k < CLIENT_LIMIT) s.1 small) c.2 in
    let num = number_is.takes a.0.0 n.0 n.1 in
    let spelled : words ≡ decimal c.0 ++ 32 ∷ a.0.1 = cut_takes 32 words a.0 a.1 ∙ ap (λ (l : List ℕ). l ++ 32 ∷ a.0.1) (num.0 ∙ ap decimal s.1) in
    let regroup : codes "client" ++ 32 ∷ (decimal c.0 ++ 32 ∷ a.0.1) ≡ (codes "client" ++ 32 ∷ decimal c.0) ++ 32 ∷ a.0.1 = sym (append_assoc (codes "client" ++ 32 ∷ []) (decimal c.0) (32 ∷ a.0.1)) in
    (ap (λ (l : List ℕ). codes "client" ++ 32 ∷ l) spelled ∙ regroup ∙ r.0, r.1)

by_word : (limit : ℕ) (word words : List ℕ) (item : KeptItem) → item_by limit word words ≡ Some item → (word ++ 32 ∷ words ≡ item_text item) × IsItem limit item
by_word limit word words item e =
    first (bytes_eq word (codes "snap")) refl e
  where
    named : (name : List ℕ) → bytes_eq word name ≡ true → (name ++ 32 ∷ words ≡ item_text item) × IsItem limit item → (word ++ 32 ∷ words ≡ item_text item) × IsItem limit item
    named name b h = subst (λ (w : List ℕ). (w ++ 32 ∷ words ≡ item_text item) × IsItem limit item) (sym ((bytes_eq-Decides word name).0 b)) h

    third : (b : Bool) → bytes_eq word (codes "client") ≡ b → cond b (client_item_of limit words) None ≡ Some item → (word ++ 32 ∷ words ≡ item_text item) × IsItem limit item
    third true b e = named (codes "client") b (of_client limit words item e)
    third false b e = absurd cc

    second : (b : Bool) → bytes_eq word (codes "server") ≡ b → cond b (record_of limit words >>= kept_at (Server 0)) (cond (bytes_eq word (codes "client")) (client_item_of limit words) None) ≡ Some item → (word ++ 32 ∷ words ≡ item_text item) × IsItem limit item
    second true b e = named (codes "server") b (at_place limit (Server 0) words item refl e)
    second false b e = third (bytes_eq word (codes "client")) refl e

    first : (b : Bool) → bytes_eq word (codes "snap") ≡ b → cond b (record_of limit words >>= kept_at Snap) (cond (bytes_eq word (codes "server")) (record_of limit words >>= kept_at (Server 0)) (cond (bytes_eq word (codes "client")) (client_item_of limit words) None)) ≡ Some item → (word ++ 32 ∷ words ≡ item_text item) × IsItem limit item
    first true b e = named (codes "snap") b (at_place limit Snap words item tt e)
    first false b e = second (bytes_eq word (codes "server")) refl e

item_takes : (limit : ℕ) (line : List ℕ) (item : KeptItem) → item_of limit line ≡ Some item → (line ≡ item_text item) × IsItem limit item
item_takes limit line item e =
    let a = bind_some (cut_at 32 line) (λ a. item_by limit a.0 a.1) item e in
    let r = by_word limit a.0.0 a.0.1 item a.2 in
    (cut_takes 32 line a.0 a.1 ∙ r.0, r.1)

client_again : (limit client : ℕ) (r : Record) → client < CLIENT_LIMIT → IsRecord limit r → client_item_of limit (decimal client ++ 32 ∷ record_text r) ≡ Some (record { place = Client client; rec = r })
client_again limit client r small h =
    let num : client ≤ NUMBER_LIMIT = omega (arith, small) in
    let t : nat_lt client CLIENT_LIMIT ≡ true = grind (arith, nat_tests) in
    rw (cut_again 32 (decimal client) (record_text r) (number_lacks 32 client (omega arith) num), number_is.again client num, t, (record_is limit).again r h) refl

item_again : (limit : ℕ) (place : KeptPlace) (r : Record) → IsPlace place → IsRecord limit r → item_of limit (place_text place ++ 32 ∷ record_text r) ≡ Some (record { place = place; rec = r })
item_again limit Snap r p h = rw ((record_is limit).again r h) refl
item_again limit (Server server) r p h = rw ((record_is limit).again r h, p) refl
item_again limit (Client client) r p h = rw (client_again limit client r p h) refl

pub item_is : (limit : ℕ) → IsSpelling (item_of limit) item_text (IsItem limit)
item_is limit = record {
  takes = item_takes limit;
  again = λ item fits. item_again limit item.place item.rec fits.place (is_record limit item fits);
}

-- ---- lines

body_lacks : (body : Option (List ℕ)) → IsBody body → lacks 10 (body_word body) ≡ true
body_lacks None h = refl
body_lacks (Some text) h = visible_lacks 10 text (omega arith) h.0

record_lacks : (limit : ℕ) (r : Record) → IsRecord limit r → lacks 10 (record_text r) ≡ true
record_lacks limit r h =
    lacks_join 10 (key_text r.key) (32 ∷ (decimal r.num ++ 32 ∷ body_word r.body)) (key_lacks 10 r.key (omega arith) h.key)
    (lacks_join 10 (decimal r.num) (32 ∷ body_word r.body) (number_lacks 10 r.num (omega arith) h.num) (body_lacks r.body h.body))

place_lacks : (place : KeptPlace) → IsPlace place → lacks 10 (place_text place) ≡ true
place_lacks Snap p = refl
place_lacks (Server server) p = refl
place_lacks (Client client) p = let num : client ≤ NUMBER_LIMIT = omega (arith, p) in number_lacks 10 client (omega arith) num

pub item_lacks : (limit : ℕ) (item : KeptItem) → IsItem limit item → lacks 10 (item_text item) ≡ true
item_lacks limit item h = lacks_join 10 (place_text item.place) (32 ∷ record_text item.rec) (place_lacks item.place h.place) (record_lacks limit item.rec (is_record limit item h))

line_at : (place : KeptPlace) (r : Record) → item_line (record { place = place; rec = r }) ≡ (place_text place ++ 32 ∷ record_text r) ++ 10 ∷ []
line_at Snap r = simp append_assoc
line_at (Server server) r = simp append_assoc
line_at (Client client) r = simp append_assoc

-- the line of an item is its text and a line end
pub line_of : (item : KeptItem) → item_line item ≡ item_text item ++ 10 ∷ []
line_of item = line_at item.place item.rec

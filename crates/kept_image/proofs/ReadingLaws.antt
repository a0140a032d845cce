-- A text is read line by line.
use Rattle.std.proofs.Common.{◌≡◌, ◌≢◌, ℕ, suc, ◌+◌, ◌≤◌, inl, inr, Bool, true, false, not, ◌&&◌, cond, List, [], ◌∷◌, ◌++◌, map, length, take, drop, refl, sym, ap, ◌∙◌, subst, Some, None, arith, append_assoc}
use Rattle.std.specs.Prelude.{Option, Result, Err, codes, bytes_eq, nat_eq}
use Rattle.std.proofs.lemmas.Slice.Eq.{bytes_eq-Decides}
use Rattle.std.proofs.lemmas.List.{append-nil}
use Rattle.std.proofs.lemmas.Grind.{flat_map-append}
use Rattle.far_base.specs.Padded.{length_of}
use Rattle.far_base.specs.declared.body.TheConstants.{BODY_LIMIT}
use Rattle.far_base.specs.declared.kept.KeptItem.{KeptItem}
use Rattle.far_base.specs.declared.kept.KeptPlace.TheVariants.{Snap, Server, Client}
use Rattle.far_base.specs.declared.record.Record.{Record}
use Rattle.far_model.specs.History.{Agree}
use Rattle.far_model.specs.Kept.{records_in}
use Rattle.far_model.specs.Members.{Each}
use Rattle.far_text.specs.Pieces.{cut_at, ended, lacks, until}
use Rattle.far_text.specs.Words.{IsBody}
use Rattle.far_text.proofs.Digits.{both_true}
use Rattle.far_text.proofs.Spelling.{cut_takes}
use Rattle.kept_image.specs.Faults.{IsLineOf, IsFaultOfLine, IsFaultAt, HasImageFault, Blames}
use Rattle.kept_image.specs.ImageText.{title_line, item_line, item_lines, end_line, image_text}
use Rattle.kept_image.specs.Meaning.{AreTold, AreWhole, CanBeTold, IsFront, IsImage, IsItem, HasVisibleBytes, IsWholeRecord, body_limit, told_item, told_place}
use Rattle.kept_image.specs.declared.fault.ImageFault.{ImageFault}
use Rattle.kept_image.specs.declared.fault.ImageFault.TheVariants.{BadLine, Conflict, Memory}
use Rattle.kept_image.specs.declared.version.Version.{Version}
use Rattle.kept_image.specs.declared.version.Version.TheVariants.{First, Second}
use Rattle.kept_image.proofs.VersionLaws.{first_of}

abbrev pub refused : {A : Type 0} → ImageFault → Result A ImageFault
refused fault = Err fault

-- ---- what was written

told_line : (item : KeptItem) → item_line (told_item item) ≡ item_line item
told_line item = go item.place
  where
    go : (place : Rattle.far_base.specs.declared.kept.KeptPlace.KeptPlace) → item_line (record { place = told_place place; rec = item.rec }) ≡ item_line (record { place = place; rec = item.rec })
    go Snap = refl
    go (Server server) = refl
    go (Client client) = refl

told_lines : (items : List KeptItem) → item_lines (map told_item items) ≡ item_lines items
told_lines [] = refl
told_lines (x ∷ xs) = ap (λ (l : List ℕ). l ++ item_lines (map told_item xs)) (told_line x) ∙ ap (λ (l : List ℕ). item_line x ++ l) (told_lines xs)

pub told_records : (items : List KeptItem) → records_in (map told_item items) ≡ records_in items
told_records [] = refl
told_records (x ∷ xs) = ap (λ (l : List Record). x.rec ∷ l) (told_records xs)

told_fits : (item : KeptItem) → IsWholeRecord item.rec → CanBeTold item → IsItem BODY_LIMIT (told_item item)
told_fits item whole can = record { place = can.place; key = whole.key; num = can.num; body = go item.rec.body whole.short can.body; short = whole.short; unwritten = can.unwritten }
  where
    go : (body : Option (List ℕ)) → length_of body ≤ BODY_LIMIT → HasVisibleBytes body → IsBody body
    go None short visible = tt
    go (Some text) short visible = (visible, short)

told_fit : (items : List KeptItem) → AreWhole items → Each CanBeTold items → Each (IsItem BODY_LIMIT) (map told_item items)
told_fit [] whole can = tt
told_fit (x ∷ xs) whole can = (told_fits x whole.0 can.0, told_fit xs whole.1 can.1)

pub written_reads : (items : List KeptItem) (text : List ℕ) → text ≡ image_text items → AreWhole items → AreTold items → IsImage text (map told_item items)
written_reads items text e whole h = record {
  version = Second;
  front = record {
    spelled = e ∙ ap (λ (l : List ℕ). title_line Second ++ l ++ end_line) (sym (told_lines items));
    fit = told_fit items whole h.0;
    agree = subst Agree (sym (told_records items)) h.1;
  };
}

-- ---- the first line of the second version in place of that of the first

fits_longer : (item : KeptItem) → IsItem (body_limit First) item → IsItem (body_limit Second) item
fits_longer item h = record { place = h.place; key = h.key; num = h.num; body = h.body; short = omega (arith, h.short); unwritten = h.unwritten }

pub all_longer : (items : List KeptItem) → Each (IsItem (body_limit First)) items → Each (IsItem (body_limit Second)) items
all_longer [] h = tt
all_longer (x ∷ xs) h = (fits_longer x h.0, all_longer xs h.1)

-- ---- one line more

pub line_behind : (rest line after : List ℕ) (item : KeptItem) → cut_at 10 rest ≡ Some (line, after) → IsLineOf line item → rest ≡ item_line item ++ after
line_behind rest line after item cut is =
    cut_takes 10 rest (line, after) cut ∙ sym (append_assoc line (10 ∷ []) after) ∙ ap (λ (l : List ℕ). l ++ after) is

each_push : {A : Type 0} (P : A → Type 0) (xs : List A) (x : A) → Each P xs → P x → Each P (xs ++ x ∷ [])
each_push P [] x h p = (p, tt)
each_push P (y ∷ ys) x h p = (h.0, each_push P ys x h.1 p)

lines_more : (items : List KeptItem) (item : KeptItem) → item_lines (items ++ item ∷ []) ≡ item_lines items ++ item_line item
lines_more items item = flat_map-append item_line items (item ∷ []) ∙ ap (λ (l : List ℕ). item_lines items ++ l) (append-nil (item_line item))

regroup : (t a b c : List ℕ) → (t ++ a) ++ (b ++ c) ≡ (t ++ (a ++ b)) ++ c
regroup t a b c = simp append_assoc

pub front_more : (text : List ℕ) (version : Version) (items more : List KeptItem) (rest line after : List ℕ) (item : KeptItem) → IsFront text version items rest → cut_at 10 rest ≡ Some (line, after) → IsItem (body_limit version) item → IsLineOf line item → more ≡ items ++ item ∷ []
    → Agree (records_in more) → IsFront text version more after
front_more text version items more rest line after item f cut fits is e agree = record {
  spelled = f.spelled ∙ (ap (λ (l : List ℕ). (title_line version ++ item_lines items) ++ l) (line_behind rest line after item cut is)
      ∙ (regroup (title_line version) (item_lines items) (item_line item) after
      ∙ ap (λ (l : List ℕ). (title_line version ++ l) ++ after) (sym (ap item_lines e ∙ lines_more items item))));
  fit = subst (Each (IsItem (body_limit version))) (sym e) (each_push (IsItem (body_limit version)) items item f.fit fits);
  agree = agree;
}

-- ---- faults

stopped : (mark : ℕ) (bytes : List ℕ) → drop (until mark bytes) bytes ≡ [] → lacks mark bytes ≡ true
stopped mark [] e = refl
stopped mark (b ∷ bs) given =
    elim (nat_eq b mark) as (λ v. drop (cond v 0 (suc (until mark bs))) (b ∷ bs) ≡ [] → (not v && lacks mark bs) ≡ true) [
      | true ↦ λ e. absurd cc
      | false ↦ λ e. stopped mark bs e
    ] given

nothing_after : (front after : List ℕ) → ended front after ≡ None → after ≡ []
nothing_after front [] e = refl
nothing_after front (b ∷ bs) e = absurd cc

pub cut_lacks : (mark : ℕ) (bytes : List ℕ) → cut_at mark bytes ≡ None → lacks mark bytes ≡ true
cut_lacks mark bytes e = stopped mark bytes (nothing_after (take (until mark bytes) bytes) (drop (until mark bytes) bytes) e)

first_at : (text : List ℕ) (version : Version) (items : List KeptItem) (rest : List ℕ) (fault : ImageFault) → IsFront text version items rest → IsFaultAt (body_limit version) (length items + 2) items rest fault → HasImageFault text fault
first_at text version items rest fault f at = inr (record { version = version; items = items; rest = rest; front = f; at = at })

bad_lines : (n m : ℕ) → n ≡ m → BadLine n ≡ BadLine m
bad_lines n m e = ap (λ (k : ℕ). BadLine k) e

pub missing_line : (text : List ℕ) (version : Version) (items : List KeptItem) (rest : List ℕ) (n : ℕ) → IsFront text version items rest → cut_at 10 rest ≡ None → n ≡ length items + 1 → HasImageFault text (BadLine (n + 1))
missing_line text version items rest n f cut e =
    let same : n + 1 ≡ length items + 2 = omega (arith, e) in
    first_at text version items rest (BadLine (n + 1)) f (inl (cut_lacks 10 rest cut, bad_lines (n + 1) (length items + 2) same))

pub more_behind : (text : List ℕ) (version : Version) (items : List KeptItem) (rest line after : List ℕ) (n : ℕ) → IsFront text version items rest → cut_at 10 rest ≡ Some (line, after) → line ≡ codes "end" → 1 ≤ length after → n ≡ length items + 2 → HasImageFault text (BadLine (n + 1))
more_behind text version items rest line [] n f cut is some e = absurd (omega (arith, some))
more_behind text version items rest line (b ∷ bs) n f cut is some e =
    let same : n + 1 ≡ length items + 2 + 1 = omega (arith, e) in
    first_at text version items rest (BadLine (n + 1)) f (inr (inr (record {
      first = b;
      others = bs;
      whole = cut_takes 10 rest (line, b ∷ bs) cut ∙ ap (λ (l : List ℕ). l ++ 10 ∷ (b ∷ bs)) is;
      named = bad_lines (n + 1) (length items + 2 + 1) same;
    })))

pub faulty_line : (text : List ℕ) (version : Version) (items : List KeptItem) (rest line after : List ℕ) (n : ℕ) (fault : ImageFault) → IsFront text version items rest → cut_at 10 rest ≡ Some (line, after) → line ≢ codes "end" → n ≡ length items + 2
    → IsFaultOfLine (body_limit version) n items line fault → HasImageFault text fault
faulty_line text version items rest line after n fault f cut no_end e fails =
    first_at text version items rest fault f (inr (inl (record {
      line = line;
      others = after;
      whole = cut_takes 10 rest (line, after) cut;
      one = cut_front 10 rest line after cut;
      no_end = no_end;
      fails = subst (λ (k : ℕ). IsFaultOfLine (body_limit version) k items line fault) e fails;
    })))
  where
    cut_front : (mark : ℕ) (bytes front behind : List ℕ) → cut_at mark bytes ≡ Some (front, behind) → lacks mark front ≡ true
    cut_front mark bytes front behind e = subst (λ (l : List ℕ). lacks mark l ≡ true) (front_is (take (until mark bytes) bytes) (drop (until mark bytes) bytes) e) (before mark bytes)
      where
        front_is : (x y : List ℕ) → ended x y ≡ Some (front, behind) → x ≡ front
        front_is x [] e = absurd cc
        front_is x (z ∷ zs) e = ap first_of e

        before : (mark : ℕ) (bytes : List ℕ) → lacks mark (take (until mark bytes) bytes) ≡ true
        before mark [] = refl
        before mark (b ∷ bs) =
            elim (nat_eq b mark) as (λ v. nat_eq b mark ≡ v → lacks mark (take (cond v 0 (suc (until mark bs))) (b ∷ bs)) ≡ true) [
              | true ↦ λ e. refl
              | false ↦ λ e. both_true _ _ (ap not e) (before mark bs)
            ] refl

pub blamed_line : (text : List ℕ) (version : Version) (items : List KeptItem) (rest line after : List ℕ) (n : ℕ) (fault : ImageFault) → IsFront text version items rest → cut_at 10 rest ≡ Some (line, after) → line ≢ codes "end" → n ≡ length items + 2
    → Blames (refused {A = Unit {0}} fault) (IsFaultOfLine (body_limit version) n items line) → Blames (refused {A = Unit {0}} fault) (HasImageFault text)
blamed_line text version items rest line after n (BadLine k) f cut no_end e b = faulty_line text version items rest line after n (BadLine k) f cut no_end e b
blamed_line text version items rest line after n (Conflict k) f cut no_end e b = faulty_line text version items rest line after n (Conflict k) f cut no_end e b
blamed_line text version items rest line after n Memory f cut no_end e b = tt

pub other_word : (word name : List ℕ) (b : Bool) → b ≡ bytes_eq word name → b ≡ false → word ≢ name
other_word word name b e f is =
    let t : bytes_eq word name ≡ true = (bytes_eq-Decides word name).1 is in
    let z : true ≡ false = sym t ∙ (sym e ∙ f) in
    absurd cc

pub same_word : (word name : List ℕ) (b : Bool) → b ≡ bytes_eq word name → b ≡ true → word ≡ name
same_word word name b e t = (bytes_eq-Decides word name).0 (sym e ∙ t)

-- A text is the image of at most one list, or has one first fault, and never both.
use Rattle.std.proofs.Common.{◌≡◌, inl, inr, ℕ, ◌+◌, List, [], ◌∷◌, ◌++◌, length, refl, sym, ap, ◌∙◌, subst, Some, None, append_assoc}
use Rattle.std.specs.Prelude.{Option, Result, Ok, Err, IfOk, codes}
use Rattle.far_base.specs.declared.kept.KeptItem.{KeptItem}
use Rattle.far_base.specs.declared.record.Record.{Record}
use Rattle.far_model.specs.History.{Agree}
use Rattle.far_model.specs.Kept.{records_in}
use Rattle.far_model.specs.Members.{Each}
use Rattle.far_model.proofs.Members.{among_append_left, among_append_right}
use Rattle.far_text.specs.Pieces.{cut_at}
use Rattle.far_text.proofs.Spelling.{cut_again, cut_none, some_is}
use Rattle.kept_image.specs.Faults.{HasConflict, IsFaultOfLine, IsFaulty, IsFaultAt, HasNoTitle, IsFirstFault, HasImageFault, Blames, IsFoundAs}
use Rattle.kept_image.specs.ImageText.{title_line, item_line, item_lines, end_line}
use Rattle.kept_image.specs.Meaning.{IsItem, IsFront, IsImage, IsReadAs, body_limit}
use Rattle.kept_image.specs.Words.{item_of}
use Rattle.kept_image.specs.declared.fault.ImageFault.{ImageFault}
use Rattle.kept_image.specs.declared.fault.ImageFault.TheVariants.{BadLine, Conflict, Memory}
use Rattle.kept_image.specs.declared.version.Version.{Version}
use Rattle.kept_image.specs.declared.version.Version.TheVariants.{First, Second}
use Rattle.kept_image.proofs.LineLaws.{line_text, text_line_of}
use Rattle.kept_image.proofs.ReadingLaws.{all_longer}
use Rattle.kept_image.proofs.VersionLaws.{first_of, rest_of, one_title}
use Rattle.kept_image.proofs.WordLaws.{item_text, item_is, item_lacks, line_of}

abbrev there : ImageFault → Option ImageFault
there fault = Some fault

-- ---- lines

line_cut : (limit : ℕ) (item : KeptItem) (rest : List ℕ) → IsItem limit item → cut_at 10 (item_line item ++ rest) ≡ Some (item_text item, rest)
line_cut limit item rest h =
    ap (λ (l : List ℕ). cut_at 10 (l ++ rest)) (line_of item) ∙ (ap (cut_at 10) (append_assoc (item_text item) (10 ∷ []) rest) ∙ cut_again 10 (item_text item) rest (item_lacks limit item h))

same_item : (limit : ℕ) (x y : KeptItem) → IsItem limit x → IsItem limit y → item_text x ≡ item_text y → x ≡ y
same_item limit x y h k e = some_is x y (sym ((item_is limit).again x h) ∙ (ap (item_of limit) e ∙ (item_is limit).again y k))

no_end_item : (limit : ℕ) (x : KeptItem) → IsItem limit x → item_text x ≡ codes "end" → ⊥
no_end_item limit x h e =
    let z : item_of limit (codes "end") ≡ Some x = ap (item_of limit) (sym e) ∙ (item_is limit).again x h in
    absurd cc

same_cut : (text a b x y : List ℕ) → cut_at 10 text ≡ Some (a, x) → cut_at 10 text ≡ Some (b, y) → (a ≡ b) × (x ≡ y)
same_cut text a b x y e f = (ap first_of (sym e ∙ f), ap rest_of (sym e ∙ f))

-- ---- two fronts of a text

data Compared (limit : ℕ) (xs : List KeptItem) (r : List ℕ) (ys : List KeptItem) (s : List ℕ) : Type 0 where
  same : xs ≡ ys → r ≡ s → Compared limit xs r ys s
  longer : (z : KeptItem) (zs : List KeptItem) (rest : List ℕ) → ys ≡ xs ++ z ∷ zs → IsItem limit z → r ≡ item_line z ++ rest → Compared limit xs r ys s
  shorter : (z : KeptItem) (zs : List KeptItem) (rest : List ℕ) → xs ≡ ys ++ z ∷ zs → IsItem limit z → s ≡ item_line z ++ rest → Compared limit xs r ys s

compare : (limit : ℕ) (xs ys : List KeptItem) (r s : List ℕ) → Each (IsItem limit) xs → Each (IsItem limit) ys → item_lines xs ++ r ≡ item_lines ys ++ s → Compared limit xs r ys s
compare limit [] [] r s h k e = same refl e
compare limit [] (y ∷ ys) r s h k e = longer y ys (item_lines ys ++ s) refl k.0 (e ∙ append_assoc (item_line y) (item_lines ys) s)
compare limit (x ∷ xs) [] r s h k e = shorter x xs (item_lines xs ++ r) refl h.0 (sym e ∙ append_assoc (item_line x) (item_lines xs) r)
compare limit (x ∷ xs) (y ∷ ys) r s h k e =
    let both : item_line x ++ (item_lines xs ++ r) ≡ item_line y ++ (item_lines ys ++ s) = sym (append_assoc (item_line x) (item_lines xs) r) ∙ (e ∙ append_assoc (item_line y) (item_lines ys) s) in
    let c = same_cut (item_line y ++ (item_lines ys ++ s)) (item_text x) (item_text y) (item_lines xs ++ r) (item_lines ys ++ s) (ap (cut_at 10) (sym both) ∙ line_cut limit x (item_lines xs ++ r) h.0) (line_cut limit y (item_lines ys ++ s) k.0) in
    on (same_item limit x y h.0 k.0 c.0) (compare limit xs ys r s h.1 k.1 c.1)
  where
    on : x ≡ y → Compared limit xs r ys s → Compared limit (x ∷ xs) r (y ∷ ys) s
    on i (same e f) = same (λ j. i j ∷ e j) f
    on i (longer z zs rest e fits f) = longer z zs rest (λ j. sym i j ∷ e j) fits f
    on i (shorter z zs rest e fits f) = shorter z zs rest (λ j. i j ∷ e j) fits f

-- ---- where reading stops

abbrev Stops : ℕ → List KeptItem → List ℕ → Option ImageFault → Type 0
Stops limit items rest None = rest ≡ end_line
Stops limit items rest (Some fault) = IsFaultAt limit (length items + 2) items rest fault

records_append : (xs ys : List KeptItem) → records_in (xs ++ ys) ≡ records_in xs ++ records_in ys
records_append [] ys = refl
records_append (x ∷ xs) ys = ap (λ (l : List Record). x.rec ∷ l) (records_append xs ys)

agrees : (xs : List KeptItem) (z : KeptItem) (zs : List KeptItem) → Agree (records_in (xs ++ z ∷ zs)) → HasConflict (records_in xs) z.rec → ⊥
agrees xs z zs h c =
    let all : Agree (records_in xs ++ records_in (z ∷ zs)) = subst Agree (records_append xs (z ∷ zs)) h in
    c.body (all c.earlier z.rec (among_append_left c.earlier (records_in xs) (records_in (z ∷ zs)) c.stands) (among_append_right z.rec (records_in xs) (records_in (z ∷ zs)) (inl refl)) c.key c.num)

end_cut : (rest : List ℕ) → cut_at 10 (end_line ++ rest) ≡ Some (codes "end", rest)
end_cut rest = cut_again 10 (codes "end") rest refl

whole_end : cut_at 10 end_line ≡ Some (codes "end", [])
whole_end = cut_again 10 (codes "end") [] refl

faulty_cut : (limit n : ℕ) (items : List KeptItem) (rest : List ℕ) (fault : ImageFault) (f : IsFaulty limit n items rest fault) → cut_at 10 rest ≡ Some (f.line, f.others)
faulty_cut limit n items rest fault f = ap (cut_at 10) f.whole ∙ cut_again 10 f.line f.others f.one

-- reading does not stop where the line of an item follows that all agree with
goes_on : (limit : ℕ) (xs : List KeptItem) (z : KeptItem) (zs : List KeptItem) (r rest : List ℕ) (o : Option ImageFault) → r ≡ item_line z ++ rest → IsItem limit z → Agree (records_in (xs ++ z ∷ zs)) → Stops limit xs r o → ⊥
goes_on limit xs z zs r rest o e fits agree s = by o s
  where
    cut : cut_at 10 r ≡ Some (item_text z, rest)
    cut = ap (cut_at 10) e ∙ line_cut limit z rest fits

    by : (o : Option ImageFault) → Stops limit xs r o → ⊥
    by None s = no_end_item limit z fits (same_cut r (item_text z) (codes "end") rest [] cut (ap (cut_at 10) s ∙ whole_end)).0
    by (Some fault) (inl x) = let y = sym (cut_none 10 r x.0) ∙ cut in absurd cc
    by (Some fault) (inr (inl f)) = fails f.fails
      where
        same_line : f.line ≡ item_text z
        same_line = sym (same_cut r (item_text z) f.line rest f.others cut (faulty_cut limit (length xs + 2) xs r fault f)).0

        fails : IsFaultOfLine limit (length xs + 2) xs f.line fault → ⊥
        fails (inl x) = x.0 z fits (text_line_of f.line z same_line)
        fails (inr x) =
            let i : x.0.item ≡ z = same_item limit x.0.item z x.0.fits fits (sym (line_text f.line x.0.item x.0.spelled) ∙ same_line) in
            agrees xs z zs agree (subst (λ (y : KeptItem). HasConflict (records_in xs) y.rec) i x.0.conflict)
    by (Some fault) (inr (inr g)) = no_end_item limit z fits (same_cut r (item_text z) (codes "end") rest (g.first ∷ g.others) cut (ap (cut_at 10) g.whole ∙ end_cut (g.first ∷ g.others))).0

one_fails : (limit n : ℕ) (items : List KeptItem) (line : List ℕ) (a b : ImageFault) → IsFaultOfLine limit n items line a → IsFaultOfLine limit n items line b → a ≡ b
one_fails limit n items line a b (inl x) (inl y) = x.1 ∙ sym y.1
one_fails limit n items line a b (inl x) (inr y) = absurd (x.0 y.0.item y.0.fits y.0.spelled)
one_fails limit n items line a b (inr x) (inl y) = absurd (y.0 x.0.item x.0.fits x.0.spelled)
one_fails limit n items line a b (inr x) (inr y) = x.1 ∙ sym y.1

one_fault_at : (limit n : ℕ) (items : List KeptItem) (rest : List ℕ) (a b : ImageFault) → IsFaultAt limit n items rest a → IsFaultAt limit n items rest b → a ≡ b
one_fault_at limit n items rest a b (inl x) (inl y) = x.1 ∙ sym y.1
one_fault_at limit n items rest a b (inl x) (inr (inl y)) = let z = sym (cut_none 10 rest x.0) ∙ faulty_cut limit n items rest b y in absurd cc
one_fault_at limit n items rest a b (inl x) (inr (inr y)) = let z = sym (cut_none 10 rest x.0) ∙ (ap (cut_at 10) y.whole ∙ end_cut (y.first ∷ y.others)) in absurd cc
one_fault_at limit n items rest a b (inr (inl x)) (inl y) = let z = sym (cut_none 10 rest y.0) ∙ faulty_cut limit n items rest a x in absurd cc
one_fault_at limit n items rest a b (inr (inl x)) (inr (inl y)) =
    let c = same_cut rest x.line y.line x.others y.others (faulty_cut limit n items rest a x) (faulty_cut limit n items rest b y) in
    one_fails limit n items y.line a b (subst (λ (l : List ℕ). IsFaultOfLine limit n items l a) c.0 x.fails) y.fails
one_fault_at limit n items rest a b (inr (inl x)) (inr (inr y)) = absurd (x.no_end (same_cut rest x.line (codes "end") x.others (y.first ∷ y.others) (faulty_cut limit n items rest a x) (ap (cut_at 10) y.whole ∙ end_cut (y.first ∷ y.others))).0)
one_fault_at limit n items rest a b (inr (inr x)) (inl y) = let z = sym (cut_none 10 rest y.0) ∙ (ap (cut_at 10) x.whole ∙ end_cut (x.first ∷ x.others)) in absurd cc
one_fault_at limit n items rest a b (inr (inr x)) (inr (inl y)) = absurd (y.no_end (same_cut rest y.line (codes "end") y.others (x.first ∷ x.others) (faulty_cut limit n items rest b y) (ap (cut_at 10) x.whole ∙ end_cut (x.first ∷ x.others))).0)
one_fault_at limit n items rest a b (inr (inr x)) (inr (inr y)) = x.named ∙ sym y.named

no_fault_at_end : (limit n : ℕ) (items : List KeptItem) (rest : List ℕ) (fault : ImageFault) → rest ≡ end_line → IsFaultAt limit n items rest fault → ⊥
no_fault_at_end limit n items rest fault e (inl x) = let z = sym (cut_none 10 rest x.0) ∙ (ap (cut_at 10) e ∙ whole_end) in absurd cc
no_fault_at_end limit n items rest fault e (inr (inl x)) = x.no_end (same_cut rest x.line (codes "end") x.others [] (faulty_cut limit n items rest fault x) (ap (cut_at 10) e ∙ whole_end)).0
no_fault_at_end limit n items rest fault e (inr (inr x)) =
    let c : x.first ∷ x.others ≡ [] = (same_cut rest (codes "end") (codes "end") (x.first ∷ x.others) [] (ap (cut_at 10) x.whole ∙ end_cut (x.first ∷ x.others)) (ap (cut_at 10) e ∙ whole_end)).1 in
    absurd cc

one_stop : (limit : ℕ) (items : List KeptItem) (rest : List ℕ) (o p : Option ImageFault) → Stops limit items rest o → Stops limit items rest p → o ≡ p
one_stop limit items rest None None x y = refl
one_stop limit items rest None (Some b) x y = absurd (no_fault_at_end limit (length items + 2) items rest b x y)
one_stop limit items rest (Some a) None x y = absurd (no_fault_at_end limit (length items + 2) items rest a y x)
one_stop limit items rest (Some a) (Some b) x y = ap Some (one_fault_at limit (length items + 2) items rest a b x y)

-- ---- the whole text

record ReadsTo (text : List ℕ) (items : List KeptItem) (o : Option ImageFault) : Type 0 where
  version : Version
  rest : List ℕ
  front : IsFront text version items rest
  stops : Stops (body_limit version) items rest o

one_limit : (limit : ℕ) (xs ys : List KeptItem) (r s : List ℕ) (o p : Option ImageFault) → Each (IsItem limit) xs → Each (IsItem limit) ys → Agree (records_in xs) → Agree (records_in ys) → Stops limit xs r o → Stops limit ys s p → Compared limit xs r ys s → (xs ≡ ys) × (o ≡ p)
one_limit limit xs ys r s o p h k a b x y (same e f) = (e, one_stop limit ys s o p (subst (λ (l : List KeptItem). Stops limit l s o) e (subst (λ (l : List ℕ). Stops limit xs l o) f x)) y)
one_limit limit xs ys r s o p h k a b x y (longer z zs rest e fits f) = absurd (goes_on limit xs z zs r rest o f fits (subst (λ (l : List KeptItem). Agree (records_in l)) e b) x)
one_limit limit xs ys r s o p h k a b x y (shorter z zs rest e fits f) = absurd (goes_on limit ys z zs s rest p f fits (subst (λ (l : List KeptItem). Agree (records_in l)) e a) y)

one_reading : (text : List ℕ) (xs ys : List KeptItem) (o p : Option ImageFault) → ReadsTo text xs o → ReadsTo text ys p → (xs ≡ ys) × (o ≡ p)
one_reading text xs ys o p f g =
    let a : title_line f.version ++ (item_lines xs ++ f.rest) ≡ title_line g.version ++ (item_lines ys ++ g.rest) =
    sym (append_assoc (title_line f.version) (item_lines xs) f.rest) ∙ (sym f.front.spelled ∙ (g.front.spelled ∙ append_assoc (title_line g.version) (item_lines ys) g.rest)) in
    let t = one_title f.version g.version (item_lines xs ++ f.rest) (item_lines ys ++ g.rest) a in
    let fit : Each (IsItem (body_limit g.version)) xs = subst (λ (v : Version). Each (IsItem (body_limit v)) xs) t.0 f.front.fit in
    let stops : Stops (body_limit g.version) xs f.rest o = subst (λ (v : Version). Stops (body_limit v) xs f.rest o) t.0 f.stops in
    one_limit (body_limit g.version) xs ys f.rest g.rest o p fit g.front.fit f.front.agree g.front.agree stops g.stops (compare (body_limit g.version) xs ys f.rest g.rest fit g.front.fit t.1)

of_image : (text : List ℕ) (items : List KeptItem) → IsImage text items → ReadsTo text items None
of_image text items h = record { version = h.version; rest = end_line; front = h.front; stops = refl }

of_fault : (text : List ℕ) (fault : ImageFault) (h : IsFirstFault text fault) → ReadsTo text h.items (Some fault)
of_fault text fault h = record { version = h.version; rest = h.rest; front = h.front; stops = h.at }

titled : (text : List ℕ) (items : List KeptItem) (o : Option ImageFault) → ReadsTo text items o → HasNoTitle text → ⊥
titled text items o h none = none h.version (item_lines items ++ h.rest) (h.front.spelled ∙ append_assoc (title_line h.version) (item_lines items) h.rest)

pub one_image : (text : List ℕ) (xs ys : List KeptItem) → IsImage text xs → IsImage text ys → xs ≡ ys
one_image text xs ys h k = (one_reading text xs ys None None (of_image text xs h) (of_image text ys k)).0

pub never_both : (text : List ℕ) (items : List KeptItem) (fault : ImageFault) → IsImage text items → HasImageFault text fault → ⊥
never_both text items fault h (inl x) = titled text items None (of_image text items h) x.0
never_both text items fault h (inr x) = let e = (one_reading text items x.items None (Some fault) (of_image text items h) (of_fault text fault x)).1 in absurd cc

pub one_fault : (text : List ℕ) (a b : ImageFault) → HasImageFault text a → HasImageFault text b → a ≡ b
one_fault text a b (inl x) (inl y) = x.1 ∙ sym y.1
one_fault text a b (inl x) (inr y) = absurd (titled text y.items (Some b) (of_fault text b y) x.0)
one_fault text a b (inr x) (inl y) = absurd (titled text x.items (Some a) (of_fault text a x) y.0)
one_fault text a b (inr x) (inr y) = some_fault a b (one_reading text x.items y.items (Some a) (Some b) (of_fault text a x) (of_fault text b y)).1
  where
    some_fault : (a b : ImageFault) → there a ≡ there b → a ≡ b
    some_fault a b e = cc

-- ---- what a reader answers

pub is_only : (text : List ℕ) (result : Result (List KeptItem) ImageFault) → IfOk result (λ items. IsImage text items) → Blames result (HasImageFault text) → (items : List KeptItem) → IsImage text items → IsReadAs result items
is_only text (Ok found) h b items k = one_image text found items h k
is_only text (Err (BadLine n)) h b items k = never_both text items (BadLine n) k b
is_only text (Err (Conflict n)) h b items k = never_both text items (Conflict n) k b
is_only text (Err Memory) h b items k = tt

pub is_first : (text : List ℕ) (result : Result (List KeptItem) ImageFault) → IfOk result (λ items. IsImage text items) → Blames result (HasImageFault text) → (fault : ImageFault) → HasImageFault text fault → IsFoundAs result fault
is_first text (Ok found) h b fault k = never_both text found fault h k
is_first text (Err (BadLine n)) h b fault k = one_fault text (BadLine n) fault b k
is_first text (Err (Conflict n)) h b fault k = one_fault text (Conflict n) fault b k
is_first text (Err Memory) h b fault k = tt

-- what a text of the first version tells, it tells with the first line of the second version too
pub migrated : (rest : List ℕ) (items : List KeptItem) → IsImage (title_line First ++ rest) items → IsImage (title_line Second ++ rest) items
migrated rest items h = by h.version h.front
  where
    by : (version : Version) → IsFront (title_line First ++ rest) version items end_line → IsImage (title_line Second ++ rest) items
    by version f = on version f (one_title First version rest (item_lines items ++ end_line) (f.spelled ∙ append_assoc (title_line version) (item_lines items) end_line))
      where
        on : (version : Version) → IsFront (title_line First ++ rest) version items end_line → (First ≡ version) × (rest ≡ item_lines items ++ end_line) → IsImage (title_line Second ++ rest) items
        on First f e = record {
          version = Second;
          front = record {
            spelled = ap (λ (l : List ℕ). title_line Second ++ l) e.1 ∙ sym (append_assoc (title_line Second) (item_lines items) end_line);
            fit = all_longer items f.fit;
            agree = f.agree;
          };
        }
        on Second f e = let z = e.0 in absurd cc

pub migrates : (text : List ℕ) (result : Result (List KeptItem) ImageFault) → IfOk result (λ items. IsImage text items) → IfOk result (λ items. (rest : List ℕ) → text ≡ title_line First ++ rest → IsImage (title_line Second ++ rest) items)
migrates text (Ok items) h = λ rest e. migrated rest items (subst (λ (t : List ℕ). IsImage t items) e h)
migrates text (Err fault) h = tt

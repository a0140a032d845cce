-- After all events a link still keeps what it keeps, and its messages have passed as through a bag.
use Rattle.std.proofs.Common.{◌≡◌, ℕ, zero, suc, ◌+◌, ◌-◌, ◌^◌, ◌<◌, ◌≤◌, ◌⊎◌, inl, inr, List, [], ◌∷◌, ◌++◌, length, map, slice_get, remove, Option, option_map, Some, Ok, refl, sym, ap, ◌∙◌, subst, append_assoc, append-nil, length-append, arith}
use Rattle.far_model.specs.Members.{Among, Each, Pairs}
use Rattle.far_model.proofs.Members.{among_append, among_append_left, among_append_right, among_out, place_of}
use Rattle.retry_link.specs.FrameReading.{frame_of}
use Rattle.retry_link.specs.Frames.{frame_bytes}
use Rattle.retry_link.specs.Link.{AreLinkEvents, LinkState, OffersMessage, Passing, Accepted, Delivered, accepted, delivered, frame_by, frame_in, happens, offer_count, offers_in, opening_link, passes, passings, run_link}
use Rattle.retry_link.specs.Reliable.{HasNumber, IsBagRun, IsReliable, MayGoOn}
use Rattle.retry_link.specs.Sender.{Numbered, data_of}
use Rattle.retry_link.specs.declared.frame.Frame.{Frame}
use Rattle.retry_link.specs.declared.frame.Frame.TheVariants.{Data, Ack}
use Rattle.retry_link.specs.declared.frame.TheConstants.{WINDOW}
use Rattle.retry_link.specs.declared.link.LinkEvent.{LinkEvent}
use Rattle.retry_link.proofs.Keeping.{IsKnown, Keeps, base_low, keeps_opening, offer_high, read_ack, read_data}
use Rattle.retry_link.proofs.Steps.{Stepped, Quiet, Accepts, Delivers, step_keeps}

-- what is kept after some events, and that no number was drawn but for an offer
pub record Reached (offers ups : List Numbered) (s : LinkState) (es : List LinkEvent) : Type 0 where
  pub keeps : Keeps (offers ++ accepted (passings s es)) (ups ++ delivered (passings s es)) (run_link s es)
  pub count : length (offers ++ accepted (passings s es)) ≤ length offers + offers_in es

abbrev Goal : List Numbered → List Numbered → List Passing → LinkState → ℕ → Type 0
Goal offers ups ps t most = Keeps (offers ++ accepted ps) (ups ++ delivered ps) t × (length (offers ++ accepted ps) ≤ most)

module _ (offers ups : List Numbered) (t : LinkState) (most : ℕ) (ps rest : List Passing) where
  goal_quiet : ps ≡ [] → Goal offers ups rest t most → Goal offers ups (ps ++ rest) t most
  goal_quiet e g = subst (λ (l : List Passing). Goal offers ups (l ++ rest) t most) (sym e) g

  goal_accepts : (m : Numbered) → ps ≡ Accepted m ∷ [] → Goal (offers ++ m ∷ []) ups rest t most → Goal offers ups (ps ++ rest) t most
  goal_accepts m e g =
      subst (λ (l : List Passing). Goal offers ups (l ++ rest) t most) (sym e)
      (subst (λ (l : List Numbered). Keeps l (ups ++ delivered rest) t × (length l ≤ most)) (append_assoc offers (m ∷ []) (accepted rest)) g)

  goal_delivers : (m : Numbered) → ps ≡ Delivered m ∷ [] → Goal offers (ups ++ m ∷ []) rest t most → Goal offers ups (ps ++ rest) t most
  goal_delivers m e g =
      subst (λ (l : List Passing). Goal offers ups (l ++ rest) t most) (sym e)
      (subst (λ (l : List Numbered). Keeps (offers ++ accepted rest) l t × (length (offers ++ accepted rest) ≤ most)) (append_assoc ups (m ∷ []) (delivered rest)) g)

goal_less : (offers ups : List Numbered) (ps : List Passing) (t : LinkState) (most more : ℕ) → most ≤ more → Goal offers ups ps t most → Goal offers ups ps t more
goal_less offers ups ps t most more le g = (g.0, omega (arith, le, g.1))

-- what the events behind the first one keep
abbrev KeepsBehind : LinkState → List LinkEvent → Type 0
KeepsBehind t es = (offers ups : List Numbered) → Keeps offers ups t → length offers + offers_in es < 2 ^ 63 → Goal offers ups (passings t es) (run_link t es) (length offers + offers_in es)

one_step : (offers ups : List Numbered) (cost : ℕ) (ps : List Passing) (t : LinkState) (es : List LinkEvent) → length offers + (cost + offers_in es) < 2 ^ 63 → KeepsBehind t es → Stepped offers ups cost ps t
    → Goal offers ups (ps ++ passings t es) (run_link t es) (length offers + (cost + offers_in es))
one_step offers ups cost ps t es few behind (Quiet n h) =
    goal_quiet offers ups (run_link t es) (length offers + (cost + offers_in es)) ps (passings t es) n
    (goal_less offers ups (passings t es) (run_link t es) (length offers + offers_in es) (length offers + (cost + offers_in es)) (omega arith) (behind offers ups h (omega (arith, few))))
one_step offers ups cost ps t es few behind (Accepts m low n h) =
    let longer : length (offers ++ m ∷ []) ≡ length offers + 1 = length-append offers (m ∷ []) in
    goal_accepts offers ups (run_link t es) (length offers + (cost + offers_in es)) ps (passings t es) m n
    (goal_less (offers ++ m ∷ []) ups (passings t es) (run_link t es) (length (offers ++ m ∷ []) + offers_in es) (length offers + (cost + offers_in es)) (omega (arith, longer, low)) (behind (offers ++ m ∷ []) ups h (omega (arith, longer, low, few))))
one_step offers ups cost ps t es few behind (Delivers m n a b h) =
    goal_delivers offers ups (run_link t es) (length offers + (cost + offers_in es)) ps (passings t es) m n
    (goal_less offers (ups ++ m ∷ []) (passings t es) (run_link t es) (length offers + offers_in es) (length offers + (cost + offers_in es)) (omega arith) (behind offers (ups ++ m ∷ []) h (omega (arith, few))))

all_keep : (es : List LinkEvent) (s : LinkState) → Each OffersMessage es → KeepsBehind s es
all_keep [] s fits offers ups k few =
    let same : offers ++ [] ≡ offers = append-nil offers in
    (subst (λ (l : List Numbered). Keeps l (ups ++ []) s) (sym same) (subst (λ (l : List Numbered). Keeps offers l s) (sym (append-nil ups)) k), omega (arith, ap length same))
all_keep (e ∷ es) s fits offers ups k few =
    one_step offers ups (offer_count e) (passes s e) (happens s e) es few (all_keep es (happens s e) fits.1) (step_keeps offers ups s k (omega (arith, few)) e fits.0)

pub keeps_on : (es : List LinkEvent) (offers ups : List Numbered) (s : LinkState) → Keeps offers ups s → Each OffersMessage es → length offers + offers_in es < 2 ^ 63 → Reached offers ups s es
keeps_on es offers ups s k fits few = let g = all_keep es s fits offers ups k few in record { keeps = g.0; count = g.1 }

-- ---- the bag

map_remove : {A B : Type 0} (f : A → B) (xs : List A) (i : ℕ) → map f (remove xs i) ≡ remove (map f xs) i
map_remove f [] zero = refl
map_remove f [] (suc i) = refl
map_remove f (x ∷ xs) zero = refl
map_remove f (x ∷ xs) (suc i) = ap (λ ys. f x ∷ ys) (map_remove f xs i)

map_get : {A B : Type 0} (f : A → B) (xs : List A) (i : ℕ) (x : A) → slice_get xs i ≡ Some x → slice_get (map f xs) i ≡ Some (f x)
map_get f [] i x e = absurd cc
map_get f (y ∷ ys) zero x e = ap (option_map f) e
map_get f (y ∷ ys) (suc i) x e = map_get f ys i x e

map_more : {A B : Type 0} (f : A → B) (xs : List A) (x : A) → map f (xs ++ x ∷ []) ≡ map f xs ++ f x ∷ []
map_more f [] x = refl
map_more f (y ∷ ys) x = ap (λ l. f y ∷ l) (map_more f ys x)

abbrev wire_of : Numbered → List ℕ
wire_of m = m.1

-- each message accepted was delivered, or waits in the bag
abbrev Waits : List Numbered → List Numbered → List Numbered → Type 0
Waits offers ups bag = (m : Numbered) → Among m offers → Among m ups ⊎ Among m bag

waits_more : (offers ups bag : List Numbered) (m : Numbered) → Waits offers ups bag → Waits (offers ++ m ∷ []) ups (bag ++ m ∷ [])
waits_more offers ups bag m w x a = go (among_append x offers (m ∷ []) a)
  where
    was : Among x ups ⊎ Among x bag → Among x ups ⊎ Among x (bag ++ m ∷ [])
    was (inl b) = inl b
    was (inr b) = inr (among_append_left x bag (m ∷ []) b)

    go : Among x offers ⊎ Among x (m ∷ []) → Among x ups ⊎ Among x (bag ++ m ∷ [])
    go (inl b) = was (w x b)
    go (inr b) = inr (among_append_right x bag (m ∷ []) b)

waits_less : (offers ups bag : List Numbered) (m : Numbered) (i : ℕ) → slice_get bag i ≡ Some m → Waits offers ups bag → Waits offers (ups ++ m ∷ []) (remove bag i)
waits_less offers ups bag m i e w x a = go (w x a)
  where
    out : (x ≡ m) ⊎ Among x (remove bag i) → Among x (ups ++ m ∷ []) ⊎ Among x (remove bag i)
    out (inl same) = inl (among_append_right x ups (m ∷ []) (inl same))
    out (inr b) = inr b

    go : Among x ups ⊎ Among x bag → Among x (ups ++ m ∷ []) ⊎ Among x (remove bag i)
    go (inl b) = inl (among_append_left x ups (m ∷ []) b)
    go (inr b) = out (among_out x m bag i e b)

-- what the events behind the first one let pass
abbrev PassesBehind : LinkState → List LinkEvent → Type 0
PassesBehind t es = (offers ups bag : List Numbered) → Keeps offers ups t → Waits offers ups bag → length offers + offers_in es < 2 ^ 63 → IsBagRun (map wire_of bag) (passings t es)

taken_out : (offers ups bag : List Numbered) (t : LinkState) (es : List LinkEvent) (m : Numbered) → length offers + offers_in es < 2 ^ 63 → PassesBehind t es → Waits offers ups bag → (Among m ups → ⊥) → Keeps offers (ups ++ m ∷ []) t
    → Among m ups ⊎ Among m bag → IsBagRun (map wire_of bag) (Delivered m ∷ passings t es)
taken_out offers ups bag t es m few behind w b h (inl c) = absurd (b c)
taken_out offers ups bag t es m few behind w b h (inr c) =
    let p = place_of m bag c in (
      p.0,
      map_get wire_of bag p.0 m p.1,
      subst (λ (l : List (List ℕ)). IsBagRun l (passings t es)) (map_remove wire_of bag p.0)
          (behind offers (ups ++ m ∷ []) (remove bag p.0) h (waits_less offers ups bag m p.0 p.1 w) few),
    )

one_passes : (offers ups bag : List Numbered) (cost : ℕ) (ps : List Passing) (t : LinkState) (es : List LinkEvent) → length offers + (cost + offers_in es) < 2 ^ 63 → PassesBehind t es → Waits offers ups bag → Stepped offers ups cost ps t
    → IsBagRun (map wire_of bag) (ps ++ passings t es)
one_passes offers ups bag cost ps t es few behind w (Quiet n h) = subst (λ (l : List Passing). IsBagRun (map wire_of bag) (l ++ passings t es)) (sym n) (behind offers ups bag h w (omega (arith, few)))
one_passes offers ups bag cost ps t es few behind w (Accepts m low n h) =
    let longer : length (offers ++ m ∷ []) ≡ length offers + 1 = length-append offers (m ∷ []) in
    subst (λ (l : List Passing). IsBagRun (map wire_of bag) (l ++ passings t es)) (sym n)
    (subst (λ (l : List (List ℕ)). IsBagRun l (passings t es)) (map_more wire_of bag m)
    (behind (offers ++ m ∷ []) ups (bag ++ m ∷ []) h (waits_more offers ups bag m w) (omega (arith, longer, low, few))))
one_passes offers ups bag cost ps t es few behind w (Delivers m n a b h) =
    subst (λ (l : List Passing). IsBagRun (map wire_of bag) (l ++ passings t es)) (sym n) (taken_out offers ups bag t es m (omega (arith, few)) behind w b h (w m a))

bag_keeps : (es : List LinkEvent) (s : LinkState) → Each OffersMessage es → PassesBehind s es
bag_keeps [] s fits offers ups bag k w few = tt
bag_keeps (e ∷ es) s fits offers ups bag k w few =
    one_passes offers ups bag (offer_count e) (passes s e) (happens s e) es few (bag_keeps es (happens s e) fits.1) w (step_keeps offers ups s k (omega (arith, few)) e fits.0)

-- ---- from the opening

pub keeps_from_opening : (es : List LinkEvent) → AreLinkEvents es → Reached [] [] opening_link es
keeps_from_opening es h = keeps_on es [] [] opening_link keeps_opening h.messages (omega (arith, h.few))

abbrev some_ack : ℕ → Option Frame
some_ack n = Some (Ack n)

number_is : (a b : ℕ) → some_ack a ≡ some_ack b → a ≡ b
number_is a b e = cc

-- an acknowledgement among frames that are known
known_ack : (offers ups : List Numbered) (s : LinkState) (bytes : List ℕ) (num : ℕ) → Keeps offers ups s → length offers < 2 ^ 63 → IsKnown offers ups bytes → frame_of bytes ≡ Ok (Ack num) → HasNumber num ups
known_ack offers ups s bytes num k few (inl d) e =
    let read : frame_in (Some bytes) ≡ Some (data_of d.0) = ap (λ (b : List ℕ). frame_in (Some b)) d.1 ∙ read_data d.0.0 d.0.1 (omega (arith, few, k.next, offer_high offers ups s k d.0 d.2)) (k.sendable d.0 d.2) in
    let z : Some (data_of d.0) ≡ Some (Ack num) = sym read ∙ ap frame_by e in
    absurd cc
known_ack offers ups s bytes num k few (inr d) e =
    let read : frame_in (Some bytes) ≡ Some (Ack d.0.0) = ap (λ (b : List ℕ). frame_in (Some b)) d.1 ∙ read_ack d.0.0 (omega (arith, few, k.next, offer_high offers ups s k d.0 (k.same d.0 d.2))) in
    let z : Some (Ack d.0.0) ≡ Some (Ack num) = sym read ∙ ap frame_by e in
    let same : d.0.0 ≡ num = number_is d.0.0 num z in
    (d.0.1, subst (λ (n : ℕ). Among (n, d.0.1) ups) same d.2)

pub is_reliable : (es : List LinkEvent) → AreLinkEvents es → IsReliable (passings opening_link es) (run_link opening_link es)
is_reliable es h =
    let r = keeps_from_opening es h in
    let k = r.keeps in
    record {
      numbered = k.numbered;
      once = k.once;
      same = k.same;
      acknowledged = λ bytes num a e. known_ack (accepted (passings opening_link es)) (delivered (passings opening_link es)) (run_link opening_link es) bytes num k (omega (arith, r.count, h.few)) (k.frames bytes a) e;
      kept = k.kept;
      bag = bag_keeps es opening_link h.messages [] [] [] keeps_opening (λ m a. absurd a) (omega (arith, h.few));
    }

-- ---- what the calls require

pub each_left : {A : Type 0} (P : A → Type 0) (xs ys : List A) → Each P (xs ++ ys) → Each P xs
each_left P [] ys h = tt
each_left P (x ∷ xs) ys h = (h.0, each_left P xs ys h.1)

pub each_right : {A : Type 0} (P : A → Type 0) (xs ys : List A) → Each P (xs ++ ys) → Each P ys
each_right P [] ys h = h
each_right P (x ∷ xs) ys h = each_right P xs ys h.1

pub each_both : {A : Type 0} (P : A → Type 0) (xs ys : List A) → Each P xs → Each P ys → Each P (xs ++ ys)
each_both P [] ys h k = k
each_both P (x ∷ xs) ys h k = (h.0, each_both P xs ys h.1 k)

pub offers_append : (xs ys : List LinkEvent) → offers_in (xs ++ ys) ≡ offers_in xs + offers_in ys
offers_append [] ys = omega arith
offers_append (x ∷ xs) ys = omega (arith, offers_append xs ys)

pub may_go_on : (before after : List LinkEvent) → AreLinkEvents (before ++ after) → MayGoOn (run_link opening_link before)
may_go_on before after h =
    let front : AreLinkEvents before = record { messages = each_left OffersMessage before after h.messages; few = omega (arith, h.few, offers_append before after) } in
    let r = keeps_from_opening before front in
    let low = base_low (accepted (passings opening_link before)) (delivered (passings opening_link before)) (run_link opening_link before) r.keeps in
    record { next = omega (arith, r.keeps.next, r.count, front.few); base = omega (arith, r.keeps.next, r.count, front.few, low) }

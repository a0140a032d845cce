-- Once a frame of each message and its acknowledgement come through, all messages were delivered.
use Rattle.std.proofs.Common.{◌≡◌, ℕ, zero, suc, ◌+◌, ◌-◌, ◌^◌, ◌<◌, ◌≤◌, ◌⊎◌, inl, inr, Bool, true, false, not, eqb, List, [], ◌∷◌, ◌++◌, length, map, slice_get, Option, None, Some, refl, sym, ap, ◌∙◌, subst, append_assoc, arith}
use Rattle.std.proofs.lemmas.Bool.Decides.{nat_tests}
use Rattle.far_model.specs.Members.{Among, Each}
use Rattle.far_model.proofs.Members.{among_append_left}
use Rattle.retry_link.specs.Frames.{frame_bytes}
use Rattle.retry_link.specs.Link.{AreLinkEvents, LinkState, OffersMessage, Passing, Accepted, Delivered, accepted, carried, delivered, frame_in, happens, offers_in, opening_link, passes, passings, run_link, sent}
use Rattle.retry_link.specs.Receiver.{ack_by, is_within}
use Rattle.retry_link.specs.Reliable.{CatchesUp, IsNoOffer, IsServed}
use Rattle.retry_link.specs.Sender.{Numbered, after_ack, data_of, is_other}
use Rattle.retry_link.specs.declared.frame.Frame.{Frame}
use Rattle.retry_link.specs.declared.frame.Frame.TheVariants.{Data, Ack}
use Rattle.retry_link.specs.declared.link.LinkEvent.{LinkEvent}
use Rattle.retry_link.specs.declared.link.LinkEvent.TheVariants.{Offer, Again, Carry}
use Rattle.retry_link.proofs.Keeping.{Keeps, offer_high, offer_low, offer_within, read_ack, read_data}
use Rattle.retry_link.proofs.LinkLaws.{Reached, each_both, each_left, each_right, keeps_from_opening, keeps_on, offers_append}
use Rattle.retry_link.proofs.NumberLaws.{all_gone, among_filter, filter_passes}
use Rattle.retry_link.proofs.SeenLaws.{is_in_window}

-- ---- runs one after the other

pub run_append : (s : LinkState) (xs ys : List LinkEvent) → run_link s (xs ++ ys) ≡ run_link (run_link s xs) ys
run_append s [] ys = refl
run_append s (x ∷ xs) ys = run_append (happens s x) xs ys

passings_append : (s : LinkState) (xs ys : List LinkEvent) → passings s (xs ++ ys) ≡ passings s xs ++ passings (run_link s xs) ys
passings_append s [] ys = refl
passings_append s (x ∷ xs) ys = ap (λ (l : List Passing). passes s x ++ l) (passings_append (happens s x) xs ys) ∙ sym (append_assoc (passes s x) (passings (happens s x) xs) (passings (run_link (happens s x) xs) ys))

accepted_append : (ps qs : List Passing) → accepted (ps ++ qs) ≡ accepted ps ++ accepted qs
accepted_append [] qs = refl
accepted_append (Accepted m ∷ ps) qs = ap (λ (l : List Numbered). m ∷ l) (accepted_append ps qs)
accepted_append (Delivered m ∷ ps) qs = accepted_append ps qs

-- ---- without offers

no_message : (es : List LinkEvent) → Each IsNoOffer es → Each OffersMessage es × (offers_in es ≡ 0)
no_message [] h = (tt, refl)
no_message (Offer wire ∷ es) h = absurd h.0
no_message (Again i ∷ es) h = let r = no_message es h.1 in ((tt, r.0), omega (arith, r.1))
no_message (Carry f ∷ es) h = let r = no_message es h.1 in ((tt, r.0), omega (arith, r.1))

carry_shrinks : (s : LinkState) (m : Numbered) (o : Option Frame) → Among m (carried s o).sender.unacked → Among m s.sender.unacked
carry_shrinks s m None a = a
carry_shrinks s m (Some (Data num wire)) a = a
carry_shrinks s m (Some (Ack num)) a = among_filter (is_other num) m s.sender.unacked a

-- what is not acknowledged was not before
shrinks : (s : LinkState) (m : Numbered) (es : List LinkEvent) → Each IsNoOffer es → Among m (run_link s es).sender.unacked → Among m s.sender.unacked
shrinks s m [] h a = a
shrinks s m (Offer wire ∷ es) h a = absurd h.0
shrinks s m (Again i ∷ es) h a = shrinks (happens s (Again i)) m es h.1 a
shrinks s m (Carry f ∷ es) h a = carry_shrinks s m (frame_in (slice_get s.frames f)) (shrinks (happens s (Carry f)) m es h.1 a)

-- ---- frames stay at their places

get_front : {A : Type 0} (xs ys : List A) (i : ℕ) (x : A) → slice_get xs i ≡ Some x → slice_get (xs ++ ys) i ≡ Some x
get_front [] ys i x e = absurd cc
get_front (y ∷ xs) ys zero x e = e
get_front (y ∷ xs) ys (suc i) x e = get_front xs ys i x e

get_last : {A : Type 0} (xs : List A) (x : A) → slice_get (xs ++ x ∷ []) (length xs) ≡ Some x
get_last [] x = refl
get_last (y ∷ ys) x = get_last ys x

sent_front : (frames : List (List ℕ)) (o : Option Frame) (i : ℕ) (b : List ℕ) → slice_get frames i ≡ Some b → slice_get (sent frames o) i ≡ Some b
sent_front frames None i b e = e
sent_front frames (Some frame) i b e = get_front frames (frame_bytes frame ∷ []) i b e

carry_front : (s : LinkState) (o : Option Frame) (i : ℕ) (b : List ℕ) → slice_get s.frames i ≡ Some b → slice_get (carried s o).frames i ≡ Some b
carry_front s None i b e = e
carry_front s (Some (Data num wire)) i b e = sent_front s.frames (ack_by num (is_within s.receiver num)) i b e
carry_front s (Some (Ack num)) i b e = e

frames_stay : (s : LinkState) (es : List LinkEvent) (i : ℕ) (b : List ℕ) → slice_get s.frames i ≡ Some b → slice_get (run_link s es).frames i ≡ Some b
frames_stay s [] i b e = e
frames_stay s (Offer wire ∷ es) i b e = frames_stay (happens s (Offer wire)) es i b (sent_front s.frames (Rattle.retry_link.specs.Sender.offered s.sender wire) i b e)
frames_stay s (Again j ∷ es) i b e = frames_stay (happens s (Again j)) es i b (sent_front s.frames (slice_get (map data_of s.sender.unacked) j) i b e)
frames_stay s (Carry f ∷ es) i b e = frames_stay (happens s (Carry f)) es i b (carry_front s (frame_in (slice_get s.frames f)) i b e)

-- ---- one message is served

-- the frame is there, so that its acknowledgement comes behind the others
acks : (offers ups : List Numbered) (s : LinkState) (m : Numbered) (f : ℕ) → Keeps offers ups s → length offers < 2 ^ 63 → Among m offers → slice_get s.frames f ≡ Some (frame_bytes (data_of m))
    → slice_get (happens s (Carry f)).frames (length s.frames) ≡ Some (frame_bytes (Ack m.0))
acks offers ups s m f k few a e =
    let read : frame_in (slice_get s.frames f) ≡ Some (data_of m) = ap frame_in e ∙ read_data m.0 m.1 (omega (arith, few, k.next, offer_high offers ups s k m a)) (k.sendable m a) in
    let within : is_within s.receiver m.0 ≡ true = is_in_window s.receiver m.0 (offer_low offers ups s k m a) (offer_within offers ups s k m a) in
    subst (λ (o : Option Frame). slice_get (carried s o).frames (length s.frames) ≡ Some (frame_bytes (Ack m.0))) (sym read)
    (subst (λ (w : Bool). slice_get (sent s.frames (ack_by m.0 w)) (length s.frames) ≡ Some (frame_bytes (Ack m.0))) (sym within) (get_last s.frames (frame_bytes (Ack m.0))))

-- the acknowledgement comes to the sender
settles : (s : LinkState) (m : Numbered) (f : ℕ) → m.0 < 2 ^ 64 → slice_get s.frames f ≡ Some (frame_bytes (Ack m.0)) → Among m (happens s (Carry f)).sender.unacked → ⊥
settles s m f lt e a =
    let read : frame_in (slice_get s.frames f) ≡ Some (Ack m.0) = ap frame_in e ∙ read_ack m.0 lt in
    let b : Among m (after_ack m.0 s.sender).unacked = subst (λ (o : Option Frame). Among m (carried s o).sender.unacked) read a in
    other m.0 (filter_passes (is_other m.0) m s.sender.unacked b)
  where
    other : (n : ℕ) → not (eqb n n) ≡ true → ⊥
    other n h = let t : eqb n n ≡ true = grind (arith, nat_tests) in let z : not true ≡ true = rw t at h in absurd cc

module _ (offers ups : List Numbered) (s : LinkState) (k : Keeps offers ups s) (few : length offers < 2 ^ 63) (more : List LinkEvent) (none : Each IsNoOffer more) (m : Numbered) (a : Among m s.sender.unacked) (v : IsServed s more m) where
  abbrev there : LinkState
  there = run_link s v.before

  abbrev heard : LinkState
  heard = run_link (happens there (Carry v.frame)) v.between

  abbrev parts : List LinkEvent
  parts = v.before ++ (Carry v.frame ∷ (v.between ++ Carry (length there.frames) ∷ v.after))

  no_offers : Each IsNoOffer parts
  no_offers = subst (λ (es : List LinkEvent). Each IsNoOffer es) v.events_are none

  before_none : Each IsNoOffer v.before
  before_none = each_left IsNoOffer v.before (Carry v.frame ∷ (v.between ++ Carry (length there.frames) ∷ v.after)) no_offers

  behind_none : Each IsNoOffer (v.between ++ Carry (length there.frames) ∷ v.after)
  behind_none = (each_right IsNoOffer v.before (Carry v.frame ∷ (v.between ++ Carry (length there.frames) ∷ v.after)) no_offers).1

  after_none : Each IsNoOffer v.after
  after_none = (each_right IsNoOffer v.between (Carry (length there.frames) ∷ v.after) behind_none).1

  reached : Reached offers ups s v.before
  reached = let n = no_message v.before before_none in keeps_on v.before offers ups s k n.0 (omega (arith, few, n.1))

  still_few : length (offers ++ accepted (passings s v.before)) < 2 ^ 63
  still_few = let n = no_message v.before before_none in omega (arith, few, n.1, reached.count)

  offered_there : Among m (offers ++ accepted (passings s v.before))
  offered_there = among_append_left m offers (accepted (passings s v.before)) (k.unacked m a)

  ack_there : slice_get heard.frames (length there.frames) ≡ Some (frame_bytes (Ack m.0))
  ack_there = frames_stay (happens there (Carry v.frame)) v.between (length there.frames) (frame_bytes (Ack m.0))
      (acks (offers ++ accepted (passings s v.before)) (ups ++ delivered (passings s v.before)) there m v.frame reached.keeps still_few offered_there v.is_frame)

  ends : run_link s parts ≡ run_link (happens heard (Carry (length there.frames))) v.after
  ends = run_append s v.before (Carry v.frame ∷ (v.between ++ Carry (length there.frames) ∷ v.after)) ∙ run_append (happens there (Carry v.frame)) v.between (Carry (length there.frames) ∷ v.after)

  pub served_goes : Among m (run_link s more).sender.unacked → ⊥
  served_goes b =
      let c : Among m (run_link (happens heard (Carry (length there.frames))) v.after).sender.unacked = subst (λ (t : LinkState). Among m t.sender.unacked) (ap (run_link s) v.events_are ∙ ends) b in
      settles heard m (length there.frames) (omega (arith, few, k.next, offer_high offers ups s k m (k.unacked m a))) ack_there (shrinks (happens heard (Carry (length there.frames))) m v.after after_none c)

-- ---- all are

caught_up : (offers ups : List Numbered) (s : LinkState) (more : List LinkEvent) → Keeps offers ups s → length offers < 2 ^ 63 → CatchesUp s more → (run_link s more).sender.unacked ≡ []
caught_up offers ups s more k few c = all_gone (run_link s more).sender.unacked (λ m a. let b = shrinks s m more c.no_offer a in served_goes offers ups s k few more c.no_offer m b (c.served m b) a)

pub none_left : (events more : List LinkEvent) → AreLinkEvents events → CatchesUp (run_link opening_link events) more → (run_link opening_link (events ++ more)).sender.unacked ≡ []
none_left events more h c =
    let r = keeps_from_opening events h in
    ap (λ (t : LinkState). t.sender.unacked) (run_append opening_link events more)
    ∙ caught_up (accepted (passings opening_link events)) (delivered (passings opening_link events)) (run_link opening_link events) more r.keeps (omega (arith, r.count, h.few)) c

pub all_delivered : (events more : List LinkEvent) (m : Numbered) → AreLinkEvents events → CatchesUp (run_link opening_link events) more → Among m (accepted (passings opening_link events)) → Among m (delivered (passings opening_link (events ++ more)))
all_delivered events more m h c a = go (r.keeps.kept m accepted_then)
  where
    all : AreLinkEvents (events ++ more)
    all = let n = no_message more c.no_offer in record { messages = each_both OffersMessage events more h.messages n.0; few = omega (arith, h.few, n.1, offers_append events more) }

    r : Reached [] [] opening_link (events ++ more)
    r = keeps_from_opening (events ++ more) all

    accepted_then : Among m (accepted (passings opening_link (events ++ more)))
    accepted_then = subst (λ (l : List Numbered). Among m l) (sym (ap accepted (passings_append opening_link events more) ∙ accepted_append (passings opening_link events) (passings (run_link opening_link events) more)))
        (among_append_left m (accepted (passings opening_link events)) (accepted (passings (run_link opening_link events) more)) a)

    go : Among m (run_link opening_link (events ++ more)).sender.unacked ⊎ Among m (delivered (passings opening_link (events ++ more))) → Among m (delivered (passings opening_link (events ++ more)))
    go (inr b) = b
    go (inl b) = absurd (subst (λ (l : List Numbered). Among m l) (none_left events more h c) b)

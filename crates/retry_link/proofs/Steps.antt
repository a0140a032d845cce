-- Each event keeps what a link keeps, and lets at most one message pass.
use Rattle.std.proofs.Common.{◌≡◌, ℕ, ◌+◌, ◌-◌, ◌^◌, ◌<◌, ◌≤◌, ◌⊎◌, inl, inr, Bool, true, false, cond, not, ◌&&◌, eqb, if◌then◌else◌, List, [], ◌∷◌, ◌++◌, length, map, slice_get, Option, None, Some, refl, sym, ap, ◌∙◌, subst, length-append, arith}
use Rattle.std.proofs.lemmas.Bool.Decides.{nat_tests}
use Rattle.far_model.specs.Members.{Among, Pairs}
use Rattle.far_model.proofs.Members.{among_append, among_append_left, among_append_right, among_at, among_map_from, pairs_append}
use Rattle.retry_link.specs.Frames.{IsMessage, frame_bytes}
use Rattle.retry_link.specs.Link.{LinkState, OffersMessage, Passing, Accepted, Delivered, accepts, carried, delivers, delivers_carried, frame_in, happens, offer_count, passes, sent}
use Rattle.retry_link.specs.Receiver.{ReceiverView, ack_by, acknowledged, after_taken, has_seen, is_within, marked, received, up_by, up_with}
use Rattle.retry_link.specs.Reliable.{HasNumber, HaveTwoNumbers}
use Rattle.retry_link.specs.Sender.{Numbered, SenderView, after_ack, after_offer, data_of, is_full, is_other, offered}
use Rattle.retry_link.specs.declared.frame.Frame.{Frame}
use Rattle.retry_link.specs.declared.frame.Frame.TheVariants.{Data, Ack}
use Rattle.retry_link.specs.declared.frame.TheConstants.{WINDOW}
use Rattle.retry_link.specs.declared.link.LinkEvent.{LinkEvent}
use Rattle.retry_link.specs.declared.link.LinkEvent.TheVariants.{Offer, Again, Carry}
use Rattle.retry_link.proofs.Keeping.{IsKnown, Keeps, frame_more, keeps_frame, known_accepted, known_delivered, offer_high, offer_low, offer_within, read_ack, read_data}
use Rattle.retry_link.proofs.NumberLaws.{among_filter, filter_keeps, numbered_more, numbered_one}
use Rattle.retry_link.proofs.SeenLaws.{is_in_window, open_marked, seen_new, seen_only, seen_stays, unseen_above}
use Rattle.retry_link.proofs.WindowLaws.{window_ack, window_offer}

-- what passes is nothing, one message that is accepted, or one that is delivered
pub data Stepped (offers ups : List Numbered) (cost : ℕ) (ps : List Passing) (s : LinkState) : Type 0 where
  Quiet : ps ≡ [] → Keeps offers ups s → Stepped offers ups cost ps s
  Accepts : (m : Numbered) → 1 ≤ cost → ps ≡ Accepted m ∷ [] → Keeps (offers ++ m ∷ []) ups s → Stepped offers ups cost ps s
  Delivers : (m : Numbered) → ps ≡ Delivered m ∷ [] → Among m offers → (Among m ups → ⊥) → Keeps offers (ups ++ m ∷ []) s → Stepped offers ups cost ps s

module _ (offers ups : List Numbered) (s : LinkState) (k : Keeps offers ups s) where
  -- ---- a message is offered

  module _ (wire : List ℕ) (fits : IsMessage wire) where
    abbrev new : Numbered
    new = (s.sender.next, wire)

    abbrev frame_if : Bool → Option Frame
    frame_if b = if b then None else Some (Data s.sender.next wire)

    abbrev sender_if : Bool → SenderView
    sender_if b = if b then s.sender else record { next = s.sender.next + 1; unacked = s.sender.unacked ++ new ∷ [] }

    keeps_offer : is_full s.sender ≡ false → Keeps (offers ++ new ∷ []) ups (record s { sender = record { next = s.sender.next + 1; unacked = s.sender.unacked ++ new ∷ [] }; frames = s.frames ++ frame_bytes (Data s.sender.next wire) ∷ [] })
    keeps_offer e = record {
      next = omega (arith, k.next, length-append offers (new ∷ []));
      numbered = numbered_more 1 s.sender.next offers wire k.numbered (omega (arith, k.next));
      window = window_offer s.sender.next s.sender.unacked wire e fits k.window;
      unacked = λ m a. in_both m (among_append m s.sender.unacked (new ∷ []) a);
      kept = λ m a. one_kept m (among_append m offers (new ∷ []) a);
      first = k.first;
      seen = k.seen;
      noted = k.noted;
      same = λ m a. among_append_left m offers (new ∷ []) (k.same m a);
      once = k.once;
      sendable = λ m a. one_sends m (among_append m offers (new ∷ []) a);
      frames = frame_more (offers ++ new ∷ []) ups s.frames (frame_bytes (Data s.sender.next wire)) (λ bytes a. known_accepted offers ups new bytes (k.frames bytes a)) (inl (new, refl, among_append_right new offers (new ∷ []) (inl refl)));
    }
      where
        in_both : (m : Numbered) → Among m s.sender.unacked ⊎ Among m (new ∷ []) → Among m (offers ++ new ∷ [])
        in_both m (inl a) = among_append_left m offers (new ∷ []) (k.unacked m a)
        in_both m (inr a) = among_append_right m offers (new ∷ []) a

        was_kept : (m : Numbered) → Among m s.sender.unacked ⊎ Among m ups → Among m (s.sender.unacked ++ new ∷ []) ⊎ Among m ups
        was_kept m (inl a) = inl (among_append_left m s.sender.unacked (new ∷ []) a)
        was_kept m (inr a) = inr a

        one_kept : (m : Numbered) → Among m offers ⊎ Among m (new ∷ []) → Among m (s.sender.unacked ++ new ∷ []) ⊎ Among m ups
        one_kept m (inl a) = was_kept m (k.kept m a)
        one_kept m (inr a) = inl (among_append_right m s.sender.unacked (new ∷ []) a)

        one_sends : (m : Numbered) → Among m offers ⊎ Among m (new ∷ []) → IsMessage m.1
        one_sends m (inl a) = k.sendable m a
        one_sends m (inr (inl e)) = subst (λ (x : Numbered). IsMessage x.1) (sym e) fits
        one_sends m (inr (inr z)) = absurd z

    offer_step : Stepped offers ups 1 (accepts (offered s.sender wire)) (record s { sender = after_offer s.sender wire; frames = sent s.frames (offered s.sender wire) })
    offer_step = go (is_full s.sender) refl
      where
        go : (b : Bool) → is_full s.sender ≡ b → Stepped offers ups 1 (accepts (frame_if b)) (record s { sender = sender_if b; frames = sent s.frames (frame_if b) })
        go true e = Quiet refl k
        go false e = Accepts new (omega arith) refl (keeps_offer e)

  -- ---- a message is sent again

  again_step : (i : ℕ) (o : Option Frame) → slice_get (map data_of s.sender.unacked) i ≡ o → Stepped offers ups 0 [] (record s { frames = sent s.frames o })
  again_step i None e = Quiet refl k
  again_step i (Some frame) e =
      let m = among_map_from data_of frame s.sender.unacked (among_at frame (map data_of s.sender.unacked) i e) in
      Quiet refl (keeps_frame offers ups s (frame_bytes frame) k (inl (m.0, ap frame_bytes m.2, k.unacked m.0 m.1)))

  -- ---- a message comes to the receiver

  module _ (m : Numbered) (a : Among m offers) where
    low : 1 ≤ m.0
    low = offer_low offers ups s k m a

    high : m.0 ≤ s.receiver.base + WINDOW
    high = offer_within offers ups s k m a

    keeps_new : has_seen s.receiver m.0 ≡ false → Keeps offers (ups ++ m ∷ []) (record s { receiver = marked s.receiver m.0; frames = s.frames ++ frame_bytes (Ack m.0) ∷ [] })
    keeps_new e = record {
      next = k.next;
      numbered = k.numbered;
      window = k.window;
      unacked = k.unacked;
      kept = λ x b. was_kept x (k.kept x b);
      first = open_marked s.receiver m.0 above below k.first.whole;
      seen = λ n one h. was_seen n one (seen_only s.receiver m.0 above below n h);
      noted = λ x b. is_noted x (among_append x ups (m ∷ []) b);
      same = λ x b. was_offered x (among_append x ups (m ∷ []) b);
      once = pairs_append HaveTwoNumbers ups (m ∷ []) k.once (tt, tt) apart;
      sendable = k.sendable;
      frames = frame_more offers (ups ++ m ∷ []) s.frames (frame_bytes (Ack m.0)) (λ bytes b. known_delivered offers ups m bytes (k.frames bytes b)) (inr (m, refl, among_append_right m ups (m ∷ []) (inl refl)));
    }
      where
        above : s.receiver.base < m.0
        above = unseen_above s.receiver m.0 e

        below : m.0 ≤ s.receiver.base + length s.receiver.marks
        below = omega (arith, high, k.first.whole)

        was_kept : (x : Numbered) → Among x s.sender.unacked ⊎ Among x ups → Among x s.sender.unacked ⊎ Among x (ups ++ m ∷ [])
        was_kept x (inl b) = inl b
        was_kept x (inr b) = inr (among_append_left x ups (m ∷ []) b)

        was_seen : (n : ℕ) → 1 ≤ n → (n ≡ m.0) ⊎ (has_seen s.receiver n ≡ true) → HasNumber n (ups ++ m ∷ [])
        was_seen n one (inl same) = (m.1, among_append_right (n, m.1) ups (m ∷ []) (inl (λ i. (same i, m.1))))
        was_seen n one (inr h) = let w = k.seen n one h in (w.0, among_append_left (n, w.0) ups (m ∷ []) w.1)

        is_noted : (x : Numbered) → Among x ups ⊎ Among x (m ∷ []) → has_seen (marked s.receiver m.0) x.0 ≡ true
        is_noted x (inl b) = seen_stays s.receiver m.0 above below x.0 (k.noted x b)
        is_noted x (inr (inl same)) = subst (λ (y : Numbered). has_seen (marked s.receiver m.0) y.0 ≡ true) (sym same) (seen_new s.receiver m.0 above below)
        is_noted x (inr (inr z)) = absurd z

        was_offered : (x : Numbered) → Among x ups ⊎ Among x (m ∷ []) → Among x offers
        was_offered x (inl b) = k.same x b
        was_offered x (inr (inl same)) = subst (λ (y : Numbered). Among y offers) (sym same) a
        was_offered x (inr (inr z)) = absurd z

        apart : (x y : Numbered) → Among x ups → Among y (m ∷ []) → HaveTwoNumbers x y
        apart x y b (inl same) = λ n.
            let number : x.0 ≡ m.0 = n ∙ ap (λ (z : Numbered). z.0) same in
            let z = sym e ∙ (ap (λ (j : ℕ). has_seen s.receiver j) (sym number) ∙ k.noted x b) in
            absurd cc
        apart x y b (inr z) = absurd z

    data_by : (w b : Bool) → w ≡ true → has_seen s.receiver m.0 ≡ b
        → Stepped offers ups 0 (delivers m.0 (up_by m.1 w b)) (record s { receiver = received s.receiver m.0 w b; frames = sent s.frames (ack_by m.0 w) })
    data_by false b t e = absurd cc
    data_by true true t e =
        let w = k.seen m.0 low e in
        Quiet refl (keeps_frame offers ups s (frame_bytes (Ack m.0)) k (inr ((m.0, w.0), refl, w.1)))
    data_by true false t e = Delivers m refl a (λ b. let z = sym e ∙ k.noted m b in absurd cc) (keeps_new e)

    pub data_step : Stepped offers ups 0 (delivers_carried s (Some (data_of m))) (carried s (Some (data_of m)))
    data_step = data_by (is_within s.receiver m.0) (has_seen s.receiver m.0) (is_in_window s.receiver m.0 low high) refl

  -- ---- an acknowledgement comes to the sender

  module _ (m : Numbered) (a : Among m ups) where
    keeps_ack : Keeps offers ups (record s { sender = after_ack m.0 s.sender })
    keeps_ack = record {
      next = k.next;
      numbered = k.numbered;
      window = window_ack s.sender.next m.0 s.sender.unacked k.window;
      unacked = λ x b. k.unacked x (among_filter (is_other m.0) x s.sender.unacked b);
      kept = λ x b. still x b (is_other m.0 x) refl (k.kept x b);
      first = k.first;
      seen = k.seen;
      noted = k.noted;
      same = k.same;
      once = k.once;
      sendable = k.sendable;
      frames = k.frames;
    }
      where
        still : (x : Numbered) → Among x offers → (t : Bool) → is_other m.0 x ≡ t → Among x s.sender.unacked ⊎ Among x ups → Among x (after_ack m.0 s.sender).unacked ⊎ Among x ups
        still x b t e (inr c) = inr c
        still x b true e (inl c) = inl (filter_keeps (is_other m.0) x s.sender.unacked e c)
        still x b false e (inl c) =
            let number : x.0 ≡ m.0 = same_number x.0 e in
            inr (subst (λ (y : Numbered). Among y ups) (sym (numbered_one 1 offers x m k.numbered b (k.same m a) number)) a)
          where
            same_number : (n : ℕ) → not (eqb n m.0) ≡ false → n ≡ m.0
            same_number n h = grind (arith, nat_tests)

    pub ack_step : Stepped offers ups 0 (delivers_carried s (Some (Ack m.0))) (carried s (Some (Ack m.0)))
    ack_step = Quiet refl keeps_ack

  -- ---- a frame is carried

  module _ (few : length offers < 2 ^ 64 - 1) where
    small : (m : Numbered) → Among m offers → m.0 < 2 ^ 64
    small m a = omega (arith, few, k.next, offer_high offers ups s k m a)

    known_step : (bytes : List ℕ) → IsKnown offers ups bytes → Stepped offers ups 0 (delivers_carried s (frame_in (Some bytes))) (carried s (frame_in (Some bytes)))
    known_step bytes (inl d) =
        let read : frame_in (Some bytes) ≡ Some (data_of d.0) = ap (λ (b : List ℕ). frame_in (Some b)) d.1 ∙ read_data d.0.0 d.0.1 (small d.0 d.2) (k.sendable d.0 d.2) in
        subst (λ (o : Option Frame). Stepped offers ups 0 (delivers_carried s o) (carried s o)) (sym read) (data_step d.0 d.2)
    known_step bytes (inr d) =
        let read : frame_in (Some bytes) ≡ Some (Ack d.0.0) = ap (λ (b : List ℕ). frame_in (Some b)) d.1 ∙ read_ack d.0.0 (small d.0 (k.same d.0 d.2)) in
        subst (λ (o : Option Frame). Stepped offers ups 0 (delivers_carried s o) (carried s o)) (sym read) (ack_step d.0 d.2)

    carry_step : (f : ℕ) (o : Option (List ℕ)) → slice_get s.frames f ≡ o → Stepped offers ups 0 (delivers_carried s (frame_in o)) (carried s (frame_in o))
    carry_step f None e = Quiet refl k
    carry_step f (Some bytes) e = known_step bytes (k.frames bytes (among_at bytes s.frames f e))

    pub step_keeps : (e : LinkEvent) → OffersMessage e → Stepped offers ups (offer_count e) (passes s e) (happens s e)
    step_keeps (Offer wire) fits = offer_step wire fits
    step_keeps (Again i) fits = again_step i (slice_get (map data_of s.sender.unacked) i) refl
    step_keeps (Carry f) fits = carry_step f (slice_get s.frames f) refl

-- What a link keeps: the messages that were accepted and those that were delivered, beside its state.
use Rattle.std.proofs.Common.{◌≡◌, ℕ, ◌+◌, ◌-◌, ◌^◌, ◌<◌, ◌≤◌, ◌⊎◌, inl, inr, List, [], ◌∷◌, ◌++◌, length, refl, sym, ap, ◌∙◌, subst, true, false, replicate, Some, Ok, arith}
use Rattle.std.proofs.lemmas.Bool.{cases_lt}
use Rattle.far_model.specs.Members.{Among, Each, Pairs}
use Rattle.far_model.proofs.Members.{among_append, among_append_left, among_append_right}
use Rattle.packet_codec.specs.Spelling.{u16_part, u64_part}
use Rattle.packet_codec.specs.declared.wire.TheConstants.{WIRE_SIZE}
use Rattle.retry_link.specs.FrameReading.{frame_of}
use Rattle.retry_link.specs.Frames.{IsMessage, SpellsFrame, fields_part, frame_bytes}
use Rattle.retry_link.specs.Link.{LinkState, frame_by, frame_in, opening_link}
use Rattle.retry_link.specs.Receiver.{IsOpen, has_seen}
use Rattle.retry_link.specs.Reliable.{AreNumbered, HasNumber, HaveTwoNumbers}
use Rattle.retry_link.specs.Sender.{IsWindow, Numbered, data_of}
use Rattle.retry_link.specs.declared.frame.Frame.{Frame}
use Rattle.retry_link.specs.declared.frame.Frame.TheVariants.{Data, Ack}
use Rattle.retry_link.specs.declared.frame.TheConstants.{WINDOW}
use Rattle.retry_link.proofs.FrameLaws.{frame_only}
use Rattle.retry_link.proofs.NumberLaws.{numbered_at, numbered_high, numbered_low}
use Rattle.retry_link.proofs.SeenLaws.{base_seen, next_unseen, none_seen, open_at_first}
use Rattle.retry_link.proofs.WindowLaws.{window_low}

-- the bytes are the frame of a message that was accepted, or an acknowledgement of one that was delivered
abbrev pub IsKnown : List Numbered → List Numbered → List ℕ → Type 0
IsKnown offers ups bytes = ((m : Numbered) × (bytes ≡ frame_bytes (data_of m)) × Among m offers) ⊎ ((m : Numbered) × (bytes ≡ frame_bytes (Ack m.0)) × Among m ups)

pub record Keeps (offers ups : List Numbered) (s : LinkState) : Type 0 where
  pub next : s.sender.next ≡ length offers + 1
  pub numbered : AreNumbered 1 offers
  pub window : IsWindow s.sender.next s.sender.unacked
  pub unacked : (m : Numbered) → Among m s.sender.unacked → Among m offers
  pub kept : (m : Numbered) → Among m offers → Among m s.sender.unacked ⊎ Among m ups
  pub first : IsOpen s.receiver.marks
  pub seen : (n : ℕ) → 1 ≤ n → has_seen s.receiver n ≡ true → HasNumber n ups
  pub noted : (m : Numbered) → Among m ups → has_seen s.receiver m.0 ≡ true
  pub same : (m : Numbered) → Among m ups → Among m offers
  pub once : Pairs HaveTwoNumbers ups
  pub sendable : (m : Numbered) → Among m offers → IsMessage m.1
  pub frames : (bytes : List ℕ) → Among bytes s.frames → IsKnown offers ups bytes

pub keeps_opening : Keeps [] [] opening_link
keeps_opening = record {
  next = refl;
  numbered = tt;
  window = record { rise = omega arith; messages = tt };
  unacked = λ m a. absurd a;
  kept = λ m a. absurd a;
  first = open_at_first;
  seen = λ n low h. let z = sym (none_seen n low) ∙ h in absurd cc;
  noted = λ m a. absurd a;
  same = λ m a. absurd a;
  once = tt;
  sendable = λ m a. absurd a;
  frames = λ bytes a. absurd a;
}

-- ---- frames that are known

pub known_accepted : (offers ups : List Numbered) (m : Numbered) (bytes : List ℕ) → IsKnown offers ups bytes → IsKnown (offers ++ m ∷ []) ups bytes
known_accepted offers ups m bytes (inl k) = inl (k.0, k.1, among_append_left k.0 offers (m ∷ []) k.2)
known_accepted offers ups m bytes (inr k) = inr k

pub known_delivered : (offers ups : List Numbered) (m : Numbered) (bytes : List ℕ) → IsKnown offers ups bytes → IsKnown offers (ups ++ m ∷ []) bytes
known_delivered offers ups m bytes (inl k) = inl k
known_delivered offers ups m bytes (inr k) = inr (k.0, k.1, among_append_left k.0 ups (m ∷ []) k.2)

-- one frame more, where all others are known
pub frame_more : (offers ups : List Numbered) (frames : List (List ℕ)) (new : List ℕ) → ((bytes : List ℕ) → Among bytes frames → IsKnown offers ups bytes) → IsKnown offers ups new
    → (bytes : List ℕ) → Among bytes (frames ++ new ∷ []) → IsKnown offers ups bytes
frame_more offers ups frames new all is bytes a = go (among_append bytes frames (new ∷ []) a)
  where
    go : Among bytes frames ⊎ Among bytes (new ∷ []) → IsKnown offers ups bytes
    go (inl b) = all bytes b
    go (inr (inl e)) = subst (λ (b : List ℕ). IsKnown offers ups b) (sym e) is
    go (inr (inr z)) = absurd z

pub keeps_frame : (offers ups : List Numbered) (s : LinkState) (new : List ℕ) → Keeps offers ups s → IsKnown offers ups new → Keeps offers ups (record s { frames = s.frames ++ new ∷ [] })
keeps_frame offers ups s new k is = record {
  next = k.next;
  numbered = k.numbered;
  window = k.window;
  unacked = k.unacked;
  kept = k.kept;
  first = k.first;
  seen = k.seen;
  noted = k.noted;
  same = k.same;
  once = k.once;
  sendable = k.sendable;
  frames = frame_more offers ups s.frames new k.frames is;
}

-- ---- what a known frame reads as

data_fits : (num : ℕ) (wire : List ℕ) → num < 2 ^ 64 → IsMessage wire → (fields_part (Data num wire)).in_range
unfolding u64_part u16_part
data_fits num wire lt fits = let short : length wire < 2 ^ 16 = omega (arith, fits.1) in (lt, (short, fits))

ack_fits : (num : ℕ) → num < 2 ^ 64 → (fields_part (Ack num)).in_range
unfolding u64_part
ack_fits num lt = lt

pub read_data : (num : ℕ) (wire : List ℕ) → num < 2 ^ 64 → IsMessage wire → frame_in (Some (frame_bytes (Data num wire))) ≡ Some (Data num wire)
read_data num wire lt fits = ap frame_by (frame_only (frame_bytes (Data num wire)) (Data num wire) (record { same = refl; in_range = data_fits num wire lt fits }))

pub read_ack : (num : ℕ) → num < 2 ^ 64 → frame_in (Some (frame_bytes (Ack num))) ≡ Some (Ack num)
read_ack num lt = ap frame_by (frame_only (frame_bytes (Ack num)) (Ack num) (record { same = refl; in_range = ack_fits num lt }))

-- ---- numbers

module _ (offers ups : List Numbered) (s : LinkState) (k : Keeps offers ups s) where
  pub offer_low : (m : Numbered) → Among m offers → 1 ≤ m.0
  offer_low m a = numbered_low 1 offers m k.numbered a

  pub offer_high : (m : Numbered) → Among m offers → m.0 < s.sender.next
  offer_high m a = omega (arith, k.next, numbered_high 1 offers m k.numbered a)

  -- the sender's window ends before the receiver's
  next_reached : s.sender.next ≤ s.receiver.base + WINDOW + 1
  next_reached = go (cases_lt (s.receiver.base + WINDOW + 1) s.sender.next)
    where
      waits : s.receiver.base + WINDOW + 1 < s.sender.next → (w : HasNumber (s.receiver.base + 1) offers) → Among (s.receiver.base + 1, w.0) s.sender.unacked ⊎ Among (s.receiver.base + 1, w.0) ups → s.sender.next ≤ s.receiver.base + WINDOW + 1
      waits lt w (inl a) = omega (arith, window_low s.sender.next s.sender.unacked (s.receiver.base + 1, w.0) k.window a)
      waits lt w (inr a) = let z = sym (next_unseen s.receiver k.first) ∙ k.noted (s.receiver.base + 1, w.0) a in absurd cc

      go : (s.receiver.base + WINDOW + 1 < s.sender.next) ⊎ (s.sender.next ≤ s.receiver.base + WINDOW + 1) → s.sender.next ≤ s.receiver.base + WINDOW + 1
      go (inr le) = le
      go (inl lt) =
          let w = numbered_at 1 (s.receiver.base + 1) offers k.numbered (omega arith) (omega (arith, lt, k.next)) in
          waits lt w (k.kept (s.receiver.base + 1, w.0) w.1)

  pub offer_within : (m : Numbered) → Among m offers → m.0 ≤ s.receiver.base + WINDOW
  offer_within m a = omega (arith, offer_high m a, next_reached)

  -- what was seen was offered
  pub base_low : s.receiver.base < s.sender.next
  base_low = go (cases_lt 0 s.receiver.base)
    where
      go : (0 < s.receiver.base) ⊎ (s.receiver.base ≤ 0) → s.receiver.base < s.sender.next
      go (inr le) = omega (arith, le, k.next)
      go (inl lt) = let w = k.seen s.receiver.base (omega (arith, lt)) (base_seen s.receiver) in offer_high (s.receiver.base, w.0) (k.same (s.receiver.base, w.0) w.1)

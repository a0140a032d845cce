-- The window of the sender: its numbers rise, and are at most as many as the window has.
use Rattle.std.proofs.Common.{◌≡◌, ℕ, ◌+◌, ◌-◌, ◌<◌, ◌≤◌, ◌⊎◌, inl, inr, Bool, true, false, not, cond, nat_eq, nat_le, List, [], ◌∷◌, ◌++◌, length, filter, refl, sym, ap, subst, ◌∙◌, arith}
use Rattle.std.proofs.lemmas.Bool.Decides.{nat_tests}
use Rattle.far_model.specs.Members.{Among, Each}
use Rattle.retry_link.specs.Frames.{IsMessage}
use Rattle.retry_link.specs.Sender.{Numbered, is_full_from, is_other, RiseWithin, IsWindow}
use Rattle.retry_link.specs.declared.frame.TheConstants.{WINDOW}

abbrev CanSend : Numbered → Type 0
CanSend m = IsMessage m.1

-- ---- rising numbers

rise_end : (low end : ℕ) (ms : List Numbered) → RiseWithin low end ms → low + length ms ≤ end
rise_end low end [] h = omega (arith, h)
rise_end low end (m ∷ ms) h = omega (arith, h.0, rise_end (m.0 + 1) end ms h.1)

rise_from : (low new end : ℕ) (ms : List Numbered) → new ≤ low → RiseWithin low end ms → RiseWithin new end ms
rise_from low new end [] le h = omega (arith, le, h)
rise_from low new end (m ∷ ms) le h = (omega (arith, le, h.0), h.1)

rise_more : (low end : ℕ) (ms : List Numbered) (wire : List ℕ) → RiseWithin low end ms → RiseWithin low (end + 1) (ms ++ (end, wire) ∷ [])
rise_more low end [] wire h = (h, omega arith)
rise_more low end (m ∷ ms) wire h = (h.0, rise_more (m.0 + 1) end ms wire h.1)

rise_filter : (p : Numbered → Bool) (low end : ℕ) (ms : List Numbered) → RiseWithin low end ms → RiseWithin low end (filter p ms)
rise_filter p low end [] h = h
rise_filter p low end (m ∷ ms) h =
    elim (p m) as (λ b. RiseWithin low end (cond b (m ∷ filter p ms) (filter p ms))) [
      | true ↦ (h.0, rise_filter p (m.0 + 1) end ms h.1)
      | false ↦ rise_from (m.0 + 1) low end (filter p ms) (omega (arith, h.0)) (rise_filter p (m.0 + 1) end ms h.1)
    ]

pub rise_low : (low end : ℕ) (ms : List Numbered) (m : Numbered) → RiseWithin low end ms → Among m ms → low ≤ m.0
rise_low low end [] m h a = absurd a
rise_low low end (x ∷ ms) m h (inl e) = let k : m.0 ≡ x.0 = ap (λ (y : Numbered). y.0) e in omega (arith, k, h.0)
rise_low low end (x ∷ ms) m h (inr a) = omega (arith, h.0, rise_low (x.0 + 1) end ms m h.1 a)

-- ---- each message can be sent

each_more : (ms : List Numbered) (m : Numbered) → Each CanSend ms → CanSend m → Each CanSend (ms ++ m ∷ [])
each_more [] m h k = (k, tt)
each_more (x ∷ ms) m h k = (h.0, each_more ms m h.1 k)

each_filter : (p : Numbered → Bool) (ms : List Numbered) → Each CanSend ms → Each CanSend (filter p ms)
each_filter p [] h = tt
each_filter p (m ∷ ms) h =
    elim (p m) as (λ b. Each CanSend (cond b (m ∷ filter p ms) (filter p ms))) [
      | true ↦ (h.0, each_filter p ms h.1)
      | false ↦ each_filter p ms h.1
    ]

-- ---- the window

-- where it is not full, one number more still lies in it
rise_room : (next : ℕ) (ms : List Numbered) → is_full_from next ms ≡ false → RiseWithin (next - WINDOW) next ms → RiseWithin (next + 1 - WINDOW) next ms
rise_room next [] e h = omega arith
rise_room next (m ∷ ms) e h = let k : next < m.0 + WINDOW = grind (arith, nat_tests) in (omega (arith, k), h.1)

pub window_room : (next : ℕ) (ms : List Numbered) → is_full_from next ms ≡ false → IsWindow next ms → length ms < WINDOW
window_room next [] e h = omega arith
window_room next (m ∷ ms) e h =
    let k : next < m.0 + WINDOW = grind (arith, nat_tests) in
    omega (arith, k, rise_end (m.0 + 1) next ms h.rise.1)

pub window_offer : (next : ℕ) (ms : List Numbered) (wire : List ℕ) → is_full_from next ms ≡ false → IsMessage wire → IsWindow next ms → IsWindow (next + 1) (ms ++ (next, wire) ∷ [])
window_offer next ms wire e fits h = record {
  rise = rise_more (next + 1 - WINDOW) next ms wire (rise_room next ms e h.rise);
  messages = each_more ms (next, wire) h.messages fits;
}

pub window_ack : (next num : ℕ) (ms : List Numbered) → IsWindow next ms → IsWindow next (filter (is_other num) ms)
window_ack next num ms h = record {
  rise = rise_filter (is_other num) (next - WINDOW) next ms h.rise;
  messages = each_filter (is_other num) ms h.messages;
}

pub window_short : (next : ℕ) (ms : List Numbered) → IsWindow next ms → length ms ≤ WINDOW
window_short next ms h = omega (arith, rise_end (next - WINDOW) next ms h.rise)

pub window_low : (next : ℕ) (ms : List Numbered) (m : Numbered) → IsWindow next ms → Among m ms → next ≤ m.0 + WINDOW
window_low next ms m h a = omega (arith, rise_low (next - WINDOW) next ms m h.rise a)

pub window_sends : (next : ℕ) (ms : List Numbered) (m : Numbered) → IsWindow next ms → Among m ms → IsMessage m.1
window_sends next ms m h a = go ms h.messages a
  where
    go : (xs : List Numbered) → Each CanSend xs → Among m xs → IsMessage m.1
    go [] k b = absurd b
    go (x ∷ xs) k (inl e) = subst (λ (y : Numbered). IsMessage y.1) (sym e) k.0
    go (x ∷ xs) k (inr b) = go xs k.1 b

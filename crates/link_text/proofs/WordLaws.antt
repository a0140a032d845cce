-- An event has one spelling in a line.
use Rattle.std.proofs.Common.{◌≡◌, ℕ, Bool, true, false, cond, List, ◌∷◌, ◌++◌, Result, Ok, Err, refl, sym, subst, arith}
use Rattle.std.specs.Prelude.{Some, None, bytes_eq, codes, decimal}
use Rattle.std.proofs.lemmas.Slice.Eq.{bytes_eq-Decides}
use Rattle.hex.specs.Hex.{IsBytes, encode_lower}
use Rattle.far_base.specs.declared.packet.Packet.{Packet}
use Rattle.far_text.specs.Hex.{hex_of}
use Rattle.far_text.specs.Numbers.{IsNumber, number_of}
use Rattle.far_text.specs.Options.{◌>>=◌}
use Rattle.far_text.specs.Pieces.{cut_at, lacks}
use Rattle.far_text.proofs.HexLaws.{hex_is, hex_lacks}
use Rattle.far_text.proofs.Spelling.{some_is, bind_some, cut_takes, IsSpelling, number_is, number_lacks}
use Rattle.packet_codec.specs.Packets.{packet_of}
use Rattle.packet_codec.specs.declared.fault.BadPacket.{BadPacket}
use Rattle.packet_codec.proofs.SpellingLaws.{packet_found, packet_only}
use Rattle.retry_link.specs.declared.link.LinkEvent.{LinkEvent}
use Rattle.retry_link.specs.declared.link.LinkEvent.TheVariants.{Offer, Again, Carry}
use Rattle.link_text.specs.Script.{ArePacket, IsEventForm, event_text}
use Rattle.link_text.specs.Words.{event_by, event_of, offer_if, offer_of}

-- ---- events

abbrev IsTold : List ℕ → LinkEvent → Type 0
IsTold line e = (line ≡ event_text e) × IsEventForm e

offer_by : (bytes : List ℕ) (e : LinkEvent) (r : Result Packet BadPacket) → IsBytes bytes → packet_of bytes ≡ r → offer_if bytes r ≡ Some e → IsTold (codes "offer" ++ 32 ∷ encode_lower bytes) e
offer_by bytes e (Err fault) h p k = absurd cc
offer_by bytes e (Ok packet) h p k =
    let fits : ArePacket bytes = record { packet = packet; spells = packet_found bytes packet (bytes_are bytes h) p; bytes = h } in
    subst (λ (x : LinkEvent). IsTold (codes "offer" ++ 32 ∷ encode_lower bytes) x) (some_is (Offer bytes) e k) (refl, fits)
  where
    bytes_are : (xs : List ℕ) → IsBytes xs → Rattle.packet_codec.proofs.Steps.AreBytes xs
    bytes_are xs h = h

offer_takes : (word : List ℕ) (e : LinkEvent) → offer_of word ≡ Some e → IsTold (codes "offer" ++ 32 ∷ word) e
offer_takes word e k =
    let a = bind_some (hex_of word) (λ bytes. offer_if bytes (packet_of bytes)) e k in
    let h = hex_is.takes word a.0 a.1 in
    subst (λ (w : List ℕ). IsTold (codes "offer" ++ 32 ∷ w) e) (sym h.0) (offer_by a.0 e (packet_of a.0) h.1 refl a.2)

number_takes : (name word : List ℕ) (make : ℕ → LinkEvent) (e : LinkEvent) → ((n : ℕ) → IsNumber n → IsTold (name ++ 32 ∷ decimal n) (make n)) → (number_of word >>= λ n. Some (make n)) ≡ Some e → IsTold (name ++ 32 ∷ word) e
number_takes name word make e told k =
    let a = bind_some (number_of word) (λ n. Some (make n)) e k in
    let n = number_is.takes word a.0 a.1 in
    subst (λ (w : List ℕ). IsTold (name ++ 32 ∷ w) e) (sym n.0) (subst (λ (x : LinkEvent). IsTold (name ++ 32 ∷ decimal a.0) x) (some_is (make a.0) e a.2) (told a.0 n.1))

by_word : (word rest : List ℕ) (e : LinkEvent) → event_by word rest ≡ Some e → IsTold (word ++ 32 ∷ rest) e
by_word word rest e k = first (bytes_eq word (codes "offer")) refl k
  where
    named : (name : List ℕ) → bytes_eq word name ≡ true → IsTold (name ++ 32 ∷ rest) e → IsTold (word ++ 32 ∷ rest) e
    named name b h = subst (λ (w : List ℕ). IsTold (w ++ 32 ∷ rest) e) (sym ((bytes_eq-Decides word name).0 b)) h

    third : (b : Bool) → bytes_eq word (codes "carry") ≡ b → cond b (number_of rest >>= λ f. Some (Carry f)) None ≡ Some e → IsTold (word ++ 32 ∷ rest) e
    third true b k = named (codes "carry") b (number_takes (codes "carry") rest Carry e (λ n h. (refl, h)) k)
    third false b k = absurd cc

    second : (b : Bool) → bytes_eq word (codes "again") ≡ b → cond b (number_of rest >>= λ i. Some (Again i)) (cond (bytes_eq word (codes "carry")) (number_of rest >>= λ f. Some (Carry f)) None) ≡ Some e → IsTold (word ++ 32 ∷ rest) e
    second true b k = named (codes "again") b (number_takes (codes "again") rest Again e (λ n h. (refl, h)) k)
    second false b k = third (bytes_eq word (codes "carry")) refl k

    first : (b : Bool) → bytes_eq word (codes "offer") ≡ b → cond b (offer_of rest) (cond (bytes_eq word (codes "again")) (number_of rest >>= λ i. Some (Again i)) (cond (bytes_eq word (codes "carry")) (number_of rest >>= λ f. Some (Carry f)) None)) ≡ Some e → IsTold (word ++ 32 ∷ rest) e
    first true b k = named (codes "offer") b (offer_takes rest e k)
    first false b k = second (bytes_eq word (codes "again")) refl k

event_takes : (line : List ℕ) (e : LinkEvent) → event_of line ≡ Some e → IsTold line e
unfolding event_of
event_takes line e k =
    let a = bind_some (cut_at 32 line) (λ c. event_by c.0 c.1) e k in
    subst (λ (l : List ℕ). IsTold l e) (sym (cut_takes 32 line a.0 a.1)) (by_word a.0.0 a.0.1 e a.2)

event_again : (e : LinkEvent) → IsEventForm e → event_of (event_text e) ≡ Some e
unfolding event_of
event_again (Offer wire) h = rw (hex_is.again wire h.bytes, packet_only wire h.packet h.spells) refl
event_again (Again i) h = rw (number_is.again i h) refl
event_again (Carry f) h = rw (number_is.again f h) refl

pub event_is : IsSpelling event_of event_text IsEventForm
event_is = record { takes = event_takes; again = event_again }

-- ---- the line of an event has no line end in it

pub event_lacks : (e : LinkEvent) → IsEventForm e → lacks 10 (event_text e) ≡ true
event_lacks (Offer wire) h = hex_lacks 10 wire refl h.bytes
event_lacks (Again i) h = number_lacks 10 i (omega arith) h
event_lacks (Carry f) h = number_lacks 10 f (omega arith) h

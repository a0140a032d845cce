-- Messages in bytes, and the packets that they spell.
use Rattle.std.proofs.Common.{◌≡◌, ℕ, zero, suc, List, [], ◌∷◌, map, refl, ap, false, Result, Ok, Err}
use Rattle.std.specs.Prelude.{Some, slice_get, slice_index_or, OnOk, IfErr}
use Rattle.std.specs.List.{remove}
use Rattle.std.specs.Result.{is_err}
use Rattle.std.proofs.lemmas.Option.{same_Some}
use Rattle.far_base.specs.declared.packet.Packet.{Packet}
use Rattle.far_world.specs.RoomyBag.{packet_or}
use Rattle.packet_codec.proofs.SpellingLaws.{packet_only}
use Rattle.packet_codec.specs.Packets.{packet_of}
use Rattle.packet_codec.specs.Spelling.{Spells}
use Rattle.packet_codec.specs.declared.fault.BadPacket.{BadPacket}

pub map_remove : {A B : Type 0} → (f : A → B) (xs : List A) (i : ℕ) → map f (remove xs i) ≡ remove (map f xs) i
map_remove f [] zero = refl
map_remove f [] (suc i) = refl
map_remove f (x ∷ xs) zero = refl
map_remove f (x ∷ xs) (suc i) = ap (λ ys. f x ∷ ys) (map_remove f xs i)

pub map_at : {A B : Type 0} → (f : A → B) (xs : List A) (i : ℕ) (x : A) (d : B) → slice_get xs i ≡ Some x
    → slice_index_or (map f xs) i d ≡ f x
map_at f [] i x d h = absurd cc
map_at f (y ∷ ys) zero x d h = ap f (same_Some _ _ h)
map_at f (y ∷ ys) (suc i) x d h = map_at f ys i x d h

-- what is spelled is read
pub no_fault : (bytes : List ℕ) (p : Packet) (read : Result (Unit {0}) BadPacket) → Spells bytes p
    → IfErr read (λ fault. packet_of bytes ≡ Err fault) → is_err read ≡ false
no_fault bytes p (Ok done) s h = refl
no_fault bytes p (Err fault) s h = let e = packet_only bytes p s in absurd cc

-- and what is read is that packet
pub what_is_read : (bytes : List ℕ) (p new : Packet) (read : Result (Unit {0}) BadPacket) → Spells bytes p
    → OnOk read (packet_of bytes ≡ Ok new) → IfErr read (λ fault. packet_of bytes ≡ Err fault)
    → new ≡ packet_or (packet_of bytes)
what_is_read bytes p new (Ok done) s k h = rw k refl
what_is_read bytes p new (Err fault) s k h = let e = packet_only bytes p s in absurd cc

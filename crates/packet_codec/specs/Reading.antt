-- Reading fields from left to right, up to the first fault.
use Rattle.std.specs.Prelude.{◌≡◌, ℕ, zero, suc, List, [], ◌∷◌, length, take, drop, Bool, true, false, nat_lt}
use Rattle.std.specs.Prelude.{if◌then◌else◌, Option, Some, None, Result, Ok, Err}
use Rattle.std.specs.Int.{w16, w32, w64, from_be_bytes}
use Rattle.far_base.specs.Key.{is_key}
use Rattle.far_base.specs.declared.body.TheConstants.{BODY_LIMIT}
use Rattle.far_base.specs.declared.key.TheConstants.{KEY_LENGTH}
use Rattle.far_base.specs.declared.record.Record.{Record}
use Rattle.packet_codec.specs.declared.fault.BadPacket.{BadPacket}
use Rattle.packet_codec.specs.declared.fault.BadPacket.TheVariants.{Short, Version, Kind, Flag, Pad, Length, Rest}

-- a value and the bytes after it, or the first fault
abbrev pub Field : Type 0 → Type 0
Field A = List ℕ → Result (A × List ℕ) BadPacket

-- what a reader answered, with the bytes that were left on Ok, is what reading gives
abbrev pub Reads : {A : Type 0} → Result A BadPacket → List ℕ → Result (A × List ℕ) BadPacket → Type 0
Reads (Ok value) left read = read ≡ Ok (value, left)
Reads (Err fault) left read = read ≡ Err fault

-- the same of a reader that puts the value where it stays
abbrev pub ReadsInto : {A : Type 0} → Result (Unit {0}) BadPacket → A → List ℕ → Result (A × List ℕ) BadPacket
    → Type 0
ReadsInto (Ok done) value left read = read ≡ Ok (value, left)
ReadsInto (Err fault) value left read = read ≡ Err fault

-- goes on after a value, and ends at a fault
infixl 10 ◌>>=◌
abbrev pub ◌>>=◌ : {A B : Type 0} → Result A BadPacket → (A → Result B BadPacket) → Result B BadPacket
(Ok x) >>= f = f x
(Err fault) >>= f = Err fault

-- one field, and then the other
infixl 11 ◌then◌
abbrev pub ◌then◌ : {A B : Type 0} → Field A → Field B → Field (A × B)
(first then second) bytes = first bytes >>= λ a. second a.1 >>= λ b. Ok ((a.0, b.0), b.1)

-- a field whose value says how to read on
infixl 11 ◌into◌
abbrev pub ◌into◌ : {A B : Type 0} → Field A → (A → Field B) → Field B
(first into next) bytes = first bytes >>= λ a. next a.0 a.1

-- a value that is made of what is read
abbrev pub made : {A B : Type 0} → (A → B) → Field A → Field B
made f field bytes = field bytes >>= λ a. Ok (f a.0, a.1)

-- so many bytes
abbrev pub taken_at : ℕ → Field (List ℕ)
taken_at n bytes = if nat_lt (length bytes) n then Err Short else Ok (take n bytes, drop n bytes)

-- one byte
abbrev pub byte_at : Field ℕ
byte_at [] = Err Short
byte_at (b ∷ rest) = Ok (b, rest)

-- numbers, the highest byte first
unfoldable pub u16_at : Field ℕ
u16_at = made (from_be_bytes w16) (taken_at 2)

unfoldable pub u32_at : Field ℕ
u32_at = made (from_be_bytes w32) (taken_at 4)

unfoldable pub u64_at : Field ℕ
u64_at = made (from_be_bytes w64) (taken_at 8)

-- the flag that a byte is
abbrev pub flag_of : ℕ → Field Bool
flag_of zero rest = Ok (false, rest)
flag_of (suc zero) rest = Ok (true, rest)
flag_of (suc (suc b)) rest = Err Flag

-- a byte that is 0 or 1
unfoldable pub flag_at : Field Bool
flag_at = byte_at into flag_of

-- the key that sixteen bytes are
abbrev pub key_of : List ℕ → Field (List ℕ)
key_of key rest = if is_key key then Ok (key, rest) else Err Pad

-- sixteen bytes that are a key
unfoldable pub key_at : Field (List ℕ)
key_at = taken_at KEY_LENGTH into key_of

-- a caller, the number of its operation, and a key
unfoldable pub call_at : Field (ℕ × ℕ × List ℕ)
call_at = made (λ f. (f.0.0, f.0.1, f.1)) (u32_at then u32_at then key_at)

-- the greatest length behind this flag
abbrev pub limit_of : Bool → ℕ
limit_of true = BODY_LIMIT
limit_of false = 0

-- so many bytes of a body that is there
abbrev pub text_at : ℕ → Field (Option (List ℕ))
text_at len = made Some (taken_at len)

-- the bytes behind this flag, with a length that it allows
abbrev pub shown_at : Bool → ℕ → Field (Option (List ℕ))
shown_at true len bytes = text_at len bytes
shown_at false len bytes = Ok (None, bytes)

-- the bytes behind this flag and this length
abbrev pub text_behind : Bool × ℕ → Field (Option (List ℕ))
text_behind head bytes = if nat_lt (limit_of head.0) head.1 then Err Length else shown_at head.0 head.1 bytes

-- the flag is checked before the length is read, and the length before the bytes
unfoldable pub body_at : Field (Option (List ℕ))
body_at = flag_at then u16_at into text_behind

-- the record of these fields
abbrev pub record_of : (List ℕ × ℕ) × Option (List ℕ) → Record
record_of f = record { key = f.0.0; num = f.0.1; body = f.1 }

-- a key, the number of its write, and a body
unfoldable pub rec_at : Field Record
rec_at = made record_of (key_at then u64_at then body_at)

-- the record behind this flag
abbrev pub rec_behind : Bool → Field (Option Record)
rec_behind true bytes = made Some rec_at bytes
rec_behind false bytes = Ok (None, bytes)

-- a flag, and a record where it is set
unfoldable pub held_at : Field (Option Record)
held_at = flag_at into rec_behind

-- the field that begins at this byte, whatever follows it; nothing stands past the end
abbrev pub begins_at : {A : Type 0} → Field A → ℕ → List ℕ → Result A BadPacket
begins_at field at bytes = field (drop at bytes) >>= λ a. Ok a.0

-- the faults that a field may have
abbrev pub IsFieldFault : BadPacket → Type 0
IsFieldFault Short = Unit {0}
IsFieldFault Version = ⊥
IsFieldFault Kind = ⊥
IsFieldFault Flag = Unit {0}
IsFieldFault Pad = Unit {0}
IsFieldFault Length = Unit {0}
IsFieldFault Rest = ⊥

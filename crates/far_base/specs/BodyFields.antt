-- What contracts see of a body gives its fields back.
use Rattle.std.specs.Prelude.{◌≡◌, ℕ, ◌-◌, List, [], length, take, drop, replicate, Bool, true, false}
use Rattle.std.proofs.Common.{refl, sym, ap, ◌∙◌, arith}
use Rattle.std.proofs.lemmas.List.{take-append-drop, length-take}
use Rattle.far_base.specs.declared.body.TheConstants.{BODY_LIMIT}
use Rattle.far_base.specs.Padded.{IsPadded, padded, length_of, text_of, is_there, shown}

abbrev pub bytes_back : (len : ℕ) (bytes : List ℕ) → IsPadded BODY_LIMIT len bytes
    → padded BODY_LIMIT (take len bytes) ≡ bytes
bytes_back len bytes h =
    let n : length (take len bytes) ≡ len = omega (arith, length-take len bytes, h.whole, h.within) in
    rw (n, ← h.zeros) (take-append-drop len bytes)

abbrev pub absent_back : (len : ℕ) (bytes : List ℕ) → IsPadded BODY_LIMIT len bytes → len ≡ 0
    → padded BODY_LIMIT [] ≡ bytes
absent_back len bytes h z =
    sym (h.zeros ∙ ap (λ n. replicate (BODY_LIMIT - n) 0) z) ∙ ap (λ n. drop n bytes) z

abbrev pub body_is : (present : Bool) (len : ℕ) (bytes : List ℕ) → IsPadded BODY_LIMIT len bytes
    → (present ≡ false → len ≡ 0)
    → (is_there (shown present (take len bytes)) ≡ present) × (length_of (shown present (take len bytes)) ≡ len)
    × (padded BODY_LIMIT (text_of (shown present (take len bytes))) ≡ bytes)
body_is true len bytes h z = (refl, omega (arith, length-take len bytes, h.whole, h.within), bytes_back len bytes h)
body_is false len bytes h z = (refl, sym (z refl), absent_back len bytes h (z refl))

-- What stands at the front of a text stays there.
use Rattle.std.proofs.Common.{◌≡◌, ℕ, ◌≤◌, List, length, take, sym, ap, ◌∙◌, arith, length-take, take-take}

within : (old out : List ℕ) → take (length old) out ≡ old → length old ≤ length out
within old out e =
    let n : length (take (length old) out) ≡ length old = ap (λ (l : List ℕ). length l) e in
    omega (arith, n, length-take (length old) out)

pub front_more : (old out new : List ℕ) → take (length old) out ≡ old → take (length out) new ≡ out → take (length old) new ≡ old
front_more old out new e f =
    let le : length old ≤ length out = within old out e in
    sym (take-take (length old) (length out) new le) ∙ ap (λ (l : List ℕ). take (length old) l) f ∙ e

-- A text that grows within its array.
use Rattle.std.proofs.Common.{◌≡◌, ℕ, ◌+◌, ◌-◌, ◌≤◌, List, ◌++◌, length, take, drop, replicate, sym, ap, ◌∙◌, arith}
use Rattle.std.proofs.lemmas.List.{length-take, length-drop, length-append, take_at, drop_at, drop-replicate, drop-drop, length-replicate, take-replicate, replicate-append-replicate}
use Rattle.far_base.specs.Padded.{IsPadded}

pub front_length : (n len : ℕ) (bytes text : List ℕ) → IsPadded n len bytes → length (take len bytes ++ text) ≡ len + length text
front_length n len bytes text h = omega (arith, length-append (take len bytes) text, length-take len bytes, h.whole, h.within)

pub grown : (n len : ℕ) (bytes text : List ℕ) → IsPadded n len bytes → len + length text ≤ n → IsPadded n (len + length text) (take len bytes ++ text ++ drop (len + length text) bytes)
grown n len bytes text h fits =
    let front = front_length n len bytes text h in
    record {
      whole = omega (arith, length-append (take len bytes ++ text) (drop (len + length text) bytes), length-drop (len + length text) bytes, front, h.whole);
      within = fits;
      zeros =
          drop_at (take len bytes ++ text) (drop (len + length text) bytes) (len + length text) front
          ∙ (sym (drop-drop (length text) len bytes) ∙ (ap (λ (t : List ℕ). drop (length text) t) h.zeros ∙ (drop-replicate (length text) (n - len) 0 ∙ ap (λ k. replicate k 0) (omega arith))));
    }

pub grown_text : (n len : ℕ) (bytes text : List ℕ) → IsPadded n len bytes → take (len + length text) (take len bytes ++ text ++ drop (len + length text) bytes) ≡ take len bytes ++ text
grown_text n len bytes text h = take_at (take len bytes ++ text) (drop (len + length text) bytes) (len + length text) (front_length n len bytes text h)

-- zeros in the place of the text leave an array of no text
pub wiped : (n len : ℕ) (bytes : List ℕ) → IsPadded n len bytes → IsPadded n 0 (replicate len 0 ++ drop len bytes)
wiped n len bytes h =
    let all : replicate len 0 ++ drop len bytes ≡ replicate n 0 =
    ap (λ (t : List ℕ). replicate len 0 ++ t) h.zeros ∙ (replicate-append-replicate len (n - len) 0 ∙ ap (λ k. replicate k 0) (omega (arith, h.within))) in
    record {
      whole = ap length all ∙ length-replicate n 0;
      within = omega arith;
      zeros = all ∙ ap (λ k. replicate k 0) (omega arith);
    }

pub zeros_put : (n len : ℕ) (out : List ℕ) → len ≤ n
    → take 0 out ++ take {A = ℕ} len (replicate n 0) ++ drop (0 + length (take {A = ℕ} len (replicate n 0))) out ≡ replicate len 0 ++ drop len out
zeros_put n len out h = rw (take-replicate {X = ℕ} len n 0 h) (ap (λ k. replicate len 0 ++ drop k out) (omega (arith, length-replicate {A = ℕ} len 0)))

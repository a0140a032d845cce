-- A piece that a writer takes in several calls.
use Rattle.std.proofs.Common.{◌≡◌, ℕ, List, [], ◌++◌, length, take, drop, refl, sym, ap, ◌∙◌, arith, append_assoc, append-nil}
use Rattle.std.specs.Prelude.{Option, None, Some, Ok, Err, ⊤}
use Rattle.std.proofs.lemmas.List.{length-append, take-append-drop, take_at}
use Rattle.std.specs.Io.KnownBytes.{Appends, Keeps}
use Rattle.far_outside.specs.declared.sink.SinkFault.TheVariants.{Failed}
use Rattle.far_outside.specs.Bytes.{Puts}

-- a front of the piece was appended and this is the rest
abbrev pub HasPut : Option (List ℕ) → Option (List ℕ) → List ℕ → List ℕ → Type 0
HasPut None now piece rest = ⊤
HasPut (Some before) None piece rest = ⊥
HasPut (Some before) (Some now) piece rest = (front : List ℕ) × (piece ≡ front ++ rest) × (now ≡ before ++ front)

pub put_none : (now : Option (List ℕ)) (piece : List ℕ) → HasPut now now piece piece
put_none None piece = tt
put_none (Some now) piece = ([], refl, sym (append-nil now))

pub put_more : (a b c : Option (List ℕ)) (piece rest : List ℕ) (n : ℕ) → HasPut a b piece rest → Appends b c (take n rest) → HasPut a c piece (drop n rest)
put_more None b c piece rest n h e = tt
put_more (Some x) None c piece rest n h e = absurd h
put_more (Some x) (Some y) None piece rest n h e = absurd e
put_more (Some x) (Some y) (Some z) piece rest n h e = (
  h.0 ++ take n rest,
  h.1 ∙ ap (λ (l : List ℕ). h.0 ++ l) (sym (take-append-drop n rest)) ∙ sym (append_assoc h.0 (take n rest) (drop n rest)),
  e ∙ ap (λ (l : List ℕ). l ++ take n rest) h.2 ∙ append_assoc x h.0 (take n rest),
)

pub put_front : (a b c : Option (List ℕ)) (piece rest : List ℕ) → HasPut a b piece rest → Keeps b c → Puts {T = Unit {0}} a c piece (Err Failed)
put_front None b c piece rest h e = tt
put_front (Some x) None c piece rest h e = absurd h
put_front (Some x) (Some y) None piece rest h e = absurd e
put_front (Some x) (Some y) (Some z) piece rest h e =
    let taken : take (length h.0) piece ≡ h.0 = ap (take (length h.0)) h.1 ∙ take_at h.0 rest (length h.0) refl in
    (length h.0, omega (arith, length-append h.0 rest, ap length h.1), e ∙ h.2 ∙ ap (λ (l : List ℕ). x ++ l) (sym taken))

pub put_stuck : (a b c : Option (List ℕ)) (piece rest : List ℕ) → HasPut a b piece rest → Appends b c [] → Puts {T = Unit {0}} a c piece (Err Failed)
put_stuck None b c piece rest h e = tt
put_stuck (Some x) None c piece rest h e = absurd h
put_stuck (Some x) (Some y) None piece rest h e = absurd e
put_stuck (Some x) (Some y) (Some z) piece rest h e = put_front (Some x) (Some y) (Some z) piece rest h (e ∙ append-nil y)

pub put_all : (a b c : Option (List ℕ)) (piece rest : List ℕ) → HasPut a b piece rest → rest ≡ [] → Keeps b c → Puts a c piece (Ok (tt {0}))
put_all None b c piece rest h none e = tt
put_all (Some x) None c piece rest h none e = absurd h
put_all (Some x) (Some y) None piece rest h none e = absurd e
put_all (Some x) (Some y) (Some z) piece rest h none e =
    e ∙ h.2 ∙ ap (λ (l : List ℕ). x ++ l) (sym (h.1 ∙ ap (λ (l : List ℕ). h.0 ++ l) none ∙ append-nil h.0))

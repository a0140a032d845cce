-- A text at the front of zeros.
use Rattle.std.proofs.Common.{◌≡◌, ℕ, List, ◌++◌, length, drop, replicate, ap}
use Rattle.std.proofs.lemmas.List.{drop-replicate}
use Rattle.far_base.specs.Padded.{padded}

pub zeros_behind : (n : ℕ) (text : List ℕ) → text ++ drop (length text) (replicate n 0) ≡ padded n text
zeros_behind n text = ap (λ (zeros : List ℕ). text ++ zeros) (drop-replicate (length text) n 0)

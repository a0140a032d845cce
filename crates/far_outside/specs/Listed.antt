-- A source and a sink in memory whose calls fail as listed.
use Rattle.std.specs.Prelude.{ℕ, List, Bool, nat_eq}
use Rattle.std.specs.List.{list_any}

-- the bytes that are left, the calls so far, the numbers of the calls that fail, and the faults so far
pub record ListedSource : Type 0 where
  pub left : List ℕ
  pub calls : ℕ
  pub fails : List ℕ
  pub faults : ℕ

-- the bytes that were written, and the same
pub record ListedSink : Type 0 where
  pub written : List ℕ
  pub calls : ℕ
  pub fails : List ℕ
  pub faults : ℕ

-- whether the call of this number is to fail
abbrev pub is_listed : List ℕ → ℕ → Bool
is_listed fails call = list_any (λ listed. nat_eq listed call) fails

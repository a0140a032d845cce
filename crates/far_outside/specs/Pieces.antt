-- A source that gives its bytes in pieces.
use Rattle.std.specs.Prelude.{ℕ, List}

-- the bytes that are left, and how many a read gives at most
pub record Pieces : Type 0 where
  pub left : List ℕ
  pub size : ℕ

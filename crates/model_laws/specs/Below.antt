-- What holds of a number and of each smaller one.
use Rattle.std.specs.Prelude.{ℕ, ◌≤◌}

abbrev pub HoldsBelow : (ℕ → Type 0) → Type 0
HoldsBelow P = (num less : ℕ) → less ≤ num → P num → P less

-- What a count of faults says.
use Rattle.std.specs.Prelude.{ℕ, ◌+◌, ◌-◌, ◌^◌, ◌≤◌, min}

-- the greatest count
abbrev pub greatest : ℕ
greatest = 2 ^ 64 - 1

-- one more, or the greatest, where the count stays
abbrev pub counted : ℕ → ℕ
counted before = min (before + 1) greatest

-- the count is greater than before, or stands at the greatest
abbrev pub Rose : ℕ → ℕ → Type 0
Rose before now = counted before ≤ now

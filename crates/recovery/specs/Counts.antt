-- What is counted of a round.
use Rattle.std.specs.Prelude.{◌≡◌, ℕ, suc, ◌≤◌, max, List, [], ◌∷◌, Option, None, Some, if◌then◌else◌}
use Rattle.far_model.specs.Rounds.{Telling, has_told, greatest_top}

-- no more messages than the total asks for
abbrev pub IsWithin : Option ℕ → ℕ → Type 0
IsWithin None count = count ≡ 0
IsWithin (Some total) count = count ≤ max total 1

-- how many clients have not told their total
abbrev pub still_telling : List Telling → ℕ
still_telling [] = 0
still_telling (t ∷ ts) = if has_told t then still_telling ts else suc (still_telling ts)

-- how many servers have not answered
abbrev pub still_topping : List (Option ℕ) → ℕ
still_topping [] = 0
still_topping (None ∷ tops) = suc (still_topping tops)
still_topping (Some top ∷ tops) = still_topping tops

pub record IsCounted (told : List Telling) (telling : ℕ) (tops : List (Option ℕ)) (topping greatest : ℕ) : Type 0 where
  pub clients : telling ≡ still_telling told
  pub servers : topping ≡ still_topping tops
  pub top : greatest ≡ greatest_top tops

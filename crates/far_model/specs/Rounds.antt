-- One round of recovery: what clients have told, stores under way, and the servers' greatest numbers.
use Rattle.std.specs.Prelude.{ℕ, ◌+◌, max, Bool, false, ◌&&◌, not, nat_eq, nat_le, if◌then◌else◌, List, [], ◌∷◌}
use Rattle.std.specs.Prelude.{replicate, slice_index_or, is_some, Option, None, Some}
use Rattle.std.specs.List.{list_all}

-- what a client has told: how many records it said it has, and how many messages came
pub record Telling : Type 0 where
  pub total : Option ℕ
  pub count : ℕ

pub record Round : Type 0 where
  pub number : ℕ
  pub first_job : ℕ
  pub told : List Telling
  pub stores : ℕ
  pub asked : Bool
  pub tops : List (Option ℕ)

abbrev pub no_telling : Telling
no_telling = record { total = None; count = 0 }

abbrev pub new_round : ℕ → ℕ → ℕ → ℕ → ℕ → Round
new_round number first_job clients servers stores = record {
  number = number;
  first_job = first_job;
  told = replicate clients no_telling;
  stores = stores;
  asked = false;
  tops = replicate servers None;
}

abbrev pub told_of : Option ℕ → ℕ → Bool
told_of None count = false
told_of (Some total) count = nat_le (max total 1) count

-- whether a client has told its total: that many messages, or one where the total is 0
abbrev pub has_told : Telling → Bool
has_told t = told_of t.total t.count

-- the total of the first message holds
abbrev pub total_from : Option ℕ → ℕ → Option ℕ
total_from None total = Some total
total_from (Some first) total = Some first

abbrev pub tells_one : ℕ → Telling → Telling
tells_one total t = record { total = total_from t.total total; count = t.count + 1 }

abbrev pub telling_at : Round → ℕ → Telling
telling_at r client = slice_index_or r.told client no_telling

-- everything is told and stored, and the tops were not asked
abbrev pub asks_tops : Round → Bool
asks_tops r = not r.asked && (list_all has_told r.told && nat_eq r.stores 0)

abbrev pub greatest_top : List (Option ℕ) → ℕ
greatest_top [] = 0
greatest_top (None ∷ tops) = greatest_top tops
greatest_top (Some top ∷ tops) = max top (greatest_top tops)

-- the new counter, once every client, every store and every server has answered
abbrev pub ready_counter : Round → Option ℕ
ready_counter r = if (r.asked && list_all is_some r.tops) && (list_all has_told r.told && nat_eq r.stores 0)
    then Some (greatest_top r.tops) else None

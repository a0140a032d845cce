-- When all have answered in a round.
use Rattle.std.specs.Prelude.{◌≡◌, ◌≢◌, ◌⊎◌, ℕ, ◌≤◌, max, true, List, slice_get, Option, None, Some}
use Rattle.far_model.specs.Controller.{ControllerState}
use Rattle.far_model.specs.Members.{Among}
use Rattle.far_model.specs.Rounds.{Round, Telling}

-- a client has told its total: so many messages have come, or one where the total is 0
pub record HasTold (telling : Telling) : Type 0 where
  pub total : ℕ
  pub said : telling.total ≡ Some total
  pub came : max total 1 ≤ telling.count

-- each client has told its total, each store is answered, and each server, once it was asked, its greatest number
pub record AllHaveAnswered (r : Round) : Type 0 where
  pub clients : (client : ℕ) (telling : Telling) → slice_get r.told client ≡ Some telling → HasTold telling
  pub stores : r.stores ≡ 0
  pub asked : r.asked ≡ true
  pub servers : (server : ℕ) (top : Option ℕ) → slice_get r.tops server ≡ Some top → top ≢ None

-- a round is under way in which all have answered
pub record IsReady (c : ControllerState) : Type 0 where
  pub round : Round
  pub there : c.round ≡ Some round
  pub answered : AllHaveAnswered round

-- the greatest number that a server told, or 0
pub record IsGreatestTop (tops : List (Option ℕ)) (counter : ℕ) : Type 0 where
  pub above : (top : ℕ) → Among (Some top) tops → top ≤ counter
  pub told : (counter ≡ 0) ⊎ Among (Some counter) tops

-- a round is under way, and the counter is the greatest number that its servers told
pub record IsFromTops (c : ControllerState) (counter : ℕ) : Type 0 where
  pub round : Round
  pub there : c.round ≡ Some round
  pub greatest : IsGreatestTop round.tops counter

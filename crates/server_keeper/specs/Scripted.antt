-- A keeper in memory whose calls fail as listed.
use Rattle.std.specs.Prelude.{◌≡◌, ◌↔◌, ℕ, List, Result, IsErrOf, IsTrue, if◌then◌else◌}
use Rattle.far_base.specs.declared.record.Record.{Record}
use Rattle.far_outside.specs.Faults.{counted}
use Rattle.far_outside.specs.Listed.{is_listed}
use Rattle.far_outside.specs.declared.keeper.KeeperFault.{KeeperFault}
use Rattle.far_outside.specs.declared.keeper.KeeperFault.TheVariants.{Failed}

-- the records of each server, the calls so far, the numbers of the calls that fail, and the faults so far
pub record ScriptedRecords : Type 0 where
  pub lists : List (List Record)
  pub calls : ℕ
  pub fails : List ℕ
  pub faults : ℕ

-- the call was counted; it failed exactly where its number is listed, and the count of faults rose exactly then
pub record HasCounted {T : Type 0} (before now : ScriptedRecords) (result : Result T KeeperFault) : Type 0 where
  pub calls : now.calls ≡ counted before.calls
  pub same : now.fails ≡ before.fails
  pub listed : IsErrOf result Failed ↔ IsTrue (is_listed before.fails now.calls)
  pub faults : now.faults ≡ (if is_listed before.fails now.calls then counted before.faults else before.faults)

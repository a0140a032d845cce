-- A keeper over a database, whose records are not told.
use Rattle.std.specs.Prelude.{◌≡◌, ℕ, Bool, true, false, Result, Ok, Err}
use Rattle.far_outside.specs.Faults.{counted}
use Rattle.far_outside.specs.declared.keeper.KeeperFault.{KeeperFault}
use Rattle.far_outside.specs.declared.keeper.KeeperFault.TheVariants.{Memory, Failed}

-- whether the database could be made, the number of servers, the greatest number that was put, and the faults so far
pub record TableView : Type 0 where
  pub is_there : Bool
  pub servers : ℕ
  pub ceiling : ℕ
  pub faults : ℕ

-- a keeper over an empty database
abbrev pub empty_table : TableView
empty_table = record { is_there = true; servers = 0; ceiling = 0; faults = 0 }

-- a keeper whose database could not be made
abbrev pub no_table : TableView
no_table = record { is_there = false; servers = 0; ceiling = 0; faults = 1 }

-- a failure is counted, and nothing else is
abbrev pub faults_after : {T : Type 0} → Result T KeeperFault → ℕ → ℕ
faults_after (Ok x) before = before
faults_after (Err Memory) before = before
faults_after (Err Failed) before = counted before

-- without a database a call fails
abbrev pub FailsWithout : {T : Type 0} → TableView → Result T KeeperFault → Type 0
FailsWithout k result = k.is_there ≡ false → result ≡ Err Failed

-- Why a line of the head is not what it is to be.
use Rattle.std.specs.Prelude.{◌≡◌, ℕ, ◌<◌, ◌≤◌, Bool, true, false, ◌||◌, List, Option, Some, None, nat_eq, bytes_eq}
use Rattle.std.specs.Prelude.{if◌then◌else◌, codes}
use Rattle.far_base.specs.Key.{is_visible}
use Rattle.workload.specs.Words.{behind, named}
use Rattle.workload_reasons.specs.Spelled.{Has, first_other, IsNumberFault}
use Rattle.workload_reasons.specs.declared.reason.HeadFault.{HeadFault}
use Rattle.workload_reasons.specs.declared.reason.HeadFault.TheVariants.{Text, Byte, Number, Zero}
use Rattle.workload_reasons.specs.declared.reason.HeadLine.{HeadLine}
use Rattle.workload_reasons.specs.declared.reason.HeadLine.TheVariants.{Title, Clients, Servers, Slots, Hot}

-- the line of the head with this number
abbrev pub head_at : ℕ → Option HeadLine
head_at n = if nat_eq n 1 then Some Title
    else if nat_eq n 2 then Some Clients
    else if nat_eq n 3 then Some Servers
    else if nat_eq n 4 then Some Slots
    else if nat_eq n 5 then Some Hot
    else None

-- a visible character or a space
abbrev pub is_plain : ℕ → Bool
is_plain b = is_visible b || nat_eq b 32

abbrev pub IsTitleFault : List ℕ → HeadFault → Type 0
IsTitleFault line Text = bytes_eq line (codes "far 1") ≡ false
IsTitleFault line (Byte b) = (bytes_eq line (codes "far 1") ≡ false) × (first_other is_plain line ≡ Some b)
IsTitleFault line (Number fault) = ⊥
IsTitleFault line Zero = ⊥

-- the line is to be this name and a number that is at least this
abbrev pub IsSizeFault : List ℕ → ℕ → List ℕ → HeadFault → Type 0
IsSizeFault name least line Text = behind name line ≡ None
IsSizeFault name least line (Byte b) = (behind name line ≡ None) × (first_other is_plain line ≡ Some b)
IsSizeFault name least line (Number fault) = Has (behind name line) (λ word. IsNumberFault word fault)
IsSizeFault name least line Zero = Has (named name line) (λ n. n < least)

abbrev pub IsHeadFault : HeadLine → List ℕ → HeadFault → Type 0
IsHeadFault Title line fault = IsTitleFault line fault
IsHeadFault Clients line fault = IsSizeFault (codes "clients ") 1 line fault
IsHeadFault Servers line fault = IsSizeFault (codes "servers ") 1 line fault
IsHeadFault Slots line fault = IsSizeFault (codes "slots ") 1 line fault
IsHeadFault Hot line fault = IsSizeFault (codes "hot ") 0 line fault

-- the line is what it is to be, but for the greatest number
abbrev pub IsHead : HeadLine → List ℕ → Type 0
IsHead Title line = bytes_eq line (codes "far 1") ≡ true
IsHead Clients line = Has (named (codes "clients ") line) (λ n. 1 ≤ n)
IsHead Servers line = Has (named (codes "servers ") line) (λ n. 1 ≤ n)
IsHead Slots line = Has (named (codes "slots ") line) (λ n. 1 ≤ n)
IsHead Hot line = Has (named (codes "hot ") line) (λ n. 0 ≤ n)

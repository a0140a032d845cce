-- How what a function answers agrees with what reading gives.
use Rattle.std.specs.Prelude.{◌≡◌, Result, Ok, Err}
use Rattle.workload.specs.declared.fault.WorkFault.{WorkFault}
use Rattle.workload.specs.declared.fault.WorkFault.TheVariants.{BadLine, TooLarge, Memory}

-- the next step where the one before found no fault
infixl 10 ◌andthen◌
abbrev pub ◌andthen◌ : {A B : Type 0} → Result A WorkFault → (A → Result B WorkFault) → Result B WorkFault
(Ok x) andthen f = f x
(Err fault) andthen f = Err fault

-- a fault is the one that reading gives; want of memory says nothing
abbrev pub Fails : {B : Type 0} → WorkFault → Result B WorkFault → Type 0
Fails (BadLine line) read = read ≡ Err (BadLine line)
Fails (TooLarge which line) read = read ≡ Err (TooLarge which line)
Fails Memory read = Unit {0}

-- what a function returned, seen by view, is what reading gives, unless memory was refused
abbrev pub Gives : {A B : Type 0} → (A → B) → Result A WorkFault → Result B WorkFault → Type 0
Gives view (Ok x) read = read ≡ Ok (view x)
Gives view (Err fault) read = Fails fault read

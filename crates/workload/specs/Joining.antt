-- Parts of a step as the parser takes them.
use Rattle.std.specs.Prelude.{ℕ, Bool, true, false, List, [], ◌∷◌, ◌++◌, length, Option, Some, None, Result, Ok, Err}
use Rattle.std.specs.Prelude.{nat_lt, if◌then◌else◌}
use Rattle.far_text.specs.Numbers.{number_of}
use Rattle.workload.specs.Outcome.{◌andthen◌}
use Rattle.workload.specs.declared.fault.Limit.TheVariants.{Picks}
use Rattle.workload.specs.declared.fault.WorkFault.{WorkFault}
use Rattle.workload.specs.declared.fault.WorkFault.TheVariants.{BadLine, TooLarge}
use Rattle.workload.specs.declared.load.TheConstants.{PICK_LIMIT}

-- the number, where it is one of so many clients
abbrev pub client_in : ℕ → ℕ → Option ℕ
client_in clients n = if nat_lt n clients then Some n else None

-- whether there was room for the pick, and the picks
abbrev pub pushed_by : ℕ → List ℕ → Option ℕ → Result (Bool × List ℕ) WorkFault
pushed_by line picks None = Err (BadLine line)
pushed_by line picks (Some n) = if nat_lt (length picks) PICK_LIMIT
    then Ok (true, picks ++ n ∷ [])
    else Ok (false, picks)

abbrev pub pushed : ℕ → List ℕ → List ℕ → Result (Bool × List ℕ) WorkFault
pushed line picks word = pushed_by line picks (number_of word)

abbrev pub whole : ℕ → Bool → List ℕ → Result (List ℕ) WorkFault
whole line room picks = if room then Ok picks else Err (TooLarge Picks line)

-- the picks with those that the words spell; room tells whether the last one had its place
abbrev pub joined_from : ℕ → Bool → List ℕ → List (List ℕ) → Result (List ℕ) WorkFault
joined_from line room picks [] = whole line room picks
joined_from line room picks (word ∷ words) = pushed line picks word andthen λ p. joined_from line p.0 p.1 words

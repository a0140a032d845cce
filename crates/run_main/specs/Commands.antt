-- The commands of the top call: which arguments name one, what it reads, and whether it makes a run.
use Rattle.std.specs.Prelude.{◌≡◌, ℕ, if◌then◌else◌, List, [], ◌∷◌, Option, None, Some, codes, bytes_eq}
use Rattle.std.specs.Fmt.{decimal}
use Rattle.far_text.specs.Numbers.{IsNumber, number_of}
use Rattle.run_main.specs.declared.command.Command.{Command}
use Rattle.run_main.specs.declared.command.Command.TheVariants.{Replay, Image, Recover, Audit, Bulk, Link}

-- the numbers of a command are numbers of at most nineteen digits
abbrev pub HasNumbers : Command → Type 0
HasNumbers Replay = Unit {0}
HasNumbers Image = Unit {0}
HasNumbers Recover = Unit {0}
HasNumbers Audit = Unit {0}
HasNumbers Link = Unit {0}
HasNumbers (Bulk start ops) = IsNumber start × IsNumber ops

-- the arguments of a command; numbers are digits with no zero in front of others
abbrev pub arguments_of : Command → List (List ℕ)
arguments_of Replay = codes "replay" ∷ []
arguments_of Image = codes "image" ∷ []
arguments_of Recover = codes "recover" ∷ []
arguments_of Audit = codes "audit" ∷ []
arguments_of Link = codes "link" ∷ []
arguments_of (Bulk start ops) = codes "bulk" ∷ decimal start ∷ decimal ops ∷ []

-- the arguments name the command
pub record Names (words : List (List ℕ)) (command : Command) : Type 0 where
  pub numbers : HasNumbers command
  pub words_are : words ≡ arguments_of command

abbrev pub command_named : List ℕ → Option Command
command_named word = if bytes_eq word (codes "replay") then Some Replay
    else (if bytes_eq word (codes "image") then Some Image
    else (if bytes_eq word (codes "recover") then Some Recover
    else (if bytes_eq word (codes "audit") then Some Audit
    else (if bytes_eq word (codes "link") then Some Link else None))))

abbrev pub bulk_with : Option ℕ → Option ℕ → Option Command
bulk_with (Some start) (Some ops) = Some (Bulk start ops)
bulk_with _ _ = None

abbrev pub bulk_named : List ℕ → List ℕ → List ℕ → Option Command
bulk_named word start ops = if bytes_eq word (codes "bulk") then bulk_with (number_of start) (number_of ops) else None

-- the command that the arguments name
abbrev pub command_of : List (List ℕ) → Option Command
command_of [] = None
command_of (word ∷ []) = command_named word
command_of (word ∷ start ∷ []) = None
command_of (word ∷ start ∷ ops ∷ []) = bulk_named word start ops
command_of (word ∷ start ∷ ops ∷ more ∷ others) = None

-- whether the command reads the source
abbrev pub Reads : Command → Type 0
Reads Replay = Unit {0}
Reads Image = Unit {0}
Reads Recover = Unit {0}
Reads Audit = Unit {0}
Reads Link = Unit {0}
Reads (Bulk start ops) = ⊥

-- whether it makes a run
abbrev pub MakesRun : Command → Type 0
MakesRun Replay = Unit {0}
MakesRun Image = Unit {0}
MakesRun Recover = ⊥
MakesRun Audit = ⊥
MakesRun Link = ⊥
MakesRun (Bulk start ops) = Unit {0}

-- the input of a command: what the source has left, or nothing where it reads none
abbrev pub input_of : Command → Option (List ℕ) → Option (List ℕ)
input_of Replay left = left
input_of Image left = left
input_of Recover left = left
input_of Audit left = left
input_of Link left = left
input_of (Bulk start ops) left = Some []

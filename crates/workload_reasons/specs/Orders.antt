-- Why a line behind the head has none of the forms.
use Rattle.std.specs.Prelude.{◌≡◌, ℕ, Bool, true, not, List, [], ◌∷◌, Option, Some, None, IsSome, bytes_eq, codes}
use Rattle.std.specs.Prelude.{if◌then◌else◌}
use Rattle.std.specs.List.{find}
use Rattle.far_base.specs.Key.{is_visible}
use Rattle.far_text.specs.Numbers.{is_number, number_of}
use Rattle.far_text.specs.Options.{◌>>=◌}
use Rattle.far_text.specs.Pieces.{Pieces, cut_at, pieces}
use Rattle.far_text.specs.Words.{key_of, body_bytes_of}
use Rattle.workload.specs.Forms.{stop_of}
use Rattle.workload.specs.Kinds.{kind_of}
use Rattle.workload.specs.Words.{number_and_key, numbers_of, put_words}
use Rattle.workload_reasons.specs.Spelled.{Has, first_other, first_word, IsNumberFault, IsKeyFault, IsBodyFault}
use Rattle.workload_reasons.specs.declared.orders.Verb.{Verb}
use Rattle.workload_reasons.specs.declared.orders.Verb.TheVariants.{Get, Put, Del, Admit, Evict, Snap, Stop, Picks}
use Rattle.workload_reasons.specs.declared.orders.Verb.TheVariants.{Random}
use Rattle.workload_reasons.specs.declared.reason.NumberName.{NumberName}
use Rattle.workload_reasons.specs.declared.reason.NumberName.TheVariants.{Client, Step, Count, Pick, Start}
use Rattle.workload_reasons.specs.declared.reason.WordFault.{WordFault}
use Rattle.workload_reasons.specs.declared.reason.WordFault.TheVariants.{Number, NoKey, Key, NoBody, Body, Kind}
use Rattle.workload_reasons.specs.declared.reason.WordFault.TheVariants.{NoCount}
use Rattle.workload_reasons.specs.declared.reason.FormFault.{FormFault}
use Rattle.workload_reasons.specs.declared.reason.FormFault.TheVariants.{Empty, Order, OrderByte, Alone, Words}

-- the order that a word names
abbrev pub verb_of : List ℕ → Option Verb
verb_of word = if bytes_eq word (codes "get") then Some Get
    else if bytes_eq word (codes "put") then Some Put
    else if bytes_eq word (codes "del") then Some Del
    else if bytes_eq word (codes "admit") then Some Admit
    else if bytes_eq word (codes "evict") then Some Evict
    else if bytes_eq word (codes "snap") then Some Snap
    else if bytes_eq word (codes "stop") then Some Stop
    else if bytes_eq word (codes "picks") then Some Picks
    else if bytes_eq word (codes "random") then Some Random
    else None

-- ---- the words behind the first

-- all the words are to be this number
abbrev pub IsLoneFault : NumberName → List ℕ → WordFault → Type 0
IsLoneFault name words (Number other fault) = (other ≡ name) × IsNumberFault words fault
IsLoneFault name words NoKey = ⊥
IsLoneFault name words (Key fault) = ⊥
IsLoneFault name words NoBody = ⊥
IsLoneFault name words (Body fault) = ⊥
IsLoneFault name words Kind = ⊥
IsLoneFault name words NoCount = ⊥

-- they are to be this number, a space and a key
abbrev pub IsKeyedFault : NumberName → List ℕ → WordFault → Type 0
IsKeyedFault name words (Number other fault) = (other ≡ name) × Has (cut_at 32 words) (λ c. IsNumberFault c.0 fault)
IsKeyedFault name words NoKey = cut_at 32 words ≡ None
IsKeyedFault name words (Key fault) = Has (cut_at 32 words) (λ c. IsKeyFault c.1 fault)
IsKeyedFault name words NoBody = ⊥
IsKeyedFault name words (Body fault) = ⊥
IsKeyedFault name words Kind = ⊥
IsKeyedFault name words NoCount = ⊥

-- they are to be a key, a space and a body
abbrev pub IsPairFault : List ℕ → WordFault → Type 0
IsPairFault words (Number name fault) = ⊥
IsPairFault words NoKey = ⊥
IsPairFault words (Key fault) = Has (cut_at 32 words) (λ c. IsKeyFault c.0 fault)
IsPairFault words NoBody = cut_at 32 words ≡ None
IsPairFault words (Body fault) = Has (cut_at 32 words) (λ c. IsBodyFault c.1 fault)
IsPairFault words Kind = ⊥
IsPairFault words NoCount = ⊥

-- they are to be a client, a space, a key, a space and a body
abbrev pub IsPutFault : List ℕ → WordFault → Type 0
IsPutFault words (Number name fault) = (name ≡ Client) × Has (cut_at 32 words) (λ c. IsNumberFault c.0 fault)
IsPutFault words NoKey = cut_at 32 words ≡ None
IsPutFault words (Key fault) = Has (cut_at 32 words) (λ c. IsPairFault c.1 (Key fault))
IsPutFault words NoBody = Has (cut_at 32 words) (λ c. IsPairFault c.1 NoBody)
IsPutFault words (Body fault) = Has (cut_at 32 words) (λ c. IsPairFault c.1 (Body fault))
IsPutFault words Kind = ⊥
IsPutFault words NoCount = ⊥

-- a step where there is no space, or else a kind of packet, a space and a number
abbrev pub IsStopBy : List ℕ → Option (List ℕ × List ℕ) → WordFault → Type 0
IsStopBy words None (Number name fault) = IsLoneFault Step words (Number name fault)
IsStopBy words None NoCount = IsSome (kind_of words)
IsStopBy words None Kind = ⊥
IsStopBy words None NoKey = ⊥
IsStopBy words None (Key fault) = ⊥
IsStopBy words None NoBody = ⊥
IsStopBy words None (Body fault) = ⊥
IsStopBy words (Some c) (Number name fault) = IsLoneFault Count c.1 (Number name fault)
IsStopBy words (Some c) NoCount = ⊥
IsStopBy words (Some c) Kind = kind_of c.0 ≡ None
IsStopBy words (Some c) NoKey = ⊥
IsStopBy words (Some c) (Key fault) = ⊥
IsStopBy words (Some c) NoBody = ⊥
IsStopBy words (Some c) (Body fault) = ⊥

abbrev pub IsStopFault : List ℕ → WordFault → Type 0
IsStopFault words fault = IsStopBy words (cut_at 32 words) fault

-- the first word that is no number
abbrev pub first_no_number : Pieces → Option (List ℕ)
first_no_number words = find (λ word. not (is_number word)) words

-- each is to be a pick
abbrev pub IsPicksFault : List ℕ → WordFault → Type 0
IsPicksFault words fault = Has (first_no_number (pieces 32 words)) (λ word. IsLoneFault Pick word fault)

abbrev pub IsWordFault : Verb → List ℕ → WordFault → Type 0
IsWordFault Get words fault = IsKeyedFault Client words fault
IsWordFault Put words fault = IsPutFault words fault
IsWordFault Del words fault = IsKeyedFault Client words fault
IsWordFault Admit words fault = IsKeyedFault Step words fault
IsWordFault Evict words fault = IsKeyedFault Step words fault
IsWordFault Snap words fault = IsLoneFault Step words fault
IsWordFault Stop words fault = IsStopFault words fault
IsWordFault Picks words fault = IsPicksFault words fault
IsWordFault Random words fault = IsLoneFault Start words fault

-- a key and a body
abbrev pub key_and_body : List ℕ → Option (List ℕ × List ℕ)
key_and_body words = cut_at 32 words >>= λ d. key_of d.0 >>= λ k. body_bytes_of d.1 >>= λ text. Some (k, text)

-- the words are what the order wants, whatever its client
abbrev pub Fits : Verb → List ℕ → Type 0
Fits Get words = IsSome (number_and_key words)
Fits Put words = IsSome (put_words words)
Fits Del words = IsSome (number_and_key words)
Fits Admit words = IsSome (number_and_key words)
Fits Evict words = IsSome (number_and_key words)
Fits Snap words = IsSome (number_of words)
Fits Stop words = IsSome (stop_of words)
Fits Picks words = IsSome (numbers_of (pieces 32 words))
Fits Random words = IsSome (number_of words)

-- ---- the line

abbrev pub IsFormFault : List ℕ → FormFault → Type 0
IsFormFault line Empty = line ≡ []
IsFormFault line Order = verb_of (first_word line) ≡ None
IsFormFault line (OrderByte b) = (verb_of (first_word line) ≡ None) × (first_other is_visible (first_word line) ≡
    Some b)
IsFormFault line (Alone verb) = (cut_at 32 line ≡ None) × (verb_of line ≡ Some verb)
IsFormFault line (Words verb fault) =
    Has (cut_at 32 line) (λ c. (verb_of c.0 ≡ Some verb) × IsWordFault verb c.1 fault)

abbrev pub HasForm : List ℕ → Type 0
HasForm line = Has (cut_at 32 line) (λ c. Has (verb_of c.0) (λ verb. Fits verb c.1))

-- the client of an operation
abbrev pub client_by : Verb → List ℕ → Option ℕ
client_by Get words = number_of (first_word words)
client_by Put words = number_of (first_word words)
client_by Del words = number_of (first_word words)
client_by Admit words = None
client_by Evict words = None
client_by Snap words = None
client_by Stop words = None
client_by Picks words = None
client_by Random words = None

abbrev pub client_of : List ℕ → Option ℕ
client_of line = cut_at 32 line >>= λ c. verb_of c.0 >>= λ verb. client_by verb c.1

-- What is told of a line is true of the text.
use Rattle.std.specs.Prelude.{◌≡◌, ℕ, ◌<◌, ◌≤◌, true, List, Some, None}
use Rattle.workload_reasons.specs.Ends.{from_line, line_of, is_open, is_over, clients_of, is_start, first_start}
use Rattle.workload_reasons.specs.Heads.{head_at, IsHeadFault}
use Rattle.workload_reasons.specs.Orders.{IsFormFault, HasForm, client_of}
use Rattle.workload_reasons.specs.Spelled.{Has}
use Rattle.workload_reasons.specs.declared.reason.LineReason.{LineReason}
use Rattle.workload_reasons.specs.declared.reason.LineReason.TheVariants.{NoLine, NoHead, NoLineEnd, Head, Form}
use Rattle.workload_reasons.specs.declared.reason.LineReason.TheVariants.{NoClient, Again}

-- line n is an operation of this client, and line 2 tells of so many clients
pub record IsNoClient (text : List ℕ) (n client clients : ℕ) : Type 0 where
  pub order : head_at n ≡ None
  pub named : Has (line_of text n) (λ line. client_of line ≡ Some client)
  pub there : clients_of text ≡ Some clients
  pub none : clients ≤ client

-- line n gives a start number, and this line before it gives the first one
pub record IsAgain (text : List ℕ) (n first : ℕ) : Type 0 where
  pub start : Has (line_of text n) (λ line. is_start line ≡ true)
  pub given : first_start text ≡ Some first
  pub before : first < n

abbrev pub IsTold : List ℕ → ℕ → LineReason → Type 0
IsTold text n NoLine = (head_at n ≡ None) × (is_over (from_line n text) ≡ true)
IsTold text n (NoHead head) = (head_at n ≡ Some head) × (is_over (from_line n text) ≡ true)
IsTold text n NoLineEnd = is_open (from_line n text) ≡ true
IsTold text n (Head head fault) = (head_at n ≡ Some head) × Has (line_of text n) (λ line. IsHeadFault head line fault)
IsTold text n (Form fault) = (head_at n ≡ None) × Has (line_of text n) (λ line. IsFormFault line fault)
IsTold text n (NoClient client clients) = IsNoClient text n client clients
IsTold text n (Again first) = IsAgain text n first

-- nothing is wrong with the line, as line n of the text, behind the head
pub record IsFine (text : List ℕ) (n : ℕ) (line : List ℕ) : Type 0 where
  pub form : HasForm line
  pub client : (client clients : ℕ) → client_of line ≡ Some client → clients_of text ≡ Some clients → client < clients
  pub start : (first : ℕ) → is_start line ≡ true → first_start text ≡ Some first → n ≤ first

-- what is said of line n is true; lines are counted from 1
pub record IsReason (text : List ℕ) (n : ℕ) (reason : LineReason) : Type 0 where
  pub counted : 1 ≤ n
  pub told : IsTold text n reason

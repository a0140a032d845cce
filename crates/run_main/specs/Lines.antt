-- The lines that are written for a refusal, and for a report that is judged.
use Rattle.std.specs.Prelude.{ℕ, List, [], ◌∷◌, Option, None, Some, codes}
use Rattle.std.specs.Fmt.{decimal}
use Rattle.far_text.specs.Text.{text_line}
use Rattle.workload.specs.declared.fault.Limit.{Limit}
use Rattle.workload.specs.declared.fault.Limit.TheVariants.{Input, Clients, Servers, Slots, Hot, Body, Ops, Orders}
use Rattle.workload.specs.declared.fault.Limit.TheVariants.{Snaps, Stops, Picks}
use Rattle.run_main.specs.declared.status.Status.{Status}
use Rattle.run_main.specs.declared.status.Status.TheVariants.{Done, Usage, BadLine, ReadFault, WriteFault, KeeperFault}
use Rattle.run_main.specs.declared.status.Status.TheVariants.{Memory, TooLarge, BadImage, Conflict, Wrong}

abbrev pub usage_line : List ℕ
usage_line = codes "usage: far replay, run, image, recover, line, pipes P, audit, link, or bulk START OPS\n"

abbrev pub limit_word : Limit → List ℕ
limit_word Input = codes "input"
limit_word Clients = codes "clients"
limit_word Servers = codes "servers"
limit_word Slots = codes "slots"
limit_word Hot = codes "hot"
limit_word Body = codes "body"
limit_word Ops = codes "ops"
limit_word Orders = codes "orders"
limit_word Snaps = codes "snaps"
limit_word Stops = codes "stops"
limit_word Picks = codes "picks"

abbrev pub bad_line : ℕ → List ℕ
bad_line line = text_line (codes "bad line" ∷ decimal line ∷ [])

abbrev pub too_large_line : Limit → ℕ → List ℕ
too_large_line limit line = text_line (codes "too large" ∷ limit_word limit ∷ codes "line" ∷ decimal line ∷ [])

abbrev pub bad_image_line : ℕ → List ℕ
bad_image_line line = text_line (codes "bad image line" ∷ decimal line ∷ [])

abbrev pub conflict_line : ℕ → List ℕ
conflict_line line = text_line (codes "conflict line" ∷ decimal line ∷ [])

-- the lines of the history are good, or those up to this line of the input are not
abbrev pub yes_line : List ℕ
yes_line = text_line (codes "audit yes" ∷ [])

abbrev pub wrong_line : ℕ → List ℕ
wrong_line line = text_line (codes "audit no line" ∷ decimal line ∷ [])

-- the line of a refusal; the other answers have none
abbrev pub refusal_line : Status → Option (List ℕ)
refusal_line Usage = Some usage_line
refusal_line (BadLine line) = Some (bad_line line)
refusal_line (TooLarge limit line) = Some (too_large_line limit line)
refusal_line (BadImage line) = Some (bad_image_line line)
refusal_line (Conflict line) = Some (conflict_line line)
refusal_line (Wrong line) = Some (wrong_line line)
refusal_line Done = None
refusal_line ReadFault = None
refusal_line WriteFault = None
refusal_line KeeperFault = None
refusal_line Memory = None

-- What the events of a link tell, as a text.
use Rattle.std.specs.Prelude.{ℕ, List, [], ◌∷◌, ◌++◌, length, codes, decimal}
use Rattle.std.specs.List.{flat_map}
use Rattle.hex.specs.Hex.{encode_lower}
use Rattle.far_text.specs.Text.{text_line}
use Rattle.retry_link.specs.Link.{opening_link, outcomes, run_link}
use Rattle.retry_link.specs.declared.link.LinkEvent.{LinkEvent}
use Rattle.retry_link.specs.declared.link.LinkOutcome.{LinkOutcome}
use Rattle.retry_link.specs.declared.link.LinkOutcome.TheVariants.{Sent, Full, Nothing, Up, Seen, Acked}

abbrev pub outcome_line : LinkOutcome → List ℕ
outcome_line (Sent f) = text_line (codes "sent" ∷ decimal f ∷ [])
outcome_line Full = text_line (codes "full" ∷ [])
outcome_line Nothing = text_line (codes "nothing" ∷ [])
outcome_line (Up num wire f) = text_line (codes "up" ∷ decimal num ∷ encode_lower wire ∷ decimal f ∷ [])
outcome_line (Seen num f) = text_line (codes "seen" ∷ decimal num ∷ decimal f ∷ [])
outcome_line (Acked num) = text_line (codes "ack" ∷ decimal num ∷ [])

abbrev pub outcome_lines : List LinkOutcome → List ℕ
outcome_lines told = flat_map outcome_line told

-- a line for each event, and how many messages are not acknowledged in the end
abbrev pub transcript_text : List LinkEvent → List ℕ
transcript_text events = text_line (codes "far 1 link out" ∷ [])
    ++ outcome_lines (outcomes opening_link events)
    ++ text_line (codes "unacked" ∷ decimal (length (run_link opening_link events).sender.unacked) ∷ [])
    ++ text_line (codes "end" ∷ [])

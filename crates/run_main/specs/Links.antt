-- What the events of a link give.
use Rattle.std.specs.Prelude.{◌≡◌, ℕ, List}
use Rattle.link_text.specs.Transcript.{transcript_text}
use Rattle.retry_link.specs.Link.{opening_link, passings, run_link}
use Rattle.retry_link.specs.Reliable.{IsReliable}
use Rattle.retry_link.specs.declared.link.LinkEvent.{LinkEvent}

-- the text is what the events tell from the opening on. Each message passes at most once, as it was offered, and as
-- through a bag; only what was handed up is acknowledged, and what is not acknowledged is kept
pub record IsTranscript (events : List LinkEvent) (text : List ℕ) : Type 0 where
  pub told : text ≡ transcript_text events
  pub reliable : IsReliable (passings opening_link events) (run_link opening_link events)

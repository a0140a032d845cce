-- Which line of a text is the first with a fault.
use Rattle.std.specs.Prelude.{◌≡◌, ◌⊎◌, ℕ, ◌+◌, ◌≤◌, true, List, ◌∷◌, ◌++◌, length}
use Rattle.far_base.specs.declared.plan.TheConstants.{OP_LIMIT}
use Rattle.far_model.specs.Members.{Each}
use Rattle.far_text.specs.Pieces.{lacks}
use Rattle.retry_link.specs.declared.link.LinkEvent.{LinkEvent}
use Rattle.workload.specs.declared.fault.Limit.TheVariants.{Ops}
use Rattle.workload.specs.declared.fault.WorkFault.{WorkFault}
use Rattle.workload.specs.declared.fault.WorkFault.TheVariants.{BadLine, TooLarge}
use Rattle.link_text.specs.Script.{IsEventForm, event_lines, event_text, title_line}

-- the line is that of no event
abbrev pub IsNoEvent : List ℕ → Type 0
IsNoEvent line = (e : LinkEvent) → IsEventForm e → line ≡ event_text e → ⊥

-- the line is that of an event, and as many events stand before it as there may be
pub record IsOneTooMany (events : List LinkEvent) (line : List ℕ) : Type 0 where
  pub event : LinkEvent
  pub form : IsEventForm event
  pub spelled : line ≡ event_text event
  pub full : OP_LIMIT ≤ length events

-- line n is there and has no end
pub record IsOpenLine (n : ℕ) (rest : List ℕ) (fault : WorkFault) : Type 0 where
  pub first : ℕ
  pub others : List ℕ
  pub some : rest ≡ first ∷ others
  pub no_end : lacks 10 rest ≡ true
  pub named : fault ≡ BadLine n

-- line n is whole, and this is its fault behind these events
pub record IsFaultyLine (n : ℕ) (events : List LinkEvent) (rest : List ℕ) (fault : WorkFault) : Type 0 where
  pub line : List ℕ
  pub others : List ℕ
  pub whole : rest ≡ line ++ 10 ∷ others
  pub one : lacks 10 line ≡ true
  pub fails : (IsNoEvent line × (fault ≡ BadLine n)) ⊎ (IsOneTooMany events line × (fault ≡ TooLarge Ops n))

-- behind the first line and lines of events, which are not too many, comes the first line with a fault
pub record IsFirstFault (text : List ℕ) (fault : WorkFault) : Type 0 where
  pub events : List LinkEvent
  pub rest : List ℕ
  pub spelled : text ≡ title_line ++ event_lines events ++ rest
  pub fit : Each IsEventForm events
  pub few : length events ≤ OP_LIMIT
  pub at : IsOpenLine (length events + 2) rest fault ⊎ IsFaultyLine (length events + 2) events rest fault

-- the first line is another one, or has no end
abbrev pub HasNoTitle : List ℕ → Type 0
HasNoTitle text = (rest : List ℕ) → text ≡ title_line ++ rest → ⊥

-- the first line with a fault is line 1, or stands behind it
abbrev pub HasScriptFault : List ℕ → WorkFault → Type 0
HasScriptFault text fault = (HasNoTitle text × (fault ≡ BadLine 1)) ⊎ IsFirstFault text fault

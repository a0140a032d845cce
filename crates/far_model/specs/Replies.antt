-- What keepers may answer that do not tell their records: a reply of the kind that is asked for, with no number above
-- their ceiling, which is the greatest number that was put so far, and 0 at first.
use Rattle.std.specs.Prelude.{◌≡◌, ℕ, ◌≤◌, max, List, [], ◌∷◌, slice_get, Option, None, Some, IsTrue}
use Rattle.far_base.specs.PlanView.{PlanView}
use Rattle.far_base.specs.declared.event.Event.{Event}
use Rattle.far_base.specs.declared.event.Event.TheVariants.{Send, Deliver, Tick, Recover, Restart, Order as OrderOf}
use Rattle.far_base.specs.declared.packet.Message.{Message}
use Rattle.far_base.specs.declared.packet.Packet.{Packet}
use Rattle.far_base.specs.declared.packet.Packet.TheVariants.{GetFwd, WriteFwd, GetRep, WriteRep, Store, Stored, TopAsk}
use Rattle.far_base.specs.declared.packet.Packet.TheVariants.{TopIs}
use Rattle.far_base.specs.declared.party.Party.{Party}
use Rattle.far_base.specs.declared.party.Party.TheVariants.{Client, Switch, Server, Controller}
use Rattle.far_base.specs.declared.record.Record.{Record}
use Rattle.far_model.specs.Events.{Keeping, happens, happens_with, is_enabled, keeping_of}
use Rattle.far_model.specs.Members.{Each}
use Rattle.far_model.specs.Servers.{put_number, reply_number}
use Rattle.far_model.specs.State.{State}

-- ---- of the kind that is asked for

-- the reply is for the same operation and key, tag, job or round, with any number and body
pub record IsGetReply (caller op : ℕ) (key : List ℕ) (tag : ℕ) (reply : Option Packet) : Type 0 where
  pub num : ℕ
  pub body : Option (List ℕ)
  pub is : reply ≡ Some (GetRep caller op key tag num body)

pub record IsWriteReply (caller op : ℕ) (key : List ℕ) (reply : Option Packet) : Type 0 where
  pub num : ℕ
  pub body : Option (List ℕ)
  pub is : reply ≡ Some (WriteRep caller op key num body)

pub record IsTopReply (round server : ℕ) (reply : Option Packet) : Type 0 where
  pub top : ℕ
  pub is : reply ≡ Some (TopIs round server top)

-- a packet of a kind that does not go to a server has no reply
abbrev pub IsReplyTo : ℕ → Packet → Option Packet → Type 0
IsReplyTo server (GetFwd caller op key tag) reply = IsGetReply caller op key tag reply
IsReplyTo server (WriteFwd caller op key num body) reply = IsWriteReply caller op key reply
IsReplyTo server (Store job item) reply = reply ≡ Some (Stored job)
IsReplyTo server (TopAsk round) reply = IsTopReply round server reply
IsReplyTo server _ reply = reply ≡ None

-- only a server's keeper is asked
abbrev pub RepliesAt : Party → Packet → Option Packet → Type 0
RepliesAt (Server n) packet reply = IsReplyTo n packet reply
RepliesAt (Client c) packet reply = Unit {0}
RepliesAt Switch packet reply = Unit {0}
RepliesAt Controller packet reply = Unit {0}

abbrev pub RepliesToMessage : Option Message → Option Packet → Type 0
RepliesToMessage None reply = Unit {0}
RepliesToMessage (Some m) reply = RepliesAt m.to m.packet reply

-- the keepers answer what a delivery asks of them
abbrev pub AnswersInKind : State → Event → Keeping → Type 0
AnswersInKind s (Deliver i) k = RepliesToMessage (slice_get s.bag i) k.reply
AnswersInKind s (Send c) k = Unit {0}
AnswersInKind s Tick k = Unit {0}
AnswersInKind s Recover k = Unit {0}
AnswersInKind s Restart k = Unit {0}
AnswersInKind s (OrderOf j) k = Unit {0}

-- ---- not above the ceiling

-- the ceiling once the packet was handled
abbrev pub ceiling_at : Party → Packet → ℕ → ℕ
ceiling_at (Server n) packet ceiling = max ceiling (put_number packet)
ceiling_at _ packet ceiling = ceiling

abbrev pub ceiling_by : Option Message → ℕ → ℕ
ceiling_by None ceiling = ceiling
ceiling_by (Some m) ceiling = ceiling_at m.to m.packet ceiling

-- the ceiling after an event
abbrev pub ceiling_after : State → Event → ℕ → ℕ
ceiling_after s (Deliver i) ceiling = ceiling_by (slice_get s.bag i) ceiling
ceiling_after s _ ceiling = ceiling

abbrev pub ReplyWithin : ℕ → Option Packet → Type 0
ReplyWithin ceiling None = Unit {0}
ReplyWithin ceiling (Some reply) = reply_number reply ≤ ceiling

abbrev pub AnswersWithin : ℕ → Party → Option Packet → Type 0
AnswersWithin ceiling (Server n) reply = ReplyWithin ceiling reply
AnswersWithin ceiling (Client c) reply = Unit {0}
AnswersWithin ceiling Switch reply = Unit {0}
AnswersWithin ceiling Controller reply = Unit {0}

abbrev pub AnswersMessageWithin : ℕ → Option Message → Option Packet → Type 0
AnswersMessageWithin ceiling None reply = Unit {0}
AnswersMessageWithin ceiling (Some m) reply = AnswersWithin ceiling m.to reply

-- neither a reply nor a record that is listed at a restart has a number above the ceiling
abbrev pub RepliesWithin : ℕ → State → Event → Keeping → Type 0
RepliesWithin ceiling s (Deliver i) k = AnswersMessageWithin ceiling (slice_get s.bag i) k.reply
RepliesWithin ceiling s Restart k = Each (λ (r : Record). r.num ≤ ceiling) k.records
RepliesWithin ceiling s (Send c) k = Unit {0}
RepliesWithin ceiling s Tick k = Unit {0}
RepliesWithin ceiling s Recover k = Unit {0}
RepliesWithin ceiling s (OrderOf j) k = Unit {0}

-- the keepers, whose ceiling before the event is this, answer in kind, and not above what the ceiling is after it
pub record KeepersAnswer (ceiling : ℕ) (s : State) (e : Event) (k : Keeping) : Type 0 where
  pub kind : AnswersInKind s e k
  pub within : RepliesWithin (ceiling_after s e ceiling) s e k

-- ---- runs

-- an event, and what the keepers answer in it
pub record KeptEvent : Type 0 where
  pub event : Event
  pub keeping : Keeping

-- the state after the events, with these answers
abbrev pub run_with : PlanView → State → List KeptEvent → State
run_with plan s [] = s
run_with plan s (e ∷ es) = run_with plan (happens_with plan e.keeping s e.event) es

-- the ceiling after the events
abbrev pub ceiling_with : PlanView → ℕ → State → List KeptEvent → ℕ
ceiling_with plan ceiling s [] = ceiling
ceiling_with plan ceiling s (e ∷ es) =
    ceiling_with plan (ceiling_after s e.event ceiling) (happens_with plan e.keeping s e.event) es

-- each event can happen in its turn, and the keepers, whose ceiling is this at first, answer it
abbrev pub IsRunWith : PlanView → ℕ → State → List KeptEvent → Type 0
IsRunWith plan ceiling s [] = Unit {0}
IsRunWith plan ceiling s (e ∷ es) = IsTrue (is_enabled plan s e.event) × KeepersAnswer ceiling s e.event e.keeping
    × IsRunWith plan (ceiling_after s e.event ceiling) (happens_with plan e.keeping s e.event) es

-- the events, with what keepers answer by the rule of a server
abbrev pub kept_events : PlanView → State → List Event → List KeptEvent
kept_events plan s [] = []
kept_events plan s (e ∷ es) =
    record { event = e; keeping = keeping_of s e } ∷ kept_events plan (happens plan s e) es

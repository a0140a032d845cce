-- What a party answers to one packet.
use Rattle.std.specs.Prelude.{List, [], map}
use Rattle.far_base.specs.declared.log.LogEntry.{LogEntry}
use Rattle.far_base.specs.declared.packet.Out.{Out}
use Rattle.far_base.specs.declared.packet.Message.{Message}
use Rattle.far_base.specs.declared.packet.Packet.{Packet}
use Rattle.far_base.specs.declared.party.Party.{Party}

-- the new state of the party, what it sends in order, and what the log keeps
pub record Turn (S : Type 0) : Type 0 where
  pub state : S
  pub out : List Out
  pub notes : List LogEntry

-- nothing happens
abbrev pub idle : {S : Type 0} → S → Turn S
idle s = record { state = s; out = []; notes = [] }

abbrev pub to_party : Party → Packet → Out
to_party to packet = record { to = to; packet = packet }

-- what a party sends, as messages
abbrev pub messages_from : Party → List Out → List Message
messages_from from outs = map (λ (out : Out). record { from = from; to = out.to; packet = out.packet }) outs

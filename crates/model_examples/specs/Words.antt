-- The words in which worked runs are written: keys, bodies, operations, and the lines of tables.
use Rattle.std.specs.Prelude.{ℕ, true, false, List, Option, None, Some, codes}
use Rattle.far_base.specs.Padded.{padded}
use Rattle.far_base.specs.declared.key.TheConstants.{KEY_LENGTH}
use Rattle.far_base.specs.declared.log.LogEntry.{LogEntry}
use Rattle.far_base.specs.declared.log.LogLine.{LogLine}
use Rattle.far_base.specs.declared.packet.Message.{Message}
use Rattle.far_base.specs.declared.packet.Packet.{Packet}
use Rattle.far_base.specs.declared.party.Party.{Party}
use Rattle.far_base.specs.declared.plan.Config.{Config}
use Rattle.far_base.specs.declared.plan.Op.TheVariants.{Get, Put, Del}
use Rattle.far_base.specs.declared.plan.OpLine.{OpLine}
use Rattle.far_base.specs.declared.record.Record.{Record}
use Rattle.model_examples.specs.Table.{HistoryRow}

-- ---- keys and bodies

abbrev pub key_a : List ℕ
key_a = padded KEY_LENGTH (codes "a")

abbrev pub key_b : List ℕ
key_b = padded KEY_LENGTH (codes "b")

abbrev pub key_c : List ℕ
key_c = padded KEY_LENGTH (codes "c")

abbrev pub key_d : List ℕ
key_d = padded KEY_LENGTH (codes "d")

abbrev pub key_e : List ℕ
key_e = padded KEY_LENGTH (codes "e")

abbrev pub key_f : List ℕ
key_f = padded KEY_LENGTH (codes "f")

abbrev pub key_qx : List ℕ
key_qx = padded KEY_LENGTH (codes "qx")

abbrev pub body_k : Option (List ℕ)
body_k = Some (codes "k")

abbrev pub body_m : Option (List ℕ)
body_m = Some (codes "m")

abbrev pub body_p : Option (List ℕ)
body_p = Some (codes "p")

abbrev pub body_q : Option (List ℕ)
body_q = Some (codes "q")

abbrev pub body_r : Option (List ℕ)
body_r = Some (codes "r")

abbrev pub body_s : Option (List ℕ)
body_s = Some (codes "s")

abbrev pub body_t : Option (List ℕ)
body_t = Some (codes "t")

abbrev pub body_u : Option (List ℕ)
body_u = Some (codes "u")

abbrev pub body_v : Option (List ℕ)
body_v = Some (codes "v")

abbrev pub body_w : Option (List ℕ)
body_w = Some (codes "w")

abbrev pub body_x : Option (List ℕ)
body_x = Some (codes "x")

abbrev pub body_y : Option (List ℕ)
body_y = Some (codes "y")

abbrev pub body_z : Option (List ℕ)
body_z = Some (codes "z")

-- ---- plans

-- so many clients, servers and slots, and the count at which a key grows hot
abbrev pub sizes : ℕ → ℕ → ℕ → ℕ → Config
sizes clients servers slots hot = record { clients = clients; servers = servers; slots = slots; hot = hot }

abbrev pub get : ℕ → List ℕ → OpLine
get client key = record { client = client; op = Get; key = key; body = None }

abbrev pub put : ℕ → List ℕ → Option (List ℕ) → OpLine
put client key body = record { client = client; op = Put; key = key; body = body }

abbrev pub del : ℕ → List ℕ → OpLine
del client key = record { client = client; op = Del; key = key; body = None }

-- ---- lines of tables

-- the operation, its number and body, and when it was sent and answered: by a server
abbrev pub by_server : ℕ → ℕ → Option (List ℕ) → ℕ → ℕ → HistoryRow
by_server op num body sent answered =
    record { op = op; num = num; body = body; near = false; sent = sent; answered = answered }

-- the same, where the switch answered by itself
abbrev pub by_switch : ℕ → ℕ → Option (List ℕ) → ℕ → ℕ → HistoryRow
by_switch op num body sent answered =
    record { op = op; num = num; body = body; near = true; sent = sent; answered = answered }

-- an entry of the log, and the step at which it was made
abbrev pub at : ℕ → LogEntry → LogLine
at moment entry = record { moment = moment; entry = entry }

abbrev pub item : List ℕ → ℕ → Option (List ℕ) → Record
item key num body = record { key = key; num = num; body = body }

abbrev pub message : Party → Party → Packet → Message
message from to packet = record { from = from; to = to; packet = packet }

-- The rules of a server.
use Rattle.far_base.specs.declared.record.Versioned.{Versioned}
use Rattle.std.specs.Prelude.{ℕ, max, nat_lt, if◌then◌else◌, List, [], ◌∷◌, Option, None, Some}
use Rattle.far_base.specs.declared.packet.Packet.{Packet}
use Rattle.far_base.specs.declared.packet.Packet.TheVariants.{GetFwd, WriteFwd, GetRep, WriteRep, Store, Stored, TopAsk}
use Rattle.far_base.specs.declared.packet.Packet.TheVariants.{TopIs}
use Rattle.far_base.specs.declared.record.Record.{Record}
use Rattle.far_model.specs.KeyedRecords.{found, put_record}

-- the records once this one has come: it is kept where its number is greater
abbrev pub stored : List Record → Record → List Record
stored records r = if nat_lt (found records r.key).num r.num then put_record r records else records

-- the greatest number that the server has, or 0
abbrev pub top_of : List Record → ℕ
top_of [] = 0
top_of (r ∷ rs) = max r.num (top_of rs)

abbrev pub record_of : List ℕ → ℕ → Option (List ℕ) → Record
record_of key num body = record { key = key; num = num; body = body }

-- the number that a packet puts at its server; one that puts nothing has 0
abbrev pub put_number : Packet → ℕ
put_number (WriteFwd caller op key num body) = num
put_number (Store job item) = item.num
put_number _ = 0

-- the number that a reply of a server tells; one that tells none has 0
abbrev pub reply_number : Packet → ℕ
reply_number (GetRep caller op key tag num body) = num
reply_number (WriteRep caller op key num body) = num
reply_number (TopIs round server top) = top
reply_number _ = 0

-- what a packet makes of the records of its server
abbrev pub server_keeps : List Record → Packet → List Record
server_keeps records (WriteFwd caller op key num body) = stored records (record_of key num body)
server_keeps records (Store job item) = stored records item
server_keeps records _ = records

abbrev pub get_reply : ℕ → ℕ → List ℕ → ℕ → Versioned → Packet
get_reply caller op key tag h = GetRep caller op key tag h.num h.body

abbrev pub write_reply : ℕ → ℕ → List ℕ → Versioned → Packet
write_reply caller op key h = WriteRep caller op key h.num h.body

-- what a server answers; a packet of a kind that does not go to a server has no answer
abbrev pub server_reply : ℕ → List Record → Packet → Option Packet
server_reply server records (GetFwd caller op key tag) = Some (get_reply caller op key tag (found records key))
server_reply server records (WriteFwd caller op key num body) =
    Some (write_reply caller op key (found (stored records (record_of key num body)) key))
server_reply server records (Store job item) = Some (Stored job)
server_reply server records (TopAsk round) = Some (TopIs round server (top_of records))
server_reply server records _ = None

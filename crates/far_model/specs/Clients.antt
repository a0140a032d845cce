-- The rules of a client.
use Rattle.std.specs.Prelude.{ℕ, suc, ◌-◌, max, Bool, ◌&&◌, nat_lt, nat_eq, if◌then◌else◌, List, [], ◌∷◌, length}
use Rattle.std.specs.Prelude.{filter, slice_index_or, Option, None, Some}
use Rattle.far_base.specs.declared.log.LogEntry.TheVariants.{Answered}
use Rattle.far_base.specs.declared.packet.Out.{Out}
use Rattle.far_base.specs.declared.packet.Packet.{Packet}
use Rattle.far_base.specs.declared.packet.Packet.TheVariants.{GetReq, WriteReq, GetAns, WriteAns, Release, Ask, Told}
use Rattle.far_base.specs.declared.party.Party.TheVariants.{Controller}
use Rattle.far_base.specs.declared.plan.OpLine.{OpLine}
use Rattle.far_base.specs.declared.plan.Op.TheVariants.{Get}
use Rattle.far_base.specs.declared.record.Record.{Record}
use Rattle.far_model.specs.KeyedRecords.{put_record}
use Rattle.far_model.specs.Log.{is_read}
use Rattle.far_model.specs.Parties.{Turn, idle, to_party}

-- a client: the operation that it waits for, those that it has still to send, the point up to which it was released,
-- and the records that it preserves
pub record ClientState : Type 0 where
  pub waits : Option ℕ
  pub left : List ℕ
  pub released : ℕ
  pub preserved : List Record

-- operation n is the n-th of the plan, counted from 1
abbrev pub no_line : OpLine
no_line = record { client = 0; op = Get; key = []; body = None }

abbrev pub line_of : List OpLine → ℕ → OpLine
line_of ops op = slice_index_or ops (op - 1) no_line

abbrev pub script_from : ℕ → List OpLine → ℕ → List ℕ
script_from op [] client = []
script_from op (line ∷ lines) client = if nat_eq line.client client then op ∷ script_from (suc op) lines client
    else script_from (suc op) lines client

-- the numbers of a client's operations, in order
abbrev pub script : List OpLine → ℕ → List ℕ
script ops client = script_from 1 ops client

abbrev pub opening_client : List OpLine → ℕ → ClientState
opening_client ops client = record { waits = None; left = script ops client; released = 0; preserved = [] }

-- what a client asks the switch
abbrev pub request : ℕ → ℕ → OpLine → Packet
request client op line = if is_read line.op then GetReq client op line.key else WriteReq client op line.key line.body

-- the answer closes the open operation
abbrev pub closed : ClientState → ClientState
closed s = record s { waits = None }

-- a write that the switch kept, above the released point, is preserved
abbrev pub preserves : ClientState → Bool → Record → ClientState
preserves s kept r = if kept && nat_lt s.released r.num then record s { preserved = put_record r s.preserved } else s

abbrev pub released_to : ℕ → ClientState → ClientState
released_to point s = record s {
  released = max s.released point;
  preserved = filter (λ (r : Record). nat_lt (max s.released point) r.num) s.preserved;
}

abbrev pub tells_each : ℕ → ℕ → ℕ → List Record → List Out
tells_each round client total [] = []
tells_each round client total (r ∷ rs) =
    to_party Controller (Told round client total (Some r)) ∷ tells_each round client total rs

-- one message for each preserved record, or one that says that there is none
abbrev pub tells : ℕ → ℕ → List Record → List Out
tells round client [] = to_party Controller (Told round client 0 None) ∷ []
tells round client (r ∷ rs) = tells_each round client (length (r ∷ rs)) (r ∷ rs)

-- an answered write as a record: the key and body of the script, under the number of the answer
abbrev pub answered_record : List OpLine → ℕ → ℕ → Record
answered_record ops op num = record { key = (line_of ops op).key; num = num; body = (line_of ops op).body }

abbrev pub client_takes : List OpLine → ℕ → ClientState → Packet → Turn ClientState
client_takes ops client s (GetAns caller op key num body near) = record {
  state = closed s;
  out = [];
  notes = Answered op ∷ [];
}
client_takes ops client s (WriteAns caller op key num kept) = record {
  state = preserves (closed s) kept (answered_record ops op num);
  out = [];
  notes = Answered op ∷ [];
}
client_takes ops client s (Release point) = record { state = released_to point s; out = []; notes = [] }
client_takes ops client s (Ask round) = record { state = s; out = tells round client s.preserved; notes = [] }
client_takes ops client s _ = idle s

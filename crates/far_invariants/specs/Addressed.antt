-- What can come to each party.
use Rattle.std.specs.Prelude.{◌≡◌, ℕ, ◌<◌, Some}
use Rattle.far_base.specs.PlanView.{PlanView}
use Rattle.far_base.specs.declared.packet.Message.{Message}
use Rattle.far_base.specs.declared.packet.Packet.{Packet}
use Rattle.far_base.specs.declared.packet.Packet.TheVariants.{GetReq, WriteReq, GetFwd, WriteFwd, GetRep, WriteRep}
use Rattle.far_base.specs.declared.packet.Packet.TheVariants.{GetAns, WriteAns, Hot, Admit, AdmitAck, Peek, PeekAns}
use Rattle.far_base.specs.declared.packet.Packet.TheVariants.{Remove, RemoveAns, SnapStart, SnapBegun, SnapRead}
use Rattle.far_base.specs.declared.packet.Packet.TheVariants.{SnapPart, Store, Stored, Release, Ask, Told, TopAsk}
use Rattle.far_base.specs.declared.packet.Packet.TheVariants.{TopIs, SnapSame, SnapFrom}
use Rattle.far_base.specs.declared.party.Party.{Party}
use Rattle.far_base.specs.declared.party.Party.TheVariants.{Client, Switch, Server, Controller}
use Rattle.far_model.specs.Members.{Among}
use Rattle.far_model.specs.State.{State, client_at}

-- to a client: the answer to the operation that it waits for, a release or a question
abbrev pub ComesToClient : State → ℕ → Packet → Type 0
ComesToClient s c (GetAns caller op key num body near) = (caller ≡ c) × ((client_at s c).waits ≡ Some op)
ComesToClient s c (WriteAns caller op key num kept) = (caller ≡ c) × ((client_at s c).waits ≡ Some op)
ComesToClient s c (Release point) = Unit {0}
ComesToClient s c (Ask round) = Unit {0}
ComesToClient s c _ = ⊥

-- to a server: a forward, a store, or the question for its greatest number
abbrev pub ComesToServer : Packet → Type 0
ComesToServer (GetFwd caller op key tag) = Unit {0}
ComesToServer (WriteFwd caller op key num body) = Unit {0}
ComesToServer (Store job item) = Unit {0}
ComesToServer (TopAsk round) = Unit {0}
ComesToServer _ = ⊥

-- to the switch: requests, replies, and what the controller asks
abbrev pub ComesToSwitch : Packet → Type 0
ComesToSwitch (GetReq caller op key) = Unit {0}
ComesToSwitch (WriteReq caller op key body) = Unit {0}
ComesToSwitch (GetRep caller op key tag num body) = Unit {0}
ComesToSwitch (WriteRep caller op key num body) = Unit {0}
ComesToSwitch (Admit epoch slot key tag) = Unit {0}
ComesToSwitch (Peek epoch slot tag) = Unit {0}
ComesToSwitch (Remove epoch slot tag latest num) = Unit {0}
ComesToSwitch (SnapStart epoch id) = Unit {0}
ComesToSwitch (SnapFrom epoch id base) = Unit {0}
ComesToSwitch (SnapRead epoch id slot) = Unit {0}
ComesToSwitch _ = ⊥

-- to the controller: what the switch, the servers and the clients answer it, and keys that have grown hot
abbrev pub ComesToController : Packet → Type 0
ComesToController (Hot key) = Unit {0}
ComesToController (AdmitAck slot tag) = Unit {0}
ComesToController (PeekAns slot tag latest num body) = Unit {0}
ComesToController (RemoveAns slot tag done latest num body) = Unit {0}
ComesToController (SnapBegun id point) = Unit {0}
ComesToController (SnapPart id slot view) = Unit {0}
ComesToController (SnapSame id slot) = Unit {0}
ComesToController (Stored job) = Unit {0}
ComesToController (Told round caller total item) = Unit {0}
ComesToController (TopIs round server top) = Unit {0}
ComesToController _ = ⊥

-- the party is there, and takes packets of this kind
abbrev pub ComesTo : PlanView → State → Party → Packet → Type 0
ComesTo plan s (Client c) packet = (c < plan.config.clients) × ComesToClient s c packet
ComesTo plan s Switch packet = ComesToSwitch packet
ComesTo plan s (Server n) packet = (n < plan.config.servers) × ComesToServer packet
ComesTo plan s Controller packet = ComesToController packet

-- every message comes to a party that takes it
abbrev pub AreAddressed : PlanView → State → Type 0
AreAddressed plan s = (m : Message) → Among m s.bag → ComesTo plan s m.to m.packet

-- Whose a packet is, between whom it goes, and that each open operation has exactly one packet on its way.
use Rattle.std.specs.Prelude.{◌≡◌, ℕ, ◌<◌, Bool, true, false, nat_eq, if◌then◌else◌, List, length, is_some, Option}
use Rattle.std.specs.Prelude.{Some}
use Rattle.std.specs.List.{count_by}
use Rattle.far_base.specs.declared.packet.Message.{Message}
use Rattle.far_base.specs.declared.packet.Packet.{Packet}
use Rattle.far_base.specs.declared.packet.Packet.TheVariants.{GetReq, WriteReq, GetFwd, WriteFwd, GetRep, WriteRep}
use Rattle.far_base.specs.declared.packet.Packet.TheVariants.{GetAns, WriteAns, Hot, Admit, AdmitAck, Peek, PeekAns}
use Rattle.far_base.specs.declared.packet.Packet.TheVariants.{Remove, RemoveAns, SnapStart, SnapBegun, SnapRead}
use Rattle.far_base.specs.declared.packet.Packet.TheVariants.{SnapPart, Store, Stored, Release, Ask, Told, TopAsk}
use Rattle.far_base.specs.declared.packet.Packet.TheVariants.{TopIs, SnapSame, SnapFrom}
use Rattle.far_base.specs.PlanView.{PlanView}
use Rattle.far_base.specs.declared.party.Party.{Party}
use Rattle.far_base.specs.declared.party.Party.TheVariants.{Client, Switch, Server, Controller}
use Rattle.far_base.specs.declared.plan.Config.{Config}
use Rattle.far_model.specs.Members.{Among}
use Rattle.far_model.specs.State.{State, client_at}
use Rattle.far_model.specs.View.{server_of}

-- what a packet belongs to: an operation of a client, the admission of a slot, the eviction of a slot, a job of the
-- controller at a server, a snapshot, a round of recovery, or none of these
pub data Subject : Type 0 where
  OfOperation : (caller op : ℕ) → Subject
  OfAdmission : (slot tag : ℕ) → Subject
  OfEviction : (slot tag : ℕ) → Subject
  OfJob : (job : ℕ) → Subject
  OfSnapshot : (id : ℕ) → Subject
  OfRound : (round : ℕ) → Subject
  OfNone : Subject

abbrev pub subject : Packet → Subject
subject (GetReq caller op key) = OfOperation caller op
subject (WriteReq caller op key body) = OfOperation caller op
subject (GetFwd caller op key tag) = OfOperation caller op
subject (WriteFwd caller op key num body) = OfOperation caller op
subject (GetRep caller op key tag num body) = OfOperation caller op
subject (WriteRep caller op key num body) = OfOperation caller op
subject (GetAns caller op key num body near) = OfOperation caller op
subject (WriteAns caller op key num kept) = OfOperation caller op
subject (Hot key) = OfNone
subject (Admit epoch slot key tag) = OfAdmission slot tag
subject (AdmitAck slot tag) = OfAdmission slot tag
subject (Peek epoch slot tag) = OfEviction slot tag
subject (PeekAns slot tag latest num body) = OfEviction slot tag
subject (Remove epoch slot tag latest num) = OfEviction slot tag
subject (RemoveAns slot tag done latest num body) = OfEviction slot tag
subject (SnapStart epoch id) = OfSnapshot id
subject (SnapBegun id point) = OfSnapshot id
subject (SnapRead epoch id slot) = OfSnapshot id
subject (SnapPart id slot view) = OfSnapshot id
subject (Store job item) = OfJob job
subject (Stored job) = OfJob job
subject (Release point) = OfNone
subject (Ask round) = OfRound round
subject (Told round caller total item) = OfRound round
subject (TopAsk round) = OfRound round
subject (TopIs round server top) = OfRound round
subject (SnapSame id slot) = OfSnapshot id
subject (SnapFrom epoch id base) = OfSnapshot id

abbrev pub is_of_client : ℕ → Subject → Bool
is_of_client c (OfOperation caller op) = nat_eq caller c
is_of_client c _ = false

abbrev pub is_operation : Subject → Bool
is_operation (OfOperation caller op) = true
is_operation _ = false

-- the messages of a client's operations
abbrev pub flights_of : ℕ → List Message → ℕ
flights_of c bag = count_by (λ (m : Message). is_of_client c (subject m.packet)) bag

abbrev pub open_count : Option ℕ → ℕ
open_count waits = if is_some waits then 1 else 0

-- each open operation has exactly one packet on its way, and no other operation has one
pub record OneFlightPerOperation (s : State) : Type 0 where
  pub waited : (m : Message) (caller op : ℕ) → Among m s.bag → subject m.packet ≡ OfOperation caller op
      → (caller < length s.clients) × ((client_at s caller).waits ≡ Some op)
  pub one : (c : ℕ) → flights_of c s.bag ≡ open_count (client_at s c).waits

-- ---- routes

pub record IsClientOf (config : Config) (party : Party) : Type 0 where
  pub client : ℕ
  pub within : client < config.clients
  pub is : party ≡ Client client

pub record IsServerOf (config : Config) (party : Party) : Type 0 where
  pub server : ℕ
  pub within : server < config.servers
  pub is : party ≡ Server server

-- to whom a packet goes
abbrev pub IsFor : Config → Packet → Party → Type 0
IsFor config (GetReq caller op key) to = to ≡ Switch
IsFor config (WriteReq caller op key body) to = to ≡ Switch
IsFor config (GetFwd caller op key tag) to = to ≡ Server (server_of config key)
IsFor config (WriteFwd caller op key num body) to = to ≡ Server (server_of config key)
IsFor config (GetRep caller op key tag num body) to = to ≡ Switch
IsFor config (WriteRep caller op key num body) to = to ≡ Switch
IsFor config (GetAns caller op key num body near) to = to ≡ Client caller
IsFor config (WriteAns caller op key num kept) to = to ≡ Client caller
IsFor config (Hot key) to = to ≡ Controller
IsFor config (Admit epoch slot key tag) to = to ≡ Switch
IsFor config (AdmitAck slot tag) to = to ≡ Controller
IsFor config (Peek epoch slot tag) to = to ≡ Switch
IsFor config (PeekAns slot tag latest num body) to = to ≡ Controller
IsFor config (Remove epoch slot tag latest num) to = to ≡ Switch
IsFor config (RemoveAns slot tag done latest num body) to = to ≡ Controller
IsFor config (SnapStart epoch id) to = to ≡ Switch
IsFor config (SnapBegun id point) to = to ≡ Controller
IsFor config (SnapRead epoch id slot) to = to ≡ Switch
IsFor config (SnapPart id slot view) to = to ≡ Controller
IsFor config (Store job item) to = to ≡ Server (server_of config item.key)
IsFor config (Stored job) to = to ≡ Controller
IsFor config (Release point) to = IsClientOf config to
IsFor config (Ask round) to = IsClientOf config to
IsFor config (Told round caller total item) to = to ≡ Controller
IsFor config (TopAsk round) to = IsServerOf config to
IsFor config (TopIs round server top) to = to ≡ Controller
IsFor config (SnapSame id slot) to = to ≡ Controller
IsFor config (SnapFrom epoch id base) to = to ≡ Switch

-- from whom it comes
abbrev pub IsFrom : Packet → Party → Type 0
IsFrom (GetReq caller op key) from = from ≡ Client caller
IsFrom (WriteReq caller op key body) from = from ≡ Client caller
IsFrom (GetFwd caller op key tag) from = from ≡ Switch
IsFrom (WriteFwd caller op key num body) from = from ≡ Switch
IsFrom (GetRep caller op key tag num body) from = (n : ℕ) × (from ≡ Server n)
IsFrom (WriteRep caller op key num body) from = (n : ℕ) × (from ≡ Server n)
IsFrom (GetAns caller op key num body near) from = from ≡ Switch
IsFrom (WriteAns caller op key num kept) from = from ≡ Switch
IsFrom (Hot key) from = from ≡ Switch
IsFrom (Admit epoch slot key tag) from = from ≡ Controller
IsFrom (AdmitAck slot tag) from = from ≡ Switch
IsFrom (Peek epoch slot tag) from = from ≡ Controller
IsFrom (PeekAns slot tag latest num body) from = from ≡ Switch
IsFrom (Remove epoch slot tag latest num) from = from ≡ Controller
IsFrom (RemoveAns slot tag done latest num body) from = from ≡ Switch
IsFrom (SnapStart epoch id) from = from ≡ Controller
IsFrom (SnapBegun id point) from = from ≡ Switch
IsFrom (SnapRead epoch id slot) from = from ≡ Controller
IsFrom (SnapPart id slot view) from = from ≡ Switch
IsFrom (Store job item) from = from ≡ Controller
IsFrom (Stored job) from = (n : ℕ) × (from ≡ Server n)
IsFrom (Release point) from = from ≡ Controller
IsFrom (Ask round) from = from ≡ Controller
IsFrom (Told round caller total item) from = from ≡ Client caller
IsFrom (TopAsk round) from = from ≡ Controller
IsFrom (TopIs round server top) from = from ≡ Server server
IsFrom (SnapSame id slot) from = from ≡ Switch
IsFrom (SnapFrom epoch id base) from = from ≡ Controller

-- a packet that goes from and to the parties that its kind says
pub record Travels (config : Config) (from to : Party) (packet : Packet) : Type 0 where
  pub source : IsFrom packet from
  pub target : IsFor config packet to

-- the parties are as many as the plan says, and every message goes from and to the parties that its kind says
pub record IsRouted (plan : PlanView) (s : State) : Type 0 where
  pub switch : s.switch.config ≡ plan.config
  pub clients : length s.clients ≡ plan.config.clients
  pub servers : length s.servers ≡ plan.config.servers
  pub messages : (m : Message) → Among m s.bag → Travels plan.config m.from m.to m.packet

-- routes and flights together
pub record IsInFlight (plan : PlanView) (s : State) : Type 0 where
  pub routed : IsRouted plan s
  pub one : OneFlightPerOperation s

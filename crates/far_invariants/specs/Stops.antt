-- What holds across stops of the switch: what outlives a stop, and what a round of recovery restores.
use Rattle.far_invariants.specs.Numbers.{IsWritten, NumbersDiffer, NumbersArrive}
use Rattle.std.specs.Prelude.{◌≡◌, ◌≢◌, ℕ, suc, ◌+◌, ◌<◌, ◌≤◌, ◌⊎◌, max, Bool, true, false, nat_eq, nat_le, ◌&&◌, List}
use Rattle.std.specs.Prelude.{[], length, slice_index_or, None, Some, if◌then◌else◌, is_some, Option}
use Rattle.std.specs.List.{count_by}
use Rattle.far_base.specs.PlanView.{PlanView}
use Rattle.far_base.specs.declared.log.LogEntry.TheVariants.{Numbered}
use Rattle.far_base.specs.declared.packet.Message.{Message}
use Rattle.far_base.specs.declared.packet.Packet.{Packet}
use Rattle.far_base.specs.declared.packet.Packet.TheVariants.{WriteAns, Store, Stored, Ask, Told, TopAsk, TopIs}
use Rattle.far_base.specs.declared.party.Party.{Party}
use Rattle.far_base.specs.declared.party.Party.TheVariants.{Client, Server}
use Rattle.far_base.specs.declared.record.Record.{Record}
use Rattle.far_base.specs.declared.slot_state.SlotState.TheVariants.{Free}
use Rattle.far_model.specs.Clients.{line_of}
use Rattle.far_model.specs.Controller.{ControllerState}
use Rattle.far_model.specs.Events.{is_switch}
use Rattle.far_model.specs.Evictions.{state_at}
use Rattle.far_invariants.specs.Covers.{IsAtServer, Covers, IsInSnapshot, IsPreserved, IsKeptInFlight, IsAnsweredNear}
use Rattle.far_invariants.specs.Covers.{IsAbsorbed}
use Rattle.far_model.specs.Members.{Among, Pairs}
use Rattle.far_model.specs.Rounds.{Round, Telling, asks_tops, no_telling, telling_at}
use Rattle.far_model.specs.Servers.{top_of}
use Rattle.far_model.specs.Snapshots.{view_records}
use Rattle.far_model.specs.State.{State, client_at, records_at, line_at}
use Rattle.far_model.specs.View.{server_of}
use Rattle.far_invariants.specs.StopNeeds.{IsGenuine}

-- ---- what outlives a stop

-- a place that outlives a stop covers the number, or an answer on its way to one does
abbrev pub Outlives : PlanView → State → List ℕ → ℕ → Type 0
Outlives plan s key num = IsAtServer plan s key num
    ⊎ (IsInSnapshot s key num ⊎ (IsPreserved s key num ⊎ IsKeptInFlight s key num))

abbrev pub AbsorbedIsKept : PlanView → State → Type 0
AbsorbedIsKept plan s = (key : List ℕ) (num : ℕ) → IsAbsorbed plan s.log key num → Outlives plan s key num

-- an answer that its client has still to preserve is the newest that the client then has of the key
abbrev pub IsNewest : State → Packet → Type 0
IsNewest s (WriteAns caller op key num kept) = kept ≡ true → (r : Record) → Among r (client_at s caller).preserved
    → r.key ≡ key → r.num ≤ num
IsNewest s _ = Unit {0}

-- the write has this number, and the switch answered it by itself
pub record IsTakenUp (s : State) (op num : ℕ) : Type 0 where
  pub numbered_at : ℕ
  pub numbered : Among (line_at numbered_at (Numbered op num)) s.log
  pub before : numbered_at ≤ s.steps
  pub absorbed : IsAnsweredNear s.log op num

abbrev pub IsKeptAnswer : State → Packet → Type 0
IsKeptAnswer s (WriteAns caller op key num kept) = kept ≡ true → IsTakenUp s op num
IsKeptAnswer s _ = Unit {0}

-- a record that a client preserves is that of a write that the switch answered by itself
pub record IsOfAnswer (plan : PlanView) (s : State) (r : Record) : Type 0 where
  pub op : ℕ
  pub on_key : (line_of plan.ops op).key ≡ r.key
  pub same_body : (line_of plan.ops op).body ≡ r.body
  pub taken : IsTakenUp s op r.num

-- what a client preserves is above what was released to it
abbrev pub PreservesAbove : State → ℕ → Type 0
PreservesAbove s c = (r : Record) → Among r (client_at s c).preserved → (client_at s c).released < r.num

-- a server has at most one record of a key, and only of its own keys
pub record ServerIs (plan : PlanView) (n : ℕ) (records : List Record) : Type 0 where
  pub apart : Pairs (λ (a b : Record). a.key ≢ b.key) records
  pub own : (r : Record) → Among r records → server_of plan.config r.key ≡ n
  pub above : (r : Record) → Among r records → 0 < r.num

-- jobs and rounds of packets on their way were drawn
abbrev pub IsDrawnJob : ControllerState → Packet → Type 0
IsDrawnJob c (Store job item) = job < c.next_job
IsDrawnJob c (Stored job) = job < c.next_job
IsDrawnJob c (Ask round) = round < c.next_round
IsDrawnJob c (Told round caller total item) = round < c.next_round
IsDrawnJob c (TopAsk round) = round < c.next_round
IsDrawnJob c (TopIs round server top) = round < c.next_round
IsDrawnJob c _ = Unit {0}

-- P holds of each record that a store or an answer in a round carries
abbrev pub Carried : (Record → Type 0) → Packet → Type 0
Carried P (Store job item) = P item
Carried P (Told number caller total (Some item)) = P item
Carried P _ = Unit {0}

-- ---- a round

-- number 0, or a kept record covers it
abbrev pub IsBelow : List Record → List ℕ → ℕ → Type 0
IsBelow kept key num = (num ≡ 0) ⊎ Covers kept key num

abbrev pub IsBelowIn : List Record → ℕ → Packet → Type 0
IsBelowIn kept round (Store job item) = IsBelow kept item.key item.num
IsBelowIn kept round (Told number caller total (Some item)) = number ≡ round → IsBelow kept item.key item.num
IsBelowIn kept round _ = Unit {0}

-- a store of this round brings it to its server
pub record IsStoring (s : State) (first_job : ℕ) (key : List ℕ) (num : ℕ) : Type 0 where
  pub message : Message
  pub there : Among message s.bag
  pub job : ℕ
  pub item : Record
  pub is : message.packet ≡ Store job item
  pub of_round : first_job ≤ job
  pub on_key : item.key ≡ key
  pub above : num ≤ item.num

-- a client has told it in this round
pub record IsTold (plan : PlanView) (s : State) (round : ℕ) (key : List ℕ) (num : ℕ) : Type 0 where
  pub message : Message
  pub there : Among message s.bag
  pub caller : ℕ
  pub total : ℕ
  pub item : Record
  pub is : message.packet ≡ Told round caller total (Some item)
  pub within : caller < plan.config.clients
  pub on_key : item.key ≡ key
  pub above : num ≤ item.num

-- a client has it and is still to be asked in this round
pub record IsStillAsked (plan : PlanView) (s : State) (round : ℕ) (key : List ℕ) (num : ℕ) : Type 0 where
  pub client : ℕ
  pub message : Message
  pub there : Among message s.bag
  pub within : client < plan.config.clients
  pub to : message.to ≡ Client client
  pub is : message.packet ≡ Ask round
  pub covers : Covers (client_at s client).preserved key num

-- a record of the snapshot is at its server or goes there
abbrev pub IsRestoring : PlanView → State → Round → List ℕ → ℕ → Type 0
IsRestoring plan s r key num = IsAtServer plan s key num ⊎ IsStoring s r.first_job key num

-- any other record besides may be told, or be still at its client
abbrev pub IsRestored : PlanView → State → Round → List ℕ → ℕ → Type 0
IsRestored plan s r key num = IsRestoring plan s r key num
    ⊎ (IsTold plan s r.number key num ⊎ IsStillAsked plan s r.number key num)

-- ---- the counters of a round

abbrev pub is_client : ℕ → Party → Bool
is_client c (Client n) = nat_eq n c
is_client c _ = false

abbrev pub is_ask : ℕ → Packet → Bool
is_ask round (Ask number) = nat_eq number round
is_ask round _ = false

abbrev pub asks : ℕ → ℕ → Message → Bool
asks round c m = is_client c m.to && is_ask round m.packet

abbrev pub is_told_by : ℕ → ℕ → Packet → Bool
is_told_by round c (Told number caller total item) = nat_eq number round && nat_eq caller c
is_told_by round c _ = false

abbrev pub tells_for : ℕ → ℕ → Message → Bool
tells_for round c m = is_told_by round c m.packet

abbrev pub is_job_from : ℕ → Packet → Bool
is_job_from first (Store job item) = nat_le first job
is_job_from first (Stored job) = nat_le first job
is_job_from first _ = false

abbrev pub stores_for : ℕ → Message → Bool
stores_for first m = is_job_from first m.packet

abbrev pub is_server : ℕ → Party → Bool
is_server n (Server m) = nat_eq m n
is_server n _ = false

-- the question for the greatest number of a server, or the answer to it
abbrev pub is_top_of : ℕ → ℕ → Party → Packet → Bool
is_top_of round n to (TopAsk number) = is_server n to && nat_eq number round
is_top_of round n to (TopIs number server top) = nat_eq server n && nat_eq number round
is_top_of round n to _ = false

abbrev pub tops_for : ℕ → ℕ → Message → Bool
tops_for round n m = is_top_of round n m.to m.packet

abbrev pub heard_top : Option ℕ → ℕ
heard_top top = if is_some top then 1 else 0

abbrev pub SaysTotal : ℕ → ℕ → ℕ → Packet → Type 0
SaysTotal round c total (Told number caller said item) = number ≡ round → caller ≡ c → said ≡ total
SaysTotal round c total _ = Unit {0}

-- the client's question is on its way
pub record IsToBeAsked (s : State) (r : Round) (c : ℕ) : Type 0 where
  pub asked : count_by (asks r.number c) s.bag ≡ 1
  pub told : count_by (tells_for r.number c) s.bag ≡ 0
  pub heard : telling_at r c ≡ no_telling

abbrev pub HeardTotal : ℕ → Telling → Type 0
HeardTotal total t = ((t.total ≡ None) × (t.count ≡ 0)) ⊎ (t.total ≡ Some total)

-- the client has answered: what was heard and what is on its way is its total
pub record HasAnswered (s : State) (r : Round) (c : ℕ) : Type 0 where
  pub total : ℕ
  pub asked : count_by (asks r.number c) s.bag ≡ 0
  pub says : (m : Message) → Among m s.bag → SaysTotal r.number c total m.packet
  pub heard : HeardTotal total (telling_at r c)
  pub told : (telling_at r c).count + count_by (tells_for r.number c) s.bag ≡ max total 1

-- a top that is asked for or answered: the question was put, and the server has no more than it answered
abbrev pub IsTopRight : State → Round → Packet → Type 0
IsTopRight s r (TopAsk round) = round ≡ r.number → r.asked ≡ true
IsTopRight s r (TopIs round server top) = round ≡ r.number → (r.asked ≡ true) × (top_of (records_at s server) ≤ top)
IsTopRight s r _ = Unit {0}

pub record InRound (plan : PlanView) (kept : List Record) (s : State) (r : Round) : Type 0 where
  -- nothing of the switch is left, and nothing else is under way
  pub stopped : s.running ≡ false
  pub silent : (m : Message) → Among m s.bag → is_switch m.from ≡ false
  pub free : (i : ℕ) → state_at s.controller.slots i ≡ Free
  pub no_wants : s.controller.wants ≡ []
  pub no_eviction : s.controller.eviction ≡ None
  pub no_job : s.controller.job ≡ None
  -- numbers of jobs and rounds
  pub number : suc r.number ≡ s.controller.next_round
  pub first : r.first_job ≤ s.controller.next_job
  pub clients : length r.told ≡ plan.config.clients
  pub servers : length r.tops ≡ plan.config.servers
  -- nothing above the kept list
  pub genuine : (x : Record) → Among x kept → IsWritten plan s.log s.steps x.key x.num x.body
  pub server_below : (n : ℕ) (x : Record) → Among x (records_at s n) → Covers kept x.key x.num
  pub client_below : (c : ℕ) (x : Record) → Among x (client_at s c).preserved → Covers kept x.key x.num
  pub snapshot_below : (x : Record) → Among x (view_records s.controller.last.views) → Covers kept x.key x.num
  pub packets_below : (m : Message) → Among m s.bag → IsBelowIn kept r.number m.packet
  -- all of the kept list is restored, or under way
  pub snapshot : (x : Record) → Among x (view_records s.controller.last.views) → 0 < x.num
      → IsRestoring plan s r x.key x.num
  pub restored : (x : Record) → Among x kept → 0 < x.num → IsRestored plan s r x.key x.num
  -- counters, by party
  pub tellings : (c : ℕ) → c < plan.config.clients → IsToBeAsked s r c ⊎ HasAnswered s r c
  pub stores : r.stores ≡ count_by (stores_for r.first_job) s.bag
  -- tops
  pub settled : r.asked ≡ true → (x : Record) → Among x kept → IsAtServer plan s x.key x.num
  pub tops : (n top : ℕ) → slice_index_or r.tops n None ≡ Some top → (r.asked ≡ true) × (top_of (records_at s n) ≤ top)
  pub packet_tops : (m : Message) → Among m s.bag → IsTopRight s r m.packet
  -- each top that was asked for was heard, or its question or answer is on its way
  pub top_flights : r.asked ≡ true → (n : ℕ) → n < plan.config.servers
      → heard_top (slice_index_or r.tops n None) + count_by (tops_for r.number n) s.bag ≡ 1

pub record IsUnderWay (plan : PlanView) (kept : List Record) (s : State) (r : Round) : Type 0 where
  pub goes : InRound plan kept s r
  -- as long as the tops were not asked for, a client or a server has still to answer
  pub waits : asks_tops r ≡ false

-- ---- the whole

pub record Stops (plan : PlanView) (kept : List Record) (s : State) : Type 0 where
  pub differ : NumbersDiffer s
  pub arrive : NumbersArrive plan s
  pub absorbed : AbsorbedIsKept plan s
  pub newest : (m : Message) → Among m s.bag → IsNewest s m.packet
  pub answers : (m : Message) → Among m s.bag → IsKeptAnswer s m.packet
  pub of_answers : (c : ℕ) (r : Record) → Among r (client_at s c).preserved → IsOfAnswer plan s r
  pub carries : (m : Message) → Among m s.bag → Carried (IsGenuine plan s) m.packet
  pub preserved : (c : ℕ) → PreservesAbove s c
  pub servers : (n : ℕ) → ServerIs plan n (records_at s n)
  pub drawn : (m : Message) → Among m s.bag → IsDrawnJob s.controller m.packet
  pub round : (r : Round) → s.controller.round ≡ Some r → IsUnderWay plan kept s r

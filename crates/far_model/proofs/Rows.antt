-- What the rows of a party leave as it was, and what they send.
use Rattle.std.proofs.Common.{◌≡◌, ℕ, zero, suc, ◌+◌, ◌⊎◌, inl, inr, List, [], ◌∷◌, ◌++◌, refl, sym, subst, length, Bool, true, false, ◌<◌, ◌≤◌, arith}
use Rattle.std.specs.Prelude.{Option, None, Some, is_some, if◌then◌else◌}
use Rattle.far_base.specs.declared.packet.Message.{Message}
use Rattle.far_base.specs.declared.packet.Out.{Out}
use Rattle.far_base.specs.declared.packet.Packet.{Packet}
use Rattle.far_base.specs.declared.packet.Packet.TheVariants.{Hot, SnapRead, SnapPart, SnapSame, Release, TopAsk, Told, Ask}
use Rattle.far_base.specs.declared.party.Party.{Party}
use Rattle.far_base.specs.declared.party.Party.TheVariants.{Client, Switch, Server, Controller}
use Rattle.far_base.specs.declared.plan.Config.{Config}
use Rattle.far_base.specs.declared.record.Record.{Record}
use Rattle.far_model.specs.Clients.{tells, tells_each}
use Rattle.far_model.specs.Controller.{ControllerState, store_of, store_outs, stores_of, to_clients, to_servers, start_recovery, snapshot_stores}
use Rattle.far_model.specs.Events.{reply_goes_to, reply_message}
use Rattle.far_model.specs.Members.{Among, Each}
use Rattle.far_model.specs.Parties.{Turn, messages_from, to_party}
use Rattle.far_model.specs.Pass.{Passed, numbered, outs_of}
use Rattle.far_model.specs.Rounds.{Round}
use Rattle.far_model.specs.Snapshots.{Job, part_reads}
use Rattle.far_model.specs.Steps.{ChangeRow, ChangesFirst, ChangesOnly, PartRow, PartSame, PartShown, ReplyPassed, ReplyRaised, ReplyRow, ReplyTaken, TouchRow, GrowsHot, StaysCold}
use Rattle.far_model.specs.Steps.{PassRow, WriteHit, ReadReply, WriteReply, RemoveLatest, message}
use Rattle.far_model.specs.Steps.{JobRow, Gathers, Completes, RoundRow, Waits, AsksTops, SnapshotRow, Begun, PartCame, SameCame, RecoveryRow, ClientTold, RoundStored, TopTold}
use Rattle.far_model.specs.View.{SlotView, SwitchView}
use Rattle.far_model.proofs.Members.{among_append, among_map_from, each_among}

pub each_append : {A : Type 0} (P : A → Type 0) (xs ys : List A) → Each P xs → Each P ys → Each P (xs ++ ys)
each_append P [] ys h k = k
each_append P (x ∷ xs) ys h k = (h.0, each_append P xs ys h.1 k)

-- ---- the bag after a step

-- what stays in the bag, and what is sent
pub bag_sent : (Q : Message → Type 0) (old rest : List Message) (from : Party) (outs : List Out) → ((m : Message) → Among m rest → Among m old) → ((m : Message) → Among m old → Q m) → Each (λ (o : Out). Q (message from o.to o.packet)) outs
    → (m : Message) → Among m (rest ++ messages_from from outs) → Q m
bag_sent Q old rest from outs rests h new m a = go (among_append m rest (messages_from from outs) a)
  where
    go : Among m rest ⊎ Among m (messages_from from outs) → Q m
    go (inl b) = h m (rests m b)
    go (inr b) =
        let p = among_map_from (λ (o : Out). message from o.to o.packet) m outs b in
        subst Q (sym p.2) (each_among (λ (o : Out). Q (message from o.to o.packet)) p.0 outs new p.1)

pub bag_replied : (Q : Message → Type 0) (old rest : List Message) (n : ℕ) (reply : Option Packet) → ((m : Message) → Among m rest → Among m old) → ((m : Message) → Among m old → Q m) → ((q : Packet) → reply ≡ Some q → Q (message (Server n) (reply_goes_to q) q))
    → (m : Message) → Among m (rest ++ reply_message n reply) → Q m
bag_replied Q old rest n reply rests h new m a = go reply new (among_append m rest (reply_message n reply) a)
  where
    go : (o : Option Packet) → ((q : Packet) → o ≡ Some q → Q (message (Server n) (reply_goes_to q) q)) → Among m rest ⊎ Among m (reply_message n o) → Q m
    go o f (inl b) = h m (rests m b)
    go None f (inr b) = absurd b
    go (Some q) f (inr (inl e)) = subst Q (sym e) (f q refl)
    go (Some q) f (inr (inr b)) = absurd b

-- ---- what is sent, by a property of what leaves a party

module _ (P : Out → Type 0) where
  -- ---- the switch

  pub touch_sends : (v : SwitchView) (key : List ℕ) (o : Option Out) → TouchRow v key o → P (to_party Controller (Hot key)) → Each P (outs_of o)
  touch_sends v key o (StaysCold e) h = tt
  touch_sends v key o (GrowsHot e) h = (h, tt)

  pub part_is : (v : SwitchView) (i : ℕ) (q : Packet) → PartRow v i q → ((r : Option Record) → P (to_party Controller (SnapPart v.snap i r))) → P (to_party Controller (SnapSame v.snap i)) → P (to_party Controller q)
  part_is v i q (PartShown e) h k = h _
  part_is v i q (PartSame e) h k = k

  pub change_sends : (v : SwitchView) (i : ℕ) (slot : SlotView) (w : SwitchView) (o : Option Out) → ChangeRow v i slot w o → ((r : Option Record) → P (to_party Controller (SnapPart v.snap i r))) → P (to_party Controller (SnapSame v.snap i)) → Each P (outs_of o)
  change_sends v i slot w o (ChangesOnly e) h k = tt
  change_sends v i slot w o (ChangesFirst part e r) h k = (part_is v i part r h k, tt)

  pub reply_sends : (v : SwitchView) (tag : Option ℕ) (key : List ℕ) (num : ℕ) (body : Option (List ℕ)) (w : SwitchView) (o : Option Out) → ReplyRow v tag key num body w o
      → ((i : ℕ) (r : Option Record) → P (to_party Controller (SnapPart v.snap i r))) → ((i : ℕ) → P (to_party Controller (SnapSame v.snap i))) → Each P (outs_of o)
  reply_sends v tag key num body w o (ReplyPassed e) h k = tt
  reply_sends v tag key num body w o (ReplyTaken i w2 part e t c) h k = change_sends v i _ w2 part c (h i) (k i)
  reply_sends v tag key num body w o (ReplyRaised i e t) h k = tt

  -- ---- the clients and the controller

  pub tells_send : (round client : ℕ) (rs : List Record) → ((total : ℕ) (item : Option Record) → P (to_party Controller (Told round client total item))) → Each P (tells round client rs)
  tells_send round client [] h = (h 0 None, tt)
  tells_send round client (r ∷ rs) h = go (r ∷ rs)
    where
      go : (xs : List Record) → Each P (tells_each round client (length (r ∷ rs)) xs)
      go [] = tt
      go (x ∷ xs) = (h _ (Some x), go xs)

  pub clients_sent : (total n more : ℕ) (q : Packet) → ((c : ℕ) → c < total → P (to_party (Client c) q)) → n + more ≤ total → Each P (to_clients n more q)
  clients_sent total n zero q h le = tt
  clients_sent total n (suc more) q h le = (h n (omega arith), clients_sent total (suc n) more q h (omega arith))

  pub servers_sent : (total n more : ℕ) (q : Packet) → ((c : ℕ) → c < total → P (to_party (Server c) q)) → n + more ≤ total → Each P (to_servers n more q)
  servers_sent total n zero q h le = tt
  servers_sent total n (suc more) q h le = (h n (omega arith), servers_sent total (suc n) more q h (omega arith))

  module _ (config : Config) (c : ControllerState) where
    pub stores_sent : (job : ℕ) (rs : List Record) → ((j : ℕ) (item : Record) → P (store_of config j item)) → Each P (stores_of config job rs)
    stores_sent job [] h = tt
    stores_sent job (r ∷ rs) h = (h job r, stores_sent (suc job) rs h)

    pub recovery_start_sends : ((n : ℕ) → n < config.clients → P (to_party (Client n) (Ask c.next_round))) → ((j : ℕ) (item : Record) → P (store_of config j item)) → Each P (start_recovery config c).out
    recovery_start_sends a h = each_append P (to_clients 0 config.clients (Ask c.next_round)) (stores_of config c.next_job (snapshot_stores c)) (clients_sent config.clients 0 config.clients _ a (omega arith)) (stores_sent c.next_job (snapshot_stores c) h)

    reads_sent : (id i : ℕ) (parts : List (Option (Option Record))) → ((j : ℕ) → P (to_party Switch (SnapRead c.epoch id j))) → Each P (part_reads c.epoch id i parts)
    reads_sent id i [] h = tt
    reads_sent id i (part ∷ parts) h = go (is_some part) (reads_sent id (suc i) parts h)
      where
        go : (b : Bool) → Each P (part_reads c.epoch id (suc i) parts) → Each P (if b then part_reads c.epoch id (suc i) parts else to_party Switch (SnapRead c.epoch id i) ∷ part_reads c.epoch id (suc i) parts)
        go true more = more
        go false more = (h i, more)

    job_sends : (job : Job) (out : List Out) (t : Turn ControllerState) → JobRow config c job out t → Each P out → ((point n : ℕ) → n < config.clients → P (to_party (Client n) (Release point))) → Each P t.out
    job_sends job out t (Gathers e) h k = h
    job_sends job out t (Completes e) h k = clients_sent config.clients 0 config.clients _ (k _) (omega arith)

    pub snapshot_sends : (job : Job) (p : Packet) (t : Turn ControllerState) → SnapshotRow config c job p t → ((i : ℕ) → P (to_party Switch (SnapRead c.epoch job.id i))) → ((point n : ℕ) → n < config.clients → P (to_party (Client n) (Release point))) → Each P t.out
    snapshot_sends job p t (Begun point u e j) h k = job_sends _ _ t j (reads_sent job.id 0 job.parts h) k
    snapshot_sends job p t (PartCame i view u l e j) h k = job_sends _ _ t j tt k
    snapshot_sends job p t (SameCame i view u at l e j) h k = job_sends _ _ t j tt k

    round_sends : (d : ControllerState) (r : Round) (out : List Out) (t : Turn ControllerState) → RoundRow config d r out t → Each P out → ((n : ℕ) → n < config.servers → P (to_party (Server n) (TopAsk r.number))) → Each P t.out
    round_sends d r out t (Waits e) h k = h
    round_sends d r out t (AsksTops e) h k = each_append P out (to_servers 0 config.servers (TopAsk r.number)) h (servers_sent config.servers 0 config.servers (TopAsk r.number) k (omega arith))

    pub recovery_sends : (r : Round) (p : Packet) (t : Turn ControllerState) → RecoveryRow config c r p t → ((item : Record) → P (store_of config c.next_job item)) → ((n : ℕ) → n < config.servers → P (to_party (Server n) (TopAsk r.number))) → Each P t.out
    recovery_sends r p t (ClientTold caller total item u l e j) h k = round_sends _ _ _ t j (stores item) k
      where
        stores : (i : Option Record) → Each P (store_outs config c.next_job i)
        stores None = tt
        stores (Some x) = (h x, tt)
    recovery_sends r p t (RoundStored job u a b e j) h k = round_sends _ _ _ t j tt k
    recovery_sends r p t (TopTold server top a l e) h k = tt

-- ---- what passes leave

pub record PassLeaves (v w : SwitchView) : Type 0 where
  pub config : w.config ≡ v.config
  pub epoch : w.epoch ≡ v.epoch

change_leaves : (v : SwitchView) (i : ℕ) (slot : SlotView) (w : SwitchView) (o : Option Out) → ChangeRow v i slot w o → PassLeaves v w
change_leaves v i slot w o (ChangesOnly e) = record { config = refl; epoch = refl }
change_leaves v i slot w o (ChangesFirst part e r) = record { config = refl; epoch = refl }

reply_leaves : (v : SwitchView) (tag : Option ℕ) (key : List ℕ) (num : ℕ) (body : Option (List ℕ)) (w : SwitchView) (o : Option Out) → ReplyRow v tag key num body w o → PassLeaves v w
reply_leaves v tag key num body w o (ReplyTaken i w2 part e t c) = change_leaves v i _ w2 part c
reply_leaves v tag key num body w o _ = record { config = refl; epoch = refl }

pub pass_leaves : (v : SwitchView) (p : Packet) (q : Passed) → PassRow v p q → PassLeaves v q.view
pass_leaves v p q (WriteHit caller op key body i w part e c) = let l = change_leaves (numbered v) i _ w part c in record { config = l.config; epoch = l.epoch }
pass_leaves v p q (ReadReply caller op key tag num body w part r) = reply_leaves v _ key num body w part r
pass_leaves v p q (WriteReply caller op key num body w part r) = reply_leaves v _ key num body w part r
pass_leaves v p q (RemoveLatest epoch i tag latest num w part e m u l c) = change_leaves v i _ w part c
pass_leaves v p q _ = record { config = refl; epoch = refl }

-- ---- what snapshots and rounds leave

pub record SnapshotLeaves (c d : ControllerState) : Type 0 where
  pub epoch : d.epoch ≡ c.epoch
  pub slots : d.slots ≡ c.slots
  pub next_tag : d.next_tag ≡ c.next_tag
  pub hand : d.hand ≡ c.hand
  pub wants : d.wants ≡ c.wants
  pub eviction : d.eviction ≡ c.eviction
  pub round : d.round ≡ c.round
  pub next_job : d.next_job ≡ c.next_job
  pub next_id : d.next_id ≡ c.next_id
  pub next_round : d.next_round ≡ c.next_round

pub record RecoveryLeaves (c d : ControllerState) : Type 0 where
  pub epoch : d.epoch ≡ c.epoch
  pub slots : d.slots ≡ c.slots
  pub next_tag : d.next_tag ≡ c.next_tag
  pub hand : d.hand ≡ c.hand
  pub wants : d.wants ≡ c.wants
  pub eviction : d.eviction ≡ c.eviction
  pub job : d.job ≡ c.job
  pub last : d.last ≡ c.last
  pub last_epoch : d.last_epoch ≡ c.last_epoch
  pub next_id : d.next_id ≡ c.next_id
  pub next_round : d.next_round ≡ c.next_round

module _ (config : Config) (c : ControllerState) where
  job_leaves : (job : Job) (out : List Out) (t : Turn ControllerState) → JobRow config c job out t → SnapshotLeaves c t.state
  job_leaves job out t (Gathers e) = record { epoch = refl; slots = refl; next_tag = refl; hand = refl; wants = refl; eviction = refl; round = refl; next_job = refl; next_id = refl; next_round = refl }
  job_leaves job out t (Completes e) = record { epoch = refl; slots = refl; next_tag = refl; hand = refl; wants = refl; eviction = refl; round = refl; next_job = refl; next_id = refl; next_round = refl }

  pub snapshot_leaves : (job : Job) (p : Packet) (t : Turn ControllerState) → SnapshotRow config c job p t → SnapshotLeaves c t.state
  snapshot_leaves job p t (Begun point u e j) = job_leaves _ _ t j
  snapshot_leaves job p t (PartCame i view u l e j) = job_leaves _ _ t j
  snapshot_leaves job p t (SameCame i view u at l e j) = job_leaves _ _ t j

  round_leaves : (d : ControllerState) (r : Round) (out : List Out) (t : Turn ControllerState) → RoundRow config d r out t → RecoveryLeaves d t.state
  round_leaves d r out t (Waits e) = record { epoch = refl; slots = refl; next_tag = refl; hand = refl; wants = refl; eviction = refl; job = refl; last = refl; last_epoch = refl; next_id = refl; next_round = refl }
  round_leaves d r out t (AsksTops e) = record { epoch = refl; slots = refl; next_tag = refl; hand = refl; wants = refl; eviction = refl; job = refl; last = refl; last_epoch = refl; next_id = refl; next_round = refl }

  pub recovery_leaves : (r : Round) (p : Packet) (t : Turn ControllerState) → RecoveryRow config c r p t → RecoveryLeaves c t.state
  recovery_leaves r p t (ClientTold caller total item u l e j) =
      let k = round_leaves _ _ _ t j in
      record { epoch = k.epoch; slots = k.slots; next_tag = k.next_tag; hand = k.hand; wants = k.wants; eviction = k.eviction; job = k.job; last = k.last; last_epoch = k.last_epoch; next_id = k.next_id; next_round = k.next_round }
  recovery_leaves r p t (RoundStored job u a b e j) = round_leaves _ _ _ t j
  recovery_leaves r p t (TopTold server top a l e) = record { epoch = refl; slots = refl; next_tag = refl; hand = refl; wants = refl; eviction = refl; job = refl; last = refl; last_epoch = refl; next_id = refl; next_round = refl }

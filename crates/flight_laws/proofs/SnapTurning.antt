-- Turns of clients and servers, and turns of the controller that have nothing to do with snapshots.
use Rattle.std.proofs.Common.{◌≡◌, ℕ, zero, suc, ◌+◌, ◌-◌, ◌<◌, ◌≤◌, ◌⊎◌, inl, inr, Bool, true, false, List, [], ◌∷◌, ◌++◌, length, get_or, refl, ap, ◌∙◌, subst, arith, ltb-true}
use Rattle.std.specs.Prelude.{Option, Some, None, if◌then◌else◌, ◌&&◌, not, nat_eq, nat_lt, nat_le, is_some, filter, max}
use Rattle.far_base.specs.PlanView.{PlanView}
use Rattle.far_base.specs.declared.packet.Message.{Message}
use Rattle.far_base.specs.declared.packet.Out.{Out}
use Rattle.far_base.specs.declared.packet.Packet.{Packet}
use Rattle.far_base.specs.declared.packet.Packet.TheVariants.{GetReq, WriteReq, GetFwd, WriteFwd, GetRep, WriteRep, GetAns, WriteAns, Hot, AdmitAck, PeekAns, RemoveAns, SnapBegun, SnapPart, Store, Stored, Release, Ask, Told, TopAsk, TopIs, SnapSame}
use Rattle.far_base.specs.declared.party.Party.TheVariants.{Client}
use Rattle.far_base.specs.declared.plan.Config.{Config}
use Rattle.far_base.specs.declared.record.Record.{Record}
use Rattle.far_base.specs.declared.slot_state.Due.TheVariants.{Peeked, Removed}
use Rattle.far_model.specs.Clients.{ClientState, client_takes, closed, tells, tells_each, answered_record, line_of}
use Rattle.far_model.specs.Controller.{ControllerState, wanted, first_want_dropped, with_state, acknowledged, drop_want_if, evicts_on, peek_answered, removal_answered, store_answered, round_stored, round_turn, client_told, told_round, store_outs, top_told, to_servers, tick, tick_wants, tick_want, tick_free, tick_room, makes_room, evicts, evict_held, evict_key, controller_takes}
use Rattle.far_model.specs.Events.{client_turn, server_turn, reply_message, next_sent}
use Rattle.far_model.specs.Evictions.{Eviction, Next, Send, Store as StoreNext, Done, Kept, after_peek, after_removal, after_store, waits_for, waits_job, is_admitting, state_at, first_place, has_key, holds_key, is_free, victim, hand_after, removing, storing}
use Rattle.far_model.specs.KeyedRecords.{put_record}
use Rattle.far_model.specs.Log.{is_read, same_key}
use Rattle.far_model.specs.Members.{Among, Each}
use Rattle.far_model.specs.Parties.{Turn, idle}
use Rattle.far_invariants.specs.Past.{SnapshotStart}
use Rattle.far_model.specs.Replies.{IsReplyTo}
use Rattle.far_model.specs.Rounds.{Round, asks_tops, has_told, telling_at}
use Rattle.far_model.specs.Servers.{server_reply}
use Rattle.far_model.specs.State.{State, client_at, nobody}
use Rattle.far_model.proofs.Members.{among_append_left}
use Rattle.far_invariants.specs.Snapshots.{gathering, PacketStands, SnapshotsStand}
use Rattle.flight_laws.proofs.SnapBasics.{both, by_test, by_case, set_cases}
use Rattle.flight_laws.proofs.SnapFrame.{is_foreign, IsForeignOut, IsRest, news_in, news_of, count_in, count_of, foreign_count, IsPlainNote, absorbs_plain, servers_set, quiet_stands}
use Rattle.flight_laws.proofs.SnapPasses.{each_append}
use Rattle.flight_laws.proofs.SnapGathering.{IsAside}

-- ---- clients

among_put : (x r : Record) (rs : List Record) → Among x (put_record r rs) → (x ≡ r) ⊎ Among x rs
among_put x r [] (inl e) = inl e
among_put x r [] (inr a) = absurd a
among_put x r (y ∷ ys) a = go (among_put x r ys) (same_key y.key r.key) a
  where
    go : (Among x (put_record r ys) → (x ≡ r) ⊎ Among x ys) → (b : Bool) → Among x (if b then r ∷ ys else y ∷ put_record r ys) → (x ≡ r) ⊎ Among x (y ∷ ys)
    go f true (inl e) = inl e
    go f true (inr a) = inr (inr a)
    go f false (inl e) = inr (inl e)
    go f false (inr a) = further (f a)
      where
        further : (x ≡ r) ⊎ Among x ys → (x ≡ r) ⊎ Among x (y ∷ ys)
        further (inl e) = inl e
        further (inr b) = inr (inr b)

pub among_filter : (p : Record → Bool) (x : Record) (xs : List Record) → Among x (filter p xs) → p x ≡ true
among_filter p x [] a = absurd a
among_filter p x (y ∷ ys) a = go (among_filter p x ys) (p y) refl a
  where
    go : (Among x (filter p ys) → p x ≡ true) → (b : Bool) → p y ≡ b → Among x (if b then y ∷ filter p ys else filter p ys) → p x ≡ true
    go f true e (inl same) = ap p same ∙ e
    go f true e (inr a) = f a
    go f false e a = f a

tells_foreign : (round client total : ℕ) (rs : List Record) → Each IsForeignOut (tells_each round client total rs)
tells_foreign round client total [] = tt
tells_foreign round client total (r ∷ rs) = (refl, tells_foreign round client total rs)

pub all_told_foreign : (round client : ℕ) (rs : List Record) → Each IsForeignOut (tells round client rs)
all_told_foreign round client [] = (refl, tt)
all_told_foreign round client (r ∷ rs) = tells_foreign round client (length (r ∷ rs)) (r ∷ rs)

-- a client that keeps to its released point
pub record IsClient (tells : Bool) (c : ClientState) (point : ℕ) : Type 0 where
  pub released : tells ≡ true → c.released ≤ point
  pub preserved : (r : Record) → Among r c.preserved → c.released < r.num

module _ {tells : Bool} (plan : PlanView) (s : State) (starts : List SnapshotStart) (h : SnapshotsStand tells plan s starts) (rest : List Message) (r : IsRest s.bag rest) (c : ℕ) where
  old_client : (d : ℕ) → IsClient tells (client_at s d) s.controller.last.point
  old_client d = record { released = (h.clients d).released; preserved = (h.clients d).preserved }

  client_stands : (t : Turn ClientState) → IsClient tells t.state s.controller.last.point → Each IsForeignOut t.out → Each IsPlainNote t.notes → SnapshotsStand tells plan (client_turn s c rest t) starts
  client_stands t new out notes = quiet_stands plan s (client_turn s c rest t) starts (record {
    running = refl;
    gathered = refl;
    switch = refl;
    bag = news_in s.bag rest (Client c) t.out r out;
    count = λ epoch. count_in s.bag rest (Client c) t.out epoch r (foreign_count epoch t.out out);
    log = λ l b. among_append_left l s.log _ b;
    absorbed = absorbs_plain plan s t.notes notes;
    servers = λ key num at. at;
    clients = λ d. let k = set_cases (λ (w : ClientState). IsClient tells w s.controller.last.point) s.clients c d t.state nobody (λ e. new) (λ ne. old_client d) (λ past. old_client d) in record { released = k.released; preserved = k.preserved };
  }) h

  pub taken_stands : (packet : Packet) → PacketStands tells s.running (gathering s.controller) starts packet → SnapshotsStand tells plan (client_turn s c rest (client_takes plan.ops c (client_at s c) packet)) starts
  taken_stands (GetAns caller op key num body near) p = client_stands (client_takes plan.ops c (client_at s c) (GetAns caller op key num body near)) (record { released = (old_client c).released; preserved = (old_client c).preserved }) tt (tt, tt)
  taken_stands (WriteAns caller op key num kept) p = client_stands (client_takes plan.ops c (client_at s c) (WriteAns caller op key num kept))
      (by_case (λ (w : ClientState). IsClient tells w s.controller.last.point) (kept && nat_lt (client_at s c).released num)
      (record (closed (client_at s c)) { preserved = put_record (answered_record plan.ops op num) (client_at s c).preserved }) (closed (client_at s c))
      (λ test. record { released = (old_client c).released; preserved = λ q a. put q (ltb-true _ _ (both kept _ test).1) (among_put q (answered_record plan.ops op num) (client_at s c).preserved a) })
      (λ other. record { released = (old_client c).released; preserved = (old_client c).preserved }))
      tt (tt, tt)
    where
      put : (q : Record) → (client_at s c).released < num → (q ≡ answered_record plan.ops op num) ⊎ Among q (client_at s c).preserved → (client_at s c).released < q.num
      put q less (inl e) = let n : q.num ≡ num = ap (λ (w : Record). w.num) e in omega (arith, n, less)
      put q less (inr a) = (old_client c).preserved q a
  taken_stands (Release point) p = client_stands (client_takes plan.ops c (client_at s c) (Release point)) (record {
    released = λ told. let a = (old_client c).released told in let q = p told in omega (arith, a, q);
    preserved = λ q a. ltb-true _ _ (among_filter (λ (w : Record). nat_lt (max (client_at s c).released point) w.num) q (client_at s c).preserved a);
  }) tt tt
  taken_stands (Ask round) p = client_stands (client_takes plan.ops c (client_at s c) (Ask round)) (old_client c) (all_told_foreign round c (client_at s c).preserved) tt
  taken_stands _ p = client_stands (idle (client_at s c)) (old_client c) tt tt

  pub sent_stands : (left : List ℕ) → SnapshotsStand tells plan (client_turn s c rest (next_sent plan.ops c (client_at s c) left)) starts
  sent_stands [] = client_stands (idle (client_at s c)) (old_client c) tt tt
  sent_stands (op ∷ left) = client_stands (next_sent plan.ops c (client_at s c) (op ∷ left)) (record { released = (old_client c).released; preserved = (old_client c).preserved })
      (by_test (λ p. is_foreign p ≡ true) (is_read (line_of plan.ops op).op) (GetReq c op (line_of plan.ops op).key) (WriteReq c op (line_of plan.ops op).key (line_of plan.ops op).body) refl refl, tt) (tt, tt)

-- ---- servers

one : (n : ℕ) (reply : Option Packet) (p : Packet) → reply ≡ Some p → is_foreign p ≡ true → (m : Message) → Among m (reply_message n reply) → is_foreign m.packet ≡ true
one n reply p e f m a = go (subst (λ o. Among m (reply_message n o)) e a)
  where
    go : Among m (reply_message n (Some p)) → is_foreign m.packet ≡ true
    go (inl same) = ap (λ (w : Message). is_foreign w.packet) same ∙ f
    go (inr b) = absurd b

pub reply_foreign : (n : ℕ) (p : Packet) (reply : Option Packet) → IsReplyTo n p reply → (m : Message) → Among m (reply_message n reply) → is_foreign m.packet ≡ true
reply_foreign n (GetFwd caller op key tag) reply h m a = one n reply (GetRep caller op key tag h.num h.body) h.is refl m a
reply_foreign n (WriteFwd caller op key num body) reply h m a = one n reply (WriteRep caller op key h.num h.body) h.is refl m a
reply_foreign n (Store job item) reply h m a = one n reply (Stored job) h refl m a
reply_foreign n (TopAsk round) reply h m a = one n reply (TopIs round n h.top) h.is refl m a
reply_foreign n _ reply h m a = absurd (subst (λ o. Among m (reply_message n o)) h a)

-- the rule of a server answers in kind
pub replies_in_kind : (n : ℕ) (records : List Record) (p : Packet) → IsReplyTo n p (server_reply n records p)
replies_in_kind n records (GetFwd caller op key tag) = record { num = _; body = _; is = refl }
replies_in_kind n records (WriteFwd caller op key num body) = record { num = _; body = _; is = refl }
replies_in_kind n records (Store job item) = refl
replies_in_kind n records (TopAsk round) = record { top = _; is = refl }
replies_in_kind n records _ = refl

module _ {tells : Bool} where
  pub served_stands : (plan : PlanView) (s : State) (starts : List SnapshotStart) → SnapshotsStand tells plan s starts → (rest : List Message) → IsRest s.bag rest → (n : ℕ) (packet : Packet) (reply : Option Packet) → IsReplyTo n packet reply
      → SnapshotsStand tells plan (server_turn s n rest packet reply) starts
  served_stands plan s starts h rest r n packet reply kind = quiet_stands plan s (server_turn s n rest packet reply) starts (record {
    running = refl;
    gathered = refl;
    switch = refl;
    bag = news_of s.bag rest (reply_message n reply) r (reply_foreign n packet reply kind);
    count = λ epoch. count_of s.bag rest (reply_message n reply) epoch r (reply_foreign n packet reply kind);
    log = λ l b. among_append_left l s.log _ b;
    absorbed = absorbs_plain plan s [] tt;
    servers = servers_set plan s (server_turn s n rest packet reply) n packet refl;
    clients = λ c. record { released = (h.clients c).released; preserved = (h.clients c).preserved };
  }) h

-- ---- the controller

idle_aside : (c d : ControllerState) → gathering d ≡ gathering c → IsAside c (idle d)
idle_aside c d e = record { same = e; out = tt; notes = tt; silent = tt }

pub wanted_aside : (c : ControllerState) (key : List ℕ) → IsAside c (idle (wanted key c))
wanted_aside c key = by_test (λ d. IsAside c (idle d)) (is_some c.round) c (record c { wants = c.wants ++ key ∷ [] }) (idle_aside c c refl) (idle_aside c (record c { wants = c.wants ++ key ∷ [] }) refl)

acked_aside : (c : ControllerState) (i tag : ℕ) → IsAside c (acknowledged c i tag)
acked_aside c i tag = by_test (IsAside c) (is_admitting tag (state_at c.slots i)) _ (idle c) (record { same = refl; out = tt; notes = (tt, tt); silent = (tt, tt) }) (idle_aside c c refl)

abbrev pub IsForeignNext : Next → Type 0
IsForeignNext (Send packet) = is_foreign packet ≡ true
IsForeignNext (StoreNext item) = Unit {0}
IsForeignNext (Done tries) = Unit {0}
IsForeignNext (Kept tries last) = Unit {0}

evicts_on_aside : (config : Config) (c : ControllerState) (e : Eviction) (n : Next) → IsForeignNext n → IsAside c (evicts_on config c e n)
evicts_on_aside config c e (Send packet) h = record { same = refl; out = (h, tt); notes = tt; silent = tt }
evicts_on_aside config c e (StoreNext item) h = record { same = refl; out = (refl, tt); notes = tt; silent = tt }
evicts_on_aside config c e (Done tries) h = record { same = refl; out = tt; notes = (tt, tt); silent = (tt, tt) }
evicts_on_aside config c e (Kept tries last) h = record { same = dropped e.for_want; out = tt; notes = (tt, tt); silent = (tt, tt) }
  where
    dropped : (b : Bool) → gathering (drop_want_if b (record (with_state c e.slot (Rattle.far_base.specs.declared.slot_state.SlotState.TheVariants.Held e.key e.tag)) { eviction = None })) ≡ gathering c
    dropped true = refl
    dropped false = refl

peeked_aside : (config : Config) (c : ControllerState) (i tag : ℕ) (latest : Bool) (num : ℕ) (body : Option (List ℕ)) (o : Option Eviction) → IsAside c (peek_answered config c i tag latest num body o)
peeked_aside config c i tag latest num body None = idle_aside c c refl
peeked_aside config c i tag latest num body (Some e) = by_test (IsAside c) (waits_for Peeked i tag e) _ (idle c)
    (evicts_on_aside config c e (after_peek e latest num body) (by_test IsForeignNext latest _ _ tt refl)) (idle_aside c c refl)

removal_aside : (config : Config) (c : ControllerState) (i tag : ℕ) (done : Bool) (num : ℕ) (body : Option (List ℕ)) (o : Option Eviction) → IsAside c (removal_answered config c i tag done num body o)
removal_aside config c i tag done num body None = idle_aside c c refl
removal_aside config c i tag done num body (Some e) = by_test (IsAside c) (waits_for Removed i tag e) _ (idle c)
    (evicts_on_aside config c e (after_removal e done num body) (by_test IsForeignNext done _ _ tt (by_test IsForeignNext (nat_eq e.tries Rattle.far_model.specs.Evictions.TRIES) _ _ tt tt))) (idle_aside c c refl)

tops_foreign : (n more round : ℕ) → Each IsForeignOut (to_servers n more (TopAsk round))
tops_foreign n zero round = tt
tops_foreign n (suc more) round = (refl, tops_foreign (suc n) more round)

round_aside : (config : Config) (c d : ControllerState) (round : Round) (out : List Out) → gathering d ≡ gathering c → Each IsForeignOut out → IsAside c (round_turn config d round out)
round_aside config c d round out e f = by_test (IsAside c) (asks_tops round) _ _
    (record { same = e; out = each_append IsForeignOut out (to_servers 0 config.servers (TopAsk round.number)) f (tops_foreign 0 config.servers round.number); notes = tt; silent = tt })
    (record { same = e; out = f; notes = tt; silent = tt })

round_stored_aside : (config : Config) (c : ControllerState) (job : ℕ) (o : Option Round) → IsAside c (round_stored config c job o)
round_stored_aside config c job None = idle_aside c c refl
round_stored_aside config c job (Some round) = by_test (IsAside c) (nat_le round.first_job job && (nat_lt job c.next_job && not (nat_eq round.stores 0))) _ (idle c) (round_aside config c c (record round { stores = round.stores - 1 }) [] refl tt) (idle_aside c c refl)

stored_aside : (config : Config) (c : ControllerState) (job : ℕ) (o : Option Eviction) → IsAside c (store_answered config c job o)
stored_aside config c job None = round_stored_aside config c job c.round
stored_aside config c job (Some e) = by_test (IsAside c) (waits_job job e) _ _ (record { same = refl; out = (refl, tt); notes = tt; silent = tt }) (round_stored_aside config c job c.round)

store_foreign : (config : Config) (job : ℕ) (o : Option Record) → Each IsForeignOut (store_outs config job o)
store_foreign config job None = tt
store_foreign config job (Some item) = (refl, tt)

told_aside : (config : Config) (c : ControllerState) (number caller total : ℕ) (item : Option Record) (o : Option Round) → IsAside c (client_told config c number caller total item o)
told_aside config c number caller total item None = idle_aside c c refl
told_aside config c number caller total item (Some round) = by_test (IsAside c) (nat_eq round.number number && (nat_lt caller (length round.told) && not (has_told (telling_at round caller)))) _ (idle c)
    (round_aside config c (record c { next_job = c.next_job + length (store_outs config c.next_job item) }) (told_round round caller total (length (store_outs config c.next_job item))) (store_outs config c.next_job item) refl (store_foreign config c.next_job item)) (idle_aside c c refl)

top_aside : (config : Config) (c : ControllerState) (number server top : ℕ) (o : Option Round) → IsAside c (top_told config c number server top o)
top_aside config c number server top None = idle_aside c c refl
top_aside config c number server top (Some round) = by_test (IsAside c) (nat_eq round.number number && (round.asked && (nat_lt server (length round.tops) && not (is_some (get_or round.tops server None))))) _ (idle c)
    (record { same = refl; out = tt; notes = tt; silent = tt }) (idle_aside c c refl)

-- what the controller gathers of a snapshot
abbrev pub is_gathered : Packet → Bool
is_gathered (SnapBegun id point) = true
is_gathered (SnapPart id i view) = true
is_gathered (SnapSame id i) = true
is_gathered _ = false

-- every packet of another kind
pub takes_aside : (config : Config) (c : ControllerState) (p : Packet) → is_gathered p ≡ false → IsAside c (controller_takes config c p)
takes_aside config c (SnapBegun id point) f = absurd cc
takes_aside config c (SnapPart id i view) f = absurd cc
takes_aside config c (SnapSame id i) f = absurd cc
takes_aside config c (Hot key) f = wanted_aside c key
takes_aside config c (AdmitAck i tag) f = acked_aside c i tag
takes_aside config c (PeekAns i tag latest num body) f = peeked_aside config c i tag latest num body c.eviction
takes_aside config c (RemoveAns i tag done latest num body) f = removal_aside config c i tag done num body c.eviction
takes_aside config c (Stored job) f = stored_aside config c job c.eviction
takes_aside config c (Told number caller total item) f = told_aside config c number caller total item c.round
takes_aside config c (TopIs number server top) f = top_aside config c number server top c.round
takes_aside config c _ f = idle_aside c c refl

-- ---- ticks, and the order to evict

evicts_aside : (c d : ControllerState) (for_want : Bool) (i : ℕ) → gathering d ≡ gathering c → IsAside c (evicts d for_want i)
evicts_aside c d for_want i e = record { same = e; out = (refl, tt); notes = tt; silent = tt }

held_aside : (c : ControllerState) (o : Option ℕ) → IsAside c (evict_held c o)
held_aside c None = idle_aside c c refl
held_aside c (Some i) = evicts_aside c c false i refl

pub evict_aside : (c : ControllerState) (key : List ℕ) → IsAside c (evict_key key c)
evict_aside c key = held_aside c (first_place (holds_key key) c.slots)

abbrev pub IsAsideIf : ControllerState → Option (Turn ControllerState) → Type 0
IsAsideIf c None = Unit {0}
IsAsideIf c (Some t) = IsAside c t

room_aside : (c : ControllerState) (o : Option ℕ) → IsAsideIf c (tick_room c o)
room_aside c None = tt
room_aside c (Some i) = by_test (IsAsideIf c) (is_some c.eviction) None (Some (makes_room c i)) tt (evicts_aside c (record c { hand = hand_after i c.slots }) true i refl)

free_aside : (c : ControllerState) (key : List ℕ) (o : Option ℕ) → IsAsideIf c (tick_free c key o)
free_aside c key None = room_aside c (victim c.hand c.slots)
free_aside c key (Some i) = record { same = refl; out = (refl, tt); notes = tt; silent = tt }

want_aside : (c : ControllerState) (key : List ℕ) (o : Option ℕ) → IsAsideIf c (tick_want c key o)
want_aside c key (Some i) = idle_aside c (first_want_dropped c) refl
want_aside c key None = free_aside c key (first_place is_free c.slots)

wants_aside : (c : ControllerState) (wants : List (List ℕ)) → IsAsideIf c (tick_wants c wants)
wants_aside c [] = tt
wants_aside c (key ∷ keys) = want_aside c key (first_place (has_key key) c.slots)

tick_all_aside : (c : ControllerState) → IsAsideIf c (tick c)
tick_all_aside c = by_test (IsAsideIf c) (is_some c.round) None (tick_wants c c.wants) tt (wants_aside c c.wants)

pub tick_aside : (c : ControllerState) (t : Turn ControllerState) → tick c ≡ Some t → IsAside c t
tick_aside c t e = subst (IsAsideIf c) e (tick_all_aside c)

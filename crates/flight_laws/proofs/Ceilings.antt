-- Servers tell no number above the greatest that was put, so every number that a run holds was drawn.
use Rattle.std.proofs.Common.{◌≡◌, ℕ, zero, suc, ◌+◌, ◌<◌, ◌≤◌, ◌⊎◌, inl, inr, max, List, [], ◌∷◌, get_or, set, refl, ap, subst, arith, le_trans}
use Rattle.std.specs.Prelude.{Option, Some, None, slice_get}
use Rattle.std.specs.List.{remove}
use Rattle.far_base.specs.PlanView.{PlanView}
use Rattle.far_base.specs.declared.event.Event.{Event}
use Rattle.far_base.specs.declared.event.Event.TheVariants.{Send, Deliver, Tick, Recover, Restart, Order as OrderOf}
use Rattle.far_base.specs.declared.packet.Message.{Message}
use Rattle.far_base.specs.declared.packet.Packet.{Packet}
use Rattle.far_base.specs.declared.packet.Packet.TheVariants.{GetFwd, WriteFwd, Store, TopAsk}
use Rattle.far_base.specs.declared.party.Party.{Party}
use Rattle.far_base.specs.declared.party.Party.TheVariants.{Client, Switch, Server, Controller}
use Rattle.far_base.specs.declared.plan.Order.{Order}
use Rattle.far_base.specs.declared.plan.Order.TheVariants.{Admit as AdmitOrder, Evict as EvictOrder, Snap as SnapOrder, Stop as StopOrder, StopAt as StopAtOrder}
use Rattle.far_base.specs.declared.record.Record.{Record}
use Rattle.far_model.specs.Controller.{ControllerState, ready, tick}
use Rattle.far_model.specs.Events.{Keeping, all_listed, all_records, delivers, does_order, handled, happens, keeping_of, reply_at, reply_to, restarts, ticks}
use Rattle.far_model.specs.KeyedRecords.{found}
use Rattle.far_model.specs.Members.{Among}
use Rattle.far_model.specs.Parties.{Turn}
use Rattle.far_model.specs.Runs.{IsRun}
use Rattle.far_model.specs.Servers.{record_of, server_keeps, server_reply, top_of, stored, put_number}
use Rattle.far_model.specs.State.{State, opening, records_at}
use Rattle.far_model.proofs.Members.{among_append, each_from_among}
use Rattle.flight_laws.proofs.Lists.{get_or-replicate_default}
use Rattle.flight_laws.proofs.InKind.{answers_in_kind}
use Rattle.far_invariants.proofs.Records.{by_key_among, found_below, kept_among}
use Rattle.far_model.specs.Replies.{kept_events, IsRunWith, ceiling_at, ceiling_by, ceiling_after, ReplyWithin, AnswersWithin, AnswersMessageWithin, RepliesWithin, KeepersAnswer}

-- no server has a number above the ceiling
abbrev pub ServersWithin : ℕ → State → Type 0
ServersWithin ceiling s = (n : ℕ) (r : Record) → Among r (records_at s n) → r.num ≤ ceiling

top_within : (ceiling : ℕ) (rs : List Record) → ((r : Record) → Among r rs → r.num ≤ ceiling) → top_of rs ≤ ceiling
top_within ceiling [] h = omega arith
top_within ceiling (r ∷ rs) h = let a = h r (inl refl) in let b = top_within ceiling rs (λ x k. h x (inr k)) in omega (arith, a, b)

found_within : (ceiling : ℕ) (rs : List Record) (key : List ℕ) → ((r : Record) → Among r rs → r.num ≤ ceiling) → (found rs key).num ≤ ceiling
found_within ceiling rs key h = le_trans (found_below rs key) (top_within ceiling rs h)

kept_within : (ceiling : ℕ) (rs : List Record) (r : Record) → ((x : Record) → Among x rs → x.num ≤ ceiling) → (x : Record) → Among x (stored rs r) → x.num ≤ max ceiling r.num
kept_within ceiling rs r h x a = go (kept_among rs r x a)
  where
    go : ((x ≡ r) × (0 < r.num)) ⊎ Among x rs → x.num ≤ max ceiling r.num
    go (inl p) = let e = ap (λ (w : Record). w.num) p.0 in omega (arith, e)
    go (inr b) = let k = h x b in omega (arith, k)

keeps_within : (ceiling : ℕ) (rs : List Record) (p : Packet) → ((x : Record) → Among x rs → x.num ≤ ceiling) → (x : Record) → Among x (server_keeps rs p) → x.num ≤ max ceiling (put_number p)
keeps_within ceiling rs (WriteFwd caller op key num body) h x a = kept_within ceiling rs (record_of key num body) h x a
keeps_within ceiling rs (Store job item) h x a = kept_within ceiling rs item h x a
keeps_within ceiling rs p h x a = let k = h x a in omega (arith, k)

reply_within : (ceiling n : ℕ) (rs : List Record) (p : Packet) → ((x : Record) → Among x rs → x.num ≤ ceiling) → ReplyWithin (max ceiling (put_number p)) (server_reply n rs p)
reply_within ceiling n rs (GetFwd caller op key tag) h = let k = found_within ceiling rs key h in omega (arith, k)
reply_within ceiling n rs (WriteFwd caller op key num body) h = found_within (max ceiling num) (stored rs (record_of key num body)) key (kept_within ceiling rs (record_of key num body) h)
reply_within ceiling n rs (Store job item) h = omega arith
reply_within ceiling n rs (TopAsk round) h = let k = top_within ceiling rs h in omega (arith, k)
reply_within ceiling n rs _ h = tt

all_within : (ceiling : ℕ) (servers : List (List Record)) → ((n : ℕ) (r : Record) → Among r (get_or servers n []) → r.num ≤ ceiling) → (r : Record) → Among r (all_records servers) → r.num ≤ ceiling
all_within ceiling [] h r a = absurd a
all_within ceiling (rs ∷ servers) h r a = go (λ b. all_within ceiling servers (λ n x c. h (suc n) x c) r b) (among_append r rs (all_records servers) a)
  where
    go : (Among r (all_records servers) → r.num ≤ ceiling) → Among r rs ⊎ Among r (all_records servers) → r.num ≤ ceiling
    go more (inl b) = h 0 r b
    go more (inr b) = more b

-- the answers of servers are within
answers_within : (ceiling : ℕ) (s : State) (e : Event) → ServersWithin ceiling s → KeepersAnswer ceiling s e (keeping_of s e)
answers_within ceiling s e h = record { kind = answers_in_kind s e; within = within e }
  where
    by_party : (to : Party) (p : Packet) → AnswersWithin (ceiling_at to p ceiling) to (reply_at s to p)
    by_party (Client c) p = tt
    by_party Switch p = tt
    by_party (Server n) p = reply_within ceiling n (records_at s n) p (h n)
    by_party Controller p = tt

    by_message : (o : Option Message) → AnswersMessageWithin (ceiling_by o ceiling) o (reply_to s o)
    by_message None = tt
    by_message (Some m) = by_party m.to m.packet

    within : (e : Event) → RepliesWithin (ceiling_after s e ceiling) s e (keeping_of s e)
    within (Deliver i) = by_message (slice_get s.bag i)
    within Restart = each_from_among (λ (r : Record). r.num ≤ ceiling) (all_listed s.servers) (λ r a. all_within ceiling s.servers h r (by_key_among r (all_records s.servers) a))
    within (Send c) = tt
    within Tick = tt
    within Recover = tt
    within (OrderOf j) = tt

-- the servers after an event
set_within : (ceiling more : ℕ) (servers : List (List Record)) (i : ℕ) (rs : List Record) → ceiling ≤ more → ((x : Record) → Among x rs → x.num ≤ more) → ((n : ℕ) (r : Record) → Among r (get_or servers n []) → r.num ≤ ceiling) → (n : ℕ) (r : Record) → Among r (get_or (set servers i rs) n []) → r.num ≤ more
set_within ceiling more [] zero rs b new h n r a = le_trans (h n r a) b
set_within ceiling more [] (suc i) rs b new h n r a = le_trans (h n r a) b
set_within ceiling more (x ∷ xs) zero rs b new h zero r a = new r a
set_within ceiling more (x ∷ xs) zero rs b new h (suc n) r a = le_trans (h (suc n) r a) b
set_within ceiling more (x ∷ xs) (suc i) rs b new h zero r a = le_trans (h 0 r a) b
set_within ceiling more (x ∷ xs) (suc i) rs b new h (suc n) r a = set_within ceiling more xs i rs b new (λ m y c. h (suc m) y c) n r a

handled_within : (plan : PlanView) (k : Keeping) (ceiling : ℕ) (s : State) (rest : List Message) (to : Party) (p : Packet) → ServersWithin ceiling s → ServersWithin (ceiling_at to p ceiling) (handled plan k s rest to p)
handled_within plan k ceiling s rest (Client c) p h = h
handled_within plan k ceiling s rest Switch p h = h
handled_within plan k ceiling s rest (Server n) p h = set_within ceiling (max ceiling (put_number p)) s.servers n (server_keeps (records_at s n) p) (omega arith) (keeps_within ceiling (records_at s n) p (h n)) h
handled_within plan k ceiling s rest Controller p h = h

servers_stay : (plan : PlanView) (ceiling : ℕ) (s : State) (e : Event) → ServersWithin ceiling s → ServersWithin (ceiling_after s e ceiling) (happens plan s e)
servers_stay plan ceiling s (Send c) h = h
servers_stay plan ceiling s (Deliver i) h = go (slice_get s.bag i)
  where
    go : (o : Option Message) → ServersWithin (ceiling_by o ceiling) (delivers plan (record { reply = reply_to s o; records = all_listed s.servers }) s i o)
    go None = h
    go (Some m) = handled_within plan (record { reply = reply_at s m.to m.packet; records = all_listed s.servers }) ceiling s (remove s.bag i) m.to m.packet h
servers_stay plan ceiling s Tick h = go (tick s.controller)
  where
    go : (o : Option (Turn ControllerState)) → ServersWithin ceiling (ticks s o)
    go None = h
    go (Some t) = h
servers_stay plan ceiling s Recover h = h
servers_stay plan ceiling s Restart h = go (ready s.controller)
  where
    go : (o : Option ℕ) → ServersWithin ceiling (restarts plan (keeping_of s Restart) s o)
    go None = h
    go (Some counter) = h
servers_stay plan ceiling s (OrderOf j) h = go (slice_get plan.orders j)
  where
    go : (o : Option Order) → ServersWithin ceiling (record (does_order plan s o) { done = s.done + 1 })
    go None = h
    go (Some (AdmitOrder step key)) = h
    go (Some (EvictOrder step key)) = h
    go (Some (SnapOrder step)) = h
    go (Some (StopOrder step)) = h
    go (Some (StopAtOrder kind times)) = h

pub opening_within_none : (plan : PlanView) → ServersWithin 0 (opening plan)
opening_within_none plan n r a = absurd (subst (λ l. Among r l) (get_or-replicate_default plan.config.servers n []) a)

-- a run is one with keepers that answer by the rule of a server
pub kept_is_run : (plan : PlanView) (ceiling : ℕ) (s : State) (events : List Event) → ServersWithin ceiling s → IsRun plan s events → IsRunWith plan ceiling s (kept_events plan s events)
kept_is_run plan ceiling s [] h r = tt
kept_is_run plan ceiling s (e ∷ es) h r =
    (r.0, answers_within ceiling s e h, kept_is_run plan (ceiling_after s e ceiling) (happens plan s e) es (servers_stay plan ceiling s e h) r.1)

-- Every event keeps each operation's one packet, and the routes.
use Rattle.std.proofs.Common.{◌≡◌, ℕ, zero, suc, ◌<◌, ◌⊎◌, inl, inr, true, false, List, [], ◌∷◌, ◌++◌, append-nil, length, length-set, refl, sym, ap, ◌∙◌, subst}
use Rattle.std.specs.Prelude.{Option, None, Some, slice_index_or}
use Rattle.std.specs.List.{remove}
use Rattle.std.proofs.lemmas.List.{length-replicate}
use Rattle.far_base.specs.PlanView.{PlanView}
use Rattle.far_base.specs.declared.event.Event.{Event}
use Rattle.far_base.specs.declared.log.LogEntry.TheVariants.{Sent}
use Rattle.far_base.specs.declared.packet.Message.{Message}
use Rattle.far_base.specs.declared.packet.Packet.{Packet}
use Rattle.far_base.specs.declared.packet.Packet.TheVariants.{GetReq, WriteReq, GetFwd, WriteFwd, GetRep, WriteRep, GetAns, WriteAns, Release, Ask, TopAsk, Stored, TopIs}
use Rattle.far_base.specs.declared.party.Party.TheVariants.{Client, Switch, Server, Controller}
use Rattle.far_base.specs.declared.plan.OpLine.{OpLine}
use Rattle.far_model.specs.Clients.{ClientState, closed, line_of, request}
use Rattle.far_model.specs.Controller.{ControllerState, start_recovery}
use Rattle.far_model.specs.Events.{Keeping, client_turn, controller_turn, happens, happens_with, has_next, is_enabled, keeping_of, reply_goes_to, restarts, server_turn, switch_turn}
use Rattle.far_invariants.specs.Flights.{Subject, OfOperation, OfNone, IsFor, Travels, flights_of, is_operation, open_count, subject, IsInFlight}
use Rattle.far_model.specs.Log.{is_read}
use Rattle.far_model.specs.Members.{Among, Each}
use Rattle.far_model.specs.Parties.{Turn, messages_from, to_party}
use Rattle.far_model.specs.Pass.{Passed, passed_out}
use Rattle.far_model.specs.Replies.{AnswersInKind}
use Rattle.far_model.specs.Runs.{IsRun, run}
use Rattle.far_model.specs.Servers.{server_keeps}
use Rattle.far_model.specs.State.{State, client_at, clients_from, nobody, opening, records_at}
use Rattle.far_model.specs.Steps.{PassRow, ClientRow, ReadAnswered, WriteAnswered, WritePreserved, Released, Asked, ClientIgnores, ServerRow, ReadServed, WriteServed, ItemServed, TopServed, ServerIgnores, client_heeds, server_heeds, message, turn_of}
use Rattle.far_model.specs.Steps.{Step, Sends, ClientTakes, Passes, Serves, Rules, Ticks, Recovers, Restarts, Orders, Stops}
use Rattle.far_model.proofs.Members.{among_append, among_at}
use Rattle.far_model.proofs.Steps.{steps_are_rows}
use Rattle.flight_laws.proofs.Lists.{by_test, set_field}
use Rattle.flight_laws.proofs.OneFlight.{Rests, all_rests, flight_begins, flight_ends, flight_goes_on, rest_of}
use Rattle.flight_laws.proofs.Passing.{PassSends, row_passes}
use Rattle.flight_laws.proofs.Ruling.{Rules as RulesOf, rule_rules, tick_rules, order_rules, recovery_rules, tells_control}
use Rattle.flight_laws.proofs.Sends.{Adds, IsControl, carried_adds, control_adds}
use Rattle.flight_laws.proofs.InKind.{answers_in_kind, client_within, length-clients_from}

module _ (plan : PlanView) (s : State) (h : IsInFlight plan s) (rest : List Message) where
  travels_more : (sub : Subject) (out : List Message) → Rests s rest sub → ((m : Message) → Among m out → Travels plan.config m.from m.to m.packet) → (m : Message) → Among m (rest ++ out) → Travels plan.config m.from m.to m.packet
  travels_more sub out rests new m a = by (among_append m rest out a)
    where
      by : Among m rest ⊎ Among m out → Travels plan.config m.from m.to m.packet
      by (inl b) = h.routed.messages m (rests.members m b)
      by (inr b) = new m b

  at_switch : (p : Packet) (q : Passed) → PassRow s.switch p q → Rests s rest (subject p) → IsFor plan.config p Switch → IsInFlight plan (switch_turn s rest p q)
  at_switch p q row rests goes =
      let sends : PassSends s.switch (subject p) q = row_passes s.switch p q row (subst (λ w. IsFor w p Switch) (sym h.routed.switch) goes) in
      let adds : Adds plan.config (subject p) (messages_from Switch (passed_out q)) = subst (λ w. Adds w (subject p) (messages_from Switch (passed_out q))) h.routed.switch sends.adds in
      record {
        routed = record { switch = sends.config ∙ h.routed.switch; clients = h.routed.clients; servers = h.routed.servers; messages = travels_more (subject p) (messages_from Switch (passed_out q)) rests adds.travels };
        one = flight_goes_on plan.config s (switch_turn s rest p q) rest (messages_from Switch (passed_out q)) (subject p) h.one rests adds refl refl (λ c. refl);
      }

  at_controller : (sub : Subject) (turn : Turn ControllerState) → Rests s rest sub → is_operation sub ≡ false → RulesOf plan.config turn → IsInFlight plan (controller_turn s rest turn)
  at_controller sub turn rests plain rules =
      let adds = control_adds plan.config Controller sub turn.out plain rules in
      record {
        routed = record { switch = h.routed.switch; clients = h.routed.clients; servers = h.routed.servers; messages = travels_more sub (messages_from Controller turn.out) rests adds.travels };
        one = flight_goes_on plan.config s (controller_turn s rest turn) rest (messages_from Controller turn.out) sub h.one rests adds refl refl (λ c. refl);
      }

  reply_adds : (n : ℕ) (q : Packet) (sub : Subject) → subject q ≡ sub → Travels plan.config (Server n) (reply_goes_to q) q → Adds plan.config sub (record { from = Server n; to = reply_goes_to q; packet = q } ∷ [])
  reply_adds n q sub same travels = carried_adds plan.config (Server n) sub (record { to = reply_goes_to q; packet = q }) [] (record { same = same; travels = travels }) tt

  at_server : (n : ℕ) (p q : Packet) → Rests s rest (subject p) → subject q ≡ subject p → Travels plan.config (Server n) (reply_goes_to q) q → IsInFlight plan (server_turn s n rest p (Some q))
  at_server n p q rests same travels =
      let adds = reply_adds n q (subject p) same travels in
      record {
        routed = record { switch = h.routed.switch; clients = h.routed.clients; servers = length-set s.servers n (server_keeps (records_at s n) p) ∙ h.routed.servers; messages = travels_more (subject p) (message (Server n) (reply_goes_to q) q ∷ []) rests adds.travels };
        one = flight_goes_on plan.config s (server_turn s n rest p (Some q)) rest (message (Server n) (reply_goes_to q) q ∷ []) (subject p) h.one rests adds refl refl (λ c. refl);
      }

  -- a client handles what is of no operation
  at_client : (sub : Subject) (c : ℕ) (turn : Turn ClientState) → Rests s rest sub → is_operation sub ≡ false → turn.state.waits ≡ (client_at s c).waits → Each (IsControl plan.config (Client c)) turn.out → IsInFlight plan (client_turn s c rest turn)
  at_client sub c turn rests plain waits out =
      let adds = control_adds plan.config (Client c) sub turn.out plain out in
      record {
        routed = record { switch = h.routed.switch; clients = length-set s.clients c turn.state ∙ h.routed.clients; servers = h.routed.servers; messages = travels_more sub (messages_from (Client c) turn.out) rests adds.travels };
        one = flight_goes_on plan.config s (client_turn s c rest turn) rest (messages_from (Client c) turn.out) sub h.one rests adds refl (length-set s.clients c turn.state)
            (set_field (λ (w : ClientState). w.waits) s.clients c turn.state nobody waits);
      }

  -- a client gets an answer
  at_caller : (caller op : ℕ) (client : ClientState) (p : Packet) → Rests s rest (subject p) → subject p ≡ OfOperation caller op → client.waits ≡ None
      → (turn : Turn ClientState) → turn.state ≡ client → turn.out ≡ [] → IsInFlight plan (client_turn s caller rest turn)
  at_caller caller op client p rests is none turn state out =
      let bag : (client_turn s caller rest turn).bag ≡ rest ++ [] = ap (λ w. rest ++ messages_from (Client caller) w) out in
      let waits : turn.state.waits ≡ None = ap (λ (w : ClientState). w.waits) state ∙ none in
      record {
        routed = record {
          switch = h.routed.switch;
          clients = length-set s.clients caller turn.state ∙ h.routed.clients;
          servers = h.routed.servers;
          messages = λ m a. h.routed.messages m (rests.members m (subst (Among m) (bag ∙ append-nil rest) a));
        };
        one = flight_ends s (client_turn s caller rest turn) rest (subject p) caller op turn.state h.one rests is bag refl waits;
      }

  -- a delivery to the controller, a client or a server is of these kinds
  plain_there : (p : Packet) → IsFor plan.config p Controller → is_operation (subject p) ≡ false
  plain_there (GetReq caller op key) goes = absurd cc
  plain_there (WriteReq caller op key body) goes = absurd cc
  plain_there (GetRep caller op key tag num body) goes = absurd cc
  plain_there (WriteRep caller op key num body) goes = absurd cc
  plain_there (GetFwd caller op key tag) goes = absurd cc
  plain_there (WriteFwd caller op key num body) goes = absurd cc
  plain_there (GetAns caller op key num body near) goes = absurd cc
  plain_there (WriteAns caller op key num kept) goes = absurd cc
  plain_there _ goes = refl

  heeded : (c : ℕ) (p : Packet) → client_heeds p ≡ false → IsFor plan.config p (Client c) → ⊥
  heeded c (TopAsk round) e goes = let is = goes.is in cc
  heeded c _ e goes = cc

  served : (n : ℕ) (p : Packet) → server_heeds p ≡ false → IsFor plan.config p (Server n) → ⊥
  served n (Release point) e goes = let is = goes.is in cc
  served n (Ask round) e goes = let is = goes.is in cc
  served n _ e goes = cc

  answered : (c caller : ℕ) (goes : Client c ≡ Client caller) → c ≡ caller
  answered c caller goes = cc

  of_caller : (c caller op : ℕ) → Client c ≡ Client caller → OfOperation caller op ≡ OfOperation c op
  of_caller c caller op goes = ap (λ n. OfOperation n op) (sym (answered c caller goes))

  client_flies : (c : ℕ) (p : Packet) (t : Turn ClientState) → Rests s rest (subject p) → IsFor plan.config p (Client c) → ClientRow plan.ops c (client_at s c) p t → IsInFlight plan (client_turn s c rest t)
  client_flies c p t rests goes (ReadAnswered caller op key num body near) = at_caller c op (closed (client_at s c)) p rests (of_caller c caller op goes) refl t refl refl
  client_flies c p t rests goes (WriteAnswered caller op key num kept e) = at_caller c op (closed (client_at s c)) p rests (of_caller c caller op goes) refl t refl refl
  client_flies c p t rests goes (WritePreserved caller op key num l) = at_caller c op t.state p rests (of_caller c caller op goes) refl t refl refl
  client_flies c p t rests goes (Released point) = at_client (subject p) c t rests refl refl tt
  client_flies c p t rests goes (Asked round) = at_client (subject p) c t rests refl refl (tells_control plan.config round c (client_at s c).preserved)
  client_flies c p t rests goes (ClientIgnores p2 e) = absurd (heeded c p e goes)

  server_flies : (n : ℕ) (p : Packet) (reply : Option Packet) → Rests s rest (subject p) → IsFor plan.config p (Server n) → ServerRow n p reply → IsInFlight plan (server_turn s n rest p reply)
  server_flies n p reply rests goes (ReadServed caller op key tag num body) = at_server n p (GetRep caller op key tag num body) rests refl (record { source = (n, refl); target = refl })
  server_flies n p reply rests goes (WriteServed caller op key put written num body) = at_server n p (WriteRep caller op key num body) rests refl (record { source = (n, refl); target = refl })
  server_flies n p reply rests goes (ItemServed job item) = at_server n p (Stored job) rests refl (record { source = (n, refl); target = refl })
  server_flies n p reply rests goes (TopServed round top) = at_server n p (TopIs round n top) rests refl (record { source = refl; target = refl })
  server_flies n p reply rests goes (ServerIgnores p2 e) = absurd (served n p e goes)

-- ---- events

flight_sent : (plan : PlanView) (s : State) (c op : ℕ) (left : List ℕ) → IsInFlight plan s → (client_at s c).waits ≡ None → (client_at s c).left ≡ op ∷ left
    → IsInFlight plan (client_turn s c s.bag (turn_of (record (client_at s c) { waits = Some op; left = left }) (to_party Switch (request c op (line_of plan.ops op)) ∷ []) (Sent op (line_of plan.ops op) ∷ [])))
flight_sent plan s c op left h none more =
    let line : OpLine = line_of plan.ops op in
    let state : ClientState = record (client_at s c) { waits = Some op; left = left } in
    let x : Message = message (Client c) Switch (request c op line) in
    let is : subject (request c op line) ≡ OfOperation c op = by_test (λ p. subject p ≡ OfOperation c op) (is_read line.op) (GetReq c op line.key) (WriteReq c op line.key line.body) refl refl in
    let travels : Travels plan.config (Client c) Switch (request c op line) = by_test (λ p. Travels plan.config (Client c) Switch p) (is_read line.op) (GetReq c op line.key) (WriteReq c op line.key line.body) (record { source = refl; target = refl }) (record { source = refl; target = refl }) in
    record {
      routed = record {
        switch = h.routed.switch;
        clients = length-set s.clients c state ∙ h.routed.clients;
        servers = h.routed.servers;
        messages = travels_more plan s h s.bag OfNone (x ∷ []) (all_rests s OfNone refl) (λ m a. only m travels a);
      };
      one = flight_begins s (client_turn s c s.bag (turn_of state (to_party Switch (request c op line) ∷ []) (Sent op line ∷ []))) x c op state h.one is refl refl none refl (client_within s c (ap has_next more));
    }
  where
    only : (m : Message) → Travels plan.config (Client c) Switch (request c op (line_of plan.ops op)) → Among m (message (Client c) Switch (request c op (line_of plan.ops op)) ∷ []) → Travels plan.config m.from m.to m.packet
    only m t (inl e) = subst (λ (w : Message). Travels plan.config w.from w.to w.packet) (sym e) t
    only m t (inr a) = absurd a

-- the bag and the clients stay
same_flights : (plan : PlanView) (s t : State) → IsInFlight plan s → t.bag ≡ s.bag → t.clients ≡ s.clients → t.servers ≡ s.servers → t.switch.config ≡ plan.config → IsInFlight plan t
same_flights plan s t h bag clients servers config = record {
  routed = record {
    switch = config;
    clients = ap length clients ∙ h.routed.clients;
    servers = ap length servers ∙ h.routed.servers;
    messages = λ m a. h.routed.messages m (subst (Among m) bag a);
  };
  one = record {
    waited = λ m caller op a e.
        let w = h.one.waited m caller op (subst (Among m) bag a) e in
        (subst (λ cs. caller < length cs) (sym clients) w.0, ap (λ cs. (slice_index_or cs caller nobody).waits) clients ∙ w.1);
    one = λ c. ap (flights_of c) bag ∙ h.one.one c ∙ ap (λ cs. open_count (slice_index_or cs c nobody).waits) (sym clients);
  };
}

rules_on : (plan : PlanView) (s : State) (turn : Turn ControllerState) → IsInFlight plan s → RulesOf plan.config turn → IsInFlight plan (controller_turn s s.bag turn)
rules_on plan s turn h rules = at_controller plan s h s.bag OfNone turn (all_rests s OfNone refl) refl rules

pub flight_row : (plan : PlanView) (k : Keeping) (s : State) (e : Event) (t : State) → IsInFlight plan s → Step plan k s e t → IsInFlight plan t
flight_row plan k s e t h (Sends c op left none more) = flight_sent plan s c op left h none more
flight_row plan k s e t h (ClientTakes i from c p u at r) = client_flies plan s h (remove s.bag i) c p u (rest_of s i _ h.one at) (h.routed.messages _ (among_at _ s.bag i at)).target r
flight_row plan k s e t h (Passes i from p q at runs r) = at_switch plan s h (remove s.bag i) p q r (rest_of s i _ h.one at) (h.routed.messages _ (among_at _ s.bag i at)).target
flight_row plan k s e t h (Serves i from n p reply at is r) = server_flies plan s h (remove s.bag i) n p reply (rest_of s i _ h.one at) (h.routed.messages _ (among_at _ s.bag i at)).target r
flight_row plan k s e t h (Rules i from p u at r) = at_controller plan s h (remove s.bag i) (subject p) u (rest_of s i _ h.one at) (plain_there plan s h (remove s.bag i) p (h.routed.messages _ (among_at _ s.bag i at)).target) (rule_rules plan.config s.controller p u r)
flight_row plan k s e t h (Ticks u is r) = rules_on plan s u h (tick_rules plan.config s.controller u r)
flight_row plan k s e t h (Recovers can) = rules_on plan s (start_recovery plan.config s.controller) h (recovery_rules plan.config s.controller)
flight_row plan k s e t h (Restarts counter is) = same_flights plan s (restarts plan k s (Some counter)) h refl refl refl refl
flight_row plan k s e t h (Orders o u at can r) = let x = rules_on plan s u h (order_rules plan.config s s.controller o u r) in same_flights plan (controller_turn s s.bag u) _ x refl refl refl x.routed.switch
flight_row plan k s e t h (Stops o at stop runs) = same_flights plan s _ h refl refl refl refl

pub flight_step : (plan : PlanView) (k : Keeping) (s : State) (e : Event) → IsInFlight plan s → AnswersInKind s e k → is_enabled plan s e ≡ true → IsInFlight plan (happens_with plan k s e)
flight_step plan k s e h ans able = flight_row plan k s e (happens_with plan k s e) h (steps_are_rows plan k s e able ans)

-- ---- runs

pub flight_run : (plan : PlanView) (s : State) (events : List Event) → IsInFlight plan s → IsRun plan s events → IsInFlight plan (run plan s events)
flight_run plan s [] h r = h
flight_run plan s (e ∷ es) h r = flight_run plan (happens plan s e) es (flight_step plan (keeping_of s e) s e h (answers_in_kind s e) r.0) r.1

opening_waits : (ops : List OpLine) (n more c : ℕ) → (slice_index_or (clients_from ops n more) c nobody).waits ≡ None
opening_waits ops n zero c = refl
opening_waits ops n (suc more) zero = refl
opening_waits ops n (suc more) (suc c) = opening_waits ops (suc n) more c

pub flight_opens : (plan : PlanView) → IsInFlight plan (opening plan)
flight_opens plan = record {
  routed = record {
    switch = refl;
    clients = length-clients_from plan.ops 0 plan.config.clients;
    servers = length-replicate plan.config.servers [];
    messages = λ m a. absurd a;
  };
  one = record {
    waited = λ m caller op a e. absurd a;
    one = λ c. ap open_count (sym (opening_waits plan.ops 0 plan.config.clients c));
  };
}

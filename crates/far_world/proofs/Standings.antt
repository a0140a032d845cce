-- What the turns of parties take for granted, wherever an event is ready.
use Rattle.std.proofs.Common.{◌≡◌, ℕ, zero, suc, ◌+◌, ◌<◌, ◌≤◌, ◌^◌, Bool, true, false, cond, List, [], ◌∷◌, length, get_or, set, replicate, refl, sym, ap, ◌∙◌, subst, Some, None, arith}
use Rattle.std.proofs.lemmas.List.{length-replicate}
use Rattle.std.specs.Prelude.{Option, nat_eq, slice_get, slice_index}
use Rattle.far_base.specs.PlanView.{PlanView}
use Rattle.far_base.specs.declared.event.Event.{Event}
use Rattle.far_base.specs.declared.event.Event.TheVariants.{Send, Deliver, Tick, Recover, Restart, Order as OrderOf}
use Rattle.far_base.specs.declared.packet.Message.{Message}
use Rattle.far_base.specs.declared.packet.Packet.{Packet}
use Rattle.far_base.specs.declared.packet.Packet.TheVariants.{GetAns, WriteAns, Release, Ask}
use Rattle.far_base.specs.declared.party.Party.{Party}
use Rattle.far_base.specs.declared.party.Party.TheVariants.{Client, Switch, Server, Controller}
use Rattle.far_base.specs.declared.plan.OpLine.{OpLine}
use Rattle.far_base.specs.declared.plan.Order.{Order}
use Rattle.far_base.specs.declared.plan.Order.TheVariants.{Admit, Evict, Snap, Stop, StopAt}
use Rattle.far_base.specs.declared.plan.PassKind.{PassKind}
use Rattle.far_base.specs.declared.record.Record.{Record}
use Rattle.far_invariants.specs.Addressed.{AreAddressed, ComesTo}
use Rattle.far_invariants.specs.Sizes.{PartsFit}
use Rattle.far_model.specs.Clients.{script_from}
use Rattle.far_model.specs.Controller.{ControllerState, ready, tick}
use Rattle.far_model.specs.Events.{Keeping, delivers, does_order, handled, happens_with, restarts, ticks}
use Rattle.far_model.specs.Parties.{Turn}
use Rattle.far_model.specs.Passes.{one_more, pass_count, pass_kind, pass_place}
use Rattle.far_model.specs.Replies.{KeptEvent, run_with}
use Rattle.far_model.specs.Snapshots.{Job}
use Rattle.far_model.specs.State.{State, client_at, opening}
use Rattle.far_world.specs.Ready.{IsReady}
use Rattle.far_world.specs.Scene.{Scene, Tells, told_by}
use Rattle.far_world.specs.Standing.{Stands}
use Rattle.controller_core.specs.Room.{HasRoom}
use Rattle.far_world.specs.Tasks.{FitsConfig}

-- ---- no count of passes is above the steps

abbrev pub CountsFit : State → Type 0
CountsFit s = (i : ℕ) → slice_index s.passes i ≤ s.steps

set_fits : (passes : List ℕ) (steps place n : ℕ) → ((i : ℕ) → get_or passes i 0 ≤ steps) → n ≤ steps + 1 → (i : ℕ) → get_or (set passes place n) i 0 ≤ steps + 1
set_fits [] steps zero n fits less i = omega (arith, fits i)
set_fits [] steps (suc place) n fits less i = omega (arith, fits i)
set_fits (x ∷ xs) steps zero n fits less zero = less
set_fits (x ∷ xs) steps zero n fits less (suc i) = omega (arith, fits (suc i))
set_fits (x ∷ xs) steps (suc place) n fits less zero = omega (arith, fits 0)
set_fits (x ∷ xs) steps (suc place) n fits less (suc i) = set_fits xs steps place n (λ j. fits (suc j)) less i

more_fits : (passes : List ℕ) (steps : ℕ) (kind : Option PassKind) → ((i : ℕ) → get_or passes i 0 ≤ steps) → (i : ℕ) → get_or (one_more passes kind) i 0 ≤ steps + 1
more_fits passes steps None fits i = omega (arith, fits i)
more_fits passes steps (Some kind) fits i = set_fits passes steps (pass_place kind) (suc (pass_count passes kind)) fits (omega (arith, fits (pass_place kind))) i

up : (passes : List ℕ) (steps : ℕ) → ((i : ℕ) → get_or passes i 0 ≤ steps) → (i : ℕ) → get_or passes i 0 ≤ steps + 1
up passes steps fits i = omega (arith, fits i)

module _ (plan : PlanView) (k : Keeping) (s : State) (fits : CountsFit s) where
  handled_fits : (rest : List Message) (to : Party) (packet : Packet) → CountsFit (handled plan k s rest to packet)
  handled_fits rest (Client c) packet = up s.passes s.steps fits
  handled_fits rest Switch packet = more_fits s.passes s.steps (pass_kind packet) fits
  handled_fits rest (Server n) packet = up s.passes s.steps fits
  handled_fits rest Controller packet = up s.passes s.steps fits

  delivers_fits : (i : ℕ) (m : Option Message) → CountsFit (delivers plan k s i m)
  delivers_fits i None = fits
  delivers_fits i (Some m) = handled_fits _ m.to m.packet

  ticks_fits : (t : Option (Turn ControllerState)) → CountsFit (ticks s t)
  ticks_fits None = fits
  ticks_fits (Some t) = up s.passes s.steps fits

  restarts_fits : (counter : Option ℕ) → CountsFit (restarts plan k s counter)
  restarts_fits None = fits
  restarts_fits (Some counter) = up s.passes s.steps fits

  order_fits : (order : Option Order) → CountsFit (does_order plan s order)
  order_fits None = fits
  order_fits (Some (Admit step key)) = up s.passes s.steps fits
  order_fits (Some (Evict step key)) = up s.passes s.steps fits
  order_fits (Some (Snap step)) = up s.passes s.steps fits
  order_fits (Some (Stop step)) = up s.passes s.steps fits
  order_fits (Some (StopAt kind times)) = up s.passes s.steps fits

  event_fits : (e : Event) → CountsFit (happens_with plan k s e)
  event_fits (Send c) = up s.passes s.steps fits
  event_fits (Deliver i) = delivers_fits i (slice_get s.bag i)
  event_fits Tick = ticks_fits (tick s.controller)
  event_fits Recover = up s.passes s.steps fits
  event_fits Restart = restarts_fits (ready s.controller)
  event_fits (OrderOf j) = order_fits (slice_get plan.orders j)

run_fits : (plan : PlanView) (s : State) (events : List KeptEvent) → CountsFit s → CountsFit (run_with plan s events)
run_fits plan s [] fits = fits
run_fits plan s (e ∷ es) fits = run_fits plan (happens_with plan e.keeping s e.event) es (event_fits plan e.keeping s fits e.event)

zeros : (n i : ℕ) → get_or (replicate n 0) i 0 ≤ 0
zeros zero zero = omega arith
zeros zero (suc i) = omega arith
zeros (suc n) zero = omega arith
zeros (suc n) (suc i) = zeros n i

-- so it is in every run, whatever keepers answer
pub counts_fit : (plan : PlanView) (events : List KeptEvent) → CountsFit (run_with plan (opening plan) events)
counts_fit plan events = run_fits plan (opening plan) events (λ i. zeros 9 i)

-- ---- the rest

comes_elsewhere : (plan : PlanView) (r : State) (servers : List (List Record)) (to : Party) (packet : Packet) → ComesTo plan r to packet → ComesTo plan (record r { servers = servers }) to packet
comes_elsewhere plan r servers (Client c) (GetAns caller op key num body near) h = h
comes_elsewhere plan r servers (Client c) (WriteAns caller op key num kept) h = h
comes_elsewhere plan r servers (Client c) (Release point) h = h
comes_elsewhere plan r servers (Client c) (Ask round) h = h
comes_elsewhere plan r servers (Client c) _ h = absurd (h.1)
comes_elsewhere plan r servers Switch packet h = h
comes_elsewhere plan r servers (Server n) packet h = h
comes_elsewhere plan r servers Controller packet h = h

fits_parts : (slots : ℕ) (o : Option Job) → PartsFit slots o → (job : Job) → o ≡ Some job → length job.parts ≡ slots
fits_parts slots None h job e = absurd cc
fits_parts slots (Some own) h job e = subst (λ (o : Option Job). PartsFit slots o) e h

script_short : (op client : ℕ) (ops : List OpLine) → length (script_from op ops client) ≤ length ops
script_short op client [] = omega arith
script_short op client (line ∷ ops) = go (nat_eq line.client client) (script_short (suc op) client ops)
  where
    go : (b : Bool) → length (script_from (suc op) ops client) ≤ length ops → length (cond b (op ∷ script_from (suc op) ops client) (script_from (suc op) ops client)) ≤ suc (length ops)
    go true h = omega (arith, h)
    go false h = omega (arith, h)

pub servers_there : (servers : List (List Record)) (count : ℕ) (o : Option (List (List Record))) → servers ≡ told_by count o → (Tells o → length servers ≡ count) → length servers ≡ count
servers_there servers count None shown told = ap length shown ∙ length-replicate count []
servers_there servers count (Some all) shown told = told refl

pub stands : (e : Event) (scene : Scene) → IsReady e scene → Stands scene
stands e scene h = record {
  valid = h.valid;
  keeper = h.servers;
  servers = servers_there scene.state.servers scene.plan.config.servers scene.keeper.records h.records h.told;
  told = h.records;
  switch = subst (λ (z : State). z.switch.config ≡ scene.plan.config) (sym h.is) h.sound.routed.switch;
  clients = subst (λ (z : State). length z.clients ≡ scene.plan.config.clients) (sym h.is) h.sound.routed.clients;
  addressed = subst (λ (z : State). AreAddressed scene.plan z) (sym h.is) (λ m there. comes_elsewhere scene.plan h.there scene.state.servers m.to m.packet (h.addressed m there));
  controller = subst (λ (z : State). FitsConfig scene.plan.config z.controller) (sym h.is) (record { parts = fits_parts scene.plan.config.slots h.there.controller.job h.sound.sized.parts; views = h.sound.sized.views });
  room = subst (λ (z : State). HasRoom z.controller) (sym h.is) (record {
    epoch = omega (arith, h.room.epochs, h.room.steps, h.room.small);
    tag = omega (arith, h.room.tags, h.room.steps, h.room.small);
    job = omega (arith, h.room.jobs, h.room.steps, h.room.small);
    id = omega (arith, h.room.ids, h.room.steps, h.room.small);
    round = omega (arith, h.room.rounds, h.room.steps, h.room.small);
  });
  steps = subst (λ (z : State). z.steps < 2 ^ 28) (sym h.is) (omega (arith, h.room.steps, h.room.small));
  few = subst (λ (z : State). length z.bag < 2 ^ 28) (sym h.is) (omega (arith, h.room.bag, h.room.steps, h.room.small));
  counter = subst (λ (z : State). z.switch.counter < 2 ^ 28) (sym h.is) (omega (arith, h.room.numbers.counter, h.room.steps, h.room.small));
  passes = subst (λ (z : State). (i : ℕ) → slice_index z.passes i < 2 ^ 28) (sym h.is) (λ i. omega (arith, h.passes i, h.room.steps, h.room.small));
  preserved = subst (λ (z : State). (c : ℕ) → length (client_at z c).preserved < 2 ^ 28) (sym h.is) (λ c. omega (arith, h.sound.sized.preserved c, script_short 1 c scene.plan.ops, h.valid.count));
}

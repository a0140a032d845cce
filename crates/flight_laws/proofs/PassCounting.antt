-- The counts of passes: by one for each packet that comes to the switch, and never above the steps.
use Rattle.std.proofs.Common.{◌≡◌, ◌≢◌, ℕ, suc, ◌+◌, ◌≤◌, ◌<◌, ◌⊎◌, inl, inr, Bool, true, false, cond, not, ◌||◌, nat_eq, List, [], ◌∷◌, length, length-set, refl, sym, ap, ◌∙◌, arith, eq-eqb, ne_eqb}
use Rattle.std.specs.Prelude.{slice_get, remove, Option, None, Some}
use Rattle.std.proofs.lemmas.Bool.Decides.{eqb_tells}
use Rattle.std.proofs.lemmas.List.{get_or-set_same, get_or-set_other}
use Rattle.far_base.specs.PlanView.{PlanView}
use Rattle.far_base.specs.declared.event.Event.{Event}
use Rattle.far_base.specs.declared.event.Event.TheVariants.{Send, Deliver, Tick, Recover, Restart, Order as OrderOf}
use Rattle.far_base.specs.declared.packet.Message.{Message}
use Rattle.far_base.specs.declared.packet.Packet.{Packet}
use Rattle.far_base.specs.declared.party.Party.{Party}
use Rattle.far_base.specs.declared.party.Party.TheVariants.{Client, Switch, Server, Controller}
use Rattle.far_base.specs.declared.plan.Order.{Order}
use Rattle.far_base.specs.declared.plan.Order.TheVariants.{Admit as AdmitOrder, Evict as EvictOrder, Snap as SnapOrder, Stop as StopOrder, StopAt as StopAtOrder}
use Rattle.far_base.specs.declared.plan.PassKind.{PassKind}
use Rattle.far_base.specs.declared.plan.PassKind.TheVariants.{GetReq as GetReqPass, WriteReq as WriteReqPass, GetRep as GetRepPass, WriteRep as WriteRepPass, Admit as AdmitPass, Peek as PeekPass, Remove as RemovePass, SnapStart as SnapStartPass, SnapRead as SnapReadPass}
use Rattle.far_model.specs.Controller.{ControllerState, tick, ready}
use Rattle.far_model.specs.Events.{Keeping, can_deliver_some, delivers, does_order, handled, happens, happens_with, is_enabled, is_switch, keeping_of, restarts, ticks}
use Rattle.far_model.specs.Parties.{Turn}
use Rattle.far_model.specs.Passes.{PASS_KINDS, no_passes, one_more, pass_count, pass_kind, pass_place, with_pass}
use Rattle.far_model.specs.Runs.{run}
use Rattle.far_model.specs.State.{State}
use Rattle.far_invariants.specs.Brought.{brought, brought_by, brought_to, is_kind, one_if_of, passes_in}

place_within : (kind : PassKind) → pass_place kind < 9
place_within GetReqPass = omega arith
place_within WriteReqPass = omega arith
place_within GetRepPass = omega arith
place_within WriteRepPass = omega arith
place_within AdmitPass = omega arith
place_within PeekPass = omega arith
place_within RemovePass = omega arith
place_within SnapStartPass = omega arith
place_within SnapReadPass = omega arith

-- ---- one pass

nat_cases : (a b : ℕ) → (a ≡ b) ⊎ (a ≢ b)
nat_cases a b = go (eqb_tells a b)
  where
    go : ((nat_eq a b ≡ true) × (a ≡ b)) ⊎ ((nat_eq a b ≡ false) × (a ≢ b)) → (a ≡ b) ⊎ (a ≢ b)
    go (inl p) = inl p.1
    go (inr p) = inr p.1

more_counted : (passes : List ℕ) (o : Option PassKind) (kind : PassKind) → length passes ≡ PASS_KINDS → pass_count (one_more passes o) kind ≡ pass_count passes kind + cond {A = ℕ} (is_kind kind o) 1 0
more_counted passes None kind size = omega arith
more_counted passes (Some other) kind size = go (nat_cases (pass_place kind) (pass_place other))
  where
    go : (pass_place kind ≡ pass_place other) ⊎ (pass_place kind ≢ pass_place other) → pass_count (one_more passes (Some other)) kind ≡ pass_count passes kind + cond {A = ℕ} (is_kind kind (Some other)) 1 0
    go (inl e) =
        let within = place_within other in
        let now : pass_count (one_more passes (Some other)) kind ≡ suc (pass_count passes other) = ap (λ i. Rattle.std.specs.Prelude.slice_index_or (one_more passes (Some other)) i 0) e ∙ get_or-set_same passes (pass_place other) (suc (pass_count passes other)) 0 (omega (arith, within, size)) in
        let was : pass_count passes kind ≡ pass_count passes other = ap (λ i. Rattle.std.specs.Prelude.slice_index_or passes i 0) e in
        let one : cond {A = ℕ} (is_kind kind (Some other)) 1 0 ≡ 1 = ap (λ b. cond {A = ℕ} b 1 0) (eq-eqb (pass_place other) (pass_place kind) (sym e)) in
        omega (arith, now, was, one)
    go (inr ne) =
        let now : pass_count (one_more passes (Some other)) kind ≡ pass_count passes kind = get_or-set_other passes (pass_place other) (pass_place kind) (suc (pass_count passes other)) 0 ne in
        let none : cond {A = ℕ} (is_kind kind (Some other)) 1 0 ≡ 0 = ap (λ b. cond {A = ℕ} b 1 0) (ne_eqb (pass_place other) (pass_place kind) (λ e. ne (sym e))) in
        omega (arith, now, none)

more_length : (passes : List ℕ) (o : Option PassKind) → length (one_more passes o) ≡ length passes
more_length passes None = refl
more_length passes (Some kind) = length-set passes (pass_place kind) (suc (pass_count passes kind))

-- ---- every event

-- the counts once the packet has come, if one has
with_brought : List ℕ → Option Packet → List ℕ
with_brought passes None = passes
with_brought passes (Some packet) = with_pass passes packet

-- what an event does to the counts and the steps
record Counts (s : State) (packet : Option Packet) (t : State) : Type 0 where
  passes : t.passes ≡ with_brought s.passes packet
  steps : (packet ≡ None) ⊎ (t.steps ≡ s.steps + 1)
  onward : s.steps ≤ t.steps

handled_counts : (plan : PlanView) (k : Keeping) (s : State) (rest : List Message) (to : Party) (p : Packet) → Counts s (brought_to to p) (handled plan k s rest to p)
unfolding with_brought
handled_counts plan k s rest (Client c) p = record { passes = refl; steps = inl refl; onward = omega arith }
handled_counts plan k s rest Switch p = record { passes = refl; steps = inr refl; onward = omega arith }
handled_counts plan k s rest (Server n) p = record { passes = refl; steps = inl refl; onward = omega arith }
handled_counts plan k s rest Controller p = record { passes = refl; steps = inl refl; onward = omega arith }

event_counts : (plan : PlanView) (k : Keeping) (s : State) (e : Event) → Counts s (brought s e) (happens_with plan k s e)
unfolding with_brought
event_counts plan k s (Send c) = record { passes = refl; steps = inl refl; onward = omega arith }
event_counts plan k s (Deliver i) = by (slice_get s.bag i)
  where
    by : (o : Option Message) → Counts s (brought_by o) (delivers plan k s i o)
    by None = record { passes = refl; steps = inl refl; onward = omega arith }
    by (Some m) = handled_counts plan k s (remove s.bag i) m.to m.packet
event_counts plan k s Tick = by (tick s.controller)
  where
    by : (o : Option (Turn ControllerState)) → Counts s None (ticks s o)
    by None = record { passes = refl; steps = inl refl; onward = omega arith }
    by (Some t) = record { passes = refl; steps = inl refl; onward = omega arith }
event_counts plan k s Recover = record { passes = refl; steps = inl refl; onward = omega arith }
event_counts plan k s Restart = by (ready s.controller)
  where
    by : (o : Option ℕ) → Counts s None (restarts plan k s o)
    by None = record { passes = refl; steps = inl refl; onward = omega arith }
    by (Some counter) = record { passes = refl; steps = inl refl; onward = omega arith }
event_counts plan k s (OrderOf j) = by (slice_get plan.orders j)
  where
    by : (o : Option Order) → Counts s None (record (does_order plan s o) { done = s.done + 1 })
    by None = record { passes = refl; steps = inl refl; onward = omega arith }
    by (Some (AdmitOrder step key)) = record { passes = refl; steps = inl refl; onward = omega arith }
    by (Some (EvictOrder step key)) = record { passes = refl; steps = inl refl; onward = omega arith }
    by (Some (SnapOrder step)) = record { passes = refl; steps = inl refl; onward = omega arith }
    by (Some (StopOrder step)) = record { passes = refl; steps = inl refl; onward = omega arith }
    by (Some (StopAtOrder kind times)) = record { passes = refl; steps = inl refl; onward = omega arith }

brought_counted : (passes : List ℕ) (o : Option Packet) (kind : PassKind) → length passes ≡ PASS_KINDS → pass_count (with_brought passes o) kind ≡ pass_count passes kind + one_if_of kind o
unfolding with_brought
brought_counted passes None kind size = omega arith
brought_counted passes (Some packet) kind size = more_counted passes (pass_kind packet) kind size

brought_length : (passes : List ℕ) (o : Option Packet) → length (with_brought passes o) ≡ length passes
unfolding with_brought
brought_length passes None = refl
brought_length passes (Some packet) = more_length passes (pass_kind packet)

pub event_counted : (plan : PlanView) (k : Keeping) (s : State) (e : Event) (kind : PassKind) → length s.passes ≡ PASS_KINDS → pass_count (happens_with plan k s e).passes kind ≡ pass_count s.passes kind + one_if_of kind (brought s e)
event_counted plan k s e kind size = ap (λ passes. pass_count passes kind) (event_counts plan k s e).passes ∙ brought_counted s.passes (brought s e) kind size

pub event_length : (plan : PlanView) (k : Keeping) (s : State) (e : Event) → length (happens_with plan k s e).passes ≡ length s.passes
event_length plan k s e = ap length (event_counts plan k s e).passes ∙ brought_length s.passes (brought s e)

one_at_most : (kind : PassKind) (o : Option Packet) → one_if_of kind o ≤ 1
one_at_most kind None = omega arith
one_at_most kind (Some packet) = go (is_kind kind (pass_kind packet))
  where
    go : (b : Bool) → cond {A = ℕ} b 1 0 ≤ 1
    go true = omega arith
    go false = omega arith

pub event_fits : (plan : PlanView) (k : Keeping) (s : State) (e : Event) (kind : PassKind) → length s.passes ≡ PASS_KINDS → pass_count (happens_with plan k s e).passes kind + s.steps ≤ pass_count s.passes kind + (happens_with plan k s e).steps
event_fits plan k s e kind size =
    let c = event_counts plan k s e in
    go c.steps c.onward
  where
    go : (brought s e ≡ None) ⊎ ((happens_with plan k s e).steps ≡ s.steps + 1) → s.steps ≤ (happens_with plan k s e).steps → pass_count (happens_with plan k s e).passes kind + s.steps ≤ pass_count s.passes kind + (happens_with plan k s e).steps
    go (inl none) onward =
        let counted = event_counted plan k s e kind size in
        let zero_of : one_if_of kind (brought s e) ≡ 0 = ap (one_if_of kind) none in
        omega (arith, counted, zero_of, onward)
    go (inr one) onward =
        let counted = event_counted plan k s e kind size in
        let most = one_at_most kind (brought s e) in
        omega (arith, counted, most, one)

-- ---- runs

pub run_counted : (plan : PlanView) (s : State) (events : List Event) (kind : PassKind) → length s.passes ≡ PASS_KINDS → pass_count (run plan s events).passes kind ≡ pass_count s.passes kind + passes_in plan s events kind
run_counted plan s [] kind size = omega arith
run_counted plan s (e ∷ es) kind size =
    let now = event_counted plan (keeping_of s e) s e kind size in
    let later = run_counted plan (happens plan s e) es kind (event_length plan (keeping_of s e) s e ∙ size) in
    omega (arith, now, later)

pub run_fits : (plan : PlanView) (s : State) (events : List Event) (kind : PassKind) → length s.passes ≡ PASS_KINDS → pass_count (run plan s events).passes kind + s.steps ≤ pass_count s.passes kind + (run plan s events).steps
run_fits plan s [] kind size = omega arith
run_fits plan s (e ∷ es) kind size =
    let now = event_fits plan (keeping_of s e) s e kind size in
    let later = run_fits plan (happens plan s e) es kind (event_length plan (keeping_of s e) s e ∙ size) in
    omega (arith, now, later)

pub none_at_first : (kind : PassKind) → pass_count no_passes kind ≡ 0
none_at_first GetReqPass = refl
none_at_first WriteReqPass = refl
none_at_first GetRepPass = refl
none_at_first WriteRepPass = refl
none_at_first AdmitPass = refl
none_at_first PeekPass = refl
none_at_first RemovePass = refl
none_at_first SnapStartPass = refl
none_at_first SnapReadPass = refl

-- what is brought comes to a running switch
pub brought_running : (plan : PlanView) (s : State) (e : Event) (packet : Packet) → is_enabled plan s e ≡ true → brought s e ≡ Some packet → s.running ≡ true
brought_running plan s (Send c) packet can is = absurd cc
brought_running plan s (Deliver i) packet can is = by (slice_get s.bag i) can is
  where
    to_switch : (running : Bool) (to : Party) (p : Packet) → (running || not (is_switch to)) ≡ true → brought_to to p ≡ Some packet → running ≡ true
    to_switch running (Client c) p can is = absurd cc
    to_switch true Switch p can is = refl
    to_switch false Switch p can is = absurd cc
    to_switch running (Server n) p can is = absurd cc
    to_switch running Controller p can is = absurd cc

    by : (o : Option Message) → can_deliver_some s.running o ≡ true → brought_by o ≡ Some packet → s.running ≡ true
    by None can is = absurd cc
    by (Some m) can is = to_switch s.running m.to m.packet can is
brought_running plan s Tick packet can is = absurd cc
brought_running plan s Recover packet can is = absurd cc
brought_running plan s Restart packet can is = absurd cc
brought_running plan s (OrderOf j) packet can is = absurd cc

-- A world starts, goes on, and comes to its end.
use Rattle.std.proofs.Common.{◌≡◌, ℕ, suc, ◌+◌, ◌<◌, ◌≤◌, true, List, [], ◌∷◌, ◌++◌, length, map, refl, sym, ap, ◌∙◌, subst, arith}
use Rattle.std.specs.Prelude.{◌^◌}
use Rattle.far_base.specs.Limits.{IsPlan}
use Rattle.far_base.specs.PlanView.{PlanView}
use Rattle.far_base.specs.declared.event.Event.{Event}
use Rattle.far_invariants.specs.Addressed.{AreAddressed}
use Rattle.far_invariants.specs.Always.{AlwaysWith}
use Rattle.far_invariants.specs.Flights.{IsRouted}
use Rattle.far_invariants.specs.Room.{HasRoom}
use Rattle.far_invariants.specs.Sound.{IsSound}
use Rattle.far_model.specs.Answered.{AllAnswered}
use Rattle.far_model.specs.Events.{Keeping, happens_with, is_enabled}
use Rattle.far_model.specs.Replies.{AnswersInKind, IsRunWith, kept_events, KeptEvent, ceiling_after, run_with}
use Rattle.far_model.specs.Runs.{IsRun, is_finished, is_quiet, next_event, run}
use Rattle.far_model.specs.State.{State, opening}
use Rattle.far_model.specs.Work.{work_left}
use Rattle.far_world.proofs.Reaching.{answers_there, elsewhere, enabled_there, happens_elsewhere, run_to}
use Rattle.far_world.proofs.Standings.{counts_fit, servers_there}
use Rattle.far_world.specs.Reached.{HasStepped, IsReached, Ran, event_of, ran_to, scene_in}
use Rattle.far_world.specs.Ready.{IsOpened, IsReady}
use Rattle.far_world.specs.Scene.{KeeperView, Scene, Tells, told_by}
use Rattle.far_world.specs.Steps.{IsAfter}
use Rattle.far_world.specs.Turning.{HasTurned}

pub opens : (plan : PlanView) (before : KeeperView) (scene : Scene) (events : List Event) → IsPlan plan → IsOpened plan before scene → events ≡ [] → IsReached (ran_to scene events)
opens plan before scene events valid o none = record {
  valid = subst IsPlan (sym o.plan_is) valid;
  kept = [];
  way = tt;
  events_are = none;
  state_is = o.state ∙ ap (λ (p : PlanView). record (opening p) { servers = scene.state.servers }) (sym o.plan_is);
  records = o.records ∙ ap (λ (p : PlanView). told_by p.config.servers scene.keeper.records) (sym o.plan_is);
  servers = o.servers ∙ ap (λ (p : PlanView). p.config.servers) (sym o.plan_is);
  ceiling = o.ceiling;
  told = λ tells. record {
    enabled = subst (λ (es : List Event). IsRun scene.plan (opening scene.plan) es) (sym none) tt;
    is = o.told tells ∙ (ap opening (sym o.plan_is) ∙ ap (λ (es : List Event). run scene.plan (opening scene.plan) es) (sym none));
  };
}

-- ---- what holds of the run that leads to a world

-- a run by the rule of a server is a run with keepers
abbrev pub KeptRuns : Type 0
KeptRuns = (plan : PlanView) (events : List Event) → IsRun plan (opening plan) events → IsRunWith plan 0 (opening plan) (kept_events plan (opening plan) events)

abbrev pub KeptStates : Type 0
KeptStates = (plan : PlanView) (events : List Event) → run_with plan (opening plan) (kept_events plan (opening plan) events) ≡ run plan (opening plan) events

abbrev pub StepsCount : Type 0
StepsCount = (plan : PlanView) (k : Keeping) (s : State) (e : Event) → is_enabled plan s e ≡ true → (happens_with plan k s e).steps ≡ s.steps + 1

length_map : (kept : List KeptEvent) → length (map event_of kept) ≡ length kept
length_map [] = refl
length_map (e ∷ es) = ap suc (length_map es)

counted_steps : StepsCount → (plan : PlanView) (ceiling : ℕ) (s : State) (kept : List KeptEvent) → IsRunWith plan ceiling s kept → (run_with plan s kept).steps ≡ s.steps + length kept
counted_steps counts plan ceiling s [] way = omega arith
counted_steps counts plan ceiling s (e ∷ es) way =
    let one = counts plan e.keeping s e.event way.0 in
    let more = counted_steps counts plan (ceiling_after s e.event ceiling) (happens_with plan e.keeping s e.event) es way.2 in
    omega (arith, one, more)

module _ (w : Ran) (h : IsReached w) where
  pub sound_there : AlwaysWith (λ plan ceiling s. IsSound plan s) → IsSound w.plan (run_to w h)
  sound_there law = law w.plan h.kept h.valid h.way

  pub room_there : AlwaysWith (λ plan ceiling s. HasRoom plan ceiling s) → HasRoom w.plan w.keeper.ceiling (run_to w h)
  room_there law = subst (λ (c : ℕ). HasRoom w.plan c (run_to w h)) (sym h.ceiling) (law w.plan h.kept h.valid h.way)

  pub servers_are : Tells w.keeper.records → AlwaysWith (λ plan ceiling s. IsSound plan s) → KeptRuns → KeptStates → length w.state.servers ≡ w.plan.config.servers
  servers_are tells sound runs states =
      let d = h.told tells in
      ap (λ (z : State). length z.servers) (d.is ∙ sym (states w.plan w.events)) ∙ (sound w.plan (kept_events w.plan (opening w.plan) w.events) h.valid (runs w.plan w.events d.enabled)).routed.servers

  pub all_servers : AlwaysWith (λ plan ceiling s. IsSound plan s) → KeptRuns → KeptStates → length w.state.servers ≡ w.plan.config.servers
  all_servers sound runs states = servers_there w.state.servers w.plan.config.servers w.keeper.records h.records (λ tells. servers_are tells sound runs states)

  pub few_messages : AlwaysWith (λ plan ceiling s. HasRoom plan ceiling s) → length w.state.bag < 2 ^ 28
  few_messages law =
      let room = room_there law in
      let same : length w.state.bag ≡ length (run_to w h).bag = ap (λ (z : State). length z.bag) h.state_is in
      omega (arith, same, room.bag, room.steps, room.small)

  pub few_clients : AlwaysWith (λ plan ceiling s. IsSound plan s) → length w.state.clients < 2 ^ 16
  few_clients law =
      let sound = sound_there law in
      let same : length w.state.clients ≡ length (run_to w h).clients = ap (λ (z : State). length z.clients) h.state_is in
      omega (arith, same, sound.routed.clients, h.valid.config.clients.1)

  pub quiet_is : AlwaysWith (λ plan ceiling s. is_quiet plan s ≡ is_finished plan s) → is_finished w.plan w.state ≡ is_quiet w.plan w.state
  quiet_is law = ap (λ (z : State). is_finished w.plan z) h.state_is ∙ (sym (law w.plan h.kept h.valid h.way) ∙ sym (ap (λ (z : State). is_quiet w.plan z) h.state_is))

  pub answered_where : AlwaysWith (λ plan ceiling s. is_finished plan s ≡ true → AllAnswered plan s) → is_finished w.plan w.state ≡ true → AllAnswered w.plan w.state
  answered_where law done =
      subst (λ (z : State). AllAnswered w.plan z) (sym h.state_is) (law w.plan h.kept h.valid h.way (sym (ap (λ (z : State). is_finished w.plan z) h.state_is) ∙ done))

  pub ready : (e : Event) → is_enabled w.plan w.state e ≡ true → AlwaysWith (λ plan ceiling s. IsSound plan s) → AlwaysWith (λ plan ceiling s. AreAddressed plan s) → AlwaysWith (λ plan ceiling s. HasRoom plan ceiling s) → KeptRuns → KeptStates → IsReady e (scene_in w)
  ready e able sound addressed room runs states = record {
    enabled = able;
    valid = h.valid;
    there = run_to w h;
    is = h.state_is;
    sound = sound_there sound;
    addressed = addressed w.plan h.kept h.valid h.way;
    room = room_there room;
    records = h.records;
    told = λ tells. servers_are tells sound runs states;
    servers = h.servers;
    passes = counts_fit w.plan h.kept;
  }

  pub lower : (e : Event) (new : Scene) → is_enabled w.plan w.state e ≡ true → IsAfter (scene_in w) e new
      → AlwaysWith (λ plan ceiling s. (e : Event) (k : Keeping) → AnswersInKind s e k → is_enabled plan s e ≡ true → suc (work_left plan (happens_with plan k s e)) ≤ work_left plan s)
      → suc (work_left new.plan new.state) ≤ work_left w.plan w.state
  lower e new able a law =
      let next : new.state ≡ elsewhere (happens_with w.plan a.keeping (run_to w h) e) new.state.servers =
      a.state ∙ (ap (λ (z : State). elsewhere (happens_with w.plan a.keeping z e) new.state.servers) h.state_is ∙ happens_elsewhere w.plan a.keeping (run_to w h) w.state.servers new.state.servers e) in
      let after : work_left new.plan new.state ≡ work_left w.plan (happens_with w.plan a.keeping (run_to w h) e) =
      ap (λ (p : PlanView). work_left p new.state) a.plan ∙ ap (λ (z : State). work_left w.plan z) next in
      let before : work_left w.plan w.state ≡ work_left w.plan (run_to w h) = ap (λ (z : State). work_left w.plan z) h.state_is in
      omega (arith, after, before, law w.plan h.kept h.valid h.way e a.keeping (answers_there w h e a.keeping a.answers).kind (enabled_there w h e able))

  pub few_events : StepsCount → AlwaysWith (λ plan ceiling s. HasRoom plan ceiling s) → length w.events < 2 ^ 28
  few_events counts law =
      let room = room_there law in
      let steps : (run_to w h).steps ≡ 0 + length h.kept = counted_steps counts w.plan 0 (opening w.plan) h.kept h.way in
      let same : length w.events ≡ length h.kept = ap length h.events_are ∙ length_map h.kept in
      omega (arith, same, steps, room.steps, room.small)

  pub turned_on : (e : Event) (new : Scene) (events : List Event) → is_enabled w.plan w.state e ≡ true → IsAfter (scene_in w) e new → events ≡ w.events ++ e ∷ []
      → AlwaysWith (λ plan ceiling s. (e : Event) (k : Keeping) → AnswersInKind s e k → is_enabled plan s e ≡ true → suc (work_left plan (happens_with plan k s e)) ≤ work_left plan s)
      → HasTurned w e (ran_to new events)
  turned_on e new events able a on law = record {
    plan = a.plan;
    enabled = able;
    events = on;
    work = lower e new able a law;
    state = a.told;
    tells = a.tells;
  }

pub steps_on : (w : Ran) (pick : ℕ) (e : Event) (new : Ran) → e ≡ next_event w.plan w.state pick → length w.events < 2 ^ 28 → HasTurned w e new → HasStepped w pick e new
steps_on w pick e new chosen few t = record {
  plan = t.plan;
  chosen = chosen;
  enabled = t.enabled;
  events = t.events;
  work = t.work;
  state = t.state;
  tells = t.tells;
  few = few;
}

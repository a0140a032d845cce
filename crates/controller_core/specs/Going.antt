-- How an eviction and a snapshot go on.
use Rattle.std.specs.Prelude.{◌≡◌, ℕ, ◌+◌, List, [], ◌∷◌, Option, None, Some}
use Rattle.far_base.specs.declared.log.LogEntry.TheVariants.{Evicted, Kept as KeptNote}
use Rattle.far_base.specs.declared.party.Party.TheVariants.{Switch}
use Rattle.far_base.specs.declared.plan.Config.{Config}
use Rattle.far_base.specs.declared.slot_state.Due.TheVariants.{Stored, Over}
use Rattle.far_base.specs.declared.slot_state.SlotState.TheVariants.{Free, Held}
use Rattle.far_base.specs.declared.record.Record.{Record}
use Rattle.far_model.specs.Controller.{ControllerState, with_state, store_of, drop_want_if, same_part}
use Rattle.far_model.specs.Evictions.{Eviction, Next, Send, Store, Done, Kept, removing}
use Rattle.far_model.specs.Parties.{Turn, idle, to_party}
use Rattle.far_model.specs.Snapshots.{Job}
use Rattle.safe_evict.specs.EvictView.{next_of}
use Rattle.safe_evict.specs.declared.next.Next.{Next as NextStep}

-- the eviction after what comes next
abbrev pub gone_on : Eviction → Next → Eviction
gone_on e (Send packet) = removing e
gone_on e (Store item) = record e { due = Stored; item = item }
gone_on e (Done tries) = record e { due = Over }
gone_on e (Kept tries last) = record e { due = Over }

abbrev pub gone_on_if : Eviction → Option NextStep → Eviction
gone_on_if e None = e
gone_on_if e (Some next) = gone_on e (next_of next)

-- what the controller does next with an eviction that has gone on, if it has
abbrev pub goes_on : Config → ControllerState → Eviction → Next → Turn ControllerState
goes_on config c e (Send packet) = record {
  state = record c { eviction = Some e };
  out = to_party Switch packet ∷ [];
  notes = [];
}
goes_on config c e (Store item) = record {
  state = record c {
    eviction = Some (record e { job = c.next_job });
    next_job = c.next_job + 1;
  };
  out = store_of config c.next_job item ∷ [];
  notes = [];
}
goes_on config c e (Done tries) = record {
  state = record (with_state c e.slot Free) { eviction = None };
  out = [];
  notes = Evicted e.slot e.key tries ∷ [];
}
goes_on config c e (Kept tries last) = record {
  state = drop_want_if e.for_want
      (record (with_state c e.slot (Held e.key e.tag)) { eviction = None });
  out = [];
  notes = KeptNote e.slot e.key last.num ∷ [];
}

abbrev pub goes_on_if : Config → ControllerState → Eviction → Option NextStep → Turn ControllerState
goes_on_if config c e None = idle (record c { eviction = Some e })
goes_on_if config c e (Some next) = goes_on config c e (next_of next)

-- the view is added as the part of the slot
abbrev pub same_with : Config → ControllerState → ℕ → ℕ → Option Record → Option Job → Turn ControllerState
same_with config c id i view None = idle c
same_with config c id i view (Some job) = same_part config c id i job (Some view)

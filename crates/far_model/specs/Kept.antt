-- What outlives a loss of the switch's memory, and what a recovery that begins there has to leave.
use Rattle.std.specs.Prelude.{ℕ, suc, List, [], ◌∷◌, ◌++◌, map}
use Rattle.far_base.specs.PlanView.{PlanView}
use Rattle.far_base.specs.declared.event.Event.{Event}
use Rattle.far_base.specs.declared.event.Event.TheVariants.{Recover}
use Rattle.far_base.specs.declared.kept.KeptItem.{KeptItem}
use Rattle.far_base.specs.declared.kept.KeptPlace.{KeptPlace}
use Rattle.far_base.specs.declared.kept.KeptPlace.TheVariants.{Snap, Server, Client}
use Rattle.far_base.specs.declared.record.Record.{Record}
use Rattle.far_model.specs.Clients.{ClientState}
use Rattle.far_model.specs.Events.{happens}
use Rattle.far_model.specs.History.{IsNewestPerKey}
use Rattle.far_model.specs.KeyedRecords.{by_key}
use Rattle.far_model.specs.Snapshots.{view_records}
use Rattle.far_model.specs.State.{State, opening}

abbrev pub placed_in : KeptPlace → List Record → List KeptItem
placed_in place records = map (λ (r : Record). record { place = place; rec = r }) records

abbrev pub server_items : ℕ → List (List Record) → List KeptItem
server_items n [] = []
server_items n (records ∷ servers) = placed_in (Server n) (by_key records) ++ server_items (suc n) servers

abbrev pub client_items : ℕ → List ClientState → List KeptItem
client_items n [] = []
client_items n (client ∷ clients) = placed_in (Client n) client.preserved ++ client_items (suc n) clients

-- the last completed snapshot by slot, the servers' records by server and key, and the clients' preserved records in
-- their order
abbrev pub kept_records : State → List KeptItem
kept_records s = placed_in Snap (view_records s.controller.last.views) ++ server_items 0 s.servers
    ++ client_items 0 s.clients

abbrev pub records_in : List KeptItem → List Record
records_in items = map (λ (item : KeptItem). item.rec) items

-- what a recovery that begins in this state has to leave
abbrev pub IsRecoveredMap : State → List Record → Type 0
IsRecoveredMap s recovered = IsNewestPerKey (records_in (kept_records s)) recovered

-- the kept list of the recovery that begins in this state, or else the one that there was
abbrev pub kept_by : State → Event → List KeptItem → List KeptItem
kept_by s Recover kept = kept_records s
kept_by s _ kept = kept

abbrev pub kept_after : PlanView → State → List KeptItem → List Event → List KeptItem
kept_after plan s kept [] = kept
kept_after plan s kept (e ∷ es) = kept_after plan (happens plan s e) (kept_by s e kept) es

-- the kept list of the state in which the recovery began that these events of a run have begun last
abbrev pub kept_at_recovery : PlanView → List Event → List KeptItem
kept_at_recovery plan events = kept_after plan (opening plan) [] events

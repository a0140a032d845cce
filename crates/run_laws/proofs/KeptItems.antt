-- The items of a kept list are of written records with small numbers, and agree.
use Rattle.std.proofs.Common.{◌≡◌, ℕ, suc, ◌+◌, ◌^◌, ◌<◌, ◌≤◌, inl, inr, List, [], ◌∷◌, ◌++◌, length, ap, subst, arith}
use Rattle.std.specs.Prelude.{Option, Some, None}
use Rattle.far_base.specs.Limits.{IsPlan}
use Rattle.far_base.specs.PlanView.{PlanView}
use Rattle.far_base.specs.declared.event.Event.{Event}
use Rattle.far_base.specs.declared.kept.KeptItem.{KeptItem}
use Rattle.far_base.specs.declared.kept.KeptPlace.{KeptPlace}
use Rattle.far_base.specs.declared.kept.KeptPlace.TheVariants.{Snap, Server, Client}
use Rattle.far_base.specs.declared.record.Record.{Record}
use Rattle.far_invariants.specs.DrawnNumbers.{ViewsWithin}
use Rattle.far_invariants.specs.Past.{past_of}
use Rattle.far_invariants.specs.Records.{IsRecord, RecordsEverywhere}
use Rattle.far_invariants.specs.Room.{HasRoom}
use Rattle.far_model.proofs.Members.{among_map, each_among, each_from_among}
use Rattle.far_model.proofs.Runs.{kept_events_run}
use Rattle.far_model.specs.Clients.{ClientState}
use Rattle.far_model.specs.History.{Agree}
use Rattle.far_model.specs.Kept.{client_items, kept_records, placed_in, records_in, server_items}
use Rattle.far_model.specs.KeyedRecords.{by_key}
use Rattle.far_model.specs.Members.{Among, Each}
use Rattle.far_model.specs.Replies.{ceiling_with, kept_events}
use Rattle.far_model.specs.Runs.{IsRun, run}
use Rattle.far_model.specs.Snapshots.{view_records}
use Rattle.far_model.specs.State.{State, opening}
use Rattle.flight_laws.proofs.Ceilings.{kept_is_run, opening_within_none}
use Rattle.flight_laws.proofs.Roomy.{run_has_room}
use Rattle.recovery_laws.proofs.KeptLists.{FromClient, FromServer, FromSnapshot, KeptFrom, kept_from}
use Rattle.run_laws.proofs.Blocks.{each_append}
use Rattle.run_laws.proofs.Steps.{holds}
use Rattle.run_laws.proofs.Whole.{agree, everywhere}
use Rattle.run_laws.specs.KeptItems.{IsKeptItem, IsPlaceIn}

-- ---- places

module _ (plan : PlanView) where
  abbrev Stands : KeptItem → Type 0
  Stands item = IsPlaceIn plan item.place

  placed : (place : KeptPlace) (records : List Record) → IsPlaceIn plan place → Each Stands (placed_in place records)
  placed place [] h = tt
  placed place (r ∷ rs) h = (h, placed place rs h)

  servers_placed : (n : ℕ) (servers : List (List Record)) → Each Stands (server_items n servers)
  servers_placed n [] = tt
  servers_placed n (records ∷ servers) = each_append Stands (placed_in (Server n) (by_key records)) (server_items (suc n) servers) (placed (Server n) (by_key records) tt) (servers_placed (suc n) servers)

  clients_placed : (n : ℕ) (clients : List ClientState) → n + length clients ≤ plan.config.clients → Each Stands (client_items n clients)
  clients_placed n [] h = tt
  clients_placed n (client ∷ clients) h = each_append Stands (placed_in (Client n) client.preserved) (client_items (suc n) clients) (placed (Client n) client.preserved (omega (arith, h))) (clients_placed (suc n) clients (omega (arith, h)))

  all_placed : (s : State) → length s.clients ≡ plan.config.clients → Each Stands (kept_records s)
  all_placed s e = each_append Stands (placed_in Snap (view_records s.controller.last.views) ++ server_items 0 s.servers) (client_items 0 s.clients)
      (each_append Stands (placed_in Snap (view_records s.controller.last.views)) (server_items 0 s.servers) (placed Snap (view_records s.controller.last.views) tt) (servers_placed 0 s.servers))
      (clients_placed 0 s.clients (omega (arith, e)))

-- ---- numbers

view_within : (n : ℕ) (views : List (Option Record)) (r : Record) → ViewsWithin n views → Among r (view_records views) → r.num ≤ n
view_within n [] r h a = absurd a
view_within n (None ∷ views) r h a = view_within n views r h.1 a
view_within n (Some x ∷ views) r h (inl e) = let top = h.0 in let same = ap (λ (w : Record). w.num) e in omega (arith, top, same)
view_within n (Some x ∷ views) r h (inr a) = view_within n views r h.1 a

-- ---- at the end of a run

module _ (plan : PlanView) (events : List Event) (valid : IsPlan plan) (runs : IsRun plan (opening plan) events) where
  abbrev here : State
  here = run plan (opening plan) events

  its_written : RecordsEverywhere plan here
  its_written = everywhere plan (past_of plan events) here valid (holds plan events valid runs)

  room : HasRoom plan (ceiling_with plan 0 (opening plan) (kept_events plan (opening plan) events)) here
  room = subst (HasRoom plan (ceiling_with plan 0 (opening plan) (kept_events plan (opening plan) events))) (kept_events_run plan (opening plan) events)
      (run_has_room plan (kept_events plan (opening plan) events) valid (kept_is_run plan 0 (opening plan) events (opening_within_none plan) runs))

  kept_written : (r : Record) → Among r (records_in (kept_records here)) → IsRecord plan here r
  kept_written r a = go (kept_from here r a)
    where
      go : KeptFrom here r → IsRecord plan here r
      go (FromSnapshot b) = its_written.last r b
      go (FromServer b) = its_written.servers b.n r b.there
      go (FromClient b) = its_written.preserved b.c r b.there

  kept_small : (r : Record) → Among r (records_in (kept_records here)) → r.num < 2 ^ 28
  kept_small r a = let most = go (kept_from here r a) in let steps = room.steps in let small = room.small in omega (arith, most, steps, small)
    where
      go : KeptFrom here r → r.num ≤ here.steps
      go (FromSnapshot b) = view_within here.steps here.controller.last.views r room.numbers.controller.views b
      go (FromServer b) = each_among (λ (x : Record). x.num ≤ here.steps) r _ (room.numbers.servers b.n) b.there
      go (FromClient b) = each_among (λ (x : Record). x.num ≤ here.steps) r _ (room.numbers.clients b.c).preserved b.there

  pub kept_items : Each (IsKeptItem plan here) (kept_records here)
  kept_items = each_from_among (IsKeptItem plan here) (kept_records here) (λ item a.
      let there : Among item.rec (records_in (kept_records here)) = among_map (λ (x : KeptItem). x.rec) item (kept_records here) a in
      record {
        place = each_among (Stands plan) item (kept_records here) (all_placed plan here (holds plan events valid runs).flight.routed.clients) a;
        written = kept_written item.rec there;
        small = kept_small item.rec there;
      })

  pub kept_agree : Agree (records_in (kept_records here))
  kept_agree a b x y key num = agree plan (past_of plan events) here valid (holds plan events valid runs) a b (kept_written a x) (kept_written b y) key num

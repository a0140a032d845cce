-- What a run draws and sends has room.
use Rattle.far_invariants.specs.Flights.{IsInFlight}
use Rattle.std.proofs.Common.{◌≡◌, ℕ, ◌+◌, ◌≤◌, Bool, false, List, [], ◌∷◌, length, map, refl, ap, arith}
use Rattle.std.specs.List.{count_by}
use Rattle.far_base.specs.Limits.{IsPlan}
use Rattle.far_base.specs.PlanView.{PlanView}
use Rattle.far_base.specs.declared.log.LogEntry.{LogEntry}
use Rattle.far_base.specs.declared.log.LogEntry.TheVariants.{Sent, Numbered, Emitted, Answered, Admitted, Evicted, Kept, Snapped, SnapItem, Stopped, Recovered, RecItem}
use Rattle.far_base.specs.declared.log.LogLine.{LogLine}
use Rattle.far_base.specs.declared.packet.Message.{Message}
use Rattle.far_model.specs.Clients.{line_of}
use Rattle.far_base.specs.declared.event.Event.{Event}
use Rattle.far_base.specs.declared.record.Record.{Record}
use Rattle.far_model.specs.Events.{Keeping, happens_with, recovery_items}
use Rattle.far_model.specs.Members.{Each}
use Rattle.far_model.specs.Replies.{IsRunWith, KeptEvent, ceiling_after, ceiling_with, run_with}
use Rattle.far_model.specs.State.{State, line_at, noted, now, opening}
use Rattle.far_invariants.specs.DrawnNumbers.{drawn_count, is_numbering}
use Rattle.far_invariants.specs.Notes.{EventNotes, IsOfNone, OfAnswer, OfNone, OfPass, OfRestart, OfSending}
use Rattle.far_invariants.specs.Room.{HasRoom}
use Rattle.far_invariants.specs.Sizes.{is_store}
use Rattle.flight_laws.proofs.Bounds.{bound_small, opening_within}
use Rattle.flight_laws.proofs.Counts.{count_append, count_cons, counted_false}
use Rattle.flight_laws.proofs.Drawing.{opens_in, run_in, within_more}
use Rattle.flight_laws.proofs.Handling.{flight_opens, flight_step}
use Rattle.flight_laws.proofs.Lists.{by_test}
use Rattle.flight_laws.proofs.Noting.{event_notes}
use Rattle.flight_laws.proofs.Rooms.{bag_within_work, opens_draws, run_draws}
use Rattle.flight_laws.proofs.Steps.{run_spends, sound_opens, sound_run, sound_works}
use Rattle.flight_laws.proofs.Working.{step_counted}

-- ---- one number a step at most

abbrev numbering : LogLine → Bool
numbering l = is_numbering l.entry

mapped_count : (moment : ℕ) (notes : List LogEntry) → count_by numbering (map (line_at moment) notes) ≡ count_by is_numbering notes
mapped_count moment [] = refl
mapped_count moment (e ∷ es) =
    let a = count_cons numbering (line_at moment e) (map (line_at moment) es) in
    let b = count_cons is_numbering e es in
    let c = mapped_count moment es in
    omega (arith, a, b, c)

none_counted : (notes : List LogEntry) → Each IsOfNone notes → count_by is_numbering notes ≡ 0
none_counted [] h = refl
none_counted (e ∷ es) h = let a = count_cons is_numbering e es in let b = counted_false is_numbering e (one e h.0) in let c = none_counted es h.1 in omega (arith, a, b, c)
  where
    one : (e : LogEntry) → IsOfNone e → is_numbering e ≡ false
    one (Sent op line) k = absurd k
    one (Numbered op num) k = absurd k
    one (Emitted op num body near) k = absurd k
    one (Answered op) k = absurd k
    one (Admitted slot key tag) k = refl
    one (Evicted slot key tries) k = refl
    one (Kept slot key num) k = refl
    one (Snapped id point count same) k = refl
    one (SnapItem slot item) k = refl
    one Stopped k = refl
    one (Recovered counter count) k = absurd k
    one (RecItem item) k = absurd k

items_counted : (records : List Record) → count_by is_numbering (recovery_items records) ≡ 0
items_counted [] = refl
items_counted (r ∷ rs) = let a = count_cons is_numbering (RecItem r) (recovery_items rs) in let b = items_counted rs in omega (arith, a, b)

noted_few : (s t : State) (notes : List LogEntry) → t.log ≡ noted s notes → count_by is_numbering notes ≤ 1 → drawn_count t.log ≤ drawn_count s.log + 1
noted_few s t notes log few =
    let a = ap (λ (l : List LogLine). drawn_count l) log in
    let b = count_append numbering s.log (map (line_at (now s)) notes) in
    let c = mapped_count (now s) notes in
    omega (arith, a, b, c, few)

notes_few : (plan : PlanView) (k : Keeping) (s : State) (e : Event) (t : State) → EventNotes plan k s e t → drawn_count t.log ≤ drawn_count s.log + 1
notes_few plan k s e t (OfSending c op left none is log are) = noted_few s t (Sent op (line_of plan.ops op) ∷ []) log (omega arith)
notes_few plan k s e t (OfAnswer c op waits log are) = noted_few s t (Answered op ∷ []) log (omega arith)
notes_few plan k s e t (OfPass c op notes waits log each few on) = noted_few s t notes log few
notes_few plan k s e t (OfNone notes log each on) = noted_few s t notes log (let z = none_counted notes each in omega (arith, z))
notes_few plan k s e t (OfRestart counter is able log on) = noted_few s t (Recovered counter (length k.records) ∷ recovery_items k.records) log
    (let a = count_cons is_numbering (Recovered counter (length k.records)) (recovery_items k.records) in let b = items_counted k.records in omega (arith, a, b))

counted_run : (plan : PlanView) (ceiling : ℕ) (s : State) (events : List KeptEvent) → IsInFlight plan s → drawn_count s.log ≤ s.steps → IsRunWith plan ceiling s events
    → drawn_count (run_with plan s events).log ≤ (run_with plan s events).steps
counted_run plan ceiling s [] h b r = b
counted_run plan ceiling s (e ∷ es) h b r =
    let t : State = happens_with plan e.keeping s e.event in
    let few = notes_few plan e.keeping s e.event t (event_notes plan e.keeping s h.routed h.one e.event r.0) in
    let one = step_counted plan e.keeping s e.event r.0 in
    counted_run plan (ceiling_after s e.event ceiling) t es (flight_step plan e.keeping s e.event h r.1.kind r.0) (omega (arith, few, one, b)) r.2

-- ---- room

stores_within : (bag : List Message) → count_by (λ (m : Message). is_store m.packet) bag ≤ length bag
stores_within [] = omega arith
stores_within (m ∷ ms) = let a = count_cons (λ (m : Message). is_store m.packet) m ms in let b = stores_within ms in let c = by_test (λ n. n ≤ 1) (is_store m.packet) 1 0 (omega arith) (omega arith) in omega (arith, a, b, c)

pub run_has_room : (plan : PlanView) (events : List KeptEvent) → IsPlan plan → IsRunWith plan 0 (opening plan) events
    → HasRoom plan (ceiling_with plan 0 (opening plan) events) (run_with plan (opening plan) events)
run_has_room plan events valid r =
    let t : State = run_with plan (opening plan) events in
    let draws = run_draws plan 0 (opening plan) events (opens_draws plan) r in
    let spends = run_spends plan 0 (opening plan) events valid (sound_opens plan) r in
    let bound = opening_within plan in
    let bag = bag_within_work plan t (sound_works plan t (sound_run plan 0 (opening plan) events valid (sound_opens plan) r)) in
    let stores = stores_within t.bag in
    let jobs = draws.jobs in
    let counted = counted_run plan 0 (opening plan) events (flight_opens plan) (omega arith) r in
    record {
      small = bound_small plan valid;
      steps = omega (arith, spends, bound);
      bag = bag;
      tags = draws.tags;
      ids = draws.ids;
      rounds = draws.rounds;
      epochs = draws.epochs;
      jobs = omega (arith, jobs, bag, stores);
      numbers = within_more (drawn_count t.log) t.steps _ t counted (run_in plan 0 (opening plan) events (opens_in plan) r);
    }

-- The log tells of each restart, in order; each left the newest of what was kept, no older than any answer before.
use Rattle.far_invariants.specs.Covers.{look}
use Rattle.far_invariants.specs.Holds.{Holds}
use Rattle.std.proofs.Common.{◌≡◌, ◌≢◌, ℕ, zero, suc, ◌+◌, ◌<◌, ◌≤◌, ◌⊎◌, inl, inr, true, false, leb, List, [], ◌∷◌, ◌++◌, length, map, refl, sym, ap, ◌∙◌, subst, arith, le_trans}
use Rattle.std.specs.Prelude.{Option, None, Some, is_some}
use Rattle.std.specs.Ordering.{nat_cmp}
use Rattle.std.specs.Cmp.Lexicographic.{slice_cmp}
use Rattle.std.proofs.lemmas.Bool.Decides.{leb_tells}
use Rattle.std.proofs.lemmas.List.{append_assoc, append-nil}
use Rattle.far_base.specs.Limits.{IsPlan}
use Rattle.far_base.specs.PlanView.{PlanView}
use Rattle.far_base.specs.declared.event.Event.{Event}
use Rattle.far_base.specs.declared.event.Event.TheVariants.{Send, Deliver, Tick, Recover, Restart, Order as OrderOf}
use Rattle.far_base.specs.declared.kept.KeptItem.{KeptItem}
use Rattle.far_base.specs.declared.log.LogEntry.{LogEntry}
use Rattle.far_base.specs.declared.log.LogEntry.TheVariants.{Sent, Answered, Recovered}
use Rattle.far_base.specs.declared.log.LogLine.{LogLine}
use Rattle.far_base.specs.declared.record.Record.{Record}
use Rattle.far_model.specs.Blocks.{RecoveredBlock, block_at, recovered_blocks, recovered_items}
use Rattle.far_model.specs.Clients.{line_of}
use Rattle.far_model.specs.Controller.{ready}
use Rattle.far_model.specs.Events.{all_listed, all_records, happens, is_enabled, keeping_of, recovery_items, restarts}
use Rattle.far_model.specs.History.{IsKeyBefore, IsNewestPerKey}
use Rattle.far_model.specs.Kept.{kept_after, kept_at_recovery, records_in}
use Rattle.far_model.specs.KeyedRecords.{found}
use Rattle.far_model.specs.Log.{exposed}
use Rattle.far_model.specs.Members.{Each, Pairs}
use Rattle.far_model.specs.Runs.{IsRun, run}
use Rattle.far_model.specs.State.{State, line_at, noted, now, opening, records_at}
use Rattle.far_model.specs.View.{server_of}
use Rattle.far_model.proofs.Runs.{is_run_left, is_run_right, run_append}
use Rattle.far_invariants.proofs.Records.{Apart, by_key_there, found_member, found_some}
use Rattle.far_invariants.specs.Notes.{EventNotes, IsOfNone, IsPassNote, OfAnswer, OfNone, OfPass, OfRestart, OfSending}
use Rattle.far_invariants.specs.Past.{Past, no_past, past_from, past_of, remembers}
use Rattle.far_invariants.specs.Recoveries.{BlockIsRestart, BlocksAreRestarts, last_or, recovered_last}
use Rattle.flight_laws.proofs.Lists.{each_map}
use Rattle.flight_laws.proofs.Noting.{event_notes}
use Rattle.history_laws.proofs.Unique.{key_strict}
use Rattle.record_laws.proofs.Meanings.{log_sound}
use Rattle.recovery_laws.proofs.Begun.{is_restart}
use Rattle.recovery_laws.proofs.Exposing.{exposed_within}
use Rattle.recovery_laws.proofs.KeptLists.{all_there}
use Rattle.recovery_laws.proofs.Laws.{restart_restores}
use Rattle.run_laws.proofs.Holding.{seats_need, stops_need}
use Rattle.run_laws.proofs.Steps.{holds}
use Rattle.run_laws.specs.RestartBlocks.{block_by, block_with, restart_blocks}

-- ---- blocks of a log that grows

-- how many records follow
abbrev needed : LogEntry → ℕ
needed (Recovered counter count) = count
needed _ = 0

abbrev AreWhole : List LogLine → Type 0
AreWhole [] = Unit {0}
AreWhole (l ∷ ls) = (needed l.entry ≤ length ls) × AreWhole ls

length_both : (xs ys : List LogLine) → length (xs ++ ys) ≡ length xs + length ys
length_both [] ys = omega arith
length_both (x ∷ xs) ys = let e = length_both xs ys in omega (arith, e)

items_append : (count : ℕ) (xs ys : List LogLine) → count ≤ length xs → recovered_items count (xs ++ ys) ≡ recovered_items count xs
items_append zero xs ys h = refl
items_append (suc count) [] ys h = absurd (omega (arith, h))
items_append (suc count) (x ∷ xs) ys h = ap (λ rest. Rattle.far_model.specs.Blocks.recovered_item x.entry ++ rest) (items_append count xs ys (omega (arith, h)))

block_append : (moment : ℕ) (e : LogEntry) (xs ys : List LogLine) → needed e ≤ length xs → block_at moment e (xs ++ ys) ≡ block_at moment e xs
block_append moment (Recovered counter count) xs ys h = ap (λ rs. record { moment = moment; counter = counter; records = rs } ∷ []) (items_append count xs ys h)
block_append moment _ xs ys h = refl

blocks_append : (xs ys : List LogLine) → AreWhole xs → recovered_blocks (xs ++ ys) ≡ recovered_blocks xs ++ recovered_blocks ys
blocks_append [] ys h = refl
blocks_append (x ∷ xs) ys h =
    ap (λ b. b ++ recovered_blocks (xs ++ ys)) (block_append x.moment x.entry xs ys h.0)
    ∙ ap (λ b. block_at x.moment x.entry xs ++ b) (blocks_append xs ys h.1)
    ∙ sym (append_assoc (block_at x.moment x.entry xs) (recovered_blocks xs) (recovered_blocks ys))

whole_append : (xs ys : List LogLine) → AreWhole xs → AreWhole ys → AreWhole (xs ++ ys)
whole_append [] ys h k = k
whole_append (x ∷ xs) ys h k = (let b = h.0 in let e = length_both xs ys in omega (arith, b, e), whole_append xs ys h.1 k)

-- ---- notes

abbrev IsNoBlock : LogEntry → Type 0
IsNoBlock (Recovered counter count) = ⊥
IsNoBlock _ = Unit {0}

plain_blocks : (moment : ℕ) (notes : List LogEntry) → Each IsNoBlock notes → (recovered_blocks (map (line_at moment) notes) ≡ []) × AreWhole (map (line_at moment) notes)
plain_blocks moment [] h = (refl, tt)
plain_blocks moment (e ∷ es) h = go e h.0 (plain_blocks moment es h.1)
  where
    go : (e : LogEntry) → IsNoBlock e → (recovered_blocks (map (line_at moment) es) ≡ []) × AreWhole (map (line_at moment) es)
        → (recovered_blocks (map (line_at moment) (e ∷ es)) ≡ []) × AreWhole (map (line_at moment) (e ∷ es))
    go (Recovered counter count) n p = absurd n
    go _ n p = (p.0, (omega arith, p.1))

items_plain : (records : List Record) → Each IsNoBlock (recovery_items records)
items_plain [] = tt
items_plain (r ∷ rs) = (tt, items_plain rs)

items_back : (moment : ℕ) (records : List Record) → recovered_items (length records) (map (line_at moment) (recovery_items records)) ≡ records
items_back moment [] = refl
items_back moment (r ∷ rs) = ap (λ rest. r ∷ rest) (items_back moment rs)

items_length : (moment : ℕ) (records : List Record) → length (map (line_at moment) (recovery_items records)) ≡ length records
items_length moment [] = refl
items_length moment (r ∷ rs) = let e = items_length moment rs in omega (arith, e)

none_plain : (e : LogEntry) → IsOfNone e → IsNoBlock e
none_plain (Recovered counter count) h = h
none_plain _ h = tt

pass_plain : (op : ℕ) (e : LogEntry) → IsPassNote op e → IsNoBlock e
pass_plain op (Recovered counter count) h = h
pass_plain op _ h = tt

-- ---- the kept list

recovered_is : (plan : PlanView) (s : State) (p : Past) (kept : List KeptItem) (events : List Event) → last_or [] p.recoveries ≡ kept
    → last_or [] (past_from plan s p events).recoveries ≡ kept_after plan s kept events
recovered_is plan s p kept [] h = h
recovered_is plan s p kept (e ∷ es) h = recovered_is plan (happens plan s e) (remembers s p e) (Rattle.far_model.specs.Kept.kept_by s e kept) es (by e)
  where
    last : (d : List KeptItem) (xs : List (List KeptItem)) (x : List KeptItem) → last_or d (xs ++ x ∷ []) ≡ x
    last d [] x = refl
    last d (y ∷ ys) x = last y ys x

    by : (e : Event) → last_or [] (remembers s p e).recoveries ≡ Rattle.far_model.specs.Kept.kept_by s e kept
    by Recover = last [] p.recoveries (Rattle.far_model.specs.Kept.kept_records s)
    by (Send c) = ap (last_or []) (append-nil p.recoveries) ∙ h
    by (Deliver i) = ap (last_or []) (append-nil p.recoveries) ∙ h
    by Tick = ap (last_or []) (append-nil p.recoveries) ∙ h
    by Restart = ap (last_or []) (append-nil p.recoveries) ∙ h
    by (OrderOf j) = ap (last_or []) (append-nil p.recoveries) ∙ h

-- ---- a restart

pairs_part : {A : Type 0} (R S : A → A → Type 0) (xs : List A) → ((x y : A) → R x y → S x y) → Pairs R xs → Pairs S xs
pairs_part R S [] f h = tt
pairs_part R S (x ∷ xs) f h = (each_map (R x) (S x) xs (f x) h.0, pairs_part R S xs f h.1)

keys_apart : (a b : Record) → IsKeyBefore a b → Apart a b
keys_apart a b h e = key_strict a b h (ap (λ k. slice_cmp nat_cmp k a.key) (sym e) ∙ ap (λ k. slice_cmp nat_cmp a.key k) e ∙ h)

module _ (plan : PlanView) (before : List Event) (valid : IsPlan plan) (runs : IsRun plan (opening plan) before) where
  abbrev here : State
  here = run plan (opening plan) before

  its : Holds plan (past_of plan before) here
  its = holds plan before valid runs

  restorable : (counter : ℕ) → ready here.controller ≡ Some counter → Rattle.far_invariants.specs.SeatNeeds.IsRestorable plan here counter
  restorable counter able = (seats_need plan (past_of plan before) here valid its).restorable counter able

  -- the servers have the newest of what was kept
  pub restart_newest : is_some (ready here.controller) ≡ true → IsNewestPerKey (records_in (kept_at_recovery plan before)) (all_listed here.servers)
  restart_newest can = subst (λ k. IsNewestPerKey k (all_listed here.servers)) kept_is restored.newest
    where
      restored : Rattle.far_invariants.specs.Restarts.IsRestored plan (recovered_last (past_of plan before)) here (happens plan here Restart)
      restored = restart_restores plan (recovered_last (past_of plan before)) here its.stops (stops_need plan (past_of plan before) here valid its) can

      kept_is : recovered_last (past_of plan before) ≡ records_in (kept_at_recovery plan before)
      kept_is = ap records_in (recovered_is plan (opening plan) no_past [] before refl)

  restart_block : (counter : ℕ) (later : List Event) → ready here.controller ≡ Some counter
      → BlockIsRestart plan (before ++ Restart ∷ later) (record { moment = now here; counter = counter; records = all_listed here.servers })
  restart_block counter later able = record {
    earlier = before;
    later = later;
    split = refl;
    moment_is = refl;
    listed = refl;
    newest = newest;
    no_older = no_older;
    counter = (restorable counter able).own;
  }
    where
      newest : IsNewestPerKey (records_in (kept_at_recovery plan before)) (all_listed here.servers)
      newest = restart_newest (ap is_some able)

      listed_more : (key : List ℕ) → (look plan here key).num ≤ (found (all_listed here.servers) key).num
      listed_more key = by (leb_tells (look plan here key).num 0)
        where
          by : ((leb (look plan here key).num 0 ≡ true) × ((look plan here key).num ≤ 0)) ⊎ ((leb (look plan here key).num 0 ≡ false) × (0 < (look plan here key).num)) → (look plan here key).num ≤ (found (all_listed here.servers) key).num
          by (inl z) = let b = z.1 in omega (arith, b)
          by (inr p) =
              let f = found_some (records_at here (server_of plan.config key)) key p.1 in
              let there = by_key_there f.item (all_records here.servers) (all_there here.servers (server_of plan.config key) f.item f.there) in
              let same = found_member f.item (all_listed here.servers) (pairs_part IsKeyBefore Apart (all_listed here.servers) keys_apart newest.ordered) there in
              let num = ap (λ (w : Rattle.far_base.specs.declared.record.Versioned.Versioned). w.num) same in
              let key_is = ap (λ k. (found (all_listed here.servers) k).num) f.on_key in
              let its_num = ap (λ (w : Rattle.far_base.specs.declared.record.Versioned.Versioned). w.num) f.is in
              omega (arith, num, key_is, its_num)

      no_older : (key : List ℕ) (moment : ℕ) → exposed here.log key moment ≤ (found (all_listed here.servers) key).num
      no_older key moment = le_trans (exposed_within plan here.log (log_sound plan here its.keeps).by_plan key moment _ ((restorable counter able).shown key)) (listed_more key)

-- ---- all restarts

pub restart_append : (plan : PlanView) (s : State) (xs ys : List Event) → restart_blocks plan s (xs ++ ys) ≡ restart_blocks plan s xs ++ restart_blocks plan (run plan s xs) ys
restart_append plan s [] ys = refl
restart_append plan s (e ∷ es) ys = ap (λ b. block_by s e ++ b) (restart_append plan (happens plan s e) es ys)
    ∙ sym (append_assoc (block_by s e) (restart_blocks plan (happens plan s e) es) (restart_blocks plan (run plan (happens plan s e) es) ys))

pub no_block : (s : State) (e : Event) → e ≢ Restart → block_by s e ≡ []
no_block s Restart h = absurd (h refl)
no_block s (Send c) h = refl
no_block s (Deliver i) h = refl
no_block s Tick h = refl
no_block s Recover h = refl
no_block s (OrderOf j) h = refl

-- a restart that is possible has its counter
pub counter_of : (s : State) → is_some (ready s.controller) ≡ true → (counter : ℕ) × (ready s.controller ≡ Some counter)
counter_of s can = go (ready s.controller) refl can
  where
    go : (o : Option ℕ) → ready s.controller ≡ o → is_some o ≡ true → (counter : ℕ) × (ready s.controller ≡ Some counter)
    go None e k = absurd cc
    go (Some counter) e k = (counter, e)

-- ---- every event

record Blocks (plan : PlanView) (events : List Event) (s : State) : Type 0 where
  whole : AreWhole s.log
  told : recovered_blocks s.log ≡ restart_blocks plan (opening plan) events

module _ (plan : PlanView) (before : List Event) (h : Blocks plan before (run plan (opening plan) before)) where
  abbrev now_here : State
  now_here = run plan (opening plan) before

  abbrev so_far : List RecoveredBlock
  so_far = restart_blocks plan (opening plan) before

  one_more : (e : Event) → restart_blocks plan (opening plan) (before ++ e ∷ []) ≡ so_far ++ block_by now_here e
  one_more e = restart_append plan (opening plan) before (e ∷ []) ∙ ap (λ b. so_far ++ b) (append-nil (block_by now_here e))

  plainly : (e : Event) (t : State) (notes : List LogEntry) → e ≢ Restart → t.log ≡ noted now_here notes → Each IsNoBlock notes → Blocks plan (before ++ e ∷ []) t
  plainly e t notes other log plain =
      let lines = map (line_at (now now_here)) notes in
      let p = plain_blocks (now now_here) notes plain in
      record {
        whole = subst AreWhole (sym log) (whole_append now_here.log lines h.whole p.1);
        told = ap recovered_blocks log ∙ blocks_append now_here.log lines h.whole ∙ ap (λ b. recovered_blocks now_here.log ++ b) p.0 ∙ append-nil (recovered_blocks now_here.log)
            ∙ h.told ∙ sym (append-nil so_far) ∙ sym (one_more e ∙ ap (λ b. so_far ++ b) (no_block now_here e other));
      }

  restarted : (counter : ℕ) → ready now_here.controller ≡ Some counter → Blocks plan (before ++ Restart ∷ []) (happens plan now_here Restart)
  restarted counter able =
      let records = all_listed now_here.servers in
      let lines = map (line_at (now now_here)) (Recovered counter (length records) ∷ recovery_items records) in
      let log : (happens plan now_here Restart).log ≡ now_here.log ++ lines = ap (λ o. (restarts plan (keeping_of now_here Restart) now_here o).log) able in
      let p = plain_blocks (now now_here) (recovery_items records) (items_plain records) in
      let block : RecoveredBlock = record { moment = now now_here; counter = counter; records = records } in
      let one : recovered_blocks lines ≡ block ∷ [] =
      ap (λ rs. record { moment = now now_here; counter = counter; records = rs } ∷ recovered_blocks (map (line_at (now now_here)) (recovery_items records))) (items_back (now now_here) records)
      ∙ ap (λ b. block ∷ b) p.0 in
      record {
        whole = subst AreWhole (sym log) (whole_append now_here.log lines h.whole (let n = items_length (now now_here) records in omega (arith, n), p.1));
        told = ap recovered_blocks log ∙ blocks_append now_here.log lines h.whole ∙ ap (λ b. recovered_blocks now_here.log ++ b) one ∙ ap (λ b. b ++ block ∷ []) h.told
            ∙ sym (one_more Restart ∙ ap (λ o. so_far ++ block_with now_here o) able);
      }

  grows : (e : Event) → is_enabled plan now_here e ≡ true → EventNotes plan (keeping_of now_here e) now_here e (happens plan now_here e) → Blocks plan (before ++ e ∷ []) (happens plan now_here e)
  grows e can notes = go (is_restart e) notes
    where
      go : (e ≡ Restart) ⊎ (e ≢ Restart) → EventNotes plan (keeping_of now_here e) now_here e (happens plan now_here e) → Blocks plan (before ++ e ∷ []) (happens plan now_here e)
      go (inl is) n =
          let able = counter_of now_here (subst (λ (w : Event). is_enabled plan now_here w ≡ true) is can) in
          subst (λ (w : Event). Blocks plan (before ++ w ∷ []) (happens plan now_here w)) (sym is) (restarted able.0 able.1)
      go (inr other) (OfSending c op left none is log are) = plainly e (happens plan now_here e) (Sent op (line_of plan.ops op) ∷ []) other log (tt, tt)
      go (inr other) (OfAnswer c op waits log are) = plainly e (happens plan now_here e) (Answered op ∷ []) other log (tt, tt)
      go (inr other) (OfPass c op notes waits log each few on) = plainly e (happens plan now_here e) notes other log (each_map (IsPassNote op) IsNoBlock notes (pass_plain op) each)
      go (inr other) (OfNone notes log each on) = plainly e (happens plan now_here e) notes other log (each_map IsOfNone IsNoBlock notes none_plain each)
      go (inr other) (OfRestart counter is able log on) = absurd (other is)

blocks_run : (plan : PlanView) (before after : List Event) → IsPlan plan → IsRun plan (opening plan) (before ++ after) → Blocks plan before (run plan (opening plan) before)
    → Blocks plan (before ++ after) (run plan (opening plan) (before ++ after))
blocks_run plan before [] valid r h = subst (λ es. Blocks plan es (run plan (opening plan) es)) (sym (append-nil before)) h
blocks_run plan before (e ∷ es) valid r h =
    let first = is_run_left plan (opening plan) before (e ∷ es) r in
    let rest = is_run_right plan (opening plan) before (e ∷ es) r in
    let s = run plan (opening plan) before in
    let held = (holds plan before valid first).flight in
    let next = grows plan before h e rest.0 (event_notes plan (keeping_of s e) s held.routed held.one e rest.0) in
    let same : (before ++ e ∷ []) ++ es ≡ before ++ e ∷ es = append_assoc before (e ∷ []) es in
    let there : Blocks plan (before ++ e ∷ []) (run plan (opening plan) (before ++ e ∷ [])) = subst (Blocks plan (before ++ e ∷ [])) (sym (run_append plan (opening plan) before (e ∷ []))) next in
    subst (λ xs. Blocks plan xs (run plan (opening plan) xs)) same (blocks_run plan (before ++ e ∷ []) es valid (subst (λ xs. IsRun plan (opening plan) xs) (sym same) r) there)

pub restarts_are_told : (plan : PlanView) (events : List Event) → IsPlan plan → IsRun plan (opening plan) events → recovered_blocks (run plan (opening plan) events).log ≡ restart_blocks plan (opening plan) events
restarts_are_told plan events valid r = (blocks_run plan [] events valid r (record { whole = tt; told = refl })).told

-- ---- what each of them left

pub each_append : {A : Type 0} (P : A → Type 0) (xs ys : List A) → Each P xs → Each P ys → Each P (xs ++ ys)
each_append P [] ys h k = k
each_append P (x ∷ xs) ys h k = (h.0, each_append P xs ys h.1 k)

each_restart : (plan : PlanView) (before after : List Event) → IsPlan plan → IsRun plan (opening plan) (before ++ after) → Each (BlockIsRestart plan (before ++ after)) (restart_blocks plan (run plan (opening plan) before) after)
each_restart plan before [] valid r = tt
each_restart plan before (e ∷ es) valid r =
    let s = run plan (opening plan) before in
    let first = is_run_left plan (opening plan) before (e ∷ es) r in
    let rest = is_run_right plan (opening plan) before (e ∷ es) r in
    let same : (before ++ e ∷ []) ++ es ≡ before ++ e ∷ es = append_assoc before (e ∷ []) es in
    let more = each_restart plan (before ++ e ∷ []) es valid (subst (λ xs. IsRun plan (opening plan) xs) (sym same) r) in
    let there = subst (λ xs. Each (BlockIsRestart plan xs) (restart_blocks plan (run plan (opening plan) (before ++ e ∷ [])) es)) same more in
    let later = subst (λ (t : State). Each (BlockIsRestart plan (before ++ e ∷ es)) (restart_blocks plan t es)) (run_append plan (opening plan) before (e ∷ [])) there in
    each_append (BlockIsRestart plan (before ++ e ∷ es)) (block_by s e) (restart_blocks plan (happens plan s e) es) (by first (is_restart e) rest.0) later
  where
    by : IsRun plan (opening plan) before → (e ≡ Restart) ⊎ (e ≢ Restart) → is_enabled plan (run plan (opening plan) before) e ≡ true → Each (BlockIsRestart plan (before ++ e ∷ es)) (block_by (run plan (opening plan) before) e)
    by first (inl is) can =
        let able = counter_of (run plan (opening plan) before) (subst (λ (w : Event). is_enabled plan (run plan (opening plan) before) w ≡ true) is can) in
        subst (λ (w : Event). Each (BlockIsRestart plan (before ++ w ∷ es)) (block_by (run plan (opening plan) before) w)) (sym is)
        (subst (λ o. Each (BlockIsRestart plan (before ++ Restart ∷ es)) (block_with (run plan (opening plan) before) o)) (sym able.1) (restart_block plan before valid first able.0 es able.1, tt))
    by first (inr other) can = subst (Each (BlockIsRestart plan (before ++ e ∷ es))) (sym (no_block (run plan (opening plan) before) e other)) tt

pub blocks_are_restarts : (plan : PlanView) (events : List Event) → IsPlan plan → IsRun plan (opening plan) events → BlocksAreRestarts plan events (run plan (opening plan) events)
blocks_are_restarts plan events valid r = subst (Each (BlockIsRestart plan events)) (sym (restarts_are_told plan events valid r)) (each_restart plan [] events valid r)

-- Answers of an eviction, its beginning, and wants that are admitted.
use Rattle.far_invariants.specs.Slots.{IsGiven}
use Rattle.std.proofs.Common.{◌≡◌, ◌≢◌, ℕ, ◌+◌, ◌≤◌, ◌<◌, inl, inr, Bool, true, false, true≢false, cond, ◌&&◌, nat_eq, eq-eqb, eqb-true, List, [], ◌∷◌, drop, refl, sym, ap, ◌∙◌, subst, arith}
use Rattle.std.specs.Prelude.{Option, None, Some}
use Rattle.std.proofs.lemmas.Bool.{and_parts, eqb-false}
use Rattle.std.proofs.lemmas.Option.{none-some, same_Some}
use Rattle.far_base.specs.PlanView.{PlanView}
use Rattle.far_base.specs.declared.log.LogEntry.TheVariants.{Evicted, Kept as KeptNote}
use Rattle.far_base.specs.declared.packet.Message.{Message}
use Rattle.far_base.specs.declared.packet.Packet.TheVariants.{PeekAns, Remove, RemoveAns, Store, Stored}
use Rattle.far_base.specs.declared.party.Party.TheVariants.{Switch, Server}
use Rattle.far_base.specs.declared.record.Record.{Record}
use Rattle.far_base.specs.declared.slot_state.SlotState.TheVariants.{Free, Held}
use Rattle.far_base.specs.declared.slot_state.Due.TheVariants.{Peeked, Stored as StoredDue, Removed}
use Rattle.far_model.specs.Controller.{drop_want_if, evicts_on, peek_answered, removal_answered, with_state}
use Rattle.far_model.specs.Events.{controller_turn}
use Rattle.far_model.specs.Evictions.{Eviction, Store as StoreNext, Kept, TRIES, after_peek, after_removal, after_store, is_due, removing, shown_item, state_at, storing, waits_for, waits_job}
use Rattle.far_invariants.specs.Flights.{OfEviction, OfJob, subject}
use Rattle.far_model.specs.Members.{Among}
use Rattle.far_model.specs.Parties.{idle, to_party}
use Rattle.far_model.specs.State.{State}
use Rattle.far_model.specs.View.{server_of, slot_at}
use Rattle.far_invariants.specs.InFlight.{Emptied, FitsDue, OwnFlies, RoundsFly, TriesFit, is_own}
use Rattle.flight_laws.proofs.ControlWork.{due_is, removing_strange, storing_strange}
use Rattle.flight_laws.proofs.EvictKeeps.{dropped_keeps, dropped_rounds, eis, ends, goes_on, slot_given, strange}
use Rattle.flight_laws.proofs.Moves.{Takes, of_admission, of_round, of_snapshot}
use Rattle.flight_laws.proofs.SwitchKeeps.{Inv}

not_true : (b : Bool) → (b ≡ true → ⊥) → b ≡ false
not_true true h = absurd (h refl)
not_true false h = refl

module _ (plan : PlanView) (s : State) (h : Inv plan s) (rest : List Message) (m : Message) (takes : Takes s.bag rest m) where
  jobs_below : (x : Message) (job : ℕ) → Among x rest → subject x.packet ≡ OfJob job → job < s.controller.next_job
  jobs_below x job a e = h.evictions.jobs x job (takes.members x a) e

  -- the two packets with which an eviction goes on
  removal_goes : (e : Eviction) → s.controller.eviction ≡ Some e → is_own e (subject m.packet) ≡ true → of_admission (subject m.packet) ≡ false → of_snapshot (subject m.packet) ≡ false → e.tries ≤ 2 → (latest : Bool) (num : ℕ)
      → Inv plan (controller_turn s rest (record { state = record s.controller { eviction = Some (removing e) }; out = to_party Switch (Remove e.epoch e.slot e.tag latest num) ∷ []; notes = [] }))
  removal_goes e is own a sn few latest num =
      let ei = eis plan s h rest m takes e is in
      goes_on plan s h rest m takes e is own a sn (removing e) s.controller.next_job Switch (Remove e.epoch e.slot e.tag latest num) [] refl refl refl refl (omega arith, omega (arith, few)) (λ d. absurd cc) (omega arith)
      (removing_strange e rest (strange plan s h rest m takes e is own a sn))
      ((λ z. eq-eqb e.slot e.slot refl z && nat_eq e.tag e.tag) ∙ eq-eqb e.tag e.tag refl)
      (refl, ei.epoch) refl refl (λ n k. absurd cc) (let k = ei.epoch in omega (arith, k)) (λ i t k. (sym (slot_of i t k), sym (tag_of i t k))) (λ job k. absurd cc) (λ v c. tt)
    where
      slot_of : (i t : ℕ) → OfEviction e.slot e.tag ≡ OfEviction i t → e.slot ≡ i
      slot_of i t k = cc

      tag_of : (i t : ℕ) → OfEviction e.slot e.tag ≡ OfEviction i t → e.tag ≡ t
      tag_of i t k = cc

  store_goes : (e : Eviction) → s.controller.eviction ≡ Some e → is_own e (subject m.packet) ≡ true → of_admission (subject m.packet) ≡ false → of_snapshot (subject m.packet) ≡ false → e.tries ≤ 2 → (item : Record)
      → Inv plan (controller_turn s rest (evicts_on plan.config s.controller e (StoreNext item)))
  store_goes e is own a sn few item =
      goes_on plan s h rest m takes e is own a sn (storing s.controller.next_job item e) (s.controller.next_job + 1) (Server (server_of plan.config item.key)) (Store s.controller.next_job item) [] refl refl refl refl few (λ d. omega arith) (omega arith)
      (storing_strange e s.controller.next_job item rest (strange plan s h rest m takes e is own a sn) jobs_below)
      (eq-eqb s.controller.next_job s.controller.next_job refl)
      tt refl refl (λ n k. absurd cc) (omega arith) (λ i t k. absurd cc) (λ job k. (let j : s.controller.next_job ≡ job = cc in omega (arith, j))) (λ v c. tt)

  -- ---- the answer to a peek

  peek_turn : (i tag : ℕ) (latest : Bool) (num : ℕ) (body : Option (List ℕ)) → m.packet ≡ PeekAns i tag latest num body → (o : Option Eviction) → s.controller.eviction ≡ o → Inv plan (controller_turn s rest (peek_answered plan.config s.controller i tag latest num body o))
  peek_turn i tag latest num body k None none = dropped_keeps plan s h rest m takes (ap (λ p. of_admission (subject p)) k) (ap (λ p. of_snapshot (subject p)) k) (λ e is. absurd (none-some e (sym none ∙ is))) (dropped_rounds plan s h rest m takes (ap (λ p. of_round (subject p)) k))
  peek_turn i tag latest num body k (Some e) is = go (waits_for Peeked i tag e) refl
    where
      a : of_admission (subject m.packet) ≡ false
      a = ap (λ p. of_admission (subject p)) k

      sn : of_snapshot (subject m.packet) ≡ false
      sn = ap (λ p. of_snapshot (subject p)) k

      on : is_due e.due Peeked ≡ true → is_own e (subject m.packet) ≡ true → (b : Bool) → Inv plan (controller_turn s rest (evicts_on plan.config s.controller e (after_peek e b num body)))
      on d own true = store_goes e is own a sn (let z : e.tries ≡ 0 = subst (λ d. TriesFit d e.tries) (due_is plan rest e.due Peeked d) (eis plan s h rest m takes e is).tries in omega (arith, z)) (shown_item e num body)
      on d own false = removal_goes e is own a sn (let z : e.tries ≡ 0 = subst (λ d. TriesFit d e.tries) (due_is plan rest e.due Peeked d) (eis plan s h rest m takes e is).tries in omega (arith, z)) false 0

      go : (b : Bool) → waits_for Peeked i tag e ≡ b → Inv plan (controller_turn s rest (cond b (evicts_on plan.config s.controller e (after_peek e latest num body)) (idle s.controller)))
      go true w = let p = and_parts _ _ w in on p.0 (ap (λ p. is_own e (subject p)) k ∙ p.1) latest
      go false w = dropped_keeps plan s h rest m takes a sn (λ f same. subst (λ x. is_own x (subject m.packet) ≡ false) (same_Some e f (sym is ∙ same)) (not_true _ mine)) (dropped_rounds plan s h rest m takes (ap (λ p. of_round (subject p)) k))
        where
          mine : is_own e (subject m.packet) ≡ true → ⊥
          mine own =
              let due : e.due ≡ Peeked = subst (FitsDue s.controller.epoch e) k ((subst (OwnFlies s.controller s.bag) is h.evictions.flies).2 m takes.there own) in
              let p : nat_eq e.slot i && nat_eq e.tag tag ≡ true = sym (ap (λ p. is_own e (subject p)) k) ∙ own in
              true≢false (sym ((λ z. is_due (due z) Peeked && (nat_eq e.slot i && nat_eq e.tag tag)) ∙ p) ∙ w)

  -- ---- the answer to a removal

  removal_turn : (i tag : ℕ) (done latest : Bool) (num : ℕ) (body : Option (List ℕ)) → m.packet ≡ RemoveAns i tag done latest num body → (o : Option Eviction) → s.controller.eviction ≡ o → Inv plan (controller_turn s rest (removal_answered plan.config s.controller i tag done num body o))
  removal_turn i tag done latest num body k None none = dropped_keeps plan s h rest m takes (ap (λ p. of_admission (subject p)) k) (ap (λ p. of_snapshot (subject p)) k) (λ e is. absurd (none-some e (sym none ∙ is))) (dropped_rounds plan s h rest m takes (ap (λ p. of_round (subject p)) k))
  removal_turn i tag done latest num body k (Some e) is = go (waits_for Removed i tag e) refl
    where
      a : of_admission (subject m.packet) ≡ false
      a = ap (λ p. of_admission (subject p)) k

      sn : of_snapshot (subject m.packet) ≡ false
      sn = ap (λ p. of_snapshot (subject p)) k

      tries : is_due e.due Removed ≡ true → (1 ≤ e.tries) × (e.tries ≤ 3)
      tries d = subst (λ d. TriesFit d e.tries) (due_is plan rest e.due Removed d) (eis plan s h rest m takes e is).tries

      kept : is_own e (subject m.packet) ≡ true → (b : Bool) → Inv plan (controller_turn s rest (record { state = drop_want_if b (record (with_state s.controller e.slot (Held e.key e.tag)) { eviction = None }); out = []; notes = KeptNote e.slot e.key num ∷ [] }))
      kept own true = ends plan s h rest m takes e is own a sn (Held e.key e.tag) (drop 1 s.controller.wants) (KeptNote e.slot e.key num ∷ []) (inr refl) (λ z. absurd cc)
      kept own false = ends plan s h rest m takes e is own a sn (Held e.key e.tag) s.controller.wants (KeptNote e.slot e.key num ∷ []) (inr refl) (λ z. absurd cc)

      on : is_due e.due Removed ≡ true → is_own e (subject m.packet) ≡ true → (b : Bool) → done ≡ b → Inv plan (controller_turn s rest (evicts_on plan.config s.controller e (after_removal e b num body)))
      on d own true y = ends plan s h rest m takes e is own a sn Free s.controller.wants (Evicted e.slot e.key e.tries ∷ []) (inl refl) (λ z r. off r)
        where
          off : s.running ≡ true → (slot_at s.switch e.slot).valid ≡ false
          off r =
              let em : Emptied s.switch s.controller (RemoveAns i tag done latest num body) = subst (Emptied s.switch s.controller) k (h.evictions.emptied r m takes.there) in
              let q = and_parts _ _ (sym (ap (λ p. is_own e (subject p)) k) ∙ own) in
              let slot : e.slot ≡ i = eqb-true e.slot i q.0 in
              let tg : e.tag ≡ tag = eqb-true e.tag tag q.1 in
              ap (λ n. (slot_at s.switch n).valid) slot ∙ em y e.key (subst (λ n. IsGiven e.key tag (state_at s.controller.slots n)) slot (subst (λ n. IsGiven e.key n (state_at s.controller.slots e.slot)) tg (slot_given plan s h rest m takes e is)))
      on d own false y = again (nat_eq e.tries TRIES) refl
        where
          again : (b : Bool) → nat_eq e.tries TRIES ≡ b → Inv plan (controller_turn s rest (evicts_on plan.config s.controller e (cond b (Kept TRIES (shown_item e num body)) (StoreNext (shown_item e num body)))))
          again true z = kept own e.for_want
          again false z = store_goes e is own a sn (let n : e.tries ≢ 3 = eqb-false e.tries 3 z in let t = tries d in omega (arith, n, t)) (shown_item e num body)

      go : (b : Bool) → waits_for Removed i tag e ≡ b → Inv plan (controller_turn s rest (cond b (evicts_on plan.config s.controller e (after_removal e done num body)) (idle s.controller)))
      go true w = let p = and_parts _ _ w in on p.0 (ap (λ p. is_own e (subject p)) k ∙ p.1) done refl
      go false w = dropped_keeps plan s h rest m takes a sn (λ f same. subst (λ x. is_own x (subject m.packet) ≡ false) (same_Some e f (sym is ∙ same)) (not_true _ mine)) (dropped_rounds plan s h rest m takes (ap (λ p. of_round (subject p)) k))
        where
          mine : is_own e (subject m.packet) ≡ true → ⊥
          mine own =
              let due : e.due ≡ Removed = subst (FitsDue s.controller.epoch e) k ((subst (OwnFlies s.controller s.bag) is h.evictions.flies).2 m takes.there own) in
              let p : nat_eq e.slot i && nat_eq e.tag tag ≡ true = sym (ap (λ p. is_own e (subject p)) k) ∙ own in
              true≢false (sym ((λ z. is_due (due z) Removed && (nat_eq e.slot i && nat_eq e.tag tag)) ∙ p) ∙ w)

  -- ---- a job of the eviction is stored

  pub stored_own : (job : ℕ) → m.packet ≡ Stored job → (e : Eviction) → s.controller.eviction ≡ Some e → waits_job job e ≡ true
      → Inv plan (controller_turn s rest (record { state = record s.controller { eviction = Some (removing e) }; out = to_party Switch (after_store e) ∷ []; notes = [] }))
  stored_own job k e is w = removal_goes e is (ap (λ p. is_own e (subject p)) k ∙ w) (ap (λ p. of_admission (subject p)) k) (ap (λ p. of_snapshot (subject p)) k)
      (subst (λ d. TriesFit d e.tries) (due_is plan rest e.due StoredDue (and_parts _ _ w).0) (eis plan s h rest m takes e is).tries) true e.item.num

  pub stored_strange : (job : ℕ) → m.packet ≡ Stored job → ((e : Eviction) → s.controller.eviction ≡ Some e → waits_job job e ≡ false) → RoundsFly plan (controller_turn s rest (idle s.controller)) → Inv plan (controller_turn s rest (idle s.controller))
  stored_strange job k off rounds = dropped_keeps plan s h rest m takes (ap (λ p. of_admission (subject p)) k) (ap (λ p. of_snapshot (subject p)) k) (λ e is. ap (λ p. is_own e (subject p)) k ∙ off e is) rounds

  pub peek_keeps : (i tag : ℕ) (latest : Bool) (num : ℕ) (body : Option (List ℕ)) → m.packet ≡ PeekAns i tag latest num body → Inv plan (controller_turn s rest (peek_answered plan.config s.controller i tag latest num body s.controller.eviction))
  peek_keeps i tag latest num body k = peek_turn i tag latest num body k s.controller.eviction refl

  pub removal_keeps : (i tag : ℕ) (done latest : Bool) (num : ℕ) (body : Option (List ℕ)) → m.packet ≡ RemoveAns i tag done latest num body → Inv plan (controller_turn s rest (removal_answered plan.config s.controller i tag done num body s.controller.eviction))
  removal_keeps i tag done latest num body k = removal_turn i tag done latest num body k s.controller.eviction refl

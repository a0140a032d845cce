-- What a removal takes away and what was stored its server has, in every state of every run.
use Rattle.std.proofs.Common.{◌≡◌, ◌≢◌, ℕ, ◌≤◌, ◌<◌, ◌⊎◌, inl, inr, true, List, [], ◌∷◌, ◌++◌, refl, sym, ap, ◌∙◌, subst, arith}
use Rattle.far_base.specs.Limits.{IsPlan}
use Rattle.far_base.specs.PlanView.{PlanView}
use Rattle.far_base.specs.declared.event.Event.{Event}
use Rattle.far_base.specs.declared.packet.Message.{Message}
use Rattle.far_base.specs.declared.packet.Packet.{Packet}
use Rattle.far_base.specs.declared.packet.Packet.TheVariants.{Remove, Store, Stored}
use Rattle.far_base.specs.declared.record.Record.{Record}
use Rattle.far_invariants.specs.DrawnTags.{TagIsDrawn, drawing}
use Rattle.far_invariants.specs.Holds.{Holds}
use Rattle.far_invariants.specs.Past.{DrawnTag, Past, new_drawn, no_past, past_from, past_of, remembers}
use Rattle.far_invariants.specs.Removals.{GivenStore, IsStoredBefore, RemovalIsStored, given, store_in, stores_after, stores_in, stores_of_run}
use Rattle.far_model.specs.Events.{happens, is_enabled}
use Rattle.far_model.specs.Members.{Among}
use Rattle.far_model.specs.Runs.{IsRun, run}
use Rattle.far_model.specs.State.{State, opening}
use Rattle.far_model.proofs.Members.{among_append, among_append_left, among_append_right, pairs_among}
use Rattle.run_laws.proofs.Removals.{below, event_moves}
use Rattle.run_laws.proofs.Sending.{IsNew, Moves}
use Rattle.run_laws.proofs.Steps.{opening_holds, step_holds}

-- the stores of a bag are its messages
store_from : (p : Packet) (g : GivenStore) → Among g (store_in p) → p ≡ Store g.job g.item
store_from (Store job item) g (inl e) = ap (λ (w : GivenStore). Store w.job w.item) (sym e)
store_from (Store job item) g (inr a) = absurd a
store_from _ g a = absurd a

record IsSent (bag : List Message) (g : GivenStore) : Type 0 where
  message : Message
  there : Among message bag
  is : message.packet ≡ Store g.job g.item

sent_in : (bag : List Message) (g : GivenStore) → Among g (stores_in bag) → IsSent bag g
sent_in [] g a = absurd a
sent_in (m ∷ bag) g a = elim (among_append g (store_in m.packet) (stores_in bag) a) [
  | inl b ↦ record { message = m; there = inl refl; is = store_from m.packet g b }
  | inr b ↦ let x = sent_in bag g b in record { message = x.message; there = inr x.there; is = x.is }
]

in_stores : (bag : List Message) (m : Message) → Among m bag → (job : ℕ) (item : Record) → m.packet ≡ Store job item → Among (given job item) (stores_in bag)
in_stores [] m a job item is = absurd a
in_stores (n ∷ bag) m (inl e) job item is =
    among_append_left (given job item) (store_in n.packet) (stores_in bag) (subst (λ p. Among (given job item) (store_in p)) (sym is ∙ ap (λ (w : Message). w.packet) e) (inl refl))
in_stores (n ∷ bag) m (inr a) job item is = among_append_right (given job item) (store_in n.packet) (stores_in bag) (in_stores bag m a job item is)

-- what is carried along a run
record Stands (plan : PlanView) (drawn : List DrawnTag) (stores : List GivenStore) (s : State) : Type 0 where
  low : (g : GivenStore) → Among g stores → g.job < s.controller.next_job
  flying : (m : Message) → Among m s.bag → (job : ℕ) (item : Record) → m.packet ≡ Store job item → Among (given job item) stores
  means : RemovalIsStored plan drawn stores s

module _ (plan : PlanView) (past : Past) (s : State) (valid : IsPlan plan) (h : Holds plan past s) (stores : List GivenStore) (v : Stands plan past.drawn stores s) (e : Event) (can : is_enabled plan s e ≡ true) where
  abbrev t : State
  t = happens plan s e

  after : Holds plan (remembers s past e) t
  after = step_holds plan past s valid h e can

  moves : Moves plan past.drawn s t
  moves = event_moves plan past s valid h e can after.flight.routed

  abbrev more_stores : List GivenStore
  more_stores = stores ++ stores_in t.bag

  abbrev more_drawn : List DrawnTag
  more_drawn = past.drawn ++ new_drawn s e

  -- a store that is there was there before, or has a new job
  data OldOrNew (g : GivenStore) : Type 0 where
    IsOld : Among g stores → OldOrNew g
    IsNewJob : (m : Message) → Among m t.bag → m.packet ≡ Store g.job g.item → s.controller.next_job ≤ g.job → g.job < t.controller.next_job → OldOrNew g

  old_or_new : (g : GivenStore) → Among g more_stores → OldOrNew g
  old_or_new g a = elim (among_append g stores (stores_in t.bag) a) [
    | inl b ↦ IsOld b
    | inr b ↦ go (sent_in t.bag g b)
  ]
    where
      go : IsSent t.bag g → OldOrNew g
      go x = elim (moves.news x.message x.there) [
        | inl b ↦ IsOld (v.flying x.message b g.job g.item x.is)
        | inr n ↦ (let q = subst (IsNew plan past.drawn s t) x.is n in IsNewJob x.message x.there x.is q.0 q.1)
      ]

  low_after : (g : GivenStore) → Among g more_stores → g.job < t.controller.next_job
  low_after g a = go (old_or_new g a)
    where
      go : OldOrNew g → g.job < t.controller.next_job
      go (IsOld b) = let l = v.low g b in let j = moves.jobs in omega (arith, l, j)
      go (IsNewJob m b is from below) = below

  one_after : (g k : GivenStore) → Among g more_stores → Among k more_stores → g.job ≡ k.job → g.item ≡ k.item
  one_after g k a b same = go (old_or_new g a) (old_or_new k b)
    where
      go : OldOrNew g → OldOrNew k → g.item ≡ k.item
      go (IsOld x) (IsOld y) = v.means.one g k x y same
      go (IsOld x) (IsNewJob m y is from below) = absurd (let l = v.low g x in omega (arith, l, same, from))
      go (IsNewJob m x is from below) (IsOld y) = absurd (let l = v.low k y in omega (arith, l, same, from))
      go (IsNewJob m x is from below) (IsNewJob n y now from2 below2) = moves.apart m n x y g.job g.item k.item from is (now ∙ ap (λ job. Store job k.item) (sym same))

  -- a tag that was drawn before names what it named
  same_drawing : (d x : DrawnTag) → Among d more_drawn → Among x past.drawn → d.tag ≡ x.tag → d ≡ x
  same_drawing d x a b same = go (pairs_among (λ (a b : DrawnTag). a.tag ≢ b.tag) d x more_drawn after.drawn.once a (among_append_left x past.drawn (new_drawn s e) b))
    where
      go : (d ≡ x) ⊎ ((d.tag ≢ x.tag) ⊎ (x.tag ≢ d.tag)) → d ≡ x
      go (inl e) = e
      go (inr (inl ne)) = absurd (ne same)
      go (inr (inr ne)) = absurd (ne (sym same))

  old_packet : (p : Packet) → TagIsDrawn past.drawn p → IsStoredBefore plan past.drawn stores s p → ((job : ℕ) → p ≡ Stored job → job < s.controller.next_job) → IsStoredBefore plan more_drawn more_stores t p
  old_packet (Remove own i tag latest num) drawn p low = λ on d a same.
      let x : DrawnTag = drawing tag drawn.key i own in
      let q = p on x drawn.there refl in
      let is : d ≡ x = same_drawing d x a drawn.there same in
      let more = moves.more drawn.key in
      subst (λ (w : DrawnTag). num ≤ (Rattle.far_invariants.specs.Covers.look plan t w.key).num) (sym is) (omega (arith, q, more))
  old_packet (Stored job) drawn p low = record {
    item = p.item;
    there = among_append_left (given job p.item) stores (stores_in t.bag) p.there;
    covered = λ g a same. go g same (old_or_new g a);
  }
    where
      go : (g : GivenStore) → g.job ≡ job → OldOrNew g → g.item.num ≤ (Rattle.far_invariants.specs.Covers.look plan t g.item.key).num
      go g same (IsOld b) = let q = p.covered g b same in let more = moves.more g.item.key in omega (arith, q, more)
      go g same (IsNewJob m b is from below) = absurd (let l = low job refl in omega (arith, l, same, from))
  old_packet _ drawn p low = tt

  new_packet : (p : Packet) → IsNew plan past.drawn s t p → IsStoredBefore plan more_drawn more_stores t p
  new_packet (Remove own i tag latest num) n = λ on d a same.
      let q = n on in
      let is : d ≡ drawing tag q.key q.slot q.epoch = same_drawing d (drawing tag q.key q.slot q.epoch) a q.was same in
      subst (λ (w : DrawnTag). num ≤ (Rattle.far_invariants.specs.Covers.look plan t w.key).num) (sym is) q.covered
  new_packet (Stored job) n = record {
    item = n.item;
    there = was;
    covered = λ g a same. subst (λ (r : Record). r.num ≤ (Rattle.far_invariants.specs.Covers.look plan t r.key).num) (sym (one_after g (given job n.item) a was same)) n.covered;
  }
    where
      was : Among (given job n.item) more_stores
      was = among_append_left (given job n.item) stores (stores_in t.bag) (v.flying n.message n.there job n.item n.is)
  new_packet _ n = tt

  stands_after : Stands plan more_drawn more_stores t
  stands_after = record {
    low = low_after;
    flying = λ m a job item is. among_append_right (given job item) stores (stores_in t.bag) (in_stores t.bag m a job item is);
    means = record {
      one = one_after;
      packets = λ m a. elim (moves.news m a) [
        | inl b ↦ old_packet m.packet (h.drawn.packets m b) (v.means.packets m b) (λ job is. (subst (λ w. Rattle.far_invariants.specs.Evictions.EvictionPacketIs plan (Rattle.far_invariants.specs.Evictions.written_in plan) s w) is (h.evictions.packets m b)).below)
        | inr n ↦ new_packet m.packet n
      ];
    };
  }

-- ---- runs

run_stands : (plan : PlanView) (past : Past) (s : State) (stores : List GivenStore) (events : List Event) → IsPlan plan → Holds plan past s → Stands plan past.drawn stores s → IsRun plan s events
    → Stands plan (past_from plan s past events).drawn (stores_after plan s stores events) (run plan s events)
run_stands plan past s stores [] valid h v r = v
run_stands plan past s stores (e ∷ es) valid h v r =
    run_stands plan (remembers s past e) (happens plan s e) (stores ++ stores_in (happens plan s e).bag) es valid (step_holds plan past s valid h e r.0) (stands_after plan past s valid h stores v e r.0) r.1

pub removal_is_stored : (plan : PlanView) (events : List Event) → IsPlan plan → IsRun plan (opening plan) events
    → RemovalIsStored plan (past_of plan events).drawn (stores_of_run plan events) (run plan (opening plan) events)
removal_is_stored plan events valid r = (run_stands plan no_past (opening plan) [] events valid (opening_holds plan valid) (record {
  low = λ g a. absurd a;
  flying = λ m a job item is. absurd a;
  means = record { one = λ g k a b same. absurd a; packets = λ m a. absurd a };
}) r).means

-- What an event sends of removals and stores, and that no server's number falls.
use Rattle.std.proofs.Common.{◌≡◌, ℕ, suc, ◌≤◌, ◌<◌, ◌⊎◌, inl, inr, Bool, true, false, List, [], ◌∷◌, ◌++◌, refl, sym, ap, ◌∙◌, subst, arith}
use Rattle.far_base.specs.PlanView.{PlanView}
use Rattle.far_base.specs.declared.packet.Message.{Message}
use Rattle.far_base.specs.declared.packet.Out.{Out}
use Rattle.far_base.specs.declared.packet.Packet.{Packet}
use Rattle.far_base.specs.declared.packet.Packet.TheVariants.{Remove, Store, Stored}
use Rattle.far_base.specs.declared.party.Party.TheVariants.{Client, Switch, Controller}
use Rattle.far_base.specs.declared.record.Record.{Record}
use Rattle.far_invariants.specs.Covers.{look}
use Rattle.far_invariants.specs.DrawnTags.{WasDrawn}
use Rattle.far_invariants.specs.Flights.{IsFrom}
use Rattle.far_invariants.specs.Past.{DrawnTag}
use Rattle.far_model.specs.Members.{Among, Each}
use Rattle.far_model.specs.Parties.{messages_from}
use Rattle.far_model.specs.State.{State}
use Rattle.far_model.proofs.Members.{among_append, among_map_from, each_among}
use Rattle.record_laws.proofs.Calm.{is_plain, IsCalm}
use Rattle.eviction_laws.proofs.Calming.{IsApart}

-- ---- new packets

-- the store that a server has done was on its way, and the server has its record
pub record WasTaken (plan : PlanView) (s t : State) (job : ℕ) : Type 0 where
  pub item : Record
  pub message : Message
  pub there : Among message s.bag
  pub is : message.packet ≡ Store job item
  pub covered : item.num ≤ (look plan t item.key).num

-- what is to be removed the server has
pub record IsCovered (plan : PlanView) (drawn : List DrawnTag) (t : State) (tag num : ℕ) : Type 0 where
  pub key : List ℕ
  pub slot : ℕ
  pub epoch : ℕ
  pub was : WasDrawn drawn tag key slot epoch
  pub covered : num ≤ (look plan t key).num

-- a store has a job that was not drawn before
abbrev pub IsNew : PlanView → List DrawnTag → State → State → Packet → Type 0
IsNew plan drawn s t (Store job item) = (s.controller.next_job ≤ job) × (job < t.controller.next_job)
IsNew plan drawn s t (Stored job) = WasTaken plan s t job
IsNew plan drawn s t (Remove own i tag latest num) = latest ≡ true → IsCovered plan drawn t tag num
IsNew plan drawn s t _ = Unit {0}

-- from one state to the next
pub record Moves (plan : PlanView) (drawn : List DrawnTag) (s t : State) : Type 0 where
  pub more : (key : List ℕ) → (look plan s key).num ≤ (look plan t key).num
  pub jobs : s.controller.next_job ≤ t.controller.next_job
  pub news : (m : Message) → Among m t.bag → Among m s.bag ⊎ IsNew plan drawn s t m.packet
  pub apart : (m n : Message) → Among m t.bag → Among n t.bag → (job : ℕ) (a b : Record) → s.controller.next_job ≤ job
      → m.packet ≡ Store job a → n.packet ≡ Store job b → a ≡ b

-- ---- packets that are none of these

abbrev pub is_removal : Packet → Bool
is_removal (Remove own i tag latest num) = true
is_removal (Store job item) = true
is_removal (Stored job) = true
is_removal _ = false

pub other_new : (plan : PlanView) (drawn : List DrawnTag) (s t : State) (p : Packet) → is_removal p ≡ false → IsNew plan drawn s t p
other_new plan drawn s t (Remove own i tag latest num) off = absurd cc
other_new plan drawn s t (Store job item) off = absurd cc
other_new plan drawn s t (Stored job) off = absurd cc
other_new plan drawn s t _ off = tt

pub plain_other : (p : Packet) → is_plain p ≡ true → is_removal p ≡ false
plain_other (Remove own i tag latest num) h = absurd cc
plain_other (Store job item) h = absurd cc
plain_other (Stored job) h = absurd cc
plain_other _ h = refl

-- clients and the switch send none
pub switch_other : (p : Packet) → IsFrom p Switch → is_removal p ≡ false
switch_other (Remove own i tag latest num) h = absurd (let clash : Switch ≡ Controller = h in cc)
switch_other (Store job item) h = absurd (let clash : Switch ≡ Controller = h in cc)
switch_other (Stored job) h = absurd (let clash = h.1 in cc)
switch_other _ h = refl

pub client_other : (c : ℕ) (p : Packet) → IsFrom p (Client c) → is_removal p ≡ false
client_other c (Remove own i tag latest num) h = absurd (let clash : Client c ≡ Controller = h in cc)
client_other c (Store job item) h = absurd (let clash : Client c ≡ Controller = h in cc)
client_other c (Stored job) h = absurd (let clash = h.1 in cc)
client_other c _ h = refl

not_store : (p : Packet) (job : ℕ) (item : Record) → is_removal p ≡ false → p ≡ Store job item → ⊥
not_store p job item off is = let on : is_removal p ≡ true = ap is_removal is in let clash : true ≡ false = sym on ∙ off in cc

-- a step that sends nothing of removals and leaves servers and jobs
module _ (plan : PlanView) (drawn : List DrawnTag) (s t : State) (below : (m : Message) → Among m s.bag → (job : ℕ) (item : Record) → m.packet ≡ Store job item → job < s.controller.next_job) (rest : List Message) (rests : (m : Message) → Among m rest → Among m s.bag) where
  not_old : (m : Message) → Among m rest → (job : ℕ) (item : Record) → s.controller.next_job ≤ job → m.packet ≡ Store job item → ⊥
  not_old m a job item from is = let b = below m (rests m a) job item is in omega (arith, b, from)

  pub other_moves : (new : List Message) → t.bag ≡ rest ++ new → ((key : List ℕ) → (look plan s key).num ≤ (look plan t key).num) → s.controller.next_job ≤ t.controller.next_job
      → ((m : Message) → Among m new → is_removal m.packet ≡ false) → Moves plan drawn s t
  other_moves new bag more jobs others = record {
    more = more;
    jobs = jobs;
    news = λ m a. elim (split m a) [
      | inl b ↦ inl (rests m b)
      | inr b ↦ inr (other_new plan drawn s t m.packet (others m b))
    ];
    apart = λ m n a c job x y from is e. elim (split m a) [
      | inl b ↦ absurd (not_old m b job x from is)
      | inr b ↦ absurd (not_store m.packet job x (others m b) is)
    ];
  }
    where
      split : (m : Message) → Among m t.bag → Among m rest ⊎ Among m new
      split m a = among_append m rest new (subst (λ w. Among m w) bag a)

  pub calm_moves : (new : List Message) {notes : List Rattle.far_base.specs.declared.log.LogEntry.LogEntry} → IsCalm notes s t rest new → IsApart s.controller t.controller → Moves plan drawn s t
  calm_moves new c a = other_moves new c.bag (λ key. let n = ap (λ servers. (look plan (record s { servers = servers }) key).num) c.servers in omega (arith, n))
      (let j = a.jobs in omega (arith, j)) (λ m b. plain_other m.packet (c.plain m b))

-- ---- what the controller sends

-- the stores among these packets have jobs from this one on, each its own
abbrev IsAt : ℕ → Packet → Type 0
IsAt n (Store job item) = n ≤ job
IsAt n _ = Unit {0}

abbrev after_job : ℕ → Packet → ℕ
after_job n (Store job item) = suc job
after_job n _ = n

abbrev pub JobsFrom : ℕ → List Out → Type 0
JobsFrom n [] = Unit {0}
JobsFrom n (o ∷ outs) = IsAt n o.packet × JobsFrom (after_job n o.packet) outs

pub no_jobs : (n : ℕ) (outs : List Out) → Each (λ (o : Out). is_removal o.packet ≡ false) outs → JobsFrom n outs
no_jobs n [] h = tt
no_jobs n (o ∷ outs) h = go o.packet h.0 (no_jobs n outs h.1)
  where
    go : (p : Packet) → is_removal p ≡ false → JobsFrom n outs → IsAt n p × JobsFrom (after_job n p) outs
    go (Store job item) off later = absurd cc
    go _ off later = (tt, later)

at_or_later : (n k : ℕ) (p : Packet) → n ≤ k → IsAt k p → IsAt n p
at_or_later n k (Store job item) le h = omega (arith, le, h)
at_or_later n k _ le h = tt

later_job : (n : ℕ) (p : Packet) → IsAt n p → n ≤ after_job n p
later_job n (Store job item) h = omega (arith, h)
later_job n _ h = omega arith

jobs_at : (n : ℕ) (outs : List Out) → JobsFrom n outs → (o : Out) → Among o outs → IsAt n o.packet
jobs_at n (x ∷ outs) h o (inl e) = subst (λ (w : Out). IsAt n w.packet) (sym e) h.0
jobs_at n (x ∷ outs) h o (inr a) = at_or_later n (after_job n x.packet) o.packet (later_job n x.packet h.0) (jobs_at (after_job n x.packet) outs h.1 o a)
jobs_at n [] h o a = absurd a

item_of : Record → Packet → Record
item_of r (Store job item) = item
item_of r _ = r

jobs_apart : (n : ℕ) (outs : List Out) → JobsFrom n outs → (o q : Out) → Among o outs → Among q outs → (job : ℕ) (a b : Record) → o.packet ≡ Store job a → q.packet ≡ Store job b → a ≡ b
unfolding item_of
jobs_apart n [] h o q x y job a b is e = absurd x
jobs_apart n (z ∷ outs) h o q (inl x) (inl y) job a b is e = ap (item_of a) (sym is ∙ ap (λ (w : Out). w.packet) (x ∙ sym y) ∙ e)
jobs_apart n (z ∷ outs) h o q (inl x) (inr y) job a b is e =
    let next : after_job n z.packet ≡ suc job = ap (after_job n) (sym (ap (λ (w : Out). w.packet) x) ∙ is) in
    let at : after_job n z.packet ≤ job = subst (λ w. IsAt (after_job n z.packet) w) e (jobs_at (after_job n z.packet) outs h.1 q y) in
    absurd (omega (arith, next, at))
jobs_apart n (z ∷ outs) h o q (inr x) (inl y) job a b is e =
    let next : after_job n z.packet ≡ suc job = ap (after_job n) (sym (ap (λ (w : Out). w.packet) y) ∙ e) in
    let at : after_job n z.packet ≤ job = subst (λ w. IsAt (after_job n z.packet) w) is (jobs_at (after_job n z.packet) outs h.1 o x) in
    absurd (omega (arith, next, at))
jobs_apart n (z ∷ outs) h o q (inr x) (inr y) job a b is e = jobs_apart (after_job n z.packet) outs h.1 o q x y job a b is e

module _ (plan : PlanView) (drawn : List DrawnTag) (s t : State) (below : (m : Message) → Among m s.bag → (job : ℕ) (item : Record) → m.packet ≡ Store job item → job < s.controller.next_job) (rest : List Message) (rests : (m : Message) → Among m rest → Among m s.bag) where
  -- a turn of the controller: the jobs that it draws are new
  pub turn_moves : (outs : List Out) → t.bag ≡ rest ++ messages_from Controller outs → t.servers ≡ s.servers → s.controller.next_job ≤ t.controller.next_job
      → JobsFrom s.controller.next_job outs → Each (λ (o : Out). IsNew plan drawn s t o.packet) outs → Moves plan drawn s t
  turn_moves outs bag servers jobs from each = record {
    more = λ key. let n = ap (λ servers. (look plan (record s { servers = servers }) key).num) servers in omega (arith, n);
    jobs = jobs;
    news = λ m a. elim (split m a) [
      | inl b ↦ inl (rests m b)
      | inr b ↦ inr (let p = sent m b in subst (λ (w : Message). IsNew plan drawn s t w.packet) (sym p.2) (each_among (λ (o : Out). IsNew plan drawn s t o.packet) p.0 outs each p.1))
    ];
    apart = λ m n a c job x y low is e. elim (split m a) [
      | inl b ↦ absurd (not_old plan drawn s t below rest rests m b job x low is)
      | inr b ↦ elim (split n c) [
        | inl d ↦ absurd (not_old plan drawn s t below rest rests n d job y low e)
        | inr d ↦
            let p = sent m b in
            let q = sent n d in
            jobs_apart s.controller.next_job outs from p.0 q.0 p.1 q.1 job x y (sym (ap (λ (w : Message). w.packet) p.2) ∙ is) (sym (ap (λ (w : Message). w.packet) q.2) ∙ e)
      ]
    ];
  }
    where
      split : (m : Message) → Among m t.bag → Among m rest ⊎ Among m (messages_from Controller outs)
      split m a = among_append m rest (messages_from Controller outs) (subst (λ w. Among m w) bag a)

      sent : (m : Message) → Among m (messages_from Controller outs) → (o : Out) × Among o outs × (m ≡ record { from = Controller; to = o.to; packet = o.packet })
      sent m a = among_map_from (λ (o : Out). record { from = Controller; to = o.to; packet = o.packet }) m outs a

-- A step keeps everything: what each kind of step still has to show.
use Rattle.far_invariants.specs.Numbers.{ExposedAtMost, entry, reach_by, reach, IsWritten, WouldBeCurrent}
use Rattle.far_invariants.specs.Covers.{look}
use Rattle.far_invariants.specs.Operations.{SendsOp, LineStands, LineIs, AdmitsOther, IsDrawn, Relies, LeftIs, SlotIs, IsOpenOrAnswered, OperationsStand}
use Rattle.far_invariants.proofs.Noted.{IsNote, member, log_cases}
use Rattle.far_invariants.proofs.Keys.{key_cases}
use Rattle.std.proofs.Common.{◌≡◌, ◌≢◌, ℕ, zero, suc, ◌≤◌, max, ◌⊎◌, inl, inr, Bool, true, false, List, [], ◌∷◌, ◌++◌, length, refl, sym, ap, ◌∙◌, subst, arith}
use Rattle.std.specs.Prelude.{Option, Some, None}
use Rattle.far_base.specs.PlanView.{PlanView}
use Rattle.far_base.specs.declared.log.LogEntry.{LogEntry}
use Rattle.far_base.specs.declared.log.LogEntry.TheVariants.{Sent, Emitted}
use Rattle.far_base.specs.declared.log.LogLine.{LogLine}
use Rattle.far_base.specs.declared.packet.Message.{Message}
use Rattle.far_base.specs.declared.packet.Out.{Out}
use Rattle.far_base.specs.declared.packet.Packet.{Packet}
use Rattle.far_base.specs.declared.party.Party.TheVariants.{Switch}
use Rattle.far_model.specs.Clients.{line_of}
use Rattle.far_model.specs.Coherent.{Rises, Earlier}
use Rattle.far_invariants.specs.Flights.{subject, OfOperation}
use Rattle.far_model.specs.Members.{Among, Each, Pairs}
use Rattle.far_model.specs.Parties.{messages_from}
use Rattle.far_model.specs.Pass.{Passed, passed_out, outs_of}
use Rattle.far_model.specs.Passes.{with_pass}
use Rattle.far_model.specs.State.{State, client_at, line_at, now, noted, stepped}
use Rattle.far_model.specs.View.{SlotView, SwitchView}
use Rattle.far_model.proofs.Members.{among_append, each_among}
use Rattle.record_laws.proofs.Frame.{AboutMine, NotOn, off_shows_each, shown_lasts, shown_within, counted_on, Grows, written_lasts, line_is_lasts, relies_lasts, left_lasts, IsFresh, order_lasts}

-- the message is of no operation of this step
abbrev pub IsOther : (ℕ → Type 0) → Packet → Type 0
IsOther Mine p = (caller op : ℕ) → subject p ≡ OfOperation caller op → Mine op → ⊥

-- the messages that stay are of other operations
abbrev pub AreOthers : (ℕ → Type 0) → State → List Message → Type 0
AreOthers Mine s rest = (m : Message) → Among m rest → Among m s.bag × IsOther Mine m.packet

-- what is said of each note: it is new, stands, and is of an operation of this step
pub record NoteIs (plan : PlanView) (Mine : ℕ → Type 0) (s t : State) (e : LogEntry) : Type 0 where
  pub fresh : IsFresh s.log e
  pub stands : LineStands plan t (now s) e
  pub about : AboutMine Mine e

each_part : {A : Type 0} (P Q : A → Type 0) (xs : List A) → ((x : A) → P x → Q x) → Each P xs → Each Q xs
each_part P Q [] f h = tt
each_part P Q (x ∷ xs) f h = (f x h.0, each_part P Q xs f h.1)

-- what is left to show of a step that grows
pub record Holds (plan : PlanView) (t : State) : Type 0 where
  pub servers : length t.servers ≡ plan.config.servers
  pub config : t.switch.config ≡ plan.config
  pub records : (key : List ℕ) → IsWritten plan t.log t.steps key (look plan t key).num (look plan t key).body
  pub left : (c : ℕ) → LeftIs plan t c
  pub open_or_answered : (at op : ℕ) → Among (line_at at (Sent op (line_of plan.ops op))) t.log → IsOpenOrAnswered plan t op
  pub covers : t.running ≡ true → (key : List ℕ) → ExposedAtMost plan t.log key (reach plan t key)
  pub slots : (key : List ℕ) (slot : SlotView) → entry key t.switch ≡ Some slot → SlotIs plan t key slot

pub next : (plan : PlanView) (Mine : ℕ → Type 0) (notes : List LogEntry) (s t : State) → OperationsStand plan s → Grows plan Mine notes s t
    → Each (NoteIs plan Mine s t) notes → Pairs Rises notes
    → ((m : Message) → Among m t.bag → (Among m s.bag × IsOther Mine m.packet) ⊎ Relies plan t m.packet)
    → Holds plan t → OperationsStand plan t
next plan Mine notes s t k g n pairs bag h = record {
  some_server = k.some_server;
  servers = h.servers;
  config = h.config;
  order = subst (λ w. Pairs Earlier w) (sym g.log) (order_lasts plan s notes k (each_part (NoteIs plan Mine s t) (IsFresh s.log) notes (λ e x. x.fresh) n) pairs);
  lines = λ l a. line l (log_cases s t notes g.log l a);
  relies = λ m a. flight m (bag m a);
  records = h.records;
  left = h.left;
  open_or_answered = h.open_or_answered;
  covers = h.covers;
  slots = h.slots;
  untagged = g.drawn 0 k.untagged;
}
  where
    line : (l : LogLine) → Among l s.log ⊎ IsNote notes (now s) l → LineIs plan t l
    line l (inl a) = line_is_lasts plan Mine notes s t g l a (k.lines l a)
    line l (inr m) =
        let passed : now s ≤ t.steps = let e = g.steps in omega arith in
        let new : LineIs plan t (line_at (now s) m.entry) = record { passed = passed; stands = (each_among (NoteIs plan Mine s t) m.entry notes n m.among).stands } in
        subst (λ w. LineIs plan t w) (sym m.is) new

    flight : (m : Message) → (Among m s.bag × IsOther Mine m.packet) ⊎ Relies plan t m.packet → Relies plan t m.packet
    flight m (inl a) = relies_lasts plan Mine notes s t g m.packet a.1 (k.relies m a.0)
    flight m (inr f) = f

-- no number shown is greater than what the switch has counted
pub shown_counted : (plan : PlanView) (s : State) → OperationsStand plan s → s.running ≡ true → (key : List ℕ) → ExposedAtMost plan s.log key s.switch.counter
shown_counted plan s k runs key = λ at op num body near a on. go at op num body near a
  where
    go : (at op num : ℕ) (body : Option (List ℕ)) (near : Bool) → Among (line_at at (Emitted op num body near)) s.log → num ≤ s.switch.counter
    go at op zero body near a = omega arith
    go at op (suc n) body near a =
        let stands = (k.lines _ a).stands in
        let source = stands.source.some (omega arith) in
        ((k.lines _ source.own.numbered).stands).counted runs

-- ---- a pass of the switch

-- a message that leaves is new and tells nobody to admit
abbrev pub GoesWell : PlanView → State → Option Out → Type 0
GoesWell plan t None = Unit {0}
GoesWell plan t (Some out) = Relies plan t out.packet × ((tag : ℕ) → AdmitsOther tag out.packet)

outs_go : (plan : PlanView) (t : State) (first second : Option Out) → GoesWell plan t first → GoesWell plan t second → (m : Message)
    → Among m (messages_from Switch (outs_of first ++ outs_of second)) → Relies plan t m.packet × ((tag : ℕ) → AdmitsOther tag m.packet)
outs_go plan t None None a b m h = absurd h
outs_go plan t None (Some y) a b m (inl e) = subst (λ (w : Message). Relies plan t w.packet × ((tag : ℕ) → AdmitsOther tag w.packet)) (sym e) b
outs_go plan t None (Some y) a b m (inr h) = absurd h
outs_go plan t (Some x) None a b m (inl e) = subst (λ (w : Message). Relies plan t w.packet × ((tag : ℕ) → AdmitsOther tag w.packet)) (sym e) a
outs_go plan t (Some x) None a b m (inr h) = absurd h
outs_go plan t (Some x) (Some y) a b m (inl e) = subst (λ (w : Message). Relies plan t w.packet × ((tag : ℕ) → AdmitsOther tag w.packet)) (sym e) a
outs_go plan t (Some x) (Some y) a b m (inr (inl e)) = subst (λ (w : Message). Relies plan t w.packet × ((tag : ℕ) → AdmitsOther tag w.packet)) (sym e) b
outs_go plan t (Some x) (Some y) a b m (inr (inr h)) = absurd h

-- what leaves needs only that it tells nobody to admit, for the tags that were drawn
abbrev pub AdmitsNone : Option Out → Type 0
AdmitsNone None = Unit {0}
AdmitsNone (Some out) = (tag : ℕ) → AdmitsOther tag out.packet

admits_none : (first second : Option Out) → AdmitsNone first → AdmitsNone second → (m : Message) → Among m (messages_from Switch (outs_of first ++ outs_of second)) → (tag : ℕ) → AdmitsOther tag m.packet
admits_none None None a b m h tag = absurd h
admits_none None (Some y) a b m (inl e) tag = subst (λ (w : Message). AdmitsOther tag w.packet) (sym e) (b tag)
admits_none None (Some y) a b m (inr h) tag = absurd h
admits_none (Some x) None a b m (inl e) tag = subst (λ (w : Message). AdmitsOther tag w.packet) (sym e) (a tag)
admits_none (Some x) None a b m (inr h) tag = absurd h
admits_none (Some x) (Some y) a b m (inl e) tag = subst (λ (w : Message). AdmitsOther tag w.packet) (sym e) (a tag)
admits_none (Some x) (Some y) a b m (inr (inl e)) tag = subst (λ (w : Message). AdmitsOther tag w.packet) (sym e) (b tag)
admits_none (Some x) (Some y) a b m (inr (inr h)) tag = absurd h

-- what a pass for a key does to the slots: other keys' are as they were, and the key's own has what is exposed
pub record PassesFor (plan : PlanView) (s : State) (w : SwitchView) (notes : List LogEntry) (key : List ℕ) : Type 0 where
  pub config : w.config ≡ s.switch.config
  pub counter : s.switch.counter ≤ w.counter
  pub others : (other : List ℕ) → other ≢ key → entry other w ≡ entry other s.switch
  pub not_on : (other : List ℕ) → other ≢ key → Each (NotOn plan other) notes
  pub covers : s.running ≡ true → ExposedAtMost plan (noted s notes) key (reach_by (look plan s key).num (entry key w))
  pub drawn : (slot : SlotView) → entry key w ≡ Some slot → IsDrawn s slot.tag
  pub written : (slot : SlotView) → entry key w ≡ Some slot → slot.latest ≡ true → IsWritten plan (noted s notes) (now s) key slot.num slot.body
  pub current : (tag n m : ℕ) → WouldBeCurrent plan s key tag n → n ≤ m
      → (slot : SlotView) → entry key w ≡ Some slot → slot.latest ≡ false → slot.tag ≡ tag → ExposedAtMost plan (noted s notes) key (max m slot.num)

-- no operation is sent
abbrev pub IsNoSending : LogEntry → Type 0
IsNoSending e = (op : ℕ) → SendsOp op e → ⊥

pub sent_before : (plan : PlanView) (s t : State) (notes : List LogEntry) → t.log ≡ noted s notes → Each IsNoSending notes → (at op : ℕ) → Among (line_at at (Sent op (line_of plan.ops op))) t.log → Among (line_at at (Sent op (line_of plan.ops op))) s.log
sent_before plan s t notes e none at op h = go (log_cases s t notes e _ h)
  where
    go : Among (line_at at (Sent op (line_of plan.ops op))) s.log ⊎ IsNote notes (now s) (line_at at (Sent op (line_of plan.ops op))) → Among (line_at at (Sent op (line_of plan.ops op))) s.log
    go (inl a) = a
    go (inr m) = absurd (each_among IsNoSending m.entry notes none m.among op (subst (SendsOp op) (ap (λ (w : LogLine). w.entry) m.is) refl))

-- the state after a packet has passed
abbrev pub passed_state : State → List Message → Packet → Passed → List LogEntry → State
passed_state s rest packet p notes = record (stepped s (rest ++ messages_from Switch (passed_out p)) notes) { switch = p.view; passes = with_pass s.passes packet }

module _ (plan : PlanView) (Mine : ℕ → Type 0) (s : State) (rest : List Message) (packet : Packet) (p : Passed) (notes : List LogEntry) (key : List ℕ) where
  abbrev after : State
  after = passed_state s rest packet p notes

  pub pass_grows : PassesFor plan s p.view notes key → AreOthers Mine s rest → AdmitsNone p.first → AdmitsNone p.second → Each (AboutMine Mine) notes → Grows plan Mine notes s after
  pass_grows f others a b about = record {
    log = refl;
    about = about;
    steps = refl;
    counted = counted_on s after (λ r. r) f.counter;
    more = λ other. omega arith;
    drawn = drawn;
    current = λ other tag n m d c b slot is old under. current other (key_cases other key) tag n m c b slot is old under;
  }
    where
      drawn : (tag : ℕ) → IsDrawn s tag → IsDrawn after tag
      drawn tag d = record { below = d.below; admitted = λ m h. go m (among_append m rest (messages_from Switch (passed_out p)) h) }
        where
          go : (m : Message) → Among m rest ⊎ Among m (messages_from Switch (passed_out p)) → AdmitsOther tag m.packet
          go m (inl h) = d.admitted m (others m h).0
          go m (inr h) = admits_none p.first p.second a b m h tag

      current : (other : List ℕ) → (other ≡ key) ⊎ (other ≢ key) → (tag n m : ℕ) → WouldBeCurrent plan s other tag n → n ≤ m → WouldBeCurrent plan after other tag m
      current other (inl same) tag n m c b slot is old under =
          subst (λ k. WouldBeCurrent plan s k tag n → entry k p.view ≡ Some slot → ExposedAtMost plan (noted s notes) k (max m slot.num)) (sym same)
          (λ c' is'. f.current tag n m c' b slot is' old under) c is
      current other (inr ne) tag n m c b slot is old under =
          let first = shown_lasts s after notes refl plan other (max n slot.num) (c slot (sym (f.others other ne) ∙ is) old under) (off_shows_each plan other (max n slot.num) notes (f.not_on other ne)) in
          shown_within plan (noted s notes) other (max n slot.num) (max m slot.num) first (omega (arith, b))

  pub pass_keeps : OperationsStand plan s → PassesFor plan s p.view notes key → AreOthers Mine s rest → AdmitsNone p.first → AdmitsNone p.second
      → (Grows plan Mine notes s after → GoesWell plan after p.first × GoesWell plan after p.second × Each (NoteIs plan Mine s after) notes)
      → Each (AboutMine Mine) notes → Pairs Rises notes
      → ((c op : ℕ) → Among op (client_at s c).left → Mine op → ⊥)
      → Each IsNoSending notes
      → OperationsStand plan after
  pass_keeps k f others a b new about pairs unsent sent =
      let g = pass_grows f others a b about in
      let w = new g in
      next plan Mine notes s after k g w.2 pairs (λ m h. bag w m (among_append m rest (messages_from Switch (passed_out p)) h)) (record {
        servers = k.servers;
        config = f.config ∙ k.config;
        records = λ other. written_lasts plan Mine notes s after g s.steps (now s) other _ _ (omega arith) (k.records other);
        left = λ c. left_lasts plan Mine notes s after g c refl (unsent c) (k.left c);
        open_or_answered = λ at op h. waits_on op (k.open_or_answered at op (sent_before plan s after notes refl sent at op h));
        covers = λ runs other. covers runs other (key_cases other key);
        slots = λ other slot is. slots g other (key_cases other key) slot is;
      })
    where
      bag : GoesWell plan after p.first × GoesWell plan after p.second × Each (NoteIs plan Mine s after) notes → (m : Message)
          → Among m rest ⊎ Among m (messages_from Switch (passed_out p)) → (Among m s.bag × IsOther Mine m.packet) ⊎ Relies plan after m.packet
      bag w m (inl h) = inl (others m h)
      bag w m (inr h) = inr (outs_go plan after p.first p.second w.0 w.1 m h).0

      waits_on : (op : ℕ) → IsOpenOrAnswered plan s op → IsOpenOrAnswered plan after op
      waits_on op (inl waits) = inl waits
      waits_on op (inr h) = inr (record { answered_at = h.answered_at; answered = member s after notes refl _ h.answered })

      covers : s.running ≡ true → (other : List ℕ) → (other ≡ key) ⊎ (other ≢ key) → ExposedAtMost plan after.log other (reach plan after other)
      covers runs other (inl same) = subst (λ k. ExposedAtMost plan (noted s notes) k (reach_by (look plan s k).num (entry k p.view))) (sym same) (f.covers runs)
      covers runs other (inr ne) =
          let first = shown_lasts s after notes refl plan other (reach plan s other) (k.covers runs other) (off_shows_each plan other (reach plan s other) notes (f.not_on other ne)) in
          subst (λ e. ExposedAtMost plan (noted s notes) other (reach_by (look plan s other).num e)) (sym (f.others other ne)) first

      slots : Grows plan Mine notes s after → (other : List ℕ) → (other ≡ key) ⊎ (other ≢ key) → (slot : SlotView) → entry other p.view ≡ Some slot → SlotIs plan after other slot
      slots g other (inl same) slot is = subst (λ k. entry k p.view ≡ Some slot → SlotIs plan after k slot) (sym same)
          (λ is'. record { drawn = g.drawn slot.tag (f.drawn slot is'); written = f.written slot is' }) is
      slots g other (inr ne) slot is =
          let old = k.slots other slot (sym (f.others other ne) ∙ is) in
          record { drawn = g.drawn slot.tag old.drawn; written = λ latest. written_lasts plan Mine notes s after g s.steps (now s) other _ _ (omega arith) (old.written latest) }

-- Steps that touch no operation: they keep everything where slots, servers and clients have what they had.
use Rattle.far_invariants.specs.Numbers.{ExposedAtMost, entry, reach_by, reach, IsWritten}
use Rattle.far_invariants.specs.Covers.{look}
use Rattle.far_invariants.specs.Operations.{AdmitsOther, IsDrawn, Relies, IsOpenOrAnswered, OperationsStand}
use Rattle.far_invariants.proofs.Noted.{member}
use Rattle.far_base.specs.declared.record.Versioned.{Versioned}
use Rattle.std.proofs.Common.{◌≡◌, ℕ, ◌≤◌, max, ◌⊎◌, inl, inr, true, false, List, [], ◌∷◌, length, sym, ap, ◌∙◌, subst, arith}
use Rattle.std.specs.Prelude.{Some}
use Rattle.far_base.specs.PlanView.{PlanView}
use Rattle.far_base.specs.declared.log.LogEntry.{LogEntry}
use Rattle.far_base.specs.declared.log.LogEntry.TheVariants.{Sent, Numbered, Emitted, Answered}
use Rattle.far_base.specs.declared.packet.Message.{Message}
use Rattle.far_model.specs.Clients.{line_of}
use Rattle.far_model.specs.Coherent.{Rises}
use Rattle.far_model.specs.Members.{Among, Each, Pairs}
use Rattle.far_model.specs.State.{State, client_at, now, noted}
use Rattle.far_model.specs.View.{SlotView}
use Rattle.record_laws.proofs.Frame.{counted_on, AboutMine, NotOn, off_shows_each, shown_lasts, shown_within, Grows, written_lasts, left_lasts}
use Rattle.record_laws.proofs.Step.{IsOther, NoteIs, IsNoSending, sent_before, next}

-- an entry that is of no operation
abbrev pub IsControlNote : LogEntry → Type 0
IsControlNote (Sent op line) = ⊥
IsControlNote (Numbered op num) = ⊥
IsControlNote (Emitted op num body near) = ⊥
IsControlNote (Answered op) = ⊥
IsControlNote _ = Unit {0}

abbrev pub Nobody : ℕ → Type 0
Nobody op = ⊥

pub note_is : (plan : PlanView) (s t : State) (e : LogEntry) → IsControlNote e → NoteIs plan Nobody s t e
note_is plan s t (Sent op line) h = absurd h
note_is plan s t (Numbered op num) h = absurd h
note_is plan s t (Emitted op num body near) h = absurd h
note_is plan s t (Answered op) h = absurd h
note_is plan s t _ h = record { fresh = tt; stands = tt; about = λ op n. n }

pub note_off : (plan : PlanView) (key : List ℕ) (e : LogEntry) → IsControlNote e → NotOn plan key e
note_off plan key (Emitted op num body near) h = absurd h
note_off plan key (Sent op line) h = absurd h
note_off plan key (Numbered op num) h = absurd h
note_off plan key (Answered op) h = absurd h
note_off plan key _ h = tt

pub note_sends : (e : LogEntry) → IsControlNote e → IsNoSending e
note_sends (Sent op line) h = absurd h
note_sends _ h = λ op n. n

pub note_about : (e : LogEntry) → IsControlNote e → AboutMine Nobody e
note_about (Sent op line) h = absurd h
note_about (Numbered op num) h = absurd h
note_about (Emitted op num body near) h = absurd h
note_about (Answered op) h = absurd h
note_about _ h = λ op n. n

note_rises : (e f : LogEntry) → IsControlNote e → Rises e f
note_rises (Sent op line) f h = absurd h
note_rises (Numbered op num) f h = absurd h
note_rises (Emitted op num body near) f h = absurd h
note_rises (Answered op) f h = absurd h
note_rises _ f h = tt

pub each_to : {A : Type 0} (P Q : A → Type 0) (xs : List A) → ((x : A) → P x → Q x) → Each P xs → Each Q xs
each_to P Q [] f h = tt
each_to P Q (x ∷ xs) f h = (f x h.0, each_to P Q xs f h.1)

each_all : {A : Type 0} (P : A → Type 0) (xs : List A) → ((x : A) → P x) → Each P xs
each_all P [] f = tt
each_all P (x ∷ xs) f = (f x, each_all P xs f)

pub notes_rise : (notes : List LogEntry) → Each IsControlNote notes → Pairs Rises notes
notes_rise [] h = tt
notes_rise (e ∷ es) h = (each_all (Rises e) es (λ f. note_rises e f h.0), notes_rise es h.1)

-- a step that touches no operation
pub record Controls (plan : PlanView) (notes : List LogEntry) (s t : State) : Type 0 where
  pub log : t.log ≡ noted s notes
  pub notes_are : Each IsControlNote notes
  pub steps : t.steps ≡ now s
  pub running : t.running ≡ true → s.running ≡ true
  pub config : t.switch.config ≡ s.switch.config
  pub counter : s.switch.counter ≤ t.switch.counter
  pub servers : t.servers ≡ s.servers
  pub waits : (c : ℕ) → (client_at t c).waits ≡ (client_at s c).waits
  pub left : (c : ℕ) → (client_at t c).left ≡ (client_at s c).left
  pub tags : s.controller.next_tag ≤ t.controller.next_tag
  pub bag : (m : Message) → Among m t.bag → Among m s.bag ⊎ (Relies plan t m.packet × ((tag : ℕ) → IsDrawn s tag → AdmitsOther tag m.packet))

-- what it may do to the slot of a key: nothing, or the key gets an outdated one that no drawn tag fits
pub record SlotSettles (plan : PlanView) (s t : State) (key : List ℕ) : Type 0 where
  pub reach : (n : ℕ) → reach_by n (entry key t.switch) ≡ reach_by n (entry key s.switch)
  pub drawn : (slot : SlotView) → entry key t.switch ≡ Some slot → IsDrawn t slot.tag
  pub written : (slot : SlotView) → entry key t.switch ≡ Some slot → slot.latest ≡ true → entry key s.switch ≡ Some slot
  pub current : (tag : ℕ) (slot : SlotView) → IsDrawn s tag → entry key t.switch ≡ Some slot → slot.latest ≡ false → slot.tag ≡ tag → entry key s.switch ≡ Some slot

pub drawn_on : (plan : PlanView) (notes : List LogEntry) (s t : State) → Controls plan notes s t → (tag : ℕ) → IsDrawn s tag → IsDrawn t tag
drawn_on plan notes s t c tag d = record { below = let b = d.below in let more = c.tags in omega (arith, b, more); admitted = λ m a. go m (c.bag m a) }
  where
    go : (m : Message) → Among m s.bag ⊎ (Relies plan t m.packet × ((tag : ℕ) → IsDrawn s tag → AdmitsOther tag m.packet)) → AdmitsOther tag m.packet
    go m (inl a) = d.admitted m a
    go m (inr n) = n.1 tag d

-- a slot that stays as it is
pub slot_stays : (plan : PlanView) (notes : List LogEntry) (s t : State) → OperationsStand plan s → Controls plan notes s t → (key : List ℕ) → entry key t.switch ≡ entry key s.switch → SlotSettles plan s t key
slot_stays plan notes s t k c key same = record {
  reach = λ n. ap (reach_by n) same;
  drawn = λ slot is. drawn_on plan notes s t c slot.tag (k.slots key slot (sym same ∙ is)).drawn;
  written = λ slot is latest. sym same ∙ is;
  current = λ tag slot d is old under. sym same ∙ is;
}

pub controls_keep : (plan : PlanView) (notes : List LogEntry) (s t : State) → OperationsStand plan s → Controls plan notes s t → ((key : List ℕ) → SlotSettles plan s t key) → OperationsStand plan t
controls_keep plan notes s t k c settles =
    next plan Nobody notes s t k g (each_to IsControlNote (NoteIs plan Nobody s t) notes (note_is plan s t) c.notes_are) (notes_rise notes c.notes_are)
    (λ m a. message m (c.bag m a)) (record {
      servers = ap length c.servers ∙ k.servers;
      config = c.config ∙ k.config;
      records = λ key. subst (λ (w : Versioned). IsWritten plan t.log t.steps key w.num w.body) (sym (looks key)) (written_lasts plan Nobody notes s t g s.steps t.steps key _ _ (let e = c.steps in omega (arith, e)) (k.records key));
      left = λ d. left_lasts plan Nobody notes s t g d (c.left d) (λ o a n. n) (k.left d);
      open_or_answered = λ at o h. waits_on o (k.open_or_answered at o (sent_before plan s t notes c.log (each_to IsControlNote IsNoSending notes note_sends c.notes_are) at o h));
      covers = λ runs key. covers key (k.covers (c.running runs) key);
      slots = λ key slot is. record {
        drawn = (settles key).drawn slot is;
        written = λ latest. written_lasts plan Nobody notes s t g s.steps t.steps key _ _ (let e = c.steps in omega (arith, e)) ((k.slots key slot ((settles key).written slot is latest)).written latest);
      };
    })
  where
    looks : (key : List ℕ) → look plan t key ≡ look plan s key
    looks key = ap (λ servers. look plan (record s { servers = servers }) key) c.servers

    off : (key : List ℕ) → Each (NotOn plan key) notes
    off key = each_to IsControlNote (NotOn plan key) notes (note_off plan key) c.notes_are

    g : Grows plan Nobody notes s t
    g = record {
      log = c.log;
      about = each_to IsControlNote (AboutMine Nobody) notes note_about c.notes_are;
      steps = c.steps;
      counted = counted_on s t c.running c.counter;
      more = λ key. subst (λ (w : Versioned). (look plan s key).num ≤ w.num) (sym (looks key)) (omega arith);
      drawn = drawn_on plan notes s t c;
      current = λ key tag n m d h b slot is old under. shown_within plan t.log key (max n slot.num) (max m slot.num)
          (shown_lasts s t notes c.log plan key (max n slot.num) (h slot ((settles key).current tag slot d is old under) old under) (off_shows_each plan key (max n slot.num) notes (off key))) (omega (arith, b));
    }

    message : (m : Message) → Among m s.bag ⊎ (Relies plan t m.packet × ((tag : ℕ) → IsDrawn s tag → AdmitsOther tag m.packet)) → (Among m s.bag × IsOther Nobody m.packet) ⊎ Relies plan t m.packet
    message m (inl a) = inl (a, λ caller op e n. n)
    message m (inr n) = inr n.0

    covers : (key : List ℕ) → ExposedAtMost plan s.log key (reach plan s key) → ExposedAtMost plan t.log key (reach plan t key)
    covers key h =
        let same : reach plan t key ≡ reach plan s key = (settles key).reach (look plan t key).num ∙ ap (λ (w : Versioned). reach_by w.num (entry key s.switch)) (looks key) in
        subst (λ n. ExposedAtMost plan t.log key n) (sym same) (shown_lasts s t notes c.log plan key (reach plan s key) h (off_shows_each plan key (reach plan s key) notes (off key)))

    waits_on : (o : ℕ) → IsOpenOrAnswered plan s o → IsOpenOrAnswered plan t o
    waits_on o (inl w) = inl (c.waits (line_of plan.ops o).client ∙ w)
    waits_on o (inr h) = inr (record { answered_at = h.answered_at; answered = member s t notes c.log _ h.answered })

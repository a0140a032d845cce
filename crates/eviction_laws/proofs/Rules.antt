-- Steps that touch no operation: they keep everything where servers' numbers rise and no slot goes that was still wanted.
use Rattle.far_invariants.specs.Numbers.{entry, reach_by, reach, IsWritten}
use Rattle.far_invariants.specs.Covers.{look}
use Rattle.far_invariants.specs.Operations.{AdmitsOther, IsDrawn, Relies, IsOpenOrAnswered, OperationsStand}
use Rattle.far_invariants.proofs.Noted.{member}
use Rattle.std.proofs.Common.{◌≡◌, ℕ, ◌≤◌, max, ◌⊎◌, inl, inr, true, false, List, length, sym, ap, ◌∙◌, arith}
use Rattle.std.specs.Prelude.{Option, Some, None, Bool, if◌then◌else◌}
use Rattle.far_base.specs.PlanView.{PlanView}
use Rattle.far_base.specs.declared.log.LogEntry.{LogEntry}
use Rattle.far_base.specs.declared.packet.Message.{Message}
use Rattle.far_model.specs.Clients.{line_of}
use Rattle.far_model.specs.Members.{Among, Each}
use Rattle.far_model.specs.State.{State, client_at, now, noted}
use Rattle.far_model.specs.View.{SlotView}
use Rattle.record_laws.proofs.Controls.{IsControlNote, Nobody, note_is, note_off, note_sends, note_about, notes_rise, each_to}
use Rattle.record_laws.proofs.Frame.{counted_on, AboutMine, NotOn, off_shows_each, shown_lasts, shown_within, Grows, written_lasts, left_lasts}
use Rattle.record_laws.proofs.Step.{IsOther, NoteIs, IsNoSending, sent_before, next}

pub record Rules (plan : PlanView) (notes : List LogEntry) (s t : State) : Type 0 where
  pub log : t.log ≡ noted s notes
  pub notes_are : Each IsControlNote notes
  pub steps : t.steps ≡ now s
  pub running : t.running ≡ true → s.running ≡ true
  pub config : t.switch.config ≡ s.switch.config
  pub counter : s.switch.counter ≤ t.switch.counter
  pub servers : length t.servers ≡ length s.servers
  pub more : (key : List ℕ) → (look plan s key).num ≤ (look plan t key).num
  pub written : (key : List ℕ) → IsWritten plan s.log s.steps key (look plan t key).num (look plan t key).body
  pub waits : (c : ℕ) → (client_at t c).waits ≡ (client_at s c).waits
  pub left : (c : ℕ) → (client_at t c).left ≡ (client_at s c).left
  pub tags : s.controller.next_tag ≤ t.controller.next_tag
  pub bag : (m : Message) → Among m t.bag → Among m s.bag ⊎ (Relies plan t m.packet × ((tag : ℕ) → IsDrawn s tag → AdmitsOther tag m.packet))

-- what it may do to the slot of a key: a slot that is there after was there before, and one that goes is not missed
pub record SlotGoes (plan : PlanView) (s t : State) (key : List ℕ) : Type 0 where
  pub reach : t.running ≡ true → reach plan s key ≤ reach plan t key
  pub before : (slot : SlotView) → entry key t.switch ≡ Some slot → entry key s.switch ≡ Some slot

reach_more : (n m : ℕ) (e : Option SlotView) → n ≤ m → reach_by n e ≤ reach_by m e
reach_more n m None h = h
reach_more n m (Some slot) h = go slot.latest
  where
    go : (b : Bool) → (if b then slot.num else n) ≤ (if b then slot.num else m)
    go true = omega arith
    go false = h

-- a slot that stays as it is
pub slot_rests : (plan : PlanView) (s t : State) (key : List ℕ) → (look plan s key).num ≤ (look plan t key).num → entry key t.switch ≡ entry key s.switch → SlotGoes plan s t key
slot_rests plan s t key more same = record {
  reach = λ runs. let e : reach plan t key ≡ reach_by (look plan t key).num (entry key s.switch) = ap (λ w. reach_by (look plan t key).num w) same in
      let b = reach_more (look plan s key).num (look plan t key).num (entry key s.switch) more in omega (arith, e, b);
  before = λ slot is. sym same ∙ is;
}

pub rules_keep : (plan : PlanView) (notes : List LogEntry) (s t : State) → OperationsStand plan s → Rules plan notes s t → ((key : List ℕ) → SlotGoes plan s t key) → OperationsStand plan t
rules_keep plan notes s t k c settles =
    next plan Nobody notes s t k g (each_to IsControlNote (NoteIs plan Nobody s t) notes (note_is plan s t) c.notes_are) (notes_rise notes c.notes_are)
    (λ m a. message m (c.bag m a)) (record {
      servers = c.servers ∙ k.servers;
      config = c.config ∙ k.config;
      records = λ key. written_lasts plan Nobody notes s t g s.steps t.steps key _ _ (let e = c.steps in omega (arith, e)) (c.written key);
      left = λ d. left_lasts plan Nobody notes s t g d (c.left d) (λ o a n. n) (k.left d);
      open_or_answered = λ at o h. waits_on o (k.open_or_answered at o (sent_before plan s t notes c.log (each_to IsControlNote IsNoSending notes note_sends c.notes_are) at o h));
      covers = λ runs key. shown_within plan t.log key (reach plan s key) (reach plan t key)
          (shown_lasts s t notes c.log plan key (reach plan s key) (k.covers (c.running runs) key) (off_shows_each plan key (reach plan s key) notes (off key))) ((settles key).reach runs);
      slots = λ key slot is.
          let old = k.slots key slot ((settles key).before slot is) in
          record {
            drawn = drawn slot.tag old.drawn;
            written = λ latest. written_lasts plan Nobody notes s t g s.steps t.steps key _ _ (let e = c.steps in omega (arith, e)) (old.written latest);
          };
    })
  where
    off : (key : List ℕ) → Each (NotOn plan key) notes
    off key = each_to IsControlNote (NotOn plan key) notes (note_off plan key) c.notes_are

    drawn : (tag : ℕ) → IsDrawn s tag → IsDrawn t tag
    drawn tag d = record { below = let b = d.below in let more = c.tags in omega (arith, b, more); admitted = λ m a. go m (c.bag m a) }
      where
        go : (m : Message) → Among m s.bag ⊎ (Relies plan t m.packet × ((tag : ℕ) → IsDrawn s tag → AdmitsOther tag m.packet)) → AdmitsOther tag m.packet
        go m (inl a) = d.admitted m a
        go m (inr n) = n.1 tag d

    g : Grows plan Nobody notes s t
    g = record {
      log = c.log;
      about = each_to IsControlNote (AboutMine Nobody) notes note_about c.notes_are;
      steps = c.steps;
      counted = counted_on s t c.running c.counter;
      more = c.more;
      drawn = drawn;
      current = λ key tag n m d h b slot is old under. shown_within plan t.log key (max n slot.num) (max m slot.num)
          (shown_lasts s t notes c.log plan key (max n slot.num) (h slot ((settles key).before slot is) old under) (off_shows_each plan key (max n slot.num) notes (off key))) (omega (arith, b));
    }

    message : (m : Message) → Among m s.bag ⊎ (Relies plan t m.packet × ((tag : ℕ) → IsDrawn s tag → AdmitsOther tag m.packet)) → (Among m s.bag × IsOther Nobody m.packet) ⊎ Relies plan t m.packet
    message m (inl a) = inl (a, λ caller op e n. n)
    message m (inr n) = inr n.0

    waits_on : (o : ℕ) → IsOpenOrAnswered plan s o → IsOpenOrAnswered plan t o
    waits_on o (inl w) = inl (c.waits (line_of plan.ops o).client ∙ w)
    waits_on o (inr h) = inr (record { answered_at = h.answered_at; answered = member s t notes c.log _ h.answered })

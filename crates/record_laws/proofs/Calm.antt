-- Steps in which no operation and no admission moves: they leave all as it was.
use Rattle.far_invariants.specs.Numbers.{entry}
use Rattle.far_invariants.specs.Operations.{AdmitsOther, IsDrawn, Relies, OperationsStand}
use Rattle.std.proofs.Common.{◌≡◌, ℕ, ◌⊎◌, inl, inr, Bool, true, false, cond, List, ◌++◌, refl, sym, ap, ◌∙◌, subst, arith}
use Rattle.std.specs.Prelude.{Some, slice_get}
use Rattle.std.specs.List.{remove, count_by}
use Rattle.far_base.specs.PlanView.{PlanView}
use Rattle.far_base.specs.declared.log.LogEntry.{LogEntry}
use Rattle.far_base.specs.declared.packet.Message.{Message}
use Rattle.far_base.specs.declared.packet.Packet.{Packet}
use Rattle.far_base.specs.declared.packet.Packet.TheVariants.{GetReq, WriteReq, GetFwd, WriteFwd, GetRep, WriteRep, GetAns, WriteAns, Hot, Admit, SnapStart, SnapBegun, SnapRead, SnapPart, Release, Ask, Told, TopAsk, TopIs, SnapSame, SnapFrom}
use Rattle.far_model.specs.Members.{Among, Each}
use Rattle.far_model.specs.State.{State, client_at, now, noted}
use Rattle.far_model.proofs.Members.{among_append, among_remove}
use Rattle.record_laws.proofs.Controls.{IsControlNote, Controls, slot_stays, controls_keep}
use Rattle.record_laws.proofs.Seats.{counted, count_removed, is_admission_packet}

-- a packet of snapshots, of recovery, or of a hot key
abbrev pub is_plain : Packet → Bool
is_plain (Hot key) = true
is_plain (SnapStart epoch id) = true
is_plain (SnapBegun id point) = true
is_plain (SnapRead epoch id i) = true
is_plain (SnapPart id i view) = true
is_plain (SnapSame id i) = true
is_plain (SnapFrom epoch id base) = true
is_plain (Release point) = true
is_plain (Ask round) = true
is_plain (Told round caller total item) = true
is_plain (TopAsk round) = true
is_plain (TopIs round server top) = true
is_plain _ = false

pub plain_relies : (plan : PlanView) (s : State) (p : Packet) → is_plain p ≡ true → Relies plan s p
plain_relies plan s (GetReq caller op key) h = absurd cc
plain_relies plan s (WriteReq caller op key body) h = absurd cc
plain_relies plan s (GetFwd caller op key tag) h = absurd cc
plain_relies plan s (WriteFwd caller op key num body) h = absurd cc
plain_relies plan s (GetRep caller op key tag num body) h = absurd cc
plain_relies plan s (WriteRep caller op key num body) h = absurd cc
plain_relies plan s (GetAns caller op key num body near) h = absurd cc
plain_relies plan s (WriteAns caller op key num kept) h = absurd cc
plain_relies plan s _ h = tt

pub plain_admits : (p : Packet) (tag : ℕ) → is_plain p ≡ true → AdmitsOther tag p
plain_admits (Admit epoch i key own) tag h = absurd cc
plain_admits _ tag h = tt

-- what stays of the bag: all that moves an admission
pub record IsRest (s : State) (rest : List Message) : Type 0 where
  pub among : (m : Message) → Among m rest → Among m s.bag
  pub count : (p : Packet → Bool) → ((q : Packet) → is_admission_packet q ≡ false → p q ≡ false) → count_by (λ (m : Message). p m.packet) rest ≡ count_by (λ (m : Message). p m.packet) s.bag

pub rest_all : (s : State) → IsRest s s.bag
rest_all s = record { among = λ m a. a; count = λ p none. refl }

pub rest_taken : (s : State) (i : ℕ) (m : Message) → slice_get s.bag i ≡ Some m → is_admission_packet m.packet ≡ false → IsRest s (remove s.bag i)
rest_taken s i m at off = record {
  among = λ n a. among_remove n s.bag i a;
  count = λ p none.
      let first = count_removed (λ (m : Message). p m.packet) s.bag i m at in
      let gone : counted (λ (m : Message). p m.packet) m ≡ 0 = ap (λ b. cond {A = ℕ} b 1 0) (none m.packet off) in
      omega (arith, first, gone);
}

pub record IsCalm (notes : List LogEntry) (s t : State) (rest new : List Message) : Type 0 where
  pub bag : t.bag ≡ rest ++ new
  pub plain : (m : Message) → Among m new → is_plain m.packet ≡ true
  pub log : t.log ≡ noted s notes
  pub notes_are : Each IsControlNote notes
  pub steps : t.steps ≡ now s
  pub running : t.running ≡ s.running
  pub config : t.switch.config ≡ s.switch.config
  pub switch_epoch : t.switch.epoch ≡ s.switch.epoch
  pub counter : t.switch.counter ≡ s.switch.counter
  pub bound : t.switch.bound ≡ s.switch.bound
  pub slots : t.switch.slots ≡ s.switch.slots
  pub servers : t.servers ≡ s.servers
  pub waits : (c : ℕ) → (client_at t c).waits ≡ (client_at s c).waits
  pub left : (c : ℕ) → (client_at t c).left ≡ (client_at s c).left
  pub epoch : t.controller.epoch ≡ s.controller.epoch
  pub states : t.controller.slots ≡ s.controller.slots
  pub tags : t.controller.next_tag ≡ s.controller.next_tag

module _ (plan : PlanView) (notes : List LogEntry) (s t : State) (rest new : List Message) (r : IsRest s rest) (c : IsCalm notes s t rest new) where
  calm_entry : (key : List ℕ) → entry key t.switch ≡ entry key s.switch
  calm_entry key = ap (λ b. entry key (record s.switch { bound = b; slots = t.switch.slots })) c.bound ∙ ap (λ l. entry key (record s.switch { slots = l })) c.slots

  pub calm_keeps : OperationsStand plan s → OperationsStand plan t
  calm_keeps k = controls_keep plan notes s t k f (λ key. slot_stays plan notes s t k f key (calm_entry key))
    where
      message : (m : Message) → Among m rest ⊎ Among m new → Among m s.bag ⊎ (Relies plan t m.packet × ((tag : ℕ) → IsDrawn s tag → AdmitsOther tag m.packet))
      message m (inl a) = inl (r.among m a)
      message m (inr a) = inr (plain_relies plan t m.packet (c.plain m a), λ tag d. plain_admits m.packet tag (c.plain m a))

      f : Controls plan notes s t
      f = record {
        log = c.log;
        notes_are = c.notes_are;
        steps = c.steps;
        running = λ e. sym c.running ∙ e;
        config = c.config;
        counter = let e = c.counter in omega (arith, e);
        servers = c.servers;
        waits = c.waits;
        left = c.left;
        tags = let e = c.tags in omega (arith, e);
        bag = λ m a. message m (among_append m rest new (subst (λ w. Among m w) c.bag a));
      }

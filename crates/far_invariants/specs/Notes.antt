-- What an event notes, as far as operations go.
use Rattle.std.specs.Prelude.{◌≡◌, ℕ, ◌≤◌, List, [], ◌∷◌, length, Option, None, Some}
use Rattle.std.specs.List.{count_by}
use Rattle.far_base.specs.PlanView.{PlanView}
use Rattle.far_base.specs.declared.event.Event.{Event}
use Rattle.far_base.specs.declared.event.Event.TheVariants.{Restart}
use Rattle.far_base.specs.declared.log.LogEntry.{LogEntry}
use Rattle.far_base.specs.declared.log.LogEntry.TheVariants.{Sent, Numbered, Emitted, Answered, Admitted, Evicted, Kept}
use Rattle.far_base.specs.declared.log.LogEntry.TheVariants.{Snapped, SnapItem, Stopped, Recovered, RecItem}
use Rattle.far_model.specs.Clients.{line_of}
use Rattle.far_model.specs.Controller.{ready}
use Rattle.far_model.specs.Events.{Keeping, recovery_items}
use Rattle.far_model.specs.Members.{Each}
use Rattle.far_model.specs.State.{State, client_at, noted}
use Rattle.far_invariants.specs.DrawnNumbers.{is_numbering}

-- of a slot alone
abbrev pub IsSlotNote : LogEntry → Type 0
IsSlotNote (Admitted slot key tag) = Unit {0}
IsSlotNote (Evicted slot key tries) = Unit {0}
IsSlotNote (Kept slot key num) = Unit {0}
IsSlotNote _ = ⊥

-- of no operation, and of no restart
abbrev pub IsOfNone : LogEntry → Type 0
IsOfNone (Sent op line) = ⊥
IsOfNone (Numbered op num) = ⊥
IsOfNone (Emitted op num body near) = ⊥
IsOfNone (Answered op) = ⊥
IsOfNone (Admitted slot key tag) = Unit {0}
IsOfNone (Evicted slot key tries) = Unit {0}
IsOfNone (Kept slot key num) = Unit {0}
IsOfNone (Snapped id point count same) = Unit {0}
IsOfNone (SnapItem slot item) = Unit {0}
IsOfNone Stopped = Unit {0}
IsOfNone (Recovered counter count) = ⊥
IsOfNone (RecItem item) = ⊥

-- what the switch notes of an operation that passes
abbrev pub IsPassNote : ℕ → LogEntry → Type 0
IsPassNote op (Numbered other num) = other ≡ op
IsPassNote op (Emitted other num body near) = other ≡ op
IsPassNote op _ = ⊥

-- one client waits for this operation and has these still to send, and the others are as they were
pub record ClientsAre (s t : State) (c : ℕ) (waits : Option ℕ) (left : List ℕ) : Type 0 where
  pub waits_are : (client_at t c).waits ≡ waits
  pub left_are : (client_at t c).left ≡ left
  pub others : (other : ℕ) → (other ≡ c → ⊥) → client_at t other ≡ client_at s other

-- no client waits for another operation or has others to send
pub record ClientsGoOn (s t : State) : Type 0 where
  pub waits : (c : ℕ) → (client_at t c).waits ≡ (client_at s c).waits
  pub left : (c : ℕ) → (client_at t c).left ≡ (client_at s c).left

-- an event sends an operation of a client, or answers the one that it waits for, or passes it through the switch, or is
-- a
-- restart, or notes nothing of these
pub data EventNotes (plan : PlanView) (k : Keeping) (s : State) (e : Event) (t : State) : Type 0 where
  OfSending : (c op : ℕ) (left : List ℕ) → (client_at s c).waits ≡ None → (client_at s c).left ≡ op ∷ left
      → t.log ≡ noted s (Sent op (line_of plan.ops op) ∷ []) → ClientsAre s t c (Some op) left → EventNotes plan k s e t
  OfAnswer : (c op : ℕ) → (client_at s c).waits ≡ Some op → t.log ≡ noted s (Answered op ∷ [])
      → ClientsAre s t c None (client_at s c).left → EventNotes plan k s e t
  OfPass : (c op : ℕ) (notes : List LogEntry) → (client_at s c).waits ≡ Some op → t.log ≡ noted s notes
      → Each (IsPassNote op) notes → count_by is_numbering notes ≤ 1 → ClientsGoOn s t → EventNotes plan k s e t
  OfNone : (notes : List LogEntry) → t.log ≡ noted s notes → Each IsOfNone notes → ClientsGoOn s t
      → EventNotes plan k s e t
  OfRestart : (counter : ℕ) → e ≡ Restart → ready s.controller ≡ Some counter
      → t.log ≡ noted s (Recovered counter (length k.records) ∷ recovery_items k.records) → ClientsGoOn s t
      → EventNotes plan k s e t

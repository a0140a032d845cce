-- What a removal on its way takes away and what a server says that it has stored, its server has: of the present
-- eviction or round, and of every one that was dropped when the switch lost its memory.
use Rattle.std.specs.Prelude.{◌≡◌, ℕ, ◌≤◌, true, List, [], ◌∷◌, ◌++◌}
use Rattle.far_base.specs.PlanView.{PlanView}
use Rattle.far_base.specs.declared.event.Event.{Event}
use Rattle.far_base.specs.declared.packet.Message.{Message}
use Rattle.far_base.specs.declared.packet.Packet.{Packet}
use Rattle.far_base.specs.declared.packet.Packet.TheVariants.{Remove, Store, Stored}
use Rattle.far_base.specs.declared.record.Record.{Record}
use Rattle.far_invariants.specs.Covers.{look}
use Rattle.far_invariants.specs.Past.{DrawnTag}
use Rattle.far_model.specs.Events.{happens}
use Rattle.far_model.specs.Members.{Among}
use Rattle.far_model.specs.State.{State, opening}

-- ---- the stores of a run

-- a store that was on its way: its job, and the record
pub record GivenStore : Type 0 where
  pub job : ℕ
  pub item : Record

abbrev pub given : ℕ → Record → GivenStore
given job item = record { job = job; item = item }

abbrev pub store_in : Packet → List GivenStore
store_in (Store job item) = given job item ∷ []
store_in _ = []

abbrev pub stores_in : List Message → List GivenStore
stores_in [] = []
stores_in (m ∷ bag) = store_in m.packet ++ stores_in bag

-- those before, and those that are on their way after one of these events
abbrev pub stores_after : PlanView → State → List GivenStore → List Event → List GivenStore
stores_after plan s before [] = before
stores_after plan s before (e ∷ es) =
    stores_after plan (happens plan s e) (before ++ stores_in (happens plan s e).bag) es

-- all stores that were on their way at some time of the run
abbrev pub stores_of_run : PlanView → List Event → List GivenStore
stores_of_run plan events = stores_after plan (opening plan) [] events

-- ---- what is said of them

-- a store of this job was on its way, and the server of each such store's key has at least its number
pub record WasStored (plan : PlanView) (stores : List GivenStore) (s : State) (job : ℕ) : Type 0 where
  pub item : Record
  pub there : Among (given job item) stores
  pub covered : (g : GivenStore) → Among g stores → g.job ≡ job → g.item.num ≤ (look plan s g.item.key).num

-- a removal of a latest slot: the server has at least the number that it removes, of the key for which the slot's tag
-- was drawn. A server's word that a job is done: there was a store of that job, and the server has at least the number
-- of its record
abbrev pub IsStoredBefore : PlanView → List DrawnTag → List GivenStore → State → Packet → Type 0
IsStoredBefore plan drawn stores s (Remove epoch i tag latest num) = latest ≡ true → (d : DrawnTag) → Among d drawn
    → d.tag ≡ tag → num ≤ (look plan s d.key).num
IsStoredBefore plan drawn stores s (Stored job) = WasStored plan stores s job
IsStoredBefore plan drawn stores s _ = Unit {0}

-- by the tags that were drawn and the stores that were on their way in the run; a job has one record
pub record RemovalIsStored (plan : PlanView) (drawn : List DrawnTag) (stores : List GivenStore)
    (s : State) : Type 0 where
  pub one : (g h : GivenStore) → Among g stores → Among h stores → g.job ≡ h.job → g.item ≡ h.item
  pub packets : (m : Message) → Among m s.bag → IsStoredBefore plan drawn stores s m.packet

-- No number that the state holds is above the count of the numbers that were drawn.
use Rattle.std.specs.Prelude.{ℕ, ◌≤◌, Bool, true, false, List, Option, None, Some}
use Rattle.std.specs.List.{count_by}
use Rattle.far_base.specs.declared.log.LogEntry.{LogEntry}
use Rattle.far_base.specs.declared.log.LogEntry.TheVariants.{Numbered}
use Rattle.far_base.specs.declared.log.LogLine.{LogLine}
use Rattle.far_base.specs.declared.packet.Message.{Message}
use Rattle.far_base.specs.declared.packet.Packet.{Packet}
use Rattle.far_base.specs.declared.packet.Packet.TheVariants.{GetReq, WriteReq, GetFwd, WriteFwd, GetRep, WriteRep}
use Rattle.far_base.specs.declared.packet.Packet.TheVariants.{GetAns, WriteAns, Hot, Admit, AdmitAck, Peek, PeekAns}
use Rattle.far_base.specs.declared.packet.Packet.TheVariants.{Remove, RemoveAns, SnapStart, SnapBegun, SnapRead}
use Rattle.far_base.specs.declared.packet.Packet.TheVariants.{SnapPart, Store, Stored, Release, Ask, Told, TopAsk}
use Rattle.far_base.specs.declared.packet.Packet.TheVariants.{TopIs, SnapFrom, SnapSame}
use Rattle.far_base.specs.declared.record.Record.{Record}
use Rattle.far_model.specs.Clients.{ClientState}
use Rattle.far_model.specs.Controller.{ControllerState}
use Rattle.far_model.specs.Evictions.{Eviction}
use Rattle.far_model.specs.Members.{Among, Each}
use Rattle.far_model.specs.Rounds.{Round}
use Rattle.far_model.specs.Snapshots.{Job}
use Rattle.far_model.specs.State.{State, client_at, records_at}
use Rattle.far_model.specs.View.{Mark, SwitchView, shown_at, slot_at}

abbrev pub is_numbering : LogEntry → Bool
is_numbering (Numbered op num) = true
is_numbering _ = false

-- how many numbers were drawn
abbrev pub drawn_count : List LogLine → ℕ
drawn_count log = count_by (λ (l : LogLine). is_numbering l.entry) log

abbrev pub number_of : Option Record → ℕ
number_of None = 0
number_of (Some r) = r.num

abbrev pub number_in : Packet → ℕ
number_in (GetReq caller op key) = 0
number_in (WriteReq caller op key body) = 0
number_in (GetFwd caller op key tag) = 0
number_in (WriteFwd caller op key num body) = num
number_in (GetRep caller op key tag num body) = num
number_in (WriteRep caller op key num body) = num
number_in (GetAns caller op key num body near) = num
number_in (WriteAns caller op key num kept) = num
number_in (Hot key) = 0
number_in (Admit epoch i key tag) = 0
number_in (AdmitAck i tag) = 0
number_in (Peek epoch i tag) = 0
number_in (PeekAns i tag latest num body) = num
number_in (Remove epoch i tag latest num) = num
number_in (RemoveAns i tag done latest num body) = num
number_in (SnapStart epoch id) = 0
number_in (SnapFrom epoch id base) = 0
number_in (SnapBegun id point) = point
number_in (SnapRead epoch id i) = 0
number_in (SnapPart id i view) = number_of view
number_in (SnapSame id i) = 0
number_in (Store job item) = item.num
number_in (Stored job) = 0
number_in (Release point) = point
number_in (Ask round) = 0
number_in (Told round caller total item) = number_of item
number_in (TopAsk round) = 0
number_in (TopIs round server top) = top

abbrev pub RecordsWithin : ℕ → List Record → Type 0
RecordsWithin n records = Each (λ (r : Record). r.num ≤ n) records

abbrev pub ViewsWithin : ℕ → List (Option Record) → Type 0
ViewsWithin n views = Each (λ (view : Option Record). number_of view ≤ n) views

abbrev pub part_number : Option (Option Record) → ℕ
part_number None = 0
part_number (Some view) = number_of view

abbrev pub begun_number : Option ℕ → ℕ
begun_number None = 0
begun_number (Some point) = point

abbrev pub mark_number : Option Mark → ℕ
mark_number None = 0
mark_number (Some m) = m.num

-- the marks of what slots showed
abbrev pub MarksWithin : ℕ → SwitchView → Type 0
MarksWithin n v = (i : ℕ) → mark_number (shown_at v i) ≤ n

abbrev pub EvictionWithin : ℕ → Option Eviction → Type 0
EvictionWithin n None = Unit {0}
EvictionWithin n (Some e) = e.item.num ≤ n

abbrev pub JobWithin : ℕ → Option Job → Type 0
JobWithin n None = Unit {0}
JobWithin n (Some job) = (begun_number job.begun ≤ n) × Each (λ part. part_number part ≤ n) job.parts

abbrev pub RoundWithin : ℕ → Option Round → Type 0
RoundWithin n None = Unit {0}
RoundWithin n (Some r) = Each (λ top. begun_number top ≤ n) r.tops

pub record ClientWithin (n : ℕ) (client : ClientState) : Type 0 where
  pub released : client.released ≤ n
  pub preserved : RecordsWithin n client.preserved

pub record ControllerWithin (n : ℕ) (c : ControllerState) : Type 0 where
  pub eviction : EvictionWithin n c.eviction
  pub job : JobWithin n c.job
  pub point : c.last.point ≤ n
  pub views : ViewsWithin n c.last.views
  pub round : RoundWithin n c.round

-- the counter, the keepers' ceiling and every number that the state holds are at most n
pub record NumbersWithin (n ceiling : ℕ) (s : State) : Type 0 where
  pub counter : s.switch.counter ≤ n
  pub ceiling_too : ceiling ≤ n
  pub slots : (i : ℕ) → (slot_at s.switch i).num ≤ n
  pub marks : MarksWithin n s.switch
  pub packets : (m : Message) → Among m s.bag → number_in m.packet ≤ n
  pub clients : (c : ℕ) → ClientWithin n (client_at s c)
  pub servers : (n' : ℕ) → RecordsWithin n (records_at s n')
  pub controller : ControllerWithin n s.controller

-- none is above the count of the numbers drawn
abbrev pub NumbersAreDrawn : ℕ → State → Type 0
NumbersAreDrawn ceiling s = NumbersWithin (drawn_count s.log) ceiling s

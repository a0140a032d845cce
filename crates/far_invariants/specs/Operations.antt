-- What every run keeps of operations: what the log says of each, what the packet that is on its way for it relies on,
-- and
-- what servers and slots have.
use Rattle.far_invariants.specs.Numbers.{ExposedAtMostBy, ExposedAtMost, entry, reach, IsWritten, WouldBeCurrent}
use Rattle.far_invariants.specs.Covers.{look}
use Rattle.std.specs.Prelude.{◌≡◌, ◌≢◌, ℕ, ◌<◌, ◌≤◌, ◌⊎◌, true, false, List, length, Option, Some}
use Rattle.std.specs.Bool.{MatchBool}
use Rattle.far_base.specs.PlanView.{PlanView}
use Rattle.far_base.specs.declared.log.LogEntry.{LogEntry}
use Rattle.far_base.specs.declared.log.LogEntry.TheVariants.{Sent, Numbered, Emitted, Answered}
use Rattle.far_base.specs.declared.log.LogLine.{LogLine}
use Rattle.far_base.specs.declared.packet.Message.{Message}
use Rattle.far_base.specs.declared.packet.Packet.{Packet}
use Rattle.far_base.specs.declared.packet.Packet.TheVariants.{GetReq, WriteReq, GetFwd, WriteFwd, GetRep, WriteRep}
use Rattle.far_base.specs.declared.packet.Packet.TheVariants.{GetAns, WriteAns, Admit}
use Rattle.far_model.specs.Clients.{line_of}
use Rattle.far_model.specs.Coherent.{Earlier, IsAnswering, IsOwnNumber, ReachesOwnNumber}
use Rattle.far_model.specs.Log.{Answer, is_read}
use Rattle.far_model.specs.Members.{Among, Pairs}
use Rattle.far_model.specs.State.{State, client_at, line_at}
use Rattle.far_model.specs.View.{SlotView}

-- ---- what the log says of an operation

abbrev pub SendsOp : ℕ → LogEntry → Type 0
SendsOp op (Sent other line) = op ≡ other
SendsOp op _ = ⊥

abbrev pub NumbersOp : ℕ → LogEntry → Type 0
NumbersOp op (Numbered other num) = op ≡ other
NumbersOp op _ = ⊥

abbrev pub EmitsOp : ℕ → LogEntry → Type 0
EmitsOp op (Emitted other num body near) = op ≡ other
EmitsOp op _ = ⊥

abbrev pub AnswersOp : ℕ → LogEntry → Type 0
AnswersOp op (Answered other) = op ≡ other
AnswersOp op _ = ⊥

-- no line says this
abbrev pub Absent : (LogEntry → Type 0) → List LogLine → Type 0
Absent says log = (l : LogLine) → Among l log → says l.entry → ⊥

pub record IsSent (plan : PlanView) (log : List LogLine) (moment op : ℕ) : Type 0 where
  pub sent_at : ℕ
  pub sent : Among (line_at sent_at (Sent op (line_of plan.ops op))) log
  pub before : sent_at ≤ moment

-- ---- what a line stands for

pub record NumberStands (plan : PlanView) (s : State) (moment op num : ℕ) : Type 0 where
  pub sent : IsSent plan s.log moment op
  pub write : is_read (line_of plan.ops op).op ≡ false
  pub above : 0 < num
  pub counted : s.running ≡ true → num ≤ s.switch.counter

pub record AnswerStands (plan : PlanView) (s : State) (moment op : ℕ) (a : Answer) : Type 0 where
  pub sent : IsSent plan s.log moment op
  pub key : List ℕ
  pub on_key : (line_of plan.ops op).key ≡ key
  pub written : Option (List ℕ)
  pub source : IsWritten plan s.log moment key a.num written
  pub same : is_read (line_of plan.ops op).op ≡ true → a.body ≡ written
  pub floor : is_read (line_of plan.ops op).op ≡ true → ExposedAtMostBy plan s.log key sent.sent_at a.num
  pub own : is_read (line_of plan.ops op).op ≡ false → ReachesOwnNumber s.log moment op a.num
  -- the switch answers a write by itself with its own number, and else its server has the number
  pub stored : is_read (line_of plan.ops op).op ≡ false → MatchBool a.near (IsOwnNumber s.log moment op a.num)
      (a.num ≤ (look plan s key).num)

abbrev pub LineStands : PlanView → State → ℕ → LogEntry → Type 0
LineStands plan s moment (Sent op line) = line ≡ line_of plan.ops op
LineStands plan s moment (Numbered op num) = NumberStands plan s moment op num
LineStands plan s moment (Emitted op num body near) =
    AnswerStands plan s moment op (record { num = num; body = body; near = near })
LineStands plan s moment (Answered op) = IsAnswering s.log moment op
LineStands plan s moment _ = Unit {0}

pub record LineIs (plan : PlanView) (s : State) (l : LogLine) : Type 0 where
  pub passed : l.moment ≤ s.steps
  pub stands : LineStands plan s l.moment l.entry

-- ---- what a message relies on

abbrev pub AdmitsOther : ℕ → Packet → Type 0
AdmitsOther tag (Admit epoch i key own) = own ≢ tag
AdmitsOther tag _ = Unit {0}

-- the tag was drawn, and no slot is still to be admitted with it
pub record IsDrawn (s : State) (tag : ℕ) : Type 0 where
  pub below : tag < s.controller.next_tag
  pub admitted : (m : Message) → Among m s.bag → AdmitsOther tag m.packet

pub record IsTagged (plan : PlanView) (s : State) (key : List ℕ) (tag num : ℕ) : Type 0 where
  pub drawn : IsDrawn s tag
  pub current : WouldBeCurrent plan s key tag num

pub record ServesOp (plan : PlanView) (s : State) (caller op : ℕ) (key : List ℕ) : Type 0 where
  pub sent : IsSent plan s.log s.steps op
  pub on_key : (line_of plan.ops op).key ≡ key
  pub by_client : caller ≡ (line_of plan.ops op).client
  pub unanswered : Absent (AnswersOp op) s.log

pub record ReadIsAsked (plan : PlanView) (s : State) (caller op : ℕ) (key : List ℕ) : Type 0 where
  pub serves : ServesOp plan s caller op key
  pub read : is_read (line_of plan.ops op).op ≡ true
  pub unemitted : Absent (EmitsOp op) s.log

pub record WriteIsAsked (plan : PlanView) (s : State) (caller op : ℕ) (key : List ℕ)
    (body : Option (List ℕ)) : Type 0 where
  pub serves : ServesOp plan s caller op key
  pub write : is_read (line_of plan.ops op).op ≡ false
  pub same_body : (line_of plan.ops op).body ≡ body
  pub unnumbered : Absent (NumbersOp op) s.log
  pub unemitted : Absent (EmitsOp op) s.log

pub record ReadIsForwarded (plan : PlanView) (s : State) (caller op : ℕ) (key : List ℕ) (tag : ℕ) : Type 0 where
  pub serves : ServesOp plan s caller op key
  pub read : is_read (line_of plan.ops op).op ≡ true
  pub unemitted : Absent (EmitsOp op) s.log
  pub floor : ExposedAtMostBy plan s.log key serves.sent.sent_at (look plan s key).num
  pub tagged : IsTagged plan s key tag (look plan s key).num

pub record WriteIsForwarded (plan : PlanView) (s : State) (caller op : ℕ) (key : List ℕ) (num : ℕ)
    (body : Option (List ℕ)) : Type 0 where
  pub serves : ServesOp plan s caller op key
  pub write : is_read (line_of plan.ops op).op ≡ false
  pub same_body : (line_of plan.ops op).body ≡ body
  pub own : IsOwnNumber s.log s.steps op num
  pub above : 0 < num
  pub unemitted : Absent (EmitsOp op) s.log

pub record ReadIsReplied (plan : PlanView) (s : State) (caller op : ℕ) (key : List ℕ) (tag num : ℕ)
    (body : Option (List ℕ)) : Type 0 where
  pub serves : ServesOp plan s caller op key
  pub read : is_read (line_of plan.ops op).op ≡ true
  pub unemitted : Absent (EmitsOp op) s.log
  pub floor : ExposedAtMostBy plan s.log key serves.sent.sent_at num
  pub known : num ≤ (look plan s key).num
  pub written : IsWritten plan s.log s.steps key num body
  pub tagged : IsTagged plan s key tag num

pub record WriteIsReplied (plan : PlanView) (s : State) (caller op : ℕ) (key : List ℕ) (num : ℕ)
    (body : Option (List ℕ)) : Type 0 where
  pub serves : ServesOp plan s caller op key
  pub write : is_read (line_of plan.ops op).op ≡ false
  pub unemitted : Absent (EmitsOp op) s.log
  pub own : ReachesOwnNumber s.log s.steps op num
  pub known : num ≤ (look plan s key).num
  pub written : IsWritten plan s.log s.steps key num body

pub record IsBeingAnswered (plan : PlanView) (s : State) (caller op : ℕ) (key : List ℕ) : Type 0 where
  pub serves : ServesOp plan s caller op key
  pub emitted : IsAnswering s.log s.steps op

abbrev pub Relies : PlanView → State → Packet → Type 0
Relies plan s (GetReq caller op key) = ReadIsAsked plan s caller op key
Relies plan s (WriteReq caller op key body) = WriteIsAsked plan s caller op key body
Relies plan s (GetFwd caller op key tag) = ReadIsForwarded plan s caller op key tag
Relies plan s (WriteFwd caller op key num body) = WriteIsForwarded plan s caller op key num body
Relies plan s (GetRep caller op key tag num body) = ReadIsReplied plan s caller op key tag num body
Relies plan s (WriteRep caller op key num body) = WriteIsReplied plan s caller op key num body
Relies plan s (GetAns caller op key num body near) = IsBeingAnswered plan s caller op key
Relies plan s (WriteAns caller op key num kept) = IsBeingAnswered plan s caller op key
Relies plan s _ = Unit {0}

-- ---- the whole

-- what a client has still to send
pub record LeftIs (plan : PlanView) (s : State) (c : ℕ) : Type 0 where
  pub of_client : (op : ℕ) → Among op (client_at s c).left → (line_of plan.ops op).client ≡ c
  pub unsent : (op : ℕ) → Among op (client_at s c).left → Absent (SendsOp op) s.log
  pub apart : Pairs (λ (a b : ℕ). a ≢ b) (client_at s c).left

pub record SlotIs (plan : PlanView) (s : State) (key : List ℕ) (slot : SlotView) : Type 0 where
  pub drawn : IsDrawn s slot.tag
  pub written : slot.latest ≡ true → IsWritten plan s.log s.steps key slot.num slot.body

pub record WasAnswered (log : List LogLine) (op : ℕ) : Type 0 where
  pub answered_at : ℕ
  pub answered : Among (line_at answered_at (Answered op)) log

abbrev pub IsOpenOrAnswered : PlanView → State → ℕ → Type 0
IsOpenOrAnswered plan s op = ((client_at s (line_of plan.ops op).client).waits ≡ Some op) ⊎ WasAnswered s.log op

pub record OperationsStand (plan : PlanView) (s : State) : Type 0 where
  pub some_server : 0 < plan.config.servers
  pub servers : length s.servers ≡ plan.config.servers
  pub config : s.switch.config ≡ plan.config
  pub order : Pairs Earlier s.log
  pub lines : (l : LogLine) → Among l s.log → LineIs plan s l
  pub relies : (m : Message) → Among m s.bag → Relies plan s m.packet
  pub records : (key : List ℕ) → IsWritten plan s.log s.steps key (look plan s key).num (look plan s key).body
  pub left : (c : ℕ) → LeftIs plan s c
  pub open_or_answered : (at op : ℕ) → Among (line_at at (Sent op (line_of plan.ops op))) s.log
      → IsOpenOrAnswered plan s op
  pub covers : s.running ≡ true → (key : List ℕ) → ExposedAtMost plan s.log key (reach plan s key)
  pub slots : (key : List ℕ) (slot : SlotView) → entry key s.switch ≡ Some slot → SlotIs plan s key slot
  pub untagged : IsDrawn s 0

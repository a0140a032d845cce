-- A pipeline of the stages, with at most one packet before each.
use Rattle.std.specs.Prelude.{◌≡◌, ◌<◌, ◌≤◌, ◌+◌, ◌-◌, ◌^◌, ℕ, suc, true, List, [], ◌∷◌, ◌++◌, map, take, drop}
use Rattle.std.specs.Prelude.{replicate, ◌*◌, length, slice_index_or, Option, None, Some, IfSome}
use Rattle.std.specs.List.{AllByRecursion}
use Rattle.far_base.specs.Padded.{padded, text_of}
use Rattle.far_base.specs.declared.body.TheConstants.{BODY_LIMIT}
use Rattle.far_base.specs.declared.packet.Packet.{Packet}
use Rattle.far_base.specs.declared.plan.Config.{Config}
use Rattle.far_model.specs.View.{SwitchView}
use Rattle.switch_core.specs.declared.switch.Emit.{Emit}
use Rattle.switch_staged.specs.declared.flight.Course.{Course}
use Rattle.switch_staged.specs.Line.{answers, final}
use Rattle.switch_staged.specs.Rows.{CELL_LENGTH}
use Rattle.switch_staged.specs.Stages.{PlaceBelow, AdmitsWithin, entered, table_after, looked_up, heads_after, headed}
use Rattle.switch_staged.specs.Stages.{taken_at_place, parted_at, hots_after, warmed, array_after, carried}
use Rattle.switch_staged.specs.Emits.{first_out, second_out}
use Rattle.switch_staged.specs.Heads.{gate_after}
use Rattle.switch_staged.specs.Through.{before_table, before_heads, before_taken, before_body, through, AreCut, IsShort}
use Rattle.switch_staged.specs.Whole.{Registers, Fits, view_of}

-- what contracts see of a pipeline: its registers, the packet before stage 0, and the flights before the later stages
pub record PipelineView : Type 0 where
  pub config : Config
  pub registers : Registers
  pub entering : Option Packet
  pub table : Option Course
  pub heads : Option Course
  pub taken : Option Course
  pub bodies : List (Option Course)

-- ---- which packets stand where

abbrev pub packet_of : Option Course → Option Packet
packet_of None = None
packet_of (Some f) = Some f.packet

-- the packet before each stage
abbrev pub standing : PipelineView → List (Option Packet)
standing v = v.entering ∷ packet_of v.table ∷ packet_of v.heads ∷ packet_of v.taken ∷ map packet_of v.bodies

abbrev pub one_packet : Option Packet → List Packet
one_packet None = []
one_packet (Some p) = p ∷ []

-- the packets that are there, the last stage's first
abbrev pub oldest_first : List (Option Packet) → List Packet
oldest_first [] = []
oldest_first (p ∷ ps) = oldest_first ps ++ one_packet p

-- the packets inside, oldest first
abbrev pub inside : PipelineView → List Packet
inside v = oldest_first (standing v)

-- so many packets, and none behind the last
abbrev pub in_front : ℕ → List Packet → List (Option Packet)
in_front n packets = map (λ p. Some p) packets ++ replicate (n - length packets) None

-- of the packets that entered, those that have passed the stage: not those that stand before it or an earlier one
abbrev pub passed : ℕ → PipelineView → List Packet → List Packet
passed stage v entered = take (length entered - length (oldest_first (take (suc stage) (standing v)))) entered

-- cell k of a body, with zeros behind the body
abbrev pub body_cell : ℕ → Option (List ℕ) → List ℕ
body_cell k body = take CELL_LENGTH (drop (k * CELL_LENGTH) (padded BODY_LIMIT (text_of body)))

-- ---- how the stages stand to the packets that came

-- of the packets that came to a stage, all but the one that stands before it have passed; its flight is that of its
-- packet at this stage, behind those packets
abbrev pub Waits : (Registers → Packet → Course) → Config → Registers → Option Course → List Packet → List Packet
    → Type 0
Waits flight config first None came gone = came ≡ gone
Waits flight config first (Some f) came gone = (p : Packet) × (came ≡ gone ++ p ∷ []) × (f ≡ flight
    (through config first gone) p)

abbrev pub array_of : ℕ → Registers → List (List ℕ)
array_of k r = slice_index_or r.arrays k []

-- the stages of the body from k on: each array is as the packets that have passed leave it
abbrev pub Bodies : ℕ → Config → Registers → List (List (List ℕ)) → List (Option Course) → List Packet
    → List Packet → Type 0
Bodies k config first [] waiting came left = came ≡ left
Bodies k config first (a ∷ arrays) [] came left = came ≡ left
Bodies k config first (a ∷ arrays) (w ∷ waiting) came left = (gone : List Packet)
    × Waits (before_body k config) config first w came gone
    × (a ≡ array_of k (through config first gone))
    × Bodies (suc k) config first arrays waiting gone left

-- the packets that entered a pipeline of these first registers: each stage is as those that have passed it leave it
pub record Overlaps (v : PipelineView) (first : Registers) (entered left : List Packet) : Type 0 where
  pub fits : Fits v.config first
  pub cut : AreCut v.config.slots first
  pub short : AllByRecursion IsShort entered
  pub arrays_count : length v.registers.arrays ≡ 32
  pub bodies_count : length v.bodies ≡ 32
  pub past_gate : List Packet
  pub past_table : List Packet
  pub past_heads : List Packet
  pub past_taken : List Packet
  pub entering : entered ≡ past_gate ++ one_packet v.entering
  pub gate : v.registers.gate ≡ (through v.config first past_gate).gate
  pub table_waits : Waits (before_table v.config) v.config first v.table past_gate past_table
  pub bound : v.registers.bound ≡ (through v.config first past_table).bound
  pub heads_waits : Waits (before_heads v.config) v.config first v.heads past_table past_heads
  pub heads : v.registers.heads ≡ (through v.config first past_heads).heads
  pub taken_waits : Waits (before_taken v.config) v.config first v.taken past_heads past_taken
  pub taken : v.registers.taken ≡ (through v.config first past_taken).taken
  pub hot : v.registers.hot ≡ (through v.config first past_taken).hot
  pub bodies : Bodies 0 v.config first v.registers.arrays v.bodies past_taken left

-- these packets entered, in this order, a pipeline that began with the view `start`, and it gave these answers
pub record IsRun (v : PipelineView) (start : SwitchView) (entered : List Packet) (answered : List Emit) : Type 0 where
  pub first : Registers
  pub begins : view_of v.config first ≡ start
  pub left : List Packet
  pub overlaps : Overlaps v first entered left
  pub answers_are : answers start left ≡ answered

-- the answers so far are those of the first packets, one after the other; the others are inside, oldest first; and
-- while none is inside, the registers are the final view
pub record IsInOrder (v : PipelineView) (start : SwitchView) (entered : List Packet)
    (answered : List Emit) : Type 0 where
  pub left : List Packet
  pub all : entered ≡ left ++ inside v
  pub answers_are : answers start left ≡ answered
  pub prefix : answers start entered ≡ answered ++ answers (final start left) (inside v)
  pub settles : inside v ≡ [] → view_of v.config v.registers ≡ final start entered

-- ---- one tick

-- an array after a visit of the flight before it, if one stands there
abbrev pub kept : {X F : Type 0} → (X → F → X) → X → Option F → X
kept step x None = x
kept step x (Some f) = step x f

-- the flight that goes on to the next stage
abbrev pub sent : {X F G : Type 0} → (X → F → G) → X → Option F → Option G
sent next x None = None
sent next x (Some f) = Some (next x f)

abbrev pub stepped : ℕ → List (List (List ℕ)) → List (Option Course) → List (List (List ℕ))
stepped k [] waiting = []
stepped k (a ∷ arrays) [] = a ∷ arrays
stepped k (a ∷ arrays) (w ∷ waiting) = kept (array_after k) a w ∷ stepped (suc k) arrays waiting

-- the flights before the stages of the body, where `coming` comes to the first
abbrev pub shifted : ℕ → List (List (List ℕ)) → List (Option Course) → Option Course → List (Option Course)
shifted k [] waiting coming = waiting
shifted k (a ∷ arrays) [] coming = []
shifted k (a ∷ arrays) (w ∷ waiting) coming = coming ∷ shifted (suc k) arrays waiting (sent (carried k) a w)

-- the flight that has passed the last of them
abbrev pub gone : ℕ → List (List (List ℕ)) → List (Option Course) → Option Course → Option Course
gone k [] waiting coming = coming
gone k (a ∷ arrays) [] coming = coming
gone k (a ∷ arrays) (w ∷ waiting) coming = gone (suc k) arrays waiting (sent (carried k) a w)

abbrev pub past : PipelineView → Option Course
past v = sent (λ cells f. warmed v.config v.registers.hot (parted_at cells f.place f)) v.registers.taken v.taken

abbrev pub leaving : PipelineView → Option Course
leaving v = gone 0 v.registers.arrays v.bodies (past v)

-- what leaves with a flight that has passed all stages
abbrev pub answer_of : Config → Option Course → Option Emit
answer_of config None = None
answer_of config (Some f) = Some (record { first = first_out config f; second = second_out f })

abbrev pub given : Option Emit → List Emit
given None = []
given (Some emit) = emit ∷ []

abbrev pub ticked : PipelineView → PipelineView
ticked v = record {
  config = v.config;
  registers = record {
    gate = kept gate_after v.registers.gate v.entering;
    bound = kept table_after v.registers.bound v.table;
    heads = kept heads_after v.registers.heads v.heads;
    taken = kept (λ cells f. taken_at_place cells f.place f) v.registers.taken v.taken;
    hot = kept (λ cells f. hots_after v.config cells (parted_at v.registers.taken f.place f)) v.registers.hot v.taken;
    arrays = stepped 0 v.registers.arrays v.bodies;
  };
  entering = None;
  table = sent (entered v.config) v.registers.gate v.entering;
  heads = sent looked_up v.registers.bound v.table;
  taken = sent headed v.registers.heads v.heads;
  bodies = shifted 0 v.registers.arrays v.bodies (past v);
}

-- ---- what keeps each visit within its array

abbrev pub StaysBelow : ℕ → Option Course → Type 0
StaysBelow slots w = IfSome w (λ f. PlaceBelow f.place slots)

-- whatever is bound, the packet goes to a slot that is there, and binds none that is not
pub record MayLook (slots : ℕ) (f : Course) : Type 0 where
  pub place : (bound : List (Option (List ℕ))) → length bound ≡ slots → PlaceBelow (looked_up bound f).place slots
  pub admits : f.live ≡ true → AdmitsWithin slots f.packet

pub record IsOpen (v : PipelineView) : Type 0 where
  pub room : IfSome v.entering (λ p. v.registers.gate.counter + 1 < 2 ^ 64)
  pub table : IfSome v.table (MayLook v.config.slots)
  pub heads : StaysBelow v.config.slots v.heads
  pub taken : StaysBelow v.config.slots v.taken
  pub bodies : AllByRecursion (StaysBelow v.config.slots) v.bodies
  pub count : length v.bodies ≡ 32

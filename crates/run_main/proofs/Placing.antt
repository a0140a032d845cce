-- A fault that names a limit names a line of the text.
use Rattle.std.proofs.Common.{arith, ◌≡◌, ◌⊎◌, inl, inr, ℕ, ◌+◌, ◌<◌, Bool, true, false, if◌then◌else◌, nat_le, nat_lt, bytes_eq, codes, List, [], ◌∷◌, ◌++◌, length, Option, Some, None, Result, Ok, Err, sym, ◌∙◌, subst}
use Rattle.far_base.specs.declared.packet.Packet.{Packet}
use Rattle.far_base.specs.declared.plan.OpLine.{OpLine}
use Rattle.far_base.specs.declared.plan.Order.{Order}
use Rattle.far_base.specs.declared.plan.TheConstants.{CLIENT_LIMIT, HOT_LIMIT, SERVER_LIMIT, SLOT_LIMIT}
use Rattle.far_text.specs.Pieces.{Pieces, pieces}
use Rattle.line_text.specs.Reading.{LineView, at_end as packets_end, head_of as line_head_of, packet_in, packet_step, packets_from, reading as line_reading, title_of as line_title_of, titled as line_titled}
use Rattle.link_text.specs.Faults.{HasScriptFault, IsFaultyLine, IsNoEvent, IsOneTooMany, IsOpenLine}
use Rattle.workload.specs.Faults.{HasFault, IsFaulty, IsOpen}
use Rattle.workload.specs.Forms.{Form, OfOp, OfOrder, OfPicks, OfRandom, form_of, op_counted, op_short, op_step, order_step, passed, picks_step, random_by, step, step_by, unless}
use Rattle.workload.specs.Outcome.{◌andthen◌}
use Rattle.workload.specs.Reading.{head_of, next_line, size_of, sized, sized_by, title_of, titled}
use Rattle.workload.specs.WorkView.{WorkView}
use Rattle.workload.specs.Words.{named}
use Rattle.workload.specs.declared.fault.Limit.{Limit}
use Rattle.workload.specs.declared.fault.Limit.TheVariants.{Clients, Servers, Slots, Hot, Ops}
use Rattle.workload.specs.declared.fault.WorkFault.{WorkFault}
use Rattle.workload.specs.declared.fault.WorkFault.TheVariants.{BadLine as BadLineFault, TooLarge as TooLargeFault, Memory as NoMemory}

-- a limit is passed in a line that is counted from 1
abbrev NamesLine : WorkFault → Type 0
NamesLine (TooLargeFault limit line) = 0 < line
NamesLine (BadLineFault line) = Unit {0}
NamesLine NoMemory = Unit {0}

abbrev Places : {A : Type 0} → Result A WorkFault → Type 0
Places (Ok x) = Unit {0}
Places (Err fault) = NamesLine fault

then_places : {A B : Type 0} (r : Result A WorkFault) (f : A → Result B WorkFault) → Places r → ((x : A) → Places (f x)) → Places (r andthen f)
then_places (Ok x) f h k = k x
then_places (Err fault) f h k = h

if_places : {A : Type 0} (b : Bool) (met other : Result A WorkFault) → Places met → Places other → Places (if b then met else other)
if_places true met other m o = m
if_places false met other m o = o

-- ---- the first lines of a workload

next_places : (n : ℕ) (lines : Pieces) → Places (next_line n lines)
next_places n [] = tt
next_places n (line ∷ []) = tt
next_places n (line ∷ next ∷ more) = tt

sized_places : (n least most : ℕ) (which : Limit) (found : Option ℕ) → Places (sized_by (n + 1) least most which found)
sized_places n least most which None = tt
sized_places n least most which (Some k) = if_places (nat_lt k least) (Err (BadLineFault (n + 1))) _ tt (if_places (nat_lt most k) (Err (TooLargeFault which (n + 1))) (Ok k) (omega arith) tt)

size_places : (n : ℕ) (name : List ℕ) (least most : ℕ) (which : Limit) (lines : Pieces) → Places (size_of n name least most which lines)
size_places n name least most which lines =
    then_places (next_line n lines) _ (next_places n lines) (λ l.
    then_places (sized (n + 1) name least most which l.0) _ (sized_places n least most which (named name l.0)) (λ k. tt))

title_places : (lines : Pieces) → Places (title_of lines)
title_places lines = then_places (next_line 0 lines) titled (next_places 0 lines) (λ l. if_places (bytes_eq l.0 (codes "far 1")) (Ok l.1) (Err (BadLineFault 1)) tt tt)

head_places : (lines : Pieces) → Places (head_of lines)
unfolding head_of
head_places lines =
    then_places (title_of lines) _ (title_places lines) (λ rest.
    then_places (size_of 1 (codes "clients ") 1 CLIENT_LIMIT Clients rest) _ (size_places 1 (codes "clients ") 1 CLIENT_LIMIT Clients rest) (λ a.
    then_places (size_of 2 (codes "servers ") 1 SERVER_LIMIT Servers a.1) _ (size_places 2 (codes "servers ") 1 SERVER_LIMIT Servers a.1) (λ b.
    then_places (size_of 3 (codes "slots ") 1 SLOT_LIMIT Slots b.1) _ (size_places 3 (codes "slots ") 1 SLOT_LIMIT Slots b.1) (λ c.
    then_places (size_of 4 (codes "hot ") 0 HOT_LIMIT Hot c.1) _ (size_places 4 (codes "hot ") 0 HOT_LIMIT Hot c.1) (λ d. tt)))))

-- ---- the other lines of a workload

module _ (n : ℕ) (counted : 0 < n) (w : WorkView) where
  op_places : (line : OpLine) → Places (op_step n w line)
  op_places line = if_places _ (op_short n w line) (Err (BadLineFault n)) (if_places _ (op_counted n w line) (Err (TooLargeFault _ n)) (if_places _ (Ok _) (Err (TooLargeFault _ n)) tt counted) counted) tt

  unless_places : (which : Option Limit) (x : WorkView) → Places (unless n which x)
  unless_places None x = tt
  unless_places (Some limit) x = counted

  random_places : (start : ℕ) (other : Option ℕ) → Places (random_by n w start other)
  random_places start None = tt
  random_places start (Some other) = tt

  step_places : (form : Option Form) → Places (step_by n w form)
  step_places None = tt
  step_places (Some (OfOp line)) = op_places line
  step_places (Some (OfOrder order)) = unless_places (passed w.plan.orders order) _
  step_places (Some (OfPicks picks)) = if_places _ (Ok _) (Err (TooLargeFault _ n)) tt counted
  step_places (Some (OfRandom start)) = random_places start w.random

pub work_placed : (text : List ℕ) (limit : Limit) (line : ℕ) → HasFault text (TooLargeFault limit line) → 0 < line
work_placed text limit line (inl head) = subst Places head (head_places (pieces 10 text))
work_placed text limit line (inr first) = go first.at
  where
    go : IsOpen first.number first.rest (TooLargeFault limit line) ⊎ IsFaulty first.number first.before first.rest (TooLargeFault limit line) → 0 < line
    go (inl unended) = absurd (let e : TooLargeFault limit line ≡ BadLineFault first.number = unended.named in cc)
    go (inr faulty) = subst Places faulty.fails (step_places first.number (let at : first.number ≡ length first.read.forms + 6 = first.behind in omega arith) first.before (form_of faulty.line))

-- ---- a line of packets

line_title_places : (lines : Pieces) → Places (line_title_of lines)
line_title_places lines = then_places (next_line 0 lines) line_titled (next_places 0 lines) (λ l. if_places (bytes_eq l.0 (codes "far 1 line")) (Ok l.1) (Err (BadLineFault 1)) tt tt)

line_head_places : (lines : Pieces) → Places (line_head_of lines)
unfolding line_head_of
line_head_places lines =
    then_places (line_title_of lines) _ (line_title_places lines) (λ rest.
    then_places (size_of 1 (codes "servers ") 1 SERVER_LIMIT Servers rest) _ (size_places 1 (codes "servers ") 1 SERVER_LIMIT Servers rest) (λ a.
    then_places (size_of 2 (codes "slots ") 1 SLOT_LIMIT Slots a.1) _ (size_places 2 (codes "slots ") 1 SLOT_LIMIT Slots a.1) (λ b.
    then_places (size_of 3 (codes "hot ") 0 HOT_LIMIT Hot b.1) _ (size_places 3 (codes "hot ") 0 HOT_LIMIT Hot b.1) (λ c. tt))))

packet_places : (n : ℕ) (packets : List Packet) (found : Option Packet) → 0 < n → Places (packet_step n packets found)
packet_places n packets None counted = tt
packet_places n packets (Some packet) counted = if_places _ (Ok _) (Err (TooLargeFault Ops n)) tt counted

end_places : (n : ℕ) (packets : List Packet) (rest : List ℕ) → Places (packets_end n packets rest)
end_places n packets [] = tt
end_places n packets (b ∷ bs) = tt

packets_places : (n : ℕ) (packets : List Packet) (lines : Pieces) → Places (packets_from n packets lines)
unfolding packets_from
packets_places n packets [] = tt
packets_places n packets (line ∷ []) = end_places n packets line
packets_places n packets (line ∷ next ∷ more) =
    then_places (packet_step (n + 1) packets (packet_in line)) _ (packet_places (n + 1) packets (packet_in line) (omega arith)) (λ read. packets_places (n + 1) read (next ∷ more))

line_places : (text : List ℕ) → Places (line_reading text)
unfolding line_reading
line_places text =
    then_places (line_head_of (pieces 10 text)) _ (line_head_places (pieces 10 text)) (λ head.
    then_places (packets_from 4 [] head.1) _ (packets_places 4 [] head.1) (λ packets. tt))

pub line_placed : (text : List ℕ) (limit : Limit) (line : ℕ) → line_reading text ≡ Err (TooLargeFault limit line) → 0 < line
line_placed text limit line fails = subst Places fails (line_places text)

-- ---- the events of a link

pub script_placed : (text : List ℕ) (limit : Limit) (line : ℕ) → HasScriptFault text (TooLargeFault limit line) → (limit ≡ Ops) × (0 < line)
script_placed text limit line (inl none) = absurd (let e : TooLargeFault limit line ≡ BadLineFault 1 = none.1 in cc)
script_placed text limit line (inr first) = go first.at
  where
    n : ℕ
    n = length first.events + 2

    fails : (at : List ℕ) → (IsNoEvent at × (TooLargeFault limit line ≡ BadLineFault n)) ⊎ (IsOneTooMany first.events at × (TooLargeFault limit line ≡ TooLargeFault Ops n)) → (limit ≡ Ops) × (0 < line)
    fails at (inl h) = absurd (let e : TooLargeFault limit line ≡ BadLineFault n = h.1 in cc)
    fails at (inr h) = (let e : TooLargeFault limit line ≡ TooLargeFault Ops n = h.1 in cc, subst NamesLine (sym h.1) (omega arith))

    go : IsOpenLine n first.rest (TooLargeFault limit line) ⊎ IsFaultyLine n first.events first.rest (TooLargeFault limit line) → (limit ≡ Ops) × (0 < line)
    go (inl unended) = absurd (let e : TooLargeFault limit line ≡ BadLineFault n = unended.named in cc)
    go (inr faulty) = fails faulty.line faulty.fails

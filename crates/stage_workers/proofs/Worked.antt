-- A list with one more item, and workers whose lists agree.
use Rattle.std.proofs.Common.{◌≡◌, ℕ, suc, ◌+◌, ◌≤◌, List, [], ◌∷◌, ◌++◌, length, map, sym, refl, ap, ◌∙◌, subst, arith}
use Rattle.std.specs.List.{AllByRecursion}
use Rattle.far_base.specs.declared.packet.Packet.{Packet}
use Rattle.std.proofs.lemmas.List.{take_more}
use Rattle.std.specs.Prelude.{◌<◌, slice_index_or, take}
use Rattle.far_model.specs.Pass.{Passed, pass}
use Rattle.far_model.specs.View.{SwitchView}
use Rattle.switch_core.specs.Plain.{emit_of}
use Rattle.switch_core.specs.declared.switch.Emit.{Emit}
use Rattle.switch_staged.specs.declared.groups.Groups.{Groups}
use Rattle.switch_staged.specs.Groups.{HeadView, PartView, FlightView, head_left, led, part_left, through_part, emitted}
use Rattle.switch_staged.specs.Line.{answers, final}
use Rattle.switch_staged.proofs.ThroughLaws.{answers_more, final_more}
use Rattle.switch_staged.specs.Machines.{left_by, given_by}
use Rattle.switch_staged.specs.Through.{IsShort}
use Rattle.switch_staged.specs.Together.{AreOfOne, AreLine, switch_of, groups_after, flights1, flights2, flights3, flights4, flights5}
use Rattle.stage_workers.specs.declared.done.AllDone.{AllDone}
use Rattle.stage_workers.specs.declared.done.HeadDone.{HeadDone}
use Rattle.stage_workers.specs.declared.done.PartDone.{PartDone}
use Rattle.stage_workers.specs.Work.{HeadWorked, PartWorked, AllWorked, Agree, IsLineOf}

left_more : {S X : Type 0} (step : S → X → S) (s : S) (xs : List X) (x : X) → left_by step s (xs ++ x ∷ []) ≡ step (left_by step s xs) x
left_more step s [] x = refl
left_more step s (y ∷ xs) x = left_more step (step s y) xs x

given_more : {S X Y : Type 0} (step : S → X → S) (out : S → X → Y) (s : S) (xs : List X) (x : X) → given_by step out s (xs ++ x ∷ []) ≡ given_by step out s xs ++ out (left_by step s xs) x ∷ []
given_more step out s [] x = refl
given_more step out s (y ∷ xs) x = ap (λ r. out s y ∷ r) (given_more step out (step s y) xs x)

short_more : (ps : List Packet) (p : Packet) → AllByRecursion IsShort ps → IsShort p → AllByRecursion IsShort (ps ++ p ∷ [])
short_more [] p h s = (s, tt)
short_more (q ∷ ps) p h s = (h.0, short_more ps p h.1 s)

pub head_more : (first : HeadView) (old new : HeadDone) (p : Packet) → HeadWorked first old → new.head ≡ head_left old.head p → new.took.items ≡ old.took.items ++ p ∷ [] → new.gave.items ≡ old.gave.items ++ led old.head p ∷ [] → IsShort p
    → HeadWorked first new
head_more first old new p h l t g s = record {
  left = l ∙ ap (λ x. head_left x p) h.left ∙ sym (left_more head_left first old.took.items p) ∙ ap (left_by head_left first) (sym t);
  given = g ∙ ap (λ x. old.gave.items ++ led x p ∷ []) h.left ∙ ap (λ r. r ++ led (left_by head_left first old.took.items) p ∷ []) h.given
      ∙ sym (given_more head_left led first old.took.items p) ∙ ap (given_by head_left led first) (sym t);
  short = subst (AllByRecursion IsShort) (sym t) (short_more old.took.items p h.short s);
}

pub part_more : (first : PartView) (old new : PartDone) (f : FlightView) → PartWorked first old → new.part ≡ part_left old.part f → new.took.items ≡ old.took.items ++ f ∷ [] → new.gave.items ≡ old.gave.items ++ through_part old.part f ∷ []
    → PartWorked first new
part_more first old new f h l t g = record {
  left = l ∙ ap (λ x. part_left x f) h.left ∙ sym (left_more part_left first old.took.items f) ∙ ap (left_by part_left first) (sym t);
  given = g ∙ ap (λ x. old.gave.items ++ through_part x f ∷ []) h.left ∙ ap (λ r. r ++ through_part (left_by part_left first old.took.items) f ∷ []) h.given
      ∙ sym (given_more part_left through_part first old.took.items f) ∙ ap (given_by part_left through_part first) (sym t);
}

-- ---- one packet after the other

-- the switch after the first packets, their answers, and one more packet that passes it
pub line_next : (v now new : SwitchView) (ps : List Packet) (k : ℕ) (p : Packet) (emits more : List Emit) (e : Emit)
    → emits ≡ answers v (take k ps) → now ≡ final v (take k ps) → k < length ps → p ≡ slice_index_or ps k p
    → new ≡ (pass now p).view → e.first ≡ (pass now p).first → e.second ≡ (pass now p).second → more ≡ emits ++ e ∷ []
    → IsLineOf v (take (k + 1) ps) new more
line_next v now new ps k p emits more e a n below at view first second m =
    let t : take (k + 1) ps ≡ take k ps ++ p ∷ [] = take_more ps k p below ∙ ap (λ x. take k ps ++ x ∷ []) (sym at) in
    let same : e ≡ emit_of (pass now p) = ap (λ x. record e { first = x }) first ∙ ap (λ x. record (emit_of (pass now p)) { second = x }) second in
    record {
      answers_are = m ∙ ap (λ r. r ++ e ∷ []) a ∙ ap (λ x. answers v (take k ps) ++ x ∷ []) (same ∙ ap (λ w. emit_of (pass w p)) n)
          ∙ sym (answers_more v (take k ps) (p ∷ [])) ∙ ap (answers v) (sym t);
      final_is = view ∙ ap (λ w. (pass w p).view) n ∙ sym (final_more v (take k ps) p) ∙ ap (final v) (sym t);
    }

-- ---- lists that agree

given_length : {S X Y : Type 0} (step : S → X → S) (out : S → X → Y) (s : S) (xs : List X) → length (given_by step out s xs) ≡ length xs
given_length step out s [] = refl
given_length step out s (x ∷ xs) = ap suc (given_length step out (step s x) xs)

pub flights_count : (g : Groups) (packets : List Packet) → length (flights5 g packets) ≡ length packets
flights_count g packets =
    given_length part_left through_part g.part4 (flights4 g packets)
    ∙ given_length part_left through_part g.part3 (flights3 g packets)
    ∙ given_length part_left through_part g.part2 (flights2 g packets)
    ∙ given_length part_left through_part g.part1 (flights1 g packets)
    ∙ given_length head_left led g.head packets

pub record IsGroupWork (g n : Groups) (packets : List Packet) (flights : List FlightView) : Type 0 where
  pub groups : n ≡ groups_after g packets
  pub flights_are : flights ≡ flights5 g packets
  pub short : AllByRecursion IsShort packets

same_groups : (g n : Groups) → g.head ≡ n.head → g.part1 ≡ n.part1 → g.part2 ≡ n.part2 → g.part3 ≡ n.part3 → g.part4 ≡ n.part4 → g ≡ n
same_groups g n h a b c d =
    ap (λ x. record g { head = x }) h
    ∙ ap (λ x. record g { head = n.head; part1 = x }) a
    ∙ ap (λ x. record g { head = n.head; part1 = n.part1; part2 = x }) b
    ∙ ap (λ x. record n { part3 = x; part4 = g.part4 }) c
    ∙ ap (λ x. record n { part4 = x }) d

pub work_agrees : (g : Groups) (done : AllDone) (packets : List Packet) → AllWorked g.head g.part1 g.part2 g.part3 g.part4 done → Agree done packets
    → IsGroupWork g (record { head = done.head.head; part1 = done.part1.part; part2 = done.part2.part; part3 = done.part3.part; part4 = done.part4.part }) packets done.part4.gave.items
work_agrees g done packets w a =
    let g1 : done.part1.took.items ≡ flights1 g packets = a.flights1 ∙ w.worked0.given ∙ ap (given_by head_left led g.head) a.packets_are in
    let g2 : done.part2.took.items ≡ flights2 g packets = a.flights2 ∙ w.worked1.given ∙ ap (given_by part_left through_part g.part1) g1 in
    let g3 : done.part3.took.items ≡ flights3 g packets = a.flights3 ∙ w.worked2.given ∙ ap (given_by part_left through_part g.part2) g2 in
    let g4 : done.part4.took.items ≡ flights4 g packets = a.flights4 ∙ w.worked3.given ∙ ap (given_by part_left through_part g.part3) g3 in
    record {
      groups = same_groups _ (groups_after g packets)
          (w.worked0.left ∙ ap (left_by head_left g.head) a.packets_are)
          (w.worked1.left ∙ ap (left_by part_left g.part1) g1)
          (w.worked2.left ∙ ap (left_by part_left g.part2) g2)
          (w.worked3.left ∙ ap (left_by part_left g.part3) g3)
          (w.worked4.left ∙ ap (left_by part_left g.part4) g4);
      flights_are = w.worked4.given ∙ ap (given_by part_left through_part g.part4) g4;
      short = subst (AllByRecursion IsShort) a.packets_are w.worked0.short;
    }

pub work_is_line : (g n : Groups) (packets : List Packet) (flights : List FlightView) (emits : List Emit) → IsGroupWork g n packets flights → AreLine g packets → emits ≡ map emitted flights
    → IsLineOf (switch_of g) packets (switch_of n) emits
work_is_line g n packets flights emits w l e = record {
  answers_are = e ∙ ap (map emitted) w.flights_are ∙ l.answers_are;
  final_is = ap switch_of w.groups ∙ l.final_is;
}

-- Packets that pass the stages group by group are a line of packets.
use Rattle.std.proofs.Common.{◌≡◌, ℕ, zero, suc, ◌+◌, ◌-◌, ◌<◌, ◌≤◌, ◌⊎◌, inl, inr, Bool, true, false, List, [], ◌∷◌, ◌++◌, length, map, replicate, sym, refl, ap, ◌∙◌, subst, arith, Option, None, Some}
use Rattle.std.specs.Prelude.{slice_index_or, nat_lt, if◌then◌else◌}
use Rattle.std.specs.List.{AllByRecursion}
use Rattle.std.proofs.lemmas.Bool.Decides.{nat_tests}
use Rattle.std.proofs.lemmas.List.{get_or_append_left, get_or-append-add, replicate-append-replicate, length-replicate}
use Rattle.far_base.specs.declared.packet.Packet.{Packet}
use Rattle.far_base.specs.declared.plan.Config.{Config}
use Rattle.far_model.specs.Pass.{Passed, pass}
use Rattle.far_model.specs.View.{SwitchView, slot_at, opening_view}
use Rattle.switch_core.specs.Plain.{emit_of}
use Rattle.switch_core.specs.declared.switch.Emit.{Emit}
use Rattle.switch_staged.specs.declared.flight.Course.{Course}
use Rattle.switch_staged.specs.declared.groups.Groups.{Groups}
use Rattle.switch_staged.specs.Emits.{first_out, second_out}
use Rattle.switch_staged.specs.Groups.{HeadView, PartView, FlightView, head_left, led, arrays_left, carried_over, part_kept, course_kept, part_left, through_part, emitted, empty_part}
use Rattle.switch_staged.specs.Line.{final, answers}
use Rattle.switch_staged.specs.Overlap.{array_of, body_cell}
use Rattle.switch_staged.specs.Rows.{zero_cell}
use Rattle.switch_staged.specs.Stages.{PlaceBelow, array_after, carried, arrays_after, carried_all}
use Rattle.switch_staged.specs.Through.{before_heads, before_taken, before_bodies, after, AreCut, IsShort}
use Rattle.switch_staged.specs.Together.{registers_of, switch_of, IsPartAt, IsPartIn, AreOfOne, AreLine, opening_groups, flight1, flight2, flight3, flight4, flight5, groups_left, groups_after, flights5}
use Rattle.switch_staged.specs.Whole.{Registers, Fits, view_of, opening_registers}
use Rattle.switch_staged.proofs.BodyLaws.{after_cut, cell_is}
use Rattle.switch_staged.proofs.CutLaws.{opening_cut}
use Rattle.switch_staged.proofs.Opening.{opens, opening_fits}
use Rattle.switch_staged.proofs.PassLaws.{carry_place}
use Rattle.switch_staged.proofs.PipeLaws.{counter_ticks}
use Rattle.switch_staged.proofs.SlotLaws.{carries_nothing, writes_nothing}
use Rattle.switch_staged.proofs.StagedLaws.{place_in, headed_in, parted_in}
use Rattle.switch_staged.proofs.ThroughLaws.{landed_is_pass, after_fits, arrays_count, no_more, next_more}

-- ---- the stages of the body may be cut anywhere

pub carried_two : (at : ℕ) (xs ys : List (List (List ℕ))) (f : Course) → carried_all at (xs ++ ys) f ≡ carried_all (at + length xs) ys (carried_all at xs f)
carried_two at [] ys f = ap (λ m. carried_all m ys f) (no_more at)
carried_two at (x ∷ xs) ys f =
    carried_two (suc at) xs ys (carried at x f)
    ∙ ap (λ m. carried_all m ys (carried_all (suc at) xs (carried at x f))) (next_more at (length xs))

pub left_two : (at : ℕ) (xs ys : List (List (List ℕ))) (f : Course) → arrays_after at (xs ++ ys) f ≡ arrays_after at xs f ++ arrays_after (at + length xs) ys (carried_all at xs f)
left_two at [] ys f = ap (λ m. arrays_after m ys f) (no_more at)
left_two at (x ∷ xs) ys f = ap (λ r. array_after at x f ∷ r)
    (left_two (suc at) xs ys (carried at x f)
    ∙ ap (λ m. arrays_after (suc at) xs (carried at x f) ++ arrays_after m ys (carried_all (suc at) xs (carried at x f))) (next_more at (length xs)))

course_place : (at : ℕ) (arrays : List (List (List ℕ))) (f : Course) → (carried_all at arrays f).place ≡ f.place
course_place at [] f = refl
course_place at (a ∷ arrays) f = course_place (suc at) arrays (carried at a f) ∙ carry_place f.place at a f

-- ---- one part

lt_true : (i n : ℕ) → i < n → nat_lt i n ≡ true
lt_true i n b = grind (arith, nat_tests)

over_is : (at n : ℕ) (arrays : List (List (List ℕ))) (f : Course) (q : Option ℕ) → f.place ≡ q → PlaceBelow q n → carried_over at n arrays q f ≡ carried_all at arrays f
over_is at n arrays f None e b = sym (carries_nothing at arrays f e)
over_is at n arrays f (Some i) e b = ap (λ x. if x then carried_all at arrays f else f) (lt_true i n b)

left_is : (at n : ℕ) (arrays : List (List (List ℕ))) (f : Course) (q : Option ℕ) → f.place ≡ q → PlaceBelow q n → arrays_left at n arrays q f ≡ arrays_after at arrays f
left_is at n arrays f None e b = sym (writes_nothing at arrays f e)
left_is at n arrays f (Some i) e b = ap (λ x. if x then arrays_after at arrays f else arrays) (lt_true i n b)

part_arrays : (at n : ℕ) (t : PartView) (f : Course) → IsPartAt at n t → PlaceBelow f.place n → (part_kept t f).arrays ≡ arrays_after at t.arrays f
unfolding part_kept
part_arrays at n t f h b =
    left_is t.first t.slots t.arrays f f.place refl (subst (λ m. PlaceBelow f.place m) (sym h.slots_are) b)
    ∙ ap (λ m. arrays_after m t.arrays f) h.first_is

part_course : (at n : ℕ) (t : PartView) (f : Course) → IsPartAt at n t → PlaceBelow f.place n → course_kept t f ≡ carried_all at t.arrays f
unfolding course_kept
part_course at n t f h b =
    over_is t.first t.slots t.arrays f f.place refl (subst (λ m. PlaceBelow f.place m) (sym h.slots_are) b)
    ∙ ap (λ m. carried_all m t.arrays f) h.first_is

-- a part, and the arrays of the parts behind it
record Further (at n : ℕ) (t : PartView) (rest : List (List (List ℕ))) (f : Course) : Type 0 where
  arrays : arrays_after at (t.arrays ++ rest) f ≡ (part_kept t f).arrays ++ arrays_after (at + 8) rest (course_kept t f)
  course : carried_all at (t.arrays ++ rest) f ≡ carried_all (at + 8) rest (course_kept t f)
  below : PlaceBelow (course_kept t f).place n

further : (at n : ℕ) (t : PartView) (rest : List (List (List ℕ))) (f : Course) → IsPartAt at n t → PlaceBelow f.place n → Further at n t rest f
further at n t rest f h b =
    let c : course_kept t f ≡ carried_all at t.arrays f = part_course at n t f h b in
    record {
      arrays =
          left_two at t.arrays rest f
          ∙ ap (λ k. arrays_after at t.arrays f ++ arrays_after (at + k) rest (carried_all at t.arrays f)) h.count
          ∙ ap (λ a. a ++ arrays_after (at + 8) rest (carried_all at t.arrays f)) (sym (part_arrays at n t f h b))
          ∙ ap (λ g. (part_kept t f).arrays ++ arrays_after (at + 8) rest g) (sym c);
      course =
          carried_two at t.arrays rest f
          ∙ ap (λ k. carried_all (at + k) rest (carried_all at t.arrays f)) h.count
          ∙ ap (carried_all (at + 8) rest) (sym c);
      below = subst (λ q. PlaceBelow q n) (sym (ap (λ (g : Course). g.place) c ∙ course_place at t.arrays f)) b;
    }

-- ---- all parts

all_arrays : (g : Groups) (f : Course) → AreOfOne g → PlaceBelow f.place g.head.config.slots
    → (part_kept g.part1 f).arrays ++ ((part_kept g.part2 (course_kept g.part1 f)).arrays ++ ((part_kept g.part3 (course_kept g.part2 (course_kept g.part1 f))).arrays
    ++ (part_kept g.part4 (course_kept g.part3 (course_kept g.part2 (course_kept g.part1 f)))).arrays)) ≡ arrays_after 0 (registers_of g).arrays f
all_arrays g f one b =
    let n = g.head.config.slots in
    let s1 = further 0 n g.part1 (g.part2.arrays ++ (g.part3.arrays ++ g.part4.arrays)) f one.at1 b in
    let f2 = course_kept g.part1 f in
    let s2 = further 8 n g.part2 (g.part3.arrays ++ g.part4.arrays) f2 one.at2 s1.below in
    let f3 = course_kept g.part2 f2 in
    let s3 = further 16 n g.part3 g.part4.arrays f3 one.at3 s2.below in
    let f4 = course_kept g.part3 f3 in
    sym (s1.arrays
    ∙ ap (λ r. (part_kept g.part1 f).arrays ++ r) (s2.arrays
    ∙ ap (λ r. (part_kept g.part2 f2).arrays ++ r) (s3.arrays
    ∙ ap (λ r. (part_kept g.part3 f3).arrays ++ r) (sym (part_arrays 24 n g.part4 f4 one.at4 s3.below)))))

all_courses : (g : Groups) (f : Course) → AreOfOne g → PlaceBelow f.place g.head.config.slots
    → course_kept g.part4 (course_kept g.part3 (course_kept g.part2 (course_kept g.part1 f))) ≡ carried_all 0 (registers_of g).arrays f
all_courses g f one b =
    let n = g.head.config.slots in
    let s1 = further 0 n g.part1 (g.part2.arrays ++ (g.part3.arrays ++ g.part4.arrays)) f one.at1 b in
    let f2 = course_kept g.part1 f in
    let s2 = further 8 n g.part2 (g.part3.arrays ++ g.part4.arrays) f2 one.at2 s1.below in
    let f3 = course_kept g.part2 f2 in
    let s3 = further 16 n g.part3 g.part4.arrays f3 one.at3 s2.below in
    let f4 = course_kept g.part3 f3 in
    sym (s1.course ∙ s2.course ∙ s3.course ∙ sym (part_course 24 n g.part4 f4 one.at4 s3.below))

-- ---- one packet through all groups

before_place : (config : Config) (r : Registers) (p : Packet) → length r.bound ≡ config.slots → PlaceBelow (before_bodies config r p).place config.slots
before_place config r p e =
    parted_in r.taken (before_taken config r p) (before_taken config r p).place config.slots
    (headed_in r.heads (before_heads config r p) config.slots (place_in config r.bound r.gate p e))

pub registers_step : (g : Groups) (p : Packet) → AreOfOne g → registers_of (groups_left g p) ≡ after g.head.config (registers_of g) p
unfolding head_left led through_part
registers_step g p one =
    let config = g.head.config in
    ap (λ a. record (after config g.head.front p) { arrays = a })
    (all_arrays g (before_bodies config g.head.front p) one (before_place config (registers_of g) p one.fits.bound))

left_count : (first slots : ℕ) (arrays : List (List (List ℕ))) (q : Option ℕ) (f : Course) → length (arrays_left first slots arrays q f) ≡ length arrays
left_count first slots arrays None f = refl
left_count first slots arrays (Some i) f = by (nat_lt i slots)
  where
    by : (x : Bool) → length (if x then arrays_after first arrays f else arrays) ≡ length arrays
    by true = arrays_count first arrays f
    by false = refl

part_stays : (at n : ℕ) (t : PartView) (f : Course) → IsPartAt at n t → IsPartAt at n (part_kept t f)
unfolding part_kept
part_stays at n t f h = record {
  first_is = h.first_is;
  slots_are = h.slots_are;
  count = left_count t.first t.slots t.arrays f.place f ∙ h.count;
}

pub one_step : (g : Groups) (p : Packet) → AreOfOne g → IsShort p → AreOfOne (groups_left g p)
unfolding head_left
one_step g p one short =
    let config = g.head.config in
    let r = registers_of g in
    record {
      at1 = part_stays 0 config.slots g.part1 (flight1 g p).course one.at1;
      at2 = part_stays 8 config.slots g.part2 (flight2 g p).course one.at2;
      at3 = part_stays 16 config.slots g.part3 (flight3 g p).course one.at3;
      at4 = part_stays 24 config.slots g.part4 (flight4 g p).course one.at4;
      fits = subst (Fits config) (sym (registers_step g p one)) (after_fits config r p one.fits);
      cut = subst (AreCut config.slots) (sym (registers_step g p one)) (after_cut config r p one.fits short one.cut);
    }

pub view_step : (g : Groups) (p : Packet) → AreOfOne g → IsShort p → switch_of (groups_left g p) ≡ (pass (switch_of g) p).view
unfolding head_left
view_step g p one short =
    ap (view_of g.head.config) (registers_step g p one)
    ∙ ap (λ (x : Passed). x.view) (landed_is_pass g.head.config (registers_of g) p one.fits short)

pub emit_step : (g : Groups) (p : Packet) → AreOfOne g → IsShort p → emitted (flight5 g p) ≡ emit_of (pass (switch_of g) p)
unfolding emitted led through_part
emit_step g p one short =
    let config = g.head.config in
    ap (λ (f : Course). record { first = first_out config f; second = second_out f })
    (all_courses g (before_bodies config g.head.front p) one (before_place config (registers_of g) p one.fits.bound))
    ∙ ap emit_of (landed_is_pass config (registers_of g) p one.fits short)

-- ---- a list of packets

pub line_of : (g : Groups) (ps : List Packet) → AreOfOne g → AllByRecursion IsShort ps → AreLine g ps
line_of g [] one short = record { answers_are = refl; one = one; final_is = refl }
line_of g (p ∷ ps) one short =
    let now = groups_left g p in
    let view = view_step g p one short.0 in
    let rest = line_of now ps (one_step g p one short.0) short.1 in
    record {
      answers_are =
          ap (λ e. e ∷ map emitted (flights5 now ps)) (emit_step g p one short.0)
          ∙ ap (λ r. emit_of (pass (switch_of g) p) ∷ r) (rest.answers_are ∙ ap (λ w. answers w ps) view);
      one = rest.one;
      final_is = rest.final_is ∙ ap (λ w. final w ps) view;
    }

-- the counter rises by at most one
pub head_counts : (h : HeadView) (p : Packet) → (head_left h p).front.gate.counter ≤ h.front.gate.counter + 1
unfolding head_left
head_counts h p = counter_ticks h.front.gate (Some p)

-- ---- a cell of a part

skipped : {X : Type 0} (xs ys : List X) (n k : ℕ) (d : X) → length xs ≡ n → slice_index_or (xs ++ ys) (n + k) d ≡ slice_index_or ys k d
skipped xs ys n k d e = ap (λ m. slice_index_or (xs ++ ys) (m + k) d) (sym e) ∙ get_or-append-add xs ys k d

eight_more : (j : ℕ) → 16 + j ≡ 8 + (8 + j)
eight_more j = omega arith

sixteen_more : (j : ℕ) → 24 + j ≡ 8 + (8 + (8 + j))
sixteen_more j = omega arith

within : (j n : ℕ) → j < 8 → n ≡ 8 → j < n
within j n b e = omega (arith, b, e)

array_in1 : (g : Groups) (j : ℕ) → AreOfOne g → j < 8 → array_of (0 + j) (registers_of g) ≡ slice_index_or g.part1.arrays j []
array_in1 g j one b =
    ap (λ k. array_of k (registers_of g)) (from_zero j)
    ∙ get_or_append_left g.part1.arrays (g.part2.arrays ++ (g.part3.arrays ++ g.part4.arrays)) [] j (within j _ b one.at1.count)
  where
    from_zero : (k : ℕ) → 0 + k ≡ k
    from_zero k = omega arith

array_in2 : (g : Groups) (j : ℕ) → AreOfOne g → j < 8 → array_of (8 + j) (registers_of g) ≡ slice_index_or g.part2.arrays j []
array_in2 g j one b =
    skipped g.part1.arrays (g.part2.arrays ++ (g.part3.arrays ++ g.part4.arrays)) 8 j [] one.at1.count
    ∙ get_or_append_left g.part2.arrays (g.part3.arrays ++ g.part4.arrays) [] j (within j _ b one.at2.count)

array_in3 : (g : Groups) (j : ℕ) → AreOfOne g → j < 8 → array_of (16 + j) (registers_of g) ≡ slice_index_or g.part3.arrays j []
array_in3 g j one b =
    ap (λ k. array_of k (registers_of g)) (eight_more j)
    ∙ skipped g.part1.arrays (g.part2.arrays ++ (g.part3.arrays ++ g.part4.arrays)) 8 (8 + j) [] one.at1.count
    ∙ skipped g.part2.arrays (g.part3.arrays ++ g.part4.arrays) 8 j [] one.at2.count
    ∙ get_or_append_left g.part3.arrays g.part4.arrays [] j (within j _ b one.at3.count)

array_in4 : (g : Groups) (j : ℕ) → AreOfOne g → j < 8 → array_of (24 + j) (registers_of g) ≡ slice_index_or g.part4.arrays j []
array_in4 g j one b =
    ap (λ k. array_of k (registers_of g)) (sixteen_more j)
    ∙ skipped g.part1.arrays (g.part2.arrays ++ (g.part3.arrays ++ g.part4.arrays)) 8 (8 + (8 + j)) [] one.at1.count
    ∙ skipped g.part2.arrays (g.part3.arrays ++ g.part4.arrays) 8 (8 + j) [] one.at2.count
    ∙ skipped g.part3.arrays g.part4.arrays 8 j [] one.at3.count

placed : (g : Groups) (t u : PartView) (first j : ℕ) → AreOfOne g → t ≡ u → IsPartAt first g.head.config.slots u → first + 8 ≤ 32 → array_of (first + j) (registers_of g) ≡ slice_index_or u.arrays j []
    → (t.slots ≡ g.head.config.slots) × (t.first + 8 ≤ 32) × (array_of (t.first + j) (registers_of g) ≡ slice_index_or t.arrays j [])
placed g t u first j one e h w a =
    let f : t.first ≡ first = ap (λ (x : PartView). x.first) e ∙ h.first_is in (
      ap (λ (x : PartView). x.slots) e ∙ h.slots_are,
      omega (arith, f, w),
      ap (λ k. array_of (k + j) (registers_of g)) f ∙ a ∙ ap (λ (x : PartView). slice_index_or x.arrays j []) (sym e),
    )

-- which array of the switch is array j of a part
array_in : (g : Groups) (t : PartView) (j : ℕ) → AreOfOne g → IsPartIn t g → j < 8 → (t.slots ≡ g.head.config.slots) × (t.first + 8 ≤ 32) × (array_of (t.first + j) (registers_of g) ≡ slice_index_or t.arrays j [])
array_in g t j one (inl e) b = placed g t g.part1 0 j one e one.at1 (omega arith) (array_in1 g j one b)
array_in g t j one (inr (inl e)) b = placed g t g.part2 8 j one e one.at2 (omega arith) (array_in2 g j one b)
array_in g t j one (inr (inr (inl e))) b = placed g t g.part3 16 j one e one.at3 (omega arith) (array_in3 g j one b)
array_in g t j one (inr (inr (inr e))) b = placed g t g.part4 24 j one e one.at4 (omega arith) (array_in4 g j one b)

pub part_cell : (g : Groups) (t : PartView) (stage slot : ℕ) → AreOfOne g → IsPartIn t g → 4 + t.first ≤ stage → stage < 12 + t.first → slot < t.slots
    → slice_index_or (slice_index_or t.arrays (stage - 4 - t.first) []) slot zero_cell ≡ body_cell (stage - 4) (slot_at (switch_of g) slot).body
part_cell g t stage slot one h from to b =
    let j : ℕ = stage - 4 - t.first in
    let a = array_in g t j one h (omega (arith, from, to)) in
    let k : t.first + j ≡ stage - 4 = omega (arith, from, to) in
    ap (λ x. slice_index_or x slot zero_cell) (sym a.2 ∙ ap (λ m. array_of m (registers_of g)) k)
    ∙ cell_is g.head.config (registers_of g) slot (stage - 4) one.fits one.cut (subst (λ n. slot < n) a.0 b) (omega (arith, a.1, from, to))

-- ---- new groups

eights : {X : Type 0} (x : X) → replicate 8 x ++ (replicate 8 x ++ (replicate 8 x ++ replicate 8 x)) ≡ replicate 32 x
eights x =
    ap (λ r. replicate 8 x ++ (replicate 8 x ++ r)) (replicate-append-replicate 8 8 x)
    ∙ ap (λ r. replicate 8 x ++ r) (replicate-append-replicate 8 16 x)
    ∙ replicate-append-replicate 8 24 x

pub opening_is : (config : Config) (epoch counter : ℕ) → registers_of (opening_groups config epoch counter) ≡ opening_registers config epoch counter
opening_is config epoch counter = ap (λ a. record (opening_registers config epoch counter) { arrays = a }) (eights (replicate config.slots zero_cell))

pub opening_view_is : (config : Config) (epoch counter : ℕ) → switch_of (opening_groups config epoch counter) ≡ opening_view config epoch counter
opening_view_is config epoch counter = ap (view_of config) (opening_is config epoch counter) ∙ opens config epoch counter

empty_at : (first slots : ℕ) → IsPartAt first slots (empty_part first slots)
empty_at first slots = record { first_is = refl; slots_are = refl; count = length-replicate 8 (replicate slots zero_cell) }

pub opening_one : (config : Config) (epoch counter : ℕ) → AreOfOne (opening_groups config epoch counter)
opening_one config epoch counter = record {
  at1 = empty_at 0 config.slots;
  at2 = empty_at 8 config.slots;
  at3 = empty_at 16 config.slots;
  at4 = empty_at 24 config.slots;
  fits = subst (Fits config) (sym (opening_is config epoch counter)) (opening_fits config epoch counter);
  cut = subst (AreCut config.slots) (sym (opening_is config epoch counter)) (opening_cut config epoch counter);
}

-- What the stages of a group leave, put together.
use Rattle.std.proofs.Common.{◌≡◌, ℕ, Bool, true, false, suc, ◌+◌, ◌<◌, ◌≤◌, List, [], ◌∷◌, ◌++◌, length, map, take, replicate, sym, refl, ap, ◌∙◌, subst, arith, Option, None, Some}
use Rattle.std.specs.Prelude.{slice_index_or, slice_set, if◌then◌else◌}
use Rattle.std.proofs.lemmas.List.{take_more, take_more_set, take_all}
use Rattle.far_base.specs.declared.packet.Packet.{Packet}
use Rattle.far_base.specs.declared.plan.Config.{Config}
use Rattle.far_base.specs.declared.record.Record.{Record}
use Rattle.far_model.specs.View.{HotCell, HOT_CELLS, held_record, keyed_record, slot_at}
use Rattle.register_stages.specs.declared.array.RegArray.{RegArray}
use Rattle.register_stages.specs.Arrays.{cells_of}
use Rattle.switch_staged.specs.declared.cells.Gate.{Gate}
use Rattle.switch_staged.specs.declared.cells.Head.{Head}
use Rattle.switch_staged.specs.declared.cells.Taken.{Taken}
use Rattle.switch_staged.specs.declared.flight.Course.{Course}
use Rattle.switch_staged.specs.declared.groups.Groups.{Groups}
use Rattle.switch_staged.specs.Emits.{slot_of}
use Rattle.switch_staged.specs.Groups.{HeadView, PartView, FlightView, head_left, led, part_kept, course_kept, part_left, through_part}
use Rattle.switch_staged.specs.Heads.{empty_head, gate_after}
use Rattle.switch_staged.specs.Overlap.{array_of}
use Rattle.switch_staged.specs.Rows.{zero_cell, row, joined, all_bytes}
use Rattle.switch_staged.specs.Shapes.{shaped}
use Rattle.switch_staged.specs.Stages.{gate_of, no_taken, no_hot, head_at, entered, table_after, looked_up, heads_after, headed, taken_at_place, parted_at, hots_after, warmed, arrays_after, touch_key, token_past}
use Rattle.switch_staged.specs.Staged.{registers}
use Rattle.switch_staged.specs.Through.{before_table, before_heads, before_taken, before_bodies, after, token_by, token_led}
use Rattle.switch_staged.specs.Together.{AreOfOne, registers_of, switch_of, groups_left, flight1, flight2, flight3, flight4, flight5}
use Rattle.switch_staged.specs.Whole.{Registers, opening_registers}
use Rattle.switch_staged.proofs.BodyLaws.{get_row}
use Rattle.switch_staged.proofs.KindLaws.{slot_at_is}
use Rattle.switch_staged.proofs.Opening.{same_registers}
use Rattle.switch_staged.proofs.RowLaws.{beside_length, bytes_length}

-- ---- stages 0 to 3

pub token_is : (config : Config) (r : Registers) (p : Packet) (f1 f2 f3 f4 : Course) (t1 t2 t3 t4 : ℕ)
    → f1 ≡ entered config r.gate p → f2 ≡ looked_up r.bound f1 → f3 ≡ headed r.heads f2 → f4 ≡ parted_at r.taken f3.place f3
    → t1 ≡ 1 → t2 ≡ token_past f2.place 3 t1 → t3 ≡ token_past f3.place 4 t2 → t4 ≡ token_past (touch_key f4.place f4.packet) 5 t3
    → t4 ≡ token_led config r p
token_is config r p f1 f2 f3 f4 t1 t2 t3 t4 a b c d e1 e2 e3 e4 =
    let h : f2 ≡ before_heads config r p = b ∙ ap (looked_up r.bound) a in
    let t : f3 ≡ before_taken config r p = c ∙ ap (headed r.heads) h in
    let o : f4 ≡ parted_at r.taken (before_taken config r p).place (before_taken config r p) = d ∙ ap (λ (f : Course). parted_at r.taken f.place f) t in
    let s2 : t2 ≡ token_past f2.place 3 1 = e2 ∙ ap (token_past f2.place 3) e1 in
    let s3 : t3 ≡ token_past f3.place 4 (token_past f2.place 3 1) = e3 ∙ ap (token_past f3.place 4) s2 in
    e4 ∙ ap (token_past (touch_key f4.place f4.packet) 5) s3
    ∙ ap (λ (f : Course). token_by f f3 f4) h ∙ ap (λ (f : Course). token_by (before_heads config r p) f f4) t
    ∙ ap (λ (f : Course). token_by (before_heads config r p) (before_taken config r p) f) o

pub record IsFrontAfter (config : Config) (r n : Registers) (p : Packet) (f : Course) : Type 0 where
  pub front : n ≡ after config r p
  pub flight : f ≡ before_bodies config r p

pub front_is : (config : Config) (r n : Registers) (p : Packet) (f1 f2 f3 f4 f5 : Course)
    → n.gate ≡ gate_after r.gate p → f1 ≡ entered config r.gate p
    → n.bound ≡ table_after r.bound f1 → f2 ≡ looked_up r.bound f1
    → n.heads ≡ heads_after r.heads f2 → f3 ≡ headed r.heads f2
    → n.taken ≡ taken_at_place r.taken f3.place f3 → f4 ≡ parted_at r.taken f3.place f3
    → n.hot ≡ hots_after config r.hot f4 → f5 ≡ warmed config r.hot f4
    → n.arrays ≡ arrays_after 0 r.arrays (before_bodies config r p)
    → IsFrontAfter config r n p f5
front_is config r n p f1 f2 f3 f4 f5 g1 e1 g2 e2 g3 e3 g4 e4 g5 e5 a =
    let h2 : f2 ≡ before_heads config r p = e2 ∙ ap (looked_up r.bound) e1 in
    let h3 : f3 ≡ before_taken config r p = e3 ∙ ap (headed r.heads) h2 in
    let h4 : f4 ≡ parted_at r.taken (before_taken config r p).place (before_taken config r p) = e4 ∙ ap (λ (f : Course). parted_at r.taken f.place f) h3 in
    record {
      front = same_registers n (after config r p) g1
          (g2 ∙ ap (table_after r.bound) e1)
          (g3 ∙ ap (heads_after r.heads) h2)
          (g4 ∙ ap (λ (f : Course). taken_at_place r.taken f.place f) h3)
          (g5 ∙ ap (hots_after config r.hot) h4)
          a;
      flight = e5 ∙ ap (warmed config r.hot) h4;
    }

pub front_opens : (config : Config) (epoch counter : ℕ) (gate : RegArray Gate) (bound : List (Option (List ℕ))) (heads : RegArray Head) (taken : RegArray Taken) (hot : RegArray HotCell)
    → cells_of gate ≡ replicate 1 (record { epoch = epoch; counter = counter; snap = 0; base = 0 }) → bound ≡ replicate config.slots None → cells_of heads ≡ replicate config.slots empty_head
    → cells_of taken ≡ replicate config.slots no_taken → cells_of hot ≡ replicate HOT_CELLS no_hot
    → registers gate bound heads taken hot [] ≡ record (opening_registers config epoch counter) { arrays = [] }
front_opens config epoch counter gate bound heads taken hot g b h t c =
    same_registers (registers gate bound heads taken hot []) (record (opening_registers config epoch counter) { arrays = [] }) (ap gate_of g) b h t c refl

pub same_front : (g1 g2 : RegArray Gate) (b1 b2 : List (Option (List ℕ))) (h1 h2 : RegArray Head) (t1 t2 : RegArray Taken) (c1 c2 : RegArray HotCell)
    → cells_of g1 ≡ cells_of g2 → b1 ≡ b2 → cells_of h1 ≡ cells_of h2 → cells_of t1 ≡ cells_of t2 → cells_of c1 ≡ cells_of c2
    → registers g1 b1 h1 t1 c1 [] ≡ registers g2 b2 h2 t2 c2 []
same_front g1 g2 b1 b2 h1 h2 t1 t2 c1 c2 g b h t c = same_registers (registers g1 b1 h1 t1 c1 []) (registers g2 b2 h2 t2 c2 []) (ap gate_of g) b h t c refl

-- ---- all groups

pub same_groups : (g n : Groups) → g.head ≡ n.head → g.part1 ≡ n.part1 → g.part2 ≡ n.part2 → g.part3 ≡ n.part3 → g.part4 ≡ n.part4 → g ≡ n
same_groups g n h a b c d =
    ap (λ x. record g { head = x }) h
    ∙ ap (λ x. record g { head = n.head; part1 = x }) a
    ∙ ap (λ x. record g { head = n.head; part1 = n.part1; part2 = x }) b
    ∙ ap (λ x. record n { part3 = x; part4 = g.part4 }) c
    ∙ ap (λ x. record n { part4 = x }) d

pub record IsPassAfter (g n : Groups) (p : Packet) (f : Course) : Type 0 where
  pub groups : n ≡ groups_left g p
  pub course : f ≡ (flight5 g p).course
  pub config : n.head.config ≡ (flight5 g p).config

pub pass_is : (g n : Groups) (p : Packet) (f1 f2 f3 f4 f5 : Course)
    → n.head ≡ head_left g.head p → f1 ≡ before_bodies g.head.config g.head.front p
    → n.part1 ≡ part_kept g.part1 f1 → f2 ≡ course_kept g.part1 f1
    → n.part2 ≡ part_kept g.part2 f2 → f3 ≡ course_kept g.part2 f2
    → n.part3 ≡ part_kept g.part3 f3 → f4 ≡ course_kept g.part3 f3
    → n.part4 ≡ part_kept g.part4 f4 → f5 ≡ course_kept g.part4 f4
    → IsPassAfter g n p f5
unfolding led through_part head_left
pass_is g n p f1 f2 f3 f4 f5 h e1 a e2 b e3 c e4 d e5 =
    let h2 : f2 ≡ (flight2 g p).course = e2 ∙ ap (course_kept g.part1) e1 in
    let h3 : f3 ≡ (flight3 g p).course = e3 ∙ ap (course_kept g.part2) h2 in
    let h4 : f4 ≡ (flight4 g p).course = e4 ∙ ap (course_kept g.part3) h3 in
    record {
      groups = same_groups n (groups_left g p) h (a ∙ ap (part_kept g.part1) e1) (b ∙ ap (part_kept g.part2) h2) (c ∙ ap (part_kept g.part3) h3) (d ∙ ap (part_kept g.part4) h4);
      course = e5 ∙ ap (course_kept g.part4) h4;
      config = ap (λ (x : HeadView). x.config) h;
    }

-- ---- the cells of a slot

pub row_length : (i : ℕ) (arrays : List (List (List ℕ))) → length (row i arrays) ≡ length arrays
row_length i [] = refl
row_length i (a ∷ arrays) = ap suc (row_length i arrays)

pub row_step : (i k : ℕ) (arrays : List (List (List ℕ))) (cells : List (List ℕ)) (c : List ℕ) → k < length arrays → k < length cells → take k cells ≡ take k (row i arrays)
    → c ≡ slice_index_or (slice_index_or arrays k []) i zero_cell → take (k + 1) (slice_set cells k c) ≡ take (k + 1) (row i arrays)
row_step i k arrays cells c b l h e =
    take_more_set cells k c l
    ∙ ap (λ r. r ++ c ∷ []) h
    ∙ ap (λ x. take k (row i arrays) ++ x ∷ []) (e ∙ sym (get_row i k arrays b))
    ∙ sym (take_more (row i arrays) k zero_cell (subst (λ m. k < m) (sym (row_length i arrays)) b))

pub row_done : (i k : ℕ) (arrays : List (List (List ℕ))) (cells : List (List ℕ)) → length arrays ≤ k → length cells ≤ k → take k cells ≡ take k (row i arrays) → cells ≡ row i arrays
row_done i k arrays cells b l h = sym (take_all k cells l) ∙ h ∙ take_all k (row i arrays) (omega (arith, b, row_length i arrays))

pub record_is : (g : Groups) (i : ℕ) (cells : List (List ℕ)) → AreOfOne g → i < g.head.config.slots → cells ≡ row i (registers_of g).arrays
    → held_record (slot_of (head_at g.head.front.heads i) (joined cells)) ≡ held_record (slot_at (switch_of g) i)
record_is g i cells one b e =
    ap (λ x. held_record (slot_of (head_at g.head.front.heads i) (joined x))) e
    ∙ ap held_record (sym (slot_at_is g.head.config (registers_of g) i one.fits b))

pub record_none : (g : Groups) (i : ℕ) (h : Head) → AreOfOne g → i < g.head.config.slots → h ≡ head_at g.head.front.heads i → h.latest ≡ false → None ≡ held_record (slot_at (switch_of g) i)
record_none g i h one b e l =
    let bytes : List ℕ = joined (row i (registers_of g).arrays) in
    ap (λ x. if x then keyed_record h.key h.num (shaped h.shape bytes) else None) (sym l)
    ∙ ap (λ x. held_record (slot_of x bytes)) e
    ∙ record_is g i (row i (registers_of g).arrays) one b refl

pub record_some : (g : Groups) (i : ℕ) (h : Head) (cells : List (List ℕ)) (body : Option (List ℕ)) (o : Option Record) → AreOfOne g → i < g.head.config.slots → h ≡ head_at g.head.front.heads i → h.latest ≡ true
    → cells ≡ row i (registers_of g).arrays → body ≡ shaped h.shape (joined cells) → o ≡ keyed_record h.key h.num body → o ≡ held_record (slot_at (switch_of g) i)
record_some g i h cells body o one b e l c d f =
    f ∙ ap (keyed_record h.key h.num) d
    ∙ ap (λ x. if x then keyed_record h.key h.num (shaped h.shape (joined cells)) else None) (sym l)
    ∙ ap (λ x. held_record (slot_of x (joined cells))) e
    ∙ record_is g i cells one b c

pub slots_count : (g : Groups) → AreOfOne g → length (switch_of g).slots ≡ g.head.config.slots
slots_count g one =
    beside_length slot_of g.head.config.slots g.head.front.heads (all_bytes g.head.config.slots (registers_of g).arrays) one.fits.heads
    (bytes_length g.head.config.slots (registers_of g).arrays one.fits.arrays)

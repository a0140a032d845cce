-- The cells of a stage are those of the bodies in the view of the packets that have passed it.
use Rattle.std.proofs.Common.{◌≡◌, ℕ, zero, suc, ◌+◌, ◌*◌, ◌-◌, ◌<◌, ◌≤◌, Bool, true, false, List, [], ◌∷◌, ◌++◌, length, take, drop, sym, refl, ap, ◌∙◌, subst, arith, Option, None, Some}
use Rattle.std.specs.Prelude.{slice_index_or, slice_set, map, if◌then◌else◌, nat_eq}
use Rattle.std.specs.List.{AllByRecursion}
use Rattle.std.proofs.lemmas.Bool.{eqb-true, eq-eqb, false≢true}
use Rattle.std.proofs.lemmas.List.{get_or-set_same, get_or-set_other, append_assoc, take_at, length-append, drop-drop}
use Rattle.far_base.specs.Padded.{text_of, padded}
use Rattle.far_base.specs.declared.body.TheConstants.{BODY_LIMIT}
use Rattle.far_base.specs.declared.packet.Packet.{Packet}
use Rattle.far_base.specs.declared.packet.Packet.TheVariants.{Admit}
use Rattle.far_base.specs.declared.plan.Config.{Config}
use Rattle.far_model.specs.View.{SwitchView, slot_at}
use Rattle.switch_core.specs.declared.switch.Emit.{Emit}
use Rattle.switch_staged.specs.declared.cells.Head.{Head}
use Rattle.switch_staged.specs.declared.cells.Taken.{Taken}
use Rattle.switch_staged.specs.declared.flight.Act.{Act}
use Rattle.switch_staged.specs.declared.flight.Course.{Course}
use Rattle.switch_staged.specs.Changes.{IsCut, bytes_left, rows_left}
use Rattle.switch_staged.specs.Emits.{slot_of}
use Rattle.switch_staged.specs.Heads.{is_own, act_for, acted, head_after, body_after, cells_of_body, writes, new_body, bound_head, empty_head}
use Rattle.switch_staged.specs.Line.{final}
use Rattle.switch_staged.specs.Overlap.{PipelineView, Bodies, IsRun, array_of, one_packet, oldest_first, packet_of, standing, passed, body_cell}
use Rattle.switch_staged.specs.Rows.{CELL_LENGTH, BODY_CELLS, zero_cell, cut, cut_cells, row, with_row, joined, AreFull}
use Rattle.switch_staged.specs.Shapes.{shaped}
use Rattle.switch_staged.specs.Stages.{PlaceBelow, head_at, heads_at, heads_after, headed, headed_at, met, missed, parted_at, arrays_after}
use Rattle.switch_staged.specs.Through.{before_table, before_heads, before_taken, past_taken, before_body, after, through, AreCut, IsShort}
use Rattle.switch_staged.specs.Whole.{Registers, Fits, view_of}
use Rattle.switch_staged.proofs.CutLaws.{stays_cut}
use Rattle.switch_staged.proofs.KindLaws.{slot_at_is, body_cells}
use Rattle.switch_staged.proofs.OverlapLaws.{waits_is, body_packet, headed_packet, short_front, joined_to}
use Rattle.switch_staged.proofs.SlotLaws.{set_same, writes_row, keeps_row, writes_nothing}
use Rattle.switch_staged.proofs.StagedLaws.{place_in}
use Rattle.switch_staged.proofs.ThroughLaws.{after_fits, through_fits, line_is_final, from_none}

-- ---- each pass leaves the cells those of the bodies

parted_place : (taken : List Taken) (q : Option ℕ) (f : Course) → (parted_at taken q f).place ≡ f.place
parted_place taken None f = refl
parted_place taken (Some i) f = refl

parted_act : (taken : List Taken) (q : Option ℕ) (f : Course) → (parted_at taken q f).act ≡ f.act
parted_act taken None f = refl
parted_act taken (Some i) f = refl

parted_cells : (taken : List Taken) (q : Option ℕ) (f : Course) → (parted_at taken q f).cells ≡ f.cells
parted_cells taken None f = refl
parted_cells taken (Some i) f = refl

arrays_left : (i : ℕ) (arrays : List (List (List ℕ))) (f : Course) → f.place ≡ Some i → length f.cells ≡ length arrays → arrays_after 0 arrays f ≡ rows_left i arrays f
arrays_left i arrays f p l = by (writes f.act) refl
  where
    by : (w : Bool) → writes f.act ≡ w → arrays_after 0 arrays f ≡ rows_left i arrays f
    by true e = writes_row i 0 [] f.cells arrays f p e refl refl l ∙ ap (λ b. if b then with_row i arrays f.cells else arrays) (sym e)
    by false e = keeps_row i 0 arrays f p e ∙ ap (λ b. if b then with_row i arrays f.cells else arrays) (sym e)

row_written : (n j : ℕ) (arrays : List (List (List ℕ))) (cells : List (List ℕ)) → length cells ≡ length arrays → AreFull n arrays → j < n → row j (with_row j arrays cells) ≡ cells
row_written n j [] [] l full b = refl
row_written n j [] (c ∷ cells) l full b = absurd (omega (arith, l))
row_written n j (a ∷ arrays) [] l full b = absurd (omega (arith, l))
row_written n j (a ∷ arrays) (c ∷ cells) l full b =
    ap (λ x. x ∷ row j (with_row j arrays cells)) (get_or-set_same a j c zero_cell (subst (λ m. j < m) (sym full.0) b))
    ∙ ap (λ r. c ∷ r) (row_written n j arrays cells (grind (arith, l)) full.1 b)

row_kept : (i j : ℕ) (arrays : List (List (List ℕ))) (cells : List (List ℕ)) → (i ≡ j → ⊥) → row i (with_row j arrays cells) ≡ row i arrays
row_kept i j [] cells n = refl
row_kept i j (a ∷ arrays) [] n = refl
row_kept i j (a ∷ arrays) (c ∷ cells) n =
    ap (λ x. x ∷ row i (with_row j arrays cells)) (get_or-set_other a j i c zero_cell n)
    ∙ ap (λ r. slice_index_or a i zero_cell ∷ r) (row_kept i j arrays cells n)

cut_as : (s t : Option ℕ) (c d : List (List ℕ)) → s ≡ t → c ≡ d → IsCut t d → IsCut s c
cut_as s t c d e g h = subst (λ x. IsCut x c) (sym e) (subst (IsCut t) (sym g) h)

abbrev pub Left : Registers → Course → ℕ → Act → List (List (List ℕ))
Left r f j a = if writes a then with_row j r.arrays (cells_of_body (body_after a f.packet)) else r.arrays

own_cut : (config : Config) (r : Registers) (f : Course) (j : ℕ) (a : Act) (h : Head) → Fits config r → IsShort f.packet → (bound_head f.packet).shape ≡ None → AreCut config.slots r → j < config.slots → head_at r.heads j ≡ h
    → (i : ℕ) → i < config.slots → IsCut (head_at (slice_set r.heads j (acted a f.gate.counter f.packet h)) i).shape (row i (Left r f j a))
own_cut config r f j a h fits short none cut b e i d = by (nat_eq i j) refl
  where
    here : (w : Bool) → row j (if w then with_row j r.arrays (cells_of_body (body_after a f.packet)) else r.arrays) ≡ bytes_left (cells_of_body (body_after a f.packet)) (row j r.arrays) w
    here true = row_written config.slots j r.arrays (cells_of_body (body_after a f.packet)) (body_cells _ ∙ sym fits.count) fits.arrays b
    here false = refl

    there : (i ≡ j → ⊥) → (w : Bool) → row i (if w then with_row j r.arrays (cells_of_body (body_after a f.packet)) else r.arrays) ≡ row i r.arrays
    there n true = row_kept i j r.arrays (cells_of_body (body_after a f.packet)) n
    there n false = refl

    by : (x : Bool) → nat_eq i j ≡ x → IsCut (head_at (slice_set r.heads j (acted a f.gate.counter f.packet h)) i).shape (row i (Left r f j a))
    by true g = subst (λ k. IsCut (head_at (slice_set r.heads j (acted a f.gate.counter f.packet h)) k).shape (row k (Left r f j a))) (sym (eqb-true i j g))
        (cut_as _ (acted a f.gate.counter f.packet h).shape _ _ (ap (λ (x : Head). x.shape) (get_or-set_same r.heads j (acted a f.gate.counter f.packet h) empty_head (subst (λ m. j < m) (sym fits.heads) b))) (here (writes a))
        (stays_cut a f.gate.counter f.packet h (row j r.arrays) short none (subst (λ (x : Head). IsCut x.shape (row j r.arrays)) e (cut j b))))
    by false g =
        let other : i ≡ j → ⊥ = λ q. false≢true (sym g ∙ eq-eqb i j q) in
        cut_as _ _ _ _ (ap (λ (x : Head). x.shape) (get_or-set_other r.heads j i (acted a f.gate.counter f.packet h) empty_head other)) (there other (writes a)) (cut i d)

kept_cut : (config : Config) (r : Registers) (g : Course) (heads : List Head) → AreCut config.slots r → heads ≡ r.heads → g.place ≡ None → (i : ℕ) → i < config.slots → IsCut (head_at heads i).shape (row i (arrays_after 0 r.arrays g))
kept_cut config r g heads cut e p i b = cut_as _ _ _ _ (ap (λ hs. (head_at hs i).shape) e) (ap (row i) (writes_nothing 0 r.arrays g p)) (cut i b)

past_place : (config : Config) (r : Registers) (f : Course) → (past_taken config r f).place ≡ f.place
past_place config r f = parted_place r.taken f.place f

met_cut : (config : Config) (r : Registers) (f : Course) (j : ℕ) → Fits config r → IsShort f.packet → (bound_head f.packet).shape ≡ None → AreCut config.slots r → j < config.slots → f.place ≡ Some j → (own : Bool) → is_own f.packet (head_at r.heads j) ≡ own
    → (i : ℕ) → i < config.slots → IsCut (head_at (slice_set r.heads j (if own then acted (act_for f.packet (head_at r.heads j)) f.gate.counter f.packet (head_at r.heads j) else head_at r.heads j)) i).shape
    (row i (arrays_after 0 r.arrays (past_taken config r (if own then met (head_at r.heads j) f else missed f))))
met_cut config r f j fits short none cut b p true o i d =
    let h = head_at r.heads j in
    let a = act_for f.packet h in
    let g = past_taken config r (met h f) in
    let cells : g.cells ≡ cells_of_body (body_after a f.packet) = parted_cells r.taken f.place (met h f) in
    let act : g.act ≡ a = parted_act r.taken f.place (met h f) in
    let arrays : arrays_after 0 r.arrays g ≡ Left r f j a =
    arrays_left j r.arrays g (past_place config r (met h f) ∙ p) (ap length cells ∙ body_cells _ ∙ sym fits.count)
    ∙ ap (λ x. if writes x then with_row j r.arrays g.cells else r.arrays) act
    ∙ ap (λ c. if writes a then with_row j r.arrays c else r.arrays) cells in
    subst (λ A. IsCut (head_at (slice_set r.heads j (acted a f.gate.counter f.packet h)) i).shape (row i A)) (sym arrays) (own_cut config r f j a h fits short none cut b refl i d)
met_cut config r f j fits short none cut b p false o i d =
    kept_cut config r (past_taken config r (missed f)) _ cut (set_same r.heads j empty_head) (past_place config r (missed f)) i d

heads_cut : (config : Config) (r : Registers) (f : Course) → Fits config r → IsShort f.packet → (bound_head f.packet).shape ≡ None → AreCut config.slots r → (q : Option ℕ) → f.place ≡ q → PlaceBelow q config.slots
    → (i : ℕ) → i < config.slots → IsCut (head_at (heads_at r.heads q f) i).shape (row i (arrays_after 0 r.arrays (past_taken config r (headed_at r.heads q f))))
unfolding head_after
heads_cut config r f fits short none cut None p b i d = kept_cut config r (past_taken config r f) r.heads cut refl (past_place config r f ∙ p) i d
heads_cut config r f fits short none cut (Some j) p b i d = met_cut config r f j fits short none cut b p (is_own f.packet (head_at r.heads j)) refl i d

bound_empty : (p : Packet) → (bound_head p).shape ≡ None
unfolding bound_head
bound_empty (Admit epoch slot key tag) = refl
bound_empty _ = refl

pub after_cut : (config : Config) (r : Registers) (p : Packet) → Fits config r → IsShort p → AreCut config.slots r → AreCut config.slots (after config r p)
after_cut config r p fits short cut i d = heads_cut config r (before_heads config r p) fits short (bound_empty p) cut (before_heads config r p).place refl (place_in config r.bound r.gate p fits.bound) i d

through_cut : (config : Config) (r : Registers) (ps : List Packet) → Fits config r → AllByRecursion IsShort ps → AreCut config.slots r → AreCut config.slots (through config r ps)
through_cut config r [] fits short cut = cut
through_cut config r (p ∷ ps) fits short cut = through_cut config (after config r p) ps (after_fits config r p fits) short.1 (after_cut config r p fits short.0 cut)

-- ---- one cell

pub get_row : (i k : ℕ) (arrays : List (List (List ℕ))) → k < length arrays → slice_index_or (row i arrays) k zero_cell ≡ slice_index_or (slice_index_or arrays k []) i zero_cell
get_row i k [] b = absurd (omega (arith, b))
get_row i zero (a ∷ arrays) b = refl
get_row i (suc k) (a ∷ arrays) b = get_row i k arrays (grind (arith, b))

next_cell : (k : ℕ) → CELL_LENGTH + k * CELL_LENGTH ≡ suc k * CELL_LENGTH
next_cell k = omega arith

get_cut : (n k : ℕ) (bytes : List ℕ) → k < n → slice_index_or (cut n bytes) k zero_cell ≡ take CELL_LENGTH (drop (k * CELL_LENGTH) bytes)
get_cut zero k bytes b = absurd (omega (arith, b))
get_cut (suc n) zero bytes b = refl
get_cut (suc n) (suc k) bytes b = get_cut n k (drop CELL_LENGTH bytes) (grind (arith, b))
    ∙ ap (take CELL_LENGTH) (drop-drop (k * CELL_LENGTH) CELL_LENGTH bytes ∙ ap (λ m. drop m bytes) (next_cell k))

pub cell_is : (config : Config) (r : Registers) (i k : ℕ) → Fits config r → AreCut config.slots r → i < config.slots → k < BODY_CELLS → slice_index_or (array_of k r) i zero_cell ≡ body_cell k (slot_at (view_of config r) i).body
unfolding cells_of_body cut_cells
cell_is config r i k fits c b d =
    sym (get_row i k r.arrays (subst (λ m. k < m) (sym fits.count) d))
    ∙ ap (λ x. slice_index_or x k zero_cell) (c i b)
    ∙ get_cut BODY_CELLS k (padded BODY_LIMIT (text_of (shaped (head_at r.heads i).shape (joined (row i r.arrays))))) d
    ∙ ap (λ s. body_cell k s.body) (sym (slot_at_is config r i fits b))

uneven : (n : ℕ) → 0 ≡ suc n → ⊥
uneven n e = omega (arith, e)

bodies_at : (k j : ℕ) (config : Config) (first : Registers) (arrays : List (List (List ℕ))) (waiting : List (Option Course)) (came left : List Packet) → length arrays ≡ length waiting → j < length arrays → Bodies k config first arrays waiting came left
    → (gone : List Packet) × (came ≡ gone ++ oldest_first (take (suc j) (map packet_of waiting))) × (slice_index_or arrays j [] ≡ array_of (k + j) (through config first gone))
bodies_at k j config first [] waiting came left l b h = absurd (omega (arith, b))
bodies_at k j config first (a ∷ arrays) [] came left l b h = absurd (uneven (length arrays) (sym l))
bodies_at k zero config first (a ∷ arrays) (w ∷ waiting) came left l b h =
    (h.0, waits_is config first (before_body k config) w came h.0 (body_packet k config) h.1, h.2 ∙ ap (λ m. array_of m (through config first h.0)) (at_once k))
  where
    at_once : (k : ℕ) → k ≡ k + 0
    at_once k = omega arith
bodies_at k (suc j) config first (a ∷ arrays) (w ∷ waiting) came left l b h =
    let rest = bodies_at (suc k) j config first arrays waiting h.0 left (grind (arith, l)) (grind (arith, b)) h.3 in (
      rest.0,
      joined_to rest.0 _ h.0 h.0 came (packet_of w) (waits_is config first (before_body k config) w came h.0 (body_packet k config) h.1) rest.1,
      rest.2 ∙ ap (λ m. array_of m (through config first rest.0)) (one_later k j),
    )
  where
    one_later : (k j : ℕ) → suc k + j ≡ k + suc j
    one_later k j = omega arith

front_is : (gone ps all : List Packet) → all ≡ gone ++ ps → take (length all - length ps) all ≡ gone
front_is gone ps all e = ap (λ x. take (length x - length ps) x) e ∙ take_at gone ps (length (gone ++ ps) - length ps) (grind (arith, length-append))

-- what stands in a cell of a stage of the body
pub run_body : (v : PipelineView) (start : SwitchView) (all : List Packet) (answered : List Emit) → IsRun v start all answered → (j i stage : ℕ) → j < 32 → i < v.config.slots → stage ≡ suc (suc (suc (suc j)))
    → slice_index_or (array_of j v.registers) i zero_cell ≡ body_cell j (slot_at (final start (passed stage v all)) i).body
run_body v start all answered h j i stage b d s =
    let config = v.config in
    let o = h.overlaps in
    let first = h.first in
    let bodies = bodies_at 0 j config first v.registers.arrays v.bodies o.past_taken h.left (o.arrays_count ∙ sym o.bodies_count) (subst (λ m. j < m) (sym o.arrays_count) b) o.bodies in
    let gone = bodies.0 in
    let taken = joined_to gone _ o.past_taken o.past_taken o.past_heads (packet_of v.taken) (waits_is config first (before_taken config) v.taken o.past_heads o.past_taken (headed_packet config) o.taken_waits) bodies.1 in
    let heads = joined_to gone _ o.past_heads o.past_heads o.past_table (packet_of v.heads) (waits_is config first (before_heads config) v.heads o.past_table o.past_heads (λ r p. refl) o.heads_waits) taken in
    let table = joined_to gone _ o.past_table o.past_table o.past_gate (packet_of v.table) (waits_is config first (before_table config) v.table o.past_gate o.past_table (λ r p. refl) o.table_waits) heads in
    let whole : all ≡ gone ++ oldest_first (take (suc (suc (suc (suc (suc j))))) (standing v)) = joined_to gone _ o.past_gate o.past_gate all v.entering o.entering table in
    let short : AllByRecursion IsShort gone = short_front gone _ (subst (AllByRecursion IsShort) whole o.short) in
    let passed_is : passed stage v all ≡ gone = ap (λ n. passed n v all) s ∙ front_is gone _ all whole in
    ap (λ a. slice_index_or a i zero_cell) (bodies.2 ∙ ap (λ m. array_of m (through config first gone)) (from_none j))
    ∙ cell_is config (through config first gone) i j (through_fits config first gone o.fits) (through_cut config first gone o.fits short o.cut) d b
    ∙ ap (λ w. body_cell j (slot_at w i).body) (line_is_final config first gone o.fits short ∙ ap (λ w. final w gone) h.begins)
    ∙ ap (λ ps. body_cell j (slot_at (final start ps) i).body) (sym passed_is)

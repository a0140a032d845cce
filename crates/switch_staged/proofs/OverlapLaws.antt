-- A tick of a pipeline, in which several packets are inside.
use Rattle.std.proofs.Common.{◌≡◌, ℕ, zero, suc, ◌+◌, ◌<◌, ◌≤◌, List, [], ◌∷◌, ◌++◌, length, take, sym, refl, ap, ◌∙◌, subst, arith, Option, None, Some}
use Rattle.std.specs.Prelude.{slice_index_or, map, Bool, true, false, if◌then◌else◌}
use Rattle.std.specs.List.{AllByRecursion}
use Rattle.std.proofs.lemmas.List.{append-nil, append_assoc, take_all}
use Rattle.far_base.specs.declared.packet.Packet.{Packet}
use Rattle.far_base.specs.declared.plan.Config.{Config}
use Rattle.far_model.specs.Pass.{Passed, pass}
use Rattle.far_model.specs.View.{SwitchView, HotCell}
use Rattle.switch_core.specs.Plain.{emit_of}
use Rattle.switch_core.specs.declared.switch.Emit.{Emit}
use Rattle.switch_staged.specs.declared.cells.Taken.{Taken}
use Rattle.switch_staged.specs.declared.flight.Course.{Course}
use Rattle.switch_staged.specs.Changes.{ended}
use Rattle.switch_staged.specs.Emits.{first_out, second_out}
use Rattle.switch_staged.specs.Heads.{gate_after, is_own}
use Rattle.switch_staged.specs.Line.{final, answers}
use Rattle.switch_staged.specs.Overlap.{PipelineView, Waits, Bodies, Overlaps, IsRun, IsInOrder, IsOpen, answer_of, given, packet_of, oldest_first, inside, standing, one_packet, kept, sent, stepped, shifted, gone, past, leaving, ticked, array_of}
use Rattle.switch_staged.specs.Stages.{head_at, met, missed, headed_at, carry_at, entered, table_after, looked_up, heads_after, headed, taken_at_place, parted_at, hots_after, warmed, array_after, carried, arrays_after, carried_all}
use Rattle.switch_staged.specs.Through.{before_table, before_heads, before_taken, before_bodies, before_body, after, through, IsShort}
use Rattle.switch_staged.specs.Whole.{Registers, Fits, view_of}
use Rattle.switch_staged.proofs.ThroughLaws.{through_more, landed_is_pass, through_fits, line_is_final, answers_more, steps, body_after_is, next_body_is, from_none}

last_stage : (k : ℕ) → k + 0 ≡ 32 → k ≡ 32
last_stage k e = omega (arith, e)

below_last : (k n : ℕ) → k + suc n ≡ 32 → k < 32
below_last k n e = omega (arith, e)

next_stage : (k n : ℕ) → k + suc n ≡ 32 → suc k + n ≡ 32
next_stage k n e = omega (arith, e)

no_stages : (n : ℕ) → 0 ≡ suc n → ⊥
no_stages n e = omega (arith, e)

bodies_tick : (k : ℕ) (config : Config) (first : Registers) (arrays : List (List (List ℕ))) (waiting : List (Option Course)) (w : Option Course) (before came left : List Packet) → Fits config first
    → k + length arrays ≡ 32 → length arrays ≡ length waiting → Waits (before_body k config) config first w before came → Bodies k config first arrays waiting came left
    → (now_left : List Packet) × Bodies k config first (stepped k arrays waiting) (shifted k arrays waiting w) before now_left × Waits (before_body 32 config) config first (gone k arrays waiting w) now_left left
bodies_tick k config first [] [] w before came left fits n l h b =
    (before, refl, subst (λ m. Waits (before_body m config) config first w before left) (last_stage k n) (subst (Waits (before_body k config) config first w before) b h))
bodies_tick k config first [] (v ∷ waiting) w before came left fits n l h b = absurd (no_stages (length waiting) l)
bodies_tick k config first (a ∷ arrays) [] w before came left fits n l h b = absurd (no_stages (length arrays) (sym l))
bodies_tick k config first (a ∷ arrays) (v ∷ waiting) w before came left fits n l h b =
    let there : k < length (through config first b.0).arrays = subst (λ m. k < m) (sym (through_fits config first b.0 fits).count) (below_last k (length arrays) n) in
    let s = steps config first (before_body k config) (before_body (suc k) config) (array_of k) (array_after k) (carried k) a v came b.0
    (λ p. body_after_is k config (through config first b.0) p there) (λ p. next_body_is k config (through config first b.0) p there) b.1 b.2 in
    let rest = bodies_tick (suc k) config first arrays waiting (sent (carried k) a v) came b.0 left fits (next_stage k (length arrays) n) (grind (arith, l)) s.1 b.3 in
    (rest.0, (came, h, s.0, rest.1), rest.2)

gate_now : (v : PipelineView) (first : Registers) (all past_gate : List Packet) (w : Option Packet) → all ≡ past_gate ++ one_packet w → v.registers.gate ≡ (through v.config first past_gate).gate
    → kept gate_after v.registers.gate w ≡ (through v.config first all).gate
gate_now v first all past_gate None e g = g ∙ ap (λ ps. (through v.config first ps).gate) (sym (append-nil past_gate) ∙ sym e)
gate_now v first all past_gate (Some p) e g =
    ap (λ x. gate_after x p) g ∙ ap (λ (r : Registers). r.gate) (sym (through_more v.config first past_gate p)) ∙ ap (λ ps. (through v.config first ps).gate) (sym e)

table_now : (v : PipelineView) (first : Registers) (all past_gate : List Packet) (w : Option Packet) → all ≡ past_gate ++ one_packet w → v.registers.gate ≡ (through v.config first past_gate).gate
    → Waits (before_table v.config) v.config first (sent (entered v.config) v.registers.gate w) all past_gate
table_now v first all past_gate None e g = e ∙ append-nil past_gate
table_now v first all past_gate (Some p) e g = (p, e, ap (λ x. entered v.config x p) g)

stepped_length : (k : ℕ) (arrays : List (List (List ℕ))) (waiting : List (Option Course)) → length (stepped k arrays waiting) ≡ length arrays
stepped_length k [] waiting = refl
stepped_length k (a ∷ arrays) [] = refl
stepped_length k (a ∷ arrays) (w ∷ waiting) = ap suc (stepped_length (suc k) arrays waiting)

shifted_length : (k : ℕ) (arrays : List (List (List ℕ))) (waiting : List (Option Course)) (coming : Option Course) → length arrays ≡ length waiting → length (shifted k arrays waiting coming) ≡ length waiting
shifted_length k [] waiting coming l = refl
shifted_length k (a ∷ arrays) [] coming l = refl
shifted_length k (a ∷ arrays) (w ∷ waiting) coming l = ap suc (shifted_length (suc k) arrays waiting (sent (carried k) a w) (grind (arith, l)))

-- each stage is passed by what stands before it
pub tick_overlaps : (v : PipelineView) (first : Registers) (all left : List Packet) → Overlaps v first all left
    → (now_left : List Packet) × Overlaps (ticked v) first all now_left × Waits (before_body 32 v.config) v.config first (leaving v) now_left left
tick_overlaps v first all left o =
    let config = v.config in
    let r = through config first o.past_taken in
    let table = steps config first (before_table config) (before_heads config) (λ x. x.bound) table_after looked_up v.registers.bound v.table o.past_gate o.past_table (λ p. refl) (λ p. refl) o.table_waits o.bound in
    let heads = steps config first (before_heads config) (before_taken config) (λ x. x.heads) heads_after headed v.registers.heads v.heads o.past_table o.past_heads (λ p. refl) (λ p. refl) o.heads_waits o.heads in
    let taken = steps config first (before_taken config) (before_body 0 config) (λ x. x.taken) (λ cells f. taken_at_place cells f.place f) (λ cells f. warmed config v.registers.hot (parted_at cells f.place f)) v.registers.taken v.taken o.past_heads o.past_taken
    (λ p. refl) (λ p. ap (λ h. warmed config h (parted_at r.taken (before_taken config r p).place (before_taken config r p))) (sym o.hot)) o.taken_waits o.taken in
    let hot = steps config first (before_taken config) (before_taken config) (λ x. x.hot) (λ cells f. hots_after config cells (parted_at v.registers.taken f.place f)) (λ cells f. f) v.registers.hot v.taken o.past_heads o.past_taken
    (λ p. ap (λ t. hots_after config r.hot (parted_at t (before_taken config r p).place (before_taken config r p))) (sym o.taken)) (λ p. refl) o.taken_waits o.hot in
    let bodies = bodies_tick 0 config first v.registers.arrays v.bodies (past v) o.past_heads o.past_taken left o.fits (from_none (length v.registers.arrays) ∙ o.arrays_count) (o.arrays_count ∙ sym o.bodies_count) taken.1 o.bodies in (
      bodies.0,
      record {
        fits = o.fits;
        cut = o.cut;
        short = o.short;
        arrays_count = stepped_length 0 v.registers.arrays v.bodies ∙ o.arrays_count;
        bodies_count = shifted_length 0 v.registers.arrays v.bodies (past v) (o.arrays_count ∙ sym o.bodies_count) ∙ o.bodies_count;
        past_gate = all;
        past_table = o.past_gate;
        past_heads = o.past_table;
        past_taken = o.past_heads;
        entering = sym (append-nil all);
        gate = gate_now v first all o.past_gate v.entering o.entering o.gate;
        table_waits = table_now v first all o.past_gate v.entering o.entering o.gate;
        bound = table.0;
        heads_waits = table.1;
        heads = heads.0;
        taken_waits = heads.1;
        taken = taken.0;
        hot = hot.0;
        bodies = bodies.1;
      },
      bodies.2,
    )

-- ---- the packets inside

pub waits_is : (config : Config) (first : Registers) (flight : Registers → Packet → Course) (w : Option Course) (came gone : List Packet) → ((r : Registers) (p : Packet) → (flight r p).packet ≡ p)
    → Waits flight config first w came gone → came ≡ gone ++ one_packet (packet_of w)
waits_is config first flight None came gone k h = h ∙ sym (append-nil gone)
waits_is config first flight (Some f) came gone k h = h.1 ∙ ap (λ p. gone ++ p ∷ []) (sym (ap (λ (g : Course). g.packet) h.2 ∙ k (through config first gone) h.0))

pub headed_packet : (config : Config) (r : Registers) (p : Packet) → (before_taken config r p).packet ≡ p
headed_packet config r p = by (before_heads config r p).place
  where
    own : (i : ℕ) (x : Bool) → (if x then met (head_at r.heads i) (before_heads config r p) else missed (before_heads config r p)).packet ≡ p
    own i true = refl
    own i false = refl

    by : (q : Option ℕ) → (headed_at r.heads q (before_heads config r p)).packet ≡ p
    by None = refl
    by (Some i) = own i (is_own p (head_at r.heads i))

pub parted_packet : (taken : List Taken) (q : Option ℕ) (f : Course) → (parted_at taken q f).packet ≡ f.packet
parted_packet taken None f = refl
parted_packet taken (Some i) f = refl

pub carry_packet : (q : Option ℕ) (at : ℕ) (array : List (List ℕ)) (f : Course) → (carry_at q at array f).packet ≡ f.packet
carry_packet None at array f = refl
carry_packet (Some i) at array f = refl

carries_packet : (at : ℕ) (arrays : List (List (List ℕ))) (f : Course) → (carried_all at arrays f).packet ≡ f.packet
carries_packet at [] f = refl
carries_packet at (a ∷ arrays) f = carries_packet (suc at) arrays (carried at a f) ∙ carry_packet f.place at a f

pub body_packet : (k : ℕ) (config : Config) (r : Registers) (p : Packet) → (before_body k config r p).packet ≡ p
body_packet k config r p = carries_packet 0 (take k r.arrays) (before_bodies config r p)
    ∙ parted_packet r.taken (before_taken config r p).place (before_taken config r p)
    ∙ headed_packet config r p

bodies_are : (k : ℕ) (config : Config) (first : Registers) (arrays : List (List (List ℕ))) (waiting : List (Option Course)) (came left : List Packet) → length arrays ≡ length waiting
    → Bodies k config first arrays waiting came left → came ≡ left ++ oldest_first (map packet_of waiting)
bodies_are k config first [] [] came left l b = b ∙ sym (append-nil left)
bodies_are k config first [] (w ∷ waiting) came left l b = absurd (no_stages (length waiting) l)
bodies_are k config first (a ∷ arrays) [] came left l b = absurd (no_stages (length arrays) (sym l))
bodies_are k config first (a ∷ arrays) (w ∷ waiting) came left l b =
    waits_is config first (before_body k config) w came b.0 (body_packet k config) b.1
    ∙ ap (λ ps. ps ++ one_packet (packet_of w)) (bodies_are (suc k) config first arrays waiting b.0 left (grind (arith, l)) b.3)
    ∙ append_assoc left (oldest_first (map packet_of waiting)) (one_packet (packet_of w))

pub joined_to : (left ps : List Packet) (came gone all : List Packet) (w : Option Packet) → all ≡ came ++ one_packet w → came ≡ left ++ ps → all ≡ left ++ (ps ++ one_packet w)
joined_to left ps came gone all w e h = e ∙ ap (λ x. x ++ one_packet w) h ∙ append_assoc left ps (one_packet w)

pub all_are : (v : PipelineView) (first : Registers) (all left : List Packet) → Overlaps v first all left → all ≡ left ++ inside v
all_are v first all left o =
    let config = v.config in
    let bodies = bodies_are 0 config first v.registers.arrays v.bodies o.past_taken left (o.arrays_count ∙ sym o.bodies_count) o.bodies in
    let taken = joined_to left _ o.past_taken o.past_taken o.past_heads (packet_of v.taken) (waits_is config first (before_taken config) v.taken o.past_heads o.past_taken (headed_packet config) o.taken_waits) bodies in
    let heads = joined_to left _ o.past_heads o.past_heads o.past_table (packet_of v.heads) (waits_is config first (before_heads config) v.heads o.past_table o.past_heads (λ r p. refl) o.heads_waits) taken in
    let table = joined_to left _ o.past_table o.past_table o.past_gate (packet_of v.table) (waits_is config first (before_table config) v.table o.past_gate o.past_table (λ r p. refl) o.table_waits) heads in
    joined_to left _ o.past_gate o.past_gate all v.entering o.entering table

-- ---- what leaves

pub short_front : (ps qs : List Packet) → AllByRecursion IsShort (ps ++ qs) → AllByRecursion IsShort ps
short_front [] qs h = tt
short_front (p ∷ ps) qs h = (h.0, short_front ps qs h.1)

short_last : (ps : List Packet) (p : Packet) → AllByRecursion IsShort (ps ++ p ∷ []) → IsShort p
short_last [] p h = h.0
short_last (q ∷ ps) p h = short_last ps p h.1

out_is : (config : Config) (first : Registers) (start : SwitchView) (w : Option Course) (now_left left : List Packet) → Fits config first → view_of config first ≡ start → AllByRecursion IsShort now_left
    → Waits (before_body 32 config) config first w now_left left → answers start now_left ≡ answers start left ++ given (answer_of config w)
out_is config first start None now_left left fits e short h = ap (answers start) h ∙ sym (append-nil (answers start left))
out_is config first start (Some f) now_left left fits e short h =
    let p = h.0 in
    let r = through config first left in
    let all_short : AllByRecursion IsShort (left ++ p ∷ []) = subst (AllByRecursion IsShort) h.1 short in
    let whole : take 32 r.arrays ≡ r.arrays = take_all 32 r.arrays (omega (arith, (through_fits config first left fits).count)) in
    let landed : f ≡ carried_all 0 r.arrays (before_bodies config r p) = h.2 ∙ ap (λ xs. carried_all 0 xs (before_bodies config r p)) whole in
    let passes : ended config (after config r p) f ≡ pass (final start left) p =
    ap (ended config (after config r p)) landed
    ∙ landed_is_pass config r p (through_fits config first left fits) (short_last left p all_short)
    ∙ ap (λ v. pass v p) (line_is_final config first left fits (short_front left (p ∷ []) all_short) ∙ ap (λ v. final v left) e) in
    ap (answers start) h.1 ∙ answers_more start left (p ∷ [])
    ∙ ap (λ (x : Passed). answers start left ++ emit_of x ∷ []) (sym passes)

pub run_ticks : (v : PipelineView) (start : SwitchView) (all : List Packet) (answered : List Emit) → IsRun v start all answered → IsRun (ticked v) start all (answered ++ given (answer_of v.config (leaving v)))
run_ticks v start all answered h =
    let t = tick_overlaps v h.first all h.left h.overlaps in
    let short : AllByRecursion IsShort t.0 = short_front t.0 (inside (ticked v)) (subst (AllByRecursion IsShort) (all_are (ticked v) h.first all t.0 t.1) h.overlaps.short) in
    record {
      first = h.first;
      begins = h.begins;
      left = t.0;
      overlaps = t.1;
      answers_are = out_is v.config h.first start (leaving v) t.0 h.left h.overlaps.fits h.begins short t.2 ∙ ap (λ a. a ++ given (answer_of v.config (leaving v))) h.answers_are;
    }

-- ---- what enters

short_more : (ps : List Packet) (p : Packet) → AllByRecursion IsShort ps → IsShort p → AllByRecursion IsShort (ps ++ p ∷ [])
short_more [] p h s = (s, tt)
short_more (q ∷ ps) p h s = (h.0, short_more ps p h.1 s)

pub run_enters : (v : PipelineView) (start : SwitchView) (all : List Packet) (answered : List Emit) (p : Packet) → v.entering ≡ None → IsShort p → IsRun v start all answered
    → IsRun (record v { entering = Some p }) start (all ++ p ∷ []) answered
run_enters v start all answered p free short h =
    let o = h.overlaps in
    record {
      first = h.first;
      begins = h.begins;
      left = h.left;
      overlaps = record {
        fits = o.fits;
        cut = o.cut;
        short = short_more all p o.short short;
        arrays_count = o.arrays_count;
        bodies_count = o.bodies_count;
        past_gate = o.past_gate;
        past_table = o.past_table;
        past_heads = o.past_heads;
        past_taken = o.past_taken;
        entering = ap (λ ps. ps ++ p ∷ []) (o.entering ∙ ap (λ w. o.past_gate ++ one_packet w) free ∙ append-nil o.past_gate);
        gate = o.gate;
        table_waits = o.table_waits;
        bound = o.bound;
        heads_waits = o.heads_waits;
        heads = o.heads;
        taken_waits = o.taken_waits;
        taken = o.taken;
        hot = o.hot;
        bodies = o.bodies;
      };
      answers_are = h.answers_are;
    }

-- Where the packets of a pipeline stand, and what that says of its answers.
use Rattle.std.proofs.Common.{◌≡◌, ℕ, zero, suc, ◌+◌, ◌<◌, ◌≤◌, List, [], ◌∷◌, ◌++◌, length, take, drop, sym, refl, ap, ◌∙◌, subst, arith, Option, None, Some}
use Rattle.std.specs.Prelude.{IfSome, slice_index_or, map, replicate, is_none, Bool, true, false, nat_eq, if◌then◌else◌}
use Rattle.std.proofs.lemmas.List.{append-nil, drop_more, take_all, length-replicate}
use Rattle.far_base.specs.declared.packet.Packet.{Packet}
use Rattle.far_base.specs.declared.plan.Config.{Config}
use Rattle.far_model.specs.View.{SwitchView, HotCell, opening_view}
use Rattle.switch_core.specs.declared.switch.Emit.{Emit}
use Rattle.switch_staged.specs.declared.cells.Gate.{Gate}
use Rattle.switch_staged.specs.declared.cells.Head.{Head}
use Rattle.switch_staged.specs.declared.cells.Taken.{Taken}
use Rattle.switch_staged.specs.declared.flight.Course.{Course}
use Rattle.far_base.specs.declared.packet.Packet.TheVariants.{WriteReq, SnapStart, SnapFrom}
use Rattle.switch_staged.specs.Heads.{is_own, gate_after, set_snap}
use Rattle.switch_staged.specs.Line.{final, answers}
use Rattle.switch_staged.specs.Overlap.{PipelineView, Waits, Bodies, Overlaps, IsRun, IsInOrder, one_packet, kept, sent, stepped, shifted, gone, past, leaving, ticked, array_of, answer_of, packet_of, oldest_first, inside, standing, MayLook, StaysBelow}
use Rattle.switch_staged.specs.Pipelined.{opening_pipeline}
use Rattle.switch_staged.specs.Rows.{BODY_CELLS, zero_cell}
use Rattle.switch_staged.specs.Stages.{entered, looked_up, headed, headed_at, head_at, met, missed, carried, table_after, heads_after, taken_at_place, parted_at, hots_after, warmed, AdmitsWithin, InReach}
use Rattle.switch_staged.specs.Through.{before_table, before_heads, before_taken, before_body, through}
use Rattle.switch_staged.specs.Whole.{Registers, Fits, view_of, empty_arrays, opening_registers}
use Rattle.switch_staged.proofs.CutLaws.{opening_cut}
use Rattle.switch_staged.proofs.Opening.{opens, opening_fits, same_registers}
use Rattle.switch_staged.proofs.OverlapLaws.{all_are, carry_packet, parted_packet, waits_is, body_packet, headed_packet}
use Rattle.switch_staged.proofs.RowLaws.{one_of_replicate}
use Rattle.switch_staged.proofs.StagedLaws.{table_length, heads_length, taken_length, hots_length, place_in, admits_in, headed_in, parted_in, reach_in}
use Rattle.switch_staged.proofs.ThroughLaws.{answers_more, line_is_final, through_fits, from_none}

-- ---- a tick moves each packet by one stage

from_gate : (config : Config) (g : Gate) (w : Option Packet) → packet_of (sent (entered config) g w) ≡ w
from_gate config g None = refl
from_gate config g (Some p) = refl

from_table : (bound : List (Option (List ℕ))) (w : Option Course) → packet_of (sent looked_up bound w) ≡ packet_of w
from_table bound None = refl
from_table bound (Some f) = refl

headed_keeps : (heads : List Head) (f : Course) → (headed heads f).packet ≡ f.packet
headed_keeps heads f = by f.place
  where
    own : (i : ℕ) (x : Bool) → (if x then met (head_at heads i) f else missed f).packet ≡ f.packet
    own i true = refl
    own i false = refl

    by : (q : Option ℕ) → (headed_at heads q f).packet ≡ f.packet
    by None = refl
    by (Some i) = own i (is_own f.packet (head_at heads i))

from_heads : (heads : List Head) (w : Option Course) → packet_of (sent headed heads w) ≡ packet_of w
from_heads heads None = refl
from_heads heads (Some f) = ap Some (headed_keeps heads f)

from_taken : (v : PipelineView) (w : Option Course) → packet_of (past (record v { taken = w })) ≡ packet_of w
from_taken v None = refl
from_taken v (Some f) = ap Some (parted_packet v.registers.taken f.place f)

from_body : (k : ℕ) (a : List (List ℕ)) (w : Option Course) → packet_of (sent (carried k) a w) ≡ packet_of w
from_body k a None = refl
from_body k a (Some f) = ap Some (carry_packet f.place k a f)

uneven : (n : ℕ) → 0 ≡ suc n → ⊥
uneven n e = omega (arith, e)

shifted_packets : (k : ℕ) (arrays : List (List (List ℕ))) (waiting : List (Option Course)) (c : Option Course) → length arrays ≡ length waiting
    → map packet_of (shifted k arrays waiting c) ≡ take (length waiting) (packet_of c ∷ map packet_of waiting)
shifted_packets k [] [] c l = refl
shifted_packets k [] (w ∷ waiting) c l = absurd (uneven (length waiting) l)
shifted_packets k (a ∷ arrays) [] c l = refl
shifted_packets k (a ∷ arrays) (w ∷ waiting) c l = ap (λ r. packet_of c ∷ r)
    (shifted_packets (suc k) arrays waiting (sent (carried k) a w) (grind (arith, l))
    ∙ ap (λ p. take (length waiting) (p ∷ map packet_of waiting)) (from_body k a w))

gone_packet : (k : ℕ) (arrays : List (List (List ℕ))) (waiting : List (Option Course)) (c : Option Course) → length arrays ≡ length waiting
    → packet_of (gone k arrays waiting c) ≡ slice_index_or (packet_of c ∷ map packet_of waiting) (length waiting) None
gone_packet k [] [] c l = refl
gone_packet k [] (w ∷ waiting) c l = absurd (uneven (length waiting) l)
gone_packet k (a ∷ arrays) [] c l = refl
gone_packet k (a ∷ arrays) (w ∷ waiting) c l =
    gone_packet (suc k) arrays waiting (sent (carried k) a w) (grind (arith, l))
    ∙ ap (λ p. slice_index_or (p ∷ map packet_of waiting) (length waiting) None) (from_body k a w)

pub standing_ticks : (v : PipelineView) → length v.registers.arrays ≡ 32 → length v.bodies ≡ 32 → standing (ticked v) ≡ None ∷ take 35 (standing v)
standing_ticks v n m =
    let r = v.registers in
    ap (λ x. None ∷ x ∷ packet_of (sent looked_up r.bound v.table) ∷ packet_of (sent headed r.heads v.heads) ∷ map packet_of (shifted 0 r.arrays v.bodies (past v))) (from_gate v.config r.gate v.entering)
    ∙ ap (λ x. None ∷ v.entering ∷ x ∷ packet_of (sent headed r.heads v.heads) ∷ map packet_of (shifted 0 r.arrays v.bodies (past v))) (from_table r.bound v.table)
    ∙ ap (λ x. None ∷ v.entering ∷ packet_of v.table ∷ x ∷ map packet_of (shifted 0 r.arrays v.bodies (past v))) (from_heads r.heads v.heads)
    ∙ ap (λ x. None ∷ v.entering ∷ packet_of v.table ∷ packet_of v.heads ∷ x)
    (shifted_packets 0 r.arrays v.bodies (past v) (n ∙ sym m)
    ∙ ap (λ p. take (length v.bodies) (p ∷ map packet_of v.bodies)) (from_taken v v.taken)
    ∙ ap (λ k. take k (packet_of v.taken ∷ map packet_of v.bodies)) m)

answers_packet : (config : Config) (w : Option Course) → is_none (answer_of config w) ≡ is_none (packet_of w)
answers_packet config None = refl
answers_packet config (Some f) = refl

pub last_answers : (v : PipelineView) → length v.registers.arrays ≡ 32 → length v.bodies ≡ 32 → is_none (answer_of v.config (leaving v)) ≡ is_none (slice_index_or (standing v) 35 None)
last_answers v n m =
    answers_packet v.config (leaving v)
    ∙ ap is_none (gone_packet 0 v.registers.arrays v.bodies (past v) (n ∙ sym m)
    ∙ ap (λ p. slice_index_or (p ∷ map packet_of v.bodies) (length v.bodies) None) (from_taken v v.taken)
    ∙ ap (λ k. slice_index_or (packet_of v.taken ∷ map packet_of v.bodies) k None) m)

-- ---- a new pipeline

opening_bodies : (config : Config) (first : Registers) (k n : ℕ) (xs : List (List (List ℕ))) → ((j : ℕ) → j < length xs → slice_index_or xs j [] ≡ array_of (k + j) first) → Bodies k config first xs (replicate n None) [] []
opening_bodies config first k n [] h = refl
opening_bodies config first k zero (x ∷ xs) h = refl
opening_bodies config first k (suc n) (x ∷ xs) h = (
  [],
  refl,
  h 0 (omega arith) ∙ ap (λ m. array_of m first) (at_once k),
  opening_bodies config first (suc k) n xs (λ j b. h (suc j) (omega (arith, b)) ∙ ap (λ m. array_of m first) (one_later k j)),
)
  where
    at_once : (k : ℕ) → k + 0 ≡ k
    at_once k = omega arith

    one_later : (k j : ℕ) → k + suc j ≡ suc k + j
    one_later k j = omega arith

pub run_opens : (config : Config) (epoch counter : ℕ) → IsRun (opening_pipeline config epoch counter) (opening_view config epoch counter) [] []
run_opens config epoch counter =
    let first = opening_registers config epoch counter in
    record {
      first = first;
      begins = opens config epoch counter;
      left = [];
      overlaps = record {
        fits = opening_fits config epoch counter;
        cut = opening_cut config epoch counter;
        short = tt;
        arrays_count = (opening_fits config epoch counter).count;
        bodies_count = refl;
        past_gate = [];
        past_table = [];
        past_heads = [];
        past_taken = [];
        entering = refl;
        gate = refl;
        table_waits = refl;
        bound = refl;
        heads_waits = refl;
        heads = refl;
        taken_waits = refl;
        taken = refl;
        hot = refl;
        bodies = opening_bodies config first 0 BODY_CELLS first.arrays (λ j b. ap (λ m. array_of m first) (sym (from_none j)));
      };
      answers_are = refl;
    }

-- ---- none inside

no_front : (xs ys : List Packet) → xs ++ ys ≡ [] → xs ≡ []
no_front [] ys h = refl
no_front (x ∷ xs) ys h = absurd (uneven (length (xs ++ ys)) (sym (ap length h)))

no_back : (xs ys : List Packet) → xs ++ ys ≡ [] → ys ≡ []
no_back [] ys h = h
no_back (x ∷ xs) ys h = absurd (uneven (length (xs ++ ys)) (sym (ap length h)))

none_waits : (came gone : List Packet) (w : Option Packet) → came ≡ gone ++ one_packet w → one_packet w ≡ [] → came ≡ gone
none_waits came gone w e h = e ∙ ap (λ ps. gone ++ ps) h ∙ append-nil gone

settled : (k : ℕ) (config : Config) (first : Registers) (arrays : List (List (List ℕ))) (waiting : List (Option Course)) (came left : List Packet) → length arrays ≡ length waiting
    → k + length arrays ≡ length (through config first came).arrays → oldest_first (map packet_of waiting) ≡ [] → Bodies k config first arrays waiting came left → arrays ≡ drop k (through config first came).arrays
settled k config first [] waiting came left l n h b = sym (all_dropped k (through config first came).arrays (omega (arith, n)))
  where
    all_dropped : {T : Type 0} (k : ℕ) (xs : List T) → length xs ≤ k → drop k xs ≡ []
    all_dropped zero [] b = refl
    all_dropped zero (x ∷ xs) b = absurd (omega (arith, b))
    all_dropped (suc k) [] b = refl
    all_dropped (suc k) (x ∷ xs) b = all_dropped k xs (grind (arith, b))
settled k config first (a ∷ arrays) [] came left l n h b = absurd (uneven (length arrays) (sym l))
settled k config first (a ∷ arrays) (w ∷ waiting) came left l n h b =
    let same : came ≡ b.0 = none_waits came b.0 (packet_of w) (waits_is config first (before_body k config) w came b.0 (body_packet k config) b.1) (no_back (oldest_first (map packet_of waiting)) (one_packet (packet_of w)) h) in
    let r = through config first came in
    let rest : arrays ≡ drop (suc k) r.arrays = settled (suc k) config first arrays waiting b.0 left (grind (arith, l)) (next_length k (length arrays) ∙ n ∙ ap (λ ps. length (through config first ps).arrays) same) (no_front (oldest_first (map packet_of waiting)) (one_packet (packet_of w)) h) b.3
    ∙ ap (λ ps. drop (suc k) (through config first ps).arrays) (sym same) in
    ap (λ x. x ∷ arrays) (b.2 ∙ ap (λ ps. array_of k (through config first ps)) (sym same))
    ∙ ap (λ xs. array_of k r ∷ xs) (rest ∙ ap (λ m. drop m r.arrays) (one_more k))
    ∙ sym (drop_more r.arrays k [] (below k (length arrays) (length r.arrays) n))
  where
    next_length : (k n : ℕ) → suc k + n ≡ k + suc n
    next_length k n = omega arith

    one_more : (k : ℕ) → suc k ≡ k + 1
    one_more k = omega arith

    below : (k n m : ℕ) → k + suc n ≡ m → k < m
    below k n m e = omega (arith, e)

pub none_inside : (v : PipelineView) (first : Registers) (all left : List Packet) → Overlaps v first all left → inside v ≡ [] → v.registers ≡ through v.config first all
none_inside v first all left o h =
    let config = v.config in
    let t4 = no_front _ (one_packet v.entering) h in
    let t3 = no_front _ (one_packet (packet_of v.table)) t4 in
    let t2 = no_front _ (one_packet (packet_of v.heads)) t3 in
    let t1 = no_front _ (one_packet (packet_of v.taken)) t2 in
    let gate : all ≡ o.past_gate = none_waits all o.past_gate v.entering o.entering (no_back _ (one_packet v.entering) h) in
    let table : all ≡ o.past_table = gate ∙ none_waits o.past_gate o.past_table (packet_of v.table) (waits_is config first (before_table config) v.table o.past_gate o.past_table (λ r p. refl) o.table_waits) (no_back _ (one_packet (packet_of v.table)) t4) in
    let heads : all ≡ o.past_heads = table ∙ none_waits o.past_table o.past_heads (packet_of v.heads) (waits_is config first (before_heads config) v.heads o.past_table o.past_heads (λ r p. refl) o.heads_waits) (no_back _ (one_packet (packet_of v.heads)) t3) in
    let taken : all ≡ o.past_taken = heads ∙ none_waits o.past_heads o.past_taken (packet_of v.taken) (waits_is config first (before_taken config) v.taken o.past_heads o.past_taken (headed_packet config) o.taken_waits) (no_back _ (one_packet (packet_of v.taken)) t2) in
    same_registers v.registers (through config first all)
    (o.gate ∙ ap (λ ps. (through config first ps).gate) (sym gate))
    (o.bound ∙ ap (λ ps. (through config first ps).bound) (sym table))
    (o.heads ∙ ap (λ ps. (through config first ps).heads) (sym heads))
    (o.taken ∙ ap (λ ps. (through config first ps).taken) (sym taken))
    (o.hot ∙ ap (λ ps. (through config first ps).hot) (sym taken))
    (settled 0 config first v.registers.arrays v.bodies o.past_taken left (o.arrays_count ∙ sym o.bodies_count) (from_none (length v.registers.arrays) ∙ o.arrays_count ∙ sym (through_fits config first o.past_taken o.fits).count) t1 o.bodies
    ∙ ap (λ ps. (through config first ps).arrays) (sym taken))

pub run_in_order : (v : PipelineView) (start : SwitchView) (all : List Packet) (answered : List Emit) → IsRun v start all answered → IsInOrder v start all answered
run_in_order v start all answered h =
    let parts = all_are v h.first all h.left h.overlaps in
    record {
      left = h.left;
      all = parts;
      answers_are = h.answers_are;
      prefix = ap (answers start) parts ∙ answers_more start h.left (inside v) ∙ ap (λ a. a ++ answers (final start h.left) (inside v)) h.answers_are;
      settles = λ none. ap (view_of v.config) (none_inside v h.first all h.left h.overlaps none) ∙ line_is_final v.config h.first all h.overlaps.fits h.overlaps.short ∙ ap (λ w. final w all) h.begins;
    }

-- ---- what a pipeline is after its stages

pub same_pipeline : (v w : PipelineView) → v.config ≡ w.config → v.registers ≡ w.registers → v.entering ≡ w.entering → v.table ≡ w.table → v.heads ≡ w.heads → v.taken ≡ w.taken → v.bodies ≡ w.bodies → v ≡ w
same_pipeline v w c r e t h k b =
    ap (λ x. record v { config = x }) c
    ∙ ap (λ x. record v { config = w.config; registers = x }) r
    ∙ ap (λ x. record v { config = w.config; registers = w.registers; entering = x }) e
    ∙ ap (λ x. record w { table = x; heads = v.heads; taken = v.taken; bodies = v.bodies }) t
    ∙ ap (λ x. record w { heads = x; taken = v.taken; bodies = v.bodies }) h
    ∙ ap (λ x. record w { taken = x; bodies = v.bodies }) k
    ∙ ap (λ x. record w { bodies = x }) b

pub bound_kept : (bound : List (Option (List ℕ))) (w : Option Course) → length (kept table_after bound w) ≡ length bound
bound_kept bound None = refl
bound_kept bound (Some f) = table_length bound f

pub heads_kept : (heads : List Head) (w : Option Course) → length (kept heads_after heads w) ≡ length heads
heads_kept heads None = refl
heads_kept heads (Some f) = heads_length heads f.place f

pub taken_kept : (taken : List Taken) (w : Option Course) → length (kept (λ cells f. taken_at_place cells f.place f) taken w) ≡ length taken
taken_kept taken None = refl
taken_kept taken (Some f) = taken_length taken f.place f

pub hot_kept : (config : Config) (taken : List Taken) (hot : List HotCell) (w : Option Course) → length (kept (λ cells f. hots_after config cells (parted_at taken f.place f)) hot w) ≡ length hot
hot_kept config taken hot None = refl
hot_kept config taken hot (Some f) = hots_length config hot (parted_at taken f.place f)

pub gate_looks : (config : Config) (g : Gate) (w : Option Packet) → IfSome (sent (entered config) g w) (MayLook config.slots)
gate_looks config g None = tt
gate_looks config g (Some p) = record {
  place = λ bound e. place_in config bound g p e;
  admits = admits_in config g p config.slots refl;
}

pub table_below : (n : ℕ) (bound : List (Option (List ℕ))) (w : Option Course) → IfSome w (MayLook n) → length bound ≡ n → StaysBelow n (sent looked_up bound w)
table_below n bound None h e = tt
table_below n bound (Some f) h e = h.place bound e

pub heads_below : (n : ℕ) (heads : List Head) (w : Option Course) → StaysBelow n w → StaysBelow n (sent headed heads w)
heads_below n heads None h = tt
heads_below n heads (Some f) h = headed_in heads f n h

pub taken_below : (n : ℕ) (config : Config) (hot : List HotCell) (taken : List Taken) (w : Option Course) → StaysBelow n w → StaysBelow n (sent (λ cells f. warmed config hot (parted_at cells f.place f)) taken w)
taken_below n config hot taken None h = tt
taken_below n config hot taken (Some f) h = parted_in taken f f.place n h

pub may_bind : (n m : ℕ) (w : Option Course) → m ≡ n → IfSome w (MayLook n) → IfSome w (λ f. f.live ≡ true → AdmitsWithin m f.packet)
may_bind n m None e h = tt
may_bind n m (Some f) e h = λ live. subst (λ k. AdmitsWithin k f.packet) (sym e) (h.admits live)

pub reach_there : {T : Type 0} (n : ℕ) (cells : List T) (w : Option Course) → StaysBelow n w → length cells ≡ n → IfSome w (λ f. InReach f.place cells)
reach_there n cells None b l = tt
reach_there n cells (Some f) b l = reach_in f.place n cells b l

-- ---- the counter

same_counter : (g : Gate) (id base : ℕ) (x : Bool) → (if x then record { epoch = g.epoch; counter = g.counter; snap = id; base = base } else g).counter ≤ g.counter + 1
same_counter g id base true = omega arith
same_counter g id base false = omega arith

gate_counts : (g : Gate) (p : Packet) → (gate_after g p).counter ≤ g.counter + 1
unfolding gate_after
gate_counts g (WriteReq caller op key body) = omega arith
gate_counts g (SnapStart epoch id) = same_counter g id 0 (nat_eq epoch g.epoch)
gate_counts g (SnapFrom epoch id base) = same_counter g id base (nat_eq epoch g.epoch)
gate_counts g _ = omega arith

pub counter_ticks : (g : Gate) (w : Option Packet) → (kept gate_after g w).counter ≤ g.counter + 1
counter_ticks g None = omega arith
counter_ticks g (Some p) = gate_counts g p

-- A pass through the arrays leaves arrays that fit, and each stage has its slot.
use Rattle.std.proofs.Common.{◌≡◌, ℕ, zero, suc, ◌+◌, ◌<◌, ◌≤◌, Bool, true, false, List, [], ◌∷◌, length, map, sym, refl, ap, ◌∙◌, subst, arith, rules, Option, None, Some}
use Rattle.std.specs.Prelude.{slice_set, slice_index_or, if◌then◌else◌, nat_eq, nat_lt, ◌&&◌}
use Rattle.std.proofs.lemmas.List.{length-set, length-map}
use Rattle.far_base.specs.declared.plan.Config.{Config}
use Rattle.far_base.specs.declared.packet.Packet.{Packet}
use Rattle.far_base.specs.declared.packet.Packet.TheVariants.{GetReq, WriteReq, GetFwd, WriteFwd, GetRep, WriteRep, GetAns, WriteAns, Hot, Admit, AdmitAck, Peek, PeekAns, Remove, RemoveAns, SnapStart, SnapBegun, SnapRead, SnapPart, SnapSame, SnapFrom, Store, Stored, Release, Ask, Told, TopAsk, TopIs}
use Rattle.register_stages.specs.declared.array.RegArray.{RegArray}
use Rattle.register_stages.specs.Arrays.{cells_of}
use Rattle.switch_staged.specs.declared.cells.Gate.{Gate}
use Rattle.switch_staged.specs.declared.cells.Head.{Head}
use Rattle.switch_staged.specs.declared.cells.Taken.{Taken}
use Rattle.switch_staged.specs.declared.flight.Course.{Course}
use Rattle.switch_staged.specs.Heads.{goes_on, place_for, bound_after, is_own}
use Rattle.switch_staged.specs.Stages.{entered, looked_up, headed, headed_at, head_at, met, missed, parted_at, heads_after, heads_at, taken_at_place, table_after, PlaceBelow, InReach, AdmitsWithin, IsPart, all_cells}
use Rattle.switch_staged.specs.Rows.{AreFull}
use Rattle.switch_staged.specs.Whole.{Registers, Fits, view_of, staged, from_table, from_heads, from_taken, from_hot, from_bodies}
use Rattle.far_model.specs.View.{HotCell}
use Rattle.far_model.specs.Pass.{Passed}
use Rattle.switch_staged.specs.Heads.{gate_after}
use Rattle.switch_staged.specs.Stages.{gate_of, gates_after, hots_after, hots_at, touch_key, warmed, arrays_after, carried_all}
use Rattle.switch_staged.specs.Emits.{first_out, second_out}
use Rattle.switch_staged.specs.Changes.{ended}
use Rattle.switch_staged.proofs.Writes.{bound_below}
use Rattle.switch_staged.proofs.Removes.{reach_below}
use Rattle.switch_staged.proofs.Others.{unbinds_length}

slot_below : (a : Bool) (i n : ℕ) → (x : Bool) → (a && nat_lt i n) ≡ x → PlaceBelow (if x then Some i else None) n
slot_below a i n true e = reach_below a i n e
slot_below a i n false e = tt

none_below : (x : Bool) (n : ℕ) → PlaceBelow (if x then None else None) n
none_below true n = tt
none_below false n = tt

pub place_in : (config : Config) (bound : List (Option (List ℕ))) (g : Gate) (p : Packet) → length bound ≡ config.slots → PlaceBelow (looked_up bound (entered config g p)).place config.slots
unfolding goes_on place_for
place_in config bound g (GetReq caller op key) e = bound_below key config.slots bound e
place_in config bound g (WriteReq caller op key body) e = bound_below key config.slots bound e
place_in config bound g (GetRep caller op key tag num body) e = bound_below key config.slots bound e
place_in config bound g (WriteRep caller op key num body) e = bound_below key config.slots bound e
place_in config bound g (Admit epoch i key tag) e = slot_below (nat_eq epoch g.epoch) i config.slots _ refl
place_in config bound g (Peek epoch i tag) e = slot_below (nat_eq epoch g.epoch) i config.slots _ refl
place_in config bound g (Remove epoch i tag latest num) e = slot_below (nat_eq epoch g.epoch) i config.slots _ refl
place_in config bound g (SnapRead epoch id i) e = slot_below (nat_eq epoch g.epoch) i config.slots _ refl
place_in config bound g (SnapStart epoch id) e = none_below (nat_eq epoch g.epoch) config.slots
place_in config bound g (SnapFrom epoch id base) e = none_below (nat_eq epoch g.epoch) config.slots
place_in config bound g (GetFwd a b c d) e = tt
place_in config bound g (WriteFwd a b c d h) e = tt
place_in config bound g (GetAns a b c d h k) e = tt
place_in config bound g (WriteAns a b c d h) e = tt
place_in config bound g (Hot a) e = tt
place_in config bound g (AdmitAck a b) e = tt
place_in config bound g (PeekAns a b c d h) e = tt
place_in config bound g (RemoveAns a b c d h k) e = tt
place_in config bound g (SnapBegun a b) e = tt
place_in config bound g (SnapPart a b c) e = tt
place_in config bound g (SnapSame a b) e = tt
place_in config bound g (Store a b) e = tt
place_in config bound g (Stored a) e = tt
place_in config bound g (Release a) e = tt
place_in config bound g (Ask a) e = tt
place_in config bound g (Told a b c d) e = tt
place_in config bound g (TopAsk a) e = tt
place_in config bound g (TopIs a b c) e = tt

pub headed_in : (heads : List Head) (f : Course) (n : ℕ) → PlaceBelow f.place n → PlaceBelow (headed heads f).place n
headed_in heads f n b = by f.place b
  where
    own : (i : ℕ) (x : Bool) → PlaceBelow f.place n → PlaceBelow (if x then met (head_at heads i) f else missed f).place n
    own i true b = b
    own i false b = tt

    by : (q : Option ℕ) → PlaceBelow f.place n → PlaceBelow (headed_at heads q f).place n
    by None b = b
    by (Some i) b = own i (is_own f.packet (head_at heads i)) b

pub parted_in : (taken : List Taken) (f : Course) (q : Option ℕ) (n : ℕ) → PlaceBelow f.place n → PlaceBelow (parted_at taken q f).place n
parted_in taken f None n b = b
parted_in taken f (Some i) n b = b

pub reach_in : {T : Type 0} (q : Option ℕ) (n : ℕ) (xs : List T) → PlaceBelow q n → length xs ≡ n → InReach q xs
reach_in None n xs b e = tt
reach_in (Some i) n xs b e = subst (λ m. i < m) (sym e) b

pub part_full : (first slots : ℕ) (arrays : List (RegArray (List ℕ))) → IsPart first slots arrays → AreFull slots (all_cells arrays)
part_full first slots [] p = tt
part_full first slots (a ∷ rest) p = (p.1, part_full (suc first) slots rest p.2)

pub heads_length : (heads : List Head) (q : Option ℕ) (f : Course) → length (heads_at heads q f) ≡ length heads
heads_length heads None f = refl
heads_length heads (Some i) f = length-set _ _ _

pub taken_length : (taken : List Taken) (q : Option ℕ) (f : Course) → length (taken_at_place taken q f) ≡ length taken
taken_length taken None f = refl
taken_length taken (Some i) f = length-set _ _ _

bound_length : (bound : List (Option (List ℕ))) (p : Packet) → length (bound_after bound p) ≡ length bound
unfolding bound_after
bound_length bound (Admit epoch i key tag) = unbinds_length (length bound) i key bound refl
bound_length bound _ = refl

pub table_length : (bound : List (Option (List ℕ))) (f : Course) → length (table_after bound f) ≡ length bound
table_length bound f = by f.live
  where
    by : (x : Bool) → length (if x then bound_after bound f.packet else bound) ≡ length bound
    by true = bound_length bound f.packet
    by false = refl

pub admits_in : (config : Config) (g : Gate) (p : Packet) (n : ℕ) → n ≡ config.slots → goes_on config g p ≡ true → AdmitsWithin n p
unfolding goes_on AdmitsWithin
admits_in config g (Admit epoch i key tag) n e live = subst (λ m. i < m) (sym e) (reach_below (nat_eq epoch g.epoch) i config.slots live)
admits_in config g _ n e live = tt

hots_set : (hot snap : ℕ) (cells : List HotCell) (q : Option (List ℕ)) → length (hots_at hot snap cells q) ≡ length cells
hots_set hot snap cells None = refl
hots_set hot snap cells (Some key) = length-set _ _ _

pub hots_length : (config : Config) (cells : List HotCell) (f : Course) → length (hots_after config cells f) ≡ length cells
hots_length config cells f = hots_set config.hot f.gate.snap cells (touch_key f.place f.packet)

pub gate_is_set : (gates : List Gate) (g : Gate) → length gates ≡ 1 → gate_of (slice_set gates 0 g) ≡ g
gate_is_set [] g e = absurd (omega (arith, e))
gate_is_set (x ∷ xs) g e = refl

-- the flights and the arrays, one stage after the other
pub run_is : (config : Config) (r n : Registers) (p : Packet) (f1 f2 f3 f4 f5 f6 : Course)
    → n.gate ≡ gate_after r.gate p → f1 ≡ entered config r.gate p
    → n.bound ≡ table_after r.bound f1 → f2 ≡ looked_up r.bound f1
    → n.heads ≡ heads_after r.heads f2 → f3 ≡ headed r.heads f2
    → n.taken ≡ taken_at_place r.taken f3.place f3 → f4 ≡ parted_at r.taken f3.place f3
    → n.hot ≡ hots_after config r.hot f4 → f5 ≡ warmed config r.hot f4
    → n.arrays ≡ arrays_after 0 r.arrays f5 → f6 ≡ carried_all 0 r.arrays f5
    → ended config n f6 ≡ staged config r p
run_is config r n p f1 f2 f3 f4 f5 f6 g1 e1 g2 e2 g3 e3 g4 e4 g5 e5 g6 e6 =
    ap (λ a. ended config (record n { arrays = a }) f6) g6
    ∙ ap (λ f. ended config (record n { arrays = arrays_after 0 r.arrays f5 }) f) e6
    ∙ ap (λ h. from_bodies config (record n { hot = h; arrays = r.arrays }) f5) g5
    ∙ ap (λ f. from_bodies config (record n { hot = hots_after config r.hot f4; arrays = r.arrays }) f) e5
    ∙ ap (λ t. from_hot config (record n { taken = t; hot = r.hot; arrays = r.arrays }) f4) g4
    ∙ ap (λ f. from_hot config (record n { taken = taken_at_place r.taken f3.place f3; hot = r.hot; arrays = r.arrays }) f) e4
    ∙ ap (λ h. from_taken config (record n { heads = h; taken = r.taken; hot = r.hot; arrays = r.arrays }) f3) g3
    ∙ ap (λ f. from_taken config (record n { heads = heads_after r.heads f2; taken = r.taken; hot = r.hot; arrays = r.arrays }) f) e3
    ∙ ap (λ b. from_heads config (record r { gate = n.gate; bound = b }) f2) g2
    ∙ ap (λ f. from_heads config (record r { gate = n.gate; bound = table_after r.bound f1 }) f) e2
    ∙ ap (λ g. from_table config (record r { gate = g }) f1) g1
    ∙ ap (λ f. from_table config (record r { gate = gate_after r.gate p }) f) e1

-- The view of new arrays is the opening view.
use Rattle.std.proofs.Common.{◌≡◌, ℕ, zero, suc, ◌+◌, List, [], ◌∷◌, ◌++◌, length, map, replicate, sym, refl, ap, ◌∙◌, arith, rules, Option, None}
use Rattle.std.proofs.lemmas.List.{length-replicate}
use Rattle.far_base.specs.declared.plan.Config.{Config}
use Rattle.far_model.specs.View.{HOT_CELLS, SlotView, SwitchView, HotCell, empty_slot, opening_view}
use Rattle.register_stages.specs.declared.array.RegArray.{RegArray}
use Rattle.register_stages.specs.Arrays.{cells_of}
use Rattle.switch_staged.specs.declared.cells.Gate.{Gate}
use Rattle.switch_staged.specs.declared.cells.Head.{Head}
use Rattle.switch_staged.specs.declared.cells.Taken.{Taken}
use Rattle.switch_staged.specs.Emits.{slot_of}
use Rattle.switch_staged.specs.Heads.{empty_head}
use Rattle.switch_staged.specs.Rows.{zero_cell, BODY_CELLS, beside, all_bytes, joined, AreFull}
use Rattle.switch_staged.specs.Stages.{no_taken, no_hot, gate_of, all_cells}
use Rattle.switch_staged.specs.Staged.{registers}
use Rattle.switch_staged.specs.Whole.{Registers, Fits, slots_of, eras_of, marks_of, view_of, empty_arrays, opening_registers}

beside_replicate : {A B C : Type 0} (f : A → B → C) (n : ℕ) (a : A) (b : B) → beside f (replicate n a) (replicate n b) ≡ replicate n (f a b)
beside_replicate f zero a b = refl
beside_replicate f (suc n) a b = ap (λ r. f a b ∷ r) (beside_replicate f n a b)

map_replicate : {A B : Type 0} (f : A → B) (n : ℕ) (a : A) → map f (replicate n a) ≡ replicate n (f a)
map_replicate f zero a = refl
map_replicate f (suc n) a = ap (λ r. f a ∷ r) (map_replicate f n a)

zeros_joined : (n k : ℕ) → all_bytes n (replicate k (replicate n zero_cell)) ≡ replicate n (joined (replicate k zero_cell))
zeros_joined n zero = refl
zeros_joined n (suc k) =
    ap (beside (λ c text. c ++ text) (replicate n zero_cell)) (zeros_joined n k)
    ∙ beside_replicate (λ c text. c ++ text) n zero_cell (joined (replicate k zero_cell))

zeros_full : (n k : ℕ) → AreFull n (replicate k (replicate n zero_cell))
zeros_full n zero = tt
zeros_full n (suc k) = (length-replicate n zero_cell, zeros_full n k)

slots_open : (n : ℕ) → slots_of n (replicate n empty_head) (empty_arrays n) ≡ replicate n empty_slot
slots_open n =
    ap (beside slot_of (replicate n empty_head)) (zeros_joined n BODY_CELLS)
    ∙ beside_replicate slot_of n empty_head (joined (replicate BODY_CELLS zero_cell))

pub opens : (config : Config) (epoch counter : ℕ) → view_of config (opening_registers config epoch counter) ≡ opening_view config epoch counter
opens config epoch counter =
    ap (λ s. record (view_of config (opening_registers config epoch counter)) { slots = s }) (slots_open config.slots)
    ∙ ap (λ t. record (opening_view config epoch counter) { taken = t; shown = marks_of (replicate config.slots no_taken) }) (map_replicate (λ (t : Taken). t.era) config.slots no_taken)
    ∙ ap (λ m. record (opening_view config epoch counter) { shown = m }) (map_replicate (λ (t : Taken). t.mark) config.slots no_taken)

pub opening_fits : (config : Config) (epoch counter : ℕ) → Fits config (opening_registers config epoch counter)
opening_fits config epoch counter = record {
  bound = length-replicate config.slots None;
  heads = length-replicate config.slots empty_head;
  taken = length-replicate config.slots no_taken;
  arrays = zeros_full config.slots BODY_CELLS;
  count = length-replicate BODY_CELLS (replicate config.slots zero_cell);
}

pub same_registers : (r q : Registers) → r.gate ≡ q.gate → r.bound ≡ q.bound → r.heads ≡ q.heads → r.taken ≡ q.taken → r.hot ≡ q.hot → r.arrays ≡ q.arrays → r ≡ q
same_registers r q g b h t c a =
    ap (λ x. record r { gate = x }) g
    ∙ ap (λ x. record r { gate = q.gate; bound = x }) b
    ∙ ap (λ x. record r { gate = q.gate; bound = q.bound; heads = x }) h
    ∙ ap (λ x. record q { taken = x; hot = r.hot; arrays = r.arrays }) t
    ∙ ap (λ x. record q { hot = x; arrays = r.arrays }) c
    ∙ ap (λ x. record q { arrays = x }) a

pub blank : {T : Type 0} (xs : List T) (n m : ℕ) (x y : T) → xs ≡ replicate n x → n ≡ m → x ≡ y → xs ≡ replicate m y
blank xs n m x y h e f = h ∙ ap (λ k. replicate k x) e ∙ ap (replicate m) f

pub arrays_open : (config : Config) (epoch counter : ℕ) (gate : RegArray Gate) (bound : List (Option (List ℕ))) (heads : RegArray Head) (taken : RegArray Taken) (hot : RegArray HotCell) (bodies : List (RegArray (List ℕ)))
    → cells_of gate ≡ replicate 1 (record { epoch = epoch; counter = counter; snap = 0; base = 0 }) → bound ≡ replicate config.slots None → cells_of heads ≡ replicate config.slots empty_head
    → cells_of taken ≡ replicate config.slots no_taken → cells_of hot ≡ replicate HOT_CELLS no_hot → all_cells bodies ≡ empty_arrays config.slots
    → registers gate bound heads taken hot bodies ≡ opening_registers config epoch counter
arrays_open config epoch counter gate bound heads taken hot bodies g b h t c a =
    same_registers (registers gate bound heads taken hot bodies) (opening_registers config epoch counter) (ap gate_of g) b h t c a

-- The cells of a slot are those of its body, with zeros behind it, and stay so.
use Rattle.std.proofs.Common.{◌≡◌, ℕ, ◌≤◌, Bool, true, false, List, length, sym, refl, ap, ◌∙◌, Option, None, Some}
use Rattle.std.proofs.Common.{zero, suc, ◌<◌, ◌∷◌}
use Rattle.far_base.specs.declared.plan.Config.{Config}
use Rattle.switch_staged.specs.Heads.{empty_head}
use Rattle.switch_staged.specs.Rows.{BODY_CELLS, zero_cell, row, cut_cells}
use Rattle.switch_staged.specs.Through.{AreCut}
use Rattle.switch_staged.specs.Whole.{empty_arrays, opening_registers}
use Rattle.switch_staged.proofs.RowLaws.{one_of_replicate}
use Rattle.std.specs.Prelude.{if◌then◌else◌, max, replicate}
use Rattle.far_base.specs.Padded.{text_of}
use Rattle.far_base.specs.declared.packet.Packet.{Packet}
use Rattle.switch_staged.specs.declared.cells.Head.{Head}
use Rattle.switch_staged.specs.declared.flight.Act.{Act}
use Rattle.switch_staged.specs.declared.flight.Act.TheVariants.{Keep, Absorb, Raise, Bind, Clear}
use Rattle.switch_staged.specs.Heads.{acted, body_after, cells_of_body, writes, new_body, new_num, bound_head}
use Rattle.switch_staged.specs.Rows.{joined}
use Rattle.switch_staged.specs.Shapes.{shaped, shape_of}
use Rattle.switch_staged.specs.Changes.{bytes_left, IsCut}
use Rattle.switch_staged.proofs.KindLaws.{body_back}

pub stays_cut : (a : Act) (counter : ℕ) (p : Packet) (h : Head) (cells : List (List ℕ)) → length (text_of (new_body p)) ≤ 256 → (bound_head p).shape ≡ None → IsCut h.shape cells
    → IsCut (acted a counter p h).shape (bytes_left (cells_of_body (body_after a p)) cells (writes a))
unfolding acted body_after
stays_cut Keep counter p h cells l n c = c
stays_cut Absorb counter p h cells l n c = ap cells_of_body (sym (body_back (new_body p) l))
stays_cut Raise counter p h cells l n c = by h.latest
  where
    by : (x : Bool) → IsCut (if x then h else record { key = h.key; tag = h.tag; valid = h.valid; latest = h.latest; num = max h.num (new_num counter p); shape = h.shape }).shape cells
    by true = c
    by false = c
stays_cut Bind counter p h cells l n c = ap (λ s. cells_of_body (shaped s (joined (cells_of_body None)))) (sym n)
stays_cut Clear counter p h cells l n c = refl

row_zeros : (n k i : ℕ) → row i (replicate k (replicate n zero_cell)) ≡ replicate k zero_cell
row_zeros n zero i = refl
row_zeros n (suc k) i = ap (λ c. c ∷ row i (replicate k (replicate n zero_cell))) (one_of_replicate n i zero_cell) ∙ ap (λ r. zero_cell ∷ r) (row_zeros n k i)

pub zeros_are_cut : replicate BODY_CELLS zero_cell ≡ cells_of_body None
unfolding cells_of_body cut_cells
zeros_are_cut = refl

pub opening_cut : (config : Config) (epoch counter : ℕ) → AreCut config.slots (opening_registers config epoch counter)
opening_cut config epoch counter i b =
    row_zeros config.slots BODY_CELLS i ∙ zeros_are_cut
    ∙ ap (λ (h : Head). cells_of_body (shaped h.shape (joined (row i (empty_arrays config.slots))))) (sym (one_of_replicate config.slots i empty_head))

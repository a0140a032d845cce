-- The order of each client's own operations.
use Rattle.std.specs.Prelude.{◌≡◌, ℕ, ◌<◌, List, Some, slice_get}
use Rattle.far_base.specs.declared.plan.OpLine.{OpLine}
use Rattle.far_base.specs.declared.log.LogLine.{LogLine}
use Rattle.far_base.specs.declared.log.Placed.{Placed}
use Rattle.far_model.specs.Log.{At, sending, answering}

-- of two operations of one client, the one that was answered before the other was sent stands before it
abbrev pub KeepsClientOrder : List LogLine → List Placed → Type 0
KeepsClientOrder log history = (i j : ℕ) (x y : Placed) (a : At ℕ) (s t : At OpLine) → slice_get history i ≡ Some x
    → slice_get history j ≡ Some y → sending log x.op ≡ Some s → sending log y.op ≡ Some t
    → s.what.client ≡ t.what.client → answering log x.op ≡ Some a → a.moment < t.moment → i < j

-- The picks of a workload: the listed ones in their order, then draws, or 0 where it has no start number.
use Rattle.std.specs.Prelude.{◌≡◌, ℕ, ◌-◌, min, Bool, true, false, length, slice_get, Option, Some, None}
use Rattle.rand_pcg.specs.Lcg.{Lcg}
use Rattle.rand_pcg.specs.Pcg.{pcg32}
use Rattle.far_base.specs.declared.event.Event.{Event}
use Rattle.far_base.specs.declared.event.Event.TheVariants.{Order}
use Rattle.workload.specs.Draws.{after, seeded}
use Rattle.workload.specs.Picks.{Picking}
use Rattle.workload.specs.WorkView.{WorkView}

-- draw number k of the generator of a start number, counted from 0
abbrev pub draw : ℕ → ℕ → ℕ
draw start k = (pcg32 (after k (seeded start))).0

abbrev pub draw_or_zero : Option ℕ → ℕ → ℕ
draw_or_zero None k = 0
draw_or_zero (Some start) k = draw start k

abbrev pub pick_or : Option ℕ → Option ℕ → ℕ → ℕ
pick_or (Some pick) random k = pick
pick_or None random k = draw_or_zero random k

-- pick number n, counted from 0
abbrev pub pick_of : WorkView → ℕ → ℕ
pick_of work n = pick_or (slice_get work.picks n) work.random (n - length work.picks)

abbrev pub is_order : Event → Bool
is_order (Order j) = true
is_order _ = false

-- the generator of a start number after so many draws
abbrev pub drawn_from : Option ℕ → ℕ → Option Lcg
drawn_from None k = None
drawn_from (Some start) k = Some (after k (seeded start))

-- n picks were taken
pub record IsAt (work : WorkView) (n : ℕ) (p : Picking) : Type 0 where
  pub place : p.place ≡ min n (length work.picks)
  pub rng : p.rng ≡ drawn_from work.random (n - length work.picks)

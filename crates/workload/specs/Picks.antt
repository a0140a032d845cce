-- The picks: the listed ones in their order, then draws of a generator of their own, else 0.
use Rattle.std.specs.Prelude.{ℕ, ◌+◌, List, slice_get, Option, Some, None}
use Rattle.rand_pcg.specs.Lcg.{Lcg}
use Rattle.rand_pcg.specs.Pcg.{pcg32}
use Rattle.workload.specs.Draws.{seeded}
use Rattle.workload.specs.WorkView.{WorkView}

-- how many listed picks were taken, and the generator of the draws
pub record Picking : Type 0 where
  pub place : ℕ
  pub rng : Option Lcg

abbrev pub generator_by : Option ℕ → Option Lcg
generator_by None = None
generator_by (Some start) = Some (seeded start)

abbrev pub first_picking : WorkView → Picking
first_picking w = record { place = 0; rng = generator_by w.random }

abbrev pub drawn : Picking → Option Lcg → ℕ × Picking
drawn p None = (0, p)
drawn p (Some g) = ((pcg32 g).0, record { place = p.place; rng = Some (pcg32 g).1 })

abbrev pub listed_or : Picking → Option ℕ → ℕ × Picking
listed_or p (Some pick) = (pick, record { place = p.place + 1; rng = p.rng })
listed_or p None = drawn p p.rng

-- the next pick, and the picks after it
unfoldable pub next_pick : List ℕ → Picking → ℕ × Picking
next_pick picks p = listed_or p (slice_get picks p.place)

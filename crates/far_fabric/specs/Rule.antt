-- The rule of a board, and what each step on it tells its pass.
use Rattle.std.specs.Prelude.{◌≡◌, ◌<◌, ◌^◌, ℕ, List, slice_index, true, false}
use mathlib.Core.Option.{some}
use lib.ListN.{get_elem?}
use Rattle.far_fabric.specs.Known.{AtMost, greater_of, having_published, having_seen, no_figures, reader_of}
use Rattle.far_fabric.specs.declared.view.Figures.{Figures}
use Rattle.far_fabric.specs.declared.view.View.{View}

-- the two words of a board as figures
abbrev pub figures_in : List ℕ → Figures
figures_in words = record { steps = slice_index words 0; answered = slice_index words 1 }

-- the publisher's pass is the one with this number; the words are what it published; no pass has seen more
pub record Fits (number : ℕ) (words : List ℕ) (by : ℕ) (v : View) : Type 0 where
  pub one : v.publishes ≡ true → by ≡ number
  pub published : v.publishes ≡ true → v.published ≡ figures_in words
  pub seen : AtMost v.seen (figures_in words)

-- the words are the figures of the one publisher, and what each pass has seen is at most the words
abbrev pub IsKept : List ℕ → List View → Type 0
IsKept words views = (slice_index words 1 < 2 ^ 32) × (number : ℕ)
    × ((by : ℕ) (v : View) → get_elem? views by ≡ some v → Fits number words by v)

-- a store tells what was published
abbrev pub Stores : View → List ℕ → List ℕ → View → Type 0
Stores v before after now = now ≡ having_published v (figures_in after)

-- a load tells what is seen: not below what was seen, and by the publisher what it published
pub record Loads (v : View) (before after : List ℕ) (now : View) : Type 0 where
  pub view : now ≡ having_seen v (figures_in after)
  pub seen : AtMost v.seen (figures_in after)
  pub published : v.publishes ≡ true → figures_in after ≡ v.published
  pub small : slice_index after 1 < 2 ^ 32

-- a pass that knows nothing more
abbrev pub spent : View
spent = record { publishes = false; published = no_figures; seen = no_figures }

-- a pass that has seen what another had seen too
abbrev pub taken_in : View → View → View
taken_in v other = having_seen v (greater_of v.seen other.seen)

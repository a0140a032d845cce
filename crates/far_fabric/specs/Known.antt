-- What the passes of a board know.
use Rattle.std.specs.Prelude.{◌≡◌, ◌≤◌, ℕ, max, true, false}
use Rattle.atomic_table.specs.Seated.{TableId}
use Rattle.far_fabric.specs.declared.view.Figures.{Figures}
use Rattle.far_fabric.specs.declared.view.View.{View}

-- a pass as contracts see it: the board that it is of, and what it knows
pub record PassView : Type 0 where
  pub board : TableId
  pub view : View

abbrev pub no_figures : Figures
no_figures = record { steps = 0; answered = 0 }

-- neither figure is above that of the other
abbrev pub AtMost : Figures → Figures → Type 0
AtMost f g = (f.steps ≤ g.steps) × (f.answered ≤ g.answered)

-- the greater of both, figure by figure
abbrev pub greater_of : Figures → Figures → Figures
greater_of f g = record { steps = max f.steps g.steps; answered = max f.answered g.answered }

-- the publisher's pass of a new board
abbrev pub publisher : View
publisher = record { publishes = true; published = no_figures; seen = no_figures }

-- a reader's pass that has seen the same
abbrev pub reader_of : View → View
reader_of v = record { publishes = false; published = no_figures; seen = v.seen }

-- these figures were published
abbrev pub having_published : View → Figures → View
having_published v f = record { publishes = v.publishes; published = f; seen = v.seen }

-- these figures were seen
abbrev pub having_seen : View → Figures → View
having_seen v f = record { publishes = v.publishes; published = v.published; seen = f }

-- a pass took in another: it has seen at least what both had seen
pub record HasJoined (v other now : View) : Type 0 where
  pub publishes : now.publishes ≡ v.publishes
  pub published : now.published ≡ v.published
  pub both : AtMost (greater_of v.seen other.seen) now.seen

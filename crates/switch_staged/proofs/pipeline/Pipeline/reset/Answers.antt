use Rattle.std.proofs.Common.{rules, refl, ap, ◌∙◌}
use Rattle.lookup_table.specs.Table.{LookupView}
use Rattle.std.specs.Prelude.{replicate, None}
use Rattle.far_model.specs.View.{HOT_CELLS}
use Rattle.switch_staged.specs.Heads.{empty_head}
use Rattle.switch_staged.specs.Overlap.{PipelineView}
use Rattle.switch_staged.specs.Pipelined.{opening_pipeline}
use Rattle.switch_staged.specs.Rows.{zero_cell}
use Rattle.switch_staged.specs.Stages.{no_taken, no_hot}
use Rattle.switch_staged.proofs.Opening.{arrays_open, blank}
use Rattle.switch_staged.proofs.PipeLaws.{same_pipeline}
use Rattle.switch_staged.proofs.pipeline.Pipeline.reset.Goals as goal

pub reset_bodies-requires : goal.reset_bodies-requires
reset_bodies-requires c = (5, c.self.invariant.staged.part)

pub returns : goal.returns
returns c =
    same_pipeline _ (opening_pipeline c.self.inside.config c.args.epoch c.args.counter) refl
    (arrays_open c.self.inside.config c.args.epoch c.args.counter c.reset.new.self c.clear.new.self.bound c.reset-2.new.self c.reset-3.new.self c.reset-4.new.self c.reset_bodies.new.arrays.items
    (blank _ _ 1 _ _ c.reset.ensures.cells c.self.invariant.staged.one c.opening.ensures)
    (ap (λ (t : LookupView). t.bound) c.clear.ensures ∙ ap (λ n. replicate n None) c.self.invariant.staged.fits.bound)
    (blank _ _ _ _ empty_head c.reset-2.ensures.cells c.self.invariant.staged.fits.heads c.empty.ensures)
    (blank _ _ _ _ no_taken c.reset-3.ensures.cells c.self.invariant.staged.fits.taken c.never.ensures)
    (blank _ _ HOT_CELLS _ no_hot c.reset-4.ensures.cells c.self.invariant.staged.hots c.new.ensures)
    (c.reset_bodies.ensures.cells ∙ ap (λ n. replicate n (replicate c.self.inside.config.slots zero_cell)) c.self.invariant.staged.count))
    refl refl refl refl (c.drop_flights.ensures ∙ ap (λ n. replicate n None) c.self.invariant.reaches.count)
    ∙ ap (λ (v : PipelineView). opening_pipeline v.config c.args.epoch c.args.counter) c.self.view_is

use Rattle.std.proofs.Common.{rules, arith, sym, subst, ap, ◌∙◌, ◌-◌, ◌<◌, []}
use Rattle.std.specs.Prelude.{slice_index_or}
use Rattle.switch_staged.specs.Rows.{zero_cell}
use Rattle.switch_staged.specs.Stages.{IsPart, all_cells}
use Rattle.far_model.specs.View.{slot_at}
use Rattle.switch_staged.specs.Line.{final}
use Rattle.switch_staged.specs.Overlap.{PipelineView, IsRun, passed, body_cell}
use Rattle.switch_staged.specs.Pipelined.{pipeline_view}
use Rattle.switch_staged.proofs.BodyLaws.{run_body}
use Rattle.switch_staged.proofs.pipeline.Pipeline.body_at.Goals as goal

pub cell_in-requires-clause-at : goal.cell_in-requires-clause-at
cell_in-requires-clause-at c = omega (arith, c.requires.from, c.requires.to, c.self.invariant.staged.count)

pub cell_in-requires-clause-part : goal.cell_in-requires-clause-part
cell_in-requires-clause-part c = (5, c.self.inside.config.slots, subst (λ n. c.args.slot < n) (ap (λ (v : PipelineView). v.config.slots) (sym c.self.view_is)) c.requires.slot, subst (IsPart 5 c.self.inside.config.slots) (sym c.deref.ensures.value) c.self.invariant.staged.part)

pub returns : goal.returns
returns c = λ start entered answered h.
    c.cell_in.ensures
    ∙ ap (λ l. slice_index_or (slice_index_or (all_cells l) (c.args.stage - 4) []) c.args.slot zero_cell) (search rules)
    ∙ run_body (pipeline_view c.self.inside.config c.self.inside.gate c.self.inside.lookup.bound c.self.inside.heads c.self.inside.taken c.self.inside.hot c.self.inside.bodies.items c.self.inside.entering c.self.inside.to_table c.self.inside.to_heads c.self.inside.to_taken c.self.inside.to_bodies.items)
    start entered answered (subst (λ v. IsRun v start entered answered) (sym c.self.view_is) h) (c.args.stage - 4) c.args.slot c.args.stage
    (omega (arith, c.requires.from, c.requires.to)) (subst (λ n. c.args.slot < n) (ap (λ (v : PipelineView). v.config.slots) (sym c.self.view_is)) c.requires.slot) (omega (arith, c.requires.from))
    ∙ ap (λ v. body_cell (c.args.stage - 4) (slot_at (final start (passed c.args.stage v entered)) c.args.slot).body) c.self.view_is

use Rattle.std.proofs.Common.{rules, refl, sym, subst, ap, ◌∙◌, length, ◌≡◌, None}
use Rattle.register_stages.specs.Arrays.{cells_of}
use Rattle.switch_staged.specs.Overlap.{PipelineView, StaysBelow, MayLook, shifted, gone, answer_of, leaving, ticked}
use Rattle.std.specs.Prelude.{IfSome}
use Rattle.switch_staged.specs.Pipelined.{pipeline_view}
use Rattle.switch_staged.specs.Stages.{gate_of, all_cells}
use Rattle.switch_staged.proofs.Opening.{same_registers}
use Rattle.switch_staged.proofs.PassLaws.{all_length}
use Rattle.switch_staged.proofs.StagedLaws.{part_full}
use Rattle.switch_staged.proofs.PipeLaws.{same_pipeline, bound_kept, heads_kept, taken_kept, hot_kept, gate_looks, table_below, heads_below}
use Rattle.switch_staged.proofs.pipeline.Pipeline.advance.Goals as goal

pub invariant_of-self : goal.invariant_of-self
invariant_of-self c = record {
  staged = record {
    servers = c.self.invariant.staged.servers;
    slots = c.self.invariant.staged.slots;
    fits = record {
      bound = ap length c.tick_table-self-inside.ensures.table ∙ bound_kept c.self.inside.lookup.bound c.self.inside.to_table ∙ c.self.invariant.staged.fits.bound;
      heads = ap length c.tick_heads-self-inside.ensures.heads ∙ heads_kept _ c.self.inside.to_heads ∙ c.self.invariant.staged.fits.heads;
      taken = ap length c.tick_taken-coming.ensures.taken ∙ taken_kept _ c.self.inside.to_taken ∙ c.self.invariant.staged.fits.taken;
      arrays = part_full 5 c.self.inside.config.slots _ c.tick_bodies-last.ensures.part;
      count = all_length _ ∙ c.tick_bodies-last.ensures.count;
    };
    one = c.tick_gate-self-inside.ensures.one;
    hots = ap length c.tick_taken-coming.ensures.hot ∙ hot_kept c.self.inside.config _ _ c.self.inside.to_taken ∙ c.self.invariant.staged.hots;
    gate_place = c.tick_gate-self-inside.ensures.place;
    heads_place = c.tick_heads-self-inside.ensures.place;
    taken_place = c.tick_taken-coming.ensures.place;
    hot_place = c.tick_taken-coming.ensures.hot_place;
    part = c.tick_bodies-last.ensures.part;
    count = c.tick_bodies-last.ensures.count;
  };
  reaches = record {
    room = tt;
    table = subst (λ w. IfSome w (MayLook c.self.inside.config.slots)) (sym c.tick_gate-self-inside.ensures.flight) (gate_looks c.self.inside.config (gate_of (cells_of c.self.inside.gate)) c.self.inside.entering);
    heads = subst (StaysBelow c.self.inside.config.slots) (sym c.tick_table-self-inside.ensures.flight) (table_below c.self.inside.config.slots c.self.inside.lookup.bound c.self.inside.to_table c.self.invariant.reaches.table c.self.invariant.staged.fits.bound);
    taken = subst (StaysBelow c.self.inside.config.slots) (sym c.tick_heads-self-inside.ensures.flight) (heads_below c.self.inside.config.slots (cells_of c.self.inside.heads) c.self.inside.to_heads c.self.invariant.reaches.heads);
    bodies = c.tick_bodies-last.ensures.below;
    count = c.tick_bodies-last.ensures.standing_count;
  };
}

pub returns-clause-value : goal.returns-clause-value
returns-clause-value c =
    same_pipeline _ (ticked (pipeline_view c.self.inside.config c.self.inside.gate c.self.inside.lookup.bound c.self.inside.heads c.self.inside.taken c.self.inside.hot c.self.inside.bodies.items c.self.inside.entering c.self.inside.to_table c.self.inside.to_heads c.self.inside.to_taken c.self.inside.to_bodies.items)) refl
    (same_registers _ _ c.tick_gate-self-inside.ensures.gate c.tick_table-self-inside.ensures.table c.tick_heads-self-inside.ensures.heads c.tick_taken-coming.ensures.taken c.tick_taken-coming.ensures.hot c.tick_bodies-last.ensures.cells)
    refl c.tick_gate-self-inside.ensures.flight c.tick_table-self-inside.ensures.flight c.tick_heads-self-inside.ensures.flight
    (c.tick_bodies-last.ensures.standing ∙ ap (shifted 0 (all_cells c.self.inside.bodies.items) c.self.inside.to_bodies.items) c.tick_taken-coming.ensures.flight)
    ∙ ap ticked c.self.view_is

pub returns-clause-answer : goal.returns-clause-answer
returns-clause-answer c =
    c.answer.ensures
    ∙ ap (answer_of c.self.inside.config) (c.tick_bodies-last.ensures.last ∙ ap (gone 0 (all_cells c.self.inside.bodies.items) c.self.inside.to_bodies.items) c.tick_taken-coming.ensures.flight)
    ∙ ap (λ (v : PipelineView). answer_of v.config (leaving v)) c.self.view_is

pub returns-clause-arrays : goal.returns-clause-arrays
returns-clause-arrays c = subst (λ (v : PipelineView). length v.registers.arrays ≡ 32) c.self.view_is c.self.invariant.staged.fits.count

pub returns-clause-bodies : goal.returns-clause-bodies
returns-clause-bodies c = subst (λ (v : PipelineView). length v.bodies ≡ 32) c.self.view_is c.self.invariant.reaches.count

use Rattle.std.proofs.Common.{◌∙◌, arith}
use Rattle.far_world.proofs.Tasked.{items_more}
use Rattle.far_world.proofs.tasks.note_views.Goals as goal

pub loop-slot-preserved : goal.loop-slot-preserved
loop-slot-preserved c = record {
  notes = items_more c.args.views.now c.loop-slot.slot c.index-views-slot.result c.args.turn.now.notes.items c.loop-slot.turn.notes.items c.note_view.new.turn.notes.items c.loop-slot-test.true c.index-views-slot.is c.loop-slot.invariant.notes c.note_view.ensures.notes;
  out = c.note_view.ensures.out ∙ c.loop-slot.invariant.out;
  used = omega (arith, c.note_view.ensures.used, c.loop-slot.invariant.used);
  room = c.note_view.ensures.room ∙ c.loop-slot.invariant.room;
}

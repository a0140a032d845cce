use Rattle.std.proofs.Common.{◌≡◌, ℕ, sym, ap, ◌∙◌, subst, arith, length}
use Rattle.switch_staged.specs.Together.{AreOfOne}
use Rattle.stage_workers.proofs.Worked.{work_agrees, work_is_line, flights_count}
use Rattle.stage_workers.proofs.running.in_threads.Goals as goal

pub emit_all-requires-clause-room : goal.emit_all-requires-clause-room
emit_all-requires-clause-room g c =
    let w = work_agrees c.args.groups c.in_ok-done.done c.args.packets.now c.in_ok-done.ensures (c.agree.ensures c.if-not-agree.false) in
    let n : length c.deref.result.now ≡ length c.args.packets.now = ap length (c.deref.ensures.value ∙ w.flights_are) ∙ flights_count c.args.groups c.args.packets.now in
    omega (arith, n, c.requires.room)

pub from_groups-requires : goal.from_groups-requires
from_groups-requires g c =
    let w = work_agrees c.args.groups c.in_ok-done.done c.args.packets.now c.in_ok-done.ensures (c.agree.ensures c.if-not-agree.false) in
    let line = c.groups_make_a_line.ensures c.args.groups c.args.packets.now c.requires.one w.short in
    subst AreOfOne (sym (c.groups_of.ensures ∙ w.groups)) line.one

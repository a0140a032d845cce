use Rattle.std.proofs.Common.{sym, ◌∙◌}
use Rattle.far_world.proofs.Scripts.{is_done_is}
use Rattle.far_world.proofs.seat.Seat.is_done.Goals as goal

pub returns-then-is_idle : goal.returns-then-is_idle
returns-then-is_idle c = rw (← c.self.view_is, c.len.ensures, c.self.inside.script.ok.0) (is_done_is c.self.inside.client.waits c.self.inside.next c.self.inside.script.items (sym c.is_idle.ensures ∙ c.if-is_idle.true))

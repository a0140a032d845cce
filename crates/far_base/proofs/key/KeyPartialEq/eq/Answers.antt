use Rattle.std.proofs.Common.{rules, sym}
use Rattle.far_base.proofs.Fronts.{same_front}
use Rattle.far_base.proofs.key.KeyPartialEq.eq.Goals as goal

pub returns-then-front : goal.returns-then-front
returns-then-front c = rw (c.back.ensures, c.back-then-front.ensures)
    (same_front c.args.self.now c.args.other.now c.front.ensures.key c.front-2.ensures.key
    (rw (sym c.front.ensures.value, sym c.front-2.ensures.value) c.if-front.true))

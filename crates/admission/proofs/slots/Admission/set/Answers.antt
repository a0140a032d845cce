use Rattle.std.proofs.Common.{◌<◌, length, arith}
use Rattle.std.proofs.lemmas.List.{length-set}
use Rattle.admission.proofs.Free.{count_bound, count_set}
use Rattle.admission.proofs.slots.Admission.set.Goals as goal

pub overflow_add-self : goal.overflow_add-self
overflow_add-self c = omega (arith, c.self.invariant.0, c.self.invariant.1.1, count_bound c.self.inside.slots.items, c.count_free.ensures.bound)

pub overflow_sub-self : goal.overflow_sub-self
overflow_sub-self c =
    let there : c.args.slot < length c.self.inside.slots.items = rw (← c.self.view_is) at c.requires in
    let e = count_set c.self.inside.slots.items c.args.slot c.index.result.now c.args.state there c.index.ensures in
    omega (arith, e, c.count_free.ensures.count, c.count_free-2.ensures.count, c.self.invariant.1.1)

pub invariant_of-self : goal.invariant_of-self
invariant_of-self c =
    let there : c.args.slot < length c.self.inside.slots.items = rw (← c.self.view_is) at c.requires in
    let e = count_set c.self.inside.slots.items c.args.slot c.index.result.now c.args.state there c.index.ensures in
    let len = length-set c.self.inside.slots.items c.args.slot c.args.state in
    (omega (arith, len, c.self.invariant.0), (omega (arith, len, c.self.invariant.1.0), omega (arith, e, c.count_free.ensures.count, c.count_free-2.ensures.count, c.self.invariant.1.1)))

use Rattle.std.proofs.Common.{◌≡◌, ◌+◌, ◌≤◌, sym, subst, arith, rules}
use Rattle.far_model.specs.View.{SwitchView}
use Rattle.stage_workers.proofs.Worked.{line_next}
use Rattle.stage_workers.proofs.running.pass_all.Goals as goal

pub loop-k-preserved : goal.loop-k-preserved
loop-k-preserved c =
    let next = line_next c.args.switch.now c.loop-k.switch c.pass-first.new.self c.args.packets.now c.loop-k.k c.index-packets-k.result c.loop-k.emits.items c.put.new.items.items c.pass-first.result
    c.loop-k.invariant.answers_are c.loop-k.invariant.view c.loop-k-test.true c.index-packets-k.is c.pass-first.ensures.view c.pass-first.ensures.first c.pass-first.ensures.second c.put.ensures.items in
    let one : c.pass-first.new.self.counter ≤ c.loop-k.switch.counter + 1 = subst (λ (x : SwitchView). x.counter ≤ c.loop-k.switch.counter + 1) (sym c.pass-first.ensures.view) (c.a_pass_counts_one.ensures c.loop-k.switch c.index-packets-k.result) in
    record {
      answers_are = next.answers_are;
      view = next.final_is;
      counter = omega (arith, one, c.loop-k.invariant.counter);
      count = search rules;
      room = search rules;
    }

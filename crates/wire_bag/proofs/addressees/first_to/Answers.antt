use Rattle.std.proofs.Common.{◌≡◌, ◌<◌, ◌≤◌, length, get_or, true, false, refl, sym, ap, ◌∙◌, arith}
use Rattle.wire_bag.proofs.Finding.{first_of_map, further, here, nowhere}
use Rattle.wire_bag.specs.Addressees.{is_to}
use Rattle.wire_bag.proofs.addressees.first_to.Goals as goal

pub loop-i-preserved : goal.loop-i-preserved
loop-i-preserved c =
    let other : is_to c.args.who (get_or c.args.boxes.now c.loop-i.i c.index-boxes-i.result).value ≡ false = rw (← c.index-boxes-i.is) (ap (λ m. is_to c.args.who m) (sym c.deref.ensures) ∙ (sym c.is_to.ensures ∙ c.if-is_to.false)) in
    sym (further (λ b. is_to c.args.who b.value) c.loop-i.i c.loop-i.i c.args.boxes.now c.index-boxes-i.result (omega (arith, c.loop-i-test.true)) other) ∙ c.loop-i.invariant

pub returns-then-is_to : goal.returns-then-is_to
returns-then-is_to c =
    let own : is_to c.args.who (get_or c.args.boxes.now c.loop-i.i c.index-boxes-i.result).value ≡ true = rw (← c.index-boxes-i.is) (ap (λ m. is_to c.args.who m) (sym c.deref.ensures) ∙ (sym c.is_to.ensures ∙ c.if-is_to.true)) in
    sym (first_of_map (λ b. b.value) (is_to c.args.who) 0 c.args.boxes.now ∙ (sym c.loop-i.invariant ∙ here (λ b. is_to c.args.who b.value) c.loop-i.i c.loop-i.i c.args.boxes.now c.index-boxes-i.result (omega (arith, c.loop-i-test.true)) own))

pub returns : goal.returns
returns c =
    sym (first_of_map (λ b. b.value) (is_to c.args.who) 0 c.args.boxes.now ∙ (sym c.loop-i.invariant ∙ nowhere (λ b. is_to c.args.who b.value) c.loop-i.i c.loop-i.i c.args.boxes.now (omega (arith, c.loop-i-test.false))))

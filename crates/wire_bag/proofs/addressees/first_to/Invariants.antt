use Rattle.std.proofs.Common.{◌≡◌, drop}
use Rattle.wire_bag.specs.Addressees.{first_by, is_to}
use Rattle.wire_bag.proofs.addressees.first_to.Given as goal

abbrev pub invariant-loop-i : goal.invariant-loop-i
invariant-loop-i l = first_by (λ b. is_to l.who b.value) l.i (drop l.i l.boxes) ≡ first_by (λ b. is_to l.who b.value) 0 l.boxes

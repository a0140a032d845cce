use Rattle.std.proofs.Common.{◌≡◌, List, Bool, false, ap, sym, ◌∙◌, length, replicate, arith}
use Rattle.std.proofs.lemmas.List.{length-replicate}
use Rattle.snapshot_core.specs.Parts.{lacking, parts_of}
use Rattle.snapshot_core.proofs.Counted.{no_parts, all_lacking}
use Rattle.snapshot_core.proofs.parts.Parts.new.Goals as goal

pub invariant_of-result : goal.invariant_of-result
invariant_of-result c =
    let none : c.in_ok-vec.field-0.items ≡ replicate c.args.slots false = c.in_ok-vec.ensures.items_if_clones_equal (λ y e. e) in
    record {
      alike = ap length none ∙ length-replicate c.args.slots false ∙ omega (arith, c.in_ok-vec-2.ensures.len);
      count = sym (ap lacking none ∙ all_lacking c.args.slots);
      few = omega (arith, ap length none, length-replicate c.args.slots false, c.ranges.slots.fits);
    }

pub returns : goal.returns
returns c =
    let none : c.in_ok-vec.field-0.items ≡ replicate c.args.slots false = c.in_ok-vec.ensures.items_if_clones_equal (λ y e. e) in
    ap (λ (come : List Bool). parts_of come c.in_ok-vec-2.field-0.items) none
    ∙ no_parts c.args.slots c.in_ok-vec-2.field-0.items (omega (arith, c.in_ok-vec-2.ensures.len))

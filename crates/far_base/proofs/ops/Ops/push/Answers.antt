use Rattle.std.proofs.Common.{◌≡◌, ℕ, List, [], ◌∷◌, ◌++◌, length, refl, ap, ◌∙◌}
use Rattle.far_base.specs.declared.plan.OpLine.{OpLine}
use Rattle.far_base.specs.declared.ops.Short.{Short}
use Rattle.far_base.specs.OpsView.{short_of}
use Rattle.far_base.specs.Padded.{text_of}
use Rattle.far_base.proofs.Bodies.{lines_more, within_more}
use Rattle.far_base.proofs.ops.Ops.push.Goals as goal

lines_are : (c : goal.After-push_reserved) → c.push_reserved.new.self.items ≡ c.self.inside.lines.items ++ short_of (length c.self.inside.bytes.items) c.args.line.now ∷ []
lines_are c = c.push_reserved.ensures.items ∙ rw (c.reserve.ensures.items, c.short_behind-short.ensures.value, c.deref.ensures.value) refl

bytes_are : (c : goal.After-push_reserved) → c.extend_from_slice.new.self.items ≡ c.self.inside.bytes.items ++ text_of c.args.line.now.body
bytes_are c = c.in_ok-extend_from_slice.ensures.items ∙ rw (c.text.ensures.value) refl

pub invariant_of-self-2 : goal.invariant_of-self-2
invariant_of-self-2 c = rw (lines_are c, bytes_are c) (within_more c.self.inside.bytes.items c.self.inside.lines.items c.args.line.now c.self.invariant)

pub returns-clause-ok : goal.returns-clause-ok
returns-clause-ok c = rw (lines_are c, bytes_are c)
    (lines_more c.self.inside.bytes.items c.self.inside.lines.items c.args.line.now c.short_behind-short.ensures.short c.self.invariant
    ∙ ap (λ (l : List OpLine). l ++ c.args.line.now ∷ []) c.self.view_is)

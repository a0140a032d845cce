use Rattle.std.proofs.Common.{ℕ, max, List, ap, ◌∙◌, subst}
use Rattle.std.specs.Ordering.{nat_cmp}
use Rattle.std.specs.BTreeMap.{BTreeMap}
use Rattle.std.specs.BTreeSet.{BTreeSet, contains}
use Rattle.far_base.specs.declared.record.Versioned.{Versioned}
use Rattle.log_audit.specs.Walk.{HoldsWith}
use Rattle.log_audit.proofs.Seeing.{must_be_new, must_follow, not_false, not_true, seen_more}
use Rattle.log_audit.proofs.judging.Seen.take.Goals as goal

pub returns-then-not-allows-clause-no : goal.returns-then-not-allows-clause-no
returns-then-not-allows-clause-no c = λ taken seen h good. c.allows.ensures.no c.if-not-allows.true (must_follow seen c.args.line.now c.args.self.now h good)

pub returns-then-not-branch-clause-no : goal.returns-then-not-branch-clause-no
returns-then-not-branch-clause-no c = λ taken seen h good.
    must_be_new seen c.args.line.now c.args.self.now h (not_true c.in_ok-add_op.field-0 (contains nat_cmp c.args.self.now.ops c.args.line.now.op) c.in_ok-add_op.ensures.new c.if-not-branch.true) good

pub returns-clause-yes : goal.returns-clause-yes
returns-clause-yes c = λ taken seen h.
    seen_more seen c.args.line.now c.args.self.now c.note.new.self h (c.allows.ensures.yes c.if-not-allows.false)
    (not_false c.in_ok-add_op.field-0 (contains nat_cmp c.args.self.now.ops c.args.line.now.op) c.in_ok-add_op.ensures.new c.if-not-branch.false)
    (λ q. ap (λ (s : BTreeSet ℕ). contains nat_cmp s q) c.note.ensures.ops ∙ c.in_ok-add_op.ensures.ops.0 q)
    (subst (λ (m : BTreeMap (List ℕ) Versioned). HoldsWith c.args.line.now m c.note.new.self.held) c.add_op.ensures.held c.in_ok-note.ensures.held)
    (c.note.ensures.latest ∙ ap (max c.args.line.now.sent) c.add_op.ensures.latest)

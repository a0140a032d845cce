use Rattle.std.proofs.Common.{◌≡◌, ℕ, Bool, sym, ap, ◌∙◌, cond, arith}
use Rattle.far_history.specs.Summary.{is_answer}
use Rattle.far_runner.proofs.Answering.{counted_behind, counted_here}
use Rattle.far_runner.proofs.shared.answers_from.Goals as goal
use Rattle.far_runner.proofs.shared.answers_from.Goals.{then-is_answer, else-is_answer}

pub overflow_add-count : goal.overflow_add-count
overflow_add-count c =
    let here = counted_here c.args.log.now.lines c.loop-at.at c.line.result c.line.ensures in
    let one : cond {A = ℕ} (is_answer c.line.result.entry) 1 0 ≡ 1 = ap (λ (b : Bool). cond {A = ℕ} b 1 0) (sym c.is_answer.ensures ∙ c.if-is_answer.true) in
    let all = counted_behind c.args.log.now.lines c.args.place in
    omega (arith, here, one, all, c.loop-at.invariant, c.requires)

pub loop-at-preserved : goal.loop-at-preserved
loop-at-preserved c =
    let here = counted_here c.args.log.now.lines c.loop-at.at c.line.result c.line.ensures in
    elim c.if-is_answer.branch [
      | then-is_answer w ↦
          let one : cond {A = ℕ} (is_answer c.line.result.entry) 1 0 ≡ 1 = ap (λ (b : Bool). cond {A = ℕ} b 1 0) (sym c.is_answer.ensures ∙ w.if-is_answer.true) in
          omega (arith, here, one, c.loop-at.invariant, w.count-is)
      | else-is_answer w ↦
          let none : cond {A = ℕ} (is_answer c.line.result.entry) 1 0 ≡ 0 = ap (λ (b : Bool). cond {A = ℕ} b 1 0) (sym c.is_answer.ensures ∙ w.if-is_answer.false) in
          omega (arith, here, none, c.loop-at.invariant, w.count-is)
    ]

-- How what is owed follows from what the other laws say.
use Rattle.far_invariants.specs.Numbers.{IsWritten, NumbersDiffer}
use Rattle.std.proofs.Common.{◌≡◌, ℕ, zero, suc, refl, sym, ap, ◌∙◌, subst, arith}
use Rattle.far_base.specs.PlanView.{PlanView}
use Rattle.far_base.specs.declared.log.LogEntry.TheVariants.{Numbered}
use Rattle.far_base.specs.declared.record.Record.{Record}
use Rattle.far_model.specs.Clients.{line_of}
use Rattle.far_model.specs.State.{State}

-- two records that were written, with one key and number, have one body
pub written_agree : (plan : PlanView) (s : State) (moment other : ℕ) (r q : Record) → NumbersDiffer s → IsWritten plan s.log moment r.key r.num r.body → IsWritten plan s.log other q.key q.num q.body → r.num ≡ q.num → r.body ≡ q.body
written_agree plan s moment other r q differ a b same = go r.num refl
  where
    go : (n : ℕ) → r.num ≡ n → r.body ≡ q.body
    go zero e = a.none e ∙ sym (b.none (sym same ∙ e))
    go (suc n) e =
        let x = a.some (omega (arith, e)) in
        let y = b.some (omega (arith, e, same)) in
        let op = differ.differ x.own.numbered_at y.own.numbered_at x.op y.op r.num x.own.numbered (subst (λ w. Rattle.far_model.specs.Members.Among (Rattle.far_model.specs.State.line_at y.own.numbered_at (Numbered y.op w)) s.log) (sym same) y.own.numbered) in
        sym x.same_body ∙ ap (λ o. (line_of plan.ops o).body) op ∙ y.same_body

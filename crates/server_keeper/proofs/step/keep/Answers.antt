use Rattle.std.proofs.Common.{◌≡◌, ◌<◌, ◌≤◌, Some, Bor, ap, ◌∙◌, ⊎_elim}
use Rattle.std.proofs.lemmas.Bool.{cases_lt}
use Rattle.far_base.specs.declared.record.Record.{Record}
use Rattle.far_model.specs.Servers.{record_of}
use Rattle.server_keeper.specs.Step.{reply_with}
use Rattle.server_keeper.proofs.Kept.{newer_answers, older_answers, told_answers}
use Rattle.server_keeper.proofs.step.keep.Goals as goal
use Rattle.server_keeper.proofs.step.keep.Goals.{then-newer, else-newer}

-- the answer is the greater of the record that was there and the new one
pub returns-clause-stored : goal.returns-clause-stored
returns-clause-stored g c =
    let all = g.K.Keeper.records c.args.keeper.now in
    let held = c.in_ok-held.held in
    let rec = c.args.rec.now in
    let told : (r : Bor Record) → c.if-newer.write_reply ≡ r → c.write_reply.result ≡ reply_with c.args.caller c.args.op r.now = λ r e. c.write_reply.ensures ∙ ap (λ (r : Bor Record). reply_with c.args.caller c.args.op r.now) e in
    elim c.if-newer.branch [
      | then-newer w ↦ told_answers all c.args.server c.args.caller c.args.op rec rec c.write_reply.result (told _ w.write_reply-is) (newer_answers all c.args.server rec held c.in_ok-held.ensures.kept (c.newer.ensures.0 w.if-newer.true))
      | else-newer w ↦ told_answers all c.args.server c.args.caller c.args.op rec held c.write_reply.result (told _ w.write_reply-is) (older_answers all c.args.server rec held c.in_ok-held.ensures.kept (⊎_elim (λ (l : held.num < rec.num). absurd (cc (c.newer.ensures.1 l, w.if-newer.false))) (λ (h : rec.num ≤ held.num). h) (cases_lt held.num rec.num)))
    ]

pub returns-clause-kind : goal.returns-clause-kind
returns-clause-kind g c =
    let told : (r : Bor Record) → c.if-newer.write_reply ≡ r → c.write_reply.result ≡ reply_with c.args.caller c.args.op r.now = λ r e. c.write_reply.ensures ∙ ap (λ (r : Bor Record). reply_with c.args.caller c.args.op r.now) e in
    elim c.if-newer.branch [
      | then-newer w ↦ record { num = c.args.rec.now.num; body = c.args.rec.now.body; is = ap Some (told _ w.write_reply-is) }
      | else-newer w ↦ record { num = c.in_ok-held.held.num; body = c.in_ok-held.held.body; is = ap Some (told _ w.write_reply-is ∙ ap (λ key. reply_with c.args.caller c.args.op (record_of key c.in_ok-held.held.num c.in_ok-held.held.body)) c.in_ok-held.ensures.key) }
    ]

use Rattle.std.proofs.Common.{◌≡◌, ◌<◌, ◌≤◌, List, length, subst, sym, ap, ◌∙◌, arith}
use Rattle.far_base.specs.declared.record.Record.{Record}
use Rattle.client_records.specs.ClientView.{IsPlace}
use Rattle.client_records.proofs.Placed.{put_there, put_last}
use Rattle.client_records.proofs.records.put.Goals as goal

pub returns-then-place-len : goal.returns-then-place-len
returns-then-place-len c =
    let rec : Record = record { key = c.args.line.now.key; num = c.args.num; body = c.args.line.now.body } in
    let place : IsPlace rec.key c.args.records.now.items c.place_of-place.result = subst (λ (rs : List Record). IsPlace rec.key rs c.place_of-place.result) c.deref.ensures.value c.place_of-place.ensures in
    sym (put_there c.args.records.now.items rec c.place_of-place.result place (omega (arith, c.if-place-len.true, c.len.ensures)))

pub returns-else-place-len : goal.returns-else-place-len
returns-else-place-len c =
    let rec : Record = record { key = c.args.line.now.key; num = c.args.num; body = c.args.line.now.body } in
    let place : IsPlace rec.key c.args.records.now.items c.place_of-place.result = subst (λ (rs : List Record). IsPlace rec.key rs c.place_of-place.result) c.deref.ensures.value c.place_of-place.ensures in
    c.push_reserved.ensures.items
    ∙ sym (put_last c.args.records.now.items rec c.place_of-place.result place (omega (arith, c.if-place-len.false, c.len.ensures)))

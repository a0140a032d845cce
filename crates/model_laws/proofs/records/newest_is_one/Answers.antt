use Rattle.std.proofs.Common.{◌≡◌, ◌≤◌, List, sym, subst, arith}
use Rattle.far_base.specs.declared.record.Record.{Record}
use Rattle.far_model.specs.History.{Agree, IsKeyBefore, IsNewestPerKey}
use Rattle.far_model.specs.Members.{Among}
use Rattle.far_model.proofs.Members.{pairs_unique}
use Rattle.history_laws.proofs.Unique.{key_strict}
use Rattle.model_laws.proofs.records.newest_is_one.Goals as goal

-- a record of one list of the newest stands in the other
stands_too : (records a b : List Record) → Agree records → IsNewestPerKey records a → IsNewestPerKey records b → (r : Record) → Among r a → Among r b
stands_too records a b agree h k r m =
    let there = h.sound r m in
    let q = k.complete r there.0 there.1 in
    let of_records : Among q.0 records = (k.sound q.0 q.1).0 in
    let up : r.num ≤ q.0.num = k.greatest q.0 r q.1 there.0 (sym q.2) in
    let down : q.0.num ≤ r.num = h.greatest r q.0 m of_records q.2 in
    let num : q.0.num ≡ r.num = omega (arith, up, down) in
    let body : q.0.body ≡ r.body = agree q.0 r of_records there.0 q.2 num in
    let same : q.0 ≡ r = λ i. record { key = q.2 i; num = num i; body = body i } in
    subst (λ w. Among w b) same q.1

pub returns : goal.returns
returns c records first second agree h k =
    pairs_unique IsKeyBefore key_strict first second h.ordered k.ordered (stands_too records first second agree h k) (stands_too records second first agree k h)

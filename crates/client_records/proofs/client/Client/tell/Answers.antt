use Rattle.std.proofs.Common.{◌≡◌, List, ℕ, ap, sym, ◌∙◌, length, arith}
use Rattle.std.specs.Prelude.{Option, None, Some, is_some}
use Rattle.std.specs.Option.{unwrap_or}
use Rattle.std.specs.List.{slice_get}
use Rattle.far_base.specs.declared.packet.Packet.TheVariants.{Told}
use Rattle.far_base.specs.declared.party.Party.TheVariants.{Controller}
use Rattle.far_base.specs.declared.record.Record.{Record}
use Rattle.far_model.specs.Parties.{to_party}
use Rattle.client_records.specs.ClientView.{ClientView}
use Rattle.client_records.proofs.Tells.{tells_at, told_item, copied_is_some}
use Rattle.client_records.proofs.client.Client.tell.Goals as goal

pub returns : goal.returns
returns c =
    let preserved : c.self.inside.preserved.items ≡ c.args.self.now.preserved = ap (λ (v : ClientView). v.preserved) c.self.view_is in
    let number : c.self.inside.number ≡ c.args.self.now.number = ap (λ (v : ClientView). v.number) c.self.view_is in
    let total : length c.args.self.now.preserved ≡ c.len.result = omega (arith, c.len.ensures, ap length preserved) in
    let item : slice_get c.args.self.now.preserved c.args.i ≡ c.copied.result =
    ap (λ (rs : List Record). slice_get rs c.args.i) (sym preserved ∙ sym c.deref.ensures.value)
    ∙ told_item c.deref.result.now c.args.i c.copied.result
    (ap (λ (o : Option Record). is_some o) c.copied.ensures ∙ copied_is_some c.get.result ∙ c.get.ensures.lookup.0)
    (λ d. ap (λ (o : Option Record). unwrap_or o d) c.copied.ensures ∙ c.get.ensures.lookup.4 (omega arith) d) in
    tells_at c.args.round c.args.self.now.number c.args.self.now.preserved c.args.i c.requires.there
    ∙ ap (λ (n : ℕ). Some (to_party Controller (Told c.args.round n (length c.args.self.now.preserved) (slice_get c.args.self.now.preserved c.args.i)))) (sym number)
    ∙ ap (λ (n : ℕ). Some (to_party Controller (Told c.args.round c.self.inside.number n (slice_get c.args.self.now.preserved c.args.i)))) total
    ∙ ap (λ (o : Option Record). Some (to_party Controller (Told c.args.round c.self.inside.number c.len.result o))) item

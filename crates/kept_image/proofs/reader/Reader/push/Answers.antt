use Rattle.std.proofs.Common.{◌≡◌, ℕ, length, subst, Some, arith}
use Rattle.std.specs.BTreeMap.{Updates}
use Rattle.std.proofs.lemmas.Result.{on_ok_weaker}
use Rattle.kept_image.specs.Reading.{key_and_number_cmp}
use Rattle.kept_image.proofs.IndexLaws.{indexed_more}
use Rattle.kept_image.proofs.reader.Reader.push.Goals as goal

pub returns-clause-indexed : goal.returns-clause-indexed
returns-clause-indexed c =
    let n : c.len-place.result ≡ length c.args.self.now.items.items = omega (arith, c.len-place.ensures, c.args.self.now.items.ok) in
    on_ok_weaker c.put_item.result (λ items agree.
    indexed_more c.args.self.now (record { items = c.put_item.new.items; places = c.put_place.new.places }) c.args.item.now c.requires items
    (subst (λ (n : ℕ). Updates key_and_number_cmp c.args.self.now.places c.put_place.new.places (c.args.item.now.rec.key, c.args.item.now.rec.num) (Some n)) n c.in_ok-put_place.ensures) agree) c.put_item.ensures

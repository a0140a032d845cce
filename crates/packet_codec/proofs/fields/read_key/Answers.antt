use Rattle.std.proofs.Common.{refl, arith}
use Rattle.packet_codec.specs.Reading.{key_at}
use Rattle.packet_codec.proofs.FieldLaws.{field_key}
use Rattle.packet_codec.proofs.SpellingLaws.{begun}
use Rattle.packet_codec.proofs.fields.read_key.Goals as goal

pub returns : goal.returns
unfolding key_at
returns c = let b = begun field_key c.key.result _ c.after.result.now c.args.bytes.now c.args.at (λ i. omega (arith, c.type_inv.bytes i)) c.key.ensures c.after.ensures refl in record { found = b.found; only = b.only; exact = b.exact; fault = b.fault; past = b.past }

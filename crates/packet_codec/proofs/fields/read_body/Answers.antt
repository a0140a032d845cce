use Rattle.std.proofs.Common.{refl, arith}
use Rattle.packet_codec.specs.Reading.{body_at, flag_at}
use Rattle.packet_codec.proofs.FieldLaws.{field_body}
use Rattle.packet_codec.proofs.SpellingLaws.{begun}
use Rattle.packet_codec.proofs.fields.read_body.Goals as goal

pub returns : goal.returns
unfolding body_at flag_at
returns c = let b = begun field_body c.body.result _ c.after.result.now c.args.bytes.now c.args.at (λ i. omega (arith, c.type_inv.bytes i)) c.body.ensures c.after.ensures refl in record { found = b.found; only = b.only; exact = b.exact; fault = b.fault; past = b.past }

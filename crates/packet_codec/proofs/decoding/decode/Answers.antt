use Rattle.std.proofs.Common.{◌∙◌, arith}
use Rattle.packet_codec.proofs.SpellingLaws.{found_by, packet_only, packet_cut, version_exactly, kind_exactly, rest_exactly}
use Rattle.packet_codec.proofs.decoding.decode.Goals as goal

pub returns-clause-found : goal.returns-clause-found
returns-clause-found c = found_by c.args.bytes.now (λ i. omega (arith, c.type_inv.bytes i)) c.packet.result c.packet.ensures

pub returns-clause-only : goal.returns-clause-only
returns-clause-only c = λ p s. c.packet.ensures ∙ packet_only c.args.bytes.now p s

pub returns-clause-version : goal.returns-clause-version
returns-clause-version c = rw c.packet.ensures (version_exactly c.args.bytes.now)

pub returns-clause-kind : goal.returns-clause-kind
returns-clause-kind c = rw c.packet.ensures (kind_exactly c.args.bytes.now)

pub returns-clause-rest : goal.returns-clause-rest
returns-clause-rest c = rw c.packet.ensures (rest_exactly c.args.bytes.now (λ i. omega (arith, c.type_inv.bytes i)))

pub returns-clause-cut : goal.returns-clause-cut
returns-clause-cut c = λ after p more s. c.packet.ensures ∙ packet_cut c.args.bytes.now after p more s

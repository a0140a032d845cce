use Rattle.packet_codec.proofs.SpellingLaws.{packet_only}
use Rattle.packet_codec.proofs.encoding.encode_into.Goals as goal

pub returns-clause-again : goal.returns-clause-again
returns-clause-again c = packet_only _ _ c.put.ensures.spelled

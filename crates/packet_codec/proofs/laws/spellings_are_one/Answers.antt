use Rattle.packet_codec.proofs.SpellingLaws.{one_packet, no_longer}
use Rattle.packet_codec.proofs.laws.spellings_are_one.Goals as goal

pub returns-clause-packet : goal.returns-clause-packet
returns-clause-packet c = one_packet

pub returns-clause-prefix : goal.returns-clause-prefix
returns-clause-prefix c = no_longer

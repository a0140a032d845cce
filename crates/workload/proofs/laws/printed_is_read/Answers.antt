use Rattle.workload.specs.Spelling.{spelling}
use Rattle.workload.proofs.PrintedLaws.{printed_reads}
use Rattle.workload.proofs.ReadingLaws.{reading_again}
use Rattle.workload.proofs.Sizes.{text_short}
use Rattle.workload.proofs.laws.printed_is_read.Goals as goal

pub returns-clause-same : goal.returns-clause-same
returns-clause-same c = λ w h whole. reading_again (spelling w) w (printed_reads w h whole.ops whole.orders)

pub returns-clause-short : goal.returns-clause-short
returns-clause-short c = λ text w h. text_short text w h

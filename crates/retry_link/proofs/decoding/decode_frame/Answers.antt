use Rattle.std.proofs.Common.{◌∙◌, arith}
use Rattle.retry_link.proofs.FrameLaws.{fault_by, found_by, frame_cut, frame_only, kind_exactly, rest_exactly}
use Rattle.retry_link.proofs.decoding.decode_frame.Goals as goal

pub returns-clause-found : goal.returns-clause-found
returns-clause-found c = found_by c.args.bytes.now (λ i. omega (arith, c.type_inv.bytes i)) c.read_frame.result c.read_frame.ensures

pub returns-clause-only : goal.returns-clause-only
returns-clause-only c = λ f s. c.read_frame.ensures ∙ frame_only c.args.bytes.now f s

pub returns-clause-fault : goal.returns-clause-fault
returns-clause-fault c = fault_by c.args.bytes.now c.read_frame.result c.read_frame.ensures

pub returns-clause-kind : goal.returns-clause-kind
returns-clause-kind c = rw c.read_frame.ensures (kind_exactly c.args.bytes.now)

pub returns-clause-rest : goal.returns-clause-rest
returns-clause-rest c = rw c.read_frame.ensures (rest_exactly c.args.bytes.now (λ i. omega (arith, c.type_inv.bytes i)))

pub returns-clause-cut : goal.returns-clause-cut
returns-clause-cut c = λ after f more s. c.read_frame.ensures ∙ frame_cut c.args.bytes.now after f more s

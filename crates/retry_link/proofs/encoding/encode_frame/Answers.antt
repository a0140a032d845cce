use Rattle.retry_link.proofs.FrameLaws.{frame_only}
use Rattle.retry_link.proofs.encoding.encode_frame.Goals as goal

pub returns-clause-again : goal.returns-clause-again
returns-clause-again c = frame_only _ _ c.put.ensures.spelled

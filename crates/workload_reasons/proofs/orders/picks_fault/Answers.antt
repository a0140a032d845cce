use Rattle.std.proofs.Common.{rules}
use Rattle.far_text.specs.Pieces.{pieces}
use Rattle.workload_reasons.proofs.Picking.{all_numbers, is_refused}
use Rattle.workload_reasons.proofs.orders.picks_fault.Goals as goal

pub returns-in_err-first_no_pick-clause-none : goal.returns-in_err-first_no_pick-clause-none
returns-in_err-first_no_pick-clause-none c none = all_numbers (pieces 32 c.args.words.now) (search rules)

pub returns-clause-none : goal.returns-clause-none
returns-clause-none c none = absurd (is_refused (pieces 32 c.args.words.now) c.in_ok-first_no_pick.field-0.now
    (search rules) (c.lone_fault.ensures.none none))

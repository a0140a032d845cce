use Rattle.workload_reasons.proofs.finding.order_reason.Goals as goal

pub returns-in-None-clause-none : goal.returns-in-None-clause-none
returns-in-None-clause-none c none = record {
  form = c.form_fault.ensures.none c.in_default.is;
  client = c.client_reason.ensures.none c.in-None.is;
  start = c.again_reason.ensures.none none;
}

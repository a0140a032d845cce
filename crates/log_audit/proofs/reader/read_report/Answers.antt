use Rattle.log_audit.proofs.Forms.{is_first, is_found, is_only}
use Rattle.log_audit.proofs.reader.read_report.Goals as goal

pub returns-clause-found : goal.returns-clause-found
returns-clause-found c = is_found (λ v. v.items) c.args.text.now c.read_text.result c.read_text.ensures.found

pub returns-clause-only : goal.returns-clause-only
returns-clause-only c = is_only (λ v. v.items) c.args.text.now c.read_text.result c.read_text.ensures.found c.read_text.ensures.fault

pub returns-clause-first : goal.returns-clause-first
returns-clause-first c = is_first (λ v. v.items) c.args.text.now c.read_text.result c.read_text.ensures.found c.read_text.ensures.fault

use Rattle.log_audit.proofs.Tellings.{good_report}
use Rattle.log_audit.proofs.laws.reports_are_good.Goals as goal

pub returns : goal.returns
returns c log text one full is = good_report log text one full is

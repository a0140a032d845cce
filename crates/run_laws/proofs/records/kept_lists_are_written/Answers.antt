use Rattle.run_laws.proofs.KeptItems.{kept_agree, kept_items}
use Rattle.run_laws.proofs.records.kept_lists_are_written.Goals as goal

pub returns-clause-items : goal.returns-clause-items
returns-clause-items c plan events valid r = kept_items plan events valid r

pub returns-clause-agree : goal.returns-clause-agree
returns-clause-agree c plan events valid r = kept_agree plan events valid r

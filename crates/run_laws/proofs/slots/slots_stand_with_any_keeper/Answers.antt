use Rattle.run_laws.proofs.Kept.{kept}
use Rattle.run_laws.proofs.slots.slots_stand_with_any_keeper.Goals as goal

pub returns-clause-seated : goal.returns-clause-seated
returns-clause-seated c plan events valid r = (kept plan events valid r).seated

pub returns-clause-evictions : goal.returns-clause-evictions
returns-clause-evictions c plan events valid r = (kept plan events valid r).evictions

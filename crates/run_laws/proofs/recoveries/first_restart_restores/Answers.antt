use Rattle.run_laws.proofs.FirstRestart.{first_restart}
use Rattle.run_laws.proofs.recoveries.first_restart_restores.Goals as goal

pub returns : goal.returns
returns c plan before after valid r none quiet = first_restart plan before after valid r none quiet

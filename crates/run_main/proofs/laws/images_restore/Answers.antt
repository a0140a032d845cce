use Rattle.run_main.proofs.Restoring.{commands_restore, image_restores}
use Rattle.run_main.proofs.Stopping.{stopping_plain}
use Rattle.run_main.specs.Images.{with_stop}
use Rattle.run_main.proofs.laws.images_restore.Goals as goal

pub returns-clause-images : goal.returns-clause-images
returns-clause-images c work plain = image_restores c.first_restart_restores.ensures c.kept_lists_are_written.ensures.agree c.newest_is_one.ensures (with_stop work) (stopping_plain work plain).plan

pub returns-clause-commands : goal.returns-clause-commands
returns-clause-commands c work = commands_restore c.first_restart_restores.ensures c.kept_lists_are_written.ensures.agree c.newest_is_one.ensures work

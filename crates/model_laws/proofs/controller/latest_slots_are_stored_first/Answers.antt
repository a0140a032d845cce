use Rattle.model_laws.proofs.Removing.{asks_none, evict_rules, recovery_rules, snapshot_rules, tick_rules, upon_stored}
use Rattle.far_base.specs.declared.plan.Config.{Config}
use Rattle.far_model.specs.Controller.{evict_key, start_recovery, start_snapshot}
use Rattle.model_laws.proofs.controller.latest_slots_are_stored_first.Goals as goal

-- the rules of a config, whichever
any : Config
any = record { clients = 0; servers = 0; slots = 0; hot = 0 }

pub returns-clause-upon : goal.returns-clause-upon
returns-clause-upon g config c packet out a k = upon_stored config c packet out a k

pub returns-clause-ticks : goal.returns-clause-ticks
returns-clause-ticks g c turn e = asks_none turn (tick_rules any c turn e)

pub returns-clause-evictions : goal.returns-clause-evictions
returns-clause-evictions g c key = asks_none (evict_key key c) (evict_rules any key c)

pub returns-clause-snapshots : goal.returns-clause-snapshots
returns-clause-snapshots g c = asks_none (start_snapshot c) (snapshot_rules any c)

pub returns-clause-recoveries : goal.returns-clause-recoveries
returns-clause-recoveries g config c = asks_none (start_recovery config c) (recovery_rules config c)

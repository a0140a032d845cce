-- In which events keepers are asked.
use Rattle.far_base.specs.declared.event.Event.{Event}
use Rattle.far_base.specs.declared.event.Event.TheVariants.{Send, Deliver, Tick, Recover, Restart, Order as OrderOf}
use Rattle.far_base.specs.declared.party.Party.{Party}
use Rattle.far_base.specs.declared.party.Party.TheVariants.{Client, Switch, Server, Controller}

-- neither a delivery nor a restart
abbrev pub IsCalm : Event → Type 0
IsCalm (Send c) = Unit {0}
IsCalm (Deliver i) = ⊥
IsCalm Tick = Unit {0}
IsCalm Recover = Unit {0}
IsCalm Restart = ⊥
IsCalm (OrderOf j) = Unit {0}

-- a party other than a server
abbrev pub IsForOthers : Party → Type 0
IsForOthers (Client c) = Unit {0}
IsForOthers Switch = Unit {0}
IsForOthers (Server n) = ⊥
IsForOthers Controller = Unit {0}

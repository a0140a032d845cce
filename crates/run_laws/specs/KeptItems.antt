-- What the items of a kept list are.
use Rattle.std.specs.Prelude.{◌<◌, ◌^◌}
use Rattle.far_base.specs.PlanView.{PlanView}
use Rattle.far_base.specs.declared.kept.KeptItem.{KeptItem}
use Rattle.far_base.specs.declared.kept.KeptPlace.{KeptPlace}
use Rattle.far_base.specs.declared.kept.KeptPlace.TheVariants.{Snap, Server, Client}
use Rattle.far_invariants.specs.Records.{IsRecord}
use Rattle.far_model.specs.State.{State}

-- a client is one of the plan
abbrev pub IsPlaceIn : PlanView → KeptPlace → Type 0
IsPlaceIn plan Snap = Unit {0}
IsPlaceIn plan (Server server) = Unit {0}
IsPlaceIn plan (Client client) = client < plan.config.clients

-- the record is that of a write, or has number 0 and no body; its number is small
pub record IsKeptItem (plan : PlanView) (s : State) (item : KeptItem) : Type 0 where
  pub place : IsPlaceIn plan item.place
  pub written : IsRecord plan s item.rec
  pub small : item.rec.num < 2 ^ 28

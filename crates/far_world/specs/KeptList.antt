-- What is kept where the switch loses its memory, as it is listed.
use Rattle.std.specs.Prelude.{◌≡◌, List, ◌++◌}
use Rattle.far_base.specs.declared.kept.KeptItem.{KeptItem}
use Rattle.far_base.specs.declared.kept.KeptPlace.TheVariants.{Snap}
use Rattle.far_model.specs.Kept.{client_items, kept_records, placed_in}
use Rattle.far_model.specs.Snapshots.{view_records}
use Rattle.far_world.specs.Scene.{Scene, Tells}

-- the kept list went behind the others: the last completed snapshot, what the keeper listed of the servers, and what
-- the
-- clients preserve; where the keeper tells its records, the servers' records
pub record ListsKept (scene : Scene) (before after : List KeptItem) : Type 0 where
  pub listed : List KeptItem
  pub behind : after ≡ before ++ (placed_in Snap (view_records scene.state.controller.last.views) ++ listed
      ++ client_items 0 scene.state.clients)
  pub told : Tells scene.keeper.records → after ≡ before ++ kept_records scene.state

-- What lies under the lock, as contracts see it.
use Rattle.std.specs.Prelude.{Bool}
use Rattle.far_world.specs.Reached.{Ran}

-- a world, and the mark that ends the workers
pub record SharedView : Type 0 where
  pub world : Ran
  pub ends : Bool

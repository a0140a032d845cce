-- Which numbers a controller can still draw.
use Rattle.std.specs.Prelude.{ℕ, ◌+◌, ◌^◌, ◌<◌, Bool, true, false}
use Rattle.far_base.specs.declared.packet.Packet.{Packet}
use Rattle.far_base.specs.declared.packet.Packet.TheVariants.{PeekAns, RemoveAns, Told}
use Rattle.far_base.specs.declared.plan.TheConstants.{SLOT_LIMIT}
use Rattle.far_model.specs.Controller.{ControllerState}

-- one more of each number can be drawn, and a job for the record of each slot
pub record HasRoom (c : ControllerState) : Type 0 where
  pub epoch : c.epoch + 1 < 2 ^ 32
  pub tag : c.next_tag + 1 < 2 ^ 64
  pub job : c.next_job + SLOT_LIMIT + 1 < 2 ^ 64
  pub id : c.next_id + 1 < 2 ^ 32
  pub round : c.next_round + 1 < 2 ^ 32

-- whether what follows on the packet may be a store, under a job that is drawn for it
abbrev pub may_store : Packet → Bool
may_store (PeekAns slot tag latest num body) = true
may_store (RemoveAns slot tag done latest num body) = true
may_store (Told round caller total item) = true
may_store _ = false

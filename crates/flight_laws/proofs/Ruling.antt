-- What the controller and the clients send: nothing of an operation.
use Rattle.std.proofs.Common.{ℕ, List, refl}
use Rattle.far_base.specs.declared.packet.Packet.{Packet}
use Rattle.far_base.specs.declared.packet.Packet.TheVariants.{SnapStart, SnapFrom}
use Rattle.far_base.specs.declared.party.Party.TheVariants.{Client, Switch, Controller}
use Rattle.far_base.specs.declared.plan.Config.{Config}
use Rattle.far_base.specs.declared.plan.Order.{Order}
use Rattle.far_base.specs.declared.record.Record.{Record}
use Rattle.far_model.specs.Clients.{tells}
use Rattle.far_model.specs.Controller.{ControllerState, store_of, is_last_present, start_recovery}
use Rattle.far_model.specs.Evictions.{Eviction}
use Rattle.far_model.specs.Members.{Each}
use Rattle.far_model.specs.Parties.{Turn, to_party}
use Rattle.far_model.specs.State.{State}
use Rattle.far_model.specs.Steps.{EvictionRow, RemovalDone, GivenUp, GivenUpForWant, RuleRow, Evicts, Snaps, Recovering, TickRow, WantDropped, OrderRow, EvictionOrdered, SnapshotOrdered}
use Rattle.far_model.proofs.Rows.{recovery_sends, recovery_start_sends, snapshot_sends, tells_send}
use Rattle.flight_laws.proofs.Lists.{by_test}
use Rattle.flight_laws.proofs.Sends.{IsControl}

module _ (config : Config) where
  -- all that a turn of the controller sends is its own
  abbrev pub Rules : Turn ControllerState → Type 0
  Rules t = Each (IsControl config Controller) t.out

  store_control : (job : ℕ) (item : Record) → IsControl config Controller (store_of config job item)
  store_control job item = record { apart = refl; travels = record { source = refl; target = refl } }

  eviction_rules : (c : ControllerState) (e : Eviction) (p : Packet) (t : Turn ControllerState) → EvictionRow config c e p t → Rules t
  eviction_rules c e p t (RemovalDone i tag latest num body w) = tt
  eviction_rules c e p t (GivenUp i tag latest num body w n f) = tt
  eviction_rules c e p t (GivenUpForWant i tag latest num body w n f) = tt
  eviction_rules c e p t _ = (record { apart = refl; travels = record { source = refl; target = refl } }, tt)

  pub rule_rules : (c : ControllerState) (p : Packet) (t : Turn ControllerState) → RuleRow config c p t → Rules t
  rule_rules c p t (Evicts e p2 t2 is r) = eviction_rules c e p t r
  rule_rules c p t (Snaps job p2 t2 is r) = snapshot_sends (IsControl config Controller) config c job p t r (λ i. record { apart = refl; travels = record { source = refl; target = refl } })
      (λ point n l. record { apart = refl; travels = record { source = refl; target = record { client = n; within = l; is = refl } } })
  rule_rules c p t (Recovering r p2 t2 is q) = recovery_sends (IsControl config Controller) config c r p t q (store_control c.next_job)
      (λ n l. record { apart = refl; travels = record { source = refl; target = record { server = n; within = l; is = refl } } })
  rule_rules c p t _ = tt

  pub tick_rules : (c : ControllerState) (t : Turn ControllerState) → TickRow c t → Rules t
  tick_rules c t (WantDropped key keys i r w h) = tt
  tick_rules c t _ = (record { apart = refl; travels = record { source = refl; target = refl } }, tt)

  pub order_rules : (s : State) (c : ControllerState) (o : Order) (t : Turn ControllerState) → OrderRow s c o t → Rules t
  order_rules s c o t (EvictionOrdered step key i runs e r f) = (record { apart = refl; travels = record { source = refl; target = refl } }, tt)
  order_rules s c o t (SnapshotOrdered step runs j r) = (
    by_test (λ p. IsControl config Controller (to_party Switch p)) (is_last_present c) (SnapFrom c.epoch c.next_id c.last.id) (SnapStart c.epoch c.next_id)
        (record { apart = refl; travels = record { source = refl; target = refl } }) (record { apart = refl; travels = record { source = refl; target = refl } }),
    tt,
  )
  order_rules s c o t _ = tt

  pub recovery_rules : (c : ControllerState) → Rules (start_recovery config c)
  recovery_rules c = recovery_start_sends (IsControl config Controller) config c (λ n l. record { apart = refl; travels = record { source = refl; target = record { client = n; within = l; is = refl } } }) store_control

  pub tells_control : (round c : ℕ) (items : List Record) → Each (IsControl config (Client c)) (tells round c items)
  tells_control round c items = tells_send (IsControl config (Client c)) round c items (λ total item. record { apart = refl; travels = record { source = refl; target = refl } })

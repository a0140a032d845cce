use Rattle.std.proofs.Common.{◌+◌, ◌++◌, take, ap, ◌∙◌}
use Rattle.far_base.specs.declared.kept.KeptPlace.TheVariants.{Client}
use Rattle.far_model.specs.Kept.{client_items, placed_in}
use Rattle.far_world.specs.Seats.{clients_of}
use Rattle.far_world.proofs.Keeping.{clients_on, goes_on}
use Rattle.far_world.proofs.kept_list.place_clients.Goals as goal

pub loop-i-preserved : goal.loop-i-preserved
loop-i-preserved c = goes_on c.args.into.now.items (client_items 0 (clients_of (take c.loop-i.i c.args.clients.now))) (placed_in (Client c.loop-i.i) c.index-clients-i.result.state.preserved) (client_items 0 (clients_of (take (c.loop-i.i + 1) c.args.clients.now)))
    c.loop-i.into.items c.place_all.new.into.items c.loop-i.invariant (c.in_ok-place_all.ensures ∙ ap (λ rs. c.loop-i.into.items ++ placed_in (Client c.loop-i.i) rs) c.preserved.ensures) (clients_on c.args.clients.now c.loop-i.i c.index-clients-i.result c.loop-i-test.true c.index-clients-i.is)

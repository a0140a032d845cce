use Rattle.std.proofs.Common.{◌≡◌, ◌+◌, ◌≤◌, length, sym, ap, ◌∙◌, arith}
use Rattle.far_base.specs.declared.plan.Config.{Config}
use Rattle.far_world.proofs.Tasked.{small_task}
use Rattle.far_world.proofs.Turns.{counted}
use Rattle.far_world.specs.Tasks.{FitsConfig, IsSmall, task_turn}
use Rattle.far_world.proofs.parties.Parties.control.Goals as goal

pub do_task-requires-clause-small : goal.do_task-requires-clause-small
do_task-requires-clause-small g c =
    let fits : FitsConfig c.self.inside.plan.config c.self.inside.controller.state = rw (← c.self.view_is) at c.requires.fits in
    let small : IsSmall c.self.inside.controller.config (task_turn c.self.inside.controller.config c.self.inside.controller.state c.args.task.now) =
    rw c.self.invariant.config (small_task c.self.inside.plan.config c.self.inside.controller.state c.args.task.now fits) in
    small

pub post-requires-clause-bag_room : goal.post-requires-clause-bag_room
post-requires-clause-bag_room g c =
    let fits : FitsConfig c.self.inside.plan.config c.self.inside.controller.state = rw (← c.self.view_is) at c.requires.fits in
    let small : IsSmall c.self.inside.controller.config (task_turn c.self.inside.controller.config c.self.inside.controller.state c.args.task.now) =
    rw c.self.invariant.config (small_task c.self.inside.plan.config c.self.inside.controller.state c.args.task.now fits) in
    let sent : length c.do_task.new.turn.out.items ≤ c.self.inside.controller.config.clients + c.self.inside.controller.config.servers + c.self.inside.controller.config.slots + 1 =
    counted c.make_room.new.turn.out.items c.do_task.new.turn.out.items (task_turn c.self.inside.controller.config c.self.inside.controller.state c.args.task.now).out (c.self.inside.controller.config.clients + c.self.inside.controller.config.servers + c.self.inside.controller.config.slots + 1) c.in_ok-make_room.ensures.turn c.in_ok-do_task.ensures.out small.outs in
    let same : c.config_of-config.result ≡ c.self.inside.controller.config = c.config_of-config.ensures ∙ sym c.self.invariant.config in
    let room = rw same at c.in_ok-make_room.ensures.bag_room in
    omega (arith, sent, room, c.do_task.new.turn.out.ok.0)

pub post-requires-clause-few : goal.post-requires-clause-few
post-requires-clause-few g c =
    let fits : FitsConfig c.self.inside.plan.config c.self.inside.controller.state = rw (← c.self.view_is) at c.requires.fits in
    let small : IsSmall c.self.inside.controller.config (task_turn c.self.inside.controller.config c.self.inside.controller.state c.args.task.now) =
    rw c.self.invariant.config (small_task c.self.inside.plan.config c.self.inside.controller.state c.args.task.now fits) in
    let sent : length c.do_task.new.turn.out.items ≤ c.self.inside.controller.config.clients + c.self.inside.controller.config.servers + c.self.inside.controller.config.slots + 1 =
    counted c.make_room.new.turn.out.items c.do_task.new.turn.out.items (task_turn c.self.inside.controller.config c.self.inside.controller.state c.args.task.now).out (c.self.inside.controller.config.clients + c.self.inside.controller.config.servers + c.self.inside.controller.config.slots + 1) c.in_ok-make_room.ensures.turn c.in_ok-do_task.ensures.out small.outs in
    let same : c.config_of-config.result ≡ c.self.inside.controller.config = c.config_of-config.ensures ∙ sym c.self.invariant.config in
    let bag = rw (← c.self.view_is) at c.requires.few in
    let valid = rw (← c.self.view_is) at c.requires.valid in
    let clients = ap (λ (k : Config). k.clients) c.self.invariant.config in
    let servers = ap (λ (k : Config). k.servers) c.self.invariant.config in
    let slots = ap (λ (k : Config). k.slots) c.self.invariant.config in
    omega (arith, sent, bag, clients, servers, slots, valid.clients.1, valid.servers.1, valid.slots.1, ap length c.make_room.ensures.messages, c.do_task.new.turn.out.ok.0)

pub post-requires-clause-log_room : goal.post-requires-clause-log_room
post-requires-clause-log_room g c =
    let fits : FitsConfig c.self.inside.plan.config c.self.inside.controller.state = rw (← c.self.view_is) at c.requires.fits in
    let small : IsSmall c.self.inside.controller.config (task_turn c.self.inside.controller.config c.self.inside.controller.state c.args.task.now) =
    rw c.self.invariant.config (small_task c.self.inside.plan.config c.self.inside.controller.state c.args.task.now fits) in
    let noted : length c.do_task.new.turn.notes.items ≤ c.self.inside.controller.config.slots + 1 =
    counted c.make_room.new.turn.notes.items c.do_task.new.turn.notes.items (task_turn c.self.inside.controller.config c.self.inside.controller.state c.args.task.now).notes (c.self.inside.controller.config.slots + 1) c.in_ok-make_room.ensures.turn_notes c.in_ok-do_task.ensures.notes small.noted in
    let same : c.config_of-config.result ≡ c.self.inside.controller.config = c.config_of-config.ensures ∙ sym c.self.invariant.config in
    let room = rw same at c.in_ok-make_room.ensures.log_room in
    omega (arith, noted, room, c.do_task.new.turn.notes.ok.0)

use Rattle.std.proofs.Common.{◌≡◌, false, nat_lt, length}
use Rattle.controller_core.proofs.Sames.{silent}
use Rattle.controller_core.proofs.controller.Controller.same_came.Goals as goal

pub returns-then-not-has_view-clause-out : goal.returns-then-not-has_view-clause-out
returns-then-not-has_view-clause-out c =
    let self = c.args.self.now in
    let none : nat_lt c.args.slot (length self.state.last.views) ≡ false = cc in
    silent self.config self.state c.args.id c.args.slot self.state.job c.args.out.now.items c.reserve.new.self.items none c.reserve.ensures.items

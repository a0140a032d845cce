use Rattle.std.proofs.Common.{◌∙◌, ap, refl}
use Rattle.far_world.specs.Scene.{KeeperView}
use Rattle.run_main.proofs.Goings.{goes_some, goes_to_end}
use Rattle.run_main.proofs.Replays.{ok_map, on_any, replay_is, same_picks}
use Rattle.run_main.proofs.running.run_to_end.Goals as goal

pub returns-clause-text : goal.returns-clause-text
returns-clause-text g c = λ tells.
    rw c.handed_back-2.ensures.text
    (ok_map _ _ c.account_of-text.result
    (λ text is. replay_is (record c.args.load.now { plan = c.args.world.plan }) c.args.account c.args.world c.pump.new.world _ text.items refl c.requires.events c.requires.state (same_picks c.args.load.now c.args.world.plan c.args.world c.pump.new.world _ c.in_default.ensures.pumped) c.account_of-text.ensures.reached tells _
    (ap (λ (k : KeeperView). k.records) c.handed_back-2.ensures.keeper) (c.account_of-text.ensures.answered c.in_default.ensures.finished) c.finished_runs_are_linearizable.ensures c.restarts_restore.ensures.blocks c.in_default.ensures.finished c.requires.whole c.histories_are_told.ensures c.reports_are_good.ensures is)
    c.account_of-text.ensures.text)

pub returns-clause-gone : goal.returns-clause-gone
returns-clause-gone g c = λ tells.
    let r = c.account_of-text.ensures.reached in
    goes_to_end c.args.load.now c.args.world c.pump.new.world c.requires.events c.requires.state r.told r.records tells _
    (ap (λ (k : KeeperView). k.records) c.handed_back-2.ensures.keeper) _ c.in_default.ensures.pumped

pub returns-in-Err-clause-gone : goal.returns-in-Err-clause-gone
returns-in-Err-clause-gone g c = λ tells.
    let r = c.handed_back.ensures.reached in
    goes_some c.args.load.now c.args.world c.pump.new.world c.requires.events c.requires.state r.told r.records tells _
    (ap (λ (k : KeeperView). k.records) c.handed_back.ensures.keeper) c.in-Err.ensures.some

pub returns-clause-unfailed : goal.returns-clause-unfailed
returns-clause-unfailed g c =
    rw c.handed_back-2.ensures.text
    (on_any c.account_of-text.result (ap (λ (k : KeeperView). k.faults) c.handed_back-2.ensures.keeper ∙ c.in_default.ensures.unfailed))

use Rattle.std.proofs.Common.{ap, subst, ◌∙◌}
use Rattle.far_world.specs.Reached.{IsReached, Ran}
use Rattle.far_world.specs.Scene.{KeeperView}
use Rattle.run_main.proofs.Goings.{goes_some, goes_to_recovery}
use Rattle.run_main.proofs.Keepings.{image_is}
use Rattle.run_main.proofs.Replays.{ok_both, ok_map, on_ok}
use Rattle.run_main.proofs.keeping.run_to_recovery.Goals as goal

pub returns-clause-text : goal.returns-clause-text
returns-clause-text g c = λ tells.
    let told = c.in_default.ensures.pumped.gone.tells ∙ tells in
    rw c.handed_back-2.ensures.text
    (ok_map _ _ c.image_of-text.result
    (λ text is. image_is c.args.load.now c.args.world c.pump_to_recover.new.world _ _ text.items c.requires.events c.requires.state c.in_default.ensures.pumped
    (subst (λ (w : Ran). IsReached w) c.image_of-text.ensures.world c.handed_back-2.ensures.reached) tells _
    (ap (λ (k : KeeperView). k.records) c.handed_back-2.ensures.keeper ∙ ap (λ (w : Ran). w.keeper.records) c.image_of-text.ensures.world) is.0 is.1 c.kept_lists_are_written.ensures.items c.kept_lists_are_written.ensures.agree)
    (ok_both _ _ c.image_of-text.result (c.image_of-text.ensures.text told) (c.image_of-text.ensures.reads told)))

pub returns-clause-gone : goal.returns-clause-gone
returns-clause-gone g c = λ tells.
    let r = subst (λ (w : Ran). IsReached w) c.image_of-text.ensures.world c.handed_back-2.ensures.reached in
    goes_to_recovery c.args.load.now c.args.world c.pump_to_recover.new.world c.requires.events c.requires.state r.told r.records tells _
    (ap (λ (k : KeeperView). k.records) c.handed_back-2.ensures.keeper ∙ ap (λ (w : Ran). w.keeper.records) c.image_of-text.ensures.world) _ c.in_default.ensures.pumped

pub returns-in-Err-clause-gone : goal.returns-in-Err-clause-gone
returns-in-Err-clause-gone g c = λ tells.
    let r = c.handed_back.ensures.reached in
    goes_some c.args.load.now c.args.world c.pump_to_recover.new.world c.requires.events c.requires.state r.told r.records tells _
    (ap (λ (k : KeeperView). k.records) c.handed_back.ensures.keeper) c.in-Err.ensures.some

pub returns-clause-unfailed : goal.returns-clause-unfailed
returns-clause-unfailed g c =
    rw c.handed_back-2.ensures.text
    (on_ok _ _ c.image_of-text.result (λ same. ap (λ (k : KeeperView). k.faults) c.handed_back-2.ensures.keeper ∙ (same ∙ c.in_default.ensures.unfailed)) c.image_of-text.ensures.unfailed)

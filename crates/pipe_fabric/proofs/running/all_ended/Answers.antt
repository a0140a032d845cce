use Rattle.std.proofs.Common.{◌≡◌, List, [], ◌∷◌, ◌++◌, sym, ap, ◌∙◌, subst}
use Rattle.std.specs.List.{AllZip}
use Rattle.far_runner.specs.Ended.{IsEndOf}
use Rattle.far_world.specs.Reached.{Ran}
use Rattle.pipe_fabric.proofs.Zips.{zip_more}
use Rattle.pipe_fabric.proofs.running.all_ended.Goals as goal

pub loop-pipe-preserved : goal.loop-pipe-preserved
loop-pipe-preserved c =
    let world = c.in_ok-ended.field-0 in
    let pushed : c.push_reserved.new.self.items ≡ c.loop-pipe.worlds.items ++ world ∷ [] = c.push_reserved.ensures.items ∙ ap (λ (worlds : List Ran). worlds ++ world ∷ []) c.reserve.ensures.items in
    subst (λ (worlds : List Ran). AllZip IsEndOf (c.loop-pipe.yielded ++ c.in-Some.pipe ∷ []) worlds) (sym pushed)
    (zip_more IsEndOf c.loop-pipe.yielded c.loop-pipe.worlds.items c.in-Some.pipe world c.loop-pipe.invariant c.in_ok-ended.ensures)

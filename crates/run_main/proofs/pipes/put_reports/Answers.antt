use Rattle.std.proofs.Common.{rules, ◌≡◌, ◌+◌, ◌<◌, List, [], ◌∷◌, ◌++◌, length, take, length-take, sym, ap, ◌∙◌, subst, arith}
use Rattle.std.proofs.lemmas.List.{take_more}
use Rattle.far_world.specs.Reached.{Ran}
use Rattle.run_main.proofs.Piping.{world_reported}
use Rattle.run_main.specs.PipeWorlds.{HasReports}
use Rattle.run_main.proofs.pipes.put_reports.Goals as goal

pub loop-pipe-preserved : goal.loop-pipe-preserved
loop-pipe-preserved c =
    let worlds : List Ran = c.args.worlds.now in
    let i = c.loop-pipe.pipe in
    let w : Ran = c.index-worlds-pipe.result in
    let lt : i < length worlds = search rules in
    let more : take (i + 1) worlds ≡ take i worlds ++ w ∷ [] = take_more worlds i w lt ∙ ap (λ (x : Ran). take i worlds ++ x ∷ []) (sym c.index-worlds-pipe.is) in
    let count : length (take i worlds) ≡ i = omega (arith, length-take i worlds) in
    subst (λ (front : List Ran). HasReports front c.args.out.now.items c.put_report.new.out.items) (sym more)
    (world_reported (take i worlds) w i c.args.out.now.items c.loop-pipe.out.items c.put_report.new.out.items count c.loop-pipe.invariant c.in_ok-put_report.ensures)

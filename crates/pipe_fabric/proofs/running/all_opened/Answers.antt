use Rattle.std.proofs.Common.{ℕ, List, [], ◌∷◌, ◌++◌, map, sym, ap, ◌∙◌, arith}
use Rattle.std.proofs.lemmas.List.FromFn.{map-range_with_len_more}
use Rattle.std.specs.List.{range_with_len}
use Rattle.far_base.specs.PlanView.{PlanView}
use Rattle.pipe_fabric.specs.Parts.{part_of}
use Rattle.pipe_fabric.proofs.running.all_opened.Goals as goal

pub loop-pipe-preserved : goal.loop-pipe-preserved
loop-pipe-preserved c =
    let part : ℕ → PlanView = λ (pipe : ℕ). part_of c.args.plan.now pipe c.args.pipes in
    let front : List PlanView = map part (range_with_len 0 c.loop-pipe.pipe) in
    c.push_reserved.ensures.items
    ∙ ap (λ (all : List PlanView). all ++ c.in_ok-opened.field-0 ∷ []) (c.reserve.ensures.items ∙ c.loop-pipe.invariant)
    ∙ ap (λ (last : PlanView). front ++ last ∷ []) c.in_ok-opened.ensures
    ∙ sym (map-range_with_len_more part 0 c.loop-pipe.pipe c.loop-pipe.pipe (omega arith))

use Rattle.std.proofs.Common.{rules, ◌≡◌, ℕ, List, true, sym, ap, ◌∙◌, subst}
use Rattle.crossbeam_utils.specs.Register.{Turns}
use Rattle.crossbeam_utils.specs.Seq.{cell_view}
use Rattle.far_fabric.proofs.Moves.{stores}
use Rattle.far_fabric.specs.Known.{AtMost, PassView}
use Rattle.far_fabric.specs.Rule.{IsKept, Stores}
use Rattle.far_fabric.specs.declared.view.View.{View}
use Rattle.far_fabric.proofs.board.Board.publish.Goals as goal

pub swap_as-requires : goal.swap_as-requires
swap_as-requires g c =
    let view : (cell_view c.pass.inside.pass) ≡ c.args.pass.now.view = ap (λ (p : PassView). p.view) c.pass.view_is in
    let is : (cell_view c.pass.inside.pass).publishes ≡ true = ap (λ (v : View). v.publishes) view ∙ c.requires.publisher in
    let up : AtMost (cell_view c.pass.inside.pass).published c.args.figures = subst (λ (v : View). AtMost v.published c.args.figures) (sym view) c.requires.rising in (
      search rules,
      (
        search rules,
        (
          ap (λ (p : PassView). p.board) c.pass.view_is ∙ c.requires.board ∙ sym c.self.view_is,
          subst (λ (words : List ℕ). Turns IsKept c.pass.inside.pass.id (cell_view c.pass.inside.pass) (λ _. words) Stores) (sym c.words_of.ensures.words)
              (stores c.pass.inside.pass.id (cell_view c.pass.inside.pass) c.args.figures is up c.words_of.ensures.small),
        ),
      ),
    )

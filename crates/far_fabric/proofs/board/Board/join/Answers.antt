use Rattle.std.proofs.Common.{rules, sym, ap, ◌∙◌}
use Rattle.far_fabric.proofs.Moves.{cuts_off, loads, takes_in}
use Rattle.far_fabric.specs.Known.{PassView}
use Rattle.far_fabric.proofs.board.Board.join.Goals as goal

pub split_pass-cut-requires : goal.split_pass-cut-requires
split_pass-cut-requires g c = (search rules, (search rules, (ap (λ (p : PassView). p.board) c.other.view_is ∙ c.requires.other_board ∙ sym c.self.view_is, cuts_off _ _)))

pub join_pass-requires : goal.join_pass-requires
join_pass-requires g c =
    let mine = ap (λ (p : PassView). p.board) c.pass.view_is ∙ c.requires.board in
    let theirs = ap (λ (p : PassView). p.board) c.other.view_is ∙ c.requires.other_board in
    (search rules, (search rules, ((mine ∙ sym c.self.view_is, c.split_pass-cut.ensures.given.0 ∙ theirs ∙ sym mine, c.split_pass-cut.ensures.given.2), takes_in _ _ _ _)))

pub load_as-requires : goal.load_as-requires
load_as-requires g c =
    let mine = ap (λ (p : PassView). p.board) c.pass.view_is ∙ c.requires.board in
    (search rules, (search rules, (c.join_pass.ensures.0.0 ∙ mine ∙ sym c.self.view_is, loads _ _)))

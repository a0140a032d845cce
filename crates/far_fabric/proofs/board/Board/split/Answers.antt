use Rattle.std.proofs.Common.{rules, sym, ap, ◌∙◌}
use Rattle.far_fabric.proofs.Moves.{copies}
use Rattle.far_fabric.specs.Known.{PassView}
use Rattle.far_fabric.proofs.board.Board.split.Goals as goal

pub split_pass-requires : goal.split_pass-requires
split_pass-requires g c = (search rules, (search rules, (ap (λ (p : PassView). p.board) c.pass.view_is ∙ c.requires.board ∙ sym c.self.view_is, copies _ _)))

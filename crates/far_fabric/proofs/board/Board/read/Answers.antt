use Rattle.std.proofs.Common.{rules, sym, ap, ◌∙◌}
use Rattle.far_fabric.proofs.Moves.{loads}
use Rattle.far_fabric.specs.Known.{PassView}
use Rattle.far_fabric.proofs.board.Board.read.Goals as goal

pub load_as-words-requires : goal.load_as-words-requires
load_as-words-requires g c = (search rules, (search rules, (ap (λ (p : PassView). p.board) c.pass.view_is ∙ c.requires.board ∙ sym c.self.view_is, loads _ _)))

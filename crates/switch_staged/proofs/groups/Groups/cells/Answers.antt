use Rattle.std.proofs.Common.{rules, arith, length, ◌∙◌, ◌≡◌, ap}
use Rattle.std.proofs.lemmas.List.{length-set}
use Rattle.switch_staged.specs.Rows.{row}
use Rattle.switch_staged.specs.Together.{registers_of}
use Rattle.switch_staged.proofs.FrontLaws.{row_step, row_done}
use Rattle.switch_staged.proofs.groups.Groups.cells.Goals as goal

pub loop-k-preserved : goal.loop-k-preserved
loop-k-preserved c = record {
  cells = row_step c.args.slot c.loop-k.k (registers_of c.args.self.now).arrays c.loop-k.cells c.cell.result
      (omega (arith, c.loop-k-test.true, c.requires.one.fits.count)) (omega (arith, c.loop-k.invariant.whole, c.loop-k-test.true)) c.loop-k.invariant.cells c.cell.ensures;
  whole = length-set _ _ _ ∙ c.loop-k.invariant.whole;
}

pub returns : goal.returns
returns c = row_done c.args.slot c.loop-k.k (registers_of c.args.self.now).arrays c.loop-k.cells (omega (arith, c.requires.one.fits.count, c.loop-k-test.false)) (omega (arith, c.loop-k.invariant.whole, c.loop-k-test.false)) c.loop-k.invariant.cells

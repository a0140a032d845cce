use Rattle.std.proofs.Common.{rules, subst, ◌∙◌}
use Rattle.kept_image.proofs.ReadingLaws.{written_reads}
use Rattle.kept_image.specs.Meaning.{AreWhole}
use Rattle.kept_image.proofs.printer.write.Goals as goal

pub returns-clause-reads : goal.returns-clause-reads
returns-clause-reads c = λ told. written_reads c.args.image.now c.put_line-2.new.out.items (search rules) (subst AreWhole (c.deref.ensures.value ∙ (search rules)) c.in_ok-put_items.ensures.whole) told

use Rattle.std.proofs.Common.{◌≡◌, ◌+◌, length, ap, ◌∙◌, arith, rules, length-append}
use Rattle.std.specs.Prelude.{codes}
use Rattle.far_text.specs.declared.lines.Lines.{Lines}
use Rattle.kept_image.proofs.ReadingLaws.{front_more, missing_line, more_behind, blamed_line, other_word, same_word}
use Rattle.kept_image.proofs.reader.read_text.Goals as goal

pub loop-line-preserved : goal.loop-line-preserved
loop-line-preserved c =
    let t = c.in_ok-take_line.ensures.taken in
    let i = c.loop-line.invariant in
    let longer : length c.take_line.new.self.items.items ≡ length c.loop-line.reader.items.items + 1 = ap length t.items ∙ length-append c.loop-line.reader.items.items _ in
    record {
      front = front_more c.args.text.now c.in-Some.version c.loop-line.reader.items.items c.take_line.new.self.items.items c.loop-line.lines.rest.now c.in-Some-next_line.line.now c.next_line.new.self.rest.now t.item i.front c.in-Some-next_line.ensures.line t.fits t.spelled t.items t.indexed.agree;
      indexed = t.indexed;
      count = omega (arith, longer, i.count, c.in-Some-next_line.ensures.count);
      within = omega (arith, i.within, c.in-Some-next_line.ensures.count, c.in-Some-next_line.ensures.shorter);
    }

pub returns-in_err-take_line-clause-fault : goal.returns-in_err-take_line-clause-fault
returns-in_err-take_line-clause-fault c =
    let i = c.loop-line.invariant in
    let n : c.next_line.new.self.read ≡ length c.loop-line.reader.items.items + 2 = omega (arith, i.count, c.in-Some-next_line.ensures.count) in
    let no_end = other_word c.in-Some-next_line.line.now (codes "end") c.is_word.result c.is_word.ensures c.if-not-is_word.true in
    search (rules, blamed_line c.args.text.now c.in-Some.version c.loop-line.reader.items.items c.loop-line.lines.rest.now c.in-Some-next_line.line.now c.next_line.new.self.rest.now c.next_line.new.self.read c.in_err-take_line.field-0.0 i.front c.in-Some-next_line.ensures.line no_end n c.in_err-take_line.ensures.fault)

pub returns-else-is_empty-clause-fault : goal.returns-else-is_empty-clause-fault
returns-else-is_empty-clause-fault c =
    let i = c.loop-line.invariant in
    let n : c.next_line.new.self.read ≡ length c.loop-line.reader.items.items + 2 = omega (arith, i.count, c.in-Some-next_line.ensures.count) in
    let is = same_word c.in-Some-next_line.line.now (codes "end") c.is_word.result c.is_word.ensures c.if-not-is_word.false in
    more_behind c.args.text.now c.in-Some.version c.loop-line.reader.items.items c.loop-line.lines.rest.now c.in-Some-next_line.line.now c.next_line.new.self.rest.now c.next_line.new.self.read i.front c.in-Some-next_line.ensures.line is (search rules) n

pub returns-clause-fault : goal.returns-clause-fault
returns-clause-fault c =
    let i = c.loop-line.invariant in
    missing_line c.args.text.now c.in-Some.version c.loop-line.reader.items.items c.loop-line.lines.rest.now c.next_line.new.self.read i.front c.in_default-next_line.ensures.line (ap (λ (l : Lines). l.read) c.in_default-next_line.ensures.kept ∙ i.count)

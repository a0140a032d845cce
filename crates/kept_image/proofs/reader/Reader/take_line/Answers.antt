use Rattle.std.proofs.Common.{ℕ, subst}
use Rattle.kept_image.specs.Meaning.{IsItem}
use Rattle.kept_image.proofs.reader.Reader.take_line.Goals as goal

pub returns-clause-taken : goal.returns-clause-taken
returns-clause-taken c = record {
  item = c.in-Some.item;
  fits = subst (λ (limit : ℕ). IsItem limit c.in-Some.item) c.body_limit.ensures c.in-Some.ensures.found.1;
  spelled = c.in-Some.ensures.found.0;
  items = c.in_ok-push.ensures.items;
  indexed = c.in_ok-push.ensures.indexed (c.contradicts.ensures.no c.if-contradicts.false);
}

use Rattle.std.proofs.Common.{◌≡◌, ◌++◌, drop, take}
use Rattle.kept_image.specs.ImageText.{item_lines}
use Rattle.kept_image.specs.Meaning.{AreWhole}
use Rattle.kept_image.proofs.printer.put_items.Given as goal

-- if the others are whole, all are
abbrev pub invariant-loop-item : goal.invariant-loop-item
invariant-loop-item l = record {
  text : l.out.items ≡ l.fn.out.items ++ item_lines (take l.item-index l.items);
  whole : AreWhole (drop l.item-index l.items) → AreWhole l.items;
}

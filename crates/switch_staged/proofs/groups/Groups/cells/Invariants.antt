use Rattle.std.proofs.Common.{◌≡◌, length, take}
use Rattle.switch_staged.specs.Rows.{row}
use Rattle.switch_staged.specs.Together.{registers_of}
use Rattle.switch_staged.proofs.groups.Groups.cells.Given as goal

-- the first cells are those of the slot
abbrev pub invariant-loop-k : goal.invariant-loop-k
invariant-loop-k l = record {
  cells : take l.k l.cells ≡ take l.k (row l.slot (registers_of l.self).arrays);
  whole : length l.cells ≡ 32;
}

use Rattle.std.proofs.Common.{◌≡◌, rules}
use Rattle.workload.specs.Spelling.{spelling}
use Rattle.workload.proofs.Chained.{all_parts}
use Rattle.workload.proofs.PrintedLaws.{text_reads}
use Rattle.workload.proofs.Sizes.{text_short}
use Rattle.workload.proofs.printer.print.Goals as goal

pub returns : goal.returns
returns c =
    let text : c.put_random.new.out.items ≡ spelling c.args.load.now = all_parts c.args.load.now _ _ c.deref.result.now c.deref-2.result.now _ _ _ _ _ _ _ (search rules) (search rules) (search rules) (search rules) (search rules) c.new-out.ensures.items c.in_ok-put_head.ensures c.in_ok-put_ops.ensures.text c.in_ok-put_orders.ensures.text c.in_ok-put_picks.ensures c.in_ok-put_random.ensures in
    let reads = text_reads c.put_random.new.out.items c.args.load.now _ c.deref.result.now text c.requires (search rules) (search rules) c.in_ok-put_ops.ensures.whole c.in_ok-put_orders.ensures.whole in
    record {
      text = text;
      reads = reads;
      short = text_short c.put_random.new.out.items c.args.load.now reads;
    }

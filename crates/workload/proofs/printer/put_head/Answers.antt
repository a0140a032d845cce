use Rattle.std.specs.Prelude.{codes}
use Rattle.workload.specs.Spelling.{number_line}
use Rattle.workload.proofs.Chained.{ok_then, five_texts}
use Rattle.workload.proofs.printer.put_head.Goals as goal

pub returns : goal.returns
returns c =
    let e1 = rw c.from.ensures at c.in_ok-put_number_line.ensures in
    let e2 = rw c.from-2.ensures at c.in_ok-put_number_line-2.ensures in
    let e3 = rw c.from-3.ensures at c.in_ok-put_number_line-3.ensures in
    let e4 = rw c.from-4.ensures at c.put_number_line-4.ensures in
    ok_then c.put_number_line-4.result _ _ (five_texts c.args.out.now.items (codes "far 1\n") (number_line (codes "clients ") c.args.config.now.clients) (number_line (codes "servers ") c.args.config.now.servers) (number_line (codes "slots ") c.args.config.now.slots) (number_line (codes "hot ") c.args.config.now.hot) _ _ _ _ _ c.in_ok-put_text.ensures.text e1 e2 e3) e4

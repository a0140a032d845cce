use Rattle.std.proofs.Common.{◌≡◌, ◌<◌, length, subst, rules}
use Rattle.wire_bag.proofs.Finding.{counted_taken}
use Rattle.wire_bag.specs.Addressees.{place_of}
use Rattle.wire_bag.proofs.addressees.count_less.Goals as goal

pub returns : goal.returns
returns c = λ messages i m h at e.
    let within : place_of c.args.who < 98 = subst (λ n. n < 98) c.place_of.ensures.value c.place_of.ensures.bound in
    let size : length c.args.counts.now ≡ 98 = search rules in
    rw c.place_of.ensures.value (counted_taken c.args.counts.now messages i m c.args.who size within h at e)

use Rattle.std.proofs.Common.{◌≡◌, None, ap, sym, ◌∙◌, replicate, rules}
use Rattle.far_model.specs.Rounds.{no_telling, greatest_top}
use Rattle.recovery.specs.Counts.{still_telling, still_topping}
use Rattle.recovery.proofs.Counted.{all_telling, all_topping, no_top}
use Rattle.recovery.proofs.round.Round.new.Goals as goal

pub invariant_of-result : goal.invariant_of-result
invariant_of-result c =
    let told : c.in_ok-vec.field-0.items ≡ replicate c.args.clients no_telling = search rules in
    let tops : c.in_ok-vec-2.field-0.items ≡ replicate c.args.servers None = search rules in
    record {
      clients = sym (ap still_telling told ∙ all_telling c.args.clients);
      servers = sym (ap still_topping tops ∙ all_topping c.args.servers);
      top = sym (ap greatest_top tops ∙ no_top c.args.servers);
    }

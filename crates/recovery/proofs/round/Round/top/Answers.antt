use Rattle.std.proofs.Common.{◌≡◌, ◌<◌, false, ℕ, List, arith, ap, ◌∙◌, length, get_or}
use Rattle.std.specs.Prelude.{is_some, Option, None}
use Rattle.far_model.specs.Rounds.{Round}
use Rattle.recovery.proofs.Counted.{topping_set, greatest_set, waits_in}
use Rattle.recovery.proofs.round.Round.top.Goals as goal

pub overflow_sub-self : goal.overflow_sub-self
overflow_sub-self c =
    let tops : c.self.inside.tops.items ≡ c.args.self.now.tops = ap (λ (r : Round). r.tops) c.self.view_is in
    let waits = waits_in c.args.self.now c.args.server c.requires in
    let within : c.args.server < length c.self.inside.tops.items = omega (arith, ap length tops, waits.0) in
    let none : is_some (get_or c.self.inside.tops.items c.args.server None) ≡ false = ap (λ (os : List (Option ℕ)). is_some (get_or os c.args.server None)) tops ∙ waits.1 in
    omega (arith, c.self.invariant.servers, topping_set c.self.inside.tops.items c.args.server c.args.num within none)

pub invariant_of-self : goal.invariant_of-self
invariant_of-self c =
    let tops : c.self.inside.tops.items ≡ c.args.self.now.tops = ap (λ (r : Round). r.tops) c.self.view_is in
    let waits = waits_in c.args.self.now c.args.server c.requires in
    let within : c.args.server < length c.self.inside.tops.items = omega (arith, ap length tops, waits.0) in
    let none : is_some (get_or c.self.inside.tops.items c.args.server None) ≡ false = ap (λ (os : List (Option ℕ)). is_some (get_or os c.args.server None)) tops ∙ waits.1 in
    record {
      clients = c.self.invariant.clients;
      servers = omega (arith, c.self.invariant.servers, topping_set c.self.inside.tops.items c.args.server c.args.num within none);
      top = omega (arith, c.self.invariant.top, c.max-self-inside.ensures, greatest_set c.self.inside.tops.items c.args.server c.args.num within none);
    }

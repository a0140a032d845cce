use Rattle.std.proofs.Common.{◌≡◌, ◌<◌, false, List, arith, ap, sym, ◌∙◌, length, get_or}
use Rattle.far_model.specs.Rounds.{Round, Telling, no_telling, has_told}
use Rattle.recovery.proofs.Counted.{telling_set_over, telling_set_on, tells_in}
use Rattle.recovery.proofs.round.Round.told.Goals as goal
use Rattle.recovery.proofs.round.Round.told.Goals.{then-is_over, else-is_over}

pub overflow_sub-self : goal.overflow_sub-self
overflow_sub-self c =
    let told : c.self.inside.tellings.items ≡ c.args.self.now.told = ap (λ (r : Round). r.told) c.self.view_is in
    let waits = tells_in c.args.self.now c.args.caller c.requires in
    let within : c.args.caller < length c.self.inside.tellings.items = omega (arith, ap length told, waits.0) in
    let on : has_told (get_or c.self.inside.tellings.items c.args.caller no_telling) ≡ false = ap (λ (ts : List Telling). has_told (get_or ts c.args.caller no_telling)) told ∙ waits.1 in
    omega (arith, c.self.invariant.clients, telling_set_over c.self.inside.tellings.items c.args.caller c.tell.new.self within on (sym c.if-is_over.ensures))

pub invariant_of-self : goal.invariant_of-self
invariant_of-self c =
    let told : c.self.inside.tellings.items ≡ c.args.self.now.told = ap (λ (r : Round). r.told) c.self.view_is in
    let waits = tells_in c.args.self.now c.args.caller c.requires in
    let within : c.args.caller < length c.self.inside.tellings.items = omega (arith, ap length told, waits.0) in
    let on : has_told (get_or c.self.inside.tellings.items c.args.caller no_telling) ≡ false = ap (λ (ts : List Telling). has_told (get_or ts c.args.caller no_telling)) told ∙ waits.1 in
    elim c.if-is_over.branch [
      | then-is_over w ↦ rw w.self-inside-is (record {
        clients = omega (arith, c.self.invariant.clients, telling_set_over c.self.inside.tellings.items c.args.caller c.tell.new.self within on (sym w.if-is_over.ensures));
        servers = c.self.invariant.servers;
        top = c.self.invariant.top;
      })
      | else-is_over w ↦ rw w.self-inside-is (record {
        clients = c.self.invariant.clients ∙ telling_set_on c.self.inside.tellings.items c.args.caller c.tell.new.self within on (sym w.if-is_over.ensures);
        servers = c.self.invariant.servers;
        top = c.self.invariant.top;
      })
    ]

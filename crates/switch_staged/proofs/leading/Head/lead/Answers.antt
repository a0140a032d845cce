use Rattle.std.proofs.Common.{◌≡◌, true, length, rules, arith, sym, ap, ◌∙◌, subst, refl, []}
use Rattle.far_base.specs.declared.plan.Config.{Config}
use Rattle.register_stages.specs.Arrays.{cells_of}
use Rattle.switch_staged.specs.Groups.{HeadView, head_left}
use Rattle.switch_staged.specs.Stages.{PlaceBelow, AdmitsWithin, gate_of, looked_up}
use Rattle.switch_staged.specs.Staged.{registers}
use Rattle.switch_staged.specs.Through.{after, before_bodies, token_led}
use Rattle.switch_staged.proofs.FrontLaws.{front_is, token_is}
use Rattle.switch_staged.proofs.StagedLaws.{place_in, headed_in, parted_in, reach_in, heads_length, taken_length, table_length, hots_length, admits_in, gate_is_set}
use Rattle.switch_staged.proofs.leading.Head.lead.Goals as goal

pub pass_table-requires : goal.pass_table-requires
pass_table-requires c = subst (λ f. f.live ≡ true → AdmitsWithin (length c.self.inside.lookup.bound) f.packet) (sym c.pass_gate.ensures.flight) (admits_in c.self.inside.config (gate_of (cells_of c.self.inside.gate)) c.args.packet.now _ c.self.invariant.bound_count)

pub pass_heads-requires-clause-cell : goal.pass_heads-requires-clause-cell
pass_heads-requires-clause-cell c = reach_in _ c.self.inside.config.slots _ (subst (λ f. PlaceBelow f.place c.self.inside.config.slots) (sym (c.pass_table.ensures.flight ∙ ap (looked_up c.self.inside.lookup.bound) c.pass_gate.ensures.flight)) (place_in c.self.inside.config c.self.inside.lookup.bound (gate_of (cells_of c.self.inside.gate)) c.args.packet.now c.self.invariant.bound_count)) c.self.invariant.heads_count

pub pass_taken-requires-clause-cell : goal.pass_taken-requires-clause-cell
pass_taken-requires-clause-cell c = reach_in _ c.self.inside.config.slots _ (subst (λ f. PlaceBelow f.place c.self.inside.config.slots) (sym c.pass_heads.ensures.flight) (headed_in (cells_of c.self.inside.heads) c.pass_table.new.flight c.self.inside.config.slots (subst (λ f. PlaceBelow f.place c.self.inside.config.slots) (sym (c.pass_table.ensures.flight ∙ ap (looked_up c.self.inside.lookup.bound) c.pass_gate.ensures.flight)) (place_in c.self.inside.config c.self.inside.lookup.bound (gate_of (cells_of c.self.inside.gate)) c.args.packet.now c.self.invariant.bound_count)))) c.self.invariant.taken_count

pub invariant_of-self : goal.invariant_of-self
invariant_of-self c = record {
  servers = c.self.invariant.servers;
  slots = c.self.invariant.slots;
  bound_count = ap length c.pass_table.ensures.table ∙ table_length c.self.inside.lookup.bound c.pass_gate.new.flight ∙ c.self.invariant.bound_count;
  heads_count = ap length c.pass_heads.ensures.heads ∙ heads_length _ _ _ ∙ c.self.invariant.heads_count;
  taken_count = ap length c.pass_taken.ensures.cells ∙ taken_length _ _ _ ∙ c.self.invariant.taken_count;
  one = c.pass_gate.ensures.one;
  hots = ap length c.pass_hot.ensures.cells ∙ hots_length c.self.inside.config (cells_of c.self.inside.hot) c.pass_taken.new.flight ∙ c.self.invariant.hots;
  gate_place = c.pass_gate.ensures.place;
  heads_place = c.pass_heads.ensures.place;
  taken_place = c.pass_taken.ensures.place;
  hot_place = c.pass_hot.ensures.place;
}

pub returns-clause-head : goal.returns-clause-head
unfolding head_left
returns-clause-head c =
    ap (λ r. record { config = c.self.inside.config; front = r })
    (front_is c.self.inside.config (registers c.self.inside.gate c.self.inside.lookup.bound c.self.inside.heads c.self.inside.taken c.self.inside.hot []) (registers c.pass_gate.new.gates c.pass_table.new.lookup.bound c.pass_heads.new.heads c.pass_taken.new.cells c.pass_hot.new.cells []) c.args.packet.now
    c.pass_gate.new.flight c.pass_table.new.flight c.pass_heads.new.flight c.pass_taken.new.flight c.pass_hot.new.flight
    (ap gate_of c.pass_gate.ensures.gate ∙ gate_is_set (cells_of c.self.inside.gate) _ c.self.invariant.one) c.pass_gate.ensures.flight c.pass_table.ensures.table c.pass_table.ensures.flight c.pass_heads.ensures.heads c.pass_heads.ensures.flight c.pass_taken.ensures.cells c.pass_taken.ensures.flight c.pass_hot.ensures.cells c.pass_hot.ensures.flight refl).front
    ∙ ap (λ (h : HeadView). record { config = h.config; front = after h.config h.front c.args.packet.now }) c.self.view_is

pub returns-clause-flight : goal.returns-clause-flight
returns-clause-flight c =
    (front_is c.self.inside.config (registers c.self.inside.gate c.self.inside.lookup.bound c.self.inside.heads c.self.inside.taken c.self.inside.hot []) (registers c.pass_gate.new.gates c.pass_table.new.lookup.bound c.pass_heads.new.heads c.pass_taken.new.cells c.pass_hot.new.cells []) c.args.packet.now
    c.pass_gate.new.flight c.pass_table.new.flight c.pass_heads.new.flight c.pass_taken.new.flight c.pass_hot.new.flight
    (ap gate_of c.pass_gate.ensures.gate ∙ gate_is_set (cells_of c.self.inside.gate) _ c.self.invariant.one) c.pass_gate.ensures.flight c.pass_table.ensures.table c.pass_table.ensures.flight c.pass_heads.ensures.heads c.pass_heads.ensures.flight c.pass_taken.ensures.cells c.pass_taken.ensures.flight c.pass_hot.ensures.cells c.pass_hot.ensures.flight refl).flight
    ∙ ap (λ (h : HeadView). before_bodies h.config h.front c.args.packet.now) c.self.view_is

pub returns-clause-token : goal.returns-clause-token
returns-clause-token c =
    token_is c.self.inside.config (registers c.self.inside.gate c.self.inside.lookup.bound c.self.inside.heads c.self.inside.taken c.self.inside.hot []) c.args.packet.now
    c.pass_gate.new.flight c.pass_table.new.flight c.pass_heads.new.flight c.pass_taken.new.flight c.pass_gate.new.token c.pass_heads.new.token c.pass_taken.new.token c.pass_hot.new.token
    c.pass_gate.ensures.flight c.pass_table.ensures.flight c.pass_heads.ensures.flight c.pass_taken.ensures.flight c.pass_gate.ensures.token c.pass_heads.ensures.token c.pass_taken.ensures.token c.pass_hot.ensures.token
    ∙ ap (λ (h : HeadView). token_led h.config h.front c.args.packet.now) c.self.view_is

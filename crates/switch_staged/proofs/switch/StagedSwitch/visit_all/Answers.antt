use Rattle.std.proofs.Common.{sym, ap, ◌∙◌, subst}
use Rattle.far_model.specs.Pass.{pass, Passed}
use Rattle.switch_core.specs.declared.switch.Emit.{Emit}
use Rattle.switch_staged.specs.Together.{switch_of, AreOfOne}
use Rattle.switch_staged.proofs.GroupLaws.{one_step, view_step, emit_step}
use Rattle.switch_staged.proofs.switch.StagedSwitch.visit_all.Goals as goal

pub invariant_of-self : goal.invariant_of-self
invariant_of-self c = subst AreOfOne (sym c.visit_all.ensures.groups) (one_step c.self.inside.groups c.args.packet.now c.self.invariant c.visit_all.ensures.short)

pub returns-clause-view : goal.returns-clause-view
returns-clause-view c =
    ap switch_of c.visit_all.ensures.groups
    ∙ view_step c.self.inside.groups c.args.packet.now c.self.invariant c.visit_all.ensures.short
    ∙ ap (λ v. (pass v c.args.packet.now).view) c.self.view_is

pub returns-clause-first : goal.returns-clause-first
returns-clause-first c =
    c.visit_all.ensures.first
    ∙ ap (λ (e : Emit). e.first) (emit_step c.self.inside.groups c.args.packet.now c.self.invariant c.visit_all.ensures.short)
    ∙ ap (λ v. (pass v c.args.packet.now).first) c.self.view_is

pub returns-clause-second : goal.returns-clause-second
returns-clause-second c =
    c.visit_all.ensures.second
    ∙ ap (λ (e : Emit). e.second) (emit_step c.self.inside.groups c.args.packet.now c.self.invariant c.visit_all.ensures.short)
    ∙ ap (λ v. (pass v c.args.packet.now).second) c.self.view_is

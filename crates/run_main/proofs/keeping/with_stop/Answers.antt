use Rattle.std.proofs.Common.{rules, sym, ap, ◌∙◌, subst}
use Rattle.workload.specs.Plain.{IsPlain}
use Rattle.workload.specs.WorkView.{WorkView}
use Rattle.run_main.specs.Images.{has_stop}
use Rattle.run_main.proofs.Stopping.{stopping_plain, stopping_stops}
use Rattle.run_main.proofs.keeping.with_stop.Goals as goal

pub returns-clause-load : goal.returns-clause-load
returns-clause-load c = search rules

pub returns-clause-plain : goal.returns-clause-plain
returns-clause-plain c = subst (λ (w : WorkView). IsPlain w) (sym (returns-clause-load c)) (stopping_plain c.args.load c.requires)

pub returns-clause-stops : goal.returns-clause-stops
returns-clause-stops c = ap (λ (w : WorkView). has_stop w.plan) (returns-clause-load c) ∙ stopping_stops c.args.load

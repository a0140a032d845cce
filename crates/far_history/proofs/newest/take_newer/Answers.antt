use Rattle.std.proofs.Common.{◌≤◌, ◌<◌, ℕ, List, subst, arith}
use Rattle.std.specs.Ordering.{nat_cmp}
use Rattle.std.specs.Cmp.Lexicographic.{slice_cmp}
use Rattle.std.specs.BTreeMap.{get}
use Rattle.far_history.specs.Newest.{number_to_pass}
use Rattle.far_history.proofs.NewestLaws.{newest_kept, newest_taken}
use Rattle.far_history.proofs.newest.take_newer.Goals as goal

pub returns-then-rec-number_to_pass-clause-newest : goal.returns-then-rec-number_to_pass-clause-newest
returns-then-rec-number_to_pass-clause-newest c = λ records key h.
    let low : c.args.rec.now.num ≤ number_to_pass (get (slice_cmp nat_cmp) c.args.newest.now c.args.rec.now.key) = omega (arith, c.number_to_pass.ensures, c.if-rec-number_to_pass.true) in
    newest_kept records c.args.rec.now key (get (slice_cmp nat_cmp) c.args.newest.now key) (λ e. subst (λ (q : List ℕ). c.args.rec.now.num ≤ number_to_pass (get (slice_cmp nat_cmp) c.args.newest.now q)) e low) h

pub returns-in-Ok-clause-newest : goal.returns-in-Ok-clause-newest
returns-in-Ok-clause-newest c = λ records key h.
    let more : number_to_pass (get (slice_cmp nat_cmp) c.args.newest.now c.args.rec.now.key) < c.args.rec.now.num = omega (arith, c.number_to_pass.ensures, c.if-rec-number_to_pass.false) in
    newest_taken records c.args.rec.now key (get (slice_cmp nat_cmp) c.args.newest.now) (get (slice_cmp nat_cmp) c.insert.new.self) more c.in-Ok.ensures.updates.0 h

use Rattle.std.proofs.Common.{◌≡◌, ℕ, suc, ◌-◌, ◌<◌, ◌≤◌, length, get_or, take, drop, drop-cons, List, ◌∷◌, ◌++◌, arith, sym, ap, subst, ◌∙◌}
use Rattle.far_history.specs.declared.stored.Stored.{Stored}
use Rattle.far_history.specs.Stored.{line_in, lines_in}
use Rattle.far_history.specs.declared.told.Told.{Told}
use Rattle.far_history.specs.Told.{op_bound_of, unheard, noted, IsRow}
use Rattle.far_history.proofs.Rows.{noted_rows, length_noted, written_back}
use Rattle.far_history.proofs.told.gather.Goals as goal

pub loop-i-preserved : goal.loop-i-preserved
loop-i-preserved c =
    let lines : List Stored = c.args.lines.now in
    let k : ℕ = c.loop-i.i - 1 in
    let old : List Told = c.loop-i.table.items in
    let new : List Told = c.note.new.table in
    let l : Stored = c.index-lines-i.result in
    let e : new ≡ noted l old = c.note.ensures ∙ ap (noted l) c.deref_mut.ensures.value in
    let n : length new ≡ length old = ap length e ∙ length_noted l old in
    let w : take c.loop-i.table.len (new ++ drop (length new) old) ≡ new =
    written_back c.loop-i.table.len old new n (omega (arith, c.deref_mut.ensures.len, ap length c.deref_mut.ensures.value)) in
    let here : k < length lines = omega (arith, c.loop-i.invariant.within, c.loop-i-test.true) in
    let up : suc k ≡ c.loop-i.i = omega (arith, c.loop-i-test.true) in
    let d : drop k lines ≡ l ∷ drop c.loop-i.i lines =
    drop-cons lines k l here ∙ (ap (λ (x : Stored). x ∷ drop (suc k) lines) (sym c.index-lines-i.is) ∙ ap (λ (m : ℕ). l ∷ drop m lines) up) in
    let b : op_bound_of l.bare ≤ length old =
    subst (λ (x : Stored). op_bound_of x.bare ≤ length old) (sym c.index-lines-i.is) (c.loop-i.invariant.above k l here) in
    rw w (record {
      within = omega (arith, here);
      above = λ j x h. omega (arith, n, c.loop-i.invariant.above j x h);
      bound = omega (arith, n, c.loop-i.invariant.bound);
      rows = λ bytes op. subst (λ (xs : List Stored). IsRow bytes (lines_in bytes xs) op (get_or new op unheard)) (sym d)
          (subst (λ (t : List Told). IsRow bytes (line_in bytes l ∷ lines_in bytes (drop c.loop-i.i lines)) op (get_or t op unheard)) (sym e) (noted_rows bytes l (lines_in bytes (drop c.loop-i.i lines)) old b (c.loop-i.invariant.rows bytes) op));
    })

pub returns-clause-rows : goal.returns-clause-rows
returns-clause-rows c =
    let z : c.loop-i.i ≡ 0 = omega (arith, c.loop-i-test.false) in
    record { rows = λ bytes op. subst (λ (m : ℕ). IsRow bytes (lines_in bytes (drop m c.args.lines.now)) op (get_or c.loop-i.table.items op unheard)) z (c.loop-i.invariant.rows bytes op) }

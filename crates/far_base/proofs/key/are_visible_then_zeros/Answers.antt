use Rattle.std.proofs.Common.{◌≡◌, ◌∙◌, ◌-◌, ◌&&◌, drop, get_or, sym, refl, arith, subst}
use Rattle.std.proofs.lemmas.List.{get_or_past, drop_all}
use Rattle.far_base.specs.Key.{fits_before, visible_then_zeros}
use Rattle.far_base.proofs.Keys.{fits_next}
use Rattle.far_base.proofs.key.are_visible_then_zeros.Goals as goal

pub loop-at-init : goal.loop-at-init
loop-at-init c = record { within = omega (arith); next = sym (get_or_past c.args.bytes.now 16 0 (let n = c.told-bytes in omega (arith, n))); fit = rw (drop_all 16 c.args.bytes.now (let n = c.told-bytes in omega (arith, n))) refl }

pub loop-at-preserved-then-fits : goal.loop-at-preserved-then-fits
loop-at-preserved-then-fits c =
    let step : (fits_before (get_or c.args.bytes.now (c.loop-at.at - 1) 0) c.loop-at.next && c.loop-at.fit) ≡ visible_then_zeros (drop (c.loop-at.at - 1) c.args.bytes.now) = fits_next c.args.bytes.now c.loop-at.at c.loop-at.next c.loop-at.fit c.loop-at-test.true (let w = c.loop-at.invariant.within in let n = c.told-bytes in omega (arith, w, n)) c.loop-at.invariant.next c.loop-at.invariant.fit in
    record {
      within = let w = c.loop-at.invariant.within in omega (arith, w);
      next = refl;
      fit = subst (λ b. (b && c.loop-at.fit) ≡ visible_then_zeros (drop (c.loop-at.at - 1) c.args.bytes.now)) (sym c.fits.ensures ∙ c.if-fits.true) step;
    }

pub loop-at-preserved : goal.loop-at-preserved
loop-at-preserved c =
    let step : (fits_before (get_or c.args.bytes.now (c.loop-at.at - 1) 0) c.loop-at.next && c.loop-at.fit) ≡ visible_then_zeros (drop (c.loop-at.at - 1) c.args.bytes.now) = fits_next c.args.bytes.now c.loop-at.at c.loop-at.next c.loop-at.fit c.loop-at-test.true (let w = c.loop-at.invariant.within in let n = c.told-bytes in omega (arith, w, n)) c.loop-at.invariant.next c.loop-at.invariant.fit in
    record {
      within = let w = c.loop-at.invariant.within in omega (arith, w);
      next = refl;
      fit = c.if-fits.false ∙ subst (λ b. (b && c.loop-at.fit) ≡ visible_then_zeros (drop (c.loop-at.at - 1) c.args.bytes.now)) (sym c.fits.ensures ∙ c.if-fits.false) step;
    }

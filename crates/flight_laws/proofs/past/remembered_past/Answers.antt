use Rattle.std.proofs.Common.{refl}
use Rattle.far_invariants.specs.Past.{new_starts, new_drawn, new_recoveries}
use Rattle.flight_laws.proofs.Remembered.{remembered}
use Rattle.flight_laws.proofs.past.remembered_past.Goals as goal

pub returns : goal.returns
returns c = record {
  starts = λ plan events x h. remembered new_starts (λ p. p.starts) (λ s p e. refl) plan events x refl h;
  drawn = λ plan events x h. remembered new_drawn (λ p. p.drawn) (λ s p e. refl) plan events x refl h;
  recoveries = λ plan events x h. remembered new_recoveries (λ p. p.recoveries) (λ s p e. refl) plan events x refl h;
}

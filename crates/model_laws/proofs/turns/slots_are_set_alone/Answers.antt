use Rattle.std.proofs.Common.{refl}
use Rattle.std.proofs.lemmas.List.{get_or-set_other}
use Rattle.far_model.specs.View.{empty_slot}
use Rattle.model_laws.proofs.turns.slots_are_set_alone.Goals as goal

pub returns : goal.returns
returns c v i slot = record {
  slots = λ other apart. get_or-set_other v.slots i other slot empty_slot apart;
  config = refl;
  bound = refl;
  taken = refl;
  shown = refl;
  hot = refl;
  counter = refl;
  epoch = refl;
  snap = refl;
  base = refl;
}

use Rattle.std.proofs.Common.{◌≡◌, ◌<◌, ◌≤◌, Some, List, length, take, refl, sym, ap, subst, arith}
use Rattle.std.proofs.lemmas.List.{length-take, length-map}
use Rattle.std.specs.Prelude.{slice_get}
use Rattle.wire_bag.proofs.Finding.{place_within, some_counted}
use Rattle.wire_bag.proofs.Turning.{taken}
use Rattle.wire_bag.specs.Addressees.{AreCounted}
use Rattle.wire_bag.specs.BagView.{BagView, Message, messages_of}
use Rattle.wire_bag.proofs.bag.Bag.remove.Goals as goal

pub count_less-requires : goal.count_less-requires
count_less-requires c =
    let there : slice_get (messages_of c.self.inside.count c.self.inside.boxes.items) c.args.i ≡ Some c.at.result.now = subst (λ (v : BagView). slice_get v.messages c.args.i ≡ Some c.at.result.now) (sym c.self.view_is) c.at.ensures in
    some_counted c.self.inside.counts (messages_of c.self.inside.count c.self.inside.boxes.items) c.args.i c.at.result.now c.at.result.now.1 (place_within c.at.result.now.1) c.self.invariant.1 there refl

pub invariant_of-self : goal.invariant_of-self
invariant_of-self c =
    let below : c.args.i < c.self.inside.count =
    omega (arith, c.requires, ap (λ v. length v.messages) c.self.view_is, length-map (take c.self.inside.count c.self.inside.boxes.items) (λ b. b.value), length-take c.self.inside.count c.self.inside.boxes.items) in
    let there : slice_get (messages_of c.self.inside.count c.self.inside.boxes.items) c.args.i ≡ Some c.at.result.now = subst (λ (v : BagView). slice_get v.messages c.args.i ≡ Some c.at.result.now) (sym c.self.view_is) c.at.ensures in
    let counted = c.count_less.ensures (messages_of c.self.inside.count c.self.inside.boxes.items) c.args.i c.at.result.now c.self.invariant.1 there refl in (
      omega (arith, c.self.invariant.0),
      subst (λ (ms : List Message). AreCounted c.count_less.new.counts ms)
          (sym (taken (λ b. b.value) c.self.inside.boxes.items c.deref_mut.result.now c.rotate_left.new.self c.args.i c.self.inside.count c.self.inside.boxes.len c.deref_mut.ensures.value c.deref_mut.ensures.len below c.self.invariant.0 c.rotate_left.ensures.after)) counted,
    )

pub returns-clause-messages : goal.returns-clause-messages
returns-clause-messages c =
    let below : c.args.i < c.self.inside.count =
    omega (arith, c.requires, ap (λ v. length v.messages) c.self.view_is, length-map (take c.self.inside.count c.self.inside.boxes.items) (λ b. b.value), length-take c.self.inside.count c.self.inside.boxes.items) in
    rw (← c.self.view_is) (taken (λ b. b.value) c.self.inside.boxes.items c.deref_mut.result.now c.rotate_left.new.self c.args.i c.self.inside.count c.self.inside.boxes.len c.deref_mut.ensures.value c.deref_mut.ensures.len below c.self.invariant.0 c.rotate_left.ensures.after)

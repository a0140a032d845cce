use Rattle.std.proofs.Common.{◌≡◌, ◌+◌, false, List, sym, ap, subst, ◌∙◌, arith}
use Rattle.retry_link.specs.Sender.{IsWindow, Numbered, is_full_from}
use Rattle.retry_link.proofs.WindowLaws.{window_offer, window_room}
use Rattle.retry_link.proofs.sender.LinkSender.offer.Goals as goal

pub push_reserved-requires : goal.push_reserved-requires
push_reserved-requires c =
    let room : is_full_from c.self.inside.next c.self.inside.unacked.items ≡ false = ap (is_full_from c.self.inside.next) (sym c.deref.ensures.value) ∙ (sym c.is_full.ensures ∙ c.if-is_full.false) in
    omega (arith, window_room c.self.inside.next c.self.inside.unacked.items room c.self.invariant.0, c.self.inside.unacked.ok, c.self.invariant.1)

pub invariant_of-self : goal.invariant_of-self
invariant_of-self c =
    let room : is_full_from c.self.inside.next c.self.inside.unacked.items ≡ false = ap (is_full_from c.self.inside.next) (sym c.deref.ensures.value) ∙ (sym c.is_full.ensures ∙ c.if-is_full.false) in
    (subst (λ (ms : List Numbered). IsWindow (c.self.inside.next + 1) ms) (sym c.push_reserved.ensures.items) (window_offer c.self.inside.next c.self.inside.unacked.items c.args.wire room c.requires.message c.self.invariant.0), omega (arith, c.push_reserved.ensures.capacity, c.self.invariant.1))

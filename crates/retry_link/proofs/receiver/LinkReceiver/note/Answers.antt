use Rattle.std.proofs.Common.{Bool, List, true, sym, ◌∙◌, subst, length-set}
use Rattle.retry_link.specs.Receiver.{IsOpen}
use Rattle.retry_link.proofs.SeenLaws.{open_turned}
use Rattle.retry_link.proofs.receiver.LinkReceiver.note.Goals as goal

pub invariant_of-self : goal.invariant_of-self
invariant_of-self c =
    subst (λ (marks : List Bool). IsOpen marks) (sym c.mark.ensures.marks) (open_turned _ (length-set c.self.inside.marks _ true ∙ c.self.invariant.whole))

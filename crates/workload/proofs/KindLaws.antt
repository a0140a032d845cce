-- The kinds of packets have one word each.
use Rattle.std.proofs.Common.{◌≡◌, ℕ, true, false, cond, List, refl, ap, ◌∙◌}
use Rattle.std.specs.Prelude.{Option, Some, None, bytes_eq}
use Rattle.std.proofs.lemmas.Slice.Eq.{bytes_eq-Decides}
use Rattle.far_base.specs.declared.plan.PassKind.{PassKind}
use Rattle.far_base.specs.declared.plan.PassKind.TheVariants.{GetReq, WriteReq, GetRep, WriteRep, Admit, Peek, Remove, SnapStart, SnapRead}
use Rattle.workload.specs.Kinds.{kind_name, kind_of}
use Rattle.far_text.specs.Pieces.{lacks}
use Rattle.far_text.proofs.Spelling.{some_is}

this_or : (w : List ℕ) (v x : PassKind) (rest : Option PassKind) → (rest ≡ Some x → w ≡ kind_name x) → cond (bytes_eq w (kind_name v)) (Some v) rest ≡ Some x → w ≡ kind_name x
this_or w v x rest h given =
    elim (bytes_eq w (kind_name v)) as (λ b. bytes_eq w (kind_name v) ≡ b → cond b (Some v) rest ≡ Some x → w ≡ kind_name x) [
      | true ↦ λ e k. (bytes_eq-Decides w (kind_name v)).0 e ∙ ap kind_name (some_is v x k)
      | false ↦ λ e k. h k
    ] refl given

pub kind_takes : (w : List ℕ) (x : PassKind) → kind_of w ≡ Some x → w ≡ kind_name x
kind_takes w x e =
    this_or w GetReq x _ (this_or w WriteReq x _ (this_or w GetRep x _ (this_or w WriteRep x _ (this_or w Admit x _ (this_or w Peek x _ (this_or w Remove x _ (this_or w SnapStart x _ (this_or w SnapRead x None (λ k. absurd cc))))))))) e

pub kind_again : (x : PassKind) → kind_of (kind_name x) ≡ Some x
kind_again GetReq = refl
kind_again WriteReq = refl
kind_again GetRep = refl
kind_again WriteRep = refl
kind_again Admit = refl
kind_again Peek = refl
kind_again Remove = refl
kind_again SnapStart = refl
kind_again SnapRead = refl

-- no space and no line end stands in the word of a kind
pub kind_lacks : (x : PassKind) → (lacks 10 (kind_name x) ≡ true) × (lacks 32 (kind_name x) ≡ true)
kind_lacks GetReq = (refl, refl)
kind_lacks WriteReq = (refl, refl)
kind_lacks GetRep = (refl, refl)
kind_lacks WriteRep = (refl, refl)
kind_lacks Admit = (refl, refl)
kind_lacks Peek = (refl, refl)
kind_lacks Remove = (refl, refl)
kind_lacks SnapStart = (refl, refl)
kind_lacks SnapRead = (refl, refl)

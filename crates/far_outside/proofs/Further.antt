-- A source that is read in several calls.
use Rattle.std.proofs.Common.{ℕ, List, ◌++◌, take, ap, ◌∙◌, sym, append_assoc}
use Rattle.std.specs.Prelude.{Option, None, Some, Result, Ok, Err}
use Rattle.far_outside.specs.Bytes.{Takes}
use Rattle.far_outside.specs.Reading.{HasRead, IsFurther}

-- what is left after a further read is the end of what was left at first
pub further_on : {E : Type 0} (a b c : Option (List ℕ)) (bytes buf : List ℕ) (result : Result ℕ E) → HasRead a b bytes → Takes b c result buf → IsFurther a c
further_on None b c bytes buf result h e = tt
further_on (Some x) None c bytes buf result h e = absurd h
further_on (Some x) (Some y) None bytes buf result h e = absurd e
further_on (Some x) (Some y) (Some z) bytes buf (Ok n) h e = (bytes ++ take n buf, h ∙ ap (λ (l : List ℕ). bytes ++ l) e.0 ∙ sym (append_assoc bytes (take n buf) z))
further_on (Some x) (Some y) (Some z) bytes buf (Err fault) h e = (bytes, h ∙ ap (λ (l : List ℕ). bytes ++ l) (sym e))

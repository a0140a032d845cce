-- When two bodies are one.
use Rattle.std.proofs.Common.{◌≡◌, ℕ, List, Option, Some, None, refl, ap}
use Rattle.std.specs.Prelude.{is_some}
use Rattle.far_base.specs.Padded.{text_of}

pub same_bodies : (a b : Option (List ℕ)) → is_some a ≡ is_some b → text_of a ≡ text_of b → a ≡ b
same_bodies None None there text = refl
same_bodies None (Some t) there text = absurd cc
same_bodies (Some s) None there text = absurd cc
same_bodies (Some s) (Some t) there text = ap Some text

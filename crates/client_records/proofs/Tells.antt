-- What a client tells, one by one; and what a client takes.
use Rattle.std.proofs.Common.{◌≡◌, ℕ, zero, suc, ◌<◌, max, Bool, true, false, List, [], ◌∷◌, length, get_or, refl, sym, ap, ◌∙◌, arith}
use Rattle.std.proofs.lemmas.Bool.Decides.{nat_tests}
use Rattle.std.specs.Prelude.{Option, None, Some, is_some, nat_lt}
use Rattle.std.specs.Option.{unwrap_or, option_copied}
use denote.Bor.{Bor}
use Rattle.std.specs.List.{slice_get}
use Rattle.far_base.specs.declared.packet.Packet.TheVariants.{Told}
use Rattle.far_base.specs.declared.party.Party.TheVariants.{Controller}
use Rattle.far_base.specs.declared.record.Record.{Record}
use Rattle.far_model.specs.Clients.{tells, tells_each}
use Rattle.far_model.specs.Parties.{to_party}

each_at : (round client total : ℕ) (rs : List Record) (i : ℕ) → i < length rs → slice_get (tells_each round client total rs) i ≡ Some (to_party Controller (Told round client total (slice_get rs i)))
each_at round client total [] i h = absurd (omega arith)
each_at round client total (r ∷ rs) zero h = refl
each_at round client total (r ∷ rs) (suc i) h = each_at round client total rs i (omega arith)

pub tells_at : (round client : ℕ) (rs : List Record) (i : ℕ) → i < max (length rs) 1 → slice_get (tells round client rs) i ≡ Some (to_party Controller (Told round client (length rs) (slice_get rs i)))
tells_at round client [] zero h = refl
tells_at round client [] (suc i) h = absurd (omega arith)
tells_at round client (r ∷ rs) i h = each_at round client (length (r ∷ rs)) (r ∷ rs) i (omega arith)

nothing_below : (i : ℕ) → nat_lt i 0 ≡ false
nothing_below i = grind (arith, nat_tests)

something_first : (n : ℕ) → nat_lt 0 (suc n) ≡ true
something_first n = grind (arith, nat_tests)

below_suc : (i n : ℕ) → nat_lt (suc i) (suc n) ≡ nat_lt i n
below_suc i n = grind (arith, nat_tests)

-- an item that was read through a reference
pub told_item : (rs : List Record) (i : ℕ) (o : Option Record) → is_some o ≡ nat_lt i (length rs) → ((d : Record) → unwrap_or o d ≡ get_or rs i d) → slice_get rs i ≡ o
told_item [] i None h v = refl
told_item [] i (Some r) h v = absurd (cc (h, nothing_below i))
told_item (r ∷ rs) zero None h v = absurd (cc (h, something_first (length rs)))
told_item (r ∷ rs) zero (Some x) h v = ap Some (sym (v r))
told_item (r ∷ rs) (suc i) o h v = told_item rs i o (h ∙ below_suc i (length rs)) v

pub copied_is_some : (o : Option (Bor Record)) → is_some (option_copied o) ≡ is_some o
copied_is_some None = refl
copied_is_some (Some b) = refl

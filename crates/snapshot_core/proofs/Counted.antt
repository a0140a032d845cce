-- What is kept of the parts is what contracts see of them.
use Rattle.std.proofs.Common.{◌≡◌, ℕ, zero, suc, ◌<◌, ◌≤◌, Bool, true, false, cond, List, [], ◌∷◌, length, map, replicate, get_or, refl, sym, ap, arith}
use Rattle.std.proofs.Math.ListN.{set}
use Rattle.std.proofs.lemmas.Bool.Decides.{nat_tests}
use Rattle.std.specs.Prelude.{Option, None, Some, is_some, nat_eq}
use Rattle.std.specs.List.{list_all}
use Rattle.far_base.specs.declared.record.Record.{Record}
use Rattle.far_model.specs.Snapshots.{view_in}
use Rattle.snapshot_core.specs.Parts.{parts_of, lacking, parts_there}

pub parts_length : (come : List Bool) (views : List (Option Record)) → length come ≡ length views → length (parts_of come views) ≡ length come
parts_length [] views h = refl
parts_length (b ∷ come) [] h = absurd (omega arith)
parts_length (b ∷ come) (v ∷ views) h = let e = parts_length come views (omega arith) in omega arith

pub part_there : (come : List Bool) (views : List (Option Record)) (i : ℕ) → length come ≡ length views → is_some (get_or (parts_of come views) i None) ≡ get_or come i false
part_there [] views i h = refl
part_there (b ∷ come) [] i h = absurd (omega arith)
part_there (true ∷ come) (v ∷ views) zero h = refl
part_there (false ∷ come) (v ∷ views) zero h = refl
part_there (b ∷ come) (v ∷ views) (suc i) h = part_there come views i (omega arith)

pub parts_set : (come : List Bool) (views : List (Option Record)) (i : ℕ) (view : Option Record) → length come ≡ length views
    → parts_of (set come i true) (set views i view) ≡ set (parts_of come views) i (Some view)
parts_set [] [] i view h = refl
parts_set [] (v ∷ views) i view h = absurd (omega arith)
parts_set (b ∷ come) [] i view h = absurd (omega arith)
parts_set (b ∷ come) (v ∷ views) zero view h = refl
parts_set (b ∷ come) (v ∷ views) (suc i) view h = ap (λ parts. cond b (Some v) None ∷ parts) (parts_set come views i view (omega arith))

pub lacking_set : (come : List Bool) (i : ℕ) → i < length come → get_or come i false ≡ false → lacking come ≡ suc (lacking (set come i true))
lacking_set [] i h e = absurd (omega arith)
lacking_set (true ∷ come) zero h e = absurd cc
lacking_set (false ∷ come) zero h e = refl
lacking_set (true ∷ come) (suc i) h e = lacking_set come i (omega arith) e
lacking_set (false ∷ come) (suc i) h e = ap suc (lacking_set come i (omega arith) e)

suc_is_some : (n : ℕ) → nat_eq (suc n) 0 ≡ false
suc_is_some n = grind (arith, nat_tests)

pub none_lacking : (come : List Bool) (views : List (Option Record)) → length come ≡ length views → list_all is_some (parts_of come views) ≡ nat_eq (lacking come) 0
none_lacking [] views h = refl
none_lacking (b ∷ come) [] h = absurd (omega arith)
none_lacking (true ∷ come) (v ∷ views) h = none_lacking come views (omega arith)
none_lacking (false ∷ come) (v ∷ views) h = sym (suc_is_some (lacking come))

pub views_back : (come : List Bool) (views : List (Option Record)) → length come ≡ length views → list_all is_some (parts_of come views) ≡ true → map view_in (parts_of come views) ≡ views
views_back [] [] h e = refl
views_back [] (v ∷ views) h e = absurd (omega arith)
views_back (b ∷ come) [] h e = absurd (omega arith)
views_back (true ∷ come) (v ∷ views) h e = ap (λ (vs : List (Option Record)). v ∷ vs) (views_back come views (omega arith) e)
views_back (false ∷ come) (v ∷ views) h e = absurd cc

pub no_parts : (n : ℕ) (views : List (Option Record)) → length views ≡ n → parts_of (replicate n false) views ≡ replicate n None
no_parts zero views h = refl
no_parts (suc n) [] h = absurd (omega arith)
no_parts (suc n) (v ∷ views) h = ap (λ (parts : List (Option (Option Record))). None ∷ parts) (no_parts n views (omega arith))

pub all_lacking : (n : ℕ) → lacking (replicate n false) ≡ n
all_lacking zero = refl
all_lacking (suc n) = ap suc (all_lacking n)

-- ---- what a job counts

pub none_there : (n : ℕ) → parts_there (replicate n None) ≡ 0
none_there zero = refl
none_there (suc n) = none_there n

pub there_set : (parts : List (Option (Option Record))) (i : ℕ) (view : Option Record) → i < length parts → is_some (get_or parts i None) ≡ false
    → parts_there (set parts i (Some view)) ≡ suc (parts_there parts)
there_set [] i view h e = absurd (omega arith)
there_set (None ∷ parts) zero view h e = refl
there_set (Some v ∷ parts) zero view h e = absurd cc
there_set (None ∷ parts) (suc i) view h e = there_set parts i view (omega arith) e
there_set (Some v ∷ parts) (suc i) view h e = ap suc (there_set parts i view (omega arith) e)

pub there_within : (parts : List (Option (Option Record))) → parts_there parts ≤ length parts
there_within [] = omega arith
there_within (None ∷ parts) = let h = there_within parts in omega arith
there_within (Some v ∷ parts) = let h = there_within parts in omega arith

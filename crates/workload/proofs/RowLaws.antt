-- Rows of picks, written one by one.
use Rattle.std.proofs.Common.{◌≡◌, ℕ, zero, suc, ◌+◌, ◌-◌, ◌<◌, ◌≤◌, true, false, List, [], ◌∷◌, ◌++◌, length, map, refl, sym, ap, subst, ◌∙◌, arith, append_assoc, drop, get_or, add-one}
use Rattle.std.specs.Prelude.{nat_eq, codes, decimal}
use Rattle.std.proofs.Math.Seq.{drop-cons}
use Rattle.std.proofs.lemmas.Bool.Decides.{nat_tests}
use Rattle.workload.specs.Forms.{OfPicks}
use Rattle.workload.specs.Spelling.{number_text, spaced, line_end, lines_text, with_number, rows_from}
use Rattle.workload.specs.Rows.{pick_text, next_place, open_text, rest_text}
use Rattle.workload.specs.declared.printer.TheConstants.{PICKS_PER_LINE}

-- there is always an open row
pub some_row : (room : ℕ) (picks : List ℕ) → (row : List ℕ) × (more : List (List ℕ)) × (rows_from room picks ≡ row ∷ more)
some_row room [] = ([], [], refl)
some_row zero (n ∷ ns) = ([], with_number n (rows_from (PICKS_PER_LINE - 1) ns), refl)
some_row (suc room) (n ∷ ns) =
    let r = some_row room ns in
    (n ∷ r.0, r.1, ap (with_number n) r.2)

-- the text of rows of which the first begins with this pick
first_of : (n : ℕ) (more : List (List ℕ)) (row : List ℕ) (rest : List (List ℕ)) → more ≡ row ∷ rest → lines_text (map OfPicks (with_number n more)) ≡ number_text (codes "picks ") n ++ open_text more
first_of n more row rest e = rw e (ap (λ (l : List ℕ). codes "picks " ++ l) (regroup (decimal n) (spaced row) line_end (lines_text (map OfPicks rest))))
  where
    regroup : (a b c d : List ℕ) → ((a ++ b) ++ c) ++ d ≡ a ++ (b ++ c ++ d)
    regroup a b c d = simp append_assoc

next_of : (n : ℕ) (more : List (List ℕ)) (row : List ℕ) (rest : List (List ℕ)) → more ≡ row ∷ rest → open_text (with_number n more) ≡ number_text (codes " ") n ++ open_text more
next_of n more row rest e = rw e (regroup (number_text (codes " ") n) (spaced row) line_end (lines_text (map OfPicks rest)))
  where
    regroup : (a b c d : List ℕ) → ((a ++ b) ++ c) ++ d ≡ a ++ (b ++ c ++ d)
    regroup a b c d = simp append_assoc

after_full : (n : ℕ) (ns : List ℕ) → open_text (rows_from 0 (n ∷ ns)) ≡ number_text (codes "\npicks ") n ++ open_text (rows_from (PICKS_PER_LINE - 1) ns)
after_full n ns =
    let r = some_row (PICKS_PER_LINE - 1) ns in
    ap (λ (l : List ℕ). line_end ++ l) (first_of n (rows_from (PICKS_PER_LINE - 1) ns) r.0 r.1 r.2)

within_row : (place n : ℕ) (ns : List ℕ) → place < PICKS_PER_LINE → open_text (rows_from (PICKS_PER_LINE - place) (n ∷ ns)) ≡ number_text (codes " ") n ++ open_text (rows_from (PICKS_PER_LINE - (place + 1)) ns)
within_row place n ns lt =
    let k : PICKS_PER_LINE - place ≡ suc (PICKS_PER_LINE - (place + 1)) = omega (arith, lt) in
    let r = some_row (PICKS_PER_LINE - (place + 1)) ns in
    rw k (next_of n (rows_from (PICKS_PER_LINE - (place + 1)) ns) r.0 r.1 r.2)

-- a pick is written where the line stands there
abbrev IsWritten : ℕ → List ℕ → ℕ → Type 0
IsWritten n ns place = rest_text place (n ∷ ns) ≡ pick_text place n ++ rest_text (next_place place) ns

at_start : (n : ℕ) (ns : List ℕ) → IsWritten n ns 0
at_start n ns =
    let r = some_row (PICKS_PER_LINE - 1) ns in
    first_of n (rows_from (PICKS_PER_LINE - 1) ns) r.0 r.1 r.2

at_full : (n : ℕ) (ns : List ℕ) → IsWritten n ns PICKS_PER_LINE
at_full n ns = after_full n ns

between : (place n : ℕ) (ns : List ℕ) → 0 < place → place < PICKS_PER_LINE → IsWritten n ns place
between place n ns some lt =
    let a : nat_eq place 0 ≡ false = grind (arith, nat_tests) in
    let b : nat_eq place PICKS_PER_LINE ≡ false = grind (arith, nat_tests) in
    let c : nat_eq (place + 1) 0 ≡ false = grind (arith, nat_tests) in
    rw (a, b, c) (within_row place n ns lt)

pub one_pick : (place n : ℕ) (ns : List ℕ) → place ≤ PICKS_PER_LINE → IsWritten n ns place
one_pick place n ns le =
    elim (nat_eq place 0) as (λ v. nat_eq place 0 ≡ v → IsWritten n ns place) [
      | true ↦ λ e. let z : 0 ≡ place = grind (arith, nat_tests) in subst (IsWritten n ns) z (at_start n ns)
      | false ↦ λ e.
          elim (nat_eq place PICKS_PER_LINE) as (λ v. nat_eq place PICKS_PER_LINE ≡ v → IsWritten n ns place) [
            | true ↦ λ f. let z : PICKS_PER_LINE ≡ place = grind (arith, nat_tests) in subst (IsWritten n ns) z (at_full n ns)
            | false ↦ λ f.
                let some : 0 < place = grind (arith, nat_tests) in
                let lt : place < PICKS_PER_LINE = grind (arith, nat_tests) in
                between place n ns some lt
          ] refl
    ] refl

pub pick_more : (out new all : List ℕ) (place next i : ℕ) (picks : List ℕ) → i < length picks → place ≤ PICKS_PER_LINE → new ≡ out ++ pick_text place (get_or picks i 0) → next ≡ next_place place
    → out ++ rest_text place (drop i picks) ≡ all → new ++ rest_text next (drop (i + 1) picks) ≡ all
pick_more out new all place next i picks lt le e f so_far =
    let at : drop i picks ≡ get_or picks i 0 ∷ drop (i + 1) picks = rw (add-one i) (drop-cons picks i 0 lt) in
    let one : rest_text place (drop i picks) ≡ pick_text place (get_or picks i 0) ++ rest_text (next_place place) (drop (i + 1) picks) = ap (rest_text place) at ∙ one_pick place (get_or picks i 0) (drop (i + 1) picks) le in
    ap (λ (l : List ℕ). l ++ rest_text next (drop (i + 1) picks)) e ∙ ap (λ (p : ℕ). (out ++ pick_text place (get_or picks i 0)) ++ rest_text p (drop (i + 1) picks)) f
    ∙ append_assoc out (pick_text place (get_or picks i 0)) (rest_text (next_place place) (drop (i + 1) picks)) ∙ ap (λ (l : List ℕ). out ++ l) (sym one) ∙ so_far

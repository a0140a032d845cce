-- What stands behind the history ends with the last line, or has a line with a fault.
use Rattle.std.proofs.Common.{◌≡◌, ◌⊎◌, inl, inr, ℕ, ◌+◌, ◌≤◌, Bool, true, false, List, [], ◌∷◌, ◌++◌, length, refl, sym, ap, ◌∙◌, subst, append_assoc, arith}
use Rattle.std.specs.Prelude.{Option, Some, None, bytes_eq, codes, nat_eq}
use Rattle.std.proofs.lemmas.Slice.Eq.{bytes_eq-Decides}
use Rattle.far_text.specs.Pieces.{Pieces, cut_at, pieces}
use Rattle.far_text.proofs.Cuts.{pieces_cut, some_piece}
use Rattle.far_text.proofs.Spelling.{joined, pieces_join}
use Rattle.log_audit.specs.Form.{AreLines, end_line}
use Rattle.log_audit.specs.Reading.{end_fault, open_fault}

-- ---- line by line

pub end_step : (n m : ℕ) (last : Option Bool) (text line rest : List ℕ) → cut_at 10 text ≡ Some (line, rest) → m ≡ n + 1 → end_fault n last (pieces 10 text) ≡ end_fault m (Some (bytes_eq line (codes "end"))) (pieces 10 rest)
end_step n m last text line rest e next =
    let p = some_piece 10 rest in
    subst (λ (k : ℕ). end_fault n last (pieces 10 text) ≡ end_fault k (Some (bytes_eq line (codes "end"))) (pieces 10 rest)) (sym next)
    (rw (pieces_cut 10 text, e, p.2) refl)

pub end_stop : (n : ℕ) (last : Option Bool) (text : List ℕ) → cut_at 10 text ≡ None → end_fault n last (pieces 10 text) ≡ open_fault n last text
end_stop n last text e = rw (pieces_cut 10 text, e) refl

pub end_open : (n : ℕ) (last : Option Bool) (text : List ℕ) → cut_at 10 text ≡ None → 1 ≤ length text → end_fault n last (pieces 10 text) ≡ Some (n + 1)
end_open n last [] e some = absurd (omega (arith, some))
end_open n last (b ∷ bs) e some = end_stop n last (b ∷ bs) e

-- ---- where there is no fault

pub record EndsSo (text : List ℕ) : Type 0 where
  pub between : List ℕ
  pub are_lines : AreLines between
  pub whole : text ≡ between ++ end_line

abbrev IsBare : Option Bool → Pieces → Type 0
IsBare last ps = (last ≡ Some true) × (ps ≡ [] ∷ [])

open_sound : (n : ℕ) (last : Option Bool) (piece : List ℕ) → open_fault n last piece ≡ None → (last ≡ Some true) × (piece ≡ [])
open_sound n last (b ∷ bs) e = absurd cc
open_sound n None [] e = absurd cc
open_sound n (Some false) [] e = absurd cc
open_sound n (Some true) [] e = (refl, refl)

longer : (line between : List ℕ) → AreLines between → AreLines (line ++ 10 ∷ between)
longer line between (inl e) = inr (line, ap (λ (l : List ℕ). line ++ 10 ∷ l) e)
longer line between (inr f) = inr (line ++ 10 ∷ f.0, ap (λ (l : List ℕ). line ++ 10 ∷ l) f.1 ∙ sym (append_assoc line (10 ∷ f.0) (10 ∷ [])))

pieces_end : (n : ℕ) (last : Option Bool) (ps : Pieces) → end_fault n last ps ≡ None → IsBare last ps ⊎ EndsSo (joined 10 ps)
pieces_end n last [] e = absurd cc
pieces_end n last (piece ∷ []) e = let o = open_sound n last piece e in inl (o.0, ap (λ (l : List ℕ). l ∷ []) o.1)
pieces_end n last (line ∷ next ∷ more) e = go (pieces_end (n + 1) (Some (bytes_eq line (codes "end"))) (next ∷ more) e)
  where
    go : IsBare (Some (bytes_eq line (codes "end"))) (next ∷ more) ⊎ EndsSo (joined 10 (next ∷ more)) → IsBare last (line ∷ next ∷ more) ⊎ EndsSo (joined 10 (line ∷ next ∷ more))
    go (inl b) =
        let t : bytes_eq line (codes "end") ≡ true = same_bool (bytes_eq line (codes "end")) true b.0 in
        let is : line ≡ codes "end" = (bytes_eq-Decides line (codes "end")).0 t in
        inr (record {
          between = [];
          are_lines = inl refl;
          whole = ap (λ (q : Pieces). joined 10 (line ∷ q)) b.1 ∙ ap (λ (l : List ℕ). l ++ 10 ∷ []) is;
        })
      where
        same_bool : (x y : Bool) → Some x ≡ Some y → x ≡ y
        same_bool x y e = cc
    go (inr h) = inr (record {
      between = line ++ 10 ∷ h.between;
      are_lines = longer line h.between h.are_lines;
      whole = ap (λ (l : List ℕ). line ++ 10 ∷ l) h.whole ∙ sym (append_assoc line (10 ∷ h.between) end_line);
    })

pub end_takes : (n : ℕ) (text : List ℕ) → end_fault n None (pieces 10 text) ≡ None → EndsSo text
end_takes n text e = go (pieces_end n None (pieces 10 text) e)
  where
    go : IsBare None (pieces 10 text) ⊎ EndsSo (joined 10 (pieces 10 text)) → EndsSo text
    go (inl b) = absurd (let z = b.0 in cc)
    go (inr h) = subst EndsSo (pieces_join 10 text) h

-- ---- and back

record NoFault (text : List ℕ) : Type 0 where
  line : List ℕ
  next : List ℕ
  third : List ℕ
  more : Pieces
  are : pieces 10 text ≡ line ∷ next ∷ third ∷ more
  none : (n : ℕ) (last : Option Bool) → end_fault n last (next ∷ third ∷ more) ≡ None

behind_end : (front : List ℕ) → NoFault (front ++ 10 ∷ end_line)
behind_end [] = record { line = []; next = codes "end"; third = []; more = []; are = refl; none = λ n last. refl }
behind_end (b ∷ bs) = go (behind_end bs) (nat_eq b 10) refl
  where
    go : NoFault (bs ++ 10 ∷ end_line) → (v : Bool) → nat_eq b 10 ≡ v → NoFault (b ∷ (bs ++ 10 ∷ end_line))
    go h true e = record { line = []; next = h.line; third = h.next; more = h.third ∷ h.more; are = rw (e, h.are) refl; none = λ n last. h.none (n + 1) (Some (bytes_eq h.line (codes "end"))) }
    go h false e = record { line = b ∷ h.line; next = h.next; third = h.third; more = h.more; are = rw (e, h.are) refl; none = h.none }

pub end_again : (n : ℕ) (between : List ℕ) → AreLines between → end_fault n None (pieces 10 (between ++ end_line)) ≡ None
end_again n between (inl e) = subst (λ (l : List ℕ). end_fault n None (pieces 10 (l ++ end_line)) ≡ None) (sym e) refl
end_again n between (inr f) =
    let h = behind_end f.0 in
    let same : between ++ end_line ≡ f.0 ++ 10 ∷ end_line = ap (λ (l : List ℕ). l ++ end_line) f.1 ∙ append_assoc f.0 (10 ∷ []) end_line in
    subst (λ (l : List ℕ). end_fault n None (pieces 10 l) ≡ None) (sym same)
    (rw h.are (h.none (n + 1) (Some (bytes_eq h.line (codes "end")))))

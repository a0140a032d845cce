-- The first five lines have one spelling.
use Rattle.std.proofs.Common.{◌≡◌, ℕ, ◌+◌, ◌≤◌, true, false, cond, List, ◌∷◌, ◌++◌, length, take, drop, refl, sym, ap, subst, ◌∙◌, arith, append_assoc}
use Rattle.std.specs.Prelude.{Option, Some, None, Result, Ok, Err, nat_lt, codes, decimal, bytes_eq}
use Rattle.std.proofs.lemmas.Bool.Decides.{nat_tests}
use Rattle.std.proofs.lemmas.List.{take_at, drop_at, take-append-drop}
use Rattle.std.proofs.lemmas.Slice.Eq.{bytes_eq-Decides}
use Rattle.far_base.specs.Limits.{IsConfig}
use Rattle.far_base.specs.declared.plan.Config.{Config}
use Rattle.far_base.specs.declared.plan.TheConstants.{CLIENT_LIMIT, SERVER_LIMIT, SLOT_LIMIT, HOT_LIMIT, STEP_LIMIT}
use Rattle.far_text.specs.Numbers.{IsNumber, number_of}
use Rattle.far_text.specs.Options.{◌>>=◌}
use Rattle.far_text.specs.Pieces.{Pieces, lacks, pieces}
use Rattle.far_text.proofs.Spelling.{bind_some, if_some, lacks_join, number_is, number_lacks}
use Rattle.workload.specs.Outcome.{◌andthen◌}
use Rattle.workload.specs.Reading.{next_line, titled, title_of, sized_by, sized, size_of, head_of}
use Rattle.workload.specs.Spelling.{number_line, head_text, line_end}
use Rattle.workload.specs.Words.{behind, named}
use Rattle.workload.specs.declared.fault.Limit.{Limit}
use Rattle.workload.specs.declared.fault.Limit.TheVariants.{Clients, Servers, Slots, Hot}
use Rattle.workload.specs.declared.fault.WorkFault.{WorkFault}
use Rattle.workload.specs.declared.fault.WorkFault.TheVariants.{BadLine, TooLarge}
use Rattle.workload.proofs.ByLine.{same_ok}
use Rattle.workload.proofs.LineLaws.{bind_ok, line_again, line_takes}

behind_takes : (name text rest : List ℕ) → behind name text ≡ Some rest → text ≡ name ++ rest
behind_takes name text rest e =
    let a = if_some (bytes_eq (take (length name) text) name) (drop (length name) text) rest e in
    let front : take (length name) text ≡ name = (bytes_eq-Decides (take (length name) text) name).0 a.0 in
    sym (take-append-drop (length name) text) ∙ ap (λ (l : List ℕ). l ++ drop (length name) text) front ∙ ap (λ (l : List ℕ). name ++ l) a.1

behind_again : (name rest : List ℕ) → behind name (name ++ rest) ≡ Some rest
behind_again name rest =
    let same : bytes_eq name name ≡ true = (bytes_eq-Decides name name).1 refl in
    rw (take_at name rest (length name) refl, drop_at name rest (length name) refl, same) refl

-- ---- a line with a size

abbrev pub IsSize : ℕ → ℕ → ℕ → Type 0
IsSize least most k = (least ≤ k) × (k ≤ most)

size_by : (n least most : ℕ) (which : Limit) (found : Option ℕ) (k : ℕ) → sized_by n least most which found ≡ Ok k → (found ≡ Some k) × IsSize least most k
size_by n least most which None k e = absurd cc
size_by n least most which (Some m) k e =
    elim (nat_lt m least) as (λ v. nat_lt m least ≡ v → cond v (Err (BadLine n)) (cond (nat_lt most m) (Err (TooLarge which n)) (Ok m)) ≡ Ok k → (Some m ≡ Some k) × IsSize least most k) [
      | true ↦ λ a e. absurd cc
      | false ↦ λ a e.
          elim (nat_lt most m) as (λ v. nat_lt most m ≡ v → cond v (Err (TooLarge which n)) (Ok m) ≡ Ok k → (Some m ≡ Some k) × IsSize least most k) [
            | true ↦ λ b e. absurd cc
            | false ↦ λ b e.
                let same : m ≡ k = same_ok m k e in
                let low : least ≤ m = grind (arith, nat_tests) in
                let high : m ≤ most = grind (arith, nat_tests) in
                (ap (λ (j : ℕ). Some j) same, subst (IsSize least most) same (low, high))
          ] refl e
    ] refl e

-- the line of a size, and the text behind it
pub record IsSizeLine (name : List ℕ) (least most : ℕ) (bytes : List ℕ) (k : ℕ) (lines : Pieces) : Type 0 where
  pub rest : List ℕ
  pub whole : bytes ≡ number_line name k ++ rest
  pub behind : lines ≡ pieces 10 rest
  pub fits : IsSize least most k

pub size_takes : (n : ℕ) (name : List ℕ) (least most : ℕ) (which : Limit) (bytes : List ℕ) (x : ℕ × Pieces) → size_of n name least most which (pieces 10 bytes) ≡ Ok x → IsSizeLine name least most bytes x.0 x.1
size_takes n name least most which bytes x e =
    let a = bind_ok (next_line n (pieces 10 bytes)) (λ l. sized (n + 1) name least most which l.0 andthen λ k. Ok (k, l.1)) x e in
    let b = bind_ok (sized (n + 1) name least most which a.0.0) (λ k. Ok (k, a.0.1)) x a.2 in
    let line = line_takes n bytes a.0 a.1 in
    let s = size_by (n + 1) least most which (named name a.0.0) b.0 b.1 in
    let c = bind_some (behind name a.0.0) number_of b.0 s.0 in
    let spelled : a.0.0 ≡ name ++ decimal b.0 = behind_takes name a.0.0 c.0 c.1 ∙ ap (λ (l : List ℕ). name ++ l) (number_is.takes c.0 b.0 c.2).0 in
    let made : IsSizeLine name least most bytes b.0 a.0.1 = record {
      rest = line.rest;
      whole = line.whole ∙ ap (λ (l : List ℕ). l ++ 10 ∷ line.rest) spelled ∙ sym (append_assoc (name ++ decimal b.0) line_end line.rest);
      behind = line.behind;
      fits = s.1;
    } in
    subst (λ (y : ℕ × Pieces). IsSizeLine name least most bytes y.0 y.1) (same_ok (b.0, a.0.1) x b.2) made

pub size_again : (n : ℕ) (name : List ℕ) (least most : ℕ) (which : Limit) (k : ℕ) (rest : List ℕ) → lacks 10 name ≡ true → most ≤ STEP_LIMIT → IsSize least most k → size_of n name least most which (pieces 10 (number_line name k ++ rest)) ≡ Ok (k, pieces 10 rest)
size_again n name least most which k rest l small h =
    let fits : IsNumber k = omega (arith, small, h.1) in
    let no_end : lacks 10 (name ++ decimal k) ≡ true = lacks_join 10 name (decimal k) l (number_lacks 10 k (omega arith) fits) in
    let low : nat_lt k least ≡ false = grind (arith, nat_tests, h.0) in
    let high : nat_lt most k ≡ false = grind (arith, nat_tests, h.1) in
    let line : next_line n (pieces 10 (number_line name k ++ rest)) ≡ Ok (name ++ decimal k, pieces 10 rest) = ap (λ (t : List ℕ). next_line n (pieces 10 t)) (append_assoc (name ++ decimal k) line_end rest) ∙ line_again n (name ++ decimal k) rest no_end in
    let read : named name (name ++ decimal k) ≡ Some k = ap (λ (o : Option (List ℕ)). o >>= number_of) (behind_again name (decimal k)) ∙ number_is.again k fits in
    let sized_is : sized (n + 1) name least most which (name ++ decimal k) ≡ Ok k = ap (sized_by (n + 1) least most which) read ∙ rw (low, high) refl in
    ap (λ (r : Result (List ℕ × Pieces) WorkFault). r andthen λ l. sized (n + 1) name least most which l.0 andthen λ k. Ok (k, l.1)) line
    ∙ ap (λ (r : Result ℕ WorkFault). r andthen λ j. Ok (j, pieces 10 rest)) sized_is

-- ---- all five

title_by : (x : List ℕ × Pieces) (lines : Pieces) → titled x ≡ Ok lines → (x.0 ≡ codes "far 1") × (x.1 ≡ lines)
title_by x lines e =
    elim (bytes_eq x.0 (codes "far 1")) as (λ v. bytes_eq x.0 (codes "far 1") ≡ v → cond v (Ok x.1) (Err (BadLine 1)) ≡ Ok lines → (x.0 ≡ codes "far 1") × (x.1 ≡ lines)) [
      | true ↦ λ a e. ((bytes_eq-Decides x.0 (codes "far 1")).0 a, same_ok x.1 lines e)
      | false ↦ λ a e. absurd cc
    ] refl e

pub record IsHead (bytes : List ℕ) (config : Config) (lines : Pieces) : Type 0 where
  pub rest : List ℕ
  pub whole : bytes ≡ head_text config ++ rest
  pub behind : lines ≡ pieces 10 rest
  pub fits : IsConfig config

regroup : (f a b c d rest : List ℕ) → f ++ (a ++ (b ++ (c ++ (d ++ rest)))) ≡ (f ++ a ++ b ++ c ++ d) ++ rest
regroup f a b c d rest = simp append_assoc

abbrev with_hot : ℕ → ℕ → ℕ → ℕ × Pieces → Result (Config × Pieces) WorkFault
with_hot clients servers slots d = Ok (record { clients = clients; servers = servers; slots = slots; hot = d.0 }, d.1)

abbrev with_slots : ℕ → ℕ → ℕ × Pieces → Result (Config × Pieces) WorkFault
with_slots clients servers c = size_of 4 (codes "hot ") 0 HOT_LIMIT Hot c.1 andthen with_hot clients servers c.0

abbrev with_servers : ℕ → ℕ × Pieces → Result (Config × Pieces) WorkFault
with_servers clients b = size_of 3 (codes "slots ") 1 SLOT_LIMIT Slots b.1 andthen with_slots clients b.0

abbrev with_clients : ℕ × Pieces → Result (Config × Pieces) WorkFault
with_clients a = size_of 2 (codes "servers ") 1 SERVER_LIMIT Servers a.1 andthen with_servers a.0

abbrev with_title : Pieces → Result (Config × Pieces) WorkFault
with_title rest = size_of 1 (codes "clients ") 1 CLIENT_LIMIT Clients rest andthen with_clients

pub head_takes : (bytes : List ℕ) (x : Config × Pieces) → head_of (pieces 10 bytes) ≡ Ok x → IsHead bytes x.0 x.1
unfolding head_of
head_takes bytes x e =
    let t = bind_ok (title_of (pieces 10 bytes)) with_title x e in
    let u = bind_ok (next_line 0 (pieces 10 bytes)) titled t.0 t.1 in
    let first = line_takes 0 bytes u.0 u.1 in
    let title = title_by u.0 t.0 u.2 in
    let a = bind_ok (size_of 1 (codes "clients ") 1 CLIENT_LIMIT Clients t.0) with_clients x t.2 in
    let la = size_takes 1 (codes "clients ") 1 CLIENT_LIMIT Clients first.rest a.0 (ap (λ (l : Pieces). size_of 1 (codes "clients ") 1 CLIENT_LIMIT Clients l) (sym (sym title.1 ∙ first.behind)) ∙ a.1) in
    let b = bind_ok (size_of 2 (codes "servers ") 1 SERVER_LIMIT Servers a.0.1) (with_servers a.0.0) x a.2 in
    let lb = size_takes 2 (codes "servers ") 1 SERVER_LIMIT Servers la.rest b.0 (ap (λ (l : Pieces). size_of 2 (codes "servers ") 1 SERVER_LIMIT Servers l) (sym la.behind) ∙ b.1) in
    let c = bind_ok (size_of 3 (codes "slots ") 1 SLOT_LIMIT Slots b.0.1) (with_slots a.0.0 b.0.0) x b.2 in
    let lc = size_takes 3 (codes "slots ") 1 SLOT_LIMIT Slots lb.rest c.0 (ap (λ (l : Pieces). size_of 3 (codes "slots ") 1 SLOT_LIMIT Slots l) (sym lb.behind) ∙ c.1) in
    let d = bind_ok (size_of 4 (codes "hot ") 0 HOT_LIMIT Hot c.0.1) (with_hot a.0.0 b.0.0 c.0.0) x c.2 in
    let ld = size_takes 4 (codes "hot ") 0 HOT_LIMIT Hot lc.rest d.0 (ap (λ (l : Pieces). size_of 4 (codes "hot ") 0 HOT_LIMIT Hot l) (sym lc.behind) ∙ d.1) in
    let config : Config = record { clients = a.0.0; servers = b.0.0; slots = c.0.0; hot = d.0.0 } in
    let text : bytes ≡ codes "far 1\n" ++ (number_line (codes "clients ") a.0.0 ++ (number_line (codes "servers ") b.0.0 ++ (number_line (codes "slots ") c.0.0 ++ (number_line (codes "hot ") d.0.0 ++ ld.rest)))) =
    first.whole ∙ ap (λ (l : List ℕ). l ++ 10 ∷ first.rest) title.0 ∙ ap (λ (l : List ℕ). codes "far 1\n" ++ l) (la.whole ∙ ap (λ (l : List ℕ). number_line (codes "clients ") a.0.0 ++ l) (lb.whole ∙ ap (λ (l : List ℕ). number_line (codes "servers ") b.0.0 ++ l) (lc.whole ∙ ap (λ (l : List ℕ). number_line (codes "slots ") c.0.0 ++ l) ld.whole))) in
    let made : IsHead bytes config d.0.1 = record {
      rest = ld.rest;
      whole = text ∙ regroup (codes "far 1\n") (number_line (codes "clients ") a.0.0) (number_line (codes "servers ") b.0.0) (number_line (codes "slots ") c.0.0) (number_line (codes "hot ") d.0.0) ld.rest;
      behind = ld.behind;
      fits = record { clients = la.fits; servers = lb.fits; slots = lc.fits; hot = ld.fits.1 };
    } in
    subst (λ (y : Config × Pieces). IsHead bytes y.0 y.1) (same_ok (config, d.0.1) x d.2) made

pub head_again : (config : Config) (rest : List ℕ) → IsConfig config → head_of (pieces 10 (head_text config ++ rest)) ≡ Ok (config, pieces 10 rest)
unfolding head_of
head_again config rest h =
    let r4 : List ℕ = number_line (codes "hot ") config.hot ++ rest in
    let r3 : List ℕ = number_line (codes "slots ") config.slots ++ r4 in
    let r2 : List ℕ = number_line (codes "servers ") config.servers ++ r3 in
    let r1 : List ℕ = number_line (codes "clients ") config.clients ++ r2 in
    let hot : (0 ≤ config.hot) × (config.hot ≤ HOT_LIMIT) = (omega arith, h.hot) in
    let title : title_of (pieces 10 (codes "far 1" ++ 10 ∷ r1)) ≡ Ok (pieces 10 r1) = ap (λ (r : Result (List ℕ × Pieces) WorkFault). r andthen titled) (line_again 0 (codes "far 1") r1 refl) in
    let a = size_again 1 (codes "clients ") 1 CLIENT_LIMIT Clients config.clients r2 refl (omega arith) h.clients in
    let b = size_again 2 (codes "servers ") 1 SERVER_LIMIT Servers config.servers r3 refl (omega arith) h.servers in
    let c = size_again 3 (codes "slots ") 1 SLOT_LIMIT Slots config.slots r4 refl (omega arith) h.slots in
    let d = size_again 4 (codes "hot ") 0 HOT_LIMIT Hot config.hot rest refl (omega arith) hot in
    ap (λ (t : List ℕ). head_of (pieces 10 t)) (sym (regroup (codes "far 1\n") (number_line (codes "clients ") config.clients) (number_line (codes "servers ") config.servers) (number_line (codes "slots ") config.slots) (number_line (codes "hot ") config.hot) rest))
    ∙ ap (λ (r : Result Pieces WorkFault). r andthen with_title) title
    ∙ ap (λ (r : Result (ℕ × Pieces) WorkFault). r andthen with_clients) a
    ∙ ap (λ (r : Result (ℕ × Pieces) WorkFault). r andthen with_servers config.clients) b
    ∙ ap (λ (r : Result (ℕ × Pieces) WorkFault). r andthen with_slots config.clients config.servers) c
    ∙ ap (λ (r : Result (ℕ × Pieces) WorkFault). r andthen with_hot config.clients config.servers config.slots) d

-- The operations of each client, and what clients have to send at the opening.
use Rattle.std.proofs.Common.{◌≡◌, ℕ, zero, suc, ◌+◌, ◌-◌, ◌<◌, ◌⊎◌, inl, inr, Bool, true, false, List, [], ◌∷◌, length, get_or, refl, sym, ap, ◌∙◌, subst, arith, zero-add, eqb-true}
use Rattle.std.specs.Prelude.{if◌then◌else◌, nat_eq, slice_index_or}
use Rattle.std.specs.List.{AllByRecursion}
use Rattle.std.proofs.lemmas.Bool.Decides.{eqb_tells}
use Rattle.far_base.specs.Limits.{IsPlan, IsOpLine}
use Rattle.far_base.specs.PlanView.{PlanView}
use Rattle.far_base.specs.declared.plan.OpLine.{OpLine}
use Rattle.far_model.specs.Clients.{ClientState, line_of, no_line, opening_client, script_from}
use Rattle.far_model.specs.Members.{Among}
use Rattle.far_model.specs.State.{clients_from, nobody, opening}
use Rattle.far_invariants.specs.Sent.{AreSentOrLeft}

pub record IsInScript (n : ℕ) (lines : List OpLine) (client op : ℕ) : Type 0 where
  pub place : ℕ
  pub is : op ≡ n + place
  pub of_client : (get_or lines place no_line).client ≡ client

pub in_script : (n : ℕ) (lines : List OpLine) (client op : ℕ) → Among op (script_from n lines client) → IsInScript n lines client op
in_script n [] client op a = absurd a
in_script n (line ∷ lines) client op a = go (λ b. in_script (suc n) lines client op b) (nat_eq line.client client) refl a
  where
    later : IsInScript (suc n) lines client op → IsInScript n (line ∷ lines) client op
    later h = record { place = suc h.place; is = let e = h.is in omega (arith, e); of_client = h.of_client }

    go : (Among op (script_from (suc n) lines client) → IsInScript (suc n) lines client op) → (b : Bool) → nat_eq line.client client ≡ b
        → Among op (if b then n ∷ script_from (suc n) lines client else script_from (suc n) lines client) → IsInScript n (line ∷ lines) client op
    go f true e (inl same) = record { place = 0; is = same ∙ omega arith; of_client = eqb-true line.client client e }
    go f true e (inr b) = later (f b)
    go f false e b = later (f b)

pub opens_client : (plan : PlanView) (c n d : ℕ) → (get_or (clients_from plan.ops n d) c nobody ≡ opening_client plan.ops (n + c)) ⊎ (get_or (clients_from plan.ops n d) c nobody ≡ nobody)
opens_client plan c n zero = inr refl
opens_client plan zero n (suc d) = inl (ap (λ m. opening_client plan.ops m) (omega arith))
opens_client plan (suc c) n (suc d) = go (opens_client plan c (suc n) d)
  where
    go : (get_or (clients_from plan.ops (suc n) d) c nobody ≡ opening_client plan.ops (suc n + c)) ⊎ (get_or (clients_from plan.ops (suc n) d) c nobody ≡ nobody)
        → (get_or (clients_from plan.ops (suc n) d) c nobody ≡ opening_client plan.ops (n + suc c)) ⊎ (get_or (clients_from plan.ops (suc n) d) c nobody ≡ nobody)
    go (inl e) = inl (e ∙ ap (λ m. opening_client plan.ops m) (omega arith))
    go (inr e) = inr e

nat_eq_same : (n : ℕ) → nat_eq n n ≡ true
nat_eq_same n = elim (eqb_tells n n) [ inl p ↦ p.0 | inr p ↦ absurd (p.1 refl) ]

skips : (test : Bool) (op next : ℕ) (rest : List ℕ) → Among op rest → Among op (if test then next ∷ rest else rest)
skips true op next rest a = inr a
skips false op next rest a = a

script_has : (k : ℕ) (ops : List OpLine) (n : ℕ) → n < length ops → Among (k + n) (script_from k ops (slice_index_or ops n no_line).client)
script_has k [] n h = absurd (omega arith)
script_has k (line ∷ lines) zero h = rw (nat_eq_same line.client) (inl (omega arith))
script_has k (line ∷ lines) (suc n) h = skips (nat_eq line.client (slice_index_or lines n no_line).client) (k + suc n) k (script_from (suc k) lines (slice_index_or lines n no_line).client)
    (subst (λ (m : ℕ). Among m (script_from (suc k) lines (slice_index_or lines n no_line).client)) (omega arith) (script_has (suc k) lines n (omega arith)))

client_from : (ops : List OpLine) (n more c : ℕ) → c < more → slice_index_or (clients_from ops n more) c nobody ≡ opening_client ops (n + c)
client_from ops n zero c h = absurd (omega arith)
client_from ops n (suc more) zero h = ap (opening_client ops) (omega arith)
client_from ops n (suc more) (suc c) h = client_from ops (suc n) more c (omega arith) ∙ ap (opening_client ops) (omega arith)

of_clients : (clients : ℕ) (ops : List OpLine) (n : ℕ) → AllByRecursion (IsOpLine clients) ops → n < length ops → (slice_index_or ops n no_line).client < clients
of_clients clients [] n all h = absurd (omega arith)
of_clients clients (line ∷ lines) zero all h = all.0.client
of_clients clients (line ∷ lines) (suc n) all h = of_clients clients lines n all.1 (omega arith)

pub opening_left : (plan : PlanView) → IsPlan plan → AreSentOrLeft plan (opening plan)
opening_left plan valid op above most =
    let within : op - 1 < length plan.ops = omega arith in
    let client : ℕ = (line_of plan.ops op).client in
    let has : Among (1 + (op - 1)) (script_from 1 plan.ops client) = script_has 1 plan.ops (op - 1) within in
    let is : 1 + (op - 1) ≡ op = omega arith in
    inl (subst (λ (state : ClientState). Among op state.left) (sym (client_from plan.ops 0 plan.config.clients client (of_clients plan.config.clients plan.ops (op - 1) valid.ops within)))
    (subst (λ (n : ℕ). Among n (script_from 1 plan.ops (0 + client))) is (subst (λ (n : ℕ). Among (1 + (op - 1)) (script_from 1 plan.ops n)) (sym (zero-add client)) has)))

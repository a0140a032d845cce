-- The opening state keeps everything.
use Rattle.far_invariants.specs.Numbers.{slot_if, entry, IsWritten}
use Rattle.far_invariants.specs.Covers.{look}
use Rattle.far_invariants.specs.Operations.{LeftIs, OperationsStand}
use Rattle.flight_laws.proofs.ScriptLaws.{in_script, opens_client}
use Rattle.far_base.specs.declared.record.Versioned.{Versioned}
use Rattle.std.proofs.Common.{◌≡◌, ◌≢◌, ℕ, zero, suc, ◌+◌, ◌-◌, ◌⊎◌, inl, inr, Bool, true, false, List, [], ◌∷◌, length, replicate, get_or, refl, sym, ap, ◌∙◌, subst, arith}
use Rattle.std.specs.Prelude.{Some, None, if◌then◌else◌, nat_eq}
use Rattle.far_base.specs.Limits.{IsPlan}
use Rattle.far_base.specs.PlanView.{PlanView}
use Rattle.far_base.specs.declared.plan.OpLine.{OpLine}
use Rattle.far_model.specs.Clients.{ClientState, no_line, script, script_from, opening_client}
use Rattle.far_model.specs.History.{nothing}
use Rattle.far_model.specs.KeyedRecords.{found}
use Rattle.far_model.specs.Members.{Among, Pairs}
use Rattle.far_model.specs.State.{opening, client_at, nobody}
use Rattle.far_model.specs.View.{server_of, bound_place, entry_if, next_place}
use Rattle.far_model.proofs.Members.{each_from_among}

none_at : {A : Type 0} (n i : ℕ) (a : A) → get_or (replicate n a) i a ≡ a
none_at zero i a = refl
none_at (suc n) zero a = refl
none_at (suc n) (suc i) a = none_at n i a

none_bound : (key : List ℕ) (n : ℕ) → bound_place key (replicate n None) ≡ None
none_bound key zero = refl
none_bound key (suc n) = ap next_place (none_bound key n)

no_records : (plan : PlanView) (key : List ℕ) → look plan (opening plan) key ≡ nothing
no_records plan key = ap (λ l. found l key) (none_at plan.config.servers (server_of plan.config key) [])

no_entry : (plan : PlanView) (key : List ℕ) → entry key (opening plan).switch ≡ None
no_entry plan key = ap (λ o. slot_if (opening plan).switch (entry_if key (opening plan).switch o)) (none_bound key plan.config.slots)

-- ---- scripts

script_apart : (n : ℕ) (lines : List OpLine) (client : ℕ) → Pairs (λ (a b : ℕ). a ≢ b) (script_from n lines client)
script_apart n [] client = tt
script_apart n (line ∷ lines) client = go (script_apart (suc n) lines client) (nat_eq line.client client)
  where
    go : Pairs (λ (a b : ℕ). a ≢ b) (script_from (suc n) lines client) → (b : Bool) → Pairs (λ (a b : ℕ). a ≢ b) (if b then n ∷ script_from (suc n) lines client else script_from (suc n) lines client)
    go h true = (each_from_among (λ b. n ≢ b) (script_from (suc n) lines client) (λ b a same. let p = in_script (suc n) lines client b a in let e = p.is in omega (arith, e, same)), h)
    go h false = h

module _ (plan : PlanView) where
  opening_left : (c : ℕ) → LeftIs plan (opening plan) c
  opening_left c = go (opens_client plan c 0 plan.config.clients)
    where
      of_script : (left : List ℕ) → left ≡ script plan.ops c → (client_at (opening plan) c).left ≡ left → LeftIs plan (opening plan) c
      of_script left is e = record {
        of_client = λ op a. let p = in_script 1 plan.ops c op (subst (λ w. Among op w) (e ∙ is) a) in
            let same : op - 1 ≡ p.place = let q = p.is in omega (arith, q) in
            ap (λ n. (get_or plan.ops n no_line).client) same ∙ p.of_client;
        unsent = λ op a l b. absurd b;
        apart = subst (λ w. Pairs (λ (a b : ℕ). a ≢ b) w) (sym (e ∙ is)) (script_apart 1 plan.ops c);
      }

      of_nobody : (client_at (opening plan) c).left ≡ [] → LeftIs plan (opening plan) c
      of_nobody e = record {
        of_client = λ op a. absurd (let b : Among op [] = subst (λ w. Among op w) e a in b);
        unsent = λ op a l b. absurd b;
        apart = subst (λ w. Pairs (λ (a b : ℕ). a ≢ b) w) (sym e) tt;
      }

      go : (client_at (opening plan) c ≡ opening_client plan.ops (0 + c)) ⊎ (client_at (opening plan) c ≡ nobody) → LeftIs plan (opening plan) c
      go (inl e) = of_script (script plan.ops (0 + c)) (ap (script plan.ops) (omega arith)) (ap (λ (w : ClientState). w.left) e)
      go (inr e) = of_nobody (ap (λ (w : ClientState). w.left) e)

  pub opening_keeps : IsPlan plan → length (opening plan).servers ≡ plan.config.servers → OperationsStand plan (opening plan)
  opening_keeps valid servers = record {
    some_server = let n = valid.config.servers.0 in omega (arith, n);
    servers = servers;
    config = refl;
    order = tt;
    lines = λ l a. absurd a;
    relies = λ m a. absurd a;
    records = λ key. subst (λ (w : Versioned). IsWritten plan [] 0 key w.num w.body) (sym (no_records plan key)) (record { none = λ z. refl; some = λ more. absurd (omega arith) });
    left = opening_left;
    open_or_answered = λ at op a. absurd a;
    covers = λ runs key at op num body near a. absurd a;
    slots = λ key slot is. absurd (let e : None ≡ Some slot = sym (no_entry plan key) ∙ is in cc);
    untagged = record { below = omega arith; admitted = λ m a. absurd a };
  }

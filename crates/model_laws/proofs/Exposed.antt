-- The exposed number is the least bound of all answers.
use Rattle.std.proofs.Common.{◌≡◌, ℕ, ◌<◌, ◌≤◌, ◌⊎◌, inl, inr, true, false, List, refl, arith, le_trans}
use Rattle.std.specs.Prelude.{Option, Some, None, nat_le}
use Rattle.std.proofs.lemmas.Bool.Decides.{leb_tells}
use Rattle.far_base.specs.declared.log.LogLine.{LogLine}
use Rattle.far_invariants.proofs.Keys.{same_key_true}
use Rattle.history_laws.proofs.Exposed.{exposed_most, exposed_shown}
use Rattle.model_laws.specs.Answers.{AnswersAreAtMost}
use Rattle.far_model.specs.Log.{At, sent_on, is_on, sending, exposed}

-- whether an operation is on a key, by its sending
pub on_true : (log : List LogLine) (key : List ℕ) (op : ℕ) → is_on log key op ≡ true → (s : At _) × (sending log op ≡ Some s) × (key ≡ s.what.key)
on_true log key op h = go (sending log op) refl h
  where
    go : (o : Option (At _)) → sending log op ≡ o → sent_on key o ≡ true → (s : At _) × (sending log op ≡ Some s) × (key ≡ s.what.key)
    go None e k = absurd cc
    go (Some s) e k = (s, e, same_key_true key s.what.key k)

-- ---- the exposed number as the least bound

pub bound_all : (log : List LogLine) (key : List ℕ) (moment most : ℕ) → exposed log key moment ≤ most → AnswersAreAtMost log key moment most
bound_all log key moment most h at op num body near a b on =
    le_trans (exposed_most log key moment num (record { op = op; shown_at = at; body = body; near = near; emitted = a; on_key = on; before = b })) h

pub all_bounded : (log : List LogLine) (key : List ℕ) (moment most : ℕ) → AnswersAreAtMost log key moment most → exposed log key moment ≤ most
all_bounded log key moment most h = go (leb_tells 1 (exposed log key moment))
  where
    go : ((nat_le 1 (exposed log key moment) ≡ true) × (1 ≤ exposed log key moment)) ⊎ ((nat_le 1 (exposed log key moment) ≡ false) × (exposed log key moment < 1)) → exposed log key moment ≤ most
    go (inl p) = let s = exposed_shown log key moment p.1 in h s.shown_at s.op (exposed log key moment) s.body s.near s.emitted s.before s.on_key
    go (inr p) = omega (arith, p.1)

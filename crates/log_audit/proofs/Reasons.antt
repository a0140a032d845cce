-- What a reason says is true, and one is found where a line does not go with those before it.
use Rattle.std.proofs.Common.{◌≡◌, ◌≢◌, ℕ, ◌+◌, ◌<◌, ◌≤◌, Bool, true, false, not, ◌&&◌, ◌||◌, cond, List, [], ◌∷◌, ◌++◌, take, slice_get, Some, refl, sym, ap, ◌∙◌, arith}
use Rattle.std.specs.Prelude.{nat_eq, nat_lt}
use Rattle.std.proofs.lemmas.Bool.Decides.{nat_tests}
use Rattle.far_base.proofs.Taken.{taken}
use Rattle.far_base.specs.declared.record.Versioned.{Versioned}
use Rattle.far_model.specs.History.{nothing, with_write}
use Rattle.far_model.specs.Log.{is_read, same_key}
use Rattle.far_model.specs.Members.{Each}
use Rattle.log_audit.specs.Good.{IsGood, held_of}
use Rattle.log_audit.specs.Walk.{clash, map_after}
use Rattle.log_audit.specs.declared.line.HistLine.{HistLine}
use Rattle.log_audit.proofs.Judged.{good_more, map_more}

-- ---- what a key is set to last

set_with : (map : List ℕ → Versioned) (wrote : List ℕ) (version : Versioned) (key : List ℕ) (read : Bool)
    → cond read map (with_write map wrote version) key ≡ cond (not read && same_key key wrote) version (map key)
set_with map wrote version key true = refl
set_with map wrote version key false = refl

pub set_more : (lines : List HistLine) (l : HistLine) (key : List ℕ)
    → map_after (λ k. nothing) (lines ++ l ∷ []) key ≡ cond (not (is_read l.kind) && same_key key l.key) (held_of l) (map_after (λ k. nothing) lines key)
set_more lines l key =
    ap (λ (map : List ℕ → Versioned). map key) (map_more (λ k. nothing) lines l)
    ∙ set_with (map_after (λ k. nothing) lines) l.key (held_of l) key (is_read l.kind)

-- ---- lines that do not clash

pub no_clash : (x l : HistLine) → clash x l ≡ false → (x.op ≢ l.op) × (x.sent ≤ l.answered)
no_clash x l h = go (nat_eq x.op l.op) (nat_lt l.answered x.sent) refl refl h
  where
    go : (a b : Bool) → nat_eq x.op l.op ≡ a → nat_lt l.answered x.sent ≡ b → (a || b) ≡ false → (x.op ≢ l.op) × (x.sent ≤ l.answered)
    go true b e f k = absurd cc
    go false true e f k = absurd cc
    go false false e f k = (grind (arith, nat_tests), grind (arith, nat_tests))

pub other_clash : (x l : HistLine) → clash x l ≡ true → x.op ≢ l.op → l.answered < x.sent
other_clash x l h other = go (nat_eq x.op l.op) (nat_lt l.answered x.sent) refl refl h
  where
    go : (a b : Bool) → nat_eq x.op l.op ≡ a → nat_lt l.answered x.sent ≡ b → (a || b) ≡ true → l.answered < x.sent
    go true b e f k = absurd (other (grind (arith, nat_tests)))
    go false true e f k = grind (arith, nat_tests)
    go false false e f k = absurd cc

all_new : (lines : List HistLine) (l : HistLine) → Each (λ (x : HistLine). clash x l ≡ false) lines → Each (λ (x : HistLine). x.op ≢ l.op) lines
all_new [] l h = tt
all_new (x ∷ lines) l h = ((no_clash x l h.0).0, all_new lines l h.1)

all_sent : (lines : List HistLine) (l : HistLine) → Each (λ (x : HistLine). clash x l ≡ false) lines → Each (λ (x : HistLine). x.sent ≤ l.answered) lines
all_sent [] l h = tt
all_sent (x ∷ lines) l h = ((no_clash x l h.0).1, all_sent lines l h.1)

pub goes_on : (lines : List HistLine) (l : HistLine) → l.sent < l.answered → Each (λ (x : HistLine). clash x l ≡ false) lines
    → (is_read l.kind ≡ true → held_of l ≡ map_after (λ k. nothing) lines l.key) → IsGood lines → IsGood (lines ++ l ∷ [])
goes_on lines l span apart read good = good_more lines l good (record { new_op = all_new lines l apart; span = span; legal = read; later = all_sent lines l apart })

-- ---- one line more

pub set_next : (lines : List HistLine) (i : ℕ) (l : HistLine) (key : List ℕ) (last new : Versioned) → slice_get lines i ≡ Some l
    → last ≡ map_after (λ k. nothing) (take i lines) key → new ≡ cond (not (is_read l.kind) && same_key key l.key) (held_of l) last
    → new ≡ map_after (λ k. nothing) (take (i + 1) lines) key
set_next lines i l key last new at before is =
    is ∙ (ap (λ (v : Versioned). cond (not (is_read l.kind) && same_key key l.key) (held_of l) v) before
    ∙ (sym (set_more (take i lines) l key) ∙ ap (λ (ls : List HistLine). map_after (λ k. nothing) ls key) (sym (taken lines i l at))))

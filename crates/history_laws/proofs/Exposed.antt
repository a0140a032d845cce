-- Exposed numbers, and the moments at which numbers take effect.
use Rattle.std.proofs.Common.{◌≡◌, ℕ, zero, suc, ◌<◌, ◌≤◌, max, ◌⊎◌, inl, inr, Bool, true, false, List, [], ◌∷◌, refl, sym, ◌∙◌, subst, arith, le-leb, leb-true, le_trans}
use Rattle.std.specs.Prelude.{Option, Some, if◌then◌else◌, nat_le}
use Rattle.std.proofs.Math.Nat.{le-max_left, le-max_right}
use Rattle.std.proofs.lemmas.Bool.Decides.{leb_tells}
use Rattle.far_base.specs.declared.log.LogLine.{LogLine}
use Rattle.far_base.specs.declared.log.LogEntry.{LogEntry}
use Rattle.far_base.specs.declared.log.LogEntry.TheVariants.{Emitted}
use Rattle.far_model.specs.Members.{Among}
use Rattle.far_invariants.proofs.Keys.{same_key_refl}
use Rattle.far_model.specs.Log.{At, is_on, sending, exposed, IsTakingMoment, number_exposed, greatest_exposed}

-- a line that shows a number of the key by the moment
pub record Shows (log : List LogLine) (key : List ℕ) (moment num : ℕ) : Type 0 where
  pub op : ℕ
  pub shown_at : ℕ
  pub body : Option (List ℕ)
  pub near : Bool
  pub emitted : Among (record { moment = shown_at; entry = Emitted op num body near }) log
  pub on_key : is_on log key op ≡ true
  pub before : shown_at ≤ moment

pub on_sent : (log : List LogLine) (op : ℕ) (s : At _) → sending log op ≡ Some s → is_on log s.what.key op ≡ true
on_sent log op s h = rw h (same_key_refl s.what.key)

-- what one line adds
abbrev part : (ℕ → Bool) → ℕ → LogLine → ℕ
part on moment l = if nat_le l.moment moment then number_exposed on l.entry else 0

part_shown : (on : ℕ → Bool) (moment : ℕ) (l : LogLine) → l.moment ≤ moment → number_exposed on l.entry ≤ part on moment l
part_shown on moment l h = rw (le-leb l.moment moment h) (omega arith)

shown_within : (on : ℕ → Bool) (moment : ℕ) (log : List LogLine) (l : LogLine) → Among l log → l.moment ≤ moment → number_exposed on l.entry ≤ greatest_exposed on moment log
shown_within on moment [] l h b = absurd h
shown_within on moment (m ∷ ms) l (inl e) b = le_trans (subst (λ w. number_exposed on l.entry ≤ part on moment w) e (part_shown on moment l b)) (le-max_left (part on moment m) (greatest_exposed on moment ms))
shown_within on moment (m ∷ ms) l (inr h) b = le_trans (shown_within on moment ms l h b) (le-max_right (part on moment m) (greatest_exposed on moment ms))

-- a member that shows exactly this
record Peak (on : ℕ → Bool) (moment num : ℕ) (log : List LogLine) : Type 0 where
  line : LogLine
  among : Among line log
  before : line.moment ≤ moment
  shown : number_exposed on line.entry ≡ num

max_cases : (a b : ℕ) → (max a b ≡ a) ⊎ (max a b ≡ b)
max_cases a b = go (leb_tells a b)
  where
    go : ((nat_le a b ≡ true) × (a ≤ b)) ⊎ ((nat_le a b ≡ false) × (b < a)) → (max a b ≡ a) ⊎ (max a b ≡ b)
    go (inl p) = inr (omega (arith, p.1))
    go (inr p) = inl (omega (arith, p.1))

peak : (on : ℕ → Bool) (moment : ℕ) (log : List LogLine) → 0 < greatest_exposed on moment log → Peak on moment (greatest_exposed on moment log) log
peak on moment [] h = absurd (omega arith)
peak on moment (m ∷ ms) h = go (peak on moment ms) (max_cases (part on moment m) (greatest_exposed on moment ms))
  where
    here : (b : Bool) → nat_le m.moment moment ≡ b → 0 < (if b then number_exposed on m.entry else 0) → (m.moment ≤ moment) × (number_exposed on m.entry ≡ (if b then number_exposed on m.entry else 0))
    here true e k = (leb-true m.moment moment e, refl)
    here false e k = absurd (omega arith)

    go : (0 < greatest_exposed on moment ms → Peak on moment (greatest_exposed on moment ms) ms) → (max (part on moment m) (greatest_exposed on moment ms) ≡ part on moment m) ⊎ (max (part on moment m) (greatest_exposed on moment ms) ≡ greatest_exposed on moment ms)
        → Peak on moment (greatest_exposed on moment (m ∷ ms)) (m ∷ ms)
    go f (inl e) =
        let k = here (nat_le m.moment moment) refl (subst (λ n. 0 < n) e h) in
        record { line = m; among = inl refl; before = k.0; shown = k.1 ∙ sym e }
    go f (inr e) =
        let p = f (subst (λ n. 0 < n) e h) in
        record { line = p.line; among = inr p.among; before = p.before; shown = p.shown ∙ sym e }

shows_by : (log : List LogLine) (key : List ℕ) (moment num : ℕ) → 0 < num → (at : ℕ) (e : LogEntry) → Among (record { moment = at; entry = e }) log → at ≤ moment → number_exposed (is_on log key) e ≡ num → Shows log key moment num
shows_by log key moment num p at (Emitted op n body near) a b s = go (is_on log key op) refl s
  where
    go : (on : Bool) → is_on log key op ≡ on → (if on then n else 0) ≡ num → Shows log key moment num
    go true e k = record { op = op; shown_at = at; body = body; near = near; emitted = subst (λ w. Among (record { moment = at; entry = Emitted op w body near }) log) k a; on_key = e; before = b }
    go false e k = absurd (omega arith)
shows_by log key moment num p at _ a b s = absurd (omega arith)

-- the exposed number is 0 or that of a line
pub exposed_shown : (log : List LogLine) (key : List ℕ) (moment : ℕ) → 0 < exposed log key moment → Shows log key moment (exposed log key moment)
exposed_shown log key moment h = let p = peak (is_on log key) moment log h in shows_by log key moment (exposed log key moment) h p.line.moment p.line.entry p.among p.before p.shown

-- and no line shows more
pub exposed_most : (log : List LogLine) (key : List ℕ) (moment num : ℕ) → Shows log key moment num → num ≤ exposed log key moment
exposed_most log key moment num s =
    let k : number_exposed (is_on log key) (Emitted s.op num s.body s.near) ≤ exposed log key moment = shown_within (is_on log key) moment log (record { moment = s.shown_at; entry = Emitted s.op num s.body s.near }) s.emitted s.before in
    let f : number_exposed (is_on log key) (Emitted s.op num s.body s.near) ≡ num = rw s.on_key refl in
    omega (arith, k, f)

-- it never falls
pub exposed_rises : (log : List LogLine) (key : List ℕ) (m n : ℕ) → m ≤ n → exposed log key m ≤ exposed log key n
exposed_rises log key m n h = go (leb_tells 1 (exposed log key m))
  where
    go : ((nat_le 1 (exposed log key m) ≡ true) × (1 ≤ exposed log key m)) ⊎ ((nat_le 1 (exposed log key m) ≡ false) × (exposed log key m < 1)) → exposed log key m ≤ exposed log key n
    go (inl p) =
        let s = exposed_shown log key m p.1 in
        exposed_most log key n (exposed log key m) (record { op = s.op; shown_at = s.shown_at; body = s.body; near = s.near; emitted = s.emitted; on_key = s.on_key; before = le_trans s.before h })
    go (inr p) = omega (arith, p.1)

-- a number that is exposed has taken effect at a moment
pub taking_moment : (log : List LogLine) (key : List ℕ) (num moment : ℕ) → num ≤ exposed log key moment → (at : ℕ) × IsTakingMoment log key num at × (at ≤ moment)
taking_moment log key num zero h = (0, record { taken = h; first = λ m k. omega arith }, omega arith)
taking_moment log key num (suc moment) h = go (taking_moment log key num moment) (leb_tells num (exposed log key moment))
  where
    go : (num ≤ exposed log key moment → (at : ℕ) × IsTakingMoment log key num at × (at ≤ moment)) → ((nat_le num (exposed log key moment) ≡ true) × (num ≤ exposed log key moment)) ⊎ ((nat_le num (exposed log key moment) ≡ false) × (exposed log key moment < num))
        → (at : ℕ) × IsTakingMoment log key num at × (at ≤ suc moment)
    go f (inl p) = let t = f p.1 in (t.0, t.1, omega (arith, t.2))
    go f (inr p) = (suc moment, record { taken = h; first = λ m k. later m k (leb_tells m moment) }, omega arith)
      where
        later : (m : ℕ) → num ≤ exposed log key m → ((nat_le m moment ≡ true) × (m ≤ moment)) ⊎ ((nat_le m moment ≡ false) × (moment < m)) → suc moment ≤ m
        later m k (inl q) = omega (arith, k, p.1, exposed_rises log key m moment q.1)
        later m k (inr q) = omega (arith, q.1)

pub taking_unique : (log : List LogLine) (key : List ℕ) (num a b : ℕ) → IsTakingMoment log key num a → IsTakingMoment log key num b → a ≡ b
taking_unique log key num a b h k = omega (arith, h.first b k.taken, k.first a h.taken)

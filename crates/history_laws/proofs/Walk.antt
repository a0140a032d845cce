-- From facts on pairs of places to the walk over the history with a map.
use Rattle.far_base.specs.declared.record.Versioned.{Versioned}
use Rattle.std.proofs.Common.{◌≡◌, ℕ, ◌<◌, ◌≤◌, ◌⊎◌, inl, inr, Bool, true, false, true≢false, leb, List, [], ◌∷◌, refl, sym, ap, ◌∙◌, subst, arith}
use Rattle.std.specs.Prelude.{if◌then◌else◌}
use Rattle.std.specs.Bool.{MatchBool}
use Rattle.std.proofs.lemmas.Bool.Decides.{leb_tells}
use Rattle.far_base.specs.declared.log.LogLine.{LogLine}
use Rattle.far_base.specs.declared.log.Placed.{Placed}
use Rattle.far_model.specs.Members.{Among, Pairs}
use Rattle.far_model.specs.Log.{same_key}
use Rattle.far_model.specs.History.{Before, nothing, key_of, written_by, read_by, with_write, IsLegalFrom}
use Rattle.far_model.proofs.Members.{each_among}
use Rattle.far_invariants.proofs.Keys.{same_key_true, same_key_refl}

-- no place stands both before and after another
pub before_strict : (x y : Placed) → Before x y → Before y x → ⊥
before_strict x y h k = grind arith

-- a write whose effect a read sees
pub record Seen (log : List LogLine) (D : Placed → Type 0) (y : Placed) : Type 0 where
  pub write : Placed
  pub placed : D write
  pub is_write : write.read ≡ false
  pub on_key : key_of log write.op ≡ key_of log y.op
  pub same : read_by log y ≡ written_by log write
  pub before : Before write y

-- what the places of a history are to one another
pub record Fits (log : List LogLine) (D : Placed → Type 0) : Type 0 where
  -- a write before another operation of its key has a number of at most that one's
  pub up : (x y : Placed) → D x → D y → x.read ≡ false → key_of log x.op ≡ key_of log y.op → Before x y → x.num ≤ y.num
  -- an answer above 0 is that of a write before it
  pub from : (y : Placed) → D y → y.read ≡ true → 0 < y.num → Seen log D y
  pub zero : (y : Placed) → D y → y.read ≡ true → y.num ≡ 0 → read_by log y ≡ nothing
  pub number : (y : Placed) → D y → y.read ≡ true → (read_by log y).num ≡ y.num
  pub positive : (x : Placed) → D x → x.read ≡ false → 0 < x.num
  pub one : (x y : Placed) → D x → D y → x.read ≡ false → y.read ≡ false → x.num ≡ y.num → written_by log x ≡ written_by log y

-- a past write of the key that set it to this
pub record SetBy (log : List LogLine) (Past : Placed → Type 0) (held : Versioned) (key : List ℕ) : Type 0 where
  pub write : Placed
  pub past : Past write
  pub is_write : write.read ≡ false
  pub on_key : key_of log write.op ≡ key
  pub same : held ≡ written_by log write

-- what is held of a key is that of the greatest past write
pub record Knows (log : List LogLine) (Past : Placed → Type 0) (held : Versioned) (key : List ℕ) : Type 0 where
  pub most : (x : Placed) → Past x → x.read ≡ false → key_of log x.op ≡ key → x.num ≤ held.num
  pub whose : (held ≡ nothing) ⊎ SetBy log Past held key

module _ (log : List LogLine) (D : Placed → Type 0) (fits : Fits log D) where
  -- what a read sees is held, where the past is what stands before it
  read_held : (Past : Placed → Type 0) (y : Placed) (held : Versioned) → ((x : Placed) → Past x → D x) → ((x : Placed) → Past x → Before x y) → ((x : Placed) → D x → x.read ≡ false → Before x y → Past x)
      → D y → y.read ≡ true → Knows log Past held (key_of log y.op) → read_by log y ≡ held
  read_held Past y held sound before complete d r knows = go (leb_tells 1 y.num) knows.whose
    where
      least : (s : SetBy log Past held (key_of log y.op)) → s.write.num ≤ y.num
      least s = fits.up s.write y (sound s.write s.past) d s.is_write s.on_key (before s.write s.past)

      go : ((leb 1 y.num ≡ true) × (1 ≤ y.num)) ⊎ ((leb 1 y.num ≡ false) × (y.num < 1)) → (held ≡ nothing) ⊎ SetBy log Past held (key_of log y.op) → read_by log y ≡ held
      go (inr p) (inl e) = fits.zero y d r (omega (arith, p.1)) ∙ sym e
      go (inr p) (inr s) = absurd (omega (arith, p.1, least s, fits.positive s.write (sound s.write s.past) s.is_write))
      go (inl p) whose = seen (fits.from y d r p.1) whose
        where
          seen : Seen log D y → (held ≡ nothing) ⊎ SetBy log Past held (key_of log y.op) → read_by log y ≡ held
          seen w (inl e) =
              let past : Past w.write = complete w.write w.placed w.is_write w.before in
              let none : held.num ≡ 0 = ap (λ (h : Versioned). h.num) e in
              absurd (omega (arith, none, knows.most w.write past w.is_write w.on_key, fits.positive w.write w.placed w.is_write))
          seen w (inr s) =
              let past : Past w.write = complete w.write w.placed w.is_write w.before in
              let num : held.num ≡ s.write.num = ap (λ (h : Versioned). h.num) s.same in
              let own : (read_by log y).num ≡ w.write.num = ap (λ (h : Versioned). h.num) w.same in
              let alike : w.write.num ≡ s.write.num = omega (arith, num, own, fits.number y d r, knows.most w.write past w.is_write w.on_key, least s) in
              w.same ∙ fits.one w.write s.write w.placed (sound s.write s.past) w.is_write s.is_write alike ∙ sym s.same

  -- after a write the map holds the greatest past write of each key
  write_known : (Past : Placed → Type 0) (p : Placed) (map : List ℕ → Versioned) → ((x : Placed) → Past x → D x) → ((x : Placed) → Past x → Before x p)
      → D p → p.read ≡ false → ((key : List ℕ) → Knows log Past (map key) key) → (key : List ℕ) → Knows log (λ x. Past x ⊎ (x ≡ p)) (with_write map (key_of log p.op) (written_by log p) key) key
  write_known Past p map sound before d w knows key = go (same_key key (key_of log p.op)) refl
    where
      go : (b : Bool) → same_key key (key_of log p.op) ≡ b → Knows log (λ x. Past x ⊎ (x ≡ p)) (if b then written_by log p else map key) key
      go true e =
          let on : key ≡ key_of log p.op = same_key_true key (key_of log p.op) e in
          record { most = λ x k r f. most on x k r f; whose = inr (record { write = p; past = inr refl; is_write = w; on_key = sym on; same = refl }) }
        where
          most : key ≡ key_of log p.op → (x : Placed) → Past x ⊎ (x ≡ p) → x.read ≡ false → key_of log x.op ≡ key → x.num ≤ p.num
          most on x (inl k) r f = fits.up x p (sound x k) d r (f ∙ on) (before x k)
          most on x (inr k) r f = let n : x.num ≡ p.num = ap (λ (q : Placed). q.num) k in omega (arith, n)
      go false e = record { most = most; whose = whose (knows key).whose }
        where
          most : (x : Placed) → Past x ⊎ (x ≡ p) → x.read ≡ false → key_of log x.op ≡ key → x.num ≤ (map key).num
          most x (inl k) r f = (knows key).most x k r f
          most x (inr k) r f =
              let same : key ≡ key_of log p.op = sym f ∙ ap (λ (q : Placed). key_of log q.op) k in
              let yes : same_key key (key_of log p.op) ≡ true = subst (λ z. same_key key z ≡ true) same (same_key_refl key) in
              absurd (true≢false (sym yes ∙ e))

          whose : (map key ≡ nothing) ⊎ SetBy log Past (map key) key → (map key ≡ nothing) ⊎ SetBy log (λ x. Past x ⊎ (x ≡ p)) (map key) key
          whose (inl k) = inl k
          whose (inr s) = inr (record { write = s.write; past = inl s.past; is_write = s.is_write; on_key = s.on_key; same = s.same })

  -- after a read nothing changes
  read_known : (Past : Placed → Type 0) (p : Placed) (held : Versioned) (key : List ℕ) → p.read ≡ true → Knows log Past held key → Knows log (λ x. Past x ⊎ (x ≡ p)) held key
  read_known Past p held key r knows = record { most = most; whose = whose knows.whose }
    where
      most : (x : Placed) → Past x ⊎ (x ≡ p) → x.read ≡ false → key_of log x.op ≡ key → x.num ≤ held.num
      most x (inl k) w f = knows.most x k w f
      most x (inr k) w f = absurd (true≢false (sym r ∙ sym (ap (λ (q : Placed). q.read) k) ∙ w))

      whose : (held ≡ nothing) ⊎ SetBy log Past held key → (held ≡ nothing) ⊎ SetBy log (λ x. Past x ⊎ (x ≡ p)) held key
      whose (inl k) = inl k
      whose (inr s) = inr (record { write = s.write; past = inl s.past; is_write = s.is_write; on_key = s.on_key; same = s.same })

  pub walk : (Past : Placed → Type 0) (rest : List Placed) (map : List ℕ → Versioned) → ((x : Placed) → Past x → D x) → ((x : Placed) → Among x rest → D x) → ((x : Placed) → D x → Past x ⊎ Among x rest)
      → ((x y : Placed) → Past x → Among y rest → Before x y) → Pairs Before rest → ((key : List ℕ) → Knows log Past (map key) key) → IsLegalFrom log map rest
  walk Past [] map sound there complete before ordered knows = tt
  walk Past (p ∷ ps) map sound there complete before ordered knows =
      go p.read refl (λ known. walk (λ x. Past x ⊎ (x ≡ p)) ps map sound' (λ x h. there x (inr h)) complete' before' ordered.1 known)
      (λ known. walk (λ x. Past x ⊎ (x ≡ p)) ps (with_write map (key_of log p.op) (written_by log p)) sound' (λ x h. there x (inr h)) complete' before' ordered.1 known)
    where
      sound' : (x : Placed) → Past x ⊎ (x ≡ p) → D x
      sound' x (inl h) = sound x h
      sound' x (inr e) = subst D (sym e) (there p (inl refl))

      moved : (x : Placed) → Past x ⊎ Among x (p ∷ ps) → (Past x ⊎ (x ≡ p)) ⊎ Among x ps
      moved x (inl h) = inl (inl h)
      moved x (inr (inl e)) = inl (inr e)
      moved x (inr (inr h)) = inr h

      complete' : (x : Placed) → D x → (Past x ⊎ (x ≡ p)) ⊎ Among x ps
      complete' x d = moved x (complete x d)

      before' : (x y : Placed) → Past x ⊎ (x ≡ p) → Among y ps → Before x y
      before' x y (inl h) k = before x y h (inr k)
      before' x y (inr e) k = subst (λ z. Before z y) (sym e) (each_among (Before p) y ps ordered.0 k)

      -- a write that stands before is past
      passed : (x : Placed) → x.read ≡ false → Before x p → Past x ⊎ Among x (p ∷ ps) → p.read ≡ true → Past x
      passed x w b (inl h) r = h
      passed x w b (inr (inl e)) r = absurd (true≢false (sym r ∙ sym (ap (λ (q : Placed). q.read) e) ∙ w))
      passed x w b (inr (inr h)) r = absurd (before_strict x p b (each_among (Before p) x ps ordered.0 h))

      go : (b : Bool) → p.read ≡ b → (((key : List ℕ) → Knows log (λ x. Past x ⊎ (x ≡ p)) (map key) key) → IsLegalFrom log map ps)
          → (((key : List ℕ) → Knows log (λ x. Past x ⊎ (x ≡ p)) (with_write map (key_of log p.op) (written_by log p) key) key) → IsLegalFrom log (with_write map (key_of log p.op) (written_by log p)) ps)
          → MatchBool b ((read_by log p ≡ map (key_of log p.op)) × IsLegalFrom log map ps) (IsLegalFrom log (with_write map (key_of log p.op) (written_by log p)) ps)
      go true r f g = (
        read_held Past p (map (key_of log p.op)) sound (λ x h. before x p h (inl refl)) (λ x d w b. passed x w b (complete x d) r) (there p (inl refl)) r (knows (key_of log p.op)),
        f (λ key. read_known Past p (map key) key r (knows key)),
      )
      go false w f g = g (write_known Past p map sound (λ x h. before x p h (inl refl)) (there p (inl refl)) w knows)

  pub legal : (history : List Placed) → Pairs Before history → ((x : Placed) → Among x history → D x) → ((x : Placed) → D x → Among x history) → IsLegalFrom log (λ key. nothing) history
  legal history ordered there complete =
      walk (λ x. ⊥) history (λ key. nothing) (λ x h. absurd h) there (λ x d. inr (complete x d)) (λ x y h k. absurd h) ordered
      (λ key. record { most = λ x h r f. absurd h; whose = inl refl })

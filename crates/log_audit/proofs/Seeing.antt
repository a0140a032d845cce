-- What a walk knows of the lines that it has seen, with one line more.
use Rattle.std.proofs.Common.{◌≡◌, ◌≢◌, ℕ, ◌<◌, ◌≤◌, max, ◌⊎◌, inl, inr, Bool, true, false, cond, List, [], ◌∷◌, ◌++◌, refl, sym, ap, ◌∙◌, subst, arith}
use Rattle.std.specs.Prelude.{Option, Some, not}
use Rattle.std.specs.declared.cmp.Ordering.{Ordering}
use Rattle.std.specs.declared.cmp.Ordering.TheVariants.{Less, Equal, Greater}
use Rattle.std.specs.Ordering.{nat_cmp, is_eq, ordering_reverse}
use Rattle.std.specs.BTreeSet.{contains}
use Rattle.std.specs.Cmp.Lexicographic.{slice_cmp}
use Rattle.std.proofs.lemmas.Bool.{cases_lt}
use Rattle.std.proofs.lemmas.Cmp.{nat_cmp_total}
use Rattle.std.proofs.lemmas.Map.Lookups.{exact_bytes, exact_unsigned}
use Rattle.far_base.specs.declared.record.Versioned.{Versioned}
use Rattle.far_history.proofs.Keys.{same_key_tells}
use Rattle.far_history.proofs.Orders.{key_self}
use Rattle.far_model.specs.History.{nothing, with_write}
use Rattle.far_model.specs.Log.{is_read, same_key}
use Rattle.far_model.specs.Members.{Among, Each}
use Rattle.far_model.proofs.Members.{among_append_left, among_append_right, each_among, each_from_among}
use Rattle.log_audit.specs.Good.{IsGood, held_of, map_with}
use Rattle.log_audit.specs.Walk.{HasOp, HasSeen, HoldsWith, IsLatest, MayFollow, held_by, map_after, or_nothing}
use Rattle.log_audit.specs.declared.judging.Seen.{Seen}
use Rattle.log_audit.specs.declared.line.HistLine.{HistLine}
use Rattle.log_audit.proofs.Judged.{GoesOn, each_more, good_last, good_more, good_none, map_more}

-- ---- what the keys are set to

-- a write sets its key
pub written : (key : List ℕ) (version : Versioned) (old now : List ℕ → Option Versioned) → ((q : List ℕ) → now q ≡ cond (is_eq (slice_cmp nat_cmp key q)) (Some version) (old q))
    → (q : List ℕ) → or_nothing (now q) ≡ with_write (λ k. or_nothing (old k)) key version q
written key version old now set q = go (slice_cmp nat_cmp key q) refl (same_key_tells q key)
  where
    at_key : (o : Ordering) → slice_cmp nat_cmp key q ≡ o → now q ≡ cond (is_eq o) (Some version) (old q)
    at_key o e = set q ∙ ap (λ (x : Ordering). cond (is_eq x) (Some version) (old q)) e

    go : (o : Ordering) → slice_cmp nat_cmp key q ≡ o → ((same_key q key ≡ true) × (q ≡ key)) ⊎ ((same_key q key ≡ false) × (q ≢ key)) → or_nothing (now q) ≡ cond (same_key q key) version (or_nothing (old q))
    go Equal e (inl s) = ap or_nothing (at_key Equal e) ∙ sym (ap (λ (b : Bool). cond b version (or_nothing (old q))) s.0)
    go Equal e (inr s) = absurd (s.1 (sym (exact_bytes key q e)))
    go Less e (inl s) = absurd (let z : slice_cmp nat_cmp key q ≡ Equal = key_self key q (sym s.1) in cc)
    go Greater e (inl s) = absurd (let z : slice_cmp nat_cmp key q ≡ Equal = key_self key q (sym s.1) in cc)
    go Less e (inr s) = ap or_nothing (at_key Less e) ∙ sym (ap (λ (b : Bool). cond b version (or_nothing (old q))) s.0)
    go Greater e (inr s) = ap or_nothing (at_key Greater e) ∙ sym (ap (λ (b : Bool). cond b version (or_nothing (old q))) s.0)

-- a read leaves all as it was
pub read_leaves : (l : HistLine) (map : List ℕ → Versioned) (q : List ℕ) → is_read l.kind ≡ true → map q ≡ map_with map l q
read_leaves l map q r = sym (ap (λ (b : Bool). cond b map (with_write map l.key (held_of l)) q) r)

pub write_sets : (l : HistLine) (map : List ℕ → Versioned) (q : List ℕ) → is_read l.kind ≡ false → with_write map l.key (held_of l) q ≡ map_with map l q
write_sets l map q r = sym (ap (λ (b : Bool). cond b map (with_write map l.key (held_of l)) q) r)

same_maps : (first second : List ℕ → Versioned) (l : HistLine) (q : List ℕ) → ((k : List ℕ) → first k ≡ second k) → map_with first l q ≡ map_with second l q
same_maps first second l q same = go (is_read l.kind)
  where
    go : (b : Bool) → cond b first (with_write first l.key (held_of l)) q ≡ cond b second (with_write second l.key (held_of l)) q
    go true = same q
    go false = ap (λ (v : Versioned). cond (same_key q l.key) (held_of l) v) (same q)

-- ---- the operations

num_self : (a : ℕ) → nat_cmp a a ≡ Equal
num_self a = go (nat_cmp a a) refl
  where
    go : (o : Ordering) → nat_cmp a a ≡ o → nat_cmp a a ≡ Equal
    go Less e = let z = sym e ∙ (nat_cmp_total.antisymm a a ∙ ap ordering_reverse e) in absurd cc
    go Equal e = e
    go Greater e = let z = sym e ∙ (nat_cmp_total.antisymm a a ∙ ap ordering_reverse e) in absurd cc

one_op : (lines : List HistLine) (l : HistLine) → HasOp (lines ++ l ∷ []) l.op
one_op lines l = record { line = l; among = among_append_right l lines (l ∷ []) (inl refl); is = refl }

op_stays : (lines : List HistLine) (l : HistLine) (op : ℕ) → HasOp lines op → HasOp (lines ++ l ∷ []) op
op_stays lines l op h = record { line = h.line; among = among_append_left h.line lines (l ∷ []) h.among; is = h.is }

module _ (lines : List HistLine) (l : HistLine) (old now : ℕ → Bool) (set : (q : ℕ) → now q ≡ cond (is_eq (nat_cmp l.op q)) true (old q)) where
  not_equal : (o : Ordering) (op : ℕ) → is_eq o ≡ false → nat_cmp l.op op ≡ o → now op ≡ old op
  not_equal o op b e = set op ∙ ap (λ (x : Ordering). cond (is_eq x) true (old op)) e ∙ ap (λ (x : Bool). cond x true (old op)) b

  other_op : (o : Ordering) (op : ℕ) → is_eq o ≡ false → nat_cmp l.op op ≡ o → l.op ≢ op
  other_op o op b e same =
      let self : nat_cmp l.op op ≡ Equal = subst (λ (q : ℕ). nat_cmp l.op q ≡ Equal) same (num_self l.op) in
      let z : true ≡ false = ap is_eq (sym self ∙ e) ∙ b in
      absurd cc

  new_ops : ((op : ℕ) → old op ≡ false → Each (λ (x : HistLine). x.op ≢ op) lines) → (op : ℕ) → now op ≡ false → Each (λ (x : HistLine). x.op ≢ op) (lines ++ l ∷ [])
  new_ops h op none = go (nat_cmp l.op op) refl
    where
      apart : (o : Ordering) → is_eq o ≡ false → nat_cmp l.op op ≡ o → Each (λ (x : HistLine). x.op ≢ op) (lines ++ l ∷ [])
      apart o b e = each_more (λ (x : HistLine). x.op ≢ op) lines l (h op (sym (not_equal o op b e) ∙ none)) (other_op o op b e)

      go : (o : Ordering) → nat_cmp l.op op ≡ o → Each (λ (x : HistLine). x.op ≢ op) (lines ++ l ∷ [])
      go Less e = apart Less refl e
      go Greater e = apart Greater refl e
      go Equal e =
          let there : now op ≡ true = set op ∙ ap (λ (x : Ordering). cond (is_eq x) true (old op)) e in
          let z : true ≡ false = sym there ∙ none in
          absurd cc

  old_ops : ((op : ℕ) → old op ≡ true → HasOp lines op) → (op : ℕ) → now op ≡ true → HasOp (lines ++ l ∷ []) op
  old_ops h op there = go (nat_cmp l.op op) refl
    where
      go : (o : Ordering) → nat_cmp l.op op ≡ o → HasOp (lines ++ l ∷ []) op
      go Less e = op_stays lines l op (h op (sym (not_equal Less op refl e) ∙ there))
      go Greater e = op_stays lines l op (h op (sym (not_equal Greater op refl e) ∙ there))
      go Equal e = subst (HasOp (lines ++ l ∷ [])) (exact_unsigned l.op op e) (one_op lines l)

-- ---- the latest moment

pub latest_none : IsLatest [] 0
latest_none = record { most = tt; whose = inl refl }

latest_more : (lines : List HistLine) (l : HistLine) (latest : ℕ) → IsLatest lines latest → IsLatest (lines ++ l ∷ []) (max l.sent latest)
latest_more lines l latest h = record {
  most = each_more (λ (x : HistLine). x.sent ≤ max l.sent latest) lines l
      (each_from_among (λ (x : HistLine). x.sent ≤ max l.sent latest) lines (λ x a. let le : x.sent ≤ latest = each_among (λ (y : HistLine). y.sent ≤ latest) x lines h.most a in omega (arith, le))) (omega arith);
  whose = go (cases_lt l.sent latest) h.whose;
}
  where
    here : Among l (lines ++ l ∷ [])
    here = among_append_right l lines (l ∷ []) (inl refl)

    go : (l.sent < latest) ⊎ (latest ≤ l.sent) → (latest ≡ 0) ⊎ ((line : HistLine) × Among line lines × (line.sent ≡ latest))
        → (max l.sent latest ≡ 0) ⊎ ((line : HistLine) × Among line (lines ++ l ∷ []) × (line.sent ≡ max l.sent latest))
    go (inr le) w = inr (l, here, omega (arith, le))
    go (inl lt) (inl z) = absurd (omega (arith, lt, z))
    go (inl lt) (inr w) = let same = w.2 in inr (w.0, among_append_left w.0 lines (l ∷ []) w.1, omega (arith, lt, same))

-- the moments of a good next line go with the latest one
latest_within : (lines : List HistLine) (l : HistLine) (latest : ℕ) → IsLatest lines latest → Each (λ (x : HistLine). x.sent ≤ l.answered) lines → latest ≤ l.answered
latest_within lines l latest h each = go h.whose
  where
    go : (latest ≡ 0) ⊎ ((line : HistLine) × Among line lines × (line.sent ≡ latest)) → latest ≤ l.answered
    go (inl z) = omega (arith, z)
    go (inr w) =
        let le : w.0.sent ≤ l.answered = each_among (λ (x : HistLine). x.sent ≤ l.answered) w.0 lines each w.1 in
        let same = w.2 in
        omega (arith, le, same)

all_within : (lines : List HistLine) (l : HistLine) (latest : ℕ) → IsLatest lines latest → latest ≤ l.answered → Each (λ (x : HistLine). x.sent ≤ l.answered) lines
all_within lines l latest h le = each_from_among (λ (x : HistLine). x.sent ≤ l.answered) lines (λ x a. let most : x.sent ≤ latest = each_among (λ (y : HistLine). y.sent ≤ latest) x lines h.most a in omega (arith, most, le))

-- ---- what was seen

-- a line that may follow goes with those that were seen
follows : (lines : List HistLine) (l : HistLine) (s : Seen) → HasSeen lines s → MayFollow s l → contains nat_cmp s.ops l.op ≡ false → GoesOn lines l
follows lines l s h may none = record {
  new_op = h.new_op l.op none;
  span = may.span;
  legal = λ r. may.legal r ∙ h.held l.key;
  later = all_within lines l s.latest h.latest may.later;
}

pub seen_more : (lines : List HistLine) (l : HistLine) (old new : Seen) → HasSeen lines old → MayFollow old l → contains nat_cmp old.ops l.op ≡ false → ((q : ℕ) → contains nat_cmp new.ops q ≡ cond (is_eq (nat_cmp l.op q)) true (contains nat_cmp old.ops q)) → HoldsWith l old.held new.held
    → new.latest ≡ max l.sent old.latest → HasSeen (lines ++ l ∷ []) new
seen_more lines l old new h may none ops held latest = record {
  good = good_more lines l h.good (follows lines l old h may none);
  held = λ key. held key ∙ same_maps (held_by old.held) (map_after (λ key. nothing) lines) l key h.held ∙ sym (ap (λ (map : List ℕ → Versioned). map key) (map_more (λ key. nothing) lines l));
  new_op = new_ops lines l (contains nat_cmp old.ops) (contains nat_cmp new.ops) ops h.new_op;
  old_op = old_ops lines l (contains nat_cmp old.ops) (contains nat_cmp new.ops) ops h.old_op;
  latest = subst (IsLatest (lines ++ l ∷ [])) (sym latest) (latest_more lines l old.latest h.latest);
}

pub must_follow : (lines : List HistLine) (l : HistLine) (s : Seen) → HasSeen lines s → IsGood (lines ++ l ∷ []) → MayFollow s l
must_follow lines l s h good =
    let k = good_last lines l good in
    record { span = k.span; later = latest_within lines l s.latest h.latest k.later; legal = λ r. k.legal r ∙ sym (h.held l.key) }

pub must_be_new : (lines : List HistLine) (l : HistLine) (s : Seen) → HasSeen lines s → contains nat_cmp s.ops l.op ≡ true → IsGood (lines ++ l ∷ []) → ⊥
must_be_new lines l s h there good =
    let k = good_last lines l good in
    let o = h.old_op l.op there in
    each_among (λ (x : HistLine). x.op ≢ l.op) o.line lines k.new_op o.among o.is

pub nothing_seen : (s : Seen) → ((key : List ℕ) → held_by s.held key ≡ nothing) → ((op : ℕ) → contains nat_cmp s.ops op ≡ false) → s.latest ≡ 0 → HasSeen [] s
nothing_seen s held ops latest = record {
  good = good_none;
  held = held;
  new_op = λ op none. tt;
  old_op = λ op there. absurd (let z = sym there ∙ ops op in cc);
  latest = subst (IsLatest []) (sym latest) latest_none;
}

pub not_true : (b x : Bool) → b ≡ not x → b ≡ false → x ≡ true
not_true b true e f = refl
not_true b false e f = absurd (let z : true ≡ false = sym e ∙ f in cc)

pub not_false : (b x : Bool) → b ≡ not x → b ≡ true → x ≡ false
not_false b false e f = refl
not_false b true e f = absurd (let z : false ≡ true = sym e ∙ f in cc)

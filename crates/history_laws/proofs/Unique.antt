-- A log has one history, and a history one final map.
use Rattle.std.proofs.Common.{◌≡◌, ℕ, ◌<◌, ◌≤◌, max, ◌⊎◌, inl, inr, Bool, true, false, leb, List, refl, sym, ap, ◌∙◌, subst, arith}
use Rattle.std.specs.Prelude.{Some, None, slice_get}
use Rattle.std.specs.Ordering.{nat_cmp, ordering_reverse}
use Rattle.std.specs.Cmp.Lexicographic.{slice_cmp}
use Rattle.std.specs.declared.cmp.Ordering.TheVariants.{Less, Greater}
use Rattle.std.proofs.lemmas.Bool.{MatchBool-at_true, MatchBool-at_false}
use Rattle.std.proofs.lemmas.Bool.Decides.{leb_tells}
use Rattle.std.proofs.lemmas.Cmp.{nat_list_cmp_total}
use Rattle.std.proofs.lemmas.Option.{same_Some}
use Rattle.far_base.specs.declared.plan.OpLine.{OpLine}
use Rattle.far_base.specs.declared.record.Record.{Record}
use Rattle.far_base.specs.declared.log.LogLine.{LogLine}
use Rattle.far_base.specs.declared.log.Placed.{Placed}
use Rattle.far_model.specs.Members.{Pairs}
use Rattle.far_model.specs.Log.{At, Answer, is_read, sending, numbering, emission, IsTakingMoment}
use Rattle.far_model.specs.History.{Before, IsWritePlace, IsReadPlace, IsPlace, IsHistory, IsKeyBefore, IsFinalMap, last_write, held_in}
use Rattle.far_model.proofs.Members.{among_at, pairs_at, pairs_unique}
use Rattle.history_laws.proofs.Exposed.{taking_unique}
use Rattle.history_laws.proofs.Walk.{before_strict}

-- an operation has one place
pub same_place : (log : List LogLine) (x y : Placed) → IsPlace log x → IsPlace log y → x.op ≡ y.op → x ≡ y
same_place log x y hx hy op = go x.read refl
  where
    sent : hx.sent ≡ hy.sent
    sent = same_Some _ _ (sym hx.first ∙ ap (sending log) op ∙ hy.first)

    kind : x.read ≡ y.read
    kind = hx.kind ∙ ap (λ (s : At OpLine). is_read s.what.op) sent ∙ sym hy.kind

    takes : (a : ℕ) → x.num ≡ y.num → IsTakingMoment log hx.sent.what.key x.num a → IsTakingMoment log hy.sent.what.key y.num a
    takes a num t = subst (λ (s : At OpLine). IsTakingMoment log s.what.key y.num a) sent (subst (λ n. IsTakingMoment log hx.sent.what.key n a) num t)

    go : (r : Bool) → x.read ≡ r → x ≡ y
    go false r =
        let px = MatchBool-at_false (IsReadPlace log hx.sent.moment hx.sent.what x) (IsWritePlace log hx.sent.what x) r hx.stands in
        let py = MatchBool-at_false (IsReadPlace log hy.sent.moment hy.sent.what y) (IsWritePlace log hy.sent.what y) (sym kind ∙ r) hy.stands in
        let num : x.num ≡ y.num = px.own ∙ ap (λ (n : At ℕ). n.what) (same_Some _ _ (sym px.first ∙ ap (numbering log) op ∙ py.first)) ∙ sym py.own in
        let moment : x.moment ≡ y.moment = taking_unique log hy.sent.what.key y.num x.moment y.moment (takes x.moment num px.taking) py.taking in
        λ i. record { moment = moment i; num = num i; read = kind i; op = op i }
    go true r =
        let px = MatchBool-at_true (IsReadPlace log hx.sent.moment hx.sent.what x) (IsWritePlace log hx.sent.what x) r hx.stands in
        let py = MatchBool-at_true (IsReadPlace log hy.sent.moment hy.sent.what y) (IsWritePlace log hy.sent.what y) (sym kind ∙ r) hy.stands in
        let num : x.num ≡ y.num = px.read ∙ ap (λ (e : At Answer). e.what.num) (same_Some _ _ (sym px.first ∙ ap (emission log) op ∙ py.first)) ∙ sym py.read in
        let taken : px.taken_at ≡ py.taken_at = taking_unique log hy.sent.what.key y.num px.taken_at py.taken_at (takes px.taken_at num px.taking) py.taking in
        let moment : x.moment ≡ y.moment = px.moment ∙ (λ i. max (taken i) (sent i).moment) ∙ sym py.moment in
        λ i. record { moment = moment i; num = num i; read = kind i; op = op i }

-- in a strictly ordered list nothing stands twice
pub stands_once : {A : Type 0} → (R : A → A → Type 0) → ((x y : A) → R x y → R y x → ⊥) → (xs : List A) → Pairs R xs → (i j : ℕ) (x y : A) → slice_get xs i ≡ Some x → slice_get xs j ≡ Some y → x ≡ y → i ≡ j
stands_once R strict xs ordered i j x y p q same = go (leb_tells i j) (leb_tells j i)
  where
    not_before : (k l : ℕ) (z w : _) → slice_get xs k ≡ Some z → slice_get xs l ≡ Some w → z ≡ w → k < l → ⊥
    not_before k l z w m n e lt =
        let r : R z z = subst (λ v. R z v) (sym e) (pairs_at R z w xs k l ordered m n lt) in
        strict z z r r

    go : ((leb i j ≡ true) × (i ≤ j)) ⊎ ((leb i j ≡ false) × (j < i)) → ((leb j i ≡ true) × (j ≤ i)) ⊎ ((leb j i ≡ false) × (i < j)) → i ≡ j
    go (inl a) (inl b) = omega (arith, a.1, b.1)
    go (inr a) b = absurd (not_before j i y x q p (sym same) a.1)
    go (inl a) (inr b) = absurd (not_before i j x y p q same b.1)

pub operation_once : (log : List LogLine) (history : List Placed) → IsHistory log history → (i j : ℕ) (x y : Placed) → slice_get history i ≡ Some x → slice_get history j ≡ Some y → x.op ≡ y.op → i ≡ j
operation_once log history h i j x y p q op =
    stands_once Before before_strict history h.ordered i j x y p q (same_place log x y (h.sound x (among_at x history i p)) (h.sound y (among_at y history j q)) op)

pub the_history : (log : List LogLine) (a b : List Placed) → IsHistory log a → IsHistory log b → a ≡ b
the_history log a b h k = pairs_unique Before before_strict a b h.ordered k.ordered (λ x m. k.complete x (h.sound x m)) (λ x m. h.complete x (k.sound x m))

pub key_strict : (a b : Record) → IsKeyBefore a b → IsKeyBefore b a → ⊥
key_strict a b h k =
    let back : slice_cmp nat_cmp a.key b.key ≡ ordering_reverse (slice_cmp nat_cmp b.key a.key) = nat_list_cmp_total.antisymm a.key b.key in
    let greater : Less ≡ Greater = sym h ∙ back ∙ ap ordering_reverse k in
    absurd cc

pub one_final_map : (log : List LogLine) (history : List Placed) (a b : List Record) → IsFinalMap log history a → IsFinalMap log history b → a ≡ b
one_final_map log history a b h k = pairs_unique IsKeyBefore key_strict a b h.ordered k.ordered (λ r m. k.complete r (h.sound r m)) (λ r m. h.complete r (k.sound r m))

-- a map has one record of a key
pub record_once : (log : List LogLine) (history : List Placed) (map : List Record) → IsFinalMap log history map → (i j : ℕ) (x y : Record) → slice_get map i ≡ Some x → slice_get map j ≡ Some y → x.key ≡ y.key → i ≡ j
record_once log history map h i j x y p q e =
    let a : last_write log x.key None history ≡ Some (held_in x) = h.sound x (among_at x map i p) in
    let b : last_write log y.key None history ≡ Some (held_in y) = h.sound y (among_at y map j q) in
    let held : held_in x ≡ held_in y = same_Some _ _ (sym a ∙ ap (λ key. last_write log key None history) e ∙ b) in
    stands_once IsKeyBefore key_strict map h.ordered i j x y p q (λ k. record { key = e k; num = (held k).num; body = (held k).body })

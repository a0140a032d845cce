-- A round is ready where all have answered.
use Rattle.std.proofs.Common.{◌≡◌, ◌≢◌, ◌⊎◌, inl, inr, ℕ, ◌≤◌, ◌<◌, max, Bool, true, false, ◌&&◌, List, [], ◌∷◌, refl, sym, ap, ◌∙◌, subst, arith, true≢false, eq-eqb, eqb-true, leb-true, le-leb}
use Rattle.std.specs.Prelude.{Option, None, Some, if◌then◌else◌, is_some, nat_eq}
use Rattle.std.specs.List.{list_all}
use Rattle.std.proofs.lemmas.Bool.{cases_lt}
use Rattle.std.proofs.lemmas.Option.{none-some, same_Some}
use Rattle.far_model.specs.Controller.{ControllerState, ready, ready_in}
use Rattle.far_model.specs.Members.{Among}
use Rattle.far_model.specs.Rounds.{Round, Telling, greatest_top, has_told, told_of}
use Rattle.far_model.proofs.Members.{among_at, place_of}
use Rattle.model_laws.specs.Rounds.{AllHaveAnswered, HasTold, IsFromTops, IsGreatestTop, IsReady}

both : (a b : Bool) → (a && b) ≡ true → (a ≡ true) × (b ≡ true)
both true true h = (refl, refl)
both true false h = absurd (true≢false (sym h))
both false b h = absurd (true≢false (sym h))

joined : (a b : Bool) → a ≡ true → b ≡ true → (a && b) ≡ true
joined true true h k = refl
joined true false h k = k
joined false b h k = h

all_pass : {X : Type 0} (test : X → Bool) (xs : List X) → list_all test xs ≡ true → (x : X) → Among x xs → test x ≡ true
all_pass test [] h x a = absurd a
all_pass test (y ∷ ys) h x (inl e) = ap test e ∙ (both (test y) (list_all test ys) h).0
all_pass test (y ∷ ys) h x (inr a) = all_pass test ys (both (test y) (list_all test ys) h).1 x a

pass_all : {X : Type 0} (test : X → Bool) (xs : List X) → ((x : X) → Among x xs → test x ≡ true) → list_all test xs ≡ true
pass_all test [] h = refl
pass_all test (y ∷ ys) h = joined (test y) (list_all test ys) (h y (inl refl)) (pass_all test ys (λ x a. h x (inr a)))

told_out : (t : Telling) → has_told t ≡ true → HasTold t
told_out t h = go t.total refl h
  where
    go : (o : Option ℕ) → t.total ≡ o → told_of o t.count ≡ true → HasTold t
    go None e k = absurd (true≢false (sym k))
    go (Some total) e k = record { total = total; said = e; came = leb-true (max total 1) t.count k }

told_in : (t : Telling) → HasTold t → has_told t ≡ true
told_in t h = rw h.said (le-leb (max h.total 1) t.count h.came)

some_in : {X : Type 0} (o : Option X) → o ≢ None → is_some o ≡ true
some_in None h = absurd (h refl)
some_in (Some x) h = refl

some_out : {X : Type 0} (o : Option X) → is_some o ≡ true → o ≢ None
some_out None h e = absurd (true≢false (sym h))
some_out (Some x) h e = none-some x (sym e)

abbrev all_in : Round → Bool
all_in r = (r.asked && list_all is_some r.tops) && (list_all has_told r.told && nat_eq r.stores 0)

answered_out : (r : Round) → all_in r ≡ true → AllHaveAnswered r
answered_out r h =
    let p = both (r.asked && list_all is_some r.tops) (list_all has_told r.told && nat_eq r.stores 0) h in
    let q = both r.asked (list_all is_some r.tops) p.0 in
    let s = both (list_all has_told r.told) (nat_eq r.stores 0) p.1 in
    record {
      clients = λ client t a. told_out t (all_pass has_told r.told s.0 t (among_at t r.told client a));
      stores = eqb-true r.stores 0 s.1;
      asked = q.0;
      servers = λ server top a. some_out top (all_pass is_some r.tops q.1 top (among_at top r.tops server a));
    }

answered_in : (r : Round) → AllHaveAnswered r → all_in r ≡ true
answered_in r h = joined _ _
    (joined _ _ h.asked (pass_all is_some r.tops (λ top a. let p = place_of top r.tops a in some_in top (h.servers p.0 top p.1))))
    (joined _ _ (pass_all has_told r.told (λ t a. let p = place_of t r.told a in told_in t (h.clients p.0 t p.1))) (eq-eqb r.stores 0 h.stores))

pub ready_out : (c : ControllerState) → ready c ≢ None → IsReady c
ready_out c h = by_round c.round refl h
  where
    by_test : (r : Round) → c.round ≡ Some r → (b : Bool) → all_in r ≡ b → (if b then Some (greatest_top r.tops) else None) ≢ None → IsReady c
    by_test r e true k m = record { round = r; there = e; answered = answered_out r k }
    by_test r e false k m = absurd (m refl)

    by_round : (o : Option Round) → c.round ≡ o → ready_in o ≢ None → IsReady c
    by_round None e k = absurd (k refl)
    by_round (Some r) e k = by_test r e (all_in r) refl k

pub ready_is : (c : ControllerState) → IsReady c → ready c ≢ None
ready_is c h e =
    let is : ready c ≡ Some (greatest_top h.round.tops) = ap ready_in h.there ∙ ap (λ b. if b then Some (greatest_top h.round.tops) else None) (answered_in h.round h.answered) in
    none-some (greatest_top h.round.tops) (sym e ∙ is)

-- ---- the greatest of the tops

above : (tops : List (Option ℕ)) (top : ℕ) → Among (Some top) tops → top ≤ greatest_top tops
above [] top a = absurd a
above (None ∷ tops) top (inl e) = absurd (none-some top (sym e))
above (None ∷ tops) top (inr a) = above tops top a
above (Some t ∷ tops) top (inl e) = omega (arith, same_Some _ _ e)
above (Some t ∷ tops) top (inr a) = omega (arith, above tops top a)

told : (tops : List (Option ℕ)) → (greatest_top tops ≡ 0) ⊎ Among (Some (greatest_top tops)) tops
told [] = inl refl
told (None ∷ tops) = further (told tops)
  where
    further : (greatest_top tops ≡ 0) ⊎ Among (Some (greatest_top tops)) tops → (greatest_top tops ≡ 0) ⊎ Among (Some (greatest_top tops)) (None ∷ tops)
    further (inl e) = inl e
    further (inr a) = inr (inr a)
told (Some t ∷ tops) = go (cases_lt t (greatest_top tops)) (told tops)
  where
    go : (t < greatest_top tops) ⊎ (greatest_top tops ≤ t) → (greatest_top tops ≡ 0) ⊎ Among (Some (greatest_top tops)) tops → (max t (greatest_top tops) ≡ 0) ⊎ Among (Some (max t (greatest_top tops))) (Some t ∷ tops)
    go (inr l) k = let e : max t (greatest_top tops) ≡ t = omega arith in inr (inl (ap Some e))
    go (inl l) (inl e) = absurd (omega arith)
    go (inl l) (inr a) = let e : greatest_top tops ≡ max t (greatest_top tops) = omega arith in inr (inr (subst (λ n. Among (Some n) tops) e a))

pub from_tops : (c : ControllerState) (counter : ℕ) → ready c ≡ Some counter → IsFromTops c counter
from_tops c counter h = by_round c.round refl h
  where
    by_test : (r : Round) → c.round ≡ Some r → (b : Bool) → (if b then Some (greatest_top r.tops) else None) ≡ Some counter → IsFromTops c counter
    by_test r e true k = record { round = r; there = e; greatest = subst (IsGreatestTop r.tops) (same_Some _ _ k) (record { above = above r.tops; told = told r.tops }) }
    by_test r e false k = absurd (none-some counter k)

    by_round : (o : Option Round) → c.round ≡ o → ready_in o ≡ Some counter → IsFromTops c counter
    by_round None e k = absurd (none-some counter k)
    by_round (Some r) e k = by_test r e (all_in r) k

-- A world that is run by picks goes on by the events that they choose.
use Rattle.std.proofs.Common.{◌≡◌, ℕ, zero, suc, ◌+◌, ◌<◌, ◌≤◌, ◌%◌, Bool, true, false, List, [], ◌∷◌, ◌++◌, length, get_or, refl, sym, ap, ◌∙◌, subst, cond, arith, append_assoc, length-append}
use Rattle.std.specs.Prelude.{is_some, ◌^◌}
use Rattle.std.proofs.lemmas.List.{append-nil}
use Rattle.far_base.specs.PlanView.{PlanView}
use Rattle.far_base.specs.declared.event.Event.{Event}
use Rattle.far_base.specs.declared.event.Event.TheVariants.{Send, Deliver, Tick, Recover, Restart, Order}
use Rattle.far_base.specs.declared.packet.Message.{Message}
use Rattle.far_model.proofs.Runs.{run_append}
use Rattle.far_model.specs.Clients.{ClientState}
use Rattle.far_model.specs.Controller.{tick, ready}
use Rattle.far_model.specs.Events.{can_deliver, can_recover, can_send, choice_if, choices, deliver_choices, happens, is_order_enabled, send_choices}
use Rattle.far_model.specs.Members.{Each}
use Rattle.far_model.specs.Runs.{ArePicked, IsPickedFrom, choice, is_quiet, next_event, picks_after}
use Rattle.far_model.specs.State.{State}
use Rattle.far_runner.specs.Picked.{IsAt, is_order, pick_of}
use Rattle.workload.specs.Picks.{Picking}
use Rattle.far_runner.specs.Pumped.{HasGone, HasPumped, HasPumpedSome}
use Rattle.far_world.specs.Reached.{HasStepped, Ran, with_count}
use Rattle.far_world.specs.Scene.{Tells}
use Rattle.workload.specs.WorkView.{WorkView}

-- ---- an order is chosen exactly where one can happen

abbrev NoOrder : Event → Type 0
NoOrder e = is_order e ≡ false

each_append : {A : Type 0} (P : A → Type 0) (xs ys : List A) → Each P xs → Each P ys → Each P (xs ++ ys)
each_append P [] ys h k = k
each_append P (x ∷ xs) ys h k = (h.0, each_append P xs ys h.1 k)

sends_plain : (c : ℕ) (clients : List ClientState) → Each NoOrder (send_choices c clients)
sends_plain c [] = tt
sends_plain c (x ∷ xs) = go (can_send x) (sends_plain (suc c) xs)
  where
    go : (b : Bool) → Each NoOrder (send_choices (suc c) xs) → Each NoOrder (cond b (Send c ∷ send_choices (suc c) xs) (send_choices (suc c) xs))
    go true h = (refl, h)
    go false h = h

delivers_plain : (running : Bool) (i : ℕ) (bag : List Message) → Each NoOrder (deliver_choices running i bag)
delivers_plain running i [] = tt
delivers_plain running i (m ∷ bag) = go (can_deliver running m) (delivers_plain running (suc i) bag)
  where
    go : (b : Bool) → Each NoOrder (deliver_choices running (suc i) bag) → Each NoOrder (cond b (Deliver i ∷ deliver_choices running (suc i) bag) (deliver_choices running (suc i) bag))
    go true h = (refl, h)
    go false h = h

if_plain : (b : Bool) (e : Event) → NoOrder e → Each NoOrder (choice_if b e)
if_plain true e h = (h, tt)
if_plain false e h = tt

choices_plain : (s : State) → Each NoOrder (choices s)
choices_plain s =
    each_append NoOrder _ _ (each_append NoOrder _ _ (each_append NoOrder _ _ (each_append NoOrder _ _ (sends_plain 0 s.clients) (delivers_plain s.running 0 s.bag))
    (if_plain (is_some (tick s.controller)) Tick refl)) (if_plain (can_recover s) Recover refl)) (if_plain (is_some (ready s.controller)) Restart refl)

each_at : (es : List Event) (i : ℕ) → Each NoOrder es → NoOrder (get_or es i Tick)
each_at [] i h = refl
each_at (e ∷ es) zero h = h.0
each_at (e ∷ es) (suc i) h = each_at es i h.1

pub order_is : (plan : PlanView) (s : State) (pick : ℕ) → is_order (next_event plan s pick) ≡ is_order_enabled plan s
order_is plan s pick = go (is_order_enabled plan s)
  where
    go : (b : Bool) → is_order (cond b (Order s.done) (choice s pick)) ≡ b
    go true = refl
    go false = each_at (choices s) (pick % length (choices s)) (choices_plain s)

-- ---- the events so far, and how many picks they used

pub record Pumping (work : WorkView) (old new : Ran) (count n : ℕ) : Type 0 where
  pub made : List Event
  pub gone : HasGone old new made
  pub count_is : length made ≡ count
  pub so_far : Tells old.keeper.records → ArePicked old.plan (pick_of work) 0 old.state made
  pub ends : Tells old.keeper.records → (rest : List Event) → IsPickedFrom new.plan (pick_of work) n new.state rest → IsPickedFrom old.plan (pick_of work) 0 old.state (made ++ rest)
  pub goes_on : Tells old.keeper.records → (rest : List Event) → ArePicked new.plan (pick_of work) n new.state rest → ArePicked old.plan (pick_of work) 0 old.state (made ++ rest)

pub begins : (work : WorkView) (w : Ran) → Pumping work w w 0 0
begins work w = record {
  made = [];
  gone = record { plan = refl; events = sym (append-nil w.events); work = omega arith; tells = refl; told = λ t. refl };
  count_is = refl;
  so_far = λ t. tt;
  ends = λ t rest p. p;
  goes_on = λ t rest p. p;
}

pub steps : (work : WorkView) (old new next : Ran) (count n pick : ℕ) (e : Event) → Pumping work old new count n → is_quiet new.plan new.state ≡ false → pick ≡ pick_of work n → HasStepped new pick e next
    → Pumping work old next (count + 1) (cond (is_order e) n (n + 1))
steps work old new next count n pick e p busy is s = record {
  made = p.made ++ e ∷ [];
  gone = record {
    plan = s.plan ∙ p.gone.plan;
    events = s.events ∙ (ap (λ (es : List Event). es ++ e ∷ []) p.gone.events ∙ append_assoc old.events p.made (e ∷ []));
    work = let l : length (p.made ++ e ∷ []) ≡ length p.made + 1 = length-append p.made (e ∷ []) in omega (arith, l, p.gone.work, s.work);
    tells = s.tells ∙ p.gone.tells;
    told = λ t. s.state (tells_on t) ∙ (ap (λ (pl : PlanView). happens pl new.state e) p.gone.plan ∙ (ap (λ (z : State). happens old.plan z e) (p.gone.told t) ∙ sym (run_append old.plan old.state p.made (e ∷ []))));
  };
  count_is = length-append p.made (e ∷ []) ∙ ap (λ (k : ℕ). k + 1) p.count_is;
  so_far = λ t. p.goes_on t (e ∷ []) (busy, chosen, tt);
  ends = λ t rest q. subst (λ (es : List Event). IsPickedFrom old.plan (pick_of work) 0 old.state es) (sym (append_assoc p.made (e ∷ []) rest)) (p.ends t (e ∷ rest) (
    busy,
    chosen,
    subst (λ (m : ℕ). IsPickedFrom new.plan (pick_of work) m (happens new.plan new.state e) rest) used
        (subst (λ (z : State). IsPickedFrom new.plan (pick_of work) (cond (is_order e) n (n + 1)) z rest) (s.state (tells_on t))
        (subst (λ (pl : PlanView). IsPickedFrom pl (pick_of work) (cond (is_order e) n (n + 1)) next.state rest) s.plan q)),
  ));
  goes_on = λ t rest q. subst (λ (es : List Event). ArePicked old.plan (pick_of work) 0 old.state es) (sym (append_assoc p.made (e ∷ []) rest)) (p.goes_on t (e ∷ rest) (
    busy,
    chosen,
    subst (λ (m : ℕ). ArePicked new.plan (pick_of work) m (happens new.plan new.state e) rest) used
        (subst (λ (z : State). ArePicked new.plan (pick_of work) (cond (is_order e) n (n + 1)) z rest) (s.state (tells_on t))
        (subst (λ (pl : PlanView). ArePicked pl (pick_of work) (cond (is_order e) n (n + 1)) next.state rest) s.plan q)),
  ));
}
  where
    tells_on : Tells old.keeper.records → Tells new.keeper.records
    tells_on t = p.gone.tells ∙ t

    chosen : e ≡ next_event new.plan new.state (pick_of work n)
    chosen = s.chosen ∙ ap (λ (k : ℕ). next_event new.plan new.state k) is

    used : cond (is_order e) n (n + 1) ≡ picks_after new.plan new.state n
    used = ap (λ (b : Bool). cond b n (n + 1)) (ap is_order s.chosen ∙ order_is new.plan new.state pick)

pub ended : (work : WorkView) (old new : Ran) (count n : ℕ) → Pumping work old new count n → is_quiet new.plan new.state ≡ true → HasPumped work old new count
ended work old new count n p quiet = record {
  made = p.made;
  gone = p.gone;
  count_is = p.count_is;
  picked = λ t. subst (λ (es : List Event). IsPickedFrom old.plan (pick_of work) 0 old.state es) (append-nil p.made) (p.ends t [] quiet);
}

-- a step that failed leaves all but the count of faults
pub failed : (work : WorkView) (old new next : Ran) (count n faults : ℕ) → Pumping work old new count n → next ≡ with_count new faults → HasPumpedSome work old next
failed work old new next count n faults p same = subst (λ (z : Ran). HasPumpedSome work old z) (sym same) (record {
  made = p.made;
  gone = record { plan = p.gone.plan; events = p.gone.events; work = p.gone.work; tells = p.gone.tells; told = p.gone.told };
  picked = p.so_far;
})

-- n picks were used, the next one is drawn, and the picker stands after it; no call of the keeper failed
pub record IsPumping (work : WorkView) (old now : Ran) (count : ℕ) (picker : Picking) (pick : ℕ) : Type 0 where
  pub n : ℕ
  pub pumping : Pumping work old now count n
  pub pick_is : pick ≡ pick_of work n
  pub at : IsAt work (n + 1) picker
  pub later : old.keeper.faults ≤ now.keeper.faults
  pub still : now.keeper.faults ≡ old.keeper.faults

-- the events since are not more than all
pub few_made : (work : WorkView) (old new next : Ran) (count n pick : ℕ) (e : Event) → Pumping work old new count n → HasStepped new pick e next → count < 2 ^ 28
few_made work old new next count n pick e p s =
    let all : length new.events ≡ length old.events + length p.made = ap length p.gone.events ∙ length-append old.events p.made in
    omega (arith, all, p.count_is, s.few)

-- The choices are the events other than orders that can happen.
use Rattle.std.proofs.Common.{◌≡◌, ◌≢◌, ◌⊎◌, inl, inr, ℕ, zero, suc, ◌+◌, ◌<◌, ◌%◌, Bool, true, false, ◌&&◌, not, List, [], ◌∷◌, ◌++◌, length, get_or, refl, sym, ap, ◌∙◌, subst, arith, true≢false, eq-eqb}
use Rattle.std.specs.Prelude.{if◌then◌else◌, is_some, slice_get, slice_index_or, IsTrue}
use Rattle.std.proofs.Math.Nat.{mod-lt}
use Rattle.std.proofs.lemmas.Option.{slice_get-get_or}
use Rattle.far_base.specs.PlanView.{PlanView}
use Rattle.far_base.specs.declared.event.Event.{Event}
use Rattle.far_base.specs.declared.event.Event.TheVariants.{Send, Deliver, Tick, Recover, Restart, Order as OrderOf}
use Rattle.far_base.specs.declared.packet.Message.{Message}
use Rattle.far_model.specs.Clients.{ClientState}
use Rattle.far_model.specs.Controller.{ready, tick}
use Rattle.far_model.specs.Events.{can_deliver, can_deliver_some, can_recover, can_send, choice_if, choices, deliver_choices, happens, is_enabled, is_order_enabled, send_choices}
use Rattle.far_model.specs.Members.{Among, Pairs, is_empty}
use Rattle.far_model.specs.Runs.{IsPickedFrom, IsRun, choice, is_quiet, next_event, picks_after}
use Rattle.far_model.specs.State.{State, nobody}
use Rattle.far_model.proofs.Members.{among_append, among_append_left, among_append_right, among_at, each_from_among, pairs_append}
use Rattle.model_laws.specs.Choices.{CanBePicked, is_order}

-- ---- sendings

record IsSending (n : ℕ) (clients : List ClientState) (e : Event) : Type 0 where
  client : ℕ
  is : e ≡ Send (n + client)
  can : can_send (get_or clients client nobody) ≡ true

sending_out : (n : ℕ) (clients : List ClientState) (e : Event) → Among e (send_choices n clients) → IsSending n clients e
sending_out n [] e a = absurd a
sending_out n (c ∷ cs) e a = go (can_send c) refl (sending_out (suc n) cs e) a
  where
    later : IsSending (suc n) cs e → IsSending n (c ∷ cs) e
    later k = record { client = suc k.client; is = k.is ∙ (let same : suc n + k.client ≡ n + suc k.client = omega arith in ap Send same); can = k.can }

    first : can_send c ≡ true → (e ≡ Send n) ⊎ Among e (send_choices (suc n) cs) → (Among e (send_choices (suc n) cs) → IsSending (suc n) cs e) → IsSending n (c ∷ cs) e
    first can (inl same) f = let zero_on : n ≡ n + 0 = omega arith in record { client = 0; is = same ∙ ap Send zero_on; can = can }
    first can (inr b) f = later (f b)

    go : (b : Bool) → can_send c ≡ b → (Among e (send_choices (suc n) cs) → IsSending (suc n) cs e) → Among e (if b then Send n ∷ send_choices (suc n) cs else send_choices (suc n) cs) → IsSending n (c ∷ cs) e
    go true can f b = first can b f
    go false can f b = later (f b)

sending_in : (n : ℕ) (clients : List ClientState) (k : ℕ) → can_send (get_or clients k nobody) ≡ true → Among (Send (n + k)) (send_choices n clients)
sending_in n [] k h = absurd (true≢false (sym h))
sending_in n (c ∷ cs) zero h =
    let here : Among (Send n) (if true then Send n ∷ send_choices (suc n) cs else send_choices (suc n) cs) = inl refl in
    let zero_on : n ≡ n + 0 = omega arith in
    subst (λ m. Among (Send m) (send_choices n (c ∷ cs))) zero_on (subst (λ b. Among (Send n) (if b then Send n ∷ send_choices (suc n) cs else send_choices (suc n) cs)) (sym h) here)
sending_in n (c ∷ cs) (suc k) h = go (can_send c)
    (let same : suc n + k ≡ n + suc k = omega arith in subst (λ m. Among (Send m) (send_choices (suc n) cs)) same (sending_in (suc n) cs k h))
  where
    go : (b : Bool) → Among (Send (n + suc k)) (send_choices (suc n) cs) → Among (Send (n + suc k)) (if b then Send n ∷ send_choices (suc n) cs else send_choices (suc n) cs)
    go true a = inr a
    go false a = a

-- ---- deliveries

record IsDelivery (running : Bool) (n : ℕ) (bag : List Message) (e : Event) : Type 0 where
  place : ℕ
  is : e ≡ Deliver (n + place)
  can : can_deliver_some running (slice_get bag place) ≡ true

delivery_out : (running : Bool) (n : ℕ) (bag : List Message) (e : Event) → Among e (deliver_choices running n bag) → IsDelivery running n bag e
delivery_out running n [] e a = absurd a
delivery_out running n (m ∷ ms) e a = go (can_deliver running m) refl (delivery_out running (suc n) ms e) a
  where
    later : IsDelivery running (suc n) ms e → IsDelivery running n (m ∷ ms) e
    later k = record { place = suc k.place; is = k.is ∙ (let same : suc n + k.place ≡ n + suc k.place = omega arith in ap Deliver same); can = k.can }

    first : can_deliver running m ≡ true → (e ≡ Deliver n) ⊎ Among e (deliver_choices running (suc n) ms) → (Among e (deliver_choices running (suc n) ms) → IsDelivery running (suc n) ms e) → IsDelivery running n (m ∷ ms) e
    first can (inl same) f = let zero_on : n ≡ n + 0 = omega arith in record { place = 0; is = same ∙ ap Deliver zero_on; can = can }
    first can (inr b) f = later (f b)

    go : (b : Bool) → can_deliver running m ≡ b → (Among e (deliver_choices running (suc n) ms) → IsDelivery running (suc n) ms e)
        → Among e (if b then Deliver n ∷ deliver_choices running (suc n) ms else deliver_choices running (suc n) ms) → IsDelivery running n (m ∷ ms) e
    go true can f b = first can b f
    go false can f b = later (f b)

delivery_in : (running : Bool) (n : ℕ) (bag : List Message) (k : ℕ) → can_deliver_some running (slice_get bag k) ≡ true → Among (Deliver (n + k)) (deliver_choices running n bag)
delivery_in running n [] k h = absurd (true≢false (sym h))
delivery_in running n (m ∷ ms) zero h =
    let here : Among (Deliver n) (if true then Deliver n ∷ deliver_choices running (suc n) ms else deliver_choices running (suc n) ms) = inl refl in
    let zero_on : n ≡ n + 0 = omega arith in
    subst (λ k. Among (Deliver k) (deliver_choices running n (m ∷ ms))) zero_on (subst (λ b. Among (Deliver n) (if b then Deliver n ∷ deliver_choices running (suc n) ms else deliver_choices running (suc n) ms)) (sym h) here)
delivery_in running n (m ∷ ms) (suc k) h = go (can_deliver running m)
    (let same : suc n + k ≡ n + suc k = omega arith in subst (λ j. Among (Deliver j) (deliver_choices running (suc n) ms)) same (delivery_in running (suc n) ms k h))
  where
    go : (b : Bool) → Among (Deliver (n + suc k)) (deliver_choices running (suc n) ms) → Among (Deliver (n + suc k)) (if b then Deliver n ∷ deliver_choices running (suc n) ms else deliver_choices running (suc n) ms)
    go true a = inr a
    go false a = a

-- ---- one event of its own

if_out : (b : Bool) (x e : Event) → Among e (choice_if b x) → (e ≡ x) × (b ≡ true)
if_out true x e (inl h) = (h, refl)
if_out true x e (inr h) = absurd h
if_out false x e h = absurd h

if_in : (b : Bool) (x : Event) → b ≡ true → Among x (choice_if b x)
if_in true x h = inl refl
if_in false x h = absurd (true≢false (sym h))

module _ (s : State) where
  abbrev delivered : List Event
  delivered = deliver_choices s.running 0 s.bag

  abbrev moved : List Event
  moved = send_choices 0 s.clients ++ delivered

  abbrev ticked : List Event
  ticked = moved ++ choice_if (is_some (tick s.controller)) Tick

  abbrev recovered : List Event
  recovered = ticked ++ choice_if (can_recover s) Recover

  abbrev restarted : List Event
  restarted = choice_if (is_some (ready s.controller)) Restart

module _ (plan : PlanView) (s : State) where
  can_be : (e f : Event) → e ≡ f → CanBePicked plan s f → CanBePicked plan s e
  can_be e f h k = subst (CanBePicked plan s) (sym h) k

  send_can : (e : Event) → IsSending 0 s.clients e → CanBePicked plan s e
  send_can e k =
      let same : 0 + k.client ≡ k.client = omega arith in
      can_be e (Send k.client) (k.is ∙ ap Send same) (record { no_order = refl; enabled = k.can })

  deliver_can : (e : Event) → IsDelivery s.running 0 s.bag e → CanBePicked plan s e
  deliver_can e k =
      let same : 0 + k.place ≡ k.place = omega arith in
      can_be e (Deliver k.place) (k.is ∙ ap Deliver same) (record { no_order = refl; enabled = k.can })

  pub choice_can : (e : Event) → Among e (choices s) → CanBePicked plan s e
  choice_can e a = by_restart (among_append e (recovered s) (restarted s) a)
    where
      by_send : Among e (send_choices 0 s.clients) ⊎ Among e (delivered s) → CanBePicked plan s e
      by_send (inl b) = send_can e (sending_out 0 s.clients e b)
      by_send (inr b) = deliver_can e (delivery_out s.running 0 s.bag e b)

      by_tick : Among e (moved s) ⊎ Among e (choice_if (is_some (tick s.controller)) Tick) → CanBePicked plan s e
      by_tick (inl b) = by_send (among_append e (send_choices 0 s.clients) (delivered s) b)
      by_tick (inr b) = let k = if_out (is_some (tick s.controller)) Tick e b in can_be e Tick k.0 (record { no_order = refl; enabled = k.1 })

      by_recover : Among e (ticked s) ⊎ Among e (choice_if (can_recover s) Recover) → CanBePicked plan s e
      by_recover (inl b) = by_tick (among_append e (moved s) (choice_if (is_some (tick s.controller)) Tick) b)
      by_recover (inr b) = let k = if_out (can_recover s) Recover e b in can_be e Recover k.0 (record { no_order = refl; enabled = k.1 })

      by_restart : Among e (recovered s) ⊎ Among e (restarted s) → CanBePicked plan s e
      by_restart (inl b) = by_recover (among_append e (ticked s) (choice_if (can_recover s) Recover) b)
      by_restart (inr b) = let k = if_out (is_some (ready s.controller)) Restart e b in can_be e Restart k.0 (record { no_order = refl; enabled = k.1 })

  from_ticked : (e : Event) → Among e (ticked s) → Among e (choices s)
  from_ticked e a = among_append_left e (recovered s) (restarted s) (among_append_left e (ticked s) (choice_if (can_recover s) Recover) a)

  from_moved : (e : Event) → Among e (moved s) → Among e (choices s)
  from_moved e a = from_ticked e (among_append_left e (moved s) (choice_if (is_some (tick s.controller)) Tick) a)

  can_choice : (e : Event) → is_order e ≡ false → is_enabled plan s e ≡ true → Among e (choices s)
  can_choice (Send c) o h =
      let same : 0 + c ≡ c = omega arith in
      from_moved (Send c) (among_append_left (Send c) (send_choices 0 s.clients) (delivered s) (subst (λ k. Among (Send k) (send_choices 0 s.clients)) same (sending_in 0 s.clients c h)))
  can_choice (Deliver i) o h =
      let same : 0 + i ≡ i = omega arith in
      from_moved (Deliver i) (among_append_right (Deliver i) (send_choices 0 s.clients) (delivered s) (subst (λ k. Among (Deliver k) (delivered s)) same (delivery_in s.running 0 s.bag i h)))
  can_choice Tick o h = from_ticked Tick (among_append_right Tick (moved s) (choice_if (is_some (tick s.controller)) Tick) (if_in (is_some (tick s.controller)) Tick h))
  can_choice Recover o h = among_append_left Recover (recovered s) (restarted s) (among_append_right Recover (ticked s) (choice_if (can_recover s) Recover) (if_in (can_recover s) Recover h))
  can_choice Restart o h = among_append_right Restart (recovered s) (restarted s) (if_in (is_some (ready s.controller)) Restart h)
  can_choice (OrderOf j) o h = absurd (true≢false o)

  pub can_chosen : (e : Event) → CanBePicked plan s e → Among e (choices s)
  can_chosen e k = can_choice e k.no_order k.enabled

-- ---- each stands once

abbrev Apart : Event → Event → Type 0
Apart e f = e ≢ f

sends_once : (n : ℕ) (clients : List ClientState) → Pairs Apart (send_choices n clients)
sends_once n [] = tt
sends_once n (c ∷ cs) = go (can_send c) (sends_once (suc n) cs)
  where
    apart : (e : Event) → IsSending (suc n) cs e → Send n ≢ e
    apart e k same = let eq : Send n ≡ Send (suc n + k.client) = same ∙ k.is in let num : n ≡ suc n + k.client = cc in absurd (omega (arith, num))

    go : (b : Bool) → Pairs Apart (send_choices (suc n) cs) → Pairs Apart (if b then Send n ∷ send_choices (suc n) cs else send_choices (suc n) cs)
    go true h = (each_from_among (Apart (Send n)) (send_choices (suc n) cs) (λ e a. apart e (sending_out (suc n) cs e a)), h)
    go false h = h

delivers_once : (running : Bool) (n : ℕ) (bag : List Message) → Pairs Apart (deliver_choices running n bag)
delivers_once running n [] = tt
delivers_once running n (m ∷ ms) = go (can_deliver running m) (delivers_once running (suc n) ms)
  where
    apart : (e : Event) → IsDelivery running (suc n) ms e → Deliver n ≢ e
    apart e k same = let eq : Deliver n ≡ Deliver (suc n + k.place) = same ∙ k.is in let num : n ≡ suc n + k.place = cc in absurd (omega (arith, num))

    go : (b : Bool) → Pairs Apart (deliver_choices running (suc n) ms) → Pairs Apart (if b then Deliver n ∷ deliver_choices running (suc n) ms else deliver_choices running (suc n) ms)
    go true h = (each_from_among (Apart (Deliver n)) (deliver_choices running (suc n) ms) (λ e a. apart e (delivery_out running (suc n) ms e a)), h)
    go false h = h

one_once : (b : Bool) (x : Event) → Pairs Apart (choice_if b x)
one_once true x = (tt, tt)
one_once false x = tt

-- the kinds of events in their order
abbrev rank : Event → ℕ
rank (Send c) = 0
rank (Deliver i) = 1
rank Tick = 2
rank Recover = 3
rank Restart = 4
rank (OrderOf j) = 5

if_rank : (b : Bool) (x e : Event) → Among e (choice_if b x) → rank e ≡ rank x
if_rank b x e a = ap rank (if_out b x e a).0

module _ (s : State) where
  sent_rank : (e : Event) → Among e (send_choices 0 s.clients) → rank e ≡ 0
  sent_rank e a = ap rank (sending_out 0 s.clients e a).is

  delivered_rank : (e : Event) → Among e (delivered s) → rank e ≡ 1
  delivered_rank e a = ap rank (delivery_out s.running 0 s.bag e a).is

  moved_rank : (e : Event) → Among e (moved s) → rank e < 2
  moved_rank e a = either (among_append e (send_choices 0 s.clients) (delivered s) a)
    where
      either : Among e (send_choices 0 s.clients) ⊎ Among e (delivered s) → rank e < 2
      either (inl b) = omega (arith, sent_rank e b)
      either (inr b) = omega (arith, delivered_rank e b)

  ticked_rank : (e : Event) → Among e (ticked s) → rank e < 3
  ticked_rank e a = either (among_append e (moved s) (choice_if (is_some (tick s.controller)) Tick) a)
    where
      either : Among e (moved s) ⊎ Among e (choice_if (is_some (tick s.controller)) Tick) → rank e < 3
      either (inl b) = omega (arith, moved_rank e b)
      either (inr b) = omega (arith, if_rank (is_some (tick s.controller)) Tick e b)

  recovered_rank : (e : Event) → Among e (recovered s) → rank e < 4
  recovered_rank e a = either (among_append e (ticked s) (choice_if (can_recover s) Recover) a)
    where
      either : Among e (ticked s) ⊎ Among e (choice_if (can_recover s) Recover) → rank e < 4
      either (inl b) = omega (arith, ticked_rank e b)
      either (inr b) = omega (arith, if_rank (can_recover s) Recover e b)

  by_rank : (x y : Event) → rank x < rank y → x ≢ y
  by_rank x y l same = absurd (omega (arith, l, ap rank same))

  pub choices_once : Pairs Apart (choices s)
  choices_once = pairs_append Apart (recovered s) (restarted s)
      (pairs_append Apart (ticked s) (choice_if (can_recover s) Recover)
      (pairs_append Apart (moved s) (choice_if (is_some (tick s.controller)) Tick)
      (pairs_append Apart (send_choices 0 s.clients) (delivered s) (sends_once 0 s.clients) (delivers_once s.running 0 s.bag)
      (λ x y a b. by_rank x y (omega (arith, sent_rank x a, delivered_rank y b))))
      (one_once (is_some (tick s.controller)) Tick)
      (λ x y a b. by_rank x y (omega (arith, moved_rank x a, if_rank (is_some (tick s.controller)) Tick y b))))
      (one_once (can_recover s) Recover)
      (λ x y a b. by_rank x y (omega (arith, ticked_rank x a, if_rank (can_recover s) Recover y b))))
      (one_once (is_some (ready s.controller)) Restart)
      (λ x y a b. by_rank x y (omega (arith, recovered_rank x a, if_rank (is_some (ready s.controller)) Restart y b)))

-- ---- what picks choose

module _ (plan : PlanView) where
  picked : (xs : List Event) (k : ℕ) → is_empty xs ≡ false → Among (slice_index_or xs (k % length xs) Tick) xs
  picked [] k h = absurd (true≢false h)
  picked (x ∷ xs) k h =
      let within : k % suc (length xs) < suc (length xs) = mod-lt k (omega arith) in
      among_at _ (x ∷ xs) (k % suc (length xs)) (slice_get-get_or (x ∷ xs) (k % suc (length xs)) Tick within)

  next_can : (s : State) (pick : ℕ) → is_quiet plan s ≡ false → is_enabled plan s (next_event plan s pick) ≡ true
  next_can s pick quiet = go (is_order_enabled plan s) refl
    where
      none_left : is_order_enabled plan s ≡ false → (b : Bool) → is_empty (choices s) ≡ b → is_empty (choices s) ≡ false
      none_left e true k = absurd (true≢false (sym (subst (λ b. (not b && is_empty (choices s)) ≡ true) (sym e) k) ∙ quiet))
      none_left e false k = k

      go : (b : Bool) → is_order_enabled plan s ≡ b → is_enabled plan s (if b then OrderOf s.done else choice s pick) ≡ true
      go true e = subst (λ b. (b && is_order_enabled plan s) ≡ true) (sym (eq-eqb s.done s.done refl)) e
      go false e = (choice_can plan s (choice s pick) (picked (choices s) pick (none_left e (is_empty (choices s)) refl))).enabled

  pub picked_run : (pick : ℕ → ℕ) (n : ℕ) (s : State) (events : List Event) → IsPickedFrom plan pick n s events → IsRun plan s events
  picked_run pick n s [] h = tt
  picked_run pick n s (e ∷ es) h = (subst (λ f. IsTrue (is_enabled plan s f)) (sym h.1) (next_can s (pick n) h.0), picked_run pick (picks_after plan s n) (happens plan s e) es h.2)

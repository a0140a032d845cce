-- Lists of events that are made and tried one after the other.
use Rattle.std.proofs.Common.{◌≡◌, ℕ, ◌+◌, ◌<◌, ◌≤◌, ◌^◌, List, [], ◌∷◌, ◌++◌, take, drop, slice_get, Some, refl, sym, ap, ◌∙◌, take-append-drop, subst, arith}
use Rattle.far_base.proofs.Taken.{taken}
use Rattle.far_model.specs.Members.{Each}
use Rattle.retry_link.specs.Link.{AreLinkEvents, LinkState, OffersMessage, happens, offer_count, offers_in, opening_link, run_link}
use Rattle.retry_link.specs.Reliable.{MayGoOn}
use Rattle.retry_link.specs.declared.link.LinkEvent.{LinkEvent}
use Rattle.retry_link.specs.declared.link.LinkEvent.TheVariants.{Offer, Again, Carry}

run_one : (s : LinkState) (es : List LinkEvent) (e : LinkEvent) → run_link s (es ++ e ∷ []) ≡ happens (run_link s es) e
run_one s [] e = refl
run_one s (x ∷ es) e = run_one (happens s x) es e

pub run_more : (events : List LinkEvent) (i : ℕ) (e : LinkEvent) (link new : LinkState) → slice_get events i ≡ Some e → link ≡ run_link opening_link (take i events) → new ≡ happens link e → new ≡ run_link opening_link (take (i + 1) events)
run_more events i e link new at is steps =
    steps ∙ (ap (λ (s : LinkState). happens s e) is ∙ (sym (run_one opening_link (take i events) e) ∙ ap (λ (es : List LinkEvent). run_link opening_link es) (sym (taken events i e at))))

-- the law of all moments, at this one
pub may_step : ((before after : List LinkEvent) → AreLinkEvents (before ++ after) → MayGoOn (run_link opening_link before)) → (events : List LinkEvent) (i : ℕ) (link : LinkState) → AreLinkEvents events → link ≡ run_link opening_link (take i events) → MayGoOn link
may_step law events i link are is =
    subst (λ (s : LinkState). MayGoOn s) (sym is) (law (take i events) (drop i events) (subst (λ (es : List LinkEvent). AreLinkEvents es) (sym (take-append-drop i events)) are))

each_push : (es : List LinkEvent) (e : LinkEvent) → Each OffersMessage es → OffersMessage e → Each OffersMessage (es ++ e ∷ [])
each_push [] e h p = (p, tt)
each_push (x ∷ es) e h p = (h.0, each_push es e h.1 p)

count_one : (e : LinkEvent) → offer_count e ≤ 1
count_one (Offer wire) = omega arith
count_one (Again i) = omega arith
count_one (Carry f) = omega arith

offers_push : (es : List LinkEvent) (e : LinkEvent) → offers_in (es ++ e ∷ []) ≤ offers_in es + 1
offers_push [] e = omega (arith, count_one e)
offers_push (x ∷ es) e = omega (arith, offers_push es e)

-- so many events were made, and each message can be sent
pub record AreMade (n : ℕ) (events : List LinkEvent) : Type 0 where
  pub messages : Each OffersMessage events
  pub few : offers_in events ≤ n

pub none_made : AreMade 0 []
none_made = record { messages = tt; few = omega arith }

pub made_more : (n : ℕ) (es : List LinkEvent) (e : LinkEvent) → AreMade n es → OffersMessage e → AreMade (n + 1) (es ++ e ∷ [])
made_more n es e h p = record { messages = each_push es e h.messages p; few = omega (arith, h.few, offers_push es e) }

pub made_are : (n : ℕ) (es : List LinkEvent) → n < 2 ^ 20 → AreMade n es → AreLinkEvents es
made_are n es lt h = record { messages = h.messages; few = omega (arith, h.few, lt) }

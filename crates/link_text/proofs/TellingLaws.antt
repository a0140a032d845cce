-- One event more, and the line that tells of it.
use Rattle.std.proofs.Common.{◌≡◌, ℕ, ◌+◌, List, [], ◌∷◌, ◌++◌, take, drop, slice_get, Some, refl, sym, ap, ◌∙◌, append_assoc, append-nil, take-append-drop, subst}
use Rattle.std.proofs.lemmas.Grind.{flat_map-append}
use Rattle.far_base.proofs.Taken.{taken}
use Rattle.retry_link.specs.Link.{AreLinkEvents, LinkState, happens, opening_link, outcome, outcomes, run_link}
use Rattle.retry_link.specs.Reliable.{MayGoOn}
use Rattle.retry_link.specs.declared.link.LinkEvent.{LinkEvent}
use Rattle.retry_link.specs.declared.link.LinkOutcome.{LinkOutcome}
use Rattle.link_text.specs.Transcript.{outcome_line, outcome_lines}

run_one : (s : LinkState) (es : List LinkEvent) (e : LinkEvent) → run_link s (es ++ e ∷ []) ≡ happens (run_link s es) e
run_one s [] e = refl
run_one s (x ∷ es) e = run_one (happens s x) es e

outcomes_one : (s : LinkState) (es : List LinkEvent) (e : LinkEvent) → outcomes s (es ++ e ∷ []) ≡ outcomes s es ++ outcome (run_link s es) e ∷ []
outcomes_one s [] e = refl
outcomes_one s (x ∷ es) e = ap (λ (l : List LinkOutcome). outcome s x ∷ l) (outcomes_one (happens s x) es e)

pub run_more : (events : List LinkEvent) (i : ℕ) (e : LinkEvent) (link new : LinkState) → slice_get events i ≡ Some e → link ≡ run_link opening_link (take i events) → new ≡ happens link e → new ≡ run_link opening_link (take (i + 1) events)
run_more events i e link new at is steps =
    steps ∙ (ap (λ (s : LinkState). happens s e) is ∙ (sym (run_one opening_link (take i events) e) ∙ ap (λ (es : List LinkEvent). run_link opening_link es) (sym (taken events i e at))))

lines_one : (told : List LinkOutcome) (o : LinkOutcome) → outcome_lines (told ++ o ∷ []) ≡ outcome_lines told ++ outcome_line o
lines_one told o = flat_map-append outcome_line told (o ∷ []) ∙ ap (λ (l : List ℕ). outcome_lines told ++ l) (append-nil (outcome_line o))

pub told_more : (events : List LinkEvent) (i : ℕ) (e : LinkEvent) (link : LinkState) (told : LinkOutcome) (old out new : List ℕ) → slice_get events i ≡ Some e → link ≡ run_link opening_link (take i events) → told ≡ outcome link e
    → out ≡ old ++ outcome_lines (outcomes opening_link (take i events)) → new ≡ out ++ outcome_line told → new ≡ old ++ outcome_lines (outcomes opening_link (take (i + 1) events))
told_more events i e link told old out new at is tells before after =
    let one : outcomes opening_link (take (i + 1) events) ≡ outcomes opening_link (take i events) ++ told ∷ [] =
    ap (λ (es : List LinkEvent). outcomes opening_link es) (taken events i e at) ∙ (outcomes_one opening_link (take i events) e ∙ ap (λ (o : LinkOutcome). outcomes opening_link (take i events) ++ o ∷ []) (sym (tells ∙ ap (λ (s : LinkState). outcome s e) is))) in
    after ∙ (ap (λ (l : List ℕ). l ++ outcome_line told) before
    ∙ (append_assoc old (outcome_lines (outcomes opening_link (take i events))) (outcome_line told)
    ∙ ap (λ (l : List ℕ). old ++ l) (sym (ap outcome_lines one ∙ lines_one (outcomes opening_link (take i events)) told))))

-- the law of all moments, at this one
pub may_step : ((before after : List LinkEvent) → AreLinkEvents (before ++ after) → MayGoOn (run_link opening_link before)) → (events : List LinkEvent) (i : ℕ) (link : LinkState) → AreLinkEvents events → link ≡ run_link opening_link (take i events) → MayGoOn link
may_step law events i link are is =
    subst (λ (s : LinkState). MayGoOn s) (sym is) (law (take i events) (drop i events) (subst (λ (es : List LinkEvent). AreLinkEvents es) (sym (take-append-drop i events)) are))

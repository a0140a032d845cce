-- A text tells events exactly where its lines do, and the fault that reading names is that of the first faulty line.
use Rattle.std.proofs.Common.{◌≡◌, ◌⊎◌, inl, inr, ℕ, suc, ◌+◌, ◌<◌, ◌≤◌, Bool, true, false, not, cond, nat_eq, nat_lt, List, [], ◌∷◌, ◌++◌, length, refl, sym, ap, subst, ◌∙◌, append_assoc, append-nil, length-append, arith}
use Rattle.std.specs.Prelude.{Option, Some, None, Result, Ok, Err, IfOk, bytes_eq}
use Rattle.std.specs.List.{AllByRecursion}
use Rattle.std.proofs.lemmas.Bool.{ltb-false, ltb-true, le-ltb, lt-ltb}
use Rattle.std.proofs.lemmas.Slice.Eq.{bytes_eq-Decides}
use Rattle.far_base.specs.declared.plan.TheConstants.{OP_LIMIT}
use Rattle.far_model.specs.Members.{Each}
use Rattle.far_text.specs.Pieces.{Pieces, lacks, pieces, with_byte}
use Rattle.far_text.proofs.Cuts.{some_piece}
use Rattle.far_text.proofs.Digits.{both_true}
use Rattle.far_text.proofs.Spelling.{joined, pieces_join, pieces_more, pieces_word}
use Rattle.workload.specs.Faults.{Blames, IsFoundAs}
use Rattle.workload.specs.Outcome.{◌andthen◌, Gives}
use Rattle.workload.specs.Reading.{next_line}
use Rattle.workload.specs.declared.fault.Limit.TheVariants.{Ops}
use Rattle.workload.specs.declared.fault.WorkFault.{WorkFault}
use Rattle.workload.specs.declared.fault.WorkFault.TheVariants.{BadLine, TooLarge, Memory}
use Rattle.workload.proofs.ByLine.{fault_is, same_err, same_ok}
use Rattle.workload.proofs.LineLaws.{bind_ok, line_again, line_takes}
use Rattle.retry_link.specs.Link.{AreLinkEvents, OffersMessage, offers_in}
use Rattle.retry_link.specs.declared.link.LinkEvent.{LinkEvent}
use Rattle.retry_link.specs.declared.link.LinkEvent.TheVariants.{Offer, Again, Carry}
use Rattle.link_text.specs.Faults.{HasNoTitle, HasScriptFault, IsFaultyLine, IsNoEvent, IsOneTooMany, IsOpenLine}
use Rattle.link_text.specs.Reading.{line_step, lines_from, one_more, reading, titled}
use Rattle.link_text.specs.Script.{IsEventForm, IsReadAs, IsScript, event_line, event_lines, event_text, title, title_line}
use Rattle.link_text.specs.Words.{event_of}
use Rattle.link_text.proofs.WordLaws.{event_is, event_lacks}

-- ---- pieces lack the byte between them

abbrev AreWhole : Pieces → Type 0
AreWhole lines = AllByRecursion (λ piece. lacks 10 piece ≡ true) lines

byte_lacks : (b : ℕ) (lines : Pieces) → nat_eq b 10 ≡ false → AreWhole lines → AreWhole (with_byte b lines)
byte_lacks b [] e h = (rw e refl, tt)
byte_lacks b (piece ∷ more) e h = (both_true _ _ (ap not e) h.0, h.1)

pieces_lack : (bytes : List ℕ) → AreWhole (pieces 10 bytes)
pieces_lack [] = (refl, tt)
pieces_lack (b ∷ bs) =
    elim (nat_eq b 10) as (λ v. nat_eq b 10 ≡ v → AreWhole (cond v ([] ∷ pieces 10 bs) (with_byte b (pieces 10 bs)))) [
      | true ↦ λ e. (refl, pieces_lack bs)
      | false ↦ λ e. byte_lacks b (pieces 10 bs) e (pieces_lack bs)
    ] refl

-- ---- one line

abbrev Outcome : Type 0
Outcome = Result (List LinkEvent) WorkFault

-- what is known of a line that was read
record IsReadLine (events : List LinkEvent) (line : List ℕ) (read : List LinkEvent) : Type 0 where
  event : LinkEvent
  form : IsEventForm event
  spelled : line ≡ event_text event
  room : length events < OP_LIMIT
  more : read ≡ events ++ event ∷ []

line_is : (n : ℕ) (events : List LinkEvent) (line : List ℕ) (read : List LinkEvent) → line_step n events line ≡ Ok read → IsReadLine events line read
line_is n events line read e = by_event (event_of line) refl e
  where
    by_room : (x : LinkEvent) → event_of line ≡ Some x → (b : Bool) → nat_lt (length events) OP_LIMIT ≡ b → cond b (Ok (events ++ x ∷ [])) (Err (TooLarge Ops n)) ≡ Ok read → IsReadLine events line read
    by_room x t true l e = let s = event_is.takes line x t in record { event = x; form = s.1; spelled = s.0; room = ltb-true _ _ l; more = sym (same_ok (events ++ x ∷ []) read e) }
    by_room x t false l e = absurd cc

    by_event : (o : Option LinkEvent) → event_of line ≡ o → one_more n events o ≡ Ok read → IsReadLine events line read
    by_event None t e = absurd cc
    by_event (Some x) t e = by_room x t (nat_lt (length events) OP_LIMIT) refl e

abbrev IsLineFault : ℕ → List LinkEvent → List ℕ → WorkFault → Type 0
IsLineFault n events line fault = (IsNoEvent line × (fault ≡ BadLine n)) ⊎ (IsOneTooMany events line × (fault ≡ TooLarge Ops n))

line_fault : (n : ℕ) (events : List LinkEvent) (line : List ℕ) (fault : WorkFault) → line_step n events line ≡ Err fault → IsLineFault n events line fault
line_fault n events line fault e = by_event (event_of line) refl e
  where
    no_event : event_of line ≡ None → IsNoEvent line
    no_event t x form spelled = let z : None ≡ Some x = sym t ∙ (ap event_of spelled ∙ event_is.again x form) in absurd cc

    by_room : (x : LinkEvent) → event_of line ≡ Some x → (b : Bool) → nat_lt (length events) OP_LIMIT ≡ b → cond b (Ok (events ++ x ∷ [])) (Err (TooLarge Ops n)) ≡ Err fault → IsLineFault n events line fault
    by_room x t true l e = absurd cc
    by_room x t false l e = let s = event_is.takes line x t in inr (record { event = x; form = s.1; spelled = s.0; full = ltb-false _ _ l }, sym (same_err (List LinkEvent) (TooLarge Ops n) fault e))

    by_event : (o : Option LinkEvent) → event_of line ≡ o → one_more n events o ≡ Err fault → IsLineFault n events line fault
    by_event None t e = inl (no_event t, sym (same_err (List LinkEvent) (BadLine n) fault e))
    by_event (Some x) t e = by_room x t (nat_lt (length events) OP_LIMIT) refl e

line_reads : (n : ℕ) (events : List LinkEvent) (x : LinkEvent) → IsEventForm x → length events < OP_LIMIT → line_step n events (event_text x) ≡ Ok (events ++ x ∷ [])
line_reads n events x form room =
    let t : event_of (event_text x) ≡ Some x = event_is.again x form in
    let l : nat_lt (length events) OP_LIMIT ≡ true = lt-ltb _ _ room in
    rw (t, l) refl

fault_again : (n : ℕ) (events : List LinkEvent) (line : List ℕ) (fault : WorkFault) → IsLineFault n events line fault → line_step n events line ≡ Err fault
fault_again n events line fault (inl h) = by_event (event_of line) refl ∙ ap (λ (x : WorkFault). fault_is {A = List LinkEvent} x) (sym h.1)
  where
    by_event : (o : Option LinkEvent) → event_of line ≡ o → one_more n events o ≡ Err (BadLine n)
    by_event None t = refl
    by_event (Some x) t = let s = event_is.takes line x t in absurd (h.0 x s.1 s.0)
fault_again n events line fault (inr h) =
    let t : event_of line ≡ Some h.0.event = ap event_of h.0.spelled ∙ event_is.again h.0.event h.0.form in
    let l : nat_lt (length events) OP_LIMIT ≡ false = le-ltb _ _ h.0.full in
    rw (t, l) (ap (λ (x : WorkFault). fault_is {A = List LinkEvent} x) (sym h.1))

-- ---- all lines

line_on : (n : ℕ) (events : List LinkEvent) (line rest : List ℕ) → lines_from n events (line ∷ pieces 10 rest) ≡ (line_step (n + 1) events line andthen λ read. lines_from (n + 1) read (pieces 10 rest))
unfolding lines_from
line_on n events line rest = let p = some_piece 10 rest in rw p.2 refl

record Told (n : ℕ) (events : List LinkEvent) (lines : Pieces) (read : List LinkEvent) : Type 0 where
  more : List LinkEvent
  spelled : joined 10 lines ≡ event_lines more
  fit : Each IsEventForm more
  all : read ≡ events ++ more
  few : length events ≤ OP_LIMIT → length read ≤ OP_LIMIT

one_told : (n : ℕ) (events : List LinkEvent) (line : List ℕ) (x : LinkEvent) (now read : List LinkEvent) (lines : Pieces) → IsEventForm x → line ≡ event_text x → length events < OP_LIMIT → now ≡ events ++ x ∷ [] → Told (n + 1) now lines read
    → (first : List ℕ) (others : Pieces) → lines ≡ first ∷ others → Told n events (line ∷ first ∷ others) read
one_told n events line x now read lines form spelled room grown t first others is = record {
  more = x ∷ t.more;
  spelled = ap (λ (l : List ℕ). l ++ 10 ∷ joined 10 (first ∷ others)) spelled ∙ (ap (λ (l : List ℕ). event_text x ++ 10 ∷ l) (ap (joined 10) (sym is) ∙ t.spelled) ∙ sym (append_assoc (event_text x) (10 ∷ []) (event_lines t.more)));
  fit = (form, t.fit);
  all = t.all ∙ (ap (λ (l : List LinkEvent). l ++ t.more) grown ∙ append_assoc events (x ∷ []) t.more);
  few = λ le. t.few (omega (arith, ap length grown, length-append events (x ∷ []), room));
}

lines_take : (n : ℕ) (events read : List LinkEvent) (lines : Pieces) → lines_from n events lines ≡ Ok read → Told n events lines read
unfolding lines_from
lines_take n events read [] e = record { more = []; spelled = refl; fit = tt; all = sym (same_ok events read e) ∙ sym (append-nil events); few = λ le. omega (arith, ap length (same_ok events read e), le) }
lines_take n events read ([] ∷ []) e = record { more = []; spelled = refl; fit = tt; all = sym (same_ok events read e) ∙ sym (append-nil events); few = λ le. omega (arith, ap length (same_ok events read e), le) }
lines_take n events read ((b ∷ bs) ∷ []) e = absurd cc
lines_take n events read (line ∷ next ∷ more) e =
    let a = bind_ok (line_step (n + 1) events line) (λ read. lines_from (n + 1) read (next ∷ more)) read e in
    let l = line_is (n + 1) events line a.0 a.1 in
    one_told n events line l.event a.0 read (next ∷ more) l.form l.spelled l.room l.more (lines_take (n + 1) a.0 read (next ∷ more) a.2) next more refl

-- what reading the front of a text gives
lines_front : (n : ℕ) (events more : List LinkEvent) (rest : List ℕ) → Each IsEventForm more → length events + length more ≤ OP_LIMIT → lines_from n events (pieces 10 (event_lines more ++ rest)) ≡ lines_from (n + length more) (events ++ more) (pieces 10 rest)
lines_front n events [] rest fit few =
    let k : n + 0 ≡ n = omega arith in
    rw (k, append-nil events) refl
lines_front n events (x ∷ more) rest fit few =
    let k : n + suc (length more) ≡ n + 1 + length more = omega arith in
    let regroup : event_lines (x ∷ more) ++ rest ≡ event_text x ++ 10 ∷ (event_lines more ++ rest) = append_assoc (event_line x) (event_lines more) rest ∙ append_assoc (event_text x) (10 ∷ []) (event_lines more ++ rest) in
    ap (λ (l : List ℕ). lines_from n events (pieces 10 l)) regroup
    ∙ (ap (λ (l : Pieces). lines_from n events l) (pieces_more 10 (event_text x) (event_lines more ++ rest) (event_lacks x fit.0))
    ∙ (line_on n events (event_text x) (event_lines more ++ rest)
    ∙ (ap (λ (r : Outcome). r andthen λ read. lines_from (n + 1) read (pieces 10 (event_lines more ++ rest))) (line_reads (n + 1) events x fit.0 (omega (arith, few)))
    ∙ (lines_front (n + 1) (events ++ x ∷ []) more rest fit.1 (omega (arith, few, length-append events (x ∷ [])))
    ∙ (ap (λ (m : ℕ). lines_from m ((events ++ x ∷ []) ++ more) (pieces 10 rest)) (sym k)
    ∙ ap (λ (l : List LinkEvent). lines_from (n + suc (length more)) l (pieces 10 rest)) (append_assoc events (x ∷ []) more))))))

-- ---- the first line

title_lacks : lacks 10 title ≡ true
title_lacks = refl

title_reads : (rest : List ℕ) → (next_line 0 (pieces 10 (title_line ++ rest)) andthen titled) ≡ Ok (pieces 10 rest)
title_reads rest =
    let whole : title_line ++ rest ≡ title ++ 10 ∷ rest = append_assoc title (10 ∷ []) rest in
    ap (λ (t : List ℕ). next_line 0 (pieces 10 t) andthen titled) whole ∙ ap (λ (r : Result (List ℕ × Pieces) WorkFault). r andthen titled) (line_again 0 title rest title_lacks)

record IsTitled (text : List ℕ) (lines : Pieces) : Type 0 where
  rest : List ℕ
  whole : text ≡ title_line ++ rest
  behind : lines ≡ pieces 10 rest

title_takes : (text : List ℕ) (lines : Pieces) → (next_line 0 (pieces 10 text) andthen titled) ≡ Ok lines → IsTitled text lines
title_takes text lines e =
    let a = bind_ok (next_line 0 (pieces 10 text)) titled lines e in
    go a.0 a.1 (bytes_eq a.0.0 title) refl a.2
  where
    go : (x : List ℕ × Pieces) → next_line 0 (pieces 10 text) ≡ Ok x → (b : Bool) → bytes_eq x.0 title ≡ b → cond b (Ok x.1) (Err (BadLine 1)) ≡ Ok lines → IsTitled text lines
    go x l true t e =
        let i = line_takes 0 text x l in
        record {
          rest = i.rest;
          whole = i.whole ∙ (ap (λ (w : List ℕ). w ++ 10 ∷ i.rest) ((bytes_eq-Decides x.0 title).0 t) ∙ sym (append_assoc title (10 ∷ []) i.rest));
          behind = sym (same_ok x.1 lines e) ∙ i.behind;
        }
    go x l false t e = absurd cc

no_title : (text : List ℕ) (fault : WorkFault) → (next_line 0 (pieces 10 text) andthen titled) ≡ Err fault → HasNoTitle text
no_title text fault e = λ rest is. let z : Ok (pieces 10 rest) ≡ Err fault = sym (title_reads rest) ∙ (ap (λ (t : List ℕ). next_line 0 (pieces 10 t) andthen titled) (sym is) ∙ e) in absurd cc

abbrev missing : {A : Type 0} → WorkFault → Result A WorkFault
missing fault = Err fault

title_fault : (text : List ℕ) (fault : WorkFault) → (next_line 0 (pieces 10 text) andthen titled) ≡ Err fault → fault ≡ BadLine 1
title_fault text fault e = go (pieces 10 text) e
  where
    by : (b : Bool) (lines : Pieces) → cond b (Ok lines) (Err (BadLine 1)) ≡ Err fault → fault ≡ BadLine 1
    by true lines e = absurd cc
    by false lines e = sym (same_err Pieces (BadLine 1) fault e)

    go : (lines : Pieces) → (next_line 0 lines andthen titled) ≡ Err fault → fault ≡ BadLine 1
    go [] e = sym (same_err Pieces (BadLine 1) fault e)
    go (line ∷ []) e = sym (same_err Pieces (BadLine 1) fault e)
    go (line ∷ next ∷ more) e = by (bytes_eq line title) (next ∷ more) e

-- ---- a whole text

reading_takes : (text : List ℕ) (events : List LinkEvent) → reading text ≡ Ok events → IsScript text events
unfolding reading
reading_takes text events e =
    let a = bind_ok (next_line 0 (pieces 10 text) andthen titled) (λ rest. lines_from 1 [] rest) events e in
    let t = title_takes text a.0 a.1 in
    let l = lines_take 1 [] events a.0 a.2 in
    let behind : t.rest ≡ event_lines l.more = sym (pieces_join 10 t.rest) ∙ (ap (joined 10) (sym t.behind) ∙ l.spelled) in
    subst (λ (es : List LinkEvent). IsScript text es) (sym l.all) (record {
      spelled = t.whole ∙ ap (λ (x : List ℕ). title_line ++ x) behind;
      fit = l.fit;
      few = omega (arith, ap length l.all, l.few (omega arith));
    })

script_reads : (text : List ℕ) (events : List LinkEvent) → IsScript text events → reading text ≡ Ok events
unfolding reading lines_from
script_reads text events h =
    ap (λ (t : List ℕ). next_line 0 (pieces 10 t) andthen titled andthen λ rest. lines_from 1 [] rest) h.spelled
    ∙ (ap (λ (r : Result Pieces WorkFault). r andthen λ rest. lines_from 1 [] rest) (title_reads (event_lines events))
    ∙ (ap (λ (l : List ℕ). lines_from 1 [] (pieces 10 l)) (sym (append-nil (event_lines events))) ∙ lines_front 1 [] events [] h.fit (omega (arith, h.few))))

-- where reading stops
record Stuck (n : ℕ) (events : List LinkEvent) (text : List ℕ) (fault : WorkFault) : Type 0 where
  more : List LinkEvent
  rest : List ℕ
  spelled : text ≡ event_lines more ++ rest
  fit : Each IsEventForm more
  few : length events ≤ OP_LIMIT → length events + length more ≤ OP_LIMIT
  at : IsOpenLine (n + length more + 1) rest fault ⊎ IsFaultyLine (n + length more + 1) (events ++ more) rest fault

one_stuck : (n : ℕ) (events : List LinkEvent) (line : List ℕ) (x : LinkEvent) (now : List LinkEvent) (behind : List ℕ) (fault : WorkFault) → IsEventForm x → line ≡ event_text x → length events < OP_LIMIT → now ≡ events ++ x ∷ [] → Stuck (n + 1) now behind fault → Stuck n events (line ++ 10 ∷ behind) fault
one_stuck n events line x now behind fault form spelled room grown s = record {
  more = x ∷ s.more;
  rest = s.rest;
  spelled = ap (λ (l : List ℕ). l ++ 10 ∷ behind) spelled ∙ (ap (λ (l : List ℕ). event_text x ++ 10 ∷ l) s.spelled ∙ (sym (append_assoc (event_text x) (10 ∷ []) (event_lines s.more ++ s.rest)) ∙ sym (append_assoc (event_line x) (event_lines s.more) s.rest)));
  fit = (form, s.fit);
  few = λ le. omega (arith, s.few (omega (arith, ap length grown, length-append events (x ∷ []), room)), ap length grown, length-append events (x ∷ []));
  at = same_place (omega arith) (ap (λ (l : List LinkEvent). l ++ s.more) grown ∙ append_assoc events (x ∷ []) s.more) s.at;
}
  where
    same_place : {k m : ℕ} {es fs : List LinkEvent} {rest : List ℕ} → k ≡ m → es ≡ fs → IsOpenLine k rest fault ⊎ IsFaultyLine k es rest fault → IsOpenLine m rest fault ⊎ IsFaultyLine m fs rest fault
    same_place {k} {m} {es} {fs} {rest} e f h = subst (λ (j : ℕ). IsOpenLine j rest fault ⊎ IsFaultyLine j fs rest fault) e (subst (λ (l : List LinkEvent). IsOpenLine k rest fault ⊎ IsFaultyLine k l rest fault) f h)

stopped_here : (n : ℕ) (events : List LinkEvent) (text : List ℕ) (fault : WorkFault) → IsOpenLine (n + 1) text fault ⊎ IsFaultyLine (n + 1) events text fault → Stuck n events text fault
stopped_here n events text fault h =
    let k : n + 1 ≡ n + 0 + 1 = omega arith in
    record {
      more = [];
      rest = text;
      spelled = refl;
      fit = tt;
      few = λ le. omega (arith, le);
      at = subst (λ (j : ℕ). IsOpenLine j text fault ⊎ IsFaultyLine j (events ++ []) text fault) k (subst (λ (l : List LinkEvent). IsOpenLine (n + 1) text fault ⊎ IsFaultyLine (n + 1) l text fault) (sym (append-nil events)) h);
    }

next_stuck : (n : ℕ) (events : List LinkEvent) (line behind : List ℕ) (fault : WorkFault) (after : List LinkEvent → Outcome) → lacks 10 line ≡ true → ((read : List LinkEvent) → after read ≡ Err fault → Stuck (n + 1) read behind fault)
    → (r : Outcome) → line_step (n + 1) events line ≡ r → (r andthen after) ≡ Err fault → Stuck n events (line ++ 10 ∷ behind) fault
next_stuck n events line behind fault after one ih (Ok read) s e =
    let l = line_is (n + 1) events line read s in
    one_stuck n events line l.event read behind fault l.form l.spelled l.room l.more (ih read e)
next_stuck n events line behind fault after one ih (Err other) s e =
    let same : other ≡ fault = same_err (List LinkEvent) other fault e in
    stopped_here n events (line ++ 10 ∷ behind) fault (inr (record { line = line; others = behind; whole = refl; one = one; fails = line_fault (n + 1) events line fault (s ∙ ap (λ (x : WorkFault). fault_is {A = List LinkEvent} x) same) }))

lines_stuck : (n : ℕ) (events : List LinkEvent) (lines : Pieces) (fault : WorkFault) → AreWhole lines → lines_from n events lines ≡ Err fault → Stuck n events (joined 10 lines) fault
unfolding lines_from
lines_stuck n events [] fault h e = absurd cc
lines_stuck n events ([] ∷ []) fault h e = absurd cc
lines_stuck n events ((b ∷ bs) ∷ []) fault h e = stopped_here n events (b ∷ bs) fault (inl (record { first = b; others = bs; some = refl; no_end = h.0; named = sym (same_err (List LinkEvent) (BadLine (n + 1)) fault e) }))
lines_stuck n events (line ∷ next ∷ more) fault h e =
    next_stuck n events line (joined 10 (next ∷ more)) fault (λ read. lines_from (n + 1) read (next ∷ more)) h.0 (λ read f. lines_stuck (n + 1) read (next ∷ more) fault h.1 f) (line_step (n + 1) events line) refl e

fault_takes : (text : List ℕ) (fault : WorkFault) → reading text ≡ Err fault → HasScriptFault text fault
unfolding reading
fault_takes text fault e = go (next_line 0 (pieces 10 text) andthen titled) refl e
  where
    go : (r : Result Pieces WorkFault) → (next_line 0 (pieces 10 text) andthen titled) ≡ r → (r andthen λ rest. lines_from 1 [] rest) ≡ Err fault → HasScriptFault text fault
    go (Err other) t e =
        let same : other ≡ fault = same_err (List LinkEvent) other fault e in
        inl (no_title text other t, sym same ∙ title_fault text other t)
    go (Ok lines) t e =
        let i = title_takes text lines t in
        let s = lines_stuck 1 [] (pieces 10 i.rest) fault (pieces_lack i.rest) (ap (λ (l : Pieces). lines_from 1 [] l) (sym i.behind) ∙ e) in
        let k : 1 + length s.more + 1 ≡ length s.more + 2 = omega arith in
        let behind : i.rest ≡ event_lines s.more ++ s.rest = sym (pieces_join 10 i.rest) ∙ s.spelled in
        inr (record {
          events = s.more;
          rest = s.rest;
          spelled = i.whole ∙ (ap (λ (l : List ℕ). title_line ++ l) behind ∙ sym (append_assoc title_line (event_lines s.more) s.rest));
          fit = s.fit;
          few = omega (arith, s.few (omega arith));
          at = subst (λ (j : ℕ). IsOpenLine j s.rest fault ⊎ IsFaultyLine j s.more s.rest fault) k s.at;
        })

at_again : (n number : ℕ) (events : List LinkEvent) (rest : List ℕ) (fault : WorkFault) → number ≡ n + 1 → IsOpenLine number rest fault ⊎ IsFaultyLine number events rest fault → lines_from n events (pieces 10 rest) ≡ Err fault
unfolding lines_from
at_again n number events rest fault k (inl h) =
    let pieces_are : pieces 10 rest ≡ (h.first ∷ h.others) ∷ [] = pieces_word 10 rest h.no_end ∙ ap (λ (l : List ℕ). l ∷ []) h.some in
    ap (λ (l : Pieces). lines_from n events l) pieces_are ∙ (ap (λ (m : ℕ). fault_is {A = List LinkEvent} (BadLine m)) (sym k) ∙ ap (λ (x : WorkFault). fault_is {A = List LinkEvent} x) (sym h.named))
at_again n number events rest fault k (inr h) =
    let pieces_are : pieces 10 rest ≡ h.line ∷ pieces 10 h.others = ap (pieces 10) h.whole ∙ pieces_more 10 h.line h.others h.one in
    let failed : line_step (n + 1) events h.line ≡ Err fault = ap (λ (m : ℕ). line_step m events h.line) (sym k) ∙ fault_again number events h.line fault h.fails in
    ap (λ (l : Pieces). lines_from n events l) pieces_are ∙ (line_on n events h.line h.others ∙ ap (λ (r : Outcome). r andthen λ read. lines_from (n + 1) read (pieces 10 h.others)) failed)

untitled : (text : List ℕ) → HasNoTitle text → (r : Result Pieces WorkFault) → (next_line 0 (pieces 10 text) andthen titled) ≡ r → (next_line 0 (pieces 10 text) andthen titled) ≡ Err (BadLine 1)
untitled text none (Ok lines) e = let i = title_takes text lines e in absurd (none i.rest i.whole)
untitled text none (Err fault) e = e ∙ ap (λ (x : WorkFault). missing {A = Pieces} x) (title_fault text fault e)

faulty_reads : (text : List ℕ) (fault : WorkFault) → HasScriptFault text fault → reading text ≡ Err fault
unfolding reading
faulty_reads text fault (inl h) =
    ap (λ (r : Result Pieces WorkFault). r andthen λ rest. lines_from 1 [] rest) (untitled text h.0 (next_line 0 (pieces 10 text) andthen titled) refl)
    ∙ ap (λ (x : WorkFault). fault_is {A = List LinkEvent} x) (sym h.1)
faulty_reads text fault (inr h) =
    let whole : text ≡ title_line ++ (event_lines h.events ++ h.rest) = h.spelled ∙ append_assoc title_line (event_lines h.events) h.rest in
    ap (λ (t : List ℕ). next_line 0 (pieces 10 t) andthen titled andthen λ rest. lines_from 1 [] rest) whole
    ∙ (ap (λ (r : Result Pieces WorkFault). r andthen λ rest. lines_from 1 [] rest) (title_reads (event_lines h.events ++ h.rest))
    ∙ (lines_front 1 [] h.events h.rest h.fit (omega (arith, h.few))
    ∙ at_again (1 + length h.events) (length h.events + 2) h.events h.rest fault (omega arith) h.at))

-- ---- what a reader answers

pub is_found : (text : List ℕ) (result : Outcome) → Gives (λ (es : List LinkEvent). es) result (reading text) → IfOk result (λ es. IsScript text es)
is_found text (Ok es) e = reading_takes text es e
is_found text (Err fault) e = tt

pub is_only : (text : List ℕ) (result : Outcome) → Gives (λ (es : List LinkEvent). es) result (reading text) → (es : List LinkEvent) → IsScript text es → IsReadAs result es
is_only text (Ok read) e es h = same_ok read es (sym e ∙ script_reads text es h)
is_only text (Err (BadLine n)) e es h = let k = sym e ∙ script_reads text es h in absurd cc
is_only text (Err (TooLarge which n)) e es h = let k = sym e ∙ script_reads text es h in absurd cc
is_only text (Err Memory) e es h = tt

pub is_blamed : (text : List ℕ) (result : Outcome) → Gives (λ (es : List LinkEvent). es) result (reading text) → Blames result (HasScriptFault text)
is_blamed text (Ok es) e = tt
is_blamed text (Err (BadLine n)) e = fault_takes text (BadLine n) e
is_blamed text (Err (TooLarge which n)) e = fault_takes text (TooLarge which n) e
is_blamed text (Err Memory) e = tt

pub is_first : (text : List ℕ) (result : Outcome) → Gives (λ (es : List LinkEvent). es) result (reading text) → (fault : WorkFault) → HasScriptFault text fault → IsFoundAs result fault
is_first text (Ok es) e fault h = let k = sym e ∙ faulty_reads text fault h in absurd cc
is_first text (Err (BadLine n)) e fault h = same_err (List LinkEvent) (BadLine n) fault (sym e ∙ faulty_reads text fault h)
is_first text (Err (TooLarge which n)) e fault h = same_err (List LinkEvent) (TooLarge which n) fault (sym e ∙ faulty_reads text fault h)
is_first text (Err Memory) e fault h = tt

-- ---- the events are those of a link

offers_short : (es : List LinkEvent) → offers_in es ≤ length es
offers_short [] = omega arith
offers_short (Offer wire ∷ es) = omega (arith, offers_short es)
offers_short (Again i ∷ es) = omega (arith, offers_short es)
offers_short (Carry f ∷ es) = omega (arith, offers_short es)

pub are_events : (text : List ℕ) (result : Outcome) → Gives (λ (es : List LinkEvent). es) result (reading text) → IfOk result (Each OffersMessage) → IfOk result AreLinkEvents
are_events text (Ok es) e messages = record { messages = messages; few = omega (arith, offers_short es, (reading_takes text es e).few) }
are_events text (Err fault) e messages = tt

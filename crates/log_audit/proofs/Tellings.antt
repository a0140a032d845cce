-- The report of a log with one legal history has the form of a report, and its lines are good.
use Rattle.std.proofs.Common.{◌≡◌, ◌≢◌, ℕ, suc, ◌<◌, ◌≤◌, ◌⊎◌, inl, inr, Bool, true, false, cond, List, [], ◌∷◌, ◌++◌, map, length, refl, sym, ap, ◌∙◌, subst, arith, append_assoc}
use Rattle.std.specs.Prelude.{Option, Some, None, codes, count_by, decimal, slice_get}
use Rattle.std.proofs.lemmas.Bool.{MatchBool-at_false, MatchBool-at_true, cases_lt}
use Rattle.std.proofs.lemmas.List.{append-nil, length-map}
use Rattle.std.proofs.lemmas.Option.{same_Some}
use Rattle.far_base.specs.declared.log.LogEntry.{LogEntry}
use Rattle.far_base.specs.declared.log.LogEntry.TheVariants.{Sent, Numbered, Emitted, Answered, Admitted, Evicted, Kept, Snapped, SnapItem, Stopped, Recovered, RecItem}
use Rattle.far_base.specs.declared.log.LogLine.{LogLine}
use Rattle.far_base.specs.declared.log.Placed.{Placed}
use Rattle.far_base.specs.declared.plan.Op.TheVariants.{Get}
use Rattle.far_base.specs.declared.plan.OpLine.{OpLine}
use Rattle.far_base.specs.declared.plan.TheConstants.{OP_LIMIT}
use Rattle.far_base.specs.declared.record.Record.{Record}
use Rattle.far_base.specs.declared.record.Versioned.{Versioned}
use Rattle.far_base.specs.Key.{key_text}
use Rattle.far_history.specs.Report.{IsReport, control_text, entry_text, is_control, map_text, placed_text, record_text, texts}
use Rattle.far_model.specs.History.{Before, HasOneLegalHistory, IsHistory, IsPlace, IsReadPlace, IsWritePlace, KeepsRealTimeOrder, held_by, key_of, line_body, line_key, nothing, read_by, with_write, written_by}
use Rattle.far_model.specs.History as model
use Rattle.far_model.specs.Log.{LogView, At, Answer, answering, emission, is_read, sending}
use Rattle.far_model.specs.Members.{Each, Pairs}
use Rattle.far_model.proofs.Members.{among_at, each_from_among, pairs_map, place_of}
use Rattle.far_text.specs.Text.{after_words, body_word, text_line}
use Rattle.history_laws.proofs.Unique.{same_place}
use Rattle.history_laws.proofs.Walk.{before_strict}
use Rattle.log_audit.specs.Form.{AreLines, IsHistLine, end_line, head_text, hist_line, hist_lines}
use Rattle.log_audit.specs.Good.{IsGoodReport, IsLegalFrom, held_of, map_with}
use Rattle.log_audit.specs.Told.{IsTold, IsToldInFull, told_line}
use Rattle.log_audit.specs.declared.line.HistLine.{HistLine}

-- ---- whole lines

after_ends : (words : List (List ℕ)) → (front : List ℕ) × (after_words words ≡ front ++ 10 ∷ [])
after_ends [] = ([], refl)
after_ends (w ∷ ws) = let r = after_ends ws in ((32 ∷ w) ++ r.0, ap (λ (l : List ℕ). (32 ∷ w) ++ l) r.1 ∙ sym (append_assoc (32 ∷ w) r.0 (10 ∷ [])))

line_ends : (words : List (List ℕ)) → AreLines (text_line words)
line_ends [] = inr ([], refl)
line_ends (w ∷ ws) = let r = after_ends ws in inr (w ++ r.0, ap (λ (l : List ℕ). w ++ l) r.1 ∙ sym (append_assoc w r.0 (10 ∷ [])))

lines_join : (xs ys : List ℕ) → AreLines xs → AreLines ys → AreLines (xs ++ ys)
lines_join xs ys h (inl e) = subst AreLines (sym (ap (λ (l : List ℕ). xs ++ l) e ∙ append-nil xs)) h
lines_join xs ys h (inr f) = inr (xs ++ f.0, ap (λ (l : List ℕ). xs ++ l) f.1 ∙ sym (append_assoc xs f.0 (10 ∷ [])))

texts_end : {X : Type 0} (text : X → List ℕ) → ((x : X) → AreLines (text x)) → (xs : List X) → AreLines (texts text xs)
texts_end text h [] = inl refl
texts_end text h (x ∷ xs) = lines_join (text x) (texts text xs) (h x) (texts_end text h xs)

record_ends : (r : Record) → AreLines (record_text r)
record_ends r = line_ends (key_text r.key ∷ decimal r.num ∷ body_word r.body ∷ [])

entry_ends : (moment : ℕ) (entry : LogEntry) → AreLines (entry_text moment entry)
entry_ends moment (Admitted slot key tag) = line_ends (codes "admitted" ∷ decimal moment ∷ decimal slot ∷ key_text key ∷ decimal tag ∷ [])
entry_ends moment (Evicted slot key tries) = line_ends (codes "evicted" ∷ decimal moment ∷ decimal slot ∷ key_text key ∷ decimal tries ∷ [])
entry_ends moment (Kept slot key num) = line_ends (codes "kept" ∷ decimal moment ∷ decimal slot ∷ key_text key ∷ decimal num ∷ [])
entry_ends moment (Snapped id point count same) = line_ends (codes "snapshot" ∷ decimal moment ∷ decimal id ∷ decimal point ∷ decimal count ∷ [])
entry_ends moment (SnapItem slot item) = line_ends (decimal slot ∷ key_text item.key ∷ decimal item.num ∷ body_word item.body ∷ [])
entry_ends moment Stopped = line_ends (codes "stopped" ∷ decimal moment ∷ [])
entry_ends moment (Recovered counter count) = line_ends (codes "recovered" ∷ decimal moment ∷ decimal counter ∷ decimal count ∷ [])
entry_ends moment (RecItem item) = record_ends item
entry_ends moment (Sent op line) = inl refl
entry_ends moment (Numbered op num) = inl refl
entry_ends moment (Emitted op num body near) = inl refl
entry_ends moment (Answered op) = inl refl

control_ends : (lines : List LogLine) → AreLines (control_text lines)
control_ends lines = lines_join (text_line (codes "control" ∷ decimal (count_by (λ (l : LogLine). is_control l.entry) lines) ∷ [])) (texts (λ (l : LogLine). entry_text l.moment l.entry) lines) (line_ends (codes "control" ∷ decimal (count_by (λ (l : LogLine). is_control l.entry) lines) ∷ [])) (texts_end (λ (l : LogLine). entry_text l.moment l.entry) (λ l. entry_ends l.moment l.entry) lines)

map_ends : (records : List Record) → AreLines (map_text records)
map_ends records = lines_join (text_line (codes "map" ∷ decimal (length records) ∷ [])) (texts record_text records) (line_ends (codes "map" ∷ decimal (length records) ∷ [])) (texts_end record_text record_ends records)

-- ---- the lines of the history

abbrev line_by : Placed → Option (At OpLine) → Option (At Answer) → Option (At ℕ) → HistLine
line_by place (Some sent) (Some emitted) (Some answered) = told_line place sent emitted answered
line_by place _ _ _ = record { op = 0; client = 0; kind = Get; key = []; num = 0; body = None; near = false; sent = 0; answered = 0 }

abbrev line_for : List LogLine → Placed → HistLine
line_for log place = line_by place (sending log place.op) (emission log place.op) (answering log place.op)

module _ (log : List LogLine) (places : (place : Placed) → IsPlace log place → IsTold log place) where
  abbrev line_at : Placed → HistLine
  line_at = line_for log

  line_is : (place : Placed) (t : IsTold log place) → line_at place ≡ told_line place t.sent t.emitted t.answered
  line_is place t = rw (t.first_sent, t.first_emitted, t.first_answered) refl

  text_is : (place : Placed) → IsTold log place → placed_text log place ≡ hist_line (line_at place)
  text_is place t = rw (t.first_sent, t.first_emitted, t.first_answered) refl

  texts_are : (list : List Placed) → Each (IsTold log) list → texts (placed_text log) list ≡ hist_lines (map line_at list)
  texts_are [] h = refl
  texts_are (p ∷ ps) h = ap (λ (l : List ℕ). l ++ texts (placed_text log) ps) (text_is p h.0) ∙ ap (λ (l : List ℕ). hist_line (line_at p) ++ l) (texts_are ps h.1)

  lines_fit : (list : List Placed) → Each (IsTold log) list → Each IsHistLine (map line_at list)
  lines_fit [] h = tt
  lines_fit (p ∷ ps) h = (subst IsHistLine (sym (line_is p h.0)) h.0.line, lines_fit ps h.1)

  spans : (list : List Placed) → Each (IsTold log) list → Each (λ (l : HistLine). l.sent < l.answered) (map line_at list)
  spans [] h = tt
  spans (p ∷ ps) h = (subst (λ (l : HistLine). l.sent < l.answered) (sym (line_is p h.0)) h.0.span, spans ps h.1)

  -- ---- legal

  module _ (place : Placed) (is : IsPlace log place) (t : IsTold log place) where
    same_sent : is.sent ≡ t.sent
    same_sent = same_Some _ _ (sym is.first ∙ t.first_sent)

    kind : is_read t.sent.what.op ≡ place.read
    kind = sym (is.kind ∙ ap (λ (s : At OpLine). is_read s.what.op) same_sent)

    on_key : key_of log place.op ≡ t.sent.what.key
    on_key = ap line_key t.first_sent

    read_is : place.read ≡ true → held_of (told_line place t.sent t.emitted t.answered) ≡ read_by log place
    read_is r =
        let p = MatchBool-at_true (IsReadPlace log is.sent.moment is.sent.what place) (IsWritePlace log is.sent.what place) r is.stands in
        let same : p.emitted ≡ t.emitted = same_Some _ _ (sym p.first ∙ t.first_emitted) in
        let num : place.num ≡ t.emitted.what.num = p.read ∙ ap (λ (e : At Answer). e.what.num) same in
        let body : cond place.read t.emitted.what.body t.sent.what.body ≡ t.emitted.what.body = ap (λ (b : Bool). cond b t.emitted.what.body t.sent.what.body) r in
        let whole : held_by (Some t.emitted) ≡ read_by log place = sym (ap held_by t.first_emitted) in
        let first : held_of (told_line place t.sent t.emitted t.answered) ≡ held_by (Some t.emitted) = λ i. record { num = num i; body = body i } in
        first ∙ whole

    write_is : place.read ≡ false → held_of (told_line place t.sent t.emitted t.answered) ≡ written_by log place
    write_is r =
        let body : cond place.read t.emitted.what.body t.sent.what.body ≡ line_body (sending log place.op) = ap (λ (b : Bool). cond b t.emitted.what.body t.sent.what.body) r ∙ sym (ap line_body t.first_sent) in
        λ i. record { num = place.num; body = body i }

  abbrev line_of : (place : Placed) → IsTold log place → HistLine
  line_of place t = told_line place t.sent t.emitted t.answered

  legal : (keys : List ℕ → Versioned) (list : List Placed) → Each (IsPlace log) list → Each (IsTold log) list → model.IsLegalFrom log keys list → IsLegalFrom keys (map line_at list)
  legal keys [] are told h = tt
  legal keys (p ∷ ps) are told h = go p.read refl h (legal keys ps are.1 told.1) (legal (with_write keys (key_of log p.op) (written_by log p)) ps are.1 told.1)
    where
      at_line : ((is_read (line_of p told.0).kind ≡ true → held_of (line_of p told.0) ≡ keys (line_of p told.0).key) × IsLegalFrom (map_with keys (line_of p told.0)) (map line_at ps)) → IsLegalFrom keys (map line_at (p ∷ ps))
      at_line k = subst (λ (x : HistLine). (is_read x.kind ≡ true → held_of x ≡ keys x.key) × IsLegalFrom (map_with keys x) (map line_at ps)) (sym (line_is p told.0)) k

      go : (r : Bool) → p.read ≡ r → model.IsLegalFrom log keys (p ∷ ps) → (model.IsLegalFrom log keys ps → IsLegalFrom keys (map line_at ps))
          → (model.IsLegalFrom log (with_write keys (key_of log p.op) (written_by log p)) ps → IsLegalFrom (with_write keys (key_of log p.op) (written_by log p)) (map line_at ps)) → IsLegalFrom keys (map line_at (p ∷ ps))
      go true r h reads writes =
          let k = MatchBool-at_true ((read_by log p ≡ keys (key_of log p.op)) × model.IsLegalFrom log keys ps) (model.IsLegalFrom log (with_write keys (key_of log p.op) (written_by log p)) ps) r h in
          let same : keys ≡ map_with keys (line_of p told.0) = sym (ap (λ (b : Bool). cond b keys (with_write keys told.0.sent.what.key (held_of (line_of p told.0)))) (kind p are.0 told.0 ∙ r)) in
          at_line (
            λ read. read_is p are.0 told.0 r ∙ (k.0 ∙ ap keys (on_key p are.0 told.0)),
            subst (λ (m : List ℕ → Versioned). IsLegalFrom m (map line_at ps)) same (reads k.1),
          )
      go false r h reads writes =
          let k = MatchBool-at_false ((read_by log p ≡ keys (key_of log p.op)) × model.IsLegalFrom log keys ps) (model.IsLegalFrom log (with_write keys (key_of log p.op) (written_by log p)) ps) r h in
          let write : is_read told.0.sent.what.op ≡ false = kind p are.0 told.0 ∙ r in
          let set : with_write keys (key_of log p.op) (written_by log p) ≡ with_write keys told.0.sent.what.key (held_of (line_of p told.0)) =
          ap (λ (key : List ℕ). with_write keys key (written_by log p)) (on_key p are.0 told.0) ∙ ap (λ (v : Versioned). with_write keys told.0.sent.what.key v) (sym (write_is p are.0 told.0 r)) in
          let same : with_write keys (key_of log p.op) (written_by log p) ≡ map_with keys (line_of p told.0) =
          set ∙ sym (ap (λ (b : Bool). cond b keys (with_write keys told.0.sent.what.key (held_of (line_of p told.0)))) write) in
          at_line (
            λ read. absurd (let z : true ≡ false = sym read ∙ write in cc),
            subst (λ (m : List ℕ → Versioned). IsLegalFrom m (map line_at ps)) same (writes k),
          )

  -- ---- operations and moments

  pairs_by : {A : Type 0} (R : A → A → Type 0) (xs : List A) → ((i j : ℕ) (x y : A) → slice_get xs i ≡ Some x → slice_get xs j ≡ Some y → i < j → R x y) → Pairs R xs
  pairs_by R [] h = tt
  pairs_by R (x ∷ xs) h = (
    each_from_among (R x) xs (λ y a. let p = place_of y xs a in h 0 (suc p.0) x y refl p.1 (omega arith)),
    pairs_by R xs (λ i j y z e f lt. h (suc i) (suc j) y z e f (omega (arith, lt))),
  )

  op_is : (place : Placed) → IsTold log place → (line_at place).op ≡ place.op
  op_is place t = ap (λ (l : HistLine). l.op) (line_is place t)

  differ : (history : List Placed) → IsHistory log history → Pairs (λ (x y : HistLine). x.op ≢ y.op) (map line_at history)
  differ history h = pairs_map Before (λ (x y : HistLine). x.op ≢ y.op) line_at history h.ordered (λ x y a b before same.
      let tx = places x (h.sound x a) in
      let ty = places y (h.sound y b) in
      let one : x ≡ y = same_place log x y (h.sound x a) (h.sound y b) (sym (op_is x tx) ∙ same ∙ op_is y ty) in
      let self : Before x x = subst (Before x) (sym one) before in
      before_strict x x self self)

  in_time : (history : List Placed) → IsHistory log history → KeepsRealTimeOrder log history → Pairs (λ (earlier later : HistLine). earlier.sent ≤ later.answered) (map line_at history)
  in_time history h keeps = pairs_map (λ (x y : Placed). (line_at x).sent ≤ (line_at y).answered) (λ (x y : HistLine). x.sent ≤ y.answered) line_at history
      (pairs_by (λ (x y : Placed). (line_at x).sent ≤ (line_at y).answered) history go) (λ x y a b le. le)
    where
      go : (i j : ℕ) (x y : Placed) → slice_get history i ≡ Some x → slice_get history j ≡ Some y → i < j → (line_at x).sent ≤ (line_at y).answered
      go i j x y e f lt =
          let tx = places x (h.sound x (among_at x history i e)) in
          let ty = places y (h.sound y (among_at y history j f)) in
          let le : tx.sent.moment ≤ ty.answered.moment = within tx ty (cases_lt ty.answered.moment tx.sent.moment) in
          subst (λ (l : HistLine). l.sent ≤ (line_at y).answered) (sym (line_is x tx)) (subst (λ (l : HistLine). tx.sent.moment ≤ l.answered) (sym (line_is y ty)) le)
        where
          within : (tx : IsTold log x) (ty : IsTold log y) → (ty.answered.moment < tx.sent.moment) ⊎ (tx.sent.moment ≤ ty.answered.moment) → tx.sent.moment ≤ ty.answered.moment
          within tx ty (inl before) = let back : j < i = keeps j i y x ty.answered tx.sent f e ty.first_answered tx.first_sent before in absurd (omega (arith, back, lt))
          within tx ty (inr le) = le

-- ---- the report

regroup : (t s c lines control maps : List ℕ) → ((((t ++ s) ++ (c ++ lines)) ++ control) ++ maps) ++ end_line ≡ (((t ++ s ++ c) ++ lines) ++ (control ++ maps)) ++ end_line
regroup t s c lines control maps = simp append_assoc

abbrev lines_for : List LogLine → List Placed → List HistLine
lines_for log list = map (line_for log) list

abbrev title_text : List ℕ
title_text = text_line (codes "far 1 report" ∷ [])

abbrev steps_text : ℕ → List ℕ
steps_text steps = text_line (codes "steps" ∷ decimal steps ∷ [])

abbrev count_text : ℕ → List ℕ
count_text count = text_line (codes "history" ∷ decimal count ∷ [])

module _ (log : LogView) (text : List ℕ) (one : HasOneLegalHistory log.lines) (full : IsToldInFull log) (is : IsReport log text) where
  are : Each (IsPlace log.lines) is.history
  are = each_from_among (IsPlace log.lines) is.history is.is_history.sound

  told : Each (IsTold log.lines) is.history
  told = each_from_among (IsTold log.lines) is.history (λ p a. full.places p (is.is_history.sound p a))

  linear : model.IsLinearizable log.lines is.history
  linear = subst (model.IsLinearizable log.lines) (sym (one.only is.history is.is_history)) one.linearizable

  number : length (lines_for log.lines is.history) ≡ length is.history
  number = length-map is.history (line_for log.lines)

  few : length (lines_for log.lines is.history) ≤ OP_LIMIT
  few = let most = full.few is.history is.is_history in omega (arith, most, number)

  abbrev behind : List ℕ
  behind = control_text log.lines ++ map_text is.map

  spelled : text ≡ head_text log.steps (length (lines_for log.lines is.history)) ++ hist_lines (lines_for log.lines is.history) ++ behind ++ end_line
  spelled =
      is.is_text ∙ regroup title_text (steps_text log.steps) (count_text (length is.history)) (texts (placed_text log.lines) is.history) (control_text log.lines) (map_text is.map)
      ∙ ap (λ (l : List ℕ). head_text log.steps (length is.history) ++ l ++ behind ++ end_line) (texts_are log.lines full.places is.history told)
      ∙ ap (λ (n : ℕ). head_text log.steps n ++ hist_lines (lines_for log.lines is.history) ++ behind ++ end_line) (sym number)

  pub good_report : IsGoodReport text
  good_report = record {
    lines = lines_for log.lines is.history;
    is = record {
      steps = log.steps;
      between = behind;
      spelled = spelled;
      number = full.steps;
      few = few;
      fit = lines_fit log.lines full.places is.history told;
      are_lines = lines_join (control_text log.lines) (map_text is.map) (control_ends log.lines) (map_ends is.map);
    };
    good = record {
      differ = differ log.lines full.places is.history is.is_history;
      spans = spans log.lines full.places is.history told;
      legal = legal log.lines full.places (λ key. nothing) is.history are told linear.legal;
      in_time = in_time log.lines full.places is.history is.is_history linear.in_time;
    };
  }

-- What clients do: they send their operations and get the answers.
use Rattle.far_invariants.specs.Logs.{TellsOf}
use Rattle.far_invariants.specs.Numbers.{entry, reach}
use Rattle.far_invariants.specs.Operations.{SendsOp, NumbersOp, EmitsOp, AnswersOp, Absent, IsSent, AdmitsOther, IsDrawn, ServesOp, IsBeingAnswered, Relies, LeftIs, WasAnswered, IsOpenOrAnswered, OperationsStand}
use Rattle.far_invariants.proofs.Noted.{IsNote, member, note_member, log_cases}
use Rattle.std.proofs.Common.{◌≡◌, ◌≢◌, ℕ, zero, suc, ◌<◌, max, ◌⊎◌, inl, inr, Bool, true, false, List, [], ◌∷◌, ◌++◌, length, refl, sym, ap, ◌∙◌, subst, arith, le_trans}
use Rattle.std.specs.Prelude.{Option, Some, None, if◌then◌else◌, get_or, set, not, ◌&&◌, is_some, IsTrue, nat_lt}
use Rattle.std.proofs.lemmas.Bool.Decides.{eqb_tells}
use Rattle.std.proofs.lemmas.List.{get_or-set_same, get_or-set_other}
use Rattle.std.proofs.lemmas.Option.{same_Some}
use Rattle.far_base.specs.PlanView.{PlanView}
use Rattle.far_base.specs.declared.log.LogEntry.{LogEntry}
use Rattle.far_base.specs.declared.log.LogEntry.TheVariants.{Sent, Numbered, Emitted, Answered}
use Rattle.far_base.specs.declared.log.LogLine.{LogLine}
use Rattle.far_base.specs.declared.packet.Message.{Message}
use Rattle.far_base.specs.declared.packet.Packet.{Packet}
use Rattle.far_base.specs.declared.packet.Packet.TheVariants.{GetReq, WriteReq, GetFwd, WriteFwd, GetRep, WriteRep, GetAns, WriteAns}
use Rattle.far_base.specs.declared.party.Party.TheVariants.{Client, Switch}
use Rattle.far_base.specs.declared.plan.OpLine.{OpLine}
use Rattle.far_base.specs.declared.record.Record.{Record}
use Rattle.far_model.specs.Clients.{ClientState, line_of, closed, preserves, answered_record, request, client_takes}
use Rattle.far_model.specs.Coherent.{Rises}
use Rattle.far_model.specs.Events.{client_turn, next_sent, can_send, has_next, sends}
use Rattle.far_invariants.specs.Flights.{subject, OfOperation}
use Rattle.far_model.specs.KeyedRecords.{put_record}
use Rattle.far_model.specs.Log.{is_read}
use Rattle.far_model.specs.Members.{Among, Each, Pairs}
use Rattle.far_model.specs.State.{State, client_at, line_at, now, stepped, nobody}
use Rattle.far_model.proofs.Members.{among_append, each_among}
use Rattle.record_laws.proofs.Frame.{counted_on, sends_names, numbers_names, emits_names, answers_names, AboutMine, NotOn, off_shows_each, absent_lasts, shown_lasts, shown_within, Grows, written_lasts, answering_lasts, left_lasts, not_mine}
use Rattle.record_laws.proofs.Requests.{Its}
use Rattle.record_laws.proofs.Slots.{both}
use Rattle.record_laws.proofs.Step.{IsOther, AreOthers, NoteIs, sent_before, next}

-- what a message of an operation relies on
pub record ServesSome (plan : PlanView) (s : State) (caller op : ℕ) : Type 0 where
  pub key : List ℕ
  pub serves : ServesOp plan s caller op key

pub same_subject : (a b c d : ℕ) → OfOperation a b ≡ OfOperation c d → (a ≡ c) × (b ≡ d)
same_subject a b c d h = (cc, cc)

serves_moved : (plan : PlanView) (s : State) (c o caller op : ℕ) (key : List ℕ) → ServesOp plan s c o key → OfOperation c o ≡ OfOperation caller op → ServesSome plan s caller op
serves_moved plan s c o caller op key h e =
    let q = same_subject c o caller op e in
    record { key = key; serves = subst (λ n. ServesOp plan s n op key) q.0 (subst (λ n. ServesOp plan s c n key) q.1 h) }

pub serves_some : (plan : PlanView) (s : State) (p : Packet) (caller op : ℕ) → Relies plan s p → subject p ≡ OfOperation caller op → ServesSome plan s caller op
serves_some plan s (GetReq c o key) caller op r e = serves_moved plan s c o caller op key r.serves e
serves_some plan s (WriteReq c o key body) caller op r e = serves_moved plan s c o caller op key r.serves e
serves_some plan s (GetFwd c o key tag) caller op r e = serves_moved plan s c o caller op key r.serves e
serves_some plan s (WriteFwd c o key num body) caller op r e = serves_moved plan s c o caller op key r.serves e
serves_some plan s (GetRep c o key tag num body) caller op r e = serves_moved plan s c o caller op key r.serves e
serves_some plan s (WriteRep c o key num body) caller op r e = serves_moved plan s c o caller op key r.serves e
serves_some plan s (GetAns c o key num body near) caller op r e = serves_moved plan s c o caller op key r.serves e
serves_some plan s (WriteAns c o key num kept) caller op r e = serves_moved plan s c o caller op key r.serves e
serves_some plan s _ caller op r e = absurd cc

-- ---- one turn of a client

module _ (plan : PlanView) (op : ℕ) (s : State) (rest new : List Message) (notes : List LogEntry) (clients : List ClientState) where
  abbrev turned : State
  turned = record (stepped s (rest ++ new) notes) { clients = clients }

  pub turned_keeps : OperationsStand plan s → AreOthers (Its op) s rest → ((m : Message) → Among m new → (tag : ℕ) → AdmitsOther tag m.packet)
      → ((key : List ℕ) → Each (NotOn plan key) notes) → Each (AboutMine (Its op)) notes → Pairs Rises notes
      → (Grows plan (Its op) notes s turned → ((m : Message) → Among m new → Relies plan turned m.packet) × Each (NoteIs plan (Its op) s turned) notes × ((c : ℕ) → LeftIs plan turned c))
      → ((at o : ℕ) → Among (line_at at (Sent o (line_of plan.ops o))) turned.log → IsOpenOrAnswered plan turned o)
      → OperationsStand plan turned
  turned_keeps k others none off about pairs holds waits_on =
      let w = holds g in
      next plan (Its op) notes s turned k g w.1 pairs (λ m h. bag w.0 m (among_append m rest new h)) (record {
        servers = k.servers;
        config = k.config;
        records = λ key. written_lasts plan (Its op) notes s turned g s.steps (now s) key _ _ (omega arith) (k.records key);
        left = w.2;
        open_or_answered = waits_on;
        covers = λ runs key. shown_lasts s turned notes refl plan key (reach plan s key) (k.covers runs key) (off_shows_each plan key (reach plan s key) notes (off key));
        slots = λ key slot is. let old = k.slots key slot is in record { drawn = g.drawn slot.tag old.drawn; written = λ l. written_lasts plan (Its op) notes s turned g s.steps (now s) key _ _ (omega arith) (old.written l) };
      })
    where
      g : Grows plan (Its op) notes s turned
      g = record {
        log = refl;
        about = about;
        steps = refl;
        counted = counted_on s turned (λ r. r) (omega arith);
        more = λ key. omega arith;
        drawn = λ tag d. record { below = d.below; admitted = λ m h. admitted tag d m (among_append m rest new h) };
        current = λ key tag n m d c b slot is old under. shown_within plan turned.log key (max n slot.num) (max m slot.num)
            (shown_lasts s turned notes refl plan key (max n slot.num) (c slot is old under) (off_shows_each plan key (max n slot.num) notes (off key))) (omega (arith, b));
      }
        where
          admitted : (tag : ℕ) → IsDrawn s tag → (m : Message) → Among m rest ⊎ Among m new → AdmitsOther tag m.packet
          admitted tag d m (inl h) = d.admitted m (others m h).0
          admitted tag d m (inr h) = none m h tag

      bag : ((m : Message) → Among m new → Relies plan turned m.packet) → (m : Message) → Among m rest ⊎ Among m new → (Among m s.bag × IsOther (Its op) m.packet) ⊎ Relies plan turned m.packet
      bag f m (inl h) = inl (others m h)
      bag f m (inr h) = inr (f m h)

-- ---- an answer comes

module _ (plan : PlanView) (s : State) (k : OperationsStand plan s) (rest : List Message) (caller op : ℕ) (key : List ℕ) (others : AreOthers (Its op) s rest)
    (waits : (client_at s caller).waits ≡ Some op) (there : caller < length s.clients) where
  pub answer_keeps : (after : ClientState) → after.waits ≡ None → after.left ≡ (client_at s caller).left → IsBeingAnswered plan s caller op key
      → OperationsStand plan (turned plan op s rest [] (Answered op ∷ []) (set s.clients caller after))
  answer_keeps after closes same h =
      turned_keeps plan op s rest [] (Answered op ∷ []) (set s.clients caller after) k others (λ m a tag. absurd a) (λ key. (tt, tt)) (λ o n. n, tt) (tt, tt)
      (λ g. (
        (λ m a. absurd a),
        (record { fresh = h.serves.unanswered; stands = answering_lasts plan (Its op) (Answered op ∷ []) s t g s.steps (now s) op (omega arith) h.emitted; about = λ o n. n }, tt),
        (λ c. left_lasts plan (Its op) (Answered op ∷ []) s t g c (left c (eqb_tells c caller)) (λ o a e. (k.left c).unsent o a _ h.serves.sent.sent e) (k.left c)),
      ))
      (λ at o a. answered o (eqb_tells (line_of plan.ops o).client caller) (k.open_or_answered at o (sent_before plan s t (Answered op ∷ []) refl (λ o n. n, tt) at o a)))
    where
      t : State
      t = turned plan op s rest [] (Answered op ∷ []) (set s.clients caller after)

      left : (c : ℕ) → ((Rattle.std.specs.Prelude.eqb c caller ≡ true) × (c ≡ caller)) ⊎ ((Rattle.std.specs.Prelude.eqb c caller ≡ false) × (c ≢ caller)) → (client_at t c).left ≡ (client_at s c).left
      left c (inl p) = subst (λ n. (get_or (set s.clients caller after) n nobody).left ≡ (client_at s n).left) (sym p.1) (ap (λ (w : ClientState). w.left) (get_or-set_same s.clients caller after nobody there) ∙ same)
      left c (inr p) = ap (λ (w : ClientState). w.left) (get_or-set_other s.clients caller c after nobody p.1)

      answered : (o : ℕ) → ((Rattle.std.specs.Prelude.eqb (line_of plan.ops o).client caller ≡ true) × ((line_of plan.ops o).client ≡ caller)) ⊎ ((Rattle.std.specs.Prelude.eqb (line_of plan.ops o).client caller ≡ false) × ((line_of plan.ops o).client ≢ caller))
          → IsOpenOrAnswered plan s o → IsOpenOrAnswered plan t o
      answered o p (inr a) = inr (record { answered_at = a.answered_at; answered = member s t (Answered op ∷ []) refl _ a.answered })
      answered o (inl p) (inl w) =
          let same_op : op ≡ o = same_Some op o (sym waits ∙ subst (λ n. (client_at s n).waits ≡ Some o) p.1 w) in
          inr (subst (λ n. WasAnswered t.log n) same_op (record { answered_at = now s; answered = note_member s t (Answered op ∷ []) refl (Answered op) (inl refl) }))
      answered o (inr p) (inl w) = inl (ap (λ (w : ClientState). w.waits) (get_or-set_other s.clients caller (line_of plan.ops o).client after nobody p.1) ∙ w)

  preserved_waits : (c : ClientState) (kept : Bool) (r : Record) → (preserves c kept r).waits ≡ c.waits
  preserved_waits c kept r = go (kept && nat_lt c.released r.num)
    where
      go : (b : Bool) → (if b then record c { preserved = put_record r c.preserved } else c).waits ≡ c.waits
      go true = refl
      go false = refl

  preserved_left : (c : ClientState) (kept : Bool) (r : Record) → (preserves c kept r).left ≡ c.left
  preserved_left c kept r = go (kept && nat_lt c.released r.num)
    where
      go : (b : Bool) → (if b then record c { preserved = put_record r c.preserved } else c).left ≡ c.left
      go true = refl
      go false = refl

  pub read_answered : (num : ℕ) (body : Option (List ℕ)) (near : Bool) → IsBeingAnswered plan s caller op key → OperationsStand plan (client_turn s caller rest (client_takes plan.ops caller (client_at s caller) (GetAns caller op key num body near)))
  read_answered num body near h = answer_keeps (closed (client_at s caller)) refl refl h

  pub write_answered : (num : ℕ) (kept : Bool) → IsBeingAnswered plan s caller op key → OperationsStand plan (client_turn s caller rest (client_takes plan.ops caller (client_at s caller) (WriteAns caller op key num kept)))
  write_answered num kept h = answer_keeps (preserves (closed (client_at s caller)) kept (answered_record plan.ops op num))
      (preserved_waits (closed (client_at s caller)) kept (answered_record plan.ops op num)) (preserved_left (closed (client_at s caller)) kept (answered_record plan.ops op num)) h

-- ---- an operation is sent

-- what the log tells of an operation it tells after its sending
pub named_sent : (plan : PlanView) (s : State) → OperationsStand plan s → (op : ℕ) (l : LogLine) → Among l s.log → TellsOf op l.entry → IsSent plan s.log l.moment op
named_sent plan s k op l a n = go l.entry refl n
  where
    line : (entry : LogEntry) → l.entry ≡ entry → Among (line_at l.moment entry) s.log
    line entry e = subst (λ w. Among (line_at l.moment w) s.log) e a

    its : (o : ℕ) → op ≡ o → IsSent plan s.log l.moment o → IsSent plan s.log l.moment op
    its o same h = subst (λ n. IsSent plan s.log l.moment n) (sym same) h

    go : (entry : LogEntry) → l.entry ≡ entry → TellsOf op entry → IsSent plan s.log l.moment op
    go (Sent o line') e n =
        let is = k.lines _ (line (Sent o line') e) in
        its o n (record { sent_at = l.moment; sent = subst (λ w. Among (line_at l.moment (Sent o w)) s.log) is.stands (line (Sent o line') e); before = omega arith })
    go (Numbered o num) e n = its o n (k.lines _ (line (Numbered o num) e)).stands.sent
    go (Emitted o num body near) e n = its o n (k.lines _ (line (Emitted o num body near) e)).stands.sent
    go (Answered o) e n =
        let is = (k.lines _ (line (Answered o) e)).stands in
        let sent = (k.lines _ is.emitted).stands.sent in
        its o n (record { sent_at = sent.sent_at; sent = sent.sent; before = le_trans sent.before is.before })
    go _ e n = absurd n

client_within : (clients : List ClientState) (c op : ℕ) (left : List ℕ) → (get_or clients c nobody).left ≡ op ∷ left → c < length clients
client_within [] c op left h = absurd cc
client_within (x ∷ xs) zero op left h = omega arith
client_within (x ∷ xs) (suc c) op left h = let b = client_within xs c op left h in omega (arith, b)

request_goes : (plan : PlanView) (t : State) (c op : ℕ) → ServesOp plan t c op (line_of plan.ops op).key → Absent (NumbersOp op) t.log → Absent (EmitsOp op) t.log
    → Relies plan t (request c op (line_of plan.ops op)) × ((tag : ℕ) → AdmitsOther tag (request c op (line_of plan.ops op)))
request_goes plan t c op serves unnumbered unemitted = go (is_read (line_of plan.ops op).op) refl
  where
    go : (b : Bool) → is_read (line_of plan.ops op).op ≡ b
        → Relies plan t (if b then GetReq c op (line_of plan.ops op).key else WriteReq c op (line_of plan.ops op).key (line_of plan.ops op).body)
        × ((tag : ℕ) → AdmitsOther tag (if b then GetReq c op (line_of plan.ops op).key else WriteReq c op (line_of plan.ops op).key (line_of plan.ops op).body))
    go true e = (record { serves = serves; read = e; unemitted = unemitted }, λ tag. tt)
    go false e = (record { serves = serves; write = e; same_body = refl; unnumbered = unnumbered; unemitted = unemitted }, λ tag. tt)

request_admits : (c op : ℕ) (line : OpLine) (tag : ℕ) → AdmitsOther tag (request c op line)
request_admits c op line tag = go (is_read line.op)
  where
    go : (b : Bool) → AdmitsOther tag (if b then GetReq c op line.key else WriteReq c op line.key line.body)
    go true = tt
    go false = tt

pub send_keeps : (plan : PlanView) (s : State) → OperationsStand plan s → (c : ℕ) → can_send (client_at s c) ≡ true → OperationsStand plan (sends plan s c)
send_keeps plan s k c can = go (client_at s c).left refl (client_at s c).waits refl can
  where
    sending : (op : ℕ) (left : List ℕ) → (client_at s c).left ≡ op ∷ left → (client_at s c).waits ≡ None
        → OperationsStand plan (client_turn s c s.bag (next_sent plan.ops c (client_at s c) (op ∷ left)))
    sending op left is idle =
        turned_keeps plan op s s.bag (record { from = Client c; to = Switch; packet = request c op line } ∷ []) notes clients k others
        (λ m a tag. new_admits m a tag) (λ key. (tt, tt)) (λ o n. n, tt) (tt, tt)
        (λ g. ((λ m a. new_flies g m a), (record { fresh = unsent; stands = refl; about = λ o n. n }, tt), left_after g))
        (λ at o a. waits_on o (log_cases s t notes refl _ a))
      where
        line : OpLine
        line = line_of plan.ops op

        notes : List LogEntry
        notes = Sent op (line_of plan.ops op) ∷ []

        clients : List ClientState
        clients = set s.clients c (record (client_at s c) { waits = Some op; left = left })

        t : State
        t = turned plan op s s.bag (record { from = Client c; to = Switch; packet = request c op (line_of plan.ops op) } ∷ []) (Sent op (line_of plan.ops op) ∷ []) clients

        there : c < length s.clients
        there = client_within s.clients c op left is

        among_left : Among op (client_at s c).left
        among_left = subst (λ w. Among op w) (sym is) (inl refl)

        of_client : (line_of plan.ops op).client ≡ c
        of_client = (k.left c).of_client op among_left

        unsent : Absent (SendsOp op) s.log
        unsent = (k.left c).unsent op among_left

        unnamed : (l : LogLine) → Among l s.log → TellsOf op l.entry → ⊥
        unnamed l a n = unsent _ (named_sent plan s k op l a n).sent refl

        others : AreOthers (Its op) s s.bag
        others m a = (a, λ caller o e same. unsent _ (subst (λ n. IsSent plan s.log s.steps n) same (serves_some plan s m.packet caller o (k.relies m a) e).serves.sent).sent refl)

        new_admits : (m : Message) → Among m (record { from = Client c; to = Switch; packet = request c op line } ∷ []) → (tag : ℕ) → AdmitsOther tag m.packet
        new_admits m (inl e) tag = subst (λ (w : Message). AdmitsOther tag w.packet) (sym e) (request_admits c op line tag)
        new_admits m (inr a) tag = absurd a

        new_flies : Grows plan (Its op) notes s t → (m : Message) → Among m (record { from = Client c; to = Switch; packet = request c op line } ∷ []) → Relies plan t m.packet
        new_flies g m (inl e) = subst (λ (w : Message). Relies plan t w.packet) (sym e) (request_goes plan t c op
            (record {
              sent = record { sent_at = now s; sent = note_member s t notes refl (Sent op line) (inl refl); before = omega arith };
              on_key = refl;
              by_client = sym of_client;
              unanswered = absent_lasts s t notes refl (AnswersOp op) (λ l a n. unnamed l a (answers_names op l.entry n)) (λ x. x, tt);
            })
            (absent_lasts s t notes refl (NumbersOp op) (λ l a n. unnamed l a (numbers_names op l.entry n)) (λ x. x, tt))
            (absent_lasts s t notes refl (EmitsOp op) (λ l a n. unnamed l a (emits_names op l.entry n)) (λ x. x, tt))).0
        new_flies g m (inr a) = absurd a

        here : client_at t c ≡ record (client_at s c) { waits = Some op; left = left }
        here = get_or-set_same s.clients c (record (client_at s c) { waits = Some op; left = left }) nobody there

        left_after : Grows plan (Its op) notes s t → (d : ℕ) → LeftIs plan t d
        left_after g d = pick (eqb_tells d c)
          where
            own : LeftIs plan t c
            own =
                let same = ap (λ (w : ClientState). w.left) here in
                let apart = subst (λ w. Pairs (λ (a b : ℕ). a ≢ b) w) is (k.left c).apart in
                record {
                  of_client = λ o a. (k.left c).of_client o (subst (λ w. Among o w) (sym is) (inr (subst (λ w. Among o w) same a)));
                  unsent = λ o a. let b = subst (λ w. Among o w) same a in
                      not_mine plan (Its op) notes s t g SendsOp sends_names o (λ e. each_among (λ x. op ≢ x) o left apart.0 b (sym e)) ((k.left c).unsent o (subst (λ w. Among o w) (sym is) (inr b)));
                  apart = subst (λ w. Pairs (λ (a b : ℕ). a ≢ b) w) (sym same) apart.1;
                }

            pick : ((Rattle.std.specs.Prelude.eqb d c ≡ true) × (d ≡ c)) ⊎ ((Rattle.std.specs.Prelude.eqb d c ≡ false) × (d ≢ c)) → LeftIs plan t d
            pick (inl p) = subst (λ n. LeftIs plan t n) (sym p.1) own
            pick (inr p) = left_lasts plan (Its op) notes s t g d (ap (λ (w : ClientState). w.left) (get_or-set_other s.clients c d _ nobody p.1))
                (λ o a e. p.1 (sym ((k.left d).of_client o a) ∙ ap (λ n. (line_of plan.ops n).client) e ∙ of_client)) (k.left d)

        waits_on : (o : ℕ) {at : ℕ} → Among (line_at at (Sent o (line_of plan.ops o))) s.log ⊎ IsNote notes (now s) (line_at at (Sent o (line_of plan.ops o))) → IsOpenOrAnswered plan t o
        waits_on o (inl a) = old (eqb_tells (line_of plan.ops o).client c) (k.open_or_answered _ o a)
          where
            old : ((Rattle.std.specs.Prelude.eqb (line_of plan.ops o).client c ≡ true) × ((line_of plan.ops o).client ≡ c)) ⊎ ((Rattle.std.specs.Prelude.eqb (line_of plan.ops o).client c ≡ false) × ((line_of plan.ops o).client ≢ c))
                → IsOpenOrAnswered plan s o → IsOpenOrAnswered plan t o
            old p (inr w) = inr (record { answered_at = w.answered_at; answered = member s t notes refl _ w.answered })
            old (inl p) (inl w) = absurd (let e = sym idle ∙ subst (λ n. (client_at s n).waits ≡ Some o) p.1 w in cc)
            old (inr p) (inl w) = inl (ap (λ (w : ClientState). w.waits) (get_or-set_other s.clients c (line_of plan.ops o).client _ nobody p.1) ∙ w)
        waits_on o (inr m) = new m.entry m.among (ap (λ (w : LogLine). w.entry) m.is)
          where
            new : (entry : LogEntry) → Among entry notes → Sent o (line_of plan.ops o) ≡ entry → IsOpenOrAnswered plan t o
            new entry (inl e) f =
                let same : SendsOp o (Sent op (line_of plan.ops op)) = subst (SendsOp o) (f ∙ e) refl in
                inl (subst (λ n. (client_at t (line_of plan.ops n).client).waits ≡ Some n) (sym same) (ap (λ n. (client_at t n).waits) of_client ∙ ap (λ (w : ClientState). w.waits) here))
            new entry (inr a) f = absurd a

    go : (left : List ℕ) → (client_at s c).left ≡ left → (w : Option ℕ) → (client_at s c).waits ≡ w → (not (is_some (client_at s c).waits) && has_next (client_at s c).left) ≡ true
        → OperationsStand plan (client_turn s c s.bag (next_sent plan.ops c (client_at s c) left))
    go [] is w e h = absurd (let b : has_next (client_at s c).left ≡ true = (both (not (is_some (client_at s c).waits)) (has_next (client_at s c).left) h).1 in let f : has_next (client_at s c).left ≡ false = ap has_next is in let g : true ≡ false = sym b ∙ f in cc)
    go (op ∷ left) is None e h = sending op left is e
    go (op ∷ left) is (Some o) e h = absurd (let b = (both _ _ h).0 in let f = ap (λ (x : Option ℕ). not (is_some x)) e in let g = sym b ∙ f in cc)

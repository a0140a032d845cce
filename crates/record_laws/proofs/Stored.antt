-- Forwards at servers: records only get greater numbers, and replies say what is there.
use Rattle.far_invariants.specs.Numbers.{entry, reach_by, reach, IsWritten}
use Rattle.far_invariants.specs.Covers.{look}
use Rattle.far_invariants.specs.Operations.{EmitsOp, AnswersOp, AdmitsOther, IsDrawn, ServesOp, ReadIsForwarded, WriteIsForwarded, Relies, IsOpenOrAnswered, OperationsStand}
use Rattle.far_invariants.proofs.Noted.{member}
use Rattle.far_invariants.proofs.Puts.{AfterKeep, IsPut, IsLeft, after_keep, kept_other}
use Rattle.far_invariants.proofs.Keys.{key_cases}
use Rattle.far_base.specs.declared.record.Versioned.{Versioned}
use Rattle.std.proofs.Common.{◌≡◌, ◌≢◌, ℕ, ◌<◌, ◌≤◌, max, ◌⊎◌, inl, inr, Bool, true, false, List, [], ◌∷◌, ◌++◌, length, refl, sym, ap, ◌∙◌, subst, arith, le_trans}
use Rattle.std.specs.Prelude.{Option, Some, None, if◌then◌else◌, nat_lt, get_or, set, sum, ◌%◌}
use Rattle.std.proofs.lemmas.Bool.Decides.{eqb_tells}
use Rattle.std.proofs.lemmas.List.{get_or-set_same, get_or-set_other, set-get_or, length-set}
use Rattle.std.proofs.lemmas.Nat.{mod_below}
use Rattle.far_base.specs.PlanView.{PlanView}
use Rattle.far_base.specs.declared.packet.Message.{Message}
use Rattle.far_base.specs.declared.packet.Packet.TheVariants.{GetFwd, WriteFwd, GetRep, WriteRep}
use Rattle.far_base.specs.declared.party.Party.TheVariants.{Switch, Server}
use Rattle.far_base.specs.declared.record.Record.{Record}
use Rattle.far_model.specs.Events.{server_turn}
use Rattle.far_model.specs.KeyedRecords.{found}
use Rattle.far_model.specs.Members.{Among}
use Rattle.far_model.specs.Servers.{record_of, server_reply, stored}
use Rattle.far_model.specs.State.{State, client_at, records_at, now, stepped}
use Rattle.far_model.specs.View.{SlotView, server_of}
use Rattle.far_model.proofs.Members.{among_append}
use Rattle.record_laws.proofs.Frame.{counted_on, absent_lasts, shown_lasts, shown_by_lasts, shown_within, Grows, serves_lasts, tagged_lasts, written_lasts, left_lasts, past}
use Rattle.record_laws.proofs.Requests.{Its}
use Rattle.record_laws.proofs.Step.{IsOther, AreOthers, sent_before, next}

reach_more : (n m : ℕ) (e : Option SlotView) → n ≤ m → reach_by n e ≤ reach_by m e
reach_more n m None h = h
reach_more n m (Some slot) h = go slot.latest
  where
    go : (b : Bool) → (if b then slot.num else n) ≤ (if b then slot.num else m)
    go true = omega arith
    go false = h

-- ---- one turn of a server

module _ (plan : PlanView) (op : ℕ) (s : State) (rest : List Message) (servers : List (List Record)) (reply : Message) where
  abbrev served : State
  served = record (stepped s (rest ++ reply ∷ []) []) { servers = servers }

  pub served_keeps : OperationsStand plan s → length servers ≡ length s.servers → ((key : List ℕ) → (look plan s key).num ≤ (look plan served key).num)
      → ((key : List ℕ) → IsWritten plan s.log s.steps key (look plan served key).num (look plan served key).body)
      → AreOthers (Its op) s rest → ((c o : ℕ) → Among o (client_at s c).left → Its op o → ⊥) → ((tag : ℕ) → AdmitsOther tag reply.packet)
      → (Grows plan (Its op) [] s served → ((key : List ℕ) → IsWritten plan served.log served.steps key (look plan served key).num (look plan served key).body) → Relies plan served reply.packet)
      → OperationsStand plan served
  served_keeps k same more written others unsent none flies =
      next plan (Its op) [] s served k g tt tt (λ m h. bag m (among_append m rest (reply ∷ []) h)) (record {
        servers = same ∙ k.servers;
        config = k.config;
        records = records;
        left = λ c. left_lasts plan (Its op) [] s served g c refl (unsent c) (k.left c);
        open_or_answered = λ at o h. waits_on o (k.open_or_answered at o (sent_before plan s served [] refl tt at o h));
        covers = λ runs key. shown_within plan served.log key (reach plan s key) (reach plan served key)
            (shown_lasts s served [] refl plan key (reach plan s key) (k.covers runs key) tt) (reach_more _ _ (entry key s.switch) (more key));
        slots = λ key slot is. let old = k.slots key slot is in record { drawn = g.drawn slot.tag old.drawn; written = λ l. written_lasts plan (Its op) [] s served g s.steps (now s) key _ _ (omega arith) (old.written l) };
      })
    where
      g : Grows plan (Its op) [] s served
      g = record {
        log = refl;
        about = tt;
        steps = refl;
        counted = counted_on s served (λ r. r) (omega arith);
        more = more;
        drawn = λ tag d. record { below = d.below; admitted = λ m h. admitted tag d m (among_append m rest (reply ∷ []) h) };
        current = λ key tag n m d c b slot is old under. shown_within plan served.log key (max n slot.num) (max m slot.num)
            (shown_lasts s served [] refl plan key (max n slot.num) (c slot is old under) tt) (omega (arith, b));
      }
        where
          admitted : (tag : ℕ) → IsDrawn s tag → (m : Message) → Among m rest ⊎ Among m (reply ∷ []) → AdmitsOther tag m.packet
          admitted tag d m (inl h) = d.admitted m (others m h).0
          admitted tag d m (inr (inl e)) = subst (λ (w : Message). AdmitsOther tag w.packet) (sym e) (none tag)
          admitted tag d m (inr (inr h)) = absurd h

      records : (key : List ℕ) → IsWritten plan served.log served.steps key (look plan served key).num (look plan served key).body
      records key = written_lasts plan (Its op) [] s served g s.steps (now s) key _ _ (omega arith) (written key)

      bag : (m : Message) → Among m rest ⊎ Among m (reply ∷ []) → (Among m s.bag × IsOther (Its op) m.packet) ⊎ Relies plan served m.packet
      bag m (inl h) = inl (others m h)
      bag m (inr (inl e)) = inr (subst (λ (w : Message). Relies plan served w.packet) (sym e) (flies g records))
      bag m (inr (inr h)) = absurd h

      waits_on : (o : ℕ) → IsOpenOrAnswered plan s o → IsOpenOrAnswered plan served o
      waits_on o (inl waits) = inl waits
      waits_on o (inr h) = inr (record { answered_at = h.answered_at; answered = member s served [] refl _ h.answered })

module _ (plan : PlanView) (s : State) (k : OperationsStand plan s) (rest : List Message) (caller op : ℕ) (key : List ℕ) (others : AreOthers (Its op) s rest) where
  left_unsent : ServesOp plan s caller op key → (c o : ℕ) → Among o (client_at s c).left → Its op o → ⊥
  left_unsent h c o a same = (k.left c).unsent o a _ h.sent.sent same

  abbrev its_server : ℕ
  its_server = server_of plan.config key

  its_server_there : its_server < length s.servers
  its_server_there = let b = mod_below (sum key) plan.config.servers k.some_server in let e = k.servers in omega (arith, b, e)

  abbrev its_records : List Record
  its_records = records_at s its_server

  pub read_served : (tag : ℕ) → ReadIsForwarded plan s caller op key tag
      → OperationsStand plan (server_turn s its_server rest (GetFwd caller op key tag) (server_reply its_server its_records (GetFwd caller op key tag)))
  read_served tag h =
      let reply : Message = record { from = Server its_server; to = Switch; packet = GetRep caller op key tag (look plan s key).num (look plan s key).body } in
      let t : State = served plan op s rest (set s.servers its_server its_records) reply in
      let same : set s.servers its_server its_records ≡ s.servers = set-get_or s.servers its_server [] in
      let looks : (other : List ℕ) → look plan t other ≡ look plan s other = (λ other. ap (λ l. found (get_or l (server_of plan.config other) []) other) same) in
      served_keeps plan op s rest (set s.servers its_server its_records) reply k (ap length same)
      (λ other. subst (λ n. (look plan s other).num ≤ n) (sym (ap (λ (w : Versioned). w.num) (looks other))) (omega arith))
      (λ other. subst (λ (w : Versioned). IsWritten plan s.log s.steps other w.num w.body) (sym (looks other)) (k.records other))
      others (left_unsent h.serves) (λ t. tt)
      (λ g records. record {
        serves = serves_lasts plan (Its op) [] s t g caller op key (absent_lasts s t [] refl (AnswersOp op) h.serves.unanswered tt) h.serves;
        read = h.read;
        unemitted = absent_lasts s t [] refl (EmitsOp op) h.unemitted tt;
        floor = shown_by_lasts s t [] refl plan key h.serves.sent.sent_at (look plan s key).num h.serves.sent.before h.floor;
        known = g.more key;
        written = written_lasts plan (Its op) [] s t g s.steps (now s) key _ _ (omega arith) (k.records key);
        tagged = tagged_lasts plan (Its op) [] s t g key tag _ _ (omega arith) h.tagged;
      })

  pub write_served : (num : ℕ) (body : Option (List ℕ)) → WriteIsForwarded plan s caller op key num body
      → OperationsStand plan (server_turn s its_server rest (WriteFwd caller op key num body) (server_reply its_server its_records (WriteFwd caller op key num body)))
  write_served num body h =
      served_keeps plan op s rest (set s.servers its_server after) reply k same_length more written others (left_unsent h.serves) (λ t. tt)
      (λ g records. record {
        serves = serves_lasts plan (Its op) [] s t g caller op key (absent_lasts s t [] refl (AnswersOp op) h.serves.unanswered tt) h.serves;
        write = h.write;
        unemitted = absent_lasts s t [] refl (EmitsOp op) h.unemitted tt;
        own = record { own = num; is = record { numbered_at = h.own.numbered_at; numbered = member s t [] refl _ h.own.numbered; before = le_trans h.own.before (past plan (Its op) [] s t g) }; within = least };
        known = subst (λ (w : Versioned). (found after key).num ≤ w.num) (sym its_look) (omega arith);
        written = subst (λ (w : Versioned). IsWritten plan t.log t.steps key w.num w.body) its_look (records key);
      })
    where
      r : Record
      r = record_of key num body

      after : List Record
      after = stored its_records (record_of key num body)

      reply : Message
      reply = record { from = Server its_server; to = Switch; packet = WriteRep caller op key (found (stored its_records (record_of key num body)) key).num (found (stored its_records (record_of key num body)) key).body }

      t : State
      t = served plan op s rest (set s.servers its_server (stored its_records (record_of key num body))) reply

      same_length : length (set s.servers its_server after) ≡ length s.servers
      same_length = length-set s.servers its_server after

      its_look : look plan t key ≡ found after key
      its_look = ap (λ l. found l key) (get_or-set_same s.servers its_server after [] its_server_there)

      other_look : (other : List ℕ) → other ≢ key → look plan t other ≡ look plan s other
      other_look other ne = go (eqb_tells (server_of plan.config other) its_server)
        where
          go : ((Rattle.std.specs.Prelude.eqb (server_of plan.config other) its_server ≡ true) × (server_of plan.config other ≡ its_server)) ⊎ ((Rattle.std.specs.Prelude.eqb (server_of plan.config other) its_server ≡ false) × (server_of plan.config other ≢ its_server))
              → look plan t other ≡ look plan s other
          go (inl p) = ap (λ n. found (get_or (set s.servers its_server after) n []) other) p.1 ∙ ap (λ l. found l other) (get_or-set_same s.servers its_server after [] its_server_there)
              ∙ kept_other its_records r other ne ∙ ap (λ n. found (get_or s.servers n []) other) (sym p.1)
          go (inr p) = ap (λ l. found l other) (get_or-set_other s.servers its_server (server_of plan.config other) after [] p.1)

      least : num ≤ (found after key).num
      least = go (after_keep its_records r)
        where
          go : AfterKeep its_records r → num ≤ (found after key).num
          go (IsPut e above) = let n = ap (λ (w : Versioned). w.num) e in omega (arith, n)
          go (IsLeft e below) = let n = ap (λ (w : Versioned). w.num) e in omega (arith, n, below)

      more : (other : List ℕ) → (look plan s other).num ≤ (look plan t other).num
      more other = go (key_cases other key)
        where
          its : AfterKeep its_records r → (look plan s key).num ≤ (found after key).num
          its (IsPut e above) = let n = ap (λ (w : Versioned). w.num) e in omega (arith, n, above)
          its (IsLeft e below) = let n = ap (λ (w : Versioned). w.num) e in omega (arith, n)

          go : (other ≡ key) ⊎ (other ≢ key) → (look plan s other).num ≤ (look plan t other).num
          go (inl same) = subst (λ q. (look plan s q).num ≤ (look plan t q).num) (sym same) (subst (λ (w : Versioned). (look plan s key).num ≤ w.num) (sym its_look) (its (after_keep its_records r)))
          go (inr ne) = let n = ap (λ (w : Versioned). w.num) (other_look other ne) in omega (arith, n)

      written : (other : List ℕ) → IsWritten plan s.log s.steps other (look plan t other).num (look plan t other).body
      written other = go (key_cases other key)
        where
          its : AfterKeep its_records r → IsWritten plan s.log s.steps key (found after key).num (found after key).body
          its (IsPut e above) = subst (λ (w : Versioned). IsWritten plan s.log s.steps key w.num w.body) (sym e) (record {
            none = λ z. let above = h.above in absurd (omega (arith, z, above));
            some = λ more. record { op = op; own = h.own; on_key = h.serves.on_key; same_body = h.same_body };
          })
          its (IsLeft e below) = subst (λ (w : Versioned). IsWritten plan s.log s.steps key w.num w.body) (sym e) (k.records key)

          go : (other ≡ key) ⊎ (other ≢ key) → IsWritten plan s.log s.steps other (look plan t other).num (look plan t other).body
          go (inl same) = subst (λ q. IsWritten plan s.log s.steps q (look plan t q).num (look plan t q).body) (sym same)
              (subst (λ (w : Versioned). IsWritten plan s.log s.steps key w.num w.body) (sym its_look) (its (after_keep its_records r)))
          go (inr ne) = subst (λ (w : Versioned). IsWritten plan s.log s.steps other w.num w.body) (sym (other_look other ne)) (k.records other)

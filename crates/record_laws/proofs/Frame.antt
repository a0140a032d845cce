-- What one step leaves as it was for all that is not its own.
use Rattle.far_invariants.specs.Logs.{TellsOf}
use Rattle.far_invariants.specs.Numbers.{ExposedAtMostBy, ExposedAtMost, IsWritten, WouldBeCurrent}
use Rattle.far_invariants.specs.Covers.{look}
use Rattle.far_invariants.specs.Operations.{SendsOp, NumbersOp, EmitsOp, AnswersOp, Absent, IsSent, LineStands, LineIs, IsDrawn, IsTagged, ServesOp, Relies, LeftIs, OperationsStand}
use Rattle.far_invariants.proofs.Noted.{IsNote, member, log_cases}
use Rattle.flight_laws.proofs.Lists.{each_map}
use Rattle.std.proofs.Common.{◌≡◌, ◌≢◌, ℕ, ◌<◌, ◌≤◌, ◌⊎◌, inl, inr, Bool, true, false, List, map, refl, sym, ap, subst, arith, le_trans}
use Rattle.std.specs.Bool.{MatchBool}
use Rattle.std.specs.Prelude.{Option}
use Rattle.far_base.specs.PlanView.{PlanView}
use Rattle.far_base.specs.declared.log.LogEntry.{LogEntry}
use Rattle.far_base.specs.declared.log.LogEntry.TheVariants.{Sent, Numbered, Emitted, Answered}
use Rattle.far_base.specs.declared.log.LogLine.{LogLine}
use Rattle.far_base.specs.declared.packet.Packet.{Packet}
use Rattle.far_base.specs.declared.packet.Packet.TheVariants.{GetReq, WriteReq, GetFwd, WriteFwd, GetRep, WriteRep, GetAns, WriteAns}
use Rattle.far_model.specs.Clients.{line_of}
use Rattle.far_model.specs.Coherent.{Rises, Earlier, IsAnswering, IsOwnNumber, ReachesOwnNumber}
use Rattle.far_invariants.specs.Flights.{subject, OfOperation}
use Rattle.far_model.specs.Members.{Among, Each, Pairs}
use Rattle.far_model.specs.State.{State, client_at, line_at, now, noted}
use Rattle.far_model.proofs.Members.{among_map_from, each_among, pairs_append, pairs_map}

pub sends_names : (op : ℕ) (e : LogEntry) → SendsOp op e → TellsOf op e
sends_names op (Sent other line) h = h
sends_names op _ h = absurd h

pub numbers_names : (op : ℕ) (e : LogEntry) → NumbersOp op e → TellsOf op e
numbers_names op (Numbered other num) h = h
numbers_names op _ h = absurd h

pub emits_names : (op : ℕ) (e : LogEntry) → EmitsOp op e → TellsOf op e
emits_names op (Emitted other num body near) h = h
emits_names op _ h = absurd h

pub answers_names : (op : ℕ) (e : LogEntry) → AnswersOp op e → TellsOf op e
answers_names op (Answered other) h = h
answers_names op _ h = absurd h

-- the notes of the step are of its own operations
abbrev pub AboutMine : (ℕ → Type 0) → LogEntry → Type 0
AboutMine Mine e = (op : ℕ) → TellsOf op e → Mine op

-- an answer among the notes shows no number of the key
abbrev pub NotOn : PlanView → List ℕ → LogEntry → Type 0
NotOn plan key (Emitted op num body near) = (line_of plan.ops op).key ≢ key
NotOn plan key _ = Unit {0}

-- an answer among the notes shows at most n of the key
abbrev pub ShowsNoMore : PlanView → List ℕ → ℕ → LogEntry → Type 0
ShowsNoMore plan key n (Emitted op num body near) = (line_of plan.ops op).key ≡ key → num ≤ n
ShowsNoMore plan key n _ = Unit {0}

off_shows : (plan : PlanView) (key : List ℕ) (n : ℕ) (e : LogEntry) → NotOn plan key e → ShowsNoMore plan key n e
off_shows plan key n (Emitted op num body near) h = λ k. absurd (h k)
off_shows plan key n (Sent op line) h = tt
off_shows plan key n (Numbered op num) h = tt
off_shows plan key n (Answered op) h = tt
off_shows plan key n _ h = tt

pub off_shows_each : (plan : PlanView) (key : List ℕ) (n : ℕ) (notes : List LogEntry) → Each (NotOn plan key) notes → Each (ShowsNoMore plan key n) notes
off_shows_each plan key n notes h = each_map (NotOn plan key) (ShowsNoMore plan key n) notes (off_shows plan key n) h

-- ---- the log

module _ (s t : State) (notes : List LogEntry) (e : t.log ≡ noted s notes) where
  pub absent_lasts : (says : LogEntry → Type 0) → Absent says s.log → Each (λ n. says n → ⊥) notes → Absent says t.log
  absent_lasts says h k = λ l a b. go l b (log_cases s t notes e l a)
    where
      go : (l : LogLine) → says l.entry → Among l s.log ⊎ IsNote notes (now s) l → ⊥
      go l b (inl a) = h l a b
      go l b (inr n) = each_among (λ n. says n → ⊥) n.entry notes k n.among (subst says (ap (λ (w : LogLine). w.entry) n.is) b)

  -- what was shown up to a moment before this step stays
  pub shown_by_lasts : (plan : PlanView) (key : List ℕ) (moment n : ℕ) → moment ≤ s.steps → ExposedAtMostBy plan s.log key moment n → ExposedAtMostBy plan t.log key moment n
  shown_by_lasts plan key moment n b h = λ at op num body near a k before. go at op num body near k before (log_cases s t notes e _ a)
    where
      go : (at op num : ℕ) (body : Option (List ℕ)) (near : Bool) → (line_of plan.ops op).key ≡ key → at ≤ moment → Among (line_at at (Emitted op num body near)) s.log ⊎ IsNote notes (now s) (line_at at (Emitted op num body near)) → num ≤ n
      go at op num body near k before (inl a) = h at op num body near a k before
      go at op num body near k before (inr m) = let late : at ≡ now s = ap (λ (w : LogLine). w.moment) m.is in absurd (omega arith)

  pub shown_lasts : (plan : PlanView) (key : List ℕ) (n : ℕ) → ExposedAtMost plan s.log key n → Each (ShowsNoMore plan key n) notes → ExposedAtMost plan t.log key n
  shown_lasts plan key n h k = λ at op num body near a on. go at op num body near on (log_cases s t notes e _ a)
    where
      go : (at op num : ℕ) (body : Option (List ℕ)) (near : Bool) → (line_of plan.ops op).key ≡ key → Among (line_at at (Emitted op num body near)) s.log ⊎ IsNote notes (now s) (line_at at (Emitted op num body near)) → num ≤ n
      go at op num body near on (inl a) = h at op num body near a on
      go at op num body near on (inr m) = subst (ShowsNoMore plan key n) (sym (ap (λ (w : LogLine). w.entry) m.is)) (each_among (ShowsNoMore plan key n) m.entry notes k m.among) on

pub shown_within : (plan : PlanView) (log : List LogLine) (key : List ℕ) (n m : ℕ) → ExposedAtMost plan log key n → n ≤ m → ExposedAtMost plan log key m
shown_within plan log key n m h k = λ at op num body near a on. le_trans (h at op num body near a on) k

pub shown_by_within : (plan : PlanView) (log : List LogLine) (key : List ℕ) (moment n m : ℕ) → ExposedAtMostBy plan log key moment n → n ≤ m → ExposedAtMostBy plan log key moment m
shown_by_within plan log key moment n m h k = λ at op num body near a on before. le_trans (h at op num body near a on before) k

pub shown_shown_by : (plan : PlanView) (log : List LogLine) (key : List ℕ) (moment n : ℕ) → ExposedAtMost plan log key n → ExposedAtMostBy plan log key moment n
shown_shown_by plan log key moment n h = λ at op num body near a on before. h at op num body near a on

-- ---- one step

-- where a switch that runs ran before, and its counter rises, what was counted is
pub counted_on : (s t : State) → (t.running ≡ true → s.running ≡ true) → s.switch.counter ≤ t.switch.counter → (at op num : ℕ) → Among (line_at at (Numbered op num)) s.log → (s.running ≡ true → num ≤ s.switch.counter) → t.running ≡ true → num ≤ t.switch.counter
counted_on s t running counter at op num a h runs = le_trans (h (running runs)) counter

-- what a step does: its notes are of its own operations, time goes on, numbers of servers rise, and what was numbered stays counted
pub record Grows (plan : PlanView) (Mine : ℕ → Type 0) (notes : List LogEntry) (s t : State) : Type 0 where
  pub log : t.log ≡ noted s notes
  pub about : Each (AboutMine Mine) notes
  pub steps : t.steps ≡ now s
  pub counted : (at op num : ℕ) → Among (line_at at (Numbered op num)) s.log → (s.running ≡ true → num ≤ s.switch.counter) → t.running ≡ true → num ≤ t.switch.counter
  pub more : (key : List ℕ) → (look plan s key).num ≤ (look plan t key).num
  pub drawn : (tag : ℕ) → IsDrawn s tag → IsDrawn t tag
  pub current : (key : List ℕ) (tag n m : ℕ) → IsDrawn s tag → WouldBeCurrent plan s key tag n → n ≤ m → WouldBeCurrent plan t key tag m

module _ (plan : PlanView) (Mine : ℕ → Type 0) (notes : List LogEntry) (s t : State) (g : Grows plan Mine notes s t) where
  pub still : (l : LogLine) → Among l s.log → Among l t.log
  still l h = member s t notes g.log l h

  pub not_mine : (says : ℕ → LogEntry → Type 0) → ((op : ℕ) (e : LogEntry) → says op e → TellsOf op e) → (op : ℕ) → (Mine op → ⊥) → Absent (says op) s.log → Absent (says op) t.log
  not_mine says names op other h = absent_lasts s t notes g.log (says op) h (each_map (AboutMine Mine) (λ n. says op n → ⊥) notes (λ e about said. other (about op (names op e said))) g.about)

  abbrev pub sent_lasts : (moment op : ℕ) → IsSent plan s.log moment op → IsSent plan t.log moment op
  sent_lasts moment op h = record { sent_at = h.sent_at; sent = still _ h.sent; before = h.before }

  pub own_lasts : (moment later op num : ℕ) → moment ≤ later → IsOwnNumber s.log moment op num → IsOwnNumber t.log later op num
  own_lasts moment later op num b h = record { numbered_at = h.numbered_at; numbered = still _ h.numbered; before = le_trans h.before b }

  pub has_own_lasts : (moment later op num : ℕ) → moment ≤ later → ReachesOwnNumber s.log moment op num → ReachesOwnNumber t.log later op num
  has_own_lasts moment later op num b h = record { own = h.own; is = own_lasts moment later op h.own b h.is; within = h.within }

  pub written_lasts : (moment later : ℕ) (key : List ℕ) (num : ℕ) (body : Option (List ℕ)) → moment ≤ later → IsWritten plan s.log moment key num body → IsWritten plan t.log later key num body
  written_lasts moment later key num body b h = record {
    none = h.none;
    some = λ above. let w = h.some above in record { op = w.op; own = own_lasts moment later w.op num b w.own; on_key = w.on_key; same_body = w.same_body };
  }

  pub answering_lasts : (moment later op : ℕ) → moment ≤ later → IsAnswering s.log moment op → IsAnswering t.log later op
  answering_lasts moment later op b h = record { emitted_at = h.emitted_at; num = h.num; body = h.body; near = h.near; emitted = still _ h.emitted; before = le_trans h.before b }

  pub past : s.steps ≤ t.steps
  past = let e = g.steps in omega arith

  stored_lasts : (moment op num : ℕ) (near : Bool) (key : List ℕ) → MatchBool near (IsOwnNumber s.log moment op num) (num ≤ (look plan s key).num)
      → MatchBool near (IsOwnNumber t.log moment op num) (num ≤ (look plan t key).num)
  stored_lasts moment op num true key own = own_lasts moment moment op num (omega arith) own
  stored_lasts moment op num false key b = le_trans b (g.more key)

  -- a line stands as it stood
  line_lasts : (moment : ℕ) (entry : LogEntry) → Among (line_at moment entry) s.log → moment ≤ s.steps → LineStands plan s moment entry → LineStands plan t moment entry
  line_lasts moment (Sent op line) a b h = h
  line_lasts moment (Numbered op num) a b h = record {
    sent = sent_lasts moment op h.sent;
    write = h.write;
    above = h.above;
    counted = g.counted moment op num a h.counted;
  }
  line_lasts moment (Emitted op num body near) a b h = record {
    sent = sent_lasts moment op h.sent;
    key = h.key;
    on_key = h.on_key;
    written = h.written;
    source = written_lasts moment moment h.key num h.written (omega arith) h.source;
    same = h.same;
    floor = λ read. shown_by_lasts s t notes g.log plan h.key h.sent.sent_at num (le_trans h.sent.before b) (h.floor read);
    own = λ write. has_own_lasts moment moment op num (omega arith) (h.own write);
    stored = λ write. stored_lasts moment op num near h.key (h.stored write);
  }
  line_lasts moment (Answered op) a b h = answering_lasts moment moment op (omega arith) h
  line_lasts moment _ a b h = tt

  pub line_is_lasts : (l : LogLine) → Among l s.log → LineIs plan s l → LineIs plan t l
  line_is_lasts l a h = record { passed = le_trans h.passed past; stands = line_lasts l.moment l.entry a h.passed h.stands }

  -- ---- messages

  -- what every packet of an operation relies on, also of the step's own where the step answers nothing
  abbrev pub serves_lasts : (caller op : ℕ) (key : List ℕ) → Absent (AnswersOp op) t.log → ServesOp plan s caller op key → ServesOp plan t caller op key
  serves_lasts caller op key unanswered h = record {
    sent = record { sent_at = h.sent.sent_at; sent = still _ h.sent.sent; before = le_trans h.sent.before past };
    on_key = h.on_key;
    by_client = h.by_client;
    unanswered = unanswered;
  }

  pub tagged_lasts : (key : List ℕ) (tag n m : ℕ) → n ≤ m → IsTagged plan s key tag n → IsTagged plan t key tag m
  tagged_lasts key tag n m b h = record { drawn = g.drawn tag h.drawn; current = g.current key tag n m h.drawn h.current b }

  abbrev others : (caller op : ℕ) (key : List ℕ) → (Mine op → ⊥) → ServesOp plan s caller op key → ServesOp plan t caller op key
  others caller op key o h = serves_lasts caller op key (not_mine AnswersOp answers_names op o h.unanswered) h

  pub relies_lasts : (p : Packet) → ((caller op : ℕ) → subject p ≡ OfOperation caller op → Mine op → ⊥) → Relies plan s p → Relies plan t p
  relies_lasts (GetReq caller op key) o h = record {
    serves = others caller op key (o caller op refl) h.serves;
    read = h.read;
    unemitted = not_mine EmitsOp emits_names op (o caller op refl) h.unemitted;
  }
  relies_lasts (WriteReq caller op key body) o h = record {
    serves = others caller op key (o caller op refl) h.serves;
    write = h.write;
    same_body = h.same_body;
    unnumbered = not_mine NumbersOp numbers_names op (o caller op refl) h.unnumbered;
    unemitted = not_mine EmitsOp emits_names op (o caller op refl) h.unemitted;
  }
  relies_lasts (GetFwd caller op key tag) o h = record {
    serves = others caller op key (o caller op refl) h.serves;
    read = h.read;
    unemitted = not_mine EmitsOp emits_names op (o caller op refl) h.unemitted;
    floor = shown_by_within plan t.log key h.serves.sent.sent_at _ _ (shown_by_lasts s t notes g.log plan key h.serves.sent.sent_at _ h.serves.sent.before h.floor) (g.more key);
    tagged = tagged_lasts key tag _ _ (g.more key) h.tagged;
  }
  relies_lasts (WriteFwd caller op key num body) o h = record {
    serves = others caller op key (o caller op refl) h.serves;
    write = h.write;
    same_body = h.same_body;
    own = own_lasts s.steps t.steps op num past h.own;
    above = h.above;
    unemitted = not_mine EmitsOp emits_names op (o caller op refl) h.unemitted;
  }
  relies_lasts (GetRep caller op key tag num body) o h = record {
    serves = others caller op key (o caller op refl) h.serves;
    read = h.read;
    unemitted = not_mine EmitsOp emits_names op (o caller op refl) h.unemitted;
    floor = shown_by_lasts s t notes g.log plan key h.serves.sent.sent_at num h.serves.sent.before h.floor;
    known = le_trans h.known (g.more key);
    written = written_lasts s.steps t.steps key num body past h.written;
    tagged = tagged_lasts key tag num num (omega arith) h.tagged;
  }
  relies_lasts (WriteRep caller op key num body) o h = record {
    serves = others caller op key (o caller op refl) h.serves;
    write = h.write;
    unemitted = not_mine EmitsOp emits_names op (o caller op refl) h.unemitted;
    own = has_own_lasts s.steps t.steps op num past h.own;
    known = le_trans h.known (g.more key);
    written = written_lasts s.steps t.steps key num body past h.written;
  }
  relies_lasts (GetAns caller op key num body near) o h = record {
    serves = others caller op key (o caller op refl) h.serves;
    emitted = answering_lasts s.steps t.steps op past h.emitted;
  }
  relies_lasts (WriteAns caller op key num kept) o h = record {
    serves = others caller op key (o caller op refl) h.serves;
    emitted = answering_lasts s.steps t.steps op past h.emitted;
  }
  relies_lasts _ o h = tt

  pub left_lasts : (c : ℕ) → (client_at t c).left ≡ (client_at s c).left → ((op : ℕ) → Among op (client_at s c).left → Mine op → ⊥) → LeftIs plan s c → LeftIs plan t c
  left_lasts c same o h = record {
    of_client = λ op a. h.of_client op (subst (λ w. Among op w) same a);
    unsent = λ op a. let b = subst (λ w. Among op w) same a in not_mine SendsOp sends_names op (o op b) (h.unsent op b);
    apart = subst (λ w. Pairs (λ (a b : ℕ). a ≢ b) w) (sym same) h.apart;
  }

-- ---- order

-- the entry says nothing that the log says
abbrev pub IsFresh : List LogLine → LogEntry → Type 0
IsFresh log (Sent op line) = Absent (SendsOp op) log
IsFresh log (Numbered op num) = Absent (NumbersOp op) log × ((at other own : ℕ) → Among (line_at at (Numbered other own)) log → own < num)
IsFresh log (Emitted op num body near) = Absent (EmitsOp op) log
IsFresh log (Answered op) = Absent (AnswersOp op) log
IsFresh log _ = Unit {0}

rises_fresh : (log : List LogLine) (at : ℕ) (old new : LogEntry) → Among (line_at at old) log → IsFresh log new → Rises old new
rises_fresh log at (Sent op line) (Sent other line') h f = λ same. f _ h (sym same)
rises_fresh log at (Numbered op num) (Numbered other num') h f = (λ same. f.0 _ h (sym same), f.1 at op num h)
rises_fresh log at (Emitted op num body near) (Emitted other num' body' near') h f = λ same. f _ h (sym same)
rises_fresh log at (Answered op) (Answered other) h f = λ same. f _ h (sym same)
rises_fresh log at _ _ h f = tt

pub order_lasts : (plan : PlanView) (s : State) (notes : List LogEntry) → OperationsStand plan s → Each (IsFresh s.log) notes → Pairs Rises notes → Pairs Earlier (noted s notes)
order_lasts plan s notes k fresh pairs = pairs_append Earlier s.log (map (line_at (now s)) notes) k.order
    (pairs_map Rises Earlier (line_at (now s)) notes pairs (λ x y a b r. (omega arith, r)))
    (λ x y a b. late x y a (among_map_from (line_at (now s)) y notes b))
  where
    late : (x y : LogLine) → Among x s.log → (e : LogEntry) × Among e notes × (y ≡ line_at (now s) e) → Earlier x y
    late x y a p =
        let passed = (k.lines x a).passed in
        let earlier : Earlier x (line_at (now s) p.0) = (omega (arith, passed), rises_fresh s.log x.moment x.entry p.0 a (each_among (IsFresh s.log) p.0 notes fresh p.1)) in
        subst (λ w. Earlier x w) (sym p.2) earlier

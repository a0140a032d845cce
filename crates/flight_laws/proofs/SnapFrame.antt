-- What a step leaves of all that is said of snapshots: packets of other kinds, servers that only get greater numbers, and
-- numbers that are newly absorbed.
use Rattle.far_base.specs.declared.record.Versioned.{Versioned}
use Rattle.std.proofs.Common.{◌≡◌, ◌≢◌, ℕ, ◌<◌, ◌≤◌, ◌⊎◌, inl, inr, Bool, true, false, List, [], ◌∷◌, ◌++◌, map, set, get_or, refl, sym, ap, ◌∙◌, subst, arith, le_trans, ltb-true}
use Rattle.std.specs.Prelude.{Option, Some, if◌then◌else◌, nat_lt, slice_get}
use Rattle.std.specs.List.{remove, count_by}
use Rattle.std.specs.Cmp.Lexicographic.{bytes_decides}
use Rattle.far_base.specs.PlanView.{PlanView}
use Rattle.far_base.specs.declared.log.LogEntry.{LogEntry}
use Rattle.far_base.specs.declared.log.LogEntry.TheVariants.{Numbered, Emitted}
use Rattle.far_base.specs.declared.log.LogLine.{LogLine}
use Rattle.far_base.specs.declared.packet.Message.{Message}
use Rattle.far_base.specs.declared.packet.Out.{Out}
use Rattle.far_base.specs.declared.packet.Packet.{Packet}
use Rattle.far_base.specs.declared.packet.Packet.TheVariants.{WriteFwd, SnapStart, SnapBegun, SnapPart, Store, Release, SnapSame, SnapFrom}
use Rattle.far_base.specs.declared.party.Party.{Party}
use Rattle.far_base.specs.declared.record.Record.{Record}
use Rattle.far_model.specs.History.{nothing, held_in}
use Rattle.far_model.specs.KeyedRecords.{found, put_record}
use Rattle.far_invariants.specs.Covers.{IsAtServer, IsAbsorbed}
use Rattle.far_model.specs.Log.{same_key}
use Rattle.far_model.specs.Members.{Among, Each}
use Rattle.far_model.specs.Parties.{messages_from}
use Rattle.far_invariants.specs.Past.{SnapshotStart}
use Rattle.far_model.specs.Servers.{record_of, server_keeps, stored}
use Rattle.far_model.specs.Snapshots.{SnapshotView, no_snapshot}
use Rattle.far_model.specs.State.{State, client_at, records_at, line_at, now, noted}
use Rattle.far_model.specs.View.{SwitchView, server_of}
use Rattle.far_model.proofs.Members.{among_append, among_append_left, among_remove, among_map_from, each_among}
use Rattle.far_invariants.specs.Snapshots.{IsInViews, IsStartOf, HadView, IsEarlier, StartsStand, Gathering, gathering, IsLast, GatheringStands, SwitchStands, InStep, PacketStands, PartIsTaken, is_start_in, WasDrawn, CoversStand, SnapshotsStand}
use Rattle.flight_laws.proofs.SnapBasics.{count_removed, count_append, count_none, set_cases, same_key_true}

-- ---- packets of other kinds

abbrev pub is_foreign : Packet → Bool
is_foreign (SnapStart epoch id) = false
is_foreign (SnapFrom epoch id base) = false
is_foreign (SnapBegun id point) = false
is_foreign (SnapPart id i view) = false
is_foreign (SnapSame id i) = false
is_foreign (Release point) = false
is_foreign _ = true

abbrev pub IsForeignOut : Out → Type 0
IsForeignOut out = is_foreign out.packet ≡ true

module _ (tells : Bool) where
  pub foreign_stands : (running : Bool) (g : Gathering) (starts : List SnapshotStart) (p : Packet) → is_foreign p ≡ true → PacketStands tells running g starts p
  foreign_stands running g starts (SnapStart epoch id) h = absurd cc
  foreign_stands running g starts (SnapFrom epoch id base) h = absurd cc
  foreign_stands running g starts (SnapBegun id point) h = absurd cc
  foreign_stands running g starts (SnapPart id i view) h = absurd cc
  foreign_stands running g starts (SnapSame id i) h = absurd cc
  foreign_stands running g starts (Release point) h = absurd cc
  foreign_stands running g starts _ h = tt

pub foreign_part : (v : SwitchView) (p : Packet) → is_foreign p ≡ true → PartIsTaken v p
foreign_part v (SnapPart id i view) h = absurd cc
foreign_part v (SnapSame id i) h = absurd cc
foreign_part v _ h = tt

pub foreign_start : (epoch : ℕ) (p : Packet) → is_foreign p ≡ true → is_start_in epoch p ≡ false
foreign_start epoch (SnapStart own id) h = absurd cc
foreign_start epoch (SnapFrom own id base) h = absurd cc
foreign_start epoch _ h = refl

abbrev pub starts_in : ℕ → List Message → ℕ
starts_in epoch bag = count_by (λ (m : Message). is_start_in epoch m.packet) bag

-- what stays of a bag
pub record IsRest (bag rest : List Message) : Type 0 where
  pub among : (m : Message) → Among m rest → Among m bag
  pub count : (epoch : ℕ) → starts_in epoch rest ≤ starts_in epoch bag

pub rest_all : (bag : List Message) → IsRest bag bag
rest_all bag = record { among = λ m a. a; count = λ epoch. omega arith }

pub rest_taken : (bag : List Message) (i : ℕ) (m : Message) → slice_get bag i ≡ Some m → IsRest bag (remove bag i)
rest_taken bag i m at = record {
  among = λ n a. among_remove n bag i a;
  count = λ epoch. let c = count_removed (λ (m : Message). is_start_in epoch m.packet) bag i m at in omega (arith, c);
}

-- a message that is sent carries one of these packets
pub sent_is : (P : Packet → Type 0) (from : Party) (outs : List Out) → Each (λ (o : Out). P o.packet) outs → (m : Message) → Among m (messages_from from outs) → P m.packet
sent_is P from outs h m a =
    let p = among_map_from (λ (o : Out). record { from = from; to = o.to; packet = o.packet }) m outs a in
    subst (λ (w : Message). P w.packet) (sym p.2) (each_among (λ (o : Out). P o.packet) p.0 outs h p.1)

pub news_in : (bag rest : List Message) (from : Party) (outs : List Out) → IsRest bag rest → Each IsForeignOut outs
    → (m : Message) → Among m (rest ++ messages_from from outs) → Among m bag ⊎ (is_foreign m.packet ≡ true)
news_in bag rest from outs r f m a = go (among_append m rest (messages_from from outs) a)
  where
    go : Among m rest ⊎ Among m (messages_from from outs) → Among m bag ⊎ (is_foreign m.packet ≡ true)
    go (inl b) = inl (r.among m b)
    go (inr b) = inr (sent_is (λ p. is_foreign p ≡ true) from outs f m b)

pub news_of : (bag rest new : List Message) → IsRest bag rest → ((m : Message) → Among m new → is_foreign m.packet ≡ true)
    → (m : Message) → Among m (rest ++ new) → Among m bag ⊎ (is_foreign m.packet ≡ true)
news_of bag rest new r f m a = go (among_append m rest new a)
  where
    go : Among m rest ⊎ Among m new → Among m bag ⊎ (is_foreign m.packet ≡ true)
    go (inl b) = inl (r.among m b)
    go (inr b) = inr (f m b)

pub count_of : (bag rest new : List Message) (epoch : ℕ) → IsRest bag rest → ((m : Message) → Among m new → is_foreign m.packet ≡ true) → starts_in epoch (rest ++ new) ≤ starts_in epoch bag
count_of bag rest new epoch r f =
    let sum = count_append (λ (m : Message). is_start_in epoch m.packet) rest new in
    let none = count_none (λ (m : Message). is_start_in epoch m.packet) new (λ m a. foreign_start epoch m.packet (f m a)) in
    let less = r.count epoch in
    omega (arith, sum, none, less)

-- no start is sent
pub count_in : (bag rest : List Message) (from : Party) (outs : List Out) (epoch : ℕ) → IsRest bag rest → Each (λ (o : Out). is_start_in epoch o.packet ≡ false) outs
    → starts_in epoch (rest ++ messages_from from outs) ≤ starts_in epoch bag
count_in bag rest from outs epoch r f =
    let sum = count_append (λ (m : Message). is_start_in epoch m.packet) rest (messages_from from outs) in
    let none = count_none (λ (m : Message). is_start_in epoch m.packet) (messages_from from outs) (sent_is (λ p. is_start_in epoch p ≡ false) from outs f) in
    let less = r.count epoch in
    omega (arith, sum, none, less)

pub foreign_count : (epoch : ℕ) (outs : List Out) → Each IsForeignOut outs → Each (λ (o : Out). is_start_in epoch o.packet ≡ false) outs
foreign_count epoch [] h = tt
foreign_count epoch (o ∷ os) h = (foreign_start epoch o.packet h.0, foreign_count epoch os h.1)

-- ---- more starts

pub start_more : (starts more : List SnapshotStart) (id : ℕ) (start : SnapshotStart) → IsStartOf starts id start → IsStartOf (starts ++ more) id start
start_more starts more id start h = record { there = among_append_left start starts more h.there; is = h.is }

module _ {tells : Bool} where
  pub view_more : (starts more : List SnapshotStart) (id i : ℕ) (view : Option Record) → HadView tells starts id i view → HadView tells (starts ++ more) id i view
  view_more starts more id i view h = record { start = h.start; of = start_more starts more id h.start h.of; view_is = h.view_is }

-- of one id there is one start
module _ (tells : Bool) where
  pub one_start : (starts : List SnapshotStart) (id : ℕ) (x y : SnapshotStart) → Rattle.far_model.specs.Members.Pairs (IsEarlier tells) starts → IsStartOf starts id x → IsStartOf starts id y → x ≡ y
  one_start starts id x y order h k = go (Rattle.far_model.proofs.Members.pairs_among (IsEarlier tells) x y starts order h.there k.there)
    where
      go : (x ≡ y) ⊎ (IsEarlier tells x y ⊎ IsEarlier tells y x) → x ≡ y
      go (inl e) = e
      go (inr (inl l)) = absurd (let a = h.is in let b = k.is in let c = l.0 in omega (arith, a, b, c))
      go (inr (inr l)) = absurd (let a = h.is in let b = k.is in let c = l.0 in omega (arith, a, b, c))

-- the start of an earlier snapshot has no greater point
module _ {tells : Bool} where
  pub points_rise : tells ≡ true → (starts : List SnapshotStart) (id other : ℕ) (x y : SnapshotStart) → Rattle.far_model.specs.Members.Pairs (IsEarlier tells) starts → IsStartOf starts id x → IsStartOf starts other y → id < other → x.counter ≤ y.counter
  points_rise told starts id other x y order h k less = go (Rattle.far_model.proofs.Members.pairs_among (IsEarlier tells) x y starts order h.there k.there)
    where
      go : (x ≡ y) ⊎ (IsEarlier tells x y ⊎ IsEarlier tells y x) → x.counter ≤ y.counter
      go (inl e) = let c = ap (λ (w : SnapshotStart). w.counter) e in omega (arith, c)
      go (inr (inl l)) = l.1 told
      go (inr (inr l)) = absurd (let a = h.is in let b = k.is in let c = l.0 in omega (arith, a, b, c, less))

-- ---- numbers that are newly absorbed

-- an entry that tells nothing of numbers
abbrev pub IsPlainNote : LogEntry → Type 0
IsPlainNote (Numbered op num) = ⊥
IsPlainNote (Emitted op num body near) = ⊥
IsPlainNote _ = Unit {0}

-- a number that the switch draws, or with which it answers a write by itself, is above its counter
abbrev pub IsFreshNote : State → LogEntry → Type 0
IsFreshNote s (Numbered op num) = s.switch.counter < num
IsFreshNote s (Emitted op num body near) = near ≡ true → (s.switch.counter < num) ⊎ ((at own : ℕ) → Among (line_at at (Numbered op own)) s.log → ⊥)
IsFreshNote s _ = Unit {0}

-- what is absorbed now was before, or has a number above the counter
abbrev pub AbsorbsFresh : PlanView → State → List LogLine → Type 0
AbsorbsFresh plan s log = (key : List ℕ) (num : ℕ) → IsAbsorbed plan log key num → IsAbsorbed plan s.log key num ⊎ ((s.running ≡ true) × (s.switch.counter < num))

note_is : (moment at : ℕ) (e : LogEntry) (notes : List LogEntry) (P : LogEntry → Type 0) → Each P notes → Among (line_at at e) (map (line_at moment) notes) → P e
note_is moment at e notes P h a =
    let p = among_map_from (line_at moment) (line_at at e) notes a in
    subst P (sym (ap (λ (l : LogLine). l.entry) p.2)) (each_among P p.0 notes h p.1)

pub absorbs_plain : (plan : PlanView) (s : State) (notes : List LogEntry) → Each IsPlainNote notes → AbsorbsFresh plan s (noted s notes)
absorbs_plain plan s notes plain key num a = inl (record {
  op = a.op;
  on_key = a.on_key;
  numbered_at = a.numbered_at;
  numbered = old (line_at a.numbered_at (Numbered a.op num)) (λ p. p) (among_append _ s.log (map (line_at (now s)) notes) a.numbered);
  absorbed = record {
    emitted_at = a.absorbed.emitted_at;
    body = a.absorbed.body;
    emitted = old (line_at a.absorbed.emitted_at (Emitted a.op num a.absorbed.body true)) (λ p. p) (among_append _ s.log (map (line_at (now s)) notes) a.absorbed.emitted);
  };
})
  where
    old : (l : LogLine) → (IsPlainNote l.entry → ⊥) → Among l s.log ⊎ Among l (map (line_at (now s)) notes) → Among l s.log
    old l clash (inl h) = h
    old l clash (inr h) = absurd (clash (note_is (now s) l.moment l.entry notes IsPlainNote plain h))

pub absorbs_fresh : (plan : PlanView) (s : State) (notes : List LogEntry) → s.running ≡ true → Each (IsFreshNote s) notes → AbsorbsFresh plan s (noted s notes)
absorbs_fresh plan s notes runs fresh key num a =
    go (among_append _ s.log (map (line_at (now s)) notes) a.numbered) (among_append _ s.log (map (line_at (now s)) notes) a.absorbed.emitted)
  where
    number : LogLine
    number = line_at a.numbered_at (Numbered a.op num)

    answer : LogLine
    answer = line_at a.absorbed.emitted_at (Emitted a.op num a.absorbed.body true)

    go : Among (line_at a.numbered_at (Numbered a.op num)) s.log ⊎ Among (line_at a.numbered_at (Numbered a.op num)) (map (line_at (now s)) notes)
        → Among (line_at a.absorbed.emitted_at (Emitted a.op num a.absorbed.body true)) s.log ⊎ Among (line_at a.absorbed.emitted_at (Emitted a.op num a.absorbed.body true)) (map (line_at (now s)) notes)
        → IsAbsorbed plan s.log key num ⊎ ((s.running ≡ true) × (s.switch.counter < num))
    go (inr h) k = inr (runs, note_is (now s) a.numbered_at (Numbered a.op num) notes (IsFreshNote s) fresh h)
    go (inl h) (inl k) = inl (record { op = a.op; on_key = a.on_key; numbered_at = a.numbered_at; numbered = h; absorbed = record { emitted_at = a.absorbed.emitted_at; body = a.absorbed.body; emitted = k } })
    go (inl h) (inr k) = either (note_is (now s) a.absorbed.emitted_at (Emitted a.op num a.absorbed.body true) notes (IsFreshNote s) fresh k refl)
      where
        either : (s.switch.counter < num) ⊎ ((at own : ℕ) → Among (line_at at (Numbered a.op own)) s.log → ⊥) → IsAbsorbed plan s.log key num ⊎ ((s.running ≡ true) × (s.switch.counter < num))
        either (inl more) = inr (runs, more)
        either (inr none) = absurd (none a.numbered_at num h)

-- points stay drawn
pub drawn_more : (s : State) (log : List LogLine) (n : ℕ) → ((l : LogLine) → Among l s.log → Among l log) → (n ≡ 0) ⊎ WasDrawn s.log n → (n ≡ 0) ⊎ WasDrawn log n
drawn_more s log n grow (inl e) = inl e
drawn_more s log n grow (inr d) = inr (record { at = d.at; op = d.op; own = d.own; numbered = grow _ d.numbered; above = d.above })

pub noted_more : (s : State) (notes : List LogEntry) (n : ℕ) → (n ≡ 0) ⊎ WasDrawn s.log n → (n ≡ 0) ⊎ WasDrawn (noted s notes) n
noted_more s notes n = drawn_more s (noted s notes) n (λ l a. among_append_left l s.log (map (line_at (now s)) notes) a)

-- ---- servers

abbrev pub ServersGrow : PlanView → State → State → Type 0
ServersGrow plan s t = (key : List ℕ) (num : ℕ) → IsAtServer plan s key num → IsAtServer plan t key num

same_key_false : (a b : List ℕ) → a ≢ b → same_key a b ≡ false
same_key_false a b ne = go (same_key a b) refl
  where
    go : (t : Bool) → same_key a b ≡ t → same_key a b ≡ false
    go true e = absurd (ne (same_key_true a b e))
    go false e = e

found_put : (r : Record) (rs : List Record) → found (put_record r rs) r.key ≡ held_in r
found_put r [] = ap (λ b. if b then held_in r else nothing) ((bytes_decides r.key r.key).1 refl)
found_put r (x ∷ xs) = go (found_put r xs) (same_key x.key r.key) refl
  where
    go : found (put_record r xs) r.key ≡ held_in r → (b : Bool) → same_key x.key r.key ≡ b → found (if b then r ∷ xs else x ∷ put_record r xs) r.key ≡ held_in r
    go h true e = ap (λ b. if b then held_in r else found xs r.key) ((bytes_decides r.key r.key).1 refl)
    go h false e = ap (λ b. if b then held_in x else found (put_record r xs) r.key) e ∙ h

found_put_other : (r : Record) (rs : List Record) (other : List ℕ) → other ≢ r.key → found (put_record r rs) other ≡ found rs other
found_put_other r [] other ne = ap (λ b. if b then held_in r else nothing) (same_key_false r.key other (λ e. ne (sym e)))
found_put_other r (x ∷ xs) other ne = go (found_put_other r xs other ne) (same_key x.key r.key) refl
  where
    go : found (put_record r xs) other ≡ found xs other → (b : Bool) → same_key x.key r.key ≡ b → found (if b then r ∷ xs else x ∷ put_record r xs) other ≡ found (x ∷ xs) other
    go h true e =
        ap (λ b. if b then held_in r else found xs other) (same_key_false r.key other (λ q. ne (sym q)))
        ∙ sym (ap (λ b. if b then held_in x else found xs other) (same_key_false x.key other (λ q. ne (sym q ∙ same_key_true x.key r.key e))))
    go h false e = ap (λ n. if same_key x.key other then held_in x else n) h

-- a server's record of a key never gets a smaller number
pub kept_more : (records : List Record) (r : Record) (key : List ℕ) → (found records key).num ≤ (found (stored records r) key).num
kept_more records r key = go (nat_lt (found records r.key).num r.num) refl
  where
    go : (b : Bool) → nat_lt (found records r.key).num r.num ≡ b → (found records key).num ≤ (found (if b then put_record r records else records) key).num
    go false e = omega arith
    go true e = which (same_key key r.key) refl
      where
        which : (b : Bool) → same_key key r.key ≡ b → (found records key).num ≤ (found (put_record r records) key).num
        which true k =
            let q : key ≡ r.key = same_key_true key r.key k in
            let less = ltb-true _ _ e in
            let n = ap (λ (h : Versioned). h.num) (found_put r records) in
            subst (λ w. (found records w).num ≤ (found (put_record r records) w).num) (sym q) (omega (arith, less, n))
        which false k = let n = ap (λ (h : Versioned). h.num) (found_put_other r records key (λ q. let c : same_key key r.key ≡ true = (bytes_decides key r.key).1 q in absurd (let d : true ≡ false = sym c ∙ k in cc))) in omega (arith, n)

pub keeps_more : (records : List Record) (packet : Packet) (key : List ℕ) → (found records key).num ≤ (found (server_keeps records packet) key).num
keeps_more records (WriteFwd caller op own num body) key = kept_more records (record_of own num body) key
keeps_more records (Store job item) key = kept_more records item key
keeps_more records _ key = omega arith

pub servers_set : (plan : PlanView) (s t : State) (n : ℕ) (packet : Packet) → t.servers ≡ set s.servers n (server_keeps (records_at s n) packet) → ServersGrow plan s t
servers_set plan s t n packet e key num h =
    subst (λ (l : List (List Record)). num ≤ (found (get_or l at []) key).num) (sym e)
    (set_cases (λ (l : List Record). num ≤ (found l key).num) s.servers n at (server_keeps (records_at s n) packet) []
    (λ same. let more = keeps_more (records_at s n) packet key in
    let here : num ≤ (found (records_at s n) key).num = subst (λ w. num ≤ (found (get_or s.servers w []) key).num) same h in
    le_trans here more)
    (λ other. h) (λ past. h))
  where
    at : ℕ
    at = server_of plan.config key

-- ---- covers

-- while the switch runs, the point of the last completed snapshot is at most the counter
module _ {tells : Bool} where
  pub last_counted : (plan : PlanView) (s : State) (starts : List SnapshotStart) → SnapshotsStand tells plan s starts → tells ≡ true → s.running ≡ true → s.controller.last.point ≤ s.switch.counter
  last_counted plan s starts h told runs = go h.gathered.last
    where
      go : (s.controller.last ≡ no_snapshot) ⊎ IsLast tells starts s.controller.last → s.controller.last.point ≤ s.switch.counter
      go (inl e) = let p : s.controller.last.point ≡ 0 = ap (λ (w : SnapshotView). w.point) e in omega (arith, p)
      go (inr l) = let p = l.point in let c = (h.in_step runs).counted told l.start l.of.there in omega (arith, p, c)

module _ {tells : Bool} (plan : PlanView) (s t : State) (starts : List SnapshotStart) (h : SnapshotsStand tells plan s starts) (fresh : AbsorbsFresh plan s t.log) (grow : ServersGrow plan s t) where
  -- a cover of all absorbed numbers up to a point that was there before
  pub cover_lasts : (views : List (Option Record)) (point : ℕ) → (s.running ≡ true → point ≤ s.switch.counter)
      → ((key : List ℕ) (num : ℕ) → IsAbsorbed plan s.log key num → num ≤ point → IsAtServer plan s key num ⊎ IsInViews views key num)
      → (key : List ℕ) (num : ℕ) → IsAbsorbed plan t.log key num → num ≤ point → IsAtServer plan t key num ⊎ IsInViews views key num
  cover_lasts views point within old key num a le = go (fresh key num a)
    where
      covered : IsAtServer plan s key num ⊎ IsInViews views key num → IsAtServer plan t key num ⊎ IsInViews views key num
      covered (inl c) = inl (grow key num c)
      covered (inr c) = inr c

      go : IsAbsorbed plan s.log key num ⊎ ((s.running ≡ true) × (s.switch.counter < num)) → IsAtServer plan t key num ⊎ IsInViews views key num
      go (inl b) = covered (old key num b le)
      go (inr p) = absurd (let w = within p.0 in let more = p.1 in omega (arith, w, more, le))

  pub covers_last : gathering t.controller ≡ gathering s.controller → tells ≡ true → CoversStand plan t starts
  covers_last e told = record {
    last = λ key num a le.
        let le' : num ≤ s.controller.last.point = subst (λ (g : Gathering). num ≤ g.last.point) e le in
        let c = cover_lasts s.controller.last.views s.controller.last.point (last_counted plan s starts h told) (h.covers told).last key num a le' in
        subst (λ (g : Gathering). IsAtServer plan t key num ⊎ IsInViews g.last.views key num) (sym e) c;
    job = λ j is start of key num a le.
        let is' : s.controller.job ≡ Some j = subst (λ (g : Gathering). g.job ≡ Some j) e is in
        cover_lasts start.views start.counter (λ runs. (h.in_step runs).counted told start of.there) ((h.covers told).job j is' start of) key num a le;
  }

-- ---- steps in which nothing of snapshots moves

-- the point up to which a client's writes are released is at most this, and what it preserves is above
pub record ClientMay (tells : Bool) (s : State) (point c : ℕ) : Type 0 where
  pub released : tells ≡ true → (client_at s c).released ≤ point
  pub preserved : (r : Record) → Among r (client_at s c).preserved → (client_at s c).released < r.num

pub record IsQuiet (tells : Bool) (plan : PlanView) (s t : State) : Type 0 where
  pub running : t.running ≡ s.running
  pub gathered : gathering t.controller ≡ gathering s.controller
  pub switch : t.switch ≡ s.switch
  pub bag : (m : Message) → Among m t.bag → Among m s.bag ⊎ (is_foreign m.packet ≡ true)
  pub count : (epoch : ℕ) → starts_in epoch t.bag ≤ starts_in epoch s.bag
  pub log : (l : LogLine) → Among l s.log → Among l t.log
  pub absorbed : AbsorbsFresh plan s t.log
  pub servers : ServersGrow plan s t
  pub clients : (c : ℕ) → ClientMay tells t s.controller.last.point c

module _ {tells : Bool} where
  pub quiet_stands : (plan : PlanView) (s t : State) (starts : List SnapshotStart) → IsQuiet tells plan s t → SnapshotsStand tells plan s starts → SnapshotsStand tells plan t starts
  quiet_stands plan s t starts q h = record {
    rise = subst (λ (g : Gathering). StartsStand tells plan starts g.next_id) (sym q.gathered) h.rise;
    gathered = subst (λ g. GatheringStands tells plan g starts) (sym q.gathered) h.gathered;
    switch = subst (λ v. SwitchStands plan v starts) (sym q.switch) h.switch;
    in_step = λ runs. subst (λ v. InStep tells plan v (gathering t.controller) starts) (sym q.switch) (subst (λ g. InStep tells plan s.switch g starts) (sym q.gathered) (h.in_step (sym q.running ∙ runs)));
    packets = λ m a. packet m (q.bag m a);
    parts = λ runs m a. part runs m (q.bag m a);
    once = λ runs. subst (λ (g : Gathering). starts_in g.epoch t.bag ≤ 1) (sym q.gathered) (let a = q.count s.controller.epoch in let b = h.once (sym q.running ∙ runs) in omega (arith, a, b));
    drawn = λ told start a. drawn_more s t.log start.counter q.log (h.drawn told start a);
    covers = λ told. covers_last plan s t starts h q.absorbed q.servers q.gathered told;
    clients = λ c. let k = q.clients c in record { released = λ told. let e = ap (λ (g : Gathering). g.last.point) q.gathered in let le = k.released told in omega (arith, e, le); preserved = k.preserved };
  }
    where
      packet : (m : Message) → Among m s.bag ⊎ (is_foreign m.packet ≡ true) → PacketStands tells t.running (gathering t.controller) starts m.packet
      packet m (inl a) = subst (λ b. PacketStands tells b (gathering t.controller) starts m.packet) (sym q.running) (subst (λ g. PacketStands tells s.running g starts m.packet) (sym q.gathered) (h.packets m a))
      packet m (inr f) = foreign_stands tells t.running (gathering t.controller) starts m.packet f

      part : t.running ≡ true → (m : Message) → Among m s.bag ⊎ (is_foreign m.packet ≡ true) → PartIsTaken t.switch m.packet
      part runs m (inl a) = subst (λ v. PartIsTaken v m.packet) (sym q.switch) (h.parts (sym q.running ∙ runs) m a)
      part runs m (inr f) = foreign_part t.switch m.packet f

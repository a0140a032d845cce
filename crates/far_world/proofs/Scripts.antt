-- Laws of what clients have to send.
use Rattle.std.proofs.Common.{◌≡◌, ℕ, zero, suc, ◌+◌, ◌-◌, ◌<◌, inl, inr, List, [], ◌∷◌, ◌++◌, length, get_or, drop, take, max, refl, sym, ap, ◌∙◌, subst, cond, ◌≤◌, Bool, true, false, Option, Some, None, arith, drop-cons, append_assoc}
use Rattle.std.specs.Prelude.{nat_lt, nat_le, nat_eq, is_some, is_none, slice_get, IsTrue, not, ◌&&◌, if◌then◌else◌}
use Rattle.far_base.specs.declared.plan.OpLine.{OpLine}
use Rattle.far_base.proofs.Taken.{left}
use Rattle.far_model.specs.Clients.{ClientState, line_of, no_line, request, script, script_from, opening_client, tells, tells_each}
use Rattle.far_model.specs.Events.{can_send, has_next, next_sent}
use Rattle.far_model.specs.Members.{Among}
use Rattle.far_model.specs.State.{clients_from}
use Rattle.far_base.specs.Padded.{text_of}
use Rattle.far_base.specs.declared.log.LogEntry.TheVariants.{Sent}
use Rattle.far_base.specs.declared.packet.Packet.{Packet}
use Rattle.far_base.specs.declared.party.Party.TheVariants.{Switch}
use Rattle.std.proofs.lemmas.Option.{same_Some}
use Rattle.far_base.specs.declared.record.Record.{Record}
use Rattle.far_world.proofs.Lists.{get_or_any}
use Rattle.client_records.specs.ClientView.{ClientView, open_op, state_of}
use Rattle.far_world.specs.Seats.{TakesTurn, numbers_from, seat_of, senders}
use Rattle.far_world.specs.declared.turn.Turn.{Turn as TurnParts}

has_next_drop : (i : ℕ) (xs : List ℕ) → nat_lt i (length xs) ≡ has_next (drop i xs)
has_next_drop zero [] = refl
has_next_drop (suc i) [] = let e : nat_lt (suc i) 0 ≡ false = grind arith in e
has_next_drop zero (x ∷ xs) = grind arith
has_next_drop (suc i) (x ∷ xs) = let e : nat_lt (suc i) (suc (length xs)) ≡ nat_lt i (length xs) = grind arith in e ∙ has_next_drop i xs

not_less : (i n : ℕ) → nat_le n i ≡ not (nat_lt i n)
not_less i n = grind arith

pub can_send_is : (waits : Option (ℕ × OpLine)) (i : ℕ) (xs : List ℕ) → is_none waits ≡ true → nat_lt i (length xs) ≡ not (is_some (open_op waits)) && has_next (drop i xs)
can_send_is None i xs h = has_next_drop i xs
can_send_is (Some w) i xs h = absurd cc

pub is_done_is : (waits : Option (ℕ × OpLine)) (i : ℕ) (xs : List ℕ) → is_none waits ≡ true → nat_le (length xs) i ≡ not (is_some (open_op waits)) && not (has_next (drop i xs))
is_done_is None i xs h = not_less i (length xs) ∙ ap not (has_next_drop i xs)
is_done_is (Some w) i xs h = absurd cc

-- one sender more
pub senders_more : (i client : ℕ) (ops : List OpLine) (old all : List ℕ) → slice_get (senders ops) i ≡ Some client → all ≡ old ++ client ∷ []
    → old ++ drop i (senders ops) ≡ senders ops → all ++ drop (i + 1) (senders ops) ≡ senders ops
senders_more i client ops old all e m h =
    ap (λ (xs : List ℕ). xs ++ drop (i + 1) (senders ops)) m ∙ append_assoc old (client ∷ []) (drop (i + 1) (senders ops))
    ∙ ap (λ (xs : List ℕ). old ++ xs) (sym (left (senders ops) i client e)) ∙ h

-- the numbers from a sender on
pub numbers_more : (i client : ℕ) (senders : List ℕ) (d : ℕ) → i < length senders
    → numbers_from (suc i) (drop i senders) client ≡ (if nat_eq (get_or senders i d) client then suc i ∷ numbers_from (suc (suc i)) (drop (suc i) senders) client else numbers_from (suc (suc i)) (drop (suc i) senders) client)
numbers_more i client senders d h = rw (drop-cons senders i d h) refl

clients_from_more : (ops : List OpLine) (a n : ℕ) → clients_from ops a (n + 1) ≡ clients_from ops a n ++ opening_client ops (a + n) ∷ []
clients_from_more ops a zero = let e : a + 0 ≡ a = omega arith in rw e refl
clients_from_more ops a (suc n) =
    let e : a + suc n ≡ suc a + n = omega arith in
    let more : suc n + 1 ≡ suc (n + 1) = omega arith in
    rw (e, more) (ap (λ (cs : List ClientState). opening_client ops a ∷ cs) (clients_from_more ops (suc a) n))

pub clients_more : (ops : List OpLine) (n : ℕ) → clients_from ops 0 (n + 1) ≡ clients_from ops 0 n ++ opening_client ops n ∷ []
clients_more ops n = let e : 0 + n ≡ n = omega arith in clients_from_more ops 0 n ∙ ap (λ (m : ℕ). clients_from ops 0 n ++ opening_client ops m ∷ []) e

-- ---- the operations of a script are those of the plan

script_within : (k client op : ℕ) (ops : List OpLine) → Among op (script_from k ops client) → (k ≤ op) × (op < k + length ops)
script_within k client op [] h = absurd h
script_within k client op (line ∷ ops) h = by (nat_eq line.client client) (λ m. script_within (suc k) client op ops m) h
  where
    later : (suc k ≤ op) × (op < suc k + length ops) → (k ≤ op) × (op < k + suc (length ops))
    later p = (omega (arith, p.0), omega (arith, p.1))

    by : (b : Bool) → (Among op (script_from (suc k) ops client) → (suc k ≤ op) × (op < suc k + length ops))
        → Among op (cond b (k ∷ script_from (suc k) ops client) (script_from (suc k) ops client)) → (k ≤ op) × (op < k + suc (length ops))
    by true more (inl e) = (omega (arith, e), omega (arith, e))
    by true more (inr m) = later (more m)
    by false more m = later (more m)

among_drop : (n op : ℕ) (xs : List ℕ) → Among op (drop n xs) → Among op xs
among_drop zero op xs h = h
among_drop (suc n) op [] h = absurd h
among_drop (suc n) op (x ∷ xs) h = inr (among_drop n op xs h)

drop_suc : {A : Type 0} → (n : ℕ) (xs : List A) → drop (suc n) xs ≡ drop 1 (drop n xs)
drop_suc zero xs = refl
drop_suc (suc n) [] = refl
drop_suc (suc n) (x ∷ xs) = drop_suc n xs

some_next : (b : Bool) (i : ℕ) (xs : List ℕ) → (b && has_next (drop i xs)) ≡ true → i < length xs
some_next true zero [] h = absurd cc
some_next true (suc i) [] h = absurd cc
some_next true zero (x ∷ xs) h = omega arith
some_next true (suc i) (x ∷ xs) h = let less = some_next true i xs h in omega (arith, less)
some_next false i xs h = absurd cc

-- the next operation of a script is one of the plan's, counted from 1
pub record IsNext (ops : List OpLine) (items : List ℕ) (next op : ℕ) : Type 0 where
  pub least : 0 < op
  pub most : op ≤ length ops
  pub left : drop next items ≡ op ∷ drop (suc next) items

pub next_is : (ops : List OpLine) (number : ℕ) (items : List ℕ) (next sent op : ℕ) (b : Bool) → op ≡ get_or items next op → (b && has_next (drop next items)) ≡ true → drop next items ≡ drop sent (script ops number)
    → IsNext ops items next op
next_is ops number items next sent op b e can same =
    let less : next < length items = some_next b next items can in
    let left : drop next items ≡ op ∷ drop (suc next) items = drop-cons items next op less ∙ ap (λ (n : ℕ). n ∷ drop (suc next) items) (sym e) in
    let w = script_within 1 number op ops (among_drop sent op (script ops number) (subst (λ (xs : List ℕ). Among op xs) (sym left ∙ same) (inl refl))) in
    record { least = omega (arith, w.0); most = omega (arith, w.1); left = left }

-- a client that sent its next operation
pub sends_next : (ops : List OpLine) (client new : ClientView) (items : List ℕ) (next sent op : ℕ) (line : OpLine) (packet : Packet) (before after : TurnParts)
    → op ≡ get_or items next op → IsTrue (can_send (state_of (drop next items) client)) → drop next items ≡ drop sent (script ops client.number) → line ≡ get_or ops (op - 1) line
    → new ≡ record client { waits = Some (op, line) } → packet ≡ request client.number op line
    → after.out.items ≡ before.out.items ++ record { to = Switch; packet = packet } ∷ [] → after.notes.items ≡ before.notes.items ++ Sent op line ∷ []
    → TakesTurn ops (seat_of client next items) before (next_sent ops client.number (state_of (drop next items) client) (drop next items)) (seat_of new (next + 1) items) after
sends_next ops client new items next sent op line packet before after e can same el en ep eo ea =
    let h = next_is ops client.number items next sent op (not (is_some (open_op client.waits))) e can same in
    let own : line ≡ line_of ops op = el ∙ get_or_any ops (op - 1) line no_line (omega (arith, h.least, h.most)) in
    let later : next + 1 ≡ suc next = omega arith in
    rw (en, later) (subst (λ (left : List ℕ). TakesTurn ops (seat_of client next items) before (next_sent ops client.number (state_of left client) left) (seat_of (record client { waits = Some (op, line) }) (suc next) items) after) (sym h.left)
    (record {
      state = refl;
      seated = record {
        number = refl;
        line = ap Some own;
        sent = suc sent;
        left = drop_suc next items ∙ (ap (λ (xs : List ℕ). drop 1 xs) same ∙ sym (drop_suc sent (script ops client.number)));
      };
      out = eo ∙ ap (λ (p : Packet). before.out.items ++ record { to = Switch; packet = p } ∷ []) (ep ∙ ap (λ (l : OpLine). request client.number op l) own);
      notes = ea ∙ ap (λ (l : OpLine). before.notes.items ++ Sent op l ∷ []) own;
    }))

-- ---- what a client tells

length_tells_each : (round client total : ℕ) (rs : List Record) → length (tells_each round client total rs) ≡ length rs
length_tells_each round client total [] = refl
length_tells_each round client total (r ∷ rs) = ap suc (length_tells_each round client total rs)

pub length_tells : (round client : ℕ) (rs : List Record) → length (tells round client rs) ≡ max (length rs) 1
length_tells round client [] = refl
length_tells round client (r ∷ rs) = omega (arith, length_tells_each round client (length (r ∷ rs)) (r ∷ rs))

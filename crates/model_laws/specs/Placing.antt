-- The history of a log, computed: each operation that was sent is placed, and the places are put in order.
use Rattle.std.specs.Prelude.{
  ℕ,
  suc,
  zero,
  max,
  Bool,
  true,
  false,
  ◌&&◌,
  ◌||◌,
  nat_eq,
  nat_le,
  nat_lt,
  if◌then◌else◌,
  List,
  [],
  ◌∷◌,
  ◌++◌,
  Option,
  None,
  Some,
}
use Rattle.far_base.specs.declared.log.LogEntry.{LogEntry}
use Rattle.far_base.specs.declared.log.LogEntry.TheVariants.{Sent}
use Rattle.far_base.specs.declared.log.LogLine.{LogLine}
use Rattle.far_base.specs.declared.log.Placed.{Placed}
use Rattle.far_base.specs.declared.plan.OpLine.{OpLine}
use Rattle.far_model.specs.History.{read_rank}
use Rattle.far_model.specs.Log.{At, Answer, answering, emission, exposed, is_read, numbering, sending}

-- ---- the moment at which a number takes effect

abbrev pub greatest_moment : List LogLine → ℕ
greatest_moment [] = 0
greatest_moment (l ∷ ls) = max l.moment (greatest_moment ls)

-- the first of so many moments, from this one on, at which the number is exposed
abbrev pub first_from : List LogLine → List ℕ → ℕ → ℕ → ℕ → Option ℕ
first_from log key num moment zero = None
first_from log key num moment (suc more) =
    if nat_le num (exposed log key moment) then Some moment else first_from log key num (suc moment) more

abbrev pub moment_of : List LogLine → List ℕ → ℕ → Option ℕ
moment_of log key num = first_from log key num 0 (suc (greatest_moment log))

-- ---- places

abbrev pub place_at : ℕ → ℕ → Bool → ℕ → Option ℕ → List Placed
place_at op num read sent None = []
place_at op num read sent (Some moment) =
    record { moment = if read then max moment sent else moment; num = num; read = read; op = op } ∷ []

-- a read that was answered is placed by the number that it read
abbrev pub place_read : List LogLine → ℕ → At OpLine → Option (At Answer) → Option (At ℕ) → List Placed
place_read log op sent None answered = []
place_read log op sent (Some e) None = []
place_read log op sent (Some e) (Some a) =
    place_at op e.what.num true sent.moment (moment_of log sent.what.key e.what.num)

-- a write is placed by its own number
abbrev pub place_write : List LogLine → ℕ → At OpLine → Option (At ℕ) → List Placed
place_write log op sent None = []
place_write log op sent (Some n) = place_at op n.what false sent.moment (moment_of log sent.what.key n.what)

abbrev pub place_sent : List LogLine → ℕ → Option (At OpLine) → List Placed
place_sent log op None = []
place_sent log op (Some s) =
    if is_read s.what.op
    then place_read log op s (emission log op) (answering log op)
    else place_write log op s (numbering log op)

-- the place of an operation, or none
abbrev pub places_of : List LogLine → ℕ → List Placed
places_of log op = place_sent log op (sending log op)

-- ---- the order

abbrev pub is_ranked_before : Placed → Placed → Bool
is_ranked_before x y =
    nat_lt (read_rank x.read) (read_rank y.read) || (nat_eq (read_rank x.read) (read_rank y.read) && nat_lt x.op y.op)

abbrev pub is_numbered_before : Placed → Placed → Bool
is_numbered_before x y = nat_lt x.num y.num || (nat_eq x.num y.num && is_ranked_before x y)

abbrev pub is_before : Placed → Placed → Bool
is_before x y = nat_lt x.moment y.moment || (nat_eq x.moment y.moment && is_numbered_before x y)

-- the place among others in their order, once
abbrev pub in_order : Placed → List Placed → List Placed
in_order p [] = p ∷ []
in_order p (x ∷ xs) = if is_before p x then p ∷ (x ∷ xs) else (if is_before x p then x ∷ in_order p xs else x ∷ xs)

abbrev pub all_in_order : List Placed → List Placed → List Placed
all_in_order [] ys = ys
all_in_order (x ∷ xs) ys = in_order x (all_in_order xs ys)

-- ---- the history

abbrev pub sent_in : LogEntry → List ℕ
sent_in (Sent op line) = op ∷ []
sent_in _ = []

-- the operations that were sent
abbrev pub sent_operations : List LogLine → List ℕ
sent_operations [] = []
sent_operations (l ∷ ls) = sent_in l.entry ++ sent_operations ls

abbrev pub places_in_order : List LogLine → List ℕ → List Placed
places_in_order log [] = []
places_in_order log (op ∷ ops) = all_in_order (places_of log op) (places_in_order log ops)

abbrev pub history_of : List LogLine → List Placed
history_of log = places_in_order log (sent_operations log)

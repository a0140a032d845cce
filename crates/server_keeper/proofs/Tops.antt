-- The greatest number of a server and of all servers.
use Rattle.std.proofs.Common.{◌≡◌, ℕ, zero, suc, ◌<◌, ◌≤◌, max, Bool, true, false, cond, List, [], ◌∷◌, length, replicate, refl, arith}
use Rattle.std.specs.Prelude.{nat_lt}
use borrow.Author.Tests.{ltb-true, ltb-false}
use Rattle.far_base.specs.declared.record.Record.{Record}
use Rattle.far_model.specs.KeyedRecords.{found, put_record}
use Rattle.far_model.specs.Log.{same_key}
use Rattle.far_model.specs.Servers.{top_of, stored}
use Rattle.far_outside.specs.Keeping.{records_of, put_at}
use Rattle.server_keeper.specs.Lists.{top_of_all}

pub found_below : (rs : List Record) (q : List ℕ) → (found rs q).num ≤ top_of rs
found_below [] q = omega arith
found_below (r ∷ rs) q = by (same_key r.key q) (found_below rs q)
  where
    by : (b : Bool) → (found rs q).num ≤ top_of rs → (cond b (record { num = r.num; body = r.body }) (found rs q)).num ≤ max r.num (top_of rs)
    by true rest = omega arith
    by false rest = omega arith

-- a record with a greater number takes the place of that of its key
pub top_put : (rs : List Record) (r : Record) → (found rs r.key).num < r.num → top_of (put_record r rs) ≡ max (top_of rs) r.num
top_put [] r h = omega arith
top_put (x ∷ xs) r h = by (same_key x.key r.key) h (top_put xs r)
  where
    by : (b : Bool) → (cond b (record { num = x.num; body = x.body }) (found xs r.key)).num < r.num → ((found xs r.key).num < r.num → top_of (put_record r xs) ≡ max (top_of xs) r.num) → top_of (cond b (r ∷ xs) (x ∷ put_record r xs)) ≡ max (max x.num (top_of xs)) r.num
    by true h rest = omega arith
    by false h rest = let e = rest h in omega arith

pub top_kept : (rs : List Record) (r : Record) → top_of (stored rs r) ≡ max (top_of rs) r.num
top_kept rs r = by (nat_lt (found rs r.key).num r.num) refl
  where
    by : (b : Bool) → nat_lt (found rs r.key).num r.num ≡ b → top_of (cond b (put_record r rs) rs) ≡ max (top_of rs) r.num
    by true e = top_put rs r (ltb-true (found rs r.key).num r.num e)
    by false e = let h = found_below rs r.key in let l = ltb-false (found rs r.key).num r.num e in omega arith

pub all_above : (all : List (List Record)) (server : ℕ) → top_of (records_of all server) ≤ top_of_all all
all_above [] server = omega arith
all_above (rs ∷ all) zero = omega arith
all_above (rs ∷ all) (suc server) = let h = all_above all server in omega arith

pub top_put_at : (all : List (List Record)) (server : ℕ) (r : Record) → server < length all → top_of_all (put_at server r all) ≡ max (top_of_all all) r.num
top_put_at [] server r h = absurd (omega arith)
top_put_at (rs ∷ all) zero r h = let e = top_kept rs r in omega arith
top_put_at (rs ∷ all) (suc server) r h = let e = top_put_at all server r (omega arith) in omega arith

pub top_empty : (n : ℕ) → top_of_all (replicate n []) ≡ 0
top_empty zero = refl
top_empty (suc n) = let e = top_empty n in omega arith

pub get_below : (all : List (List Record)) (server : ℕ) (key : List ℕ) → (found (records_of all server) key).num ≤ top_of_all all
get_below all server key = omega (arith, found_below (records_of all server) key, all_above all server)

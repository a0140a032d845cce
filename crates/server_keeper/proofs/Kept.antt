-- What a server has for a key after a record of it was stored.
use Rattle.far_base.specs.declared.record.Versioned.{Versioned}
use Rattle.std.proofs.Common.{◌≡◌, ℕ, ◌<◌, ◌≤◌, Bool, true, false, cond, List, [], ◌∷◌, refl, sym, ap, ◌∙◌, subst, arith, lt-ltb}
use Rattle.std.specs.Prelude.{Option, None, Some, IfSome, nat_lt}
use Rattle.far_base.specs.declared.packet.Packet.{Packet}
use Rattle.far_base.specs.declared.record.Record.{Record}
use Rattle.far_model.specs.History.{held_in}
use Rattle.far_model.specs.KeyedRecords.{found, put_record}
use Rattle.far_model.specs.Log.{same_key}
use Rattle.far_model.specs.Servers.{record_of, stored}
use Rattle.far_outside.specs.Keeping.{records_of, record_for}
use Rattle.std.proofs.lemmas.Bool.Decides.{nat_tests}
use Rattle.server_keeper.specs.Step.{reply_with}
use Rattle.server_keeper.proofs.Keys.{same_as_itself}

le-ltb-false : (a b : ℕ) → b ≤ a → nat_lt a b ≡ false
le-ltb-false a b h = grind (arith, nat_tests)

pub stored_newer : (rs : List Record) (r : Record) → (found rs r.key).num < r.num → stored rs r ≡ put_record r rs
stored_newer rs r h = ap (λ b. cond b (put_record r rs) rs) (lt-ltb (found rs r.key).num r.num h)

pub stored_older : (rs : List Record) (r : Record) → r.num ≤ (found rs r.key).num → stored rs r ≡ rs
stored_older rs r h = ap (λ b. cond b (put_record r rs) rs) (le-ltb-false (found rs r.key).num r.num h)

pub found_put : (rs : List Record) (r : Record) → found (put_record r rs) r.key ≡ held_in r
found_put [] r = ap (λ b. cond b (held_in r) (found [] r.key)) (same_as_itself r.key)
found_put (x ∷ xs) r = by (same_key x.key r.key) refl (found_put xs r)
  where
    by : (b : Bool) → same_key x.key r.key ≡ b → found (put_record r xs) r.key ≡ held_in r → found (cond b (r ∷ xs) (x ∷ put_record r xs)) r.key ≡ held_in r
    by true e rest = ap (λ b. cond b (held_in r) (found xs r.key)) (same_as_itself r.key)
    by false e rest = ap (λ b. cond b (held_in x) (found (put_record r xs) r.key)) e ∙ rest

-- the answer after a put is known before it: the new record where it is the newer, else the one that was there
pub newer_answers : (o : Option (List (List Record))) (server : ℕ) (rec held : Record) → IfSome o (λ all. held ≡ record_for (records_of all server) rec.key) → held.num < rec.num
    → IfSome o (λ all. rec ≡ record_for (stored (records_of all server) rec) rec.key)
newer_answers None server rec held h l = tt
newer_answers (Some all) server rec held h l =
    let more : nat_lt (found (records_of all server) rec.key).num rec.num ≡ true = lt-ltb (found (records_of all server) rec.key).num rec.num (subst (λ n. n < rec.num) (ap (λ (r : Record). r.num) h) l) in
    sym (ap (λ b. record_for (cond b (put_record rec (records_of all server)) (records_of all server)) rec.key) more ∙ ap (λ (held : Versioned). record_of rec.key held.num held.body) (found_put (records_of all server) rec))

pub older_answers : (o : Option (List (List Record))) (server : ℕ) (rec held : Record) → IfSome o (λ all. held ≡ record_for (records_of all server) rec.key) → rec.num ≤ held.num
    → IfSome o (λ all. held ≡ record_for (stored (records_of all server) rec) rec.key)
older_answers None server rec held h l = tt
older_answers (Some all) server rec held h l =
    let less : nat_lt (found (records_of all server) rec.key).num rec.num ≡ false = le-ltb-false (found (records_of all server) rec.key).num rec.num (subst (λ n. rec.num ≤ n) (ap (λ (r : Record). r.num) h) l) in
    h ∙ sym (ap (λ b. record_for (cond b (put_record rec (records_of all server)) (records_of all server)) rec.key) less)

-- the reply to a write that tells that record
pub told_answers : (o : Option (List (List Record))) (server caller op : ℕ) (rec told : Record) (reply : Packet) → reply ≡ reply_with caller op told → IfSome o (λ all. told ≡ record_for (stored (records_of all server) rec) rec.key)
    → IfSome o (λ all. reply ≡ reply_with caller op (record_for (stored (records_of all server) rec) rec.key))
told_answers None server caller op rec told reply is h = tt
told_answers (Some all) server caller op rec told reply is h = is ∙ ap (reply_with caller op) h

-- A record that is put into a list of records, with one of each key.
use Rattle.std.proofs.Common.{◌≡◌, ◌≢◌, ℕ, ◌<◌, ◌≤◌, Bool, true, false, List, [], ◌∷◌, refl, sym, ap, ◌∙◌, ltb-true, ltb-false}
use Rattle.std.specs.Prelude.{if◌then◌else◌, nat_lt}
use Rattle.far_base.specs.declared.record.Record.{Record}
use Rattle.far_model.specs.History.{held_in, nothing}
use Rattle.far_model.specs.KeyedRecords.{found, put_record}
use Rattle.far_model.specs.Log.{same_key}
use Rattle.far_model.specs.Servers.{stored}
use Rattle.far_invariants.proofs.Keys.{same_key_false, same_key_refl, same_key_true}

pub found_put : (r : Record) (rs : List Record) → found (put_record r rs) r.key ≡ held_in r
found_put r [] = ap (λ b. if b then held_in r else nothing) (same_key_refl r.key)
found_put r (x ∷ xs) = go (found_put r xs) (same_key x.key r.key) refl
  where
    go : found (put_record r xs) r.key ≡ held_in r → (b : Bool) → same_key x.key r.key ≡ b → found (if b then r ∷ xs else x ∷ put_record r xs) r.key ≡ held_in r
    go h true e = ap (λ b. if b then held_in r else found xs r.key) (same_key_refl r.key)
    go h false e = ap (λ b. if b then held_in x else found (put_record r xs) r.key) e ∙ h

pub found_put_other : (r : Record) (rs : List Record) (other : List ℕ) → other ≢ r.key → found (put_record r rs) other ≡ found rs other
found_put_other r [] other ne = ap (λ b. if b then held_in r else nothing) (same_key_false r.key other (λ e. ne (sym e)))
found_put_other r (x ∷ xs) other ne = go (found_put_other r xs other ne) (same_key x.key r.key) refl
  where
    go : found (put_record r xs) other ≡ found xs other → (b : Bool) → same_key x.key r.key ≡ b → found (if b then r ∷ xs else x ∷ put_record r xs) other ≡ found (x ∷ xs) other
    go h true e =
        ap (λ b. if b then held_in r else found xs other) (same_key_false r.key other (λ q. ne (sym q)))
        ∙ sym (ap (λ b. if b then held_in x else found xs other) (same_key_false x.key other (λ q. ne (sym q ∙ same_key_true x.key r.key e))))
    go h false e = ap (λ n. if same_key x.key other then held_in x else n) h

-- what a server has for the record's key once it has stored it or not: the record, or what it had, with no smaller number
pub data AfterKeep (records : List Record) (r : Record) : Type 0 where
  IsPut : found (stored records r) r.key ≡ held_in r → (found records r.key).num < r.num → AfterKeep records r
  IsLeft : found (stored records r) r.key ≡ found records r.key → r.num ≤ (found records r.key).num → AfterKeep records r

pub after_keep : (records : List Record) (r : Record) → AfterKeep records r
after_keep records r = go (nat_lt (found records r.key).num r.num) refl
  where
    go : (b : Bool) → nat_lt (found records r.key).num r.num ≡ b → AfterKeep records r
    go true e = IsPut (ap (λ b. found (if b then put_record r records else records) r.key) e ∙ found_put r records) (ltb-true _ _ e)
    go false e = IsLeft (ap (λ b. found (if b then put_record r records else records) r.key) e) (ltb-false _ _ e)

pub kept_other : (records : List Record) (r : Record) (other : List ℕ) → other ≢ r.key → found (stored records r) other ≡ found records other
kept_other records r other ne = go (nat_lt (found records r.key).num r.num)
  where
    go : (b : Bool) → found (if b then put_record r records else records) other ≡ found records other
    go true = found_put_other r records other ne
    go false = refl

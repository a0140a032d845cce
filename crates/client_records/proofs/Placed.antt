-- A record is put at the place of its key.
use Rattle.std.proofs.Common.{◌≡◌, ℕ, zero, suc, ◌<◌, ◌≤◌, Bool, true, false, cond, List, [], ◌∷◌, ◌++◌, length, get_or, refl, ap, ◌∙◌, arith}
use Rattle.std.proofs.Math.ListN.{set}
use Rattle.far_base.specs.declared.record.Record.{Record}
use Rattle.far_model.specs.KeyedRecords.{put_record}
use Rattle.far_model.specs.Log.{same_key}
use Rattle.client_records.specs.ClientView.{IsPlace}

behind : (key : List ℕ) (r : Record) (rs : List Record) (i : ℕ) → IsPlace key (r ∷ rs) (suc i) → IsPlace key rs i
behind key r rs i h = record {
  within = let w = h.within in omega arith;
  before = λ k d l. h.before (suc k) d (omega arith);
  found = λ d l. h.found d (omega arith);
}

pub put_there : (rs : List Record) (new : Record) (i : ℕ) → IsPlace new.key rs i → i < length rs → put_record new rs ≡ set rs i new
put_there [] new i h l = absurd (omega arith)
put_there (r ∷ rs) new zero h l = ap (λ b. cond b (new ∷ rs) (r ∷ put_record new rs)) (h.found r (omega arith))
put_there (r ∷ rs) new (suc i) h l =
    ap (λ b. cond b (new ∷ rs) (r ∷ put_record new rs)) (h.before 0 r (omega arith))
    ∙ ap (λ (records : List Record). r ∷ records) (put_there rs new i (behind new.key r rs i h) (omega arith))

pub put_last : (rs : List Record) (new : Record) (i : ℕ) → IsPlace new.key rs i → length rs ≤ i → put_record new rs ≡ rs ++ new ∷ []
put_last [] new i h l = refl
put_last (r ∷ rs) new zero h l = absurd (omega arith)
put_last (r ∷ rs) new (suc i) h l =
    ap (λ b. cond b (new ∷ rs) (r ∷ put_record new rs)) (h.before 0 r (omega arith))
    ∙ ap (λ (records : List Record). r ∷ records) (put_last rs new i (behind new.key r rs i h) (omega arith))

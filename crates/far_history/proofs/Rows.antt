-- One more line before those that a table tells of.
use Rattle.std.proofs.Common.{◌≡◌, ◌≢◌, ℕ, ◌<◌, ◌≤◌, List, [], ◌∷◌, length, get_or, set, take, drop, ◌++◌, refl, sym, subst, inl, inr, arith, None, Some, ◌==◌}
use Rattle.std.specs.Prelude.{if◌then◌else◌}
use Rattle.std.proofs.lemmas.List.{get_or-set_same, get_or-set_other, length-set, take_at}
use Rattle.std.proofs.lemmas.Bool.Decides.{eqb_tells}
use Rattle.far_base.specs.declared.log.LogLine.{LogLine}
use Rattle.far_history.specs.declared.stored.Stretch.{Stretch}
use Rattle.far_history.specs.declared.stored.Stored.{Stored}
use Rattle.far_history.specs.declared.stored.Bare.{Bare}
use Rattle.far_history.specs.declared.stored.Bare.TheVariants.{Sent, Numbered, Emitted, Answered, Admitted, Evicted, Kept, Snapped, SnapItem, Stopped, Recovered, RecItem}
use Rattle.far_history.specs.Stored.{body_in, op_line, entry_with, line_in}
use Rattle.far_model.specs.Log.{Answer}
use Rattle.far_history.specs.declared.told.Told.{Told}
use Rattle.far_history.specs.Told.{op_bound_of, unheard, noted, noted_entry, IsRow}

abbrev line_of : List ℕ → ℕ → Stretch → Bare → LogLine
line_of bytes moment body bare = record { moment = moment; entry = entry_with (body_in bytes body) bare }

-- the row of one operation changes, and the others stay
row_set : (P : ℕ → Told → Type 0) (table : List Told) (op : ℕ) (row : Told) → op < length table → P op row → ((o : ℕ) → o ≢ op → P o (get_or table o unheard)) → (o : ℕ) → P o (get_or (set table op row) o unheard)
row_set P table op row h new old o =
    elim (eqb_tells o op) [
      | inl e ↦ subst (λ (k : ℕ). P k (get_or (set table op row) k unheard)) (sym e.1) (subst (P op) (sym (get_or-set_same table op row unheard h)) new)
      | inr e ↦ subst (P o) (sym (get_or-set_other table op o row unheard e.1)) (old o e.1)
    ]

same_if : {X : Type 0} (op : ℕ) (a b : X) → (if op == op then a else b) ≡ a
same_if op a b = elim (eqb_tells op op) [ inl e ↦ rw e.0 refl | inr e ↦ absurd (e.1 refl) ]

other_if : {X : Type 0} (o op : ℕ) (a b : X) → o ≢ op → (if o == op then a else b) ≡ b
other_if o op a b ne = elim (eqb_tells o op) [ inl e ↦ absurd (ne e.1) | inr e ↦ rw e.0 refl ]

noted_at : (bytes : List ℕ) (moment : ℕ) (body : Stretch) (entry : Bare) (ls : List LogLine) (table : List Told) → op_bound_of entry ≤ length table
    → ((op : ℕ) → IsRow bytes ls op (get_or table op unheard)) → (op : ℕ) → IsRow bytes (line_of bytes moment body entry ∷ ls) op (get_or (noted_entry moment body entry table) op unheard)
noted_at bytes moment body (Sent op line) ls table h rows =
    row_set (IsRow bytes (line_of bytes moment body (Sent op line) ∷ ls)) table op _ (omega arith)
    (record {
      sent = rw (same_if op (Some (op_line (body_in bytes body) line)) None) refl;
      numbered = (rows op).numbered;
      emitted = (rows op).emitted;
      emitted_at = (rows op).emitted_at;
      answered = (rows op).answered;
    })
    (λ o ne. record {
      sent = rw (other_if op o (Some (op_line (body_in bytes body) line)) None (λ e. ne (sym e))) ((rows o).sent);
      numbered = (rows o).numbered;
      emitted = (rows o).emitted;
      emitted_at = (rows o).emitted_at;
      answered = (rows o).answered;
    })
noted_at bytes moment body (Numbered op num) ls table h rows =
    row_set (IsRow bytes (line_of bytes moment body (Numbered op num) ∷ ls)) table op _ (omega arith)
    (record {
      sent = (rows op).sent;
      numbered = rw (same_if op (Some num) None) refl;
      emitted = (rows op).emitted;
      emitted_at = (rows op).emitted_at;
      answered = (rows op).answered;
    })
    (λ o ne. record {
      sent = (rows o).sent;
      numbered = rw (other_if op o (Some num) None (λ e. ne (sym e))) ((rows o).numbered);
      emitted = (rows o).emitted;
      emitted_at = (rows o).emitted_at;
      answered = (rows o).answered;
    })
noted_at bytes moment body (Emitted op num near) ls table h rows =
    let reply : Answer = record { num = num; body = body_in bytes body; near = near } in
    row_set (IsRow bytes (line_of bytes moment body (Emitted op num near) ∷ ls)) table op _ (omega arith)
    (record {
      sent = (rows op).sent;
      numbered = (rows op).numbered;
      emitted = rw (same_if op (Some reply) None) refl;
      emitted_at = rw (same_if op (Some reply) None) refl;
      answered = (rows op).answered;
    })
    (λ o ne. record {
      sent = (rows o).sent;
      numbered = (rows o).numbered;
      emitted = rw (other_if op o (Some reply) None (λ e. ne (sym e))) ((rows o).emitted);
      emitted_at = rw (other_if op o (Some reply) None (λ e. ne (sym e))) ((rows o).emitted_at);
      answered = (rows o).answered;
    })
noted_at bytes moment body (Answered op) ls table h rows =
    row_set (IsRow bytes (line_of bytes moment body (Answered op) ∷ ls)) table op _ (omega arith)
    (record {
      sent = (rows op).sent;
      numbered = (rows op).numbered;
      emitted = (rows op).emitted;
      emitted_at = (rows op).emitted_at;
      answered = rw (same_if op (Some op) None) refl;
    })
    (λ o ne. record {
      sent = (rows o).sent;
      numbered = (rows o).numbered;
      emitted = (rows o).emitted;
      emitted_at = (rows o).emitted_at;
      answered = rw (other_if op o (Some op) None (λ e. ne (sym e))) ((rows o).answered);
    })
noted_at bytes moment body (Admitted slot key tag) ls table h rows = λ o. record { sent = (rows o).sent; numbered = (rows o).numbered; emitted = (rows o).emitted; emitted_at = (rows o).emitted_at; answered = (rows o).answered }
noted_at bytes moment body (Evicted slot key tries) ls table h rows = λ o. record { sent = (rows o).sent; numbered = (rows o).numbered; emitted = (rows o).emitted; emitted_at = (rows o).emitted_at; answered = (rows o).answered }
noted_at bytes moment body (Kept slot key num) ls table h rows = λ o. record { sent = (rows o).sent; numbered = (rows o).numbered; emitted = (rows o).emitted; emitted_at = (rows o).emitted_at; answered = (rows o).answered }
noted_at bytes moment body (Snapped id point count same) ls table h rows = λ o. record { sent = (rows o).sent; numbered = (rows o).numbered; emitted = (rows o).emitted; emitted_at = (rows o).emitted_at; answered = (rows o).answered }
noted_at bytes moment body (SnapItem slot key num) ls table h rows = λ o. record { sent = (rows o).sent; numbered = (rows o).numbered; emitted = (rows o).emitted; emitted_at = (rows o).emitted_at; answered = (rows o).answered }
noted_at bytes moment body Stopped ls table h rows = λ o. record { sent = (rows o).sent; numbered = (rows o).numbered; emitted = (rows o).emitted; emitted_at = (rows o).emitted_at; answered = (rows o).answered }
noted_at bytes moment body (Recovered counter count) ls table h rows = λ o. record { sent = (rows o).sent; numbered = (rows o).numbered; emitted = (rows o).emitted; emitted_at = (rows o).emitted_at; answered = (rows o).answered }
noted_at bytes moment body (RecItem key num) ls table h rows = λ o. record { sent = (rows o).sent; numbered = (rows o).numbered; emitted = (rows o).emitted; emitted_at = (rows o).emitted_at; answered = (rows o).answered }

pub noted_rows : (bytes : List ℕ) (l : Stored) (ls : List LogLine) (table : List Told) → op_bound_of l.bare ≤ length table
    → ((op : ℕ) → IsRow bytes ls op (get_or table op unheard)) → (op : ℕ) → IsRow bytes (line_in bytes l ∷ ls) op (get_or (noted l table) op unheard)
noted_rows bytes l ls table h rows = noted_at bytes l.moment l.body l.bare ls table h rows

pub no_rows : (bytes : List ℕ) (op : ℕ) → IsRow bytes [] op unheard
no_rows bytes op = record { sent = refl; numbered = refl; emitted = refl; emitted_at = refl; answered = refl }

pub length_noted : (l : Stored) (table : List Told) → length (noted l table) ≡ length table
length_noted l table = length_noted_at l.moment l.body l.bare table where
  length_noted_at : (moment : ℕ) (body : Stretch) (entry : Bare) (table : List Told) → length (noted_entry moment body entry table) ≡ length table
  length_noted_at moment body (Sent op line) table = length-set table op _
  length_noted_at moment body (Numbered op num) table = length-set table op _
  length_noted_at moment body (Emitted op num near) table = length-set table op _
  length_noted_at moment body (Answered op) table = length-set table op _
  length_noted_at moment body _ table = refl

-- what was written through a borrow of the whole table
pub written_back : (n : ℕ) (old new : List Told) → length new ≡ length old → n ≡ length old → take n (new ++ drop (length new) old) ≡ new
written_back n old new e f = take_at new (drop (length new) old) n (omega arith)

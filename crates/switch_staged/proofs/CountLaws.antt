-- A pass raises the counter by at most one.
use Rattle.std.proofs.Common.{◌≡◌, ℕ, ◌+◌, ◌≤◌, Bool, true, false, List, [], ◌∷◌, length, sym, refl, ap, ◌∙◌, subst, arith, Option, None, Some}
use Rattle.std.specs.Prelude.{if◌then◌else◌, not, ◌&&◌, nat_eq}
use Rattle.far_base.specs.declared.packet.Out.{Out}
use Rattle.far_base.specs.declared.packet.Packet.{Packet}
use Rattle.far_base.specs.declared.packet.Packet.TheVariants.{GetReq, WriteReq, GetRep, WriteRep, GetAns, WriteAns, Admit, Peek, Remove, SnapStart, SnapRead, SnapFrom}
use Rattle.far_base.specs.declared.party.Party.TheVariants.{Client}
use Rattle.far_model.specs.Pass.{Passed, pass, sent_to, dropped, changes, changed_view, with_slot, with_taken, read_passes, write_passes, numbered, reply_passes, takes_reply, absorbing, raised, is_slot_there, admits, peeks, removes, removed_answer, may_go, starts_snapshot, reads_part, part_of}
use Rattle.far_model.specs.View.{SwitchView, SlotView, slot_at, entry_place, is_taken, held_record, empty_slot}
use Rattle.switch_staged.specs.Line.{final}

-- the counter of what a pass leaves
abbrev count : Passed → ℕ
count p = p.view.counter

change_counts : (v : SwitchView) (i : ℕ) (slot : SlotView) (out : Option Out) → count (changes v i slot out) ≡ v.counter
change_counts v i slot out = by (is_taken v i)
  where
    by : (x : Bool) → (if x then with_slot v i slot else with_taken (with_slot v i slot) i (held_record (slot_at v i))).counter ≡ v.counter
    by true = refl
    by false = refl

read_counts : (v : SwitchView) (caller op : ℕ) (key : List ℕ) (q : Option ℕ) → count (read_passes v caller op key q) ≡ v.counter
read_counts v caller op key None = refl
read_counts v caller op key (Some i) = refl

write_counts : (v : SwitchView) (caller op : ℕ) (key : List ℕ) (body : Option (List ℕ)) (q : Option ℕ) → count (write_passes v caller op key body q) ≡ v.counter
write_counts v caller op key body None = refl
write_counts v caller op key body (Some i) = change_counts v i (absorbing v.counter body (slot_at v i)) (sent_to (Client caller) (WriteAns caller op key v.counter true))

reply_counts : (v : SwitchView) (tag : Option ℕ) (num : ℕ) (body : Option (List ℕ)) (out : Option Out) (q : Option ℕ) → count (reply_passes v tag num body out q) ≡ v.counter
reply_counts v tag num body out None = refl
reply_counts v tag num body out (Some i) = by (takes_reply tag num (slot_at v i))
  where
    by : (x : Bool) → count (if x then changes v i (absorbing num body (slot_at v i)) out else record { view = with_slot v i (raised num (slot_at v i)); first = out; second = None }) ≡ v.counter
    by true = change_counts v i (absorbing num body (slot_at v i)) out
    by false = refl

removal_counts : (v : SwitchView) (i tag : ℕ) (latest : Bool) (num : ℕ) (slot : SlotView) → count (removes v i tag latest num slot) ≡ v.counter
removal_counts v i tag latest num slot = by (may_go tag latest num slot) slot.latest
  where
    by : (x y : Bool) → count (if x then (if y then changes v i empty_slot (removed_answer i tag true slot) else record { view = with_slot v i empty_slot; first = removed_answer i tag true slot; second = None })
        else record { view = v; first = removed_answer i tag false slot; second = None }) ≡ v.counter
    by true true = change_counts v i empty_slot (removed_answer i tag true slot)
    by true false = refl
    by false y = refl

part_counts : (v : SwitchView) (id i : ℕ) → count (reads_part v id i) ≡ v.counter
part_counts v id i = by (nat_eq id v.snap && not (is_taken v i))
  where
    by : (x : Bool) → count (if x then record { view = with_taken v i (held_record (slot_at v i)); first = part_of v i; second = None } else dropped v) ≡ v.counter
    by true = refl
    by false = refl

or_dropped : (v : SwitchView) (p : Passed) (x : Bool) → count p ≡ v.counter → count (if x then p else dropped v) ≡ v.counter
or_dropped v p true e = e
or_dropped v p false e = refl

same : (n m : ℕ) → m ≡ n → m ≤ n + 1
same n m e = omega (arith, e)

more : (n m : ℕ) → m ≡ n + 1 → m ≤ n + 1
more n m e = omega (arith, e)

pub pass_counts : (v : SwitchView) (p : Packet) → (pass v p).view.counter ≤ v.counter + 1
pass_counts v (GetReq caller op key) = same v.counter _ (read_counts v caller op key (entry_place key v))
pass_counts v (WriteReq caller op key body) = more v.counter _ (write_counts (numbered v) caller op key body (entry_place key v))
pass_counts v (GetRep caller op key tag num body) = same v.counter _ (reply_counts v (Some tag) num body (sent_to (Client caller) (GetAns caller op key num body false)) (entry_place key v))
pass_counts v (WriteRep caller op key num body) = same v.counter _ (reply_counts v None num body (sent_to (Client caller) (WriteAns caller op key num false)) (entry_place key v))
pass_counts v (Admit epoch i key tag) = same v.counter _ (or_dropped v (admits v i key tag) (is_slot_there v epoch i) refl)
pass_counts v (Peek epoch i tag) = same v.counter _ (or_dropped v (peeks v i tag (slot_at v i)) (is_slot_there v epoch i) refl)
pass_counts v (Remove epoch i tag latest num) = same v.counter _ (or_dropped v (removes v i tag latest num (slot_at v i)) (is_slot_there v epoch i) (removal_counts v i tag latest num (slot_at v i)))
pass_counts v (SnapStart epoch id) = same v.counter _ (or_dropped v (starts_snapshot v id 0) (nat_eq epoch v.epoch) refl)
pass_counts v (SnapFrom epoch id base) = same v.counter _ (or_dropped v (starts_snapshot v id base) (nat_eq epoch v.epoch) refl)
pass_counts v (SnapRead epoch id i) = same v.counter _ (or_dropped v (reads_part v id i) (is_slot_there v epoch i) (part_counts v id i))
pass_counts v _ = same v.counter v.counter refl

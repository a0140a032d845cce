-- A pass of each kind by its cases: what holds of each outcome holds of the pass.
use Rattle.std.proofs.Common.{◌≡◌, ℕ, zero, suc, ◌+◌, ◌<◌, Bool, true, false, true≢false, cond, not, ◌&&◌, nat_eq, nat_lt, eqb-true, List, [], ◌∷◌, length, get_or, refl, sym, subst, arith}
use Rattle.std.specs.Prelude.{Option, None, Some}
use Rattle.std.proofs.lemmas.Bool.{and_parts, ltb-true}
use Rattle.std.proofs.lemmas.Option.{same_Some, none-some}
use Rattle.far_base.specs.declared.packet.Out.{Out}
use Rattle.far_base.specs.declared.packet.Packet.TheVariants.{GetReq, WriteReq, GetFwd, WriteFwd, GetAns, WriteAns, Hot, Admit, AdmitAck, Peek, PeekAns, Remove, RemoveAns, SnapStart, SnapBegun, SnapRead, SnapFrom}
use Rattle.far_base.specs.declared.party.Party.TheVariants.{Client, Server, Controller}
use Rattle.far_model.specs.Pass.{Passed, pass, dropped, sent_to, touched, grows_hot, hot_cell, part_of, with_slot, with_taken, changes, read_passes, absorbing, write_passes, numbered, takes_reply, raised, reply_passes, is_slot_there, admits, is_under, peeks, removes, reads_part}
use Rattle.far_model.specs.View.{SlotView, SwitchView, bind_key, bound_place, entry_if, entry_place, empty_slot, is_slot_of, is_taken, server_of, shown_body, slot_at, held_record}

-- what holds of both branches, each with its test
pub tested : {A : Type 0} (P : A → Type 0) (b : Bool) (x y : A) → (b ≡ true → P x) → (b ≡ false → P y) → P (cond b x y)
tested P true x y p q = p refl
tested P false x y p q = q refl

-- ---- entries

valid_within : (slots : List SlotView) (i : ℕ) → (get_or slots i empty_slot).valid ≡ true → i < length slots
valid_within [] i h = absurd (true≢false (sym h))
valid_within (x ∷ xs) zero h = omega arith
valid_within (x ∷ xs) (suc i) h = omega (arith, valid_within xs i h)

and_left : (a b : Bool) → (a && b) ≡ true → a ≡ true
and_left true b h = refl
and_left false b h = absurd (true≢false (sym h))

-- the entry of a key is a valid slot
pub entry_valid : (key : List ℕ) (v : SwitchView) (i : ℕ) → entry_place key v ≡ Some i → (slot_at v i).valid ≡ true
entry_valid key v i h = go (bound_place key v.bound) h
  where
    fits : (j : ℕ) (t : Bool) → is_slot_of key (slot_at v j) ≡ t → cond t (Some j) None ≡ Some i → (slot_at v i).valid ≡ true
    fits j true e k = subst (λ n. (slot_at v n).valid ≡ true) (same_Some j i k) (and_left _ _ e)
    fits j false e k = absurd (none-some i k)

    go : (o : Option ℕ) → entry_if key v o ≡ Some i → (slot_at v i).valid ≡ true
    go None k = absurd (none-some i k)
    go (Some j) k = fits j (is_slot_of key (slot_at v j)) refl k

pub entry_within : (key : List ℕ) (v : SwitchView) (i : ℕ) → entry_place key v ≡ Some i → i < length v.slots
entry_within key v i h = valid_within v.slots i (entry_valid key v i h)

module _ (P : Passed → Type 0) (v : SwitchView) where
  -- ---- the first change of a slot

  pub changes_cases : (w : SwitchView) (i : ℕ) (slot : SlotView) (out : Option Out)
      → (is_taken w i ≡ true → P (record { view = with_slot w i slot; first = out; second = None }))
      → (is_taken w i ≡ false → P (record { view = with_taken (with_slot w i slot) i (held_record (slot_at w i)); first = out; second = part_of w i })) → P (changes w i slot out)
  changes_cases w i slot out taken absent = go (is_taken w i) refl
    where
      go : (b : Bool) → is_taken w i ≡ b → P (record { view = cond b (with_slot w i slot) (with_taken (with_slot w i slot) i (held_record (slot_at w i))); first = out; second = cond b None (part_of w i) })
      go true e = taken e
      go false e = absent e

  -- ---- reads and writes

  hot_cases : (key : List ℕ) (first : Option Out) (w : SwitchView) → P (record { view = w; first = first; second = sent_to Controller (Hot key) }) → P (record { view = w; first = first; second = None }) → (b : Bool)
      → P (record { view = w; first = first; second = cond b (sent_to Controller (Hot key)) None })
  hot_cases key first w hot cold true = hot
  hot_cases key first w hot cold false = cold

  pub read_cases : (caller op : ℕ) (key : List ℕ)
      → (near : (i : ℕ) → P (record { view = v; first = sent_to (Client caller) (GetAns caller op key (slot_at v i).num (slot_at v i).body true); second = None }))
      → (far : (i : ℕ) → P (record { view = v; first = sent_to (Server (server_of v.config key)) (GetFwd caller op key (slot_at v i).tag); second = None }))
      → (hot : P (record { view = touched key v; first = sent_to (Server (server_of v.config key)) (GetFwd caller op key 0); second = sent_to Controller (Hot key) }))
      → (cold : P (record { view = touched key v; first = sent_to (Server (server_of v.config key)) (GetFwd caller op key 0); second = None }))
      → P (pass v (GetReq caller op key))
  read_cases caller op key near far hot cold = go (entry_place key v)
    where
      at : (i : ℕ) (b : Bool) → P (record { view = v; first = cond b (sent_to (Client caller) (GetAns caller op key (slot_at v i).num (slot_at v i).body true)) (sent_to (Server (server_of v.config key)) (GetFwd caller op key (slot_at v i).tag)); second = None })
      at i true = near i
      at i false = far i

      go : (o : Option ℕ) → P (read_passes v caller op key o)
      go None = hot_cases key (sent_to (Server (server_of v.config key)) (GetFwd caller op key 0)) (touched key v) hot cold (grows_hot v.config.hot (hot_cell key v))
      go (Some i) = at i (slot_at v i).latest

  pub write_cases : (caller op : ℕ) (key : List ℕ) (body : Option (List ℕ))
      → (hit : (i : ℕ) → entry_place key v ≡ Some i → P (changes (numbered v) i (absorbing (v.counter + 1) body (slot_at v i)) (sent_to (Client caller) (WriteAns caller op key (v.counter + 1) true))))
      → (hot : P (record { view = touched key (numbered v); first = sent_to (Server (server_of v.config key)) (WriteFwd caller op key (v.counter + 1) body); second = sent_to Controller (Hot key) }))
      → (cold : P (record { view = touched key (numbered v); first = sent_to (Server (server_of v.config key)) (WriteFwd caller op key (v.counter + 1) body); second = None }))
      → P (pass v (WriteReq caller op key body))
  write_cases caller op key body hit hot cold = go (entry_place key v) refl
    where
      go : (o : Option ℕ) → entry_place key v ≡ o → P (write_passes (numbered v) caller op key body o)
      go None e = hot_cases key (sent_to (Server (server_of v.config key)) (WriteFwd caller op key (v.counter + 1) body)) (touched key (numbered v)) hot cold (grows_hot v.config.hot (hot_cell key (numbered v)))
      go (Some i) e = hit i e

  pub reply_cases : (tag : Option ℕ) (num : ℕ) (body : Option (List ℕ)) (key : List ℕ) (out : Option Out)
      → (none : P (record { view = v; first = out; second = None }))
      → (takes : (i : ℕ) → entry_place key v ≡ Some i → P (changes v i (absorbing num body (slot_at v i)) out))
      → (raises : (i : ℕ) → entry_place key v ≡ Some i → P (record { view = with_slot v i (raised num (slot_at v i)); first = out; second = None }))
      → P (reply_passes v tag num body out (entry_place key v))
  reply_cases tag num body key out none takes raises = go (entry_place key v) refl
    where
      go : (o : Option ℕ) → entry_place key v ≡ o → P (reply_passes v tag num body out o)
      go None e = none
      go (Some i) e = tested P (takes_reply tag num (slot_at v i)) _ _ (λ t. takes i e) (λ t. raises i e)

  -- ---- what the controller asks

  there_cases : (epoch i : ℕ) (p : Passed) → (epoch ≡ v.epoch → i < v.config.slots → P p) → (is_slot_there v epoch i ≡ false → P (dropped v)) → P (cond (is_slot_there v epoch i) p (dropped v))
  there_cases epoch i p there other = tested P (is_slot_there v epoch i) p (dropped v)
      (λ t. let parts = and_parts (nat_eq epoch v.epoch) (nat_lt i v.config.slots) t in
      there (eqb-true epoch v.epoch parts.0) (ltb-true i v.config.slots parts.1))
      other

  pub admit_cases : (epoch i : ℕ) (key : List ℕ) (tag : ℕ)
      → (off : epoch ≡ v.epoch → i < v.config.slots → (slot_at v i).valid ≡ false
      → P (record { view = with_slot (record v { bound = bind_key key i v.bound }) i (record { key = Some key; tag = tag; valid = true; latest = false; num = 0; body = None }); first = sent_to Controller (AdmitAck i tag); second = None }))
      → (on : epoch ≡ v.epoch → i < v.config.slots → (slot_at v i).valid ≡ true → P (record { view = with_slot (record v { bound = bind_key key i v.bound }) i (slot_at v i); first = None; second = None }))
      → (other : is_slot_there v epoch i ≡ false → P (dropped v)) → P (pass v (Admit epoch i key tag))
  admit_cases epoch i key tag off on other = there_cases epoch i (admits v i key tag) (λ e w. go e w (slot_at v i).valid refl) other
    where
      go : epoch ≡ v.epoch → i < v.config.slots → (b : Bool) → (slot_at v i).valid ≡ b
          → P (record { view = with_slot (record v { bound = bind_key key i v.bound }) i (cond b (slot_at v i) (record { key = Some key; tag = tag; valid = true; latest = false; num = 0; body = None })); first = cond b None (sent_to Controller (AdmitAck i tag)); second = None })
      go e w true h = on e w h
      go e w false h = off e w h

  pub peek_cases : (epoch i tag : ℕ)
      → (under : epoch ≡ v.epoch → i < v.config.slots → P (record { view = v; first = sent_to Controller (PeekAns i tag (slot_at v i).latest (slot_at v i).num (shown_body (slot_at v i))); second = None }))
      → (absent : epoch ≡ v.epoch → i < v.config.slots → P (record { view = v; first = sent_to Controller (PeekAns i tag false 0 None); second = None }))
      → (other : is_slot_there v epoch i ≡ false → P (dropped v)) → P (pass v (Peek epoch i tag))
  peek_cases epoch i tag under absent other = there_cases epoch i (peeks v i tag (slot_at v i)) (λ e w. go e w (is_under tag (slot_at v i))) other
    where
      go : epoch ≡ v.epoch → i < v.config.slots → (b : Bool)
          → P (record { view = v; first = cond b (sent_to Controller (PeekAns i tag (slot_at v i).latest (slot_at v i).num (shown_body (slot_at v i)))) (sent_to Controller (PeekAns i tag false 0 None)); second = None })
      go e w true = under e w
      go e w false = absent e w

  pub remove_cases : (epoch i tag : ℕ) (latest : Bool) (num : ℕ)
      → (goes_latest : epoch ≡ v.epoch → i < v.config.slots → is_under tag (slot_at v i) ≡ true
      → P (changes v i empty_slot (sent_to Controller (RemoveAns i tag true (slot_at v i).latest (slot_at v i).num (shown_body (slot_at v i))))))
      → (goes : epoch ≡ v.epoch → i < v.config.slots → is_under tag (slot_at v i) ≡ true
      → P (record { view = with_slot v i empty_slot; first = sent_to Controller (RemoveAns i tag true (slot_at v i).latest (slot_at v i).num (shown_body (slot_at v i))); second = None }))
      → (stays : epoch ≡ v.epoch → i < v.config.slots → P (record { view = v; first = sent_to Controller (RemoveAns i tag false (slot_at v i).latest (slot_at v i).num (shown_body (slot_at v i))); second = None }))
      → (absent : epoch ≡ v.epoch → i < v.config.slots → P (record { view = v; first = sent_to Controller (RemoveAns i tag false false 0 None); second = None }))
      → (other : is_slot_there v epoch i ≡ false → P (dropped v)) → P (pass v (Remove epoch i tag latest num))
  remove_cases epoch i tag latest num goes_latest goes stays absent other = there_cases epoch i (removes v i tag latest num (slot_at v i)) (λ e w. go e w (is_under tag (slot_at v i)) refl (cond (slot_at v i).latest (latest && nat_eq (slot_at v i).num num) true)) other
    where
      slot : SlotView
      slot = slot_at v i

      go : epoch ≡ v.epoch → i < v.config.slots → (under : Bool) → is_under tag slot ≡ under → (may : Bool)
          → P (cond (under && may) (cond slot.latest (changes v i empty_slot (cond under (sent_to Controller (RemoveAns i tag true slot.latest slot.num (shown_body slot))) (sent_to Controller (RemoveAns i tag false false 0 None))))
          (record { view = with_slot v i empty_slot; first = cond under (sent_to Controller (RemoveAns i tag true slot.latest slot.num (shown_body slot))) (sent_to Controller (RemoveAns i tag false false 0 None)); second = None }))
          (record { view = v; first = cond under (sent_to Controller (RemoveAns i tag false slot.latest slot.num (shown_body slot))) (sent_to Controller (RemoveAns i tag false false 0 None)); second = None }))
      go e w true u true = tested P slot.latest _ _ (λ t. goes_latest e w u) (λ t. goes e w u)
      go e w true u false = stays e w
      go e w false u may = absent e w

  pub start_cases : (epoch id : ℕ) → (starts : epoch ≡ v.epoch → P (record { view = record v { snap = id; base = 0 }; first = sent_to Controller (SnapBegun id v.counter); second = None })) → (other : nat_eq epoch v.epoch ≡ false → P (dropped v)) → P (pass v (SnapStart epoch id))
  start_cases epoch id starts other = tested P (nat_eq epoch v.epoch) _ (dropped v) (λ t. starts (eqb-true epoch v.epoch t)) other

  pub from_cases : (epoch id base : ℕ) → (starts : epoch ≡ v.epoch → P (record { view = record v { snap = id; base = base }; first = sent_to Controller (SnapBegun id v.counter); second = None })) → (other : nat_eq epoch v.epoch ≡ false → P (dropped v)) → P (pass v (SnapFrom epoch id base))
  from_cases epoch id base starts other = tested P (nat_eq epoch v.epoch) _ (dropped v) (λ t. starts (eqb-true epoch v.epoch t)) other

  pub part_cases : (epoch id i : ℕ) → (takes : epoch ≡ v.epoch → i < v.config.slots → id ≡ v.snap → is_taken v i ≡ false → P (record { view = with_taken v i (held_record (slot_at v i)); first = part_of v i; second = None }))
      → (taken : epoch ≡ v.epoch → id ≡ v.snap → is_taken v i ≡ true → P (dropped v)) → (other : Unit {0} → P (dropped v)) → P (pass v (SnapRead epoch id i))
  part_cases epoch id i takes taken other = there_cases epoch i (reads_part v id i) (λ e w. go e w (nat_eq id v.snap) refl (is_taken v i) refl) (λ z. other tt)
    where
      go : epoch ≡ v.epoch → i < v.config.slots → (same : Bool) → nat_eq id v.snap ≡ same → (t : Bool) → is_taken v i ≡ t → P (cond (same && not t) (record { view = with_taken v i (held_record (slot_at v i)); first = part_of v i; second = None }) (dropped v))
      go e w true s true t = taken e (eqb-true id v.snap s) t
      go e w true s false t = takes e w (eqb-true id v.snap s) t
      go e w false s t h = other tt

-- The kept list, place by place.
use Rattle.std.proofs.Common.{◌≡◌, ℕ, zero, suc, ◌+◌, ◌<◌, ◌≤◌, List, [], ◌∷◌, ◌++◌, length, get_or, take, refl, sym, ap, ◌∙◌, Some, None, append_assoc, arith}
use Rattle.std.proofs.lemmas.List.{append-nil}
use Rattle.std.specs.Prelude.{IfSome, Option}
use Rattle.far_base.specs.declared.kept.KeptItem.{KeptItem}
use Rattle.far_base.specs.declared.kept.KeptPlace.{KeptPlace}
use Rattle.far_base.specs.declared.kept.KeptPlace.TheVariants.{Snap, Server, Client}
use Rattle.far_base.specs.declared.record.Record.{Record}
use Rattle.far_model.specs.Kept.{client_items, placed_in, server_items}
use Rattle.far_model.specs.KeyedRecords.{by_key}
use Rattle.far_model.specs.Snapshots.{view_records}
use Rattle.far_outside.specs.Keeping.{records_of}
use Rattle.far_world.proofs.Tasked.{records_on, there_is}
use Rattle.far_world.specs.Seats.{SeatView, clients_of}

placed_append : (place : KeptPlace) (xs ys : List Record) → placed_in place (xs ++ ys) ≡ placed_in place xs ++ placed_in place ys
placed_append place [] ys = refl
placed_append place (x ∷ xs) ys = ap (λ (items : List KeptItem). record { place = place; rec = x } ∷ items) (placed_append place xs ys)

-- one more went behind what was there
pub goes_on : {A : Type 0} → (start old next whole : List A) (before now : List A) → before ≡ start ++ old → now ≡ before ++ next → old ++ next ≡ whole → now ≡ start ++ whole
goes_on start old next whole before now h k e = k ∙ (ap (λ (xs : List _). xs ++ next) h ∙ (append_assoc start old next ∙ ap (λ (xs : List _). start ++ xs) e))

pub views_on : (views : List (Option Record)) (i : ℕ) (view : Option Record) → i < length views → view ≡ get_or views i view
    → placed_in Snap (view_records (take i views)) ++ placed_in Snap (view_records (view ∷ [])) ≡ placed_in Snap (view_records (take (i + 1) views))
views_on views i view less e = sym (ap (placed_in Snap) (records_on views i view (there_is views i view less e)) ∙ placed_append Snap (view_records (take i views)) (view_records (view ∷ [])))

servers_from : (k n : ℕ) (all : List (List Record)) → n < length all → server_items k (take n all) ++ placed_in (Server (k + n)) (by_key (records_of all n)) ≡ server_items k (take (n + 1) all)
servers_from k n [] less = absurd (omega arith)
servers_from k zero (rs ∷ all) less = let e : k + 0 ≡ k = omega arith in rw e (sym (append-nil (placed_in (Server k) (by_key rs))))
servers_from k (suc n) (rs ∷ all) less =
    let e : k + suc n ≡ suc k + n = omega arith in
    let f : suc n + 1 ≡ suc (n + 1) = omega arith in
    rw (e, f) (append_assoc (placed_in (Server k) (by_key rs)) (server_items (suc k) (take n all)) (placed_in (Server (suc k + n)) (by_key (records_of all n)))
    ∙ ap (λ (items : List KeptItem). placed_in (Server k) (by_key rs) ++ items) (servers_from (suc k) n all (omega arith)))

pub servers_on : (all : List (List Record)) (n : ℕ) → n < length all → server_items 0 (take n all) ++ placed_in (Server n) (by_key (records_of all n)) ≡ server_items 0 (take (n + 1) all)
servers_on all n less = let e : 0 + n ≡ n = omega arith in ap (λ (k : ℕ). server_items 0 (take n all) ++ placed_in (Server k) (by_key (records_of all n))) (sym e) ∙ servers_from 0 n all less

clients_from_on : (k n : ℕ) (seats : List SeatView) (seat : SeatView) → n < length seats → seat ≡ get_or seats n seat
    → client_items k (clients_of (take n seats)) ++ placed_in (Client (k + n)) seat.state.preserved ≡ client_items k (clients_of (take (n + 1) seats))
clients_from_on k n [] seat less e = absurd (omega arith)
clients_from_on k zero (s ∷ seats) seat less e = let z : k + 0 ≡ k = omega arith in rw (z, e) (sym (append-nil (placed_in (Client k) s.state.preserved)))
clients_from_on k (suc n) (s ∷ seats) seat less e =
    let f : k + suc n ≡ suc k + n = omega arith in
    let g : suc n + 1 ≡ suc (n + 1) = omega arith in
    rw (f, g) (append_assoc (placed_in (Client k) s.state.preserved) (client_items (suc k) (clients_of (take n seats))) (placed_in (Client (suc k + n)) seat.state.preserved)
    ∙ ap (λ (items : List KeptItem). placed_in (Client k) s.state.preserved ++ items) (clients_from_on (suc k) n seats seat (omega arith) e))

pub clients_on : (seats : List SeatView) (n : ℕ) (seat : SeatView) → n < length seats → seat ≡ get_or seats n seat
    → client_items 0 (clients_of (take n seats)) ++ placed_in (Client n) seat.state.preserved ≡ client_items 0 (clients_of (take (n + 1) seats))
clients_on seats n seat less e = let z : 0 + n ≡ n = omega arith in ap (λ (k : ℕ). client_items 0 (clients_of (take n seats)) ++ placed_in (Client k) seat.state.preserved) (sym z) ∙ clients_from_on 0 n seats seat less e

-- ---- servers, where the keeper tells their records

abbrev pub ArePlaced : Option (List (List Record)) → ℕ → List KeptItem → List KeptItem → Type 0
ArePlaced o n start items = IfSome o (λ all. n ≤ length all → items ≡ start ++ server_items 0 (take n all))

pub placed_none : (o : Option (List (List Record))) (start : List KeptItem) → ArePlaced o 0 start start
placed_none None start = tt
placed_none (Some all) start = λ h. sym (append-nil start)

pub placed_more : (o : Option (List (List Record))) (n : ℕ) (start before now : List KeptItem) → ArePlaced o n start before → IfSome o (λ all. now ≡ before ++ placed_in (Server n) (by_key (records_of all n))) → ArePlaced o (n + 1) start now
placed_more None n start before now h k = tt
placed_more (Some all) n start before now h k = λ there. goes_on start (server_items 0 (take n all)) (placed_in (Server n) (by_key (records_of all n))) (server_items 0 (take (n + 1) all)) before now (h (omega (arith, there))) k (servers_on all n (omega (arith, there)))

take_all : (all : List (List Record)) → take (length all) all ≡ all
take_all [] = refl
take_all (rs ∷ all) = ap (λ (rest : List (List Record)). rs ∷ rest) (take_all all)

pub placed_all : (o : Option (List (List Record))) (n : ℕ) (start items : List KeptItem) → ArePlaced o n start items → IfSome o (λ all. length all ≡ n → items ≡ start ++ server_items 0 all)
placed_all None n start items h = tt
placed_all (Some all) n start items h = λ e. h (omega (arith, e)) ∙ ap (λ (xs : List (List Record)). start ++ server_items 0 xs) (ap (λ (k : ℕ). take k all) (sym e) ∙ take_all all)

pub record More (start items : List KeptItem) : Type 0 where
  pub listed : List KeptItem
  pub behind : items ≡ start ++ listed

pub more_on : (start before now : List KeptItem) → More start before → (listed : List KeptItem) × (now ≡ before ++ listed) → More start now
more_on start before now h k = record { listed = h.listed ++ k.0; behind = goes_on start h.listed k.0 (h.listed ++ k.0) before now h.behind k.1 refl }

pub no_more : (start : List KeptItem) → More start start
no_more start = record { listed = []; behind = sym (append-nil start) }

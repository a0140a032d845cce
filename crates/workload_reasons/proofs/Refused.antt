-- A line that is refused has a fault that is told.
use Rattle.std.proofs.Common.{◌≡◌, ◌⊎◌, inl, inr, ℕ, zero, suc, ◌+◌, ◌-◌, ◌<◌, ◌≤◌, Bool, true, false, cond, List, []}
use Rattle.std.proofs.Common.{◌∷◌, drop, length, refl, sym, ap, subst, ◌∙◌, arith}
use Rattle.std.specs.Prelude.{Option, Some, None, Result, Ok, Err, nat_eq, nat_le, nat_lt, bytes_eq, codes, is_some}
use Rattle.std.proofs.lemmas.Bool.Decides.{nat_tests}
use Rattle.std.proofs.lemmas.List.{drop-drop}
use Rattle.far_base.specs.Padded.{length_of}
use Rattle.far_base.specs.declared.body.TheConstants.{BODY_LIMIT}
use Rattle.far_base.specs.declared.plan.Config.{Config}
use Rattle.far_base.specs.declared.plan.OpLine.{OpLine}
use Rattle.far_base.specs.declared.plan.TheConstants.{CLIENT_LIMIT, SERVER_LIMIT, SLOT_LIMIT, HOT_LIMIT, OP_LIMIT}
use Rattle.far_text.specs.Options.{◌>>=◌}
use Rattle.far_text.specs.Pieces.{Pieces, pieces}
use Rattle.workload.specs.Forms.{Form, OfOp, OfOrder, OfPicks, OfRandom, form_of, step_by, unless, passed, random_by}
use Rattle.workload.specs.Forms.{with_op, with_order, with_picks, with_random}
use Rattle.workload.specs.Outcome.{◌andthen◌}
use Rattle.workload.specs.Reading.{title_of, size_of, sized_by, head_of, line_step, at_end, body_from, empty_work}
use Rattle.workload.specs.Reading.{reading}
use Rattle.workload.specs.Words.{named}
use Rattle.workload.specs.WorkView.{WorkView}
use Rattle.workload.specs.declared.fault.Limit.{Limit}
use Rattle.workload.specs.declared.fault.Limit.TheVariants.{Clients as MostClients, Servers as MostServers}
use Rattle.workload.specs.declared.fault.Limit.TheVariants.{Slots as MostSlots, Hot as MostHot, Body, Ops, Picks}
use Rattle.workload.specs.declared.fault.WorkFault.{WorkFault}
use Rattle.workload.specs.declared.fault.WorkFault.TheVariants.{BadLine, TooLarge, Memory}
use Rattle.workload.specs.declared.load.TheConstants.{PICK_LIMIT}
use Rattle.workload_reasons.specs.Ends.{first_whole, line_of, clients_of, is_start, start_behind, first_start}
use Rattle.workload_reasons.specs.Heads.{head_at, IsHead}
use Rattle.workload_reasons.specs.Orders.{HasForm, client_of}
use Rattle.workload_reasons.specs.Spelled.{Has}
use Rattle.workload_reasons.specs.Told.{IsFine}
use Rattle.workload_reasons.specs.declared.reason.HeadLine.{HeadLine}
use Rattle.workload_reasons.specs.declared.reason.HeadLine.TheVariants.{Title, Clients, Servers, Slots, Hot}
use Rattle.workload_reasons.proofs.Verbs.{has_form, client_is, is_start_line, start_form}

-- ---- a fault of two steps

abbrev bad : (A : Type 0) → ℕ → Result A WorkFault
bad A n = Err (BadLine n)

abbrev good : (A : Type 0) → A → Result A WorkFault
good A x = Ok x

abbrev bad_in : {A : Type 0} → Result A WorkFault → ℕ
bad_in (Ok x) = 0
bad_in (Err (BadLine n)) = n
bad_in (Err (TooLarge which n)) = 0
bad_in (Err Memory) = 0

same_line : (A : Type 0) (n m : ℕ) → bad A n ≡ bad A m → n ≡ m
same_line A n m e = ap bad_in e

bad_or : (A B : Type 0) (r : Result A WorkFault) (f : A → Result B WorkFault) (n : ℕ) → (r andthen f) ≡ bad B n
    → (r ≡ bad A n) ⊎ ((x : A) × (r ≡ Ok x) × (f x ≡ bad B n))
bad_or A B (Ok x) f n e = inr (x, refl, e)
bad_or A B (Err (BadLine m)) f n e = inl (ap (λ (k : ℕ). bad A k) (same_line B m n e))
bad_or A B (Err (TooLarge which m)) f n e = absurd cc
bad_or A B (Err Memory) f n e = absurd cc

both_ok : {A B : Type 0} (r : Result A WorkFault) (f : A → Result B WorkFault) (y : B) → (r andthen f) ≡ Ok y
    → (x : A) × (r ≡ Ok x) × (f x ≡ Ok y)
both_ok (Ok x) f y e = (x, refl, e)
both_ok (Err fault) f y e = absurd cc

same_good : (A : Type 0) (x y : A) → good A x ≡ good A y → x ≡ y
same_good A x y e = cc

some_same : (A : Type 0) (x y : A) → (let o : Option A = Some x in o) ≡ Some y → x ≡ y
some_same A x y e = cc

-- ---- the head

titled_bad : (b : Bool) (rest : Pieces) (n : ℕ) → cond b (Ok rest) (Err (BadLine 1)) ≡ bad Pieces n
    → (n ≡ 1) × (b ≡ true → ⊥)
titled_bad true rest n e = absurd cc
titled_bad false rest n e = (sym (same_line Pieces 1 n e), λ t. cc)

title_bad : (lines : Pieces) (n : ℕ) → title_of lines ≡ bad Pieces n
    → (n ≡ 1) × ((line : List ℕ) → first_whole lines ≡ Some line → IsHead Title line → ⊥)
title_bad [] n e = (sym (same_line Pieces 1 n e), λ line f h. cc)
title_bad (last ∷ []) n e = (sym (same_line Pieces 1 n e), λ line f h. cc)
title_bad (first ∷ next ∷ more) n e =
    let t = titled_bad (bytes_eq first (codes "far 1")) (next ∷ more) n e in
    (t.0, λ line f h. let same : first ≡ line = cc in t.1 (ap (λ (l : List ℕ). bytes_eq l (codes "far 1")) same ∙ h))

titled_ok : (b : Bool) (lines rest : Pieces) → cond b (Ok lines) (Err (BadLine 1)) ≡ good Pieces rest → rest ≡ lines
titled_ok true lines rest e = cc
titled_ok false lines rest e = absurd cc

title_ok : (lines rest : Pieces) → title_of lines ≡ Ok rest → rest ≡ drop 1 lines
title_ok [] rest e = absurd cc
title_ok (last ∷ []) rest e = absurd cc
title_ok (first ∷ next ∷ more) rest e = titled_ok (bytes_eq first (codes "far 1")) (next ∷ more) rest e

abbrev LeastOf : ℕ → Option ℕ → Type 0
LeastOf least read = Has read (λ v. least ≤ v)

sized_bad : (k least most : ℕ) (which : Limit) (rest : Pieces) (read : Option ℕ) (n : ℕ)
    → (sized_by k least most which read andthen λ v. Ok (v, rest)) ≡ bad (ℕ × Pieces) n
    → (n ≡ k) × (LeastOf least read → ⊥)
sized_bad k least most which rest None n e = (sym (same_line (ℕ × Pieces) k n e), λ h. h)
sized_bad k least most which rest (Some v) n e = go (nat_lt v least) (nat_lt most v) refl e
  where
    go : (a b : Bool) → nat_lt v least ≡ a
        → (cond a (Err (BadLine k)) (cond b (Err (TooLarge which k)) (Ok v)) andthen λ v. Ok (v, rest)) ≡ bad (ℕ ×
        Pieces) n → (n ≡ k) × (least ≤ v → ⊥)
    go true b t f = (
      sym (same_line (ℕ × Pieces) k n f),
      λ h. let lt
          : v < least = grind (arith, nat_tests) in omega (arith, h, lt),
    )
    go false true t f = absurd cc
    go false false t f = absurd cc

size_bad : (k : ℕ) (name : List ℕ) (least most : ℕ) (which : Limit) (lines : Pieces) (n : ℕ)
    → size_of k name least most which lines ≡ bad (ℕ × Pieces) n
    → (n ≡ k + 1) × ((line : List ℕ) → first_whole lines ≡ Some line → LeastOf least (named name line) → ⊥)
size_bad k name least most which [] n e = (sym (same_line (ℕ × Pieces) (k + 1) n e), λ line f h. cc)
size_bad k name least most which (last ∷ []) n e = (sym (same_line (ℕ × Pieces) (k + 1) n e), λ line f h. cc)
size_bad k name least most which (first ∷ next ∷ more) n e =
    let t = sized_bad (k + 1) least most which (next ∷ more) (named name first) n e in (
      t.0,
      λ line f h. let same : first ≡ line =
          cc in t.1 (subst (λ (l : List ℕ). LeastOf least (named name l)) (sym same) h),
    )

sized_ok : (k least most : ℕ) (which : Limit) (lines rest : Pieces) (read : Option ℕ) (v : ℕ)
    → (sized_by k least most which read andthen λ v. Ok (v, lines)) ≡ good (ℕ × Pieces) (v, rest)
    → (read ≡ Some v) × (rest ≡ lines)
sized_ok k least most which lines rest None v e = absurd cc
sized_ok k least most which lines rest (Some x) v e = go (nat_lt x least) (nat_lt most x) e
  where
    go : (a b : Bool) → (cond a (Err (BadLine k)) (cond b (Err (TooLarge which k)) (Ok x)) andthen λ v. Ok (
      v,
      lines,
    )) ≡ good (ℕ × Pieces) (v, rest) → (Some x ≡ Some v) × (rest ≡ lines)
    go true b f = absurd cc
    go false true f = absurd cc
    go false false f =
        let same : (x, lines) ≡ (v, rest) = same_good (ℕ × Pieces) (x, lines) (v, rest) f in
        (ap (λ (p : ℕ × Pieces). Some p.0) same, sym (ap (λ (p : ℕ × Pieces). p.1) same))

size_ok : (k : ℕ) (name : List ℕ) (least most : ℕ) (which : Limit) (lines : Pieces) (x : ℕ × Pieces)
    → size_of k name least most which lines ≡ Ok x
    → (x.1 ≡ drop 1 lines) × ((first_whole lines >>= named name) ≡ Some x.0)
size_ok k name least most which [] x e = absurd cc
size_ok k name least most which (last ∷ []) x e = absurd cc
size_ok k name least most which (first ∷ next ∷ more) x e =
    let t = sized_ok (k + 1) least most which (next ∷ more) x.1 (named name first) x.0 e in
    (t.1, t.0)

-- line n is a line of the head and is not what it is to be
record IsBadHead (lines : Pieces) (n : ℕ) : Type 0 where
  head : HeadLine
  at : head_at n ≡ Some head
  fails : (line : List ℕ) → first_whole (drop (n - 1) lines) ≡ Some line → IsHead head line → ⊥

record IsGoodHead (lines : Pieces) (config : Config) (rest : Pieces) : Type 0 where
  rest_is : rest ≡ drop 5 lines
  clients : (first_whole (drop 1 lines) >>= named (codes "clients ")) ≡ Some config.clients

further : (i : ℕ) (lines r s : Pieces) → r ≡ drop i lines → s ≡ drop 1 r → s ≡ drop (i + 1) lines
further i lines r s a b = b ∙ ap (drop 1) a ∙ drop-drop 1 i lines

bad_size : (k : ℕ) (head : HeadLine) (name : List ℕ) (least most : ℕ) (which : Limit) (lines r : Pieces) (n : ℕ)
    → r ≡ drop k lines → head_at (k + 1) ≡ Some head
    → ((line : List ℕ) → IsHead head line → LeastOf least (named name line))
    → size_of k name least most which r ≡ bad (ℕ × Pieces) n → IsBadHead lines n
bad_size k head name least most which lines r n a h is e =
    let t = size_bad k name least most which r n e in
    let before : n - 1 ≡ k = omega (arith, t.0) in
    record {
      head = head;
      at = ap head_at t.0 ∙ h;
      fails = λ line f i. t.1 line (ap first_whole (a ∙ ap (λ (j : ℕ). drop j lines) (sym before)) ∙ f) (is line i);
    }

bad_title : (lines : Pieces) (n : ℕ) → title_of lines ≡ bad Pieces n → IsBadHead lines n
bad_title lines n e =
    let t = title_bad lines n e in
    let before : n - 1 ≡ 0 = omega (arith, t.0) in
    record {
      head = Title;
      at = ap head_at t.0;
      fails = λ line f i. t.1 line (ap (λ (j : ℕ). first_whole (drop j lines)) (sym before) ∙ f) i;
    }

abbrev hot_of : ℕ → ℕ → ℕ → Pieces → Result (Config × Pieces) WorkFault
hot_of clients servers slots rest =
    size_of 4 (codes "hot ") 0 HOT_LIMIT MostHot rest andthen λ d. Ok (
      record {
        clients = clients;
        servers = servers;
        slots = slots;
        hot = d.0;
      },
      d.1,
    )

abbrev slots_of : ℕ → ℕ → Pieces → Result (Config × Pieces) WorkFault
slots_of clients servers rest = size_of 3 (codes "slots ") 1 SLOT_LIMIT MostSlots rest andthen λ c. hot_of clients
    servers c.0 c.1

abbrev servers_of : ℕ → Pieces → Result (Config × Pieces) WorkFault
servers_of clients rest = size_of 2 (codes "servers ") 1 SERVER_LIMIT MostServers rest andthen λ b. slots_of clients
    b.0 b.1

abbrev sizes_of : Pieces → Result (Config × Pieces) WorkFault
sizes_of rest = size_of 1 (codes "clients ") 1 CLIENT_LIMIT MostClients rest andthen λ a. servers_of a.0 a.1

hot_bad : (lines r : Pieces) (n clients servers slots : ℕ) → r ≡ drop 4 lines
    → hot_of clients servers slots r ≡ bad (Config × Pieces) n → IsBadHead lines n
hot_bad lines r n clients servers slots a e =
    elim (bad_or (ℕ × Pieces) (Config × Pieces) (size_of 4 (codes "hot ") 0 HOT_LIMIT MostHot r) (λ d. Ok (
      record {
        clients = clients;
        servers = servers;
        slots = slots;
        hot = d.0;
      },
      d.1,
    )) n e) [
      | inl t ↦ bad_size 4 Hot (codes "hot ") 0 HOT_LIMIT MostHot lines r n a refl (λ line i. i) t
      | inr t ↦ absurd cc
    ]

slots_bad : (lines r : Pieces) (n clients servers : ℕ) → r ≡ drop 3 lines
    → slots_of clients servers r ≡ bad (Config × Pieces) n → IsBadHead lines n
slots_bad lines r n clients servers a e =
    elim (bad_or (ℕ × Pieces) (Config × Pieces) (size_of 3 (codes "slots ") 1 SLOT_LIMIT MostSlots r) (λ c. hot_of
    clients servers c.0 c.1) n e) [
      | inl t ↦ bad_size 3 Slots (codes "slots ") 1 SLOT_LIMIT MostSlots lines r n a refl (λ line i. i) t
      | inr t ↦ hot_bad lines t.0.1 n clients servers t.0.0 (further 3 lines r t.0.1 a (size_ok 3 (codes "slots ") 1
          SLOT_LIMIT MostSlots r t.0 t.1).0) t.2
    ]

servers_bad : (lines r : Pieces) (n clients : ℕ) → r ≡ drop 2 lines → servers_of clients r ≡ bad (Config × Pieces) n
    → IsBadHead lines n
servers_bad lines r n clients a e =
    elim (bad_or (ℕ × Pieces) (Config × Pieces) (size_of 2 (codes "servers ") 1 SERVER_LIMIT MostServers r) (λ b.
    slots_of clients b.0 b.1) n e) [
      | inl t ↦ bad_size 2 Servers (codes "servers ") 1 SERVER_LIMIT MostServers lines r n a refl (λ line i. i) t
      | inr t ↦ slots_bad lines t.0.1 n clients t.0.0 (further 2 lines r t.0.1 a (size_ok 2 (codes "servers ") 1
          SERVER_LIMIT MostServers r t.0 t.1).0) t.2
    ]

sizes_bad : (lines r : Pieces) (n : ℕ) → r ≡ drop 1 lines → sizes_of r ≡ bad (Config × Pieces) n → IsBadHead lines n
sizes_bad lines r n a e =
    elim (bad_or (ℕ × Pieces) (Config × Pieces) (size_of 1 (codes "clients ") 1 CLIENT_LIMIT MostClients r) (λ x.
    servers_of x.0 x.1) n e) [
      | inl t ↦ bad_size 1 Clients (codes "clients ") 1 CLIENT_LIMIT MostClients lines r n a refl (λ line i. i) t
      | inr t ↦ servers_bad lines t.0.1 n t.0.0 (further 1 lines r t.0.1 a (size_ok 1 (codes "clients ") 1
          CLIENT_LIMIT MostClients r t.0 t.1).0) t.2
    ]

head_bad : (lines : Pieces) (n : ℕ) → head_of lines ≡ bad (Config × Pieces) n → IsBadHead lines n
unfolding head_of
head_bad lines n e =
    elim (bad_or Pieces (Config × Pieces) (title_of lines) sizes_of n e) [
      | inl t ↦ bad_title lines n t
      | inr t ↦ sizes_bad lines t.0 n (title_ok lines t.0 t.1) t.2
    ]

head_good : (lines : Pieces) (x : Config × Pieces) → head_of lines ≡ Ok x → IsGoodHead lines x.0 x.1
unfolding head_of
head_good lines x e =
    let t = both_ok (title_of lines) sizes_of x e in
    let a = both_ok (size_of 1 (codes "clients ") 1 CLIENT_LIMIT MostClients t.0) (λ x. servers_of x.0 x.1) x t.2 in
    let b = both_ok (size_of 2 (codes "servers ") 1 SERVER_LIMIT MostServers a.0.1) (λ x. slots_of a.0.0 x.0 x.1) x
    a.2 in
    let c = both_ok (size_of 3 (codes "slots ") 1 SLOT_LIMIT MostSlots b.0.1) (λ x. hot_of a.0.0 b.0.0 x.0 x.1) x b.2 in
    let d = both_ok (size_of 4 (codes "hot ") 0 HOT_LIMIT MostHot c.0.1) (λ d. Ok (
      record {
        clients = a.0.0;
        servers
            = b.0.0;
        slots = c.0.0;
        hot = d.0;
      },
      d.1,
    )) x c.2 in
    let r1 = title_ok lines t.0 t.1 in
    let s1 = size_ok 1 (codes "clients ") 1 CLIENT_LIMIT MostClients t.0 a.0 a.1 in
    let r2 = further 1 lines t.0 a.0.1 r1 s1.0 in
    let r3 = further 2 lines a.0.1 b.0.1 r2 (size_ok 2 (codes "servers ") 1 SERVER_LIMIT MostServers a.0.1 b.0 b.1).0 in
    let r4 = further 3 lines b.0.1 c.0.1 r3 (size_ok 3 (codes "slots ") 1 SLOT_LIMIT MostSlots b.0.1 c.0 c.1).0 in
    let r5 = further 4 lines c.0.1 d.0.1 r4 (size_ok 4 (codes "hot ") 0 HOT_LIMIT MostHot c.0.1 d.0 d.1).0 in
    let config : Config = record { clients = a.0.0; servers = b.0.0; slots = c.0.0; hot = d.0.0 } in
    let whole : (config, d.0.1) ≡ x = same_good (Config × Pieces) (config, d.0.1) x d.2 in
    record {
      rest_is = sym (ap (λ (p : Config × Pieces). p.1) whole) ∙ r5;
      clients = ap (λ (l : Pieces). first_whole l >>= named (codes "clients ")) (sym r1) ∙ s1.1
          ∙ ap (λ (p : Config × Pieces). Some p.0.clients) whole;
    }

-- ---- the lines behind it

-- where the first start number stands, as far as the lines were read
abbrev Starts : Option ℕ → ℕ → Option ℕ → Pieces → Type 0
Starts start n None lines = start ≡ start_behind n lines
Starts start n (Some s) lines = (j : ℕ) × (start ≡ Some j) × (j ≤ n)

-- line n has no fault
record IsWell (clients : ℕ) (start : Option ℕ) (n : ℕ) (line : List ℕ) : Type 0 where
  form : HasForm line
  client : (c : ℕ) → client_of line ≡ Some c → c < clients
  start_is : (j : ℕ) → is_start line ≡ true → start ≡ Some j → n ≤ j

op_bad : (k m : ℕ) (w : WorkView) (l : OpLine) (a b c : Bool) → nat_lt l.client w.plan.config.clients ≡ a
    → cond a (cond b (cond c (Ok (with_op w l)) (Err (TooLarge Ops k))) (Err (TooLarge Body k))) (Err (BadLine k)) ≡
    bad WorkView m → (m ≡ k) × (l.client < w.plan.config.clients → ⊥)
op_bad k m w l false b c t e = (
  sym (same_line WorkView k m e),
  λ lt. let le
      : w.plan.config.clients ≤ l.client = grind (arith, nat_tests) in omega (arith, lt, le),
)
op_bad k m w l true true true t e = absurd cc
op_bad k m w l true true false t e = absurd cc
op_bad k m w l true false c t e = absurd cc

order_fine : (k m : ℕ) (w v : WorkView) (o : Option Limit) → unless k o v ≡ bad WorkView m → ⊥
order_fine k m w v None e = cc
order_fine k m w v (Some which) e = cc

picks_fine : (k m : ℕ) (v : WorkView) (b : Bool) → cond b (Ok v) (Err (TooLarge Picks k)) ≡ bad WorkView m → ⊥
picks_fine k m v true e = cc
picks_fine k m v false e = cc

random_bad : (k m : ℕ) (w : WorkView) (s : ℕ) (o : Option ℕ) → random_by k w s o ≡ bad WorkView m
    → (m ≡ k) × (o ≡ None → ⊥)
random_bad k m w s None e = absurd cc
random_bad k m w s (Some other) e = (sym (same_line WorkView k m e), λ h. cc)

-- what was read before holds the first start number, where one was read
started : (start : Option ℕ) (n : ℕ) (o : Option ℕ) (lines : Pieces) → Starts start n o lines → (o ≡ None → ⊥)
    → (j : ℕ) × (start ≡ Some j) × (j ≤ n)
started start n None lines h some = absurd (some refl)
started start n (Some s) lines h some = h

step_bad : (n m : ℕ) (w : WorkView) (line : List ℕ) (start : Option ℕ) (lines : Pieces) (f : Option Form)
    → form_of line ≡ f → Starts start n w.random lines
    → step_by (n + 1) w f ≡ bad WorkView m → (m ≡ n + 1) × (IsWell w.plan.config.clients start (n + 1) line → ⊥)
step_bad n m w line start lines None h s e = (sym (same_line WorkView (n + 1) m e), λ well. has_form line well.form h)
step_bad n m w line start lines (Some (OfOp l)) h s e =
    let t = op_bad (n + 1) m w l (nat_lt l.client w.plan.config.clients) (nat_le (length_of l.body) BODY_LIMIT)
    (nat_lt (length w.plan.ops) OP_LIMIT) refl e in
    (t.0, λ well. t.1 (well.client l.client (client_is line l h)))
step_bad n m w line start lines (Some (OfOrder order)) h s e =
    absurd (order_fine (n + 1) m w (with_order w order) (passed w.plan.orders order) e)
step_bad n m w line start lines (Some (OfPicks picks)) h s e =
    absurd (picks_fine (n + 1) m (with_picks w picks) (nat_le (length w.picks + length picks) PICK_LIMIT) e)
step_bad n m w line start lines (Some (OfRandom x)) h s e =
    let t = random_bad (n + 1) m w x w.random e in
    let j = started start n w.random lines s t.1 in
    (t.0, λ well. let le : n + 1 ≤ j.0 = well.start_is j.0 (is_start_line line x h) j.1 in omega (arith, le, j.2))

-- a line that gives no start number
starts_on : (start : Option ℕ) (n : ℕ) (o : Option ℕ) (line next : List ℕ) (more : Pieces)
    → Starts start n o (line ∷ next ∷ more) → is_start line ≡ false → Starts start (n + 1) o (next ∷ more)
starts_on start n None line next more h e = h
    ∙ ap (λ (b : Bool). cond b (Some (n + 1)) (start_behind (n + 1) (next ∷ more))) e
starts_on start n (Some s) line next more h e = (h.0, h.1, omega (arith, h.2))

-- a line that gives the first one
starts_here : (start : Option ℕ) (n : ℕ) (line next : List ℕ) (more : Pieces)
    → start ≡ start_behind n (line ∷ next ∷ more) → is_start line ≡ true → start ≡ Some (n + 1)
starts_here start n line next more h e = h
    ∙ ap (λ (b : Bool). cond b (Some (n + 1)) (start_behind (n + 1) (next ∷ more))) e

abbrev start_of : Option Form → Option ℕ
start_of None = None
start_of (Some (OfOp line)) = None
start_of (Some (OfOrder order)) = None
start_of (Some (OfPicks picks)) = None
start_of (Some (OfRandom start)) = Some start

other_form : (line : List ℕ) (form : Form) → form_of line ≡ Some form → start_of (Some form) ≡ None
    → is_start line ≡ false
other_form line form h none = go (is_start line) refl
  where
    go : (b : Bool) → is_start line ≡ b → b ≡ false
    go true e =
        let g = start_form line e in
        let other : None ≡ Some g.0 = sym none ∙ ap start_of (sym h ∙ g.1) in
        absurd cc
    go false e = refl

op_ok : (k : ℕ) (w read : WorkView) (l : OpLine) (a b c : Bool)
    → cond a (cond b (cond c (Ok (with_op w l)) (Err (TooLarge Ops k))) (Err (TooLarge Body k))) (Err (BadLine k)) ≡
    good WorkView read → with_op w l ≡ read
op_ok k w read l true true true e = same_good WorkView (with_op w l) read e
op_ok k w read l true true false e = absurd cc
op_ok k w read l true false c e = absurd cc
op_ok k w read l false b c e = absurd cc

order_ok : (k : ℕ) (v read : WorkView) (o : Option Limit) → unless k o v ≡ good WorkView read → v ≡ read
order_ok k v read None e = same_good WorkView v read e
order_ok k v read (Some which) e = absurd cc

picks_ok : (k : ℕ) (v read : WorkView) (b : Bool) → cond b (Ok v) (Err (TooLarge Picks k)) ≡ good WorkView read
    → v ≡ read
picks_ok k v read true e = same_good WorkView v read e
picks_ok k v read false e = absurd cc

random_ok : (k : ℕ) (w read : WorkView) (s : ℕ) (o : Option ℕ) → random_by k w s o ≡ good WorkView read
    → (with_random w s ≡ read) × (o ≡ None)
random_ok k w read s None e = (same_good WorkView (with_random w s) read e, refl)
random_ok k w read s (Some other) e = absurd cc

-- a line that was read leaves the number of clients, and the place of the first start number
record IsNext (start : Option ℕ) (n : ℕ) (w read : WorkView) (lines : Pieces) : Type 0 where
  clients : w.plan.config.clients ≡ read.plan.config.clients
  starts : Starts start (n + 1) read.random lines

next_is : (start : Option ℕ) (n : ℕ) (w v read : WorkView) (line next : List ℕ) (more : Pieces) → v ≡ read
    → w.plan.config.clients ≡ v.plan.config.clients → Starts start (n + 1) v.random (next ∷ more)
    → IsNext start n w read (next ∷ more)
next_is start n w v read line next more same clients starts =
    subst (λ (x : WorkView). IsNext start n w x (next ∷ more)) same (record { clients = clients; starts = starts })

unstarted : (start : Option ℕ) (n : ℕ) (o : Option ℕ) (lines : Pieces) → Starts start n o lines → o ≡ None
    → start ≡ start_behind n lines
unstarted start n None lines h e = h
unstarted start n (Some s) lines h e = absurd cc

step_ok : (n : ℕ) (w read : WorkView) (line next : List ℕ) (more : Pieces) (start : Option ℕ) (f : Option Form)
    → form_of line ≡ f → Starts start n w.random (line ∷ next ∷ more)
    → step_by (n + 1) w f ≡ good WorkView read → IsNext start n w read (next ∷ more)
step_ok n w read line next more start None h s e = absurd cc
step_ok n w read line next more start (Some (OfOp l)) h s e =
    let same = op_ok (n + 1) w read l (nat_lt l.client w.plan.config.clients) (nat_le (length_of l.body) BODY_LIMIT)
    (nat_lt (length w.plan.ops) OP_LIMIT) e in
    next_is start n w (with_op w l) read line next more same refl (starts_on start n w.random line next more s
    (other_form line (OfOp l) h refl))
step_ok n w read line next more start (Some (OfOrder order)) h s e =
    let same = order_ok (n + 1) (with_order w order) read (passed w.plan.orders order) e in
    next_is start n w (with_order w order) read line next more same refl (starts_on start n w.random line next more s
    (other_form line (OfOrder order) h refl))
step_ok n w read line next more start (Some (OfPicks picks)) h s e =
    let same = picks_ok (n + 1) (with_picks w picks) read (nat_le (length w.picks + length picks) PICK_LIMIT) e in
    next_is start n w (with_picks w picks) read line next more same refl (starts_on start n w.random line next more s
    (other_form line (OfPicks picks) h refl))
step_ok n w read line next more start (Some (OfRandom x)) h s e =
    let t = random_ok (n + 1) w read x w.random e in
    let here = starts_here start n line next more (unstarted start n w.random (line ∷ next ∷ more) s t.1)
    (is_start_line line x h) in
    next_is start n w (with_random w x) read line next more t.0 refl (n + 1, here, omega arith)

-- behind n lines, a line is refused as line m
record IsStop (clients : ℕ) (start : Option ℕ) (n m : ℕ) (lines : Pieces) : Type 0 where
  behind : ℕ
  at : m ≡ n + behind + 1
  fails : (line : List ℕ) → first_whole (drop behind lines) ≡ Some line → IsWell clients start m line → ⊥

at_bad : (n m : ℕ) (w : WorkView) (clients : ℕ) (start : Option ℕ) (last : List ℕ) → at_end n w last ≡ bad WorkView m
    → IsStop clients start n m (last ∷ [])
at_bad n m w clients start [] e = absurd cc
at_bad n m w clients start (b ∷ bs) e =
    let same = same_line WorkView (n + 1) m e in
    record { behind = 0; at = omega (arith, same); fails = λ line f well. cc }

one_more : (clients : ℕ) (start : Option ℕ) (n m : ℕ) (line : List ℕ) (lines : Pieces)
    → IsStop clients start (n + 1) m lines → IsStop clients start n m (line ∷ lines)
one_more clients start n m line lines h =
    record { behind = suc h.behind; at = omega (arith, h.at); fails = λ l f well. h.fails l f well }

here_bad : (clients : ℕ) (start : Option ℕ) (n m : ℕ) (line next : List ℕ) (more : Pieces) → m ≡ n + 1
    → (IsWell clients start (n + 1) line → ⊥) → IsStop clients start n m (line ∷ next ∷ more)
here_bad clients start n m line next more at h =
    record {
      behind = 0;
      at = omega (arith, at);
      fails = λ l f well.
          let same : line ≡ l = cc in
          h (subst (λ (x : List ℕ). IsWell clients start (n + 1) x) (sym same) (subst (λ (k : ℕ). IsWell clients
          start k l) at well));
    }

body_bad : (n m : ℕ) (w : WorkView) (lines : Pieces) (start : Option ℕ) → Starts start n w.random lines
    → body_from n w lines ≡ bad WorkView m → IsStop w.plan.config.clients start n m lines
unfolding body_from
body_bad n m w [] start s e = absurd cc
body_bad n m w (last ∷ []) start s e = at_bad n m w w.plan.config.clients start last e
body_bad n m w (line ∷ next ∷ more) start s e =
    elim (bad_or WorkView WorkView (line_step (n + 1) w line) (λ read. body_from (n + 1) read (next ∷ more)) m e) [
      | inl t ↦
          let f = step_bad n m w line start (line ∷ next ∷ more) (form_of line) refl s t in
          here_bad w.plan.config.clients start n m line next more f.0 f.1
      | inr t ↦
          let g = step_ok n w t.0 line next more start (form_of line) refl s t.1 in
          let h = body_bad (n + 1) m t.0 (next ∷ more) start g.starts t.2 in
          one_more w.plan.config.clients start n m line (next ∷ more) (subst (λ (c : ℕ). IsStop c start (n + 1) m
          (next ∷ more)) (sym g.clients) h)
    ]

-- ---- the text

-- a line that is refused is counted from 1, and something is wrong with it where it is whole
pub record IsRefused (text : List ℕ) (n : ℕ) : Type 0 where
  pub counted : 1 ≤ n
  pub head : (h : HeadLine) (line : List ℕ) → head_at n ≡ Some h → line_of text n ≡ Some line → IsHead h line → ⊥
  pub order : (line : List ℕ) → head_at n ≡ None → line_of text n ≡ Some line → IsFine text n line → ⊥

some_head : (n : ℕ) (h : HeadLine) → head_at n ≡ Some h → 1 ≤ n
some_head zero h e = absurd cc
some_head (suc n) h e = omega arith

no_head : (k : ℕ) → head_at (suc (suc (suc (suc (suc (suc k)))))) ≡ None
no_head k =
    let a : nat_eq (suc (suc (suc (suc (suc (suc k)))))) 1 ≡ false = grind (arith, nat_tests) in
    let b : nat_eq (suc (suc (suc (suc (suc (suc k)))))) 2 ≡ false = grind (arith, nat_tests) in
    let c : nat_eq (suc (suc (suc (suc (suc (suc k)))))) 3 ≡ false = grind (arith, nat_tests) in
    let d : nat_eq (suc (suc (suc (suc (suc (suc k)))))) 4 ≡ false = grind (arith, nat_tests) in
    let e : nat_eq (suc (suc (suc (suc (suc (suc k)))))) 5 ≡ false = grind (arith, nat_tests) in
    rw (a, b, c, d, e) refl

in_head : (text : List ℕ) (n : ℕ) → IsBadHead (pieces 10 text) n → IsRefused text n
in_head text n h =
    record {
      counted = some_head n h.head h.at;
      head = λ other line e f i.
          let same : other ≡ h.head = some_same HeadLine other h.head (sym e ∙ h.at) in
          h.fails line f (subst (λ (x : HeadLine). IsHead x line) same i);
      order = λ line e f i. let other : None ≡ Some h.head = sym e ∙ h.at in cc;
    }

behind_head : (text : List ℕ) (n : ℕ) (clients : ℕ) (rest : Pieces) → rest ≡ drop 5 (pieces 10 text)
    → clients_of text ≡ Some clients → IsStop clients (first_start text) 5 n rest → IsRefused text n
behind_head text n clients rest at there h =
    let six : n ≡ suc (suc (suc (suc (suc (suc h.behind))))) = omega (arith, h.at) in
    let none : head_at n ≡ None = ap head_at six ∙ no_head h.behind in
    let before : 5 + h.behind ≡ n - 1 = omega (arith, h.at) in
    let left : drop h.behind rest ≡ drop (n - 1) (pieces 10 text) = ap (drop h.behind) at
    ∙ drop-drop h.behind 5 (pieces 10 text) ∙ ap (λ (k : ℕ). drop k (pieces 10 text)) before in
    record {
      counted = omega (arith, h.at);
      head = λ other line e f i. let wrong : None ≡ Some other = sym none ∙ e in cc;
      order = λ line e f fine.
          h.fails line (ap first_whole left ∙ f) (record {
            form = fine.form;
            client = λ c g. fine.client c clients g there;
            start_is = λ j g k. fine.start j g k;
          });
    }

pub refused : (text : List ℕ) (n : ℕ) → reading text ≡ Err (BadLine n) → IsRefused text n
unfolding reading
refused text n e =
    elim (bad_or (Config × Pieces) WorkView (head_of (pieces 10 text)) (λ head. body_from 5 (empty_work head.0)
    head.1) n e) [
      | inl t ↦ in_head text n (head_bad (pieces 10 text) n t)
      | inr t ↦
          let g = head_good (pieces 10 text) t.0 t.1 in
          let starts : first_start text ≡ start_behind 5 t.0.1 = ap (start_behind 5) (sym g.rest_is) in
          behind_head text n t.0.0.clients t.0.1 g.rest_is g.clients (body_bad 5 n (empty_work t.0.0) t.0.1
          (first_start text) starts t.2)
    ]

-- what finds nothing only in a line with nothing wrong finds something here
pub is_told : (A : Type 0) (found : Option A) (text : List ℕ) (n : ℕ) (line : List ℕ) → IsRefused text n
    → line_of text n ≡ Some line
    → (found ≡ None → (h : HeadLine) → head_at n ≡ Some h → IsHead h line)
    → (found ≡ None → head_at n ≡ None → IsFine text n line) → is_some found ≡ true
is_told A (Some x) text n line r there head order = refl
is_told A None text n line r there head order = absurd (go (head_at n) refl)
  where
    go : (o : Option HeadLine) → head_at n ≡ o → ⊥
    go (Some h) e = r.head h line e there (head refl h e)
    go None e = r.order line e there (order refl e)

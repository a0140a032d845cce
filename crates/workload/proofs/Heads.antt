-- The first five lines, one after the other.
use Rattle.std.proofs.Common.{◌≡◌, ℕ, ◌+◌, refl}
use Rattle.std.specs.Prelude.{Ok, codes}
use Rattle.far_base.specs.declared.plan.TheConstants.{CLIENT_LIMIT, SERVER_LIMIT, SLOT_LIMIT, HOT_LIMIT}
use Rattle.far_text.specs.Pieces.{Pieces}
use Rattle.workload.specs.Outcome.{◌andthen◌, Fails}
use Rattle.workload.specs.Reading.{title_of, size_of, head_of}
use Rattle.workload.specs.declared.fault.Limit.TheVariants.{Clients, Servers, Slots, Hot}
use Rattle.workload.specs.declared.fault.WorkFault.{WorkFault}
use Rattle.workload.proofs.Joined.{fails_on}

pub no_slots : (lines r1 r2 r3 : Pieces) (n1 n2 n3 clients servers : ℕ) (fault : WorkFault) → title_of lines ≡ Ok r1 → n1 ≡ 1
    → size_of n1 (codes "clients ") 1 CLIENT_LIMIT Clients r1 ≡ Ok (clients, r2) → n2 ≡ n1 + 1
    → size_of n2 (codes "servers ") 1 SERVER_LIMIT Servers r2 ≡ Ok (servers, r3) → n3 ≡ n2 + 1
    → Fails fault (size_of n3 (codes "slots ") 1 SLOT_LIMIT Slots r3) → Fails fault (head_of lines)
unfolding head_of
no_slots lines r1 r2 r3 n1 n2 n3 clients servers fault a p b q c r d =
    let b1 = rw p at b in
    let c1 = rw (q, p) at c in
    let d1 = rw (r, q, p) at d in
    rw (a, b1, c1) (fails_on fault (size_of 3 (codes "slots ") 1 SLOT_LIMIT Slots r3) (λ c. size_of 4 (codes "hot ") 0 HOT_LIMIT Hot c.1 andthen λ d. Ok (record { clients = clients; servers = servers; slots = c.0; hot = d.0 }, d.1)) d1)

pub no_hot : (lines r1 r2 r3 r4 : Pieces) (n1 n2 n3 n4 clients servers slots : ℕ) (fault : WorkFault) → title_of lines ≡ Ok r1 → n1 ≡ 1
    → size_of n1 (codes "clients ") 1 CLIENT_LIMIT Clients r1 ≡ Ok (clients, r2) → n2 ≡ n1 + 1
    → size_of n2 (codes "servers ") 1 SERVER_LIMIT Servers r2 ≡ Ok (servers, r3) → n3 ≡ n2 + 1
    → size_of n3 (codes "slots ") 1 SLOT_LIMIT Slots r3 ≡ Ok (slots, r4) → n4 ≡ n3 + 1
    → Fails fault (size_of n4 (codes "hot ") 0 HOT_LIMIT Hot r4) → Fails fault (head_of lines)
unfolding head_of
no_hot lines r1 r2 r3 r4 n1 n2 n3 n4 clients servers slots fault a p b q c r d t e =
    let b1 = rw p at b in
    let c1 = rw (q, p) at c in
    let d1 = rw (r, q, p) at d in
    let e1 = rw (t, r, q, p) at e in
    rw (a, b1, c1, d1) (fails_on fault (size_of 4 (codes "hot ") 0 HOT_LIMIT Hot r4) (λ d. Ok (record { clients = clients; servers = servers; slots = slots; hot = d.0 }, d.1)) e1)

pub head_read : (lines r1 r2 r3 r4 r5 : Pieces) (n1 n2 n3 n4 clients servers slots hot : ℕ) → title_of lines ≡ Ok r1 → n1 ≡ 1
    → size_of n1 (codes "clients ") 1 CLIENT_LIMIT Clients r1 ≡ Ok (clients, r2) → n2 ≡ n1 + 1
    → size_of n2 (codes "servers ") 1 SERVER_LIMIT Servers r2 ≡ Ok (servers, r3) → n3 ≡ n2 + 1
    → size_of n3 (codes "slots ") 1 SLOT_LIMIT Slots r3 ≡ Ok (slots, r4) → n4 ≡ n3 + 1
    → size_of n4 (codes "hot ") 0 HOT_LIMIT Hot r4 ≡ Ok (hot, r5) → head_of lines ≡ Ok (record { clients = clients; servers = servers; slots = slots; hot = hot }, r5)
unfolding head_of
head_read lines r1 r2 r3 r4 r5 n1 n2 n3 n4 clients servers slots hot a p b q c r d t e =
    let b1 = rw p at b in
    let c1 = rw (q, p) at c in
    let d1 = rw (r, q, p) at d in
    let e1 = rw (t, r, q, p) at e in
    rw (a, b1, c1, d1, e1) refl

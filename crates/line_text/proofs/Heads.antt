-- The first four lines, one after the other, and the lines behind them.
use Rattle.std.proofs.Common.{◌≡◌, ℕ, ◌+◌, refl}
use Rattle.far_base.specs.declared.packet.Packet.{Packet}
use Rattle.far_base.specs.declared.plan.Config.{Config}
use Rattle.std.specs.Prelude.{Ok, codes, List, []}
use Rattle.far_base.specs.declared.plan.TheConstants.{SERVER_LIMIT, SLOT_LIMIT, HOT_LIMIT}
use Rattle.far_text.specs.Pieces.{Pieces, pieces}
use Rattle.workload.specs.Outcome.{◌andthen◌, Fails}
use Rattle.workload.specs.Reading.{size_of}
use Rattle.workload.specs.declared.fault.Limit.TheVariants.{Servers, Slots, Hot}
use Rattle.workload.specs.declared.fault.WorkFault.{WorkFault}
use Rattle.workload.proofs.Joined.{fails_on}
use Rattle.line_text.specs.Reading.{title_of, head_of, packets_from, reading}

pub no_hot : (lines r1 r2 r3 : Pieces) (n1 n2 n3 servers slots : ℕ) (fault : WorkFault) → title_of lines ≡ Ok r1 → n1 ≡ 1
    → size_of n1 (codes "servers ") 1 SERVER_LIMIT Servers r1 ≡ Ok (servers, r2) → n2 ≡ n1 + 1
    → size_of n2 (codes "slots ") 1 SLOT_LIMIT Slots r2 ≡ Ok (slots, r3) → n3 ≡ n2 + 1
    → Fails fault (size_of n3 (codes "hot ") 0 HOT_LIMIT Hot r3) → Fails fault (head_of lines)
unfolding head_of
no_hot lines r1 r2 r3 n1 n2 n3 servers slots fault a p b q c r d =
    let b1 = rw p at b in
    let c1 = rw (q, p) at c in
    let d1 = rw (r, q, p) at d in
    rw (a, b1, c1) (fails_on fault (size_of 3 (codes "hot ") 0 HOT_LIMIT Hot r3) (λ d. Ok (record { clients = 1; servers = servers; slots = slots; hot = d.0 }, d.1)) d1)

pub head_faulty : (text : List ℕ) (fault : WorkFault) → Fails fault (head_of (pieces 10 text)) → Fails fault (reading text)
unfolding reading
head_faulty text fault f = fails_on fault (head_of (pieces 10 text)) (λ head. packets_from 4 [] head.1 andthen λ packets. Ok (record { config = head.0; packets = packets })) f

pub packets_faulty : (text : List ℕ) (config : Config) (rest : Pieces) (n : ℕ) (fault : WorkFault) → head_of (pieces 10 text) ≡ Ok (config, rest) → n ≡ 4
    → Fails fault (packets_from n [] rest) → Fails fault (reading text)
unfolding reading
packets_faulty text config rest n fault e c f =
    let g = rw c at f in
    rw e (fails_on fault (packets_from 4 [] rest) (λ packets. Ok (record { config = config; packets = packets })) g)

pub all_read : (text : List ℕ) (config : Config) (rest : Pieces) (n : ℕ) (packets : List Packet) → head_of (pieces 10 text) ≡ Ok (config, rest) → n ≡ 4
    → packets_from n [] rest ≡ Ok packets → reading text ≡ Ok (record { config = config; packets = packets })
unfolding reading
all_read text config rest n packets e c f =
    let g = rw c at f in
    rw (e, g) refl

pub ruleset part_by_part = (head_faulty, packets_faulty, all_read)

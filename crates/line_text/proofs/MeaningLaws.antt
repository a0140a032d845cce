-- A text reads as a line of packets exactly where it is its text.
use Rattle.std.proofs.Common.{◌≡◌, ℕ, ◌+◌, ◌<◌, ◌≤◌, true, false, cond, List, [], ◌∷◌, ◌++◌, length, refl, sym, ap, subst, ◌∙◌, arith, append_assoc}
use Rattle.std.specs.Prelude.{Option, Some, None, Result, Ok, Err, nat_lt, codes, bytes_eq, IfOk}
use Rattle.std.specs.List.{AllByRecursion}
use Rattle.std.proofs.lemmas.Bool.Decides.{nat_tests}
use Rattle.std.proofs.lemmas.List.{append-nil, length-append}
use Rattle.std.proofs.lemmas.Slice.Eq.{bytes_eq-Decides}
use Rattle.far_base.specs.Limits.{IsConfig}
use Rattle.far_base.specs.declared.packet.Packet.{Packet}
use Rattle.far_base.specs.declared.plan.Config.{Config}
use Rattle.far_base.specs.declared.plan.TheConstants.{OP_LIMIT, SERVER_LIMIT, SLOT_LIMIT, HOT_LIMIT}
use Rattle.far_text.specs.Hex.{hex_of}
use Rattle.far_text.specs.Options.{◌>>=◌}
use Rattle.far_text.specs.Pieces.{Pieces, pieces}
use Rattle.far_text.proofs.Cuts.{some_piece}
use Rattle.far_text.proofs.HexLaws.{hex_is, hex_lacks}
use Rattle.far_text.proofs.Spelling.{some_is, bind_some, pieces_more, pieces_join, joined}
use Rattle.hex.specs.Hex.{encode_lower, IsBytes}
use Rattle.packet_codec.specs.Packets.{packet_of}
use Rattle.packet_codec.specs.Spelling.{spelled, Spells}
use Rattle.packet_codec.specs.declared.fault.BadPacket.{BadPacket}
use Rattle.packet_codec.proofs.SpellingLaws.{packet_found, packet_only}
use Rattle.workload.specs.Outcome.{◌andthen◌, Gives}
use Rattle.workload.specs.Reading.{next_line, size_of}
use Rattle.workload.specs.Spelling.{number_line}
use Rattle.workload.specs.declared.fault.Limit.TheVariants.{Ops, Servers, Slots, Hot}
use Rattle.workload.specs.declared.fault.WorkFault.{WorkFault}
use Rattle.workload.specs.declared.fault.WorkFault.TheVariants.{BadLine, TooLarge, Memory}
use Rattle.workload.proofs.ByLine.{found, same_ok}
use Rattle.workload.proofs.HeadLaws.{size_takes, size_again}
use Rattle.workload.proofs.LineLaws.{bind_ok, line_again, line_takes}
use Rattle.line_text.specs.Meaning.{head_text, packet_text, packets_text, IsSpelled, IsReading, IsReadAs}
use Rattle.line_text.specs.Reading.{LineView, titled, title_of, head_of, ok_of, packet_in, packet_step, packets_from, reading}

-- ---- a packet

ok_is : (r : Result Packet BadPacket) (p : Packet) → ok_of r ≡ Some p → r ≡ Ok p
ok_is (Ok q) p e = ap (λ (x : Packet). Ok x) (some_is q p e)
ok_is (Err fault) p e = absurd cc

packet_takes : (line : List ℕ) (p : Packet) → packet_in line ≡ Some p → (line ≡ packet_text p) × IsSpelled p
packet_takes line p e =
    let a = bind_some (hex_of line) (λ bytes. ok_of (packet_of bytes)) p e in
    let h = hex_is.takes line a.0 a.1 in
    let s = packet_found a.0 p h.1 (ok_is (packet_of a.0) p a.2) in
    (h.0 ∙ ap encode_lower s.same, record { in_range = s.in_range; bytes = subst IsBytes s.same h.1 })

packet_again : (p : Packet) → IsSpelled p → packet_in (packet_text p) ≡ Some p
packet_again p h =
    let s : Spells (spelled p).bytes p = record { same = refl; in_range = h.in_range } in
    ap (λ (o : Option (List ℕ)). o >>= λ bytes. ok_of (packet_of bytes)) (hex_is.again (spelled p).bytes h.bytes) ∙ ap ok_of (packet_only (spelled p).bytes p s)

-- ---- the lines behind the head

record IsTaken (ps : List Packet) (one : Option Packet) (read : List Packet) : Type 0 where
  packet : Packet
  is : one ≡ Some packet
  same : ps ++ packet ∷ [] ≡ read
  room : length ps < OP_LIMIT

taken_by : (n : ℕ) (ps : List Packet) (one : Option Packet) (read : List Packet) → packet_step n ps one ≡ Ok read → IsTaken ps one read
taken_by n ps None read e = absurd cc
taken_by n ps (Some p) read e =
    elim (nat_lt (length ps) OP_LIMIT) as (λ v. nat_lt (length ps) OP_LIMIT ≡ v → cond v (Ok (ps ++ p ∷ [])) (Err (TooLarge Ops n)) ≡ Ok read → IsTaken ps (Some p) read) [
      | true ↦ λ a e. record { packet = p; is = refl; same = same_ok (ps ++ p ∷ []) read e; room = grind (arith, nat_tests) }
      | false ↦ λ a e. absurd cc
    ] refl e

record ArePackets (ps : List Packet) (lines : Pieces) (all : List Packet) : Type 0 where
  more : List Packet
  all_are : all ≡ ps ++ more
  text : joined 10 lines ≡ packets_text more
  whole : AllByRecursion IsSpelled more
  few : length all ≤ OP_LIMIT

no_more : (ps all : List Packet) (lines : Pieces) → length ps ≤ OP_LIMIT → joined 10 lines ≡ [] → found ps ≡ found all → ArePackets ps lines all
no_more ps all lines b t e = record {
  more = [];
  all_are = sym (same_ok ps all e) ∙ sym (append-nil ps);
  text = t;
  whole = tt;
  few = subst (λ (l : List Packet). length l ≤ OP_LIMIT) (same_ok ps all e) b;
}

packets_take : (n : ℕ) (ps all : List Packet) (lines : Pieces) → length ps ≤ OP_LIMIT → packets_from n ps lines ≡ Ok all → ArePackets ps lines all
unfolding packets_from
packets_take n ps all [] b e = no_more ps all [] b refl e
packets_take n ps all ([] ∷ []) b e = no_more ps all ([] ∷ []) b refl e
packets_take n ps all ((c ∷ cs) ∷ []) b e = absurd cc
packets_take n ps all (line ∷ next ∷ more) b e =
    let a = bind_ok (packet_step (n + 1) ps (packet_in line)) (λ read. packets_from (n + 1) read (next ∷ more)) all e in
    let t = taken_by (n + 1) ps (packet_in line) a.0 a.1 in
    let s = packet_takes line t.packet t.is in
    let small : length (ps ++ t.packet ∷ []) ≤ OP_LIMIT = omega (arith, t.room, length-append ps (t.packet ∷ [])) in
    let r = packets_take (n + 1) a.0 all (next ∷ more) (subst (λ (l : List Packet). length l ≤ OP_LIMIT) t.same small) a.2 in
    record {
      more = t.packet ∷ r.more;
      all_are = r.all_are ∙ ap (λ (l : List Packet). l ++ r.more) (sym t.same) ∙ append_assoc ps (t.packet ∷ []) r.more;
      text = ap (λ (l : List ℕ). l ++ 10 ∷ joined 10 (next ∷ more)) s.0 ∙ ap (λ (l : List ℕ). packet_text t.packet ++ 10 ∷ l) r.text;
      whole = (s.1, r.whole);
      few = r.few;
    }

one_step : (n : ℕ) (ps : List Packet) (line rest : List ℕ) → packets_from n ps (line ∷ pieces 10 rest) ≡ (packet_step (n + 1) ps (packet_in line) andthen λ read. packets_from (n + 1) read (pieces 10 rest))
unfolding packets_from
one_step n ps line rest =
    let p = some_piece 10 rest in
    rw p.2 refl

packets_again : (n : ℕ) (ps more : List Packet) → AllByRecursion IsSpelled more → length ps + length more ≤ OP_LIMIT → packets_from n ps (pieces 10 (packets_text more)) ≡ Ok (ps ++ more)
unfolding packets_from
packets_again n ps [] h b = ap (λ (l : List Packet). found l) (sym (append-nil ps))
packets_again n ps (p ∷ more) h b =
    let room : nat_lt (length ps) OP_LIMIT ≡ true = grind (arith, nat_tests, b) in
    let step : packet_step (n + 1) ps (packet_in (packet_text p)) ≡ Ok (ps ++ p ∷ []) = ap (packet_step (n + 1) ps) (packet_again p h.0) ∙ rw room refl in
    let small : length (ps ++ p ∷ []) + length more ≤ OP_LIMIT = omega (arith, b, length-append ps (p ∷ [])) in
    ap (λ (l : Pieces). packets_from n ps l) (pieces_more 10 (packet_text p) (packets_text more) (hex_lacks 10 (spelled p).bytes refl h.0.bytes))
    ∙ one_step n ps (packet_text p) (packets_text more)
    ∙ ap (λ (r : Result (List Packet) WorkFault). r andthen λ read. packets_from (n + 1) read (pieces 10 (packets_text more))) step
    ∙ packets_again (n + 1) (ps ++ p ∷ []) more h.1 small
    ∙ ap (λ (l : List Packet). found l) (append_assoc ps (p ∷ []) more)

-- ---- the head

title_by : (x : List ℕ × Pieces) (lines : Pieces) → titled x ≡ Ok lines → (x.0 ≡ codes "far 1 line") × (x.1 ≡ lines)
title_by x lines e =
    elim (bytes_eq x.0 (codes "far 1 line")) as (λ v. bytes_eq x.0 (codes "far 1 line") ≡ v → cond v (Ok x.1) (Err (BadLine 1)) ≡ Ok lines → (x.0 ≡ codes "far 1 line") × (x.1 ≡ lines)) [
      | true ↦ λ a e. ((bytes_eq-Decides x.0 (codes "far 1 line")).0 a, same_ok x.1 lines e)
      | false ↦ λ a e. absurd cc
    ] refl e

record IsHead (bytes : List ℕ) (config : Config) (lines : Pieces) : Type 0 where
  rest : List ℕ
  whole : bytes ≡ head_text config ++ rest
  behind : lines ≡ pieces 10 rest
  fits : IsConfig config
  clients : config.clients ≡ 1

regroup : (f b c d rest : List ℕ) → f ++ (b ++ (c ++ (d ++ rest))) ≡ (f ++ b ++ c ++ d) ++ rest
regroup f b c d rest = simp append_assoc

abbrev with_hot : ℕ → ℕ → ℕ × Pieces → Result (Config × Pieces) WorkFault
with_hot servers slots d = Ok (record { clients = 1; servers = servers; slots = slots; hot = d.0 }, d.1)

abbrev with_slots : ℕ → ℕ × Pieces → Result (Config × Pieces) WorkFault
with_slots servers c = size_of 3 (codes "hot ") 0 HOT_LIMIT Hot c.1 andthen with_hot servers c.0

abbrev with_servers : ℕ × Pieces → Result (Config × Pieces) WorkFault
with_servers b = size_of 2 (codes "slots ") 1 SLOT_LIMIT Slots b.1 andthen with_slots b.0

abbrev with_title : Pieces → Result (Config × Pieces) WorkFault
with_title rest = size_of 1 (codes "servers ") 1 SERVER_LIMIT Servers rest andthen with_servers

head_takes : (bytes : List ℕ) (x : Config × Pieces) → head_of (pieces 10 bytes) ≡ Ok x → IsHead bytes x.0 x.1
unfolding head_of
head_takes bytes x e =
    let t = bind_ok (title_of (pieces 10 bytes)) with_title x e in
    let u = bind_ok (next_line 0 (pieces 10 bytes)) titled t.0 t.1 in
    let first = line_takes 0 bytes u.0 u.1 in
    let title = title_by u.0 t.0 u.2 in
    let b = bind_ok (size_of 1 (codes "servers ") 1 SERVER_LIMIT Servers t.0) with_servers x t.2 in
    let lb = size_takes 1 (codes "servers ") 1 SERVER_LIMIT Servers first.rest b.0 (ap (λ (l : Pieces). size_of 1 (codes "servers ") 1 SERVER_LIMIT Servers l) (sym (sym title.1 ∙ first.behind)) ∙ b.1) in
    let c = bind_ok (size_of 2 (codes "slots ") 1 SLOT_LIMIT Slots b.0.1) (with_slots b.0.0) x b.2 in
    let lc = size_takes 2 (codes "slots ") 1 SLOT_LIMIT Slots lb.rest c.0 (ap (λ (l : Pieces). size_of 2 (codes "slots ") 1 SLOT_LIMIT Slots l) (sym lb.behind) ∙ c.1) in
    let d = bind_ok (size_of 3 (codes "hot ") 0 HOT_LIMIT Hot c.0.1) (with_hot b.0.0 c.0.0) x c.2 in
    let ld = size_takes 3 (codes "hot ") 0 HOT_LIMIT Hot lc.rest d.0 (ap (λ (l : Pieces). size_of 3 (codes "hot ") 0 HOT_LIMIT Hot l) (sym lc.behind) ∙ d.1) in
    let config : Config = record { clients = 1; servers = b.0.0; slots = c.0.0; hot = d.0.0 } in
    let text : bytes ≡ codes "far 1 line\n" ++ (number_line (codes "servers ") b.0.0 ++ (number_line (codes "slots ") c.0.0 ++ (number_line (codes "hot ") d.0.0 ++ ld.rest))) =
    first.whole ∙ ap (λ (l : List ℕ). l ++ 10 ∷ first.rest) title.0 ∙ ap (λ (l : List ℕ). codes "far 1 line\n" ++ l) (lb.whole ∙ ap (λ (l : List ℕ). number_line (codes "servers ") b.0.0 ++ l) (lc.whole ∙ ap (λ (l : List ℕ). number_line (codes "slots ") c.0.0 ++ l) ld.whole)) in
    let made : IsHead bytes config d.0.1 = record {
      rest = ld.rest;
      whole = text ∙ regroup (codes "far 1 line\n") (number_line (codes "servers ") b.0.0) (number_line (codes "slots ") c.0.0) (number_line (codes "hot ") d.0.0) ld.rest;
      behind = ld.behind;
      fits = record { clients = (omega arith, omega arith); servers = lb.fits; slots = lc.fits; hot = ld.fits.1 };
      clients = refl;
    } in
    subst (λ (y : Config × Pieces). IsHead bytes y.0 y.1) (same_ok (config, d.0.1) x d.2) made

head_again : (config : Config) (rest : List ℕ) → IsConfig config → config.clients ≡ 1 → head_of (pieces 10 (head_text config ++ rest)) ≡ Ok (config, pieces 10 rest)
unfolding head_of
head_again config rest h one =
    let r3 : List ℕ = number_line (codes "hot ") config.hot ++ rest in
    let r2 : List ℕ = number_line (codes "slots ") config.slots ++ r3 in
    let r1 : List ℕ = number_line (codes "servers ") config.servers ++ r2 in
    let hot : (0 ≤ config.hot) × (config.hot ≤ HOT_LIMIT) = (omega arith, h.hot) in
    let title : title_of (pieces 10 (codes "far 1 line" ++ 10 ∷ r1)) ≡ Ok (pieces 10 r1) = ap (λ (r : Result (List ℕ × Pieces) WorkFault). r andthen titled) (line_again 0 (codes "far 1 line") r1 refl) in
    let b = size_again 1 (codes "servers ") 1 SERVER_LIMIT Servers config.servers r2 refl (omega arith) h.servers in
    let c = size_again 2 (codes "slots ") 1 SLOT_LIMIT Slots config.slots r3 refl (omega arith) h.slots in
    let d = size_again 3 (codes "hot ") 0 HOT_LIMIT Hot config.hot rest refl (omega arith) hot in
    ap (λ (t : List ℕ). head_of (pieces 10 t)) (sym (regroup (codes "far 1 line\n") (number_line (codes "servers ") config.servers) (number_line (codes "slots ") config.slots) (number_line (codes "hot ") config.hot) rest))
    ∙ ap (λ (r : Result Pieces WorkFault). r andthen with_title) title
    ∙ ap (λ (r : Result (ℕ × Pieces) WorkFault). r andthen with_servers) b
    ∙ ap (λ (r : Result (ℕ × Pieces) WorkFault). r andthen with_slots config.servers) c
    ∙ ap (λ (r : Result (ℕ × Pieces) WorkFault). r andthen with_hot config.servers config.slots) d
    ∙ ap (λ (k : ℕ). found {A = Config × Pieces} (record { clients = k; servers = config.servers; slots = config.slots; hot = config.hot }, pieces 10 rest)) (sym one)

-- ---- a whole text

abbrev with_packets : Config → List Packet → Result LineView WorkFault
with_packets config packets = Ok (record { config = config; packets = packets })

abbrev with_head : Config × Pieces → Result LineView WorkFault
with_head head = packets_from 4 [] head.1 andthen with_packets head.0

pub reading_takes : (text : List ℕ) (l : LineView) → reading text ≡ Ok l → IsReading text l
unfolding reading
reading_takes text l e =
    let a = bind_ok (head_of (pieces 10 text)) with_head l e in
    let head = head_takes text a.0 a.1 in
    let b = bind_ok (packets_from 4 [] a.0.1) (with_packets a.0.0) l a.2 in
    let r = packets_take 4 [] b.0 a.0.1 (omega arith) b.1 in
    let behind : head.rest ≡ packets_text r.more = sym (pieces_join 10 head.rest) ∙ ap (joined 10) (sym head.behind) ∙ r.text in
    let made : IsReading text (record { config = a.0.0; packets = b.0 }) = record {
      spelled = head.whole ∙ ap (λ (t : List ℕ). head_text a.0.0 ++ t) (behind ∙ ap packets_text (sym r.all_are));
      config = head.fits;
      clients = head.clients;
      packets = subst (AllByRecursion IsSpelled) (sym r.all_are) r.whole;
      few = r.few;
    } in
    subst (IsReading text) (same_ok (record { config = a.0.0; packets = b.0 }) l b.2) made

pub reading_again : (text : List ℕ) (l : LineView) → IsReading text l → reading text ≡ Ok l
unfolding reading
reading_again text l h =
    ap (λ (t : List ℕ). head_of (pieces 10 t) andthen with_head) h.spelled
    ∙ ap (λ (r : Result (Config × Pieces) WorkFault). r andthen with_head) (head_again l.config (packets_text l.packets) h.config h.clients)
    ∙ ap (λ (r : Result (List Packet) WorkFault). r andthen with_packets l.config) (packets_again 4 [] l.packets h.packets (omega (arith, h.few)))

pub is_found : (text : List ℕ) (result : Result LineView WorkFault) → Gives (λ (l : LineView). l) result (reading text) → IfOk result (λ l. IsReading text l)
is_found text (Ok l) e = reading_takes text l e
is_found text (Err fault) e = tt

pub is_only : (text : List ℕ) (result : Result LineView WorkFault) → Gives (λ (l : LineView). l) result (reading text) → (l : LineView) → IsReading text l → IsReadAs result l
is_only text (Ok found) e l h = same_ok found l (sym e ∙ reading_again text l h)
is_only text (Err (BadLine n)) e l h = let k = sym e ∙ reading_again text l h in absurd cc
is_only text (Err (TooLarge which n)) e l h = let k = sym e ∙ reading_again text l h in absurd cc
is_only text (Err Memory) e l h = tt

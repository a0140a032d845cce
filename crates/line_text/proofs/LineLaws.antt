-- Reading packet by packet, as the loop does.
use Rattle.std.proofs.Common.{◌≡◌, ℕ, ◌+◌, ◌≤◌, List, [], ◌∷◌, length, refl, ap, subst, ◌∙◌, arith}
use Rattle.std.specs.Prelude.{Result, Ok}
use Rattle.far_base.specs.declared.packet.Packet.{Packet}
use Rattle.far_text.specs.Pieces.{pieces, Pieces}
use Rattle.workload.specs.Outcome.{◌andthen◌, Fails}
use Rattle.workload.specs.Reading.{next_line}
use Rattle.workload.specs.declared.fault.WorkFault.{WorkFault}
use Rattle.workload.specs.declared.fault.WorkFault.TheVariants.{BadLine, TooLarge, Memory}
use Rattle.workload.proofs.ByLine.{same_ok, carried, is_text, IsText}
use Rattle.workload.proofs.Joined.{fails_on}
use Rattle.line_text.specs.Reading.{packet_in, packet_step, packets_from}

packets_more : (n : ℕ) (ps : List Packet) (lines rest : Pieces) (line : List ℕ) → next_line n lines ≡ Ok (line, rest) → packets_from n ps lines ≡ (packet_step (n + 1) ps (packet_in line) andthen λ read. packets_from (n + 1) read rest)
unfolding packets_from
packets_more n ps [] rest line e = absurd cc
packets_more n ps (first ∷ []) rest line e = absurd cc
packets_more n ps (first ∷ next ∷ more) rest line e =
    let whole : List ℕ × Pieces = (first, next ∷ more) in
    subst (λ (p : List ℕ × Pieces). packets_from n ps (first ∷ next ∷ more) ≡ (packet_step (n + 1) ps (packet_in p.0) andthen λ read. packets_from (n + 1) read p.1)) (same_ok whole (line, rest) e) refl

pub packet_read : (n : ℕ) (ps read : List Packet) (lines rest : Pieces) (line : List ℕ) → next_line n lines ≡ Ok (line, rest) → packet_step (n + 1) ps (packet_in line) ≡ Ok read → packets_from n ps lines ≡ packets_from (n + 1) read rest
packet_read n ps read lines rest line e f = packets_more n ps lines rest line e ∙ ap (λ (r : Result (List Packet) WorkFault). r andthen λ read. packets_from (n + 1) read rest) f

pub packet_fails : (n : ℕ) (ps : List Packet) (lines rest : Pieces) (line : List ℕ) (fault : WorkFault) → next_line n lines ≡ Ok (line, rest) → Fails fault (packet_step (n + 1) ps (packet_in line)) → Fails fault (packets_from n ps lines)
packet_fails n ps lines rest line fault e f = rw (packets_more n ps lines rest line e) (fails_on fault (packet_step (n + 1) ps (packet_in line)) (λ read. packets_from (n + 1) read rest) f)

pub packet_faulty : (all : Result (List Packet) WorkFault) (n m : ℕ) (ps : List Packet) (lines rest : Pieces) (line : List ℕ) (fault : WorkFault) → all ≡ packets_from n ps lines → next_line n lines ≡ Ok (line, rest) → m ≡ n + 1
    → Fails fault (packet_step m ps (packet_in line)) → Fails fault all
packet_faulty all n m ps lines rest line fault r e c f =
    let g = rw c at f in
    rw r (packet_fails n ps lines rest line fault e g)

missing_by : (n : ℕ) (ps : List Packet) (lines : Pieces) (fault : WorkFault) → IsText lines → Fails fault (next_line n lines) → Fails fault (packets_from n ps lines)
unfolding packets_from
missing_by n ps [] fault h f = absurd h
missing_by n ps ([] ∷ []) fault h f = absurd h
missing_by n ps ((b ∷ bs) ∷ []) fault h f = carried (List ℕ × Pieces) (List Packet) (BadLine (n + 1)) fault f
missing_by n ps (line ∷ next ∷ more) (BadLine k) h f = absurd cc
missing_by n ps (line ∷ next ∷ more) (TooLarge which k) h f = absurd cc
missing_by n ps (line ∷ next ∷ more) Memory h f = tt

pub packet_missing : (n : ℕ) (ps : List Packet) (bytes : List ℕ) (fault : WorkFault) → 1 ≤ length bytes → Fails fault (next_line n (pieces 10 bytes)) → Fails fault (packets_from n ps (pieces 10 bytes))
packet_missing n ps [] fault some f = absurd (omega (arith, some))
packet_missing n ps (b ∷ bs) fault some f = missing_by n ps (pieces 10 (b ∷ bs)) fault (is_text b bs) f

pub packets_over : (n : ℕ) (ps : List Packet) (bytes : List ℕ) → length bytes ≡ 0 → packets_from n ps (pieces 10 bytes) ≡ Ok ps
unfolding packets_from
packets_over n ps [] e = refl
packets_over n ps (b ∷ bs) e = absurd cc

pub ruleset line_by_line = (packet_read, packet_fails, packet_missing, packets_over)

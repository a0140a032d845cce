-- A cut at a line end gives the next line.
use Rattle.std.proofs.Common.{◌≡◌, ℕ, ◌+◌, List, refl}
use Rattle.std.specs.Prelude.{Some, None, Ok, Err}
use Rattle.far_text.specs.Pieces.{pieces, cut_at}
use Rattle.far_text.proofs.Cuts.{pieces_cut, some_piece}
use Rattle.workload.specs.Reading.{next_line}
use Rattle.workload.specs.declared.fault.WorkFault.TheVariants.{BadLine}

pub line_next : (n : ℕ) (bytes line rest : List ℕ) → cut_at 10 bytes ≡ Some (line, rest) → next_line n (pieces 10 bytes) ≡ Ok (line, pieces 10 rest)
line_next n bytes line rest e =
    let p = some_piece 10 rest in
    rw (pieces_cut 10 bytes, e, p.2) refl

pub line_missing : (n : ℕ) (bytes : List ℕ) → cut_at 10 bytes ≡ None → next_line n (pieces 10 bytes) ≡ Err (BadLine (n + 1))
line_missing n bytes e = rw (pieces_cut 10 bytes, e) refl

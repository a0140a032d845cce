-- Operations whose bodies stand among the bytes of all bodies.
use Rattle.std.specs.Prelude.{ℕ, ◌+◌, ◌≤◌, nat_le, if◌then◌else◌, List, [], ◌∷◌, length, map, take, drop, is_some}
use Rattle.std.specs.Prelude.{Option, None, Some}
use Rattle.far_base.specs.Padded.{text_of}
use Rattle.far_base.specs.declared.body.TheConstants.{BODY_LIMIT}
use Rattle.far_base.specs.declared.plan.OpLine.{OpLine}
use Rattle.far_base.specs.declared.ops.Short.{Short}

abbrev pub short_body : List ℕ → Option (List ℕ)
short_body text = if nat_le (length text) BODY_LIMIT then Some text else None

-- the body that stands there
abbrev pub body_in : List ℕ → Short → Option (List ℕ)
body_in bytes s = if s.present then short_body (take s.len (drop s.at bytes)) else None

-- the operation with its body
abbrev pub line_in : List ℕ → Short → OpLine
line_in bytes s = record { client = s.client; op = s.op; key = s.key; body = body_in bytes s }

-- the operations with their bodies
abbrev pub lines_in : List ℕ → List Short → List OpLine
lines_in bytes shorts = map (line_in bytes) shorts

-- the operation, with its body put behind so many bytes
abbrev pub short_of : ℕ → OpLine → Short
short_of at line = record {
  client = line.client;
  op = line.op;
  key = line.key;
  present = is_some line.body;
  len = length (text_of line.body);
  at = at;
}

-- each body stands within so many bytes
abbrev pub AreWithin : ℕ → List Short → Type 0
AreWithin n [] = Unit
AreWithin n (s ∷ ss) = (s.at + s.len ≤ n) × AreWithin n ss

-- What the words of a line spell.
use Rattle.std.specs.Prelude.{ℕ, Bool, true, false, ◌&&◌, ◌||◌, not, List, Option, Some, None, nat_eq, nat_le, nat_lt}
use Rattle.std.specs.Prelude.{bytes_eq, if◌then◌else◌, codes}
use Rattle.far_base.specs.Padded.{length_of}
use Rattle.far_base.specs.declared.kept.KeptItem.{KeptItem}
use Rattle.far_base.specs.declared.kept.KeptPlace.{KeptPlace}
use Rattle.far_base.specs.declared.kept.KeptPlace.TheVariants.{Snap, Server, Client}
use Rattle.far_base.specs.declared.plan.TheConstants.{CLIENT_LIMIT}
use Rattle.far_base.specs.declared.record.Record.{Record}
use Rattle.far_text.specs.Numbers.{number_of}
use Rattle.far_text.specs.Options.{◌>>=◌}
use Rattle.far_text.specs.Pieces.{cut_at}
use Rattle.far_text.specs.Words.{key_of, body_of}

abbrev pub is_absent : Option (List ℕ) → Bool
is_absent None = true
is_absent (Some text) = false

-- the body is short enough, and absent where the number is 0
abbrev pub is_fitting : ℕ → Record → Bool
is_fitting limit r = nat_le (length_of r.body) limit && (not (nat_eq r.num 0) || is_absent r.body)

abbrev pub if_fitting : ℕ → Record → Option Record
if_fitting limit r = if is_fitting limit r then Some r else None

-- a key, a number and a body
abbrev pub record_of : ℕ → List ℕ → Option Record
record_of limit words = cut_at 32 words >>= λ a.
    key_of a.0 >>= λ key.
    cut_at 32 a.1 >>= λ b.
    number_of b.0 >>= λ num.
    body_of b.1 >>= λ body.
    if_fitting limit (record { key = key; num = num; body = body })

abbrev pub kept_at : KeptPlace → Record → Option KeptItem
kept_at place r = Some (record { place = place; rec = r })

-- the client that the number names
abbrev pub client_of : ℕ → Option ℕ
client_of n = if nat_lt n CLIENT_LIMIT then Some n else None

abbrev pub client_item_of : ℕ → List ℕ → Option KeptItem
client_item_of limit words = cut_at 32 words >>= λ a.
    number_of a.0 >>= λ n.
    client_of n >>= λ client.
    record_of limit a.1 >>= kept_at (Client client)

-- the item, by the first word and what stands behind it
abbrev pub item_by : ℕ → List ℕ → List ℕ → Option KeptItem
item_by limit word words = if bytes_eq word (codes "snap") then record_of limit words >>= kept_at Snap
    else if bytes_eq word (codes "server") then record_of limit words >>= kept_at (Server 0)
    else if bytes_eq word (codes "client") then client_item_of limit words
    else None

abbrev pub item_of : ℕ → List ℕ → Option KeptItem
item_of limit line = cut_at 32 line >>= λ a. item_by limit a.0 a.1

-- The text of what packets leave of a switch, and of what leaves it.
use Rattle.std.specs.Prelude.{ℕ, ◌+◌, List, [], ◌∷◌, ◌++◌, codes, decimal, Option, None, Some}
use Rattle.far_base.specs.Key.{key_text}
use Rattle.far_base.specs.declared.packet.Out.{Out}
use Rattle.far_base.specs.declared.party.Party.{Party}
use Rattle.far_base.specs.declared.party.Party.TheVariants.{Client, Switch, Server, Controller}
use Rattle.far_base.specs.declared.record.Record.{Record}
use Rattle.far_model.specs.View.{SwitchView, SlotView, held_record}
use Rattle.far_text.specs.Text.{text_line}
use Rattle.hex.specs.Hex.{encode_lower}
use Rattle.packet_codec.specs.Spelling.{spelled}
use Rattle.switch_core.specs.declared.switch.Emit.{Emit}

abbrev pub party_words : Party → List (List ℕ)
party_words (Client client) = codes "client" ∷ decimal client ∷ []
party_words Switch = codes "switch" ∷ []
party_words (Server server) = codes "server" ∷ decimal server ∷ []
party_words Controller = codes "controller" ∷ []

-- a packet that leaves with packet n
abbrev pub out_line : ℕ → Out → List ℕ
out_line n out =
    text_line (codes "out" ∷ decimal n ∷ (party_words out.to ++ encode_lower (spelled out.packet).bytes ∷ []))

abbrev pub out_lines : ℕ → Option Out → List ℕ
out_lines n None = []
out_lines n (Some out) = out_line n out

-- what leaves with the packets, from packet n on
abbrev pub emit_lines : ℕ → List Emit → List ℕ
emit_lines n [] = []
emit_lines n (e ∷ es) = out_lines n e.first ++ out_lines n e.second ++ emit_lines (n + 1) es

abbrev pub body_hex : Option (List ℕ) → List ℕ
body_hex None = 45 ∷ []
body_hex (Some text) = 61 ∷ encode_lower text

abbrev pub view_line : ℕ → Option Record → List ℕ
view_line slot None = []
view_line slot (Some r) = text_line (decimal slot ∷ key_text r.key ∷ decimal r.num ∷ body_hex r.body ∷ [])

-- the records that the slots show, from this slot on
abbrev pub view_lines : ℕ → List SlotView → List ℕ
view_lines slot [] = []
view_lines slot (s ∷ ss) = view_line slot (held_record s) ++ view_lines (slot + 1) ss

abbrev pub one_if : Option Record → ℕ
one_if None = 0
one_if (Some r) = 1

-- how many slots show a record
abbrev pub view_count : List SlotView → ℕ
view_count [] = 0
view_count (s ∷ ss) = one_if (held_record s) + view_count ss

abbrev pub output_text : List Emit → SwitchView → List ℕ
output_text emits v = text_line (codes "far 1 out" ∷ []) ++ emit_lines 1 emits
    ++ text_line (codes "counter" ∷ decimal v.counter ∷ [])
    ++ text_line (codes "views" ∷ decimal (view_count v.slots) ∷ [])
    ++ view_lines 0 v.slots ++ text_line (codes "end" ∷ [])

use Rattle.std.proofs.Common.{◌≡◌, sym, subst, ◌∙◌}
use Rattle.std.specs.Cmp.Lexicographic.{bytes_decides}
use Rattle.packet_codec.specs.Spelling.{Spells}
use Rattle.switch_staged.proofs.same.same_packet.Goals as goal

pub returns : goal.returns
returns c = λ t.
    let e = (bytes_decides _ _).0 (sym c.eq.ensures ∙ t) in
    c.spellings_are_one.ensures.packet c.encode.result c.args.one.now c.args.other.now c.encode.ensures.spelled
    (subst (λ b. Spells b c.args.other.now) (sym (sym c.bytes.ensures.value ∙ e ∙ c.bytes-2.ensures.value)) c.encode-2.ensures.spelled)

use Rattle.std.proofs.Common.{◌≡◌, false, sym, ap, ◌∙◌}
use Rattle.std.specs.BTreeMap.{get}
use Rattle.std.specs.Ordering.{nat_cmp}
use Rattle.std.specs.Cmp.Lexicographic.{slice_cmp}
use Rattle.far_base.specs.declared.record.Versioned.{Versioned}
use Rattle.far_model.specs.History.{with_write}
use Rattle.far_model.specs.Log.{is_read}
use Rattle.log_audit.proofs.Seeing.{write_sets, written}
use Rattle.log_audit.specs.Walk.{held_by}
use Rattle.log_audit.proofs.judging.Seen.note.Goals as goal

pub returns-in-Ok-clause-held : goal.returns-in-Ok-clause-held
returns-in-Ok-clause-held c = λ key.
    let write : is_read c.args.line.now.kind ≡ false = sym c.is_read.ensures ∙ c.if-is_read.false in
    written c.args.line.now.key c.held_of.result (get (slice_cmp nat_cmp) c.args.self.now.held) (get (slice_cmp nat_cmp) c.insert.new.self) c.in-Ok.ensures.updates.0 key
    ∙ ap (λ (v : Versioned). with_write (held_by c.args.self.now.held) c.args.line.now.key v key) c.held_of.ensures
    ∙ write_sets c.args.line.now (held_by c.args.self.now.held) key write

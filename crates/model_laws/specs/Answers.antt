-- A bound on what was answered.
use Rattle.std.specs.Prelude.{◌≡◌, ℕ, ◌≤◌, Bool, true, List, Option}
use Rattle.far_base.specs.declared.log.LogEntry.TheVariants.{Emitted}
use Rattle.far_base.specs.declared.log.LogLine.{LogLine}
use Rattle.far_model.specs.Log.{is_on}
use Rattle.far_model.specs.Members.{Among}

-- each answer that has left the switch up to the moment for an operation on the key has at most this number
abbrev pub AnswersAreAtMost : List LogLine → List ℕ → ℕ → ℕ → Type 0
AnswersAreAtMost log key moment most = (at op num : ℕ) (body : Option (List ℕ)) (near : Bool)
    → Among (record { moment = at; entry = Emitted op num body near }) log → at ≤ moment
    → is_on log key op ≡ true → num ≤ most

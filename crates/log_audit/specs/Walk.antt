-- What a walk over the lines of a history knows of those that it has seen.
use Rattle.std.specs.Prelude.{◌≡◌, ◌≢◌, ◌⊎◌, ℕ, ◌<◌, ◌≤◌, Bool, true, false, ◌||◌, nat_eq, nat_lt, List, [], ◌∷◌, Option, Some, None}
use Rattle.std.specs.Ordering.{nat_cmp}
use Rattle.std.specs.BTreeMap.{BTreeMap, get}
use Rattle.std.specs.BTreeSet.{contains}
use Rattle.std.specs.Cmp.Lexicographic.{slice_cmp}
use Rattle.far_base.specs.declared.record.Versioned.{Versioned}
use Rattle.far_model.specs.History.{nothing}
use Rattle.far_model.specs.Log.{is_read}
use Rattle.far_model.specs.Members.{Among, Each}
use Rattle.log_audit.specs.Good.{IsGood, held_of, map_with}
use Rattle.log_audit.specs.declared.judging.Seen.{Seen}
use Rattle.log_audit.specs.declared.line.HistLine.{HistLine}

-- a key that was never written has number 0 and no body
abbrev pub or_nothing : Option Versioned → Versioned
or_nothing None = nothing
or_nothing (Some version) = version

-- what the table of keys has for a key
abbrev pub held_by : BTreeMap (List ℕ) Versioned → List ℕ → Versioned
held_by held key = or_nothing (get (slice_cmp nat_cmp) held key)

-- what the keys are set to behind the lines
abbrev pub map_after : (List ℕ → Versioned) → List HistLine → List ℕ → Versioned
map_after map [] = map
map_after map (l ∷ ls) = map_after (map_with map l) ls

-- one of the lines is of the operation
pub record HasOp (lines : List HistLine) (op : ℕ) : Type 0 where
  pub line : HistLine
  pub among : Among line lines
  pub is : line.op ≡ op

-- no line was sent later, and one was sent then
pub record IsLatest (lines : List HistLine) (latest : ℕ) : Type 0 where
  pub most : Each (λ (l : HistLine). l.sent ≤ latest) lines
  pub whose : (latest ≡ 0) ⊎ ((line : HistLine) × Among line lines × (line.sent ≡ latest))

pub record HasSeen (lines : List HistLine) (s : Seen) : Type 0 where
  pub good : IsGood lines
  pub held : (key : List ℕ) → held_by s.held key ≡ map_after (λ key. nothing) lines key
  pub new_op : (op : ℕ) → contains nat_cmp s.ops op ≡ false → Each (λ (l : HistLine). l.op ≢ op) lines
  pub old_op : (op : ℕ) → contains nat_cmp s.ops op ≡ true → HasOp lines op
  pub latest : IsLatest lines s.latest

-- the moments of the line go with those of the lines that were seen, and a read with what was written
pub record MayFollow (s : Seen) (l : HistLine) : Type 0 where
  pub span : l.sent < l.answered
  pub later : s.latest ≤ l.answered
  pub legal : is_read l.kind ≡ true → held_of l ≡ held_by s.held l.key

-- the table has taken what the line wrote
abbrev pub HoldsWith : HistLine → BTreeMap (List ℕ) Versioned → BTreeMap (List ℕ) Versioned → Type 0
HoldsWith l old new = (key : List ℕ) → held_by new key ≡ map_with (held_by old) l key

-- the later line is of the same operation, or was answered before the earlier one was sent
abbrev pub clash : HistLine → HistLine → Bool
clash earlier l = nat_eq earlier.op l.op || nat_lt l.answered earlier.sent

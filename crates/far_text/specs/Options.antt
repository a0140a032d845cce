-- Steps that may find nothing.
use Rattle.std.specs.Prelude.{◌≡◌, Option, Some, None}

-- the next step, where the one before found something
infixl 10 ◌>>=◌
abbrev pub ◌>>=◌ : {A B : Type 0} → Option A → (A → Option B) → Option B
(Some x) >>= f = f x
None >>= f = None

-- what was found, seen by view, is what reading gives
abbrev pub Shows : {A B : Type 0} → (A → B) → Option A → Option B → Type 0
Shows view (Some x) read = read ≡ Some (view x)
Shows view None read = read ≡ None

-- Draws of the generator, and the workload that they make.
use Rattle.std.specs.Prelude.{ℕ, zero, suc, ◌+◌, ◌*◌, ◌%◌, List, [], ◌∷◌, Option, Some, None, nat_lt, if◌then◌else◌}
use Rattle.std.specs.Prelude.{decimal}
use Rattle.rand_core.specs.Pcg32Seed.{pcg32_seed}
use Rattle.rand_pcg.specs.Lcg.{Lcg}
use Rattle.rand_pcg.specs.Pcg.{pcg32, pcg32_of_seed}
use Rattle.far_base.specs.Padded.{padded}
use Rattle.far_base.specs.declared.key.TheConstants.{KEY_LENGTH}
use Rattle.far_base.specs.declared.plan.Op.{Op}
use Rattle.far_base.specs.declared.plan.Op.TheVariants.{Get, Put, Del}
use Rattle.far_base.specs.declared.plan.OpLine.{OpLine}
use Rattle.far_base.specs.declared.plan.Order.{Order}
use Rattle.far_base.specs.declared.plan.Order.TheVariants.{Snap, Stop}
use Rattle.workload.specs.WorkView.{WorkView}
use Rattle.workload.specs.declared.generator.Choice.{Choice}

-- the generator of a start number
unfoldable pub seeded : ℕ → Lcg
seeded start = pcg32_of_seed (pcg32_seed 16 start)

-- the generator after so many draws
unfoldable pub after : ℕ → Lcg → Lcg
after zero g = g
after (suc k) g = after k (pcg32 g).1

abbrev pub op_by : ℕ → Op
op_by draw = if nat_lt (draw % 100) 50 then Get else (if nat_lt (draw % 100) 95 then Put else Del)

-- few keys are used often, the others seldom
abbrev pub key_number : ℕ → ℕ → ℕ
key_number choice draw = if nat_lt (choice % 100) 70 then draw % 64 else 64 + draw % 1984

abbrev pub lettered : ℕ → ℕ → List ℕ
lettered letter n = letter ∷ decimal n

-- the key `k` with a number, and the body `v` with one
abbrev pub key_by : ℕ → List ℕ
key_by n = padded KEY_LENGTH (lettered 107 n)

abbrev pub body_by : Op → ℕ → Option (List ℕ)
body_by Get i = None
body_by Put i = Some (lettered 118 i)
body_by Del i = None

-- what the next four draws choose
unfoldable pub choice_from : Lcg → Choice
choice_from g = record {
  client = (pcg32 g).0 % 16;
  op = op_by (pcg32 (after 1 g)).0;
  key = key_number (pcg32 (after 2 g)).0 (pcg32 (after 3 g)).0;
}

-- operation i
abbrev pub op_with : ℕ → Choice → OpLine
op_with i c = record { client = c.client; op = c.op; key = key_by c.key; body = body_by c.op i }

-- so many operations, the first with number i
unfoldable pub ops_from : ℕ → ℕ → Lcg → List OpLine
ops_from i zero g = []
ops_from i (suc n) g = op_with i (choice_from g) ∷ ops_from (i + 1) n (after 4 g)

abbrev pub orders_by : ℕ → List Order
orders_by ops = Snap ops ∷ Stop (2 * ops) ∷ Snap (3 * ops) ∷ Stop (4 * ops) ∷ []

abbrev pub generated : ℕ → ℕ → WorkView
generated start ops = record {
  plan = record {
    config = record { clients = 16; servers = 4; slots = 256; hot = 4 };
    ops = ops_from 1 ops (seeded start);
    orders = orders_by ops;
  };
  picks = [];
  random = Some start;
}

-- Registers that packets pass one after the other are what the line of the packets shows.
use Rattle.std.proofs.Common.{◌≡◌, ℕ, zero, suc, ◌+◌, ◌<◌, ◌≤◌, List, [], ◌∷◌, ◌++◌, length, take, sym, refl, ap, ◌∙◌, subst, arith, Option, None, Some}
use Rattle.std.specs.Prelude.{slice_index_or}
use Rattle.std.specs.List.{AllByRecursion}
use Rattle.far_base.specs.declared.packet.Packet.{Packet}
use Rattle.far_base.specs.declared.plan.Config.{Config}
use Rattle.far_model.specs.Pass.{Passed, pass}
use Rattle.far_model.specs.View.{SwitchView}
use Rattle.switch_core.specs.Plain.{emit_of}
use Rattle.switch_staged.specs.declared.flight.Course.{Course}
use Rattle.switch_staged.specs.Changes.{ended}
use Rattle.switch_staged.specs.Line.{final, answers}
use Rattle.switch_staged.specs.Overlap.{Waits, kept, sent, array_of}
use Rattle.switch_staged.specs.Rows.{AreFull}
use Rattle.switch_staged.specs.Stages.{array_after, carried, arrays_after, carried_all}
use Rattle.switch_staged.specs.Through.{before_table, before_heads, before_taken, before_bodies, before_body, after, through, IsShort}
use Rattle.switch_staged.specs.Whole.{Registers, Fits, view_of}
use Rattle.switch_staged.proofs.All.{staged_is_pass}
use Rattle.switch_staged.proofs.PassLaws.{array_length}
use Rattle.switch_staged.proofs.StagedLaws.{heads_length, taken_length, table_length}

pub through_more : (config : Config) (r : Registers) (ps : List Packet) (p : Packet) → through config r (ps ++ p ∷ []) ≡ after config (through config r ps) p
through_more config r [] p = refl
through_more config r (q ∷ ps) p = through_more config (after config r q) ps p

pub landed_is_pass : (config : Config) (r : Registers) (p : Packet) → Fits config r → IsShort p → ended config (after config r p) (carried_all 0 r.arrays (before_bodies config r p)) ≡ pass (view_of config r) p
landed_is_pass config r p fits short = staged_is_pass config r p fits short

arrays_full : (n at : ℕ) (arrays : List (List (List ℕ))) (f : Course) → AreFull n arrays → AreFull n (arrays_after at arrays f)
arrays_full n at [] f h = tt
arrays_full n at (a ∷ rest) f h = (array_length f.place at a f ∙ h.0, arrays_full n (suc at) rest (carried at a f) h.1)

pub arrays_count : (at : ℕ) (arrays : List (List (List ℕ))) (f : Course) → length (arrays_after at arrays f) ≡ length arrays
arrays_count at [] f = refl
arrays_count at (a ∷ rest) f = ap suc (arrays_count (suc at) rest (carried at a f))

pub after_fits : (config : Config) (r : Registers) (p : Packet) → Fits config r → Fits config (after config r p)
after_fits config r p fits = record {
  bound = table_length r.bound (before_table config r p) ∙ fits.bound;
  heads = heads_length r.heads (before_heads config r p).place (before_heads config r p) ∙ fits.heads;
  taken = taken_length r.taken (before_taken config r p).place (before_taken config r p) ∙ fits.taken;
  arrays = arrays_full config.slots 0 r.arrays (before_bodies config r p) fits.arrays;
  count = arrays_count 0 r.arrays (before_bodies config r p) ∙ fits.count;
}

pub through_fits : (config : Config) (r : Registers) (ps : List Packet) → Fits config r → Fits config (through config r ps)
through_fits config r [] fits = fits
through_fits config r (p ∷ ps) fits = through_fits config (after config r p) ps (after_fits config r p fits)

pub line_is_final : (config : Config) (r : Registers) (ps : List Packet) → Fits config r → AllByRecursion IsShort ps → view_of config (through config r ps) ≡ final (view_of config r) ps
line_is_final config r [] fits short = refl
line_is_final config r (p ∷ ps) fits short =
    line_is_final config (after config r p) ps (after_fits config r p fits) short.1
    ∙ ap (λ v. final v ps) (ap (λ (x : Passed). x.view) (landed_is_pass config r p fits short.0))

pub final_more : (v : SwitchView) (ps : List Packet) (p : Packet) → final v (ps ++ p ∷ []) ≡ (pass (final v ps) p).view
final_more v [] p = refl
final_more v (q ∷ ps) p = final_more (pass v q).view ps p

pub answers_more : (v : SwitchView) (ps qs : List Packet) → answers v (ps ++ qs) ≡ answers v ps ++ answers (final v ps) qs
answers_more v [] qs = refl
answers_more v (p ∷ ps) qs = ap (λ r. emit_of (pass v p) ∷ r) (answers_more (pass v p).view ps qs)

-- ---- one stage, one tick

pub steps : {X : Type 0} (config : Config) (first : Registers) (flight next_flight : Registers → Packet → Course) (get : Registers → X) (step : X → Course → X) (next : X → Course → Course) (x : X) (w : Option Course) (came gone : List Packet)
    → ((p : Packet) → get (after config (through config first gone) p) ≡ step (get (through config first gone)) (flight (through config first gone) p))
    → ((p : Packet) → next_flight (through config first gone) p ≡ next (get (through config first gone)) (flight (through config first gone) p))
    → Waits flight config first w came gone → x ≡ get (through config first gone)
    → (kept step x w ≡ get (through config first came)) × Waits next_flight config first (sent next x w) came gone
steps config first flight next_flight get step next x None came gone a b h e = (e ∙ ap (λ ps. get (through config first ps)) (sym h), h)
steps config first flight next_flight get step next x (Some f) came gone a b h e =
    let r = through config first gone in (
      ap (λ y. step y f) e ∙ ap (step (get r)) h.2 ∙ sym (a h.0) ∙ ap get (sym (through_more config first gone h.0)) ∙ ap (λ ps. get (through config first ps)) (sym h.1),
      (h.0, h.1, ap (λ y. next y f) e ∙ ap (next (get r)) h.2 ∙ sym (b h.0)),
    )

pub no_more : (at : ℕ) → at ≡ at + 0
no_more at = omega arith

pub next_more : (at n : ℕ) → suc at + n ≡ at + suc n
next_more at n = omega arith

pub from_none : (k : ℕ) → 0 + k ≡ k
from_none k = omega arith

get_after : (at k : ℕ) (arrays : List (List (List ℕ))) (f : Course) → k < length arrays → slice_index_or (arrays_after at arrays f) k [] ≡ array_after (at + k) (slice_index_or arrays k []) (carried_all at (take k arrays) f)
get_after at k [] f b = absurd (omega (arith, b))
get_after at zero (a ∷ rest) f b = ap (λ m. array_after m a f) (no_more at)
get_after at (suc k) (a ∷ rest) f b =
    get_after (suc at) k rest (carried at a f) (grind (arith, b))
    ∙ ap (λ m. array_after m (slice_index_or rest k []) (carried_all (suc at) (take k rest) (carried at a f))) (next_more at k)

carry_more : (at k : ℕ) (arrays : List (List (List ℕ))) (f : Course) → k < length arrays → carried_all at (take (suc k) arrays) f ≡ carried (at + k) (slice_index_or arrays k []) (carried_all at (take k arrays) f)
carry_more at k [] f b = absurd (omega (arith, b))
carry_more at zero (a ∷ rest) f b = ap (λ m. carried m a f) (no_more at)
carry_more at (suc k) (a ∷ rest) f b =
    carry_more (suc at) k rest (carried at a f) (grind (arith, b))
    ∙ ap (λ m. carried m (slice_index_or rest k []) (carried_all (suc at) (take k rest) (carried at a f))) (next_more at k)

pub body_after_is : (k : ℕ) (config : Config) (r : Registers) (p : Packet) → k < length r.arrays → array_of k (after config r p) ≡ array_after k (array_of k r) (before_body k config r p)
body_after_is k config r p b =
    get_after 0 k r.arrays (before_bodies config r p) b
    ∙ ap (λ m. array_after m (array_of k r) (before_body k config r p)) (from_none k)

pub next_body_is : (k : ℕ) (config : Config) (r : Registers) (p : Packet) → k < length r.arrays → before_body (suc k) config r p ≡ carried k (array_of k r) (before_body k config r p)
next_body_is k config r p b =
    carry_more 0 k r.arrays (before_bodies config r p) b
    ∙ ap (λ m. carried m (array_of k r) (before_body k config r p)) (from_none k)

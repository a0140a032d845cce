-- A text reads as a workload exactly where its lines name it.
use Rattle.std.proofs.Common.{◌≡◌, ℕ, List, ◌++◌, refl, sym, ap, ◌∙◌, arith}
use Rattle.std.specs.Prelude.{Result, Ok, Err, IfOk}
use Rattle.far_base.specs.Limits.{IsConfig}
use Rattle.far_base.specs.declared.plan.Config.{Config}
use Rattle.far_text.specs.Pieces.{Pieces, pieces}
use Rattle.far_text.proofs.Spelling.{joined, pieces_join}
use Rattle.workload.specs.Meaning.{IsWithin, IsReading, IsReadAs}
use Rattle.workload.specs.Outcome.{◌andthen◌, Gives}
use Rattle.workload.specs.Plain.{IsPlain}
use Rattle.workload.specs.Reading.{head_of, body_from, empty_work, reading}
use Rattle.workload.specs.Spelling.{head_text, lines_text}
use Rattle.workload.specs.WorkView.{WorkView}
use Rattle.workload.specs.declared.fault.WorkFault.{WorkFault}
use Rattle.workload.specs.declared.fault.WorkFault.TheVariants.{BadLine, TooLarge, Memory}
use Rattle.workload.proofs.ByLine.{same_ok}
use Rattle.workload.proofs.HeadLaws.{head_takes, head_again}
use Rattle.workload.proofs.LineLaws.{bind_ok, body_takes, body_again}
use Rattle.workload.proofs.StepLaws.{AddsForms, steps_take, steps_again}

pub empty_within : (config : Config) → IsConfig config → IsWithin (empty_work config)
empty_within config h = record {
  plain = record {
    plan = record { config = h; count = omega arith; ops = tt; slot_orders = omega arith; snaps = omega arith; stops = omega arith; steps = tt };
    count = omega arith;
    picks = tt;
    random = tt;
  };
  bodies = tt;
}

pub reading_takes : (text : List ℕ) (w : WorkView) → reading text ≡ Ok w → IsReading text w
unfolding reading
reading_takes text w e =
    let a = bind_ok (head_of (pieces 10 text)) (λ head. body_from 5 (empty_work head.0) head.1) w e in
    let head = head_takes text a.0 a.1 in
    let b = body_takes 5 (empty_work a.0.0) w a.0.1 a.2 in
    let s = steps_take 5 (empty_work a.0.0) w b.forms b.steps b.fit (empty_within a.0.0 head.fits) in
    let behind : head.rest ≡ lines_text b.forms = sym (pieces_join 10 head.rest) ∙ ap (joined 10) (sym head.behind) ∙ b.spelled in
    record {
      forms = b.forms;
      spelled = head.whole ∙ ap (λ (l : List ℕ). head_text a.0.0 ++ l) behind ∙ ap (λ (c : Config). head_text c ++ lines_text b.forms) (sym s.0.config);
      fit = b.fit;
      name = record { ops = sym s.0.ops; orders = sym s.0.orders; picks = sym s.0.picks; random = sym s.0.random };
      within = s.1;
    }

pub reading_again : (text : List ℕ) (w : WorkView) → IsReading text w → reading text ≡ Ok w
unfolding reading
reading_again text w h =
    let adds : AddsForms (empty_work w.plan.config) w h.forms = record { config = refl; ops = sym h.name.ops; orders = sym h.name.orders; picks = sym h.name.picks; random = sym h.name.random } in
    ap (λ (t : List ℕ). head_of (pieces 10 t) andthen λ head. body_from 5 (empty_work head.0) head.1) h.spelled
    ∙ ap (λ (r : Result (Config × Pieces) WorkFault). r andthen λ head. body_from 5 (empty_work head.0) head.1) (head_again w.plan.config (lines_text h.forms) h.within.plain.plan.config)
    ∙ body_again 5 (empty_work w.plan.config) h.forms h.fit
    ∙ steps_again 5 (empty_work w.plan.config) w h.forms adds h.within

pub is_found : (text : List ℕ) (result : Result WorkView WorkFault) → Gives (λ (w : WorkView). w) result (reading text) → IfOk result (λ w. IsReading text w)
is_found text (Ok w) e = reading_takes text w e
is_found text (Err fault) e = tt

pub is_plain : (text : List ℕ) (result : Result WorkView WorkFault) → Gives (λ (w : WorkView). w) result (reading text) → IfOk result (λ w. IsPlain w)
is_plain text (Ok w) e = (reading_takes text w e).within.plain
is_plain text (Err fault) e = tt

pub is_only : (text : List ℕ) (result : Result WorkView WorkFault) → Gives (λ (w : WorkView). w) result (reading text) → (w : WorkView) → IsReading text w → IsReadAs result w
is_only text (Ok found) e w h = same_ok found w (sym e ∙ reading_again text w h)
is_only text (Err (BadLine n)) e w h = let k = sym e ∙ reading_again text w h in absurd cc
is_only text (Err (TooLarge which n)) e w h = let k = sym e ∙ reading_again text w h in absurd cc
is_only text (Err Memory) e w h = tt

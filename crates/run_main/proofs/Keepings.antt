-- The image of a world that was run until a recovery began is what running it so gives.
use Rattle.std.proofs.Common.{◌≡◌, ℕ, zero, suc, ◌-◌, List, [], ◌∷◌, ◌++◌, map, Some, None, refl, sym, ap, ◌∙◌, subst, arith}
use Rattle.std.specs.Prelude.{IfSome, Option, slice_index_or}
use Rattle.std.specs.List.{AllByRecursion}
use Rattle.far_base.specs.Limits.{FitsOp, IsOpLine, IsPlan}
use Rattle.far_base.specs.PlanView.{PlanView}
use Rattle.far_base.specs.declared.event.Event.{Event}
use Rattle.far_base.specs.declared.event.Event.TheVariants.{Recover}
use Rattle.far_base.specs.declared.kept.KeptItem.{KeptItem}
use Rattle.far_base.specs.declared.kept.KeptPlace.{KeptPlace}
use Rattle.far_base.specs.declared.kept.KeptPlace.TheVariants.{Snap, Server, Client}
use Rattle.far_base.specs.declared.plan.Op.{Op}
use Rattle.far_base.specs.declared.plan.Op.TheVariants.{Get, Put, Del}
use Rattle.far_base.specs.declared.plan.OpLine.{OpLine}
use Rattle.far_base.specs.declared.record.Record.{Record}
use Rattle.far_invariants.specs.Always.{Always}
use Rattle.far_invariants.specs.Numbers.{IsWritten}
use Rattle.far_model.specs.Clients.{no_line}
use Rattle.far_model.specs.History.{Agree}
use Rattle.far_model.specs.Kept.{kept_records, records_in}
use Rattle.far_model.specs.Members.{Each}
use Rattle.far_model.specs.Runs.{ArePicked, IsRun, run}
use Rattle.far_model.specs.State.{State, opening}
use Rattle.far_runner.specs.Picked.{pick_of}
use Rattle.far_runner.specs.Pumped.{HasPumpedToRecover}
use Rattle.far_world.specs.Reached.{IsReached, IsRunOf, Ran, with_count}
use Rattle.far_world.specs.Scene.{told_by}
use Rattle.kept_image.specs.ImageText.{image_text}
use Rattle.kept_image.specs.Meaning.{AreTold, CanBeTold, HasVisibleBytes, IsImage, IsPlace, told_item, told_place}
use Rattle.run_laws.specs.KeptItems.{IsKeptItem, IsPlaceIn}
use Rattle.workload.specs.WorkView.{WorkView}
use Rattle.run_main.specs.Images.{IsImageOf}
use Rattle.run_main.specs.Replay.{Tells}

-- ---- what was kept can be told

abbrev KeptItemsAre : Type 0
KeptItemsAre = Always (λ plan events s. Each (IsKeptItem plan s) (kept_records s))

abbrev KeptListsAgree : Type 0
KeptListsAgree = Always (λ plan events s. Agree (records_in (kept_records s)))

visible_by : (op : Op) (body : Option (List ℕ)) → FitsOp op body → HasVisibleBytes body
visible_by Get None h = tt
visible_by Get (Some text) h = absurd cc
visible_by Put None h = tt
visible_by Put (Some text) h = h
visible_by Del None h = tt
visible_by Del (Some text) h = absurd cc

-- the bodies of a valid plan are of visible bytes
visible_at : (clients : ℕ) (ops : List OpLine) (n : ℕ) → AllByRecursion (IsOpLine clients) ops → HasVisibleBytes (slice_index_or ops n no_line).body
visible_at clients [] n h = tt
visible_at clients (line ∷ ops) zero h = visible_by line.op line.body h.0.body
visible_at clients (line ∷ ops) (suc n) h = visible_at clients ops n h.1

module _ (plan : PlanView) (s : State) (valid : IsPlan plan) where
  place_told : (place : KeptPlace) → IsPlaceIn plan place → IsPlace (told_place place)
  place_told Snap h = tt
  place_told (Server server) h = refl
  place_told (Client client) h = let most = valid.config.clients.1 in omega (arith, h, most)

  body_told : (num : ℕ) (key : List ℕ) (body : Option (List ℕ)) → IsWritten plan s.log s.steps key num body → HasVisibleBytes body
  body_told zero key body h = subst HasVisibleBytes (sym (h.none refl)) tt
  body_told (suc num) key body h = let own = h.some (omega arith) in subst HasVisibleBytes own.same_body (visible_at plan.config.clients plan.ops (own.op - 1) valid.ops)

  item_told : (item : KeptItem) → IsKeptItem plan s item → CanBeTold item
  item_told item h = record {
    place = place_told item.place h.place;
    num = (let small = h.small in omega (arith, small));
    body = body_told item.rec.num item.rec.key item.rec.body h.written;
    unwritten = h.written.none;
  }

  kept_can : (items : List KeptItem) → Each (IsKeptItem plan s) items → Each CanBeTold items
  kept_can [] h = tt
  kept_can (item ∷ items) h = (item_told item h.0, kept_can items h.1)

  pub kept_are_told : Each (IsKeptItem plan s) (kept_records s) → Agree (records_in (kept_records s)) → AreTold (kept_records s)
  kept_are_told h agree = (kept_can (kept_records s) h, agree)

-- ---- the world

module _ (work : WorkView) (start w : Ran) (count faults : ℕ) (text : List ℕ) (none : start.events ≡ []) (opens : Tells start.keeper.records → start.state ≡ opening start.plan) (p : HasPumpedToRecover work start w count) (h : IsReached (with_count w faults)) where
  images : Tells start.keeper.records → (all : List (List Record)) → w.keeper.records ≡ Some all → text ≡ image_text (kept_records w.state) → IsImage text (map told_item (kept_records w.state)) → IsImageOf (record work { plan = start.plan }) text all
  images tells all seen is reads = record {
    events = p.recovery.before;
    runs = record {
      enabled = subst (λ (es : List Event). IsRun start.plan (opening start.plan) es) made_is (subst (λ (q : PlanView). IsRun q (opening q) w.events) p.gone.plan d.enabled);
      picked = subst (λ (z : State). ArePicked start.plan (pick_of work) 0 z (p.recovery.before ++ Recover ∷ [])) (opens tells)
          (subst (λ (es : List Event). ArePicked start.plan (pick_of work) 0 start.state es) p.recovery.whole (p.picked tells));
      first = p.recovery.first;
    };
    image = is ∙ ap image_text kept_is;
    reads = subst (λ (items : List KeptItem). IsImage text (map told_item items)) kept_is reads;
    servers = sym (ap (told_by w.plan.config.servers) seen) ∙ sym h.records ∙ ap (λ (z : State). z.servers) state_is;
  }
    where
      d : IsRunOf w.plan w.events w.state
      d = h.told (p.gone.tells ∙ tells)

      made_is : w.events ≡ p.recovery.before ++ Recover ∷ []
      made_is = p.gone.events ∙ ap (λ (es : List Event). es ++ p.made) none ∙ p.recovery.whole

      kept_is : kept_records w.state ≡ kept_records (run start.plan (opening start.plan) p.recovery.before)
      kept_is = p.kept tells ∙ ap (λ (z : State). kept_records (run start.plan z p.recovery.before)) (opens tells)

      state_is : w.state ≡ run start.plan (opening start.plan) (p.recovery.before ++ Recover ∷ [])
      state_is = p.gone.told tells ∙ ap (λ (z : State). run start.plan z p.made) (opens tells) ∙ ap (λ (es : List Event). run start.plan (opening start.plan) es) p.recovery.whole

  pub image_is : Tells start.keeper.records → (records : Option (List (List Record))) → records ≡ w.keeper.records → text ≡ image_text (kept_records w.state) → (AreTold (kept_records w.state) → IsImage text (map told_item (kept_records w.state)))
      → KeptItemsAre → KeptListsAgree → IfSome records (λ all. IsImageOf (record work { plan = start.plan }) text all)
  image_is tells None same is reads items agree = tt
  image_is tells (Some all) same is reads items agree = images tells all (sym same) is (reads told)
    where
      d : IsRunOf w.plan w.events w.state
      d = h.told (p.gone.tells ∙ tells)

      told : AreTold (kept_records w.state)
      told = subst (λ (z : State). AreTold (kept_records z)) (sym d.is) (kept_are_told w.plan (run w.plan (opening w.plan) w.events) h.valid (items w.plan w.events h.valid d.enabled) (agree w.plan w.events h.valid d.enabled))

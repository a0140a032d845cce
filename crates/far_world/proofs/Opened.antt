-- What the parties of a plan are before anything has happened.
use Rattle.std.proofs.Common.{◌≡◌, ℕ, zero, suc, ◌+◌, ◌≤◌, true, List, [], ◌∷◌, ◌++◌, replicate, refl, sym, ap, ◌∙◌, Some, None, arith}
use Rattle.std.proofs.lemmas.Option.{same_Some}
use Rattle.std.specs.Option.{option_map}
use Rattle.std.specs.Prelude.{Option, is_some, slice_get, length, nat_eq, if◌then◌else◌}
use Rattle.far_base.specs.PlanView.{PlanView}
use Rattle.far_base.specs.declared.packet.Message.{Message}
use Rattle.far_base.specs.declared.plan.OpLine.{OpLine}
use Rattle.far_base.specs.declared.record.Record.{Record}
use Rattle.far_history.specs.RoomyLog.{RoomyLog}
use Rattle.far_model.specs.Clients.{ClientState, script_from}
use Rattle.far_model.specs.Controller.{opening_controller}
use Rattle.far_model.specs.Passes.{no_passes}
use Rattle.far_model.specs.State.{clients_from, opening}
use Rattle.far_model.specs.View.{SwitchView, opening_view}
use Rattle.controller_core.specs.ControllerView.{ControllerView}
use Rattle.far_world.specs.Ready.{IsOpened}
use Rattle.far_world.specs.Scene.{KeeperView, scene_of, told_by}
use Rattle.far_world.specs.Seats.{AreSeated, IsSeated, SeatView, clients_of, fresh_seat, numbers_from, opening_seat, opening_seats, senders}

pub opening_clients_are : (ops : List OpLine) (n k : ℕ) → clients_of (opening_seats ops n k) ≡ clients_from ops n k
opening_clients_are ops n zero = refl
opening_clients_are ops n (suc k) = ap (λ (rest : List ClientState). (opening_seat ops n).state ∷ rest) (opening_clients_are ops (suc n) k)

seated_from : (ops : List OpLine) (n k c : ℕ) (seat : SeatView) → slice_get (opening_seats ops n k) c ≡ Some seat → seat ≡ opening_seat ops (n + c)
seated_from ops n zero c seat h = absurd cc
seated_from ops n (suc k) zero seat h = let e : n + 0 ≡ n = omega arith in sym (same_Some _ _ h) ∙ ap (opening_seat ops) (sym e)
seated_from ops n (suc k) (suc c) seat h = let e : suc n + c ≡ n + suc c = omega arith in seated_from ops (suc n) k c seat h ∙ ap (opening_seat ops) e

pub opening_count : (ops : List OpLine) (n k : ℕ) → length (opening_seats ops n k) ≡ k
opening_count ops n zero = refl
opening_count ops n (suc k) = ap suc (opening_count ops (suc n) k)

opening_seated : (ops : List OpLine) (c : ℕ) → IsSeated ops c (opening_seat ops c)
opening_seated ops c = record { number = refl; line = tt; sent = 0; left = refl }

pub opening_seats_are : (ops : List OpLine) (k : ℕ) → AreSeated ops (opening_seats ops 0 k)
opening_seats_are ops k c seat h = let e : 0 + c ≡ c = omega arith in rw (seated_from ops 0 k c seat h, e) (opening_seated ops c)

seats_append : (ops : List OpLine) (n k : ℕ) → opening_seats ops n (k + 1) ≡ opening_seats ops n k ++ opening_seat ops (n + k) ∷ []
seats_append ops n zero = let e : n + 0 ≡ n = omega arith in rw e refl
seats_append ops n (suc k) = let e : n + suc k ≡ suc n + k = omega arith in let f : suc k + 1 ≡ suc (k + 1) = omega arith in rw (e, f) (ap (λ (rest : List SeatView). opening_seat ops n ∷ rest) (seats_append ops (suc n) k))

pub seats_more : (ops : List OpLine) (k : ℕ) → opening_seats ops 0 (k + 1) ≡ opening_seats ops 0 k ++ opening_seat ops k ∷ []
seats_more ops k = let e : 0 + k ≡ k = omega arith in seats_append ops 0 k ∙ ap (λ (n : ℕ). opening_seats ops 0 k ++ opening_seat ops n ∷ []) e

numbers_are : (op client : ℕ) (ops : List OpLine) → numbers_from op (senders ops) client ≡ script_from op ops client
numbers_are op client [] = refl
numbers_are op client (line ∷ ops) = ap (λ (rest : List ℕ). if nat_eq line.client client then op ∷ rest else rest) (numbers_are (suc op) client ops)

-- a client of the plan's operations, told by who sends each
pub fresh_is_opening : (ops : List OpLine) (number : ℕ) → fresh_seat number (numbers_from 1 (senders ops) number) ≡ opening_seat ops number
fresh_is_opening ops number = ap (λ (left : List ℕ). fresh_seat number left) (numbers_are 1 number ops)

pub senders_count : (ops : List OpLine) → length (senders ops) ≡ length ops
senders_count [] = refl
senders_count (line ∷ ops) = ap suc (senders_count ops)

fresh : (count : ℕ) (o : Option (List (List Record))) → told_by count (option_map (λ all. replicate count []) o) ≡ replicate count []
fresh count None = refl
fresh count (Some all) = refl

tells_on : {A B : Type 0} → (f : A → B) (o : Option A) → is_some (option_map f o) ≡ is_some o
tells_on f None = refl
tells_on f (Some x) = refl

pub opens : (plan : PlanView) (before : KeeperView) (switch : SwitchView) (seats : List SeatView) (controller : ControllerView) (bag : List Message) (passes : List ℕ) (log : RoomyLog) (keeper : KeeperView)
    → switch ≡ opening_view plan.config 1 0 → seats ≡ opening_seats plan.ops 0 plan.config.clients → controller.state ≡ opening_controller plan.config → bag ≡ [] → passes ≡ no_passes → log.steps ≡ 0 → log.lines ≡ []
    → keeper.records ≡ option_map (λ all. replicate plan.config.servers []) before.records → keeper.servers ≡ plan.config.servers → keeper.ceiling ≡ 0 → before.faults ≤ keeper.faults
    → IsOpened plan before (scene_of plan switch true seats controller bag passes 0 log keeper)
opens plan before switch seats controller bag passes log keeper ev es ec eb ep en el er servers ceiling later = record {
  plan_is = refl;
  state = is (told_by plan.config.servers keeper.records);
  records = refl;
  told = λ tells. is (told_by plan.config.servers keeper.records) ∙ ap (λ (lists : List (List Record)). record (opening plan) { servers = lists }) (ap (told_by plan.config.servers) er ∙ fresh plan.config.servers before.records);
  tells = ap is_some er ∙ tells_on (λ all. replicate plan.config.servers []) before.records;
  servers = servers;
  ceiling = ceiling;
  later = later;
}
  where
    is : (lists : List (List Record)) → record (scene_of plan switch true seats controller bag passes 0 log keeper).state { servers = lists } ≡ record (opening plan) { servers = lists }
    is lists = λ i. record (opening plan) {
      switch = ev i;
      clients = (ap clients_of es ∙ opening_clients_are plan.ops 0 plan.config.clients) i;
      servers = lists;
      controller = ec i;
      bag = eb i;
      passes = ep i;
      steps = en i;
      log = el i;
    }

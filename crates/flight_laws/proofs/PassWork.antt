-- A pass lowers the work: what leaves, with the slots that are not taken, weighs less than what came.
use Rattle.std.proofs.Common.{◌≡◌, ℕ, suc, ◌+◌, ◌*◌, ◌≤◌, ◌<◌, Bool, true, false, cond, List, length, set, refl, sym, ap, ◌∙◌, arith, length-set}
use Rattle.std.specs.Prelude.{Option, None, Some}
use Rattle.std.specs.List.{sum_by}
use Rattle.far_base.specs.PlanView.{PlanView}
use Rattle.far_base.specs.declared.packet.Message.{Message}
use Rattle.far_base.specs.declared.packet.Out.{Out}
use Rattle.far_base.specs.declared.packet.Packet.{Packet}
use Rattle.far_base.specs.declared.packet.Packet.TheVariants.{GetReq, WriteReq, GetFwd, WriteFwd, GetRep, WriteRep, GetAns, WriteAns, Hot, Admit, AdmitAck, Peek, PeekAns, Remove, RemoveAns, SnapStart, SnapBegun, SnapRead, SnapPart, Store, Stored, Release, Ask, Told, TopAsk, TopIs, SnapFrom, SnapSame}
use Rattle.far_base.specs.declared.party.Party.TheVariants.{Client, Switch, Server, Controller}
use Rattle.far_base.specs.declared.plan.Config.{Config}
use Rattle.far_model.specs.Controller.{ControllerState}
use Rattle.far_invariants.specs.Flights.{IsFor}
use Rattle.far_model.specs.Parties.{messages_from}
use Rattle.far_model.specs.Pass.{Passed, pass, passed_out, dropped, with_slot, changes, reply_passes, numbered, absorbing, part_packet, is_as_before}
use Rattle.far_model.specs.View.{SlotView, SwitchView, slot_at, empty_slot, shown_body, entry_place, server_of, held_record}
use Rattle.far_model.specs.Work.{message_weight, packet_weight, untaken_from, is_peeking, is_removing, tries_of, eviction_weight}
use Rattle.far_invariants.specs.Sizes.{IsSizedView}
use Rattle.flight_laws.proofs.Passes.{changes_cases, read_cases, write_cases, reply_cases, admit_cases, peek_cases, remove_cases, start_cases, part_cases, entry_within, from_cases}
use Rattle.flight_laws.proofs.Weights.{untaken_most, untaken_less}
use Rattle.flight_laws.proofs.Lists.{by_test}

abbrev pub untaken : SwitchView → ℕ
untaken v = untaken_from v 0 (length v.slots)

module _ (plan : PlanView) (c : ControllerState) (few : tries_of c.eviction ≤ 3) (v : SwitchView) (sized : IsSizedView plan.config.slots v) where
  abbrev weigh : Message → ℕ
  weigh = message_weight plan c

  -- what leaves weighs less than w
  abbrev Lowers : ℕ → Passed → Type 0
  Lowers w p = suc (sum_by weigh (messages_from Switch (passed_out p)) + untaken p.view) ≤ w + untaken v

  abbrev Weighs : ℕ → Option Out → Type 0
  Weighs w None = 1 ≤ w
  Weighs w (Some o) = suc (packet_weight plan c o.to o.packet) ≤ w

  -- where no part is taken and no slot is lost
  flat : (w : ℕ) (view : SwitchView) (first : Option Out) → untaken view ≡ untaken v → Weighs w first → Lowers w (record { view = view; first = first; second = None })
  flat w view None same less = omega (arith, same, less)
  flat w view (Some o) same less = omega (arith, same, less)

  set_same : (w : SwitchView) (i : ℕ) (slot : SlotView) → untaken (with_slot w i slot) ≡ untaken w
  set_same w i slot = ap (untaken_from w 0) (length-set w.slots i slot)

  part_weighs : (u : SwitchView) (i : ℕ) → weigh (record { from = Switch; to = Controller; packet = part_packet u i }) ≡ 1
  part_weighs u i = by_test (λ p. weigh (record { from = Switch; to = Controller; packet = p }) ≡ 1) (is_as_before u i) (SnapSame u.snap i) (SnapPart u.snap i (held_record (slot_at u i))) refl refl

  changed : (w : ℕ) (u : SwitchView) (i : ℕ) (slot : SlotView) (o : Out) → untaken u ≡ untaken v → i < length u.slots → length u.taken ≡ length u.slots → suc (packet_weight plan c o.to o.packet) ≤ w → Lowers w (changes u i slot (Some o))
  changed w u i slot o same within size less = changes_cases (Lowers w) v u i slot (Some o)
      (λ t. flat w (with_slot u i slot) (Some o) (set_same u i slot ∙ same) less)
      (λ t. let n : length (set u.slots i slot) ≡ length u.slots = length-set u.slots i slot in
      let one = untaken_less (with_slot u i slot) i (held_record (slot_at u i)) 0 (length (set u.slots i slot)) (omega arith) (omega arith) (omega arith) t in
      omega (arith, less, one, set_same u i slot, same, part_weighs u i))

  sizes : length v.taken ≡ length v.slots
  sizes = sized.taken ∙ sym sized.slots_there

  replied : (w : ℕ) (tag : Option ℕ) (num : ℕ) (body : Option (List ℕ)) (key : List ℕ) (o : Out) → suc (packet_weight plan c o.to o.packet) ≤ w → Lowers w (reply_passes v tag num body (Some o) (entry_place key v))
  replied w tag num body key o less = reply_cases (Lowers w) v tag num body key (Some o)
      (flat w v (Some o) refl less)
      (λ i e. changed w v i (absorbing num body (slot_at v i)) o refl (entry_within key v i e) sizes less)
      (λ i e. flat w (with_slot v i _) (Some o) (set_same v i _) less)

  gone : (w : ℕ) → 1 ≤ w → Lowers w (dropped v)
  gone w h = omega (arith, h)

  peek_falls : (b : Bool) → suc (cond {A = ℕ} b 13 1) ≤ cond {A = ℕ} b 14 2
  peek_falls true = omega arith
  peek_falls false = omega arith

  remove_falls : (b : Bool) → suc (eviction_weight c b 13 1) ≤ eviction_weight c b 14 2
  remove_falls true = omega (arith, few)
  remove_falls false = omega arith

  some_weight : (a b : ℕ) → suc a ≤ b → 1 ≤ b
  some_weight a b h = omega (arith, h)

  pub pass_lowers : (config : Config) (p : Packet) → v.config.slots ≡ plan.config.slots → IsFor config p Switch → Lowers (packet_weight plan c Switch p) (pass v p)
  pass_lowers config (GetReq caller op key) same goes = read_cases (Lowers 23) v caller op key
      (λ i. flat 23 v (Some (record { to = Client caller; packet = GetAns caller op key (slot_at v i).num (slot_at v i).body true })) refl (omega arith))
      (λ i. flat 23 v (Some (record { to = Server (server_of v.config key); packet = GetFwd caller op key (slot_at v i).tag })) refl (omega arith))
      (omega arith) (omega arith)
  pass_lowers config (WriteReq caller op key body) same goes = write_cases (Lowers 23) v caller op key body
      (λ i e. changed 23 (numbered v) i _ (record { to = Client caller; packet = WriteAns caller op key (v.counter + 1) true }) refl (entry_within key v i e) sizes (omega arith))
      (omega arith) (omega arith)
  pass_lowers config (GetRep caller op key tag num body) same goes = replied 2 (Some tag) num body key (record { to = Client caller; packet = GetAns caller op key num body false }) (omega arith)
  pass_lowers config (WriteRep caller op key num body) same goes = replied 2 None num body key (record { to = Client caller; packet = WriteAns caller op key num false }) (omega arith)
  pass_lowers config (Admit epoch i key tag) same goes = admit_cases (Lowers 2) v epoch i key tag
      (λ e w off. flat 2 (with_slot v i _) (Some (record { to = Controller; packet = AdmitAck i tag })) (set_same v i _) (omega arith))
      (λ e w on. flat 2 (with_slot v i _) None (set_same v i _) (omega arith))
      (λ z. gone 2 (omega arith))
  pass_lowers config (Peek epoch i tag) same goes =
      let falls = peek_falls (is_peeking i tag c.eviction) in
      peek_cases (Lowers (packet_weight plan c Switch (Peek epoch i tag))) v epoch i tag
      (λ e w. flat _ v (Some (record { to = Controller; packet = PeekAns i tag (slot_at v i).latest (slot_at v i).num (shown_body (slot_at v i)) })) refl falls)
      (λ e w. flat _ v (Some (record { to = Controller; packet = PeekAns i tag false 0 None })) refl falls)
      (λ z. gone _ (some_weight _ _ falls))
  pass_lowers config (Remove epoch i tag latest num) same goes =
      let falls = remove_falls (is_removing i tag c.eviction) in
      let w : ℕ = packet_weight plan c Switch (Remove epoch i tag latest num) in
      remove_cases (Lowers w) v epoch i tag latest num
      (λ e h u. changed w v i empty_slot (record { to = Controller; packet = RemoveAns i tag true (slot_at v i).latest (slot_at v i).num (shown_body (slot_at v i)) }) refl (omega (arith, h, same, sized.slots_there)) sizes falls)
      (λ e h u. flat w (with_slot v i empty_slot) (Some (record { to = Controller; packet = RemoveAns i tag true (slot_at v i).latest (slot_at v i).num (shown_body (slot_at v i)) })) (set_same v i empty_slot) falls)
      (λ e h. flat w v (Some (record { to = Controller; packet = RemoveAns i tag false (slot_at v i).latest (slot_at v i).num (shown_body (slot_at v i)) })) refl falls)
      (λ e h. flat w v (Some (record { to = Controller; packet = RemoveAns i tag false false 0 None })) refl falls)
      (λ z. gone w (some_weight _ _ falls))
  pass_lowers config (SnapStart epoch id) same goes = start_cases (Lowers (2 * plan.config.slots + 2)) v epoch id
      (λ e. omega (arith, untaken_most (record v { snap = id; base = 0 }) 0 (length v.slots), sized.slots_there))
      (λ z. gone _ (omega arith))
  pass_lowers config (SnapFrom epoch id base) same goes = from_cases (Lowers (2 * plan.config.slots + 2)) v epoch id base
      (λ e. omega (arith, untaken_most (record v { snap = id; base = base }) 0 (length v.slots), sized.slots_there))
      (λ z. gone _ (omega arith))
  pass_lowers config (SnapSame id i) same goes = gone _ (omega arith)
  pass_lowers config (SnapRead epoch id i) same goes = part_cases (Lowers 1) v epoch id i
      (λ e h s t. let one = untaken_less v i (held_record (slot_at v i)) 0 (length v.slots) (omega arith) (omega (arith, h, same, sized.slots_there)) (omega (arith, h, same, sized.taken)) t in omega (arith, one, part_weighs v i))
      (λ e s t. gone 1 (omega arith)) (λ z. gone 1 (omega arith))
  pass_lowers config (Release point) same goes = gone _ (omega arith)
  pass_lowers config (Ask round) same goes = gone _ (omega arith)
  pass_lowers config (TopAsk round) same goes = gone _ (omega arith)
  pass_lowers config (Hot key) same goes = gone _ (omega arith)
  pass_lowers config (AdmitAck i tag) same goes = gone _ (omega arith)
  pass_lowers config (PeekAns i tag latest num body) same goes = absurd cc
  pass_lowers config (RemoveAns i tag done latest num body) same goes = absurd cc
  pass_lowers config (SnapBegun id point) same goes = gone _ (omega arith)
  pass_lowers config (SnapPart id i view) same goes = gone _ (omega arith)
  pass_lowers config (Store job item) same goes = absurd cc
  pass_lowers config (Stored job) same goes = absurd cc
  pass_lowers config (Told round caller total item) same goes = absurd cc
  pass_lowers config (TopIs round server top) same goes = gone _ (omega arith)
  pass_lowers config (GetFwd caller op key tag) same goes = absurd cc
  pass_lowers config (WriteFwd caller op key num body) same goes = absurd cc
  pass_lowers config (GetAns caller op key num body near) same goes = absurd cc
  pass_lowers config (WriteAns caller op key num kept) same goes = absurd cc

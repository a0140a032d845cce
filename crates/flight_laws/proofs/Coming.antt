-- Every message comes to a party that is there and takes packets of its kind.
use Rattle.std.proofs.Common.{◌≡◌, ℕ, ◌<◌, List, refl, sym, subst}
use Rattle.std.specs.Prelude.{Some, sum}
use Rattle.std.proofs.lemmas.Nat.{mod_below}
use Rattle.far_base.specs.PlanView.{PlanView}
use Rattle.far_base.specs.declared.packet.Packet.{Packet}
use Rattle.far_base.specs.declared.packet.Packet.TheVariants.{GetReq, WriteReq, GetFwd, WriteFwd, GetRep, WriteRep, GetAns, WriteAns, Hot, Admit, AdmitAck, Peek, PeekAns, Remove, RemoveAns, SnapStart, SnapBegun, SnapRead, SnapPart, Store, Stored, Release, Ask, Told, TopAsk, TopIs, SnapSame, SnapFrom}
use Rattle.far_base.specs.declared.party.Party.{Party}
use Rattle.far_base.specs.declared.party.Party.TheVariants.{Client, Switch, Server, Controller}
use Rattle.far_model.specs.State.{State, client_at}
use Rattle.far_model.specs.View.{server_of}
use Rattle.far_invariants.specs.Addressed.{AreAddressed, ComesTo}
use Rattle.far_invariants.specs.Flights.{IsFor, OfOperation, subject}
use Rattle.far_invariants.specs.Sound.{IsSound}

module _ (plan : PlanView) (s : State) (some_server : 0 < plan.config.servers) where
  abbrev Waited : Packet → Type 0
  Waited p = (caller op : ℕ) → subject p ≡ OfOperation caller op → (caller < plan.config.clients) × ((client_at s caller).waits ≡ Some op)

  its_server : (key : List ℕ) → server_of plan.config key < plan.config.servers
  its_server key = mod_below (sum key) plan.config.servers some_server

  there : (p : Packet) (to party : Party) → to ≡ party → ComesTo plan s party p → ComesTo plan s to p
  there p to party goes h = subst (λ w. ComesTo plan s w p) (sym goes) h

  comes : (p : Packet) (to : Party) → IsFor plan.config p to → Waited p → ComesTo plan s to p
  comes (GetReq caller op key) to goes waited = there (GetReq caller op key) to Switch goes tt
  comes (WriteReq caller op key body) to goes waited = there (WriteReq caller op key body) to Switch goes tt
  comes (GetFwd caller op key tag) to goes waited = there (GetFwd caller op key tag) to (Server (server_of plan.config key)) goes (its_server key, tt)
  comes (WriteFwd caller op key num body) to goes waited = there (WriteFwd caller op key num body) to (Server (server_of plan.config key)) goes (its_server key, tt)
  comes (GetRep caller op key tag num body) to goes waited = there (GetRep caller op key tag num body) to Switch goes tt
  comes (WriteRep caller op key num body) to goes waited = there (WriteRep caller op key num body) to Switch goes tt
  comes (GetAns caller op key num body near) to goes waited = let w = waited caller op refl in there (GetAns caller op key num body near) to (Client caller) goes (w.0, (refl, w.1))
  comes (WriteAns caller op key num kept) to goes waited = let w = waited caller op refl in there (WriteAns caller op key num kept) to (Client caller) goes (w.0, (refl, w.1))
  comes (Hot key) to goes waited = there (Hot key) to Controller goes tt
  comes (Admit epoch i key tag) to goes waited = there (Admit epoch i key tag) to Switch goes tt
  comes (AdmitAck i tag) to goes waited = there (AdmitAck i tag) to Controller goes tt
  comes (Peek epoch i tag) to goes waited = there (Peek epoch i tag) to Switch goes tt
  comes (PeekAns i tag latest num body) to goes waited = there (PeekAns i tag latest num body) to Controller goes tt
  comes (Remove epoch i tag latest num) to goes waited = there (Remove epoch i tag latest num) to Switch goes tt
  comes (RemoveAns i tag done latest num body) to goes waited = there (RemoveAns i tag done latest num body) to Controller goes tt
  comes (SnapStart epoch id) to goes waited = there (SnapStart epoch id) to Switch goes tt
  comes (SnapBegun id point) to goes waited = there (SnapBegun id point) to Controller goes tt
  comes (SnapRead epoch id i) to goes waited = there (SnapRead epoch id i) to Switch goes tt
  comes (SnapPart id i view) to goes waited = there (SnapPart id i view) to Controller goes tt
  comes (Store job item) to goes waited = there (Store job item) to (Server (server_of plan.config item.key)) goes (its_server item.key, tt)
  comes (Stored job) to goes waited = there (Stored job) to Controller goes tt
  comes (Release point) to goes waited = there (Release point) to (Client goes.client) goes.is (goes.within, tt)
  comes (Ask round) to goes waited = there (Ask round) to (Client goes.client) goes.is (goes.within, tt)
  comes (Told round caller total item) to goes waited = there (Told round caller total item) to Controller goes tt
  comes (TopAsk round) to goes waited = there (TopAsk round) to (Server goes.server) goes.is (goes.within, tt)
  comes (TopIs round server top) to goes waited = there (TopIs round server top) to Controller goes tt
  comes (SnapSame id i) to goes waited = there (SnapSame id i) to Controller goes tt
  comes (SnapFrom epoch id base) to goes waited = there (SnapFrom epoch id base) to Switch goes tt

  pub sound_comes : IsSound plan s → AreAddressed plan s
  sound_comes h m a = comes m.packet m.to (h.routed.messages m a).target waited
    where
      waited : Waited m.packet
      waited caller op of =
          let w = h.one.waited m caller op a of in
          (subst (λ n. caller < n) h.routed.clients w.0, w.1)

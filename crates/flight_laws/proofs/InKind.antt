-- What a server's rule answers is of the kind asked for; clients by number.
use Rattle.std.proofs.Common.{◌≡◌, ℕ, zero, suc, ◌≤◌, ◌<◌, ◌⊎◌, inl, inr, true, false, true≢false, leb, List, length, refl, sym, ap, ◌∙◌}
use Rattle.std.specs.Prelude.{Option, None, Some, slice_get}
use Rattle.std.proofs.lemmas.Bool.Decides.{leb_tells}
use Rattle.std.proofs.lemmas.List.{get_or_past}
use Rattle.far_base.specs.declared.event.Event.{Event}
use Rattle.far_base.specs.declared.event.Event.TheVariants.{Deliver}
use Rattle.far_base.specs.declared.packet.Message.{Message}
use Rattle.far_base.specs.declared.packet.Packet.{Packet}
use Rattle.far_base.specs.declared.packet.Packet.TheVariants.{GetFwd, WriteFwd, Store, TopAsk}
use Rattle.far_base.specs.declared.party.Party.{Party}
use Rattle.far_base.specs.declared.party.Party.TheVariants.{Client, Switch, Server, Controller}
use Rattle.far_base.specs.declared.plan.OpLine.{OpLine}
use Rattle.far_model.specs.Clients.{ClientState}
use Rattle.far_model.specs.Events.{has_next, keeping_of, reply_to}
use Rattle.far_model.specs.Replies.{RepliesAt, RepliesToMessage, AnswersInKind}
use Rattle.far_model.specs.State.{State, client_at, clients_from, nobody}

-- ---- what keepers answer

-- a server's rule answers in kind
pub reply_in_kind : (s : State) (to : Party) (p : Packet) → RepliesAt to p (reply_to s (Some (record { from = to; to = to; packet = p })))
reply_in_kind s (Client c) p = tt
reply_in_kind s Switch p = tt
reply_in_kind s Controller p = tt
reply_in_kind s (Server n) (GetFwd caller op key tag) = record { num = _; body = _; is = refl }
reply_in_kind s (Server n) (WriteFwd caller op key num body) = record { num = _; body = _; is = refl }
reply_in_kind s (Server n) (Store job item) = refl
reply_in_kind s (Server n) (TopAsk round) = record { top = _; is = refl }
reply_in_kind s (Server n) _ = refl

replies_in_kind : (s : State) (o : Option Message) → RepliesToMessage o (reply_to s o)
replies_in_kind s None = tt
replies_in_kind s (Some m) = reply_in_kind s m.to m.packet

pub answers_in_kind : (s : State) (e : Event) → AnswersInKind s e (keeping_of s e)
answers_in_kind s (Deliver i) = replies_in_kind s (slice_get s.bag i)
answers_in_kind s _ = tt

-- ---- sendings

pub client_within : (s : State) (c : ℕ) → has_next (client_at s c).left ≡ true → c < length s.clients
client_within s c h = by (leb_tells (length s.clients) c)
  where
    by : ((leb (length s.clients) c ≡ true) × (length s.clients ≤ c)) ⊎ ((leb (length s.clients) c ≡ false) × (c < length s.clients)) → c < length s.clients
    by (inr p) = p.1
    by (inl p) = absurd (true≢false (sym h ∙ ap (λ (client : ClientState). has_next client.left) (get_or_past s.clients c nobody p.1)))

-- ---- runs

pub length-clients_from : (ops : List OpLine) (n more : ℕ) → length (clients_from ops n more) ≡ more
length-clients_from ops n zero = refl
length-clients_from ops n (suc more) = ap suc (length-clients_from ops (suc n) more)

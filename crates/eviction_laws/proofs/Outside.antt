-- Outside a round the controller begins none by a packet.
use Rattle.std.proofs.Common.{◌≡◌, ℕ, inl, inr, true, List, [], ◌∷◌, length, refl, ap}
use Rattle.std.specs.Prelude.{Some}
use Rattle.std.proofs.lemmas.List.{set-get_or}
use Rattle.far_base.specs.declared.packet.Message.{Message}
use Rattle.far_base.specs.declared.packet.Packet.TheVariants.{TopAsk, TopIs}
use Rattle.far_base.specs.declared.party.Party.TheVariants.{Client, Server, Controller}
use Rattle.far_base.specs.declared.record.Record.{Record}
use Rattle.far_model.specs.Clients.{tells, tells_each}
use Rattle.far_model.specs.Events.{client_turn, server_turn}
use Rattle.far_model.specs.Members.{Among, Each}
use Rattle.far_model.specs.Parties.{messages_from}
use Rattle.far_model.specs.State.{State, client_at}
use Rattle.record_laws.proofs.Calm.{is_plain, IsCalm}
use Rattle.record_laws.proofs.Snapshots.{IsPlainOut, client_calm}

-- ---- what a round sends is calm

told_plain : (round client total : ℕ) (rs : List Record) → Each IsPlainOut (tells_each round client total rs)
told_plain round client total [] = tt
told_plain round client total (r ∷ rs) = (refl, told_plain round client total rs)

tells_plain : (round client : ℕ) (rs : List Record) → Each IsPlainOut (tells round client rs)
tells_plain round client [] = (refl, tt)
tells_plain round client (r ∷ rs) = told_plain round client (length (r ∷ rs)) (r ∷ rs)

pub ask_calm : (s : State) (rest : List Message) (c round : ℕ) → IsCalm [] s (client_turn s c rest (record { state = client_at s c; out = tells round c (client_at s c).preserved; notes = [] })) rest (messages_from (Client c) (tells round c (client_at s c).preserved))
ask_calm s rest c round = client_calm s rest c (client_at s c) (tells round c (client_at s c).preserved) refl refl (tells_plain round c (client_at s c).preserved)

pub top_calm : (s : State) (rest : List Message) (n round top : ℕ) → IsCalm [] s (server_turn s n rest (TopAsk round) (Some (TopIs round n top))) rest (record { from = Server n; to = Controller; packet = TopIs round n top } ∷ [])
top_calm s rest n round top = record {
  bag = refl;
  plain = one;
  log = refl;
  notes_are = tt;
  steps = refl;
  running = refl;
  config = refl;
  switch_epoch = refl;
  counter = refl;
  bound = refl;
  slots = refl;
  servers = set-get_or s.servers n [];
  waits = λ d. refl;
  left = λ d. refl;
  epoch = refl;
  states = refl;
  tags = refl;
}
  where
    one : (m : Message) → Among m (record { from = Server n; to = Controller; packet = TopIs round n top } ∷ []) → is_plain m.packet ≡ true
    one m (inl e) = ap (λ (w : Message). is_plain w.packet) e
    one m (inr a) = absurd a

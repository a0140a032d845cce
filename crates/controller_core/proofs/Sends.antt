-- Packets to all clients, and to all servers, one by one.
use Rattle.std.proofs.Common.{◌≡◌, ℕ, suc, ◌+◌, ◌-◌, ◌<◌, List, [], ◌∷◌, ◌++◌, refl, sym, ap, ◌∙◌, append_assoc, arith, add-one}
use Rattle.far_base.specs.declared.packet.Out.{Out}
use Rattle.far_base.specs.declared.packet.Packet.{Packet}
use Rattle.far_base.specs.declared.party.Party.TheVariants.{Client, Server}
use Rattle.far_model.specs.Controller.{to_clients, to_servers}
use Rattle.far_model.specs.Parties.{to_party}

pub clients_step : (i n : ℕ) (packet : Packet) → i < n → to_clients i (n - i) packet ≡ to_party (Client i) packet ∷ to_clients (i + 1) (n - (i + 1)) packet
clients_step i n packet h = let e : n - i ≡ suc (n - (i + 1)) = omega arith in rw (e, add-one) refl

pub servers_step : (i n : ℕ) (packet : Packet) → i < n → to_servers i (n - i) packet ≡ to_party (Server i) packet ∷ to_servers (i + 1) (n - (i + 1)) packet
servers_step i n packet h = let e : n - i ≡ suc (n - (i + 1)) = omega arith in rw (e, add-one) refl

pub clients_go : (xs ys before : List Out) (i n : ℕ) (packet : Packet) → i < n → ys ≡ xs ++ to_party (Client i) packet ∷ [] → xs ++ to_clients i (n - i) packet ≡ before → ys ++ to_clients (i + 1) (n - (i + 1)) packet ≡ before
clients_go xs ys before i n packet h e f = rw (e, append_assoc) (ap (λ (t : List Out). xs ++ t) (sym (clients_step i n packet h)) ∙ f)

pub servers_go : (xs ys before : List Out) (i n : ℕ) (packet : Packet) → i < n → ys ≡ xs ++ to_party (Server i) packet ∷ [] → xs ++ to_servers i (n - i) packet ≡ before → ys ++ to_servers (i + 1) (n - (i + 1)) packet ≡ before
servers_go xs ys before i n packet h e f = rw (e, append_assoc) (ap (λ (t : List Out). xs ++ t) (sym (servers_step i n packet h)) ∙ f)

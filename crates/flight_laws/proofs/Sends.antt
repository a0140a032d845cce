-- What a party sends in one step: packets that go where their kind says, and of operations only the one that was handled.
use Rattle.std.proofs.Common.{◌≡◌, ℕ, inl, inr, false, true≢false, cond, List, [], ◌∷◌, refl, sym, ap, ◌∙◌, subst, arith}
use Rattle.std.proofs.lemmas.List.Sums.{sum_by-cons}
use Rattle.far_base.specs.declared.packet.Message.{Message}
use Rattle.far_base.specs.declared.packet.Out.{Out}
use Rattle.far_base.specs.declared.party.Party.{Party}
use Rattle.far_base.specs.declared.plan.Config.{Config}
use Rattle.far_invariants.specs.Flights.{Subject, OfOperation, OfAdmission, OfEviction, OfJob, OfSnapshot, OfRound, OfNone, subject, is_operation, is_of_client, flights_of, Travels}
use Rattle.far_model.specs.Members.{Among, Each}
use Rattle.far_model.specs.Parties.{messages_from}
use Rattle.far_model.proofs.Members.{among_map_from, each_among}

-- a packet of no operation, and one of the subject, on their ways
pub record IsControl (config : Config) (from : Party) (o : Out) : Type 0 where
  pub apart : is_operation (subject o.packet) ≡ false
  pub travels : Travels config from o.to o.packet

pub record IsCarried (config : Config) (from : Party) (sub : Subject) (o : Out) : Type 0 where
  pub same : subject o.packet ≡ sub
  pub travels : Travels config from o.to o.packet

abbrev pub own_count : ℕ → Subject → ℕ
own_count c sub = cond {A = ℕ} (is_of_client c sub) 1 0

-- messages on their ways, of operations only the subject, and that one once
pub record Adds (config : Config) (sub : Subject) (out : List Message) : Type 0 where
  pub travels : (m : Message) → Among m out → Travels config m.from m.to m.packet
  pub count : (c : ℕ) → flights_of c out ≡ own_count c sub
  pub whose : (m : Message) (caller op : ℕ) → Among m out → subject m.packet ≡ OfOperation caller op → sub ≡ OfOperation caller op

pub not_client : (c : ℕ) (sub : Subject) → is_operation sub ≡ false → is_of_client c sub ≡ false
not_client c (OfOperation caller op) e = absurd (true≢false e)
not_client c (OfAdmission slot tag) e = refl
not_client c (OfEviction slot tag) e = refl
not_client c (OfJob job) e = refl
not_client c (OfSnapshot id) e = refl
not_client c (OfRound round) e = refl
not_client c OfNone e = refl

abbrev pub out_count : ℕ → Out → ℕ
out_count c o = cond {A = ℕ} (is_of_client c (subject o.packet)) 1 0

abbrev pub message_count : ℕ → Message → ℕ
message_count c m = cond {A = ℕ} (is_of_client c (subject m.packet)) 1 0

abbrev message_of : Party → Out → Message
message_of from o = record { from = from; to = o.to; packet = o.packet }

control_count : (config : Config) (from : Party) (outs : List Out) (c : ℕ) → Each (IsControl config from) outs → flights_of c (messages_from from outs) ≡ 0
control_count config from [] c h = refl
control_count config from (o ∷ outs) c h =
    let one : out_count c o ≡ 0 = ap (λ b. cond {A = ℕ} b 1 0) (not_client c (subject o.packet) h.0.apart) in
    let rest : flights_of c (messages_from from outs) ≡ 0 = control_count config from outs c h.1 in
    sum_by-cons (message_count c) (message_of from o) (messages_from from outs) ∙ omega (arith, one, rest)

control_whose : (config : Config) (from : Party) (outs : List Out) (m : Message) (caller op : ℕ) → Each (IsControl config from) outs → Among m (messages_from from outs) → subject m.packet ≡ OfOperation caller op → ⊥
control_whose config from outs m caller op h a e =
    let p = among_map_from (message_of from) m outs a in
    let plain : is_operation (subject p.0.packet) ≡ false = (each_among (IsControl config from) p.0 outs h p.1).apart in
    let same : subject p.0.packet ≡ OfOperation caller op = ap (λ (w : Message). subject w.packet) (sym p.2) ∙ e in
    true≢false (ap is_operation (sym same) ∙ plain)

control_travels : (config : Config) (from : Party) (outs : List Out) (m : Message) → Each (IsControl config from) outs → Among m (messages_from from outs) → Travels config m.from m.to m.packet
control_travels config from outs m h a =
    let p = among_map_from (message_of from) m outs a in
    subst (λ (w : Message). Travels config w.from w.to w.packet) (sym p.2) ((each_among (IsControl config from) p.0 outs h p.1).travels)

-- nothing of an operation
pub control_adds : (config : Config) (from : Party) (sub : Subject) (outs : List Out) → is_operation sub ≡ false → Each (IsControl config from) outs → Adds config sub (messages_from from outs)
control_adds config from sub outs plain h = record {
  travels = λ m a. control_travels config from outs m h a;
  count = λ c. control_count config from outs c h ∙ sym (ap (λ b. cond {A = ℕ} b 1 0) (not_client c sub plain));
  whose = λ m caller op a e. absurd (control_whose config from outs m caller op h a e);
}

-- one packet of the subject, and others of no operation
pub carried_adds : (config : Config) (from : Party) (sub : Subject) (o : Out) (outs : List Out) → IsCarried config from sub o → Each (IsControl config from) outs → Adds config sub (messages_from from (o ∷ outs))
carried_adds config from sub o outs carried h = record {
  travels = travels;
  count = λ c.
      let one : out_count c o ≡ own_count c sub = ap (λ w. own_count c w) carried.same in
      let rest : flights_of c (messages_from from outs) ≡ 0 = control_count config from outs c h in
      sum_by-cons (message_count c) (message_of from o) (messages_from from outs) ∙ omega (arith, one, rest);
  whose = whose;
}
  where
    travels : (m : Message) → Among m (messages_from from (o ∷ outs)) → Travels config m.from m.to m.packet
    travels m (inl e) = subst (λ (w : Message). Travels config w.from w.to w.packet) (sym e) carried.travels
    travels m (inr a) = control_travels config from outs m h a

    whose : (m : Message) (caller op : ℕ) → Among m (messages_from from (o ∷ outs)) → subject m.packet ≡ OfOperation caller op → sub ≡ OfOperation caller op
    whose m caller op (inl e) k = sym carried.same ∙ ap (λ (w : Message). subject w.packet) (sym e) ∙ k
    whose m caller op (inr a) k = absurd (control_whose config from outs m caller op h a k)

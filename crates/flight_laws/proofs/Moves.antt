-- What one step does to the bag, seen by what packets are of.
use Rattle.std.proofs.Common.{◌≡◌, ℕ, ◌+◌, ◌⊎◌, inl, inr, Bool, true, false, true≢false, List, ◌++◌, refl, sym, ap, ◌∙◌, arith}
use Rattle.std.specs.Prelude.{Some, slice_get}
use Rattle.std.specs.List.{count_by, remove}
use Rattle.far_base.specs.declared.packet.Message.{Message}
use Rattle.far_base.specs.declared.packet.Out.{Out}
use Rattle.far_base.specs.declared.party.Party.{Party}
use Rattle.far_invariants.specs.Flights.{Subject, OfAdmission, OfEviction, OfJob, OfSnapshot, OfRound, subject}
use Rattle.far_model.specs.Members.{Among}
use Rattle.far_model.specs.Parties.{messages_from}
use Rattle.far_model.proofs.Members.{among_append, among_append_left, among_at, among_map_from, among_out, among_remove}
use Rattle.flight_laws.proofs.Counts.{count_append, count_none, count_removed, counted, counted_false}

abbrev pub of_admission : Subject → Bool
of_admission (OfAdmission slot tag) = true
of_admission _ = false

abbrev pub of_eviction : Subject → Bool
of_eviction (OfEviction slot tag) = true
of_eviction (OfJob job) = true
of_eviction _ = false

abbrev pub of_snapshot : Subject → Bool
of_snapshot (OfSnapshot id) = true
of_snapshot _ = false

abbrev pub of_round : Subject → Bool
of_round (OfRound round) = true
of_round (OfJob job) = true
of_round _ = false

-- a step that takes and sends no packet of the class
pub record Moves (q : Subject → Bool) (old new : List Message) : Type 0 where
  pub news : (m : Message) → Among m new → Among m old ⊎ (q (subject m.packet) ≡ false)
  pub olds : (m : Message) → Among m old → q (subject m.packet) ≡ true → Among m new
  pub count : (f : Message → Bool) → ((m : Message) → q (subject m.packet) ≡ false → f m ≡ false) → count_by f new ≡ count_by f old

-- what is left of the bag after one message was taken
pub record Takes (old rest : List Message) (m : Message) : Type 0 where
  pub there : Among m old
  pub members : (x : Message) → Among x rest → Among x old
  pub others : (x : Message) → Among x old → (x ≡ m) ⊎ Among x rest
  pub count : (f : Message → Bool) → count_by f rest + counted f m ≡ count_by f old

pub takes : (bag : List Message) (i : ℕ) (m : Message) → slice_get bag i ≡ Some m → Takes bag (remove bag i) m
takes bag i m e = record {
  there = among_at m bag i e;
  members = λ x a. among_remove x bag i a;
  others = λ x a. among_out x m bag i e a;
  count = λ f. count_removed f bag i m e;
}

-- one message is taken, and others are sent, all of other classes
pub moves_taken : (q : Subject → Bool) (old rest out : List Message) (m : Message) → Takes old rest m → q (subject m.packet) ≡ false → ((x : Message) → Among x out → q (subject x.packet) ≡ false) → Moves q old (rest ++ out)
moves_taken q old rest out m t off none = record {
  news = λ x a. news x (among_append x rest out a);
  olds = λ x a e. olds x e (t.others x a);
  count = λ f g.
      let both = count_append f rest out in
      let gone = counted_false f m (g m off) in
      let nothing = count_none f out (λ x a. g x (none x a)) in
      let old' = t.count f in
      omega (arith, both, gone, nothing, old');
}
  where
    news : (x : Message) → Among x rest ⊎ Among x out → Among x old ⊎ (q (subject x.packet) ≡ false)
    news x (inl a) = inl (t.members x a)
    news x (inr a) = inr (none x a)

    olds : (x : Message) → q (subject x.packet) ≡ true → (x ≡ m) ⊎ Among x rest → Among x (rest ++ out)
    olds x e (inl same) = absurd (true≢false (sym e ∙ ap (λ (w : Message). q (subject w.packet)) same ∙ off))
    olds x e (inr a) = among_append_left x rest out a

-- only sent
pub moves_sent : (q : Subject → Bool) (old out : List Message) → ((x : Message) → Among x out → q (subject x.packet) ≡ false) → Moves q old (old ++ out)
moves_sent q old out none = record {
  news = λ x a. news x (among_append x old out a);
  olds = λ x a e. among_append_left x old out a;
  count = λ f g.
      let both = count_append f old out in
      let nothing = count_none f out (λ x a. g x (none x a)) in
      omega (arith, both, nothing);
}
  where
    news : (x : Message) → Among x old ⊎ Among x out → Among x old ⊎ (q (subject x.packet) ≡ false)
    news x (inl a) = inl a
    news x (inr a) = inr (none x a)

pub moves_none : (q : Subject → Bool) (bag : List Message) → Moves q bag bag
moves_none q bag = record { news = λ x a. inl a; olds = λ x a e. a; count = λ f g. refl }

-- what is sent, by its packets
pub sent_is : (from : Party) (outs : List Out) (m : Message) → Among m (messages_from from outs) → (o : Out) × Among o outs × (m ≡ record { from = from; to = o.to; packet = o.packet })
sent_is from outs m a = among_map_from (λ (o : Out). record { from = from; to = o.to; packet = o.packet }) m outs a

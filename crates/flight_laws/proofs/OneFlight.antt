-- Each open operation has one packet on its way, and every message goes where its kind says.
use Rattle.std.proofs.Common.{◌≡◌, ◌≢◌, ℕ, ◌+◌, ◌≤◌, ◌<◌, ◌⊎◌, inl, inr, true, false, true≢false, cond, List, [], ◌∷◌, ◌++◌, append-nil, length, length-set, set, get_or, refl, sym, ap, ◌∙◌, subst, arith, eq-eqb, ne_eqb}
use Rattle.std.specs.Prelude.{None, Some, slice_get}
use Rattle.std.specs.List.{remove}
use Rattle.std.proofs.lemmas.Bool.{cases_eq}
use Rattle.std.proofs.lemmas.List.{get_or-set_same, get_or-set_other}
use Rattle.std.proofs.lemmas.List.Sums.{sum_by-append, sum_by-cons, sum_by-remove}
use Rattle.std.proofs.lemmas.Option.{get_or_from_slice_get, slice_get_within, none-some}
use Rattle.far_base.specs.declared.packet.Message.{Message}
use Rattle.far_base.specs.declared.plan.Config.{Config}
use Rattle.far_model.specs.Clients.{ClientState}
use Rattle.far_invariants.specs.Flights.{Subject, OfOperation, OneFlightPerOperation, flights_of, is_of_client, is_operation, open_count, subject}
use Rattle.far_model.specs.Members.{Among}
use Rattle.far_model.specs.State.{State, client_at, nobody}
use Rattle.far_model.proofs.Members.{among_append, among_at, among_remove}
use Rattle.flight_laws.proofs.Sends.{Adds, message_count, not_client, own_count}

-- what stays in the bag while a packet of the subject is handled
pub record Rests (s : State) (rest : List Message) (sub : Subject) : Type 0 where
  pub members : (m : Message) → Among m rest → Among m s.bag
  pub count : (c : ℕ) → flights_of c rest + own_count c sub ≡ flights_of c s.bag
  pub waited : (caller op : ℕ) → sub ≡ OfOperation caller op → (caller < length s.clients) × ((client_at s caller).waits ≡ Some op)

pub rest_of : (s : State) (i : ℕ) (m : Message) → OneFlightPerOperation s → slice_get s.bag i ≡ Some m → Rests s (remove s.bag i) (subject m.packet)
rest_of s i m one e = record {
  members = λ x a. among_remove x s.bag i a;
  count = λ c.
      let out = sum_by-remove (message_count c) s.bag i m (slice_get_within s.bag i m e) in
      let it = ap (message_count c) (get_or_from_slice_get s.bag i m m e) in
      omega (arith, out, it);
  waited = λ caller op k. one.waited m caller op (among_at m s.bag i e) k;
}

pub all_rests : (s : State) (sub : Subject) → is_operation sub ≡ false → Rests s s.bag sub
all_rests s sub plain = record {
  members = λ m a. a;
  count = λ c. let none : own_count c sub ≡ 0 = ap (λ b. cond {A = ℕ} b 1 0) (not_client c sub plain) in omega (arith, none);
  waited = λ caller op k. absurd (true≢false (sym (ap is_operation k) ∙ plain));
}

-- a member that passes is counted
among_counted : (c : ℕ) (m : Message) (xs : List Message) → Among m xs → is_of_client c (subject m.packet) ≡ true → 1 ≤ flights_of c xs
among_counted c m [] a e = absurd a
among_counted c m (x ∷ xs) (inl h) e =
    let one : message_count c x ≡ 1 = ap (message_count c) (sym h) ∙ ap (λ b. cond {A = ℕ} b 1 0) e in
    omega (arith, one, sum_by-cons (message_count c) x xs)
among_counted c m (x ∷ xs) (inr h) e = omega (arith, among_counted c m xs h e, sum_by-cons (message_count c) x xs)

of_client : (c caller op : ℕ) (sub : Subject) → sub ≡ OfOperation caller op → caller ≡ c → is_of_client c sub ≡ true
of_client c caller op sub e k = ap (is_of_client c) e ∙ eq-eqb caller c k

-- clients wait as before, and one packet is handled
pub flight_goes_on : (config : Config) (s t : State) (rest out : List Message) (sub : Subject) → OneFlightPerOperation s → Rests s rest sub → Adds config sub out → t.bag ≡ rest ++ out
    → length t.clients ≡ length s.clients → ((c : ℕ) → (client_at t c).waits ≡ (client_at s c).waits) → OneFlightPerOperation t
flight_goes_on config s t rest out sub one rests adds bag size waits = record { waited = waited; one = count }
  where
    waits_so : (caller op : ℕ) → (caller < length s.clients) × ((client_at s caller).waits ≡ Some op) → (caller < length t.clients) × ((client_at t caller).waits ≡ Some op)
    waits_so caller op h = (subst (λ n. caller < n) (sym size) h.0, waits caller ∙ h.1)

    waited : (m : Message) (caller op : ℕ) → Among m t.bag → subject m.packet ≡ OfOperation caller op → (caller < length t.clients) × ((client_at t caller).waits ≡ Some op)
    waited m caller op a e = by (among_append m rest out (subst (Among m) bag a))
      where
        by : Among m rest ⊎ Among m out → (caller < length t.clients) × ((client_at t caller).waits ≡ Some op)
        by (inl h) = waits_so caller op (one.waited m caller op (rests.members m h) e)
        by (inr h) = waits_so caller op (rests.waited caller op (adds.whose m caller op h e))

    count : (c : ℕ) → flights_of c t.bag ≡ open_count (client_at t c).waits
    count c =
        let both = ap (flights_of c) bag ∙ sum_by-append (message_count c) rest out in
        let same : flights_of c t.bag ≡ flights_of c s.bag = omega (arith, both, adds.count c, rests.count c) in
        same ∙ one.one c ∙ ap open_count (sym (waits c))

-- an operation is answered
pub flight_ends : (s t : State) (rest : List Message) (sub : Subject) (caller op : ℕ) (client : ClientState) → OneFlightPerOperation s → Rests s rest sub → sub ≡ OfOperation caller op → t.bag ≡ rest ++ []
    → t.clients ≡ set s.clients caller client → client.waits ≡ None → OneFlightPerOperation t
flight_ends s t rest sub caller op client one rests is bag clients none = record { waited = waited; one = count }
  where
    was : (caller < length s.clients) × ((client_at s caller).waits ≡ Some op)
    was = rests.waited caller op is

    bag_is : t.bag ≡ rest
    bag_is = bag ∙ append-nil rest

    gone : flights_of caller rest ≡ 0
    gone =
        let mine : own_count caller sub ≡ 1 = ap (λ b. cond {A = ℕ} b 1 0) (of_client caller caller op sub is refl) in
        let open_one : flights_of caller s.bag ≡ 1 = one.one caller ∙ ap open_count was.1 in
        omega (arith, mine, open_one, rests.count caller)

    other : (c : ℕ) → c ≢ caller → client_at t c ≡ client_at s c
    other c n = ap (λ cs. get_or cs c nobody) clients ∙ get_or-set_other s.clients caller c client nobody n

    waited : (m : Message) (c o : ℕ) → Among m t.bag → subject m.packet ≡ OfOperation c o → (c < length t.clients) × ((client_at t c).waits ≡ Some o)
    waited m c o a e = by (cases_eq c caller)
      where
        here : Among m rest
        here = subst (Among m) bag_is a

        by : (c ≡ caller) ⊎ (c ≡ caller → ⊥) → (c < length t.clients) × ((client_at t c).waits ≡ Some o)
        by (inl k) = absurd (omega (arith, gone, among_counted caller m rest here (of_client caller c o (subject m.packet) e k)))
        by (inr n) =
            let h = one.waited m c o (rests.members m here) e in
            let size : length t.clients ≡ length s.clients = ap length clients ∙ length-set s.clients caller client in
            (subst (λ w. c < w) (sym size) h.0, ap (λ (x : ClientState). x.waits) (other c n) ∙ h.1)

    count : (c : ℕ) → flights_of c t.bag ≡ open_count (client_at t c).waits
    count c = by (cases_eq c caller)
      where
        by : (c ≡ caller) ⊎ (c ≡ caller → ⊥) → flights_of c t.bag ≡ open_count (client_at t c).waits
        by (inl k) =
            let now : client_at t caller ≡ client = ap (λ cs. get_or cs caller nobody) clients ∙ get_or-set_same s.clients caller client nobody was.0 in
            let waits : (client_at t caller).waits ≡ None = ap (λ (x : ClientState). x.waits) now ∙ none in
            subst (λ w. flights_of w t.bag ≡ open_count (client_at t w).waits) (sym k) (ap (flights_of caller) bag_is ∙ gone ∙ sym (ap open_count waits))
        by (inr n) =
            let mine : own_count c sub ≡ 0 = ap (own_count c) is ∙ ap (λ b. cond {A = ℕ} b 1 0) (ne_eqb caller c (λ e. n (sym e))) in
            let same : flights_of c t.bag ≡ flights_of c s.bag = omega (arith, ap (flights_of c) bag_is, mine, rests.count c) in
            same ∙ one.one c ∙ ap (λ (x : ClientState). open_count x.waits) (sym (other c n))

-- an operation is sent
pub flight_begins : (s t : State) (x : Message) (caller op : ℕ) (client : ClientState) → OneFlightPerOperation s → subject x.packet ≡ OfOperation caller op → t.bag ≡ s.bag ++ x ∷ []
    → t.clients ≡ set s.clients caller client → (client_at s caller).waits ≡ None → client.waits ≡ Some op → caller < length s.clients → OneFlightPerOperation t
flight_begins s t x caller op client one is bag clients idle_before waits within = record { waited = waited; one = count }
  where
    size : length t.clients ≡ length s.clients
    size = ap length clients ∙ length-set s.clients caller client

    other : (c : ℕ) → c ≢ caller → client_at t c ≡ client_at s c
    other c n = ap (λ cs. get_or cs c nobody) clients ∙ get_or-set_other s.clients caller c client nobody n

    own : (client_at t caller).waits ≡ Some op
    own = ap (λ (w : ClientState). w.waits) (ap (λ cs. get_or cs caller nobody) clients ∙ get_or-set_same s.clients caller client nobody within) ∙ waits

    waited : (m : Message) (c o : ℕ) → Among m t.bag → subject m.packet ≡ OfOperation c o → (c < length t.clients) × ((client_at t c).waits ≡ Some o)
    waited m c o a e = by (among_append m s.bag (x ∷ []) (subst (Among m) bag a))
      where
        old : (c < length s.clients) × ((client_at s c).waits ≡ Some o) → (c ≡ caller) ⊎ (c ≡ caller → ⊥) → (c < length t.clients) × ((client_at t c).waits ≡ Some o)
        old h (inl k) = absurd (none-some o (sym idle_before ∙ ap (λ w. (client_at s w).waits) (sym k) ∙ h.1))
        old h (inr n) = (subst (λ w. c < w) (sym size) h.0, ap (λ (w : ClientState). w.waits) (other c n) ∙ h.1)

        by : Among m s.bag ⊎ Among m (x ∷ []) → (c < length t.clients) × ((client_at t c).waits ≡ Some o)
        by (inl h) = old (one.waited m c o h e) (cases_eq c caller)
        by (inr (inl k)) =
            let same : OfOperation c o ≡ OfOperation caller op = sym e ∙ ap (λ (w : Message). subject w.packet) k ∙ is in
            let callers : c ≡ caller = cc in
            let ops : o ≡ op = cc in
            (subst (λ w. w < length t.clients) (sym callers) (subst (λ w. caller < w) (sym size) within), ap (λ w. (client_at t w).waits) callers ∙ own ∙ ap Some (sym ops))
        by (inr (inr h)) = absurd h

    count : (c : ℕ) → flights_of c t.bag ≡ open_count (client_at t c).waits
    count c = by (cases_eq c caller)
      where
        both : flights_of c t.bag ≡ flights_of c s.bag + flights_of c (x ∷ [])
        both = ap (flights_of c) bag ∙ sum_by-append (message_count c) s.bag (x ∷ [])

        by : (c ≡ caller) ⊎ (c ≡ caller → ⊥) → flights_of c t.bag ≡ open_count (client_at t c).waits
        by (inl k) =
            let mine : message_count c x ≡ 1 = ap (λ b. cond {A = ℕ} b 1 0) (of_client c caller op (subject x.packet) is (sym k)) in
            let before : flights_of c s.bag ≡ 0 = one.one c ∙ ap (λ w. open_count (client_at s w).waits) k ∙ ap open_count idle_before in
            let after : open_count (client_at t c).waits ≡ 1 = ap (λ w. open_count (client_at t w).waits) k ∙ ap open_count own in
            omega (arith, both, mine, before, after)
        by (inr n) =
            let mine : message_count c x ≡ 0 = ap (own_count c) is ∙ ap (λ b. cond {A = ℕ} b 1 0) (ne_eqb caller c (λ e. n (sym e))) in
            let same : flights_of c t.bag ≡ flights_of c s.bag = omega (arith, both, mine) in
            same ∙ one.one c ∙ ap (λ (w : ClientState). open_count w.waits) (sym (other c n))

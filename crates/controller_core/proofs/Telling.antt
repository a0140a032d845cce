-- How a round of recovery goes on.
use Rattle.std.proofs.Common.{◌≡◌, ℕ, zero, suc, ◌+◌, ◌-◌, ◌<◌, ◌≤◌, Bool, true, false, cond, not, ◌&&◌, nat_eq, nat_le, nat_lt, List, [], ◌∷◌, ◌++◌, length, refl, sym, ap, ◌∙◌, arith}
use Rattle.std.specs.Prelude.{Option, None, Some, is_some, slice_index_or, slice_set, if◌then◌else◌}
use Rattle.std.specs.List.{list_all}
use Rattle.std.proofs.lemmas.Bool.{lt-ltb}
use Rattle.std.proofs.lemmas.List.{append-nil}
use Rattle.far_base.specs.declared.log.LogEntry.{LogEntry}
use Rattle.far_base.specs.declared.packet.Out.{Out}
use Rattle.far_base.specs.declared.packet.Packet.TheVariants.{TopAsk}
use Rattle.far_base.specs.declared.party.Party.TheVariants.{Switch}
use Rattle.far_base.specs.declared.plan.Config.{Config}
use Rattle.far_base.specs.declared.record.Record.{Record}
use Rattle.far_model.specs.Controller.{ControllerState, round_turn, told_round, client_told, round_stored, store_answered, store_outs, top_told, to_servers}
use Rattle.far_model.specs.Evictions.{Eviction, waits_job, removing, after_store}
use Rattle.far_model.specs.Parties.{Turn, idle, to_party}
use Rattle.far_model.specs.Rounds.{Round, asks_tops, has_told, telling_at}
use Rattle.recovery.specs.Waits.{waits_told, waits_stored}

-- a round that goes on, where the controller had another
pub turn_state : (config : Config) (c d : ControllerState) (r : Round) (out : List Out) → record c { round = None } ≡ record d { round = None } → (round_turn config c r []).state ≡ (round_turn config d r out).state
turn_state config c d r out h = by (asks_tops r)
  where
    by : (b : Bool) → (cond {A = Turn ControllerState} b (record { state = record c { round = Some (record r { asked = true }) }; out = [] ++ to_servers 0 config.servers (TopAsk r.number); notes = [] }) (record { state = record c { round = Some r }; out = []; notes = [] })).state ≡ (cond {A = Turn ControllerState} b (record { state = record d { round = Some (record r { asked = true }) }; out = out ++ to_servers 0 config.servers (TopAsk r.number); notes = [] }) (record { state = record d { round = Some r }; out = out; notes = [] })).state
    by true = ap (λ (s : ControllerState). record s { round = Some (record r { asked = true }) }) h
    by false = ap (λ (s : ControllerState). record s { round = Some r }) h

pub turn_out : (config : Config) (c d : ControllerState) (r : Round) (out : List Out) → out ++ (round_turn config c r []).out ≡ (round_turn config d r out).out
turn_out config c d r out = by (asks_tops r)
  where
    by : (b : Bool) → out ++ (cond {A = Turn ControllerState} b (record { state = record c { round = Some (record r { asked = true }) }; out = [] ++ to_servers 0 config.servers (TopAsk r.number); notes = [] }) (record { state = record c { round = Some r }; out = []; notes = [] })).out ≡ (cond {A = Turn ControllerState} b (record { state = record d { round = Some (record r { asked = true }) }; out = out ++ to_servers 0 config.servers (TopAsk r.number); notes = [] }) (record { state = record d { round = Some r }; out = out; notes = [] })).out
    by true = refl
    by false = append-nil out

turn_quiet : (config : Config) (c : ControllerState) (r : Round) (out : List Out) → (round_turn config c r out).notes ≡ []
turn_quiet config c r out = by (asks_tops r)
  where
    by : (b : Bool) → (cond {A = Turn ControllerState} b (record { state = record c { round = Some (record r { asked = true }) }; out = out ++ to_servers 0 config.servers (TopAsk r.number); notes = [] }) (record { state = record c { round = Some r }; out = out; notes = [] })).notes ≡ []
    by true = refl
    by false = refl

quiet_if : (b : Bool) (t : Turn ControllerState) (c : ControllerState) → t.notes ≡ [] → (cond b t (idle c)).notes ≡ []
quiet_if true t c h = h
quiet_if false t c h = refl

pub told_quiet : (config : Config) (c : ControllerState) (number caller total : ℕ) (item : Option Record) (o : Option Round) → (client_told config c number caller total item o).notes ≡ []
told_quiet config c number caller total item None = refl
told_quiet config c number caller total item (Some r) =
    let new = length (store_outs config c.next_job item) in
    quiet_if (nat_eq r.number number && waits_told r caller) (round_turn config (record c { next_job = c.next_job + new }) (told_round r caller total new) (store_outs config c.next_job item)) c (turn_quiet config (record c { next_job = c.next_job + new }) (told_round r caller total new) (store_outs config c.next_job item))

pub stored_quiet : (config : Config) (c : ControllerState) (job : ℕ) (o : Option Round) → (round_stored config c job o).notes ≡ []
stored_quiet config c job None = refl
stored_quiet config c job (Some r) = quiet_if (nat_le r.first_job job && (nat_lt job c.next_job && not (nat_eq r.stores 0))) (round_turn config c (record r { stores = r.stores - 1 }) []) c (turn_quiet config c (record r { stores = r.stores - 1 }) [])

pub answered_quiet : (config : Config) (c : ControllerState) (job : ℕ) (o : Option Eviction) → (store_answered config c job o).notes ≡ []
answered_quiet config c job None = stored_quiet config c job c.round
answered_quiet config c job (Some e) = by (waits_job job e) (stored_quiet config c job c.round)
  where
    by : (b : Bool) → (round_stored config c job c.round).notes ≡ [] → (cond b (record { state = record c { eviction = Some (removing e) }; out = to_party Switch (after_store e) ∷ []; notes = [] }) (round_stored config c job c.round)).notes ≡ []
    by true h = refl
    by false h = h

pub top_quiet : (config : Config) (c : ControllerState) (number server top : ℕ) (o : Option Round) → (top_told config c number server top o).notes ≡ []
top_quiet config c number server top None = refl
top_quiet config c number server top (Some r) = by (nat_eq r.number number && (r.asked && (nat_lt server (length r.tops) && not (is_some (slice_index_or r.tops server None)))))
  where
    by : (b : Bool) → (cond b (record { state = record c { round = Some (record r { tops = slice_set r.tops server (Some top) }) }; out = []; notes = [] }) (idle c)).notes ≡ []
    by true = refl
    by false = refl

-- ---- what a client told

abbrev pub told_turn : Config → ControllerState → ℕ → ℕ → Option Record → Round → Turn ControllerState
told_turn config c caller total item r = round_turn config (record c { round = None; next_job = c.next_job + length (store_outs config c.next_job item) }) (told_round r caller total (length (store_outs config c.next_job item))) []

told_is : (config : Config) (c : ControllerState) (number caller total : ℕ) (item : Option Record) (r : Round) → nat_eq r.number number ≡ true → waits_told r caller ≡ true → client_told config c number caller total item (Some r) ≡ round_turn config (record c { next_job = c.next_job + length (store_outs config c.next_job item) }) (told_round r caller total (length (store_outs config c.next_job item))) (store_outs config c.next_job item)
told_is config c number caller total item r e w = by (nat_eq r.number number) (waits_told r caller) e w
  where
    by : (a b : Bool) → a ≡ true → b ≡ true → cond (a && b) (round_turn config (record c { next_job = c.next_job + length (store_outs config c.next_job item) }) (told_round r caller total (length (store_outs config c.next_job item))) (store_outs config c.next_job item)) (idle c) ≡ round_turn config (record c { next_job = c.next_job + length (store_outs config c.next_job item) }) (told_round r caller total (length (store_outs config c.next_job item))) (store_outs config c.next_job item)
    by true true e w = refl
    by true false e w = absurd cc
    by false b e w = absurd cc

pub told_state : (config : Config) (c : ControllerState) (number caller total : ℕ) (item : Option Record) (r : Round) → nat_eq r.number number ≡ true → waits_told r caller ≡ true → (client_told config c number caller total item (Some r)).state ≡ (told_turn config c caller total item r).state
told_state config c number caller total item r e w =
    let new = length (store_outs config c.next_job item) in
    ap (λ (t : Turn ControllerState). t.state) (told_is config c number caller total item r e w) ∙ sym (turn_state config (record c { round = None; next_job = c.next_job + new }) (record c { next_job = c.next_job + new }) (told_round r caller total new) (store_outs config c.next_job item) refl)

pub told_out : (config : Config) (c : ControllerState) (number caller total : ℕ) (item : Option Record) (r : Round) → nat_eq r.number number ≡ true → waits_told r caller ≡ true → (client_told config c number caller total item (Some r)).out ≡ store_outs config c.next_job item ++ (told_turn config c caller total item r).out
told_out config c number caller total item r e w =
    let new = length (store_outs config c.next_job item) in
    ap (λ (t : Turn ControllerState). t.out) (told_is config c number caller total item r e w) ∙ sym (turn_out config (record c { round = None; next_job = c.next_job + new }) (record c { next_job = c.next_job + new }) (told_round r caller total new) (store_outs config c.next_job item))

-- ---- an answered store

abbrev pub counted_store : Round → ℕ → Round
counted_store r job = if nat_le r.first_job job then record r { stores = r.stores - 1 } else r

busy : (r : Round) → waits_stored r ≡ true → asks_tops r ≡ false
busy r w = by r.asked (list_all has_told r.told) (nat_eq r.stores 0) w
  where
    by : (a b n : Bool) → not n ≡ true → (not a && (b && n)) ≡ false
    by true b n w = refl
    by false true true w = absurd cc
    by false true false w = refl
    by false false n w = refl

ignored : (config : Config) (c : ControllerState) (r : Round) → asks_tops r ≡ false → c.round ≡ Some r → round_turn config (record c { round = None }) r [] ≡ idle c
ignored config c r e h = by (asks_tops r) e
  where
    same : record c { round = Some r } ≡ c
    same = ap (λ (o : Option Round). record c { round = o }) (sym h)

    by : (b : Bool) → b ≡ false → cond {A = Turn ControllerState} b (record { state = record c { round = Some (record r { asked = true }) }; out = [] ++ to_servers 0 config.servers (TopAsk r.number); notes = [] }) (record { state = record c { round = Some r }; out = []; notes = [] }) ≡ idle c
    by true e = absurd cc
    by false e = ap (λ (s : ControllerState). idle s) same

moved : (config : Config) (c : ControllerState) (r : Round) → round_turn config (record c { round = None }) r [] ≡ round_turn config c r []
moved config c r = by (asks_tops r)
  where
    by : (b : Bool) → cond {A = Turn ControllerState} b (record { state = record c { round = Some (record r { asked = true }) }; out = [] ++ to_servers 0 config.servers (TopAsk r.number); notes = [] }) (record { state = record c { round = Some r }; out = []; notes = [] }) ≡ cond {A = Turn ControllerState} b (record { state = record c { round = Some (record r { asked = true }) }; out = [] ++ to_servers 0 config.servers (TopAsk r.number); notes = [] }) (record { state = record c { round = Some r }; out = []; notes = [] })
    by true = refl
    by false = refl

pub stored_is : (config : Config) (c : ControllerState) (job : ℕ) (r : Round) → c.round ≡ Some r → job < c.next_job → waits_stored r ≡ true → round_stored config c job (Some r) ≡ round_turn config (record c { round = None }) (counted_store r job) []
stored_is config c job r h lt w = by (nat_le r.first_job job) (nat_lt job c.next_job) (not (nat_eq r.stores 0)) (lt-ltb job c.next_job lt) w
  where
    by : (a b n : Bool) → b ≡ true → n ≡ true → cond (a && (b && n)) (round_turn config c (record r { stores = r.stores - 1 }) []) (idle c) ≡ round_turn config (record c { round = None }) (cond a (record r { stores = r.stores - 1 }) r) []
    by true true true e k = sym (moved config c (record r { stores = r.stores - 1 }))
    by true true false e k = absurd cc
    by true false n e k = absurd cc
    by false b n e k = sym (ignored config c r (busy r w) h)

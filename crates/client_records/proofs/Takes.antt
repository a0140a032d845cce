-- What a client does with a packet is what the machine's client does with it.
use Rattle.std.proofs.Common.{◌≡◌, ℕ, Bool, true, false, ◌&&◌, cond, List, [], ◌∷◌, refl, sym, ap, ◌∙◌, subst}
use Rattle.std.specs.Prelude.{Option, None, Some, nat_lt}
use Rattle.far_base.specs.declared.log.LogEntry.TheVariants.{Answered}
use Rattle.far_base.specs.declared.packet.Packet.{Packet}
use Rattle.far_base.specs.declared.packet.Packet.TheVariants.{GetReq, WriteReq, GetFwd, WriteFwd, GetRep, WriteRep, GetAns, WriteAns, Hot, Admit, AdmitAck, Peek, PeekAns, Remove, RemoveAns, SnapStart, SnapBegun, SnapRead, SnapPart, Store, Stored, Release, Ask, Told, TopAsk, TopIs, SnapSame, SnapFrom}
use Rattle.far_base.specs.declared.plan.OpLine.{OpLine}
use Rattle.far_base.specs.declared.record.Record.{Record}
use Rattle.far_model.specs.Clients.{ClientState, client_takes, closed, preserves, line_of, answered_record, released_to, tells}
use Rattle.far_model.specs.KeyedRecords.{put_record}
use Rattle.far_model.specs.Parties.{Turn}
use Rattle.client_records.specs.ClientView.{ClientView, IsAnswer, state_of, seen_as, after_answer}

-- a client that waits for this line
abbrev pub waiting : ℕ → ℕ → OpLine → ℕ → List Record → ClientView
waiting number op line released preserved = record { number = number; waits = Some (op, line); released = released; preserved = preserved }

-- the turn of a client whose operation was answered
abbrev pub answered_turn : List ℕ → ClientView → ℕ → Packet → Turn ClientState
answered_turn left c op packet = record { state = state_of left (after_answer c packet); out = []; notes = Answered op ∷ [] }

-- what is preserved does not hang on what is still to be sent
preserves_alike : (left : List ℕ) (released : ℕ) (preserved : List Record) (kept : Bool) (r : Record)
    → preserves (record { waits = None; left = left; released = released; preserved = preserved }) kept r
    ≡ (let s = preserves (record { waits = None; left = []; released = released; preserved = preserved }) kept r in record { waits = None; left = left; released = s.released; preserved = s.preserved })
preserves_alike left released preserved kept r = by (kept && nat_lt released r.num)
  where
    by : (b : Bool) → (cond {A = ClientState} b (record { waits = None; left = left; released = released; preserved = put_record r preserved }) (record { waits = None; left = left; released = released; preserved = preserved }))
        ≡ (let s = cond {A = ClientState} b (record { waits = None; left = []; released = released; preserved = put_record r preserved }) (record { waits = None; left = []; released = released; preserved = preserved }) in record { waits = None; left = left; released = s.released; preserved = s.preserved })
    by true = refl
    by false = refl

pub answer_taken : (ops : List OpLine) (left : List ℕ) (number op : ℕ) (line : OpLine) (released : ℕ) (preserved : List Record) (packet : Packet)
    → line ≡ line_of ops op → IsAnswer (Some (op, line)) packet
    → client_takes ops number (state_of left (waiting number op line released preserved)) packet ≡ answered_turn left (waiting number op line released preserved) op packet
answer_taken ops left number op line released preserved (GetAns caller other key num body near) e h = ap (λ (o : ℕ). record { state = record { waits = None; left = left; released = released; preserved = preserved }; out = []; notes = Answered o ∷ [] }) h
answer_taken ops left number op line released preserved (WriteAns caller other key num kept) e h =
    ap (λ (o : ℕ). record { state = preserves (record { waits = None; left = left; released = released; preserved = preserved }) kept (answered_record ops o num); out = []; notes = Answered o ∷ [] }) h
    ∙ ap (λ (l : OpLine). record { state = preserves (record { waits = None; left = left; released = released; preserved = preserved }) kept (record { key = l.key; num = num; body = l.body }); out = []; notes = Answered op ∷ [] }) (sym e)
    ∙ ap (λ (s : ClientState). record { state = s; out = []; notes = Answered op ∷ [] }) (preserves_alike left released preserved kept (record { key = line.key; num = num; body = line.body }))
answer_taken ops left number op line released preserved (GetReq a b c) e h = absurd h
answer_taken ops left number op line released preserved (WriteReq a b c d) e h = absurd h
answer_taken ops left number op line released preserved (GetFwd a b c d) e h = absurd h
answer_taken ops left number op line released preserved (WriteFwd a b c d f) e h = absurd h
answer_taken ops left number op line released preserved (GetRep a b c d f g) e h = absurd h
answer_taken ops left number op line released preserved (WriteRep a b c d f) e h = absurd h
answer_taken ops left number op line released preserved (Hot a) e h = absurd h
answer_taken ops left number op line released preserved (Admit a b c d) e h = absurd h
answer_taken ops left number op line released preserved (AdmitAck a b) e h = absurd h
answer_taken ops left number op line released preserved (Peek a b c) e h = absurd h
answer_taken ops left number op line released preserved (PeekAns a b c d f) e h = absurd h
answer_taken ops left number op line released preserved (Remove a b c d f) e h = absurd h
answer_taken ops left number op line released preserved (RemoveAns a b c d f g) e h = absurd h
answer_taken ops left number op line released preserved (SnapStart a b) e h = absurd h
answer_taken ops left number op line released preserved (SnapBegun a b) e h = absurd h
answer_taken ops left number op line released preserved (SnapRead a b c) e h = absurd h
answer_taken ops left number op line released preserved (SnapPart a b c) e h = absurd h
answer_taken ops left number op line released preserved (Store a b) e h = absurd h
answer_taken ops left number op line released preserved (Stored a) e h = absurd h
answer_taken ops left number op line released preserved (Release a) e h = absurd h
answer_taken ops left number op line released preserved (Ask a) e h = absurd h
answer_taken ops left number op line released preserved (Told a b c d) e h = absurd h
answer_taken ops left number op line released preserved (TopAsk a) e h = absurd h
answer_taken ops left number op line released preserved (TopIs a b c) e h = absurd h
answer_taken ops left number op line released preserved (SnapSame a b) e h = absurd h
answer_taken ops left number op line released preserved (SnapFrom a b c) e h = absurd h

-- a release
pub release_taken : (ops : List OpLine) (left : List ℕ) (c : ClientView) (point : ℕ)
    → client_takes ops c.number (state_of left c) (Release point) ≡ record { state = state_of left (seen_as c (released_to point (state_of [] c))); out = []; notes = [] }
release_taken ops left c point = refl

-- a question leaves the client as it was, and is answered by all that it tells
pub ask_taken : (ops : List OpLine) (left : List ℕ) (c : ClientView) (round : ℕ)
    → client_takes ops c.number (state_of left c) (Ask round) ≡ record { state = state_of left c; out = tells round c.number c.preserved; notes = [] }
ask_taken ops left c round = refl

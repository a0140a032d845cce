-- Records, keys and tags, as the invariants have them.
use Rattle.far_invariants.specs.Holds.{Holds}
use Rattle.std.proofs.Common.{◌≡◌, true, sym, ◌∙◌}
use Rattle.std.proofs.lemmas.Option.{same_Some}
use Rattle.far_base.specs.Limits.{IsPlan}
use Rattle.far_base.specs.PlanView.{PlanView}
use Rattle.far_model.specs.State.{State}
use Rattle.far_invariants.specs.DrawnTags.{SlotTagsAreDrawn}
use Rattle.far_invariants.specs.Past.{Past}
use Rattle.far_invariants.specs.Records.{RecordsEverywhere}
use Rattle.far_invariants.specs.Recoveries.{recovered_last}
use Rattle.far_invariants.specs.SlotMatch.{KeysHaveOneSlot}
use Rattle.eviction_laws.proofs.Drawing.{slot_drawn}
use Rattle.run_laws.proofs.Everywhere.{records_everywhere}
use Rattle.far_base.specs.declared.record.Record.{Record}
use Rattle.far_invariants.specs.Records.{IsRecord}
use Rattle.far_invariants.specs.SlotMatch.{SlotsMatch}
use Rattle.eviction_laws.proofs.Matching.{slots_match}
use Rattle.flight_laws.proofs.SnapOwing.{written_agree}
use Rattle.record_laws.proofs.Seats.{Seats}
use Rattle.run_laws.proofs.Holding.{numbers, outside}
use Rattle.run_laws.proofs.Seating.{seats_of}

module _ (plan : PlanView) (past : Past) (s : State) (valid : IsPlan plan) (h : Holds plan past s) where
  pub everywhere : RecordsEverywhere plan s
  everywhere = records_everywhere plan (recovered_last past) past.starts s (numbers plan past s valid h) h.shown h.flight.one h.stops h.evictions h.snapshots h.starts

  -- a key has at most one valid slot, running or not
  pub one_slot : KeysHaveOneSlot s
  one_slot i j key a b x y = same_Some i j (sym (h.seated.slots.owned i key a x) ∙ h.seated.slots.owned j key b y)

  pub tags_drawn : SlotTagsAreDrawn s past.drawn
  tags_drawn = slot_drawn plan past s h

  -- while the switch runs
  pub seats : s.running ≡ true → Seats plan s
  seats on = seats_of plan s h.seated on (outside plan past s valid h on)

  pub matched : SlotsMatch s
  matched on out = slots_match plan s (seats on).slots (seats on).admissions h.evictions on out

  -- written records of one key and number have one body
  pub agree : (r q : Record) → IsRecord plan s r → IsRecord plan s q → r.key ≡ q.key → r.num ≡ q.num → r.body ≡ q.body
  agree r q a b key num = written_agree plan s s.steps s.steps r q h.stops.differ a b num

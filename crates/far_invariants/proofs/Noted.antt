-- The lines of a log to which a step has added its notes.
use Rattle.std.proofs.Common.{◌≡◌, ℕ, ◌⊎◌, inl, inr, List, map, sym, subst}
use Rattle.far_base.specs.declared.log.LogEntry.{LogEntry}
use Rattle.far_base.specs.declared.log.LogLine.{LogLine}
use Rattle.far_model.specs.Members.{Among}
use Rattle.far_model.specs.State.{State, line_at, noted, now}
use Rattle.far_model.proofs.Members.{among_append, among_append_left, among_append_right, among_map, among_map_from}

pub record IsNote (notes : List LogEntry) (moment : ℕ) (l : LogLine) : Type 0 where
  pub entry : LogEntry
  pub among : Among entry notes
  pub is : l ≡ line_at moment entry

module _ (s t : State) (notes : List LogEntry) (e : t.log ≡ noted s notes) where
  pub member : (l : LogLine) → Among l s.log → Among l t.log
  member l h = subst (λ w. Among l w) (sym e) (among_append_left l s.log (map (line_at (now s)) notes) h)

  pub note_member : (entry : LogEntry) → Among entry notes → Among (line_at (now s) entry) t.log
  note_member entry h = subst (λ w. Among (line_at (now s) entry) w) (sym e) (among_append_right (line_at (now s) entry) s.log (map (line_at (now s)) notes) (among_map (line_at (now s)) entry notes h))

  pub log_cases : (l : LogLine) → Among l t.log → Among l s.log ⊎ IsNote notes (now s) l
  log_cases l h = go (among_append l s.log (map (line_at (now s)) notes) (subst (λ w. Among l w) e h))
    where
      go : Among l s.log ⊎ Among l (map (line_at (now s)) notes) → Among l s.log ⊎ IsNote notes (now s) l
      go (inl k) = inl k
      go (inr k) = let p = among_map_from (line_at (now s)) l notes k in inr (record { entry = p.0; among = p.1; is = p.2 })

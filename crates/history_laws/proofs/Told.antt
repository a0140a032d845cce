-- The first line that tells something, and the line that an operation has.
use Rattle.std.proofs.Common.{◌≡◌, ℕ, inl, inr, Bool, true, false, List, [], ◌∷◌, refl, sym, ◌∙◌, subst, eq-eqb, eqb-true}
use Rattle.std.specs.Prelude.{Option, Some, None, ◌==◌, if◌then◌else◌}
use Rattle.std.proofs.lemmas.Option.{same_Some}
use Rattle.far_base.specs.declared.plan.OpLine.{OpLine}
use Rattle.far_base.specs.declared.log.LogLine.{LogLine}
use Rattle.far_base.specs.declared.log.LogEntry.{LogEntry}
use Rattle.far_base.specs.declared.log.LogEntry.TheVariants.{Sent, Numbered, Emitted, Answered}
use Rattle.far_model.specs.Members.{Among, Pairs}
use Rattle.far_model.specs.Log.{At, Answer, first_told, or_later, sent_by, numbered_by, emitted_by, answered_by, sending, numbering, emission, answering}
use Rattle.far_model.specs.Coherent.{Rises, Earlier}
use Rattle.far_model.proofs.Members.{each_among}

-- a line that tells what was told
pub record Tells {X : Type 0} (tells : LogEntry → Option X) (log : List LogLine) (a : At X) : Type 0 where
  pub entry : LogEntry
  pub line : Among (record { moment = a.moment; entry = entry }) log
  pub told : tells entry ≡ Some a.what

-- what was told first stands in a line
pub told_line : {X : Type 0} → (tells : LogEntry → Option X) (log : List LogLine) (a : At X) → first_told tells log ≡ Some a → Tells tells log a
told_line tells [] a h = absurd cc
told_line tells (l ∷ ls) a h = go (λ k. told_line tells ls a k) (tells l.entry) refl h
  where
    go : (first_told tells ls ≡ Some a → Tells tells ls a) → (o : Option _) → tells l.entry ≡ o → or_later l.moment o (first_told tells ls) ≡ Some a → Tells tells (l ∷ ls) a
    go g None e k = let t = g k in record { entry = t.entry; line = inr t.line; told = t.told }
    go g (Some x) e k =
        let f : record { moment = l.moment; what = x } ≡ a = same_Some _ _ k in
        subst (λ (w : At _). Tells tells (l ∷ ls) w) f (record { entry = l.entry; line = inl refl; told = e })

-- where no two lines tell it, each line that tells it is the first
pub first_is : {X : Type 0} → (tells : LogEntry → Option X) (R : LogLine → LogLine → Type 0) → ((l m : LogLine) (x y : X) → R l m → tells l.entry ≡ Some x → tells m.entry ≡ Some y → ⊥)
    → (log : List LogLine) (l : LogLine) (x : X) → Pairs R log → Among l log → tells l.entry ≡ Some x → first_told tells log ≡ Some (record { moment = l.moment; what = x })
first_is tells R once [] l x o h t = absurd h
first_is tells R once (m ∷ ms) l x o (inl e) t = rw (sym e) (rw t refl)
first_is tells R once (m ∷ ms) l x o (inr h) t = go (first_is tells R once ms l x o.1 h t) (tells m.entry) refl
  where
    go : first_told tells ms ≡ Some (record { moment = l.moment; what = x }) → (p : Option _) → tells m.entry ≡ p → or_later m.moment p (first_told tells ms) ≡ Some (record { moment = l.moment; what = x })
    go g None e = g
    go g (Some y) e = absurd (once m l y x (each_among (R m) l ms o.0 h) e t)

chosen : {X : Type 0} → (b : Bool) (x y : X) → (if b then Some x else None) ≡ Some y → (b ≡ true) × (x ≡ y)
chosen true x y h = (refl, same_Some x y h)
chosen false x y h = absurd cc

sent_entry : (op : ℕ) (e : LogEntry) (x : OpLine) → sent_by op e ≡ Some x → e ≡ Sent op x
sent_entry op (Sent other line) x h = let c = chosen (other == op) line x h in λ i. Sent (eqb-true other op c.0 i) (c.1 i)
sent_entry op _ x h = absurd cc

numbered_entry : (op : ℕ) (e : LogEntry) (x : ℕ) → numbered_by op e ≡ Some x → e ≡ Numbered op x
numbered_entry op (Numbered other num) x h = let c = chosen (other == op) num x h in λ i. Numbered (eqb-true other op c.0 i) (c.1 i)
numbered_entry op _ x h = absurd cc

emitted_entry : (op : ℕ) (e : LogEntry) (x : Answer) → emitted_by op e ≡ Some x → e ≡ Emitted op x.num x.body x.near
emitted_entry op (Emitted other num body near) x h =
    let c = chosen (other == op) (record { num = num; body = body; near = near }) x h in
    λ i. Emitted (eqb-true other op c.0 i) (c.1 i).num (c.1 i).body (c.1 i).near
emitted_entry op _ x h = absurd cc

answered_entry : (op : ℕ) (e : LogEntry) (x : ℕ) → answered_by op e ≡ Some x → e ≡ Answered op
answered_entry op (Answered other) x h = let c = chosen (other == op) other x h in λ i. Answered (eqb-true other op c.0 i)
answered_entry op _ x h = absurd cc

answered_number : (op : ℕ) (e : LogEntry) (x : ℕ) → answered_by op e ≡ Some x → x ≡ op
answered_number op (Answered other) x h = let c = chosen (other == op) other x h in sym c.1 ∙ eqb-true other op c.0
answered_number op _ x h = absurd cc

-- what an answering line tells is its operation
pub answering_what : (log : List LogLine) (op : ℕ) (a : At ℕ) → answering log op ≡ Some a → a.what ≡ op
answering_what log op a h = let t = told_line (answered_by op) log a h in answered_number op t.entry a.what t.told

pub sending_line : (log : List LogLine) (op : ℕ) (s : At OpLine) → sending log op ≡ Some s → Among (record { moment = s.moment; entry = Sent op s.what }) log
sending_line log op s h =
    let t = told_line (sent_by op) log s h in
    subst (λ w. Among (record { moment = s.moment; entry = w }) log) (sent_entry op t.entry s.what t.told) t.line

pub numbering_line : (log : List LogLine) (op : ℕ) (n : At ℕ) → numbering log op ≡ Some n → Among (record { moment = n.moment; entry = Numbered op n.what }) log
numbering_line log op n h =
    let t = told_line (numbered_by op) log n h in
    subst (λ w. Among (record { moment = n.moment; entry = w }) log) (numbered_entry op t.entry n.what t.told) t.line

pub emission_line : (log : List LogLine) (op : ℕ) (e : At Answer) → emission log op ≡ Some e → Among (record { moment = e.moment; entry = Emitted op e.what.num e.what.body e.what.near }) log
emission_line log op e h =
    let t = told_line (emitted_by op) log e h in
    subst (λ w. Among (record { moment = e.moment; entry = w }) log) (emitted_entry op t.entry e.what t.told) t.line

pub answering_line : (log : List LogLine) (op : ℕ) (a : At ℕ) → answering log op ≡ Some a → Among (record { moment = a.moment; entry = Answered op }) log
answering_line log op a h =
    let t = told_line (answered_by op) log a h in
    subst (λ w. Among (record { moment = a.moment; entry = w }) log) (answered_entry op t.entry a.what t.told) t.line

-- in a log in which each of them stands once, a line is the first of its kind
module _ (log : List LogLine) (order : Pairs Earlier log) where
  rises : (e f e' f' : LogEntry) → e ≡ e' → f ≡ f' → Rises e f → Rises e' f'
  rises e f e' f' p q r = subst (λ w. Rises w f') p (subst (λ w. Rises e w) q r)

  pub sending_is : (op at : ℕ) (line : OpLine) → Among (record { moment = at; entry = Sent op line }) log → sending log op ≡ Some (record { moment = at; what = line })
  sending_is op at line h = first_is (sent_by op) Earlier (λ l m x y r p q. rises l.entry m.entry (Sent op x) (Sent op y) (sent_entry op l.entry x p) (sent_entry op m.entry y q) r.1 refl) log (record { moment = at; entry = Sent op line }) line order h (rw (eq-eqb op op refl) refl)

  pub numbering_is : (op at num : ℕ) → Among (record { moment = at; entry = Numbered op num }) log → numbering log op ≡ Some (record { moment = at; what = num })
  numbering_is op at num h = first_is (numbered_by op) Earlier (λ l m x y r p q. (rises l.entry m.entry (Numbered op x) (Numbered op y) (numbered_entry op l.entry x p) (numbered_entry op m.entry y q) r.1).0 refl) log (record { moment = at; entry = Numbered op num }) num order h (rw (eq-eqb op op refl) refl)

  pub emission_is : (op at num : ℕ) (body : Option (List ℕ)) (near : Bool) → Among (record { moment = at; entry = Emitted op num body near }) log → emission log op ≡ Some (record { moment = at; what = record { num = num; body = body; near = near } })
  emission_is op at num body near h = first_is (emitted_by op) Earlier (λ l m x y r p q. rises l.entry m.entry (Emitted op x.num x.body x.near) (Emitted op y.num y.body y.near) (emitted_entry op l.entry x p) (emitted_entry op m.entry y q) r.1 refl) log (record { moment = at; entry = Emitted op num body near }) (record { num = num; body = body; near = near }) order h (rw (eq-eqb op op refl) refl)

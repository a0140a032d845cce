use Rattle.std.proofs.Common.{sym, ap, ◌∙◌, refl, subst}
use Rattle.lookup_table.specs.declared.place.Place.TheVariants.{Cell, Overflow}
use Rattle.lookup_table.specs.Sound.{IsPairAt, Nowhere}
use Rattle.lookup_table.specs.Table.{LookupView}
use Rattle.lookup_table.proofs.Bound.{unbound_none}
use Rattle.lookup_table.proofs.Places.{drops}
use Rattle.lookup_table.proofs.lookup.Lookup.drop_pair.Goals as goal

pub returns-in-Some-Cell-clause-bound : goal.returns-in-Some-Cell-clause-bound
returns-in-Some-Cell-clause-bound c =
    let pair = subst (λ q. IsPairAt c.args.key.now q c.args.self.now) c.in-Some-Cell.field-0-is c.in-Some-Cell.ensures.pair in
    ap (λ (v : LookupView). v.bound) c.vacate_cell.ensures ∙ (drops c.args.key.now c.args.self.now (Cell c.in-Some-Cell.bucket c.in-Some-Cell.cell) c.place.ensures.sound pair).bound

pub returns-in-Some-Cell-clause-gone : goal.returns-in-Some-Cell-clause-gone
returns-in-Some-Cell-clause-gone c =
    let pair = subst (λ q. IsPairAt c.args.key.now q c.args.self.now) c.in-Some-Cell.field-0-is c.in-Some-Cell.ensures.pair in
    subst (Nowhere c.args.key.now) (sym (ap (λ (v : LookupView). v.bound) c.vacate_cell.ensures)) (drops c.args.key.now c.args.self.now (Cell c.in-Some-Cell.bucket c.in-Some-Cell.cell) c.place.ensures.sound pair).gone

pub returns-in-Some-Overflow-clause-bound : goal.returns-in-Some-Overflow-clause-bound
returns-in-Some-Overflow-clause-bound c =
    let pair = subst (λ q. IsPairAt c.args.key.now q c.args.self.now) c.in-Some-Overflow.field-0-is c.in-Some-Overflow.ensures.pair in
    ap (λ (v : LookupView). v.bound) c.vacate_overflow.ensures ∙ (drops c.args.key.now c.args.self.now (Overflow c.in-Some-Overflow.at) c.place.ensures.sound pair).bound

pub returns-in-Some-Overflow-clause-gone : goal.returns-in-Some-Overflow-clause-gone
returns-in-Some-Overflow-clause-gone c =
    let pair = subst (λ q. IsPairAt c.args.key.now q c.args.self.now) c.in-Some-Overflow.field-0-is c.in-Some-Overflow.ensures.pair in
    subst (Nowhere c.args.key.now) (sym (ap (λ (v : LookupView). v.bound) c.vacate_overflow.ensures)) (drops c.args.key.now c.args.self.now (Overflow c.in-Some-Overflow.at) c.place.ensures.sound pair).gone

pub returns-in-None-clause-bound : goal.returns-in-None-clause-bound
returns-in-None-clause-bound c = sym (unbound_none c.args.key.now c.args.self.now.bound (c.in-None.ensures.none refl))

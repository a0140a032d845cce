use Rattle.std.proofs.Common.{sym, ap, ◌∙◌, subst, arith}
use Rattle.std.specs.Prelude.{Some, None}
use Rattle.far_base.specs.declared.kept.KeptItem.{KeptItem}
use Rattle.kept_image.specs.Reading.{IsPlaceOf}
use Rattle.kept_image.proofs.IndexLaws.{place_within, conflict_at, agree_at, agree_new, false_of, true_of}
use Rattle.kept_image.proofs.reader.Reader.contradicts.Goals as goal

pub index-requires : goal.index-requires
index-requires c =
    let p : IsPlaceOf c.args.self.now.items.items c.args.rec.now.key c.args.rec.now.num (Some c.in-Some.place.now) = subst (IsPlaceOf c.args.self.now.items.items c.args.rec.now.key c.args.rec.now.num) (sym c.in-Some.ensures.value) (c.requires.places c.args.rec.now.key c.args.rec.now.num) in
    omega (arith, place_within c.args.self.now.items.items c.args.rec.now.key c.args.rec.now.num c.in-Some.place.now p, c.args.self.now.items.ok)

pub returns-in-Some-clause-yes : goal.returns-in-Some-clause-yes
returns-in-Some-clause-yes c = λ is.
    let p : IsPlaceOf c.args.self.now.items.items c.args.rec.now.key c.args.rec.now.num (Some c.in-Some.place.now) = subst (IsPlaceOf c.args.self.now.items.items c.args.rec.now.key c.args.rec.now.num) (sym c.in-Some.ensures.value) (c.requires.places c.args.rec.now.key c.args.rec.now.num) in
    conflict_at c.args.self.now.items.items c.args.rec.now c.in-Some.place.now c.index.result.now p (λ e. c.is_same.ensures.other (false_of c.is_same.result is) (ap (λ (i : KeptItem). i.rec.body) c.index.ensures ∙ e))

pub returns-in-Some-clause-no : goal.returns-in-Some-clause-no
returns-in-Some-clause-no c = λ is.
    let p : IsPlaceOf c.args.self.now.items.items c.args.rec.now.key c.args.rec.now.num (Some c.in-Some.place.now) = subst (IsPlaceOf c.args.self.now.items.items c.args.rec.now.key c.args.rec.now.num) (sym c.in-Some.ensures.value) (c.requires.places c.args.rec.now.key c.args.rec.now.num) in
    agree_at c.args.self.now.items.items c.args.rec.now c.in-Some.place.now c.index.result.now c.requires.agree p (sym (ap (λ (i : KeptItem). i.rec.body) c.index.ensures) ∙ c.is_same.ensures.same (true_of c.is_same.result is))

pub returns-in-None-clause-no : goal.returns-in-None-clause-no
returns-in-None-clause-no c = λ is.
    let p : IsPlaceOf c.args.self.now.items.items c.args.rec.now.key c.args.rec.now.num None = subst (IsPlaceOf c.args.self.now.items.items c.args.rec.now.key c.args.rec.now.num) (sym c.in-None.ensures.value) (c.requires.places c.args.rec.now.key c.args.rec.now.num) in
    agree_new c.args.self.now.items.items c.args.rec.now c.requires.agree p

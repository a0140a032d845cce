-- A key is bound where its mark allows it, and marks keep pace with the pairs.
use Rattle.std.proofs.Common.{◌≡◌, ℕ, zero, suc, ◌<◌, true, List, [], ◌∷◌, inl, inr, length, replicate, set, get_or, refl, sym, ◌∙◌, subst, ap, arith, Option, None, Some}
use Rattle.std.specs.Prelude.{eqb}
use Rattle.std.proofs.lemmas.Bool.Decides.{eqb_tells}
use Rattle.std.proofs.lemmas.List.{length-set, length-replicate, get_or-set_same}
use Rattle.lookup_table.specs.declared.mark.Mark.{Mark}
use Rattle.lookup_table.specs.declared.mark.Mark.TheVariants.{Free, One, Several}
use Rattle.lookup_table.specs.declared.place.Place.{Place}
use Rattle.lookup_table.specs.Marks.{AreMarked, allows, mark_at, mark_of, marked_with}
use Rattle.lookup_table.specs.Sound.{IsAlone, IsSound, Nowhere}
use Rattle.lookup_table.specs.Table.{LookupView, key_at, place_of}
use Rattle.lookup_table.proofs.Counts.{set_key}
use Rattle.lookup_table.proofs.Empty.{none_keyed}
use Rattle.lookup_table.proofs.Places.{pair_at}

-- a key whose mark is free is not bound
pub free_nowhere : (key : List ℕ) (bound : List (Option (List ℕ))) (marks : List Mark) → AreMarked bound marks → mark_at marks key ≡ Free → Nowhere key bound
free_nowhere key bound marks m free slot e =
    let may : allows (mark_at marks key) slot ≡ true = m.each slot key e in
    let may : allows Free slot ≡ true = subst (λ k. allows k slot ≡ true) free may in
    absurd cc

pub unmarked : (key : List ℕ) (t : LookupView) (marks : List Mark) → IsSound t → AreMarked t.bound marks → mark_at marks key ≡ Free → place_of key t ≡ None
unmarked key t marks h m free = go (place_of key t) refl
  where
    go : (p : Option Place) → place_of key t ≡ p → place_of key t ≡ None
    go None e = e
    go (Some p) e = let pair = pair_at key t p h e in absurd (free_nowhere key t.bound marks m free pair.slot pair.keyed)

same_slot : (a b : ℕ) → eqb a b ≡ true → a ≡ b
same_slot a b e = elim (eqb_tells a b) [ inl y ↦ y.1 | inr n ↦ absurd cc ]

one_slot : (marks : List Mark) (key : List ℕ) (only slot : ℕ) → mark_at marks key ≡ One only → allows (mark_at marks key) slot ≡ true → only ≡ slot
one_slot marks key only slot one may = same_slot only slot (subst (λ k. allows k slot ≡ true) one may)

-- a key whose mark tells one slot is bound to no other
pub one_alone : (key : List ℕ) (bound : List (Option (List ℕ))) (marks : List Mark) (only : ℕ) → AreMarked bound marks → mark_at marks key ≡ One only → IsAlone key only bound
one_alone key bound marks only m one other e = sym (one_slot marks key only other one (m.each other key e))

-- no pair needs a mark
pub none_marked : (n : ℕ) → AreMarked (replicate n None) (replicate 8192 Free)
none_marked n = record { count = length-replicate 8192 Free; each = λ slot key e. absurd (none_keyed n slot key e) }

still_there : (bound : List (Option (List ℕ))) (s slot : ℕ) (key : List ℕ) → key_at (set bound s None) slot ≡ Some key → key_at bound slot ≡ Some key
still_there [] s slot key e = e
still_there (b ∷ bs) zero zero key e = absurd cc
still_there (b ∷ bs) zero (suc slot) key e = e
still_there (b ∷ bs) (suc s) zero key e = e
still_there (b ∷ bs) (suc s) (suc slot) key e = still_there bs s slot key e

pub fewer_marked : (bound : List (Option (List ℕ))) (marks : List Mark) (s : ℕ) → AreMarked bound marks → AreMarked (set bound s None) marks
fewer_marked bound marks s m = record { count = m.count; each = λ slot key e. m.each slot key (still_there bound s slot key e) }

-- the mark of one more key allows its slot, and what it allowed
with_slot : (m : Mark) (slot : ℕ) → allows (marked_with slot m) slot ≡ true
with_slot Free slot = elim (eqb_tells slot slot) [ inl y ↦ y.0 | inr n ↦ absurd (n.1 refl) ]
with_slot (One other) slot = refl
with_slot Several slot = refl

with_more : (m : Mark) (new slot : ℕ) → allows m slot ≡ true → allows (marked_with new m) slot ≡ true
with_more Free new slot e = absurd cc
with_more (One other) new slot e = refl
with_more Several new slot e = refl

-- what is put in one place stands there, and in no other
put_at : (P : Mark → Type 0) (marks : List Mark) (at i : ℕ) (m : Mark) → at < length marks → (i ≡ at → P m) → P (get_or marks i Free) → P (get_or (set marks at m) i Free)
put_at P [] at i m l there else = absurd (omega (arith, l))
put_at P (x ∷ xs) zero zero m l there else = there refl
put_at P (x ∷ xs) zero (suc i) m l there else = else
put_at P (x ∷ xs) (suc at) zero m l there else = else
put_at P (x ∷ xs) (suc at) (suc i) m l there else = put_at P xs at i m (omega (arith, l)) (λ e. there (ap suc e)) else

more_marked : (bound : List (Option (List ℕ))) (marks : List Mark) (s : ℕ) (new : List ℕ) → s < length bound → mark_of new < 8192 → AreMarked bound marks
    → AreMarked (set bound s (Some new)) (set marks (mark_of new) (marked_with s (mark_at marks new)))
more_marked bound marks s new b l m = record {
  count = length-set marks (mark_of new) (marked_with s (mark_at marks new)) ∙ m.count;
  each = λ slot key e. elim (set_key bound s slot new key b e) [
    | inl is ↦ subst (λ k. allows (mark_at after k) slot ≡ true) (sym is.1)
        (subst (λ k. allows k slot ≡ true) (sym (get_or-set_same marks (mark_of new) (marked_with s (mark_at marks new)) Free within)) (subst (λ x. allows (marked_with s (mark_at marks new)) x ≡ true) (sym is.0) (with_slot (mark_at marks new) s)))
    | inr old ↦ put_at (λ k. allows k slot ≡ true) marks (mark_of new) (mark_of key) (marked_with s (mark_at marks new)) within
        (λ same. with_more (mark_at marks new) s slot (subst (λ i. allows (get_or marks i Free) slot ≡ true) same (m.each slot key old.1))) (m.each slot key old.1)
  ];
}
  where
    after : List Mark
    after = set marks (mark_of new) (marked_with s (mark_at marks new))

    within : mark_of new < length marks
    within = let n = m.count in omega (arith, l, n)

pub more_marked_at : (bound : List (Option (List ℕ))) (marks : List Mark) (s : ℕ) (new : List ℕ) (at : ℕ) (mark : Mark) → s < length bound → at < 8192 → AreMarked bound marks
    → at ≡ mark_of new → mark ≡ marked_with s (mark_at marks new) → AreMarked (set bound s (Some new)) (set marks at mark)
more_marked_at bound marks s new at mark b l m is so =
    subst (λ n. AreMarked (set bound s (Some new)) (set marks n mark)) (sym is) (
    subst (λ k. AreMarked (set bound s (Some new)) (set marks (mark_of new) k)) (sym so) (more_marked bound marks s new b (subst (λ n. n < 8192) is l) m))

-- a mark whose one slot has no key is free
pub freed_marked : (bound : List (Option (List ℕ))) (marks : List Mark) (key : List ℕ) (only : ℕ) → mark_of key < 8192 → mark_at marks key ≡ One only → key_at bound only ≡ None
    → AreMarked bound marks → AreMarked bound (set marks (mark_of key) Free)
freed_marked bound marks key only l one none m = record {
  count = length-set marks (mark_of key) Free ∙ m.count;
  each = λ slot other e. let n = m.count in put_at (λ k. allows k slot ≡ true) marks (mark_of key) (mark_of other) Free (omega (arith, l, n))
      (λ same.
      let may : allows (mark_at marks key) slot ≡ true = subst (λ i. allows (get_or marks i Free) slot ≡ true) same (m.each slot other e) in
      let is : only ≡ slot = one_slot marks key only slot one may in
      let keyed : key_at bound only ≡ Some other = subst (λ i. key_at bound i ≡ Some other) (sym is) e in
      absurd cc) (m.each slot other e);
}

-- The order of places and of keys is strict, and an operation has one place.
use Rattle.std.proofs.Common.{◌≡◌, ◌<◌, ◌⊎◌, inl, inr, Bool, true, false, refl, sym, arith}
use Rattle.std.proofs.lemmas.Bool.{cases_order}
use Rattle.far_base.specs.declared.log.Placed.{Placed}
use Rattle.far_model.specs.History.{Before, read_rank}

rank_same : (p q : Bool) → read_rank p ≡ read_rank q → p ≡ q
rank_same true true e = refl
rank_same false false e = refl
rank_same true false e = absurd (omega arith)
rank_same false true e = absurd (omega arith)

-- of two places one stands before the other, or they are one
pub before_or : (x y : Placed) → (x ≡ y) ⊎ (Before x y ⊎ Before y x)
before_or x y = by_moment (cases_order x.moment y.moment)
  where
    by_op : x.moment ≡ y.moment → x.num ≡ y.num → x.read ≡ y.read → read_rank x.read ≡ read_rank y.read
        → (x.op ≡ y.op) ⊎ ((x.op < y.op) ⊎ (y.op < x.op)) → (x ≡ y) ⊎ (Before x y ⊎ Before y x)
    by_op m n r k (inl e) = inl (λ i. record { moment = m i; num = n i; read = r i; op = e i })
    by_op m n r k (inr (inl l)) = inr (inl (inr (m, inr (n, inr (k, l)))))
    by_op m n r k (inr (inr l)) = inr (inr (inr (sym m, inr (sym n, inr (sym k, l)))))

    by_read : x.moment ≡ y.moment → x.num ≡ y.num
        → (read_rank x.read ≡ read_rank y.read) ⊎ ((read_rank x.read < read_rank y.read) ⊎ (read_rank y.read < read_rank x.read))
        → (x ≡ y) ⊎ (Before x y ⊎ Before y x)
    by_read m n (inl e) = by_op m n (rank_same x.read y.read e) e (cases_order x.op y.op)
    by_read m n (inr (inl l)) = inr (inl (inr (m, inr (n, inl l))))
    by_read m n (inr (inr l)) = inr (inr (inr (sym m, inr (sym n, inl l))))

    by_number : x.moment ≡ y.moment → (x.num ≡ y.num) ⊎ ((x.num < y.num) ⊎ (y.num < x.num)) → (x ≡ y) ⊎ (Before x y ⊎ Before y x)
    by_number m (inl e) = by_read m e (cases_order (read_rank x.read) (read_rank y.read))
    by_number m (inr (inl l)) = inr (inl (inr (m, inl l)))
    by_number m (inr (inr l)) = inr (inr (inr (sym m, inl l)))

    by_moment : (x.moment ≡ y.moment) ⊎ ((x.moment < y.moment) ⊎ (y.moment < x.moment)) → (x ≡ y) ⊎ (Before x y ⊎ Before y x)
    by_moment (inl e) = by_number e (cases_order x.num y.num)
    by_moment (inr (inl l)) = inr (inl (inl l))
    by_moment (inr (inr l)) = inr (inr (inl l))

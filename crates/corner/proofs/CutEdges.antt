-- How many edges the corner's column cut and a row cut have.
-- Assumes that the shape is Shaped and that every line contains the top line.
use Rattle.std.specs.Prelude.{◌≡◌, ◌&&◌, ℕ, suc, ◌+◌, ◌≤◌, ◌<◌, min, max}
use Rattle.std.proofs.Math.Path.{ap}
use native.Mathlib.Omega.{arith}
use Rattle.count.specs.Truth.{one}
use Rattle.count.specs.TruthLaws.{not_true, and_true}
use Rattle.cut.specs.declared.Cut.TheVariants.{Row}
use Rattle.count.specs.Bits.{and_bit}
use Rattle.count.specs.Sums.{sum_interval}
use Rattle.corner.specs.Shape.{size, Shape, present, At, cap, Shaped, start, finish, Top, left_cut}
use Rattle.corner.proofs.Presence.{present_true, present_no, present_one}

module _ (S : Shape) (G : Shaped S) (T : Top S) where
  -- the edges of the cut right of the corner, and of a row cut
  pub cap-col : start S < finish S → cap (present S) (left_cut S) + S.top ≡ suc S.bottom
  unfolding cap
  cap-col wide = let k1 = G.low in omega (
    arith,
    sum_interval size S.top (suc S.bottom) (λ l. one (present S l (start S) && present S l (suc (start S))))
        (λ l h k. let t = T l (omega arith) in let e1 = present_one S l (start S) h (omega arith) (omega arith) (omega arith) in
        let e2 = present_one S l (suc (start S)) h (omega arith) (omega arith) (omega arith) in
        omega (arith, and_bit (present S l (start S)) (present S l (suc (start S)))))
        (λ l h. rw (present_no S l (start S) (λ k. omega (arith, k.low))))
        (λ l h. rw (present_no S l (start S) (λ k. omega (arith, k.high)))),
  )

  pub cap-row : (r : ℕ) → S.top ≤ r → suc r ≤ S.bottom → cap (present S) (Row r) + max (S.a r) (S.a (suc r)) ≡ suc (min (S.b r) (S.b (suc r)))
  unfolding cap
  cap-row r t d =
      let t0 = T r (omega arith) in let t1 = T (suc r) (omega arith) in
      let k1 = G.thin r (omega arith) in let k2 = G.full S.top (omega arith) in
      omega (
        arith,
        sum_interval size (max (S.a r) (S.a (suc r))) (suc (min (S.b r) (S.b (suc r)))) (λ c. one (present S r c && present S (suc r) c))
            (λ c h k. let e1 = present_one S r c t (omega arith) (omega arith) (omega arith) in
            let e2 = present_one S (suc r) c (omega arith) d (omega arith) (omega arith) in
            omega (arith, and_bit (present S r c) (present S (suc r) c)))
            (λ c h. out c (λ p q. omega (arith, p.from, q.from)))
            (λ c h. out c (λ p q. omega (arith, p.to, q.to))),
      )
    where
      out : (c : ℕ) → (At S r c → At S (suc r) c → ⊥) → one (present S r c && present S (suc r) c) ≡ 0
      out c f = ap one (not_true (present S r c && present S (suc r) c)
          (λ e. let k = and_true (present S r c) (present S (suc r) c) e in f (present_true S r c k.0) (present_true S (suc r) c k.1)))

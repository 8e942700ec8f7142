-- Searches through the reading order: nothing is found exactly where no vertex passes the test (`none_passes`), and what is found is the first that
-- does (`first_passes`). By its index the order goes through 1,024 places (`reading_by_index`).
-- Assumes that what passes has a line and a column below 32.
use Rattle.std.specs.Prelude.{◌≡◌, refl, Bool, true, false, ◌↔◌, ℕ, ◌/◌, ◌%◌, ◌<◌}
use Rattle.std.proofs.Common.{sym, inl, inr, arith}
use mathlib.Core.List.{[], map, flat_map}
use Rattle.std.proofs.Math.Option.{some}
use Rattle.count.specs.TruthLaws.{clash, not_true, number_order}
use Rattle.count.specs.Lists.{up_to, select, first, none-map, first-map, none-flat, first_flat, Ordered, first_only, head-is}
use Rattle.board.specs.Board.{at}
use Rattle.board.specs.Order.{reading_order, VertexBefore, FirstPasses}
use Rattle.board.specs.declared.Vertex.{Vertex}

pub reading_by_index : reading_order ≡ map (λ (i : ℕ). at (i / 32) (i % 32)) (up_to 1024)
unfolding flat_map
reading_by_index = refl

vertex_order : Ordered VertexBefore
vertex_order u v = elim (number_order u.line v.line) [
  | inl h ↦ inl (inl h)
  | inr (inr h) ↦ inr (inr (inl h))
  | inr (inl e) ↦ elim (number_order u.column v.column) [
    | inl h ↦ inl (inr (e, h))
    | inr (inr h) ↦ inr (inr (inr (sym e, h)))
    | inr (inl f) ↦ inr (inl (let s : at u.line u.column ≡ at v.line v.column = rw (e, f) refl in s))
  ]
]

module _ (t : Vertex → Bool) (framed : (v : Vertex) → t v ≡ true → (v.line < 32) × (v.column < 32)) where
  -- on a line that has none, a vertex does not pass
  none-there : (v : Vertex) → (v.line < 32 → select t (map (at v.line) (up_to 32)) ≡ []) → t v ≡ false
  none-there v e = not_true (t v) (λ y. let q = framed v y in
      clash y ((none-map t (at v.line) 0 32).0 (e q.0) v.column (omega arith) (omega (arith, q.1))))

  pub none_passes : (select t reading_order ≡ []) ↔ ((v : Vertex) → t v ≡ false)
  none_passes = let all = none-flat t (λ l. map (at l) (up_to 32)) 0 32 in (
    λ e v. none-there v (λ l. all.0 e v.line (omega arith) (omega arith)),
    λ h. all.1 (λ l a k. (none-map t (at l) 0 32).1 (λ c d m. h (at l c))),
  )

  found_first : (v : Vertex) → first t reading_order ≡ some v → FirstPasses t v
  found_first v e =
      let lines = first_flat t (λ l. map (at l) (up_to 32)) 0 32 v e in
      let columns = first-map t (at lines.k) 0 32 v lines.here in
      let here = columns.here in
      record {
        passes = here.1;
        before = λ u h. elim (rw here.0 at h) [
          | inl a ↦ none-there u (λ l. lines.before u.line (omega arith) a)
          | inr a ↦ rw (← a.0) at (columns.before u.column (omega arith) a.1)
        ];
      }

  only-first : (u v : Vertex) → FirstPasses t u → FirstPasses t v → u ≡ v
  only-first u v p q = first_only (λ w. t w ≡ true) VertexBefore vertex_order u v
      p.passes (λ w g h. clash g (p.before w h)) q.passes (λ w g h. clash g (q.before w h))

  pub first_passes : (v : Vertex) → (first t reading_order ≡ some v) ↔ FirstPasses t v
  first_passes v = (
    found_first v,
    λ p. head-is (select t reading_order) v (λ e. clash p.passes (none_passes.0 e v)) (λ u e. only-first u v (found_first u e) p),
  )

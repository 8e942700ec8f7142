-- What the lists of overfull cuts and of odd vertices say: they are empty exactly when there is none, and their head is the first in order.
-- Assumes for vertices that the board is within the limits: the reading order has lines and columns 0 to 31.
use Rattle.std.specs.Prelude.{◌≡◌, true, false, ◌↔◌, ℕ, ◌+◌, ◌%◌, ◌≤◌, ◌<◌, eqb}
use Rattle.std.proofs.Common.{ap, arith}
use mathlib.Core.List.{List, [], map, head?}
use Rattle.std.proofs.Math.Logic.{inl, inr}
use Rattle.std.proofs.Math.Option.{some}
use borrow.Author.Tests.{eqb-true, eq-eqb}
use Rattle.count.specs.TruthLaws.{clash, not_true, and_true, and_yes, number_order}
use Rattle.count.specs.Lists.{up_to, none-append, first-append, none-map, first-map, Ordered, first_only, head-is}
use Rattle.board.specs.Board.{Board, Within, height, IsVertex}
use Rattle.board.specs.Degree.{vertex?, degree}
use Rattle.board.specs.OrderLaws.{none_passes, first_passes}
use Rattle.board.specs.Tests.{vertex_exact}
use Rattle.board.specs.declared.Vertex.{Vertex}
use Rattle.board_convex.proofs.Places.{vertex_placed}
use Rattle.net.specs.declared.Pair.{Pair}
use Rattle.net.specs.Terminals.{terminals}
use Rattle.cut.specs.Cut.{Overfull, overfull?, cuts, overfull_cuts}
use Rattle.cut.specs.Odd.{odd?, odd_vertices}
use Rattle.cut.specs.Order.{IsCut, CutBefore, higher, row_first, further_left, FirstOverfull, Even, Odd, FirstOdd}
use Rattle.cut.specs.Laws.{overfull_exact}
use Rattle.cut.specs.declared.Cut.{Cut}
use Rattle.cut.specs.declared.Cut.TheVariants.{Row, Column}

-- ── overfull cuts ──
pub cut_order : Ordered CutBefore
cut_order (Row i) (Row k) = elim (number_order i k) [
  | inl h ↦ inl (higher h)
  | inr (inl e) ↦ inr (inl (ap Row e))
  | inr (inr h) ↦
      inr (inr (higher h))
]
cut_order (Row i) (Column k) = inl row_first
cut_order (Column i) (Row k) = inr (inr row_first)
cut_order (Column i) (Column k) =
    elim (number_order i k) [ inl h ↦ inl (further_left h) | inr (inl e) ↦ inr (inl (ap Column e)) | inr (inr h) ↦ inr (inr (further_left h)) ]

module _ (b : Board) (ps : List Pair) where
  overfull-no : (x : Cut) → (overfull? b ps x ≡ false) ↔ (Overfull b ps x → ⊥)
  overfull-no x = (
    λ e o. clash ((overfull_exact b ps x).1 o) e,
    λ n. not_true (overfull? b ps x) (λ e. n ((overfull_exact b ps x).0 e)),
  )

  pub no-overfull : (overfull_cuts b ps ≡ []) ↔ ((x : Cut) → IsCut b x → Overfull b ps x → ⊥)
  unfolding overfull_cuts cuts
  no-overfull =
      let t = overfull? b ps in
      let both = none-append t (map Row (up_to (height b))) (map Column (up_to 31)) in
      let rows = none-map t Row 0 (height b) in let columns = none-map t Column 0 31 in (
        λ e. let k = both.0 e in none_of (rows.0 k.0) (columns.0 k.1),
        λ n. both.1 (
          rows.1 (λ i p q. (overfull-no (Row i)).1 (n (Row i) (omega arith))),
          columns.1 (λ j p q. (overfull-no (Column j)).1 (n (Column j) (omega arith))),
        ),
      )
    where
      none_of : ((i : ℕ) → 0 ≤ i → i < 0 + height b → overfull? b ps (Row i) ≡ false)
          → ((j : ℕ) → 0 ≤ j → j < 0 + 31 → overfull? b ps (Column j) ≡ false) → (x : Cut) → IsCut b x → Overfull b ps x → ⊥
      none_of r c (Row i) h = (overfull-no (Row i)).0 (r i (omega arith) (omega arith))
      none_of r c (Column j) h = (overfull-no (Column j)).0 (c j (omega arith) (omega arith))

  first-row : (k : ℕ) → k < height b → overfull? b ps (Row k) ≡ true → ((i : ℕ) → i < k → overfull? b ps (Row i) ≡ false)
      → FirstOverfull b ps (Row k)
  first-row k h e n = record { cut = h; overfull = (overfull_exact b ps (Row k)).0 e; before = earlier }
    where
      earlier : (y : Cut) → IsCut b y → CutBefore y (Row k) → Overfull b ps y → ⊥
      earlier y c (higher {i} p) = (overfull-no (Row i)).0 (n i p)

  first-column : (k : ℕ) → k < 31 → overfull? b ps (Column k) ≡ true → ((i : ℕ) → i < height b → overfull? b ps (Row i) ≡ false)
      → ((j : ℕ) → j < k → overfull? b ps (Column j) ≡ false) → FirstOverfull b ps (Column k)
  first-column k h e r n = record { cut = h; overfull = (overfull_exact b ps (Column k)).0 e; before = earlier }
    where
      earlier : (y : Cut) → IsCut b y → CutBefore y (Column k) → Overfull b ps y → ⊥
      earlier y c (row_first {i}) = (overfull-no (Row i)).0 (r i c)
      earlier y c (further_left {i} p) = (overfull-no (Column i)).0 (n i p)

  head-overfull : (x : Cut) → head? (overfull_cuts b ps) ≡ some x → FirstOverfull b ps x
  unfolding overfull_cuts cuts
  head-overfull x e =
      let t = overfull? b ps in
      elim (first-append t (map Row (up_to (height b))) (map Column (up_to 31)) x e) [
        | inl f ↦ let l = first-map t Row 0 (height b) x f in let h = l.here in
            rw h.0 (first-row l.k (omega (arith, l.to)) (rw h.0 at h.1) (λ i p. l.before i (omega arith) p))
        | inr f ↦ let l = first-map t Column 0 31 x f.1 in let h = l.here in let r = (none-map t Row 0 (height b)).0 f.0 in
            rw h.0 (first-column l.k (omega (arith, l.to)) (rw h.0 at h.1)
            (λ i p. r i (omega arith) (omega arith)) (λ j p. l.before j (omega arith) p))
      ]

  only-overfull : (x y : Cut) → FirstOverfull b ps x → FirstOverfull b ps y → x ≡ y
  only-overfull x y p q = first_only (λ z. IsCut b z × Overfull b ps z) CutBefore cut_order x y
      (p.cut, p.overfull) (λ z g h. p.before z g.0 h g.1) (q.cut, q.overfull) (λ z g h. q.before z g.0 h g.1)

  pub first-overfull : (x : Cut) → (head? (overfull_cuts b ps) ≡ some x) ↔ FirstOverfull b ps x
  first-overfull x = (
    head-overfull x,
    λ p. head-is (overfull_cuts b ps) x (λ e. no-overfull.0 e x p.cut p.overfull) (λ y e. only-overfull y x (head-overfull y e) p),
  )

-- ── odd vertices ──
module _ (b : Board) (ps : List Pair) where
  pub odd-exact : (v : Vertex) → (odd? b ps v ≡ true) ↔ (IsVertex b v × Odd b ps v)
  unfolding odd?
  odd-exact v =
      let x = vertex_exact b v in let n = (degree b v + terminals ps v) % 2 in (
        λ e. let k = and_true (vertex? b v) (eqb n 1) e in (x.0 k.0, eqb-true n 1 k.1),
        λ h. and_yes (vertex? b v) (eqb n 1) (x.1 h.0) (eq-eqb n 1 h.1),
      )

  even_or_odd : (v : Vertex) → (Odd b ps v → ⊥) → Even b ps v
  even_or_odd v h = omega arith

  not-odd : (v : Vertex) → IsVertex b v → (odd? b ps v ≡ false) → Even b ps v
  not-odd v p e = even_or_odd v (λ o. clash ((odd-exact v).1 (p, o)) e)

  even-not-odd : (v : Vertex) → (IsVertex b v → Even b ps v) → odd? b ps v ≡ false
  even-not-odd v h = not_true (odd? b ps v) (λ e. let k = (odd-exact v).0 e in let m = h k.0 in omega (arith, k.1))

  module _ (W : Within b) where
    framed : (v : Vertex) → odd? b ps v ≡ true → (v.line < 32) × (v.column < 32)
    framed v e = vertex_placed b W v ((odd-exact v).0 e).0

    pub no-odd : (odd_vertices b ps ≡ []) ↔ ((v : Vertex) → IsVertex b v → Even b ps v)
    unfolding odd_vertices
    no-odd = let k = none_passes (odd? b ps) framed in (λ e v p. not-odd v p (k.0 e v), λ h. k.1 (λ v. even-not-odd v (h v)))

    pub first-odd : (v : Vertex) → (head? (odd_vertices b ps) ≡ some v) ↔ FirstOdd b ps v
    unfolding odd_vertices
    first-odd v = let k = first_passes (odd? b ps) framed v in (
      λ e.
          let f = k.0 e in let o = (odd-exact v).0 f.passes in
          record { vertex = o.0; odd = o.1; before = λ u p h. not-odd u p (f.before u h) },
      λ p. k.1 (record { passes = (odd-exact v).1 (p.vertex, p.odd); before = λ u h. even-not-odd u (λ q. p.before u q h) }),
    )

-- Nets and helper pairs are at most 64 together: each has two terminals, each terminal takes a pin, and there are at most 128 pins.
-- Assumes a problem on a convex board, whose vertices may be odd.
use Rattle.std.specs.Prelude.{◌≡◌, false, ℕ, ◌+◌, ◌*◌, ◌≤◌, length}
use Rattle.std.proofs.Common.{ap, ◌∙◌, sym, inl, inr}
use mathlib.Core.List.{List, [], ◌∷◌}
use native.Mathlib.Omega.{arith}
use Rattle.count.specs.Truth.{one}
use Rattle.count.specs.TruthLaws.{bool, clash, not_true}
use Rattle.count.specs.Parity.{odd_case}
use Rattle.board.specs.Board.{Board, Within, IsVertex}
use Rattle.board.specs.Degree.{vertex?, degree, pins}
use Rattle.board.specs.Tests.{vertex_exact}
use Rattle.board.specs.declared.Vertex.{Vertex}
use Rattle.board_convex.proofs.Corners.{degree_range}
use Rattle.board_pins.specs.Pins.{frame_sum, all_pins}
use Rattle.board_pins.proofs.Frame.{frame_le, frame_add, frame_get}
use Rattle.board_pins.proofs.AtVertex.{pins_degree}
use Rattle.board_pins.proofs.FewPins.{pins-few}
use Rattle.net.specs.declared.Pair.{Pair}
use Rattle.net.specs.Terminals.{same, ends, terminals}
use Rattle.net.specs.Same.{same_self, same_exact}
use Rattle.corner.specs.Problem.{Problem, Helpers}
use Rattle.corner.specs.Pairs.{All}
use Rattle.corner.proofs.Tallies.{standing_none}
use Rattle.corner.proofs.Counted.{terminals_standing}
use Rattle.corner.proofs.Overfull.{vertex_frame}
use Rattle.corner.proofs.Even.{odd-at}

-- ── terminals, counted vertex by vertex: two for each pair ──
module _ (b : Board) (W : Within b) where
  once : (u : Vertex) → IsVertex b u → 1 ≤ frame_sum (λ v. one (same u v))
  once u h = let f = vertex_frame b W u h in
      omega (arith, frame_get (λ v. one (same u v)) u (omega (arith, f.0, W.few)) (omega (arith, f.1)), ap one (same_self u))

  two-each : (ps : List Pair) → All (IsVertex b) ps → 2 * length ps ≤ frame_sum (terminals ps)
  unfolding terminals
  two-each [] a = omega arith
  two-each (p ∷ ps) a = omega (
    arith,
    once p.first a.0,
    once p.second a.1,
    two-each ps a.2,
    frame_add (λ v. one (same p.first v)) (λ v. one (same p.second v)),
    frame_add (ends p) (terminals ps),
  )

-- no terminal where there is no vertex
none_off : (b : Board) (ps : List Pair) → All (IsVertex b) ps → (v : Vertex) → vertex? b v ≡ false → terminals ps v ≡ 0
none_off b ps a v e = terminals_standing ps v ∙ standing_none (IsVertex b) (same v) elsewhere ps a
  where
    elsewhere : (u : Vertex) → IsVertex b u → same v u ≡ false
    elsewhere u h = not_true (same v u) (λ s. clash ((vertex_exact b u).1 h) (ap (vertex? b) (sym ((same_exact v u).0 s)) ∙ e))

-- ── each takes a pin ──
module _ (b : Board) {p : Vertex → ℕ} (ps hs : List Pair) (P : Problem b p ps) (H : Helpers b ps hs) where
  -- a helper pair ends at odd vertices only, and where degree and terminals together are odd they are not 4: a pin is to spare
  on-pins : (v : Vertex) → terminals ps v + terminals hs v ≤ pins b v
  on-pins v = elim (bool (vertex? b v)) [
    | inr e ↦ omega (arith, none_off b ps P.stand v e, none_off b hs H.stand v e)
    | inl e ↦
        let k = (vertex_exact b v).0 e in
        let g = degree_range b v k in let t = P.room v k in let n = P.never_above v k in let q = pins_degree b v in let x = ap one e in
        let y = H.each v k in let z = ap one (odd-at b ps v k) in
        elim (odd_case (degree b v + terminals ps v)) [
          | inl m ↦ omega (arith, ap one m.2, m.1)
          | inr m ↦ omega (arith, ap one m.2, m.1)
        ]
  ]

  pub few-pairs : length ps + length hs ≤ 64
  unfolding all_pins
  few-pairs = omega (
    arith,
    two-each b P.within ps P.stand,
    two-each b P.within hs H.stand,
    frame_add (terminals ps) (terminals hs),
    frame_le (λ v. terminals ps v + terminals hs v) (pins b) on-pins,
    pins-few b P.within P.convex,
  )

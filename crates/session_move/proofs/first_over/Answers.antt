-- The invariant: no place before i has more than the new rule gives it pins.
use mathlib.Core.Path.{◌≡◌, refl, ap, sym, ◌∙◌}
use mathlib.Core.Bool.{Bool}
use Prim.Native.Nat.{ℕ, ◌+◌}
use native.Mathlib.Omega.{arith}
use Rattle.board.specs.Board.{Board}
use Rattle.board.specs.View.{board_of}
use Rattle.board.specs.declared.Vertex.{Vertex}
use Rattle.cut_search.specs.Found.{found_vertex}
use Rattle.session_move.specs.Value.{over_with}
use Rattle.session_move.specs.Search.{none_next, found_at, found_none}
use Rattle.session_move.proofs.first_over.Goals as goal

-- what is asked at a place, by what its parts hand back
over-there : (b : Board) {u v : Vertex} {m n k l : ℕ} {r : Bool} → u ≡ v → k ≡ m → l ≡ n → r ≡ over_with b u (k + l)
    → r ≡ over_with b v (m + n)
over-there b p q t e = e ∙ rw (p, q, t) refl

pub loop-i-init : goal.loop-i-init
loop-i-init c = (omega arith, λ j h. absurd (omega arith))

pub returns-then-is_over : goal.returns-then-is_over
returns-then-is_over c =
    let i = c.loop-i.i in
    let counts = c.count_terminals-counts in
    let args = c.args in
    let here = c.vertex_at-v.ensures in
    let wide = c.from in let wide2 = c.from-in-loop-i in
    let over = over-there (board_of args.b.board) here wide.ensures wide2.ensures c.is_over.ensures in
    let none = c.loop-i.invariant.1 in
    rw here
    (ap found_vertex (sym (found_at args.b args.nets counts.result counts.ensures i (omega arith) none (sym over ∙ c.if-is_over.true))))

pub loop-i-preserved : goal.loop-i-preserved
loop-i-preserved c =
    let b = c.args.b in let board = board_of b.board in
    let wide = c.from in let wide2 = c.from-in-loop-i in
    let over = over-there board c.vertex_at-v.ensures wide.ensures wide2.ensures c.is_over.ensures in (
      omega arith,
      none_next board c.count_terminals-counts.result b.taken c.loop-i.i c.loop-i.invariant.1 (sym over ∙ c.if-is_over.false),
    )

pub returns : goal.returns
returns c =
    let args = c.args in
    let last : c.loop-i.i ≡ 1024 = omega arith in
    ap found_vertex (sym (found_none args.b args.nets c.count_terminals-counts.result c.count_terminals-counts.ensures
    (rw last at c.loop-i.invariant.1)))

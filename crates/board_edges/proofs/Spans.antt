-- An edge of a board within the limits leads right from its left end or down from its upper end, and lies in lines and columns 0 to 31.
-- Assumes that the board is within the limits.
use Rattle.std.specs.Prelude.{◌≡◌, refl, ◌⊎◌, ℕ, suc, ◌<◌}
use Rattle.std.proofs.Common.{inl, inr, arith}
use Rattle.board.specs.Board.{Board, Within, Edge, IsEdge, at, Side, top_side, bottom_side, left_side, right_side}

pub record Across (e : Edge) : Type 0 where
  pub to : e.to ≡ at e.from.line (suc e.from.column)
  pub line : e.from.line < 32
  pub column : e.from.column < 31

pub record Downward (e : Edge) : Type 0 where
  pub to : e.to ≡ at (suc e.from.line) e.from.column
  pub line : e.from.line < 31
  pub column : e.from.column < 32

side_spans : {i j : ℕ} {e : Edge} → i < 31 → j < 31 → Side i j e → Across e ⊎ Downward e
side_spans h k top_side = inl (record { to = refl; line = omega arith; column = omega arith })
side_spans h k bottom_side = inl (record { to = refl; line = omega arith; column = omega arith })
side_spans h k left_side = inr (record { to = refl; line = omega arith; column = omega arith })
side_spans h k right_side = inr (record { to = refl; line = omega arith; column = omega arith })

pub edge_spans : (b : Board) → Within b → (e : Edge) → IsEdge b e → Across e ⊎ Downward e
edge_spans b w e (i, j, c, s) = side_spans (omega (arith, c.row, w.few)) (omega (arith, c.to, w.fits i c.row)) s

-- What a sound session holds fits the fields of its words.
-- Assumes that the session is sound, law by law as far as it is needed.
use Rattle.std.specs.Prelude.{◌≡◌, true, List, [], ◌∷◌, ℕ, suc, ◌≤◌, ◌<◌, length, get_or}
use Rattle.std.proofs.Common.{arith}
use Rattle.count.specs.TruthLaws.{and_true}
use Rattle.count.specs.Each.{Each}
use Rattle.board.specs.Board.{Board, Within, no_row}
use Rattle.board.specs.Degree.{vertex?}
use Rattle.board.specs.Tests.{vertex_exact}
use Rattle.board.specs.declared.Row.{Row}
use Rattle.board.specs.declared.Vertex.{Vertex}
use Rattle.board_convex.proofs.Places.{vertex_in_row}
use Rattle.board_block.specs.Block.{Block}
use Rattle.board_block.specs.Taken.{in_order?, all_there?, taken_fine?}
use Rattle.board_block.proofs.TakenLaws.{There, taken_vertices}
use Rattle.board_block.specs.declared.TakenPins.{TakenPins}
use Rattle.net.specs.declared.Net.{Net}
use Rattle.session_laws.specs.Fine.{AllGood}
use Rattle.words.specs.Inverse.{VertexFits}
use Rattle.board_roundtrip.specs.Parts.{RowsFit, PinsFit, NetsFit}

pub rows-fit : (b : Board) → Within b → RowsFit b.rows
rows-fit b w = go b.rows (λ i h. (w.cells i h, w.fits i h))
  where
    go : (rs : List Row)
        → ((i : ℕ) → i < length rs → ((get_or rs i no_row).left < (get_or rs i no_row).right) × ((get_or rs i no_row).right ≤ 31)) → RowsFit rs
    go [] h = tt
    go (r ∷ rs) h = (h 0 (omega arith), go rs (λ i k. h (suc i) (omega arith)))

vertex_fits : (b : Board) (v : Vertex) → Within b → vertex? b v ≡ true → VertexFits v
vertex_fits b v w e =
    let k = vertex_in_row b v ((vertex_exact b v).0 e) in let x = k.1 in
    (omega (arith, x.row, x.high, w.few), omega (arith, x.to, w.fits k.0 x.row))

pub pins_fit : (b : Block) → Within b.board → taken_fine? b ≡ true → PinsFit b.taken
pins_fit b w e =
    go b.taken
    (taken_vertices b.book b.board b.taken (and_true (in_order? b.taken) (all_there? b.book b.board b.taken) e).1)
  where
    go : (ts : List TakenPins) → Each (There b.book b.board) ts → PinsFit ts
    go [] h = tt
    go (t ∷ ts) h = ((h.0.count, vertex_fits b.board t.vertex w h.0.vertex), go ts h.1)

pub nets_fit : (b : Block) (ns : List Net) → Within b.board → AllGood b ns → NetsFit ns
nets_fit b [] w g = tt
nets_fit b (n ∷ ns) w g =
    let k = g.0 in (
      (omega (arith, k.high), vertex_fits b.board n.ends.first w k.first, vertex_fits b.board n.ends.second w k.second),
      nets_fit b ns w g.1,
    )

-- Definitions only: what can be read off a page (document 02, §7). Nothing is proved here: `page-reads` in PageLaws shows it of the page of a board.
use Rattle.std.specs.Prelude.{◌≡◌, cond, List, ◌↔◌, ℕ, ◌+◌, ◌*◌, ◌<◌, eqb, length, get_or}
use Rattle.board.specs.Board.{Board, height, Edge, IsVertex, IsEdge}
use Rattle.board.specs.declared.Vertex.{Vertex}
use Rattle.call_rules.specs.Page.{plus, dash, bar, space, line_feed}

-- character x of text line y
abbrev pub read_at : List ℕ → (y x : ℕ) → ℕ
read_at page y x = get_or page (64 * y + x) 0

-- Where an edge stands: half-way between its two ends, of which each stands at twice its line and column. So its text line is the sum of their lines,
-- and its character the sum of their columns. (A vertex stands where an edge from it to itself would.)
abbrev pub text_line_of : Edge → ℕ
text_line_of e = e.from.line + e.to.line

abbrev pub character_of : Edge → ℕ
character_of e = e.from.column + e.to.column

-- "-" for an edge along a line, "|" for one down from a vertex
abbrev pub edge_sign : Edge → ℕ
edge_sign e = cond (eqb e.from.line e.to.line) dash bar

-- "Column j's vertex stands at character 2j .. as "+"."; "every used edge can be read off it": an edge of the board is used exactly when its sign
-- stands at its place; "All else is a space."
pub record ReadsOff (b : Board) (Used : Edge → Type 0) (page : List ℕ) : Type 0 where
  pub size : length page ≡ 64 * (2 * height b + 1)
  pub vertices : (v : Vertex) → IsVertex b v → read_at page (2 * v.line) (2 * v.column) ≡ plus
  pub edges : (e : Edge) → IsEdge b e → (read_at page (text_line_of e) (character_of e) ≡ edge_sign e) ↔ Used e
  pub spaces : (y x : ℕ) → y < 2 * height b + 1 → x < 63
      → ((v : Vertex) → IsVertex b v → y ≡ 2 * v.line → x ≡ 2 * v.column → ⊥)
      → ((e : Edge) → Used e → y ≡ text_line_of e → x ≡ character_of e → ⊥)
      → read_at page y x ≡ space
  pub ends : (y : ℕ) → y < 2 * height b + 1 → read_at page y 63 ≡ line_feed

-- Definitions only: a board drawn by what its vertices are (document 02, §2: cases that can be held against a drawing). Nothing is proved here.
use mathlib.Core.List.{List, [], ◌∷◌, ◌++◌, map, flat_map}
use Rattle.std.specs.Prelude.{ℕ, suc, min}
use Rattle.count.specs.Lists.{up_to}
use Rattle.text.specs.Line.{refused_line}
use Rattle.board.specs.Board.{Board, height, at}
use Rattle.board_degree.specs.Kind.{kind_of}
use Rattle.board_degree.specs.declared.VertexKind.{VertexKind}
use Rattle.board_degree.specs.declared.VertexKind.TheVariants.{OuterCorner, StraightSide, ConcaveCorner, Inside, TouchingCorners, NoVertex}
use Rattle.session_rules.specs.Session.{Session}
use Rattle.call_rules.specs.Result.{Result, no, yes}
use Rattle.call_rules.specs.Reading.{read_bytes}

-- "o", "s", "c", "i", "t" and a space, as bytes
abbrev pub sign_of : VertexKind → ℕ
sign_of OuterCorner = 111
sign_of StraightSide = 115
sign_of ConcaveCorner = 99
sign_of Inside = 105
sign_of TouchingCorners = 116
sign_of NoVertex = 32

-- the places of line l at columns 0 to 31
unfoldable pub signs_on : Board → ℕ → List ℕ
signs_on b l = map (λ c. sign_of (kind_of b (at l c))) (up_to 32)

-- a sign for each place, and a line feed
abbrev pub line_drawn : Board → ℕ → List ℕ
line_drawn b l = signs_on b l ++ (10 ∷ [])

-- the lines from the top: one more than rows, and 32 at most
abbrev pub board_drawn : Board → List ℕ
board_drawn b = flat_map (line_drawn b) (up_to (suc (min (height b) 31)))

-- the board of a session that is read, or the refusal
abbrev pub drawn : Result Session → List ℕ
drawn (no r) = refused_line r.number r.place
drawn (yes s) = board_drawn s.block.board

abbrev pub bytes_drawn : List ℕ → List ℕ
bytes_drawn bytes = drawn (read_bytes bytes)

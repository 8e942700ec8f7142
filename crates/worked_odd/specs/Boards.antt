-- Definitions only: the board and the nets of document 02, §4, two smaller boards that get 34, and case e of document 01. Nothing is proved here.
use Rattle.std.specs.Prelude.{List, [], ◌∷◌}
use Rattle.board.specs.Board.{Board}
use Rattle.net.specs.declared.Net.{Net}
use Rattle.session_rules.specs.Session.{Session}
use Rattle.worked_cases.specs.Boards.{row, board, net, session}

-- "Take rows 2-3, 1-4, 0-5, 1-4, 2-3
abbrev pub diamond : Board
diamond = board (row 2 3 ∷ row 1 4 ∷ row 0 5 ∷ row 1 4 ∷ row 2 3 ∷ [])

-- with nets 1 (0,2)-(1,4), 2 (2,5)-(4,4), 3 (5,3)-(4,1), 4 (3,0)-(1,1), 5 (0,3)-(5,2), 6 (3,5)-(2,0)."
abbrev pub six_nets : List Net
six_nets = net 1 0 2 1 4 ∷ net 2 2 5 4 4 ∷ net 3 5 3 4 1 ∷ net 4 3 0 1 1 ∷ net 5 0 3 5 2 ∷ net 6 3 5 2 0 ∷ []

abbrev pub diamond_session : Session
diamond_session = session diamond.rows six_nets

-- one cell, and a net from each upper corner to the lower corner across: the smallest board that gets 34
abbrev pub crossed_session : Session
crossed_session = session (row 0 1 ∷ []) (net 1 0 0 1 1 ∷ net 2 0 1 1 0 ∷ [])

-- the same across two cells, for the numbers of the revised cut condition
abbrev pub wider_session : Session
wider_session = session (row 0 2 ∷ []) (net 1 0 0 1 2 ∷ net 2 0 2 1 0 ∷ [])

-- case e: 0-2, no nets
abbrev pub two_cells : Board
two_cells = board (row 0 2 ∷ [])

abbrev pub two_cells_session : Session
two_cells_session = session two_cells.rows []

-- Definitions only: two figures of the wire that a session's nets take, told before they are routed, and what they bound (document 02, §11). Nothing
-- is proved here: crate routing_laws has what is shown of every routing, and judge_laws what is shown of every list that passes.
use Rattle.std.specs.Prelude.{List, ℕ, ◌+◌, ◌≤◌, length}
use Rattle.count.specs.Lists.{tally}
use Rattle.board.specs.Board.{Board}
use Rattle.board.specs.declared.Direction.{Direction}
use Rattle.board_edges.specs.EdgeCount.{edge_count}
use Rattle.net.specs.declared.Pair.{Pair}
use Rattle.cut.specs.Cut.{crossing, cuts}
use Rattle.session_rules.specs.Session.{Session, pairs}
use Rattle.call_rules.specs.Result.{Result, yes}
use Rattle.call_rules.specs.Report.{edges_used}
use Rattle.call_rules.specs.Judge.{if_sound}

-- "the sum of crossing nets over all rows and columns,
unfoldable pub crossing_sum : Board → List Pair → ℕ
crossing_sum b ps = tally (λ x. crossing x ps) (cuts b)

-- and the board's edge count"
pub record Figures : Type 0 where
  pub crossings : ℕ
  pub edges : ℕ

abbrev pub figures_of : Session → Figures
figures_of s = record { crossings = crossing_sum s.block.board (pairs s.nets); edges = edge_count s.block.board }

-- "From the session alone, work out" these two; 20 where it is unsound
unfoldable pub wire : Session → Result Figures
wire s = if_sound s (yes (figures_of s))

-- "its words number at most 1 plus nets plus edges": "that word limit"
abbrev pub word_limit : Session → ℕ
word_limit s = 1 + length s.nets + edge_count s.block.board

-- what is to be shown of the words ws of a routing with the paths dss
pub record Bounded (s : Session) (ws : List ℕ) (dss : List (List Direction)) : Type 0 where
  -- "Every routing of those nets uses at least the first number of edges
  pub least : (figures_of s).crossings ≤ edges_used dss
  -- and at most the second,
  pub most : edges_used dss ≤ (figures_of s).edges
  -- and its words number at most 1 plus nets plus edges."
  pub words : length ws ≤ word_limit s

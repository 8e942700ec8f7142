-- The words of a routing number at most 1 plus nets plus the board's edges.
-- Assumes that the board is within the limits.
use Rattle.std.specs.Prelude.{List, [], ◌∷◌, map, ◌+◌, ◌≤◌, length}
use Rattle.std.proofs.Common.{arith, length-append}
use Rattle.std.proofs.lemmas.List.{length-map}
use Rattle.board.specs.Board.{Board, Within}
use Rattle.board.specs.declared.Direction.{Direction}
use Rattle.board_edges.specs.EdgeCount.{edge_count}
use Rattle.net.specs.declared.Net.{Net}
use Rattle.words.specs.RoutingWord.{run_word, routing_end_word, runs_of, path_words, paths_words, routing_words}
use Rattle.words.specs.RunLaws.{runs_few}
use Rattle.routing_rules.specs.Routing.{Joins, Routing}
use Rattle.session_rules.specs.Session.{pairs}
use Rattle.call_rules.specs.Report.{edges_used}
use Rattle.routing_laws.proofs.Used.{used_most}

-- a path has no more runs than edges
paths_few : (b : Board) (ns : List Net) (dss : List (List Direction)) → Joins b (pairs ns) dss
    → length (paths_words ns dss) ≤ length ns + edges_used dss
unfolding paths_words path_words edges_used
paths_few b [] dss j = omega arith
paths_few b (n ∷ ns) [] j = absurd j
paths_few b (n ∷ ns) (ds ∷ dss) j = omega (
  arith,
  paths_few b ns dss j.1,
  runs_few ds,
  length-map (runs_of ds) run_word,
  length-append (map run_word (runs_of ds)) (paths_words ns dss),
)

-- THE LAW: "its words number at most 1 plus nets plus edges" (document 02, §11)
pub words_few : (b : Board) → Within b → (ns : List Net) (dss : List (List Direction)) → Routing b (pairs ns) dss
    → length (routing_words ns dss) ≤ 1 + length ns + edge_count b
unfolding routing_words
words_few b w ns dss r = omega (
  arith,
  paths_few b ns dss r.joins,
  used_most b w (pairs ns) dss r,
  length-append (paths_words ns dss) (routing_end_word (length ns) ∷ []),
)

-- Definitions only: what is measured of a path and of the paths of a list. Nothing is proved here.
use Rattle.std.specs.Prelude.{◌≡◌, List, [], ◌∷◌, ◌++◌, ℕ, zero, suc, ◌+◌, ◌*◌, ◌<◌, length, drop, get_or, replicate}
use Rattle.board.specs.Board.{at}
use Rattle.board.specs.Path.{turns}
use Rattle.board.specs.declared.Vertex.{Vertex}
use Rattle.board.specs.declared.Direction.{Direction}
use Rattle.net.specs.declared.Net.{Net}
use Rattle.session_rules.specs.Session.{pairs}
use Rattle.net_places.specs.Places.{held_net}
use Rattle.words.specs.RoutingWord.{run_in}
use Rattle.call_rules.specs.Shape.{paths_from}
use Rattle.call_rules.specs.Report.{edges_used, turns_made, turns_at, turns_occurring}
use Rattle.call_rules.specs.Judge.{paths_in}
use Rattle.judge_report.specs.declared.Trace.{Trace}
use Rattle.judge_report.specs.declared.Sum.{Sum}
use Rattle.net.specs.View.{Held}

-- ── a path ──
-- the directions of a list of run words
unfoldable pub dirs_of : List ℕ → List Direction
dirs_of [] = []
dirs_of (w ∷ ws) = replicate (run_in w).length (run_in w).direction ++ dirs_of ws

-- ── the marks of the vertices ──
-- the mark of a vertex where n turns occurred
abbrev pub mark_of : ℕ → ℕ
mark_of zero = 0
mark_of (suc zero) = 1
mark_of (suc (suc n)) = 2

-- the array has the marks of all vertices, n of a vertex being how many turns occurred there
pub record Says (n : Vertex → ℕ) (a : List ℕ) : Type 0 where
  pub long : length a ≡ 1024
  pub marks : (l c : ℕ) → l < 32 → c < 32 → get_or a (l * 32 + c) 0 ≡ mark_of (n (at l c))

-- ── what the functions promise ──
-- what is measured of the path from u with the run words ws
pub record Measured (u : Vertex) (ws : List ℕ) (t : Trace) (a a' : List ℕ) : Type 0 where
  pub edges : t.edges ≡ length (dirs_of ws)
  pub turned : t.turns ≡ turns (dirs_of ws)
  pub marks : (n : Vertex → ℕ) → Says n a → Says (λ v. n v + turns_at v u (dirs_of ws)) a'

-- the paths of the nets ns, from index i of the words on
abbrev pub left : List Net → List ℕ → ℕ → List (List Direction)
left ns ws i = paths_in (paths_from i ns (drop i ws))

-- how many turns of these paths occur at v
abbrev pub turns_left : Vertex → List Net → List ℕ → ℕ → ℕ
turns_left v ns ws i = turns_occurring v (pairs ns) (left ns ws i)

-- the sum s and the marks a before a place, whatever the number k of its net, and the sum r and the marks a' after it
pub record MeasuresPlace (held : Held) (ws : List ℕ) (s : Sum) (a : List ℕ) (r : Sum) (a' : List ℕ) : Type 0 where
  pub edges : (k : ℕ) (ns : List Net) → s.edges + edges_used (left (held_net k held ns) ws s.at) ≡ r.edges + edges_used (left ns ws r.at)
  pub turned : (k : ℕ) (ns : List Net) → s.turns + turns_made (left (held_net k held ns) ws s.at) ≡ r.turns + turns_made (left ns ws r.at)
  pub marks : (n : Vertex → ℕ) → Says n a
      → (n' : Vertex → ℕ) × Says n' a'
      × ((k : ℕ) (ns : List Net) (v : Vertex) → n v + turns_left v (held_net k held ns) ws s.at ≡ n' v + turns_left v ns ws r.at)

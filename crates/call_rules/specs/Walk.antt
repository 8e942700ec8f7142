-- Definitions only: walking the paths of a list that has the shape (document 01, "Judging a routing", refusals 44 to 46). Nothing is proved here.
use Rattle.std.specs.Prelude.{not, List, [], ◌∷◌, ℕ, zero, suc, ltb}
use Rattle.board.specs.Board.{Board, Edge}
use Rattle.board.specs.Path.{next, along}
use Rattle.board.specs.Degree.{edge?}
use Rattle.board.specs.declared.Vertex.{Vertex}
use Rattle.board.specs.declared.Direction.{Direction}
use Rattle.net.specs.Terminals.{same}
use Rattle.routing_rules.specs.Routing.{uses}
use Rattle.session_rules.specs.Refusal.{line, first_refusal}
use Rattle.call_rules.specs.Result.{Result, yes, and_then, unless}
use Rattle.call_rules.specs.Shape.{RunAt, PathAt}

-- where a walk stands, and the edges that were used earlier, the last one first
pub record Walker : Type 0 where
  pub place : Vertex
  pub used : List Edge

-- "A run is walked edge by edge, 44 before 45 at each": n edges in direction d, for the run word at index i
unfoldable pub walk_steps : Board → (i : ℕ) → Direction → (n : ℕ) → Walker → Result Walker
walk_steps b i d zero w = yes w
walk_steps b i d (suc n) w =
    unless (first_refusal (line (not (edge? b d w.place)) 44 i ∷ line (ltb 0 (uses (along d w.place) w.used)) 45 i ∷ []))
    (walk_steps b i d n (record { place = next d w.place; used = along d w.place ∷ w.used }))

unfoldable pub walk_runs : Board → List RunAt → Walker → Result Walker
walk_runs b [] w = yes w
walk_runs b (r ∷ rs) w = and_then (walk_steps b r.index r.run.direction r.run.length w) (walk_runs b rs)

-- "46 follows a path's last run": "not at the second terminal", place the "index of the path word"
unfoldable pub walk_path : Board → PathAt → List Edge → Result (List Edge)
walk_path b p used =
    and_then (walk_runs b p.runs (record { place = p.net.ends.first; used = used }))
    (λ w. unless (first_refusal (line (not (same w.place p.net.ends.second)) 46 p.index ∷ [])) (yes w.used))

-- "paths [are] walked, in order"
unfoldable pub walk_paths : Board → List PathAt → List Edge → Result (List Edge)
walk_paths b [] used = yes used
walk_paths b (p ∷ ps) used = and_then (walk_path b p used) (walk_paths b ps)

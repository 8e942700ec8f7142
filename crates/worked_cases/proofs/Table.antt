-- Document 01, "Boards to be proved": the statement `BoardsToBeProved` has a field for each case of the table, and `boards_proved` proves it.
-- Assumes nothing.
use Rattle.std.specs.Prelude.{◌≡◌, refl, true, false, pos, negsuc}
use mathlib.Core.List.{List, [], ◌∷◌, head?}
use Rattle.std.proofs.Math.Option.{some}
use Rattle.count.specs.TruthLaws.{clash}
use Rattle.board.specs.Board.{Board, IsVertex, at}
use Rattle.board.specs.Path.{Convex}
use Rattle.board.specs.Degree.{pins}
use Rattle.board.specs.Tests.{vertex_exact}
use Rattle.board.specs.declared.Direction.{Direction}
use Rattle.board.specs.declared.Direction.TheVariants.{Right, Down, Left}
use Rattle.board_convex.specs.Test.{in_limits, is_convex}
use Rattle.board_convex.proofs.Limits.{in-limits}
use Rattle.board_convex.proofs.Exact.{is-convex}
use Rattle.net.specs.declared.Net.{Net}
use Rattle.cut.specs.Cut.{margin}
use Rattle.cut.specs.Odd.{odd_vertices}
use Rattle.cut.specs.declared.Cut.TheVariants as cut
use Rattle.routing_rules.specs.Routing.{Routing}
use Rattle.routing_rules.specs.Check.{routing_exact}
use Rattle.session_rules.specs.Session.{pairs}
use Rattle.words.specs.RoutingWord.{routing_words}
use Rattle.call_rules.specs.Result.{yes}
use Rattle.call_rules.specs.Reading.{read_words}
use Rattle.call_rules.specs.Judge.{judge_words}
use Rattle.worked_cases.specs.Everything.{everything}
use Rattle.worked_cases.specs.Boards.{row, board, net, session, ring, ring_input, ring_output}

-- a routing exists
abbrev pub Routed : Board → List Net → Type 0
Routed b ns = (dss : List (List Direction)) × Routing b (pairs ns) dss

-- ── the nets of the table ──
abbrev pub nets_b : List Net
nets_b = net 1 0 0 1 1 ∷ net 2 0 0 1 1 ∷ []

abbrev pub nets_c : List Net
nets_c = net 1 0 0 1 1 ∷ net 2 0 0 1 1 ∷ net 3 0 1 1 0 ∷ net 4 0 1 1 0 ∷ []

abbrev pub nets_d : List Net
nets_d = net 1 0 1 1 1 ∷ []

abbrev pub nets_i : List Net
nets_i = net 1 0 1 1 0 ∷ net 2 1 2 2 1 ∷ []

-- ── the table ──
pub record BoardsToBeProved : Type 0 where
  -- a: 0-1, the ring: words pass; 4 edges, 0 turns, 0 knock-knees
  pub a_read : read_words ring_input ≡ yes ring
  pub a : judge_words ring ring_output ≡ yes (record { edges = 4; turns = 0; knock_knees = 0 })
  -- b: 0-1, nets 1 and 2: (0,0)-(1,1): both margins 0, a routing exists
  pub b_row : margin (board (row 0 1 ∷ [])) (pairs nets_b) (cut.Row 0) ≡ pos 0
  pub b_column : margin (board (row 0 1 ∷ [])) (pairs nets_b) (cut.Column 0) ≡ pos 0
  pub b_routing : Routed (board (row 0 1 ∷ [])) nets_b
  -- c: b and 3, 4: (0,1)-(1,0): row 0: margin -2
  pub c : margin (board (row 0 1 ∷ [])) (pairs nets_c) (cut.Row 0) ≡ negsuc 1
  -- d: 0-2, net 1: (0,1)-(1,1): row margin 2, a routing exists
  pub d_row : margin (board (row 0 2 ∷ [])) (pairs nets_d) (cut.Row 0) ≡ pos 2
  pub d_routing : Routed (board (row 0 2 ∷ [])) nets_d
  -- e: 0-2, no nets: first odd vertex (0,1)
  pub e : head? (odd_vertices (board (row 0 2 ∷ [])) []) ≡ some (at 0 1)
  -- f: 0-1, 1-2: not convex
  pub f : Convex (board (row 0 1 ∷ row 1 2 ∷ [])) → ⊥
  -- g: 0-2, 0-1, 0-2: not convex
  pub g : Convex (board (row 0 2 ∷ row 0 1 ∷ row 0 2 ∷ [])) → ⊥
  -- h: 1-2, 0-3, 1-2: convex; (1,1) has no pin
  pub h : Convex (board (row 1 2 ∷ row 0 3 ∷ row 1 2 ∷ []))
  pub h_vertex : IsVertex (board (row 1 2 ∷ row 0 3 ∷ row 1 2 ∷ [])) (at 1 1)
  pub h_pins : pins (board (row 1 2 ∷ row 0 3 ∷ row 1 2 ∷ [])) (at 1 1) ≡ 0
  -- i: 0-2, 0-2, nets 1: (0,1)-(1,0), 2: (1,2)-(2,1): down, left and left, down pass: 1 knock-knee
  pub i : judge_words (session (row 0 2 ∷ row 0 2 ∷ []) nets_i) (routing_words nets_i ((Down ∷ Left ∷ []) ∷ (Left ∷ Down ∷ []) ∷ []))
      ≡ yes (record { edges = 4; turns = 2; knock_knees = 1 })

-- ── the cases, each by computing ──
case_a_read : read_words ring_input ≡ yes ring
unfolding everything
case_a_read = refl

case_a : judge_words ring ring_output ≡ yes (record { edges = 4; turns = 0; knock_knees = 0 })
unfolding everything
case_a = refl

case_b_row : margin (board (row 0 1 ∷ [])) (pairs nets_b) (cut.Row 0) ≡ pos 0
unfolding everything
case_b_row = refl

case_b_column : margin (board (row 0 1 ∷ [])) (pairs nets_b) (cut.Column 0) ≡ pos 0
unfolding everything
case_b_column = refl

case_b_routing : Routed (board (row 0 1 ∷ [])) nets_b
unfolding everything
case_b_routing = (
  (Right ∷ Down ∷ []) ∷ (Down ∷ Right ∷ []) ∷ [],
  (routing_exact (board (row 0 1 ∷ [])) (pairs nets_b) ((Right ∷ Down ∷ []) ∷ (Down ∷ Right ∷ []) ∷ [])).0 refl,
)

case_c : margin (board (row 0 1 ∷ [])) (pairs nets_c) (cut.Row 0) ≡ negsuc 1
unfolding everything
case_c = refl

case_d_row : margin (board (row 0 2 ∷ [])) (pairs nets_d) (cut.Row 0) ≡ pos 2
unfolding everything
case_d_row = refl

case_d_routing : Routed (board (row 0 2 ∷ [])) nets_d
unfolding everything
case_d_routing = ((Down ∷ []) ∷ [], (routing_exact (board (row 0 2 ∷ [])) (pairs nets_d) ((Down ∷ []) ∷ [])).0 refl)

case_e : head? (odd_vertices (board (row 0 2 ∷ [])) []) ≡ some (at 0 1)
unfolding everything
case_e = refl

not_convex : (b : Board) → in_limits b ≡ true → is_convex b ≡ false → Convex b → ⊥
not_convex b w e c = clash ((is-convex b).1 ((in-limits b).0 w, c)) e

case_f : Convex (board (row 0 1 ∷ row 1 2 ∷ [])) → ⊥
unfolding everything
case_f = not_convex (board (row 0 1 ∷ row 1 2 ∷ [])) refl refl

case_g : Convex (board (row 0 2 ∷ row 0 1 ∷ row 0 2 ∷ [])) → ⊥
unfolding everything
case_g = not_convex (board (row 0 2 ∷ row 0 1 ∷ row 0 2 ∷ [])) refl refl

case_h : Convex (board (row 1 2 ∷ row 0 3 ∷ row 1 2 ∷ []))
unfolding everything
case_h = ((is-convex (board (row 1 2 ∷ row 0 3 ∷ row 1 2 ∷ []))).0 refl).1

case_h_vertex : IsVertex (board (row 1 2 ∷ row 0 3 ∷ row 1 2 ∷ [])) (at 1 1)
unfolding everything
case_h_vertex = (vertex_exact (board (row 1 2 ∷ row 0 3 ∷ row 1 2 ∷ [])) (at 1 1)).0 refl

case_h_pins : pins (board (row 1 2 ∷ row 0 3 ∷ row 1 2 ∷ [])) (at 1 1) ≡ 0
unfolding everything
case_h_pins = refl

case_i : judge_words (session (row 0 2 ∷ row 0 2 ∷ []) nets_i) (routing_words nets_i ((Down ∷ Left ∷ []) ∷ (Left ∷ Down ∷ []) ∷ []))
    ≡ yes (record { edges = 4; turns = 2; knock_knees = 1 })
unfolding everything
case_i = refl

pub boards_proved : BoardsToBeProved
boards_proved = record {
  a_read = case_a_read;
  a = case_a;
  b_row = case_b_row;
  b_column = case_b_column;
  b_routing = case_b_routing;
  c = case_c;
  d_row = case_d_row;
  d_routing = case_d_routing;
  e = case_e;
  f = case_f;
  g = case_g;
  h = case_h;
  h_vertex = case_h_vertex;
  h_pins = case_h_pins;
  i = case_i;
}

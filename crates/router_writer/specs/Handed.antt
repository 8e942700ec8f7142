-- What `write_paths` leaves of a finished router's notes is what the call `route` hands back: its words fit, and are those of a routing.
-- Assumes what the router's run leaves, as in Routes, for the nets of a session, and a buffer of as many words as routing asks for.
use Rattle.std.specs.Prelude.{◌≡◌, List, ℕ, ◌≤◌, ◌<◌, length}
use Rattle.std.proofs.Common.{sym, subst, arith}
use Rattle.count.specs.Truth.{one}
use Rattle.board.specs.Board.{Within}
use Rattle.board.specs.declared.Direction.{Direction}
use Rattle.net.specs.declared.Pair.{Pair}
use Rattle.routing_rules.specs.Routing.{Routing}
use Rattle.routing_laws.proofs.Words.{words_few}
use Rattle.session_rules.specs.Session.{Session, pairs}
use Rattle.call_rules.specs.Route.{route_room, HandsBack}
use Rattle.call_rules.specs.Writing.{written_into}
use Rattle.corner.specs.Trails.{Link}
use Rattle.corner.specs.Links.{on_board}
use Rattle.router_notes.specs.Limits.{pair_limit}
use Rattle.router_notes.specs.Notes.{Item, Routed}
use Rattle.router_notes.specs.Arrays.{born, notesOf}
use Rattle.router_trace.specs.Traces.{path_d}
use Rattle.router_trace.specs.Directions.{Ordered}
use Rattle.router_writer.specs.Paths.{paths_from, words_of, Fits}
use Rattle.router_writer.specs.Routes.{pairs_from, paths-short, paths-routing}

module _ (side vert half s1 s2 d1 d2 : List ℕ) (O : Ordered half d1 d2) (s : Session) (W : Within s.block.board) (B : Link → ℕ)
    (edges : (e : Link) → B e ≤ one (on_board s.block.board e)) (it : ℕ → Item)
    (R : Routed (notesOf side vert half s1 s2 d1 d2) B (length s.nets) it)
    (made : (i : ℕ) → i < length s.nets → it i ≡ born side vert half s1 s2 d1 d2 i)
    (ends : pairs s.nets ≡ pairs_from it 0 (length s.nets)) (most : length s.nets ≤ 64) where
  abbrev P : ℕ → List ℕ
  P = path_d side vert half s1 s2 d1 d2 pair_limit

  abbrev paths : List (List Direction)
  paths = paths_from P 0 (length s.nets)

  few : length s.nets ≤ pair_limit
  few = omega arith

  routing : Routing s.block.board (pairs s.nets) paths
  routing = subst (λ (ps : List Pair). Routing s.block.board ps paths) (sym ends)
      (paths-routing side vert half s1 s2 d1 d2 O s.block.board W B edges (length s.nets) few it R made)

  pub fits : {before : List ℕ} → route_room s ≤ length before → Fits P s.nets before
  fits room = record {
    short = paths-short side vert half s1 s2 d1 d2 O s.block.board W B edges (length s.nets) few it R made;
    room = omega (arith, words_few s.block.board W s.nets paths routing);
  }

  pub handed : {before after : List ℕ} {count : ℕ} → count ≡ length (words_of P s.nets) → after ≡ written_into before (words_of P s.nets)
      → HandsBack s before after count
  handed counted words = record {
    paths = paths;
    routing = routing;
    words = words;
    counted = counted;
  }

-- Two lists that pass give the same page exactly where their paths use the same edges, by whatever nets of one board.
-- Assumes that the board is within the limits.
use Rattle.std.specs.Prelude.{◌≡◌, List, ◌↔◌, ℕ, ◌<◌}
use Rattle.std.proofs.Common.{ap, ◌∙◌}
use Rattle.board.specs.Board.{Board, Within, Edge, IsEdge}
use Rattle.board.specs.declared.Direction.{Direction}
use Rattle.routing_rules.specs.Routing.{uses}
use Rattle.session_rules.specs.Session.{Session, pairs}
use Rattle.call_rules.specs.Result.{yes}
use Rattle.call_rules.specs.Alike.{SameEdges}
use Rattle.call_rules.specs.Judge.{judged}
use Rattle.call_rules.specs.Page.{page, edges_of, used_in, page_of}
use Rattle.call_rules.specs.ReadOff.{ReadsOff}
use Rattle.call_rules.proofs.PageLaws.{page-reads, used_in_exact, same_edges, read_alike}
use Rattle.routing_laws.proofs.Used.{all_edges, joins_edges}
use Rattle.judge_laws.specs.Exact.{passes_sound}

-- the edges of a list that passes are edges of the board
pub used_edges : (s : Session) (ws : List ℕ) (dss : List (List Direction)) → judged s ws ≡ yes dss → (e : Edge) → 0 < uses e (edges_of s dss)
    → IsEdge s.block.board e
used_edges s ws dss j e h =
    all_edges s.block.board (edges_of s dss)
    (joins_edges s.block.board (pairs s.nets) dss (passes_sound s ws dss j).routing.joins) e h

-- all that stands on a page
pub reads_off : (s : Session) → Within s.block.board → (dss : List (List Direction))
    → ReadsOff s.block.board (λ e. 0 < uses e (edges_of s dss)) (page_of s dss)
reads_off s w dss = page-reads s.block.board w (used_in (edges_of s dss)) (λ e. 0 < uses e (edges_of s dss)) (used_in_exact (edges_of s dss))

-- THE LAW: of two sessions on one board, whatever their nets
pub same_page : (s t : Session) → Within s.block.board → s.block.board ≡ t.block.board → (vs ws : List ℕ) (dss ess : List (List Direction))
    → judged s vs ≡ yes dss → judged t ws ≡ yes ess → (page_of s dss ≡ page_of t ess) ↔ SameEdges (edges_of s dss) (edges_of t ess)
same_page s t w b vs ws dss ess j k = (
  λ p e.
      let R = reads_off s w dss in
      let S : ReadsOff s.block.board (λ e. 0 < uses e (edges_of t ess)) (page_of s dss) = rw (p, b) (reads_off t (rw b at w) ess) in
      (λ h. (read_alike R S e (used_edges s vs dss j e h)).0 h, λ h. (read_alike R S e (rw b (used_edges t ws ess k e h))).1 h),
  λ same. ap (λ (x : Board). page x (used_in (edges_of s dss))) b ∙ same_edges t.block.board (edges_of s dss) (edges_of t ess) same,
)

-- The edges that end at a vertex: each leaves it in exactly one of the four directions, so that the degree counts each of them once; and
-- where there is no place further on in a direction there is no edge.
-- Assumes nothing: the laws hold on any board, within the limits or not.
use Rattle.std.specs.Prelude.{◌≡◌, refl, true, ◌⊎◌, suc, ◌+◌, ◌-◌}
use Rattle.std.proofs.Common.{ap, sym, ◌∙◌, subst, inl, inr, arith}
use Rattle.board.specs.Board.{Board, Edge, top_side, bottom_side, left_side, right_side, IsEdge}
use Rattle.board.specs.Path.{next, along}
use Rattle.board.specs.Degree.{edge?}
use Rattle.board.specs.Tests.{edge_exact}
use Rattle.board.specs.declared.Vertex.{Vertex}
use Rattle.board.specs.declared.Direction.{Direction}
use Rattle.board.specs.declared.Direction.TheVariants.{Up, Right, Down, Left}

-- ── an edge's ends ──
-- DEFINITION: v is one of the ends of e
abbrev pub EndsAt : Edge → Vertex → Type 0
EndsAt e v = (e.from ≡ v) ⊎ (e.to ≡ v)

pub along_ends : (d : Direction) (v : Vertex) → EndsAt (along d v) v
along_ends Up v = inr refl
along_ends Right v = inl refl
along_ends Down v = inl refl
along_ends Left v = inr refl

-- line and column together are one more at the second end
abbrev Rises : Edge → Type 0
Rises e = e.to.line + e.to.column ≡ suc (e.from.line + e.from.column)

pub edge_rises : (b : Board) (e : Edge) → IsEdge b e → Rises e
edge_rises b e (i, j, c, top_side) = omega arith
edge_rises b e (i, j, c, bottom_side) = omega arith
edge_rises b e (i, j, c, left_side) = omega arith
edge_rises b e (i, j, c, right_side) = omega arith

-- above line 0 and left of column 0 there is no edge
pub no_edge_in_place : (b : Board) (d : Direction) (v : Vertex) → next d v ≡ v → IsEdge b (along d v) → ⊥
no_edge_in_place b d v e k = stays d v (ap (λ (u : Vertex). u.line + u.column) e) (edge_rises b (along d v) k)
  where
    stays : (d : Direction) (v : Vertex) → (next d v).line + (next d v).column ≡ v.line + v.column → Rises (along d v) → ⊥
    stays Up v e r = omega arith
    stays Right v e r = omega arith
    stays Down v e r = omega arith
    stays Left v e r = omega arith

-- ── an edge's direction ──
-- some direction
leaves : (b : Board) (v : Vertex) (e : Edge) → IsEdge b e → EndsAt e v → (d : Direction) × (e ≡ along d v)
leaves b v e (i, j, c, top_side) (inl p) = (Right, rw (← p) refl)
leaves b v e (i, j, c, top_side) (inr p) = (Left, let f : suc j - 1 ≡ j = omega arith in rw (← p, f) refl)
leaves b v e (i, j, c, bottom_side) (inl p) = (Right, rw (← p) refl)
leaves b v e (i, j, c, bottom_side) (inr p) = (Left, let f : suc j - 1 ≡ j = omega arith in rw (← p, f) refl)
leaves b v e (i, j, c, left_side) (inl p) = (Down, rw (← p) refl)
leaves b v e (i, j, c, left_side) (inr p) = (Up, let f : suc i - 1 ≡ i = omega arith in rw (← p, f) refl)
leaves b v e (i, j, c, right_side) (inl p) = (Down, rw (← p) refl)
leaves b v e (i, j, c, right_side) (inr p) = (Up, let f : suc i - 1 ≡ i = omega arith in rw (← p, f) refl)

-- and no other
once : (d e : Direction) (v : Vertex) → Rises (along e v)
    → (along d v).from.line ≡ (along e v).from.line → (along d v).from.column ≡ (along e v).from.column
    → (along d v).to.line ≡ (along e v).to.line → (along d v).to.column ≡ (along e v).to.column → d ≡ e
once Up Up v r p q s t = refl
once Up Right v r p q s t = absurd (omega arith)
once Up Down v r p q s t = absurd (omega arith)
once Up Left v r p q s t = absurd (omega arith)
once Right Up v r p q s t = absurd (omega arith)
once Right Right v r p q s t = refl
once Right Down v r p q s t = absurd (omega arith)
once Right Left v r p q s t = absurd (omega arith)
once Down Up v r p q s t = absurd (omega arith)
once Down Right v r p q s t = absurd (omega arith)
once Down Down v r p q s t = refl
once Down Left v r p q s t = absurd (omega arith)
once Left Up v r p q s t = absurd (omega arith)
once Left Right v r p q s t = absurd (omega arith)
once Left Down v r p q s t = absurd (omega arith)
once Left Left v r p q s t = refl

-- DEFINITION: e is counted by the degree of v, for one direction and no other
pub record CountedOnce (b : Board) (v : Vertex) (e : Edge) : Type 0 where
  pub direction : Direction
  pub there : e ≡ along direction v
  pub counted : edge? b direction v ≡ true
  pub only : (d : Direction) → e ≡ along d v → d ≡ direction

-- "The degree of a vertex is its count of edges": no edge that ends at v is left out, and none is counted twice
pub degree_counts : (b : Board) (v : Vertex) (e : Edge) → IsEdge b e → EndsAt e v → CountedOnce b v e
degree_counts b v e k n =
    let h = leaves b v e k n in let d = h.0 in
    let there : IsEdge b (along d v) = subst (λ (x : Edge). IsEdge b x) h.1 k in
    record {
      direction = d;
      there = h.1;
      counted = (edge_exact b d v).1 there;
      only = λ f g. let s : along f v ≡ along d v = sym g ∙ h.1 in
          once f d v (edge_rises b (along d v) there) (ap (λ (x : Edge). x.from.line) s) (ap (λ (x : Edge). x.from.column) s)
          (ap (λ (x : Edge). x.to.line) s) (ap (λ (x : Edge). x.to.column) s);
    }

-- edges with the same ends are the same
pub edge_eq : (e f : Edge) → e.from.line ≡ f.from.line → e.from.column ≡ f.from.column → e.to ≡ f.to → e ≡ f
edge_eq e f p q r = λ i. record { from = record { line = p i; column = q i }; to = r i }

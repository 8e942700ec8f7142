-- Each step deletes one vertex, a turn none; a shape has a vertex, and at most 1,024.
-- Assumes Ready where a step is made.
use Rattle.std.specs.Prelude.{◌≡◌, Bool, true, false, ◌+◌, ◌≤◌, ◌<◌, get_or, set}
use Rattle.std.proofs.Common.{ap, ◌∙◌, sym, inl, inr, arith, add-one}
use Rattle.count.specs.Truth.{one}
use Rattle.count.specs.TruthLaws.{one_le}
use Rattle.count.specs.Sum.{sum, sum_eq}
use Rattle.count.specs.Sums.{sum_le, sum_get, sum_const}
use Rattle.corner.specs.Shape.{size, last, Shape, present, vertices, Shaped, narrow, lower}
use Rattle.corner.proofs.Presence.{last_suc, present_one}
use Rattle.corner.proofs.Delete.{narrow_less, lower_less, fewer}
use Rattle.router_notes.specs.Limits.{vertex_limit}
use Rattle.router_notes.specs.State.{State}
use Rattle.router_notes.specs.Alike.{Alike, present-alike, shape_of, turn_l, narrow_alike}
use Rattle.router_invariant.specs.Run.{Run, shape_r, line_r, col_r}
use Rattle.router_invariant.proofs.Place.{seen_turn, last_is, col-is}
use Rattle.router_invariant.specs.Ready.{Ready}
use Rattle.router_invariant.proofs.ReadyLaws.{shaped}
use Rattle.router_invariant.proofs.OneEdge.{right_run, down_run}
use Rattle.router_invariant.proofs.TwoEnds.{split_run}
use Rattle.router_invariant.proofs.Helper.{helper_run}
use Rattle.router_invariant.specs.Divide.{divide_run}
use Rattle.router_invariant.proofs.Step.{Step, end_r, right, down, split_two, nearest, at_nul, helped}

pub vertices_alike : (S S' : Shape) → Alike S S' → vertices S ≡ vertices S'
unfolding vertices
vertices_alike S S' A = sum_eq size _ _ (λ l h. sum_eq size _ _ (λ c k. ap one (present-alike S S' A l c)))

pub vertices_some : (S : Shape) → Shaped S → 1 ≤ vertices S
unfolding vertices
vertices_some S G = omega (
  arith,
  present_one S S.top (S.a S.top) (omega arith) G.order (omega arith) (G.full S.top (omega arith, G.order)),
  sum_get size (S.a S.top) (λ c. one (present S S.top c))
      (omega (arith, G.full S.top (omega arith, G.order), G.thin S.top (omega arith, G.order))),
  sum_get size S.top (λ l. sum size (λ c. one (present S l c))) (omega (arith, G.order, G.low)),
)

pub vertices_few : (S : Shape) → vertices S ≤ vertex_limit
unfolding vertices size
vertices_few S = omega (
  arith,
  sum_le 32 (λ l. sum 32 (λ c. one (present S l c))) (λ l. 32)
      (λ l h. omega (arith, sum_le 32 (λ c. one (present S l c)) (λ c. 1) (λ c k. one_le (present S l c)), sum_const 32 1)),
  sum_const 32 32,
)

module _ (s0 : State) (R : Run) (Q : Ready s0 R) where
  abbrev T : Shape
  T = shape_r R

  G : Shaped (shape_r R)
  G = shaped s0 R Q

  end_is : end_r R ≡ T.b T.top
  end_is = ap (λ k. get_or R.hi k 0) (seen_turn R.up R.top)

  narrowed : col_r R < end_r R → vertices (shape_r R) ≡ vertices (shape_of (set R.lo (line_r R) (col_r R + 1)) R.hi R.top R.bottom R.up) + 1
  narrowed h = fewer T (narrow T) G (narrow_less T G (omega (arith, col-is R G, end_is)))
      ∙ ap (λ n. n + 1) (rw (seen_turn R.up R.top) (vertices_alike _ _
      (narrow_alike R.lo R.hi R.top R.bottom R.up low G.order (omega (arith, turned R.up, Q.sized.lo)))))
    where
      low : R.bottom ≤ last
      low = omega (arith, G.low, last_suc)

      turned : (o : Bool) → turn_l o R.top < 32
      turned false = omega (arith, low, last_is, G.order)
      turned true = omega (arith, last_is)

  lowered : col_r R ≡ end_r R → vertices (shape_r R) ≡ vertices (shape_of R.lo R.hi (R.top + 1) R.bottom R.up) + 1
  lowered h = fewer T (lower T) G (lower_less T G (omega (arith, col-is R G, end_is)))
      ∙ ap (λ t. vertices (shape_of R.lo R.hi t R.bottom R.up) + 1) (sym (add-one R.top))

  to : (R' D : Run) → R' ≡ D → vertices (shape_r R) ≡ vertices (shape_r D) + 1 → vertices (shape_r R) ≡ vertices (shape_r R') + 1
  to R' D e h = h ∙ ap (λ X. vertices (shape_r X) + 1) (sym e)

  pub step_fewer : (R' : Run) → Step R R' → vertices (shape_r R) ≡ vertices (shape_r R') + 1
  step_fewer R' (right i wide flat F li e) = to R' (right_run R i) e (narrowed wide)
  step_fewer R' (down i thin deep F li e) = to R' (down_run R i) e (lowered thin)
  step_fewer R' (split_two i j wide deep F li E lj h) =
      elim h [ inl g ↦ to R' (split_run R i j) g.1 (narrowed wide) | inr g ↦ to R' (split_run R j i) g.1 (narrowed wide) ]
  step_fewer R' (nearest i E full L li h) = elim h [
    | inl g ↦ to R' (divide_run R i true) g.1 (narrowed E.0)
    | inr g ↦
        to R' (divide_run R i false) g.1 (narrowed E.0)
  ]
  step_fewer R' (at_nul i E n full F li h) = elim h [
    | inl g ↦ to R' (divide_run R i true) g.1 (narrowed E.0)
    | inr g ↦
        to R' (divide_run R i false) g.1 (narrowed E.0)
  ]
  step_fewer R' (helped E n m e) = to R' (helper_run R) e (narrowed E.0)

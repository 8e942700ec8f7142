-- A step keeps the invariant, and the router is never stuck while a pair is live.
-- Assumes Ready and room for two more numbers.
use Rattle.std.specs.Prelude.{◌≡◌, Bool, true, false, ℕ, ◌+◌, ◌-◌, ◌<◌, get_or}
use Rattle.std.proofs.Common.{ap, sym, subst, inl, inr, arith}
use Rattle.net.specs.Terminals.{same}
use Rattle.corner.specs.Pairs.{standing}
use Rattle.corner.specs.Shape.{Shape, Shaped, UL, Full, Roomy, top_cut, left_cut}
use Rattle.router_notes.specs.Limits.{pair_limit, last_pair}
use Rattle.router_notes.specs.State.{State}
use Rattle.router_table.specs.Scans.{cross_d, Least, swap_d}
use Rattle.router_invariant.specs.Run.{Run, shape_r, pairs_r, Sized, Holds, line_r, col_r, ul_r}
use Rattle.router_invariant.proofs.Place.{seen_turn, col-is, ul-is}
use Rattle.router_invariant.specs.Ready.{Ready}
use Rattle.router_invariant.proofs.ReadyLaws.{shaped, top-low}
use Rattle.router_invariant.proofs.OneEdge.{right_run, down_run, right-holds, down_holds}
use Rattle.router_invariant.proofs.TwoEnds.{split_run, split-holds}
use Rattle.router_invariant.proofs.Helper.{helper_run, helper-holds}
use Rattle.router_invariant.specs.Divide.{divide_run}
use Rattle.router_invariant.proofs.Ends.{corner-clear, corner-two, second-found, right-found, down-found, single-empty, standing-some}
use Rattle.router_invariant.proofs.Choice.{far_w, keep-choice, swap-choice}
use Rattle.router_invariant.proofs.Cuts.{left-full, left-roomy, top-full, top-roomy}
use Rattle.router_invariant.proofs.AtNul.{nul-found, nul-first, nul-second}
use Rattle.router_invariant.proofs.Step.{
  end_r,
  FirstR,
  NoEnd,
  LeftFull,
  TopFull,
  Step,
  Stuck,
  right,
  down,
  split_two,
  nearest,
  at_nul,
  helped,
  no_right,
  no_down,
  no_second,
  no_nearest,
  no_nul,
  no_edge,
  no_line,
}
use Rattle.router_invariant.proofs.Sizes.{sized_right, sized_down, sized_split, sized_helper, sized_divide}
use Rattle.router_invariant.proofs.Nearest.{least-found, least_first, least-second}

module _ (s0 : State) (R : Run) (Q : Ready s0 R) (few : R.n < pair_limit) (room : R.next < last_pair) where
  abbrev T : Shape
  T = shape_r R

  G : Shaped (shape_r R)
  G = shaped s0 R Q

  end_is : end_r R ≡ T.b T.top
  end_is = ap (λ k. get_or R.hi k 0) (seen_turn R.up R.top)

  wide_is : col_r R < end_r R → T.a T.top < T.b T.top
  wide_is h = omega (arith, col-is R G, end_is)

  thin_is : col_r R ≡ end_r R → T.a T.top ≡ T.b T.top
  thin_is h = omega (arith, col-is R G, end_is)

  clear : (E : NoEnd R) → standing (same (UL T)) (pairs_r R) ≡ 0
  clear E = corner-clear s0 R Q E.2

  left-yes : NoEnd R → LeftFull R → Full T (pairs_r R) (left_cut T)
  left-yes E h = left-full s0 R Q (wide_is E.0) E.1 (subst (λ x. cross_d R.la R.lb x R.n ≡ R.bottom - R.top + 1) (col-is R G) h)

  left-no : NoEnd R → (LeftFull R → ⊥) → Roomy T (pairs_r R) (left_cut T)
  left-no E h = left-roomy s0 R Q (wide_is E.0) E.1
      (λ e. h (subst (λ x. cross_d R.la R.lb x R.n ≡ R.bottom - R.top + 1) (sym (col-is R G)) e))

  top-yes : NoEnd R → TopFull R → Full T (pairs_r R) (top_cut T)
  top-yes E h = top-full s0 R Q (wide_is E.0) E.1 (omega (arith, h, col-is R G, end_is))

  top-no : NoEnd R → (TopFull R → ⊥) → Roomy T (pairs_r R) (top_cut T)
  top-no E h = top-roomy s0 R Q (wide_is E.0) E.1 (λ e. h (omega (arith, e, col-is R G, end_is)))

  near : (i j : ℕ) (b : Bool) → swap_d (far_w R i) (far_w R j) (line_r R) (col_r R) ≡ b → swap_d (far_w R i) (far_w R j) (line_r R) (T.a T.top) ≡ b
  near i j b = subst (λ x. swap_d (far_w R i) (far_w R j) (line_r R) x ≡ b) (col-is R G)

  -- the run after the step
  to : (R' D : Run) → R' ≡ D → Holds s0 D → Sized D → Holds s0 R' × Sized R'
  to R' D e h z = subst (λ X. Holds s0 X × Sized X) (sym e) (h, z)

  two-found : (i j : ℕ) → col_r R < end_r R → R.top < R.bottom → FirstR R (ul_r R) 0 i → i < R.n → standing (same (UL T)) (pairs_r R) ≡ 2
  two-found i j wide deep F li = corner-two s0 R Q (wide_is wide) deep
      (standing-some s0 R Q (UL T) (ul_r R) (top-low s0 R Q) (ul-is R G) i li (F.found li))

  pub step-holds : (R' : Run) → Step R R' → Holds s0 R' × Sized R'
  step-holds R' (right i wide flat F li e) = to R' (right_run R i) e (right-holds s0 R Q i li (omega arith) (F.found li) (wide_is wide) flat)
      (sized_right R i Q.sized)
  step-holds R' (down i thin deep F li e) = to R' (down_run R i) e (down_holds s0 R Q i li (omega arith) (F.found li) (thin_is thin) deep)
      (sized_down R i Q.sized)
  step-holds R' (split_two i j wide deep F li E lj h) =
      let ne : i ≡ j → ⊥ = λ e. omega (arith, E.least) in
      elim h [
        | inl g ↦ to R' (split_run R i j) g.1 (split-holds s0 R Q i j li lj ne (omega arith) (F.found li) (E.found lj) (wide_is wide) deep
            (two-found i j wide deep F li)
            (keep-choice s0 R Q i j li lj (F.found li) (E.found lj) (near i j false g.0))) (sized_split R i j Q.sized)
        | inr g ↦ to R' (split_run R j i) g.1 (split-holds s0 R Q j i lj li (λ e. ne (sym e)) (omega arith) (E.found lj) (F.found li)
            (wide_is wide) deep (two-found i j wide deep F li)
            (swap-choice s0 R Q i j li lj (F.found li) (E.found lj) (near i j true g.0))) (sized_split R j i Q.sized)
      ]
  step-holds R' (nearest i E full L li h) =
      let L' = subst (λ x. Least R.la R.lb R.n x R.up i) (col-is R G) L in
      elim h [
        | inl g ↦ to R' (divide_run R i true) g.1 (least_first s0 R Q (wide_is E.0) E.1 (clear E) (left-yes E full) i L' li few room
            (omega (arith, g.0, col-is R G))) (sized_divide R i true Q.sized)
        | inr g ↦ to R' (divide_run R i false) g.1 (least-second s0 R Q (wide_is E.0) E.1 (clear E) (left-yes E full) i L' li few room
            (omega (arith, g.0, col-is R G))) (sized_divide R i false Q.sized)
      ]
  step-holds R' (at_nul i E notFull full F li h) = elim h [
    | inl g ↦ to R' (divide_run R i true) g.1 (nul-first s0 R Q (wide_is E.0) E.1 (clear E) (top-yes E full) i li few room (left-no E notFull)
        g.0) (sized_divide R i true Q.sized)
    | inr g ↦ to R' (divide_run R i false) g.1 (nul-second s0 R Q (wide_is E.0) E.1 (clear E) (top-yes E full) i li few room
        (left-no E notFull)
        (elim (F.found li) [ inl b ↦ absurd (g.0 b) | inr b ↦ b ])) (sized_divide R i false Q.sized)
  ]
  step-holds R' (helped E notLeft notTop e) = to R' (helper_run R) e
      (helper-holds s0 R Q few (wide_is E.0) E.1 (clear E) (top-no E notTop) (left-no E notLeft)) (sized_helper R Q.sized)

  pub never_stuck : 0 < R.n → Stuck R → ⊥
  never_stuck live (no_right i wide flat F l) = omega (arith, right-found s0 R Q (wide_is wide) flat i F)
  never_stuck live (no_down i thin deep F l) = omega (arith, down-found s0 R Q (thin_is thin) deep i F)
  never_stuck live (no_second i j wide deep F li E l) = omega (arith, second-found s0 R Q (wide_is wide) deep i j li F E)
  never_stuck live (no_nearest i E full L l) = omega (
    arith,
    least-found s0 R Q (wide_is E.0) E.1 (clear E) (left-yes E full) i (subst (λ x. Least R.la R.lb R.n x R.up i) (col-is R G) L)
        (subst (λ x. cross_d R.la R.lb x R.n ≡ R.bottom - R.top + 1) (col-is R G) full),
  )
  never_stuck live (no_nul i E full F l) = omega (arith, nul-found s0 R Q (wide_is E.0) E.1 (clear E) (top-yes E full) i F)
  never_stuck live (no_edge thin flat) = omega (arith, single-empty s0 R Q (thin_is thin) flat)
  never_stuck live (no_line h) = elim h [
    | inl b ↦ absurd (omega (arith, col-is R G, end_is, G.full R.top (omega arith, G.order)))
    | inr b ↦ absurd (omega (arith, G.order))
  ]

-- What the two counts tell: the cuts beside the corner are full, or have room.
-- Assumes Ready and a corner with two edges.
use Rattle.std.specs.Prelude.{◌≡◌, Bool, ℕ, suc, ◌+◌, ◌-◌, ◌≤◌, ◌<◌, get_or, eqb, leb}
use Rattle.std.proofs.Math.Path.{refl, ap₂}
use Rattle.std.proofs.Common.{ap, ◌∙◌, sym, inl, inr, arith, eq-eqb, eqb-true, le-leb, leb-true}
use Rattle.std.proofs.Math.Bool.{true, false}
use Rattle.count.specs.TruthLaws.{bool_eq}
use Rattle.count.specs.Bits.{eq_case}
use Rattle.count.specs.Sum.{sum_eq}
use Rattle.board.specs.declared.Vertex.{Vertex}
use Rattle.cut.specs.declared.Cut.TheVariants.{Row, Column}
use Rattle.cut.specs.Cut.{side}
use Rattle.corner.specs.Pairs.{leaving, apart}
use Rattle.corner.proofs.Taking.{all_take}
use Rattle.corner.specs.Shape.{Shape, present, Here, cap, last, Full, Roomy, top_cut, left_cut}
use Rattle.corner.proofs.CutEdges.{cap-col, cap-row}
use Rattle.router_notes.specs.Inv.{turn, turn_i}
use Rattle.router_notes.specs.Alike.{turn_l}
use Rattle.router_notes.specs.Arrays.{vtx}
use Rattle.router_notes.specs.Table.{tally-of, take_item}
use Rattle.router_notes.specs.State.{State}
use Rattle.router_table.specs.Scans.{cross_d, leave_d, seen_d}
use Rattle.router_invariant.specs.Run.{Run, shape_r, row_r, pairs_r, line_r}
use Rattle.router_invariant.proofs.Place.{turn_at, last_is}
use Rattle.router_invariant.specs.Ready.{Ready}
use Rattle.router_invariant.proofs.ReadyLaws.{shaped, top-low}

module _ (s0 : State) (R : Run) (Q : Ready s0 R) (wide : (shape_r R).a R.top < (shape_r R).b R.top) (deep : R.top < R.bottom) where
  abbrev o : Bool
  o = R.up

  abbrev T : Shape
  T = shape_r R

  cross-is : leaving (side (Column (T.a T.top))) (pairs_r R) ≡ cross_d R.la R.lb (T.a T.top) R.n
  unfolding leaving cross_d
  cross-is = tally-of (λ u v. apart (leb u.column (T.a T.top)) (leb v.column (T.a T.top))) R.n (λ i. turn_i o (row_r R i))
      ∙ sum_eq R.n _ _ (λ i l. ap₂ (λ p q. apart (leb p (T.a T.top)) (leb q (T.a T.top))) (column o (vtx (get_or R.la i 0)))
      (column o (vtx (get_or R.lb i 0))))
    where
      column : (b : Bool) (v : Vertex) → (turn b v).column ≡ v.column
      column false v = refl
      column true v = refl

  leave-is : leaving (side (Row R.top)) (pairs_r R) ≡ leave_d R.la R.lb (line_r R) R.n
  unfolding leaving leave_d
  leave-is = tally-of (λ u v. apart (leb u.line R.top) (leb v.line R.top)) R.n (λ i. turn_i o (row_r R i))
      ∙ sum_eq R.n _ _ (λ i l.
      let k = take_item R.n (λ j. turn_i o (row_r R j)) i l (turn o (row_r R i).a) (turn o (row_r R i).b) (inl (refl, refl)) in
      let h = all_take (Here T) _ _ k.1 Q.holds.inv.good.stand in let f = Q.holds.inv.frame i l in
      ap₂ apart (bit (row_r R i).a f.0 h.0) (bit (row_r R i).b f.1 h.1))
    where
      low : R.top ≤ 31
      low = omega (arith, top-low s0 R Q, last_is)

      seen : (b : Bool) (m : ℕ) → m ≤ last → R.top ≤ turn_l b m → leb (turn_l b m) R.top ≡ eqb m (seen_d b R.top)
      seen false m h g = bool_eq _ _ (λ e. eq-eqb m R.top (omega (arith, leb-true m R.top e)))
          (λ e. le-leb m R.top (omega (arith, eqb-true m R.top e)))
      seen true m h g = bool_eq _ _ (λ e. eq-eqb m (31 - R.top) (omega (arith, leb-true (last - m) R.top e, last_is)))
          (λ e. le-leb (last - m) R.top (omega (arith, eqb-true m (31 - R.top) e, last_is)))

      bit : (v : Vertex) → v.line ≤ last → Here T (turn o v) → leb (turn o v).line R.top ≡ eqb v.line (line_r R)
      bit v b h = ap (λ m. leb m R.top) (ap (λ w. w.line) (turn_at o v.line v.column))
          ∙ seen o v.line b (omega (arith, h.low, ap (λ w. w.line) (turn_at o v.line v.column)))

  -- as the code compares
  cap-left : cap (present T) (left_cut T) ≡ R.bottom - R.top + 1
  cap-left = omega (arith, cap-col T (shaped s0 R Q) Q.inside wide)

  cap-top : cap (present T) (top_cut T) + T.a T.top ≡ T.b T.top + 1
  cap-top = let t = Q.inside (suc R.top) (omega arith, deep) in
      omega (arith, cap-row T (shaped s0 R Q) Q.inside R.top (omega arith) deep, t)

  pub left-full : cross_d R.la R.lb (T.a T.top) R.n ≡ R.bottom - R.top + 1 → Full T (pairs_r R) (left_cut T)
  left-full e = cross-is ∙ e ∙ sym cap-left

  pub left-roomy : (cross_d R.la R.lb (T.a T.top) R.n ≡ R.bottom - R.top + 1 → ⊥) → Roomy T (pairs_r R) (left_cut T)
  left-roomy n = let k = Q.holds.inv.good.cuts (left_cut T) in
      elim (eq_case (leaving (side (left_cut T)) (pairs_r R)) (cap (present T) (left_cut T))) [
        | inl e ↦ absurd (n (sym cross-is ∙ e.2 ∙ cap-left))
        | inr e ↦ omega (arith, k.1, e.2)
      ]

  pub top-full : leave_d R.la R.lb (line_r R) R.n + T.a T.top ≡ T.b T.top + 1 → Full T (pairs_r R) (top_cut T)
  top-full e = omega (arith, leave-is, cap-top)

  pub top-roomy : (leave_d R.la R.lb (line_r R) R.n + T.a T.top ≡ T.b T.top + 1 → ⊥) → Roomy T (pairs_r R) (top_cut T)
  top-roomy n = let k = Q.holds.inv.good.cuts (top_cut T) in elim (eq_case (leaving (side (top_cut T)) (pairs_r R)) (cap (present T) (top_cut T))) [
    | inl e ↦ absurd (n (omega (arith, leave-is, cap-top, e.2)))
    | inr e ↦ omega (arith, k.1, e.2)
  ]

-- A pair with an end at NUL is found where the top cut is full, and dividing it keeps the invariant.
-- Assumes Ready, a corner with two edges and no terminal, a full top cut and room at the left one.
use Rattle.std.specs.Prelude.{◌≡◌, refl, Bool, true, false, ℕ, ◌+◌, ◌<◌, get_or}
use Rattle.std.proofs.Common.{ap, ◌∙◌, inl, inr, arith}
use Rattle.count.specs.TruthLaws.{le_or_lt}
use Rattle.board.specs.declared.Vertex.{Vertex}
use Rattle.net.specs.Terminals.{same}
use Rattle.corner.specs.Pairs.{standing}
use Rattle.corner.specs.Shape.{Shape, UL, NUL, BUL, Full, Roomy, top_cut, left_cut}
use Rattle.corner.proofs.TopLine.{full-top, full-below}
use Rattle.router_notes.specs.Limits.{pair_limit, last_pair}
use Rattle.router_notes.specs.Notes.{Item, item}
use Rattle.router_notes.specs.Goods.{nul_table}
use Rattle.router_notes.specs.Corner.{turn_twice}
use Rattle.router_notes.specs.Inv.{turn, turn_i}
use Rattle.router_notes.specs.Arrays.{vtx}
use Rattle.router_notes.specs.Table.{Has, take_item}
use Rattle.router_notes.specs.State.{State}
use Rattle.router_table.specs.Scans.{First}
use Rattle.router_invariant.specs.Run.{Run, shape_r, row_r, pairs_r, Holds, nul_r, bul_r}
use Rattle.router_invariant.proofs.Place.{nul-is, bul-is}
use Rattle.router_invariant.specs.Ready.{Ready}
use Rattle.router_invariant.proofs.ReadyLaws.{shaped, nul-low, bul-low}
use Rattle.router_invariant.specs.Divide.{divide_run}
use Rattle.router_invariant.proofs.DivideLaws.{halved, half-one, half-two, rest-kept, divide-holds}
use Rattle.router_invariant.proofs.Ends.{standing-clear}

module _ (s0 : State) (R : Run) (Q : Ready s0 R) (wide : (shape_r R).a R.top < (shape_r R).b R.top) (deep : R.top < R.bottom)
    (none : standing (same (UL (shape_r R))) (pairs_r R) ≡ 0) (full : Full (shape_r R) (pairs_r R) (top_cut (shape_r R))) where
  abbrev o : Bool
  o = R.up

  abbrev T : Shape
  T = shape_r R

  pub nul-found : (i : ℕ) → First R.la R.lb (nul_r R) 0 R.n i → i < R.n
  nul-found i F = elim (le_or_lt R.n i) [
    | inr h ↦ h
    | inl h ↦ absurd (omega (
      arith,
      full-top T (pairs_r R) Q.holds.inv.good Q.inside wide deep none full,
      standing-clear s0 R Q (NUL T) (nul_r R) (nul-low s0 R Q) (nul-is R (shaped s0 R Q) wide) (λ k a b. F.before k a (omega arith)),
    ))
  ]

  module _ (i : ℕ) (li : i < R.n) (few : R.n < pair_limit) (room : R.next < last_pair) (roomy : Roomy T (pairs_r R) (left_cut T)) where
    -- the other end is below the top line
    below : (q : Vertex) → Has (turn_i o (row_r R i)) (NUL T) q → R.top < q.line
    below q h = let k = take_item R.n (λ j. turn_i o (row_r R j)) i li (NUL T) q h in
        full-below T (pairs_r R) Q.holds.inv.good Q.inside wide deep none full q k.0 k.1

    at_nul : (y : ℕ) → y ≡ nul_r R → turn o (vtx y) ≡ NUL T
    at_nul y e = ap (λ z. turn o (vtx z)) e ∙ ap (turn o) (nul-is R (shaped s0 R Q) wide) ∙ turn_twice o (NUL T) (nul-low s0 R Q)

    at-bul : turn o (vtx (bul_r R)) ≡ BUL T
    at-bul = ap (turn o) (bul-is R (shaped s0 R Q) deep) ∙ turn_twice o (BUL T) (bul-low s0 R Q deep)

    pub nul-first : get_or R.la i 0 ≡ nul_r R → Holds s0 (divide_run R i true)
    nul-first e = divide-holds s0 R Q i li few room true wide deep
        (nul_table T R.n (λ k. turn_i o (row_r R k)) (λ k. turn_i o (halved s0 R Q i li few room true wide deep k)) i (turn o (row_r R i).b)
        Q.holds.inv.good Q.inside wide deep none li
        has (below _ has) roomy
        (inl (
          inl (ap (λ (y : Item). turn o y.a) one ∙ at_nul _ e, ap (λ (y : Item). turn o y.b) one ∙ at_nul _ refl),
          inl (ap (λ (y : Item). turn o y.a) two ∙ at-bul, ap (λ (y : Item). turn o y.b) two),
        ))
        (λ k l n. ap (turn_i o) (rest-kept s0 R Q i li few room true wide deep k l n)))
      where
        has : Has (turn_i o (row_r R i)) (NUL T) (turn o (row_r R i).b)
        has = inl (at_nul _ e, refl)

        one : halved s0 R Q i li few room true wide deep i ≡ item R.next (row_r R i).a (vtx (nul_r R))
        one = half-one s0 R Q i li few room true wide deep

        two : halved s0 R Q i li few room true wide deep R.n ≡ item (R.next + 1) (vtx (bul_r R)) (row_r R i).b
        two = half-two s0 R Q i li few room true wide deep

    pub nul-second : get_or R.lb i 0 ≡ nul_r R → Holds s0 (divide_run R i false)
    nul-second e = divide-holds s0 R Q i li few room false wide deep
        (nul_table T R.n (λ k. turn_i o (row_r R k)) (λ k. turn_i o (halved s0 R Q i li few room false wide deep k)) i (turn o (row_r R i).a)
        Q.holds.inv.good Q.inside wide deep none li
        has (below _ has) roomy
        (inr (
          inl (ap (λ (y : Item). turn o y.a) one, ap (λ (y : Item). turn o y.b) one ∙ at-bul),
          inl (ap (λ (y : Item). turn o y.a) two ∙ at_nul _ refl, ap (λ (y : Item). turn o y.b) two ∙ at_nul _ e),
        ))
        (λ k l n. ap (turn_i o) (rest-kept s0 R Q i li few room false wide deep k l n)))
      where
        has : Has (turn_i o (row_r R i)) (NUL T) (turn o (row_r R i).a)
        has = inr (at_nul _ e, refl)

        one : halved s0 R Q i li few room false wide deep i ≡ item R.next (row_r R i).a (vtx (bul_r R))
        one = half-one s0 R Q i li few room false wide deep

        two : halved s0 R Q i li few room false wide deep R.n ≡ item (R.next + 1) (vtx (nul_r R)) (row_r R i).b
        two = half-two s0 R Q i li few room false wide deep

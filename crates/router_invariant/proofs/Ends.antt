-- What a search for ends at a vertex tells of the problem: how many terminals stand there, and so which rows are found at the corner.
-- Assumes Ready.
use Rattle.std.specs.Prelude.{◌≡◌, refl, Bool, true, [], ◌⊎◌, ℕ, zero, suc, ◌+◌, ◌≤◌, ◌<◌, length, get_or, eqb}
use Rattle.std.proofs.Common.{ap, ◌∙◌, sym, subst, inl, inr, arith, eq-eqb, ne_eqb, eqb-true}
use Rattle.std.proofs.Math.Path.{ap₂}
use Rattle.count.specs.Truth.{one}
use Rattle.count.specs.TruthLaws.{clash, bool_eq, le_or_lt}
use Rattle.count.specs.Bits.{eq_case}
use Rattle.count.specs.Sum.{sum, sum_eq}
use Rattle.count.specs.Sums.{sum_none, sum_get}
use Rattle.board.specs.declared.Vertex.{Vertex}
use Rattle.net.specs.Terminals.{same}
use Rattle.corner.specs.Pairs.{standing}
use Rattle.net.specs.Same.{same_true, same_self}
use Rattle.corner.proofs.Taking.{proper_take}
use Rattle.corner.specs.Shape.{Shape, last, UL, NUL, BUL, narrow, lower, top_cut, left_cut}
use Rattle.corner.proofs.Presence.{present_one}
use Rattle.corner.proofs.Move.{one-terminal, corner_even, right_edge, down_edge}
use Rattle.corner.proofs.Route.{single_none}
use Rattle.router_notes.specs.Notes.{Item}
use Rattle.router_notes.specs.Corner.{turn_twice}
use Rattle.router_notes.specs.Inv.{turn, turn_i}
use Rattle.router_notes.specs.Arrays.{vtx}
use Rattle.router_notes.specs.Table.{pairs_of, tally-of, take_item}
use Rattle.router_notes.specs.State.{State}
use Rattle.router_table.specs.Scans.{Clear, First}
use Rattle.router_invariant.specs.Run.{Run, shape_r, row_r, pairs_r, ul_r}
use Rattle.router_invariant.proofs.Place.{vtx_same, ul-is}
use Rattle.router_invariant.specs.Ready.{Ready}
use Rattle.router_invariant.proofs.ReadyLaws.{shaped, top-low}

sum_only : (n i : ℕ) (f : ℕ → ℕ) → i < n → ((k : ℕ) → k < n → (k ≡ i → ⊥) → f k ≡ 0) → sum n f ≡ f i
unfolding sum
sum_only zero i f l h = absurd (omega arith)
sum_only (suc n) i f l h = elim (eq_case i n) [
  | inl e ↦ omega (arith, sum_none n f (λ k b. h k (omega arith) (λ c. omega (arith, e.2))), ap f e.2)
  | inr e ↦ omega (arith, sum_only n i f (omega (arith, e.2)) (λ k b c. h k (omega arith) c), h n (omega arith) (λ c. e.2 (sym c)))
]

module _ (s0 : State) (R : Run) (Q : Ready s0 R) where
  abbrev o : Bool
  o = R.up

  abbrev T : Shape
  T = shape_r R

  -- the two ends of a live pair differ
  pub ends-differ : (i : ℕ) → i < R.n → get_or R.la i 0 ≡ get_or R.lb i 0 → ⊥
  ends-differ i l e =
      let k = take_item R.n (λ j. turn_i o (row_r R j)) i l (turn o (row_r R i).a) (turn o (row_r R i).b) (inl (refl, refl)) in
      let p = (proper_take (turn o (row_r R i).a) (turn o (row_r R i).b) k.1 Q.proper).0 in
      clash (subst (λ v. same (turn o (row_r R i).a) v ≡ true) (ap (λ x. turn o (vtx x)) e) (same_self (turn o (row_r R i).a))) p

  module _ (w : Vertex) (p : ℕ) (low : w.line ≤ last) (word : vtx p ≡ turn o w) where
    pub end-bit : (x : ℕ) → (vtx x).line ≤ last → same w (turn o (vtx x)) ≡ eqb x p
    end-bit x h = bool_eq _ _
        (λ e. eq-eqb x p (vtx_same x p (sym (turn_twice o (vtx x) h) ∙ ap (turn o) (sym (same_true w (turn o (vtx x)) e)) ∙ sym word)))
        (λ e. subst (λ z. same w z ≡ true) (sym (turn_twice o w low) ∙ ap (turn o) (sym word ∙ ap vtx (sym (eqb-true x p e)))) (same_self w))

    pub standing-sum : standing (same w) (pairs_r R) ≡ sum R.n (λ k. one (eqb (get_or R.la k 0) p) + one (eqb (get_or R.lb k 0) p))
    unfolding standing
    standing-sum = tally-of (λ u v. one (same w u) + one (same w v)) R.n (λ k. turn_i o (row_r R k))
        ∙ sum_eq R.n _ _ (λ k l. let f = Q.holds.inv.frame k l in
        ap₂ (λ a b. one a + one b) (end-bit (get_or R.la k 0) f.0) (end-bit (get_or R.lb k 0) f.1))

    pub standing-clear : Clear R.la R.lb p 0 R.n → standing (same w) (pairs_r R) ≡ 0
    standing-clear C = standing-sum ∙ sum_none R.n _ (λ k l. let b = C k (omega arith) l in
        omega (arith, ap one (ne_eqb (get_or R.la k 0) p b.0), ap one (ne_eqb (get_or R.lb k 0) p b.1)))

    pub standing-some : (i : ℕ) → i < R.n → (get_or R.la i 0 ≡ p) ⊎ (get_or R.lb i 0 ≡ p) → 1 ≤ standing (same w) (pairs_r R)
    standing-some i l at_i = let g = sum_get R.n i (λ k. one (eqb (get_or R.la k 0) p) + one (eqb (get_or R.lb k 0) p)) l in elim at_i [
      | inl e ↦ omega (arith, standing-sum, ap one (eq-eqb (get_or R.la i 0) p e))
      | inr e ↦ omega (arith, standing-sum, ap one (eq-eqb (get_or R.lb i 0) p e))
    ]

    pub standing-only : (i : ℕ) → i < R.n → (get_or R.la i 0 ≡ p) ⊎ (get_or R.lb i 0 ≡ p) → Clear R.la R.lb p 0 i
        → Clear R.la R.lb p (i + 1) R.n → standing (same w) (pairs_r R) ≡ 1
    standing-only i l at_i C E = standing-sum ∙ sum_only R.n i (λ k. one (eqb (get_or R.la k 0) p) + one (eqb (get_or R.lb k 0) p)) l
        (λ k b c. elim (le_or_lt i k) [ inl h ↦ none k (E k (omega (arith, c)) b) | inr h ↦ none k (C k (omega arith) h) ]) ∙ just
      where
        none : (k : ℕ) → (get_or R.la k 0 ≡ p → ⊥) × (get_or R.lb k 0 ≡ p → ⊥) → one (eqb (get_or R.la k 0) p) + one (eqb (get_or R.lb k 0) p) ≡ 0
        none k b = omega (arith, ap one (ne_eqb (get_or R.la k 0) p b.0), ap one (ne_eqb (get_or R.lb k 0) p b.1))

        just : one (eqb (get_or R.la i 0) p) + one (eqb (get_or R.lb i 0) p) ≡ 1
        just = elim at_i [
          | inl e ↦ omega (arith, ap one (eq-eqb (get_or R.la i 0) p e), ap one (ne_eqb (get_or R.lb i 0) p (λ f. ends-differ i l (e ∙ sym f))))
          | inr e ↦ omega (arith, ap one (eq-eqb (get_or R.lb i 0) p e), ap one (ne_eqb (get_or R.la i 0) p (λ f. ends-differ i l (f ∙ sym e))))
        ]

  -- ── the corner ──
  pub corner-clear : First R.la R.lb (ul_r R) 0 R.n R.n → standing (same (UL T)) (pairs_r R) ≡ 0
  corner-clear F = standing-clear (UL T) (ul_r R) (top-low s0 R Q) (ul-is R (shaped s0 R Q)) F.before

  -- with two edges there are two terminals or none
  pub corner-two : T.a T.top < T.b T.top → R.top < R.bottom → 1 ≤ standing (same (UL T)) (pairs_r R) → standing (same (UL T)) (pairs_r R) ≡ 2
  corner-two wide deep h =
      let t = Q.inside (suc R.top) (omega arith, deep) in let f = (shaped s0 R Q).full R.top (omega arith, (shaped s0 R Q).order) in
      let k = corner_even T (pairs_r R) Q.holds.inv.good in
      omega (
        arith,
        k.1,
        k.2,
        present_one T R.top (suc (T.a T.top)) (omega arith) (shaped s0 R Q).order (omega arith) wide,
        present_one T (suc R.top) (T.a T.top) (omega arith) deep t.0 (omega (arith, t.1, f)),
      )

  pub second-found : T.a T.top < T.b T.top → R.top < R.bottom → (i j : ℕ) → i < R.n → First R.la R.lb (ul_r R) 0 R.n i
      → First R.la R.lb (ul_r R) (i + 1) R.n j → j < R.n
  second-found wide deep i j l F E = elim (le_or_lt R.n j) [
    | inr h ↦ h
    | inl h ↦ absurd (
        let c : Clear R.la R.lb (ul_r R) (i + 1) R.n = λ k a b. E.before k a (omega arith) in
        let e = standing-only (UL T) (ul_r R) (top-low s0 R Q) (ul-is R (shaped s0 R Q)) i l (F.found l) F.before c in
        omega (arith, corner-two wide deep (omega arith)))
  ]

  -- with one edge there is one
  pub right-found : T.a T.top < T.b T.top → R.top ≡ R.bottom → (i : ℕ) → First R.la R.lb (ul_r R) 0 R.n i → i < R.n
  right-found wide flat i F = elim (le_or_lt R.n i) [
    | inr h ↦ h
    | inl h ↦ absurd (omega (
      arith,
      one-terminal T (narrow T) (NUL T) (left_cut T) (right_edge T (shaped s0 R Q) Q.inside wide flat) (pairs_r R) Q.holds.inv.good Q.proper,
      standing-clear (UL T) (ul_r R) (top-low s0 R Q) (ul-is R (shaped s0 R Q)) (λ k a b. F.before k a (omega arith)),
    ))
  ]

  pub down-found : T.a T.top ≡ T.b T.top → R.top < R.bottom → (i : ℕ) → First R.la R.lb (ul_r R) 0 R.n i → i < R.n
  down-found thin deep i F = elim (le_or_lt R.n i) [
    | inr h ↦ h
    | inl h ↦ absurd (omega (
      arith,
      one-terminal T (lower T) (BUL T) (top_cut T) (down_edge T (shaped s0 R Q) Q.inside thin deep) (pairs_r R) Q.holds.inv.good Q.proper,
      standing-clear (UL T) (ul_r R) (top-low s0 R Q) (ul-is R (shaped s0 R Q)) (λ k a b. F.before k a (omega arith)),
    ))
  ]

  -- a single vertex has no live pair
  pub single-empty : T.a T.top ≡ T.b T.top → R.top ≡ R.bottom → R.n ≡ 0
  single-empty thin flat = empty R.n (λ k. turn_i o (row_r R k)) (single_none T thin flat (pairs_r R) Q.holds.inv.good.stand Q.proper)
    where
      empty : (n : ℕ) (it : ℕ → Item) → pairs_of n it ≡ [] → n ≡ 0
      empty zero it e = refl
      empty (suc n) it e = absurd (let z : ◌≡◌ {A = ℕ} (length (pairs_of (suc n) it)) 0 = ap length e in omega arith)

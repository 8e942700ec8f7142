-- A helper pair is added at a corner with two edges and no end, as the arrays are written: the invariant is kept.
-- Assumes Ready, and room at both cuts beside the corner.
-- DEFINITION: a row from NUL to BUL is added
use Rattle.std.specs.Prelude.{◌≡◌, refl, Bool, ℕ, suc, ◌+◌, ◌≤◌, ◌<◌, set}
use Rattle.std.proofs.Common.{ap, ◌∙◌, sym, subst, inl, inr, arith, get_or-set_same, get_or-set_other, add-one}
use Rattle.count.specs.Bits.{eq_case}
use Rattle.net.specs.Terminals.{same}
use Rattle.corner.specs.Pairs.{standing}
use Rattle.corner.specs.Shape.{Shape, last, UL, NUL, BUL, narrow, Roomy, top_cut, left_cut}
use Rattle.corner.proofs.Delete.{narrow_less}
use Rattle.router_notes.specs.Limits.{pair_limit}
use Rattle.router_notes.specs.Notes.{Item, item}
use Rattle.router_notes.specs.Goods.{helper_table}
use Rattle.router_notes.specs.Corner.{turn_twice, turn_low}
use Rattle.router_notes.specs.Inv.{turn, turn_i, Framed}
use Rattle.router_notes.specs.Arrays.{vtx, row_of, state_of}
use Rattle.router_notes.specs.Table.{Has}
use Rattle.router_notes.specs.State.{State}
use Rattle.router_notes.specs.Steps.{helper-inv}
use Rattle.router_invariant.specs.Run.{Run, shape_r, row_r, state_r, pairs_r, Holds, line_r, col_r, nul_r, bul_r}
use Rattle.router_invariant.proofs.Place.{nul-is, bul-is}
use Rattle.router_invariant.proofs.Shapes.{shuts_of, inv-narrow}
use Rattle.router_invariant.specs.Ready.{Ready}
use Rattle.router_invariant.proofs.ReadyLaws.{shaped, top-low, nul-low, bul-low}

abbrev pub helper_run : Run → Run
helper_run R = record {
  la = set R.la R.n (nul_r R);
  lb = set R.lb R.n (bul_r R);
  ids = set R.ids R.n R.next;
  side = R.side;
  vert = R.vert;
  half = R.half;
  s1 = R.s1;
  s2 = R.s2;
  d1 = R.d1;
  d2 = R.d2;
  lo = set R.lo (line_r R) (col_r R + 1);
  hi = R.hi;
  top = R.top;
  bottom = R.bottom;
  n = R.n + 1;
  next = R.next + 1;
  up = R.up;
}

module _ (s0 : State) (R : Run) (Q : Ready s0 R) (few : R.n < pair_limit) where
  abbrev o : Bool
  o = R.up

  abbrev T : Shape
  T = shape_r R

  abbrev rows : ℕ → Item
  rows = row_of (set R.la R.n (nul_r R)) (set R.lb R.n (bul_r R)) (set R.ids R.n R.next)

  abbrev after : State
  after = state_of (set R.la R.n (nul_r R)) (set R.lb R.n (bul_r R)) (set R.ids R.n R.next) R.side R.vert R.half R.s1
      R.s2 R.d1 R.d2
      (suc R.n) (suc R.next) (narrow T) o

  new : rows R.n ≡ item R.next (vtx (nul_r R)) (vtx (bul_r R))
  new = rw (
    get_or-set_same R.la R.n (nul_r R) 0 (omega (arith, Q.sized.la)),
    get_or-set_same R.lb R.n (bul_r R) 0 (omega (arith, Q.sized.lb)),
    get_or-set_same R.ids R.n R.next 0 (omega (arith, Q.sized.ids)),
  )

  others : (k : ℕ) → k < R.n → rows k ≡ row_r R k
  others k l = rw (
    get_or-set_other R.la R.n k (nul_r R) 0 (λ e. omega arith),
    get_or-set_other R.lb R.n k (bul_r R) 0 (λ e. omega arith),
    get_or-set_other R.ids R.n k R.next 0 (λ e. omega arith),
  )

  pub helper-holds : T.a T.top < T.b T.top → R.top < R.bottom → standing (same (UL T)) (pairs_r R) ≡ 0
      → Roomy T (pairs_r R) (top_cut T) → Roomy T (pairs_r R) (left_cut T) → Holds s0 (helper_run R)
  helper-holds wide deep none rr rc = record {
    inv = rw (add-one R.n, add-one R.next) (inv-narrow s0 (helper_run R).la (helper_run R).lb (helper_run R).ids _ _ _ _ _ _ _ _ _ o R.lo
        R.hi R.top R.bottom (shaped s0 R Q) Q.sized.lo
        (helper-inv s0 (state_r R) after T (narrow T) o Q.holds.inv (narrow_less T (shaped s0 R Q) wide) (top-low s0 R Q)
        (shuts_of (state_r R) after T (narrow T) o (λ z. refl))
        (helper_table T R.n (λ k. turn_i o (row_r R k)) (λ k. turn_i o (rows k)) Q.holds.inv.good Q.inside wide deep none rr rc ends-new
        (λ k l. ap (turn_i o) (others k l)))
        frame refl refl others (ap (λ (x : Item). x.id) new) (λ k v. refl) (λ k. refl)));
    halves = λ k. elim (Q.holds.halves k) [ inl h ↦ inl h | inr h ↦ inr (h.0, omega (arith, h.1)) ];
    first = Q.holds.first;
    second = Q.holds.second;
    asked = omega (arith, Q.holds.asked);
    made = Q.holds.made;
  }
    where
      ends-new : Has (turn_i o (rows R.n)) (NUL T) (BUL T)
      ends-new = inl (
        ap (λ (x : Item). turn o x.a) new ∙ ap (turn o) (nul-is R (shaped s0 R Q) wide) ∙ turn_twice o (NUL T) (nul-low s0 R Q),
        ap (λ (x : Item). turn o x.b) new ∙ ap (turn o) (bul-is R (shaped s0 R Q) deep) ∙ turn_twice o (BUL T) (bul-low s0 R Q deep),
      )

      frame : Framed after
      frame k l = elim (eq_case k R.n) [
        | inl e ↦ subst (λ j. ((rows j).a.line ≤ last) × ((rows j).b.line ≤ last)) (sym e.2) (
          subst (λ (x : Item). x.a.line ≤ last) (sym new)
              (subst (λ v. v.line ≤ last) (sym (nul-is R (shaped s0 R Q) wide)) (turn_low o (NUL T) (nul-low s0 R Q))),
          subst (λ (x : Item). x.b.line ≤ last) (sym new)
              (subst (λ v. v.line ≤ last) (sym (bul-is R (shaped s0 R Q) deep)) (turn_low o (BUL T) (bul-low s0 R Q deep))),
        )
        | inr e ↦ let b : k < R.n = omega (arith, e.2) in
            subst (λ (x : Item). (x.a.line ≤ last) × (x.b.line ≤ last)) (sym (others k b)) (Q.holds.inv.frame k b)
      ]

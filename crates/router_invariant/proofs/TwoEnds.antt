-- Two pairs at a corner with two edges part, as the arrays are written: the invariant is kept.
-- Assumes Ready, the rows of the two pairs, and a choice of the two that the theorem allows.
-- DEFINITION: row i's end moved right, row j's down (or up, where the shape is upside down)
use Rattle.std.specs.Prelude.{◌≡◌, refl, Bool, true, false, List, ◌⊎◌, ℕ, ◌+◌, ◌*◌, ◌≤◌, ◌<◌, set, eqb}
use Rattle.std.proofs.Common.{ap, ◌∙◌, subst, arith}
use Rattle.std.proofs.Math.Path.{sym}
use Rattle.std.proofs.Math.Logic.{inl, inr}
use Rattle.std.proofs.Math.ListN.{get_or}
use Rattle.count.specs.Bits.{eq_case}
use Rattle.board.specs.declared.Vertex.{Vertex}
use Rattle.net.specs.Terminals.{same}
use Rattle.corner.specs.Pairs.{standing}
use Rattle.corner.specs.Shape.{Shape, UL, narrow}
use Rattle.router_notes.specs.Limits.{pair_limit}
use Rattle.router_notes.specs.Notes.{Moved}
use Rattle.router_notes.specs.Split.{split-inv}
use Rattle.router_notes.specs.Corner.{across_start, across_finish, down_start, down_finish}
use Rattle.router_notes.specs.Inv.{turn, turn_i, across_move, down_move, Noted}
use Rattle.router_notes.specs.Arrays.{hop_of, row_of, state_of, partD}
use Rattle.router_notes.specs.Table.{Has}
use Rattle.router_notes.specs.State.{State}
use Rattle.router_table.specs.Writes.{moved_a, moved_b}
use Rattle.router_invariant.specs.Run.{Run, shape_r, row_r, state_r, pairs_r, Holds, line_r, col_r, ul_r, nul_r, bul_r}
use Rattle.router_invariant.proofs.Place.{ul-is, nul-is, bul-is}
use Rattle.router_invariant.proofs.CornerNotes.{hop_right, hop_none}
use Rattle.router_invariant.proofs.Shapes.{shuts_of, inv-narrow}
use Rattle.router_invariant.proofs.Rows.{row_moved, row_kept, length_moved, moved_other}
use Rattle.router_invariant.specs.Ready.{Ready, up_n}
use Rattle.router_invariant.proofs.ReadyLaws.{hop_across, hop_along, shaped, noted, at-corner-go, bul-low}

abbrev pub split_run : Run → ℕ → ℕ → Run
split_run R i j = record {
  la = moved_a (moved_a R.la i (ul_r R) (nul_r R)) j (ul_r R) (bul_r R);
  lb = moved_b (moved_a R.la i (ul_r R) (nul_r R)) (moved_b R.la R.lb i (ul_r R) (nul_r R)) j (ul_r R) (bul_r R);
  ids = R.ids;
  side = set R.side (ul_r R) (get_or R.ids i 0 + 1);
  vert = set R.vert (ul_r R) (2 * get_or R.ids j 0 + 2 + up_n R.up);
  half = R.half;
  s1 = R.s1;
  s2 = R.s2;
  d1 = R.d1;
  d2 = R.d2;
  lo = set R.lo (line_r R) (col_r R + 1);
  hi = R.hi;
  top = R.top;
  bottom = R.bottom;
  n = R.n;
  next = R.next;
  up = R.up;
}

-- DEFINITION: far ends f and g of the pairs that go right and down, as the theorem asks
abbrev pub Chosen : Shape → Vertex → Vertex → Type 0
Chosen S f g = (g.line ≤ S.top → f.line ≤ S.top) × (f.column ≤ S.a S.top → g.column ≤ S.a S.top)

module _ (s0 : State) (R : Run) (Q : Ready s0 R) (i j : ℕ) (li : i < R.n) (lj : j < R.n) (ne : i ≡ j → ⊥) (few : R.n ≤ pair_limit)
    (at_i : (get_or R.la i 0 ≡ ul_r R) ⊎ (get_or R.lb i 0 ≡ ul_r R)) (at_j : (get_or R.la j 0 ≡ ul_r R) ⊎ (get_or R.lb j 0 ≡ ul_r R)) where
  abbrev o : Bool
  o = R.up

  abbrev T : Shape
  T = shape_r R

  abbrev la1 : List ℕ
  la1 = moved_a R.la i (ul_r R) (nul_r R)

  abbrev lb1 : List ℕ
  lb1 = moved_b R.la R.lb i (ul_r R) (nul_r R)

  abbrev after : State
  after = state_of (moved_a la1 j (ul_r R) (bul_r R)) (moved_b la1 lb1 j (ul_r R) (bul_r R)) R.ids (set R.side (ul_r R) (get_or R.ids i 0 + 1))
      (set R.vert (ul_r R) (2 * get_or R.ids j 0 + 2 + up_n o)) R.half R.s1 R.s2 R.d1 R.d2 R.n R.next (narrow T) o

  still : (get_or la1 j 0 ≡ ul_r R) ⊎ (get_or lb1 j 0 ≡ ul_r R)
  still = elim at_j [
    | inl q ↦ inl ((moved_other (eqb (get_or R.la i 0) (ul_r R)) R.la i j (nul_r R) (λ e. ne (sym e))).0 ∙ q)
    | inr q ↦ inr ((moved_other (eqb (get_or R.la i 0) (ul_r R)) R.lb i j (nul_r R) (λ e. ne (sym e))).1 ∙ q)
  ]

  up_le : (b : Bool) → up_n b ≤ 1
  up_le false = omega arith
  up_le true = omega arith

  -- the two numbers differ
  apart-ids : get_or R.ids j 0 ≡ get_or R.ids i 0 → ⊥
  apart-ids e = ne (Q.holds.inv.fine.once i j li lj (sym e))

  notes-kept : Noted (state_r R) after (turn o (UL T))
  unfolding partD
  notes-kept = record {
    go = noted s0 R Q (get_or R.ids i 0 + 1) (2 * get_or R.ids j 0 + 2 + up_n o) (λ k. elim (eq_case k (get_or R.ids i 0)) [
      | inl e ↦ inr (i, li, sym e.2)
      | inr e ↦ elim (eq_case k (get_or R.ids j 0)) [
        | inl f ↦ inr (j, lj, sym f.2)
        | inr f ↦ inl (hop_none _ _ k (λ z. e.2 (omega arith)) (λ z. f.2 (omega (arith, up_le o))) (λ z. f.2 (omega (arith, up_le o))))
      ]
    ]);
    part = λ k. refl;
  }

  pub split-holds : T.a T.top < T.b T.top → R.top < R.bottom → standing (same (UL T)) (pairs_r R) ≡ 2
      → ((f g : Vertex) → Has (turn_i o (row_r R i)) (UL T) f → Has (turn_i o (row_r R j)) (UL T) g → Chosen T f g) → Holds s0 (split_run R i j)
  split-holds wide deep two ok = record {
    inv = inv-narrow s0 (split_run R i j).la (split_run R i j).lb R.ids _ _ _ _ _ _ _ _ _ o R.lo R.hi R.top R.bottom (shaped s0 R Q)
        Q.sized.lo
        (split-inv s0 (state_r R) after T o Q.holds.inv Q.inside wide deep
        (shuts_of (state_r R) after T (narrow T) o (λ z. refl)) refl refl notes-kept i j li lj ne Q.proper two
        (subst (λ x. Moved (row_r R i) (across_move o T) x) (sym (row_kept la1 lb1 R.ids j i (ul_r R) (bul_r R) ne))
        (row_moved R.la R.lb R.ids i (ul_r R) (nul_r R) (across_move o T) (omega (arith, Q.sized.la)) (omega (arith, Q.sized.lb)) at_i
        (across_start o T ∙ sym (ul-is R (shaped s0 R Q))) (across_finish o T ∙ sym (nul-is R (shaped s0 R Q) wide))))
        (subst (λ x. Moved x (down_move o T) (row_of (moved_a la1 j (ul_r R) (bul_r R)) (moved_b la1 lb1 j (ul_r R) (bul_r R)) R.ids j))
        (row_kept R.la R.lb R.ids i j (ul_r R) (nul_r R) (λ e. ne (sym e)))
        (row_moved la1 lb1 R.ids j (ul_r R) (bul_r R) (down_move o T)
        (omega (arith, length_moved (eqb (get_or R.la i 0) (ul_r R)) R.la i (nul_r R), Q.sized.la))
        (omega (arith, length_moved (eqb (get_or R.la i 0) (ul_r R)) R.lb i (nul_r R), Q.sized.lb)) still
        (down_start o T (omega (arith, bul-low s0 R Q deep)) ∙ sym (ul-is R (shaped s0 R Q)))
        (down_finish o T ∙ sym (bul-is R (shaped s0 R Q) deep))))
        (λ k p q. row_kept la1 lb1 R.ids j k (ul_r R) (bul_r R) q ∙ row_kept R.la R.lb R.ids i k (ul_r R) (nul_r R) p)
        ok
        (at-corner-go s0 R Q _ _ (get_or R.ids i 0) ∙ ap (λ d. hop_of d (turn o (UL T)))
        (hop_right (get_or R.ids i 0 + 1) _ (get_or R.ids i 0) refl) ∙ hop_across o T)
        (at-corner-go s0 R Q _ _ (get_or R.ids j 0) ∙ hop_along o T (get_or R.ids i 0 + 1) (get_or R.ids j 0) (λ z. apart-ids (omega arith))));
    halves = Q.holds.halves;
    first = Q.holds.first;
    second = Q.holds.second;
    asked = Q.holds.asked;
    made = Q.holds.made;
  }

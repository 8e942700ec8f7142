-- The one pair at a corner with one edge moves along it, as the arrays are written: the invariant is kept.
-- Assumes Ready, and the row of a pair that has an end at the corner.
-- DEFINITION: the end of row i moved right, and down (or up, where the shape is upside down)
use Rattle.std.specs.Prelude.{◌≡◌, Bool, true, false, ◌⊎◌, get_or, set}
use Rattle.std.proofs.Math.Path.{refl, ap, sym}
use Rattle.std.proofs.Common.{◌∙◌, subst, arith}
use Rattle.std.proofs.Math.Logic.{inl, inr}
use Prim.Native.Nat.{ℕ, ◌+◌, ◌*◌, ◌≤◌, ◌<◌}
use Rattle.count.specs.Bits.{eq_case}
use Rattle.board.specs.declared.Vertex.{Vertex}
use Rattle.corner.specs.Shape.{Shape, Good, Less, last, UL, NUL, BUL, narrow, lower}
use Rattle.corner.proofs.Delete.{narrow_less, lower_less}
use Rattle.router_notes.specs.Limits.{pair_limit}
use Rattle.router_notes.specs.Notes.{Move, start, finish, Item, on}
use Rattle.router_notes.specs.Goods.{right_table, down_table}
use Rattle.router_notes.specs.Corner.{turn_low, across_start, across_finish, down_start, down_finish, moved_has}
use Rattle.router_notes.specs.Inv.{turn, turn_i, Inv, across_move, down_move}
use Rattle.router_notes.specs.Arrays.{vtx, hop_at, hop_of, row_of, left_of, state_of, partD}
use Rattle.router_notes.specs.Table.{pairs_of, Has}
use Rattle.router_notes.specs.State.{State}
use Rattle.router_notes.specs.Steps.{move-inv}
use Rattle.router_table.specs.Writes.{moved_a, moved_b}
use Rattle.router_invariant.specs.Run.{Run, shape_r, row_r, state_r, Holds, line_r, col_r, ul_r, nul_r, bul_r}
use Rattle.router_invariant.proofs.Place.{ul-is, nul-is, bul-is}
use Rattle.router_invariant.proofs.CornerNotes.{hop_right, hop_none}
use Rattle.router_invariant.proofs.Shapes.{shuts_of, inv-narrow, inv-lower}
use Rattle.router_invariant.proofs.Rows.{row_moved, row_kept, frame_moved}
use Rattle.router_invariant.specs.Ready.{Ready, up_n}
use Rattle.router_invariant.proofs.ReadyLaws.{hop_across, hop_along, shaped, top-low, noted, at-corner-go, nul-low, nul-left, bul-low, bul-left}

abbrev pub right_run : Run → ℕ → Run
right_run R i = record {
  la = moved_a R.la i (ul_r R) (nul_r R);
  lb = moved_b R.la R.lb i (ul_r R) (nul_r R);
  ids = R.ids;
  side = set R.side (ul_r R) (get_or R.ids i 0 + 1);
  vert = set R.vert (ul_r R) 0;
  half = R.half;
  s1 = R.s1;
  s2 = R.s2;
  d1 = R.d1;
  d2 = R.d2;
  lo = set R.lo (line_r R) (col_r R + 1);
  hi = R.hi;
  top = R.top;
  bottom = R.bottom;
  n = R.n;
  next = R.next;
  up = R.up;
}

abbrev pub down_run : Run → ℕ → Run
down_run R i = record {
  la = moved_a R.la i (ul_r R) (bul_r R);
  lb = moved_b R.la R.lb i (ul_r R) (bul_r R);
  ids = R.ids;
  side = set R.side (ul_r R) 0;
  vert = set R.vert (ul_r R) (2 * get_or R.ids i 0 + 2 + up_n R.up);
  half = R.half;
  s1 = R.s1;
  s2 = R.s2;
  d1 = R.d1;
  d2 = R.d2;
  lo = R.lo;
  hi = R.hi;
  top = R.top + 1;
  bottom = R.bottom;
  n = R.n;
  next = R.next;
  up = R.up;
}

module _ (s0 : State) (R : Run) (Q : Ready s0 R) (i : ℕ) (li : i < R.n) (few : R.n ≤ pair_limit)
    (ends : (get_or R.la i 0 ≡ ul_r R) ⊎ (get_or R.lb i 0 ≡ ul_r R)) where
  abbrev o : Bool
  o = R.up

  abbrev T : Shape
  T = shape_r R

  -- along the move m to w, with the notes s and v at the corner
  slid : (S' : Shape) (m : Move) (w : Vertex) (to s v : ℕ) → Less T S' (UL T) → start m ≡ turn o (UL T) → finish m ≡ turn o w → vtx to ≡ turn o w
      → w.line ≤ last → left_of T o (turn o w) ≡ true
      → ((k : ℕ) → (k ≡ get_or R.ids i 0 → ⊥) → hop_at s v k ≡ 4) → hop_of (hop_at s v (get_or R.ids i 0)) (turn o (UL T)) ≡ on m
      → ((it' : ℕ → Item) (f : Vertex) → Has (turn_i o (row_r R i)) (UL T) f → Has (it' i) w f → ((k : ℕ) → (k ≡ i → ⊥) → it' k ≡ turn_i o (row_r R k))
      → Good S' (pairs_of R.n it'))
      → Inv s0 (state_of (moved_a R.la i (ul_r R) to) (moved_b R.la R.lb i (ul_r R) to) R.ids (set R.side (ul_r R) s)
      (set R.vert (ul_r R) v)
      R.half R.s1 R.s2 R.d1 R.d2 R.n R.next S' o) S' o
  unfolding partD
  slid S' m w to s v L es ef et lw ol other mine good =
      let mv = row_moved R.la R.lb R.ids i (ul_r R) to m (omega (arith, Q.sized.la)) (omega (arith, Q.sized.lb)) ends
      (es ∙ sym (ul-is R (shaped s0 R Q))) (ef ∙ sym et) in
      let h = moved_has o T (row_r R i) (it' i) m w (top-low s0 R Q) lw es ef mv in
      move-inv s0 (state_r R) s' T S' o Q.holds.inv L (top-low s0 R Q) (shuts_of (state_r R) s' T S' o (λ z. refl))
      (good (λ k. turn_i o (it' k)) h.0 h.1 h.2 (λ k n. ap (turn_i o) (others k n)))
      (frame_moved (row_r R) it' R.n i m li mv (subst (λ z. z.line ≤ last) (sym ef) (turn_low o w lw)) others Q.holds.inv.frame)
      i m refl refl li others mv es (ap (left_of T o) ef ∙ ol) (at-corner-go s0 R Q s v (get_or R.ids i 0) ∙ mine)
      (noted s0 R Q s v (λ k. elim (eq_case k (get_or R.ids i 0)) [ inl e ↦ inr (i, li, sym e.2) | inr e ↦ inl (other k e.2) ]))
      (λ k. refl)
    where
      it' : ℕ → Item
      it' = row_of (moved_a R.la i (ul_r R) to) (moved_b R.la R.lb i (ul_r R) to) R.ids

      s' : State
      s' = state_of (moved_a R.la i (ul_r R) to) (moved_b R.la R.lb i (ul_r R) to) R.ids (set R.side (ul_r R) s) (set R.vert (ul_r R) v)
          R.half R.s1 R.s2 R.d1 R.d2 R.n R.next S' o

      others : (k : ℕ) → (k ≡ i → ⊥) → it' k ≡ row_r R k
      others k n = row_kept R.la R.lb R.ids i k (ul_r R) to n

  pub right-holds : T.a T.top < T.b T.top → R.top ≡ R.bottom → Holds s0 (right_run R i)
  right-holds wide flat = record {
    inv = inv-narrow s0 (right_run R i).la (right_run R i).lb R.ids _ _ _ _ _ _ _ _ _ o R.lo R.hi R.top R.bottom (shaped s0 R Q)
        Q.sized.lo
        (slid (narrow T) (across_move o T) (NUL T) (nul_r R) (get_or R.ids i 0 + 1) 0 (narrow_less T (shaped s0 R Q) wide) (across_start o T)
        (across_finish o T) (nul-is R (shaped s0 R Q) wide)
        (nul-low s0 R Q) (nul-left s0 R Q wide)
        (λ k n. hop_none _ _ k (λ z. n (omega arith)) (λ z. omega arith) (λ z. omega arith))
        (ap (λ d. hop_of d (turn o (UL T))) (hop_right (get_or R.ids i 0 + 1) 0 (get_or R.ids i 0) refl) ∙ hop_across o T)
        (λ it' f h h' others. right_table T R.n (λ k. turn_i o (row_r R k)) it' i f Q.holds.inv.good Q.inside wide flat
        Q.proper li h h' others));
    halves = Q.holds.halves;
    first = Q.holds.first;
    second = Q.holds.second;
    asked = Q.holds.asked;
    made = Q.holds.made;
  }

  pub down_holds : T.a T.top ≡ T.b T.top → R.top < R.bottom → Holds s0 (down_run R i)
  down_holds thin deep = record {
    inv = inv-lower s0 (down_run R i).la (down_run R i).lb R.ids _ _ _ _ _ _ _ _ _ o R.lo R.hi R.top R.bottom
        (slid (lower T) (down_move o T) (BUL T) (bul_r R) 0 (2 * get_or R.ids i 0 + 2 + up_n o) (lower_less T (shaped s0 R Q) thin)
        (down_start o T (omega (arith, bul-low s0 R Q deep))) (down_finish o T) (bul-is R (shaped s0 R Q) deep) (bul-low s0 R Q deep)
        (bul-left s0 R Q deep)
        (λ k n. hop_none _ _ k (λ z. omega arith) (λ z. n (omega (arith, up_le o))) (λ z. n (omega (arith, up_le o))))
        (hop_along o T 0 (get_or R.ids i 0) (λ z. omega arith))
        (λ it' f h h' others. down_table T R.n (λ k. turn_i o (row_r R k)) it' i f Q.holds.inv.good Q.inside thin deep
        Q.proper li h h' others));
    halves = Q.holds.halves;
    first = Q.holds.first;
    second = Q.holds.second;
    asked = Q.holds.asked;
    made = Q.holds.made;
  }
    where
      up_le : (b : Bool) → up_n b ≤ 1
      up_le false = omega arith
      up_le true = omega arith

-- A step keeps the sizes of the arrays.
-- Assumes nothing.
use Rattle.std.specs.Prelude.{◌≡◌, Bool, List, ℕ, length, get_or, set, eqb}
use Rattle.std.proofs.Common.{◌∙◌, length-set}
use Rattle.router_table.specs.Writes.{moved_a, moved_b}
use Rattle.router_invariant.specs.Run.{Run, Sized, ul_r, nul_r, bul_r}
use Rattle.router_invariant.proofs.Rows.{length_moved}
use Rattle.router_invariant.proofs.OneEdge.{right_run, down_run}
use Rattle.router_invariant.proofs.TwoEnds.{split_run}
use Rattle.router_invariant.proofs.Helper.{helper_run}
use Rattle.router_invariant.specs.Divide.{divide_run}
use Rattle.router_invariant.specs.Drop.{drop_run}
use Rattle.router_invariant.proofs.Turned.{turn_run}

two_sets : (l : List ℕ) (i j x y m : ℕ) → length l ≡ m → length (set (set l i x) j y) ≡ m
two_sets l i j x y m e = length-set (set l i x) j y ∙ length-set l i x ∙ e

one_set : (l : List ℕ) (i x m : ℕ) → length l ≡ m → length (set l i x) ≡ m
one_set l i x m e = length-set l i x ∙ e

pub sized_right : (R : Run) (i : ℕ) → Sized R → Sized (right_run R i)
sized_right R i Z = record {
  la = (length_moved (eqb (get_or R.la i 0) (ul_r R)) R.la i (nul_r R)).0 ∙ Z.la;
  lb = (length_moved (eqb (get_or R.la i 0) (ul_r R)) R.lb i (nul_r R)).1 ∙ Z.lb;
  ids = Z.ids;
  side = one_set R.side _ _ _ Z.side;
  vert = one_set R.vert _ _ _ Z.vert;
  half = Z.half;
  s1 = Z.s1;
  s2 = Z.s2;
  d1 = Z.d1;
  d2 = Z.d2;
  lo = one_set R.lo _ _ _ Z.lo;
  hi = Z.hi;
}

pub sized_down : (R : Run) (i : ℕ) → Sized R → Sized (down_run R i)
sized_down R i Z = record {
  la = (length_moved (eqb (get_or R.la i 0) (ul_r R)) R.la i (bul_r R)).0 ∙ Z.la;
  lb = (length_moved (eqb (get_or R.la i 0) (ul_r R)) R.lb i (bul_r R)).1 ∙ Z.lb;
  ids = Z.ids;
  side = one_set R.side _ _ _ Z.side;
  vert = one_set R.vert _ _ _ Z.vert;
  half = Z.half;
  s1 = Z.s1;
  s2 = Z.s2;
  d1 = Z.d1;
  d2 = Z.d2;
  lo = Z.lo;
  hi = Z.hi;
}

pub sized_split : (R : Run) (i j : ℕ) → Sized R → Sized (split_run R i j)
sized_split R i j Z = record {
  la = (length_moved (eqb (get_or (moved_a R.la i (ul_r R) (nul_r R)) j 0) (ul_r R)) (moved_a R.la i (ul_r R) (nul_r R)) j (bul_r R)).0
      ∙ (length_moved (eqb (get_or R.la i 0) (ul_r R)) R.la i (nul_r R)).0 ∙ Z.la;
  lb = (length_moved (eqb (get_or (moved_a R.la i (ul_r R) (nul_r R)) j 0) (ul_r R)) (moved_b R.la R.lb i (ul_r R) (nul_r R)) j (bul_r R)).1
      ∙ (length_moved (eqb (get_or R.la i 0) (ul_r R)) R.lb i (nul_r R)).1 ∙ Z.lb;
  ids = Z.ids;
  side = one_set R.side _ _ _ Z.side;
  vert = one_set R.vert _ _ _ Z.vert;
  half = Z.half;
  s1 = Z.s1;
  s2 = Z.s2;
  d1 = Z.d1;
  d2 = Z.d2;
  lo = one_set R.lo _ _ _ Z.lo;
  hi = Z.hi;
}

pub sized_helper : (R : Run) → Sized R → Sized (helper_run R)
sized_helper R Z = record {
  la = one_set R.la _ _ _ Z.la;
  lb = one_set R.lb _ _ _ Z.lb;
  ids = one_set R.ids _ _ _ Z.ids;
  side = Z.side;
  vert = Z.vert;
  half = Z.half;
  s1 = Z.s1;
  s2 = Z.s2;
  d1 = Z.d1;
  d2 = Z.d2;
  lo = one_set R.lo _ _ _ Z.lo;
  hi = Z.hi;
}

pub sized_divide : (R : Run) (i : ℕ) (first : Bool) → Sized R → Sized (divide_run R i first)
sized_divide R i first Z = record {
  la = one_set R.la _ _ _ Z.la;
  lb = two_sets R.lb _ _ _ _ _ Z.lb;
  ids = two_sets R.ids _ _ _ _ _ Z.ids;
  side = Z.side;
  vert = Z.vert;
  half = one_set R.half _ _ _ Z.half;
  s1 = two_sets R.s1 _ _ _ _ _ Z.s1;
  s2 = two_sets R.s2 _ _ _ _ _ Z.s2;
  d1 = one_set R.d1 _ _ _ Z.d1;
  d2 = one_set R.d2 _ _ _ Z.d2;
  lo = one_set R.lo _ _ _ Z.lo;
  hi = Z.hi;
}

pub sized_drop : (R : Run) (i m : ℕ) → Sized R → Sized (drop_run R i m)
sized_drop R i m Z = record {
  la = one_set R.la _ _ _ Z.la;
  lb = one_set R.lb _ _ _ Z.lb;
  ids = one_set R.ids _ _ _ Z.ids;
  side = Z.side;
  vert = Z.vert;
  half = Z.half;
  s1 = Z.s1;
  s2 = Z.s2;
  d1 = Z.d1;
  d2 = Z.d2;
  lo = Z.lo;
  hi = Z.hi;
}

pub sized_turn : (R : Run) → Sized R → Sized (turn_run R)
sized_turn R Z = record {
  la = Z.la;
  lb = Z.lb;
  ids = Z.ids;
  side = Z.side;
  vert = Z.vert;
  half = Z.half;
  s1 = Z.s1;
  s2 = Z.s2;
  d1 = Z.d1;
  d2 = Z.d2;
  lo = Z.lo;
  hi = Z.hi;
}

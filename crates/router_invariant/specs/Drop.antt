-- A trivial pair is dropped and the last row takes its place, as the arrays are written: the invariant is kept.
-- Assumes the invariant and the size of the arrays.
-- DEFINITION: row n - 1 takes the place of row i
use Rattle.std.specs.Prelude.{◌≡◌, refl, true, ℕ, suc, ◌≤◌, ◌<◌, get_or, set}
use Rattle.std.proofs.Common.{ap, inl, arith, get_or-set_same, get_or-set_other, le-leb}
use Rattle.count.specs.TruthLaws.{and_yes}
use Rattle.net.specs.Terminals.{same}
use Rattle.corner.proofs.Taking.{all_take}
use Rattle.corner.specs.Shape.{Here, last}
use Rattle.corner.proofs.Presence.{present_yes}
use Rattle.router_notes.specs.Limits.{pair_limit}
use Rattle.router_notes.specs.Inv.{turn, turn_i}
use Rattle.router_notes.specs.Arrays.{vtx, left_of}
use Rattle.router_notes.specs.Table.{take_item}
use Rattle.router_notes.specs.State.{State}
use Rattle.router_notes.specs.Steps.{drop_inv}
use Rattle.router_invariant.specs.Run.{Run, shape_r, row_r, state_r, Sized, Holds}

abbrev pub drop_run : Run → ℕ → ℕ → Run
drop_run R i m = record {
  la = set R.la i (get_or R.la m 0);
  lb = set R.lb i (get_or R.lb m 0);
  ids = set R.ids i (get_or R.ids m 0);
  side = R.side;
  vert = R.vert;
  half = R.half;
  s1 = R.s1;
  s2 = R.s2;
  d1 = R.d1;
  d2 = R.d2;
  lo = R.lo;
  hi = R.hi;
  top = R.top;
  bottom = R.bottom;
  n = m;
  next = R.next;
  up = R.up;
}

module _ (s0 : State) (R : Run) (H : Holds s0 R) (Z : Sized R) (i m : ℕ) (size : R.n ≡ suc m) (low : i ≤ m) (few : R.n ≤ pair_limit) where
  others : (j : ℕ) → j < m → (j ≡ i → ⊥) → row_r (drop_run R i m) j ≡ row_r R j
  others j l n = rw (
    get_or-set_other R.la i j (get_or R.la m 0) 0 n,
    get_or-set_other R.lb i j (get_or R.lb m 0) 0 n,
    get_or-set_other R.ids i j (get_or R.ids m 0) 0 n,
  )

  placed : i < m → row_r (drop_run R i m) i ≡ row_r R m
  placed l = rw (
    get_or-set_same R.la i (get_or R.la m 0) 0 (omega (arith, Z.la)),
    get_or-set_same R.lb i (get_or R.lb m 0) 0 (omega (arith, Z.lb)),
    get_or-set_same R.ids i (get_or R.ids m 0) 0 (omega (arith, Z.ids)),
  )

  end-left' : left_of (shape_r R) R.up (row_r R i).a ≡ true
  end-left' =
      let l : i < R.n = omega arith in
      let k = take_item R.n (λ j. turn_i R.up (row_r R j)) i l (turn R.up (row_r R i).a) (turn R.up (row_r R i).b) (inl (refl, refl)) in
      let h = all_take (Here (shape_r R)) _ _ k.1 H.inv.good.stand in
      and_yes _ _ (le-leb (row_r R i).a.line last (H.inv.frame i l).0) (present_yes (shape_r R) _ _ h.0)

  pub drop-holds : get_or R.la i 0 ≡ get_or R.lb i 0 → Holds s0 (drop_run R i m)
  drop-holds same = record {
    inv = drop_inv s0 (state_r R) (shape_r R) R.up H.inv m (row_r (drop_run R i m)) i size low others placed (ap vtx same) end-left';
    halves = H.halves;
    first = H.first;
    second = H.second;
    asked = H.asked;
    made = H.made;
  }

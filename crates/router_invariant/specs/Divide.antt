-- Definitions only: a pair is divided at a corner with two edges and no end, as the arrays are written. Nothing is proved here.
-- Row i is divided; its first half ends at NUL if `first` holds (its first end is the right one), else at BUL.
use Rattle.std.specs.Prelude.{Bool, true, false, not, ℕ, ◌+◌, get_or, set}
use Rattle.router_invariant.specs.Run.{Run, line_r, col_r, nul_r, bul_r}

abbrev pub end_w : Bool → Run → ℕ
end_w true R = nul_r R
end_w false R = bul_r R

-- the direction down as the shape is read, and its opposite
abbrev pub down_d : Bool → ℕ
down_d false = 2
down_d true = 0

abbrev pub back_d : Bool → ℕ
back_d false = 0
back_d true = 2

-- from the first half's end to the corner, and from the corner to the second half's start
abbrev pub dir1 : Bool → Bool → ℕ
dir1 true o = 3
dir1 false o = back_d o

abbrev pub dir2 : Bool → Bool → ℕ
dir2 true o = down_d o
dir2 false o = 1

abbrev pub divide_run : Run → ℕ → Bool → Run
divide_run R i first = record {
  la = set R.la R.n (end_w (not first) R);
  lb = set (set R.lb i (end_w first R)) R.n (get_or R.lb i 0);
  ids = set (set R.ids i R.next) R.n (R.next + 1);
  side = R.side;
  vert = R.vert;
  half = set R.half (get_or R.ids i 0) R.next;
  s1 = set (set R.s1 R.next (get_or R.la i 0)) (R.next + 1) (end_w (not first) R);
  s2 = set (set R.s2 R.next (end_w first R)) (R.next + 1) (get_or R.lb i 0);
  d1 = set R.d1 (get_or R.ids i 0) (dir1 first R.up);
  d2 = set R.d2 (get_or R.ids i 0) (dir2 first R.up);
  lo = set R.lo (line_r R) (col_r R + 1);
  hi = R.hi;
  top = R.top;
  bottom = R.bottom;
  n = R.n + 1;
  next = R.next + 2;
  up = R.up;
}

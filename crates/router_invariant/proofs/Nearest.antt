-- The pair whose right end has the least line is found where the left cut is full, and dividing it keeps the invariant.
-- Assumes Ready, a corner with two edges and no terminal, and a full left cut.
use Rattle.std.specs.Prelude.{◌≡◌, refl, Bool, List, ◌⊎◌, ℕ, zero, suc, ◌+◌, ◌-◌, ◌/◌, ◌%◌, ◌≤◌, ◌<◌, get_or, leb}
use Rattle.std.proofs.Common.{ap, ◌∙◌, sym, le-leb}
use Rattle.std.proofs.Math.Bool.{true, false}
use Rattle.std.proofs.Math.Logic.{inl, inr}
use native.Mathlib.Omega.{arith}
use Rattle.std.proofs.lemmas.Bool.{lt-leb}
use Rattle.count.specs.TruthLaws.{le_or_lt}
use Rattle.count.specs.Bits.{le_case}
use Rattle.count.specs.Sums.{sum_none}
use Rattle.net.specs.Terminals.{same}
use Rattle.corner.specs.Pairs.{standing, apart, hits, across, NoHigher}
use Rattle.corner.specs.Shape.{Shape, last, UL, NUL, BUL, Full, left_cut}
use Rattle.corner.proofs.Across.{no_higher}
use Rattle.router_notes.specs.Limits.{pair_limit, last_pair}
use Rattle.router_notes.specs.Notes.{Item, item}
use Rattle.router_notes.specs.Goods.{least_table}
use Rattle.router_notes.specs.Corner.{turn_twice}
use Rattle.router_notes.specs.Inv.{turn, turn_i}
use Rattle.router_notes.specs.Arrays.{vtx, row_of}
use Rattle.router_notes.specs.Table.{pairs_of}
use Rattle.router_notes.specs.State.{State}
use Rattle.router_table.specs.Scans.{cross_d, seen_d, depth_d, depth_at, Least}
use Rattle.router_invariant.specs.Run.{Run, shape_r, row_r, pairs_r, Holds, nul_r, bul_r}
use Rattle.router_invariant.proofs.Place.{seen_turn, turn_at, last_is, nul-is, bul-is}
use Rattle.router_invariant.specs.Ready.{Ready}
use Rattle.router_invariant.proofs.ReadyLaws.{shaped, nul-low, bul-low}
use Rattle.router_invariant.specs.Divide.{divide_run}
use Rattle.router_invariant.proofs.DivideLaws.{halved, half-one, half-two, rest-kept, divide-holds}

depth_cross : (a b x : ℕ) (o : Bool) → depth_d a b x o < 32
    → ((a % 32 ≤ x) × (x < b % 32) × (depth_d a b x o ≡ seen_d o (b / 32))) ⊎ ((x < a % 32) × (b % 32 ≤ x) × (depth_d a b x o ≡ seen_d o (a / 32)))
unfolding depth_d
depth_cross a b x o h = elim (le_case (a % 32) x) [
  | inl e ↦ elim (le_case (b % 32) x) [
    | inl f ↦ absurd (let z : 32 < 32 = rw (e.0, f.0) at h in omega arith)
    | inr f ↦ inl (e.2, f.2, rw (e.0, f.0))
  ]
  | inr e ↦ elim (le_case (b % 32) x) [
    | inl f ↦ inr (e.2, f.2, rw (e.0, f.0))
    | inr f ↦ absurd (let z : 32 < 32 = rw (e.0, f.0) at h in omega arith)
  ]
]

-- a pair that crosses has the depth of its right end
depth_first : (a b x : ℕ) (o : Bool) → x < a % 32 → b % 32 ≤ x → depth_d a b x o ≡ seen_d o (a / 32)
unfolding depth_d
depth_first a b x o h g = rw (lt-leb (a % 32) x h, le-leb (b % 32) x g)

depth_second : (a b x : ℕ) (o : Bool) → a % 32 ≤ x → x < b % 32 → depth_d a b x o ≡ seen_d o (b / 32)
unfolding depth_d
depth_second a b x o h g = rw (le-leb (a % 32) x h, lt-leb (b % 32) x g)

turn_line : (o : Bool) (x : ℕ) → (turn o (vtx x)).line ≡ seen_d o (x / 32)
turn_line o x = ap (λ v. v.line) (turn_at o (x / 32) (x % 32)) ∙ sym (seen_turn o (x / 32))

turn_column : (o : Bool) (x : ℕ) → (turn o (vtx x)).column ≡ x % 32
turn_column o x = ap (λ v. v.column) (turn_at o (x / 32) (x % 32))

-- no pair that crosses has a higher right end
none_higher : (la lb ids : List ℕ) (o : Bool) (x m n : ℕ) → ((k : ℕ) → k < n → m ≤ depth_at la lb x o k)
    → NoHigher x m (pairs_of n (λ k. turn_i o (row_of la lb ids k)))
none_higher la lb ids o x m zero h = tt
none_higher la lb ids o x m (suc n) h = (
  λ a b. omega (
    arith,
    h n (omega arith),
    turn_line o (get_or la n 0),
    depth_first (get_or la n 0) (get_or lb n 0) x o (omega (arith, turn_column o (get_or la n 0))) (omega (arith, turn_column o (get_or lb n 0))),
  ),
  λ a b. omega (
    arith,
    h n (omega arith),
    turn_line o (get_or lb n 0),
    depth_second (get_or la n 0) (get_or lb n 0) x o (omega (arith, turn_column o (get_or la n 0))) (omega (arith, turn_column o (get_or lb n 0))),
  ),
  none_higher la lb ids o x m n (λ k l. h k (omega arith)),
)

module _ (s0 : State) (R : Run) (Q : Ready s0 R) (wide : (shape_r R).a R.top < (shape_r R).b R.top) (deep : R.top < R.bottom)
    (none : standing (same (UL (shape_r R))) (pairs_r R) ≡ 0) (full : Full (shape_r R) (pairs_r R) (left_cut (shape_r R))) where
  abbrev o : Bool
  o = R.up

  abbrev T : Shape
  T = shape_r R

  abbrev x : ℕ
  x = T.a T.top

  module _ (i : ℕ) (L : Least R.la R.lb R.n x o i) where
    -- a pair crosses, so one is found
    pub least-found : cross_d R.la R.lb x R.n ≡ R.bottom - R.top + 1 → i < R.n
    unfolding cross_d
    least-found e = elim (le_or_lt R.n i) [
      | inr h ↦ h
      | inl h ↦ absurd (omega (
        arith,
        sum_none R.n (λ k. apart (leb (get_or R.la k 0 % 32) x) (leb (get_or R.lb k 0 % 32) x))
            (λ k l. uncrossed k l (L.none (omega (arith, L.most)) k l)),
        deep,
      ))
    ]
      where
        low : (b : Bool) (y : ℕ) → (vtx y).line ≤ last → seen_d b (y / 32) < 32
        low false y h = omega (arith, last_is)
        low true y h = omega arith

        uncrossed : (k : ℕ) → k < R.n → 32 ≤ depth_at R.la R.lb x o k
            → apart (leb (get_or R.la k 0 % 32) x) (leb (get_or R.lb k 0 % 32) x) ≡ 0
        uncrossed k l d = let f = Q.holds.inv.frame k l in elim (le_case (get_or R.la k 0 % 32) x) [
          | inl a ↦ elim (le_case (get_or R.lb k 0 % 32) x) [
            | inl b ↦ rw (a.0, b.0)
            | inr b ↦ absurd (omega (arith, depth_second (get_or R.la k 0) (get_or R.lb k 0) x o a.2 b.2, low o (get_or R.lb k 0) f.1))
          ]
          | inr a ↦ elim (le_case (get_or R.lb k 0 % 32) x) [
            | inl b ↦ absurd (omega (arith, depth_first (get_or R.la k 0) (get_or R.lb k 0) x o a.2 b.2, low o (get_or R.la k 0) f.0))
            | inr b ↦ rw (a.0, b.0)
          ]
        ]

    module _ (li : i < R.n) (few : R.n < pair_limit) (room : R.next < last_pair) where
      higher : (m : ℕ) → m ≡ depth_at R.la R.lb x o i → (r : ℕ) → r < m → hits (across x r) (pairs_r R) ≡ 0
      higher m e = no_higher x m (pairs_r R) (none_higher R.la R.lb R.ids o x m R.n (λ k l. omega (arith, L.lowest li k l)))

      -- its first end is the right one
      pub least_first : x < get_or R.la i 0 % 32 → Holds s0 (divide_run R i true)
      least_first h = divide-holds s0 R Q i li few room true wide deep
          (least_table T R.n (λ k. turn_i o (row_r R k)) (λ k. turn_i o (halved s0 R Q i li few room true wide deep k)) i (turn o (row_r R i).a)
          (turn o (row_r R i).b)
          Q.holds.inv.good Q.inside wide deep none full li (inl (refl, refl)) (omega (arith, turn_column o (get_or R.la i 0)))
          (omega (arith, left, turn_column o (get_or R.lb i 0)))
          (higher _ (turn_line o (get_or R.la i 0) ∙ sym (depth_first (get_or R.la i 0) (get_or R.lb i 0) x o h left)))
          (inl (
            inl (
              ap (λ (y : Item). turn o y.a) one,
              ap (λ (y : Item). turn o y.b) one ∙ ap (turn o) (nul-is R (shaped s0 R Q) wide)
                  ∙ turn_twice o (NUL T) (nul-low s0 R Q),
            ),
            inl (
              ap (λ (y : Item). turn o y.a) two ∙ ap (turn o) (bul-is R (shaped s0 R Q) deep) ∙ turn_twice o (BUL T) (bul-low s0 R Q deep),
              ap (λ (y : Item). turn o y.b) two,
            ),
          ))
          (λ k l n. ap (turn_i o) (rest-kept s0 R Q i li few room true wide deep k l n)))
        where
          left : get_or R.lb i 0 % 32 ≤ x
          left = elim (depth_cross (get_or R.la i 0) (get_or R.lb i 0) x o (L.found li)) [ inl e ↦ absurd (omega (arith, e.0)) | inr e ↦ e.1 ]

          one : halved s0 R Q i li few room true wide deep i ≡ item R.next (row_r R i).a (vtx (nul_r R))
          one = half-one s0 R Q i li few room true wide deep

          two : halved s0 R Q i li few room true wide deep R.n ≡ item (R.next + 1) (vtx (bul_r R)) (row_r R i).b
          two = half-two s0 R Q i li few room true wide deep

      -- its second end is
      pub least-second : get_or R.la i 0 % 32 ≤ x → Holds s0 (divide_run R i false)
      least-second h = divide-holds s0 R Q i li few room false wide deep
          (least_table T R.n (λ k. turn_i o (row_r R k)) (λ k. turn_i o (halved s0 R Q i li few room false wide deep k)) i (turn o (row_r R i).b)
          (turn o (row_r R i).a)
          Q.holds.inv.good Q.inside wide deep none full li (inr (refl, refl)) (omega (arith, right, turn_column o (get_or R.lb i 0)))
          (omega (arith, turn_column o (get_or R.la i 0)))
          (higher _ (turn_line o (get_or R.lb i 0) ∙ sym (depth_second (get_or R.la i 0) (get_or R.lb i 0) x o h right)))
          (inr (
            inl (
              ap (λ (y : Item). turn o y.a) one,
              ap (λ (y : Item). turn o y.b) one ∙ ap (turn o) (bul-is R (shaped s0 R Q) deep)
                  ∙ turn_twice o (BUL T) (bul-low s0 R Q deep),
            ),
            inl (
              ap (λ (y : Item). turn o y.a) two ∙ ap (turn o) (nul-is R (shaped s0 R Q) wide) ∙ turn_twice o (NUL T) (nul-low s0 R Q),
              ap (λ (y : Item). turn o y.b) two,
            ),
          ))
          (λ k l n. ap (turn_i o) (rest-kept s0 R Q i li few room false wide deep k l n)))
        where
          right : x < get_or R.lb i 0 % 32
          right = elim (depth_cross (get_or R.la i 0) (get_or R.lb i 0) x o (L.found li)) [ inl e ↦ e.1 | inr e ↦ absurd (omega (arith, e.0)) ]

          one : halved s0 R Q i li few room false wide deep i ≡ item R.next (row_r R i).a (vtx (bul_r R))
          one = half-one s0 R Q i li few room false wide deep

          two : halved s0 R Q i li few room false wide deep R.n ≡ item (R.next + 1) (vtx (nul_r R)) (row_r R i).b
          two = half-two s0 R Q i li few room false wide deep

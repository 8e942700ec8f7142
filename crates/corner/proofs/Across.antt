-- Pairs that cross the corner's column cut, by the line of their right end; and the margin that a row cut has where none of them is above it.
-- Assumes a good problem, every line containing the top line, and two edges at the corner.
use Rattle.std.specs.Prelude.{◌≡◌, refl, Bool, true, false, ◌&&◌, ◌||◌, not, List, [], ◌∷◌, ℕ, suc, ◌+◌, ◌≤◌, ◌<◌, leb}
use Rattle.std.proofs.Common.{inl, inr, arith, le-leb}
use Rattle.std.proofs.lemmas.Bool.{lt-leb}
use Rattle.count.specs.Truth.{one}
use Rattle.board.specs.declared.Vertex.{Vertex}
use Rattle.net.specs.declared.Pair.{Pair}
use Rattle.net.specs.Terminals.{same}
use Rattle.cut.specs.declared.Cut.TheVariants.{Row, Column}
use Rattle.cut.specs.Cut.{side}
use Rattle.count.specs.Bits.{le_case, le_mono}
use Rattle.corner.specs.Pairs.{apart, tally, All, leaving, standing, between, hits, across, NoHigher}
use Rattle.corner.proofs.Tallies.{all_unit, tally_le, quarters}
use Rattle.corner.specs.Shape.{Shape, Good, Roomy, Full, start, finish, Top, UL, left_cut}
use Rattle.corner.proofs.UpperLeft.{upper-left}
use Rattle.corner.proofs.LowerRight.{lower-right}
use Rattle.corner.proofs.CutEdges.{cap-col, cap-row}

across_one : (u x u' x' : Bool) → one (((u && not x) && (not u' && x')) || ((u' && not x') && (not u && x))) ≤ one ((not x && x') && u) + one
    ((not x' && x) && u')
across_one true true true true = omega arith
across_one true true true false = omega arith
across_one true true false true = omega arith
across_one true true false false = omega arith
across_one true false true true = omega arith
across_one true false true false = omega arith
across_one true false false true = omega arith
across_one true false false false = omega arith
across_one false true true true = omega arith
across_one false true true false = omega arith
across_one false true false true = omega arith
across_one false true false false = omega arith
across_one false false true true = omega arith
across_one false false true false = omega arith
across_one false false false true = omega arith
across_one false false false false = omega arith

pub across_between : (x r : ℕ) (ps : List Pair)
    → between (λ v. leb v.line r && not (leb v.column x)) (λ v. not (leb v.line r) && leb v.column x) ps ≤ hits (across x r) ps
unfolding between hits
across_between x r ps = tally_le (λ v. Unit {0}) _ _ (λ u v i j. across_one (leb u.line r) (leb u.column x) (leb v.line r)
    (leb v.column x)) ps (all_unit ps)

across_mono_bit : (b c d : Bool) → one c ≤ one d → one (b && c) ≤ one (b && d)
across_mono_bit true c d h = h
across_mono_bit false c d h = omega arith

pub across_mono : (x : ℕ) (ps : List Pair) (m n : ℕ) → m ≤ n → hits (across x m) ps ≤ hits (across x n) ps
unfolding hits
across_mono x ps m n h = tally_le (λ v. Unit {0}) _ _ (λ u v i j. omega (
  arith,
  across_mono_bit (not (leb u.column x) && leb v.column x) (leb u.line m) (leb u.line n) (le_mono u.line m n h),
  across_mono_bit (not (leb v.column x) && leb u.column x) (leb v.line m) (leb v.line n) (le_mono v.line m n h),
)) ps (all_unit ps)

across_all_one : (x x' : Bool) → apart x x' ≤ one ((not x && x') && true) + one ((not x' && x) && true)
across_all_one true true = omega arith
across_all_one true false = omega arith
across_all_one false true = omega arith
across_all_one false false = omega arith

-- every crossing pair is met at the last line
pub across_all : (x n : ℕ) (ps : List Pair) → All (λ v. v.line ≤ n) ps → leaving (side (Column x)) ps ≤ hits (across x n) ps
unfolding leaving hits
across_all x n ps a = tally_le (λ v. v.line ≤ n) _ _
    (λ u v i j. rw (le-leb u.line n i, le-leb v.line n j) (across_all_one (leb u.column x) (leb v.column x))) ps a

across_none : (x m r : ℕ) (u v : Vertex) → r < m → (x < u.column → v.column ≤ x → m ≤ u.line) → one (across x r u v) ≡ 0
across_none x m r u v l h = elim (le_case u.column x) [
  | inl a ↦ rw a.0 refl
  | inr a ↦ elim (le_case v.column x) [
    | inl c ↦ rw (a.0, c.0, lt-leb u.line r (omega (arith, h a.2 c.2))) refl
    | inr c ↦ rw (a.0, c.0) refl
  ]
]

pub no_higher : (x m : ℕ) (ps : List Pair) → NoHigher x m ps → (r : ℕ) → r < m → hits (across x r) ps ≡ 0
unfolding hits tally
no_higher x m [] h r l = refl
no_higher x m (p ∷ ps) h r l = omega (
  arith,
  across_none x m r p.first p.second l h.0,
  across_none x m r p.second p.first l h.1,
  no_higher x m ps h.2 r l,
)

module _ (S : Shape) (ps : List Pair) (G : Good S ps) (T : Top S) (wide : start S < finish S) (deep : S.top < S.bottom) where
  -- the divide step: no pair joins the other two quarters, so the row cut has room
  pub uncross : (r : ℕ) → S.top ≤ r → suc r ≤ S.bottom → standing (same (UL S)) ps ≡ 0
      → Full S ps (left_cut S)
      → between (λ v. leb v.line r && not (leb v.column (start S))) (λ v. not (leb v.line r) && leb v.column (start S)) ps ≡ 0
      → Roomy S ps (Row r)
  uncross r t d z c0 b0 = omega (
    arith,
    (G.cuts (Row r)).1,
    quarters (side (Row r)) (side (left_cut S)) ps,
    upper-left S ps G T wide r t d z,
    lower-right S ps G T wide r t d,
    cap-row S G.shaped T r t d,
    cap-col S G.shaped T wide,
  )

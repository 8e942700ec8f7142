-- Of every row and column cut, edges and crossing pairs are together even, so that a margin is never 1: no geometry, any set p of vertices
-- in the frame. With the cut condition it makes a problem good.
-- Assumes that every vertex has an even number of neighbours and terminals together.
use Rattle.std.specs.Prelude.{◌≡◌, Bool, true, false, ◌&&◌, List}
use Rattle.std.proofs.Math.Path.{refl, ap}
use Rattle.std.proofs.Common.{sym, subst}
use Rattle.std.proofs.Math.Logic.{inl, inr}
use Prim.Native.Nat.{ℕ, zero, suc, ◌+◌, ◌-◌, ◌<◌}
use native.Mathlib.Omega.{arith}
use Rattle.std.proofs.Math.Dec.{leb, eqb}
use borrow.Author.Tests.{leb-true, eqb-true, le-leb, eq-eqb}
use Rattle.count.specs.Truth.{one}
use Rattle.count.specs.TruthLaws.{bool, clash, not_true, bool_eq, and_true}
use Rattle.count.specs.Sum.{sum, sum_eq}
use Rattle.board.specs.Board.{at}
use Rattle.board.specs.declared.Vertex.{Vertex}
use Rattle.net.specs.declared.Pair.{Pair}
use Rattle.net.specs.Terminals.{same}
use Rattle.cut.specs.declared.Cut.{Cut}
use Rattle.cut.specs.declared.Cut.TheVariants.{Row, Column}
use Rattle.cut.specs.Cut.{side}
use Rattle.count.specs.Parity.{Even}
use Rattle.count.specs.Bits.{and_comm, and_off, and_on, eqb_sym, le_suc_bit, below_suc}
use Rattle.count.specs.Sums.{sum_none}
use Rattle.corner.specs.Pairs.{All, leaving, inside, standing, maps}
use Rattle.net.specs.Same.{same_true}
use Rattle.corner.proofs.Tallies.{all_map, all_maps, standing_split, standing_add, standing_none, standing_ext, leaving_maps, standing_maps}
use Rattle.corner.specs.Shape.{size, Shape, present, behind, deg, cap, Good}
use Rattle.corner.specs.Placed.{Placed, CutCondition}
use Rattle.corner.proofs.Presence.{present_yes, present_true}

abbrev pub In : (ℕ → ℕ → Bool) → Vertex → Type 0
In p v = p v.line v.column ≡ true

module _ (p : ℕ → ℕ → Bool) (ps : List Pair)
    (frame : (l c : ℕ) → p l c ≡ true → c < size)
    (stand : All (In p) ps)
    (even : (l c : ℕ) → p l c ≡ true → Even (deg p l c + standing (same (at l c)) ps)) where
  abbrev up : ℕ → ℕ → Bool
  up l c = behind (λ j. p j c) l

  -- the part of line l before column k
  abbrev part : ℕ → ℕ → Vertex → Bool
  part l k v = eqb l v.line && leb (suc v.column) k

  abbrev Line-sum : ℕ → ℕ → ℕ
  Line-sum l k = standing (part l k) ps + sum k (λ c. one (p l c && up l c)) + sum k (λ c. one (p l c && p (suc l) c)) + one (behind (p l) k && p l k)

  part_step : (l k : ℕ) → standing (part l (suc k)) ps ≡ standing (part l k) ps + standing (same (at l k)) ps
  part_step l k = standing_add (In p) (part l (suc k)) (part l k) (same (at l k)) (λ u h. below_suc (eqb l u.line) k u.column) ps stand

  absent : (l c : ℕ) → p l c ≡ false → standing (same (at l c)) ps ≡ 0
  absent l c e = standing_none (In p) (same (at l c)) (λ u h. not_true _ (λ g.
      let q = same_true (at l c) u g in
      let y : p l c ≡ true = subst (λ v. p v.line v.column ≡ true) (sym q) h in
      clash y e)) ps stand

  line-even : (l k : ℕ) → Even (Line-sum l k)
  unfolding deg sum
  line-even l zero = (
    0,
    omega (
      arith,
      standing_none (In p) (part l 0)
          (λ u h. not_true _ (λ g. omega (arith, leb-true (suc u.column) 0 (and_true (eqb l u.line) (leb (suc u.column) 0) g).1))) ps stand,
    ),
  )
  line-even l (suc k) = let ih = line-even l k in elim (bool (p l k)) [
    | inl e ↦
        let f = even l k e in
        let g1 : one (p l k && up l k) ≡ one (up l k) = rw e refl in
        let g2 : one (p l k && p (suc l) k) ≡ one (p (suc l) k) = rw e refl in
        let g3 : one (behind (p l) k && p l k) ≡ one (behind (p l) k) = rw e (and_on (behind (p l) k)) in
        let g4 : one (p l k && p l (suc k)) ≡ one (p l (suc k)) = rw e refl in
        (ih.0 + f.0 - one (behind (p l) k), omega (arith, ih.1, f.1, part_step l k))
    | inr e ↦
        let g1 : one (p l k && up l k) ≡ 0 = rw e refl in
        let g2 : one (p l k && p (suc l) k) ≡ 0 = rw e refl in
        let g3 : one (behind (p l) k && p l k) ≡ 0 = rw e (and_off (behind (p l) k)) in
        let g4 : one (p l k && p l (suc k)) ≡ 0 = rw e refl in
        (ih.0, omega (arith, ih.1, part_step l k, absent l k e))
  ]

  -- a whole line
  whole : (l : ℕ) → standing (part l size) ps ≡ standing (λ v. eqb v.line l) ps
  whole l = standing_ext (In p) (part l size) (λ v. eqb v.line l)
      (λ u h. rw (le-leb (suc u.column) size (frame u.line u.column h), eqb_sym l u.line) (go (eqb u.line l))) ps stand
    where
      go : (b : Bool) → b && true ≡ b
      go true = refl
      go false = refl

  line-total : (l : ℕ) → Even (standing (λ v. eqb v.line l) ps + sum size (λ c. one (p l c && up l c)) + sum size
      (λ c. one (p l c && p (suc l) c)))
  line-total l = let k = line-even l size in
      let z : one (behind (p l) size && p l size) ≡ 0 = rw (not_true (p l size) (λ e. omega (arith, frame l size e))) (and_off (behind (p l) size)) in
      (k.0, omega (arith, k.1, whole l))

  rows-even : (r : ℕ) → Even (standing (λ v. leb v.line r) ps + cap p (Row r))
  unfolding cap
  rows-even zero =
      let k = line-total 0 in
      let e = standing_ext (In p) (λ v. leb v.line 0) (λ v. eqb v.line 0)
      (λ u h. bool_eq _ _ (λ g. eq-eqb u.line 0 (omega (arith, leb-true u.line 0 g)))
      (λ g. le-leb u.line 0 (omega (arith, eqb-true u.line 0 g)))) ps stand in
      let z = sum_none size (λ c. one (p 0 c && false)) (λ c h. and_off (p 0 c)) in
      (k.0, omega (arith, k.1))
  rows-even (suc r) =
      let i = rows-even r in let k = line-total (suc r) in
      let e = standing_add (In p) (λ v. leb v.line (suc r)) (λ v. leb v.line r) (λ v. eqb v.line (suc r))
      (λ u h. le_suc_bit u.line r) ps stand in
      let c = sum_eq size (λ c. one (p (suc r) c && p r c)) (λ c. one (p r c && p (suc r) c)) (λ c h. ap one (and_comm (p (suc r) c) (p r c))) in
      (i.0 + k.0 - sum size (λ c. one (p r c && p (suc r) c)), omega (arith, i.1, k.1))

  pub row-parity : (r : ℕ) → Even (cap p (Row r) + leaving (side (Row r)) ps)
  row-parity r = let k = rows-even r in (k.0 - inside (side (Row r)) ps, omega (arith, k.1, standing_split (side (Row r)) ps))

-- columns by exchanging the coordinates
abbrev swap : Vertex → Vertex
swap v = at v.column v.line

cap_swap : (p : ℕ → ℕ → Bool) (x : ℕ) → cap (λ c l. p l c) (Row x) ≡ cap p (Column x)
unfolding cap
cap_swap p x = refl

deg_swap : (p : ℕ → ℕ → Bool) (l c : ℕ) → deg (λ c l. p l c) c l ≡ deg p l c
unfolding deg
deg_swap p l c = omega arith

pub parity : (p : ℕ → ℕ → Bool) (ps : List Pair) → ((l c : ℕ) → p l c ≡ true → (l < size) × (c < size)) → All (In p) ps
    → ((l c : ℕ) → p l c ≡ true → Even (deg p l c + standing (same (at l c)) ps)) → (X : Cut) → Even (cap p X + leaving (side X) ps)
parity p ps frame stand even (Row r) = row-parity p ps (λ l c h. (frame l c h).1) stand even r
parity p ps frame stand even (Column x) =
    let k = row-parity (λ c l. p l c) (maps swap ps) (λ c l h. (frame l c h).0)
    (all_maps swap (In p) (In (λ c l. p l c)) (λ v h. h) ps stand) turned x in
    (k.0, omega (arith, k.1, leaving_maps swap (side (Row x)) ps, cap_swap p x))
  where
    turned : (c l : ℕ) → p l c ≡ true → Even (deg (λ c l. p l c) c l + standing (same (at c l)) (maps swap ps))
    turned c l h = let k = even l c h in
        let e = standing_ext (In p) (λ v. same (at c l) (swap v)) (same (at l c)) (λ u g. and_comm (eqb c u.column) (eqb l u.line)) ps stand in
        (k.0, omega (arith, k.1, deg_swap p l c, standing_maps swap (same (at c l)) ps))

-- ── a problem on a shape ──
pub placed_parity : (S : Shape) (ps : List Pair) → Placed S ps → (X : Cut) → Even (cap (present S) X + leaving (side X) ps)
placed_parity S ps B X = parity (present S) ps
    (λ l c h. let k = present_true S l c h in (omega (arith, k.high, B.shaped.low), omega (arith, k.to, B.shaped.thin l (k.low, k.high))))
    (all_map (λ v h. present_yes S v.line v.column h) ps B.stand)
    (λ l c h. let k = B.even l c (present_true S l c h) in (k.0, k.1)) X

pub good : (S : Shape) (ps : List Pair) → Placed S ps → CutCondition S ps → Good S ps
good S ps B C = record {
  shaped = B.shaped;
  stand = B.stand;
  even = B.even;
  cuts = λ X. let k = placed_parity S ps B X in (k.0 - leaving (side X) ps, omega (arith, k.1, C X));
}

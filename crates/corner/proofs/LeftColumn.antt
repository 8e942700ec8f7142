-- The pins of the corner's column, and the margin of its column cut: at least 2 where two pairs at the corner stay left of it.
-- Assumes a good problem, every line containing the top line, and two edges at the corner.
use Rattle.std.specs.Prelude.{◌≡◌, Bool, ◌&&◌, not, ℕ, suc, ◌+◌, ◌-◌, ◌*◌, ◌≤◌, ◌<◌, leb, eqb}
use Rattle.std.proofs.Math.Path.{refl}
use Rattle.std.proofs.Common.{ap, sym, inl, inr, leb-true, eqb-true, le-leb, eq-eqb}
use mathlib.Core.List.{List, [], ◌∷◌}
use native.Mathlib.Omega.{arith}
use Rattle.std.proofs.lemmas.Bool.{lt-leb}
use Rattle.count.specs.Truth.{one}
use Rattle.count.specs.TruthLaws.{and_true, and_yes}
use Rattle.count.specs.Sum.{sum, sum_suc}
use Rattle.board.specs.Board.{at}
use Rattle.board.specs.declared.Vertex.{Vertex}
use Rattle.net.specs.declared.Pair.{Pair}
use Rattle.net.specs.Terminals.{same}
use Rattle.cut.specs.Cut.{side}
use Rattle.count.specs.Bits.{le_case, one_imply, and_bit, and_comm, leb_suc}
use Rattle.count.specs.Sums.{sum_tail}
use Rattle.corner.specs.Pairs.{apart, tally, All, leaving, standing, Take}
use Rattle.corner.proofs.Apart.{Parted, in_first, in_second, in_none, parted}
use Rattle.corner.proofs.Tallies.{standing_add, standing_le}
use Rattle.corner.proofs.Taking.{tally_take}
use Rattle.corner.specs.Shape.{size, Shape, Here, Good, Roomy, start, finish, Top, UL, left_cut}
use Rattle.corner.proofs.Presence.{present_one, behind_left}
use Rattle.corner.proofs.CornerLaw.{box_bit, box, reaches, reaches_or, first-law, box-law}
use Rattle.corner.proofs.UpperLeft.{room_at, pin-in, pin-top, stands, spot-same, left-law}
use Rattle.corner.proofs.CutEdges.{cap-col}

-- X, all up to the column, is parted into Y, what is left of it, and Z, the column: what stands in Z or leaves Y
left_one : {x y z x' y' z' : Bool} → Parted x y z → Parted x' y' z' → one z + one z' + apart y y' ≡ apart x x' + 2 * one ((x && x') && not (y && y'))
left_one in_first in_first = refl
left_one in_first in_second = refl
left_one in_first in_none = refl
left_one in_second in_first = refl
left_one in_second in_second = refl
left_one in_second in_none = refl
left_one in_none in_first = refl
left_one in_none in_second = refl
left_one in_none in_none = refl

module _ (S : Shape) (ps : List Pair) (G : Good S ps) (T : Top S) (wide : start S < finish S) (deep : S.top < S.bottom) where
  -- ── the corner's column ──
  abbrev line_of : Vertex → ℕ
  line_of v = v.line

  abbrev column-of : Vertex → ℕ
  column-of v = v.column

  -- all lines but the last
  column-part : (m : ℕ) → suc m ≡ S.bottom
      → standing (box line_of column-of (start S) (start S) m) ps + sum (suc m) (reaches S.top S.bottom S.a (start S)) + S.top ≤ suc (suc m)
  column-part m e =
      let st = stands S ps G T wide in
      let f = first-law line_of column-of ps S.top S.bottom (start S) (start S) S.a st
      (λ c i j k. omega (
        arith,
        spot-same S ps G T wide S.top c,
        pin-top S ps G T wide deep c j (omega arith),
        ap one (le-leb (suc c) (suc (start S)) (omega arith)),
      )) (omega arith) (omega arith) in
      omega (
        arith,
        box-law line_of column-of ps S.top S.bottom (start S) (start S) S.a st 0 (omega arith) m (omega arith) (omega arith)
            (λ l h k c i j n. omega (
              arith,
              spot-same S ps G T wide (suc l) c,
              pin-in S ps G T wide l c h (omega arith) j (omega arith) (omega (arith, T (suc (suc l)) (omega arith))),
            ))
            (λ l h k. omega (arith, T l (omega arith), T (suc l) (omega arith)))
            (λ l h k. (T l (omega arith)).0) m (omega arith) (omega arith),
      )

  column-last : (m : ℕ) → suc m ≡ S.bottom → standing (same (at (suc m) (start S))) ps + reaches S.top S.bottom S.a (start S) (suc m) ≤ 2
  column-last m e =
      let t0 = T m (omega arith) in let t1 = T (suc m) (omega arith) in
      let p = room_at S ps G (suc m) (start S) (record { low = omega arith; high = omega arith; from = omega arith; to = omega arith }) in
      let p1 = present_one S (suc m) (suc (start S)) (omega arith) (omega arith) (omega arith) (omega arith) in
      let p2 = present_one S m (start S) (omega arith) (omega arith) (omega arith) (omega arith) in
      let b = reaches_or S.top S.bottom S.a (start S) (suc m) (omega arith) (omega arith) in
      elim (le_case (start S) (S.a (suc m))) [
        | inl d ↦ omega arith
        | inr d ↦ omega (arith, behind_left S (suc m) (start S) (omega arith) (omega arith) d.2 (omega arith))
      ]

  abbrev Col : Vertex → Bool
  Col = box line_of column-of (start S) (start S) S.bottom

  pub column-pins : standing Col ps + sum size (reaches S.top S.bottom S.a (start S)) + S.top ≤ S.bottom + 3
  column-pins = go (S.bottom - 1) (omega arith)
    where
      go : (m : ℕ) → suc m ≡ S.bottom → standing Col ps + sum size (reaches S.top S.bottom S.a (start S)) + S.top ≤ S.bottom + 3
      go m e =
          let f = reaches S.top S.bottom S.a (start S) in
          let k1 = G.shaped.low in
          let i = standing_add (Here S) (box line_of column-of (start S) (start S) (suc m)) (box line_of column-of (start S) (start S) m)
          (λ v. eqb v.line (suc m) && (leb (start S) v.column && leb (suc v.column) (suc (start S))))
          (λ u h. box_bit u.line m (leb (start S) u.column && leb (suc u.column) (suc (start S)))) ps G.stand in
          let j = standing_le (Here S) (λ v. eqb v.line (suc m) && (leb (start S) v.column && leb (suc v.column) (suc (start S))))
          (same (at (suc m) (start S)))
          (λ u h. one_imply _ _ (λ g.
          let k2 = and_true (eqb u.line (suc m)) (leb (start S) u.column && leb (suc u.column) (suc (start S))) g in
          let k3 = and_true (leb (start S) u.column) (leb (suc u.column) (suc (start S))) k2.1 in
          and_yes _ _ (eq-eqb (suc m) u.line (sym (eqb-true u.line (suc m) k2.0)))
          (eq-eqb (start S) u.column (omega (arith, leb-true (start S) u.column k3.0, leb-true (suc u.column) (suc (start S)) k3.1)))))
          ps G.stand in
          let w : standing Col ps ≡ standing (box line_of column-of (start S) (start S) (suc m)) ps = rw e refl in
          let t = sum_tail (suc (suc m)) (size - suc (suc m)) f (λ n h. omega (
            arith,
            and_bit (leb S.top n && leb n S.bottom) (leb (suc (S.a n)) (start S)),
            and_bit (leb S.top n) (leb n S.bottom),
            ap one (lt-leb n S.bottom (omega arith)),
          )) in
          let c3 : size - suc (suc m) + suc (suc m) ≡ size = omega arith in
          let t' : sum size f ≡ sum (suc (suc m)) f = rw c3 at t in
          omega (arith, column-part m e, column-last m e, sum_suc (suc m) f)

  -- pairs left of the cut with an end in the column
  abbrev left : Vertex → Vertex → ℕ
  left u v = one ((leb u.column (start S) && leb v.column (start S))
      && not (leb (suc u.column) (start S) && leb (suc v.column) (start S)))

  column-bit : (u : Vertex) → Here S u → one (leb u.column (start S)) ≡ one (leb (suc u.column) (start S)) + one (Col u)
  column-bit u h =
      let e = ap one (le-leb u.line S.bottom h.high) in
      let f = and_bit (leb u.line S.bottom) (leb (start S) u.column && leb (suc u.column) (suc (start S))) in
      let g = and_bit (leb (start S) u.column) (leb (suc u.column) (suc (start S))) in
      let i = ap one (leb_suc u.column (start S)) in
      elim (le_case u.column (start S)) [
        | inl a ↦ elim (le_case (suc u.column) (start S)) [
          | inl b ↦ omega (arith, ap one (lt-leb (start S) u.column b.2))
          | inr b ↦ omega (arith, ap one (le-leb (start S) u.column (omega arith)))
        ]
        | inr a ↦ omega (arith, ap one (lt-leb (suc u.column) (start S) (omega arith)))
      ]

  left-count : (qs : List Pair) → All (Here S) qs
      → standing Col qs + leaving (λ v. leb (suc v.column) (start S)) qs ≡ leaving (side (left_cut S)) qs + 2 * tally left qs
  unfolding standing leaving tally
  left-count [] a = refl
  left-count (p ∷ qs) a = omega (
    arith,
    left-count qs a.2,
    left_one (parted (leb p.first.column (start S)) (leb (suc p.first.column) (start S)) (Col p.first) (column-bit p.first a.0))
        (parted (leb p.second.column (start S)) (leb (suc p.second.column) (start S)) (Col p.second) (column-bit p.second a.1)),
  )

  left-sym : (u v : Vertex) → left u v ≡ left v u
  left-sym u v = rw (
    and_comm (leb u.column (start S)) (leb v.column (start S)),
    and_comm (leb (suc u.column) (start S)) (leb (suc v.column) (start S)),
  )

  left_here : (s : Vertex) → s.column ≤ start S → left (UL S) s ≡ 1
  left_here s h = rw (le-leb (start S) (start S) (omega arith), le-leb s.column (start S) h, lt-leb (suc (start S)) (start S) (omega arith))

  -- the split step at the column cut
  pub room-left : (s t : Vertex) (rest1 rest : List Pair) → Take (UL S) s ps rest1 → Take (UL S) t rest1 rest → s.column ≤ start S
      → t.column ≤ start S → Roomy S ps (left_cut S)
  room-left s t rest1 rest t1 t2 hs ht =
      let i1 = tally_take left left-sym (UL S) s t1 in let i2 = tally_take left left-sym (UL S) t t2 in
      let e = left_here s hs in let f = left_here t ht in
      omega (arith, left-count ps G.stand, column-pins, left-law S ps G T wide (start S) (omega arith), cap-col S G.shaped T wide)

-- The pins near the corner, and the corner law for the quarter above and left of a row cut and the corner's column cut.
-- Assumes a good problem, every line containing the top line, and a top line of two vertices or more.
use Rattle.std.specs.Prelude.{◌≡◌, refl, true, ◌&&◌, List, ℕ, zero, suc, ◌+◌, ◌*◌, ◌≤◌, ◌<◌, max}
use Rattle.std.proofs.Math.Path.{ap}
use Rattle.std.proofs.Common.{inl, inr}
use native.Mathlib.Omega.{arith}
use Rattle.std.proofs.Math.Dec.{leb}
use borrow.Author.Tests.{leb-true, le-leb, lt-leb}
use Rattle.count.specs.Truth.{one}
use Rattle.count.specs.TruthLaws.{bool_eq, and_true, and_yes}
use Rattle.count.specs.Sum.{sum, sum_eq}
use Rattle.board.specs.Board.{at}
use Rattle.board.specs.declared.Vertex.{Vertex}
use Rattle.net.specs.declared.Pair.{Pair}
use Rattle.net.specs.Terminals.{same}
use Rattle.cut.specs.declared.Cut.TheVariants.{Column}
use Rattle.cut.specs.Cut.{side}
use Rattle.count.specs.Bits.{le_case, one_imply, eqb_sym, leb_suc}
use Rattle.corner.specs.Pairs.{All, leaving, standing}
use Rattle.corner.proofs.Tallies.{all_map, standing_le, standing_ext, leaving_ext, leaving_none}
use Rattle.corner.specs.Shape.{size, Shape, present, At, Here, behind, deg, cap, Good, start, finish, Top, UL}
use Rattle.corner.proofs.Presence.{present_yes, present_true, present_one, behind_left, corner_here}
use Rattle.corner.proofs.CornerLaw.{Stands, spot, box, reaches, corner_law}

-- terminals and present neighbours are at most 4
pub room_at : (S : Shape) (ps : List Pair) → Good S ps → (l c : ℕ) → At S l c
    → standing (same (at l c)) ps + (one (present S l (suc c)) + one (present S (suc l) c) + one (behind (present S l) c) + one
    (behind (λ k. present S k c) l)) ≤ 4
unfolding deg
room_at S ps G l c h = let k = G.even l c h in omega (arith, k.1, k.2)

pub room_even : (S : Shape) (ps : List Pair) → Good S ps → (l c : ℕ) → At S l c
    → (k : ℕ) × (standing (same (at l c)) ps + (one (present S l (suc c)) + one (present S (suc l) c) + one (behind (present S l) c) + one
    (behind (λ k. present S k c) l)) ≡ 2 * k)
unfolding deg
room_even S ps G l c h = let k = G.even l c h in (k.0, omega (arith, k.1))

module _ (S : Shape) (ps : List Pair) (G : Good S ps) (T : Top S) (wide : start S < finish S) where
  -- a vertex with its right and its lower neighbour
  pub pin-in : (l c : ℕ) → S.top ≤ l → suc (suc l) ≤ S.bottom → S.a (suc l) ≤ c → c < finish S → S.a (suc (suc l)) ≤ c
      → standing (same (at (suc l) c)) ps ≤ one (leb c (S.a (suc l))) + one (leb (suc c) (S.a l))
  pin-in l c h i j k n =
      let t0 = T l (omega arith) in let t1 = T (suc l) (omega arith) in let t2 = T (suc (suc l)) (omega arith) in
      let p = room_at S ps G (suc l) c (record { low = omega arith; high = omega arith; from = j; to = omega arith }) in
      let p1 = present_one S (suc l) (suc c) (omega arith) (omega arith) (omega arith) (omega arith) in
      let p2 = present_one S (suc (suc l)) c (omega arith) (omega arith) n (omega arith) in
      elim (le_case c (S.a (suc l))) [
        | inl d ↦ elim (le_case (suc c) (S.a l)) [
          | inl e ↦ omega arith
          | inr e ↦ omega (arith, present_one S l c h (omega arith) (omega arith) (omega arith))
        ]
        | inr d ↦
            let p3 = behind_left S (suc l) c (omega arith) (omega arith) d.2 (omega arith) in
            elim (le_case (suc c) (S.a l)) [
              | inl e ↦ omega arith
              | inr e ↦ omega (arith, present_one S l c h (omega arith) (omega arith) (omega arith))
            ]
      ]

  -- the top line
  pub pin-top : S.top < S.bottom → (c : ℕ) → start S ≤ c → c < finish S → standing (same (at S.top c)) ps ≤ one (leb c (start S)) + 1
  pin-top deep c h i =
      let t1 = T (suc S.top) (omega arith) in
      let p = room_at S ps G S.top c (record { low = omega arith; high = omega arith; from = h; to = omega arith }) in
      let p1 = present_one S S.top (suc c) (omega arith) (omega arith) (omega arith) (omega arith) in
      let p2 = present_one S (suc S.top) c (omega arith) (omega arith) (omega arith) (omega arith) in
      elim (le_case c (start S)) [
        | inl d ↦ omega arith
        | inr d ↦ omega (arith, behind_left S S.top c (omega arith) (omega arith) d.2 (omega arith))
      ]

  pub stands : All (Stands (λ v. v.line) (λ v. v.column) S.top S.bottom S.a) ps
  stands = all_map (λ v h. (h.low, h.high, h.from)) ps G.stand

  pub spot-same : (l c : ℕ) → standing (spot (λ v. v.line) (λ v. v.column) l c) ps ≡ standing (same (at l c)) ps
  spot-same l c = standing_ext (Here S) _ _ (λ u h. rw (eqb_sym u.line l, eqb_sym u.column c)) ps G.stand

  cap-reaches : (q : ℕ) → suc q ≤ start S → cap (present S) (Column q) ≡ sum size (reaches S.top S.bottom S.a (suc q))
  unfolding cap
  cap-reaches q h = sum_eq size _ _ (λ l i. ap one (bool_eq _ _
      (λ e.
      let k = present_true S l q (and_true (present S l q) (present S l (suc q)) e).0 in
      and_yes _ _ (and_yes _ _ (le-leb S.top l k.low) (le-leb l S.bottom k.high))
      (le-leb (suc (S.a l)) (suc q) (omega (arith, k.from))))
      (λ e.
      let j = and_true (leb S.top l && leb l S.bottom) (leb (suc (S.a l)) (suc q)) e in
      let k = and_true (leb S.top l) (leb l S.bottom) j.0 in
      let k1 = leb-true S.top l k.0 in let k2 = leb-true l S.bottom k.1 in let k3 = leb-true (suc (S.a l)) (suc q) j.1 in
      let m = T l (k1, k2) in
      and_yes _ _ (present_yes S l q (record { low = k1; high = k2; from = omega arith; to = omega arith }))
      (present_yes S l (suc q) (record { low = k1; high = k2; from = omega arith; to = omega arith })))))

  -- what crosses the cut left of column q
  pub left-law : (q : ℕ) → q ≤ start S → leaving (λ v. leb (suc v.column) q) ps ≤ sum size (reaches S.top S.bottom S.a q)
  left-law zero h = omega (
    arith,
    leaving_none (Here S) (λ v. leb (suc v.column) 0) (λ u k. lt-leb (suc u.column) 0 (omega arith)) ps
        G.stand,
  )
  left-law (suc q) h =
      let e = leaving_ext (Here S) (λ v. leb (suc v.column) (suc q)) (side (Column q)) (λ u k. leb_suc u.column q) ps G.stand in
      omega (arith, (G.cuts (Column q)).1, cap-reaches q h)

  -- the two corners, r a row cut
  module _ (r : ℕ) (t : S.top ≤ r) (d : suc r ≤ S.bottom) where
    pub upper-left : standing (same (UL S)) ps ≡ 0
        → leaving (λ v. leb v.line r && leb v.column (start S)) ps + 2 + (S.top + max (S.a r) (S.a (suc r))) ≤ suc r + suc (start S)
    upper-left z = corner_law (λ v. v.line) (λ v. v.column) ps S.top S.bottom (start S) S.a stands 2 r size t d G.shaped.low
        (λ l h k. (T l (h, k)).0) G.shaped.between_left q refl (λ n. base)
        (λ l c h i j k m. let p = pin-in l c h (omega arith) j (omega arith) m in omega (arith, spot-same (suc l) c))
        (left-law q fit)
      where
        q : ℕ
        q = max (S.a r) (S.a (suc r))

        fit : q ≤ start S
        fit = omega (arith, T r (omega arith), T (suc r) (omega arith))

        is-corner : (u : Vertex) → Here S u → box (λ v. v.line) (λ v. v.column) q (start S) S.top u ≡ true → same (UL S) u ≡ true
        is-corner u h e =
            let j = and_true (leb u.line S.top) (leb q u.column && leb (suc u.column) (suc (start S))) e in
            let k = and_true (leb q u.column) (leb (suc u.column) (suc (start S))) j.1 in
            corner_here S u h (leb-true u.line S.top j.0) (omega (arith, leb-true (suc u.column) (suc (start S)) k.1))

        base : standing (box (λ v. v.line) (λ v. v.column) q (start S) S.top) ps + 2 + max q (start S) ≤ one (leb q (start S)) + suc (start S)
        base =
            let e = standing_le (Here S) (box (λ v. v.line) (λ v. v.column) q (start S) S.top) (same (UL S))
            (λ u h. one_imply _ _ (λ e. is-corner u h e)) ps G.stand in
            omega (arith, fit, ap one (le-leb q (start S) fit))

-- The corner law for the quarter below and right of a row cut and the corner's column cut: the same law, turned by 180 degrees.
-- Assumes a good problem, every line containing the top line, and a top line of two vertices or more.
use Rattle.std.specs.Prelude.{◌≡◌, refl, Bool, true, ◌&&◌, not, List, eqb}
use Rattle.std.proofs.Math.Path.{ap}
use Rattle.std.proofs.Common.{ap₂, sym, inl, inr}
use Prim.Native.Nat.{ℕ, suc, ◌+◌, ◌-◌, ◌≤◌, ◌<◌, min, max}
use native.Mathlib.Omega.{arith}
use Rattle.std.proofs.Math.Dec.{leb}
use borrow.Author.Tests.{leb-true, eqb-true, le-leb, lt-leb, eq-eqb}
use Rattle.count.specs.Truth.{one}
use Rattle.count.specs.TruthLaws.{bool_eq, and_true, and_yes}
use Rattle.count.specs.Sum.{sum}
use Rattle.board.specs.Board.{at}
use Rattle.board.specs.declared.Vertex.{Vertex}
use Rattle.net.specs.declared.Pair.{Pair}
use Rattle.net.specs.Terminals.{same}
use Rattle.cut.specs.declared.Cut.TheVariants.{Column}
use Rattle.cut.specs.Cut.{side}
use Rattle.count.specs.Bits.{le_case, one_imply}
use Rattle.count.specs.Sums.{sum_reverse}
use Rattle.corner.specs.Pairs.{All, leaving, standing}
use Rattle.corner.proofs.Tallies.{all_map, standing_ext, leaving_ext, leaving_not}
use Rattle.corner.specs.Shape.{size, last, Shape, present, Here, cap, Good, start, finish, Top}
use Rattle.corner.proofs.Presence.{last_suc, present_yes, present_true, present_one}
use Rattle.corner.proofs.CornerLaw.{Stands, spot, box, reaches, first-law, corner_law}
use Rattle.corner.proofs.UpperLeft.{room_at}

-- ── numbers and truth values, turned ──
lower_arith : (D r x bottom b0 b1 q0 q1 : ℕ) → D + 0 + (last - bottom + max q0 q1) ≤ suc (last - suc r) + suc (last - suc x) → suc r ≤ last
    → bottom ≤ last → suc x ≤ last
    → q0 + b1 ≡ last → q1 + b0 ≡ last → D + r + x ≤ bottom + min b0 b1
lower_arith D r x bottom b0 b1 q0 q1 h1 h2 h3 h4 h5 h6 = omega arith

turn_bit : (l r : ℕ) → suc r ≤ last → l ≤ last → not (leb l r) ≡ leb (last - l) (last - suc r)
turn_bit l r h k = elim (le_case l r) [
  | inl e ↦ rw e.0 (sym (lt-leb (last - l) (last - suc r) (omega arith)))
  | inr e ↦ rw e.0 (sym (le-leb (last - l) (last - suc r) (omega arith)))
]

n1_arith : (bi bj bk : ℕ) → min bk bi ≤ bj → last - bj ≤ max (last - bi) (last - bk)
n1_arith bi bj bk h = omega arith

pin_arith : (e : ℕ) (i j i' j' : Bool) → e ≤ one i + one j → (i ≡ true → i' ≡ true) → (j ≡ true → j' ≡ true) → e ≤ one i' + one j'
pin_arith e i j i' j' h f g = omega (arith, one_imply i i' f, one_imply j j' g)

module _ (S : Shape) (ps : List Pair) (G : Good S ps) (T : Top S) (wide : start S < finish S) where
  -- lines and columns from the other end
  abbrev L' : Vertex → ℕ
  L' v = last - v.line

  abbrev C' : Vertex → ℕ
  C' v = last - v.column

  abbrev a' : ℕ → ℕ
  a' l = last - S.b (last - l)

  -- a vertex with its left and its upper neighbour
  pin-out : (l c : ℕ) → S.top ≤ l → suc (suc l) ≤ S.bottom → start S ≤ c → suc c ≤ S.b (suc l) → suc c ≤ S.b l
      → standing (same (at (suc l) (suc c))) ps ≤ one (leb (S.b (suc l)) (suc c)) + one (leb (suc (S.b (suc (suc l)))) (suc c))
  pin-out l c h i j k n =
      let t0 = T l (omega arith) in let t1 = T (suc l) (omega arith) in let t2 = T (suc (suc l)) (omega arith) in
      let p = room_at S ps G (suc l) (suc c) (record { low = omega arith; high = omega arith; from = omega arith; to = k }) in
      let p1 = present_one S (suc l) c (omega arith) (omega arith) (omega arith) (omega arith) in
      let p2 = present_one S l (suc c) h (omega arith) (omega arith) n in
      elim (le_case (S.b (suc l)) (suc c)) [
        | inl d ↦ elim (le_case (suc (S.b (suc (suc l)))) (suc c)) [
          | inl e ↦ omega arith
          | inr e ↦ omega (arith, present_one S (suc (suc l)) (suc c) (omega arith) (omega arith) (omega arith) (omega arith))
        ]
        | inr d ↦
            let p3 = present_one S (suc l) (suc (suc c)) (omega arith) (omega arith) (omega arith) d.2 in
            elim (le_case (suc (S.b (suc (suc l)))) (suc c)) [
              | inl e ↦ omega arith
              | inr e ↦ omega (arith, present_one S (suc (suc l)) (suc c) (omega arith) (omega arith) (omega arith) (omega arith))
            ]
      ]

  pin-bottom : (l c : ℕ) → S.top ≤ l → suc l ≡ S.bottom → start S ≤ c → suc c ≤ S.b (suc l) → suc c ≤ S.b l
      → standing (same (at (suc l) (suc c))) ps ≤ one (leb (S.b (suc l)) (suc c)) + 1
  pin-bottom l c h i j k n =
      let t0 = T l (omega arith) in let t1 = T (suc l) (omega arith) in
      let p = room_at S ps G (suc l) (suc c) (record { low = omega arith; high = omega arith; from = omega arith; to = k }) in
      let p1 = present_one S (suc l) c (omega arith) (omega arith) (omega arith) (omega arith) in
      let p2 = present_one S l (suc c) h (omega arith) (omega arith) n in
      elim (le_case (S.b (suc l)) (suc c)) [
        | inl d ↦ omega arith
        | inr d ↦ omega (arith, present_one S (suc l) (suc (suc c)) (omega arith) (omega arith) (omega arith) d.2)
      ]

  -- a vertex in turned coordinates
  spot-turned : (l c i j : ℕ) → i + l ≡ last → j + c ≡ last → standing (spot L' C' l c) ps ≡ standing (same (at i j)) ps
  spot-turned l c i j e f = standing_ext (Here S) _ _ (λ u h.
      let k1 = G.shaped.low in let k2 = h.high in let k3 = G.shaped.thin u.line (h.low, h.high) in let k4 = h.to in let k5 = last_suc in
      bool_eq _ _
      (λ g. let k = and_true (eqb (L' u) l) (eqb (C' u) c) g in
      and_yes _ _ (eq-eqb i u.line (omega (arith, eqb-true (L' u) l k.0))) (eq-eqb j u.column (omega (arith, eqb-true (C' u) c k.1))))
      (λ g. let k = and_true (eqb i u.line) (eqb j u.column) g in
      and_yes _ _ (eq-eqb (L' u) l (omega (arith, eqb-true i u.line k.0))) (eq-eqb (C' u) c (omega (arith, eqb-true j u.column k.1)))))
      ps G.stand

  stands' : All (Stands L' C' (last - S.bottom) (last - S.top) a') ps
  stands' = all_map (λ v h.
      let k1 = G.shaped.low in let k2 = h.high in let k3 = h.low in let k4 = h.to in let k5 = last_suc in
      let e : S.b (last - (last - v.line)) ≡ S.b v.line = ap S.b (omega arith) in
      (omega arith, omega arith, omega arith)) ps G.stand

  cap-turned : (q : ℕ) → q ≤ last - suc (start S) → cap (present S) (Column (last - q)) ≡ sum size (reaches (last - S.bottom) (last - S.top) a' q)
  unfolding cap
  cap-turned q h = sum_reverse size _ _ (λ i j e.
      let k1 = G.shaped.low in let k2 = last_suc in
      let f : S.b (last - j) ≡ S.b i = ap S.b (omega arith) in
      ap one (bool_eq _ _
      (λ g.
      let k = present_true S i (suc (last - q)) (and_true (present S i (last - q)) (present S i (suc (last - q))) g).1 in
      let k3 = k.low in let k4 = k.high in let k5 = k.to in let k6 = G.shaped.thin i (k3, k4) in
      and_yes _ _ (and_yes _ _ (le-leb (last - S.bottom) j (omega arith)) (le-leb j (last - S.top) (omega arith)))
      (le-leb (suc (a' j)) q (omega arith)))
      (λ g.
      let j1 = and_true (leb (last - S.bottom) j && leb j (last - S.top)) (leb (suc (a' j)) q) g in
      let j2 = and_true (leb (last - S.bottom) j) (leb j (last - S.top)) j1.0 in
      let k3 : S.top ≤ i = omega (arith, leb-true j (last - S.top) j2.1, G.shaped.order) in
      let k4 : i ≤ S.bottom = omega (arith, leb-true (last - S.bottom) j j2.0) in
      let k5 = T i (k3, k4) in let k6 = G.shaped.thin i (k3, k4) in
      let k7 = leb-true (suc (a' j)) q j1.1 in
      let k8 : suc (last - q) ≤ S.b i = omega arith in
      and_yes _ _ (present_yes S i (last - q) (record { low = k3; high = k4; from = omega arith; to = omega arith }))
      (present_yes S i (suc (last - q)) (record { low = k3; high = k4; from = omega arith; to = k8 })))))

  right-law : (q : ℕ) → q ≤ last - suc (start S)
      → leaving (λ v. leb (suc (C' v)) q) ps ≤ sum size (reaches (last - S.bottom) (last - S.top) a' q)
  right-law q h =
      let e = leaving_ext (Here S) (λ v. leb (suc (C' v)) q) (λ v. not (side (Column (last - q)) v)) (λ u k. turned u k) ps G.stand in
      omega (arith, leaving_not (side (Column (last - q))) ps, (G.cuts (Column (last - q))).1, cap-turned q h)
    where
      turned : (u : Vertex) → Here S u → leb (suc (C' u)) q ≡ not (leb u.column (last - q))
      turned u k =
          let k3 = G.shaped.thin u.line (k.low, k.high) in let k4 = k.to in let k5 = last_suc in
          elim (le_case u.column (last - q)) [
            | inl e ↦ rw e.0 (lt-leb (suc (C' u)) q (omega arith))
            | inr e ↦ rw e.0 (le-leb (suc (C' u)) q (omega arith))
          ]

  pin-far : (l c l0 c0 : ℕ) → suc (suc l0) + l ≡ last → suc c0 + c ≡ last → S.top ≤ l0 → suc (suc l0) ≤ S.bottom → a' (suc l) ≤ c → start S ≤ c0
      → a' (suc (suc l)) ≤ c
      → standing (spot L' C' (suc l) c) ps ≤ one (leb c (a' (suc l))) + one (leb (suc c) (a' l))
  pin-far l c l0 c0 e f h1 h2 h3 h4 h5 =
      let i0 : last - suc (suc l) ≡ l0 = omega arith in
      let i1 : last - suc l ≡ suc l0 = omega arith in
      let i2 : last - l ≡ suc (suc l0) = omega arith in
      let e0 = ap S.b i0 in let e1 = ap S.b i1 in let e2 = ap S.b i2 in
      let p = pin-out l0 c0 h1 h2 h4 (omega arith) (omega arith) in
      let z = spot-turned (suc l) c (suc l0) (suc c0) (omega arith) f in
      pin_arith (standing (spot L' C' (suc l) c) ps) (leb (S.b (suc l0)) (suc c0)) (leb (suc (S.b (suc (suc l0)))) (suc c0)) (leb c (a' (suc l)))
      (leb (suc c) (a' l)) (omega arith)
      (λ g. let w = leb-true (S.b (suc l0)) (suc c0) g in le-leb c (a' (suc l)) (omega arith))
      (λ g. let w = leb-true (suc (S.b (suc (suc l0)))) (suc c0) g in le-leb (suc c) (a' l) (omega arith))

  pub lower-right : (r : ℕ) (t : S.top ≤ r) (d : suc r ≤ S.bottom)
      → leaving (λ v. not (leb v.line r) && not (leb v.column (start S))) ps + r + start S ≤ S.bottom + min (S.b r) (S.b (suc r))
  lower-right r t d =
      let k1 = G.shaped.low in let k2 = last_suc in
      let e = leaving_ext (Here S) (λ v. not (leb v.line r) && not (leb v.column (start S)))
      (λ v. leb (L' v) (last - suc r) && leb (C' v) (last - suc (start S)))
      (λ u h. turned u h) ps G.stand in
      let c = corner_law L' C' ps (last - S.bottom) (last - S.top) (last - suc (start S)) a' stands' 0 (last - suc r) size (omega arith)
      (omega arith) (omega arith)
      reach n1 q refl base pin (right-law q fit) in
      lower_arith _ r (start S) S.bottom (S.b r) (S.b (suc r)) (a' (last - suc r)) (a' (suc (last - suc r))) (omega arith) (omega arith)
      (omega arith)
      (omega (arith, wide, G.shaped.thin S.top (omega (arith, G.shaped.order))))
      (omega (arith, bq, G.shaped.thin (suc r) (omega arith))) (omega (arith, br, G.shaped.thin r (omega arith)))
    where
      q : ℕ
      q = max (a' (last - suc r)) (a' (suc (last - suc r)))

      bq : S.b (last - (last - suc r)) ≡ S.b (suc r)
      bq = ap S.b (omega (arith, G.shaped.low, last_suc))

      br : S.b (last - suc (last - suc r)) ≡ S.b r
      br = ap S.b (omega (arith, G.shaped.low, last_suc))

      reach : (l : ℕ) → last - S.bottom ≤ l → l ≤ last - S.top → a' l ≤ last - suc (start S)
      reach l h k = let k1 = G.shaped.low in let k2 = last_suc in let k3 = G.shaped.order in
          omega (arith, T (last - l) (omega arith, omega arith), wide)

      fit : q ≤ last - suc (start S)
      fit = let k1 = G.shaped.low in let k2 = last_suc in
          omega (arith, reach (last - suc r) (omega arith) (omega arith), reach (suc (last - suc r)) (omega arith) (omega arith))

      n1 : (i j k : ℕ) → last - S.bottom ≤ i → i < j → j < k → k ≤ last - S.top → a' j ≤ max (a' i) (a' k)
      n1 i j k h1 h2 h3 h4 = let k1 = G.shaped.low in let k2 = last_suc in let k3 = G.shaped.order in
          n1_arith (S.b (last - i)) (S.b (last - j)) (S.b (last - k))
          (G.shaped.between_right (last - k) (last - j) (last - i) (omega arith) (omega arith) (omega arith) (omega arith))

      first : (c : ℕ) → a' (last - S.bottom) ≤ c → c ≤ last - suc (start S) → a' (suc (last - S.bottom)) ≤ c
          → standing (spot L' C' (last - S.bottom) c) ps ≤ one (leb c (a' (last - S.bottom))) + one (leb (suc c) (suc (last - suc (start S))))
      first c h1 h2 h3 =
          let k1 = G.shaped.low in let k2 = last_suc in let k3 = G.shaped.order in let k4 = G.shaped.thin S.top (omega arith, omega arith) in
          let l0 = S.bottom - 1 in let c0 = last - suc c in
          let e1 : S.b (last - (last - S.bottom)) ≡ S.b (suc l0) = ap S.b (omega arith) in
          let e2 : S.b (last - suc (last - S.bottom)) ≡ S.b l0 = ap S.b (omega arith) in
          let k5 = G.shaped.thin (suc l0) (omega arith, omega arith) in let k6 = G.shaped.thin l0 (omega arith, omega arith) in
          let p = pin-bottom l0 c0 (omega arith) (omega arith) (omega arith) (omega arith) (omega arith) in
          let z = spot-turned (last - S.bottom) c (suc l0) (suc c0) (omega arith) (omega arith) in
          let o = ap one (le-leb (suc c) (suc (last - suc (start S))) (omega arith)) in
          elim (le_case (S.b (suc l0)) (suc c0)) [
            | inl g ↦ omega (arith, ap one (le-leb c (a' (last - S.bottom)) (omega arith)))
            | inr g ↦ omega arith
          ]

      base : ((c : ℕ) → q ≤ c → a' (last - S.bottom) ≤ c → a' (suc (last - S.bottom)) ≤ c)
          → standing (box L' C' q (last - suc (start S)) (last - S.bottom)) ps + 0 + max q (a' (last - S.bottom)) ≤ one
          (leb q (a' (last - S.bottom))) + suc (last - suc (start S))
      base nx =
          let k1 = G.shaped.low in let k2 = last_suc in let k3 = G.shaped.order in
          omega (
            arith,
            first-law L' C' ps (last - S.bottom) (last - S.top) q (last - suc (start S)) a' stands'
                (λ c i j k. first c j k (nx c i j)) fit (reach (last - S.bottom) (omega arith) (omega arith)),
          )

      pin : (l c : ℕ) → last - S.bottom ≤ l → suc l ≤ last - suc r → a' (suc l) ≤ c → c ≤ last - suc (start S) → a' (suc (suc l)) ≤ c
          → standing (spot L' C' (suc l) c) ps ≤ one (leb c (a' (suc l))) + one (leb (suc c) (a' l))
      pin l c h1 h2 h3 h4 h5 =
          let k1 = G.shaped.low in let k2 = last_suc in let k3 = G.shaped.order in
          let k4 = G.shaped.thin S.top (omega arith, omega arith) in
          pin-far l c (last - suc (suc l)) (last - suc c) (omega arith) (omega arith) (omega arith) (omega arith) h3 (omega arith) h5

      turned : (u : Vertex) → Here S u → (not (leb u.line r) && not (leb u.column (start S)))
          ≡ (leb (L' u) (last - suc r) && leb (C' u) (last - suc (start S)))
      turned u h =
          let k1 = G.shaped.low in let k2 = last_suc in let k3 = h.high in let k4 = h.to in
          let k5 = G.shaped.thin u.line (h.low, h.high) in
          let k6 = G.shaped.thin S.top (omega (arith, G.shaped.order)) in
          ap₂ ◌&&◌ (turn_bit u.line r (omega arith) (omega arith)) (turn_bit u.column (start S) (omega arith) (omega arith))

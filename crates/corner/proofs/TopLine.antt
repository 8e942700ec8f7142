-- The pins of the top line, and the margin of its row cut: at least 2 where two pairs at the corner stay on the top line.
-- Assumes a good problem, every line containing the top line, and two edges at the corner.
use Rattle.std.specs.Prelude.{◌≡◌, refl, Bool, ◌&&◌, List, ℕ, zero, suc, ◌+◌, ◌-◌, ◌≤◌, ◌<◌, leb, eqb}
use Rattle.std.proofs.Common.{ap, ◌∙◌, inl, inr, arith, leb-true, eqb-true, le-leb, eq-eqb}
use Rattle.std.proofs.lemmas.Bool.{lt-leb}
use Rattle.count.specs.Truth.{one}
use Rattle.count.specs.TruthLaws.{not_true, bool_eq, and_true, and_yes, le_or_lt}
use Rattle.board.specs.Board.{at}
use Rattle.board.specs.declared.Vertex.{Vertex}
use Rattle.net.specs.declared.Pair.{Pair}
use Rattle.net.specs.Terminals.{same}
use Rattle.cut.specs.Cut.{side}
use Rattle.count.specs.Bits.{le_case, eq_case, below_suc}
use Rattle.corner.specs.Pairs.{both, inside, standing, Take}
use Rattle.corner.proofs.Tallies.{standing_split, standing_add, standing_none, standing_ext}
use Rattle.corner.proofs.Taking.{inside_take}
use Rattle.corner.specs.Shape.{Shape, present, Here, cap, Good, Roomy, Full, start, finish, Top, UL, NUL, top_cut}
use Rattle.corner.proofs.Presence.{present_one, behind_left, behind_above}
use Rattle.corner.proofs.UpperLeft.{room_at, room_even, pin-top}
use Rattle.corner.proofs.CutEdges.{cap-row}

module _ (S : Shape) (ps : List Pair) (G : Good S ps) (T : Top S) (wide : start S < finish S) (deep : S.top < S.bottom) where
  -- the top line's pins
  abbrev Tops : ℕ → Vertex → Bool
  Tops k v = leb v.line S.top && leb (suc v.column) k

  tops_step : (k : ℕ) → standing (Tops (suc k)) ps ≡ standing (Tops k) ps + standing (same (at S.top k)) ps
  tops_step k = standing_add (Here S) (Tops (suc k)) (Tops k) (same (at S.top k)) (λ u h.
      let e = below_suc (leb u.line S.top) k u.column in
      let f : leb u.line S.top ≡ eqb S.top u.line =
      bool_eq _ _ (λ g. eq-eqb S.top u.line (omega (arith, h.low, leb-true u.line S.top g)))
      (λ g. le-leb u.line S.top (omega (arith, eqb-true S.top u.line g))) in
      omega (arith, e, ap (λ t. one (t && eqb k u.column)) f)) ps G.stand

  tops-base : standing (Tops (start S)) ps ≡ 0
  tops-base = standing_none (Here S) (Tops (start S)) (λ u h. not_true _ (λ e.
      let k = and_true (leb u.line S.top) (leb (suc u.column) (start S)) e in
      let f : u.line ≡ S.top = omega (arith, h.low, leb-true u.line S.top k.0) in
      omega (arith, h.from, ap S.a f, leb-true (suc u.column) (start S) k.1))) ps G.stand

  -- from the corner to the column before k
  tops-law : (k : ℕ) → start S ≤ k → k < finish S → standing (Tops (suc k)) ps + start S ≤ standing (same (UL S)) ps + k
  tops-law zero h i = let e : start S ≡ 0 = omega arith in
      let z = tops-base in let s = tops_step (start S) in
      let w : standing (Tops 1) ps ≡ standing (Tops (suc (start S))) ps = rw e refl in omega arith
  tops-law (suc k) h i = elim (le_or_lt (start S) k) [
    | inl g ↦ omega (
      arith,
      tops-law k g (omega arith),
      tops_step (suc k),
      pin-top S ps G T wide deep (suc k) h i,
      ap one (lt-leb (suc k) (start S) (omega arith)),
    )
    | inr g ↦
        let e : start S ≡ suc k = omega arith in
        let z = tops-base in let s = tops_step (start S) in
        let w : standing (Tops (suc (suc k))) ps ≡ standing (Tops (suc (start S))) ps = rw e refl in omega arith
  ]

  -- the last vertex of the top line has two neighbours
  pin-last : standing (same (at S.top (finish S))) ps ≤ 2
  pin-last =
      let t1 = T (suc S.top) (omega arith) in
      omega (
        arith,
        room_at S ps G S.top (finish S) (record { low = omega arith; high = omega arith; from = omega arith; to = omega arith }),
        present_one S (suc S.top) (finish S) (omega arith) (omega arith) (omega arith) (omega arith),
        behind_left S S.top (finish S) (omega arith) (omega arith) wide (omega arith),
      )

  tops-all : standing (side (top_cut S)) ps ≡ standing (Tops (suc (finish S))) ps
  tops-all = standing_ext (Here S) (side (top_cut S)) (Tops (suc (finish S))) (λ u h. bool_eq _ _
      (λ e. let f : u.line ≡ S.top = omega (arith, h.low, leb-true u.line S.top e) in
      and_yes _ _ e (le-leb (suc u.column) (suc (finish S)) (omega (arith, h.to, ap S.b f))))
      (λ e. (and_true (leb u.line S.top) (leb (suc u.column) (suc (finish S))) e).0)) ps G.stand

  -- all of the top line but its last vertex
  pub tops-but : standing (side (top_cut S)) ps ≡ standing (Tops (finish S)) ps + standing (same (at S.top (finish S))) ps
  tops-but = tops-all ∙ tops_step (finish S)

  tops-before : (k : ℕ) → suc k ≡ finish S → standing (Tops (finish S)) ps + start S ≤ standing (same (UL S)) ps + k
  tops-before k e = rw (← e) (tops-law k (omega arith) (omega arith))

  pub top-pins : standing (side (top_cut S)) ps + start S ≤ standing (same (UL S)) ps + suc (finish S)
  top-pins = omega (arith, tops-but, pin-last, tops-before (finish S - 1) (omega arith))

  pub cap-top : cap (present S) (top_cut S) + start S ≡ suc (finish S)
  cap-top = omega (arith, cap-row S G.shaped T S.top (omega arith) deep, T (suc S.top) (omega arith))

  -- the split step at the row cut
  pub room-top : (s t : Vertex) (rest1 rest : List Pair) → Take (UL S) s ps rest1 → Take (UL S) t rest1 rest → s.line ≤ S.top → t.line ≤ S.top
      → standing (same (UL S)) ps ≡ 2 → Roomy S ps (top_cut S)
  room-top s t rest1 rest t1 t2 hs ht z =
      let i1 = inside_take (side (top_cut S)) (UL S) s t1 in let i2 = inside_take (side (top_cut S)) (UL S) t t2 in
      let e : ◌≡◌ {A = ℕ} (both (leb S.top S.top) (leb s.line S.top)) 1 =
      rw (le-leb S.top S.top (omega arith), le-leb s.line S.top hs) in
      let f : ◌≡◌ {A = ℕ} (both (leb S.top S.top) (leb t.line S.top)) 1 =
      rw (le-leb S.top S.top (omega arith), le-leb t.line S.top ht) in
      omega (arith, top-pins, cap-top, standing_split (side (top_cut S)) ps)

  -- the divide at NUL: no pair lies in the top line, and NUL has an end
  pub full-top : standing (same (UL S)) ps ≡ 0 → Full S ps (top_cut S) → (inside (side (top_cut S)) ps ≡ 0) × (1 ≤ standing (same (NUL S)) ps)
  full-top z c0 = (
    omega (arith, top-pins, cap-top, standing_split (side (top_cut S)) ps),
    elim (eq_case (suc (start S)) (finish S)) [
      | inl e ↦
          let w : standing (same (at S.top (finish S))) ps ≡ standing (same (NUL S)) ps = rw e.2 refl in
          omega (arith, tops-but, tops-before (start S) e.2, cap-top, standing_split (side (top_cut S)) ps)
      | inr e ↦ odd (omega (arith, e.2))
    ],
  )
    where
      odd : suc (suc (start S)) ≤ finish S → 1 ≤ standing (same (NUL S)) ps
      odd h =
          let t1 = T (suc S.top) (omega arith) in
          let e = room_even S ps G S.top (suc (start S))
          (record { low = omega arith; high = omega arith; from = omega arith; to = omega arith }) in
          omega (
            arith,
            e.1,
            present_one S S.top (suc (suc (start S))) (omega arith) (omega arith) (omega arith) h,
            present_one S (suc S.top) (suc (start S)) (omega arith) (omega arith) (omega arith) (omega arith),
            behind_left S S.top (suc (start S)) (omega arith) (omega arith) (omega arith) (omega arith),
            behind_above S (suc (start S)) S.top refl,
          )

  pub full-below : standing (same (UL S)) ps ≡ 0 → Full S ps (top_cut S) → (q : Vertex) (rest : List Pair) → Take (NUL S) q ps rest → S.top < q.line
  full-below z c0 q rest tk = elim (le_case q.line S.top) [
    | inl h ↦
        let e : ◌≡◌ {A = ℕ} (both (leb S.top S.top) (leb q.line S.top)) 1 = rw (le-leb S.top S.top (omega arith), h.0) in
        absurd (omega (arith, inside_take (side (top_cut S)) (NUL S) q tk, (full-top z c0).0))
    | inr h ↦ h.2
  ]

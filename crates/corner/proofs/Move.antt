-- The step at a corner with one edge: exactly one pair ends there, that end moves along the edge, and the problem stays good.
-- Assumes a good problem without trivial pairs and every line containing the top line.
use Rattle.std.specs.Prelude.{◌≡◌, refl, true, false, List, ◌∷◌, ◌⊎◌, ℕ, suc, ◌+◌, ◌*◌, ◌≤◌, ◌<◌}
use Rattle.std.proofs.Common.{ap, ◌∙◌, sym, subst, inl, inr, arith, le-leb}
use Rattle.std.proofs.lemmas.Bool.{lt-leb}
use Rattle.count.specs.Truth.{one}
use Rattle.count.specs.TruthLaws.{bool, clash, not_true, bool_eq, le_or_lt}
use Rattle.board.specs.Board.{at}
use Rattle.board.specs.declared.Vertex.{Vertex}
use Rattle.net.specs.declared.Pair.{Pair}
use Rattle.net.specs.Terminals.{same}
use Rattle.cut.specs.declared.Cut.{Cut}
use Rattle.cut.specs.Cut.{side}
use Rattle.count.specs.Bits.{leb_next}
use Rattle.corner.specs.Pairs.{pair, apart, All, leaving, standing, Proper, Take}
use Rattle.net.specs.Same.{same_true, same_self}
use Rattle.corner.proofs.Apart.{astray_start, astray_end}
use Rattle.corner.proofs.Tallies.{all_zip, standing_cons, leaving_cons, all_out, leaving_ext}
use Rattle.corner.proofs.Taking.{all_take, leaving_take, standing_take, pick, proper_take, proper_leaving}
use Rattle.corner.specs.Shape.{
  Shape,
  present,
  At,
  Here,
  deg,
  cap,
  Shaped,
  Good,
  start,
  finish,
  Top,
  UL,
  NUL,
  BUL,
  top_cut,
  left_cut,
  narrow,
  lower,
  Less,
}
use Rattle.corner.proofs.Presence.{present_no, present_one, behind_above, behind_before, corner_at, off_corner, corner_here, kept}
use Rattle.corner.proofs.Delete.{narrow_shaped, lower_shaped, narrow_less, lower_less, cap_less}
use Rattle.corner.proofs.CutEdges.{cap-col, cap-row}
use Rattle.corner.proofs.Keep.{move_cut, keep, by_cut}

-- DEFINITION: w is the corner's one neighbour, S' is S without the corner, and the cut X parts the corner from all other vertices
pub record OneEdge (S S' : Shape) (w : Vertex) (X : Cut) : Type 0 where
  pub shaped : Shaped S'
  pub less : Less S S' (UL S)
  pub stays : Here S' w
  -- its neighbours are NUL or BUL, and only w
  pub neighbour : (l c : ℕ) → At S l c → one (same (at l c) w) ≡ one (same (at l c) (NUL S)) + one (same (at l c) (BUL S))
  pub single : one (present S S.top (suc (start S))) + one (present S (suc S.top) (start S)) ≡ 1
  -- the edges that the cuts lose
  pub edges : (Y : Cut) → cap (present S) Y ≡ cap (present S') Y + apart (side Y (UL S)) (side Y w)
  pub elsewhere : (Y : Cut) → (Y ≡ X) ⊎ (side Y (UL S) ≡ side Y w)
  -- the cut X
  pub width : cap (present S) X ≡ 1
  pub corner : side X (UL S) ≡ true
  pub neighbour_side : side X w ≡ false
  pub others : (u : Vertex) → Here S u → same (UL S) u ≡ false → side X u ≡ false

-- the corner's terminals and edges
pub corner_even : (S : Shape) (ps : List Pair) → Good S ps
    → (k : ℕ) × (standing (same (UL S)) ps + one (present S S.top (suc (start S))) + one (present S (suc S.top) (start S)) ≡ 2 * k) × (k ≤ 2)
unfolding deg
corner_even S ps G = let k = G.even S.top (start S) (corner_at S G.shaped) in
    (k.0, omega (arith, k.1, behind_before S (start S) refl, behind_above S (start S) S.top refl), k.2)

module _ (S S' : Shape) (w : Vertex) (X : Cut) (O : OneEdge S S' w X) (ps : List Pair) (G : Good S ps) (pr : Proper ps) where
  -- the corner has one terminal
  pub one-terminal : standing (same (UL S)) ps ≡ 1
  one-terminal =
      let e = leaving_ext (Here S) (side X) (same (UL S)) (λ u h. bool_eq (side X u) (same (UL S) u)
      (λ g. elim (bool (same (UL S) u)) [ inl y ↦ y | inr n ↦ absurd (clash g (O.others u h n)) ])
      (λ g. subst (λ v. side X v ≡ true) (same_true (UL S) u g) O.corner)) ps G.stand in
      let c = corner_even S ps G in
      omega (arith, c.1, proper_leaving (UL S) ps pr, (G.cuts X).1, O.width, O.single)

  -- the far end of its pair is on the neighbour's side of every cut that parts the corner from the neighbour
  far-side : (s : Vertex) → Here S s → same (UL S) s ≡ false → (Y : Cut) → (side Y (UL S) ≡ side Y w) ⊎ (side Y s ≡ side Y w)
  far-side s h n Y = elim (O.elsewhere Y) [
    | inl q ↦ inr (subst (λ Z. side Z s ≡ side Z w) (sym q) (O.others s h n ∙ sym O.neighbour_side))
    | inr q ↦ inl q
  ]

  pub move-good : (s : Vertex) (rest : List Pair) → Take (UL S) s ps rest → Good S' (pair w s ∷ rest)
  move-good s rest tk = keep S S' ps (pair w s ∷ rest) G O.shaped O.less (
    O.stays,
    kept S S' (UL S) O.less s.line s.column a.1 p,
    all_zip (λ v h e. kept S S' (UL S) O.less v.line v.column h e) rest a.2
        (all_out (same (UL S)) rest (omega (arith, one-terminal, standing_take (same (UL S)) (UL S) s tk, ap one (same_self (UL S))))),
  )
      (λ l c h e. omega (arith, standing_cons (same (at l c)) w s rest, standing_take (same (at l c)) (UL S) s tk, ap one e, O.neighbour l c h))
      (λ Y.
      let m = move_cut (side Y (UL S)) (side Y w) (side Y s) _ _ (leaving (side Y) rest) (G.cuts Y).0 (O.edges Y)
      (omega (arith, (G.cuts Y).1, leaving_take (side Y) (UL S) s tk))
      (elim (far-side s a.1 p Y) [
        | inl e ↦ omega (arith, astray_start (side Y (UL S)) (side Y w) (side Y s) e)
        | inr e ↦ omega (arith, astray_end (side Y (UL S)) (side Y w) (side Y s) e)
      ]) in
      (m.0, omega (arith, m.1, leaving_cons (side Y) w s rest)))
    where
      a : Here S (UL S) × Here S s × All (Here S) rest
      a = all_take (Here S) (UL S) s tk G.stand

      p : same (UL S) s ≡ false
      p = (proper_take (UL S) s tk pr).0

  pub move-one : (s : Vertex) × (rest : List Pair) × Take (UL S) s ps rest × Good S' (pair w s ∷ rest)
  move-one = let k = pick (UL S) ps (omega (arith, one-terminal)) in (k.0, k.1, k.2, move-good k.0 k.1 k.2)

-- ── the two cases ──
-- a vertex that is not there is nobody's place
gone_bit : (S : Shape) (l c : ℕ) (w : Vertex) → At S l c → (At S w.line w.column → ⊥) → one (same (at l c) w) ≡ 0
gone_bit S l c w h f = ap one (not_true (same (at l c) w) (λ e. f (subst (λ v. At S v.line v.column) (same_true (at l c) w e) h)))

-- a single line: the neighbour is on the right
pub right_edge : (S : Shape) → Shaped S → Top S → start S < finish S → S.top ≡ S.bottom → OneEdge S (narrow S) (NUL S) (left_cut S)
right_edge S H T wide flat = record {
  shaped = narrow_shaped S H T wide;
  less = narrow_less S H wide;
  stays = kept S (narrow S) (UL S) (narrow_less S H wide) S.top (suc (start S))
      (record { low = omega arith; high = omega arith; from = omega arith; to = wide }) (off_corner S (NUL S) (λ p q. omega arith));
  neighbour = λ l c h. omega (arith, gone_bit S l c (BUL S) h (λ j. omega (arith, j.high)));
  single = omega (arith, right, down);
  edges = λ Y. omega (arith, cap_less S (narrow S) H (narrow_less S H wide) Y 1 0 right down);
  elsewhere = by_cut S (λ Y. (Y ≡ left_cut S) ⊎ (side Y (UL S) ≡ side Y (NUL S))) (inr refl) (λ r e. inr refl) (inl refl)
      (λ y e. inr (leb_next (start S) y e));
  width = omega (arith, cap-col S H T wide);
  corner = le-leb (start S) (start S) (omega arith);
  neighbour_side = lt-leb (suc (start S)) (start S) (omega arith);
  others = λ u h n. elim (le_or_lt u.column (start S)) [
    | inl i ↦ absurd (clash (corner_here S u h (omega (arith, h.high)) i) n)
    | inr i ↦ lt-leb u.column (start S) i
  ];
}
  where
    right : one (present S S.top (suc (start S))) ≡ 1
    right = present_one S S.top (suc (start S)) (omega arith) (omega arith) (omega arith) (omega arith)

    down : one (present S (suc S.top) (start S)) ≡ 0
    down = ap one (present_no S (suc S.top) (start S) (λ j. omega (arith, j.high)))

-- a top line of one vertex: the neighbour is below
pub down_edge : (S : Shape) → Shaped S → Top S → start S ≡ finish S → S.top < S.bottom → OneEdge S (lower S) (BUL S) (top_cut S)
down_edge S H T thin deep = record {
  shaped = lower_shaped S H deep;
  less = lower_less S H thin;
  stays = kept S (lower S) (UL S) (lower_less S H thin) (suc S.top) (start S)
      (record { low = omega arith; high = omega arith; from = below.0; to = omega (arith, below) }) (off_corner S (BUL S) (λ p q. omega arith));
  neighbour = λ l c h. omega (arith, gone_bit S l c (NUL S) h (λ j. omega (arith, j.to)));
  single = omega (arith, right, down);
  edges = λ Y. omega (arith, cap_less S (lower S) H (lower_less S H thin) Y 0 1 right down);
  elsewhere = by_cut S (λ Y. (Y ≡ top_cut S) ⊎ (side Y (UL S) ≡ side Y (BUL S))) (inl refl) (λ r e. inr (leb_next S.top r e)) (inr refl)
      (λ y e. inr refl);
  width = omega (arith, cap-row S H T S.top (omega arith) deep, below);
  corner = le-leb S.top S.top (omega arith);
  neighbour_side = lt-leb (suc S.top) S.top (omega arith);
  others = λ u h n. elim (le_or_lt u.line S.top) [
    | inl i ↦ let f : u.line ≡ S.top = omega (arith, h.low) in absurd (clash (corner_here S u h i (omega (arith, h.to, ap S.b f))) n)
    | inr i ↦ lt-leb u.line S.top i
  ];
}
  where
    below : (S.a (suc S.top) ≤ start S) × (finish S ≤ S.b (suc S.top))
    below = T (suc S.top) (omega arith, deep)

    right : one (present S S.top (suc (start S))) ≡ 0
    right = ap one (present_no S S.top (suc (start S)) (λ j. omega (arith, j.to)))

    down : one (present S (suc S.top) (start S)) ≡ 1
    down = present_one S (suc S.top) (start S) (omega arith) (omega arith) below.0 (omega (arith, below))

-- the step in each case
pub move_right_at : (S : Shape) (ps : List Pair) → Good S ps → Top S → start S < finish S → S.top ≡ S.bottom → Proper ps
    → (s : Vertex) (rest : List Pair) → Take (UL S) s ps rest → Good (narrow S) (pair (NUL S) s ∷ rest)
move_right_at S ps G T wide flat pr s rest tk = move-good S (narrow S) (NUL S) (left_cut S) (right_edge S G.shaped T wide flat) ps G pr s rest tk

pub move_down_at : (S : Shape) (ps : List Pair) → Good S ps → Top S → start S ≡ finish S → S.top < S.bottom → Proper ps
    → (s : Vertex) (rest : List Pair) → Take (UL S) s ps rest → Good (lower S) (pair (BUL S) s ∷ rest)
move_down_at S ps G T thin deep pr s rest tk = move-good S (lower S) (BUL S) (top_cut S) (down_edge S G.shaped T thin deep) ps G pr s rest tk

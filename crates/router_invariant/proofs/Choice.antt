-- Which of the two pairs at the corner goes right: the test on their far ends makes a choice that the theorem allows.
-- Assumes Ready.
-- DEFINITION: the word of the other end of row i
use Rattle.std.specs.Prelude.{◌≡◌, Bool, cond, ◌⊎◌, ℕ, ◌/◌, ◌%◌, ◌≤◌, ◌<◌, get_or, eqb}
use Rattle.std.proofs.Math.Path.{refl}
use Rattle.std.proofs.Common.{ap, ◌∙◌, sym, arith}
use Rattle.std.proofs.Math.Bool.{true, false}
use Rattle.std.proofs.Math.Logic.{inl, inr}
use Rattle.std.proofs.Math.Dec.{leb}
use borrow.Author.Tests.{eqb-true, eqb-false, leb-true, leb-false}
use Rattle.count.specs.TruthLaws.{bool, clash}
use Rattle.count.specs.Bits.{eq_case}
use Rattle.board.specs.declared.Vertex.{Vertex}
use Rattle.net.specs.Terminals.{same}
use Rattle.corner.proofs.Taking.{all_take, proper_take}
use Rattle.corner.specs.Shape.{Shape, Here, last, UL}
use Rattle.corner.proofs.Presence.{corner_here}
use Rattle.router_notes.specs.Corner.{turn_twice}
use Rattle.router_notes.specs.Inv.{turn, turn_i}
use Rattle.router_notes.specs.Alike.{turn_l}
use Rattle.router_notes.specs.Arrays.{vtx}
use Rattle.router_notes.specs.Table.{Has, take_item}
use Rattle.router_notes.specs.State.{State}
use Rattle.router_table.specs.Scans.{seen_d, swap_d}
use Rattle.router_invariant.specs.Run.{Run, shape_r, row_r, line_r, ul_r}
use Rattle.router_invariant.proofs.Place.{vtx_same, turn_at, last_is, ul-is}
use Rattle.router_invariant.specs.Ready.{Ready}
use Rattle.router_invariant.proofs.ReadyLaws.{shaped, top-low}
use Rattle.router_invariant.proofs.TwoEnds.{Chosen}
use Rattle.router_invariant.proofs.Ends.{ends-differ}

abbrev pub far_w : Run → ℕ → ℕ
far_w R i = cond (eqb (get_or R.la i 0) (ul_r R)) (get_or R.lb i 0) (get_or R.la i 0)

module _ (s0 : State) (R : Run) (Q : Ready s0 R) where
  abbrev o : Bool
  o = R.up

  abbrev T : Shape
  T = shape_r R

  -- the far end of row i
  far-is : (i : ℕ) → i < R.n → (get_or R.la i 0 ≡ ul_r R) ⊎ (get_or R.lb i 0 ≡ ul_r R) → (f : Vertex) → Has (turn_i o (row_r R i)) (UL T) f
      → (f ≡ turn o (vtx (far_w R i))) × ((vtx (far_w R i)).line ≤ last)
  far-is i l at_i f h = elim (bool (eqb (get_or R.la i 0) (ul_r R))) [
    | inl e ↦ rw e (elim h [
      | inl g ↦ (sym g.1, (Q.holds.inv.frame i l).1)
      | inr g ↦ absurd (ends-differ s0 R Q i l (eqb-true (get_or R.la i 0) (ul_r R) e
          ∙ sym (is-corner (get_or R.lb i 0) (Q.holds.inv.frame i l).1 g.0)))
    ])
    | inr e ↦ rw e (elim h [
      | inl g ↦ absurd (eqb-false (get_or R.la i 0) (ul_r R) e (is-corner (get_or R.la i 0) (Q.holds.inv.frame i l).0 g.0))
      | inr g ↦ (sym g.1, (Q.holds.inv.frame i l).0)
    ])
  ]
    where
      is-corner : (x : ℕ) → (vtx x).line ≤ last → turn o (vtx x) ≡ UL T → x ≡ ul_r R
      is-corner x b e = vtx_same x (ul_r R) (sym (turn_twice o (vtx x) b) ∙ ap (turn o) e ∙ sym (ul-is R (shaped s0 R Q)))

  -- it is present, is not the corner, and is on the top line just where its word says so
  pub record Far (x : ℕ) (f : Vertex) : Type 0 where
    pub here : Here T f
    pub other : same (UL T) f ≡ false
    pub line : (f.line ≤ R.top → x / 32 ≡ line_r R) × (x / 32 ≡ line_r R → f.line ≤ R.top)
    pub column : f.column ≡ x % 32

  far-end : (i : ℕ) → i < R.n → (get_or R.la i 0 ≡ ul_r R) ⊎ (get_or R.lb i 0 ≡ ul_r R) → (f : Vertex) → Has (turn_i o (row_r R i)) (UL T) f
      → Far (far_w R i) f
  far-end i l at_i f h =
      let k = take_item R.n (λ j. turn_i o (row_r R j)) i l (UL T) f h in
      let p = (proper_take (UL T) f k.1 Q.proper).0 in
      let s = (all_take (Here T) (UL T) f k.1 Q.holds.inv.good.stand).1 in
      let e = far-is i l at_i f h in
      record {
        here = s;
        other = p;
        line = (
          λ b. on_line o (far_w R i / 32) e.1 (let c : f.line ≡ R.top = omega (arith, s.low) in
              sym (ap (λ v. v.line) e.0 ∙ ap (λ v. v.line) (turn_at o _ _)) ∙ c),
          λ b. let c = off-line o (far_w R i / 32) b in omega
              (arith, ap (λ v. v.line) e.0 ∙ ap (λ v. v.line) (turn_at o (far_w R i / 32) (far_w R i % 32)), c),
        );
        column = ap (λ v. v.column) e.0 ∙ ap (λ v. v.column) (turn_at o (far_w R i / 32) (far_w R i % 32));
      }
    where
      low : R.top ≤ 31
      low = omega (arith, top-low s0 R Q, last_is)

      on_line : (b : Bool) (m : ℕ) → m ≤ last → turn_l b m ≡ R.top → m ≡ seen_d b R.top
      on_line false m h e = e
      on_line true m h e = omega (arith, last_is)

      off-line : (b : Bool) (m : ℕ) → m ≡ seen_d b R.top → turn_l b m ≡ R.top
      off-line false m e = e
      off-line true m e = omega (arith, last_is, low)

  chosen : (x y : ℕ) (f g : Vertex) → Far x f → Far y g → swap_d x y (line_r R) (T.a T.top) ≡ false → Chosen T f g
  unfolding swap_d
  chosen x y f g F G e = elim (eq_case (x / 32) (line_r R)) [
    | inl a ↦ elim (eq_case (y / 32) (line_r R)) [
      | inl b ↦
          let c : leb (x % 32) (T.a T.top) ≡ false = rw (a.0, b.0) at e in
          (λ h. F.line.1 a.2, λ h. absurd (omega (arith, leb-false (x % 32) (T.a T.top) c, F.column)))
      | inr b ↦ (λ h. F.line.1 a.2, λ h. absurd (clash (corner_here T f F.here (F.line.1 a.2) h) F.other))
    ]
    | inr a ↦ elim (eq_case (y / 32) (line_r R)) [
      | inl b ↦ absurd (let c : true ≡ false = rw (a.0, b.0) at e in clash refl c)
      | inr b ↦
          let c : leb (x % 32) (T.a T.top) ≡ false = rw (a.0, b.0) at e in
          (λ h. absurd (b.2 (G.line.0 h)), λ h. absurd (omega (arith, leb-false (x % 32) (T.a T.top) c, F.column)))
    ]
  ]

  swapped : (x y : ℕ) (f g : Vertex) → Far x f → Far y g → swap_d x y (line_r R) (T.a T.top) ≡ true → Chosen T g f
  unfolding swap_d
  swapped x y f g F G e = elim (eq_case (x / 32) (line_r R)) [
    | inl a ↦ elim (eq_case (y / 32) (line_r R)) [
      | inl b ↦
          let c : leb (x % 32) (T.a T.top) ≡ true = rw (a.0, b.0) at e in
          (λ h. G.line.1 b.2, λ h. omega (arith, leb-true (x % 32) (T.a T.top) c, F.column))
      | inr b ↦ absurd (let c : false ≡ true = rw (a.0, b.0) at e in clash c refl)
    ]
    | inr a ↦ elim (eq_case (y / 32) (line_r R)) [
      | inl b ↦ (λ h. G.line.1 b.2, λ h. absurd (clash (corner_here T g G.here (G.line.1 b.2) h) G.other))
      | inr b ↦
          let c : leb (x % 32) (T.a T.top) ≡ true = rw (a.0, b.0) at e in
          (λ h. absurd (a.2 (F.line.0 h)), λ h. omega (arith, leb-true (x % 32) (T.a T.top) c, F.column))
    ]
  ]

  module _ (i j : ℕ) (li : i < R.n) (lj : j < R.n) (at_i : (get_or R.la i 0 ≡ ul_r R) ⊎ (get_or R.lb i 0 ≡ ul_r R))
      (at_j : (get_or R.la j 0 ≡ ul_r R) ⊎ (get_or R.lb j 0 ≡ ul_r R)) where
    pub keep-choice : swap_d (far_w R i) (far_w R j) (line_r R) (T.a T.top) ≡ false → (f g : Vertex) → Has (turn_i o (row_r R i)) (UL T) f
        → Has (turn_i o (row_r R j)) (UL T) g → Chosen T f g
    keep-choice e f g hf hg = chosen (far_w R i) (far_w R j) f g (far-end i li at_i f hf) (far-end j lj at_j g hg) e

    pub swap-choice : swap_d (far_w R i) (far_w R j) (line_r R) (T.a T.top) ≡ true → (f g : Vertex) → Has (turn_i o (row_r R j)) (UL T) f
        → Has (turn_i o (row_r R i)) (UL T) g → Chosen T f g
    swap-choice e f g hf hg = swapped (far_w R i) (far_w R j) g f (far-end i li at_i g hg) (far-end j lj at_j f hf) e

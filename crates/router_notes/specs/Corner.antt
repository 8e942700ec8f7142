-- The corner seen from the board: turning twice, the corner's two moves, and what is left when the corner goes.
-- Assumes that lines lie in the frame.
use Rattle.std.specs.Prelude.{◌≡◌, refl, Bool, true, false, ℕ, ◌≤◌, ◌<◌}
use Rattle.std.proofs.Common.{ap, ◌∙◌, sym, subst, inl, inr, arith}
use Rattle.count.specs.Truth.{one}
use Rattle.count.specs.TruthLaws.{le_or_lt}
use Rattle.count.specs.Bits.{one_true, one_false}
use Rattle.board.specs.Board.{at}
use Rattle.board.specs.declared.Vertex.{Vertex}
use Rattle.net.specs.Terminals.{same}
use Rattle.net.specs.Same.{same_true, same_self}
use Rattle.corner.specs.Shape.{Shape, present, Less, last, UL, NUL, BUL}
use Rattle.corner.specs.Trails.{same_link}
use Rattle.router_notes.specs.Notes.{Move, edge, start, finish, Item, Moved}
use Rattle.router_notes.specs.State.{State}
use Rattle.router_notes.specs.Table.{Has}
use Rattle.router_notes.specs.Inv.{turn, turn_i, across_move, down_move, Shuts}

pub turn_twice : (o : Bool) (v : Vertex) → v.line ≤ last → turn o (turn o v) ≡ v
turn_twice false v h = refl
turn_twice true v h = ap (λ k. at k v.column) (omega arith)

pub turn_low : (o : Bool) (v : Vertex) → v.line ≤ last → (turn o v).line ≤ last
turn_low false v h = h
turn_low true v h = omega arith

pub across_start : (o : Bool) (S : Shape) → start (across_move o S) ≡ turn o (UL S)
unfolding across_move
across_start false S = refl
across_start true S = refl

pub across_finish : (o : Bool) (S : Shape) → finish (across_move o S) ≡ turn o (NUL S)
unfolding across_move
across_finish false S = refl
across_finish true S = refl

pub down_start : (o : Bool) (S : Shape) → S.top < last → start (down_move o S) ≡ turn o (UL S)
unfolding down_move
down_start false S h = refl
down_start true S h = ap (λ k. at k (S.a S.top)) (omega arith)

pub down_finish : (o : Bool) (S : Shape) → finish (down_move o S) ≡ turn o (BUL S)
unfolding down_move
down_finish false S = refl
down_finish true S = refl

pub moves_differ : (o : Bool) (S : Shape) → same_link (edge (across_move o S)) (edge (down_move o S)) ≡ false
unfolding across_move down_move
moves_differ false S = refl
moves_differ true S = refl

module _ (s s' : State) (S S' : Shape) (o : Bool) (L : Less S S' (UL S)) (low : S.top ≤ last)
    (lk : (v : Vertex) → v.line ≤ last → s.left v ≡ present S (turn o v).line (turn o v).column)
    (ou : (v : Vertex) → last < v.line → s.left v ≡ false)
    (Z : Shuts s s' S S' o) where
  abbrev pub u : Vertex
  u = turn o (UL S)

  u-low : u.line ≤ last
  u-low = turn_low o (UL S) low

  back_u : turn o u ≡ UL S
  back_u = turn_twice o (UL S) low

  pub shut-u : s'.left u ≡ false
  shut-u = Z.link u u-low ∙ subst (λ w. present S' w.line w.column ≡ false) (sym back_u) L.gone

  pub was-u : s.left u ≡ true
  was-u = lk u u-low ∙ subst (λ w. present S w.line w.column ≡ true) (sym back_u) L.was

  pub same_left : (v : Vertex) → same u v ≡ false → s'.left v ≡ s.left v
  same_left v e = elim (le_or_lt v.line last) [
    | inl h ↦ Z.link v h ∙ L.others _ _ (one_false (same (UL S) (turn o v)) (λ y.
        let q = same_true (UL S) (turn o v) (one_true _ y) in
        let p : u ≡ v = ap (turn o) q ∙ turn_twice o v h in
        let z : ◌≡◌ {A = ℕ} 1 0 = ap one (sym (subst (λ w. same u w ≡ true) p (same_self u)) ∙ e) in omega arith)) ∙ sym (lk v h)
    | inr h ↦ Z.out v h ∙ sym (ou v h)
  ]

-- an item with an end at the corner, and the same item with that end at w
pub moved_has : (o : Bool) (S : Shape) (x y : Item) (m : Move) (w : Vertex) → S.top ≤ last → w.line ≤ last → start m ≡ turn o (UL S)
    → finish m ≡ turn o w → Moved x m y
    → (f : Vertex) × Has (turn_i o x) (UL S) f × Has (turn_i o y) w f
moved_has o S x y m w low lw es ef (inl h) = (
  turn o x.b,
  inl (ap (turn o) (h.0 ∙ es) ∙ turn_twice o (UL S) low, refl),
  inl (ap (λ (z : Item). turn o z.a) h.1 ∙ ap (turn o) ef ∙ turn_twice o w lw, ap (λ (z : Item). turn o z.b) h.1),
)
moved_has o S x y m w low lw es ef (inr h) = (
  turn o x.a,
  inr (ap (turn o) (h.0 ∙ es) ∙ turn_twice o (UL S) low, refl),
  inr (ap (λ (z : Item). turn o z.b) h.1 ∙ ap (turn o) ef ∙ turn_twice o w lw, ap (λ (z : Item). turn o z.a) h.1),
)

pub moved_id : (x y : Item) (m : Move) → Moved x m y → y.id ≡ x.id
moved_id x y m (inl h) = ap (λ (z : Item). z.id) h.1
moved_id x y m (inr h) = ap (λ (z : Item). z.id) h.1

pub moved_frame : (x y : Item) (m : Move) → Moved x m y → (finish m).line ≤ last → (x.a.line ≤ last) × (x.b.line ≤ last)
    → (y.a.line ≤ last) × (y.b.line ≤ last)
moved_frame x y m (inl h) f g = (subst (λ (z : Item). z.a.line ≤ last) (sym h.1) f, subst (λ (z : Item). z.b.line ≤ last) (sym h.1) g.1)
moved_frame x y m (inr h) f g = (subst (λ (z : Item). z.a.line ≤ last) (sym h.1) g.0, subst (λ (z : Item). z.b.line ≤ last) (sym h.1) f)

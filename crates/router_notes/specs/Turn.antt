-- Turning upside down keeps the invariant and changes no pair and no note.
-- Assumes the invariant.
use Rattle.std.specs.Prelude.{◌≡◌, refl, Bool, true, false, not, ◌∷◌, ℕ, zero, suc, ◌-◌, ◌≤◌, ◌<◌}
use Rattle.std.proofs.Common.{ap, ap₂, ◌∙◌, sym, subst, arith}
use Rattle.board.specs.declared.Vertex.{Vertex}
use Rattle.corner.specs.Pairs.{pair}
use Rattle.corner.specs.Shape.{Shape, present, Good, last}
use Rattle.corner.proofs.Flip.{flip, over, flips, flip_good, flip_mirror}
use Rattle.router_notes.specs.Notes.{Item}
use Rattle.router_notes.specs.State.{State}
use Rattle.router_notes.specs.Table.{pairs_of}
use Rattle.router_notes.specs.Inv.{turn, turn_i, Inv}
use Rattle.router_notes.specs.Corner.{turn_twice}

-- ── turn ──
pairs_turn : (n : ℕ) (it : ℕ → Item) (o : Bool) → ((i : ℕ) → i < n → ((it i).a.line ≤ last) × ((it i).b.line ≤ last))
    → flips (pairs_of n (λ k. turn_i o (it k))) ≡ pairs_of n (λ k. turn_i (not o) (it k))
pairs_turn zero it o h = refl
pairs_turn (suc n) it false h = ap (λ t. pair (over (it n).a) (over (it n).b) ∷ t) (pairs_turn n it false (λ i l. h i (omega arith)))
pairs_turn (suc n) it true h = let k = h n (omega arith) in
    ap₂ (λ p t. p ∷ t) (ap₂ pair (turn_twice true (it n).a k.0) (turn_twice true (it n).b k.1))
    (pairs_turn n it true (λ i l. h i (omega arith)))

pub turn_inv : (s0 s : State) (S : Shape) (o : Bool) → Inv s0 s S o → Inv s0 s (flip S) (not o)
turn_inv s0 s S o I = record {
  lead = I.lead;
  fine = I.fine;
  good = subst (λ ps. Good (flip S) ps) (pairs_turn s.n s.it o I.frame) (flip_good S _ I.good);
  link = λ v h. I.link v h ∙ sym (mirror o v h);
  out = I.out;
  frame = I.frame;
}
  where
    mirror : (o : Bool) (v : Vertex) → v.line ≤ last → present (flip S) (turn (not o) v).line (turn (not o) v).column
        ≡ present S (turn o v).line (turn o v).column
    mirror false v h = flip_mirror S I.good.shaped (last - v.line) v.line v.column (omega arith)
    mirror true v h = flip_mirror S I.good.shaped v.line (last - v.line) v.column (omega arith)

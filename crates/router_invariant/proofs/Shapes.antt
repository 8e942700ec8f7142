-- The arrays of line ends after a step: the invariant on the shape without its corner is the invariant on the shape that the arrays hold.
-- Assumes that the shape is shaped.
use Rattle.std.specs.Prelude.{◌≡◌, Bool, true, false, ◌&&◌, List, ℕ, ◌+◌, ◌≤◌, ◌<◌, length, get_or, set, leb}
use Rattle.std.proofs.Common.{◌∙◌, sym, subst, arith, le-leb, add-one}
use Rattle.std.proofs.lemmas.Bool.{lt-leb}
use Rattle.board.specs.declared.Vertex.{Vertex}
use Rattle.corner.specs.Shape.{Shape, Shaped, last, narrow, lower}
use Rattle.corner.proofs.Presence.{last_suc}
use Rattle.corner.specs.Trails.{lo, hi}
use Rattle.router_notes.specs.Inv.{turn, Inv, Shuts}
use Rattle.router_notes.specs.Alike.{Alike, turn_l, shape_of, narrow_alike, present-alike, inv-alike}
use Rattle.router_notes.specs.Arrays.{row_of, left_of, state_of, notesOf}
use Rattle.router_notes.specs.State.{State}
use Rattle.router_table.specs.Scans.{seen_d}
use Rattle.router_invariant.proofs.Place.{seen_turn, last_is}

module _ (s0 : State) (la lb ids side vert half s1 s2 d1 d2 : List ℕ) (n next : ℕ) (o : Bool) where
  abbrev pub stateOn : Shape → State
  stateOn S = state_of la lb ids side vert half s1 s2 d1 d2 n next S o

  pub inv-state : (S S' : Shape) → Alike S S' → Inv s0 (stateOn S) S o → Inv s0 (stateOn S') S' o
  inv-state S S' A I = subst (λ f. Inv s0 (record { notes = notesOf side vert half s1 s2 d1 d2; left = f; n = n; it = row_of la lb ids; next = next })
      S' o) lefts (inv-alike S S' A s0 (stateOn S) o I)
    where
      lefts : left_of S o ≡ left_of S' o
      lefts = λ i v. leb v.line last && present-alike S S' A (turn o v).line (turn o v).column i

  -- the top line is stored one column shorter
  pub inv-narrow : (lo hi : List ℕ) (top bottom : ℕ) → Shaped (shape_of lo hi top bottom o) → length lo ≡ 32
      → Inv s0 (stateOn (narrow (shape_of lo hi top bottom o))) (narrow (shape_of lo hi top bottom o)) o
      → Inv s0 (stateOn (shape_of (set lo (seen_d o top) (get_or lo (seen_d o top) 0 + 1)) hi top bottom o))
      (shape_of (set lo (seen_d o top) (get_or lo (seen_d o top) 0 + 1)) hi top bottom o) o
  inv-narrow lo hi top bottom G len I = rw (seen_turn o top)
      (inv-state _ _ (narrow_alike lo hi top bottom o low G.order (omega (arith, turned o))) I)
    where
      low : bottom ≤ last
      low = omega (arith, G.low, last_suc)

      turned : (o : Bool) → turn_l o top < 32
      turned false = omega (arith, low, last_is, G.order)
      turned true = omega (arith, last_is)

  -- the top line goes
  pub inv-lower : (lo hi : List ℕ) (top bottom : ℕ) → Inv s0 (stateOn (lower (shape_of lo hi top bottom o))) (lower (shape_of lo hi top bottom o)) o
      → Inv s0 (stateOn (shape_of lo hi (top + 1) bottom o)) (shape_of lo hi (top + 1) bottom o) o
  inv-lower lo hi top bottom I = subst (λ t. Inv s0 (stateOn (shape_of lo hi t bottom o)) (shape_of lo hi t bottom o) o) (sym (add-one top)) I

-- what is left of the board is the shape
pub shuts_of : (s s' : State) (S S' : Shape) (o : Bool) → ((v : Vertex) → s'.left v ≡ left_of S' o v) → Shuts s s' S S' o
shuts_of s s' S S' o e = record {
  link = λ v h. e v ∙ rw (le-leb v.line last h);
  out = λ v h. e v ∙ rw (lt-leb v.line last h);
}

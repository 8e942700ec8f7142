-- The shape is read so that every line contains the top line: upside down where the bottom line is narrower. The invariant is kept.
-- Assumes the invariant.
-- DEFINITION: the same arrays, read the other way
use Rattle.std.specs.Prelude.{◌≡◌, refl, not, ◌+◌, ◌-◌, ◌≤◌, ◌<◌}
use Rattle.std.proofs.Common.{ap, ◌∙◌, sym, subst, inl, inr, arith, le-leb}
use Rattle.std.proofs.lemmas.Bool.{lt-leb}
use Rattle.count.specs.TruthLaws.{le_or_lt}
use Rattle.board.specs.declared.Vertex.{Vertex}
use Rattle.corner.specs.Shape.{Shape, Top, Line, last}
use Rattle.corner.proofs.Presence.{last_suc, top_in}
use Rattle.corner.proofs.Flip.{flip, flip_good, flip_top}
use Rattle.router_notes.specs.Inv.{Inv}
use Rattle.router_notes.specs.Turn.{turn_inv}
use Rattle.router_notes.specs.Alike.{Alike, flip_alike, inv-alike}
use Rattle.router_notes.specs.Arrays.{left_of}
use Rattle.router_notes.specs.State.{State}
use Rattle.router_invariant.specs.Run.{Run, shape_r, notes_r, row_r, state_r, pairs_r, Holds}
use Rattle.router_invariant.proofs.Place.{last_is}

abbrev pub turn_run : Run → Run
turn_run R = record {
  la = R.la;
  lb = R.lb;
  ids = R.ids;
  side = R.side;
  vert = R.vert;
  half = R.half;
  s1 = R.s1;
  s2 = R.s2;
  d1 = R.d1;
  d2 = R.d2;
  lo = R.lo;
  hi = R.hi;
  top = 31 - R.bottom;
  bottom = 31 - R.top;
  n = R.n;
  next = R.next;
  up = not R.up;
}

module _ (s0 : State) (R : Run) (H : Holds s0 R) where
  abbrev S : Shape
  S = shape_r R

  abbrev S' : Shape
  S' = shape_r (turn_run R)

  low : R.bottom ≤ last
  low = omega (arith, H.inv.good.shaped.low, last_suc)

  alike : Alike (flip S) S'
  alike = rw (← last_is) (flip_alike R.lo R.hi R.top R.bottom R.up H.inv.good.shaped.order low)

  flipped : Inv s0 (state_r R) S' (not R.up)
  flipped = inv-alike (flip S) S' alike s0 (state_r R) (not R.up) (turn_inv s0 (state_r R) S R.up H.inv)

  lefts : (v : Vertex) → left_of S R.up v ≡ left_of S' (not R.up) v
  lefts v = elim (le_or_lt v.line last) [
    | inl h ↦ flipped.link v h ∙ sym (rw (le-leb v.line last h) refl)
    | inr h ↦ flipped.out v h ∙ sym (rw (lt-leb v.line last h) refl)
  ]

  pub turn_holds : Holds s0 (turn_run R)
  turn_holds = record {
    inv = subst (λ f. Inv s0 (record { notes = notes_r R; left = f; n = R.n; it = row_r R; next = R.next }) S' (not R.up))
        (λ i v. lefts v i) flipped;
    halves = H.halves;
    first = H.first;
    second = H.second;
    asked = H.asked;
    made = H.made;
  }

  -- every line contains the top line, read as it is or the other way
  pub top-stays : (S.b S.bottom + S.a S.top < S.b S.top + S.a S.bottom → ⊥) → Top S
  top-stays h = let f = H.inv.good.shaped.full R.top (omega arith, H.inv.good.shaped.order) in
      top_in S H.inv.good.shaped (omega (arith, h))

  pub top-turns : S.b S.bottom + S.a S.top < S.b S.top + S.a S.bottom → Top S'
  top-turns h l k =
      let g = H.inv.good.shaped.full R.bottom (H.inv.good.shaped.order, omega arith) in
      let t = flip_top S H.inv.good.shaped (omega (arith, h)) in
      let k' : Line (flip S) l = (omega (arith, k, alike.top), omega (arith, k, alike.bottom)) in
      let e : Line (flip S) (flip S).top = (omega arith, (flip_good S (pairs_r R) H.inv.good).shaped.order) in (
        omega (arith, (t l k').0, alike.a l k', alike.a (flip S).top e, ap S'.a alike.top),
        omega (arith, (t l k').1, alike.b l k', alike.b (flip S).top e, ap S'.b alike.top),
      )

-- The corner as the arrays have it, and the notes that a step writes there.
-- Assumes Ready.
use Rattle.std.specs.Prelude.{◌≡◌, refl, Bool, true, false, ◌⊎◌, ℕ, suc, ◌+◌, ◌-◌, ◌*◌, ◌≤◌, ◌<◌, set}
use Rattle.std.proofs.Common.{ap, sym, subst, inl, arith, le-leb}
use Rattle.count.specs.TruthLaws.{and_yes}
use Rattle.board.specs.declared.Vertex.{Vertex}
use Rattle.corner.proofs.Taking.{all_take}
use Rattle.corner.specs.Shape.{Shape, present, Here, Shaped, last, UL, NUL, BUL}
use Rattle.corner.proofs.Presence.{present_yes, last_suc, corner_at}
use Rattle.corner.specs.Trails.{ver}
use Rattle.router_notes.specs.Notes.{bwd, stay, on}
use Rattle.router_notes.specs.Corner.{turn_twice, turn_low}
use Rattle.router_notes.specs.Inv.{turn, turn_i, Inv, across_move, down_move}
use Rattle.router_notes.specs.Arrays.{move_d, hop_at, hop_d, hop_of, left_of}
use Rattle.router_notes.specs.Table.{take_item}
use Rattle.router_notes.specs.State.{State, Live}
use Rattle.router_invariant.specs.Run.{Run, shape_r, row_r, state_r, ul_r}
use Rattle.router_invariant.specs.Ready.{Ready, up_n}
use Rattle.router_invariant.proofs.Place.{ul-is, low-ul}
use Rattle.router_invariant.proofs.CornerNotes.{hop_down, hop_up, go-here, go-kept}

-- the corner's moves as the code writes directions: right, and down or up
pub hop_across : (o : Bool) (S : Shape) → hop_of 1 (turn o (UL S)) ≡ on (across_move o S)
unfolding hop_of move_d across_move
hop_across false S = refl
hop_across true S = refl

pub hop_along : (o : Bool) (S : Shape) (s k : ℕ) → (s ≡ k + 1 → ⊥) → hop_of (hop_at s (2 * k + 2 + up_n o) k) (turn o (UL S)) ≡ on (down_move o S)
unfolding hop_of move_d down_move
hop_along false S s k n = rw (hop_down s (2 * k + 2 + 0) k n (omega arith))
hop_along true S s k n = rw (hop_up s (2 * k + 2 + 1) k n (omega arith))
    (ap (λ k. on (bwd (ver k (S.a S.top)))) (let e : last - S.top - 1 ≡ last - suc S.top = omega arith in e))

module _ (s0 : State) (R : Run) (Q : Ready s0 R) where
  abbrev pub S : Shape
  S = shape_r R

  abbrev pub I : Inv s0 (state_r R) (shape_r R) R.up
  I = Q.holds.inv

  abbrev pub U : Vertex
  U = turn R.up (UL (shape_r R))

  pub shaped : Shaped (shape_r R)
  shaped = I.good.shaped

  pub top-low : R.top ≤ last
  top-low = omega (arith, shaped.order, shaped.low, last_suc)

  pub u-line : U.line < 32
  u-line = subst (λ v. v.line < 32) (ul-is R shaped) (let b = low-ul R shaped in omega arith)

  pub u-column : U.column < 32
  u-column = subst (λ v. v.column < 32) (ul-is R shaped) (omega arith)

  pub u-word : U.line * 32 + U.column ≡ ul_r R
  u-word = subst (λ v. v.line * 32 + v.column ≡ ul_r R) (ul-is R shaped) (omega arith)

  pub u-left : left_of (shape_r R) R.up U ≡ true
  u-left = and_yes _ _ (le-leb U.line last (turn_low R.up (UL (shape_r R)) top-low))
      (subst (λ w. present (shape_r R) w.line w.column ≡ true) (sym (turn_twice R.up (UL (shape_r R)) top-low))
      (present_yes (shape_r R) R.top _ (corner_at (shape_r R) shaped)))

  pub u-quiet : (k : ℕ) → hop_of (hop_d R.side R.vert k U.line U.column) U ≡ stay
  u-quiet k = I.fine.quiet k U u-left

  -- the notes s and v at the corner
  pub noted : (s v : ℕ) → ((k : ℕ) → (hop_at s v k ≡ 4) ⊎ Live (state_r R) k) → (k : ℕ) (w : Vertex)
      → (hop_of (hop_d (set R.side (ul_r R) s) (set R.vert (ul_r R) v) k w.line w.column) w
      ≡ hop_of (hop_d R.side R.vert k w.line w.column) w) ⊎ ((U ≡ w) × Live (state_r R) k)
  noted s v h k w = rw (← u-word) (go-kept R.side R.vert U u-line u-column Q.sized.side Q.sized.vert s v
      (Live (state_r R)) u-quiet h k w)

  pub at-corner-go : (s v k : ℕ) → hop_of (hop_d (set R.side (ul_r R) s) (set R.vert (ul_r R) v) k U.line U.column) U ≡ hop_of (hop_at s v k) U
  at-corner-go s v k = rw (← u-word) (go-here R.side R.vert U u-line u-column Q.sized.side Q.sized.vert s v k)

  -- the corner's neighbours are left
  left_at : (w : Vertex) → w.line ≤ last → Here (shape_r R) w → left_of (shape_r R) R.up (turn R.up w) ≡ true
  left_at w h p = and_yes _ _ (le-leb (turn R.up w).line last (turn_low R.up w h))
      (subst (λ z. present (shape_r R) z.line z.column ≡ true) (sym (turn_twice R.up w h)) (present_yes (shape_r R) w.line w.column p))

  pub nul-low : (NUL (shape_r R)).line ≤ last
  nul-low = top-low

  pub nul-left : S.a S.top < S.b S.top → left_of (shape_r R) R.up (turn R.up (NUL (shape_r R))) ≡ true
  nul-left wide = left_at (NUL (shape_r R)) nul-low (record { low = omega arith; high = shaped.order; from = omega arith; to = wide })

  pub bul-low : R.top < R.bottom → (BUL (shape_r R)).line ≤ last
  bul-low deep = omega (arith, shaped.low, last_suc)

  pub bul-left : R.top < R.bottom → left_of (shape_r R) R.up (turn R.up (BUL (shape_r R))) ≡ true
  bul-left deep = let t = Q.inside (suc R.top) (omega arith, deep) in let f = shaped.full R.top (omega arith, shaped.order) in
      left_at (BUL (shape_r R)) (bul-low deep) (record { low = omega arith; high = deep; from = t.0; to = omega (arith, t.1, f) })

  -- an end of a live pair is left
  pub end-left : (i : ℕ) → i < R.n → (left_of (shape_r R) R.up (row_r R i).a ≡ true) × (left_of (shape_r R) R.up (row_r R i).b ≡ true)
  end-left i l =
      let k = take_item R.n (λ j. turn_i R.up (row_r R j)) i l (turn R.up (row_r R i).a) (turn R.up (row_r R i).b) (inl (refl, refl)) in
      let h = all_take (Here (shape_r R)) _ _ k.1 I.good.stand in let f = I.frame i l in
      (one_end (row_r R i).a f.0 h.0, one_end (row_r R i).b f.1 h.1)
    where
      one_end : (v : Vertex) → v.line ≤ last → Here (shape_r R) (turn R.up v) → left_of (shape_r R) R.up v ≡ true
      one_end v b h = and_yes _ _ (le-leb v.line last b) (present_yes (shape_r R) _ _ h)
